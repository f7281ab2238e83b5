-- What was read of a block.
--     words_of x         the words of a block that was read, blank above word 15
--     fields_of m        the fields of a first block, where the words that hold them are written
use Rattle.std.specs.Prelude.{cond, ◌&&◌, Some, None, Option, nat_lt, slice_index_or}
use Rattle.flash.specs.State.{Words}
use Rattle.layout.specs.declared.block.BlockWords.{BlockWords}
use Rattle.layout.specs.declared.block.FirstFields.{FirstFields}
use Rattle.layout.specs.Fields.{kind_of, chain, number, serial, code, written}

-- there is no word above 15
abbrev pub words_of : BlockWords → Words
words_of x w = cond (nat_lt w 16) (slice_index_or x.words w None) None

-- the fields that stand in some words
abbrev pub the_fields : Words → FirstFields
the_fields m = record { kind = kind_of m; chain = record { 0 = chain m }; number = record { 0 = number m }; serial = serial m; code = code m }

-- words 0, 1 and 2 hold them
abbrev pub fields_of : Words → Option FirstFields
fields_of m = cond (written (m 0) && written (m 1) && written (m 2)) (Some (the_fields m)) None
