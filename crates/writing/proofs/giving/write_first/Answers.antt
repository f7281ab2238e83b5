-- The words, and then write end.
use Rattle.std.proofs.Common.{◌∙◌, ℕ, List, [], ◌∷◌}
use Rattle.std.proofs.lemmas.Result.{err_from_is_err_and}
use Rattle.flash.specs.Commands.{program}
use Rattle.clearing.specs.Clearing.{mark}
use Rattle.layout.specs.Sizes.{head_words}
use Rattle.writing.specs.declared.record.NewRecord.{NewRecord}
use Rattle.writing.specs.Writing.{first_bytes_by_size, first_commands_by_size}
use Rattle.writing.proofs.Joined.{one_last}
use Rattle.writing.proofs.Steps.{programs_then, programs_stop}
use Rattle.writing.proofs.giving.write_first.Goals as goal

abbrev wanted : NewRecord → ℕ → List ℕ → List ℕ
wanted x next d = first_bytes_by_size x.size x.number.0 x.serial next d

pub returns-in_err-program_words : goal.returns-in_err-program_words
unfolding first_commands_by_size
returns-in_err-program_words g c =
    let p = err_from_is_err_and c.from_residual.result c.from_residual.ensures.1 in
    let b = c.args.block.0 in
    rw (p.1, p.2) (programs_stop g.F.Flash.model b c.as_slice.result.now (wanted c.args.record.now c.args.next.0 c.args.data.now)
    c.head_word_count.result (head_words c.args.record.now.size) (c.as_slice.ensures.value ∙ c.first_bytes-bytes.ensures) c.head_word_count.ensures.count
    (program b 13 mark ∷ []) c.args.flash.now c.program_words.new.flash c.in_err-program_words.field-0.0 c.in_err-program_words.ensures)

pub returns : goal.returns
unfolding first_commands_by_size
returns g c =
    let b = c.args.block.0 in
    programs_then g.F.Flash.model b c.as_slice.result.now (wanted c.args.record.now c.args.next.0 c.args.data.now)
    c.head_word_count.result (head_words c.args.record.now.size) (c.as_slice.ensures.value ∙ c.first_bytes-bytes.ensures) c.head_word_count.ensures.count
    (program b 13 mark ∷ []) c.args.flash.now c.program_words.new.flash c.program.new.self tt c.program.result c.in_ok-program_words.ensures
    (one_last g.F.Flash.model (program b 13 mark) c.program_words.new.flash c.program.new.self c.program.result c.program.ensures)
