-- One word more, and at the end none.
use Rattle.std.proofs.Common.{Ok, Err, arith}
use Rattle.std.proofs.lemmas.Result.{err_from_is_err_and}
use Rattle.writing.proofs.Steps.{words_more, words_stop, words_end}
use Rattle.writing.proofs.giving.program_words.Goals as goal

pub returns-in_err-program : goal.returns-in_err-program
returns-in_err-program g c =
    let p = err_from_is_err_and c.from_residual.result c.from_residual.ensures.1 in
    let f = c.in_err-program.field-0.0 in
    rw (p.1, p.2) (c.loop-w.invariant (Err f) c.program.new.self
    (words_stop g.F.Flash.model c.args.block.0 c.args.bytes.now c.loop-w.w c.args.count c.word.result c.loop-w.flash c.program.new.self c.word.ensures (omega arith) f c.in_err-program.ensures))

pub loop-w-preserved : goal.loop-w-preserved
loop-w-preserved g c r y h =
    c.loop-w.invariant r y (words_more g.F.Flash.model c.args.block.0 c.args.bytes.now c.loop-w.w c.args.count c.word.result c.loop-w.flash c.program.new.self c.word.ensures (omega arith) y tt r c.in_ok-program.ensures h)

pub returns : goal.returns
returns g c =
    c.loop-w.invariant (Ok tt) c.loop-w.flash (words_end g.F.Flash.model c.args.block.0 c.args.bytes.now c.loop-w.w c.args.count c.loop-w.flash (omega arith))
