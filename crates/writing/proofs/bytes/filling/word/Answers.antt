-- Each of the four bytes.
use Rattle.std.proofs.Common.{◌≡◌, ◌+◌, ◌*◌, get_or, arith, rules}
use Rattle.writing.specs.Writing.{word_of}
use Rattle.writing.proofs.bytes.filling.word.Goals as goal

pub returns : goal.returns
unfolding word_of
returns c =
    let made = c.from_fn.ensures.items.each in
    let b0 : get_or c.from_fn.result 0 0 ≡ get_or c.args.bytes.now (4 * c.args.w) 255 = search rules in
    let b1 : get_or c.from_fn.result 1 0 ≡ get_or c.args.bytes.now (4 * c.args.w + 1) 255 = search rules in
    let b2 : get_or c.from_fn.result 2 0 ≡ get_or c.args.bytes.now (4 * c.args.w + 2) 255 = search rules in
    let b3 : get_or c.from_fn.result 3 0 ≡ get_or c.args.bytes.now (4 * c.args.w + 3) 255 = search rules in
    omega arith
