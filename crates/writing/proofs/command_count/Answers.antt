-- The words of the following blocks are a sum; the rest is proved of any count.
use Rattle.std.proofs.Common.{◌≡◌, ◌+◌, ◌≤◌, ◌*◌, sym, ap, ◌∙◌, subst, arith, rules, tests}
use Rattle.std.specs.List.{range_with_len, sum_by}
use Rattle.std.proofs.lemmas.Iterator.{YieldsList-from_range, YieldsList-from_map}
use Rattle.std.proofs.lemmas.Iterator.Consumers.{YieldsList-at, sum_by_from_yields_List, fits_by_from_yields_list}
use Rattle.std.proofs.lemmas.List.FromFn.{length-range_with_len}
use Rattle.layout.specs.Sizes.{followers, data_words}
use Rattle.writing.specs.Writing.{commands_of}
use Rattle.writing.specs.Law.{Counts}
use Rattle.writing.proofs.Counted.{record_counts, few_words}
use Rattle.writing.proofs.Written.{sound_when_done}
use Rattle.writing.proofs.command_count.Goals as goal

pub sum-following-requires-clause-fits : goal.sum-following-requires-clause-fits
unfolding followers
sum-following-requires-clause-fits c =
    fits_by_from_yields_list (data_words c.args.size) (range_with_len 0 c.follower_count.result) c.map.result _
    (YieldsList-from_map _ (data_words c.args.size) (YieldsList-at c.map.ensures.source (YieldsList-from_range 0 c.follower_count.result c.follower_count.result (cc) (omega arith))) c.map.ensures.closure (λ x r q k. (search (rules, tests), search (rules, tests))))
    (omega (arith, few_words c.args.size (range_with_len 0 c.follower_count.result), length-range_with_len 0 c.follower_count.result))

counted : (c : goal.After-from) → c.sum-following.result ≡ sum_by (data_words c.args.size) (range_with_len 0 (followers c.args.size))
counted c =
    sum_by_from_yields_List (data_words c.args.size) (range_with_len 0 c.follower_count.result) c.map.result c.sum-following.result c.sum-following.ensures.ran
    (YieldsList-from_map _ (data_words c.args.size) (YieldsList-at c.map.ensures.source (YieldsList-from_range 0 c.follower_count.result c.follower_count.result (cc) (omega arith))) c.map.ensures.closure (λ x r q k. (search (rules, tests), search (rules, tests))))
    ∙ ap (λ n. sum_by (data_words c.args.size) (range_with_len 0 n)) c.follower_count.ensures.count

few : (c : goal.After-from) → c.sum-following.result ≤ 14 * followers c.args.size
few c = omega (arith, counted c, few_words c.args.size (range_with_len 0 (followers c.args.size)), length-range_with_len 0 (followers c.args.size))

pub overflow_add-result : goal.overflow_add-result
unfolding followers
overflow_add-result c = omega (arith, few c)

pub overflow_add-result-2 : goal.overflow_add-result-2
unfolding followers
overflow_add-result-2 c = omega (arith, few c)

pub returns : goal.returns
unfolding commands_of
returns c =
    let e : c.sum-following.result + c.from.result + 1 ≡ commands_of c.args.size = omega (arith, counted c) in
    record { count = e; lists = subst (Counts c.args.size) (sym e) (record_counts c.args.size); law = sound_when_done }
