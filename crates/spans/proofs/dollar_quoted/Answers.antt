-- `spans::dollar_quoted` meets its contract. `tag` says that the run behind the `$` is the tag, and `opens_in` that its
-- delimiter fits where a literal opens. Assumes nothing.
use Rattle.std.proofs.Common.{◌≡◌, sym, ◌∙◌, ◌-◌, drop, arith}
use lib.ListN.{length-drop}
use Rattle.spec.specs.Spans.{tag_len}
use Rattle.spec.proofs.SpanLaws.{tag_le, opens_in}
use Rattle.spans.proofs.TagLaws.{tag_run}
use Rattle.spans.proofs.dollar_quoted.Goals as goal
use Rattle.spans.proofs.dollar_quoted.Goals.{After-run_end-t}

-- the tag's length
tag : (c : goal.After-run_end-t) → c.run_end-t.result - 1 ≡ tag_len (drop 1 c.args.rest.now)
tag c = omega (arith, c.run_end-t.ensures.value, tag_run (drop 1 c.args.rest.now))

pub opens_here-requires-clause-t_in_bounds : goal.opens_here-requires-clause-t_in_bounds
opens_here-requires-clause-t_in_bounds c = omega (arith, tag c, tag_le (drop 1 c.args.rest.now), length-drop 1 c.args.rest.now)

pub overflow_add-t : goal.overflow_add-t
overflow_add-t c = omega (arith, tag (goal.at.overflow_add-t c).After-run_end-t, opens_in c.args.rest.now (sym c.opens_here.ensures ∙ c.if-opens_here.true))

pub dollar_of-requires-clause-n_in_bounds : goal.dollar_of-requires-clause-n_in_bounds
dollar_of-requires-clause-n_in_bounds c =
    omega (arith, tag (goal.at.dollar_of-requires-clause-n_in_bounds c).After-run_end-t, opens_in c.args.rest.now (sym c.opens_here.ensures ∙ c.if-opens_here.true))
