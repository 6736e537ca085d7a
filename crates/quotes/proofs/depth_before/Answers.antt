-- `quotes::depth_before` meets its contract: the depth before an offset is at most the offset, so that the fold may add one at each.
-- Assumes nothing.
use Rattle.std.proofs.Common.{rules, refl, ◌∙◌}
use native.Mathlib.Omega.{arith}
use Rattle.std.proofs.lemmas.Iterator.{YieldsList-from_range}
use Rattle.std.proofs.lemmas.Iterator.Consumers.{fold_from_yields_List}
use Rattle.quotes.proofs.DepthLaws.{after_le, depth_turn, depth_turns, depth_past, serves_depth}
use Rattle.quotes.proofs.depth_before.Goals as goal

pub fold-requires-clause-callable : goal.fold-requires-clause-callable
fold-requires-clause-callable c =
    serves_depth c.min.result (YieldsList-from_range 0 c.min.result c.min.result refl (omega arith)) (λ d x q k. search (rules, after_le)) (λ d x a b. search rules)

pub returns : goal.returns
returns c =
    let t = c.args.text.now in
    let n = c.min.result in
    let folded = fold_from_yields_List _ (depth_turn t) 0 c.fold.result c.fold.ensures.ran (YieldsList-from_range 0 n n refl (omega arith)) (λ a x b q k. search rules) in
    folded ∙ (depth_turns t n (search rules) ∙ search (rules, depth_past))
