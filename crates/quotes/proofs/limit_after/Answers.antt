-- `quotes::limit_after` meets its contract: over the bytes ys that are read, at most 7 are matched, as many as `limit_from` says.
-- Assumes nothing.
use Rattle.std.proofs.Common.{rules, ◌≡◌, ℕ, ◌≤◌, List}
use Rattle.std.proofs.lemmas.Fn.{fold_over, serves_by, slice_gives, fronts}
use Rattle.quotes.specs.Limits.{limit_from}
use Rattle.quotes.proofs.LimitLaws.{limit_none, limit_more}
use Rattle.quotes.proofs.limit_after.Goals as goal

pub fold-requires-clause-callable : goal.fold-requires-clause-callable
fold-requires-clause-callable c =
    serves_by _ (λ xs p. p.1 ≤ 7) (λ xs q x v h k. search rules) _ _ _ _ c.requires (λ xs t q x u y z h. search rules)

-- what the fold gives
reads : (c : goal.After-fold) → (c.fold.result ≤ 7) × (c.fold.result ≡ limit_from c.args.k c.args.text.now)
reads c =
    let all : (c.fold.result ≤ 7) × (c.fold.result ≡ limit_from c.args.k c.iter.result.rest.now) =
    fold_over fronts (λ y. y.now) _ (λ (ys : List ℕ) (n : ℕ). (n ≤ 7) × (n ≡ limit_from c.args.k ys)) _ (λ ys a x b f' h k. search (rules, limit_more)) c.iter.result c.iter.result.rest.now c.args.k c.fold.result (slice_gives c.iter.result) (c.requires, limit_none c.args.k) c.fold.ensures.ran in
    rw c.iter.ensures.rest at all

pub returns-clause-value : goal.returns-clause-value
returns-clause-value c = (reads c).1

pub returns-clause-upper_bound : goal.returns-clause-upper_bound
returns-clause-upper_bound c = (reads c).0
