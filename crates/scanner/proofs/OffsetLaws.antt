-- The first place that passes a test, from what the library says of `find` over a range of offsets: no offset from the
-- starting one on passes, or the one found is the least that does. Assumes nothing.
use Rattle.std.specs.Prelude.{Option, Some, None}
use Rattle.std.specs.Option.{MatchOption}
use Rattle.std.proofs.Common.{◌≡◌, sym, ◌∙◌, arith, Bool, true, false, List, ℕ, ◌≤◌, ◌<◌, length}
use Rattle.spec.proofs.FirstLaws.{least_first, none_first}
use Rattle.spec.proofs.WalkLaws.{passes_at}
use Rattle.spec.specs.Map.{Marked}
use Rattle.spec.specs.Search.{Test, first}

-- g says whether p passes at an offset of t
module _ (p : Test) (t : List Marked) (g : ℕ → Bool) (same : (k : ℕ) → k < length t → passes_at p t k ≡ g k) (from : ℕ) where
  pub found_first : (r : Option ℕ)
      → MatchOption r ((k : ℕ) → from ≤ k → k < length t → g k ≡ false)
      (λ i. (from ≤ i) × (i < length t) × (g i ≡ true) × ((k : ℕ) → from ≤ k → k < i → g k ≡ false))
      → r ≡ first p from t
  found_first None h =
      sym (none_first p t from (λ k a b. same k b ∙ h k a b))
  found_first (Some i) h =
      sym (least_first p t from i
      (record {
        from = h.0;
        inside = h.1;
        passes = same i h.1 ∙ h.2;
        least = λ k a b. same k (omega (arith, h.1)) ∙ h.3 k a b;
      }))
