-- Demand 3 about three answers of the body call and what its outputs hold. Assumes nothing.
use Rattle.std.specs.Prelude.{◌≡◌, true, List, ◌++◌, ◌↔◌, ℕ, take, Result}
use Rattle.spec.specs.Closed.{is_closed}
use Rattle.spec.specs.Answers.{call_numbers}
use Rattle.joined_calls.specs.declared.Joined.{Joined}
use Rattle.spec.specs.declared.Refusal.{Refusal}
use Rattle.spec.specs.declared.Accepted.{Accepted}

-- the number handed back
abbrev pub number : Result Accepted Refusal → ℕ
number r = (call_numbers r).number

-- the output up to the output length
abbrev pub result : Result Accepted Refusal → List ℕ → List ℕ
result r output = take (call_numbers r).length output

-- if the first body is closed and the joined one meets no size limit: the joined one is accepted exactly if both are, and
-- then its rewriting is the first one's followed by the second one's
pub record Joins (body : List ℕ) (r : Joined) (whole first second : List ℕ) : Type 0 where
  pub accepted : is_closed body ≡ true → (number r.whole ≡ 1 → ⊥) → (number r.whole ≡ 6 → ⊥)
      → (number r.whole ≡ 0) ↔ ((number r.first ≡ 0) × (number r.second ≡ 0))
  pub joined : is_closed body ≡ true → (number r.whole ≡ 1 → ⊥) → (number r.whole ≡ 6 → ⊥) → number r.whole ≡ 0
      → result r.whole whole ≡ result r.first first ++ result r.second second
