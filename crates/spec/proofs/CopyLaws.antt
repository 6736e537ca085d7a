-- A result that is made from left to right and copies each byte where a test fails, for every test and every kind of result:
-- up to the first place that passes it copies the text. Assumes nothing.
use Rattle.std.specs.Prelude.{Some, None}
use Rattle.std.proofs.lemmas.List.{drop_more}
use mathlib.Core.Path.{◌≡◌, sym, ap, ◌∙◌}
use mathlib.Core.Bool.{false}
use mathlib.Core.List.{List, [], ◌∷◌}
use Prim.Native.Nat.{ℕ, suc, ◌+◌, ◌-◌, ◌≤◌, ◌<◌}
use native.Mathlib.Omega.{arith}
use lib.ListN.{length, take, drop, get_or, drop_of_length-le}
use Rattle.spec.proofs.WalkLaws.{passes_at, first_within, up_to_first, up_to_end}
use Rattle.spec.specs.Map.{Marked, live}
use Rattle.spec.specs.Search.{Test, first}

-- `put` puts text in front of a result, a byte at a time or many; `made` is the result of what stands from an offset on
module _ {B : Type 0} (put : List Marked → B → B)
    (none : (b : B) → put [] b ≡ b) (more : (x : Marked) (l : List Marked) (b : B) → put (x ∷ l) b ≡ put (x ∷ []) (put l b))
    (p : Test) (t : List Marked) (made : ℕ → B)
    (copies : (k : ℕ) → k < length t → passes_at p t k ≡ false → made k ≡ put (get_or t k (live 0) ∷ []) (made (k + 1)))
  where
    pub copied : (i j : ℕ) → first p i t ≡ Some j → made i ≡ put (take (j - i) (drop i t)) (made j)
    copied i j =
        up_to_first p t (λ (k : ℕ). made k ≡ put (take (j - k) (drop k t)) (made j)) j
        (λ h q. let zero : j - j ≡ 0 = omega arith in rw zero (sym (none (made j))))
        (λ k h q e rest.
        let b = first_within p t (k + 1) j e in
        let one : j - k ≡ suc (j - (k + 1)) = omega arith in
        rw (one, drop_more t k (live 0) h)
        (copies k h q ∙ (ap (put (get_or t k (live 0) ∷ [])) rest ∙ sym (more _ _ _))))
        i

    -- where none passes, all of it is copied, and past the end stands b
    pub copied_all : (b : B) → ((k : ℕ) → length t ≤ k → made k ≡ b) → (i : ℕ) → first p i t ≡ None → made i ≡ put (drop i t) b
    copied_all b ends i =
        up_to_end p t (λ (k : ℕ). made k ≡ put (drop k t) b)
        (λ k h. rw (drop_of_length-le t h) (ends k h ∙ sym (none b)))
        (λ k h q e rest. rw (drop_more t k (live 0) h) (copies k h q ∙ (ap (put (get_or t k (live 0) ∷ [])) rest ∙ sym (more _ _ _))))
        i
