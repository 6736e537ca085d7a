-- A buffer with another element at one place. Assumes nothing.
use Rattle.std.specs.Prelude.{◌≡◌, Bool, true, false, refl, ℕ, suc, zero, cond, List, [], ◌∷◌, eqb, Option, Some, None}
use Rattle.std.proofs.Common.{sym, subst}
use mathlib.Core.Bool.{false≢true}
use Rattle.stored_list.specs.Fields.{field_of}
use Rattle.stored_list.specs.Numbers.{counted}
use Rattle.stored_list.specs.declared.fault.Fault.{Fault}

-- another byte or number
abbrev pub other : ℕ → ℕ
other b = cond (eqb b 1) 2 1

-- it differs, by the two cases of the test
pub other_differs : (b : ℕ) → other b ≡ b → ⊥
other_differs b e =
    let P : Bool → Type 0 = λ t. eqb b 1 ≡ t → cond t 2 1 ≡ b → ⊥ in
    let same = λ (n : ℕ) (t : Bool) (p : n ≡ b) (q : eqb b 1 ≡ t). subst (λ (m : ℕ). eqb m 1 ≡ t) (sym p) q in
    (elim (eqb b 1) as P [ true ↦ λ q p. false≢true (same 2 true p q) | false ↦ λ q p. false≢true (sym (same 1 false p q)) ]) refl e

-- the place that the second and the third field of a line name
abbrev pub fault_of : List ℕ → Fault
fault_of line = record { buffer = counted (field_of 1 line); place = counted (field_of 2 line) }

-- the list with f of the element at i there; past the end there is none
unfoldable pub changed_at : {A : Type 0} → (A → A) → ℕ → List A → List A
changed_at f i [] = []
changed_at f zero (x ∷ xs) = f x ∷ xs
changed_at f (suc i) (x ∷ xs) = x ∷ changed_at f i xs

-- the buffer with this number, after its place is changed
abbrev pub injected : {A : Type 0} → (A → A) → ℕ → Option Fault → List A → List A
injected f own None xs = xs
injected f own (Some s) xs = cond (eqb s.buffer own) (changed_at f s.place xs) xs
