-- A list with one element changed, by index. Assumes nothing.
use mathlib.Core.Path.{◌≡◌, refl, ap}
use mathlib.Core.List.{List, [], ◌∷◌}
use Prim.Native.Nat.{ℕ, zero, suc, ◌≤◌, ◌<◌}
use native.Mathlib.Omega.{arith}
use lib.ListN.{length, get_or, set}
use Rattle.stored_list.specs.Fault.{changed_at}

module _ {A : Type 0} (f : A → A) where
  pub changed_in : (xs : List A) (i : ℕ) (x : A) → i < length xs → x ≡ get_or xs i x → set xs i (f x) ≡ changed_at f i xs
  unfolding changed_at
  changed_in [] i x h e = absurd (omega arith)
  changed_in (y ∷ ys) zero x h e = ap (λ (z : A). f z ∷ ys) e
  changed_in (y ∷ ys) (suc i) x h e = ap (λ (zs : List A). y ∷ zs) (changed_in ys i x (omega arith) e)

  pub changed_out : (xs : List A) (i : ℕ) → length xs ≤ i → changed_at f i xs ≡ xs
  unfolding changed_at
  changed_out [] i h = refl
  changed_out (y ∷ ys) zero h = absurd (omega arith)
  changed_out (y ∷ ys) (suc i) h = ap (λ (zs : List A). y ∷ zs) (changed_out ys i (omega arith))
