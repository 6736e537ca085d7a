-- What stands at an index, as the front of what is dropped to. Assumes nothing.
use mathlib.Core.Path.{◌≡◌, refl, sym, ap, ◌∙◌}
use mathlib.Core.List.{List, [], ◌∷◌}
use Prim.Native.Nat.{ℕ, zero, suc, ◌+◌, ◌-◌, ◌<◌}
use native.Mathlib.Nat.{add-zero}
use native.Mathlib.Numerals.{add-one, add-two}
use native.Mathlib.Omega.{arith}
use lib.ListN.{length, take, drop, get_or}
use lib.Seq.{drop-cons, get_or-drop, take-nil}

-- the first element of what is dropped to
pub drop_front {ℓ} : {A : Type ℓ} (xs : List A) (i : ℕ) (d : A) → get_or (drop i xs) 0 d ≡ get_or xs i d
drop_front xs i d = rw add-zero at (get_or-drop i xs 0 d)

-- two bytes ahead
pub drop_two : (xs : List ℕ) (i : ℕ) → i + 1 < length xs → drop i xs ≡ get_or xs i 0 ∷ get_or xs (i + 1) 0 ∷ drop (i + 2) xs
drop_two xs i h =
    rw (add-one, add-two)
    (drop-cons xs i 0 (omega arith) ∙ ap (λ (l : List ℕ). get_or xs i 0 ∷ l) (drop-cons xs (suc i) 0 (omega arith)))

-- the tail of those two
pub tail_one : (xs : List ℕ) (i : ℕ) → i + 1 < length xs → get_or xs (i + 1) 0 ∷ drop (i + 2) xs ≡ drop (i + 1) xs
tail_one xs i h = rw (add-two, add-one) (sym (drop-cons xs (suc i) 0 (omega arith)))

-- a front without its first elements
module _ {A : Type 0} where
  pub drop_take : (m n : ℕ) (l : List A) → drop m (take n l) ≡ take (n - m) (drop m l)
  drop_take zero n l = let e : n - 0 ≡ n = omega arith in rw e refl
  drop_take (suc m) zero l = let e : 0 - suc m ≡ 0 = omega arith in rw e refl
  drop_take (suc m) (suc n) [] = sym (take-nil (suc n - suc m))
  drop_take (suc m) (suc n) (x ∷ l) = let e : suc n - suc m ≡ n - m = omega arith in rw e (drop_take m n l)
