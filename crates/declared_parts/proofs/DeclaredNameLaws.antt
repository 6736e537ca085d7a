-- Texts compared byte by byte. Assumes nothing.
use Rattle.std.specs.Cmp.Lexicographic.{pointwise, slice_cmp}
use Rattle.std.specs.Ordering.{nat_cmp, is_lt}
use Rattle.std.specs.Prelude.{nat_eq}
use mathlib.Core.Path.{◌≡◌, refl, sym}
use mathlib.Core.Bool.{false}
use mathlib.Core.List.{List, [], ◌∷◌}
use Prim.Native.Nat.{ℕ}
use lib.Dec.{eqb, ltb}
use Rattle.spec.proofs.Choice.{by}
use Rattle.spec.proofs.NameOrder.{same_eq}
use Rattle.spec.specs.Bytes.{is_same, is_before}

-- ---- the same bytes

pub not_same : (x y : List ℕ) → (x ≡ y → ⊥) → false ≡ is_same x y
not_same x y n = by (is_same x y) (λ e. absurd (n (same_eq x y e))) (λ e. sym e)

-- the library's equality
pub same_of_library : (x y : List ℕ) → is_same x y ≡ pointwise nat_eq x y
unfolding is_same
same_of_library [] [] = refl
same_of_library [] (b ∷ y) = refl
same_of_library (a ∷ x) [] = refl
same_of_library (a ∷ x) (b ∷ y) = rw (same_of_library x y) refl

-- ---- byte order

-- the library's order
pub before_of_library : (x y : List ℕ) → is_before x y ≡ is_lt (slice_cmp nat_cmp x y)
unfolding is_before
before_of_library [] [] = refl
before_of_library [] (b ∷ y) = refl
before_of_library (a ∷ x) [] = refl
before_of_library (a ∷ x) (b ∷ y) =
    by (ltb a b)
    (λ e. rw e refl)
    (λ e. by (eqb a b) (λ q. rw (e, q) (before_of_library x y)) (λ q. rw (e, q) refl))
