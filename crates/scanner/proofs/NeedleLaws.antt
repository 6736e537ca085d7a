-- The needle whose first byte is live, at an offset of a text and its map. Assumes nothing.
use mathlib.Core.Path.{◌≡◌, refl, sym, ◌∙◌}
use mathlib.Core.Bool.{false, ◌&&◌}
use mathlib.Core.List.{List}
use Prim.Native.Nat.{ℕ, ◌<◌}
use lib.Dec.{eqb}
use lib.ListN.{length, drop, get_or}
use Rattle.spec.specs.Bytes.{is_prefix}
use Rattle.spec.specs.Map.{marked}
use Rattle.spec.specs.Search.{needle_here}
use Rattle.spec.proofs.WalkLaws.{front_live_lem, starts_exact_at, passes_at, prefix_exact, prefix_miss}

pub needle_at : (w xs ms : List ℕ) (i : ℕ) → i < length xs
    → passes_at (needle_here w) (marked xs ms) i ≡ (eqb (get_or ms i 0) 0 && is_prefix w (drop i xs))
unfolding needle_here
needle_at w xs ms i h = rw (front_live_lem xs ms i h, starts_exact_at w xs ms i, prefix_exact) refl

-- the first byte of the needle differs
pub needle_differs : (w xs : List ℕ) (i : ℕ) → 0 < length w → i < length xs → (get_or xs i 0 ≡ get_or w 0 0 → ⊥) → is_prefix w (drop i xs) ≡ false
needle_differs w xs i e h n = sym (prefix_exact w (drop i xs)) ∙ prefix_miss (λ (b : ℕ). b) w xs 0 i e h n
