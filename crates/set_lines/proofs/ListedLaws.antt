-- A test on the bytes of a text, and whether columns and variables pair up. Assumes nothing.
use mathlib.Core.Path.{◌≡◌, refl, ap}
use mathlib.Core.Bool.{Bool, true, false, not, ◌&&◌, ◌||◌, and-false}
use mathlib.Core.List.{List, [], ◌∷◌}
use Prim.Native.Nat.{ℕ}
use native.Mathlib.Omega.{arith}
use borrow.Author.Tests.{eq-eqb, ne_eqb}
use lib.Dec.{eqb}
use lib.ListN.{length}
use Rattle.spec.specs.Bytes.{is_w}
use Rattle.spec.specs.Lists.{is_empty, any}
use Rattle.spec.specs.Map.{Marked, byte, bytes, of_byte}
use Rattle.spec.specs.SelectInto.{pair_up}

pub any_bytes : (f : ℕ → Bool) (t : List Marked) → any (of_byte f) t ≡ any f (bytes t)
unfolding any of_byte bytes
any_bytes f [] = refl
any_bytes f (x ∷ t) = ap (λ (b : Bool). f (byte x) || b) (any_bytes f t)

-- ---- pairs

module _ (cols vars : List (List Marked)) where
  pub pairs_apart : (length cols ≡ length vars → ⊥) → pair_up cols vars ≡ false
  unfolding pair_up
  pairs_apart h = simp (ne_eqb (length cols) (length vars) h)

  pub pairs_none : length cols ≡ 0 → pair_up cols vars ≡ false
  unfolding pair_up is_empty
  pairs_none = go cols
    where
      go : (l : List (List Marked)) → length l ≡ 0 → (eqb (length l) (length vars) && (not (is_empty l) && not (any (λ (v : List Marked). any (of_byte is_w) v) vars))) ≡ false
      go [] h = and-false (eqb 0 (length vars))
      go (x ∷ l) h = absurd (omega arith)

  pub pairs_some : length cols ≡ length vars → (length cols ≡ 0 → ⊥)
      → pair_up cols vars ≡ not (any (λ (v : List Marked). any (of_byte is_w) v) vars)
  unfolding pair_up is_empty
  pairs_some e = go cols (eq-eqb (length cols) (length vars) e)
    where
      go : (l : List (List Marked)) → eqb (length l) (length vars) ≡ true → (length l ≡ 0 → ⊥) → (eqb (length l) (length vars) && (not (is_empty l) && not (any (λ (v : List Marked). any (of_byte is_w) v) vars))) ≡ not (any (λ (v : List Marked). any (of_byte is_w) v) vars)
      go [] q h = absurd (h refl)
      go (x ∷ l) q h = simp q
