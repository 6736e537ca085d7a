-- Laws of `comment_len`, at a list's front and at an index. Assumes nothing.
use mathlib.Core.Path.{◌≡◌, refl}
use mathlib.Core.Bool.{true, false}
use mathlib.Core.List.{List, [], ◌∷◌}
use Prim.Native.Nat.{ℕ, suc, ◌+◌, ◌-◌, ◌≤◌, ◌<◌}
use native.Mathlib.Numerals.{add-one}
use native.Mathlib.Omega.{arith}
use borrow.Author.Tests.{eq-eqb, ne_eqb}
use lib.ListN.{length, drop, get_or, length-drop}
use Rattle.spec.proofs.AheadLaws.{drop_two, tail_one}
use Rattle.spec.specs.Bytes.{is_pair}
use Rattle.spec.specs.Spans.{comment_len, block_len}

module _ (k c d : ℕ) (cs : List ℕ) where
  open_front : is_pair 47 42 c d ≡ true → comment_len k (c ∷ d ∷ cs) ≡ suc (suc (comment_len (suc k) cs))
  unfolding comment_len
  open_front e = simp e

  back_front : is_pair 47 42 c d ≡ false → is_pair 42 47 c d ≡ true → (k ≡ 1 → ⊥) → comment_len k (c ∷ d ∷ cs) ≡ suc (suc (comment_len (k - 1) cs))
  unfolding comment_len
  back_front e f n = simp (e, f, ne_eqb k 1 n)

  last_front : is_pair 47 42 c d ≡ false → is_pair 42 47 c d ≡ true → k ≡ 1 → comment_len k (c ∷ d ∷ cs) ≡ 2
  unfolding comment_len
  last_front e f n = simp (e, f, eq-eqb k 1 n)

  one_front : is_pair 47 42 c d ≡ false → is_pair 42 47 c d ≡ false → comment_len k (c ∷ d ∷ cs) ≡ suc (comment_len k (d ∷ cs))
  unfolding comment_len
  one_front e f = simp (e, f)

-- at most one byte left: it is counted
comment_short : (k : ℕ) (l : List ℕ) → length l ≤ 1 → comment_len k l ≡ length l
unfolding comment_len
comment_short k [] h = refl
comment_short k (c ∷ []) h = refl
comment_short k (c ∷ d ∷ cs) h = absurd (omega arith)

module _ (k : ℕ) (xs : List ℕ) (i : ℕ) where
  module _ (h : i + 1 < length xs) where
    pub at_open : is_pair 47 42 (get_or xs i 0) (get_or xs (i + 1) 0) ≡ true → i + comment_len k (drop i xs) ≡ i + 2 + comment_len (k + 1) (drop (i + 2) xs)
    at_open e = rw (drop_two xs i h, open_front _ _ _ _ e, add-one) (omega arith)

    module _ (e : is_pair 47 42 (get_or xs i 0) (get_or xs (i + 1) 0) ≡ false) where
      pub at_back : is_pair 42 47 (get_or xs i 0) (get_or xs (i + 1) 0) ≡ true → (k ≡ 1 → ⊥) → i + comment_len k (drop i xs) ≡ i + 2 + comment_len (k - 1) (drop (i + 2) xs)
      at_back f n = rw (drop_two xs i h, back_front _ _ _ _ e f n) (omega arith)

      pub at_last : is_pair 42 47 (get_or xs i 0) (get_or xs (i + 1) 0) ≡ true → k ≡ 1 → i + comment_len k (drop i xs) ≡ i + 2
      at_last f n = rw (drop_two xs i h, last_front _ _ _ _ e f n) (omega arith)

      pub at_one : is_pair 42 47 (get_or xs i 0) (get_or xs (i + 1) 0) ≡ false → i + comment_len k (drop i xs) ≡ i + 1 + comment_len k (drop (i + 1) xs)
      at_one f = rw (drop_two xs i h, one_front _ _ _ _ e f, tail_one xs i h) (omega arith)

  pub at_short : i ≤ length xs → length xs ≤ i + 1 → i + comment_len k (drop i xs) ≡ length xs
  at_short a b = rw (comment_short k (drop i xs) (simp length-drop (omega arith)), length-drop) (omega arith)

pub block_start : (xs : List ℕ) → 1 < length xs → block_len xs ≡ 2 + comment_len 1 (drop 2 xs)
unfolding block_len
block_start [] h = absurd (omega arith)
block_start (c ∷ []) h = absurd (omega arith)
block_start (c ∷ d ∷ cs) h = omega arith

pub block_short : (xs : List ℕ) → length xs < 2 → block_len xs ≡ length xs
unfolding block_len
block_short [] h = refl
block_short (c ∷ []) h = refl
block_short (c ∷ d ∷ cs) h = absurd (omega arith)

-- a turn of the loop, its start, and the ends
pub ruleset comment_laws = (at_open, at_back, at_last, at_one, at_short, block_start, block_short)
