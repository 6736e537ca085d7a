-- `line_len` and `tag_len` by runs of bytes, and `seek_len` at an index. Assumes nothing.
use Rattle.std.proofs.lemmas.List.{drop_more}
use mathlib.Core.Path.{◌≡◌, refl, ap}
use mathlib.Core.Bool.{true, false, not}
use mathlib.Core.List.{List, [], ◌∷◌}
use Prim.Native.Nat.{ℕ, suc, ◌+◌, ◌≤◌, ◌<◌}
use native.Mathlib.Nat.{le_of_suc-le-suc}
use native.Mathlib.Omega.{arith}
use lib.Dec.{eqb}
use lib.ListN.{length, drop}
use Rattle.spec.proofs.Choice.{by}
use Rattle.spec.specs.Bytes.{is_ident, is_prefix}
use Rattle.spec.specs.Lists.{take_while}
use Rattle.spec.specs.Spans.{line_len, tag_len, seek_len}

pub tag_run : (xs : List ℕ) → tag_len xs ≡ length (take_while is_ident xs)
unfolding tag_len take_while
tag_run [] = refl
tag_run (c ∷ cs) = by (is_ident c) (λ e. simp e (ap suc (tag_run cs))) (λ e. simp e)

-- the bytes of a line before its newline
abbrev pub line_run : List ℕ → ℕ
line_run xs = length (take_while (λ b. not (eqb b 10)) xs)

-- the newline is counted, if there is one
pub line_through : (xs : List ℕ) → line_run xs < length xs → line_len xs ≡ line_run xs + 1
unfolding line_len take_while
line_through [] = λ h. absurd (omega arith)
line_through (c ∷ cs) =
    by (eqb c 10) (λ e. simp e (λ h. omega arith)) (λ e. simp e (λ h. omega (arith, line_through cs (le_of_suc-le-suc h))))

pub line_whole : (xs : List ℕ) → length xs ≤ line_run xs → line_len xs ≡ line_run xs
unfolding line_len take_while
line_whole [] = λ h. refl
line_whole (c ∷ cs) =
    by (eqb c 10) (λ e. simp e (λ h. absurd (omega arith))) (λ e. simp e (λ h. ap suc (line_whole cs (le_of_suc-le-suc h))))

module _ (c : ℕ) (cs : List ℕ) where
  seek_front : (p : List ℕ) → is_prefix p (c ∷ cs) ≡ true → seek_len p (c ∷ cs) ≡ 0
  unfolding seek_len
  seek_front p e = simp e

  seek_step : (p : List ℕ) → is_prefix p (c ∷ cs) ≡ false → seek_len p (c ∷ cs) ≡ suc (seek_len p cs)
  unfolding seek_len
  seek_step p e = simp e

module _ (xs : List ℕ) (i : ℕ) where
  module _ (h : i < length xs) where
    pub at_found : (p : List ℕ) → is_prefix p (drop i xs) ≡ true → i + seek_len p (drop i xs) ≡ i
    at_found p e = rw (drop_more xs i 0 h, seek_front _ _ p (rw (drop_more xs i 0 h) at e)) (omega arith)

    pub at_missed : (p : List ℕ) → is_prefix p (drop i xs) ≡ false → i + seek_len p (drop i xs) ≡ i + 1 + seek_len p (drop (i + 1) xs)
    at_missed p e = rw (drop_more xs i 0 h, seek_step _ _ p (rw (drop_more xs i 0 h) at e)) (omega arith)
