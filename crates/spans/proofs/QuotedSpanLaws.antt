-- Laws of `quote_len`, at a list's front and at an index. Assumes nothing.
use mathlib.Core.Path.{◌≡◌, refl, ap}
use mathlib.Core.Bool.{Bool, true, false}
use mathlib.Core.List.{List, [], ◌∷◌}
use Prim.Native.Nat.{ℕ, suc, ◌+◌, ◌≤◌, ◌<◌}
use native.Mathlib.Omega.{arith}
use borrow.Author.Tests.{eq-eqb, ne_eqb}
use lib.ListN.{length, drop, get_or, length-drop}
use Rattle.spec.proofs.AheadLaws.{drop_two, tail_one}
use Rattle.spec.specs.Spans.{escapes, quote_len, quoted_len}

module _ (e : Bool) (q : ℕ) where
  module _ (c d : ℕ) (cs : List ℕ) where
    esc_front : escapes e c ≡ true → quote_len e q (c ∷ d ∷ cs) ≡ suc (suc (quote_len e q cs))
    unfolding quote_len
    esc_front x = simp x

    two_front : escapes e c ≡ false → c ≡ q → d ≡ q → quote_len e q (c ∷ d ∷ cs) ≡ suc (suc (quote_len e q cs))
    unfolding quote_len
    two_front x y z = simp (x, eq-eqb c q y, eq-eqb d q z)

    end_front : escapes e c ≡ false → c ≡ q → (d ≡ q → ⊥) → quote_len e q (c ∷ d ∷ cs) ≡ 1
    unfolding quote_len
    end_front x y z = simp (x, eq-eqb c q y, ne_eqb d q z)

    one_front : escapes e c ≡ false → (c ≡ q → ⊥) → quote_len e q (c ∷ d ∷ cs) ≡ suc (quote_len e q (d ∷ cs))
    unfolding quote_len
    one_front x y = simp (x, ne_eqb c q y)

  -- at most one byte left: it is counted
  quote_short : (l : List ℕ) → length l ≤ 1 → quote_len e q l ≡ length l
  unfolding quote_len
  quote_short [] h = refl
  quote_short (c ∷ []) h = refl
  quote_short (c ∷ d ∷ cs) h = absurd (omega arith)

  module _ (xs : List ℕ) (i : ℕ) where
    module _ (h : i + 1 < length xs) where
      pub at_esc : escapes e (get_or xs i 0) ≡ true → i + quote_len e q (drop i xs) ≡ i + 2 + quote_len e q (drop (i + 2) xs)
      at_esc x = rw (drop_two xs i h, esc_front _ _ _ x) (omega arith)

      module _ (x : escapes e (get_or xs i 0) ≡ false) where
        pub at_two : get_or xs i 0 ≡ q → get_or xs (i + 1) 0 ≡ q → i + quote_len e q (drop i xs) ≡ i + 2 + quote_len e q (drop (i + 2) xs)
        at_two y z = rw (drop_two xs i h, two_front _ _ _ x y z) (omega arith)

        pub at_end : get_or xs i 0 ≡ q → (get_or xs (i + 1) 0 ≡ q → ⊥) → i + quote_len e q (drop i xs) ≡ i + 1
        at_end y z = rw (drop_two xs i h, end_front _ _ _ x y z) (omega arith)

        pub at_one : (get_or xs i 0 ≡ q → ⊥) → i + quote_len e q (drop i xs) ≡ i + 1 + quote_len e q (drop (i + 1) xs)
        at_one y = rw (drop_two xs i h, one_front _ _ _ x y, tail_one xs i h) (omega arith)

    pub at_short : i ≤ length xs → length xs ≤ i + 1 → i + quote_len e q (drop i xs) ≡ length xs
    at_short a b = rw (quote_short (drop i xs) (simp length-drop (omega arith)), length-drop) (omega arith)

  pub quoted_start : (xs : List ℕ) → 1 < length xs → quoted_len e q xs ≡ 1 + quote_len e q (drop 1 xs)
  unfolding quoted_len
  quoted_start [] h = absurd (omega arith)
  quoted_start (c ∷ cs) h = omega arith

  pub quoted_short : (xs : List ℕ) → length xs < 2 → quoted_len e q xs ≡ length xs
  unfolding quoted_len
  quoted_short [] h = refl
  quoted_short (c ∷ cs) h = ap suc (quote_short cs (omega arith))

-- a turn of the loop, its start, and the ends
pub ruleset quoted_laws = (at_esc, at_two, at_end, at_one, at_short, quoted_start, quoted_short)
