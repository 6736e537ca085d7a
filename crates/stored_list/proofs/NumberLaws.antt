-- Texts in hex and decimal numbers at an index. Assumes nothing.
use mathlib.Core.Path.{◌≡◌, refl, sym, ap}
use mathlib.Core.List.{List, [], ◌∷◌, map}
use Prim.Native.Nat.{ℕ, zero, suc, ◌+◌, ◌*◌, ◌≤◌, ◌<◌}
use native.Mathlib.Omega.{arith}
use borrow.Author.Tests.{ltb-true, ltb-false}
use lib.Dec.{ltb}
use lib.ListN.{length, drop, get_or, drop_of_length-le}
use Rattle.std.proofs.Common.{Some, None}
use Rattle.std.specs.Option.{option_and_then}
use Rattle.std.proofs.lemmas.List.{length-map, drop_more}
use Rattle.spec.proofs.AheadLaws.{drop_two}
use Rattle.spec.proofs.Choice.{by}
use Rattle.stored_list.specs.Numbers.{hex_digit, hex_pair, hex_bytes, with_digit, with_digits, number_of, counted}

-- ---- texts in hex

module _ (xs : List ℕ) (i : ℕ) where
  pub hex_two : i + 1 < length xs → hex_bytes (drop i xs) ≡ hex_pair (get_or xs i 0) (get_or xs (i + 1) 0) ∷ hex_bytes (drop (i + 2) xs)
  unfolding hex_bytes
  hex_two h = rw (drop_two xs i h) refl

  pub hex_end : length xs ≤ i + 1 → hex_bytes (drop i xs) ≡ []
  unfolding hex_bytes
  hex_end h =
      by (ltb i (length xs))
      (λ e. rw (drop_more xs i 0 (ltb-true i (length xs) e), drop_of_length-le xs h) refl)
      (λ e. rw (drop_of_length-le xs (ltb-false i (length xs) e)) refl)

-- a turn of the loop over pairs of digits, from what the code computes
pub hex_turn : (xs : List ℕ) (i a b : ℕ) → 2 * i + 1 < length xs → a ≡ hex_digit (get_or xs (2 * i) 0)
    → b ≡ hex_digit (get_or xs (2 * i + 1) 0) → hex_bytes (drop (2 * i) xs) ≡ (16 * a + b) ∷ hex_bytes (drop (2 * (i + 1)) xs)
unfolding hex_pair
hex_turn xs i a b h p q =
    let k : 2 * (i + 1) ≡ 2 * i + 2 = omega arith in
    rw (p, q, k) (hex_two xs (2 * i) h)

-- ---- decimal numbers

pub number_none : (xs : List ℕ) → length xs ≡ 0 → None ≡ number_of xs
unfolding number_of
number_none [] h = refl
number_none (x ∷ xs) h = absurd (omega arith)

pub number_digits : (xs : List ℕ) → (length xs ≡ 0 → ⊥) → number_of xs ≡ with_digits 0 xs
unfolding number_of
number_digits [] h = absurd (h refl)
number_digits (x ∷ xs) h = refl

module _ (n : ℕ) (xs : List ℕ) (i : ℕ) where
  -- a turn of the loop, by what the next digit gives
  pub digit_some : (m : ℕ) → i < length xs → Some m ≡ with_digit n (get_or xs i 0) → with_digits n (drop i xs) ≡ with_digits m (drop (i + 1) xs)
  unfolding with_digits
  digit_some m h q = rw (drop_more xs i 0 h) (ap (option_and_then (λ m'. with_digits m' (drop (i + 1) xs))) (sym q))

  pub digit_none : i < length xs → None ≡ with_digit n (get_or xs i 0) → None ≡ with_digits n (drop i xs)
  unfolding with_digits
  digit_none h q = rw (drop_more xs i 0 h) (ap (option_and_then (λ m. with_digits m (drop (i + 1) xs))) q)

  pub digits_end : length xs ≤ i → Some n ≡ with_digits n (drop i xs)
  unfolding with_digits
  digits_end h = rw (drop_of_length-le xs h) refl

-- ---- the numbers of a line's fields

pub counted_one : (fields : List (List ℕ)) (n : ℕ) (field : List ℕ) (v : ℕ) → n < length fields → field ≡ get_or fields n field → v ≡ counted field
    → drop n (map counted fields) ≡ v ∷ drop (n + 1) (map counted fields)
counted_one [] n field v h e q = absurd (omega arith)
counted_one (x ∷ xs) zero field v h e q = rw (q, e) refl
counted_one (x ∷ xs) (suc n) field v h e q =
    let k : suc n + 1 ≡ suc (n + 1) = omega arith in
    rw k (counted_one xs n field v (omega arith) e q)

pub counted_end : (fields : List (List ℕ)) (n : ℕ) → length fields ≤ n → drop n (map counted fields) ≡ []
counted_end fields n h = drop_of_length-le (map counted fields) (omega (arith, length-map fields counted))
