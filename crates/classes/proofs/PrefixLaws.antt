-- `is_prefix` is the library's `starts_with` at bytes, by an induction on both lists; the two write the test of a byte
-- the other way round. Of a text that is long enough it is the library's `==` with the text's front. Assumes nothing.
use Rattle.std.proofs.Common.{◌≡◌, refl, sym, List, [], ◌∷◌, ℕ, ◌≤◌, ◌<◌, false, length, take, eqb, arith}
use Rattle.std.specs.Cmp.Lexicographic.{pointwise}
use Rattle.std.specs.Prelude.{nat_eq}
use borrow.Author.Tests.{eqb-true, eqb-false, eq-eqb, ne_eqb}
use Rattle.std.specs.List.{starts_with}
use Rattle.spec.proofs.Choice.{by}
use Rattle.spec.proofs.SpanLaws.{prefix_len}
use Rattle.spec.specs.Bytes.{is_prefix}

pub eqb_flip : (a b : ℕ) → eqb a b ≡ eqb b a
eqb_flip a b =
    by (eqb b a)
    (λ e. rw (e, eq-eqb a b (sym (eqb-true b a e))) refl)
    (λ e. rw (e, ne_eqb a b (λ q. eqb-false b a e (sym q))) refl)

pub is_prefix_of_library : (p xs : List ℕ) → is_prefix p xs ≡ starts_with eqb xs p
unfolding is_prefix
is_prefix_of_library [] [] = refl
is_prefix_of_library [] (x ∷ xs) = refl
is_prefix_of_library (a ∷ p) [] = refl
is_prefix_of_library (a ∷ p) (x ∷ xs) = rw (eqb_flip x a, is_prefix_of_library p xs) refl

-- a prefix is no longer than the text
pub prefix_too_long : (p xs : List ℕ) → length xs < length p → is_prefix p xs ≡ false
prefix_too_long p xs h = by (is_prefix p xs) (λ e. absurd (omega (arith, prefix_len p xs e))) (λ e. e)

-- of a text that is long enough, it is the library's equality with the front
pub prefix_of_equal : (p xs : List ℕ) → length p ≤ length xs → is_prefix p xs ≡ pointwise nat_eq (take (length p) xs) p
unfolding is_prefix
prefix_of_equal [] xs h = refl
prefix_of_equal (a ∷ p) [] h = absurd (omega arith)
prefix_of_equal (a ∷ p) (x ∷ xs) h = rw (prefix_of_equal p xs (omega arith)) refl
