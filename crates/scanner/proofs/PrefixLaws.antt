-- A prefix in any letter case, in the library's words: the text is long enough, and its front and the word are equal in small
-- letters. By induction on both. Assumes nothing.
use Rattle.std.proofs.Common.{◌≡◌, refl, sym, Bool, true, false, List, [], ◌∷◌, ℕ, ◌≤◌, ◌<◌, length, take, eqb, arith}
use Rattle.std.specs.Prelude.{map, IsTrue, ◌↔◌}
use Rattle.std.specs.Char.{to_ascii_lowercase}
use mathlib.Core.Bool.{false≢true}
use borrow.Author.Tests.{tests, eqb-true, eq-eqb}
use Rattle.std.proofs.lemmas.Bool.{and_parts}
use Rattle.spec.proofs.Choice.{by}
use Rattle.spec.specs.Bytes.{upper, is_lower, within, prefix_by}

pub prefix_too_long : (f : ℕ → ℕ) (w xs : List ℕ) → length xs < length w → prefix_by f w xs ≡ false
unfolding prefix_by
prefix_too_long f [] xs h = absurd (omega arith)
prefix_too_long f (a ∷ w) [] h = refl
prefix_too_long f (a ∷ w) (x ∷ xs) h = rw (prefix_too_long f w xs (omega arith)) (grind arith)

-- two bytes are equal in small letters just where they are in capitals
upper_same : (a b : ℕ) → to_ascii_lowercase a ≡ to_ascii_lowercase b → upper a ≡ upper b
unfolding upper is_lower within
upper_same a b e = grind (arith, tests)

lower_same : (a b : ℕ) → upper a ≡ upper b → to_ascii_lowercase a ≡ to_ascii_lowercase b
unfolding upper is_lower within
lower_same a b e = grind (arith, tests)

prefix_yes : (w xs : List ℕ) → length w ≤ length xs → map to_ascii_lowercase (take (length w) xs) ≡ map to_ascii_lowercase w → prefix_by upper w xs ≡ true
unfolding prefix_by
prefix_yes [] xs h e = refl
prefix_yes (a ∷ w) [] h e = absurd (omega arith)
prefix_yes (a ∷ w) (x ∷ xs) h e =
    let p : to_ascii_lowercase x ≡ to_ascii_lowercase a = cc in
    let q : map to_ascii_lowercase (take (length w) xs) ≡ map to_ascii_lowercase w = cc in
    rw (prefix_yes w xs (omega arith) q, eq-eqb (upper x) (upper a) (upper_same x a p)) refl

prefix_back : (w xs : List ℕ) → prefix_by upper w xs ≡ true → map to_ascii_lowercase (take (length w) xs) ≡ map to_ascii_lowercase w
unfolding prefix_by
prefix_back [] xs e = refl
prefix_back (a ∷ w) [] e = absurd (false≢true e)
prefix_back (a ∷ w) (x ∷ xs) e =
    let both = and_parts (eqb (upper x) (upper a)) (prefix_by upper w xs) e in
    rw (prefix_back w xs both.1, lower_same x a (eqb-true (upper x) (upper a) both.0)) refl

pub prefix_of_lower : (w xs : List ℕ) (r : Bool) → length w ≤ length xs
    → IsTrue r ↔ (map to_ascii_lowercase (take (length w) xs) ≡ map to_ascii_lowercase w) → r ≡ prefix_by upper w xs
prefix_of_lower w xs true h t = sym (prefix_yes w xs h (t.0 refl))
prefix_of_lower w xs false h t = by (prefix_by upper w xs) (λ e. absurd (false≢true (t.1 (prefix_back w xs e)))) (λ e. sym e)
