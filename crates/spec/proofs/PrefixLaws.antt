-- What stands at the front of a text, as a part of it. Assumes nothing.
use Rattle.spec.proofs.WalkLaws.{prefix_take}
use Rattle.std.proofs.lemmas.Bool.{and_from}
use mathlib.Core.Path.{◌≡◌, refl, ap, ◌∙◌, sym}
use mathlib.Core.Bool.{true, ◌&&◌}
use mathlib.Core.List.{List, [], ◌∷◌, ◌++◌}
use Prim.Native.Nat.{ℕ}
use borrow.Author.Tests.{eq-eqb}
use lib.Dec.{eqb}
use lib.ListN.{length, drop, take-append-drop}
use Rattle.spec.proofs.Choice.{by}
use Rattle.spec.specs.Bytes.{is_prefix}

-- where p stands at the front of xs, xs is p and what follows it
pub prefix_split : (p xs : List ℕ) → is_prefix p xs ≡ true → xs ≡ p ++ drop (length p) xs
prefix_split p xs h = sym (take-append-drop (length p) xs) ∙ ap (λ (l : List ℕ). l ++ drop (length p) xs) (prefix_take p xs h)

-- and it stands at the front of itself with anything behind it
pub prefix_front : (p xs : List ℕ) → is_prefix p (p ++ xs) ≡ true
unfolding is_prefix
prefix_front [] xs = refl
prefix_front (a ∷ p) xs = and_from (eqb a a) (is_prefix p (p ++ xs)) (eq-eqb a a refl) (prefix_front p xs)

-- one text behind another stands at the front exactly if the first does and the second stands behind it
pub prefix_append : (p q xs : List ℕ) → is_prefix (p ++ q) xs ≡ (is_prefix p xs && is_prefix q (drop (length p) xs))
unfolding is_prefix
prefix_append [] q xs = refl
prefix_append (a ∷ p) q [] = refl
prefix_append (a ∷ p) q (x ∷ xs) = by (eqb x a) (λ e. simp e (prefix_append p q xs)) (λ e. simp e)
