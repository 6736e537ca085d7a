-- A text that is a word in any letter case, as the library compares them: by the law of a prefix, where the two are as long. Assumes
-- nothing.
use Rattle.std.specs.Prelude.{IsTrue, ◌↔◌}
use Rattle.std.specs.Char.{to_ascii_lowercase}
use mathlib.Core.Path.{◌≡◌, refl, ap}
use mathlib.Core.Bool.{Bool, true, false}
use mathlib.Core.List.{List, map}
use Prim.Native.Nat.{ℕ}
use borrow.Author.Tests.{eqb-true, eq-eqb}
use native.Mathlib.Omega.{arith}
use lib.Dec.{eqb}
use lib.ListN.{length}
use Rattle.std.proofs.lemmas.List.{length-map}
use lib.Seq.{take_all}
use Rattle.spec.proofs.Choice.{by}
use Rattle.scanner.proofs.PrefixLaws.{prefix_of_lower}
use Rattle.declared_parts.specs.DeclaredParts.{is_text}

-- texts that are equal in small letters are as long
as_long : (w xs : List ℕ) → map to_ascii_lowercase xs ≡ map to_ascii_lowercase w → length xs ≡ length w
as_long w xs e = omega (arith, ap length e, length-map xs to_ascii_lowercase, length-map w to_ascii_lowercase)

pub text_is : (w xs : List ℕ) (b : Bool) → (IsTrue b ↔ (map to_ascii_lowercase xs ≡ map to_ascii_lowercase w)) → b ≡ is_text w xs
unfolding is_text
text_is w xs b q =
    by (eqb (length xs) (length w))
    (λ e.
    let l : length xs ≡ length w = eqb-true (length xs) (length w) e in
    let t = take_all (length w) xs (omega (arith, l)) in
    rw e (prefix_of_lower w xs b (omega (arith, l)) (rw t q)))
    (λ e. rw e (other b q e))
  where
    other : (b : Bool) → (IsTrue b ↔ (map to_ascii_lowercase xs ≡ map to_ascii_lowercase w)) → eqb (length xs) (length w) ≡ false → b ≡ false
    other false q e = refl
    other true q e =
        let s = eq-eqb (length xs) (length w) (as_long w xs (q.0 refl)) in
        absurd (cc)
