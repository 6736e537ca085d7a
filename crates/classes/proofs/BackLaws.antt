-- The byte before an offset of a marked text, by its bytes. Assumes nothing.
use mathlib.Core.Path.{◌≡◌, refl, sym, ap, ◌∙◌}
use mathlib.Core.Bool.{cond}
use mathlib.Core.List.{List, reverse}
use Prim.Native.Nat.{ℕ, zero, suc, ◌-◌, ◌≤◌}
use native.Mathlib.Numerals.{add-one}
use native.Mathlib.Omega.{arith}
use lib.Dec.{eqb, eqb-suc-zero}
use lib.ListN.{length, take, get_or, get_or-map}
use Rattle.spec.proofs.WalkLaws.{before_next}
use Rattle.spec.specs.Map.{Marked, live, byte, bytes, front_byte}

pub byte_back : (t : List Marked) (xs : List ℕ) (i : ℕ) → xs ≡ bytes t → i ≤ length t → front_byte (reverse (take i t)) ≡ cond (eqb i 0) 0 (get_or xs (i - 1) 0)
unfolding front_byte bytes
byte_back t xs zero e h = refl
byte_back t xs (suc i) e h =
    let n : suc i - 1 ≡ i = omega arith in
    rw (eqb-suc-zero, n, e)
    (ap (λ (m : ℕ). front_byte (reverse (take m t))) (sym (add-one i)) ∙ (sym (before_next t i h) ∙ sym (get_or-map byte t i (live 0))))
