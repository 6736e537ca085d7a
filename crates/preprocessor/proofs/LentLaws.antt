-- Buffers that are long enough. Assumes nothing.
use mathlib.Core.Path.{◌≡◌}
use mathlib.Core.Bool.{true, ◌&&◌}
use Prim.Native.Nat.{ℕ, ◌≤◌}
use native.Mathlib.Omega.{arith}
use lib.Dec.{leb}
use lib.ListN.{length}
use mathlib.Core.List.{List, []}
use Rattle.std.specs.Prelude.{Ok}
use Rattle.std.proofs.lemmas.Bool.Decides.{nat_tests}
use Rattle.spec.proofs.CheckLaws.{check_only}
use Rattle.spec.specs.Answers.{check_of}

-- what a body call whose checks pass was handed
pub body_lent : (xs : List ℕ) (a b c : ℕ) → check_of 16384 (leb 65536 a && (leb 65536 b && leb 65536 c)) xs [] ≡ Ok tt
    → (length xs ≤ 16384) × (65536 ≤ a) × (65536 ≤ b) × (65536 ≤ c)
body_lent xs a b c e =
    let h = check_only 16384 _ xs [] (Ok tt) e in
    let short : length xs ≤ 16384 = h.0 in
    let k : (leb 65536 a && (leb 65536 b && leb 65536 c)) ≡ true = h.1 in
    grind (arith, nat_tests)

-- and a function call
pub function_lent : (xs : List ℕ) (a b c d n : ℕ)
    → check_of 16384 ((leb 65536 a && (leb 65536 b && leb 65536 c)) && (leb 65536 d && leb 5130 n)) xs [] ≡ Ok tt
    → (length xs ≤ 16384) × (65536 ≤ a) × (65536 ≤ b) × (65536 ≤ c) × (65536 ≤ d) × (5130 ≤ n)
function_lent xs a b c d n e =
    let h = check_only 16384 _ xs [] (Ok tt) e in
    let short : length xs ≤ 16384 = h.0 in
    let k : ((leb 65536 a && (leb 65536 b && leb 65536 c)) && (leb 65536 d && leb 5130 n)) ≡ true = h.1 in
    grind (arith, nat_tests)
