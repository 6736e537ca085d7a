-- Two different constructors are never equal: `cc` makes `0 ≡ 1` of such an equation. Assumes nothing.
use mathlib.Core.Path.{◌≡◌}
use Prim.Native.Nat.{ℕ}
use native.Mathlib.Omega.{arith}

pub apart : ◌≡◌ {A = ℕ} 0 1 → ⊥
apart h = omega arith
