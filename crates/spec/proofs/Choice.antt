-- Choices by a Bool, and by the order of two numbers. Assumes nothing.
pub use Rattle.std.proofs.lemmas.Bool.{or_left as or_first, or_right as or_second}
use Rattle.std.specs.Prelude.{Some, None}
use mathlib.Core.Path.{◌≡◌, refl}
use mathlib.Core.Bool.{Bool, true, false, cond, ◌||◌}
use Prim.Native.Nat.{ℕ, ◌≤◌, ◌<◌}
use native.Mathlib.Omega.{arith}
use borrow.Author.Tests.{ltb-true, ltb-false}
use lib.Dec.{ltb}
use Rattle.spec.proofs.Apart.{apart}

-- a proof by the two cases of a test, each with its equation
pub by : {P : Type 0} (b : Bool) → (b ≡ true → P) → (b ≡ false → P) → P
by true p q = p refl
by false p q = q refl

-- two numbers of which neither is less are one
pub neither_less : (m n : ℕ) → (m < n → ⊥) → (n < m → ⊥) → m ≡ n
neither_less m n a b =
    by (ltb m n) (λ q. absurd (a (ltb-true m n q)))
    (λ q. by (ltb n m) (λ r. absurd (b (ltb-true n m r))) (λ r. omega (arith, ltb-false m n q, ltb-false n m r)))

-- of something that is made unless b: made, b is false; not made, b is true
pub made_some : {A : Type 0} (b : Bool) (x d : A) → cond b None (Some x) ≡ Some d → (b ≡ false) × (x ≡ d)
made_some true x d e = absurd (apart (cc))
made_some false x d e = (refl, cc)

pub made_none : {A : Type 0} (b : Bool) (x : A) → cond b None (Some x) ≡ None → b ≡ true
made_none true x e = refl
made_none false x e = absurd (apart (cc))

-- a choice is within a bound that both arms are within
pub cond_le : (b : Bool) (x y n : ℕ) → x ≤ n → y ≤ n → cond b x y ≤ n
cond_le true x y n p q = p
cond_le false x y n p q = q

-- where `or` holds, one side holds
pub or_cases : {P : Type 0} (a b : Bool) → (a || b) ≡ true → (a ≡ true → P) → (b ≡ true → P) → P
or_cases true b h p q = p refl
or_cases false b h p q = q h
