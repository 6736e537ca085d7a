-- The byte order of names: `is_same` decides equality, and `is_before` is a strict total order. Assumes nothing.
use mathlib.Core.Path.{◌≡◌, refl, sym, ◌∙◌}
use mathlib.Core.Bool.{true, false, ◌&&◌, ◌||◌, or-true, false≢true}
use mathlib.Core.List.{List, [], ◌∷◌}
use Prim.Native.Nat.{ℕ, ◌<◌}
use native.Mathlib.Omega.{arith}
use borrow.Author.Tests.{eqb-true, eqb-false, eq-eqb, ltb-true, ltb-false, lt-ltb, le-ltb}
use lib.Dec.{eqb, ltb}
use Rattle.std.proofs.lemmas.Bool.{and_parts}
use Rattle.spec.proofs.Choice.{by}
use Rattle.spec.specs.Bytes.{is_same, is_before}

-- the same bytes are the same name
pub same_eq : (a b : List ℕ) → is_same a b ≡ true → a ≡ b
unfolding is_same
same_eq [] [] h = refl
same_eq [] (y ∷ b) h = absurd (false≢true h)
same_eq (x ∷ a) [] h = absurd (false≢true h)
same_eq (x ∷ a) (y ∷ b) h =
    let p : x ≡ y = eqb-true x y ((and_parts (eqb x y) (is_same a b) h).0) in
    let q : a ≡ b = same_eq a b ((and_parts (eqb x y) (is_same a b) h).1) in
    cc

pub same_refl : (a : List ℕ) → is_same a a ≡ true
unfolding is_same
same_refl [] = refl
same_refl (x ∷ a) = rw (eq-eqb x x refl) (same_refl a)

pub eq_same : (a b : List ℕ) → a ≡ b → is_same a b ≡ true
eq_same a b h = rw h (same_refl b)

pub same_sym : (a b : List ℕ) → is_same a b ≡ true → is_same b a ≡ true
same_sym a b h = eq_same b a (sym (same_eq a b h))

-- no name comes before itself
pub before_irrefl : (a : List ℕ) → is_before a a ≡ false
unfolding is_before
before_irrefl [] = refl
before_irrefl (x ∷ a) = rw (le-ltb x x (omega arith), eq-eqb x x refl) (before_irrefl a)

-- of two names with a byte in front: the first comes before the second by that byte, or by the rest behind the same byte
before_cases : {P : Type 0} (x : ℕ) (a : List ℕ) (y : ℕ) (b : List ℕ) → is_before (x ∷ a) (y ∷ b) ≡ true
    → (x < y → P) → (x ≡ y → is_before a b ≡ true → P) → P
unfolding is_before
before_cases x a y b h p q =
    by (ltb x y) (λ e. p (ltb-true x y e))
    (λ e. let k : (eqb x y && is_before a b) ≡ true = rw e at h in
    q (eqb-true x y ((and_parts (eqb x y) _ k).0)) ((and_parts (eqb x y) _ k).1))

before_byte : (x : ℕ) (a : List ℕ) (y : ℕ) (b : List ℕ) → x < y → is_before (x ∷ a) (y ∷ b) ≡ true
unfolding is_before
before_byte x a y b h = rw (lt-ltb x y h)

before_rest : (x : ℕ) (a : List ℕ) (y : ℕ) (b : List ℕ) → x ≡ y → is_before a b ≡ true → is_before (x ∷ a) (y ∷ b) ≡ true
unfolding is_before
before_rest x a y b h k = rw (le-ltb x y (omega arith), eq-eqb x y h) k

pub before_trans : (a b c : List ℕ) → is_before a b ≡ true → is_before b c ≡ true → is_before a c ≡ true
unfolding is_before
before_trans [] [] c h k = absurd (false≢true h)
before_trans [] (y ∷ b) [] h k = absurd (false≢true k)
before_trans [] (y ∷ b) (z ∷ c) h k = refl
before_trans (x ∷ a) [] c h k = absurd (false≢true h)
before_trans (x ∷ a) (y ∷ b) [] h k = absurd (false≢true k)
before_trans (x ∷ a) (y ∷ b) (z ∷ c) h k =
    before_cases x a y b h
    (λ l. before_cases y b z c k (λ m. before_byte x a z c (omega arith)) (λ e m. before_byte x a z c (omega arith)))
    (λ d l. before_cases y b z c k (λ m. before_byte x a z c (omega arith))
    (λ e m. before_rest x a z c (d ∙ e) (before_trans a b c l m)))

-- of two names the one comes before the other, or they are the same
pub by_order : {P : Type 0} (a b : List ℕ) → (is_before a b ≡ true → P) → (is_same a b ≡ true → P) → (is_before b a ≡ true → P) → P
unfolding is_before is_same
by_order [] [] p q r = q refl
by_order [] (y ∷ b) p q r = p refl
by_order (x ∷ a) [] p q r = r refl
by_order (x ∷ a) (y ∷ b) p q r =
    by (ltb x y) (λ e. p (before_byte x a y b (ltb-true x y e)))
    (λ e. by (eqb x y)
    (λ d. let k : x ≡ y = eqb-true x y d in
    by_order a b (λ l. p (before_rest x a y b k l)) (λ l. q (rw d l)) (λ l. r (before_rest y b x a (sym k) l)))
    (λ d. r (before_byte y b x a (omega (arith, ltb-false x y e, eqb-false x y d)))))

pub before_total : (a b : List ℕ) → (is_before a b || (is_same a b || is_before b a)) ≡ true
before_total a b =
    by_order a b (λ h. rw h) (λ h. simp (h, or-true)) (λ h. simp (h, or-true))

-- at most one of the three
pub before_not_same : (a b : List ℕ) → is_before a b ≡ true → is_same a b ≡ false
before_not_same a b h =
    by (is_same a b) (λ e. absurd (false≢true (sym (before_irrefl b) ∙ (rw (same_eq a b e) at h)))) (λ e. e)

pub before_not_after : (a b : List ℕ) → is_before a b ≡ true → is_before b a ≡ false
before_not_after a b h =
    by (is_before b a) (λ e. absurd (false≢true (sym (before_irrefl a) ∙ before_trans a b a h e))) (λ e. e)
