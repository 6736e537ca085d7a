-- The leading closed `'` literal as a grammar with no walk in it: the definition reads exactly that. Assumes nothing.
use mathlib.Core.Path.{◌≡◌, sym, ap, ◌∙◌}
use mathlib.Core.Bool.{cond}
use mathlib.Core.Logic.{◌↔◌}
use mathlib.Core.List.{List, [], ◌∷◌, ◌++◌}
use Prim.Native.Nat.{ℕ, ◌+◌, ◌<◌}
use native.Mathlib.Omega.{arith}
use borrow.Author.Tests.{eq-eqb, ne_eqb, eqb-true, eqb-false}
use lib.Dec.{eqb}
use lib.ListN.{length, drop, get_or, length-append}
use Rattle.spec.proofs.Apart.{apart}
use Rattle.spec.proofs.Choice.{by}
use Rattle.spec.specs.Map.{Marked, byte, bytes, front_byte}
use Rattle.spec.specs.Raise.{close_len}

-- what stands between the quotes: bytes that are no `'`, a backslash like any other, and `''`
pub data Inside : List ℕ → Type 0 where
  empty : Inside []
  plain : {c : ℕ} {s : List ℕ} → (c ≡ 39 → ⊥) → Inside s → Inside (c ∷ s)
  doubled : {s : List ℕ} → Inside s → Inside (39 ∷ 39 ∷ s)

-- the first n bytes of xs are a closed `'` literal: a quote, an inside, and a quote with no other directly behind it
pub record IsLiteral (xs : List ℕ) (n : ℕ) : Type 0 where
  pub inside : List ℕ
  pub rest : List ℕ
  pub split : xs ≡ 39 ∷ (inside ++ (39 ∷ rest))
  pub reads : Inside inside
  pub single : get_or rest 0 0 ≡ 39 → ⊥
  pub size : n ≡ length inside + 2

-- ---- behind the opening quote

record Closes (ys : List ℕ) (n : ℕ) : Type 0 where
  pub inside : List ℕ
  pub rest : List ℕ
  pub split : ys ≡ inside ++ (39 ∷ rest)
  pub reads : Inside inside
  pub single : get_or rest 0 0 ≡ 39 → ⊥
  pub size : n ≡ length inside + 1

-- a length from k bytes further back, 0 staying 0
unfoldable later : ℕ → ℕ → ℕ
later k n = cond (eqb n 0) 0 (k + n)

later_some : (k n : ℕ) → 0 < n → later k n ≡ k + n
unfolding later
later_some k n h = rw (ne_eqb n 0 (λ q. omega arith))

some_later : (k n : ℕ) → 0 < later k n → 0 < n
unfolding later
some_later k n h =
    by (eqb n 0) (λ e. let z : 0 < 0 = rw e at h in absurd (omega arith)) (λ e. omega (arith, eqb-false n 0 e))

module _ (x y : Marked) (t : List Marked) where
  close_doubled : byte x ≡ 39 → byte y ≡ 39 → close_len (x ∷ y ∷ t) ≡ later 2 (close_len t)
  unfolding close_len later
  close_doubled p q = simp (eq-eqb (byte x) 39 p, eq-eqb (byte y) 39 q)

  close_single : byte x ≡ 39 → (byte y ≡ 39 → ⊥) → close_len (x ∷ y ∷ t) ≡ 1
  unfolding close_len
  close_single p q = simp (eq-eqb (byte x) 39 p, ne_eqb (byte y) 39 q)

  close_other : (byte x ≡ 39 → ⊥) → close_len (x ∷ y ∷ t) ≡ later 1 (close_len (y ∷ t))
  unfolding close_len later
  close_other p = simp (ne_eqb (byte x) 39 p)

close_last : (x : Marked) → byte x ≡ 39 → close_len (x ∷ []) ≡ 1
unfolding close_len
close_last x p = simp (eq-eqb (byte x) 39 p)

close_open : (x : Marked) → (byte x ≡ 39 → ⊥) → close_len (x ∷ []) ≡ 0
unfolding close_len
close_open x p = simp (ne_eqb (byte x) 39 p)

-- it closes here
closes_here : (x : Marked) (r : List ℕ) (n : ℕ) → byte x ≡ 39 → (get_or r 0 0 ≡ 39 → ⊥) → n ≡ 1 → Closes (byte x ∷ r) n
closes_here x r n p q e =
    record { inside = []; rest = r; split = ap (λ (c : ℕ). c ∷ r) p; reads = empty; single = q; size = omega arith }

-- one further back, behind a byte that is no quote, and two further back, behind `''`
module _ (x : Marked) (ys : List ℕ) (m n : ℕ) (w : Closes ys m) where
  closes_behind : (byte x ≡ 39 → ⊥) → n ≡ 1 + m → Closes (byte x ∷ ys) n
  closes_behind p e =
      record {
        inside = byte x ∷ w.inside;
        rest = w.rest;
        split = ap (λ (l : List ℕ). byte x ∷ l) w.split;
        reads = plain p w.reads;
        single = w.single;
        size = omega (arith, w.size);
      }

  closes_pair : (y : Marked) → byte x ≡ 39 → byte y ≡ 39 → n ≡ 2 + m → Closes (byte x ∷ byte y ∷ ys) n
  closes_pair y p q e =
      record {
        inside = 39 ∷ 39 ∷ w.inside;
        rest = w.rest;
        split = rw (p, q, w.split);
        reads = doubled w.reads;
        single = w.single;
        size = omega (arith, w.size);
      }

-- the literal that the walk closes is one
close_sound : (t : List Marked) → 0 < close_len t → Closes (bytes t) (close_len t)
unfolding bytes close_len
close_sound [] h = absurd (omega arith)
close_sound (x ∷ []) h =
    by (eqb (byte x) 39)
    (λ e. let p = eqb-true (byte x) 39 e in closes_here x [] _ p (λ q. omega arith) (close_last x p))
    (λ e. absurd (omega (arith, close_open x (eqb-false (byte x) 39 e))))
close_sound (x ∷ y ∷ t) h =
    let further : (k n : ℕ) → close_len (x ∷ y ∷ t) ≡ later k n → (0 < n) × (close_len (x ∷ y ∷ t) ≡ k + n) =
    λ k n e. let g = some_later k n (rw e at h) in (g, e ∙ later_some k n g) in
    by (eqb (byte x) 39)
    (λ e.
    let p = eqb-true (byte x) 39 e in
    by (eqb (byte y) 39)
    (λ f.
    let q = eqb-true (byte y) 39 f in
    let r = further 2 (close_len t) (close_doubled x y t p q) in
    closes_pair x (bytes t) (close_len t) _ (close_sound t r.0) y p q r.1)
    (λ f. let q = eqb-false (byte y) 39 f in closes_here x (bytes (y ∷ t)) _ p q (close_single x y t p q)))
    (λ e.
    let p = eqb-false (byte x) 39 e in
    let r = further 1 (close_len (y ∷ t)) (close_other x y t p) in
    closes_behind x (bytes (y ∷ t)) (close_len (y ∷ t)) _ (close_sound (y ∷ t) r.0) p r.1)

-- and the walk closes each one that is
close_complete : {s : List ℕ} → Inside s → (t : List Marked) (r : List ℕ) → bytes t ≡ s ++ (39 ∷ r) → (get_or r 0 0 ≡ 39 → ⊥)
    → close_len t ≡ length s + 1
unfolding bytes
close_complete empty [] r e q = absurd (apart (cc))
close_complete empty (x ∷ []) r e q = close_last x (cc)
close_complete empty (x ∷ y ∷ t) r e q =
    let f : bytes (y ∷ t) ≡ r = cc in
    close_single x y t (cc) (λ h. q (ap (λ (l : List ℕ). get_or l 0 0) (sym f) ∙ h))
close_complete (plain p i) [] r e q = absurd (apart (cc))
close_complete (plain {c} {s} p i) (x ∷ []) r e q =
    let f : [] ≡ s ++ (39 ∷ r) = cc in
    absurd (omega (arith, length-append s (39 ∷ r), ap length f))
close_complete (plain {c} {s} p i) (x ∷ y ∷ t) r e q =
    let f : bytes (y ∷ t) ≡ s ++ (39 ∷ r) = cc in
    let g : byte x ≡ c = cc in
    let n = close_complete i (y ∷ t) r f q in
    close_other x y t (λ h. p (sym g ∙ h)) ∙ (later_some 1 (close_len (y ∷ t)) (omega arith) ∙ omega arith)
close_complete (doubled i) [] r e q = absurd (apart (cc))
close_complete (doubled i) (x ∷ []) r e q = absurd (apart (cc))
close_complete (doubled {s} i) (x ∷ y ∷ t) r e q =
    let f : bytes t ≡ s ++ (39 ∷ r) = cc in
    let n = close_complete i t r f q in
    close_doubled x y t (cc) (cc) ∙ (later_some 2 (close_len t) (omega arith) ∙ omega arith)

-- ---- the literal in front of a text

module _ (t : List Marked) where
  -- a closed literal of n bytes stands in front exactly if a quote does and the walk closes it with n bytes
  pub literal_exactly : (n : ℕ)
      → ((front_byte t ≡ 39) × (0 < close_len (drop 1 t)) × (n ≡ 1 + close_len (drop 1 t))) ↔ IsLiteral (bytes t) n
  unfolding bytes front_byte close_len
  literal_exactly n = ((λ w. to t w.0 w.1 w.2), from t)
    where
      to : (t : List Marked) → front_byte t ≡ 39 → 0 < close_len (drop 1 t) → n ≡ 1 + close_len (drop 1 t) → IsLiteral (bytes t) n
      to [] p h e = absurd (omega arith)
      to (x ∷ u) p h e =
          let w = close_sound u h in
          record {
            inside = w.inside;
            rest = w.rest;
            split = rw (p, w.split);
            reads = w.reads;
            single = w.single;
            size = omega (arith, w.size);
          }

      from : (t : List Marked) → IsLiteral (bytes t) n
          → (front_byte t ≡ 39) × (0 < close_len (drop 1 t)) × (n ≡ 1 + close_len (drop 1 t))
      from [] l = let e = l.split in absurd (apart (cc))
      from (x ∷ u) l =
          let e = l.split in
          let f : bytes u ≡ l.inside ++ (39 ∷ l.rest) = cc in
          let n = close_complete l.reads u l.rest f l.single in
          ((cc), omega arith, omega (arith, l.size))
