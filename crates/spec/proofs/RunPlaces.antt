-- Runs of bytes that pass a test, forwards and backwards from an offset of a statement: where they end and start, and that
-- there is one such place only. Assumes nothing.
use mathlib.Core.Path.{◌≡◌, refl, sym, ap, ◌∙◌, subst}
use mathlib.Core.Bool.{Bool, true, false}
use mathlib.Core.List.{List, [], ◌∷◌, ◌++◌, reverse, reverse-cons}
use Prim.Native.Nat.{ℕ, zero, suc, ◌+◌, ◌-◌, ◌≤◌, ◌<◌}
use native.Mathlib.Numerals.{add-one}
use native.Mathlib.Omega.{arith}
use borrow.Author.Tests.{ltb-true, ltb-false, both_ways}
use lib.Dec.{ltb}
use lib.ListN.{length, take, drop, get_or, length-drop, length-map, get_or-map, get_or-eq_default}
use lib.Seq.{take-suc, get_or-drop, drop-drop, length-take-le}
use Rattle.spec.proofs.AheadLaws.{drop_front}
use Rattle.spec.proofs.BytesLaws.{bytes_take, bytes_drop, front_bytes, while_length_bytes, end_length_bytes}
use Rattle.spec.proofs.Choice.{by, neither_less}
use Rattle.spec.proofs.EndLaws.{end_sum}
use Rattle.spec.proofs.RefusalBounds.{bytes_length}
use Rattle.spec.proofs.TargetPlaces.{flag_of, flags, byte_at}
use Rattle.spec.specs.Parts.{part}
use Rattle.spec.proofs.WalkLaws.{back_step, while_take, while_drop, while_length, while_passes_at, while_fails_at}
use Rattle.spec.specs.Lists.{take_while, drop_while, drop_end}
use Rattle.spec.specs.Map.{Marked, live, quoted, byte, bytes, marked, front_byte, of_byte}

-- ---- a statement is its bytes beside its map

pub flags_length : (t : List Marked) → length (flags t) ≡ length (bytes t)
unfolding flags bytes
flags_length t = length-map t flag_of ∙ sym (length-map t byte)

pub marked_flags : (t : List Marked) → marked (bytes t) (flags t) ≡ t
unfolding marked bytes flags
marked_flags [] = refl
marked_flags (live c ∷ t) = ap (λ (u : List Marked). live c ∷ u) (marked_flags t)
marked_flags (quoted c ∷ t) = ap (λ (u : List Marked). quoted c ∷ u) (marked_flags t)

-- the byte at i, at the front of what stands from i on
pub byte_ahead : (t : List Marked) (i : ℕ) → front_byte (drop i t) ≡ byte_at t i
byte_ahead t i = front_bytes (drop i t) ∙ (ap (λ (l : List ℕ). get_or l 0 0) (bytes_drop i t) ∙ drop_front (bytes t) i 0)

byte_of : (t : List Marked) (i : ℕ) → byte_at t i ≡ byte (get_or t i (quoted 0))
unfolding bytes
byte_of t i = get_or-map byte t i (quoted 0)

-- a byte that is not 0 stands within the statement
pub byte_inside : (t : List Marked) (i : ℕ) → 0 < byte_at t i → i < length t
byte_inside t i h =
    by (ltb i (length (bytes t))) (λ q. omega (arith, ltb-true i (length (bytes t)) q, bytes_length t))
    (λ q. absurd (omega (arith, get_or-eq_default (bytes t) 0 (ltb-false i (length (bytes t)) q))))

-- the byte before i, within the statement
pub byte_behind : (t : List Marked) (i : ℕ) → 0 < i → i ≤ length t → front_byte (reverse (take i t)) ≡ byte_at t (i - 1)
unfolding front_byte
byte_behind t i p h =
    let k : i ≡ i - 1 + 1 = omega arith in
    ap (λ (j : ℕ). front_byte (reverse (take j t))) k
    ∙ (rw (back_step t (i - 1) (quoted 0) (omega arith)) refl ∙ sym (byte_of t (i - 1)))

back_suc : (t : List Marked) (i : ℕ) → i < length t → reverse (take (suc i) t) ≡ get_or t i (quoted 0) ∷ reverse (take i t)
back_suc t i h = ap (λ (k : ℕ). reverse (take k t)) (sym (add-one i)) ∙ back_step t i (quoted 0) h

-- and what stands before that byte
pub back_rest : (t : List Marked) (i : ℕ) → i ≤ length t → drop 1 (reverse (take i t)) ≡ reverse (take (i - 1) t)
back_rest t zero h = refl
back_rest t (suc i) h =
    let k : suc i - 1 ≡ i = omega arith in
    rw (back_suc t i h, k) refl

-- ---- runs

module _ {A : Type 0} (f : A → Bool) (xs : List A) (i : ℕ) where
  -- where the run from i on ends
  abbrev pub end_from : ℕ
  end_from = i + length (take_while f (drop i xs))

  -- where the run before i starts
  abbrev pub start_from : ℕ
  start_from = length (drop_end f (take i xs))

module _ (f : ℕ → Bool) (t : List Marked) where
  -- what passes from i on ends at e
  pub record Ahead (i e : ℕ) : Type 0 where
    pub from : i ≤ e
    pub fits : i ≤ length t → e ≤ length t
    pub all : (k : ℕ) → i ≤ k → k < e → f (byte_at t k) ≡ true
    pub stops : e < length t → f (byte_at t e) ≡ false
    pub long : length (take_while (of_byte f) (drop i t)) ≡ e - i
    pub front : take_while (of_byte f) (drop i t) ≡ part i e t
    pub rest : drop_while (of_byte f) (drop i t) ≡ drop e t

  -- such an end there is
  pub ahead : (i : ℕ) → Ahead i (end_from (of_byte f) t i)
  unfolding of_byte
  ahead i =
      let n = length (take_while (of_byte f) (drop i t)) in
      let m : i + n - i ≡ n = omega arith in
      record {
        from = omega arith;
        fits = λ h. omega (arith, while_length (of_byte f) (drop i t), length-drop i t);
        all = λ k a b. ap f (byte_of t k) ∙ while_passes_at (of_byte f) t (quoted 0) i k a b;
        stops = λ h. ap f (byte_of t (i + n)) ∙ while_fails_at (of_byte f) t (quoted 0) i h;
        long = sym m;
        front = while_take (of_byte f) (drop i t) ∙ ap (λ (k : ℕ). take k (drop i t)) (sym m);
        rest = while_drop (of_byte f) (drop i t) ∙ drop-drop n i t;
      }

  -- and only one
  pub end_same : (i e a : ℕ) → Ahead i e → i ≤ a → a ≤ length t
      → ((k : ℕ) → i ≤ k → k < a → f (byte_at t k) ≡ true)
      → (a < length t → f (byte_at t a) ≡ false)
      → e ≡ a
  end_same i e a r h w g s =
      neither_less e a
      (λ l. both_ways _ (r.stops (omega arith)) (g e r.from l))
      (λ l. both_ways _ (s (omega (arith, r.fits (omega arith)))) (r.all a h l))

  -- by the bytes xs of t
  pub ahead_at : (xs : List ℕ) → bytes t ≡ xs → (i e : ℕ) → e ≡ end_from f xs i → Ahead i e
  ahead_at xs same i e h =
      let n : length (take_while (of_byte f) (drop i t)) ≡ length (take_while f (drop i xs)) =
      while_length_bytes f (drop i t) ∙ ap (λ (l : List ℕ). length (take_while f l)) (bytes_drop i t ∙ ap (drop i) same) in
      let k : end_from (of_byte f) t i ≡ e = omega arith in
      subst (λ (m : ℕ). Ahead i m) k (ahead i)

  -- what passes back from i starts at s
  pub record Behind (s i : ℕ) : Type 0 where
    pub upto : s ≤ i
    pub all : (k : ℕ) → s ≤ k → k < i → f (byte_at t k) ≡ true
    pub stops : 0 < s → f (byte_at t (s - 1)) ≡ false
    pub long : length (take_while (of_byte f) (reverse (take i t))) ≡ i - s
    pub front : reverse (take_while (of_byte f) (reverse (take i t))) ≡ part s i t
    pub rest : drop_while (of_byte f) (reverse (take i t)) ≡ reverse (take s t)

  -- one byte more
  longer : (i : ℕ) → i < length t → f (byte_at t i) ≡ true → (s : ℕ) → Behind s i → Behind s (suc i)
  unfolding take_while drop_while of_byte
  longer i h e s r =
      let x = get_or t i (quoted 0) in
      let back = back_suc t i h in
      let p : f (byte x) ≡ true = ap f (sym (byte_of t i)) ∙ e in
      let n : suc i - s ≡ suc (i - s) = omega (arith, r.upto) in
      let m : s + (i - s) ≡ i = omega (arith, r.upto) in
      let last = get_or-drop s t (i - s) (quoted 0) ∙ ap (λ (k : ℕ). get_or t k (quoted 0)) m in
      record {
        upto = omega (arith, r.upto);
        all = λ k a b. by (ltb k i) (λ q. r.all k a (ltb-true k i q)) (λ q.
            let z : k ≡ i = omega (arith, ltb-false k i q) in
            rw z e);
        stops = r.stops;
        long = rw (back, p, n) (ap suc r.long);
        front =
            rw (back, p, n)
            (reverse-cons x (take_while (of_byte f) (reverse (take i t)))
            ∙ (ap (λ (l : List Marked). l ++ (x ∷ [])) r.front
            ∙ (ap (λ (y : Marked). take (i - s) (drop s t) ++ (y ∷ [])) (sym last)
            ∙ sym (take-suc (drop s t) (i - s) (quoted 0) (omega (arith, length-drop s t, r.upto))))));
        rest = rw (back, p) r.rest;
      }

  -- a byte that fails ends the run
  empty : (i : ℕ) → i < length t → f (byte_at t i) ≡ false → Behind (suc i) (suc i)
  unfolding take_while drop_while of_byte
  empty i h e =
      let x = get_or t i (quoted 0) in
      let back = back_suc t i h in
      let p : f (byte x) ≡ false = ap f (sym (byte_of t i)) ∙ e in
      let z : suc i - suc i ≡ 0 = omega arith in
      let m : suc i - 1 ≡ i = omega arith in
      record {
        upto = omega arith;
        all = λ k a b. absurd (omega arith);
        stops = λ _. rw m e;
        long = rw (back, p, z) refl;
        front = rw (back, p, z) refl;
        rest = rw (back, p) refl;
      }

  -- such a start there is
  pub behind : (i : ℕ) → i ≤ length t → (s : ℕ) × Behind s i
  unfolding take_while drop_while
  behind zero h = (
    0,
    record {
      upto = omega arith;
      all = λ k a b. absurd (omega arith);
      stops = λ z. absurd (omega arith);
      long = refl;
      front = refl;
      rest = refl;
    },
  )
  behind (suc i) h =
      let r = behind i (omega arith) in
      by (f (byte_at t i)) (λ e. (r.0, longer i h e r.0 r.1)) (λ e. (suc i, empty i h e))

  -- by the bytes xs of t
  pub behind_at : (xs : List ℕ) → bytes t ≡ xs → (i s : ℕ) → i ≤ length xs → s ≡ start_from f xs i → Behind s i
  behind_at xs same i s h e =
      let fits : i ≤ length t = omega (arith, bytes_length t, ap length same) in
      let r = behind i fits in
      let n : start_from (of_byte f) t i ≡ start_from f xs i =
      end_length_bytes f (take i t) ∙ ap (λ (l : List ℕ). length (drop_end f l)) (bytes_take i t ∙ ap (take i) same) in
      let k : r.0 ≡ s = omega (arith, end_sum (of_byte f) (take i t), length-take-le i t fits, r.1.upto, r.1.long) in
      subst (λ (m : ℕ). Behind m i) k r.1

  -- and only one
  pub start_same : (i s a : ℕ) → Behind s i → a ≤ i
      → ((k : ℕ) → a ≤ k → k < i → f (byte_at t k) ≡ true)
      → (0 < a → f (byte_at t (a - 1)) ≡ false)
      → s ≡ a
  start_same i s a r h g e =
      neither_less s a
      (λ l. both_ways _ (e (omega arith)) (r.all (a - 1) (omega arith) (omega arith)))
      (λ l. both_ways _ (r.stops (omega arith)) (g (s - 1) (omega arith) (omega (arith, r.upto))))
