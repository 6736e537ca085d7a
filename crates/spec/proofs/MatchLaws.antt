-- A word or needle at an offset of a text, byte by byte, and a word with its edges. Assumes nothing.
use Rattle.std.proofs.lemmas.Bool.{and_from, and_parts}
use mathlib.Core.Path.{◌≡◌, refl, sym, ap, ◌∙◌}
use mathlib.Core.Bool.{Bool, true, false, not, ◌&&◌, false≢true}
use mathlib.Core.List.{List, [], ◌∷◌, reverse}
use Prim.Native.Nat.{ℕ, zero, suc, ◌+◌, ◌-◌, ◌≤◌, ◌<◌, suc-le-suc}
use native.Mathlib.Nat.{le_of_suc-le-suc}
use native.Mathlib.Omega.{arith}
use borrow.Author.Tests.{eqb-true, eq-eqb, not-true}
use lib.Dec.{eqb}
use lib.ListN.{length, take, drop, get_or, length-drop}
use lib.Seq.{get_or-drop}
use Rattle.spec.proofs.WalkLaws.{live_inside, word_at, byte_before, prefix_by_len}
use Rattle.spec.specs.Bytes.{upper, prefix_by}
use Rattle.spec.specs.Map.{marked, front_byte}
use Rattle.spec.specs.Search.{word_here}

-- ---- what stands at an offset

-- bytes compared by f agree at each place of w
pub record Same (f : ℕ → ℕ) (w xs : List ℕ) (j : ℕ) : Type 0 where
  pub fits : j + length w ≤ length xs
  pub same : (i : ℕ) → i < length w → f (get_or xs (j + i) 0) ≡ f (get_or w i 0)

prefix_same : (f : ℕ → ℕ) (w xs : List ℕ) → prefix_by f w xs ≡ true → (i : ℕ) → i < length w → f (get_or xs i 0) ≡ f (get_or w i 0)
unfolding prefix_by
prefix_same f [] xs h i k = absurd (omega arith)
prefix_same f (a ∷ w) [] h i k = absurd (false≢true h)
prefix_same f (a ∷ w) (x ∷ xs) h zero k = eqb-true (f x) (f a) ((and_parts (eqb (f x) (f a)) (prefix_by f w xs) h).0)
prefix_same f (a ∷ w) (x ∷ xs) h (suc i) k =
    prefix_same f w xs ((and_parts (eqb (f x) (f a)) (prefix_by f w xs) h).1) i (le_of_suc-le-suc k)

same_prefix : (f : ℕ → ℕ) (w xs : List ℕ) → length w ≤ length xs → ((i : ℕ) → i < length w → f (get_or xs i 0) ≡ f (get_or w i 0)) → prefix_by f w xs ≡ true
unfolding prefix_by
same_prefix f [] xs h s = refl
same_prefix f (a ∷ w) [] h s = absurd (omega arith)
same_prefix f (a ∷ w) (x ∷ xs) h s =
    and_from (eqb (f x) (f a)) (prefix_by f w xs) (eq-eqb (f x) (f a) (s 0 (omega arith)))
    (same_prefix f w xs (le_of_suc-le-suc h) (λ i k. s (suc i) (suc-le-suc k)))

-- w stands at j of xs exactly if the bytes agree
pub prefix_at : (f : ℕ → ℕ) (w xs : List ℕ) (j : ℕ) → j ≤ length xs → prefix_by f w (drop j xs) ≡ true → Same f w xs j
prefix_at f w xs j h e =
    record {
      fits = omega (arith, prefix_by_len f w (drop j xs) e, length-drop j xs);
      same = λ i k. ap f (sym (get_or-drop j xs i 0)) ∙ prefix_same f w (drop j xs) e i k;
    }

pub at_prefix : (f : ℕ → ℕ) (w xs : List ℕ) (j : ℕ) → Same f w xs j → prefix_by f w (drop j xs) ≡ true
at_prefix f w xs j s =
    same_prefix f w (drop j xs) (omega (arith, s.fits, length-drop j xs)) (λ i k. ap f (get_or-drop j xs i 0) ∙ s.same i k)

-- ---- words

-- at offset j of xs, whose map is ms, the byte is live, w stands there ignoring ASCII case, and no byte of the set stands
-- on either side
pub record IsWordAt (set : ℕ → Bool) (xs ms w : List ℕ) (j : ℕ) : Type 0 where
  pub is_live_lem : get_or ms j 1 ≡ 0
  pub matches : Same upper w xs j
  pub before : 0 < j → set (get_or xs (j - 1) 0) ≡ false
  pub behind : set (get_or xs (j + length w) 0) ≡ false

none_before : (set : ℕ → Bool) (xs ms : List ℕ) → set 0 ≡ false → (j : ℕ) → j ≤ length xs
    → (0 < j → set (get_or xs (j - 1) 0) ≡ false)
    → set (front_byte (reverse (take j (marked xs ms)))) ≡ false
unfolding front_byte
none_before set xs ms o zero m q = o
none_before set xs ms o (suc j) m q = ap set (byte_before xs ms (suc j) (omega arith) m) ∙ q (omega arith)

module _ (set : ℕ → Bool) (xs ms w : List ℕ) (e : length ms ≡ length xs) (j : ℕ) where
  -- the test of a word says that, for every set of word bytes
  pub word_sound : word_here set w (front_byte (reverse (take j (marked xs ms)))) (drop j (marked xs ms)) ≡ true → IsWordAt set xs ms w j
  word_sound h =
      let a = eqb (get_or ms j 1) 0 in
      let b = prefix_by upper w (drop j xs) in
      let p = front_byte (reverse (take j (marked xs ms))) in
      let c = not (set p) in
      let d = not (set (get_or xs (j + length w) 0)) in
      let one = sym (word_at set w xs ms e j) ∙ h in
      let two = (and_parts a (b && (c && d)) one).1 in
      let three = (and_parts b (c && d) two).1 in
      let l = eqb-true (get_or ms j 1) 0 ((and_parts a (b && (c && d)) one).0) in
      let m : j ≤ length xs = omega (arith, live_inside ms j l) in
      record {
        is_live_lem = l;
        matches = prefix_at upper w xs j m ((and_parts b (c && d) two).0);
        before = λ z. ap set (sym (byte_before xs ms j z m)) ∙ not-true (set p) ((and_parts c d three).0);
        behind = not-true (set (get_or xs (j + length w) 0)) ((and_parts c d three).1);
      }

  pub word_complete : set 0 ≡ false → IsWordAt set xs ms w j → word_here set w (front_byte (reverse (take j (marked xs ms)))) (drop j (marked xs ms)) ≡ true
  word_complete o r =
      let a = eqb (get_or ms j 1) 0 in
      let b = prefix_by upper w (drop j xs) in
      let c = not (set (front_byte (reverse (take j (marked xs ms))))) in
      let d = not (set (get_or xs (j + length w) 0)) in
      let m : j ≤ length xs = omega (arith, r.matches.fits) in
      word_at set w xs ms e j
      ∙ and_from a (b && (c && d)) (eq-eqb (get_or ms j 1) 0 r.is_live_lem)
      (and_from b (c && d) (at_prefix upper w xs j r.matches) (and_from c d (ap not (none_before set xs ms o j m r.before)) (ap not r.behind)))
