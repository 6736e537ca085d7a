-- A text read from an index on: what stands there, one step of each search, of `take_while` and `drop_while`, and the pieces
-- up to a separator, for every test. Assumes nothing.
use Rattle.std.specs.Prelude.{Some, None}
use Rattle.std.proofs.lemmas.List.{get_or_default, drop_more}
use Rattle.std.proofs.lemmas.Option.{none-some}
use mathlib.Core.Path.{◌≡◌, refl, sym, ap, ◌∙◌, subst}
use mathlib.Core.Bool.{Bool, true, false, cond, not, ◌&&◌, false≢true}
use mathlib.Core.List.{List, [], ◌∷◌, ◌++◌, reverse, reverse-append}
use Prim.Native.Nat.{ℕ, zero, suc, ◌+◌, ◌-◌, ◌≤◌, ◌<◌, zero-le, suc-le-suc}
use native.Mathlib.Nat.{le_of_suc-le-suc}
use native.Mathlib.Numerals.{add-one}
use native.Mathlib.Omega.{arith}
use borrow.Author.Tests.{ltb-true, ltb-false, eqb-true, eq-eqb, ne_eqb}
use lib.Dec.{eqb, ltb, eqb-suc-zero}
use lib.ListN.{length, take, drop, get_or, length-reverse, length-drop, drop_of_length-le, get_or-eq_default}
use lib.Seq.{length-take-le, take-suc, drop-nil, get_or-drop, drop-drop}
use Rattle.std.proofs.lemmas.Bool.{and_parts}
use Rattle.spec.proofs.Choice.{by, neither_less}
use Rattle.spec.proofs.MapLaws.{mark_byte, map_length, marked_length, marked_bytes}
use Rattle.spec.specs.Bytes.{is_prefix, upper, is_word, is_n, prefix_by}
use Rattle.spec.specs.Lists.{take_while, drop_while}
use Rattle.spec.specs.Map.{Marked, live, quoted, byte, is_live, mark, map_of, marked, marked_text, bytes, front_byte, front_live}
use Rattle.spec.specs.Search.{Test, first_from, first, starts_ignoring_case, starts, word_here, byte_here, needle_here, is_skipped, is_word_mark, onto_first, pieces_from, starts_from}
use Rattle.spec.specs.Answers.{kept_behind}

-- ---- lists

-- what holds from n on, and at each index below n where it holds one further on, holds everywhere
pub climb : (P : ℕ → Type 0) (n : ℕ) → ((i : ℕ) → n ≤ i → P i) → ((i : ℕ) → i < n → P (i + 1) → P i) → (i : ℕ) → P i
climb P n end step i = go (n - i) i (omega arith)
  where
    go : (k i : ℕ) → n ≤ i + k → P i
    go zero i h = end i (omega arith)
    go (suc k) i h = by (ltb i n) (λ e. step i (ltb-true i n e) (go k (i + 1) (omega arith))) (λ e. end i (ltb-false i n e))

module _ {A : Type 0} (t : List A) (i : ℕ) (d : A) (h : i < length t) where
  -- what stands before i + 1, read backwards, is the element at i, then what stands before i
  pub back_step : reverse (take (i + 1) t) ≡ get_or t i d ∷ reverse (take i t)
  back_step = rw (add-one, take-suc t i d h, reverse-append) refl

-- the byte before i + 1 is the one at i
pub before_next : (t : List Marked) (i : ℕ) → i < length t → byte (get_or t i (live 0)) ≡ front_byte (reverse (take (i + 1) t))
unfolding front_byte
before_next t i h = rw (back_step t i (live 0) h) refl

-- before i stand i elements
pub back_length : {A : Type 0} (t : List A) (i : ℕ) → i ≤ length t → length (reverse (take i t)) ≡ i
back_length t i h = length-reverse (take i t) ∙ length-take-le i t h

-- ---- a text beside a map

-- a byte beside its map byte: its byte, and what each test of marked bytes says of it
pub mark_live : (m c : ℕ) → is_live (mark m c) ≡ eqb m 0
mark_live zero c = refl
mark_live (suc m) c = sym (eqb-suc-zero m)

pub mark_skipped : (m c : ℕ) → is_skipped (mark m c) ≡ cond (eqb m 0) (is_n c) true
mark_skipped zero c = refl
mark_skipped (suc m) c = rw eqb-suc-zero refl

pub mark_word : (m c : ℕ) → is_word_mark (mark m c) ≡ (eqb m 0 && is_word c)
mark_word zero c = refl
mark_word (suc m) c = rw eqb-suc-zero refl

-- dropping from a text beside its map drops from both
pub marked_drop : (i : ℕ) (xs ms : List ℕ) → drop i (marked xs ms) ≡ marked (drop i xs) (drop i ms)
unfolding marked
marked_drop zero xs ms = refl
marked_drop (suc i) [] ms = refl
marked_drop (suc i) (c ∷ cs) [] = marked_drop i cs [] ∙ ap (λ (l : List ℕ). marked (drop i cs) l) (drop-nil i)
marked_drop (suc i) (c ∷ cs) (m ∷ ms) = marked_drop i cs ms

-- what stands in the map past the text's length does not matter
pub marked_behind : (xs ms r : List ℕ) → length xs ≤ length ms → marked xs (ms ++ r) ≡ marked xs ms
unfolding marked
marked_behind [] ms r h = refl
marked_behind (c ∷ cs) [] r h = absurd (omega arith)
marked_behind (c ∷ cs) (m ∷ ms) r h = ap (λ (t : List Marked). mark m c ∷ t) (marked_behind cs ms r (le_of_suc-le-suc h))

-- the map in front of a buffer is the text's
pub marked_kept : (xs lent : List ℕ) → marked xs (kept_behind (map_of xs) lent) ≡ marked_text xs
unfolding kept_behind marked_text
marked_kept xs lent = marked_behind xs (map_of xs) (drop (length (map_of xs)) lent) (omega (arith, map_length xs))

-- the element at i is the byte at i with the map byte at i; past the map's end a byte is live
pub marked_at_lem : (xs ms : List ℕ) (i : ℕ) (d : Marked) → i < length xs → get_or (marked xs ms) i d ≡ mark (get_or ms i 0) (get_or xs i 0)
unfolding marked
marked_at_lem [] ms i d h = absurd (omega arith)
marked_at_lem (c ∷ cs) [] zero d h = refl
marked_at_lem (c ∷ cs) [] (suc i) d h = marked_at_lem cs [] i d (le_of_suc-le-suc h)
marked_at_lem (c ∷ cs) (m ∷ ms) zero d h = refl
marked_at_lem (c ∷ cs) (m ∷ ms) (suc i) d h = marked_at_lem cs ms i d (le_of_suc-le-suc h)

module _ (xs ms : List ℕ) (i : ℕ) (h : i < length xs) where
  within_marked : i < length (marked xs ms)
  within_marked = rw marked_length h

  -- what stands from i on, and what stands before i + 1 read backwards, by the byte at i
  pub marked_step : drop i (marked xs ms) ≡ mark (get_or ms i 0) (get_or xs i 0) ∷ drop (i + 1) (marked xs ms)
  marked_step =
      drop_more (marked xs ms) i (live 0) within_marked
      ∙ ap (λ (x : Marked). x ∷ drop (i + 1) (marked xs ms)) (marked_at_lem xs ms i (live 0) h)

  pub marked_back : reverse (take (i + 1) (marked xs ms)) ≡ mark (get_or ms i 0) (get_or xs i 0) ∷ reverse (take i (marked xs ms))
  marked_back =
      back_step (marked xs ms) i (live 0) within_marked
      ∙ ap (λ (x : Marked). x ∷ reverse (take i (marked xs ms))) (marked_at_lem xs ms i (live 0) h)

  -- the byte at i is live exactly if its map byte is 0
  pub front_live_lem : front_live (drop i (marked xs ms)) ≡ eqb (get_or ms i 0) 0
  unfolding front_live
  front_live_lem = rw marked_step (mark_live (get_or ms i 0) (get_or xs i 0))

  -- the byte before i + 1
  pub back_byte : front_byte (reverse (take (i + 1) (marked xs ms))) ≡ get_or xs i 0
  unfolding front_byte
  back_byte = rw marked_back (mark_byte (get_or ms i 0) (get_or xs i 0))

-- past the end nothing is live
pub front_dead : (xs ms : List ℕ) (i : ℕ) → length xs ≤ i → front_live (drop i (marked xs ms)) ≡ false
unfolding front_live
front_dead xs ms i h =
    let k : length (marked xs ms) ≤ i = rw marked_length h in
    rw (drop_of_length-le (marked xs ms) k) refl

-- a map byte that is 0, where past the end stands 1, stands within the map
pub live_inside : (ms : List ℕ) (j : ℕ) → get_or ms j 1 ≡ 0 → j < length ms
live_inside ms j e =
    by (ltb j (length ms)) (λ q. ltb-true j (length ms) q)
    (λ q. absurd (omega (arith, get_or-eq_default ms 1 (ltb-false j (length ms) q))))

-- a byte is live exactly if its map byte is 0, past the end none
pub live_at : (xs ms : List ℕ) → length ms ≡ length xs → (j : ℕ) → front_live (drop j (marked xs ms)) ≡ eqb (get_or ms j 1) 0
live_at xs ms e j =
    by (ltb j (length xs))
    (λ q.
    let h = ltb-true j (length xs) q in
    let k : j < length ms = omega arith in
    front_live_lem xs ms j h ∙ ap (λ (m : ℕ). eqb m 0) (get_or_default ms j 0 1 k))
    (λ q.
    let h = ltb-false j (length xs) q in
    let k : length ms ≤ j = omega arith in
    front_dead xs ms j h ∙ sym (ap (λ (m : ℕ). eqb m 0) (get_or-eq_default ms 1 k)))

-- the byte at i; past the end both are 0
pub front_byte_lem : (xs ms : List ℕ) (i : ℕ) → front_byte (drop i (marked xs ms)) ≡ get_or xs i 0
unfolding front_byte marked
front_byte_lem [] ms i = rw drop-nil refl
front_byte_lem (c ∷ cs) [] zero = refl
front_byte_lem (c ∷ cs) [] (suc i) = front_byte_lem cs [] i
front_byte_lem (c ∷ cs) (m ∷ ms) zero = mark_byte m c
front_byte_lem (c ∷ cs) (m ∷ ms) (suc i) = front_byte_lem cs ms i

-- the byte before i, within the text
pub byte_before : (xs ms : List ℕ) (i : ℕ) → 0 < i → i ≤ length xs → front_byte (reverse (take i (marked xs ms))) ≡ get_or xs (i - 1) 0
byte_before xs ms i p h =
    let e : i ≡ i - 1 + 1 = omega arith in
    ap (λ (k : ℕ). front_byte (reverse (take k (marked xs ms)))) e ∙ back_byte xs ms (i - 1) (omega arith)

-- ---- texts that start with a word, compared by any function of their bytes

-- exact comparison
pub prefix_exact : (w xs : List ℕ) → prefix_by (λ (b : ℕ). b) w xs ≡ is_prefix w xs
unfolding prefix_by is_prefix
prefix_exact [] xs = refl
prefix_exact (a ∷ w) [] = refl
prefix_exact (a ∷ w) (x ∷ xs) = ap (λ (b : Bool). eqb x a && b) (prefix_exact w xs)

-- what stands in front is the front
pub prefix_take : (p xs : List ℕ) → is_prefix p xs ≡ true → take (length p) xs ≡ p
unfolding is_prefix
prefix_take [] xs h = refl
prefix_take (a ∷ p) [] h = absurd (false≢true h)
prefix_take (a ∷ p) (x ∷ xs) h =
    let e : x ≡ a = eqb-true x a ((and_parts (eqb x a) (is_prefix p xs) h).0) in
    let m = prefix_take p xs ((and_parts (eqb x a) (is_prefix p xs) h).1) in
    rw (e, m) refl

-- a text in front of which a word stands is at least as long
pub prefix_by_len : (f : ℕ → ℕ) (w xs : List ℕ) → prefix_by f w xs ≡ true → length w ≤ length xs
unfolding prefix_by
prefix_by_len f [] xs h = zero-le
prefix_by_len f (a ∷ w) [] h = absurd (false≢true h)
prefix_by_len f (a ∷ w) (x ∷ xs) h = suc-le-suc (prefix_by_len f w xs ((and_parts (eqb (f x) (f a)) (prefix_by f w xs) h).1))

pub starts_length : (w : List ℕ) (t : List Marked) → starts_ignoring_case w t ≡ true → length w ≤ length t
unfolding starts_ignoring_case
starts_length [] t h = zero-le
starts_length (a ∷ w) [] h = absurd (false≢true h)
starts_length (a ∷ w) (x ∷ t) h =
    suc-le-suc (starts_length w t ((and_parts (eqb (upper (byte x)) (upper a)) (starts_ignoring_case w t) h).1))

-- the comparison from an index of w and an index of xs on: all of w is compared, xs is at its end, the bytes agree, or not
module _ (f : ℕ → ℕ) (w xs : List ℕ) (k i : ℕ) where
  pub prefix_whole : length w ≤ k → prefix_by f (drop k w) (drop i xs) ≡ true
  unfolding prefix_by
  prefix_whole h = rw (drop_of_length-le w h) refl

  module _ (h : k < length w) where
    pub prefix_step : i < length xs → prefix_by f (drop k w) (drop i xs) ≡ (eqb (f (get_or xs i 0)) (f (get_or w k 0)) && prefix_by f (drop (k + 1) w) (drop (i + 1) xs))
    unfolding prefix_by
    prefix_step m = rw (drop_more w k 0 h, drop_more xs i 0 m) refl

    pub prefix_hit : i < length xs → f (get_or xs i 0) ≡ f (get_or w k 0) → prefix_by f (drop k w) (drop i xs) ≡ prefix_by f (drop (k + 1) w) (drop (i + 1) xs)
    prefix_hit m e = prefix_step m ∙ rw (eq-eqb (f (get_or xs i 0)) (f (get_or w k 0)) e) refl

    pub prefix_miss : i < length xs → (f (get_or xs i 0) ≡ f (get_or w k 0) → ⊥) → prefix_by f (drop k w) (drop i xs) ≡ false
    prefix_miss m e = prefix_step m ∙ rw (ne_eqb (f (get_or xs i 0)) (f (get_or w k 0)) e) refl

-- both comparisons read bytes only
pub starts_case : (w : List ℕ) (t : List Marked) → starts_ignoring_case w t ≡ prefix_by upper w (bytes t)
unfolding starts_ignoring_case prefix_by bytes
starts_case [] t = refl
starts_case (a ∷ w) [] = refl
starts_case (a ∷ w) (x ∷ t) = ap (λ (b : Bool). eqb (upper (byte x)) (upper a) && b) (starts_case w t)

pub starts_exact : (w : List ℕ) (t : List Marked) → starts w t ≡ prefix_by (λ (b : ℕ). b) w (bytes t)
unfolding starts prefix_by bytes
starts_exact [] t = refl
starts_exact (a ∷ w) [] = refl
starts_exact (a ∷ w) (x ∷ t) = ap (λ (b : Bool). eqb (byte x) a && b) (starts_exact w t)

-- the bytes from i on do not depend on the map
pub bytes_drop : (xs ms : List ℕ) (i : ℕ) → bytes (drop i (marked xs ms)) ≡ drop i xs
bytes_drop xs ms i = ap bytes (marked_drop i xs ms) ∙ marked_bytes (drop i xs) (drop i ms)

-- so both comparisons at an index are of the text's bytes
pub starts_case_at : (w xs ms : List ℕ) (i : ℕ) → starts_ignoring_case w (drop i (marked xs ms)) ≡ prefix_by upper w (drop i xs)
starts_case_at w xs ms i = starts_case w (drop i (marked xs ms)) ∙ ap (λ (l : List ℕ). prefix_by upper w l) (bytes_drop xs ms i)

pub starts_exact_at : (w xs ms : List ℕ) (i : ℕ) → starts w (drop i (marked xs ms)) ≡ prefix_by (λ (b : ℕ). b) w (drop i xs)
starts_exact_at w xs ms i =
    starts_exact w (drop i (marked xs ms)) ∙ ap (λ (l : List ℕ). prefix_by (λ (b : ℕ). b) w l) (bytes_drop xs ms i)

-- ---- the tests at an index, on the bytes and the map, for every set of word bytes

pub word_at : (set : ℕ → Bool) (w xs ms : List ℕ) → length ms ≡ length xs → (j : ℕ)
    → word_here set w (front_byte (reverse (take j (marked xs ms)))) (drop j (marked xs ms))
    ≡ (eqb (get_or ms j 1) 0
    && (prefix_by upper w (drop j xs)
    && (not (set (front_byte (reverse (take j (marked xs ms))))) && not (set (get_or xs (j + length w) 0)))))
unfolding word_here
word_at set w xs ms e j =
    rw (live_at xs ms e j, starts_case_at w xs ms j, drop-drop (length w) j (marked xs ms), front_byte_lem xs ms (j + length w)) refl

pub needle_at : (w xs ms : List ℕ) → length ms ≡ length xs → (j : ℕ)
    → needle_here w (reverse (take j (marked xs ms))) (drop j (marked xs ms))
    ≡ (eqb (get_or ms j 1) 0 && prefix_by (λ (b : ℕ). b) w (drop j xs))
unfolding needle_here
needle_at w xs ms e j = rw (live_at xs ms e j, starts_exact_at w xs ms j) refl

byte_test : (b : ℕ) (back u : List Marked) → byte_here b back u ≡ (front_live u && eqb (front_byte u) b)
unfolding byte_here front_live front_byte
byte_test b back [] = refl
byte_test b back (live c ∷ u) = refl
byte_test b back (quoted c ∷ u) = refl

pub byte_at : (b : ℕ) (xs ms : List ℕ) → length ms ≡ length xs → (j : ℕ)
    → byte_here b (reverse (take j (marked xs ms))) (drop j (marked xs ms)) ≡ (eqb (get_or ms j 1) 0 && eqb (get_or xs j 0) b)
byte_at b xs ms e j =
    byte_test b (reverse (take j (marked xs ms))) (drop j (marked xs ms)) ∙ rw (live_at xs ms e j, front_byte_lem xs ms j) refl

-- ---- the first place that passes a test, at an index

-- the test at offset k of t
abbrev pub passes_at : Test → List Marked → ℕ → Bool
passes_at p t k = p (reverse (take k t)) (drop k t)

front_hit : (p : Test) (back u : List Marked) → 0 < length u → p back u ≡ true → first_from p back u ≡ Some (length back)
unfolding first_from
front_hit p back [] h e = absurd (omega arith)
front_hit p back (x ∷ u) h e = simp e

front_miss : (p : Test) (back u v : List Marked) (x : Marked) → u ≡ x ∷ v → p back u ≡ false → first_from p back u ≡ first_from p (x ∷ back) v
unfolding first_from
front_miss p back u v x q e = rw q (simp (rw q at e))

-- past the end none is found; a place that passes is found; one that fails is passed over
module _ (p : Test) (t : List Marked) (i : ℕ) where
  pub first_end : length t ≤ i → first p i t ≡ None
  unfolding first first_from
  first_end h = rw (drop_of_length-le t h) refl

  module _ (h : i < length t) where
    pub first_hit : passes_at p t i ≡ true → first p i t ≡ Some i
    unfolding first
    first_hit e =
        front_hit p (reverse (take i t)) (drop i t) (omega (arith, length-drop i t)) e
        ∙ ap Some (back_length t i (omega arith))

    pub first_miss : passes_at p t i ≡ false → first p i t ≡ first p (i + 1) t
    unfolding first
    first_miss e =
        let d = drop_more t i (live 0) h in
        front_miss p (reverse (take i t)) (drop i t) (drop (i + 1) t) (get_or t i (live 0)) d e
        ∙ ap (λ (b : List Marked). first_from p b (drop (i + 1) t)) (sym (back_step t i (live 0) h))

-- what holds where the search ends, and at each offset that it passes over if it holds one further on, holds where it starts
module _ (p : Test) (t : List Marked) (P : ℕ → Type 0) where
  pub up_to_first : (j : ℕ) → (j < length t → passes_at p t j ≡ true → P j)
      → ((k : ℕ) → k < length t → passes_at p t k ≡ false → first p (k + 1) t ≡ Some j → P (k + 1) → P k)
      → (i : ℕ) → first p i t ≡ Some j → P i
  up_to_first j hit miss =
      climb (λ (k : ℕ). first p k t ≡ Some j → P k) (length t)
      (λ k h e. absurd (none-some j (sym (first_end p t k h) ∙ e)))
      (λ k h more e.
      by (passes_at p t k)
      (λ q.
      let f = first_hit p t k h q in
      let same : k ≡ j = cc in
      subst P (sym same) (hit (omega arith) (rw same at q)))
      (λ q. let r = sym (first_miss p t k h q) ∙ e in miss k h q r (more r)))

  pub up_to_end : ((k : ℕ) → length t ≤ k → P k)
      → ((k : ℕ) → k < length t → passes_at p t k ≡ false → first p (k + 1) t ≡ None → P (k + 1) → P k)
      → (i : ℕ) → first p i t ≡ None → P i
  up_to_end end miss =
      climb (λ (k : ℕ). first p k t ≡ None → P k) (length t)
      (λ k h e. end k h)
      (λ k h more e.
      by (passes_at p t k)
      (λ q. absurd (none-some k (sym e ∙ first_hit p t k h q)))
      (λ q. let r = sym (first_miss p t k h q) ∙ e in miss k h q r (more r)))

-- where a place is found, it stands at or behind the start and within the text
pub first_within : (p : Test) (t : List Marked) (i j : ℕ) → first p i t ≡ Some j → (i ≤ j) × (j < length t)
first_within p t i j =
    up_to_first p t (λ (k : ℕ). (k ≤ j) × (j < length t)) j
    (λ h q. (omega arith, h))
    (λ k h q e r. (omega (arith, r.0), r.1))
    i

-- ---- `take_while` and `drop_while`, at an index

module _ {A : Type 0} (f : A → Bool) where
  take_front : (x : A) (t : List A) → f x ≡ true → take_while f (x ∷ t) ≡ x ∷ take_while f t
  unfolding take_while
  take_front x t e = simp e

  take_stop : (x : A) (t : List A) → f x ≡ false → take_while f (x ∷ t) ≡ []
  unfolding take_while
  take_stop x t e = simp e

  drop_front : (x : A) (t : List A) → f x ≡ true → drop_while f (x ∷ t) ≡ drop_while f t
  unfolding drop_while
  drop_front x t e = simp e

  -- the front that passes and what stands behind it are parts of the list
  pub while_take : (t : List A) → take_while f t ≡ take (length (take_while f t)) t
  unfolding take_while
  while_take [] = refl
  while_take (x ∷ t) = by (f x) (λ e. rw e (ap (λ (l : List A). x ∷ l) (while_take t))) (λ e. rw e refl)

  pub while_drop : (t : List A) → drop_while f t ≡ drop (length (take_while f t)) t
  unfolding take_while drop_while
  while_drop [] = refl
  while_drop (x ∷ t) =
      by (f x) (λ e. rw e (while_drop t)) (λ e. rw e refl)

  pub while_length : (t : List A) → length (take_while f t) ≤ length t
  unfolding take_while
  while_length [] = zero-le
  while_length (x ∷ t) = by (f x) (λ e. rw e (suc-le-suc (while_length t))) (λ e. rw e zero-le)

  -- all of that front passes
  pub while_passes : (t : List A) (d : A) (k : ℕ) → k < length (take_while f t) → f (get_or t k d) ≡ true
  unfolding take_while
  while_passes [] d k h = absurd (omega arith)
  while_passes (x ∷ t) d zero h = by (f x) (λ e. e) (λ e. absurd (omega (arith, ap length (take_stop x t e))))
  while_passes (x ∷ t) d (suc k) h =
      by (f x)
      (λ e. while_passes t d k (omega (arith, ap length (take_front x t e))))
      (λ e. absurd (omega (arith, ap length (take_stop x t e))))

  -- and what stands just behind it fails
  pub while_fails : (t : List A) (d : A) → length (take_while f t) < length t → f (get_or t (length (take_while f t)) d) ≡ false
  unfolding take_while
  while_fails [] d h = absurd (omega arith)
  while_fails (x ∷ t) d h =
      by (f x)
      (λ e. rw e (while_fails t d (omega (arith, ap length (take_front x t e)))))
      (λ e. rw e e)

  -- it is as long as n: all before n passes, and what stands at n, if anything, fails
  pub while_exactly : (t : List A) (d : A) (n : ℕ) → n ≤ length t → ((k : ℕ) → k < n → f (get_or t k d) ≡ true)
      → (n < length t → f (get_or t n d) ≡ false)
      → length (take_while f t) ≡ n
  while_exactly t d n h g e =
      let m = length (take_while f t) in
      neither_less m n
      (λ b. false≢true (sym (while_fails t d (omega arith)) ∙ g m b))
      (λ b. false≢true (sym (e (omega (arith, while_length t))) ∙ while_passes t d n b))

  -- one step from i on: past the end, at an element that passes, at one that fails
  module _ (t : List A) (i : ℕ) where
    pub while_end : length t ≤ i → take_while f (drop i t) ≡ []
    unfolding take_while
    while_end h = rw (drop_of_length-le t h) refl

    pub while_length_end : length t ≤ i → length (take_while f (drop i t)) ≡ 0
    while_length_end h = ap length (while_end h)

    module _ (d : A) (h : i < length t) where
      pub while_hit : f (get_or t i d) ≡ true → take_while f (drop i t) ≡ get_or t i d ∷ take_while f (drop (i + 1) t)
      while_hit e = ap (λ (l : List A). take_while f l) (drop_more t i d h) ∙ take_front (get_or t i d) (drop (i + 1) t) e

      pub while_miss : f (get_or t i d) ≡ false → take_while f (drop i t) ≡ []
      while_miss e = ap (λ (l : List A). take_while f l) (drop_more t i d h) ∙ take_stop (get_or t i d) (drop (i + 1) t) e

      pub while_length_hit : f (get_or t i d) ≡ true → length (take_while f (drop i t)) ≡ suc (length (take_while f (drop (i + 1) t)))
      while_length_hit e = ap length (while_hit e)

      pub while_length_miss : f (get_or t i d) ≡ false → length (take_while f (drop i t)) ≡ 0
      while_length_miss e = ap length (while_miss e)

  -- from i on: the offsets that pass, and the one that does not
  pub while_passes_at : (t : List A) (d : A) (i k : ℕ) → i ≤ k → k < i + length (take_while f (drop i t)) → f (get_or t k d) ≡ true
  while_passes_at t d i k a b =
      let e : i + (k - i) ≡ k = omega arith in
      ap (λ (m : ℕ). f (get_or t m d)) (sym e)
      ∙ (ap f (sym (get_or-drop i t (k - i) d)) ∙ while_passes (drop i t) d (k - i) (omega arith))

  pub while_fails_at : (t : List A) (d : A) (i : ℕ) → i + length (take_while f (drop i t)) < length t → f (get_or t (i + length (take_while f (drop i t))) d) ≡ false
  while_fails_at t d i h =
      ap f (sym (get_or-drop i t (length (take_while f (drop i t))) d)) ∙ while_fails (drop i t) d (omega (arith, length-drop i t))

  pub while_exactly_at : (t : List A) (d : A) (i j : ℕ) → i ≤ j → j ≤ length t → ((k : ℕ) → i ≤ k → k < j → f (get_or t k d) ≡ true)
      → (j < length t → f (get_or t j d) ≡ false)
      → i + length (take_while f (drop i t)) ≡ j
  while_exactly_at t d i j a h g e =
      let s : i + (j - i) ≡ j = omega arith in
      let n = while_exactly (drop i t) d (j - i) (omega (arith, length-drop i t))
      (λ k b. ap f (get_or-drop i t k d) ∙ g (i + k) (omega arith) (omega arith))
      (λ b.
      ap f (get_or-drop i t (j - i) d) ∙ (ap (λ (m : ℕ). f (get_or t m d)) s ∙ e (omega (arith, length-drop i t)))) in
      omega arith

-- ---- pieces, at an index

-- the pieces of what stands from i on
abbrev pub pieces_at : Test → List Marked → ℕ → List (List Marked)
pieces_at p t i = pieces_from p (reverse (take i t)) (drop i t)

cut_front : (p : Test) (back u v : List Marked) (x : Marked) → u ≡ x ∷ v → p back u ≡ true → pieces_from p back u ≡ [] ∷ pieces_from p (x ∷ back) v
unfolding pieces_from
cut_front p back u v x q e = rw q (simp (rw q at e))

onto_front : (p : Test) (back u v : List Marked) (x : Marked) → u ≡ x ∷ v → p back u ≡ false → pieces_from p back u ≡ onto_first x (pieces_from p (x ∷ back) v)
unfolding pieces_from
onto_front p back u v x q e = rw q (simp (rw q at e))

-- one step from i on: past the end there is one empty piece; a place that passes ends a piece; else the byte joins the first
-- piece behind it
module _ (p : Test) (t : List Marked) (i : ℕ) where
  pub pieces_end : length t ≤ i → pieces_at p t i ≡ [] ∷ []
  unfolding pieces_from
  pieces_end h = rw (drop_of_length-le t h) refl

  module _ (h : i < length t) where
    pub pieces_hit : passes_at p t i ≡ true → pieces_at p t i ≡ [] ∷ pieces_at p t (i + 1)
    pieces_hit e =
        cut_front p (reverse (take i t)) (drop i t) (drop (i + 1) t) (get_or t i (live 0)) (drop_more t i (live 0) h) e
        ∙ ap (λ (b : List Marked). [] ∷ pieces_from p b (drop (i + 1) t)) (sym (back_step t i (live 0) h))

    pub pieces_miss : passes_at p t i ≡ false → pieces_at p t i ≡ onto_first (get_or t i (live 0)) (pieces_at p t (i + 1))
    pieces_miss e =
        onto_front p (reverse (take i t)) (drop i t) (drop (i + 1) t) (get_or t i (live 0)) (drop_more t i (live 0) h) e
        ∙ ap (λ (b : List Marked). onto_first (get_or t i (live 0)) (pieces_from p b (drop (i + 1) t))) (sym (back_step t i (live 0) h))

-- up to the first place at or behind i that passes, there is one piece, and behind that place the pieces go on
pub pieces_cut : (p : Test) (t : List Marked) (i j : ℕ) → first p i t ≡ Some j → pieces_at p t i ≡ take (j - i) (drop i t) ∷ pieces_at p t (j + 1)
unfolding onto_first
pieces_cut p t i j =
    up_to_first p t (λ (k : ℕ). pieces_at p t k ≡ take (j - k) (drop k t) ∷ pieces_at p t (j + 1)) j
    (λ h q. let none : j - j ≡ 0 = omega arith in rw none (pieces_hit p t j h q))
    (λ k h q e more.
    let b = first_within p t (k + 1) j e in
    let one : j - k ≡ suc (j - (k + 1)) = omega arith in
    rw one
    (pieces_miss p t k h q
    ∙ (ap (λ (ps : List (List Marked)). onto_first (get_or t k (live 0)) ps) more
    ∙ ap (λ (l : List Marked). take (suc (j - (k + 1))) l ∷ pieces_at p t (j + 1)) (sym (drop_more t k (live 0) h)))))
    i

-- where none passes, there is one piece
pub pieces_last : (p : Test) (t : List Marked) (i : ℕ) → first p i t ≡ None → pieces_at p t i ≡ drop i t ∷ []
unfolding onto_first
pieces_last p t i =
    up_to_end p t (λ (k : ℕ). pieces_at p t k ≡ drop k t ∷ [])
    (λ k h. pieces_end p t k h ∙ ap (λ (l : List Marked). l ∷ []) (sym (drop_of_length-le t h)))
    (λ k h q e more.
    pieces_miss p t k h q
    ∙ (ap (λ (ps : List (List Marked)). onto_first (get_or t k (live 0)) ps) more
    ∙ ap (λ (l : List Marked). l ∷ []) (sym (drop_more t k (live 0) h))))
    i

-- ---- where the pieces start, at an index

-- the offsets just behind the places that pass the test
unfoldable pub cuts_from : Test → List Marked → List Marked → List ℕ
cuts_from p back [] = []
cuts_from p back (x ∷ t) =
    let more = cuts_from p (x ∷ back) t in
    let cut = suc (length back) ∷ more in
    cond (p back (x ∷ t)) cut more

-- those from i on
abbrev pub cuts_at : Test → List Marked → ℕ → List ℕ
cuts_at p t i = cuts_from p (reverse (take i t)) (drop i t)

-- a byte put onto the first piece moves no other start
starts_onto : (x : Marked) (i : ℕ) (ps : List (List Marked)) (l : List ℕ) → starts_from (suc i) ps ≡ suc i ∷ l → starts_from i (onto_first x ps) ≡ i ∷ l
unfolding starts_from onto_first
starts_onto x i [] l e = let z : ◌≡◌ {A = ℕ} 0 1 = cc in absurd (omega arith)
starts_onto x i (q ∷ qs) l e =
    let r : starts_from (suc (suc i + length q)) qs ≡ l = cc in
    let n : suc (i + suc (length q)) ≡ suc (suc i + length q) = omega arith in
    ap (λ (k : ℕ). i ∷ starts_from k qs) n ∙ ap (λ (m : List ℕ). i ∷ m) r

-- the pieces start at the first one's start and just behind each place that passes
pub starts_cuts : (p : Test) (back u : List Marked) → starts_from (length back) (pieces_from p back u) ≡ length back ∷ cuts_from p back u
unfolding starts_from pieces_from cuts_from
starts_cuts p back [] = refl
starts_cuts p back (x ∷ u) =
    let more = starts_cuts p (x ∷ back) u in
    by (p back (x ∷ u))
    (λ e.
    let n : suc (length back + 0) ≡ suc (length back) = omega arith in
    rw e (ap (λ (k : ℕ). length back ∷ starts_from k (pieces_from p (x ∷ back) u)) n ∙ ap (λ (l : List ℕ). length back ∷ l) more))
    (λ e. rw e (starts_onto x (length back) (pieces_from p (x ∷ back) u) (cuts_from p (x ∷ back) u) more))

cuts_front : (p : Test) (back u v : List Marked) (x : Marked) → u ≡ x ∷ v → p back u ≡ true → cuts_from p back u ≡ suc (length back) ∷ cuts_from p (x ∷ back) v
unfolding cuts_from
cuts_front p back u v x q e = rw q (simp (rw q at e))

cuts_past : (p : Test) (back u v : List Marked) (x : Marked) → u ≡ x ∷ v → p back u ≡ false → cuts_from p back u ≡ cuts_from p (x ∷ back) v
unfolding cuts_from
cuts_past p back u v x q e = rw q (simp (rw q at e))

-- one step from i on: past the end no cut, behind a place that passes one, else none here
module _ (p : Test) (t : List Marked) (i : ℕ) where
  pub cuts_end : length t ≤ i → cuts_at p t i ≡ []
  unfolding cuts_from
  cuts_end h = rw (drop_of_length-le t h) refl

  module _ (h : i < length t) where
    pub cuts_hit : passes_at p t i ≡ true → cuts_at p t i ≡ (i + 1) ∷ cuts_at p t (i + 1)
    cuts_hit e =
        let n : suc (length (reverse (take i t))) ≡ i + 1 = omega (arith, back_length t i (omega arith)) in
        cuts_front p (reverse (take i t)) (drop i t) (drop (i + 1) t) (get_or t i (live 0)) (drop_more t i (live 0) h) e
        ∙ (ap (λ (b : List Marked). suc (length (reverse (take i t))) ∷ cuts_from p b (drop (i + 1) t)) (sym (back_step t i (live 0) h))
        ∙ ap (λ (k : ℕ). k ∷ cuts_at p t (i + 1)) n)

    pub cuts_miss : passes_at p t i ≡ false → cuts_at p t i ≡ cuts_at p t (i + 1)
    cuts_miss e =
        cuts_past p (reverse (take i t)) (drop i t) (drop (i + 1) t) (get_or t i (live 0)) (drop_more t i (live 0) h) e
        ∙ ap (λ (b : List Marked). cuts_from p b (drop (i + 1) t)) (sym (back_step t i (live 0) h))
