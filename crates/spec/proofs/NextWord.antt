-- The next word in document 01's words: where it stands, which bytes it has, and that there is none. Assumes nothing.
use Rattle.std.proofs.lemmas.Option.{none-some}
use Rattle.std.specs.Prelude.{Some, None}
use Rattle.std.proofs.lemmas.Bool.{and_from, and_parts}
use Rattle.std.proofs.lemmas.List.{take-map, get_or_default, nil_from_length}
use mathlib.Core.Path.{◌≡◌, refl, sym, ap, ◌∙◌}
use mathlib.Core.Bool.{true, false, cond, ◌&&◌, false≢true}
use mathlib.Core.List.{List, [], map}
use Prim.Native.Nat.{ℕ, ◌+◌, ◌-◌, ◌≤◌, ◌<◌}
use native.Mathlib.Omega.{arith}
use borrow.Author.Tests.{eqb-true, eqb-false, eq-eqb, ne_eqb, ltb-true, ltb-false}
use lib.Dec.{eqb, ltb}
use lib.ListN.{length, take, drop, get_or, length-drop, length-map}
use lib.Seq.{drop-drop}
use Rattle.spec.proofs.ByteSets.{word_not_n}
use Rattle.spec.proofs.Choice.{by}
use Rattle.spec.proofs.ListLaws.{empty_length}
use Rattle.spec.proofs.MapLaws.{map_length, text_length}
use Rattle.spec.proofs.WalkLaws.{mark_skipped, mark_word, marked_at_lem, live_inside, bytes_drop, while_take, while_drop, while_length, while_passes_at, while_fails_at, while_exactly_at, while_hit}
use Rattle.spec.specs.Bytes.{is_word, is_n}
use Rattle.spec.specs.Lists.{is_empty, take_while, drop_while}
use Rattle.spec.specs.Map.{Marked, live, byte, mark, map_of, marked, marked_text, bytes}
use Rattle.spec.specs.Search.{is_skipped, is_word_mark, next_word, word_place, word_text}

-- ---- `next_word_in_code`

-- skipped ahead of a word: a quoted byte, or if it is live one of N
abbrev pub IsSkippedAt : List ℕ → ℕ → Type 0
IsSkippedAt xs k = get_or (map_of xs) k 1 ≡ 0 → is_n (get_or xs k 0) ≡ true

-- a live word byte
pub record IsWordByteAt (xs : List ℕ) (k : ℕ) : Type 0 where
  pub is_live_lem : get_or (map_of xs) k 1 ≡ 0
  pub is_word_lem : is_word (get_or xs k 0) ≡ true

module _ (xs : List ℕ) (k : ℕ) (h : k < length xs) where
  text_at : (d : Marked) → get_or (marked_text xs) k d ≡ mark (get_or (map_of xs) k 1) (get_or xs k 0)
  unfolding marked_text
  text_at d =
      marked_at_lem xs (map_of xs) k d h
      ∙ ap (λ (m : ℕ). mark m (get_or xs k 0)) (get_or_default (map_of xs) k 0 1 (omega (arith, map_length xs)))

  skipped_sound : (d : Marked) → is_skipped (get_or (marked_text xs) k d) ≡ true → IsSkippedAt xs k
  skipped_sound d e l =
      let q : cond (eqb (get_or (map_of xs) k 1) 0) (is_n (get_or xs k 0)) true ≡ true =
      sym (mark_skipped (get_or (map_of xs) k 1) (get_or xs k 0)) ∙ (sym (ap (λ (x : Marked). is_skipped x) (text_at d)) ∙ e) in
      rw (eq-eqb (get_or (map_of xs) k 1) 0 l) at q

  skipped_complete : (d : Marked) → IsSkippedAt xs k → is_skipped (get_or (marked_text xs) k d) ≡ true
  skipped_complete d s =
      ap (λ (x : Marked). is_skipped x) (text_at d)
      ∙ (mark_skipped (get_or (map_of xs) k 1) (get_or xs k 0)
      ∙ by (eqb (get_or (map_of xs) k 1) 0) (λ e. rw e (s (eqb-true (get_or (map_of xs) k 1) 0 e))) (λ e. rw e refl))

  word_byte_test : (d : Marked) → is_word_mark (get_or (marked_text xs) k d) ≡ (eqb (get_or (map_of xs) k 1) 0 && is_word (get_or xs k 0))
  word_byte_test d = ap (λ (x : Marked). is_word_mark x) (text_at d) ∙ mark_word (get_or (map_of xs) k 1) (get_or xs k 0)

  word_byte_sound : (d : Marked) → is_word_mark (get_or (marked_text xs) k d) ≡ true → IsWordByteAt xs k
  word_byte_sound d e =
      let q = sym (word_byte_test d) ∙ e in
      let l = eqb (get_or (map_of xs) k 1) 0 in
      let m = is_word (get_or xs k 0) in
      record { is_live_lem = eqb-true (get_or (map_of xs) k 1) 0 ((and_parts l m q).0); is_word_lem = (and_parts l m q).1 }

  word_byte_complete : (d : Marked) → IsWordByteAt xs k → is_word_mark (get_or (marked_text xs) k d) ≡ true
  word_byte_complete d r =
      word_byte_test d
      ∙ and_from (eqb (get_or (map_of xs) k 1) 0) (is_word (get_or xs k 0)) (eq-eqb (get_or (map_of xs) k 1) 0 r.is_live_lem) r.is_word_lem

-- the word of n bytes at j is the next one from i on: up to j all is skipped, its bytes are live word bytes, and behind
-- it stands none
pub record IsNextWord (xs : List ℕ) (i j n : ℕ) : Type 0 where
  pub from : i ≤ j
  pub skipped : (k : ℕ) → i ≤ k → k < j → IsSkippedAt xs k
  pub some : 0 < n
  pub fits : j + n ≤ length xs
  pub words : (k : ℕ) → j ≤ k → k < j + n → IsWordByteAt xs k
  pub ends : IsWordByteAt xs (j + n) → ⊥

module _ (xs : List ℕ) (i : ℕ) where
  -- the offset behind what is skipped
  unfoldable pub word_start : ℕ
  word_start = i + length (take_while is_skipped (drop i (marked_text xs)))

  skipped_drop : drop_while is_skipped (drop i (marked_text xs)) ≡ drop word_start (marked_text xs)
  unfolding word_start
  skipped_drop =
      while_drop is_skipped (drop i (marked_text xs))
      ∙ drop-drop (length (take_while is_skipped (drop i (marked_text xs)))) i (marked_text xs)

  next_word_lem : next_word (drop i (marked_text xs)) ≡ take_while is_word_mark (drop word_start (marked_text xs))
  unfolding next_word
  next_word_lem = ap (λ (t : List Marked). take_while is_word_mark t) skipped_drop

  -- the word's length
  pub word_length : length (word_text xs i) ≡ length (take_while is_word_mark (drop word_start (marked_text xs)))
  unfolding word_text bytes
  word_length = length-map (next_word (drop i (marked_text xs))) byte ∙ ap length next_word_lem

  empty_test : is_empty (next_word (drop i (marked_text xs))) ≡ eqb (length (word_text xs i)) 0
  empty_test = empty_length (next_word (drop i (marked_text xs))) ∙ ap (λ (n : ℕ). eqb n 0) (ap length next_word_lem ∙ sym word_length)

  word_fits : 0 < length (word_text xs i) → word_start + length (word_text xs i) ≤ length xs
  word_fits h =
      omega (arith, word_length, while_length is_word_mark (drop word_start (marked_text xs)), length-drop word_start (marked_text xs), text_length xs)

  -- a nonempty word is found where it starts, and an empty one is none
  pub word_place_lem : 0 < length (word_text xs i) → word_place xs i ≡ Some word_start
  unfolding word_place
  word_place_lem h =
      let n : length xs - length (drop word_start (marked_text xs)) ≡ word_start = omega (arith, word_fits h, length-drop word_start (marked_text xs), text_length xs) in
      rw (empty_test, ne_eqb (length (word_text xs i)) 0 (λ z. omega arith)) (ap Some (ap (λ (t : List Marked). length xs - length t) skipped_drop ∙ n))

  pub word_nowhere : length (word_text xs i) ≡ 0 → word_place xs i ≡ None
  unfolding word_place
  word_nowhere h = rw (empty_test, eq-eqb (length (word_text xs i)) 0 h) refl

  -- a nonempty word is the next one
  pub word_next : 0 < length (word_text xs i) → IsNextWord xs i word_start (length (word_text xs i))
  unfolding word_start
  word_next h =
      let t = marked_text xs in
      let n = word_length in
      let fit = word_fits h in
      record {
        from = omega arith;
        skipped = λ k a b. skipped_sound xs k (omega arith) (live 0) (while_passes_at is_skipped t (live 0) i k a b);
        some = h;
        fits = fit;
        words = λ k a b. word_byte_sound xs k (omega arith) (live 0) (while_passes_at is_word_mark t (live 0) word_start k a (omega arith));
        ends = λ r.
            let m : word_start + length (word_text xs i) < length xs = omega (arith, live_inside (map_of xs) (word_start + length (word_text xs i)) r.is_live_lem, map_length xs) in
            let p = word_byte_complete xs (word_start + length (word_text xs i)) m (live 0) r in
            let q : is_word_mark (get_or t (word_start + length (word_text xs i)) (live 0)) ≡ false =
            rw n (while_fails_at is_word_mark t (live 0) word_start (omega (arith, text_length xs))) in
            false≢true (sym q ∙ p);
      }

  -- where a place is found, the word is nonempty and starts there
  found_start : (j : ℕ) → word_place xs i ≡ Some j → (0 < length (word_text xs i)) × (word_start ≡ j)
  found_start j e =
      by (eqb (length (word_text xs i)) 0)
      (λ z. absurd (none-some j (sym (word_nowhere (eqb-true (length (word_text xs i)) 0 z)) ∙ e)))
      (λ z.
      let h : 0 < length (word_text xs i) = omega (arith, eqb-false (length (word_text xs i)) 0 z) in
      let p = word_place_lem h in
      let same : word_start ≡ j = cc in
      (h, same))

  -- what is found is the next word
  pub word_found : (j : ℕ) → word_place xs i ≡ Some j → IsNextWord xs i j (length (word_text xs i))
  word_found j e = let p = found_start j e in rw p.1 at (word_next p.0)

  start_part : word_text xs i ≡ take (length (word_text xs i)) (drop word_start xs)
  unfolding word_text bytes marked_text
  start_part =
      let u = drop word_start (marked xs (map_of xs)) in
      ap (λ (t : List Marked). map byte t) (next_word_lem ∙ while_take is_word_mark u)
      ∙ (sym (take-map byte (length (take_while is_word_mark u)) u)
      ∙ (ap (λ (l : List ℕ). take (length (take_while is_word_mark u)) l) (bytes_drop xs (map_of xs) word_start)
      ∙ ap (λ (n : ℕ). take n (drop word_start xs)) (sym word_length)))

  -- and it is that part of the text
  pub word_part_lem : (j : ℕ) → word_place xs i ≡ Some j → word_text xs i ≡ take (length (word_text xs i)) (drop j xs)
  word_part_lem j e = rw (found_start j e).1 at start_part

  -- none: the word is empty
  pub word_empty : word_place xs i ≡ None → word_text xs i ≡ []
  word_empty e =
      by (eqb (length (word_text xs i)) 0)
      (λ z. nil_from_length (word_text xs i) (eqb-true (length (word_text xs i)) 0 z))
      (λ z. absurd (none-some word_start (sym e ∙ word_place_lem (omega (arith, eqb-false (length (word_text xs i)) 0 z)))))

  -- a live word byte behind nothing but what is skipped is found
  pub found_word : (j : ℕ) → i ≤ j → ((k : ℕ) → i ≤ k → k < j → IsSkippedAt xs k) → IsWordByteAt xs j → word_place xs i ≡ Some j
  unfolding word_start
  found_word j a s r =
      let t = marked_text xs in
      let h : j < length xs = omega (arith, live_inside (map_of xs) j r.is_live_lem, map_length xs) in
      let m : j < length t = omega (arith, text_length xs) in
      let stop : is_skipped (get_or t j (live 0)) ≡ false =
      ap (λ (x : Marked). is_skipped x) (text_at xs j h (live 0))
      ∙ (mark_skipped (get_or (map_of xs) j 1) (get_or xs j 0)
      ∙ rw (eq-eqb (get_or (map_of xs) j 1) 0 r.is_live_lem) (word_not_n (get_or xs j 0) r.is_word_lem)) in
      let same : word_start ≡ j = while_exactly_at is_skipped t (live 0) i j a (omega arith) (λ k b c. skipped_complete xs k (omega arith) (live 0) (s k b c)) (λ _. stop) in
      let w = ap length (while_hit is_word_mark t j (live 0) m (word_byte_complete xs j h (live 0) r)) in
      let n : 0 < length (word_text xs i) = omega (arith, word_length ∙ (ap (λ (k : ℕ). length (take_while is_word_mark (drop k t))) same ∙ w)) in
      word_place_lem n ∙ ap Some same

  -- so none is found exactly if no word byte comes first
  pub word_none : word_place xs i ≡ None → (j : ℕ) → i ≤ j → ((k : ℕ) → i ≤ k → k < j → IsSkippedAt xs k) → IsWordByteAt xs j → ⊥
  word_none e j a s r = absurd (none-some j (sym e ∙ found_word j a s r))

  pub none_word : ((j : ℕ) → i ≤ j → ((k : ℕ) → i ≤ k → k < j → IsSkippedAt xs k) → IsWordByteAt xs j → ⊥) → word_place xs i ≡ None
  none_word r =
      by (eqb (length (word_text xs i)) 0)
      (λ z. word_nowhere (eqb-true (length (word_text xs i)) 0 z))
      (λ z.
      let q = word_next (omega (arith, eqb-false (length (word_text xs i)) 0 z)) in
      absurd (r word_start q.from q.skipped (q.words word_start (omega arith) (omega (arith, q.some)))))

  -- a start past the end finds none
  pub word_past : length xs ≤ i → word_place xs i ≡ None
  word_past h = none_word (λ j a s r. omega (arith, live_inside (map_of xs) j r.is_live_lem, map_length xs))

-- the next word has one length
word_ends : (xs : List ℕ) (i j m n : ℕ) → IsNextWord xs i j m → IsNextWord xs i j n → m ≤ n
word_ends xs i j m n p q =
    by (ltb n m)
    (λ e. absurd (q.ends (p.words (j + n) (omega arith) (omega (arith, ltb-true n m e)))))
    (λ e. ltb-false n m e)

-- so what is the next word is what is found, and the part handed back
pub next_word_place : (xs : List ℕ) (i j n : ℕ) → IsNextWord xs i j n → word_place xs i ≡ Some j
next_word_place xs i j n r = found_word xs i j r.from r.skipped (r.words j (omega arith) (omega (arith, r.some)))

pub next_word_text : (xs : List ℕ) (i j n : ℕ) → IsNextWord xs i j n → word_text xs i ≡ take n (drop j xs)
next_word_text xs i j n r =
    let e = next_word_place xs i j n r in
    let m = length (word_text xs i) in
    let q = word_found xs i j e in
    let same : m ≡ n = omega (arith, word_ends xs i j m n q r, word_ends xs i j n m r q) in
    word_part_lem xs i j e ∙ ap (λ (k : ℕ). take k (drop j xs)) same

-- and none is found where the first byte that is not skipped is no live word byte, or all are skipped
pub word_stopped : (xs : List ℕ) (i j : ℕ) → i ≤ j → ((k : ℕ) → i ≤ k → k < j → IsSkippedAt xs k) → (j < length xs → IsSkippedAt xs j → ⊥) → (IsWordByteAt xs j → ⊥) → word_place xs i ≡ None
word_stopped xs i j c s n w =
    none_word xs i
    (λ k a t r.
    let h : k < length xs = omega (arith, live_inside (map_of xs) k r.is_live_lem, map_length xs) in
    by (ltb k j)
    (λ e. false≢true (sym (word_not_n (get_or xs k 0) r.is_word_lem) ∙ s k a (ltb-true k j e) r.is_live_lem))
    (λ e.
    by (eqb k j)
    (λ q. w (rw (eqb-true k j q) at r))
    (λ q.
    let b : j < k = omega (arith, ltb-false k j e, eqb-false k j q) in
    n (omega arith) (t j c b))))
