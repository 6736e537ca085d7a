-- The parts of a closed body at an offset: its last byte, its spans, and each RAISE. Assumes nothing.
use Rattle.std.specs.List.{list_all, list_any, starts_with, range_with_len}
use Rattle.std.proofs.lemmas.List.{drop_more}
use mathlib.Core.Path.{◌≡◌, refl, sym, ap, ◌∙◌}
use mathlib.Core.Bool.{Bool, true, false, not, ◌&&◌, and-false, false≢true}
use mathlib.Core.List.{List, [], ◌∷◌, reverse}
use Prim.Native.Nat.{ℕ, zero, suc, ◌+◌, ◌-◌, ◌≤◌, ◌<◌, zero-le, suc-le-suc}
use native.Mathlib.Omega.{arith}
use borrow.Author.Tests.{eqb-true, eq-eqb, ne_eqb}
use lib.Dec.{eqb}
use lib.ListN.{length, take, drop, get_or, length-drop, drop_of_length-le}
use lib.Seq.{drop-drop, get_or-drop}
use Rattle.spec.specs.Bytes.{ascii, is_pair, is_prefix, is_ident}
use Rattle.spec.specs.Lists.{take_while, drop_while, any, all}
use Rattle.spec.specs.Spans.{block_len, kind_at, opens_dollar, span_of, span_at, span_len, Lexeme, lexeme_at, lexemes_from, lexemes}
use Rattle.spec.specs.Map.{Marked, live, byte, bytes, front_byte, of_byte, is_live_byte}
use Rattle.spec.specs.Search.{word_here}
use Rattle.spec.specs.Closed.{ends_live, is_plain_span, ends_word, is_followed, raises_followed}
use Rattle.spec.specs.declared.Span.{Span}
use Rattle.spec.proofs.BytesLaws.{bytes_drop, front_bytes}
use Rattle.spec.proofs.Choice.{by}
use Rattle.spec.proofs.LengthLaws.{word_in}
use Rattle.spec.proofs.RunPlaces.{end_from, ahead_at}
use Rattle.spec.proofs.SpanLaws.{lexemes_step, span_pos}
use Rattle.spec.proofs.WalkLaws.{before_next, starts_length}
use Rattle.classes.proofs.PrefixLaws.{eqb_flip, is_prefix_of_library}
use Rattle.runs.proofs.ListsOfLibrary.{any_of_library}
use Rattle.runs.proofs.RunLaws.{any_byte}
use Rattle.spans.proofs.StepLaws.{by_front, Stepped}
use Rattle.closed.specs.Answer.{is_unfollowed_raise}

-- ---- the last byte

pub ends_last : (t : List Marked) → 0 < length t
    → ends_live t ≡ is_live_byte 59 (get_or t (length t - 1) (live 0))
unfolding ends_live
ends_last [] h = absurd (omega arith)
ends_last (x ∷ []) h = refl
ends_last (x ∷ y ∷ t) h =
    let n : length (x ∷ y ∷ t) - 1 ≡ suc (length (y ∷ t) - 1) = omega arith in
    rw n (ends_last (y ∷ t) (omega arith))

pub ends_none : (t : List Marked) → length t ≡ 0 → ends_live t ≡ false
unfolding ends_live
ends_none [] h = refl
ends_none (x ∷ t) h = absurd (omega arith)

-- ---- a span

-- the first byte alone
one_other : (xs : List ℕ) → (get_or xs 0 0 ≡ 10 → ⊥) → any (eqb 10) (take 1 xs) ≡ false
unfolding any
one_other [] n = refl
one_other (c ∷ cs) n = rw (ne_eqb 10 c (λ e. n (sym e))) refl

module _ (xs : List ℕ) where
  -- live text is one byte
  live_one : is_pair 45 45 (get_or xs 0 0) (get_or xs 1 0) ≡ false → is_pair 47 42 (get_or xs 0 0) (get_or xs 1 0) ≡ false
      → eqb (get_or xs 0 0) 39 ≡ false
      → eqb (get_or xs 0 0) 34 ≡ false
      → opens_dollar xs ≡ false
      → span_len (span_at xs) ≡ 1
  unfolding span_at span_of kind_at
  live_one p q e f g = rw (p, q, e, f, g) refl

  pub plain_line : is_pair 45 45 (get_or xs 0 0) (get_or xs 1 0) ≡ true → is_plain_span (lexeme_at xs) ≡ false
  unfolding is_plain_span lexeme_at kind_at
  plain_line e = rw e refl

  module _ (p : is_pair 45 45 (get_or xs 0 0) (get_or xs 1 0) ≡ false) where
    pub plain_block : is_pair 47 42 (get_or xs 0 0) (get_or xs 1 0) ≡ true → is_plain_span (lexeme_at xs) ≡ false
    unfolding is_plain_span lexeme_at kind_at
    plain_block e = rw (p, e) refl

    module _ (q : is_pair 47 42 (get_or xs 0 0) (get_or xs 1 0) ≡ false) where
      -- a newline opens no literal
      pub plain_newline : get_or xs 0 0 ≡ 10 → is_plain_span (lexeme_at xs) ≡ true
      unfolding is_plain_span lexeme_at kind_at opens_dollar
      plain_newline e = rw (p, q, e) refl

      -- else a literal, or live text of one byte that is no newline
      pub plain_other : (get_or xs 0 0 ≡ 10 → ⊥) → is_plain_span (lexeme_at xs) ≡ not (any (eqb 10) (take (span_len (span_at xs)) xs))
      unfolding is_plain_span lexeme_at kind_at
      plain_other n =
          rw (p, q)
          (by (eqb (get_or xs 0 0) 39) (λ e. rw e refl) (λ e.
          rw e (by (eqb (get_or xs 0 0) 34) (λ f. rw f refl) (λ f.
          rw f (by (opens_dollar xs) (λ g. rw g refl) (λ g.
          rw (g, live_one p q e f g) (sym (ap not (one_other xs n)))))))))

-- a prefix of a part that is long enough
prefix_part : (p xs : List ℕ) (n : ℕ) → length p ≤ n → is_prefix p (take n xs) ≡ is_prefix p xs
unfolding is_prefix
prefix_part [] xs n h = refl
prefix_part (a ∷ p) [] zero h = absurd (omega arith)
prefix_part (a ∷ p) [] (suc n) h = refl
prefix_part (a ∷ p) (x ∷ xs) zero h = absurd (omega arith)
prefix_part (a ∷ p) (x ∷ xs) (suc n) h = rw (prefix_part p xs n (omega arith)) refl

-- a prefix of a part stands in front of the whole
prefix_whole : (p xs : List ℕ) (n : ℕ) → is_prefix p xs ≡ false → is_prefix p (take n xs) ≡ false
unfolding is_prefix
prefix_whole [] xs n h = h
prefix_whole (a ∷ p) [] zero h = refl
prefix_whole (a ∷ p) [] (suc n) h = refl
prefix_whole (a ∷ p) (x ∷ xs) zero h = refl
prefix_whole (a ∷ p) (x ∷ xs) (suc n) h = by (eqb x a) (λ e. rw e (prefix_whole p xs n (rw e at h))) (λ e. rw e refl)

-- two bytes in front
pair_front : (a b : ℕ) (xs : List ℕ) → is_prefix (suc a ∷ suc b ∷ []) xs ≡ is_pair (suc a) (suc b) (get_or xs 0 0) (get_or xs 1 0)
unfolding is_prefix is_pair
pair_front a b [] = rw (ne_eqb 0 (suc a) (λ e. omega (arith, e))) refl
pair_front a b (c ∷ []) = rw (ne_eqb 0 (suc b) (λ e. omega (arith, e))) refl
pair_front a b (c ∷ d ∷ cs) = by (eqb d (suc b)) (λ e. rw e refl) (λ e. rw e refl)

-- one byte in front
front_one : (a : ℕ) (xs : List ℕ) → is_prefix (suc a ∷ []) xs ≡ true → get_or xs 0 0 ≡ suc a
unfolding is_prefix
front_one a [] e = absurd (false≢true e)
front_one a (c ∷ cs) e = by (eqb c (suc a)) (λ f. eqb-true c (suc a) f) (λ f. absurd (false≢true (rw f at e)))

not_one : (a : ℕ) (xs : List ℕ) → is_prefix (suc a ∷ []) xs ≡ false → get_or xs 0 0 ≡ suc a → ⊥
unfolding is_prefix
not_one a [] e f = omega arith
not_one a (c ∷ cs) e f = false≢true (sym e ∙ rw (eq-eqb c (suc a) f) refl)

-- such a span has a byte, a block comment two
span_one : (a : ℕ) (xs : List ℕ) → is_prefix (suc a ∷ []) xs ≡ true → 1 ≤ span_len (span_at xs)
unfolding is_prefix
span_one a [] e = absurd (false≢true e)
span_one a (c ∷ cs) e = span_pos c cs

block_two : (xs : List ℕ) → is_pair 47 42 (get_or xs 0 0) (get_or xs 1 0) ≡ true → 2 ≤ block_len xs
unfolding block_len is_pair
block_two [] e = absurd (false≢true e)
block_two (c ∷ []) e = absurd (false≢true (sym (and-false (eqb c 47)) ∙ e))
block_two (c ∷ d ∷ cs) e = suc-le-suc (suc-le-suc zero-le)

-- a newline is a span of its own
newline_len : (xs : List ℕ) → get_or xs 0 0 ≡ 10 → span_len (span_at xs) ≡ 1
unfolding span_at span_of kind_at opens_dollar is_pair
newline_len xs e = rw e refl

-- two bytes do not stand in front of one
two_in_one : (a b : ℕ) (ys : List ℕ) → length ys ≡ 1 → starts_with eqb ys (a ∷ b ∷ []) ≡ false
two_in_one a b [] h = refl
two_in_one a b (y ∷ []) h = and-false (eqb a y)
two_in_one a b (y ∷ z ∷ ys) h = absurd (omega (arith, h))

-- one byte is a newline in front, or none at all
one_newline : (ys : List ℕ) → length ys ≡ 1 → starts_with eqb ys (10 ∷ []) ≡ false → list_any (λ y. eqb y 10) ys ≡ false
one_newline [] h e = refl
one_newline (y ∷ []) h e = rw (eqb_flip y 10) (by (eqb 10 y) (λ f. absurd (false≢true (rw f at (sym e)))) (λ f. rw f refl))
one_newline (y ∷ z ∷ ys) h e = absurd (omega (arith, h))

-- the library's `contains`
contains_byte : (c : ℕ) (xs : List ℕ) → list_any (λ y. eqb y c) xs ≡ any (eqb c) xs
contains_byte c xs = sym (any_of_library (λ y. eqb y c) xs) ∙ any_byte c xs

module _ (xs : List ℕ) (r : Bool) (e : r ≡ list_any (λ y. eqb y 92) xs) where
  pub backslash_yes : r ≡ true → any (eqb 92) xs ≡ true
  backslash_yes h = sym (contains_byte 92 xs) ∙ (sym e ∙ h)

  pub backslash_no : r ≡ false → any (eqb 92) xs ≡ false
  backslash_no h = sym (contains_byte 92 xs) ∙ (sym e ∙ h)

-- the span in front of xs, by its bytes ys
module _ (xs ys : List ℕ) (h : ys ≡ take (span_len (span_at xs)) xs) where
  -- what stands in front of the span, where the span is long enough for it, stands in front of the text
  front_same : (p : List ℕ) → (is_prefix p xs ≡ true → length p ≤ span_len (span_at xs)) → starts_with eqb ys p ≡ is_prefix p xs
  front_same p long =
      rw h
      (sym (is_prefix_of_library p (take (span_len (span_at xs)) xs))
      ∙ by (is_prefix p xs)
      (λ e. prefix_part p xs (span_len (span_at xs)) (long e))
      (λ e. prefix_whole p xs (span_len (span_at xs)) e ∙ sym e))

  -- a newline in front is all of it
  first_alone : get_or xs 0 0 ≡ 10 → length ys ≡ 1
  first_alone e = rw (h, newline_len xs e) (one_taken xs e)
    where
      one_taken : (l : List ℕ) → get_or l 0 0 ≡ 10 → length (take 1 l) ≡ 1
      one_taken [] f = absurd (omega (arith, f))
      one_taken (c ∷ cs) f = refl

  line_same : starts_with eqb ys (45 ∷ 45 ∷ []) ≡ is_pair 45 45 (get_or xs 0 0) (get_or xs 1 0)
  unfolding span_at span_of kind_at
  line_same = front_same (45 ∷ 45 ∷ []) (λ e. rw (sym (pair_front 44 44 xs) ∙ e) (omega arith)) ∙ pair_front 44 44 xs

  pub bytes_line : starts_with eqb ys (45 ∷ 45 ∷ []) ≡ true → is_plain_span (lexeme_at xs) ≡ false
  bytes_line e = plain_line xs (sym line_same ∙ e)

  module _ (p : starts_with eqb ys (45 ∷ 45 ∷ []) ≡ false) where
    block_same : starts_with eqb ys (47 ∷ 42 ∷ []) ≡ is_pair 47 42 (get_or xs 0 0) (get_or xs 1 0)
    unfolding span_at span_of kind_at
    block_same = front_same (47 ∷ 42 ∷ []) (λ e. rw (sym line_same ∙ p, sym (pair_front 46 41 xs) ∙ e) (block_two xs (sym (pair_front 46 41 xs) ∙ e))) ∙ pair_front 46 41 xs

    pub bytes_block : starts_with eqb ys (47 ∷ 42 ∷ []) ≡ true → is_plain_span (lexeme_at xs) ≡ false
    bytes_block e = plain_block xs (sym line_same ∙ p) (sym block_same ∙ e)

    module _ (q : starts_with eqb ys (47 ∷ 42 ∷ []) ≡ false) where
      newline_same : starts_with eqb ys (10 ∷ []) ≡ is_prefix (10 ∷ []) xs
      newline_same = front_same (10 ∷ []) (span_one 9 xs)

      pub bytes_newline : starts_with eqb ys (10 ∷ []) ≡ true → is_plain_span (lexeme_at xs) ≡ true
      bytes_newline e = plain_newline xs (sym line_same ∙ p) (sym block_same ∙ q) (front_one 9 xs (sym newline_same ∙ e))

      pub bytes_other : starts_with eqb ys (10 ∷ []) ≡ false → is_plain_span (lexeme_at xs) ≡ not (list_any (λ y. eqb y 10) ys)
      bytes_other e =
          plain_other xs (sym line_same ∙ p) (sym block_same ∙ q) (not_one 9 xs (sym newline_same ∙ e))
          ∙ ap not (ap (λ (l : List ℕ). any (eqb 10) l) (sym h) ∙ sym (contains_byte 10 ys))

      -- more than one byte has no newline in front
      pub bytes_longer : (length ys ≡ 1 → ⊥) → is_plain_span (lexeme_at xs) ≡ not (list_any (λ y. eqb y 10) ys)
      bytes_longer n =
          by (starts_with eqb ys (10 ∷ []))
          (λ e. absurd (n (one_byte e)))
          bytes_other
        where
          one_byte : starts_with eqb ys (10 ∷ []) ≡ true → length ys ≡ 1
          one_byte e = first_alone (front_one 9 xs (sym newline_same ∙ e))

  -- one byte is no comment, and no literal with a newline
  pub bytes_one : length ys ≡ 1 → is_plain_span (lexeme_at xs) ≡ true
  bytes_one e =
      let p = two_in_one 45 45 ys e in
      let q = two_in_one 47 42 ys e in
      by (starts_with eqb ys (10 ∷ []))
      (λ f. bytes_newline p q f)
      (λ f. bytes_other p q f ∙ ap not (one_newline ys e f))

-- ---- all spans

plain_step : (c : ℕ) (cs : List ℕ)
    → all is_plain_span (lexemes (c ∷ cs))
    ≡ (is_plain_span (lexeme_at (c ∷ cs)) && all is_plain_span (lexemes (drop (span_len (span_at (c ∷ cs))) (c ∷ cs))))
unfolding all
plain_step c cs = ap (λ (ls : List Lexeme). all is_plain_span ls) (lexemes_step c cs)

module _ (xs : List ℕ) (at : ℕ) where
  -- a step's bytes are those of the span at `at`
  pub step_part : (s : Span) (to : ℕ) → Stepped xs at s to → take (to - at) (drop at xs) ≡ take (span_len (span_at (drop at xs))) (drop at xs)
  step_part s to t =
      let n : to - at ≡ span_len (span_at (drop at xs)) = omega (arith, t.far, ap span_len t.front) in
      rw n refl

  -- that span, and the spans behind it
  plain_ahead : (s : Span) (to : ℕ) → Stepped xs at s to
      → all is_plain_span (lexemes (drop at xs)) ≡ (is_plain_span (lexeme_at (drop at xs)) && all is_plain_span (lexemes (drop to xs)))
  plain_ahead s to t =
      rw (← t.behind)
      (by_front (λ (l : List ℕ). all is_plain_span (lexemes l) ≡ (is_plain_span (lexeme_at l) && all is_plain_span (lexemes (drop (span_len (span_at l)) l))))
      plain_step (drop at xs) (omega (arith, t.before, length-drop at xs)))

  -- the same by whether that span is plain
  module _ (s : Span) (to : ℕ) (t : Stepped xs at s to) where
    pub plain_here : is_plain_span (lexeme_at (drop at xs)) ≡ true → all is_plain_span (lexemes (drop at xs)) ≡ all is_plain_span (lexemes (drop to xs))
    plain_here e = plain_ahead s to t ∙ rw e refl

    pub plain_not : is_plain_span (lexeme_at (drop at xs)) ≡ false → all is_plain_span (lexemes (drop at xs)) ≡ false
    plain_not e = plain_ahead s to t ∙ rw e refl

  pub plain_over : length xs ≤ at → all is_plain_span (lexemes (drop at xs)) ≡ true
  unfolding all lexemes lexemes_from
  plain_over h = rw (drop_of_length-le xs h) refl

-- ---- a RAISE

-- a word stands within the text
pub word_fits : (set : ℕ → Bool) (w : List ℕ) (p : ℕ) (t : List Marked) (i : ℕ) → i < length t → word_here set w p (drop i t) ≡ true → i + length w ≤ length t
word_fits set w p t i h e = omega (arith, starts_length w (drop i t) (word_in set w p (drop i t) e), length-drop i t)

-- ---- what stands behind a RAISE

module _ (t : List Marked) where
  front_at : (i : ℕ) → front_byte (drop i t) ≡ get_or (bytes t) i 0
  front_at i =
      let n : i + 0 ≡ i = omega arith in
      front_bytes (drop i t) ∙ (ap (λ (l : List ℕ). get_or l 0 0) (bytes_drop i t) ∙ (get_or-drop i (bytes t) 0 0 ∙ ap (λ (k : ℕ). get_or (bytes t) k 0) n))

  -- the byte behind a run
  run_end : (f : ℕ → Bool) (i : ℕ) → front_byte (drop_while (of_byte f) (drop i t)) ≡ get_or (bytes t) (i + length (take_while f (drop i (bytes t)))) 0
  run_end f i =
      let e = end_from f (bytes t) i in
      ap front_byte (ahead_at f t (bytes t) refl i e refl).rest ∙ front_at e

  -- by the bytes alone
  module _ (xs : List ℕ) (same : bytes t ≡ xs) (i : ℕ) where
    pub followed_bytes : is_followed (drop i t)
        ≡ (eqb (get_or xs i 0) 32
        && (is_ident (get_or xs (i + 1) 0) && ends_word (get_or xs (i + 1 + length (take_while is_ident (drop (i + 1) xs))) 0)))
    unfolding is_followed
    followed_bytes = rw (← same, drop-drop 1 i t, front_at i, front_at (i + 1), run_end is_ident (i + 1)) refl

    -- a space and a word that ends at e
    pub followed_word : (e : ℕ) → e ≡ i + 1 + length (take_while is_ident (drop (i + 1) xs)) → get_or xs i 0 ≡ 32 → is_ident (get_or xs (i + 1) 0) ≡ true
        → is_followed (drop i t) ≡ ends_word (get_or xs e 0)
    followed_word e h space word = followed_bytes ∙ rw (h, eq-eqb (get_or xs i 0) 32 space, word) refl

-- ---- every RAISE

raises_front : (p : ℕ) (x : Marked) (t : List Marked)
    → raises_followed p (x ∷ t)
    ≡ (not (word_here is_ident (ascii "RAISE") p (x ∷ t) && not (is_followed (drop 4 t))) && raises_followed (byte x) t)
unfolding raises_followed
raises_front p x t =
    by (word_here is_ident (ascii "RAISE") p (x ∷ t))
    (λ e. by (is_followed (drop 4 t)) (λ f. simp (e, f)) (λ f. simp (e, f)))
    (λ e. simp e)

module _ (t : List Marked) where
  -- from i on
  abbrev followed_from : ℕ → Bool
  followed_from i = raises_followed (front_byte (reverse (take i t))) (drop i t)

  followed_step : (i : ℕ) → i < length t → followed_from i ≡ (not (is_unfollowed_raise t i) && followed_from (i + 1))
  followed_step i h =
      let five : i + 1 + 4 ≡ i + 5 = omega arith in
      let d = drop-drop 4 (i + 1) t ∙ ap (λ (k : ℕ). drop k t) five in
      let r = raises_front (front_byte (reverse (take i t))) (get_or t i (live 0)) (drop (i + 1) t) in
      rw (d, ← drop_more t i (live 0) h, before_next t i h) at r

  followed_end : (i : ℕ) → length t ≤ i → followed_from i ≡ true
  unfolding raises_followed
  followed_end i h = rw (drop_of_length-le t h) refl

  -- over the offsets from i on, of which n are left
  followed_range : (n i : ℕ) → length t - i ≡ n → list_all (λ (k : ℕ). not (is_unfollowed_raise t k)) (range_with_len i n) ≡ followed_from i
  followed_range zero i h = sym (followed_end i (omega arith))
  followed_range (suc n) i h =
      ap (λ (b : Bool). not (is_unfollowed_raise t i) && b) (followed_range n (i + 1) (omega arith)) ∙ sym (followed_step i (omega arith))

  pub followed_all : list_all (λ (k : ℕ). not (is_unfollowed_raise t k)) (range_with_len 0 (length t)) ≡ raises_followed 0 t
  unfolding front_byte
  followed_all = followed_range (length t) 0 (omega arith)
