-- How long the results of passes 1 to 3 can be, and the lengths of pieces. A text is weighed byte by byte: a `'` as 2, every
-- other byte as some n. Assumes nothing.
use Rattle.std.specs.Prelude.{Option, Some, None}
use Rattle.std.proofs.lemmas.Bool.{cond_both, and_from, and_parts, or_parts}
use mathlib.Core.Path.{◌≡◌, refl, sym, ap, ◌∙◌, subst}
use mathlib.Core.Bool.{Bool, true, false, cond, not, ◌&&◌, false≢true}
use mathlib.Core.List.{List, [], ◌∷◌, ◌++◌, map, reverse, reverse_aux}
use Prim.Native.Nat.{ℕ, zero, suc, ◌+◌, ◌-◌, ◌*◌, ◌≤◌, ◌<◌, zero-le, suc-le-suc}
use native.Mathlib.Nat.{add-zero, zero-add, add-suc, suc-add}
use native.Mathlib.Omega.{arith}
use borrow.Author.Tests.{eqb-true, eqb-false, eq-eqb, le-ltb}
use lib.Dec.{eqb}
use lib.ListN.{length, take, drop, length-append, length-map, length-reverse}
use lib.Seq.{length-take-le, drop-drop}
use Rattle.spec.proofs.ByteSets.{sign_not_ident}
use Rattle.spec.proofs.Choice.{by, cond_le}
use Rattle.spec.proofs.ListLaws.{while_all, total_append, total_reverse, total_cut, total_while, total_le, total_map, total_const, drop_end_le, drop_while_le}
use Rattle.spec.proofs.SpanLaws.{by_kind, span_pos, dollar_le, opens_in}
use Rattle.spec.proofs.MapLaws.{text_bytes, text_length}
use Rattle.spec.proofs.Apart.{apart}
use Rattle.spec.proofs.RefusalLaws.{target_in, assign_done, assign_refused}
use Rattle.spec.specs.Bytes.{ascii, within, upper, is_ident, is_word, is_w, is_digit, is_lower}
use Rattle.spec.specs.Lists.{is_empty, take_while, drop_while, drop_end, any, all, keep, concat, total}
use Rattle.spec.specs.Spans.{tag_len, dollar_of, Kind, line, block, single, double, code, span_of, span_at, span_len, lexeme_at, lexemes_from, lexemes}
use Rattle.spec.specs.Map.{Marked, live, quoted, byte, bytes, lives, marked_text, front_byte, front_live, of_byte, is_live_byte}
use Rattle.spec.specs.Search.{Test, first_from, first, starts_ignoring_case, starts, word_here, needle_here, byte_here, onto_first, pieces_from, pieces, starts_from, split_in_code}
use Rattle.spec.specs.Requote.{doubled, single_quoted, requote_span, requote_lexeme, requoted}
use Rattle.spec.specs.Elsif.{elsif_from, elsif}
use Rattle.spec.specs.Outcome.{result_too_long, Outcome, accepted, refused, ◌⊕◌, Rewriting, forget}
use Rattle.spec.specs.Assignments.{Target, assign_here, right_side, starts_name, assignment_at, assignment, checked_statement, statement, statement_target, join_statements, assignments}
use Rattle.spec.specs.Parts.{trim_end, trim}
use Rattle.spec.specs.Body.{buffer_size, requote_pass, elsif_pass, assign_pass, limited, and_then}
use Rattle.spec.specs.Answers.{text_limit}

-- ---- pass 1

-- for every weight f of bytes, and a bound b that each byte is within, and two quotes together
module _ (f : ℕ → ℕ) (b : ℕ) (within_b : (c : ℕ) → f c ≤ b) (quotes : 2 * f 39 ≤ b) where
  doubled_weight : (xs : List ℕ) → total f (doubled xs) ≤ total (λ c. b) xs
  unfolding doubled total
  doubled_weight [] = zero-le
  doubled_weight (c ∷ cs) =
      cond_both (eqb c 39) _ _ (λ l. total f l ≤ b + total (λ c. b) cs)
      (λ _. omega (arith, doubled_weight cs)) (λ _. omega (arith, within_b c, doubled_weight cs))

  two_bytes : (t : List ℕ) → 2 ≤ length t → 2 * b ≤ total (λ c. b) t
  unfolding total
  two_bytes [] h = absurd (omega arith)
  two_bytes (x ∷ []) h = absurd (omega arith)
  two_bytes (x ∷ y ∷ t) h = omega arith

  -- a dollar literal put in single quotes: its opener has n bytes, 2 or more, and the quotes weigh no more than two bytes may
  dollar_weight : (n k : ℕ) (t : List ℕ) → 2 ≤ n → n ≤ length t
      → total f (single_quoted (take k (drop n t))) ≤ total (λ c. b) t
  unfolding single_quoted total
  dollar_weight n k t h l =
      omega (
        arith,
        total_append f (doubled (take k (drop n t))) (39 ∷ []),
        doubled_weight (take k (drop n t)),
        total_cut (λ c. b) n t,
        total_cut (λ c. b) k (drop n t),
        two_bytes (take n t) (rw (length-take-le n t l) h),
      )

  -- a span's bytes requoted
  span_weight : (xs : List ℕ)
      → total f (requote_span (span_at xs) (take (span_len (span_at xs)) xs)) ≤ total (λ c. b) (take (span_len (span_at xs)) xs)
  unfolding span_at span_of requote_span dollar_of
  span_weight xs =
      let same : (k : Kind) → total f (take (span_len (span_of k xs)) xs) ≤ total (λ c. b) (take (span_len (span_of k xs)) xs) =
      λ k. total_le f (λ c. b) within_b (take (span_len (span_of k xs)) xs) in
      by_kind xs (λ k. total f (requote_span (span_of k xs) (take (span_len (span_of k xs)) xs)) ≤ total (λ c. b) (take (span_len (span_of k xs)) xs))
      (λ _. same line)
      (λ _. same block)
      (λ _. same single)
      (λ _. same double)
      (λ o.
      let n = 2 + tag_len (drop 1 xs) in
      let m = (dollar_of n xs).span in
      dollar_weight n (dollar_of n xs).inner_len (take m xs) (omega arith)
      (rw (length-take-le m xs (dollar_le n xs (opens_in xs o))) (omega arith)))
      (same code)

  requoted_from : (k : ℕ) (xs : List ℕ) → total f (concat (map requote_lexeme (lexemes_from k xs))) ≤ total (λ c. b) (drop k xs)
  unfolding lexemes_from lexeme_at requote_lexeme concat total
  requoted_from k [] = zero-le
  requoted_from zero (c ∷ cs) =
      let n = span_len (span_at (c ∷ cs)) in
      let e : suc (n - 1) ≡ n = omega (arith, span_pos c cs) in
      let d : drop (n - 1) cs ≡ drop n (c ∷ cs) = ap (λ (m : ℕ). drop m (c ∷ cs)) e in
      let rest : total f (concat (map requote_lexeme (lexemes_from (n - 1) cs))) ≤ total (λ c. b) (drop n (c ∷ cs)) =
      rw (sym d) (requoted_from (n - 1) cs) in
      omega (
        arith,
        total_append f (requote_span (span_at (c ∷ cs)) (take n (c ∷ cs))) (concat (map requote_lexeme (lexemes_from (n - 1) cs))),
        span_weight (c ∷ cs),
        total_cut (λ c. b) n (c ∷ cs),
        rest,
      )
  requoted_from (suc k) (c ∷ cs) = requoted_from k cs

  -- the requoted text weighs at most b for each byte of the text
  pub requoted_weight : (xs : List ℕ) → total f (requoted xs) ≤ b * length xs
  unfolding requoted lexemes
  requoted_weight xs = rw (total_const b xs) at (requoted_from 0 xs)

-- pass 1 at most doubles the length
pub requoted_length_lem : (xs : List ℕ) → length (requoted xs) ≤ 2 * length xs
requoted_length_lem xs =
    omega (arith, total_const 1 (requoted xs), requoted_weight (λ c. 1) 2 (λ c. omega arith) (omega arith) xs)

-- ---- the weight of a byte: 2 for a `'`, n for any other

unfoldable pub weight : ℕ → ℕ → ℕ
weight n c = cond (eqb c 39) 2 n

abbrev pub mark_weight : ℕ → Marked → ℕ
mark_weight n x = weight n (byte x)

weight_le : (n c : ℕ) → 2 ≤ n → weight n c ≤ n
unfolding weight
weight_le n c h = cond_le (eqb c 39) 2 n n h (omega arith)

weight_two : (n c : ℕ) → 2 ≤ n → 2 ≤ weight n c
unfolding weight
weight_two n c h = cond_both (eqb c 39) 2 n (λ (m : ℕ). 2 ≤ m) (λ _. omega arith) (λ _. h)

weight_other : (n c : ℕ) → eqb c 39 ≡ false → weight n c ≡ n
unfolding weight
weight_other n c h = simp h

weight_more : (c : ℕ) → weight 5 c ≤ weight 6 c
unfolding weight
weight_more c = by (eqb c 39) (λ e. simp e (omega arith)) (λ e. simp e (omega arith))

pub weight_bytes : (n : ℕ) (t : List Marked) → total (weight n) (bytes t) ≡ total (mark_weight n) t
unfolding bytes
weight_bytes n t = total_map (weight n) byte t

-- each byte weighs 2 or more
weight_length : (t : List Marked) → 2 * length t ≤ total (mark_weight 5) t
weight_length t =
    omega (arith, total_const 2 t, total_le (λ x. 2) (mark_weight 5) (λ x. weight_two 5 (byte x) (omega arith)) t)

-- ignoring case, only a `'` is a `'`
upper_other : (c a : ℕ) → eqb (upper c) (upper a) ≡ true → eqb (upper a) 39 ≡ false → eqb c 39 ≡ false
unfolding upper is_lower within
upper_other c a e h =
    by (eqb c 39)
    (λ q.
    let u : 39 ≡ upper a = rw (eqb-true c 39 q) at (eqb-true (upper c) (upper a) e) in
    absurd (eqb-false (upper a) 39 h (sym u)))
    (λ q. q)

-- a word without `'` that stands in front weighs n a byte
word_weight : (n : ℕ) (w : List ℕ) (t : List Marked) → starts_ignoring_case w t ≡ true → any (λ a. eqb (upper a) 39) w ≡ false
    → total (mark_weight n) t ≡ total (λ a. n) w + total (mark_weight n) (drop (length w) t)
unfolding starts_ignoring_case any total
word_weight n [] t h q = omega arith
word_weight n (a ∷ w) [] h q = absurd (false≢true h)
word_weight n (a ∷ w) (x ∷ t) h q =
    let e = (and_parts (eqb (upper (byte x)) (upper a)) (starts_ignoring_case w t) h).0 in
    let m = (and_parts (eqb (upper (byte x)) (upper a)) (starts_ignoring_case w t) h).1 in
    let o = (or_parts (eqb (upper a) 39) (any (λ a. eqb (upper a) 39) w) q).0 in
    let r = (or_parts (eqb (upper a) 39) (any (λ a. eqb (upper a) 39) w) q).1 in
    omega (arith, weight_other n (byte x) (upper_other (byte x) a e o), word_weight n w t m r)

-- what stands in front exactly also stands there ignoring case
starts_any_case : (w : List ℕ) (t : List Marked) → starts w t ≡ true → starts_ignoring_case w t ≡ true
unfolding starts starts_ignoring_case
starts_any_case [] t h = refl
starts_any_case (a ∷ w) [] h = h
starts_any_case (a ∷ w) (x ∷ t) h =
    let e = eqb-true (byte x) a ((and_parts (eqb (byte x) a) (starts w t) h).0) in
    let m = (and_parts (eqb (byte x) a) (starts w t) h).1 in
    and_from _ _ (eq-eqb _ _ (ap upper e)) (starts_any_case w t m)

-- ---- pass 2

-- the word stands in front where a test for it passes
pub word_in : (set : ℕ → Bool) (w : List ℕ) (p : ℕ) (t : List Marked) → word_here set w p t ≡ true → starts_ignoring_case w t ≡ true
unfolding word_here
word_in set w p t h =
    let e = (and_parts (front_live t) _ h).1 in
    (and_parts (starts_ignoring_case w t) _ e).0

elsif_out : total (mark_weight 5) (lives (ascii "ELSEIF")) ≡ 30
unfolding total lives weight
elsif_out = refl

elsif_in : (t : List Marked) → starts_ignoring_case (ascii "ELSIF") t ≡ true → total (mark_weight 6) t ≡ 30 + total (mark_weight 6) (drop 5 t)
unfolding total any upper is_lower within
elsif_in t h = word_weight 6 (ascii "ELSIF") t h refl

elsif_from_lem : (k p : ℕ) (t : List Marked) → total (mark_weight 5) (elsif_from k p t) ≤ total (mark_weight 6) (drop k t)
unfolding elsif_from total
elsif_from_lem k p [] = zero-le
elsif_from_lem zero p (x ∷ t) =
    cond_both (word_here is_word (ascii "ELSIF") p (x ∷ t)) _ _ (λ (l : List Marked). total (mark_weight 5) l ≤ mark_weight 6 x + total (mark_weight 6) t)
    (λ h. omega (
      arith,
      total_append (mark_weight 5) (lives (ascii "ELSEIF")) (elsif_from 4 (byte x) t),
      elsif_out,
      elsif_in (x ∷ t) (word_in is_word (ascii "ELSIF") p (x ∷ t) h),
      elsif_from_lem 4 (byte x) t,
    ))
    (λ _. omega (arith, weight_more (byte x), elsif_from_lem 0 (byte x) t))
elsif_from_lem (suc k) p (x ∷ t) = elsif_from_lem k (byte x) t

-- ELSIF's five letters at 6 weigh what ELSEIF's six letters weigh at 5
pub elsif_weight : (t : List Marked) → total (mark_weight 5) (elsif t) ≤ total (mark_weight 6) t
unfolding elsif
elsif_weight t = elsif_from_lem 0 0 t

-- ---- pieces

-- x goes onto a first piece
onto_first_lem : (f : Marked → ℕ) (s : ℕ) (x : Marked) (ps : List (List Marked)) → 0 < length ps
    → total (λ q. s + total f q) (onto_first x ps) ≡ f x + total (λ q. s + total f q) ps
unfolding onto_first total
onto_first_lem f s x [] h = absurd (omega arith)
onto_first_lem f s x (p ∷ ps) h = omega arith

onto_some : (x : Marked) (ps : List (List Marked)) → 0 < length (onto_first x ps)
unfolding onto_first
onto_some x [] = suc-le-suc zero-le
onto_some x (p ∷ ps) = suc-le-suc zero-le

-- there is at least one piece
pub pieces_some : (p : Test) (back t : List Marked) → 0 < length (pieces_from p back t)
unfolding pieces_from
pieces_some p back [] = suc-le-suc zero-le
pieces_some p back (x ∷ t) =
    cond_both (p back (x ∷ t)) _ _ (λ (ps : List (List Marked)). 0 < length ps) (λ _. suc-le-suc zero-le)
    (λ _. onto_some x (pieces_from p (x ∷ back) t))

pieces_from_lem : (f : Marked → ℕ) (s : ℕ) (p : Test) → ((back t : List Marked) (x : Marked) → p back (x ∷ t) ≡ true → f x ≡ s)
    → (back t : List Marked) → total (λ q. s + total f q) (pieces_from p back t) ≡ s + total f t
unfolding pieces_from total
pieces_from_lem f s p h back [] = omega arith
pieces_from_lem f s p h back (x ∷ t) =
    let ps = pieces_from p (x ∷ back) t in
    cond_both (p back (x ∷ t)) _ _ (λ (ps : List (List Marked)). total (λ q. s + total f q) ps ≡ s + (f x + total f t))
    (λ e. omega (arith, h back t x e, pieces_from_lem f s p h (x ∷ back) t))
    (λ _. omega (arith, onto_first_lem f s x ps (pieces_some p (x ∷ back) t), pieces_from_lem f s p h (x ∷ back) t))

-- where every separator weighs s: the pieces, each with one s, weigh as much as the text with one s
pub pieces_weight : (f : Marked → ℕ) (s : ℕ) (p : Test) → ((back t : List Marked) (x : Marked) → p back (x ∷ t) ≡ true → f x ≡ s)
    → (t : List Marked) → total (λ q. s + total f q) (pieces p t) ≡ s + total f t
unfolding pieces
pieces_weight f s p h t = pieces_from_lem f s p h [] t

with_one : (ps : List (List Marked))
    → total (λ q. 1 + total (λ (x : Marked). 1) q) ps ≡ total (λ (q : List Marked). length q) ps + length ps
unfolding total
with_one [] = refl
with_one (p ∷ ps) = omega (arith, total_const 1 p, with_one ps)

-- for every test, piece lengths and one per separator sum to the text's length
pub pieces_length : (p : Test) (t : List Marked)
    → total (λ (q : List Marked). length q) (pieces p t) + (length (pieces p t) - 1) ≡ length t
unfolding pieces
pieces_length p t =
    omega (arith, with_one (pieces p t), pieces_weight (λ x. 1) 1 p (λ _ _ _ _. refl) t, total_const 1 t, pieces_some p [] t)

-- cut at a live byte there is one piece more than there are such bytes
pub pieces_count : (b : ℕ) (t : List Marked) → length (pieces (byte_here b) t) ≡ suc (length (keep (is_live_byte b) t))
unfolding pieces pieces_from byte_here keep onto_first
pieces_count b t = go [] t
  where
    onto : (x : Marked) (ps : List (List Marked)) → 0 < length ps → length (onto_first x ps) ≡ length ps
    onto x [] h = absurd (omega arith)
    onto x (p ∷ ps) h = refl

    go : (back t : List Marked) → length (pieces_from (byte_here b) back t) ≡ suc (length (keep (is_live_byte b) t))
    go back [] = refl
    go back (x ∷ t) =
        by (is_live_byte b x)
        (λ e. simp e (ap suc (go (x ∷ back) t)))
        (λ e. simp e (onto x (pieces_from (byte_here b) (x ∷ back) t) (pieces_some (byte_here b) (x ∷ back) t) ∙ go (x ∷ back) t))

-- the lengths of the pieces of a text of n bytes, from where each starts
unfoldable pub lengths_of : ℕ → List ℕ → List ℕ
lengths_of n [] = []
lengths_of n (i ∷ []) = (n - i) ∷ []
lengths_of n (i ∷ j ∷ js) = (j - 1 - i) ∷ lengths_of n (j ∷ js)

lengths_from : (n i : ℕ) (ps : List (List Marked)) → n ≡ i + (total (λ (q : List Marked). length q) ps + (length ps - 1))
    → lengths_of n (starts_from i ps) ≡ map (λ (q : List Marked). length q) ps
unfolding lengths_of starts_from total
lengths_from n i [] h = refl
lengths_from n i (p ∷ []) h = let e : n - i ≡ length p = omega arith in ap (λ (m : ℕ). m ∷ []) e
lengths_from n i (p ∷ q ∷ qs) h =
    let e : suc (i + length p) - 1 - i ≡ length p = omega arith in
    rw (e, lengths_from n (suc (i + length p)) (q ∷ qs) (omega arith))

-- `split_in_code` gives where each piece starts: these starts give the pieces' lengths
pub split_lengths : (xs : List ℕ) (b : ℕ)
    → lengths_of (length xs) (split_in_code xs b) ≡ map (λ (q : List Marked). length q) (pieces (byte_here b) (marked_text xs))
unfolding split_in_code
split_lengths xs b =
    let t = marked_text xs in
    lengths_from (length xs) 0 (pieces (byte_here b) t) (omega (arith, pieces_length (byte_here b) t, text_length xs))

-- its piece lengths and one per live separator sum to the text's length
pub split_sum : (xs : List ℕ) (b : ℕ)
    → total (λ n. n) (lengths_of (length xs) (split_in_code xs b)) + length (keep (is_live_byte b) (marked_text xs)) ≡ length xs
split_sum xs b =
    let t = marked_text xs in
    rw (split_lengths xs b, total_map)
    (omega (arith, pieces_length (byte_here b) t, pieces_count b t, text_length xs))

-- ---- pass 3

-- what holds of every place that passes the test, and of none, holds of a search's answer
first_from_lem : (p : Test) (P : Option ℕ → Type 0) (back t : List Marked)
    → ((j : ℕ) → p (reverse_aux (take j t) back) (drop j t) ≡ true → P (Some (length back + j))) → P None
    → P (first_from p back t)
unfolding first_from
first_from_lem p P back [] h n = n
first_from_lem p P back (x ∷ t) h n =
    cond_both (p back (x ∷ t)) _ _ P
    (λ e. rw add-zero at (h 0 e))
    (λ _. first_from_lem p P (x ∷ back) t
    (λ j e. subst (λ (m : ℕ). P (Some m)) (add-suc (length back) j ∙ sym (suc-add (length back) j)) (h (suc j) e)) n)

pub first_case : (p : Test) (P : Option ℕ → Type 0) (t : List Marked)
    → ((j : ℕ) → p (reverse (take j t)) (drop j t) ≡ true → P (Some j)) → P None → P (first p 0 t)
unfolding first
first_case p P t h n = first_from_lem p P [] t (λ j e. subst (λ (m : ℕ). P (Some m)) (sym (zero-add j)) (h j e)) n

ident_other : (c : ℕ) → is_ident c ≡ true → eqb c 39 ≡ false
ident_other c h =
    by (eqb c 39) (λ e. absurd (false≢true (sym (ap is_ident (eqb-true c 39 e) ∙ sign_not_ident 39 refl) ∙ h))) (λ e. e)

ident_weight : (n : ℕ) (t : List Marked) → all (of_byte is_ident) t ≡ true → total (mark_weight n) t ≡ total (λ x. n) t
unfolding total all of_byte
ident_weight n [] h = refl
ident_weight n (x ∷ t) h =
    omega (arith, weight_other n (byte x) (ident_other (byte x) ((and_parts (is_ident (byte x)) _ h).0)), ident_weight n t ((and_parts (is_ident (byte x)) _ h).1))

name_some : (t : List Marked) → starts_name t ≡ true → 1 ≤ length t
unfolding starts_name front_byte
name_some [] h = absurd (false≢true (sym (sign_not_ident 0 refl) ∙ (and_parts (is_ident 0) (not (is_digit 0)) h).0))
name_some (x ∷ t) h = suc-le-suc zero-le

pub trim_le : (t : List Marked) → length (trim t) ≤ length t
unfolding trim trim_end
trim_le t = omega (arith, drop_end_le (of_byte is_w) (drop_while (of_byte is_w) t), drop_while_le (of_byte is_w) t)

pub right_le : (t : List Marked) → length (right_side t) ≤ length t
unfolding right_side
right_le t =
    let u = drop_end (of_byte (λ c. eqb c 59)) (trim t) in
    omega (arith, trim_le u, drop_end_le (of_byte (λ c. eqb c 59)) (trim t), trim_le t)

set_length : (front name right : List Marked)
    → length (front ++ (lives (ascii "SET ") ++ (name ++ (lives (ascii " = ") ++ right)))) ≡ length front + length name + length right + 7
unfolding lives
set_length front name right =
    omega (
      arith,
      length-append front (lives (ascii "SET ") ++ (name ++ (lives (ascii " = ") ++ right))),
      length-append name (lives (ascii " = ") ++ right),
    )

assign_in : (back t : List Marked) → assign_here back t ≡ true → total (mark_weight 5) t ≡ 10 + total (mark_weight 5) (drop 2 t)
unfolding assign_here needle_here total any upper is_lower within
assign_in back t h =
    word_weight 5 (ascii ":=") t (starts_any_case (ascii ":=") t ((and_parts (front_live t) (starts (ascii ":=") t) h).1)) refl

-- an assignment adds 5 bytes at most; its name and its `:=` weigh 9 more than twice their length, or more
assignment_weight : (t : List Marked) → 2 * length (assignment t) ≤ total (mark_weight 5) t + 1
unfolding assignment assignment_at
assignment_weight t =
    first_case assign_here (λ f. 2 * length (assignment_at f t) ≤ total (mark_weight 5) t + 1) t
    (λ i e.
    let b = drop_while (of_byte is_w) (reverse (take i t)) in
    let name = take_while (of_byte is_ident) b in
    let front = drop_while (of_byte is_ident) b in
    let right = right_side (drop (i + 2) t) in
    cond_both (starts_name (reverse name) && not (is_empty right))
    (reverse front ++ (lives (ascii "SET ") ++ (reverse name ++ (lives (ascii " = ") ++ right)))) t (λ l. 2 * length l ≤ total (mark_weight 5) t + 1)
    (λ h.
    let d : total (mark_weight 5) (drop i t) ≡ 10 + total (mark_weight 5) (drop (i + 2) t) =
    rw (drop-drop 2 i t) at (assign_in (reverse (take i t)) (drop i t) e) in
    omega (
      arith,
      d,
      set_length (reverse front) (reverse name) right,
      length-reverse front,
      length-reverse name,
      name_some (reverse name) ((and_parts (starts_name (reverse name)) _ h).0),
      total_cut (mark_weight 5) i t,
      total_reverse (mark_weight 5) (take i t),
      total_while (mark_weight 5) (of_byte is_w) (reverse (take i t)),
      total_while (mark_weight 5) (of_byte is_ident) b,
      ident_weight 5 name (while_all (of_byte is_ident) b),
      total_const 5 name,
      weight_length front,
      right_le (drop (i + 2) t),
      weight_length (drop (i + 2) t),
    ))
    (λ _. omega (arith, weight_length t)))
    (omega (arith, weight_length t))

-- the text of an outcome, none for a refusal
abbrev pub text_of : Outcome (List Marked) → List Marked
text_of (accepted t) = t
text_of (refused r) = []

both_length : (a b : Outcome (List Marked)) → length (text_of (a ⊕ b)) ≤ length (text_of a) + length (text_of b)
unfolding ◌⊕◌
both_length (accepted t) (accepted u) = omega (arith, length-append t u)
both_length (accepted t) (refused r) = zero-le
both_length (refused r) o = zero-le

statement_weight : (t : List Marked) → 2 * length (text_of (statement t)) ≤ total (mark_weight 5) t + 1
unfolding statement checked_statement
statement_weight t = go (statement_target t)
  where
    go : (r : Option Target) → 2 * length (text_of (checked_statement r t)) ≤ total (mark_weight 5) t + 1
    go None = assignment_weight t
    go (Some r) = omega arith

-- a `;` weighs 3 more than twice its length, so only the last statement may add 1 to the weight
join_weight : (s : List Marked) (ss : List (List Marked))
    → 2 * length (text_of (join_statements (s ∷ ss))) + 4 ≤ total (λ q. 5 + total (mark_weight 5) q) (s ∷ ss)
unfolding join_statements total
join_weight s [] = omega (arith, statement_weight s)
join_weight s (r ∷ ss) =
    let semicolon = accepted (live 59 ∷ []) in
    let rest = join_statements (r ∷ ss) in
    omega (arith, statement_weight s, both_length (statement s) (semicolon ⊕ rest), both_length semicolon rest, join_weight r ss)

semicolon_weight : (back t : List Marked) (x : Marked) → byte_here 59 back (x ∷ t) ≡ true → mark_weight 5 x ≡ 5
unfolding byte_here weight
semicolon_weight back t (live c) h = rw (eqb-true c 59 h)
semicolon_weight back t (quoted c) h = absurd (false≢true h)

-- twice the length of pass 3's text is at most the weight of what it is given, and one
pub assignments_weight : (t : List Marked) → 2 * length (text_of (assignments t)) ≤ total (mark_weight 5) t + 1
unfolding assignments pieces
assignments_weight t =
    omega (arith, joined (pieces (byte_here 59) t) (pieces_some (byte_here 59) [] t), pieces_weight (mark_weight 5) 5 (byte_here 59) semicolon_weight t)
  where
    joined : (ss : List (List Marked)) → 0 < length ss
        → 2 * length (text_of (join_statements ss)) + 4 ≤ total (λ q. 5 + total (mark_weight 5) q) ss
    joined [] h = absurd (omega arith)
    joined (s ∷ ss) h = join_weight s ss

-- ---- passes 1 to 3

-- a text beside its map weighs what the text weighs
text_weight : (n : ℕ) (xs : List ℕ) → total (mark_weight n) (marked_text xs) ≡ total (weight n) xs
text_weight n xs = sym (weight_bytes n (marked_text xs)) ∙ ap (total (weight n)) (text_bytes xs)

-- behind pass 2 a text weighs at most 6 for each byte of the first text
two_weight : (xs : List ℕ) → total (mark_weight 5) (elsif (marked_text (requoted xs))) ≤ 6 * length xs
unfolding weight
two_weight xs =
    omega (
      arith,
      elsif_weight (marked_text (requoted xs)),
      text_weight 6 (requoted xs),
      requoted_weight (weight 6) 6 (λ c. weight_le 6 c (omega arith)) (omega arith) xs,
    )

-- behind pass 2 a text is at most 3 times as long as the first text
pub two_length : (xs : List ℕ) → length (bytes (elsif (marked_text (requoted xs)))) ≤ 3 * length xs
unfolding bytes
two_length xs =
    let t = elsif (marked_text (requoted xs)) in
    omega (arith, two_weight xs, weight_length t, length-map t byte)

forget_length : (o : Outcome (List Marked)) (zs : List ℕ) → forget o ≡ accepted zs → length zs ≡ length (text_of o)
unfolding forget bytes
forget_length (accepted t) zs h = let e : map byte t ≡ zs = cc in sym (ap length e) ∙ length-map t byte
forget_length (refused r) zs h = let z : ◌≡◌ {A = ℕ} 0 1 = cc in absurd (omega arith)

-- and behind pass 3
pub three_length : (xs zs : List ℕ) → assign_pass (bytes (elsif (marked_text (requoted xs)))) ≡ accepted zs → length zs ≤ 3 * length xs
unfolding assign_pass
three_length xs zs h =
    let t = elsif (marked_text (requoted xs)) in
    omega (
      arith,
      two_weight xs,
      weight_bytes 5 t,
      text_weight 5 (bytes t),
      assignments_weight (marked_text (bytes t)),
      forget_length (assignments (marked_text (bytes t))) zs h,
    )

-- a text within the limit is within the buffer behind pass 1, behind pass 2 and behind pass 3
pub one_fits : (xs : List ℕ) → length xs ≤ text_limit → length (requoted xs) ≤ buffer_size
unfolding text_limit buffer_size
one_fits xs h = omega (arith, requoted_length_lem xs)

pub two_fits : (xs : List ℕ) → length xs ≤ text_limit → length (bytes (elsif (marked_text (requoted xs)))) ≤ buffer_size
unfolding text_limit buffer_size
two_fits xs h = omega (arith, two_length xs)

pub three_fits : (xs zs : List ℕ) → length xs ≤ text_limit → assign_pass (bytes (elsif (marked_text (requoted xs)))) ≡ accepted zs
    → length zs ≤ buffer_size
unfolding text_limit buffer_size
three_fits xs zs h e = omega (arith, three_length xs zs e)

-- there is no refusal 6 where a pass's text is within the buffer
pub accepted_same : (zs : List ℕ) → length zs ≤ buffer_size → limited (accepted zs) ≡ accepted zs
unfolding limited
accepted_same zs h = simp (le-ltb buffer_size (length zs) h)

pub limited_same : (r : Rewriting) → ((zs : List ℕ) → r ≡ accepted zs → length zs ≤ buffer_size) → limited r ≡ r
unfolding limited
limited_same (accepted zs) h = accepted_same zs (h zs refl)
limited_same (refused r) h = refl

-- so on a text within the limit passes 1 to 3 give what pass 3 gives
pub three_passes : (xs : List ℕ) → length xs ≤ text_limit
    → and_then (and_then (and_then (accepted xs) requote_pass) elsif_pass) assign_pass
    ≡ assign_pass (bytes (elsif (marked_text (requoted xs))))
unfolding and_then requote_pass elsif_pass
three_passes xs h =
    rw (
      accepted_same (requoted xs) (one_fits xs h),
      accepted_same (bytes (elsif (marked_text (requoted xs)))) (two_fits xs h),
      limited_same (assign_pass (bytes (elsif (marked_text (requoted xs))))) (λ zs e. three_fits xs zs h e),
    )

-- pass 3 by itself never gives refusal 6
pub assign_not_long : (xs : List ℕ) → assign_pass xs ≡ refused result_too_long → ⊥
assign_not_long xs h = go (target_in xs) refl
  where
    go : (o : Option Target) → target_in xs ≡ o → ⊥
    go None e = let f = assign_done xs e in apart (cc)
    go (Some r) e = let f = assign_refused xs r e in apart (cc)

-- on a text within the limit passes 1 to 3 never give refusal 6
pub three_not_long : (xs : List ℕ) → length xs ≤ text_limit
    → and_then (and_then (and_then (accepted xs) requote_pass) elsif_pass) assign_pass ≡ refused result_too_long → ⊥
three_not_long xs h e = assign_not_long (bytes (elsif (marked_text (requoted xs)))) (sym (three_passes xs h) ∙ e)
