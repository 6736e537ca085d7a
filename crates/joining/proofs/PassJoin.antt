-- Passes 1 to 4 over two texts joined, the first with a live `;` at its end: each gives the two results joined. Passes 2 to 4
-- are laws on marked texts. Assumes nothing.
use mathlib.Core.Path.{◌≡◌, refl, sym, ap, ◌∙◌, subst}
use mathlib.Core.Bool.{Bool, true, false, cond, not, ◌&&◌, false≢true}
use mathlib.Core.List.{List, [], ◌∷◌, ◌++◌, map, append_assoc, append-nil, map-append}
use Prim.Native.Nat.{ℕ, zero, suc, ◌≤◌, zero-le, suc-le-suc}
use native.Mathlib.Nat.{le_of_suc-le-suc, not-suc-le-zero}
use borrow.Author.Tests.{not-true}
use lib.Dec.{eqb}
use lib.ListN.{length, drop}
use Rattle.spec.proofs.RefusalOutcomes.{statement_nil}
use Rattle.spec.proofs.ByteSets.{sign_not_word}
use Rattle.std.proofs.lemmas.Bool.{and_parts}
use Rattle.spec.proofs.Choice.{by}
use Rattle.spec.proofs.ListLaws.{concat_append}
use Rattle.spec.proofs.LengthLaws.{word_in}
use Rattle.spec.proofs.JoinedPieces.{pieces_cons}
use Rattle.spec.proofs.JoinedPieces as joined_pieces
use Rattle.spec.specs.Bytes.{ascii, within, is_lower, is_word, is_quote, upper}
use Rattle.spec.specs.Lists.{all}
use Rattle.spec.specs.Spans.{lexemes}
use Rattle.spec.specs.Map.{Marked, live, quoted, byte, lives, marked_text, is_live_byte, front_byte, front_live}
use Rattle.spec.specs.Search.{starts_ignoring_case, word_here, byte_here, pieces_from, pieces}
use Rattle.spec.specs.Requote.{requote_lexeme, requoted}
use Rattle.spec.specs.Elsif.{elsif_from, elsif}
use Rattle.spec.specs.Outcome.{Outcome, accepted, refused, ◌⊕◌}
use Rattle.spec.specs.Assignments.{join_statements, assignments}
use Rattle.spec.specs.SelectInto.{quote_after, quote_walk, select_statement, join_selects, select_into}
use Rattle.spec.specs.Closed.{ends_live}
use Rattle.joining.proofs.SpanJoin.{lexemes_join, ends_split}

-- what holds of every text with a live `;` put behind it holds of every text that ends so
pub at_end : (P : List Marked → Type 0) → ((s : List Marked) → P (s ++ (live 59 ∷ []))) → (t : List Marked) → ends_live t ≡ true → P t
at_end P f t h =
    let w = ends_split t h in
    subst P (sym w.1) (f w.0)

-- ---- pass 1

pub requoted_join : (a b : List ℕ) → ends_live (marked_text a) ≡ true → requoted (a ++ b) ≡ requoted a ++ requoted b
unfolding requoted
requoted_join a b h =
    rw (lexemes_join a b h, map-append requote_lexeme (lexemes a) (lexemes b))
    (concat_append (map requote_lexeme (lexemes a)) (map requote_lexeme (lexemes b)))

-- ---- words before a `;`

-- no byte of the word is `;`
unfoldable pub no_semi : List ℕ → Bool
no_semi w = all (λ (a : ℕ). not (eqb 59 (upper a))) w

-- `;` is at most its last byte
unfoldable pub semi_last : List ℕ → Bool
semi_last [] = true
semi_last (a ∷ []) = true
semi_last (a ∷ b ∷ w) = not (eqb 59 (upper a)) && semi_last (b ∷ w)

none_last : (w : List ℕ) → no_semi w ≡ true → semi_last w ≡ true
unfolding no_semi semi_last all
none_last [] h = refl
none_last (a ∷ []) h = refl
none_last (a ∷ b ∷ w) h =
    let n = not (eqb 59 (upper a)) in
    rw ((and_parts n (no_semi (b ∷ w)) h).0) (none_last (b ∷ w) ((and_parts n (no_semi (b ∷ w)) h).1))

semi_upper : upper 59 ≡ 59
unfolding upper is_lower within
semi_upper = refl

front_keep : (n : ℕ) (s u : List Marked) → n ≤ length s
    → front_byte (drop n (s ++ (live 59 ∷ u))) ≡ front_byte (drop n (s ++ (live 59 ∷ [])))
unfolding front_byte
front_keep zero [] u h = refl
front_keep zero (x ∷ s) u h = refl
front_keep (suc n) [] u h = absurd (not-suc-le-zero h)
front_keep (suc n) (x ∷ s) u h = front_keep n s u (le_of_suc-le-suc h)

live_keep : (s u : List Marked) → front_live (s ++ (live 59 ∷ u)) ≡ front_live (s ++ (live 59 ∷ []))
unfolding front_live
live_keep [] u = refl
live_keep (x ∷ s) u = refl

module _ (u : List Marked) where
  -- what stands behind a `;` does not change whether a word stands before it
  pub starts_keep : (w : List ℕ) (s : List Marked) → semi_last w ≡ true
      → starts_ignoring_case w (s ++ (live 59 ∷ u)) ≡ starts_ignoring_case w (s ++ (live 59 ∷ []))
  unfolding starts_ignoring_case semi_last
  starts_keep [] s h = refl
  starts_keep (a ∷ []) [] h = refl
  starts_keep (a ∷ []) (x ∷ s) h = refl
  starts_keep (a ∷ b ∷ w) [] h =
      let e : eqb 59 (upper a) ≡ false = not-true (eqb 59 (upper a)) ((and_parts (not (eqb 59 (upper a))) (semi_last (b ∷ w)) h).0) in
      rw (semi_upper, e)
  starts_keep (a ∷ b ∷ w) (x ∷ s) h =
      ap (λ (r : Bool). eqb (upper (byte x)) (upper a) && r)
      (starts_keep (b ∷ w) s ((and_parts (not (eqb 59 (upper a))) (semi_last (b ∷ w)) h).1))

  -- a word without `;` that stands here ends before it
  pub starts_short : (w : List ℕ) (s : List Marked) → no_semi w ≡ true
      → starts_ignoring_case w (s ++ (live 59 ∷ u)) ≡ true
      → length w ≤ length s
  unfolding starts_ignoring_case no_semi all
  starts_short [] s n h = zero-le
  starts_short (a ∷ w) [] n h =
      let e : eqb 59 (upper a) ≡ false = not-true (eqb 59 (upper a)) ((and_parts (not (eqb 59 (upper a))) (no_semi w) n).0) in
      absurd (false≢true (sym e ∙ (rw semi_upper at ((and_parts (eqb (upper 59) (upper a)) (starts_ignoring_case w u) h).0))))
  starts_short (a ∷ w) (x ∷ s) n h =
      suc-le-suc (starts_short w s ((and_parts (not (eqb 59 (upper a))) (no_semi w) n).1)
      ((and_parts (eqb (upper (byte x)) (upper a)) (starts_ignoring_case w (s ++ (live 59 ∷ u))) h).1))

  module _ (set : ℕ → Bool) (w : List ℕ) (p : ℕ) (s : List Marked) (n : no_semi w ≡ true) where
    pub word_short : word_here set w p (s ++ (live 59 ∷ u)) ≡ true → length w ≤ length s
    word_short h = starts_short w s n (word_in set w p (s ++ (live 59 ∷ u)) h)

    pub word_keep : word_here set w p (s ++ (live 59 ∷ u)) ≡ word_here set w p (s ++ (live 59 ∷ []))
    unfolding word_here
    word_keep =
        let k = starts_keep w s (none_last w n) in
        by (starts_ignoring_case w (s ++ (live 59 ∷ u)))
        (λ e. rw (live_keep s u, front_keep (length w) s u (starts_short w s n e), k))
        (λ e. rw (live_keep s u, ← k, e))

  -- no word starts with it
  pub word_semi : (set : ℕ → Bool) (a : ℕ) (w : List ℕ) (p : ℕ) → no_semi (a ∷ w) ≡ true → word_here set (a ∷ w) p (live 59 ∷ u) ≡ false
  word_semi set a w p n =
      by (word_here set (a ∷ w) p (live 59 ∷ u))
      (λ e. absurd (not-suc-le-zero (word_short set (a ∷ w) p [] n e)))
      (λ e. e)

-- behind a `;` a word stands as at the start of a text
pub word_fresh : (w : List ℕ) (t : List Marked) → word_here is_word w 59 t ≡ word_here is_word w 0 t
unfolding word_here
word_fresh w t = rw (sign_not_word 59 refl refl, sign_not_word 0 refl refl) refl

-- ---- pass 2

elsif_walk : (k p : ℕ) (s u : List Marked) → k ≤ length s
    → elsif_from k p (s ++ (live 59 ∷ u)) ≡ elsif_from k p (s ++ (live 59 ∷ [])) ++ elsif_from 0 59 u
unfolding elsif_from no_semi all upper is_lower within
elsif_walk zero p [] u h = rw (word_semi u is_word 69 (ascii "LSIF") p refl, word_semi [] is_word 69 (ascii "LSIF") p refl)
elsif_walk (suc k) p [] u h = absurd (not-suc-le-zero h)
elsif_walk zero p (x ∷ s) u h =
    let w = ascii "ELSIF" in
    let f = word_keep u is_word w p (x ∷ s) refl in
    by (word_here is_word w p (x ∷ (s ++ (live 59 ∷ []))))
    (λ e. rw (f, e, elsif_walk 4 (byte x) s u (le_of_suc-le-suc (word_short u is_word w p (x ∷ s) refl (f ∙ e))))
    (sym (append_assoc (lives (ascii "ELSEIF")) (elsif_from 4 (byte x) (s ++ (live 59 ∷ []))) (elsif_from 0 59 u))))
    (λ e. rw (f, e) (ap (λ (l : List Marked). x ∷ l) (elsif_walk 0 (byte x) s u zero-le)))
elsif_walk (suc k) p (x ∷ s) u h = elsif_walk k (byte x) s u (le_of_suc-le-suc h)

elsif_fresh : (t : List Marked) → elsif_from 0 59 t ≡ elsif t
unfolding elsif elsif_from
elsif_fresh [] = refl
elsif_fresh (x ∷ t) = rw (word_fresh (ascii "ELSIF") (x ∷ t))

-- at any live `;`
pub elsif_at_lem : (s u : List Marked) → elsif (s ++ (live 59 ∷ u)) ≡ elsif (s ++ (live 59 ∷ [])) ++ elsif u
unfolding elsif
elsif_at_lem s u = elsif_walk 0 0 s u zero-le ∙ ap (λ (l : List Marked). elsif_from 0 0 (s ++ (live 59 ∷ [])) ++ l) (elsif_fresh u)

pub elsif_join : (t u : List Marked) → ends_live t ≡ true → elsif (t ++ u) ≡ elsif t ++ elsif u
elsif_join t u =
    at_end (λ t. elsif (t ++ u) ≡ elsif t ++ elsif u)
    (λ s. ap elsif (append_assoc s (live 59 ∷ []) u) ∙ elsif_at_lem s u)
    t

-- ---- statements

-- the test for `;` looks at the front byte alone
front_semicolon : (back t : List Marked) (x : Marked) → byte_here 59 back (x ∷ t) ≡ is_live_byte 59 x
unfolding byte_here
front_semicolon back t x = refl

-- a live `;` ends the pieces before it, and those behind it start anew
pub pieces_at_lem : (back s u : List Marked) → pieces_from (byte_here 59) back (s ++ (live 59 ∷ u)) ≡ pieces_from (byte_here 59) back s ++ pieces (byte_here 59) u
pieces_at_lem back s u = joined_pieces.pieces_at_lem (byte_here 59) (is_live_byte 59) front_semicolon back s u (live 59) refl

-- ---- pass 3

pub outcome_nil : (o : Outcome (List Marked)) → o ⊕ accepted [] ≡ o
unfolding ◌⊕◌
outcome_nil (accepted t) = ap accepted (append-nil t)
outcome_nil (refused r) = refl

pub outcome_assoc : (o p q : Outcome (List Marked)) → (o ⊕ p) ⊕ q ≡ o ⊕ (p ⊕ q)
unfolding ◌⊕◌
outcome_assoc (accepted t) (accepted u) (accepted v) = ap accepted (append_assoc t u v)
outcome_assoc (accepted t) (accepted u) (refused r) = refl
outcome_assoc (accepted t) (refused r) o = refl
outcome_assoc (refused r) p o = refl

statements_append : (p q : List Marked) (ps qs : List (List Marked))
    → join_statements ((p ∷ ps) ++ (q ∷ qs)) ≡ join_statements ((p ∷ ps) ++ ([] ∷ [])) ⊕ join_statements (q ∷ qs)
unfolding join_statements
statements_append p q [] qs =
    rw (statement_nil, outcome_nil, outcome_assoc)
statements_append p q (r ∷ ps) qs =
    rw (statements_append r q ps qs, outcome_assoc, outcome_assoc)

pub assignments_at : (s u : List Marked) → assignments (s ++ (live 59 ∷ u)) ≡ assignments (s ++ (live 59 ∷ [])) ⊕ assignments u
unfolding assignments pieces pieces_from
assignments_at s u =
    let v = pieces_cons (byte_here 59) [] s in
    let w = pieces_cons (byte_here 59) [] u in
    rw (pieces_at_lem [] s u, pieces_at_lem [] s [], v.2, w.2) (statements_append v.0 w.0 v.1 w.1)

pub assignments_join : (t u : List Marked) → ends_live t ≡ true → assignments (t ++ u) ≡ assignments t ⊕ assignments u
assignments_join t u =
    at_end (λ t. assignments (t ++ u) ≡ assignments t ⊕ assignments u)
    (λ s. ap assignments (append_assoc s (live 59 ∷ []) u) ∙ assignments_at s u)
    t

-- ---- pass 4

selects_append : (p q : List Marked) (ps qs : List (List Marked))
    → join_selects ((p ∷ ps) ++ (q ∷ qs)) ≡ join_selects ((p ∷ ps) ++ ([] ∷ [])) ++ join_selects (q ∷ qs)
unfolding join_selects
selects_append p q [] qs = ap (λ (l : List Marked). l ++ join_selects (q ∷ qs)) (sym (append-nil (select_statement (p ++ (live 59 ∷ [])))))
selects_append p q (r ∷ ps) qs =
    rw (selects_append r q ps qs) (sym (append_assoc (select_statement (p ++ (live 59 ∷ []))) (join_selects ((r ∷ ps) ++ ([] ∷ []))) (join_selects (q ∷ qs))))

pub select_at_lem : (s u : List Marked) → select_into (s ++ (live 59 ∷ u)) ≡ select_into (s ++ (live 59 ∷ [])) ++ select_into u
unfolding select_into pieces pieces_from
select_at_lem s u =
    let v = pieces_cons (byte_here 59) [] s in
    let w = pieces_cons (byte_here 59) [] u in
    rw (pieces_at_lem [] s u, pieces_at_lem [] s [], v.2, w.2) (selects_append v.0 w.0 v.1 w.1)

pub select_join : (t u : List Marked) → ends_live t ≡ true → select_into (t ++ u) ≡ select_into t ++ select_into u
select_join t u =
    at_end (λ t. select_into (t ++ u) ≡ select_into t ++ select_into u)
    (λ s. ap select_into (append_assoc s (live 59 ∷ []) u) ∙ select_at_lem s u)
    t

-- the quote walk: behind a live `;` no quote is open
walk_last : (q c : ℕ) → is_live_byte 59 (cond (eqb q 0 && not (is_quote c)) (live c) (quoted c)) ≡ true → quote_after q c ≡ 0
unfolding quote_after
walk_last q c h =
    by (eqb q 0 && not (is_quote c))
    (λ e. rw ((and_parts (eqb q 0) (not (is_quote c)) e).0, not-true (is_quote c) ((and_parts (eqb q 0) (not (is_quote c)) e).1)))
    (λ e. absurd (false≢true (rw e at h)))

walk_from : (q : ℕ) (a b : List ℕ) → ends_live (quote_walk q a) ≡ true → quote_walk q (a ++ b) ≡ quote_walk q a ++ quote_walk 0 b
unfolding quote_walk ends_live
walk_from q [] b h = absurd (false≢true h)
walk_from q (c ∷ []) b h =
    let x = cond (eqb q 0 && not (is_quote c)) (live c) (quoted c) in
    ap (λ (r : ℕ). x ∷ quote_walk r b) (walk_last q c h)
walk_from q (c ∷ d ∷ a) b h =
    ap (λ (l : List Marked). cond (eqb q 0 && not (is_quote c)) (live c) (quoted c) ∷ l) (walk_from (quote_after q c) (d ∷ a) b h)

pub quotes_join : (a b : List ℕ) → ends_live (quote_walk 0 a) ≡ true → quote_walk 0 (a ++ b) ≡ quote_walk 0 a ++ quote_walk 0 b
quotes_join a b h = walk_from 0 a b h
