-- The two yes/no searches in document 01's words: a handler stands somewhere, a dollar literal is left open. Assumes nothing.
use Rattle.std.specs.Prelude.{Option, Some, None}
use Rattle.std.proofs.lemmas.Bool.{and_from, and_parts, or_right}
use mathlib.Core.Path.{◌≡◌, refl, sym, ap, ◌∙◌}
use mathlib.Core.Bool.{Bool, true, false, ◌&&◌, false≢true}
use mathlib.Core.List.{List, [], ◌∷◌, map}
use Prim.Native.Nat.{ℕ, zero, suc, ◌+◌, ◌<◌, zero-le, suc-le-suc}
use native.Mathlib.Nat.{le_of_suc-le-suc}
use native.Mathlib.Omega.{arith}
use borrow.Author.Tests.{eqb-true, eq-eqb, not-true}
use lib.Dec.{eqb}
use lib.ListN.{length, drop, get_or, length-map}
use lib.Seq.{drop-drop}
use Rattle.spec.proofs.Choice.{or_cases}
use Rattle.spec.proofs.WalkLaws.{starts_case, passes_at}
use Rattle.spec.proofs.FirstLaws.{Says, found_least, found_none}
use Rattle.spec.specs.Bytes.{ascii, upper, prefix_by}
use Rattle.spec.specs.Lists.{any}
use Rattle.spec.specs.Spans.{Lexeme, lexemes}
use Rattle.spec.specs.Map.{Marked, byte, marked_text, bytes}
use Rattle.spec.specs.Search.{first, starts_ignoring_case, keyword_here, next_word, word_text, is_found, is_unclosed, has_unterminated_dollar_quote, is_word_text, handler_here, has_exception_handler}
use Rattle.spec.specs.declared.DollarQuoted.{DollarQuoted}
use Rattle.spec.specs.declared.Span.{Span}
use Rattle.spec.specs.declared.Span.TheVariants.{Verbatim, Dollar, Code}
use Rattle.spec.proofs.MatchLaws.{Same, at_prefix, prefix_at}
use Rattle.spec.proofs.SearchLaws.{IsKeywordAt, keyword_says}

-- ---- `has_exception_handler`

-- a live EXCEPTION stands at j, and the next live word behind it is WHEN, ignoring ASCII case
pub record IsHandlerAt (xs : List ℕ) (j : ℕ) : Type 0 where
  pub keyword : IsKeywordAt xs (ascii "EXCEPTION") j
  pub size : length (word_text xs (j + 9)) ≡ 4
  pub same : Same upper (ascii "WHEN") (word_text xs (j + 9)) 0

-- a marked word is w exactly if its bytes are
pub word_text_lem : (w : List ℕ) (t : List Marked) → is_word_text w t ≡ (eqb (length (bytes t)) (length w) && prefix_by upper w (bytes t))
unfolding is_word_text bytes
word_text_lem w t =
    ap (λ (n : ℕ). eqb n (length w) && starts_ignoring_case w t) (sym (length-map t byte))
    ∙ ap (λ (b : Bool). eqb (length (map byte t)) (length w) && b) (starts_case w t)

handler_test : (xs : List ℕ) (k : ℕ) → passes_at handler_here (marked_text xs) k
    ≡ (passes_at (keyword_here (ascii "EXCEPTION")) (marked_text xs) k
    && (eqb (length (word_text xs (k + 9))) 4 && prefix_by upper (ascii "WHEN") (word_text xs (k + 9))))
unfolding handler_here word_text
handler_test xs k =
    let t = marked_text xs in
    let a = passes_at (keyword_here (ascii "EXCEPTION")) t k in
    ap (λ (u : List Marked). a && is_word_text (ascii "WHEN") (next_word u)) (drop-drop 9 k t)
    ∙ ap (λ (b : Bool). a && b) (word_text_lem (ascii "WHEN") (next_word (drop (k + 9) t)))

pub handler_says : (xs : List ℕ) → Says handler_here (marked_text xs) (IsHandlerAt xs)
handler_says xs =
    let s = keyword_says xs (ascii "EXCEPTION") in
    record {
      sound = λ k h.
          let a = passes_at (keyword_here (ascii "EXCEPTION")) (marked_text xs) k in
          let b = eqb (length (word_text xs (k + 9))) 4 in
          let c = prefix_by upper (ascii "WHEN") (word_text xs (k + 9)) in
          let e : (a && (b && c)) ≡ true = sym (handler_test xs k) ∙ h in
          let f = (and_parts a (b && c) e).1 in
          record {
            keyword = s.sound k ((and_parts a (b && c) e).0);
            size = eqb-true (length (word_text xs (k + 9))) 4 ((and_parts b c f).0);
            same = prefix_at upper (ascii "WHEN") (word_text xs (k + 9)) 0 zero-le ((and_parts b c f).1);
          };
      complete = λ k r.
          let a = passes_at (keyword_here (ascii "EXCEPTION")) (marked_text xs) k in
          let b = eqb (length (word_text xs (k + 9))) 4 in
          let c = prefix_by upper (ascii "WHEN") (word_text xs (k + 9)) in
          handler_test xs k
          ∙ and_from a (b && c) (s.complete k r.keyword)
          (and_from b c (eq-eqb (length (word_text xs (k + 9))) 4 r.size) (at_prefix upper (ascii "WHEN") (word_text xs (k + 9)) 0 r.same));
      inside = λ k r. s.inside k r.keyword;
    }

-- yes exactly if there is one
pub handler_found : (xs : List ℕ) → has_exception_handler xs ≡ true → (j : ℕ) × IsHandlerAt xs j
unfolding has_exception_handler
handler_found xs h = go (first handler_here 0 (marked_text xs)) refl h
  where
    go : (f : Option ℕ) → first handler_here 0 (marked_text xs) ≡ f → is_found f ≡ true → (j : ℕ) × IsHandlerAt xs j
    go (Some j) e q = (j, (found_least handler_here (marked_text xs) (IsHandlerAt xs) (handler_says xs) 0 j e).holds)
    go None e q = absurd (false≢true q)

pub found_handler : (xs : List ℕ) (j : ℕ) → IsHandlerAt xs j → has_exception_handler xs ≡ true
unfolding has_exception_handler
found_handler xs j r = go (first handler_here 0 (marked_text xs)) refl
  where
    go : (f : Option ℕ) → first handler_here 0 (marked_text xs) ≡ f → is_found f ≡ true
    go (Some k) e = refl
    go None e = absurd (found_none handler_here (marked_text xs) (IsHandlerAt xs) (handler_says xs) 0 e j zero-le r)

-- ---- `has_unterminated_dollar_quote`

-- some element passes exactly if one at some offset does
pub any_found : {A : Type 0} (f : A → Bool) (d : A) (l : List A) → any f l ≡ true → (k : ℕ) × (k < length l) × (f (get_or l k d) ≡ true)
unfolding any
any_found f d [] h = absurd (false≢true h)
any_found f d (x ∷ l) h =
    or_cases (f x) (any f l) h (λ e. (0, omega arith, e)) (λ e. let r = any_found f d l e in (suc r.0, suc-le-suc r.1, r.2))

pub found_any : {A : Type 0} (f : A → Bool) (d : A) (l : List A) (k : ℕ) → k < length l → f (get_or l k d) ≡ true → any f l ≡ true
unfolding any
found_any f d [] k h e = absurd (omega arith)
found_any f d (x ∷ l) zero h e = rw e refl
found_any f d (x ∷ l) (suc k) h e = or_right (f x) (any f l) (found_any f d l k (le_of_suc-le-suc h) e)

-- yes exactly if a span of the text is a dollar literal that is not closed
pub unterminated_found : (xs : List ℕ) (d : Lexeme) → has_unterminated_dollar_quote xs ≡ true → (k : ℕ) × (k < length (lexemes xs)) × (is_unclosed (get_or (lexemes xs) k d).span ≡ true)
unfolding has_unterminated_dollar_quote
unterminated_found xs d h = any_found (λ (l : Lexeme). is_unclosed l.span) d (lexemes xs) h

pub found_unterminated : (xs : List ℕ) (d : Lexeme) (k : ℕ) → k < length (lexemes xs) → is_unclosed (get_or (lexemes xs) k d).span ≡ true → has_unterminated_dollar_quote xs ≡ true
unfolding has_unterminated_dollar_quote
found_unterminated xs d k h e = found_any (λ (l : Lexeme). is_unclosed l.span) d (lexemes xs) k h e

-- that is: a dollar span whose closed flag is false
pub unclosed_dollar : (s : Span) → is_unclosed s ≡ true → (q : DollarQuoted) × (s ≡ Dollar q) × (q.closed ≡ false)
unclosed_dollar (Verbatim n) h = absurd (false≢true h)
unclosed_dollar (Dollar q) h = (q, refl, not-true q.closed h)
unclosed_dollar (Code n) h = absurd (false≢true h)
