-- Passes 1, 2 and 5: a text that has none of a pass's places comes through that pass byte for byte. Assumes nothing.
use Rattle.std.specs.Prelude.{None}
use Rattle.std.proofs.lemmas.Option.{none-some}
use mathlib.Core.Path.{◌≡◌, refl, sym, ap, ◌∙◌}
use mathlib.Core.Bool.{Bool, true, false, false≢true}
use mathlib.Core.List.{List, [], ◌∷◌, map}
use Prim.Native.Nat.{ℕ}
use lib.ListN.{length}
use Rattle.std.proofs.lemmas.Bool.{or_parts}
use Rattle.spec.proofs.Choice.{by}
use Rattle.spec.proofs.SpanLaws.{tiles}
use Rattle.spec.proofs.MapLaws.{text_bytes}
use Rattle.spec.specs.Bytes.{ascii}
use Rattle.spec.specs.Lists.{any, concat, is_empty}
use Rattle.spec.specs.Spans.{Lexeme, lexemes}
use Rattle.spec.specs.Map.{Marked, bytes, marked_text, front_byte}
use Rattle.spec.specs.Search.{Test, first_from, first, keyword_here, find_keyword}
use Rattle.spec.specs.Requote.{requote_span, requote_lexeme, requoted}
use Rattle.spec.specs.Elsif.{elsif_from, elsif}
use Rattle.spec.specs.Outcome.{accepted, ◌⊕◌, forget}
use Rattle.spec.specs.Raise.{raises_from, token_text, join_tokens, raise}
use Rattle.spec.specs.declared.Level.{Level}
use Rattle.spec.specs.declared.Action.{Action}
use Rattle.spec.specs.Body.{requote_pass, elsif_pass, raise_pass}
use Rattle.spec.specs.declared.Span.{Span}
use Rattle.spec.specs.declared.Span.TheVariants.{Verbatim, Dollar, Code}

-- the span is a dollar literal
abbrev pub is_dollar : Span → Bool
is_dollar (Verbatim n) = false
is_dollar (Dollar d) = true
is_dollar (Code n) = false

-- some span of the text is a dollar literal
unfoldable pub has_dollar : List ℕ → Bool
has_dollar xs = any (λ (l : Lexeme). is_dollar l.span) (lexemes xs)

-- a span that is no dollar literal stays as it is
pub span_kept : (s : Span) (xs : List ℕ) → is_dollar s ≡ false → requote_span s xs ≡ xs
unfolding requote_span
span_kept (Verbatim n) xs h = refl
span_kept (Dollar d) xs h = absurd (false≢true (sym h))
span_kept (Code n) xs h = refl

spans_kept : (ls : List Lexeme)
    → any (λ (l : Lexeme). is_dollar l.span) ls ≡ false
    → concat (map requote_lexeme ls) ≡ concat (map (λ (l : Lexeme). l.text) ls)
unfolding any concat requote_lexeme
spans_kept [] h = refl
spans_kept (l ∷ ls) h =
    let rest = spans_kept ls ((or_parts (is_dollar l.span) (any (λ (m : Lexeme). is_dollar m.span) ls) h).1) in
    rw (span_kept l.span l.text ((or_parts (is_dollar l.span) _ h).0), rest)

-- pass 1: no dollar literal, no byte changed
pub requoted_kept : (xs : List ℕ) → has_dollar xs ≡ false → requoted xs ≡ xs
unfolding has_dollar requoted
requoted_kept xs h = spans_kept (lexemes xs) h ∙ tiles xs

pub requote_unchanged : (xs : List ℕ) → has_dollar xs ≡ false → requote_pass xs ≡ accepted xs
unfolding requote_pass
requote_unchanged xs h = ap accepted (requoted_kept xs h)

-- a search that finds none: the test fails at this place, and the search from the next one finds none
pub none_here : (p : Test) (back : List Marked) (x : Marked) (t : List Marked)
    → first_from p back (x ∷ t) ≡ None
    → p back (x ∷ t) ≡ false
unfolding first_from
none_here p back x t h =
    by (p back (x ∷ t))
    (λ e. absurd (none-some (length back) (sym (rw e at h))))
    (λ e. e)

pub none_behind : (p : Test) (back : List Marked) (x : Marked) (t : List Marked)
    → first_from p back (x ∷ t) ≡ None
    → first_from p (x ∷ back) t ≡ None
unfolding first_from
none_behind p back x t h = rw (none_here p back x t h) at h

-- a keyword that is not found stands at no place of the text
pub keyword_nowhere : (xs : List ℕ) (a : ℕ) (w : List ℕ)
    → find_keyword xs (a ∷ w) 0 ≡ None
    → first_from (keyword_here (a ∷ w)) [] (marked_text xs) ≡ None
unfolding find_keyword first is_empty
keyword_nowhere xs a w h = h

elsif_from_lem : (back t : List Marked)
    → first_from (keyword_here (ascii "ELSIF")) back t ≡ None
    → elsif_from 0 (front_byte back) t ≡ t
unfolding elsif_from keyword_here front_byte
elsif_from_lem back [] h = refl
elsif_from_lem back (x ∷ t) h =
    let e = none_here (keyword_here (ascii "ELSIF")) back x t h in
    rw e (ap (λ l. x ∷ l) (elsif_from_lem (x ∷ back) t (none_behind (keyword_here (ascii "ELSIF")) back x t h)))

-- pass 2: no live ELSIF, no byte changed
pub elsif_kept : (xs : List ℕ) → find_keyword xs (ascii "ELSIF") 0 ≡ None → bytes (elsif (marked_text xs)) ≡ xs
unfolding elsif front_byte
elsif_kept xs h =
    ap bytes (elsif_from_lem [] (marked_text xs) (keyword_nowhere xs 69 (ascii "LSIF") h)) ∙ text_bytes xs

pub elsif_unchanged : (xs : List ℕ) → find_keyword xs (ascii "ELSIF") 0 ≡ None → elsif_pass xs ≡ accepted xs
unfolding elsif_pass
elsif_unchanged xs h = ap accepted (elsif_kept xs h)

raise_from : (act : Level → Action) (back t : List Marked)
    → first_from (keyword_here (ascii "RAISE")) back t ≡ None
    → join_tokens (raises_from act 0 (front_byte back) t) ≡ accepted t
unfolding raises_from keyword_here front_byte join_tokens token_text ◌⊕◌
raise_from act back [] h = refl
raise_from act back (x ∷ t) h =
    let e = none_here (keyword_here (ascii "RAISE")) back x t h in
    rw (e, raise_from act (x ∷ back) t (none_behind (keyword_here (ascii "RAISE")) back x t h))

-- pass 5: no live RAISE, no byte changed
pub raise_unchanged : (act : Level → Action) (xs : List ℕ) → find_keyword xs (ascii "RAISE") 0 ≡ None → raise_pass act xs ≡ accepted xs
unfolding raise_pass raise forget front_byte
raise_unchanged act xs h =
    rw (raise_from act [] (marked_text xs) (keyword_nowhere xs 82 (ascii "AISE") h)) (ap accepted (text_bytes xs))
