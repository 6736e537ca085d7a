-- Document 01, "The rewritten body", pass 1: requoting. Note 1: the requoted length. Assumes nothing.
use Rattle.std.specs.Prelude.{ℕ, ◌+◌, cond, List, [], ◌∷◌, ◌++◌, map, eqb, length, take, drop}
use Rattle.spec.specs.Lists.{keep, concat, total}
use Rattle.spec.specs.Spans.{Lexeme, lexemes}
use Rattle.spec.specs.declared.DollarQuoted.{DollarQuoted}
use Rattle.spec.specs.declared.Span.{Span}
use Rattle.spec.specs.declared.Span.TheVariants.{Verbatim, Dollar, Code}

-- every `'` doubled
unfoldable pub doubled : List ℕ → List ℕ
doubled [] = []
doubled (c ∷ cs) =
    let pair : List ℕ = 39 ∷ 39 ∷ doubled cs in
    let one = c ∷ doubled cs in
    cond (eqb c 39) pair one

-- `'`, the inside with every `'` doubled, `'`
unfoldable pub single_quoted : List ℕ → List ℕ
single_quoted inside = 39 ∷ (doubled inside ++ (39 ∷ []))

-- the inside of a dollar literal with these bytes
abbrev pub inside_of : DollarQuoted → List ℕ → List ℕ
inside_of d text = take d.inner_len (drop d.inner_start text)

-- what becomes of a span with these bytes: each dollar literal is put in single quotes, an unclosed one is closed;
-- every other span stays as it is
unfoldable pub requote_span : Span → List ℕ → List ℕ
requote_span (Verbatim n) text = text
requote_span (Dollar d) text = single_quoted (inside_of d text)
requote_span (Code n) text = text

unfoldable pub requote_lexeme : Lexeme → List ℕ
requote_lexeme l = requote_span l.span l.text

-- pass 1, and `requote_dollar_literals`
unfoldable pub requoted : List ℕ → List ℕ
requoted xs = concat (map requote_lexeme (lexemes xs))

-- how many `'` stand in a text
unfoldable pub quotes_in : List ℕ → ℕ
quotes_in xs = length (keep (λ c. eqb c 39) xs)

-- Note 1, the length of what becomes of a span: of a dollar literal two quotes, its inside and one more for each `'` in it;
-- of every other span its own
unfoldable pub requoted_span_length : Span → List ℕ → ℕ
requoted_span_length (Verbatim n) text = length text
requoted_span_length (Dollar d) text = 2 + length (inside_of d text) + quotes_in (inside_of d text)
requoted_span_length (Code n) text = length text

unfoldable pub requoted_lexeme_length : Lexeme → ℕ
requoted_lexeme_length l = requoted_span_length l.span l.text

-- Note 1, the requoted length: the sum over the spans
unfoldable pub requoted_length : List ℕ → ℕ
requoted_length xs = total requoted_lexeme_length (lexemes xs)
