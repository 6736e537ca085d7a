-- Document 01, "The region map and searches": spans. A span gives a length; an unclosed one has the text's. Assumes nothing.
use Rattle.std.specs.Prelude.{ℕ, zero, suc, ◌+◌, ◌-◌, Bool, true, false, cond, not, ◌&&◌, List, [], ◌∷◌, eqb, get_or, take, drop}
use Rattle.spec.specs.Bytes.{is_digit, is_ident, is_pair, is_prefix}
use Rattle.spec.specs.declared.DollarQuoted.{DollarQuoted}
use Rattle.spec.specs.declared.Span.{Span}
use Rattle.spec.specs.declared.Span.TheVariants.{Verbatim, Dollar, Code}

-- `--` through its newline; from behind the two dashes
unfoldable pub line_len : List ℕ → ℕ
line_len [] = 0
line_len (c ∷ cs) =
    let more = suc (line_len cs) in
    cond (eqb c 10) 1 more

-- nested `/* */`, from inside a comment of depth k: `/*` goes one deeper, `*/` one back, and the last one ends it;
-- the pairs never overlap
unfoldable pub comment_len : ℕ → List ℕ → ℕ
comment_len k [] = 0
comment_len k (c ∷ []) = 1
comment_len k (c ∷ d ∷ cs) =
    let deeper = suc (suc (comment_len (suc k) cs)) in
    let back = suc (suc (comment_len (k - 1) cs)) in
    let closed = cond (eqb k 1) 2 back in
    let one = suc (comment_len k (d ∷ cs)) in
    let other = cond (is_pair 42 47 c d) closed one in
    cond (is_pair 47 42 c d) deeper other

-- the whole comment, its opening pair counted
unfoldable pub block_len : List ℕ → ℕ
block_len [] = 0
block_len (c ∷ []) = 1
block_len (c ∷ d ∷ cs) = suc (suc (comment_len 1 cs))

-- c is a backslash, and backslashes escape
unfoldable pub escapes : Bool → ℕ → Bool
escapes e c = e && eqb c 92

-- from behind the opening quote q: a backslash pair and a doubled quote stay inside, any other quote closes
unfoldable pub quote_len : Bool → ℕ → List ℕ → ℕ
quote_len e q [] = 0
quote_len e q (c ∷ []) = 1
quote_len e q (c ∷ d ∷ cs) =
    let pair = suc (suc (quote_len e q cs)) in
    let one = suc (quote_len e q (d ∷ cs)) in
    let quote = cond (eqb d q) pair 1 in
    let other = cond (eqb c q) quote one in
    cond (escapes e c) pair other

-- `'..'` with `''` and backslash pairs (e), or `".."` with `""`; the opening quote counted
unfoldable pub quoted_len : Bool → ℕ → List ℕ → ℕ
quoted_len e q [] = 0
quoted_len e q (c ∷ cs) = suc (quote_len e q cs)

-- how many identifier bytes stand in front
unfoldable pub tag_len : List ℕ → ℕ
tag_len [] = 0
tag_len (c ∷ cs) =
    let more = suc (tag_len cs) in
    cond (is_ident c) more 0

-- where p stands first in xs; the length where it stands nowhere
unfoldable pub seek_len : List ℕ → List ℕ → ℕ
seek_len p [] = 0
seek_len p (x ∷ xs) =
    let more = suc (seek_len p xs) in
    cond (is_prefix p (x ∷ xs)) 0 more

-- `$tag$` stands in front, the tag of identifier bytes, empty or not starting with a digit
unfoldable pub opens_dollar : List ℕ → Bool
opens_dollar xs =
    eqb (get_or xs 0 0) 36 && (not (is_digit (get_or xs 1 0)) && eqb (get_or xs (1 + tag_len (drop 1 xs)) 0) 36)

-- `$tag$` to the same `$tag$`, or to the end if that does not come; n is the length of `$tag$`
unfoldable pub dollar_of : ℕ → List ℕ → DollarQuoted
dollar_of n xs =
    let k = seek_len (take n xs) (drop n xs) in
    let shut = is_prefix (take n xs) (drop k (drop n xs)) in
    record { span = n + k + cond shut n 0; inner_start = n; inner_len = k; closed = shut }

-- what the text in front opens
pub data Kind : Type 0 where
  line block single double dollar code : Kind

unfoldable pub kind_at : List ℕ → Kind
kind_at xs =
    let c = get_or xs 0 0 in
    let d = get_or xs 1 0 in
    cond (is_pair 45 45 c d) line
    (cond (is_pair 47 42 c d) block
    (cond (eqb c 39) single
    (cond (eqb c 34) double
    (cond (opens_dollar xs) dollar code))))

unfoldable pub span_of : Kind → List ℕ → Span
span_of line xs = Verbatim (2 + line_len (drop 2 xs))
span_of block xs = Verbatim (block_len xs)
span_of single xs = Verbatim (quoted_len true 39 xs)
span_of double xs = Verbatim (quoted_len false 34 xs)
span_of dollar xs = Dollar (dollar_of (2 + tag_len (drop 1 xs)) xs)
span_of code xs = Code 1

-- the span at the front of a text
unfoldable pub span_at : List ℕ → Span
span_at xs = span_of (kind_at xs) xs

abbrev pub span_len : Span → ℕ
span_len (Verbatim n) = n
span_len (Dollar d) = d.span
span_len (Code n) = n

-- a span with its bytes
pub record Lexeme : Type 0 where
  pub kind : Kind
  pub span : Span
  pub text : List ℕ

unfoldable pub lexeme_at : List ℕ → Lexeme
lexeme_at xs = record { kind = kind_at xs; span = span_at xs; text = take (span_len (span_at xs)) xs }

-- the walk from span to span, with k bytes of the last span still to pass
unfoldable pub lexemes_from : ℕ → List ℕ → List Lexeme
lexemes_from k [] = []
lexemes_from zero (c ∷ cs) =
    let l = lexeme_at (c ∷ cs) in
    l ∷ lexemes_from (span_len l.span - 1) cs
lexemes_from (suc k) (c ∷ cs) = lexemes_from k cs

-- a text as its row of spans
unfoldable pub lexemes : List ℕ → List Lexeme
lexemes xs = lexemes_from 0 xs
