-- Document 01, "The region map and searches": the searches of live text. A place in a text is what stands before it, read
-- backwards, and what stands from it on; a search gives the first place that passes a test. Assumes nothing.
use Rattle.std.specs.Prelude.{ℕ, suc, ◌+◌, ◌-◌, Bool, true, false, cond, not, ◌&&◌, List, [], ◌∷◌, reverse, eqb, length, take, drop, Option, Some, None}
use Rattle.spec.specs.Bytes.{ascii, upper, is_word, is_n}
use Rattle.spec.specs.Lists.{is_empty, take_while, drop_while, any}
use Rattle.spec.specs.Spans.{Lexeme, lexemes}
use Rattle.spec.specs.Map.{Marked, live, quoted, byte, marked_text, bytes, front_byte, front_live, is_live_byte}
use Rattle.spec.specs.declared.Span.{Span}
use Rattle.spec.specs.declared.Span.TheVariants.{Verbatim, Dollar, Code}

-- a test of a place: what stands before it, backwards, and what stands from it on
abbrev pub Test : Type 0
Test = List Marked → List Marked → Bool

-- the offset of the first place at or behind this one that passes the test
unfoldable pub first_from : Test → List Marked → List Marked → Option ℕ
first_from p back [] = None
first_from p back (x ∷ t) =
    let more = first_from p (x ∷ back) t in
    let here = Some (length back) in
    cond (p back (x ∷ t)) here more

-- the same from an offset on: a start past the end finds none
unfoldable pub first : Test → ℕ → List Marked → Option ℕ
first p from t = first_from p (reverse (take from t)) (drop from t)

abbrev pub is_found : Option ℕ → Bool
is_found (Some i) = true
is_found None = false

-- w stands at the front of t, ignoring ASCII case
unfoldable pub starts_ignoring_case : List ℕ → List Marked → Bool
starts_ignoring_case [] t = true
starts_ignoring_case (a ∷ w) [] = false
starts_ignoring_case (a ∷ w) (x ∷ t) =
    let more = starts_ignoring_case w t in
    eqb (upper (byte x)) (upper a) && more

-- w stands at the front of t exactly
unfoldable pub starts : List ℕ → List Marked → Bool
starts [] t = true
starts (a ∷ w) [] = false
starts (a ∷ w) (x ∷ t) =
    let more = starts w t in
    eqb (byte x) a && more

-- the word w stands here: its first byte is live, it matches ignoring ASCII case, and no byte of the set stands on
-- either side; p is the byte before
unfoldable pub word_here : (ℕ → Bool) → List ℕ → ℕ → List Marked → Bool
word_here set w p t =
    front_live t && (starts_ignoring_case w t && (not (set p) && not (set (front_byte (drop (length w) t)))))

-- a live keyword stands here
unfoldable pub keyword_here : List ℕ → Test
keyword_here w back t = word_here is_word w (front_byte back) t

-- `find_keyword`: an empty keyword finds none
unfoldable pub find_keyword : List ℕ → List ℕ → ℕ → Option ℕ
find_keyword xs w from =
    let found = first (keyword_here w) from (marked_text xs) in
    cond (is_empty w) None found

-- the live byte b stands here
unfoldable pub byte_here : ℕ → Test
byte_here b back [] = false
byte_here b back (x ∷ t) = is_live_byte b x

-- `find_in_code`
unfoldable pub find_in_code : List ℕ → ℕ → Option ℕ
find_in_code xs b = first (byte_here b) 0 (marked_text xs)

-- the needle stands here, its first byte live
unfoldable pub needle_here : List ℕ → Test
needle_here w back t = front_live t && starts w t

-- `find_str_in_code`: an empty needle gives none
unfoldable pub find_str_in_code : List ℕ → List ℕ → Option ℕ
find_str_in_code xs w =
    let found = first (needle_here w) 0 (marked_text xs) in
    cond (is_empty w) None found

-- skipped ahead of a word: N and quoted bytes
abbrev pub is_skipped : Marked → Bool
is_skipped (live c) = is_n c
is_skipped (quoted c) = true

-- a live word byte
abbrev pub is_word_mark : Marked → Bool
is_word_mark (live c) = is_word c
is_word_mark (quoted c) = false

-- the next word of live text: a quoted byte ends it; empty if no word byte comes first
unfoldable pub next_word : List Marked → List Marked
next_word t = take_while is_word_mark (drop_while is_skipped t)

-- `next_word_in_code`: where that word stands, none if it is empty
unfoldable pub word_place : List ℕ → ℕ → Option ℕ
word_place xs from =
    let t = drop from (marked_text xs) in
    let place = Some (length xs - length (drop_while is_skipped t)) in
    cond (is_empty (next_word t)) None place

-- `next_word_in_code`: that part of the caller's text
unfoldable pub word_text : List ℕ → ℕ → List ℕ
word_text xs from = bytes (next_word (drop from (marked_text xs)))

-- x goes to the front of the first piece
unfoldable pub onto_first {ℓ} : {A : Type ℓ} → A → List (List A) → List (List A)
onto_first x [] = (x ∷ []) ∷ []
onto_first x (p ∷ ps) = (x ∷ p) ∷ ps

-- the pieces between the places that pass the test, which are separators of one byte
unfoldable pub pieces_from : Test → List Marked → List Marked → List (List Marked)
pieces_from p back [] = [] ∷ []
pieces_from p back (x ∷ t) =
    let rest = pieces_from p (x ∷ back) t in
    let cut = [] ∷ rest in
    let more = onto_first x rest in
    cond (p back (x ∷ t)) cut more

unfoldable pub pieces : Test → List Marked → List (List Marked)
pieces p t = pieces_from p [] t

-- where each piece starts, the first at i: a separator stands between two
unfoldable pub starts_from : ℕ → List (List Marked) → List ℕ
starts_from i [] = []
starts_from i (p ∷ ps) = i ∷ starts_from (suc (i + length p)) ps

-- `split_in_code`
unfoldable pub split_in_code : List ℕ → ℕ → List ℕ
split_in_code xs b = starts_from 0 (pieces (byte_here b) (marked_text xs))

abbrev pub is_unclosed : Span → Bool
is_unclosed (Verbatim n) = false
is_unclosed (Dollar d) = not d.closed
is_unclosed (Code n) = false

-- `has_unterminated_dollar_quote`
unfoldable pub has_unterminated_dollar_quote : List ℕ → Bool
has_unterminated_dollar_quote xs = any (λ (l : Lexeme). is_unclosed l.span) (lexemes xs)

-- the marked word t is w, ignoring ASCII case
unfoldable pub is_word_text : List ℕ → List Marked → Bool
is_word_text w t = eqb (length t) (length w) && starts_ignoring_case w t

-- a live EXCEPTION whose next live word is WHEN stands here
unfoldable pub handler_here : Test
handler_here back t =
    keyword_here (ascii "EXCEPTION") back t && is_word_text (ascii "WHEN") (next_word (drop 9 t))

-- `has_exception_handler`
unfoldable pub has_exception_handler : List ℕ → Bool
has_exception_handler xs = is_found (first handler_here 0 (marked_text xs))
