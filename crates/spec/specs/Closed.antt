-- Document 01, "Joining": a closed body. Assumes nothing.
use Rattle.std.specs.Prelude.{ℕ, Bool, true, false, cond, not, ◌&&◌, ◌||◌, List, [], ◌∷◌, eqb, drop}
use Rattle.spec.specs.Bytes.{ascii, is_ident}
use Rattle.spec.specs.Lists.{drop_while, any, all}
use Rattle.spec.specs.Spans.{Lexeme, lexemes}
use Rattle.spec.specs.Map.{Marked, byte, marked_text, front_byte, of_byte, is_live_byte, Region, in_code, in_literal, in_comment, region_of}
use Rattle.spec.specs.Search.{word_here}

-- the last byte is a live `;`, so the empty body isn't closed
unfoldable pub ends_live : List Marked → Bool
ends_live [] = false
ends_live (x ∷ []) = is_live_byte 59 x
ends_live (x ∷ y ∷ t) = ends_live (y ∷ t)

-- no comment span, and no newline (byte 10) inside a literal span
abbrev pub is_plain_region : Region → List ℕ → Bool
is_plain_region in_code xs = true
is_plain_region in_literal xs = not (any (eqb 10) xs)
is_plain_region in_comment xs = false

unfoldable pub is_plain_span : Lexeme → Bool
is_plain_span l = is_plain_region (region_of l.kind) l.text

-- a space or `;`
unfoldable pub ends_word : ℕ → Bool
ends_word c = eqb c 32 || eqb c 59

-- directly behind RAISE: a space, a word of at least one identifier byte, and then a space or `;`
unfoldable pub is_followed : List Marked → Bool
is_followed t =
    let w = drop 1 t in
    eqb (front_byte t) 32
    && (is_ident (front_byte w) && ends_word (front_byte (drop_while (of_byte is_ident) w)))

-- each RAISE outside literals, in any letter case, with no identifier byte touching it, has that behind it; a `$` that
-- touches it does not excuse it
unfoldable pub raises_followed : ℕ → List Marked → Bool
raises_followed p [] = true
raises_followed p (x ∷ t) =
    let more = raises_followed (byte x) t in
    let here = is_followed (drop 4 t) && more in
    cond (word_here is_ident (ascii "RAISE") p (x ∷ t)) here more

-- a closed body: its last byte is a live `;`, no backslash stands anywhere in it (byte 92), its spans are plain, and each RAISE
-- has a word behind it
unfoldable pub is_closed : List ℕ → Bool
is_closed xs =
    ends_live (marked_text xs)
    && (not (any (eqb 92) xs) && (all is_plain_span (lexemes xs) && raises_followed 0 (marked_text xs)))
