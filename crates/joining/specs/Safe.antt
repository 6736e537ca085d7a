-- What pass 5 needs of a text so that whatever stands behind it does not matter. Assumes nothing.
use Rattle.std.specs.Prelude.{ℕ, Bool, true, cond, ◌&&◌, ◌||◌, List, [], ◌∷◌, eqb, leb, length, drop, Option, Some, None}
use Rattle.spec.specs.Bytes.{ascii, is_ident, is_word}
use Rattle.spec.specs.Lists.{drop_while}
use Rattle.spec.specs.Map.{Marked, byte, front_byte, of_byte}
use Rattle.spec.specs.Search.{word_here}
use Rattle.spec.specs.Raise.{level_in, level_words}
use Rattle.spec.specs.declared.Level.{Level}

-- behind a run of identifier bytes: a space, `;`, or `)` and `;`
unfoldable pub ends_level_safely : List Marked → Bool
ends_level_safely t =
    let r = drop_while (of_byte is_ident) t in
    eqb (front_byte r) 32 || (eqb (front_byte r) 59 || (eqb (front_byte r) 41 && eqb (front_byte (drop 1 r)) 59))

abbrev pub level_safe : Option Level → List Marked → Bool
level_safe None t = true
level_safe (Some l) t = ends_level_safely t

-- directly behind RAISE: a space or `)` that is not the last byte, and if a level stands behind it, the level ends safely
unfoldable pub safe_behind : List Marked → Bool
safe_behind t =
    (eqb (front_byte t) 32 || eqb (front_byte t) 41)
    && (leb 2 (length t) && level_safe (level_in level_words (drop 1 t)) (drop 1 t))

-- every live RAISE has that behind it; p is the byte before
unfoldable pub raises_safe : ℕ → List Marked → Bool
raises_safe p [] = true
raises_safe p (x ∷ t) =
    let more = raises_safe (byte x) t in
    let here = safe_behind (drop 4 t) && more in
    cond (word_here is_word (ascii "RAISE") p (x ∷ t)) here more
