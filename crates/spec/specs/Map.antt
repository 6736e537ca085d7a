-- Document 01, "The region map and searches": the map, and a text with its map. Assumes nothing.
use Rattle.std.specs.Prelude.{ℕ, zero, suc, Bool, true, false, List, [], ◌∷◌, ◌++◌, map, eqb, length, replicate}
use Rattle.spec.specs.Spans.{Kind, line, block, single, double, dollar, code, Lexeme, lexemes}
use Rattle.spec.specs.declared.Span.{Span}
use Rattle.spec.specs.declared.Span.TheVariants.{Verbatim, Dollar, Code}

-- where a byte stands: live, in a literal or in a comment
pub data Region : Type 0 where
  in_code in_literal in_comment : Region

abbrev pub region_of : Kind → Region
region_of line = in_comment
region_of block = in_comment
region_of single = in_literal
region_of double = in_literal
region_of dollar = in_literal
region_of code = in_code

-- the regions of all bytes of a row of spans; a span's delimiters are in its region
unfoldable pub regions_of : List Lexeme → List Region
regions_of [] = []
regions_of (l ∷ ls) = replicate (length l.text) (region_of l.kind) ++ regions_of ls

-- map bytes: 0 live, 1 quoted
abbrev pub flag : Region → ℕ
flag in_code = 0
flag in_literal = 1
flag in_comment = 1

-- the region map of a text
unfoldable pub map_of : List ℕ → List ℕ
map_of xs = map flag (regions_of (lexemes xs))

-- the map byte of a span: 0 for live text, 1 for the others
abbrev pub span_flag : Span → ℕ
span_flag (Verbatim n) = 1
span_flag (Dollar d) = 1
span_flag (Code n) = 0

-- a byte of a text with its map byte
pub data Marked : Type 0 where
  live : ℕ → Marked
  quoted : ℕ → Marked

abbrev pub byte : Marked → ℕ
byte (live c) = c
byte (quoted c) = c

abbrev pub is_live : Marked → Bool
is_live (live c) = true
is_live (quoted c) = false

abbrev pub mark : ℕ → ℕ → Marked
mark zero c = live c
mark (suc m) c = quoted c

-- a text beside its map
unfoldable pub marked : List ℕ → List ℕ → List Marked
marked [] ms = []
marked (c ∷ cs) [] = live c ∷ marked cs []
marked (c ∷ cs) (m ∷ ms) = mark m c ∷ marked cs ms

-- a text with its own map
unfoldable pub marked_text : List ℕ → List Marked
marked_text xs = marked xs (map_of xs)

-- the bytes of a marked text
unfoldable pub bytes : List Marked → List ℕ
bytes t = map byte t

-- text that a pass puts in
unfoldable pub lives : List ℕ → List Marked
lives xs = map live xs

-- the first byte, 0 if there is none
unfoldable pub front_byte : List Marked → ℕ
front_byte [] = 0
front_byte (x ∷ t) = byte x

unfoldable pub front_live : List Marked → Bool
front_live [] = false
front_live (x ∷ t) = is_live x

-- a test on bytes, of marked bytes
unfoldable pub of_byte : (ℕ → Bool) → Marked → Bool
of_byte f x = f (byte x)

-- x is the live byte b
abbrev pub is_live_byte : ℕ → Marked → Bool
is_live_byte b (live c) = eqb c b
is_live_byte b (quoted c) = false
