-- The lines of pass 4 as bytes. Assumes nothing.
use Rattle.std.specs.Prelude.{Bool, cond, not, ◌||◌, List, [], ◌∷◌, ◌++◌, ℕ, eqb, leb}
use Rattle.spec.specs.Bytes.{ascii, is_w}
use Rattle.spec.specs.Lists.{is_empty, drop_end}
use Rattle.spec.specs.Map.{Marked, bytes}
use Rattle.quotes.specs.Limits.{limit_from}

-- a space and the FROM part; nothing if there is none
unfoldable pub spaced : List ℕ → List ℕ
spaced [] = []
spaced (x ∷ f) = 32 ∷ x ∷ f

-- the subquery of the column c, from a WITH part and a FROM part without W at its end
unfoldable pub query_text : List ℕ → List ℕ → List ℕ → List ℕ
query_text with_text from_text c = with_text ++ (ascii "SELECT " ++ (c ++ spaced from_text))

unfoldable pub limit_text : Bool → List ℕ
limit_text b = cond b [] (ascii " LIMIT 1")

-- the line of the column c and the variable v; b says whether the subquery has a ` LIMIT ` already
unfoldable pub line_text : List ℕ → List ℕ → Bool → List ℕ → List ℕ → List ℕ
line_text with_text from_text b c v =
    ascii "SET " ++ (v ++ (ascii " = (" ++ (query_text with_text from_text c ++ (limit_text b ++ ascii ");"))))

-- whether the subquery of c has one: k bytes of it are matched before c, and `tail` says whether the FROM part has one
unfoldable pub limited : ℕ → Bool → List ℕ → Bool
limited k tail c = tail || leb 6 (limit_from k c)

-- a newline and the indentation, if more lines follow
unfoldable pub break_text : List ℕ → Bool → List ℕ
break_text indent more = cond more (10 ∷ indent) []

-- what all lines of a statement share: its WITH part, its FROM part without W at its end, the indentation, and the two of `limited`
pub record Shared : Type 0 where
  pub with_text : List ℕ
  pub from_text : List ℕ
  pub indent : List ℕ
  pub matched : ℕ
  pub tail : Bool

abbrev pub shared : List ℕ → List ℕ → List ℕ → ℕ → Bool → Shared
shared with_text from_text indent matched tail =
    record { with_text = with_text; from_text = from_text; indent = indent; matched = matched; tail = tail }

-- the same of a statement with this WITH part, FROM part and indentation
abbrev pub shared_by : List ℕ → List ℕ → List ℕ → Shared
shared_by w f indent = shared w (drop_end is_w f) indent (limit_from (limit_from 0 w) (ascii "SELECT ")) (eqb (limit_from 1 f) 7)

unfoldable pub shared_line : Shared → List ℕ → List ℕ → List ℕ
shared_line s c v = line_text s.with_text s.from_text (limited s.matched s.tail c) c v

-- the lines of the columns and variables
unfoldable pub lines_text : Shared → List (List Marked) → List (List Marked) → List ℕ
lines_text s [] vars = []
lines_text s (c ∷ cols) [] = []
lines_text s (c ∷ cols) (v ∷ vars) =
    shared_line s (bytes c) (bytes v) ++ (break_text s.indent (not (is_empty cols)) ++ lines_text s cols vars)
