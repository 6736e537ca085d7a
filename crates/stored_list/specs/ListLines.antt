-- The lines of a buffer that holds the bytes read last. Assumes nothing.
use Rattle.std.specs.Prelude.{ℕ, ◌+◌, ◌≤◌, ◌<◌, ◌≡◌, Bool, true, false, cond, List, ltb, length, take, drop, get_or, Option, Some, None}
use Rattle.std.specs.List.{All, FoldsTo}
use denote.Ref.{Bor}
use Rattle.stored_list.specs.Fields.{part_of, place_of}
use Rattle.stored_list.specs.declared.lines.Line.{Line}

-- the line from a place up to another, of a buffer with so many bytes read
abbrev pub line_at : ℕ → ℕ → ℕ → Line
line_at s e n = record { start = s; end = e; filled = n }

-- the next line begins behind the newline of the line before it
abbrev pub start_after : Line → ℕ
start_after b = cond (ltb b.end b.filled) (b.end + 1) b.end

-- where the next newline stands in the n bytes read
unfoldable pub newline_at : ℕ → ℕ → List ℕ → ℕ
newline_at n i xs = place_of 10 i (part_of 0 n xs)

-- the line from a place on, of the n bytes at the front; without a newline behind the place there is none
unfoldable pub line_from : ℕ → ℕ → List ℕ → Option Line
line_from i n xs = cond (ltb (newline_at n i xs) n) (Some (line_at i (newline_at n i xs) n)) None

-- the first line of them
abbrev pub first_line : ℕ → List ℕ → Option Line
first_line n xs = line_from 0 n xs

-- the line is the first one of the bytes at the front: those that were left, and what is read behind them, which is free
abbrev pub FirstRead : ℕ → List ℕ → Option Line → Type 0
FirstRead left xs r = (n : ℕ) × (left ≤ n) × (n ≤ length xs) × (r ≡ first_line n xs)

-- the bytes that are left behind a line
unfoldable pub left_after : Line → List ℕ → List ℕ
left_after b xs = drop (start_after b) (take b.filled xs)

-- whether a whole line is left
unfoldable pub is_held : Line → List ℕ → Bool
is_held b xs = ltb (newline_at b.filled (start_after b) xs) b.filled

-- the line behind a line, by the buffer before and after
pub record NextLine (entry : List ℕ) (b : Line) (exit : List ℕ) (r : Option Line) : Type 0 where
  -- a whole line is left: nothing is read
  pub held : is_held b entry ≡ true
      → (exit ≡ entry) × (r ≡ Some (line_at (start_after b) (newline_at b.filled (start_after b) entry) b.filled))
  -- else the bytes that are left stand at the front, and more are read
  pub read : is_held b entry ≡ false → (take (length (left_after b entry)) exit ≡ left_after b entry)
      × FirstRead (length (left_after b entry)) exit r

-- the line lies in the bytes read, a newline stands at its end, and there is none in it
pub record LineIn (xs : List ℕ) (r : Line) : Type 0 where
  pub ordered : r.start ≤ r.end
  pub within : r.end < r.filled
  pub filled : r.filled ≤ length xs
  pub newline : get_or xs r.end 0 ≡ 10
  pub whole : (k : ℕ) → r.start ≤ k → k < r.end → get_or xs k 0 ≡ 10 → ⊥

-- no newline stands in it
abbrev pub IsWhole : List ℕ → Type 0
IsWhole xs = (k : ℕ) → k < length xs → get_or xs k 0 ≡ 10 → ⊥

-- calls with lines, one after the other, took a closure from one state to another
abbrev pub HandsLines : {F : Type 0} → (F → Bor (List ℕ) → F → Type 0) → F → F → Type 0
HandsLines step f g = (lines : List (Bor (List ℕ))) × All (λ x. IsWhole x.now) lines × FoldsTo step f lines g
