-- Parts, places and fields of a line of a stored list. Assumes nothing.
use Rattle.std.specs.Prelude.{ℕ, ◌+◌, ◌-◌, cond, ◌&&◌, List, [], eqb, leb, length, take, drop}
use Rattle.std.specs.List.{position_or_len, slice_split, slice_index_or}

-- the bytes from a up to e, or none where they do not lie in the list
unfoldable pub part_of : ℕ → ℕ → List ℕ → List ℕ
part_of a e xs = cond (leb e (length xs) && leb a e) (take (e - a) (drop a xs)) []

-- where b stands next at or after i: the list's end if it stands nowhere, and i past the end
unfoldable pub place_of : ℕ → ℕ → List ℕ → ℕ
place_of b i xs = i + position_or_len (λ c. eqb c b) (drop i xs)

-- the fields of a line, cut at each space
abbrev pub fields_of : List ℕ → List (List ℕ)
fields_of line = slice_split (λ b. eqb b 32) line

-- the field that has k fields before it; empty if there is none
abbrev pub field_of : ℕ → List ℕ → List ℕ
field_of k line = slice_index_or (fields_of line) k []
