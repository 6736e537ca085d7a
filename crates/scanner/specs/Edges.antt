-- The edges of a keyword, by offsets. Assumes nothing.
use Rattle.std.specs.Prelude.{ℕ, ◌+◌, Bool, not, ◌&&◌, List, reverse, take, drop}
use Rattle.spec.specs.Bytes.{is_word}
use Rattle.spec.specs.Map.{Marked, front_byte, front_live}

-- the n bytes at i start live and have no word byte on either side
unfoldable pub edges : List Marked → ℕ → ℕ → Bool
edges t n i =
    front_live (drop i t)
    && (not (is_word (front_byte (reverse (take i t)))) && not (is_word (front_byte (drop (i + n) t))))
