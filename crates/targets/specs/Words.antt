-- Where a word may start, and the code's marking words as those of the definitions. Assumes nothing.
use Rattle.std.specs.Prelude.{ℕ, Bool, not, ◌&&◌, Option}
use Rattle.std.specs.Option.{option_map}
use Rattle.spec.specs.Bytes.{is_word}
use Rattle.spec.specs.Map.{Marked, byte, is_live}
use Rattle.spec.specs.Assignments as spec
use Rattle.targets.specs.declared.Marking.{Marking}

-- x is a live word byte, and p before it is no word byte
abbrev pub may_start : ℕ → Marked → Bool
may_start p x = is_live x && (is_word (byte x) && not (is_word p))

abbrev pub marking_of : Marking → spec.Marking
marking_of m = record { word = m.word.now; mark = m.mark }

-- what is met at a place
abbrev pub seen : Option Marking → Option spec.Marking
seen = option_map marking_of
