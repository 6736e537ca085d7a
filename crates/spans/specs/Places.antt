-- Where a pattern stands first in a text, if it stands anywhere. Assumes nothing.
use Rattle.std.specs.Prelude.{ℕ, List, length, ltb, cond, Option, Some, None}
use Rattle.spec.specs.Spans.{seek_len}

abbrev pub seek_place : List ℕ → List ℕ → Option ℕ
seek_place p xs = cond (ltb (seek_len p xs) (length xs)) (Some (seek_len p xs)) None
