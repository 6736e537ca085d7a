-- What stands at a place of a text, and the place between two offsets. Assumes nothing.
use Rattle.std.specs.Prelude.{ℕ, ◌-◌, cond, nat_lt, List, take, drop, Option, Some, None}
use Rattle.runs.specs.declared.Place.{Place}

-- what stands at a place
abbrev pub piece_at : {A : Type 0} → List A → Place → List A
piece_at xs p = take p.len (drop p.at xs)

-- the bytes from one offset up to another, if there are any
unfoldable pub place_between : ℕ → ℕ → Option Place
place_between at end = cond (nat_lt at end) (Some (record { at = at; len = end - at })) None
