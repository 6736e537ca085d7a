-- Where a target stands in a statement. Assumes nothing.
use Rattle.std.specs.Prelude.{ℕ, ◌+◌, ◌≤◌, ◌≡◌, List, length, Option, Some, None}
use Rattle.spec.specs.Map.{Marked}
use Rattle.spec.specs.Assignments.{Target}
use Rattle.runs.specs.Places.{piece_at}
use Rattle.targets.specs.declared.TargetPlaces.{TargetPlaces}

-- the target that stands there in t
abbrev pub target_in : List Marked → Option TargetPlaces → Option Target
target_in t (Some p) =
    Some record { qualifier = piece_at t p.qualifier; name = piece_at t p.name }
target_in t None = None

-- its parts lie within l bytes, the name just behind the `.`
abbrev pub Inside : ℕ → Option TargetPlaces → Type 0
Inside l (Some p) = (p.name.at ≡ p.qualifier.at + p.qualifier.len + 1) × (p.name.at + p.name.len ≤ l)
Inside l None = Unit {0}

-- r tells whether t has the target o, and where
pub record Tells (t : List Marked) (o : Option Target) (r : Option TargetPlaces) : Type 0 where
  pub target : o ≡ target_in t r
  pub inside : Inside (length t) r
