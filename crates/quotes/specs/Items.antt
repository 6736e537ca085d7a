-- The parts of a list, one after the other. Assumes nothing.
use Rattle.std.specs.Prelude.{◌≡◌, List, [], ◌∷◌, ℕ, ◌+◌, ◌≤◌, ◌<◌, length, take, drop, Option, Some, None}
use Rattle.spec.specs.Map.{Marked}
use Rattle.spec.specs.SelectInto.{listed}
use Rattle.quotes.specs.declared.Item.{Item}

-- the first of the listed parts of what stands from offset i on is the k bytes at offset a, and the others are those of what
-- stands from offset n on
pub record Listed (t : List Marked) (i a k n : ℕ) : Type 0 where
  pub front : listed (drop i t) ≡ take k (drop a t) ∷ listed (drop n t)
  pub behind : i ≤ a
  pub some : 0 < k
  pub inside : a + k ≤ length t
  pub beyond : a + k < n
  pub within : n ≤ length t + 1

-- the first of those parts, or none
abbrev pub FirstItem : List Marked → ℕ → Option Item → Type 0
FirstItem t i (Some p) = Listed t i p.place.at p.place.len p.next
FirstItem t i None = listed (drop i t) ≡ []
