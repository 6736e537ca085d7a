-- Buffers that hold the same element in a stretch, and the marks. Assumes nothing.
use Rattle.std.specs.Prelude.{ℕ, ◌-◌, Bool, List, take, drop}
use Rattle.std.specs.List.{list_all}

-- a byte that no result holds
abbrev pub mark : ℕ
mark = 165

-- a number that no list of starts and no record holds
abbrev pub number_mark : ℕ
number_mark = 2779096485

-- all elements from i up to e are x, as far as the buffer reaches; eq compares two elements
unfoldable pub holds_only : {A : Type 0} → (A → A → Bool) → A → ℕ → ℕ → List A → Bool
holds_only eq x i e xs = list_all (λ y. eq y x) (take (e - i) (drop i xs))
