-- Parts of a text that several passes and the declarations take: between two offsets, and without W at the ends. Assumes nothing.
use Rattle.std.specs.Prelude.{ℕ, ◌-◌, List, take, drop}
use Rattle.spec.specs.Bytes.{is_w}
use Rattle.spec.specs.Lists.{drop_while, drop_end}
use Rattle.spec.specs.Map.{Marked, of_byte}

-- from offset a up to offset b
abbrev pub part : {A : Type 0} → ℕ → ℕ → List A → List A
part a b t = take (b - a) (drop a t)

-- without W at its end, at both ends
unfoldable pub trim_end : List Marked → List Marked
trim_end t = drop_end (of_byte is_w) t

unfoldable pub trim : List Marked → List Marked
trim t = trim_end (drop_while (of_byte is_w) t)
