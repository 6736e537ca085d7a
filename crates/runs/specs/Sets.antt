-- The byte sets that runs are read by, and a text without W at both ends. Assumes nothing.
use Rattle.std.specs.Prelude.{ℕ, Bool, not, ◌||◌, List, eqb}
use Rattle.spec.specs.Bytes.{is_ident, is_w, is_n, is_high}
use Rattle.spec.specs.Lists.{drop_while, drop_end}
use Rattle.runs.specs.declared.Set.{Set}
use Rattle.runs.specs.declared.Set.TheVariants.{W, N, Ident, NotW, NotWNor, Only, Except, Ascii}

abbrev pub in_set : Set → ℕ → Bool
in_set W b = is_w b
in_set N b = is_n b
in_set Ident b = is_ident b
in_set NotW b = not (is_w b)
in_set (NotWNor c) b = not (is_w b || eqb b c)
in_set (Only c) b = eqb b c
in_set (Except c) b = not (eqb b c)
in_set Ascii b = not (is_high b)

unfoldable pub trimmed : List ℕ → List ℕ
trimmed xs = drop_end is_w (drop_while is_w xs)
