-- The map of `'` and `"` only, as numbers. Assumes nothing.
use Rattle.std.specs.Prelude.{ℕ, cond, not, ◌&&◌, List, [], ◌∷◌, eqb}
use Rattle.spec.specs.Bytes.{is_quote}
use Rattle.spec.specs.SelectInto.{quote_after}

-- 0 for the byte c outside quotes, 1 for one in them or for a quote; q is the quote that is open before it, 0 for none
unfoldable pub quote_flag : ℕ → ℕ → ℕ
quote_flag q c = cond (eqb q 0 && not (is_quote c)) 0 1

unfoldable pub quote_map_from : ℕ → List ℕ → List ℕ
quote_map_from q [] = []
quote_map_from q (c ∷ cs) = quote_flag q c ∷ quote_map_from (quote_after q c) cs

-- the map of a text
unfoldable pub quote_map : List ℕ → List ℕ
quote_map xs = quote_map_from 0 xs
