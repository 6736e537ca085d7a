-- ` LIMIT ` in any letter case, read byte by byte, so that a text may come in parts. Assumes nothing.
use Rattle.std.specs.Prelude.{ℕ, suc, cond, List, [], ◌∷◌, eqb, get_or}
use Rattle.spec.specs.Bytes.{ascii, upper}

-- how many bytes of ` LIMIT ` stand matched behind c, k being matched before it; all 7 stay matched
unfoldable pub limit_next : ℕ → ℕ → ℕ
limit_next k c =
    let again = cond {A = ℕ} (eqb (upper c) 32) 1 0 in
    let more = cond (eqb (upper c) (get_or (ascii " LIMIT ") k 0)) (suc k) again in
    cond (eqb k 7) 7 more

-- the same behind a text
unfoldable pub limit_from : ℕ → List ℕ → ℕ
limit_from k [] = k
limit_from k (c ∷ cs) = limit_from (limit_next k c) cs
