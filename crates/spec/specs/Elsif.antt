-- Document 01, "The rewritten body", pass 2: ELSIF. Assumes nothing.
use Rattle.std.specs.Prelude.{ℕ, zero, suc, cond, List, [], ◌∷◌, ◌++◌}
use Rattle.spec.specs.Bytes.{ascii, is_word}
use Rattle.spec.specs.Map.{Marked, byte, lives}
use Rattle.spec.specs.Search.{word_here}

-- each live keyword ELSIF becomes ELSEIF in capitals; k bytes of a keyword are still to pass, p is the byte before
unfoldable pub elsif_from : ℕ → ℕ → List Marked → List Marked
elsif_from k p [] = []
elsif_from zero p (x ∷ t) =
    let put = lives (ascii "ELSEIF") ++ elsif_from 4 (byte x) t in
    let kept = x ∷ elsif_from 0 (byte x) t in
    cond (word_here is_word (ascii "ELSIF") p (x ∷ t)) put kept
elsif_from (suc k) p (x ∷ t) = elsif_from k (byte x) t

-- pass 2
unfoldable pub elsif : List Marked → List Marked
elsif t = elsif_from 0 0 t
