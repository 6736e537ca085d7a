-- A statement of pass 4 that is rewritten, as bytes. Assumes nothing.
use Rattle.std.specs.Prelude.{not, List, ◌++◌, reverse, ℕ, eqb}
use Rattle.spec.specs.Bytes.{is_w}
use Rattle.spec.specs.Lists.{take_while, drop_end}
use Rattle.spec.specs.Map.{Marked}
use Rattle.set_lines.specs.Lines.{shared_by, lines_text}

-- all text from just behind the last newline
unfoldable pub last_line : List ℕ → List ℕ
last_line xs = reverse (take_while (λ c. not (eqb c 10)) (reverse xs))

-- what stands from FROM on without W, then without `;`, at its end
unfoldable pub from_text : List ℕ → List ℕ
from_text xs = drop_end (λ c. eqb c 59) (drop_end is_w xs)

-- the text in front of the WITH part, and the lines of a statement with this WITH part and what stands from FROM on
unfoldable pub pairs_text : List ℕ → List ℕ → List ℕ → List (List Marked) → List (List Marked) → List ℕ
pairs_text front w f cols vars = front ++ lines_text (shared_by w (from_text f) (last_line front)) cols vars
