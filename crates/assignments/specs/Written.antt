-- What is written of an assignment. Assumes nothing.
use Rattle.std.specs.Prelude.{List, ◌++◌, ℕ}
use Rattle.spec.specs.Bytes.{ascii}

-- `SET name = right` behind the text before the name
abbrev pub set_text : List ℕ → List ℕ → List ℕ → List ℕ
set_text front name right = front ++ (ascii "SET " ++ (name ++ (ascii " = " ++ right)))
