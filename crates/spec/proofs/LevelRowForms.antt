-- How a row of Note 10 is written down. Assumes nothing.
use Rattle.std.specs.Prelude.{Result}
use Prim.Native.Nat.{ℕ}
use Prim.Native.String.{String}
use mathlib.Core.List.{List, ◌++◌}
use Rattle.spec.specs.Bytes.{ascii}
use Rattle.spec.specs.Levels.{table_of}
use Rattle.spec.specs.Answers.{by_table, body_result, function_result}
use Rattle.spec.proofs.RowForms.{Row, result_row, tabled}
use Rattle.spec.specs.declared.Refusal.{Refusal}
use Rattle.spec.specs.Raise.{Actions}

-- what a table says
abbrev pub table : String → Result Actions Refusal
table s = table_of (ascii s)

-- the table with these actions for DEBUG, LOG, INFO, NOTICE, WARNING and EXCEPTION
abbrev pub levels : String → String → String → String → String → String → List ℕ
levels d l i n w x =
    ascii "DEBUG " ++ (ascii d ++ (ascii "\nLOG " ++ (ascii l ++ (ascii "\nINFO " ++ (ascii i ++ (ascii "\nNOTICE " ++ (ascii n ++ (ascii "\nWARNING " ++ (ascii w ++ (ascii "\nEXCEPTION " ++ (ascii x ++ ascii "\n")))))))))))

-- the body call on a text under this table, and the function call
unfoldable pub body_by : List ℕ → String → Row
body_by t s = result_row (by_table (table_of t) (body_result (ascii s)))

unfoldable pub function_by : List ℕ → String → Row
function_by t s = result_row (by_table (table_of t) (function_result (ascii s)))

-- with these and all definitions unfolded a row is computed
unfoldable pub levelled : Unit {0}
unfolding tabled body_by function_by
levelled = tt
