-- How a row of document 01's table is written down, and a row of the function call for `oracle/check-definitions`. Assumes
-- nothing.
use Rattle.std.specs.Prelude.{Option}
use Prim.Native.Nat.{ℕ, ◌+◌, ◌*◌}
use Prim.Native.String.{String}
use mathlib.Core.Bool.{Bool, cond, not, ◌&&◌}
use mathlib.Core.List.{List, [], ◌∷◌, ◌++◌}
use lib.Dec.{eqb}
use lib.ListN.{get_or, take, drop}
use Rattle.spec.specs.Bytes.{ascii, is_same}
use Rattle.spec.specs.Closed.{is_closed}
use Rattle.spec.specs.Declarations.{Declared, records_of, record_width, record_limit, chain_from}
use Rattle.spec.specs.Raise.{default_actions}
use Rattle.spec.specs.Computed.{computed}
use Rattle.spec.specs.Answers.{CallNumbers, call_numbers, CallResult, body_result, function_result}

-- what a call whose checks pass gives: the four numbers and the output
pub record Row : Type 0 where
  pub numbers : CallNumbers
  pub output : List ℕ

-- the row of what a call gives
unfoldable pub result_row : CallResult → Row
result_row r = record { numbers = call_numbers r.answer; output = r.output }

-- the body call on this text, without a table
unfoldable pub body : String → Row
body s = result_row (body_result (ascii s) default_actions)

-- number, place, output length and records, then the output
abbrev pub row : ℕ → ℕ → ℕ → ℕ → String → Row
row n p l r s = record { numbers = record { number = n; place = p; length = l; records = r }; output = ascii s }

-- the records of a function that declares this, one declaration or several with `;` between them
abbrev pub record_of : String → List Declared
record_of part = records_of (ascii "DECLARE " ++ (ascii part ++ ascii ";BEGIN"))

-- one record: name, type, default, marked CONSTANT, marked NOT NULL
abbrev pub one_record : String → String → Option (List ℕ) → Bool → Bool → List Declared
one_record n k v c m = record { name = ascii n; type = ascii k; default = v; constant = c; not_null = m } ∷ []

-- a declaration as its name, 256, its type, then 257 and the default or 258 for none, 260 if it is marked CONSTANT, 261 if
-- NOT NULL, and 259; read off the numbers of record i and the packed text
unfoldable pub unpacked : List ℕ → List ℕ → ℕ → List ℕ
unpacked numbers text i =
    let at : ℕ → ℕ = λ k. get_or numbers (record_width * i + k) 0 in
    let slice : ℕ → List ℕ = λ k. take (at (k + 1)) (drop (at k) text) in
    let default : List ℕ = 257 ∷ slice 6 in
    let marked : ℕ → ℕ → List ℕ = λ k n. cond (eqb (at k) 1) (n ∷ []) [] in
    slice 1 ++ (256 ∷ (slice 3 ++ (cond (eqb (at 5) 1) default (258 ∷ []) ++ (marked 8 260 ++ (marked 9 261 ++ (259 ∷ []))))))

unfoldable pub unpacked_all : List ℕ → List ℕ → List ℕ → List ℕ
unpacked_all numbers text [] = []
unpacked_all numbers text (i ∷ is) = unpacked numbers text i ++ unpacked_all numbers text is

-- what the function call gives: its row, and the declarations along the chain
pub record FunctionRow : Type 0 where
  pub row : Row
  pub declared : List ℕ

unfoldable pub row_of : CallResult → FunctionRow
row_of r =
    let declared = unpacked_all r.records r.declared (chain_from record_limit r.records (get_or r.records 0 0)) in
    record { row = result_row r; declared = declared }

-- the function call on this text, without a table
unfoldable pub function : String → FunctionRow
function s = row_of (function_result (ascii s) default_actions)

abbrev pub function_row : ℕ → ℕ → ℕ → ℕ → String → List ℕ → FunctionRow
function_row n p l r s ds = record { row = row n p l r s; declared = ds }

-- a is not closed, and rewriting a with x behind it is not the two rewritings joined
unfoldable pub is_loss : String → String → Bool
is_loss a x =
    let output : List ℕ → List ℕ = λ xs. (body_result xs default_actions).output in
    not (is_closed (ascii a)) && not (is_same (output (ascii a ++ ascii x)) (output (ascii a) ++ output (ascii x)))

-- with these and all definitions unfolded a row is computed
unfoldable pub tabled : Unit {0}
unfolding computed result_row body unpacked unpacked_all row_of function is_loss
tabled = tt
