-- An answer and its records. Assumes nothing.
use Rattle.std.specs.Prelude.{ℕ, Result, Ok, Err}
use Rattle.spec.specs.Raise.{Actions}
use Rattle.declarations.specs.declared.DeclaredSizes.{DeclaredSizes}
use Rattle.spec.specs.declared.Refusal.{Refusal}
use Rattle.spec.specs.declared.Accepted.{Accepted}

-- the answer with this number of records, if it is accepted
abbrev pub with_records : ℕ → Result Accepted Refusal → Result Accepted Refusal
with_records c (Ok a) = Ok (record { length = a.length; records = c })
with_records c (Err f) = Err f

-- a number that an accepted answer has, 0 with a refusal
abbrev pub if_accepted : Result Accepted Refusal → ℕ → ℕ
if_accepted (Ok a) m = m
if_accepted (Err f) m = 0

-- what a table says, unless the declarations are refused
abbrev pub passed : Result Actions Refusal → Result DeclaredSizes Refusal → Result Actions Refusal
passed (Ok a) (Ok p) = Ok a
passed (Ok a) (Err r) = Err r
passed (Err r) q = Err r

-- the sizes, none if the declarations are refused
abbrev pub sizes_of : Result DeclaredSizes Refusal → DeclaredSizes
sizes_of (Ok p) = p
sizes_of (Err r) = record { records = 0; bytes = 0 }
