-- A table is refused, if it is, with 11, 12 or 13, by the law of what a table says: so these are no numbers of the checks or
-- of the passes. Assumes nothing.
use Rattle.std.specs.Prelude.{Result, Ok, Err}
use mathlib.Core.Path.{◌≡◌, refl, subst}
use mathlib.Core.List.{List}
use Prim.Native.Nat.{ℕ, ◌≤◌}
use native.Mathlib.Omega.{arith}
use Rattle.spec.proofs.Apart.{apart}
use Rattle.spec.proofs.LevelLaws.{by_words, table_exactly}
use Rattle.spec.specs.Levels.{table_of, no_table}
use Rattle.spec.specs.Answers.{refusal_numbers}
use Rattle.spec.specs.Raise.{Actions}
use Rattle.spec.specs.declared.Refusal.{Refusal}
use Rattle.spec.specs.declared.Refusal.TheVariants.{MalformedLine, RepeatedLevel, MissingLevel}

-- the numbers of a table's refusals
abbrev pub TableNumber : ℕ → Type 0
TableNumber n = (11 ≤ n) × (n ≤ 13)

-- a table that is refused only with one of these
abbrev pub IsTable : Result Actions Refusal → Type 0
IsTable levels = (f : Refusal) → levels ≡ Err f → TableNumber (refusal_numbers f).number

-- what gives actions is one
pub given_table : (levels : Result Actions Refusal) (a : Actions) → levels ≡ Ok a → IsTable levels
given_table levels a e f h = absurd (apart (cc))

-- so there is one without a table
pub no_table_lem : IsTable no_table
no_table_lem f e = absurd (apart (cc))

-- ---- the text of a table

refused_table : (g : Refusal) → TableNumber (refusal_numbers g).number → IsTable (Err g)
refused_table g h f e =
    let same : g ≡ f = cc in
    subst (λ (r : Refusal). TableNumber (refusal_numbers r).number) same h

-- every text of a table is one
pub text_table : (ts : List ℕ) → IsTable (table_of ts)
text_table ts =
    by_words ts IsTable
    (λ a w. given_table (Ok a) a refl)
    (λ i w. refused_table (MalformedLine i) (omega arith, omega arith))
    (λ i w. refused_table (RepeatedLevel i) (omega arith, omega arith))
    (λ i w. refused_table (MissingLevel i) (omega arith, omega arith))
    (table_of ts)
    ((table_exactly ts (table_of ts)).0 refl)
