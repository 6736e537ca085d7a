-- The tally: a row for each kind of question, with the answers compared and those that differ. Assumes nothing.
use Rattle.std.specs.Prelude.{ℕ, ◌+◌, Bool, cond, List, ltb}
use Rattle.stored_list.specs.Fault.{changed_at}
use Rattle.stored_list.specs.declared.tally.Row.{Row}

-- one more, up to the largest number of 32 bits
abbrev pub one_more : ℕ → ℕ
one_more n = cond (ltb n 4294967295) (n + 1) n

-- the row with one answer more
abbrev pub with_answer : Row → Bool → Row
with_answer r agrees = record { compared = one_more r.compared; differ = cond agrees r.differ (one_more r.differ) }

-- one answer in a row, if the tally has it; no row over 1000 counts
abbrev pub noted : ℕ → Bool → List Row → List Row
noted row agrees xs = cond (ltb 1000 row) xs (changed_at (λ r. with_answer r agrees) row xs)
