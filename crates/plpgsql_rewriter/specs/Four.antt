-- The four numbers that a function of the C interface hands back. Assumes nothing.
use Rattle.std.specs.Prelude.{ℕ, cond, List, [], ◌∷◌, ltb, Option, Result, Ok, Err}
use Rattle.spec.specs.Answers.{SearchNumbers, search_numbers, filled_numbers, call_numbers}
use Rattle.spec.specs.declared.Refusal.{Refusal}
use Rattle.spec.specs.declared.Accepted.{Accepted}

-- a number in 32 bits; a larger one is the largest
unfoldable pub narrow : ℕ → ℕ
narrow n = cond (ltb n 4294967296) n 4294967295

-- number, found, place, and the length of what was found or written
abbrev pub four : SearchNumbers → ℕ → List ℕ
four n len = n.number ∷ n.found ∷ narrow n.place ∷ narrow len ∷ []

abbrev pub four_found : Result (Option ℕ) Refusal → List ℕ
four_found s = four (search_numbers s) 0

-- how much was written
abbrev pub count_of : Result ℕ Refusal → ℕ
count_of (Ok n) = n
count_of (Err r) = 0

abbrev pub four_filled : Result ℕ Refusal → List ℕ
four_filled f = four (filled_numbers f) (count_of f)

-- of a call: number, place, output length, records
abbrev pub four_called : Result Accepted Refusal → List ℕ
four_called r = (call_numbers r).number ∷ narrow (call_numbers r).place ∷ narrow (call_numbers r).length ∷ narrow (call_numbers r).records ∷ []
