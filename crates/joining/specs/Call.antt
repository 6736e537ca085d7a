-- The body call as demand 3 speaks of it, for every table. Assumes nothing.
use Rattle.std.specs.Prelude.{◌≡◌, ℕ, ◌≤◌, List, length, take, Result, ⊤}
use Rattle.spec.specs.Body.{buffer_size}
use Rattle.spec.specs.Answers.{call_numbers, body_check, body_answer, body_output}
use Rattle.spec.specs.declared.Refusal.{Refusal}
use Rattle.spec.specs.Raise.{Actions}
use Rattle.spec.specs.declared.Accepted.{Accepted}

-- buffers of the stated lengths: output and two work buffers
pub record Lent : Type 0 where
  pub output : List ℕ
  pub work : List ℕ
  pub spare : List ℕ
  pub output_fits : buffer_size ≤ length output
  pub work_fits : buffer_size ≤ length work
  pub spare_fits : buffer_size ≤ length spare

-- what the checks say of a body
abbrev pub check_by : Lent → List ℕ → Result ⊤ Refusal
check_by l xs = body_check xs l.output l.work l.spare

-- what the call answers for a body with what a table says, and what it leaves in the output
abbrev pub answer_by : Result Actions Refusal → Lent → List ℕ → Result Accepted Refusal
answer_by levels l xs = body_answer levels xs l.output l.work l.spare

abbrev pub output_by : Result Actions Refusal → Lent → List ℕ → List ℕ
output_by levels l xs = body_output levels xs l.output l.work l.spare

-- the number that the call gives for a body
unfoldable pub number_of : Result Actions Refusal → Lent → List ℕ → ℕ
number_of levels l xs = (call_numbers (answer_by levels l xs)).number

-- the body's rewriting: the output up to the output length
unfoldable pub rewritten : Result Actions Refusal → Lent → List ℕ → List ℕ
rewritten levels l xs = take (call_numbers (answer_by levels l xs)).length (output_by levels l xs)

-- one call on a text: buffers of the stated lengths, what it answers, and the output at exit
pub record Called (levels : Result Actions Refusal) (xs : List ℕ) : Type 0 where
  pub lent : Lent
  pub answer : Result Accepted Refusal
  pub left : List ℕ
  pub answered : answer ≡ answer_by levels lent xs
  pub written : left ≡ output_by levels lent xs

-- the number it gives
abbrev pub given : {levels : Result Actions Refusal} {xs : List ℕ} → Called levels xs → ℕ
given c = (call_numbers c.answer).number

-- the output up to the output length
abbrev pub result : {levels : Result Actions Refusal} {xs : List ℕ} → Called levels xs → List ℕ
result c = take (call_numbers c.answer).length c.left
