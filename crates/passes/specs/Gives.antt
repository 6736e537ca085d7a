-- What the passes answer and leave. Assumes nothing.
use Rattle.std.specs.Prelude.{◌≡◌, List, ℕ, length, take, Result, Ok, Err}
use Rattle.spec.specs.Answers.{CallResult}
use Rattle.output.specs.Written.{counted}
use Rattle.spec.specs.declared.Refusal.{Refusal}
use Rattle.spec.specs.declared.Accepted.{Accepted}

-- r is the result's answer, and the output has the result's bytes in front
pub record Gives (result : CallResult) (r : Result Accepted Refusal) (output : List ℕ) : Type 0 where
  pub answered : r ≡ result.answer
  pub held : take (length result.output) output ≡ result.output

-- the call's answer where the passes end in this one
abbrev pub finished : Result ℕ Refusal → Result Accepted Refusal
finished (Ok k) = Ok (record { length = k; records = 0 })
finished (Err r) = Err r

-- refusal 6 if the result exceeds the buffer size
abbrev pub limited_answer : Result ℕ Refusal → Result ℕ Refusal
limited_answer (Ok k) = counted k
limited_answer (Err r) = Err r
