-- Document 01, "The rewritten body": five passes, each over the whole result of the one before. Assumes nothing.
use Rattle.std.specs.Prelude.{ℕ, cond, List, ltb, length}
use Rattle.spec.specs.Map.{marked_text, bytes}
use Rattle.spec.specs.Requote.{requoted}
use Rattle.spec.specs.Elsif.{elsif}
use Rattle.spec.specs.Outcome.{result_too_long, accepted, refused, Rewriting, forget}
use Rattle.spec.specs.Assignments.{assignments}
use Rattle.spec.specs.SelectInto.{quote_walk, select_into}
use Rattle.spec.specs.Raise.{raise}
use Rattle.spec.specs.declared.Level.{Level}
use Rattle.spec.specs.declared.Action.{Action}

-- the bytes of each lent byte buffer that a call fills, and the most that a pass's result may have
unfoldable pub buffer_size : ℕ
buffer_size = 65536

unfoldable pub requote_pass : List ℕ → Rewriting
requote_pass xs = accepted (requoted xs)

unfoldable pub elsif_pass : List ℕ → Rewriting
elsif_pass xs = accepted (bytes (elsif (marked_text xs)))

unfoldable pub assign_pass : List ℕ → Rewriting
assign_pass xs = forget (assignments (marked_text xs))

unfoldable pub select_pass : List ℕ → Rewriting
select_pass xs = accepted (bytes (select_into (quote_walk 0 xs)))

unfoldable pub raise_pass : (Level → Action) → List ℕ → Rewriting
raise_pass act xs = forget (raise act (marked_text xs))

-- refusal 6: a pass's result exceeds the buffer size; in one pass 4 or 5 comes before 6
unfoldable pub limited : Rewriting → Rewriting
limited (accepted xs) = cond (ltb buffer_size (length xs)) (refused result_too_long) (accepted xs)
limited (refused r) = refused r

-- the next pass over what the passes before gave
unfoldable pub and_then : Rewriting → (List ℕ → Rewriting) → Rewriting
and_then (accepted xs) pass = limited (pass xs)
and_then (refused r) pass = refused r

-- the five passes in order, with this action of each level
unfoldable pub rewriting : (Level → Action) → List ℕ → Rewriting
rewriting act xs =
    and_then (and_then (and_then (and_then (and_then (accepted xs) requote_pass) elsif_pass) assign_pass) select_pass) (raise_pass act)
