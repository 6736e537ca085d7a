-- Document 01, "The rewritten body": the five passes without the size limits. Assumes nothing.
use Rattle.std.specs.Prelude.{ℕ, List}
use Rattle.spec.specs.Outcome.{accepted, refused, Rewriting}
use Rattle.spec.specs.declared.Level.{Level}
use Rattle.spec.specs.declared.Action.{Action}
use Rattle.spec.specs.Body.{requote_pass, elsif_pass, assign_pass, select_pass, raise_pass}

-- the next pass over what the passes before gave, however long its result is
unfoldable pub then_pass : Rewriting → (List ℕ → Rewriting) → Rewriting
then_pass (accepted xs) pass = pass xs
then_pass (refused r) pass = refused r

-- the five passes in order, with this action of each level
unfoldable pub unlimited : (Level → Action) → List ℕ → Rewriting
unlimited act xs =
    then_pass (then_pass (then_pass (then_pass (then_pass (accepted xs) requote_pass) elsif_pass) assign_pass) select_pass) (raise_pass act)
