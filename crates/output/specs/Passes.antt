-- What a pass that may refuse answers, and what it leaves in the output. Assumes nothing.
use Rattle.std.specs.Prelude.{◌≡◌, ⊤, List, length, take, Result, Ok, Err, ℕ}
use Rattle.std.proofs.lemmas.List.Edits.{sets}
use Rattle.spec.specs.Map.{Marked, bytes}
use Rattle.spec.specs.Outcome.{handed_back, Outcome, accepted, refused}
use Rattle.spec.specs.declared.Refusal.{Refusal}
use Rattle.output.specs.declared.Writer.{Writer}
use Rattle.output.specs.Written.{Wrote}

abbrev pub pass_answer : Outcome (List Marked) → Result ℕ Refusal
pass_answer (accepted t) = Ok (length t)
pass_answer (refused r) = Err (handed_back r).refusal

-- an output that held `before` holds `after`: the result, as far as it fits and nothing else; or in front what is handed back
abbrev pub Leaves : Outcome (List Marked) → List ℕ → List ℕ → Type 0
Leaves (accepted t) before after = after ≡ sets before 0 (bytes t)
Leaves (refused r) before after = take (length (handed_back r).output) after ≡ (handed_back r).output

-- the same of a writer in the midst of a pass, which has this outcome left: what it answers, and what it writes
abbrev pub WroteOutcome : Writer → Outcome (List Marked) → Writer → Result ⊤ Refusal → Type 0
WroteOutcome old (accepted t) new r = Wrote old (bytes t) new × (r ≡ Ok tt)
WroteOutcome old (refused e) new r =
    (new.out.ghost_name ≡ old.out.ghost_name)
    × (take (length (handed_back e).output) new.out.now ≡ (handed_back e).output)
    × (r ≡ Err (handed_back e).refusal)
