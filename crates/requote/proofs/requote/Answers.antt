-- `requote::requote` meets its contract. A step of the cursor takes a span, and what becomes of it is the front of what is
-- left to write; the result is at most twice as long as the text. Assumes nothing.
use Rattle.std.proofs.Common.{sym, ◌∙◌}
use Rattle.spec.specs.Requote.{requoted}
use Rattle.spans.proofs.StepLaws.{Stepped, step_taken}
use Rattle.requote.proofs.RequoteLaws.{requote_turn}
use Rattle.requote.proofs.requote.Goals as goal
use Rattle.requote.proofs.requote.Goals.{In-Some}

-- the step that was taken
turn : (c : goal.In-Some) → Stepped c.args.text.now c.loop-s.cursor.at c.in-Some.s c.in-Some.next.at
turn c = step_taken _ _ _ c.in-Some.next (sym c.step.ensures ∙ c.in-Some.is)

pub loop-s-preserved : goal.loop-s-preserved
loop-s-preserved c =
    let xs = c.args.text.now in
    let t = turn (goal.at.loop-s-preserved c).In-Some in
    (t.within, requote_turn xs c.loop-s.cursor.at c.in-Some.s c.in-Some.next.at t (requoted xs) c.loop-s.invariant.1 c.put_span.ensures)
