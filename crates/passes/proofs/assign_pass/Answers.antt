-- `passes::assign_pass` meets its contract: what the pass answers and leaves, within the buffer size, is what pass 3 gives of the
-- text with its map. Assumes nothing.
use Rattle.spec.specs.Map.{marked_text}
use Rattle.spec.specs.Assignments.{assignments}
use Rattle.spec.specs.Body.{assign_pass}
use Rattle.passes.proofs.StageLaws.{limited_gives}
use Rattle.passes.proofs.assign_pass.Goals as goal

pub returns : goal.returns
unfolding assign_pass
returns c =
    let e = rw c.mapped.ensures at c.transform_assignments.ensures in
    limited_gives (assignments (marked_text c.args.text.now)) _ _ _ _ e.value c.limit.ensures e.leaves c.told-out
