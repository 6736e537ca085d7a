-- `assignments::put_set` meets its contract: its parts are written one after the other. Assumes nothing.
use Rattle.assignments.proofs.AssignmentTextLaws.{set_wrote}
use Rattle.assignments.proofs.put_set.Goals as goal

pub returns : goal.returns
returns c =
    set_wrote _ _ _ c.put_all.ensures c.put_all-2.ensures c.put_all-3.ensures c.put_all-4.ensures c.put_all-5.ensures
