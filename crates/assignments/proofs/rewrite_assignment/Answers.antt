-- `assignments::rewrite_assignment` meets its contract, with and without a `:=`. Assumes nothing.
use Rattle.spec.specs.Lists.{is_empty}
use Rattle.assignments.proofs.AssignmentTextLaws.{assignment_found, assignment_none}
use Rattle.assignments.proofs.rewrite_assignment.Goals as goal

pub returns-in-Some : goal.returns-in-Some
unfolding is_empty
returns-in-Some c = assignment_found _ _ c.in-Some.ensures c.put_assignment.ensures

pub returns-in-None : goal.returns-in-None
unfolding is_empty
returns-in-None c = assignment_none _ c.in-None.ensures (rw c.text.ensures at c.put_all.ensures)
