-- `assignments::right_side` meets its contract, for any text with these bytes: trimming by the code is trimming by the
-- definition, twice, and `right_at` is the cut of the `;` between. Assumes nothing.
use mathlib.Core.Path.{sym, ◌∙◌}
use Rattle.assignments.proofs.AssignmentTextLaws.{right_at}
use Rattle.assignments.proofs.right_side.Goals as goal

pub returns : goal.returns
returns c = λ t e. right_at _ t e _ c.trim-inner.ensures _ c.run_start-end.ensures.value ∙ sym c.trim.ensures
