-- `assignments::put_assignment` meets its contract. `right_told` says that the right side is that of the definition.
-- Assumes nothing.
use Rattle.std.proofs.lemmas.List.{take_rest}
use native.Mathlib.Omega.{arith}
use mathlib.Core.Path.{◌≡◌, sym, ap, ◌∙◌}
use mathlib.Core.List.{List}
use Prim.Native.Nat.{◌+◌, ◌-◌}
use lib.ListN.{length, drop, length-drop}
use lib.Seq.{length-take-le}
use Rattle.spec.proofs.RefusalBounds.{bytes_length}
use Rattle.spec.specs.Map.{Marked, bytes}
use Rattle.spec.specs.Assignments.{right_side}
use Rattle.assignments.proofs.AssignmentTextLaws.{assignment_same, assignment_set, right_short}
use Rattle.assignments.proofs.put_assignment.Goals as goal
use Rattle.assignments.proofs.put_assignment.Goals.{After-right_side-right}

same_length : (c : goal.After-right_side-right) → length c.text-bytes.result.now ≡ length c.args.statement.now
same_length c = ap length c.text-bytes.ensures ∙ bytes_length c.args.statement.now

right_told : (c : goal.After-right_side-right) →
    (t : List Marked) → bytes t ≡ drop (c.args.at + 2) c.text-bytes.result.now → bytes (right_side t) ≡ c.right_side-right.result.now
right_told c = rw (take_rest c.text-bytes.result.now (c.args.at + 2)) at c.right_side-right.ensures

pub slice_bounds-put_set-end : goal.slice_bounds-put_set-end
slice_bounds-put_set-end c =
    sym (length-take-le c.run_start-name_start.result c.text-bytes.result.now (omega (arith, same_length (goal.at.slice_bounds-put_set-end c).After-right_side-right)))

pub put_set-requires : goal.put_set-requires
put_set-requires c =
    let xs = c.text-bytes.result.now in
    let s = c.run_start-name_start.result in
    let m = c.run_start-name_end.result in
    let k = same_length (goal.at.put_set-requires c).After-right_side-right in
    omega (
      arith,
      right_short _ _ (right_told (goal.at.put_set-requires c).After-right_side-right),
      length-drop (c.args.at + 2) xs,
      length-take-le s xs (omega arith),
      length-take-le (m - s) (drop s xs) (omega (arith, length-drop s xs)),
    )

pub returns-then-is_assignment : goal.returns-then-is_assignment
returns-then-is_assignment c =
    rw (assignment_set c.text-bytes.result.now c.args.statement.now (sym c.text-bytes.ensures) c.args.at _ _ (omega (arith, same_length (goal.at.returns-then-is_assignment c).After-right_side-right)) c.run_start-name_end.ensures.value c.run_start-name_start.ensures.value _
    (right_told (goal.at.returns-then-is_assignment c).After-right_side-right) c.if-is_assignment.ensures)
    c.put_set.ensures

pub returns-else-is_assignment : goal.returns-else-is_assignment
returns-else-is_assignment c =
    rw (assignment_same c.text-bytes.result.now c.args.statement.now (sym c.text-bytes.ensures) c.args.at _ _ (omega (arith, same_length (goal.at.returns-else-is_assignment c).After-right_side-right)) c.run_start-name_end.ensures.value c.run_start-name_start.ensures.value _
    (right_told (goal.at.returns-else-is_assignment c).After-right_side-right) c.if-is_assignment.ensures)
    c.put_all.ensures
