use mathlib.Core.Path.{◌≡◌}
use Prim.Native.Nat.{◌-◌, ◌*◌, ◌≤◌}
use lib.ListN.{length}
use Rattle.spec.specs.Assignments.{assignments}
use Rattle.output.proofs.OutcomeLaws.{Turn}
use Rattle.assignments.proofs.RestLaws.{left_from}
use Rattle.assignments.proofs.transform_assignments.Given as goal

abbrev pub invariant-loop-end : goal.invariant-loop-end
invariant-loop-end l =
    (l.from ≤ length l.text)
    × (length l.written.out.now ≡ length l.initial.written.out.now)
    × (l.written.len ≤ 8 * l.from)
    × Turn l.initial.written (assignments l.text) l.written (left_from l.text l.from)

abbrev pub decreases-loop-end : goal.decreases-loop-end
decreases-loop-end l = length l.text - l.from
