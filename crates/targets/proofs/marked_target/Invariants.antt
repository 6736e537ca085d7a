use mathlib.Core.Path.{◌≡◌}
use Prim.Native.Nat.{◌≤◌}
use Rattle.spec.specs.Assignments.{marked_target}
use Rattle.targets.proofs.MarkingLaws.{walk_from}
use Rattle.targets.proofs.marked_target.Given as goal

abbrev pub invariant-loop-i : goal.invariant-loop-i
invariant-loop-i l = (l.cases ≤ l.i) × (marked_target 0 0 l.statement ≡ walk_from l.statement l.cases l.i)
