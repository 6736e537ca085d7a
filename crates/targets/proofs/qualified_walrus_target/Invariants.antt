use mathlib.Core.Path.{◌≡◌}
use Prim.Native.Nat.{◌-◌}
use lib.ListN.{length}
use mathlib.Core.List.{[]}
use Rattle.spec.specs.Assignments.{assign_target}
use Rattle.targets.proofs.WalrusLaws.{assign_from}
use Rattle.targets.proofs.qualified_walrus_target.Given as goal

abbrev pub invariant-loop-at : goal.invariant-loop-at
invariant-loop-at l = assign_target [] l.statement ≡ assign_from l.statement l.from

abbrev pub decreases-loop-at : goal.decreases-loop-at
decreases-loop-at l = length l.statement - l.from
