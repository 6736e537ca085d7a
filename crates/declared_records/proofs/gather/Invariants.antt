use Prim.Native.Nat.{◌-◌, ◌≤◌}
use lib.ListN.{length}
use Rattle.declared_records.proofs.GatherLaws.{Going}
use Rattle.declared_records.proofs.gather.Given as goal

abbrev pub invariant-loop-end : goal.invariant-loop-end
invariant-loop-end l = record { in_text : l.at ≤ length l.text; going : Going l.text l.at l.records l.count }

abbrev pub decreases-loop-end : goal.decreases-loop-end
decreases-loop-end l = length l.text - l.at
