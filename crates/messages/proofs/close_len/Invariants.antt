use mathlib.Core.Path.{◌≡◌}
use Prim.Native.Nat.{◌-◌, ◌≤◌}
use lib.ListN.{length}
use Rattle.spec.specs.Map.{lives}
use Rattle.spec.specs.Raise.{close_len}
use Rattle.messages.proofs.MessageLaws.{close_from}
use Rattle.messages.proofs.close_len.Given as goal

abbrev pub invariant-loop-i : goal.invariant-loop-i
invariant-loop-i l = (l.i ≤ length l.rest) × (close_len (lives l.rest) ≡ close_from l.rest l.i)

abbrev pub decreases-loop-i : goal.decreases-loop-i
decreases-loop-i l = length l.rest - l.i
