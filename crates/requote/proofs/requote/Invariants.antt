use Prim.Native.Nat.{◌-◌, ◌≤◌}
use lib.ListN.{length, drop}
use Rattle.spec.specs.Requote.{requoted}
use Rattle.output.proofs.WriterLaws.{Left}
use Rattle.requote.proofs.requote.Given as goal

abbrev pub invariant-loop-s : goal.invariant-loop-s
invariant-loop-s l = (l.cursor.at ≤ length l.text) × Left l.initial.written (requoted l.text) l.written (requoted (drop l.cursor.at l.text))

abbrev pub decreases-loop-s : goal.decreases-loop-s
decreases-loop-s l = length l.text - l.cursor.at
