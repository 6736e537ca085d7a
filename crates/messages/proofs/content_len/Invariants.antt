use mathlib.Core.Path.{◌≡◌}
use Prim.Native.Nat.{◌+◌, ◌-◌, ◌≤◌}
use lib.ListN.{length, drop}
use Rattle.messages.specs.Readings.{content_in}
use Rattle.messages.proofs.content_len.Given as goal

abbrev pub invariant-loop-s : goal.invariant-loop-s
invariant-loop-s l = (l.cursor.at ≤ length l.rest) × (length (content_in l.rest) ≡ l.cursor.at + length (content_in (drop l.cursor.at l.rest)))

abbrev pub decreases-loop-s : goal.decreases-loop-s
decreases-loop-s l = length l.rest - l.cursor.at
