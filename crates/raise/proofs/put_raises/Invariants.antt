use mathlib.Core.Path.{◌≡◌}
use Prim.Native.Nat.{◌+◌, ◌-◌, ◌*◌, ◌≤◌}
use lib.ListN.{length}
use Rattle.spec.specs.Raise.{action_of, raise}
use Rattle.output.proofs.OutcomeLaws.{Turn}
use Rattle.raise.proofs.RaiseLaws.{left_at}
use Rattle.raise.proofs.put_raises.Given as goal

abbrev pub invariant-loop-at : goal.invariant-loop-at
invariant-loop-at l =
    (l.from ≤ length l.text)
    × (l.written.len ≤ l.initial.written.len + 5 * l.from)
    × (length l.written.out.now ≡ length l.initial.written.out.now)
    × Turn l.initial.written (raise (action_of l.actions) l.text) l.written (left_at (action_of l.actions) l.text l.from)

abbrev pub decreases-loop-at : goal.decreases-loop-at
decreases-loop-at l = length l.text - l.from
