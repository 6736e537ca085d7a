use Prim.Native.Nat.{◌+◌, ◌*◌, ◌≤◌}
use lib.ListN.{drop}
use Rattle.spec.specs.Requote.{doubled}
use Rattle.output.proofs.WriterLaws.{Left}
use Rattle.output.proofs.Writer.put_doubled.Given as goal

abbrev pub invariant-loop-b : goal.invariant-loop-b
invariant-loop-b l =
    (l.self.len ≤ l.initial.self.len + 2 * l.b-index)
    × Left l.initial.self (doubled l.src) l.self (doubled (drop l.b-index l.src))
