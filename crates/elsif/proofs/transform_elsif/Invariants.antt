use Prim.Native.Nat.{◌-◌, ◌*◌, ◌≤◌}
use lib.ListN.{length}
use Rattle.spec.specs.Map.{bytes}
use Rattle.spec.specs.Elsif.{elsif}
use Rattle.output.proofs.WriterLaws.{Left}
use Rattle.elsif.proofs.ElsifLaws.{rest_at}
use Rattle.elsif.proofs.transform_elsif.Given as goal

abbrev pub invariant-loop-at : goal.invariant-loop-at
invariant-loop-at l =
    (l.from ≤ length l.text)
    × Left l.initial.written (bytes (elsif l.text)) l.written (rest_at l.text l.from)
    × (l.written.len ≤ 2 * l.from)

abbrev pub decreases-loop-at : goal.decreases-loop-at
decreases-loop-at l = length l.text - l.from
