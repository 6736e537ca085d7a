use Prim.Native.Nat.{◌-◌, ◌≤◌}
use lib.ListN.{length}
use Rattle.output.proofs.WriterLaws.{Left}
use Rattle.spec.specs.Map.{bytes}
use Rattle.spec.specs.SelectInto.{select_into}
use Rattle.select_into.proofs.StatementLaws.{selects_at}
use Rattle.select_into.proofs.put_statements.Given as goal

abbrev pub invariant-loop-at : goal.invariant-loop-at
invariant-loop-at l =
    record {
      in_bounds : l.from ≤ length l.text;
      within : l.out.len ≤ 65536;
      left : Left l.initial.out (bytes (select_into l.text)) l.out (selects_at l.text l.from);
    }

abbrev pub decreases-loop-at : goal.decreases-loop-at
decreases-loop-at l = length l.text - l.from
