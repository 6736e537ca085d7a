use Prim.Native.Nat.{◌+◌, ◌≤◌}
use lib.ListN.{length}
use Rattle.output.proofs.WriterLaws.{Left}
use Rattle.quotes.proofs.ItemLaws.{parts_length}
use Rattle.spec.specs.SelectInto.{listed}
use Rattle.set_lines.specs.Lines.{lines_text}
use Rattle.set_lines.proofs.SetLineLaws.{parts_from}
use Rattle.set_lines.proofs.put_set_lines.Given as goal

abbrev pub invariant-loop-next : goal.invariant-loop-next
invariant-loop-next l =
    record {
      left : Left l.initial.out (lines_text l.shared (listed l.lists.cols) (listed l.lists.vars)) l.out (lines_text l.shared (parts_from l.next l.columns) l.variables);
      within : l.out.len ≤ 65536;
      columns : parts_length (parts_from l.next l.columns) ≤ length l.lists.cols + 1;
      variables : parts_length l.variables ≤ length l.lists.vars + 1;
    }

abbrev pub decreases-loop-next : goal.decreases-loop-next
decreases-loop-next l = parts_length (parts_from l.next l.columns)
