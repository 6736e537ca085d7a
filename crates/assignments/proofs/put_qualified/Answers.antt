-- `assignments::put_qualified` meets its contract: `target_written` joins the three texts at the front of the output. Assumes
-- nothing.
use native.Mathlib.Omega.{arith}
use Rattle.assignments.proofs.RestLaws.{target_written}
use Rattle.assignments.proofs.put_qualified.Goals as goal

pub returns : goal.returns
returns c =
    target_written c.args.statement.now c.args.target c.args.written.now _ _ _ c.put_all-2.new.self (omega arith) (omega arith) (omega arith) c.restart.ensures (rw c.of.ensures at c.put_all.ensures) c.put.ensures (rw c.of-2.ensures at c.put_all-2.ensures)
