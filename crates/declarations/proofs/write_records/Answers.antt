-- `declarations::write_records` meets its contract. The loop's invariant `Written` says that the records before k are
-- packed and have their numbers; `written_one` is a turn, and `written_end` the last one. Assumes nothing.
use native.Mathlib.Omega.{arith}
use Rattle.declarations.proofs.WriteLaws.{written_one, written_end}
use Rattle.declarations.proofs.write_records.Goals as goal

pub loop-k-preserved : goal.loop-k-preserved
loop-k-preserved c =
    let a = c.args in
    let l = c.loop-k in
    let w = c.write_record.ensures in
    written_one a.text.now a.records.now a.count a.out.now l.k l.out l.records (omega arith) l.invariant _ _ w.written w.records_after

pub returns-2 : goal.returns-2
returns-2 c =
    let a = c.args in
    let l = c.loop-k in
    let w = c.write_record.ensures in
    let d = written_end a.text.now a.records.now a.count a.out.now l.k l.out _ l.records _ l.invariant (omega arith) w.written w.records_after in
    record { written = d.0; records_after = d.1 }
