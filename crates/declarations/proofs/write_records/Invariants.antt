use Rattle.declarations.proofs.WriteLaws.{Written}
use Rattle.declarations.proofs.write_records.Given as goal

abbrev pub invariant-loop-k : goal.invariant-loop-k
invariant-loop-k l = Written l.text l.initial.records l.count l.initial.out l.k l.out l.records
