use Rattle.declarations.proofs.LinkLaws.{LinkedAbove}
use Rattle.declarations.proofs.link.Given as goal

abbrev pub invariant-loop-k : goal.invariant-loop-k
invariant-loop-k l = LinkedAbove l.text l.initial.records l.count l.k l.records
