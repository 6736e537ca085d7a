-- `targets::qualified_name_at_with_equals` meets its contract where qualifier, dot and name are there. Assumes nothing.
use native.Mathlib.Omega.{arith}
use Rattle.targets.proofs.TargetNameLaws.{equals_found}
use Rattle.targets.proofs.qualified_name_at_with_equals.Goals as goal

pub returns : goal.returns
returns c =
    equals_found _ _ _ _ _ _ _ c.in_ok-qualifier.ensures (omega arith) c.in_ok-name.ensures c.if-not-lone_equals.ensures
    c.run_end-start.ensures.value c.run_end-dot.ensures.value c.run_end-name_end.ensures.value c.run_end.ensures.value
