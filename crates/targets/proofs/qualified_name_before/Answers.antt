-- `targets::qualified_name_before` meets its contract where name, dot and qualifier are there. Assumes nothing.
use native.Mathlib.Omega.{arith}
use Rattle.targets.proofs.TargetNameLaws.{before_found}
use Rattle.targets.proofs.qualified_name_before.Goals as goal

pub returns : goal.returns
returns c =
    before_found _ _ _ _ _ _ _ c.in_ok-name.ensures (omega arith) (omega arith) c.in_ok-qualifier.ensures
    (omega arith) c.run_start-name_end.ensures.value c.run_start-name_start.ensures.value c.run_start.ensures.value
