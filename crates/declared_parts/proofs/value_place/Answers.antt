-- `declared_parts::value_place` meets its contract: the definition's place once it is known where the default begins.
-- Assumes nothing.
use mathlib.Core.Path.{ap}
use Prim.Native.Nat.{◌+◌}
use Rattle.std.specs.Prelude.{Some}
use Rattle.declared_parts.proofs.BetweenLaws.{place_by}
use Rattle.declared_parts.proofs.value_place.Goals as goal

pub returns-clause-value : goal.returns-clause-value
returns-clause-value c =
    let a = c.args in
    let p = place_by a.text.now (a.from + c.in_ok-r.r) a.to _ _ c.run_end_between-at.ensures.value c.trim_end-end.ensures.value in
    rw c.in_ok-r.was (ap Some p)
