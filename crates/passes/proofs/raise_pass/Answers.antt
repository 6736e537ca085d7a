-- `passes::raise_pass` meets its contract: what the pass answers and leaves, within the buffer size, is what pass 5 gives of the
-- text with its map. Assumes nothing.
use Rattle.spec.specs.Map.{marked_text}
use Rattle.spec.specs.Raise.{action_of, raise}
use Rattle.spec.specs.Body.{raise_pass}
use Rattle.passes.proofs.StageLaws.{limited_gives}
use Rattle.passes.proofs.raise_pass.Goals as goal

pub returns : goal.returns
unfolding raise_pass
returns c =
    let e = rw c.mapped.ensures at c.transform_raise_statements.ensures in
    limited_gives (raise (action_of c.args.actions) (marked_text c.args.text.now)) _ _ _ _ e.value c.limit.ensures e.leaves c.told-out
