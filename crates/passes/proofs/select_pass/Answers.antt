-- `passes::select_pass` meets its contract: what the pass answers and leaves is what pass 4 gives of the text with its
-- map of quotes. Assumes nothing.
use Rattle.spec.specs.Map.{bytes}
use Rattle.spec.specs.SelectInto.{quote_walk, select_into}
use Rattle.spec.specs.Body.{select_pass}
use Rattle.passes.proofs.StageLaws.{counted_gives}
use Rattle.passes.proofs.select_pass.Goals as goal

pub returns : goal.returns
unfolding select_pass
returns c =
    let e = rw c.quotes_mapped.ensures at c.transform_select_into.ensures in
    counted_gives (bytes (select_into (quote_walk 0 c.args.text.now))) _ _ _ e.value e.out_after c.told-out
