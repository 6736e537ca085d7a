-- `elsif::transform_elsif` meets its contract. A turn writes the text before the keyword found, and ELSEIF; the result is at most
-- twice as long as the text it stands for. Assumes nothing.
use Rattle.std.proofs.Common.{◌-◌, drop, arith}
use lib.ListN.{length-take}
use Rattle.spec.specs.Map.{bytes}
use Rattle.spec.specs.Lists.{is_empty}
use Rattle.spec.specs.Elsif.{elsif}
use Rattle.elsif.proofs.ElsifLaws.{within_at, elsif_turn}
use Rattle.elsif.proofs.transform_elsif.Goals as goal

pub loop-at-preserved : goal.loop-at-preserved
unfolding is_empty
loop-at-preserved c =
    let t = c.args.text.now in
    let l = c.loop-at in
    let at = c.in-Some.at in
    let p = rw c.text-bytes.ensures at c.put_all.ensures in
    let q = c.put_all-in-Some.ensures in
    let w = within_at t l.from at c.in-Some.ensures in (
      w.1,
      elsif_turn t (bytes (elsif t)) l.from at c.in-Some.ensures l.invariant.1 p q,
      omega (arith, w, p.count, q.count, l.invariant.2, length-take (at - l.from) (drop l.from (bytes t))),
    )
