-- `declarations::find_place` meets its contract. The measure counts the records that come behind p: by `walk_fewer` the next one in the
-- chain has fewer. Assumes nothing.
use Rattle.declarations.specs.Chain.{name_in}
use Rattle.declarations.proofs.InsertLaws.{walk_fewer}
use Rattle.declarations.proofs.find_place.Goals as goal

pub loop-name-smaller : goal.loop-name-smaller
loop-name-smaller c =
    let a = c.args in
    walk_fewer (name_in a.text.now a.records.now) a.records.now a.count a.k c.loop-name.p c.number-next.result c.requires.chained c.loop-name.invariant.0 c.loop-name.invariant.1 c.number-next.ensures.value c.if-next-eq0.false
