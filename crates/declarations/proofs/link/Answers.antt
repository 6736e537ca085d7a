-- `declarations::link` meets its contract. The loop's invariant says that the records numbered above k are linked: at the end
-- all of them. Assumes nothing.
use native.Mathlib.Omega.{arith}
use mathlib.Core.Path.{◌≡◌}
use Rattle.declarations.proofs.LinkLaws.{linked_head, linked_all}
use Rattle.declarations.proofs.link.Goals as goal

pub returns : goal.returns
returns c =
    let a = c.args in
    let l = c.loop-k in
    let z : l.k ≡ 0 = omega arith in
    linked_all a.text.now a.records.now a.count l.records c.requires.different (linked_head a.text.now a.records.now a.count 0 0 l.records (rw (z, c.set_next.ensures) at l.invariant))
