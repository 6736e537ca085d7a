-- `declarations::insert` meets its contract. `inserted` says that the two stores put record k behind the place that
-- `find_place` gives, between it and what came next. Assumes nothing.
use native.Mathlib.Omega.{arith}
use Rattle.declarations.proofs.LinkLaws.{inserted}
use Rattle.declarations.proofs.insert.Goals as goal

pub returns : goal.returns
returns c =
    let a = c.args in
    let r = c.requires in
    inserted a.text.now a.records.now a.count a.k c.find_place-p.result c.number-next.result _ _ r.different r.le_k r.k_le_count r.count_bound (omega arith) r.chained c.find_place-p.ensures c.number-next.ensures.value c.set_next.ensures c.set_next-2.ensures
