-- `stored_list::is_filled` meets its contract, by what `get` and `all` give. Assumes nothing.
use mathlib.Core.Path.{refl, ap, ◌∙◌}
use Rattle.std.specs.List.{list_all}
use Rattle.std.proofs.Common.{rules, tests}
use Rattle.std.proofs.lemmas.Iterator.{YieldsList-from_slice}
use Rattle.std.proofs.lemmas.Iterator.Search.{all_from_yields_List}
use Rattle.stored_list.specs.Marks.{holds_only}
use Rattle.stored_list.proofs.FieldLaws.{reached}
use Rattle.stored_list.proofs.marks.is_filled.Goals as goal

pub returns : goal.returns
unfolding holds_only
returns g c =
    let s = c.args in
    let xs = s.buffer.now in
    let cut = rw c.min-end.ensures at c.get.ensures.lookup in
    let part = ap (λ x. x.now) c.unwrap_or-part.ensures ∙ reached xs s.from s.end c.get.result _ cut refl in
    all_from_yields_List (λ y. g.T.PartialEq.eq y s.x) _ _ c.all.result c.all.ensures.ran (YieldsList-from_slice _ c.iter.ensures.rest) (λ x b q k. search (rules, tests))
    ∙ ap (list_all (λ y. g.T.PartialEq.eq y s.x)) part
