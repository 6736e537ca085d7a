-- `stored_list::next_place` meets its contract, by what `get` and `position` give. Assumes nothing.
use mathlib.Core.Path.{refl, ap, ◌∙◌}
use Rattle.std.proofs.Common.{rules}
use borrow.Author.Tests.{tests}
use Rattle.std.proofs.Common.{◌+◌}
use lib.Dec.{eqb}
use Rattle.std.proofs.lemmas.Iterator.{YieldsList-from_slice}
use Rattle.std.proofs.lemmas.Iterator.Search.{position_from_yields_List}
use Rattle.stored_list.proofs.FieldLaws.{rest_get, place_get}
use Rattle.stored_list.proofs.fields.next_place.Goals as goal

pub returns : goal.returns
returns c =
    let s = c.args in
    let rest = c.unwrap_or-rest.result.now in
    let e = ap (λ x. x.now) c.unwrap_or-rest.ensures ∙ rest_get s.b s.list.now s.from c.get.result _ c.get.ensures.lookup refl in
    let p = position_from_yields_List (λ x. eqb x s.b) _ _ c.position.result c.position.ensures.ran
    (YieldsList-from_slice rest c.iter.ensures.rest) (λ x b q k. search (rules, tests)) in
    ap (λ n. s.from + n) c.unwrap_or.ensures ∙ place_get s.b s.list.now s.from rest c.position.result e p
