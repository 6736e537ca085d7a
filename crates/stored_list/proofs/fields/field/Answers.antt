-- `stored_list::field` meets its contract, by what `split` and `nth` give. Assumes nothing.
use mathlib.Core.Path.{refl, ap, ◌∙◌}
use Rattle.std.proofs.Common.{rules, tests}
use Rattle.std.proofs.lemmas.Iterator.Consumers.{nth_from_yields_List}
use Rattle.std.proofs.lemmas.Iterator.Splits.{YieldsList-from_slice_split}
use Rattle.stored_list.specs.Fields.{fields_of}
use Rattle.stored_list.proofs.FieldLaws.{nth_get}
use Rattle.stored_list.proofs.fields.field.Goals as goal

pub returns : goal.returns
returns c =
    let s = c.args in
    ap (λ x. x.now) c.unwrap_or.ensures ∙ nth_get (fields_of s.line.now) s.k c.nth.result _ (nth_from_yields_List c.nth.result c.nth.new.self s.k c.nth.ensures.ran
    (YieldsList-from_slice_split _ _ s.line.now c.split.ensures.rest c.split.ensures.done c.split.ensures.closure
    (λ x r q k. search (rules, tests)))) refl
