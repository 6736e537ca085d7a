-- `targets::marking_at` meets its contract: `find` gives the first word of the table that stands there. Assumes nothing.
use Rattle.std.proofs.Common.{rules, ap, ◌∙◌, take, drop, reverse, map}
use borrow.Author.Tests.{tests}
use Rattle.std.proofs.lemmas.Iterator.{YieldsList-from_slice}
use Rattle.std.proofs.lemmas.Iterator.Consumers.{YieldsList-from_copied}
use Rattle.std.proofs.lemmas.Iterator.Search.{find_from_yields_List}
use Rattle.spec.specs.Map.{front_byte}
use Rattle.spec.specs.Search.{keyword_here}
use Rattle.spec.specs.Assignments.{marking_here, markings}
use Rattle.targets.specs.declared.Marking.{Marking}
use Rattle.targets.specs.Words.{marking_of}
use Rattle.targets.proofs.MarkingLaws.{met_first}
use Rattle.targets.proofs.marking_at.Goals as goal

pub returns : goal.returns
unfolding markings
returns c =
    let a = c.args in
    let back = reverse (take a.i a.statement.now) in
    let rest = drop a.i a.statement.now in
    let table = c.iter.result.rest.now in
    met_first back rest table c.find.result
    (find_from_yields_List (λ (m : Marking). keyword_here m.word.now back rest) _ _ c.find.result c.find.ensures.ran (YieldsList-from_copied (YieldsList-from_slice table cc)) (λ x b q k. search (rules, tests)))
    ∙ ap (λ ms. marking_here (map marking_of ms) (front_byte back) rest) c.iter.ensures.rest
