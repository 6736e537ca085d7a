-- `searches::searched` meets its contract. Where the checks have passed, the map marks the text as `marked_text` does (`marks`),
-- and the search is called on that. Assumes nothing.
use Rattle.std.proofs.Common.{Ok}
use mathlib.Core.Path.{sym, ap, ◌∙◌}
use Rattle.searches.proofs.CheckedLaws.{passed_marks}
use Rattle.searches.proofs.searched.Goals as goal

pub returns-clause-value : goal.returns-clause-value
returns-clause-value g c = λ a h.
    let passed = sym c.in_ok-map_checked.ensures.value in
    let marks = c.new.ensures ∙ passed_marks c.args.text.now c.args.map.now c.args.needle.now passed c.map_checked.new.map c.in_ok-map_checked.ensures.map_after in
    let same = h c.search.result (_, c.search.ensures, marks) in
    rw passed (ap Ok same)
