-- `stored_list::note` meets its contract, by what the row becomes. Assumes nothing.
use borrow.Author.Rules.{rules}
use mathlib.Core.Path.{◌∙◌, ap}
use lib.ListN.{set, get_or}
use Rattle.std.proofs.lemmas.Bool.{le-ltb}
use Rattle.stored_list.specs.Tally.{with_answer}
use Rattle.stored_list.proofs.ChangedLaws.{changed_in}
use Rattle.stored_list.proofs.tally.note.Goals as goal

pub returns-then-row-tally : goal.returns-then-row-tally
returns-then-row-tally c =
    let s = c.args in
    let changed = changed_in (λ r. with_answer r s.agrees) s.tally.now s.row (get_or s.tally.now s.row record { compared = 0; differ = 0 }) c.if-row-tally.true (search rules) in
    rw (le-ltb 1000 s.row c.if-row-le-LAST_ROW.true) (ap (set s.tally.now s.row) c.with_answer.ensures ∙ changed)
