-- `checks::first_high` meets its contract: `position` gives the library's place of the first byte that passes. Assumes nothing.
use Rattle.std.proofs.Common.{◌≡◌, sym, ap, ◌∙◌, ℕ, not, length, ltb, cond, Some, None, rules}
use borrow.Author.Tests.{tests}
use Rattle.std.specs.List.{prefix_len}
use Rattle.std.proofs.lemmas.Iterator.{YieldsList-from_slice}
use Rattle.std.proofs.lemmas.Iterator.Search.{position_from_yields_List}
use Rattle.std.proofs.lemmas.List.Folds.{length-prefix_len}
use Rattle.runs.proofs.ListsOfLibrary.{take_while_of_library}
use Rattle.spec.specs.Answers.{first_high}
use Rattle.spec.specs.Bytes.{is_high}
use Rattle.spec.specs.Lists.{take_while}
use Rattle.checks.proofs.first_high.Goals as goal

pub returns : goal.returns
unfolding first_high is_high
returns c =
    let xs = c.args.text.now in
    let low = λ (b : ℕ). not (is_high b) in
    let n : length (take_while low xs) ≡ prefix_len low xs = ap length (take_while_of_library low xs) ∙ length-prefix_len low xs in
    let place = λ (k : ℕ). cond (ltb k (length xs)) (Some k) None in
    position_from_yields_List is_high _ _ c.position.result c.position.ensures.ran (YieldsList-from_slice xs c.iter.ensures.rest) (λ x b q k. search (rules, tests))
    ∙ ap place (sym n)
