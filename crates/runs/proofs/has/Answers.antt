-- `runs::has` meets its contract: the chain gives the library's `list_any`. Assumes nothing.
use Rattle.std.proofs.Common.{sym, ◌∙◌, rules}
use borrow.Author.Tests.{tests}
use Rattle.std.proofs.lemmas.Iterator.{YieldsList-from_slice}
use Rattle.std.proofs.lemmas.Iterator.Search.{any_from_yields_List}
use Rattle.runs.specs.Sets.{in_set}
use Rattle.runs.proofs.ListsOfLibrary.{any_of_library}
use Rattle.runs.proofs.has.Goals as goal

pub returns : goal.returns
returns c =
    let xs = c.args.text.now in
    let f = in_set c.args.set in
    any_from_yields_List f _ _ c.any.result c.any.ensures.ran (YieldsList-from_slice xs cc) (λ x b q k. search (rules, tests))
    ∙ sym (any_of_library f xs)
