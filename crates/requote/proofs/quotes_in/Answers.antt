-- `requote::quotes_in` meets its contract: the chain counts the items that the library's `filter` keeps. Assumes nothing.
use Rattle.std.proofs.Common.{sym, ◌∙◌, rules, ℕ, eqb}
use borrow.Author.Tests.{tests}
use Rattle.std.proofs.lemmas.Iterator.{YieldsList-from_slice}
use Rattle.std.proofs.lemmas.Iterator.Consumers.{YieldsList-at, YieldsList-from_filter, count_from_yields_List}
use Rattle.requote.proofs.RequoteLaws.{quotes_of_library}
use Rattle.requote.proofs.quotes_in.Goals as goal

pub returns : goal.returns
returns c =
    let xs = c.args.text.now in
    let source = YieldsList-at c.filter.ensures.source (YieldsList-from_slice xs cc) in
    count_from_yields_List c.filter.result c.count.result c.count.ensures.ran
    (YieldsList-from_filter _ (λ (b : ℕ). eqb b 39) source c.filter.ensures.closure (λ x r q k. search (rules, tests)))
    ∙ sym (quotes_of_library xs)
