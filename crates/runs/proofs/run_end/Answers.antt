-- `runs::run_end` meets its contract. The chain's count is the length of the longest front of the rest whose bytes all
-- pass; where there is no rest, no byte passes. Assumes nothing.
use Rattle.std.proofs.Common.{◌≡◌, sym, ap, ◌∙◌, rules, ℕ, length, drop, ◌+◌, List}
use borrow.Author.Tests.{tests}
use Rattle.std.proofs.lemmas.Iterator.{YieldsList-from_slice}
use Rattle.std.proofs.lemmas.Iterator.Consumers.{YieldsList-at, count_from_yields_List}
use Rattle.std.proofs.lemmas.Iterator.Search.{YieldsList-from_take_while}
use Rattle.std.proofs.lemmas.List.{take_rest}
use Rattle.spec.specs.Lists.{take_while}
use Rattle.runs.specs.Sets.{in_set}
use Rattle.runs.proofs.ListsOfLibrary.{take_while_of_library}
use Rattle.runs.proofs.run_end.Goals as goal

pub returns-in-Some-clause-value : goal.returns-in-Some-clause-value
returns-in-Some-clause-value c =
    let a = c.args in
    let f = in_set a.set in
    let rest = c.in-Some.rest.now in
    let source = YieldsList-at c.take_while.ensures.source (YieldsList-from_slice rest cc) in
    let counted : c.count.result ≡ length (take_while f rest) =
    count_from_yields_List c.take_while.result c.count.result c.count.ensures.ran
    (YieldsList-from_take_while _ f source c.take_while.ensures.closure c.take_while.ensures.done (λ x b q k. search (rules, tests)))
    ∙ sym (ap length (take_while_of_library f rest)) in
    let behind : rest ≡ drop a.from a.text.now = c.in-Some.ensures.lookup.0.2 ∙ take_rest a.text.now a.from in
    ap (λ (n : ℕ). a.from + n) (counted ∙ ap (λ (xs : List ℕ). length (take_while f xs)) behind)
