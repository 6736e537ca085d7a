-- `runs::run_start` meets its contract. The chain, read from `end` backwards, counts the bytes at the end that pass; what
-- is left without them has the other bytes. Assumes nothing.
use Rattle.std.proofs.Common.{◌≡◌, sym, ap, ◌∙◌, arith, rules, length, take}
use mathlib.Core.List.{reverse}
use borrow.Author.Tests.{tests}
use Rattle.std.proofs.lemmas.Iterator.Adapters.{YieldsList-from_rev_slice}
use Rattle.std.proofs.lemmas.Iterator.Consumers.{YieldsList-at, count_from_yields_List}
use Rattle.std.proofs.lemmas.Iterator.Search.{YieldsList-from_take_while}
use lib.Seq.{length-take-le}
use Rattle.spec.proofs.EndLaws.{end_sum}
use Rattle.spec.specs.Lists.{take_while}
use Rattle.runs.specs.Sets.{in_set}
use Rattle.runs.proofs.ListsOfLibrary.{take_while_of_library}
use Rattle.runs.proofs.run_start.Goals as goal

pub returns-clause-value : goal.returns-clause-value
returns-clause-value c =
    let f = in_set c.args.set in
    let front = take c.args.end c.args.text.now in
    let source = YieldsList-at c.take_while.ensures.source (YieldsList-from_rev_slice front cc) in
    let counted : c.count.result ≡ length (take_while f (reverse front)) =
    count_from_yields_List c.take_while.result c.count.result c.count.ensures.ran
    (YieldsList-from_take_while _ f source c.take_while.ensures.closure c.take_while.ensures.done (λ x b q k. search (rules, tests)))
    ∙ sym (ap length (take_while_of_library f (reverse front))) in
    omega (arith, counted, end_sum f front, length-take-le c.args.end c.args.text.now c.requires)
