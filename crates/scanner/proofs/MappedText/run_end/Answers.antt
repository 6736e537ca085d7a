-- `scanner::MappedText::run_end` meets its contract. The chain counts the offsets from `from` on whose bytes pass the test, up to the
-- first that does not; `run_of_range` says that the run is that long. Assumes nothing.
use Rattle.std.proofs.Common.{◌≡◌, refl, ap, ◌∙◌, rules, ℕ, length, ◌+◌, ◌-◌}
use borrow.Author.Tests.{tests}
use Rattle.std.specs.List.{range_with_len, take_while}
use Rattle.std.proofs.lemmas.Iterator.{YieldsList-from_range}
use Rattle.std.proofs.lemmas.Iterator.Consumers.{count_from_yields_List}
use Rattle.std.proofs.lemmas.Iterator.Search.{YieldsList-from_take_while}
use Rattle.scanner.proofs.WordLaws.{passes, run_of_range}
use Rattle.scanner.proofs.MappedText.run_end.Goals as goal

pub returns : goal.returns
returns g c = λ f h.
    let a = c.args in
    let p = passes f a.self.now in
    let n = length a.self.now - a.from in
    let counted : c.count.result ≡ length (take_while p (range_with_len a.from n)) =
    count_from_yields_List c.take_while.result c.count.result c.count.ensures.ran
    (YieldsList-from_take_while _ p (YieldsList-from_range a.from (length a.self.now) n (rw c.len.ensures at c.take_while.ensures.source) refl) c.take_while.ensures.closure c.take_while.ensures.done (λ x b q k. search (rules, tests, h))) in
    ap (λ (k : ℕ). a.from + k) counted ∙ run_of_range f a.self.now n a.from refl
