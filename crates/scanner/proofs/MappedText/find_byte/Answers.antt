-- `scanner::MappedText::find_byte` meets its contract. `find` gives the least offset whose byte is live and the one sought, which
-- `byte_passes` says of the test. Assumes nothing.
use Rattle.std.proofs.Common.{◌≡◌, rules, true, false, ℕ, get_or}
use borrow.Author.Tests.{tests}
use Rattle.std.proofs.lemmas.Iterator.{first_from_Range}
use Rattle.spec.specs.Map.{live, is_live_byte}
use Rattle.spec.specs.Search.{byte_here}
use Rattle.scanner.proofs.ByteLaws.{byte_passes}
use Rattle.scanner.proofs.OffsetLaws.{found_first}
use Rattle.scanner.proofs.MappedText.find_byte.Goals as goal

pub returns : goal.returns
returns c =
    let a = c.args in
    let g = λ (k : ℕ). is_live_byte a.b (get_or a.self.now k (live 0)) in
    found_first (byte_here a.b) a.self.now g (byte_passes a.b a.self.now) a.from c.find.result
    (rw c.len.ensures at (first_from_Range _ _ _ _ (λ k. g k ≡ true) (λ k. g k ≡ false) c.find.ensures.ran
    (λ x q k. search (rules, tests))
    (λ x q k. search (rules, tests))))
