-- `scanner::MappedText::find_str` meets its contract. `find` gives the least offset where the needle stands with a live first
-- byte; an empty needle is found nowhere. Assumes nothing.
use Rattle.std.proofs.Common.{◌≡◌, refl, sym, ◌∙◌, arith, rules, true, false}
use borrow.Author.Tests.{tests}
use Rattle.std.proofs.lemmas.Iterator.{first_from_Range}
use Rattle.spec.specs.Search.{needle_here}
use Rattle.spec.proofs.FirstLaws.{nonempty_word}
use Rattle.spec.proofs.WalkLaws.{passes_at}
use Rattle.scanner.proofs.OffsetLaws.{found_first}
use Rattle.scanner.proofs.MappedText.find_str.Goals as goal

pub returns : goal.returns
returns c =
    let a = c.args in
    let g = passes_at (needle_here a.needle.now) a.self.now in
    found_first (needle_here a.needle.now) a.self.now g (λ k h. refl) a.from c.find.result
    (rw c.len.ensures at (first_from_Range _ _ _ _ (λ k. g k ≡ true) (λ k. g k ≡ false) c.find.ensures.ran
    (λ x q k. search (rules, tests))
    (λ x q k. search (rules, tests))))
    ∙ sym (nonempty_word a.needle.now _ (grind (arith, tests)))
