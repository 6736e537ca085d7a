-- `declared_records::find_name` meets its contract. `find` gives the first record of the name, and `place_found` says how
-- many stand ahead of it. Assumes nothing.
use Rattle.std.proofs.Common.{◌≡◌, rules, true, false}
use borrow.Author.Tests.{tests}
use Rattle.std.proofs.lemmas.Iterator.{first_from_Range}
use Rattle.declared_records.proofs.GatherLaws.{has_name, place_found}
use Rattle.declared_records.proofs.find_name.Goals as goal

pub returns : goal.returns
returns c =
    let a = c.args in
    let g = has_name a.name.now a.text.now a.records.now a.count in
    let p = place_found a.name.now a.text.now a.records.now a.count c.find-place.result
    (first_from_Range _ _ _ _ (λ k. g k ≡ true) (λ k. g k ≡ false) c.find-place.ensures.ran
    (λ x q k. search (rules, tests))
    (λ x q k. search (rules, tests))) in
    rw c.unwrap_or.ensures record { value = p.0; upper_bound = p.1 }
