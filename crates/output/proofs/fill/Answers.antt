-- `output::fill` meets its contract. What `fill_with` is given in each call is the item, so the part holds it alone.
-- Assumes nothing.
use Rattle.std.proofs.Common.{◌≡◌, refl, sym, ◌∙◌, ◌-◌, arith, length, drop, replicate, rules}
use borrow.Author.Tests.{tests}
use lib.ListN.{length-drop}
use lib.Seq.{length-take-le}
use Rattle.std.proofs.lemmas.List.{length-replicate, take-replicate}
use Rattle.output.proofs.StoreLaws.{store_part, all_same}
use Rattle.output.proofs.fill.Goals as goal

pub returns-then-from-end : goal.returns-then-from-end
returns-then-from-end g c =
    let a = c.args in
    let d = a.out.now in
    let k = c.min-end.result - a.from in
    let all = replicate (a.to - a.from) a.x in
    let r = c.fill_with.ensures.ran in
    let len : length c.fill_with.new.self ≡ k =
    c.fill_with.ensures.len ∙ length-take-le k (drop a.from d) (omega (arith, length-drop a.from d, c.if-from-end.true, c.min-end.ensures)) in
    let same : c.fill_with.new.self ≡ replicate k a.x = all_same _ a.x _ (λ y next q. search (rules, tests)) c.fill_with.new.self r.0 r.1 ∙ rw len in
    sym (store_part d all _ a.from k k (omega (arith, c.if-from-end.true, c.min-end.ensures)) (omega (arith, length-replicate (a.to - a.from) a.x, c.if-from-end.true, c.min-end.ensures)) refl
    (same ∙ sym (take-replicate k (a.to - a.from) a.x (omega (arith, c.min-end.ensures)))))
