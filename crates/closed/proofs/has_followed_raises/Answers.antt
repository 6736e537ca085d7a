-- `closed::has_followed_raises` meets its contract: the chain gives the library's `list_all` over the offsets. Assumes nothing.
use Rattle.std.proofs.Common.{refl, ◌∙◌, rules, not, length, arith}
use borrow.Author.Tests.{tests}
use Rattle.std.proofs.lemmas.Iterator.{YieldsList-from_range}
use Rattle.std.proofs.lemmas.Iterator.Search.{all_from_yields_List}
use Rattle.closed.specs.Answer.{is_unfollowed_raise}
use Rattle.closed.proofs.ClosedLaws.{followed_all}
use Rattle.closed.proofs.has_followed_raises.Goals as goal

pub returns : goal.returns
returns c =
    let t = c.args.text.now in
    all_from_yields_List (λ k. not (is_unfollowed_raise t k)) _ _ c.all.result c.all.ensures.ran (YieldsList-from_range 0 _ (length t) refl (omega (arith, c.len.ensures))) (λ x b q k. search (rules, tests))
    ∙ followed_all t
