-- `spans::seek` meets its contract: `position` gives the least offset where the pattern stands. Assumes nothing.
use Rattle.std.proofs.Common.{rules, ◌≡◌, ◌∙◌, ap, length, true, false, arith}
use borrow.Author.Tests.{tests}
use Rattle.std.specs.Prelude.{nat_eq}
use Rattle.std.specs.Cmp.Lexicographic.{pointwise}
use Rattle.spans.specs.Places.{seek_place}
use Rattle.spans.proofs.PlaceLaws.{windows_seek, same_prefix}
use Rattle.spans.proofs.seek.Goals as goal

pub returns : goal.returns
returns c =
    let pat = c.args.pat.now in
    let u = c.position.ensures.runs.0 in
    let size : u.from.size ≡ length pat = ap (λ s. s.size) c.position.ensures.runs.1 ∙ c.windows.ensures.size in
    let rest : u.from.rest.now ≡ c.args.text.now = ap (λ s. s.rest.now) c.position.ensures.runs.1 ∙ c.windows.ensures.rest in
    let w = c.windows.ensures.runs u u.seen (omega (arith, size, c.requires)) in
    windows_seek pat u.from.rest.now u.at u.len u.from.size u.whole _ _ c.requires size w.1 w.2 (λ k d l. w.3 k d l) _ c.position.result c.position.ensures.runs.2
    (λ x h q. let e : pointwise nat_eq x.now pat ≡ true = search (rules, tests) in same_prefix pat x.now h ∙ e)
    (λ x h q. let e : pointwise nat_eq x.now pat ≡ false = search (rules, tests) in same_prefix pat x.now h ∙ e)
    (λ x r f q. search (rules, tests))
    ∙ ap (seek_place pat) rest
