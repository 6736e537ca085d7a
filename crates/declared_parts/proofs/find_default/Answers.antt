-- `declared_parts::find_default` meets its contract, by what `find_map` gives over the offsets. Assumes nothing.
use Rattle.std.proofs.Common.{◌≡◌, rules}
use borrow.Author.Tests.{tests}
use Rattle.declared_parts.specs.DeclaredParts.{cut_in}
use Rattle.declared_parts.proofs.DefaultCutLaws.{cut_mapped, cut_tells}
use Rattle.declared_parts.proofs.find_default.Goals as goal

pub returns : goal.returns
returns c =
    let t = c.args.text.now in
    let m : c.unwrap_or.result ≡ cut_in t = rw c.unwrap_or.ensures (cut_mapped _ _ t (λ a r f k. search (rules, tests)) _ _ c.len.ensures c.len-2.ensures _ c.find_map-cut.ensures.runs) in
    record { value = m; fits = cut_tells t _ m }
