-- `quotes::Items::new` meets its contract. Assumes nothing.
use Rattle.std.proofs.lemmas.List.{take_rest}
use mathlib.Core.List.{List}
use mathlib.Core.Path.{◌≡◌, ap, ◌∙◌}
use native.Mathlib.Omega.{arith}
use lib.ListN.{length}
use Rattle.spec.specs.Map.{Marked}
use Rattle.spec.specs.SelectInto.{listed}
use Rattle.quotes.proofs.ItemLaws.{parts_count}
use Rattle.quotes.proofs.Items.new.Goals as goal

pub returns-clause-upper_bound : goal.returns-clause-upper_bound
returns-clause-upper_bound c =
    let t = c.args.list.now in
    let n = rw c.len.ensures at c.part.ensures in
    let same : length (listed c.part.result) ≡ length (listed t) = ap (λ (l : List Marked). length (listed l)) (n ∙ take_rest t 0) in
    omega (arith, same, parts_count t, c.len.ensures, c.len.type_inv)
