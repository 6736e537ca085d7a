-- `set_lines::has_w_inside` meets its contract. Assumes nothing.
use Rattle.std.proofs.Common.{rules}
use Rattle.std.proofs.lemmas.Iterator.Consumers.{YieldsList-from_first}
use Rattle.std.proofs.lemmas.Iterator.Search.{any_from_yields_List}
use mathlib.Core.Path.{sym, ◌∙◌}
use mathlib.Core.List.{List}
use Rattle.runs.proofs.ListsOfLibrary.{any_of_library}
use Rattle.spec.specs.Bytes.{is_w}
use Rattle.spec.specs.Lists.{any}
use Rattle.spec.specs.Map.{Marked, of_byte}
use Rattle.spec.specs.SelectInto.{listed}
use Rattle.set_lines.proofs.has_w_inside.Goals as goal

pub returns : goal.returns
returns c =
    let parts = listed c.args.list.now in
    any_from_yields_List (any (of_byte is_w)) _ _ _ c.any.ensures.ran (YieldsList-from_first (λ (p : List Marked). p) (λ (l : List (List Marked)). l) parts c.new.ensures.value) (λ x b q k. search rules)
    ∙ sym (any_of_library (any (of_byte is_w)) parts)
