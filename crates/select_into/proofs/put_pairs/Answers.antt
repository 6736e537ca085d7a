-- `select_into::put_pairs` meets its contract. `within_then` joins the text in front with the lines. Assumes nothing.
use Rattle.std.proofs.lemmas.List.{take_rest}
use native.Mathlib.Omega.{arith}
use mathlib.Core.Path.{refl, ap, ◌∙◌}
use lib.ListN.{length, length-drop}
use Rattle.output.proofs.WriterLaws.{within_same, within_then}
use Rattle.spec.specs.SelectInto.{listed}
use Rattle.set_lines.specs.Lines.{Shared, lines_text}
use Rattle.select_into.specs.Pairs.{pairs_text}
use Rattle.select_into.proofs.FromLaws.{from_short, last_cut, shared_short}
use Rattle.select_into.proofs.put_pairs.Goals as goal

pub put_set_lines-requires : goal.put_set_lines-requires
put_set_lines-requires c =
    let front = c.args.front.now in
    omega (
      arith,
      c.requires,
      c.put_all.ensures.count,
      shared_short _ _ _ _ c.new-shared.ensures,
      ap length c.from_part.ensures,
      from_short c.args.from.now,
      ap length (take_rest front c.run_start.result),
      length-drop c.run_start.result front,
    )

pub returns : goal.returns
unfolding pairs_text
returns c =
    let a = c.args in
    let cut = take_rest a.front.now c.run_start.result ∙ last_cut a.front.now c.run_start.result c.run_start.ensures.value in
    let h = c.new-shared.ensures ∙ rw (c.from_part.ensures, cut) refl in
    within_then _ _ _ c.put_all.ensures
    (within_same _ _ _ (ap (λ (s : Shared). lines_text s (listed a.lists.now.cols) (listed a.lists.now.vars)) h) c.put_set_lines.ensures)
