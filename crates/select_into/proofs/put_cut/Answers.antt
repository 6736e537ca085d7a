-- `select_into::put_cut` meets its contract, by whether columns and variables pair up: `cut_written` are the lines,
-- `cut_copied` is the statement as it was. Assumes nothing.
use native.Mathlib.Omega.{arith}
use mathlib.Core.Path.{sym, ap, ◌∙◌}
use Prim.Native.Nat.{◌+◌, ◌-◌}
use lib.ListN.{length, length-take}
use Rattle.spec.proofs.RefusalBounds.{bytes_length}
use Rattle.output.proofs.WriterLaws.{within_same}
use Rattle.select_into.proofs.FromLaws.{part_short}
use Rattle.select_into.proofs.StatementCutLaws.{cut_copied, cut_written}
use Rattle.select_into.proofs.put_cut.Goals as goal

pub returns-then-not-pairs_up : goal.returns-then-not-pairs_up
returns-then-not-pairs_up c =
    let k = c.args.k in
    within_same _ _ _
    (cut_copied c.args.text.now k.select k.into k.from c.part_between-cols.result c.part_between-vars.result c.unwrap_or.result c.len-len.result _ c.part_between-cols.ensures c.part_between-vars.ensures c.unwrap_or.ensures c.len-len.ensures c.text.ensures (sym c.pairs_up.ensures ∙ c.if-not-pairs_up.true))
    c.put_text.ensures

pub slice_bounds-put_pairs-end : goal.slice_bounds-put_pairs-end
slice_bounds-put_pairs-end c =
    omega (
      arith,
      c.requires.select_in_bounds,
      c.front_of-front.ensures.upper_bound,
      ap length c.text-bytes.ensures,
      bytes_length c.args.text.now,
      length-take c.front_of-front.result c.text-bytes.result.now,
    )

pub put_pairs-requires : goal.put_pairs-requires
put_pairs-requires c =
    let t = c.args.text.now in
    let k = c.args.k in
    let xs = c.text-bytes.result.now in
    let front = c.front_of-front.result in
    let from = c.unwrap_or-from.result in
    omega (
      arith,
      c.requires.text_bound,
      ap length c.text-bytes.ensures,
      bytes_length t,
      ap length c.part_between-cols.ensures,
      part_short (k.into - (k.select + 6)) (k.select + 6) t,
      ap length c.part_between-vars.ensures,
      part_short (c.unwrap_or.result - (k.into + 4)) (k.into + 4) t,
      part_short front 0 xs,
      part_short (k.select - front) front xs,
      part_short (length xs - from) from xs,
    )

pub returns : goal.returns
returns c =
    let k = c.args.k in
    within_same _ _ _
    (cut_written c.args.text.now k.select k.into k.from c.part_between-cols.result c.part_between-vars.result c.unwrap_or.result c.len-len.result _ c.part_between-cols.ensures c.part_between-vars.ensures c.unwrap_or.ensures c.len-len.ensures c.text-bytes.ensures _ _ c.front_of-front.ensures.value c.unwrap_or-from.ensures (sym c.pairs_up.ensures ∙ c.if-not-pairs_up.false))
    c.put_pairs.ensures
