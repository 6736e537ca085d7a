-- `set_lines::put_set_lines` meets its contract. The loop's invariant says that what is written and the lines of the parts that
-- are left make up all lines. `lines_turn` is a turn: a line and the break behind it. Assumes nothing.
use Rattle.std.proofs.lemmas.Result.{err_from_is_err_and}
use mathlib.Core.Path.{refl, ap}
use native.Mathlib.Omega.{arith}
use Prim.Native.Nat.{◌+◌, ◌^◌, ◌≤◌, ◌<◌}
use lib.ListN.{length}
use Rattle.output.proofs.WriterLaws.{Left, left_start, left_kept, left_over, left_within, checked_ok}
use Rattle.quotes.proofs.ItemLaws.{parts_length, parts_le}
use Rattle.spec.specs.SelectInto.{listed}
use Rattle.set_lines.specs.Lines.{lines_text}
use Rattle.set_lines.proofs.SetLineLaws.{parts_from, parts_taken, taken_short, part_short, line_length, lines_start, lines_over, lines_short, lines_turn}
use Rattle.set_lines.proofs.put_set_lines.Goals as goal
use Rattle.set_lines.proofs.put_set_lines.Goals.{After-text-in-Some, After-put_break}

pub returns-in_err-check : goal.returns-in_err-check
returns-in_err-check c =
    let r = err_from_is_err_and c.from_residual.result c.from_residual.ensures.1 in
    rw (r.1, r.2) (left_over _ _ _ refl refl (left_start _ _) c.in_err-check.ensures)

pub loop-next-init : goal.loop-next-init
loop-next-init c =
    let a = c.args in
    let p = c.next-next.result in
    let taken = parts_taken p c.new-columns.result c.next-next.new.self c.next-next.ensures.steps in
    record {
      left = lines_start a.shared.now a.out.now _ _ c.new-columns.result c.next-next.new.self c.new-variables.result p c.new-columns.ensures.value c.next-next.ensures.steps c.new-variables.ensures.value;
      within = checked_ok _ c.in_ok-check.ensures;
      columns = omega (arith, ap parts_length taken, ap parts_length c.new-columns.ensures.value, parts_le a.lists.now.cols);
      variables = omega (arith, ap parts_length c.new-variables.ensures.value, parts_le a.lists.now.vars);
    }

-- the parts are no longer than the texts
col_short : (c : goal.After-text-in-Some) → length c.text.result.now ≤ length c.args.lists.now.cols
col_short c = omega (arith, (taken_short _ _ _ _ c.in-Some.is c.loop-next.invariant.columns).0, ap length c.text.ensures)

var_short : (c : goal.After-text-in-Some) → length c.text-in-Some.result.now ≤ length c.args.lists.now.vars
var_short c = omega (arith, (part_short _ _ _ _ c.in-Some-next.ensures.steps c.loop-next.invariant.variables).0, ap length c.text-in-Some.ensures)

-- what is left behind a line and its break
left : (c : goal.After-put_break) →
    Left c.args.out.now (lines_text c.args.shared.now (listed c.args.lists.now.cols) (listed c.args.lists.now.vars)) c.put_break.new.out
    (lines_text c.args.shared.now (parts_from c.next-next-in-Some.result c.next-next-in-Some.new.self) c.next.new.self)
left c =
    let l = c.loop-next in
    lines_turn c.args.shared.now _ c.text.result.now c.text-in-Some.result.now c.is_some.result c.in-Some.col c.in-Some-next.var l.next c.next-next-in-Some.result l.columns c.next-next-in-Some.new.self l.variables c.next.new.self
    l.invariant.left c.in-Some.is c.in-Some-next.ensures.steps c.text.ensures c.text-in-Some.ensures c.put_line.ensures c.next-next-in-Some.ensures.steps c.is_some.ensures c.put_break.ensures

pub returns-in_default-next : goal.returns-in_default-next
returns-in_default-next c =
    left_within _ _ c.loop-next.invariant.left (lines_short c.args.shared.now _ _ c.in_default-next.ensures.steps.0) c.loop-next.invariant.within

pub put_line-requires : goal.put_line-requires
put_line-requires c =
    let s = c.args.shared.now in
    let h : c.loop-next.out.len + length s.with_text + length s.from_text + length c.text.result.now + length c.text-in-Some.result.now + 32 < 2 ^ 63 =
    omega (arith, c.requires, c.loop-next.invariant.within, col_short c, var_short c) in
    h

pub put_break-requires : goal.put_break-requires
put_break-requires c =
    let w = (goal.at.put_break-requires c).After-text-in-Some in
    omega (
      arith,
      c.requires,
      c.loop-next.invariant.within,
      col_short w,
      var_short w,
      c.put_line.ensures.count,
      line_length c.args.shared.now c.text.result.now c.text-in-Some.result.now,
    )

pub loop-next-preserved : goal.loop-next-preserved
loop-next-preserved c =
    let l = c.loop-next in
    let taken = parts_taken c.next-next-in-Some.result l.columns c.next-next-in-Some.new.self c.next-next-in-Some.ensures.steps in
    record {
      left = left (goal.at.loop-next-preserved c).After-put_break;
      within = checked_ok _ c.in_ok-check-2.ensures;
      columns = omega (arith, ap parts_length taken, (taken_short _ _ _ _ c.in-Some.is l.invariant.columns).1);
      variables = (part_short _ _ _ _ c.in-Some-next.ensures.steps l.invariant.variables).1;
    }

pub returns-in_err-check-2 : goal.returns-in_err-check-2
returns-in_err-check-2 c =
    let r = err_from_is_err_and c.from_residual-in_err-check-2.result c.from_residual-in_err-check-2.ensures.1 in
    let l = left (goal.at.returns-in_err-check-2 c).After-put_break in
    rw (r.1, r.2) (left_over _ _ _ l.same (left_kept _ _ l) l c.in_err-check-2.ensures)

pub returns : goal.returns
returns c =
    left_within _ _ c.loop-next.invariant.left (lines_over c.args.shared.now _ _ _ c.in_default.is) c.loop-next.invariant.within
