-- `select_into::put_statements` meets its contract. The loop's invariant says that what is written and the rewritten statements
-- from `from` on make up the rewritten text. A refused statement makes the whole too long (`left_stopped`). Assumes nothing.
use native.Mathlib.Omega.{arith}
use mathlib.Core.Path.{sym, ap, ◌∙◌}
use Rattle.std.proofs.lemmas.Result.{err_from_is_err_and}
use Rattle.output.proofs.WriterLaws.{left_given, left_stopped, left_rest, within_same}
use lib.ListN.{length, length-drop}
use Rattle.spec.proofs.RefusalBounds.{bytes_length}
use Rattle.spec.specs.Map.{bytes}
use Rattle.select_into.proofs.StatementLaws.{selects_start, selects_last, selects_turn, statement_within}
use Rattle.select_into.proofs.put_statements.Goals as goal

pub loop-at-init : goal.loop-at-init
loop-at-init c =
    record {
      in_bounds = omega arith;
      within = c.requires.out_bound;
      left = selects_start c.args.text.now c.args.out.now;
    }

pub returns-in_err-put_statement : goal.returns-in_err-put_statement
returns-in_err-put_statement c =
    let l = c.loop-at in
    let r = err_from_is_err_and c.from_residual.result c.from_residual.ensures.1 in
    let turn = selects_turn c.args.text.now l.from c.in-Some.at (sym c.in-Some.ensures) c.part.result c.part.ensures in
    rw (r.1, r.2) (left_stopped _ _ _ _ _ l.invariant.left turn c.in_err-put_statement.ensures)

pub loop-at-preserved : goal.loop-at-preserved
loop-at-preserved c =
    let l = c.loop-at in
    let turn = selects_turn c.args.text.now l.from c.in-Some.at (sym c.in-Some.ensures) c.part.result c.part.ensures in
    let given = left_given _ _ _ _ l.invariant.left turn c.in_ok-put_statement.ensures in
    record {
      in_bounds = omega (arith, statement_within c.args.text.now l.from _ (sym c.in-Some.ensures));
      within = given.1;
      left = given.0;
    }

pub put_text-requires : goal.put_text-requires
put_text-requires c =
    omega (
      arith,
      c.requires.text_bound,
      c.loop-at.invariant.within,
      ap length c.text.ensures,
      bytes_length c.rest.result,
      ap length c.rest.ensures,
      length-drop c.loop-at.from c.args.text.now,
    )

pub returns : goal.returns
returns c =
    let l = c.loop-at in
    let last = selects_last c.args.text.now l.from (sym c.in_default.ensures) in
    left_rest _ _ _ l.invariant.left (within_same _ _ _ (c.text.ensures ∙ (ap bytes c.rest.ensures ∙ sym last)) c.put_text.ensures)
