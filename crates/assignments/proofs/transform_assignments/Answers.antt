-- `assignments::transform_assignments` meets its contract. `refused` and `ended` say that what is written is the outcome of the
-- whole, and `grown` bounds what a turn writes. Assumes nothing.
use Rattle.std.proofs.Common.{rules}
use Rattle.std.specs.Prelude.{Err}
use native.Mathlib.Omega.{arith}
use Rattle.std.proofs.lemmas.Result.{err_from_is_err_and}
use mathlib.Core.Path.{◌≡◌, ap, ◌∙◌}
use Prim.Native.Nat.{◌+◌, ◌-◌, ◌*◌, ◌≤◌, ◌<◌}
use lib.ListN.{length, drop, length-take}
use Rattle.spec.specs.Assignments.{statement, assignments}
use Rattle.output.specs.Passes.{WroteOutcome}
use Rattle.output.proofs.OutcomeLaws.{outcome_length, outcome_ok, outcome_err}
use Rattle.assignments.proofs.RestLaws.{semicolon_within, statement_turn, statement_refused, statement_last, statement_long}
use Rattle.assignments.proofs.transform_assignments.Goals as goal
use Rattle.assignments.proofs.transform_assignments.Goals.{In_err-put_statement, In_ok-put_statement, After-put_statement-2}

refused : (c : goal.In_err-put_statement) → WroteOutcome c.new-written.result (assignments c.args.text.now) c.put_statement.new.written (Err c.in_err-put_statement.field-0.0)
refused c =
    statement_refused c.args.text.now _ _ _ _ _ _ c.loop-end.invariant.3 _ c.in-Some.ensures c.part.ensures _ (rw c.in_err-put_statement.was at c.put_statement.ensures)

ended : (c : goal.After-put_statement-2) → WroteOutcome c.new-written.result (assignments c.args.text.now) c.put_statement-2.new.written c.put_statement-2.result
ended c =
    statement_last c.args.text.now _ _ _ _ _ _ c.loop-end.invariant.3 c.in_default.ensures c.rest.ensures _ c.put_statement-2.ensures

grown : (c : goal.In_ok-put_statement)
    → (c.in-Some.end < length c.args.text.now)
    × (c.put_statement.new.written.len ≤ 8 * c.in-Some.end + 7)
    × (length c.put_statement.new.written.out.now ≡ length c.new-written.result.out.now)
grown c =
    let l = c.loop-end in
    let w = semicolon_within c.args.text.now l.from c.in-Some.end c.in-Some.ensures in
    let o = rw c.in_ok-put_statement.was at c.put_statement.ensures in
    let g = statement_long c.part.result l.written c.put_statement.new.written o in
    (w.1, omega (arith, g, w, ap length c.part.ensures, length-take (c.in-Some.end - l.from) (drop l.from c.args.text.now), l.invariant.2), outcome_length _ _ (statement c.part.result) o ∙ l.invariant.1)

pub returns-in_err-put_statement-clause-value : goal.returns-in_err-put_statement-clause-value
returns-in_err-put_statement-clause-value c =
    let q = err_from_is_err_and c.from_residual.result c.from_residual.ensures.1 in
    let o = outcome_err _ _ _ c.new-written.ensures _ _ (refused (goal.at.returns-in_err-put_statement-clause-value c).In_err-put_statement) in
    rw (q.1, q.2) o.1

pub returns-in_err-put_statement-clause-leaves : goal.returns-in_err-put_statement-clause-leaves
returns-in_err-put_statement-clause-leaves c =
    let o = outcome_err _ _ _ c.new-written.ensures _ _ (refused (goal.at.returns-in_err-put_statement-clause-leaves c).In_err-put_statement) in
    search rules

pub put-requires : goal.put-requires
put-requires c = omega (arith, grown (goal.at.put-requires c).In_ok-put_statement)

pub loop-end-preserved : goal.loop-end-preserved
loop-end-preserved c =
    let g = grown (goal.at.loop-end-preserved c).In_ok-put_statement in (
      omega (arith, g.0),
      search rules,
      omega (arith, g.1, c.put.ensures.count),
      statement_turn c.args.text.now _ _ _ _ _ _ c.loop-end.invariant.3 _ c.in-Some.ensures c.part.ensures _ (rw c.in_ok-put_statement.was at c.put_statement.ensures) c.put.ensures,
    )

pub returns-in_err-put_statement-2-clause-value : goal.returns-in_err-put_statement-2-clause-value
returns-in_err-put_statement-2-clause-value c =
    let q = err_from_is_err_and c.from_residual-in_err-put_statement-2.result c.from_residual-in_err-put_statement-2.ensures.1 in
    let o = outcome_err _ _ _ c.new-written.ensures _ _ (rw c.in_err-put_statement-2.was at (ended (goal.at.returns-in_err-put_statement-2-clause-value c).After-put_statement-2)) in
    rw (q.1, q.2) o.1

pub returns-in_err-put_statement-2-clause-leaves : goal.returns-in_err-put_statement-2-clause-leaves
returns-in_err-put_statement-2-clause-leaves c =
    let o = outcome_err _ _ _ c.new-written.ensures _ _ (rw c.in_err-put_statement-2.was at (ended (goal.at.returns-in_err-put_statement-2-clause-leaves c).After-put_statement-2)) in
    search rules

pub returns-clause-value : goal.returns-clause-value
returns-clause-value c =
    let o = outcome_ok _ _ _ c.new-written.ensures _ (rw c.in_ok-put_statement-2.was at (ended (goal.at.returns-clause-value c).After-put_statement-2)) in
    o.1

pub returns-clause-leaves : goal.returns-clause-leaves
returns-clause-leaves c =
    let o = outcome_ok _ _ _ c.new-written.ensures _ (rw c.in_ok-put_statement-2.was at (ended (goal.at.returns-clause-leaves c).After-put_statement-2)) in
    search rules
