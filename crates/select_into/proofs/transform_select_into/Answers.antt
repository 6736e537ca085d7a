-- `select_into::transform_select_into` meets its contract. Assumes nothing.
use Rattle.std.proofs.lemmas.Result.{err_from_is_err_and}
use Rattle.output.proofs.WriterLaws.{within_ok, within_err}
use Rattle.select_into.proofs.transform_select_into.Goals as goal

pub returns-in_err-put_statements-clause-value : goal.returns-in_err-put_statements-clause-value
returns-in_err-put_statements-clause-value c =
    let r = err_from_is_err_and c.from_residual.result c.from_residual.ensures.1 in
    rw (r.1, r.2) (within_err _ _ c.new-written.ensures _ c.in_err-put_statements.ensures).1

pub returns-clause-value : goal.returns-clause-value
returns-clause-value c = (within_ok _ _ c.new-written.ensures c.in_ok-put_statements.ensures).1
