-- `raise::transform_raise_statements` meets its contract: what is written from the front of the output is the pass's outcome.
-- Assumes nothing.
use Rattle.spec.specs.Raise.{action_of, raise}
use Rattle.output.proofs.OutcomeLaws.{outcome_ok}
use Rattle.raise.proofs.transform_raise_statements.Goals as goal

pub returns-clause-value : goal.returns-clause-value
returns-clause-value c =
    (outcome_ok _ c.new-written.result c.put_raises.new.written c.new-written.ensures (raise (action_of c.args.actions) c.args.text.now) c.in_ok-put_raises.ensures).1
