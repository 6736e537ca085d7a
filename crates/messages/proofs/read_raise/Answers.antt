-- `messages::read_raise` meets its contract where no level stands behind the separator. Assumes nothing.
use native.Mathlib.Omega.{arith}
use mathlib.Core.Path.{sym, ◌∙◌}
use Rattle.messages.proofs.ReadingLaws.{reads_none}
use Rattle.messages.proofs.read_raise.Goals as goal

pub returns-in-None-clause-reads : goal.returns-in-None-clause-reads
returns-in-None-clause-reads c =
    λ t e. rw (sym (sym c.in-None.is ∙ c.level_behind.ensures.value t e)) (reads_none t c.args.rest.now e _ _ (omega arith))
