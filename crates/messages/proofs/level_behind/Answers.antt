-- `messages::level_behind` meets its contract: the level that is read is that of any text with these bytes. Assumes nothing.
use Rattle.messages.proofs.ReadingLaws.{level_bytes}
use Rattle.messages.proofs.level_behind.Goals as goal

pub returns-clause-value : goal.returns-clause-value
returns-clause-value c = λ t e. c.level_at.ensures.value _ (level_bytes t c.args.rest.now _ e c.in_ok-get.ensures.lookup.0.2)
