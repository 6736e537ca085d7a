-- `messages::read_statement` meets its contract: `reads_level`, from what the level's end and the content promise. Assumes
-- nothing.
use Rattle.messages.proofs.ReadingLaws.{reads_level}
use Rattle.messages.proofs.read_statement.Goals as goal

pub returns-clause-reads : goal.returns-clause-reads
returns-clause-reads c =
    λ act t e. reads_level t c.args.rest.now e act c.args.level c.args.action _ _ _ _ c.level_end-at.ensures.value c.content_len-len.ensures c.min.ensures c.fate_of.ensures
