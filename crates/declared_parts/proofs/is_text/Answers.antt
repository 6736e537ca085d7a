-- `declared_parts::is_text` meets its contract: `text_is` by the library's test. Assumes nothing.
use Rattle.declared_parts.proofs.WordLaws.{text_is}
use Rattle.declared_parts.proofs.is_text.Goals as goal

pub returns : goal.returns
returns c = text_is c.args.word.now c.args.text.now c.eq_ignore_ascii_case.result c.eq_ignore_ascii_case.ensures.test
