-- `scanner::starts_ignoring_case` meets its contract: the library compares the word with the text's front in small letters.
-- Assumes nothing.
use Rattle.scanner.proofs.PrefixLaws.{prefix_of_lower}
use Rattle.scanner.proofs.starts_ignoring_case.Goals as goal

pub returns-then-word-text : goal.returns-then-word-text
returns-then-word-text c =
    let a = c.args in
    prefix_of_lower a.word.now a.text.now c.eq_ignore_ascii_case.result c.if-word-text.true c.eq_ignore_ascii_case.ensures.test
