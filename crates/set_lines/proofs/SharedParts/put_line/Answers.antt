-- `set_lines::SharedParts::put_line` meets its contract. `wrote_then` joins the six writes. Assumes nothing.
use mathlib.Core.Path.{ap}
use Rattle.output.proofs.WriterLaws.{wrote_then, wrote_same}
use Rattle.set_lines.specs.Lines.{limit_text, line_text, shared_line}
use Rattle.set_lines.proofs.SharedParts.put_line.Goals as goal

pub returns : goal.returns
unfolding shared_line line_text
returns c =
    wrote_then _ _ c.put_all.ensures
    (wrote_then _ _ c.put_all-2.ensures
    (wrote_then _ _ c.put_all-3.ensures
    (wrote_then _ _ c.put_query.ensures
    (wrote_then _ _ (wrote_same _ _ (ap limit_text c.is_limited.ensures) c.put_limit.ensures) c.put_all-4.ensures))))
