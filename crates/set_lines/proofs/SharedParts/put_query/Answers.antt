-- `set_lines::SharedParts::put_query` meets its contract. `wrote_then` joins the four writes. Assumes nothing.
use Rattle.output.proofs.WriterLaws.{wrote_then}
use Rattle.set_lines.specs.Lines.{query_text}
use Rattle.set_lines.proofs.SharedParts.put_query.Goals as goal

pub returns : goal.returns
unfolding query_text
returns c =
    rw (← c.self.view_is)
    (wrote_then _ _ c.put_all.ensures
    (wrote_then _ _ c.put_all-2.ensures (wrote_then _ _ c.put_all-3.ensures c.put_spaced.ensures)))
