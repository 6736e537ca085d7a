-- `raise::put_raising` meets its contract: its three parts are written one after the other. Assumes nothing.
use Rattle.messages.specs.Readings.{raising}
use Rattle.output.proofs.WriterLaws.{wrote_then}
use Rattle.raise.proofs.put_raising.Goals as goal

pub returns : goal.returns
unfolding raising
returns c = wrote_then _ _ c.put_front.ensures (wrote_then _ _ c.put_all.ensures c.put_all-2.ensures)
