-- `output::Writer::put_doubled` meets its contract. A turn writes the front of what is left, `doubled_step`; a byte makes at
-- most two. Assumes nothing.
use Rattle.std.proofs.Common.{[], ◌∷◌, ◌+◌, drop, get_or, arith}
use Rattle.spec.proofs.RequotedLength.{doubled_le}
use Rattle.spec.specs.Requote.{doubled}
use Rattle.output.proofs.StoreLaws.{doubled_step}
use Rattle.output.proofs.WriterLaws.{left_more}
use Rattle.output.proofs.Writer.put_doubled.Goals as goal

pub loop-b-preserved : goal.loop-b-preserved
loop-b-preserved c =
    let l = c.loop-b in
    let src = c.args.src.now in
    let j = l.b-index in
    let b = get_or src j 0 in
    let wrote = c.put_doubled_byte.ensures in (
      omega (arith, l.invariant.0, wrote.count, doubled_le (b ∷ [])),
      left_more (doubled src) (doubled (drop j src)) (doubled (b ∷ [])) (doubled (drop (j + 1) src)) l.invariant.1 (doubled_step src j c.loop-b-test.true) wrote,
    )
