-- `declarations::write_record` meets its contract: the places of the packed texts are within the buffer, and
-- `packed_numbers` gives their numbers. Assumes nothing.
use mathlib.Core.Path.{ap, ◌∙◌}
use Prim.Native.Nat.{◌*◌}
use lib.Seq.{sets}
use Rattle.declared_records.specs.Held.{record_in}
use Rattle.declarations.proofs.WriteLaws.{places_within, packed_numbers}
use Rattle.declarations.proofs.write_record.Goals as goal

pub put_part-requires-clause-within : goal.put_part-requires-clause-within
put_part-requires-clause-within c =
    let a = c.args in
    let w = places_within a.out.now.len 65536 (record_in a.text.now a.records.now a.k) c.requires.room in
    rw c.put_texts-places.ensures.value w

pub returns-clause-records_after : goal.returns-clause-records_after
returns-clause-records_after c =
    let a = c.args in
    let m = packed_numbers a.text.now a.records.now a.out.now.len a.k c.number-next.result c.number-next.ensures.value in
    c.put_part.ensures ∙ rw c.put_texts-places.ensures.value (ap (sets a.records.now (10 * a.k)) m)
