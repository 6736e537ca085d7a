-- `declared_records::put_part` meets its contract: `part_stored` says which numbers a part has. Assumes nothing.
use Rattle.std.proofs.Common.{rules}
use Rattle.declared_parts.proofs.BetweenLaws.{default_place}
use Rattle.declared_records.proofs.GatherLaws.{part_stored}
use Rattle.declared_records.proofs.put_part.Goals as goal

pub returns : goal.returns
returns c =
    let a = c.args in
    part_stored a.records.now _ a.k a.front a.p c.unwrap_or_default-value.result c.from.result c.from-2.result c.from-3.result
    (default_place a.p.value c.unwrap_or_default-value.result c.unwrap_or_default-value.ensures) (search rules) (search rules) (search rules) c.put_numbers.ensures
