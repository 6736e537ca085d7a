-- `declared_records::gather` meets its contract. The loop's invariant `Going` says that the records so far, with what the
-- pieces from `at` on declare, are what all pieces declare; `gathered_next` is a turn. They are read into the front of the slice,
-- which `held_front` says the slice holds then. Assumes nothing.
use native.Mathlib.Omega.{arith}
use mathlib.Core.Path.{◌≡◌, sym}
use mathlib.Core.List.{[]}
use lib.ListN.{drop}
use lib.Seq.{drop_at}
use Rattle.std.proofs.lemmas.Result.{err_from_is_err_and}
use Rattle.spec.specs.Map.{bytes}
use Rattle.spec.specs.Search.{byte_here, pieces}
use Rattle.spec.specs.Declarations.{declare_all}
use Rattle.declared_records.proofs.GatherLaws.{part_end, gathered_over, gathered_next, gathered_last, held_front}
use Rattle.declared_records.proofs.gather.Goals as goal

pub read_part-p-requires : goal.read_part-p-requires
read_part-p-requires c =
    let w = part_end c.args.text.now c.loop-end.at c.in-Some-find_byte.end c.in-Some-find_byte.ensures in
    record { from_le_to = w.0; to_in_bounds = omega arith }

pub add_part-requires-clause-hashed : goal.add_part-requires-clause-hashed
add_part-requires-clause-hashed c = rw c.text-bytes.ensures c.loop-end.invariant.going.hashed

pub returns-in_err-count-clause-gathered : goal.returns-in_err-count-clause-gathered
returns-in_err-count-clause-gathered c =
    let l = c.loop-end in
    let t = c.args.text.now in
    let add = rw c.text-bytes.ensures at c.in_err-count.ensures.added in
    let told = err_from_is_err_and c.from_residual.result c.from_residual.ensures.1 in
    let same : told.0 ≡ c.in_err-count.field-0.0 = told.2 in
    rw (told.1, same)
    (gathered_over t l.at l.records l.count c.read_part-p.result c.add_part.new.records l.invariant.going c.in-Some-find_byte.end c.in-Some-find_byte.ensures c.read_part-p.ensures.map_value _ add)

pub returns-in_err-count-clause-records_unchanged : goal.returns-in_err-count-clause-records_unchanged
returns-in_err-count-clause-records_unchanged c = drop_at c.add_part.new.records (drop 5130 c.args.records.now) 5130 c.add_part.array_long

pub overflow_add-at : goal.overflow_add-at
overflow_add-at c =
    omega (arith, part_end c.args.text.now c.loop-end.at c.in-Some-find_byte.end c.in-Some-find_byte.ensures)

pub loop-end-smaller : goal.loop-end-smaller
loop-end-smaller c =
    omega (arith, part_end c.args.text.now c.loop-end.at c.in-Some-find_byte.end c.in-Some-find_byte.ensures)

pub loop-end-preserved : goal.loop-end-preserved
loop-end-preserved c =
    let l = c.loop-end in
    let t = c.args.text.now in
    let end = c.in-Some-find_byte in
    let add = rw c.text-bytes.ensures at c.in_ok-count.ensures.added in
    let w = part_end t l.at end.end end.ensures in
    record {
      in_text = omega arith;
      going = gathered_next t l.at l.records l.count c.read_part-p.result c.add_part.new.records l.invariant.going end.end end.ensures c.read_part-p.ensures.map_value _ add;
    }

pub add_part-requires-2-clause-hashed : goal.add_part-requires-2-clause-hashed
add_part-requires-2-clause-hashed c = rw c.text-bytes.ensures c.loop-end.invariant.going.hashed

pub returns-clause-gathered : goal.returns-clause-gathered
returns-clause-gathered c =
    let l = c.loop-end in
    let t = c.args.text.now in
    let add = rw c.text-bytes.ensures at c.add_part-2.ensures.added in
    let held = gathered_last t l.at l.records l.count c.read_part-last.result c.add_part-2.new.records l.invariant.going c.add_part-2.result add (sym c.in_default-find_byte.ensures) (rw c.len.ensures at c.read_part-last.ensures.map_value) in
    held_front (bytes t) (declare_all (pieces (byte_here 59) t) []) c.add_part-2.new.records (drop 5130 c.args.records.now) c.add_part-2.result c.add_part-2.ensures.records_len held

pub returns-clause-records_unchanged : goal.returns-clause-records_unchanged
returns-clause-records_unchanged c = drop_at c.add_part-2.new.records (drop 5130 c.args.records.now) 5130 c.add_part-2.ensures.records_len
