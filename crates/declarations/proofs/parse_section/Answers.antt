-- `declarations::parse_section` meets its contract, by the case whether more than 512 names are declared. Where not,
-- `kept_all` says that linking keeps the records gathered, and `packed_all` that writing them packs all of them.
-- Assumes nothing.
use native.Mathlib.Omega.{arith}
use mathlib.Core.Path.{◌≡◌, ap, ◌∙◌}
use lib.ListN.{length}
use Rattle.std.specs.Prelude.{Ok}
use Rattle.std.proofs.lemmas.Result.{err_from_is_err_and}
use Rattle.spec.specs.Map.{bytes}
use Rattle.spec.specs.Declarations.{packed}
use Rattle.spec.proofs.RefusalBounds.{bytes_length}
use Rattle.declared_records.specs.Held.{Gathered}
use Rattle.declarations.proofs.NextLaws.{gathered_different}
use Rattle.declarations.proofs.PackedLaws.{packed_small, head_cleared, count_length, kept_all, packed_all, parsed_over, parsed_count, over_holds}
use Rattle.declarations.proofs.parse_section.Goals as goal
use Rattle.declarations.proofs.parse_section.Goals.{In_ok-count}

-- the records that were gathered
held : (c : goal.In_ok-count) → Gathered c.text-bytes.result.now c.args.text.now c.gather.new.records (Ok c.in_ok-count.count)
held c = rw c.text-bytes.ensures c.in_ok-count.ensures.gathered

pub returns-in_err-count : goal.returns-in_err-count
returns-in_err-count c =
    let a = c.args in
    let t = a.text.now in
    let told = err_from_is_err_and c.from_residual.result c.from_residual.ensures.1 in
    let same : told.0 ≡ c.in_err-count.field-0.0 = told.2 in
    let g = c.in_err-count.ensures.gathered in
    record {
      value = rw (told.1, same) (parsed_over (bytes t) t c.gather.new.records _ g);
      holds = over_holds (bytes t) t c.gather.new.records a.records.now a.declared.now _ g (omega arith) (omega arith);
      records_len = omega arith;
    }

pub link-requires-clause-different : goal.link-requires-clause-different
link-requires-clause-different c =
    gathered_different c.text-bytes.result.now _ c.in_ok-count.count c.args.text.now (held (goal.at.link-requires-clause-different c).In_ok-count)

pub pack_records-requires : goal.pack_records-requires
pack_records-requires c =
    let xs = c.text-bytes.result.now in
    let t = c.args.text.now in
    let g = held (goal.at.pack_records-requires c).In_ok-count in
    let k = kept_all xs t c.in_ok-count.count _ _ g c.link.ensures _ (head_cleared _ _ c.fill.ensures) in
    record {
      count_bound = g.within;
      text_len_bound = omega (arith, ap length c.text-bytes.ensures, bytes_length t);
      room = omega (arith, ap (λ ds. length (packed ds)) k, packed_small t, c.requires.text_len_bound);
    }

pub returns : goal.returns
returns c =
    let a = c.args in
    let xs = c.text-bytes.result.now in
    let t = a.text.now in
    let n = c.in_ok-count.count in
    let g = held (goal.at.returns c).In_ok-count in
    let l = c.link.ensures in
    let e = head_cleared _ _ c.fill.ensures in
    let w = c.pack_records.ensures in
    let k = kept_all xs t n _ _ g l _ e in
    record {
      value = parsed_count _ n _ (count_length xs t n _ _ g l) (w.value ∙ ap (λ ds. length (packed ds)) k) g.within;
      holds = packed_all xs t n _ _ g l _ e a.records.now a.declared.now _ _ (omega arith) (omega arith) (omega arith) c.requires.text_len_bound (omega arith) w.declared_after w.records_after;
      records_len = omega arith;
    }
