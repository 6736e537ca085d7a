-- `declared_parts::read_part` meets its contract. `bytes_read` proves the reading from what the calls ensure: where the
-- part, its name, its type and its default begin and end. `trimmed_length` says how long the trimmed part is, which what
-- stands ahead of the default is within. That W alone declares nothing is `blank_read`. Assumes nothing.
use native.Mathlib.Omega.{arith}
use mathlib.Core.Path.{◌≡◌, refl, ap, ◌∙◌}
use Prim.Native.Nat.{◌-◌, ◌+◌}
use lib.ListN.{length}
use Rattle.declared_parts.specs.DeclaredParts.{cut_in, read_of}
use Rattle.spec.proofs.RefusalBounds.{bytes_length}
use Rattle.declared_parts.proofs.BetweenLaws.{between_length}
use Rattle.declared_parts.proofs.ReadLaws.{bytes_read, blank_read}
use Rattle.declared_parts.proofs.read_part.Goals as goal
use Rattle.declared_parts.proofs.read_part.Goals.{After-part}

trimmed_length : (c : goal.After-part) → length c.part.result ≡ c.trim_end-end.result - c.run_end_between-start.result
trimmed_length c =
    let n = between_length c.args.text.now c.run_end_between-start.result c.trim_end-end.result c.trim_end-end.ensures.in_range.0 (omega arith) in
    omega (arith, ap length c.part.ensures, n)

pub returns-then-start-to-clause-map_value : goal.returns-then-start-to-clause-map_value
unfolding read_of
returns-then-start-to-clause-map_value c =
    blank_read c.args.text.now c.text-bytes.result.now c.args.from c.args.to c.run_end_between-start.result c.text-bytes.ensures c.run_end_between-start.ensures.value c.if-start-to.true

pub returns-clause-map_value : goal.returns-clause-map_value
returns-clause-map_value c =
    let a = c.args in
    let l : length c.text-bytes.result.now ≡ length a.text.now = omega (arith, ap length c.text-bytes.ensures, bytes_length a.text.now) in
    let t = trimmed_length (goal.at.returns-clause-map_value c).After-part in
    let s = c.trim_end-end.ensures.in_range in
    let f = c.find_default-cut.ensures.fits in
    let n = c.run_end_between-name.result in
    let e = c.run_end_between-name_end.result in
    let q : n + (e - n) ≡ e = omega (arith, c.run_end_between-name_end.ensures.in_range) in
    bytes_read a.text.now c.text-bytes.result.now a.from a.to c.run_end_between-start.result c.trim_end-end.result c.find_default-cut.result c.read_type-kind.result _ c.text-bytes.ensures record {
      starts = c.run_end_between-start.ensures.value;
      ends = c.trim_end-end.ensures.value;
      inside = s.1;
      within = omega (arith, l, c.requires.to_in_bounds);
      ordered = omega (arith, f.head, t, s);
      name = c.run_end_between-name.ensures.value;
      name_end = q ∙ c.run_end_between-name_end.ensures.value;
      name_inside = omega (arith, q, c.run_end_between-name_end.ensures.in_range);
      typed = rw q c.read_type-kind.ensures.value;
      kind = rw q refl;
      kind_len = refl;
      constant = refl;
      not_null = refl;
      value = c.value_place.ensures.value;
      value_inside = λ r h. omega (arith, f.within r h, t, s);
    } (c.find_default-cut.ensures.value ∙ ap cut_in c.part.ensures)
