-- `declarations::parse_declarations` meets its contract. The part read is the section found, and what the fronts of the two
-- buffers hold, they hold. Assumes nothing.
use native.Mathlib.Omega.{arith}
use mathlib.Core.Path.{◌≡◌, ap, ◌∙◌}
use Prim.Native.Nat.{ℕ, ◌+◌, ◌-◌, ◌≤◌}
use mathlib.Core.List.{List, ◌++◌}
use lib.ListN.{length, take, drop, take-append-drop}
use lib.Seq.{length-take-le}
use Rattle.spec.specs.Declarations.{Declared, packed}
use Rattle.declared_parts.proofs.BetweenLaws.{piece_le}
use Rattle.declarations.specs.SectionRecords.{records_of_section, records_in, parsed_of}
use Rattle.declarations.proofs.PackedLaws.{packed_small, holds_in}
use Rattle.declarations.proofs.parse_declarations.Goals as goal
use Rattle.declarations.proofs.parse_declarations.Goals.{After-part}

-- the section's records are those of the text
same : (c : goal.After-part) → records_of_section c.part.result ≡ records_in c.args.text.now
unfolding records_in
same c =
    let s = c.find_section-s.result in
    let n : s.at + s.len - s.at ≡ s.len = omega arith in
    ap records_of_section (c.part.ensures ∙ (ap (λ (k : ℕ). take k (drop s.at c.args.text.now)) n ∙ c.find_section-s.ensures.found))

short : (c : goal.After-part) → length c.part.result ≤ 16384
short c =
    let s = c.find_section-s.result in
    omega (arith, ap length c.part.ensures, piece_le c.args.text.now s.at (s.at + s.len - s.at), c.requires.text_len_bound)

pub parse_section-requires : goal.parse_section-requires
parse_section-requires c = record { text_len_bound = short (goal.at.parse_section-requires c).After-part }

pub returns : goal.returns
returns c =
    let a = c.args in
    let e = same (goal.at.returns c).After-part in
    let h = rw e at c.parse_section.ensures.holds in
    let f = c.in-Some-Some.ensures.cases in
    let whole = ap (λ (d : List ℕ). d ++ drop 65536 a.declared.now) f.same ∙ take-append-drop 65536 a.declared.now in
    let fits : length (packed (records_in a.text.now)) ≤ length c.in-Some-Some.declared.now =
    omega (
      arith,
      ap (λ (ds : List Declared). length (packed ds)) e,
      packed_small c.part.result,
      short (goal.at.returns c).After-part,
      ap length f.same,
      length-take-le 65536 a.declared.now f.enough,
    ) in
    record {
      value = c.parse_section.ensures.value ∙ ap parsed_of e;
      holds = holds_in (records_in a.text.now) a.declared.now _ _ _ _ a.records.now 65536 whole fits c.parse_section.ensures.records_len h;
    }
