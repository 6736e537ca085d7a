-- `declarations::put_texts` meets its contract: `texts_wrote` joins the three texts, `places_packed` says where they stand.
-- Assumes nothing.
use mathlib.Core.Path.{ap, ◌∙◌}
use Rattle.output.specs.Written.{Wrote}
use Rattle.spec.specs.Declarations.{text_or}
use Rattle.declared_parts.specs.DeclaredParts.{declared_by}
use Rattle.declared_records.specs.Held.{record_in}
use Rattle.declarations.specs.SectionRecords.{value_from}
use Rattle.declarations.proofs.WriteLaws.{texts_wrote, places_packed}
use Rattle.declarations.proofs.put_texts.Goals as goal

pub returns : goal.returns
unfolding declared_by
returns c =
    let a = c.args in
    let d = record_in a.text.now a.records.now a.k in
    let p : Wrote a.out.now d.name c.put_all.new.self = rw c.name_of.ensures at c.put_all.ensures in
    let q : Wrote c.put_all.new.self d.type c.put_spaced.new.out = rw c.type_words.ensures.value at c.put_spaced.ensures in
    let r : Wrote c.put_spaced.new.out (text_or d.default) c.put_value.new.out = rw c.value_in.ensures.value at c.put_value.ensures.written in
    let v = c.put_value.ensures.place ∙ ap (value_from c.put_spaced.new.out.len) c.value_in.ensures.value in
    record {
      value = places_packed d _ p q (rw (v, c.mark_of.ensures, c.mark_of-2.ensures));
      written = texts_wrote d p q r;
    }
