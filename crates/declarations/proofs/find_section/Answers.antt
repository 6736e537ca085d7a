-- `declarations::find_section` meets its contract: `section_in` by what the two searches found. Assumes nothing.
use Rattle.spec.specs.Lists.{is_empty}
use Rattle.declared_parts.proofs.BetweenLaws.{default_place}
use Rattle.declarations.proofs.SectionLaws.{section_in}
use Rattle.declarations.proofs.find_section.Goals as goal

pub returns : goal.returns
unfolding is_empty
returns c =
    rw (default_place _ _ c.unwrap_or_default.ensures, c.section_at.ensures)
    (section_in c.args.text.now _ _ c.find_keyword-declare.ensures c.find_keyword-begin.ensures)
