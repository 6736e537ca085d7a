-- `levels::ahead` meets its contract, by what `find` gives. Assumes nothing.
use mathlib.Core.Path.{sym, ap, ◌∙◌}
use Rattle.std.proofs.Common.{rules, tests}
use Rattle.std.proofs.lemmas.Iterator.{YieldsList-from_slice}
use Rattle.std.proofs.lemmas.Iterator.Search.{find_from_yields_List}
use Rattle.levels.proofs.AheadLaws.{handed, table_ahead}
use Rattle.levels.proofs.ahead.Goals as goal

pub returns-in_err-name : goal.returns-in_err-name
returns-in_err-name g c name all h =
    c.from_residual.ensures
    ∙ (ap handed (sym c.in_err-name.was)
    ∙ table_ahead c.args.text.now name all c.args.table.now c.find.result h
    (find_from_yields_List _ _ _ c.find.result c.find.ensures.ran (YieldsList-from_slice c.args.table.now c.iter.ensures.rest) (λ x b q k. search (rules, tests))))

pub returns : goal.returns
returns g c name all h =
    ap handed (sym c.in_ok-name.was)
    ∙ table_ahead c.args.text.now name all c.args.table.now c.find.result h
    (find_from_yields_List _ _ _ c.find.result c.find.ensures.ran (YieldsList-from_slice c.args.table.now c.iter.ensures.rest) (λ x b q k. search (rules, tests)))
