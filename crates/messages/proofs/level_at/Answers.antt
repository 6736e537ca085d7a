-- `messages::level_at` meets its contract, by what `find` gives. Assumes nothing.
use mathlib.Core.Path.{◌≡◌, refl, sym, ap, ◌∙◌}
use Rattle.std.proofs.Common.{rules, tests}
use Rattle.std.proofs.lemmas.Iterator.{YieldsList-from_slice}
use Rattle.std.proofs.lemmas.Iterator.Search.{find_from_yields_List}
use Rattle.std.specs.Prelude.{Some, List, map}
use Rattle.spec.specs.Bytes.{upper, prefix_by}
use Rattle.spec.specs.Map.{Marked, bytes}
use Rattle.spec.specs.Raise.{level_words, level_in}
use Rattle.messages.proofs.LevelLaws.{word_of, level_of, level_found, level_bound}
use Rattle.messages.proofs.level_at.Goals as goal

pub returns-in_err-level : goal.returns-in_err-level
unfolding level_words
returns-in_err-level c =
    let value : (t : List Marked) → bytes t ≡ c.args.rest.now → c.from_residual.result ≡ level_in level_words t =
    λ t e. c.from_residual.ensures
    ∙ (ap level_of (sym c.in_err-level.was)
    ∙ level_found c.args.rest.now t e c.iter.result.rest.now c.find.result (ap (map word_of) c.iter.ensures.rest)
    (find_from_yields_List (λ p. prefix_by upper p.0.now c.args.rest.now) _ _ c.find.result c.find.ensures.ran (YieldsList-from_slice c.iter.result.rest.now refl) (λ x b q k. search (rules, tests)))) in
    record { value = value; result_in_bounds = level_bound c.args.rest.now _ value }

pub returns : goal.returns
unfolding level_words
returns c =
    let value : (t : List Marked) → bytes t ≡ c.args.rest.now → Some c.in_ok-level.field-0.now.1 ≡ level_in level_words t =
    λ t e. ap level_of (sym c.in_ok-level.was)
    ∙ level_found c.args.rest.now t e c.iter.result.rest.now c.find.result (ap (map word_of) c.iter.ensures.rest)
    (find_from_yields_List (λ p. prefix_by upper p.0.now c.args.rest.now) _ _ c.find.result c.find.ensures.ran (YieldsList-from_slice c.iter.result.rest.now refl) (λ x b q k. search (rules, tests))) in
    record { value = value; result_in_bounds = level_bound c.args.rest.now _ value }
