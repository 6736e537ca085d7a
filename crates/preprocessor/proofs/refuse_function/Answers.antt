-- `preprocessor::refuse_function` meets its contract: `zeros_behind` of a buffer in front of which nothing stands. Assumes nothing.
use mathlib.Core.List.{[]}
use mathlib.Core.Path.{refl, ◌∙◌}
use native.Mathlib.Omega.{arith}
use Rattle.passes.proofs.BufferEndLaws.{zeros_behind}
use Rattle.preprocessor.proofs.refuse_function.Goals as goal

pub returns-clause-declared_after : goal.returns-clause-declared_after
returns-clause-declared_after c =
    c.fill.ensures ∙ zeros_behind 65536 0 c.args.declared.now c.args.declared.now [] c.requires.declared_in_bounds (omega arith) refl refl

pub returns-clause-records_after : goal.returns-clause-records_after
returns-clause-records_after c =
    c.fill-2.ensures ∙ zeros_behind 5130 0 c.args.records.now c.args.records.now [] c.requires.records_in_bounds (omega arith) refl refl
