-- `passes::run_body` meets its contract. The answer is that of `run_table`; `zeros_behind_part` says of each buffer that filling it
-- leaves the result, or nothing, with zeros behind and the rest past 65536 as it was. Assumes nothing.
use Rattle.passes.proofs.BufferEndLaws.{zeros_behind_part}
use Rattle.spec.specs.Answers.{body_result, by_table}
use mathlib.Core.List.{[]}
use mathlib.Core.Path.{refl, ◌∙◌}
use Rattle.passes.proofs.run_body.Goals as goal

pub returns-clause-value : goal.returns-clause-value
returns-clause-value c = c.run_table-ended.ensures.gives.answered

pub returns-clause-output_after : goal.returns-clause-output_after
returns-clause-output_after c =
    let run = c.run_table-ended in
    let result = by_table c.args.table (body_result c.args.text.now) in
    c.fill.ensures ∙ zeros_behind_part 65536 run.result.length run.new.output c.args.output.now result.output run.ensures.same_len.0 run.ensures.held run.ensures.gives.held

pub returns-clause-work_after : goal.returns-clause-work_after
returns-clause-work_after c = c.clear.ensures ∙ zeros_behind_part 65536 0 c.run_table-ended.new.work c.args.work.now [] c.run_table-ended.ensures.same_len.1 refl refl

pub returns-clause-spare_after : goal.returns-clause-spare_after
returns-clause-spare_after c = c.clear-2.ensures ∙ zeros_behind_part 65536 0 c.run_table-ended.new.spare c.args.spare.now [] c.run_table-ended.ensures.same_len.2 refl refl
