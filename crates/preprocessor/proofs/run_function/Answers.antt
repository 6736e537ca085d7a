-- `preprocessor::run_function` meets its contract. `called` says what the call comes to, by what the table says and what the
-- declarations are read as; `zeros_behind` says of each buffer that filling it leaves the result with zeros behind. Assumes
-- nothing.
use Rattle.std.proofs.lemmas.List.{take_rest}
use mathlib.Core.Path.{sym, ap, ◌∙◌}
use mathlib.Core.List.{[]}
use Prim.Native.Nat.{ℕ, ◌+◌, ◌*◌}
use native.Mathlib.Omega.{arith}
use lib.ListN.{take, drop}
use Rattle.spec.specs.Map.{map_of}
use Rattle.spec.proofs.MapLaws.{map_length, marked_bytes}
use Rattle.spec.specs.Answers.{function_result, by_table}
use Rattle.passes.proofs.BufferEndLaws.{zeros_behind}
use Rattle.preprocessor.specs.AnswerRecords.{sizes_of}
use Rattle.preprocessor.proofs.FunctionLaws.{kept_drop, zeroed_same, at_most, Called, called}
use Rattle.preprocessor.proofs.run_function.Goals as goal
use Rattle.preprocessor.proofs.run_function.Goals.{After-run_body-r}

-- what the call comes to, once the passes have run
came : (c : After-run_body-r) →
    Called c.args.text.now c.args.work.now c.map_text.new.map c.map_text.ensures c.args.declared.now c.parse_declarations-parsed.new.declared c.args.records.now c.parse_declarations-parsed.new.records
    (rw c.new-mapped.ensures at c.parse_declarations-parsed.ensures.holds) c.body_start-start.result c.args.table c.parse_declarations-parsed.result c.run_body-r.result
came c =
    let xs = c.args.text.now in
    let start = c.body_start-start.result in
    let read = rw c.new-mapped.ensures at c.parse_declarations-parsed.ensures in
    let body = rw (c.new-mapped.ensures, marked_bytes xs c.map_text.new.map) at c.body_start-start.ensures.text_value in
    called xs c.args.work.now c.map_text.new.map c.map_text.ensures c.args.declared.now _ c.args.records.now _ read.holds c.requires.text_len_bound start body
    c.args.table c.parse_declarations-parsed.result c.run_body-r.result (sym read.value)
    (rw (take_rest xs start, c.passed.ensures) at c.run_body-r.ensures.value)

pub overflow_mul-sizes : goal.overflow_mul-sizes
overflow_mul-sizes c = omega (arith, ap (λ s. s.records) c.sizes_of-sizes.ensures, (came (goal.at.overflow_mul-sizes c).After-run_body-r).sizes.count)

pub overflow_add-sizes : goal.overflow_add-sizes
overflow_add-sizes c = omega (arith, ap (λ s. s.records) c.sizes_of-sizes.ensures, (came (goal.at.overflow_add-sizes c).After-run_body-r).sizes.count)

pub returns : goal.returns
returns c =
    let s = c.args in
    let p = c.requires in
    let xs = s.text.now in
    let start = c.body_start-start.result in
    let all = came (goal.at.returns c).After-run_body-r in
    let held = rw c.new-mapped.ensures at c.parse_declarations-parsed.ensures.holds in
    let ran = rw (take_rest xs start, c.passed.ensures) at c.run_body-r.ensures in
    let sizes = c.sizes_of-sizes.ensures in
    let work = ap (drop 65536) c.map_text.ensures ∙ kept_drop (map_of xs) s.work.now 65536 (omega (arith, map_length xs, p.text_len_bound)) in
    let l = c.parse_declarations-parsed.auto in
    let n = rw sizes at c.if_accepted.ensures in
    let k = rw sizes at c.if_accepted-numbers.ensures in
    record {
      value = rw sizes at c.with_records.ensures ∙ all.answer;
      output_after = rw all.output at ran.output_after;
      work_after = ran.work_after ∙ zeroed_same 65536 [] c.map_text.new.map s.work.now work;
      spare_after = ran.spare_after;
      declared_after = c.fill.ensures
          ∙ zeros_behind 65536 c.if_accepted.result s.declared.now c.parse_declarations-parsed.new.declared (by_table s.table (function_result xs)).declared (omega (arith, p.declared_in_bounds, l.declared))
          (omega (arith, n, at_most c.run_body-r.result (sizes_of c.parse_declarations-parsed.result).bytes 65536 all.sizes.small))
          all.sizes.kept
          (ap (λ (i : ℕ). take i c.parse_declarations-parsed.new.declared) n ∙ all.texts);
      records_after = c.fill-2.ensures
          ∙ zeros_behind 5130 c.if_accepted-numbers.result s.records.now c.parse_declarations-parsed.new.records (by_table s.table (function_result xs)).records (omega (arith, p.records_in_bounds, l.records))
          (omega (arith, k, at_most c.run_body-r.result (10 * (sizes_of c.parse_declarations-parsed.result).records + 10) 5130 (omega (arith, all.sizes.count))))
          held.behind
          (ap (λ (i : ℕ). take i c.parse_declarations-parsed.new.records) k ∙ all.numbers);
    }
