-- `stored_list::for_each_line` meets its contract. The loop's invariant: `take` was called with lines so far. Assumes nothing.
use Rattle.std.proofs.Common.{rules, of_calls}
use Rattle.stored_list.proofs.ListLineLaws.{hands_more, whole_line}
use Rattle.stored_list.proofs.lines.for_each_line.Goals as goal

pub loop-turn-preserved : goal.loop-turn-preserved
loop-turn-preserved g c =
    let l = c.loop-turn in
    let line_in = c.in-Some.ensures.line_in l.invariant.1 in (
      search of_calls,
      search rules,
      search rules,
      hands_more (λ f x h. goal.F-step g f x tt h) _ l.take c.take.new.self c.part.result l.invariant.3 (search rules) (whole_line c.next_line.new.buffer c.part.result.now c.in-Some.next line_in c.part.ensures),
    )
