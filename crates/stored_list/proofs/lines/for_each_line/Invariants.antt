use Rattle.std.proofs.Common.{◌≤◌, ◌≡◌, length}
use Rattle.stored_list.specs.ListLines.{HandsLines}
use Rattle.stored_list.proofs.lines.for_each_line.Given as goal

abbrev pub invariant-loop-turn : goal.invariant-loop-turn
invariant-loop-turn g l =
    goal.F-IsAlwaysCallable g l.take × (l.line.filled ≤ length l.buffer) × (length l.buffer ≡ length l.initial.buffer)
    × HandsLines (λ f x h. goal.F-step g f x tt h) l.fn.take l.take
