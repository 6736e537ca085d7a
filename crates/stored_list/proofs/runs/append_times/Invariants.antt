use Rattle.std.proofs.Common.{◌-◌}
use Rattle.stored_list.specs.Runs.{repeated}
use Rattle.stored_list.proofs.StoringLaws.{Storing}
use Rattle.stored_list.proofs.runs.append_times.Given as goal

abbrev pub invariant-loop-turn : goal.invariant-loop-turn
invariant-loop-turn l =
    Storing l.initial.out l.n (repeated l.times l.bytes) l.out l.at (repeated (l.times - l._turn) l.bytes)
