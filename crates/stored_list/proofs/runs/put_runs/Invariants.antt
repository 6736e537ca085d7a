use Prim.Native.Nat.{◌-◌}
use Rattle.stored_list.specs.Runs.{runs_from, runs_of}
use Rattle.stored_list.proofs.StoringLaws.{Storing}
use Rattle.stored_list.proofs.runs.put_runs.Given as goal

abbrev pub invariant-loop-j : goal.invariant-loop-j
invariant-loop-j l = Storing l.initial.out 0 (runs_of l.line) l.out l.n (runs_from (500 - l.j) l.j l.line)
