-- `stored_list::append_times` meets its contract. The loop's invariant: the bytes are to be stored at `at` as many times as
-- turns are left. Assumes nothing.
use native.Mathlib.Omega.{arith}
use Prim.Native.Nat.{◌+◌, ◌-◌}
use Rattle.stored_list.specs.Runs.{repeated}
use Rattle.stored_list.proofs.StoringLaws.{storing_list}
use Rattle.stored_list.proofs.RepeatLaws.{repeated_step}
use Rattle.stored_list.proofs.runs.append_times.Goals as goal

pub loop-turn-preserved : goal.loop-turn-preserved
loop-turn-preserved c =
    let l = c.loop-turn in
    let s = c.args in
    let b = s.bytes.now in
    let a = c.append-at in
    storing_list s.out.now s.n (repeated s.times b) l.out l.at (repeated (s.times - l._turn) b) b
    (repeated (s.times - (l._turn + 1)) b) a.new.out a.result l.invariant (repeated_step s.times l._turn b (omega arith)) a.ensures.out_after
    a.ensures.value
