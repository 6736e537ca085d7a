use Prim.Native.Nat.{◌+◌}
use lib.ListN.{drop}
use lib.Seq.{sets}
use mathlib.Core.Path.{◌≡◌}
use Rattle.output.proofs.store.Given as goal

abbrev pub invariant-loop-i : goal.invariant-loop-i
invariant-loop-i l = sets l.initial.out l.n l.src ≡ sets l.out (l.n + l.i) (drop l.i l.src)
