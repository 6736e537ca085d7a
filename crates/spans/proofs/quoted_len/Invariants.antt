use mathlib.Core.Path.{◌≡◌}
use Prim.Native.Nat.{◌+◌, ◌-◌, ◌≤◌}
use lib.ListN.{length, drop}
use Rattle.spec.specs.Spans.{quote_len, quoted_len}
use Rattle.spans.proofs.quoted_len.Given as goal

abbrev pub invariant-loop-i : goal.invariant-loop-i
invariant-loop-i l = (l.i ≤ l.n) × (l.n ≡ length l.rest) × (quoted_len l.escape l.q l.rest ≡ l.i + quote_len l.escape l.q (drop l.i l.rest))

abbrev pub decreases-loop-i : goal.decreases-loop-i
decreases-loop-i l = l.n - l.i
