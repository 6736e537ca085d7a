use mathlib.Core.Path.{◌≡◌}
use Prim.Native.Nat.{◌+◌, ◌-◌, ◌≤◌}
use lib.ListN.{length, drop}
use Rattle.spec.specs.Spans.{comment_len, block_len}
use Rattle.spans.proofs.block_comment_len.Given as goal

abbrev pub invariant-loop-i : goal.invariant-loop-i
invariant-loop-i l = (l.i ≤ l.n) × (l.n ≡ length l.rest) × (block_len l.rest ≡ l.i + comment_len l.depth (drop l.i l.rest)) × (1 ≤ l.depth) × (l.depth ≤ l.i)

abbrev pub decreases-loop-i : goal.decreases-loop-i
decreases-loop-i l = l.n - l.i
