use mathlib.Core.Path.{◌≡◌}
use Prim.Native.Nat.{◌-◌, ◌≤◌}
use lib.ListN.{length, drop}
use Rattle.spec.specs.Lists.{all}
use Rattle.spec.specs.Spans.{lexemes}
use Rattle.spec.specs.Closed.{is_plain_span}
use Rattle.closed.proofs.has_plain_spans.Given as goal

abbrev pub invariant-loop-next : goal.invariant-loop-next
invariant-loop-next l = (l.cursor.at ≤ length l.text) × (all is_plain_span (lexemes l.text) ≡ all is_plain_span (lexemes (drop l.cursor.at l.text)))

abbrev pub decreases-loop-next : goal.decreases-loop-next
decreases-loop-next l = length l.text - l.cursor.at
