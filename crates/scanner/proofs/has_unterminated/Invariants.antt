use mathlib.Core.Path.{◌≡◌}
use Prim.Native.Nat.{◌-◌, ◌≤◌}
use lib.ListN.{length, drop}
use Rattle.spec.specs.Search.{has_unterminated_dollar_quote}
use Rattle.scanner.proofs.has_unterminated.Given as goal

abbrev pub invariant-loop-s : goal.invariant-loop-s
invariant-loop-s l = (l.cursor.at ≤ length l.text) × (has_unterminated_dollar_quote l.text ≡ has_unterminated_dollar_quote (drop l.cursor.at l.text))

abbrev pub decreases-loop-s : goal.decreases-loop-s
decreases-loop-s l = length l.text - l.cursor.at
