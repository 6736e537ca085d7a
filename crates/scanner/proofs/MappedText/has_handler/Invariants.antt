use mathlib.Core.Path.{◌≡◌}
use Prim.Native.Nat.{◌-◌}
use lib.ListN.{length}
use Rattle.spec.specs.Search.{first, handler_here, is_found}
use Rattle.scanner.proofs.MappedText.has_handler.Given as goal

abbrev pub invariant-loop-at : goal.invariant-loop-at
invariant-loop-at l = is_found (first handler_here 0 (l.self)) ≡ is_found (first handler_here l.from (l.self))

abbrev pub decreases-loop-at : goal.decreases-loop-at
decreases-loop-at l = length l.self - l.from
