use mathlib.Core.Path.{◌≡◌}
use mathlib.Core.Bool.{Bool}
use mathlib.Core.List.{reverse}
use Prim.Native.Nat.{ℕ, ◌<◌}
use lib.ListN.{length, take, drop}
use Rattle.spec.specs.Search.{Test, first}
use Rattle.quotes.proofs.DepthLaws.{depth_at}
use Rattle.quotes.proofs.find_by_depth.Given as goal

abbrev pub invariant-loop-i : goal.invariant-loop-i
invariant-loop-i g l =
    (l.depth ≡ depth_at l.text l.i)
    × ((p : Test)
    → ((j : ℕ) (r : Bool) → j < length l.text → goal.F-post g l.test j (depth_at l.text j) r → r ≡ p (reverse (take j l.text)) (drop j l.text))
    → first p l.from l.text ≡ first p l.i l.text)
