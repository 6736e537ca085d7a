use mathlib.Core.Path.{◌≡◌}
use Prim.Native.Nat.{◌+◌, ◌-◌, ◌≤◌}
use lib.ListN.{length}
use lib.Seq.{sets}
use Rattle.scanner.proofs.SplitLaws.{all_starts, starts_after}
use Rattle.scanner.proofs.MappedText.split.Given as goal

abbrev pub invariant-loop-i : goal.invariant-loop-i
invariant-loop-i l =
    (l.i ≤ length l.self)
    × (length l.starts ≡ length l.initial.starts)
    × (l.n ≤ l.i + 1)
    × (length (all_starts l.self l.separator) ≡ l.n + length (starts_after l.self l.separator l.i))
    × (sets l.initial.starts 1 (starts_after l.self l.separator 0) ≡ sets l.starts l.n (starts_after l.self l.separator l.i))

abbrev pub decreases-loop-i : goal.decreases-loop-i
decreases-loop-i l = length l.self - l.i
