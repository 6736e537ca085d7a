use mathlib.Core.Path.{◌≡◌}
use Prim.Native.Nat.{◌-◌, ◌≤◌}
use lib.ListN.{length, drop}
use lib.Seq.{sets}
use Rattle.spec.specs.Map.{map_of}
use Rattle.scanner.proofs.map_text.Given as goal

abbrev pub invariant-loop-s : goal.invariant-loop-s
invariant-loop-s l = (l.cursor.at ≤ length l.text) × (length l.map ≡ length l.initial.map) × (sets l.initial.map 0 (map_of l.text) ≡ sets l.map l.cursor.at (map_of (drop l.cursor.at l.text)))

abbrev pub decreases-loop-s : goal.decreases-loop-s
decreases-loop-s l = length l.text - l.cursor.at
