use Prim.Native.Nat.{◌≤◌, ◌+◌, ◌*◌}
use mathlib.Core.Bool.{false}
use lib.ListN.{drop}
use Rattle.output.proofs.WriterLaws.{Left}
use Rattle.declared_parts.specs.DeclaredParts.{spaced}
use Rattle.declared_parts.proofs.put_spaced.Given as goal

abbrev pub invariant-loop-b : goal.invariant-loop-b
invariant-loop-b l = Left l.initial.out (spaced false l.text) l.out (spaced l.gap (drop l.b-index l.text)) × (l.out.len ≤ l.initial.out.len + 2 * l.b-index)
