use mathlib.Core.Path.{◌≡◌}
use mathlib.Core.List.{List}
use Prim.Native.Nat.{◌-◌, ◌≤◌}
use lib.ListN.{length}
use Rattle.spec.specs.Levels.{Entry, table_of}
use Rattle.levels.specs.Lines.{given_by}
use Rattle.levels.proofs.TurnLaws.{says}
use Rattle.levels.proofs.read_table.Given as goal

abbrev pub invariant-loop-rest : goal.invariant-loop-rest
invariant-loop-rest l =
    (es : List Entry) × (length l.rest ≤ length l.table) × (l.given ≡ given_by es) × (table_of l.table ≡ says es (length l.table - length l.rest) l.rest)

abbrev pub decreases-loop-rest : goal.decreases-loop-rest
decreases-loop-rest l = length l.rest
