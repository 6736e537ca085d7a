use mathlib.Core.Path.{◌≡◌}
use mathlib.Core.Bool.{true}
use Rattle.declarations.specs.Chain.{name_in, comes_behind, InChain}
use Rattle.declarations.proofs.InsertLaws.{how_many}
use Rattle.declarations.proofs.find_place.Given as goal

abbrev pub invariant-loop-name : goal.invariant-loop-name
invariant-loop-name l = InChain l.count l.k l.p × (comes_behind (name_in l.text l.records) l.p l.k ≡ true)

abbrev pub decreases-loop-name : goal.decreases-loop-name
decreases-loop-name l = how_many (comes_behind (name_in l.text l.records) l.p) l.count
