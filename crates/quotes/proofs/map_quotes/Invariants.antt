use mathlib.Core.Path.{◌≡◌}
use lib.ListN.{drop}
use lib.Seq.{sets}
use Rattle.quotes.specs.QuoteMap.{quote_map_from, quote_map}
use Rattle.quotes.proofs.map_quotes.Given as goal

abbrev pub invariant-loop-i : goal.invariant-loop-i
invariant-loop-i l = sets l.initial.map 0 (quote_map l.text) ≡ sets l.map l.i (quote_map_from l.q (drop l.i l.text))
