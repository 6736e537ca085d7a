use Rattle.std.specs.Prelude.{None}
use mathlib.Core.Path.{◌≡◌}
use mathlib.Core.Bool.{cond}
use Prim.Native.Nat.{◌+◌, ◌-◌}
use lib.ListN.{drop}
use Rattle.spec.specs.Bytes.{upper, prefix_by}
use Rattle.spec.specs.Lists.{is_empty}
use Rattle.spec.specs.Map.{marked}
use Rattle.spec.specs.Search.{first, keyword_here}
use Rattle.scanner.proofs.MappedText.find_keyword.Given as goal

abbrev pub invariant-offsets : goal.invariant-offsets
invariant-offsets l =
    let t = marked l.self-inside.text.now l.self-inside.map.now in
    cond (is_empty l.word) None (first (keyword_here l.word) l.from t) ≡ first (keyword_here l.word) l.i t

abbrev pub decreases-offsets : goal.decreases-offsets
decreases-offsets l = l.last + 1 - l.i

abbrev pub invariant-loop-j : goal.invariant-loop-j
invariant-loop-j l = prefix_by upper l.word (drop l.at l.self-inside.text.now) ≡ prefix_by upper (drop l.j l.word) (drop (l.at + l.j) l.self-inside.text.now)
