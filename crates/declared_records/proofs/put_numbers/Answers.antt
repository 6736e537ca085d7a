-- `declared_records::put_numbers` meets its contract: the ten places with the numbers copied into them are the definition's
-- stores. Assumes nothing.
use native.Mathlib.Omega.{arith}
use mathlib.Core.Path.{◌≡◌, sym, ◌∙◌}
use Prim.Native.Nat.{◌+◌, ◌-◌, ◌*◌}
use mathlib.Core.List.{◌++◌, append_assoc}
use lib.ListN.{length, take, drop}
use lib.Seq.{sets, sets-eq, drop-drop}
use Rattle.declared_records.proofs.put_numbers.Goals as goal

pub returns : goal.returns
returns c =
    let a = c.args in
    let rs = a.records.now in
    let n = 10 * a.k in
    let ten : n + 10 - n ≡ 10 = omega arith in
    let l : length a.numbers ≡ 10 = omega arith in
    let k : n + 10 ≡ n + length a.numbers = omega arith in
    let e : c.copy_from_slice.new.self ≡ a.numbers = c.copy_from_slice.ensures.after in
    let s : sets rs n a.numbers ≡ take n rs ++ a.numbers ++ drop (n + 10) rs = rw k (sets-eq a.numbers rs n (omega arith)) in
    rw (ten, e, drop-drop 10 n rs) (sym (s ∙ append_assoc (take n rs) a.numbers (drop (n + 10) rs)))
