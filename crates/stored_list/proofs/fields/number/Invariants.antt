use Rattle.std.proofs.Common.{◌≡◌, ◌≤◌, drop}
use Rattle.stored_list.specs.Numbers.{with_digits}
use Rattle.stored_list.proofs.fields.number.Given as goal

abbrev pub invariant-loop-b : goal.invariant-loop-b
invariant-loop-b l = (with_digits 0 l.digits ≡ with_digits l.n (drop l.b-index l.digits)) × (l.n ≤ 9999999)
