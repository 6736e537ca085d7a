use Rattle.std.proofs.Common.{◌≡◌, length, drop}
use Rattle.stored_list.specs.Numbers.{numbers_of}
use Rattle.stored_list.proofs.StoringLaws.{Storing}
use Rattle.stored_list.proofs.numbers.put_numbers.Given as goal

abbrev pub invariant-loop-field : goal.invariant-loop-field
invariant-loop-field l = (l.n ≡ length l.yielded) × Storing l.initial.out 0 (numbers_of l.line) l.out l.n (drop l.n (numbers_of l.line))
