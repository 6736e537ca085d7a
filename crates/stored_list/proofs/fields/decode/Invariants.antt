use Rattle.std.proofs.Common.{◌*◌, drop}
use Rattle.stored_list.specs.Numbers.{hex_bytes}
use Rattle.stored_list.proofs.StoringLaws.{Storing}
use Rattle.stored_list.proofs.fields.decode.Given as goal

abbrev pub invariant-loop-i : goal.invariant-loop-i
invariant-loop-i l = Storing l.initial.out 0 (hex_bytes l.hex) l.out l.i (hex_bytes (drop (2 * l.i) l.hex))
