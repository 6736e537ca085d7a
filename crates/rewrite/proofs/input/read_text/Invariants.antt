use Rattle.std.proofs.Common.{◌≤◌, ◌≡◌, length}
use Rattle.rewrite.proofs.input.read_text.Given as goal

abbrev pub invariant-loop-turn : goal.invariant-loop-turn
invariant-loop-turn g l = (length l.text ≡ length l.initial.text) × (length l.chunk ≡ 4096) × (l.n ≤ length l.initial.text)
