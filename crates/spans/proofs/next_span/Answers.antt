-- `spans::next_span` meets its contract, with a law for each return; at `--` the comment is what stands behind the two
-- bytes. Assumes nothing.
use Rattle.std.proofs.Common.{◌≡◌, ◌-◌, length, take, drop, rules}
use Rattle.std.proofs.lemmas.List.{take_rest}
use Rattle.spec.specs.Bytes.{is_pair}
use Rattle.spec.specs.Spans.{line_len}
use Rattle.spec.proofs.SpanLaws.{at_line}
use Rattle.spans.proofs.next_span.Goals as goal

pub returns-in-45-eq45 : goal.returns-in-45-eq45
unfolding is_pair
returns-in-45-eq45 c =
    let xs = c.args.rest.now in
    let h : c.line_len.result ≡ line_len (take (length xs - 2) (drop 2 xs)) = c.line_len.ensures in
    let behind : c.line_len.result ≡ line_len (drop 2 xs) = rw take_rest at h in
    rw (at_line xs _ _ c.byte_at-c.ensures c.byte_at.ensures (search rules), behind)
