-- `declared_parts::read_type` meets its contract. `places_by` gives the definition by what the calls answered. Assumes nothing.
use Rattle.declared_parts.proofs.TypePlaceLaws.{places_by}
use Rattle.declared_parts.proofs.read_type.Goals as goal

pub returns-clause-value : goal.returns-clause-value
returns-clause-value c =
    let s = c.run_end-start in
    let f = c.constant_len-constant in
    let n = c.ahead_of_not_null-ahead in
    rw (c.unwrap_or-len.ensures, c.unwrap_or.ensures, c.is_some.ensures, c.is_some-2.ensures)
    (places_by c.args.text.now s.result f.result n.result s.ensures.value f.ensures.value (rw c.unwrap_or.ensures at n.ensures.value))
