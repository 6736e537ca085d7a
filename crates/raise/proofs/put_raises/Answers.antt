-- `raise::put_raises` meets its contract. A turn writes the text before the RAISE found, and what becomes of that RAISE; what the
-- definition makes of the rest is left. Assumes nothing.
use Rattle.std.proofs.Common.{rules, ◌≡◌, refl, Err, ◌-◌, ◌∙◌, arith, drop}
use lib.ListN.{length-take}
use Rattle.spec.specs.Lists.{is_empty}
use Rattle.spec.specs.Raise.{action_of}
use Rattle.raise.proofs.PassLaws.{raise_within, rest_length, raise_refused, raise_turn}
use Rattle.raise.proofs.put_raises.Goals as goal

pub returns-in_err-put_raise : goal.returns-in_err-put_raise
unfolding is_empty
returns-in_err-put_raise c =
    let l = c.loop-at in
    let handed : c.from_residual.result ≡ Err c.in_err-put_raise.field-0.0 = search rules in
    rw handed
    (raise_refused (action_of c.args.actions) c.args.text.now _ c.text-bytes.ensures l.from _ c.in-Some.ensures _ c.read_raise-read.ensures.reads _ l.invariant.3 c.put_all.ensures _ c.in_err-put_raise.ensures.wrote _ refl)

pub loop-at-preserved : goal.loop-at-preserved
unfolding is_empty
loop-at-preserved c =
    let t = c.args.text.now in
    let l = c.loop-at in
    let at = c.in-Some.at in
    let w =
    raise_turn (action_of c.args.actions) t _ c.text-bytes.ensures l.from at c.in-Some.ensures _ c.read_raise-read.ensures.reads _ l.invariant.3 c.put_all.ensures _ c.in_ok-put_raise.ensures.wrote refl in
    let h = raise_within t l.from at c.in-Some.ensures in (
      omega (arith, h, rest_length t _ c.text-bytes.ensures at, c.read_raise-read.ensures.end_in_bounds),
      omega (arith, h, l.invariant.1, c.put_all.ensures.count, c.in_ok-put_raise.ensures.within, length-take (at - l.from) (drop l.from c.text-bytes.result.now)),
      w.1 ∙ l.invariant.2,
      w.0,
    )
