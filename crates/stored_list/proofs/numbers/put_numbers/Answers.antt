-- `stored_list::put_numbers` meets its contract. The loop's invariant: n fields were taken, and the numbers of the others are still
-- to be stored at n. Assumes nothing.
use mathlib.Core.Path.{refl}
use mathlib.Core.List.{[], ◌∷◌}
use Prim.Native.Nat.{◌+◌}
use native.Mathlib.Omega.{arith}
use lib.Dec.{eqb}
use lib.ListN.{drop, length-append}
use Rattle.std.proofs.Common.{rules, tests}
use Rattle.std.proofs.lemmas.Iterator.Adapters.{YieldsList-from_skip}
use Rattle.std.proofs.lemmas.Iterator.Consumers.{YieldsList-at, YieldsList-turn, YieldsList-end}
use Rattle.std.proofs.lemmas.Iterator.Splits.{YieldsList-from_slice_split}
use Rattle.stored_list.specs.Fields.{fields_of}
use Rattle.stored_list.specs.Numbers.{numbers_of}
use Rattle.stored_list.proofs.StoringLaws.{storing_one, stored_all, stored_full}
use Rattle.stored_list.proofs.NumberLaws.{counted_one, counted_end}
use Rattle.stored_list.proofs.numbers.put_numbers.Goals as goal

pub loop-field-preserved : goal.loop-field-preserved
loop-field-preserved c =
    let l = c.loop-field in
    let s = c.args in
    let xs = s.line.now in
    let parts = drop 1 (fields_of xs) in
    let turn = YieldsList-turn (YieldsList-at c.into_iter-field-iterator.ensures.into_iter_gives
    (YieldsList-from_skip 1 (YieldsList-at c.skip-field-items.ensures.source
    (YieldsList-from_slice_split _ (λ b. eqb b 32) xs c.split.ensures.rest c.split.ensures.done c.split.ensures.closure
    (λ x r q k. search (rules, tests)))) c.skip-field-items.ensures.count))
    l.yielded l.field-iterator l.yielded_by c.next.result c.next.new.self c.in-Some.field c.in-Some.is c.next.ensures.steps in
    let v = c.count.result in
    let e = l.invariant.0 in
    let more = counted_one parts l.n c.in-Some.field.now v (omega (arith, turn.0)) (rw e turn.1) c.count.ensures.value in (
      omega (arith, e, length-append l.yielded (c.in-Some.field ∷ [])),
      storing_one s.out.now 0 (numbers_of xs) l.out l.n (drop l.n (numbers_of xs)) (drop (l.n + 1) (numbers_of xs)) _ v (l.n + 1)
          l.invariant.1 (omega (arith, c.if-out-n.false)) more refl refl,
    )

pub returns-then-out-n : goal.returns-then-out-n
returns-then-out-n c =
    let l = c.loop-field in
    let s = c.args in
    let xs = s.line.now in
    let t = stored_full s.out.now 0 (numbers_of xs) l.out l.n (drop l.n (numbers_of xs)) l.invariant.1 c.if-out-n.true in
    record { value = omega (arith, t.count); out_after = t.content }

pub returns : goal.returns
returns c =
    let l = c.loop-field in
    let s = c.args in
    let xs = s.line.now in
    let parts = drop 1 (fields_of xs) in
    let end = YieldsList-end (YieldsList-at c.into_iter-field-iterator.ensures.into_iter_gives
    (YieldsList-from_skip 1 (YieldsList-at c.skip-field-items.ensures.source
    (YieldsList-from_slice_split _ (λ b. eqb b 32) xs c.split.ensures.rest c.split.ensures.done c.split.ensures.closure
    (λ x r q k. search (rules, tests)))) c.skip-field-items.ensures.count))
    l.yielded l.field-iterator l.yielded_by c.next.result c.next.new.self c.in-None.is c.next.ensures.steps in
    let t = stored_all s.out.now 0 (numbers_of xs) l.out l.n (drop l.n (numbers_of xs)) l.invariant.1
    (counted_end parts l.n (omega (arith, end.1, l.invariant.0))) in
    record { value = omega (arith, t.count); out_after = t.content }
