-- `joined_calls::transform_joined` meets its contract, of which the last clause is demand 3. The second and third call
-- find work buffers of the first call's lengths, so by `like_at_start` they answer as on the buffers of entry; the
-- theorem on joined bodies does the rest. Assumes nothing.
use Rattle.std.proofs.lemmas.List.{take_rest}
use Prim.Native.Nat.{◌-◌}
use mathlib.Core.Path.{sym, ◌∙◌}
use lib.ListN.{length, take, drop}
use lib.Seq.{length-take-le}
use Rattle.joined_calls.proofs.CallLaws.{like_at_start, joins}
use Rattle.joined_calls.proofs.transform_joined.Goals as goal

pub slice_bounds-transform_body_by_table-end : goal.slice_bounds-transform_body_by_table-end
slice_bounds-transform_body_by_table-end c =
    sym (length-take-le c.cut_within-at.result c.args.text.now c.cut_within-at.ensures.upper_bound)

pub returns : goal.returns
returns c =
    let s = c.args in
    let xs = s.text.now in
    let a = s.work.now in
    let b = s.spare.now in
    let cut = c.cut_within-at in
    let u = c.transform_body_by_table-w in
    let v = c.transform_body_by_table-f in
    let w = c.transform_body_by_table-s in
    let p = like_at_start s.table (take s.cut xs) (take cut.result xs) s.first.now a b u.new.work u.new.spare v.result v.new.output v.new.work v.new.spare (v.ensures.value, (v.ensures.output_after, (v.ensures.work_after, v.ensures.spare_after))) cut.ensures.first_part u.auto.work u.auto.spare in
    let q = like_at_start s.table (drop s.cut xs) (take (length xs - cut.result) (drop cut.result xs)) s.second.now a b v.new.work v.new.spare w.result w.new.output w.new.work w.new.spare (w.ensures.value, (w.ensures.output_after, (w.ensures.work_after, w.ensures.spare_after))) (take_rest xs cut.result ∙ cut.ensures.second_part) (v.auto.work ∙ u.auto.work) (v.auto.spare ∙ u.auto.spare) in
    let e = u.ensures in
    record {
      whole_value = e.value;
      whole_after = e.output_after;
      first_value = p.0;
      first_after = p.1.0;
      second_value = q.0;
      second_after = q.1.0;
      work_after = rw (q.1.1.0, p.1.1.0, e.work_after);
      spare_after = rw (q.1.1.1, p.1.1.1, e.spare_after);
      joins = joins s.table xs s.cut s.whole.now s.first.now s.second.now a b _ _ _ _ e.value e.output_after p.0 p.1.0 q.0 q.1.0;
    }
