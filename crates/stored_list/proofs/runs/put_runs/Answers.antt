-- `stored_list::put_runs` meets its contract. The loop's invariant: the runs from the number j on are still to be stored at n.
-- Assumes nothing.
use native.Mathlib.Omega.{arith}
use mathlib.Core.Path.{◌≡◌, sym, ap, ◌∙◌}
use mathlib.Core.List.{List, ◌++◌}
use Prim.Native.Nat.{ℕ, ◌+◌, ◌-◌, ◌*◌}
use borrow.Author.Rules.{rules}
use lib.ListN.{length}
use Rattle.stored_list.specs.Fields.{field_of}
use Rattle.stored_list.specs.Runs.{hex_run, runs_from, runs_of}
use Rattle.stored_list.proofs.StoringLaws.{storing_list}
use Rattle.stored_list.proofs.RepeatLaws.{runs_step, run_fields}
use Rattle.stored_list.proofs.runs.put_runs.Goals as goal

pub loop-j-preserved : goal.loop-j-preserved
loop-j-preserved c =
    let l = c.loop-j in
    let s = c.args in
    let xs = s.line.now in
    let a = c.append_hex-n in
    let f = c.field-times in
    let g = c.field in
    let m = c.count in
    let u = hex_run m.result g.result.now in
    let t = runs_from (500 - (l.j + 1)) (l.j + 1) xs in
    let some : length f.result.now ≡ 0 → ⊥ = search rules in
    let z : length (field_of (2 * l.j + 1) xs) ≡ 0 → ⊥ = λ h. some (ap length f.ensures ∙ h) in
    let e = run_fields l.j xs f.result.now g.result.now m.result f.ensures m.ensures.value g.ensures in
    storing_list s.out.now 0 (runs_of xs) l.out l.n (runs_from (500 - l.j) l.j xs) u t a.new.out a.result
    l.invariant (runs_step 500 l.j xs (omega arith) z ∙ ap (λ (k : List ℕ). k ++ t) (sym e)) a.ensures.out_after a.ensures.value
