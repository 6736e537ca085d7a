-- `stored_list::append_hex` meets its contract. The first bytes of a buffer into which a field is decoded are the text of a
-- run. Assumes nothing.
use mathlib.Core.Path.{◌≡◌, ap, ◌∙◌}
use mathlib.Core.List.{List}
use Prim.Native.Nat.{ℕ, ◌+◌, min}
use lib.ListN.{length, take}
use Rattle.std.proofs.lemmas.List.{length-replicate}
use lib.Seq.{sets}
use Rattle.stored_list.specs.Numbers.{hex_bytes}
use Rattle.stored_list.specs.Runs.{repeated, run_limit}
use Rattle.stored_list.proofs.RepeatLaws.{held}
use Rattle.stored_list.proofs.runs.append_hex.Goals as goal

pub returns : goal.returns
returns c =
    let s = c.args in
    let a = c.append_times in
    let d = c.decode-k in
    let vs = hex_bytes s.hex.now in
    let text : take d.result d.new.out ≡ take run_limit vs = held {A = ℕ} _ d.new.out vs d.result d.ensures.out_after d.ensures.value
    ∙ ap (λ (n : ℕ). take n vs) (length-replicate {A = ℕ} 4096 0) in
    let reach = ap (λ (l : List ℕ). min (s.n + length (repeated s.times l)) (length s.out.now)) text in
    let stores = ap (λ (l : List ℕ). sets s.out.now s.n (repeated s.times l)) text in
    record { value = a.ensures.value ∙ reach; out_after = a.ensures.out_after ∙ stores }
