-- What the lent buffers hold when a call ends. Assumes nothing.
use mathlib.Core.Path.{◌≡◌, refl, sym, ap, ◌∙◌}
use mathlib.Core.List.{List, ◌++◌, append_assoc}
use Prim.Native.Nat.{ℕ, ◌+◌, ◌-◌, ◌≤◌}
use native.Mathlib.Omega.{arith}
use lib.ListN.{length, take, drop, replicate, length-take, length-append, length-replicate}
use lib.Seq.{sets, sets-eq, take-append-le, drop_at, length-take-le}
use Rattle.spec.specs.Outcome.{qualified_target, using_clause, result_too_long, accepted, refused, Rewriting}
use Rattle.spec.specs.Answers.{result_of, call_numbers, zeroed_to}
use Rattle.spec.specs.Declarations.{Declared}

-- the answer says how long the output is
pub answer_length : (ds : List Declared) (w : Rewriting) → (call_numbers (result_of ds w).answer).length ≡ length (result_of ds w).output
unfolding result_of
answer_length ds (accepted ys) = refl
answer_length ds (refused (qualified_target q n)) = refl
answer_length ds (refused (using_clause c)) = refl
answer_length ds (refused result_too_long) = refl

-- zeros behind a result that stands in front of a buffer, and nothing beyond the size
pub zeros_behind : (size n : ℕ) (d d' ys : List ℕ) → size ≤ length d' → n ≤ size → drop size d' ≡ drop size d → take n d' ≡ ys
    → sets d' n (replicate (size - n) 0) ≡ zeroed_to size ys d
unfolding zeroed_to
zeros_behind size n d d' ys l m b t =
    let z = replicate {A = ℕ} (size - n) 0 in
    let k = length-replicate {A = ℕ} (size - n) 0 in
    let a : n ≡ length ys = sym (length-take-le n d' (omega arith)) ∙ ap length t in
    let e : n + length z ≡ size = omega (arith, m, k) in
    sets-eq z d' n (omega (arith, l, e)) ∙ rw (t, e, b, a) (append_assoc ys (replicate (size - length ys) 0) (drop size d))

-- the same where the result stands in front of a part
pub zeros_behind_part : (size n : ℕ) (part d ys : List ℕ) → length part ≡ size → n ≡ length ys → take (length ys) part ≡ ys
    → sets (part ++ drop size d) n (replicate (size - n) 0) ≡ zeroed_to size ys d
zeros_behind_part size n part d ys l a t =
    let m : n ≤ length part = omega (arith, a, ap length t, length-take (length ys) part) in
    zeros_behind size n d (part ++ drop size d) ys (omega (arith, l, length-append part (drop size d))) (omega (arith, l, m))
    (drop_at part (drop size d) size l)
    (take-append-le n part (drop size d) m ∙ (ap (λ (i : ℕ). take i part) a ∙ t))
