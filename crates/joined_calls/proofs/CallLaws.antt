-- Demand 3 out of what three calls of `transform_body_by_table` promise. Assumes nothing.
use Rattle.std.specs.Prelude.{Result}
use mathlib.Core.Path.{◌≡◌}
use mathlib.Core.List.{List, ◌++◌}
use Prim.Native.Nat.{ℕ, ◌≤◌}
use lib.ListN.{length, take, drop, take-append-drop}
use Rattle.spec.specs.Body.{buffer_size}
use Rattle.spec.specs.Answers.{are_lent, body_check, body_answer, body_output, work_exit}
use Rattle.joining.specs.Call.{Called}
use Rattle.joining.proofs.CallDemand.{joined_calls}
use Rattle.joined_calls.specs.Joins.{Joins}
use Rattle.joined_calls.specs.declared.Joined.{Joined}
use Rattle.spec.specs.declared.Refusal.{Refusal}
use Rattle.spec.specs.Raise.{Actions}
use Rattle.spec.specs.declared.Accepted.{Accepted}

-- what `transform_body_by_table` promises of a table and a text: its answer, and its three buffers at exit
abbrev pub Promise : Result Actions Refusal → List ℕ → List ℕ → List ℕ → List ℕ → Result Accepted Refusal → List ℕ → List ℕ → List ℕ → Type 0
Promise levels xs out work spare r left work_left spare_left =
    (r ≡ body_answer levels xs out work spare)
    × ((left ≡ body_output levels xs out work spare) × ((work_left ≡ work_exit (body_check xs out work spare) work) × (spare_left ≡ work_exit (body_check xs out work spare) spare)))

-- only the lengths of the work buffers count in the checks
same_check : (xs out work spare c d : List ℕ) → length c ≡ length work → length d ≡ length spare → body_check xs out c d ≡ body_check xs out work spare
unfolding body_check are_lent
same_check xs out work spare c d p q = rw (p, q)

-- so a call with the work buffers that another call left promises the same as with those of the start
pub like_at_start : (levels : Result Actions Refusal) (xs ys out work spare c d : List ℕ) (r : Result Accepted Refusal) (left work_left spare_left : List ℕ) → Promise levels ys out c d r left work_left spare_left
    → ys ≡ xs → length c ≡ length work → length d ≡ length spare
    → (r ≡ body_answer levels xs out work spare)
    × ((left ≡ body_output levels xs out work spare) × ((work_left ≡ work_exit (body_check xs out work spare) c) × (spare_left ≡ work_exit (body_check xs out work spare) d)))
unfolding body_answer body_output
like_at_start levels xs ys out work spare c d r left work_left spare_left p e h k =
    let q : Promise levels xs out c d r left work_left spare_left = rw e at p in
    rw (same_check xs out work spare c d h k) at q

-- the length that the contract writes out
fits : (n : ℕ) → 65536 ≤ n → buffer_size ≤ n
unfolding buffer_size
fits n h = h

-- a call whose buffers have the stated lengths
abbrev called : (levels : Result Actions Refusal) (xs out work spare : List ℕ) (r : Result Accepted Refusal) (left : List ℕ) → r ≡ body_answer levels xs out work spare
    → left ≡ body_output levels xs out work spare
    → 65536 ≤ length out → 65536 ≤ length work → 65536 ≤ length spare → Called levels xs
called levels xs out work spare r left p q h i j =
    record {
      lent = record { output = out; work = work; spare = spare; output_fits = fits _ h; work_fits = fits _ i; spare_fits = fits _ j };
      answer = r;
      left = left;
      answered = p;
      written = q;
    }

-- demand 3 about three calls with one table and buffers of the stated lengths
pub joins : (levels : Result Actions Refusal) (xs : List ℕ) (cut : ℕ) (whole first second work spare : List ℕ) (r : Joined) (o p q : List ℕ)
    → r.whole ≡ body_answer levels xs whole work spare → o ≡ body_output levels xs whole work spare
    → r.first ≡ body_answer levels (take cut xs) first work spare → p ≡ body_output levels (take cut xs) first work spare
    → r.second ≡ body_answer levels (drop cut xs) second work spare → q ≡ body_output levels (drop cut xs) second work spare
    → 65536 ≤ length whole → 65536 ≤ length first → 65536 ≤ length second → 65536 ≤ length work → 65536 ≤ length spare
    → Joins (take cut xs) r o p q
joins levels xs cut whole first second work spare r o p q r₁ o₁ r₂ o₂ r₃ o₃ h i j k l =
    let e = take-append-drop cut xs in
    let x = called levels (take cut xs) first work spare r.first p r₂ o₂ i k l in
    let y = called levels (drop cut xs) second work spare r.second q r₃ o₃ j k l in
    let z = called levels (take cut xs ++ drop cut xs) whole work spare r.whole o (rw e r₁) (rw e o₁) h k l in
    record {
      accepted = λ c one six. (joined_calls levels (take cut xs) (drop cut xs) x y z c one six).0;
      joined = λ c one six. (joined_calls levels (take cut xs) (drop cut xs) x y z c one six).1;
    }
