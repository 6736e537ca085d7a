-- Demand 3 about three body calls with one table, each with buffers of its own: what they answer and what they leave in the
-- output. Assumes nothing.
use Rattle.std.specs.Prelude.{Result}
use mathlib.Core.Path.{◌≡◌, refl, sym, ap, ◌∙◌}
use mathlib.Core.Bool.{Bool, true}
use mathlib.Core.List.{List, [], ◌++◌}
use mathlib.Core.Logic.{◌↔◌}
use Prim.Native.Nat.{ℕ}
use Rattle.spec.specs.Closed.{is_closed}
use Rattle.spec.specs.Answers.{text_limit, check_of, call_numbers, call_answer, body_result, by_table, body_check, body_answer}
use Rattle.joining.specs.Call.{Lent, number_of, rewritten, Called, given, result}
use Rattle.joining.proofs.Demand.{lent, taken_text, zero_taken, joined}
use Rattle.spec.specs.declared.Refusal.{Refusal}
use Rattle.spec.specs.Raise.{Actions}

-- which buffers are lent makes no difference to the number, nor to the text of an accepted call
same_number : (levels : Result Actions Refusal) (l m : Lent) (xs : List ℕ) → number_of levels l xs ≡ number_of levels m xs
unfolding number_of body_answer body_check
same_number levels l m xs =
    ap (λ (e : Bool). (call_numbers (call_answer (check_of text_limit e xs []) (by_table levels (body_result xs)).answer)).number) (lent levels l xs ∙ sym (lent levels m xs))

same_text : (levels : Result Actions Refusal) (l m : Lent) (xs : List ℕ) → number_of levels l xs ≡ 0 → rewritten levels l xs ≡ rewritten levels m xs
same_text levels l m xs h = let t = zero_taken levels l xs h in taken_text levels l xs t.0 t.1 ∙ sym (taken_text levels m xs t.0 t.1)

module _ {levels : Result Actions Refusal} {xs : List ℕ} (c : Called levels xs) where
  is_number : given c ≡ number_of levels c.lent xs
  unfolding number_of
  is_number = ap (λ r. (call_numbers r).number) c.answered

  is_text_lem : result c ≡ rewritten levels c.lent xs
  unfolding rewritten
  is_text_lem = rw (c.answered, c.written) refl

-- for every table, every closed a and every b, where the call on a ++ b gives neither 1 nor 6
pub joined_calls : (levels : Result Actions Refusal) (a b : List ℕ) (x : Called levels a) (y : Called levels b) (z : Called levels (a ++ b)) → is_closed a ≡ true
    → (given z ≡ 1 → ⊥)
    → (given z ≡ 6 → ⊥)
    → ((given z ≡ 0) ↔ ((given x ≡ 0) × (given y ≡ 0))) × (given z ≡ 0 → result z ≡ result x ++ result y)
joined_calls levels a b x y z c one six =
    let l = z.lent in
    let n = is_number z in
    let u = same_number levels x.lent l a in
    let v = same_number levels y.lent l b in
    let k = joined levels l a b c (λ h. one (n ∙ h)) (λ h. six (n ∙ h)) in (
      (
        (λ h. let w = k.0.0 (sym n ∙ h) in (is_number x ∙ (u ∙ w.0), is_number y ∙ (v ∙ w.1))),
        (λ w. n ∙ k.0.1 (sym u ∙ (sym (is_number x) ∙ w.0), sym v ∙ (sym (is_number y) ∙ w.1))),
      ),
      (λ h.
          let w = k.0.0 (sym n ∙ h) in
          let p : result x ≡ rewritten levels l a = is_text_lem x ∙ same_text levels x.lent l a (u ∙ w.0) in
          let q : result y ≡ rewritten levels l b = is_text_lem y ∙ same_text levels y.lent l b (v ∙ w.1) in
          is_text_lem z ∙ (k.1 (sym n ∙ h) ∙ rw (p, q) refl)),
    )
