-- Demand 3 about the whole call: first for a body whose texts between the passes are continuable, then for a closed one.
-- Assumes nothing.
use Rattle.std.specs.Prelude.{Result, Ok, Err, ⊤}
use mathlib.Core.Path.{◌≡◌, refl, sym, ap, ◌∙◌}
use mathlib.Core.Bool.{true}
use mathlib.Core.List.{List, [], ◌∷◌, ◌++◌}
use mathlib.Core.Logic.{◌↔◌}
use Prim.Native.Nat.{ℕ, zero, suc, ◌+◌, ◌≤◌, zero-le, suc-le-suc}
use native.Mathlib.Omega.{arith}
use borrow.Author.Tests.{le-leb, ltb-true, ltb-false}
use native.Mathlib.Nat.{le_of_suc-le-suc}
use lib.Dec.{ltb}
use Rattle.spec.proofs.Choice.{by}
use lib.ListN.{length, length-append, get_or-append}
use lib.Seq.{take-append_seam, get_or-append-add}
use Rattle.spec.specs.Bytes.{is_high}
use Rattle.spec.specs.Outcome.{result_too_long, handed_back, accepted, refused, Rewriting}
use Rattle.spec.specs.Raise.{action_of}
use Rattle.spec.specs.Body.{buffer_size, rewriting}
use Rattle.spec.specs.Answers.{text_limit, refusal_numbers, call_numbers, result_of, body_result, by_table, are_lent, body_check, body_answer, body_output, zeroed_to, call_answer}
use Rattle.spec.specs.declared.Refusal.{Refusal}
use Rattle.spec.specs.declared.Refusal.TheVariants.{TextTooLong, NotAscii, BufferTooShort, QualifiedTarget, UsingClause, ResultTooLong, TooManyNames, MalformedLine, RepeatedLevel, MissingLevel}
use Rattle.spec.specs.Raise.{Actions}
use Rattle.spec.proofs.CheckLaws.{NoHigh, too_long, check_only, check_always}
use Rattle.joining.specs.Continuable.{Continuable}
use Rattle.joining.specs.Call.{Lent, check_by, number_of, rewritten}
use Rattle.spec.specs.Closed.{is_closed}
use Rattle.joining.proofs.Kept.{continuable}
use Rattle.joining.proofs.Chain.{rewriting_split, rewriting_both}

-- a body is accepted: within the limit, no byte over 127, the table is given, and the passes accept it with its actions
pub record Taken (levels : Result Actions Refusal) (xs zs : List ℕ) : Type 0 where
  pub fits : length xs ≤ text_limit
  pub ascii : NoHigh xs
  pub actions : Actions
  pub given : levels ≡ Ok actions
  pub result : rewriting (action_of actions) xs ≡ accepted zs

-- no refusal has the number 0
refusal_number : (f : Refusal) → (refusal_numbers f).number ≡ 0 → ⊥
refusal_number TextTooLong h = omega arith
refusal_number (NotAscii i) h = omega arith
refusal_number BufferTooShort h = omega arith
refusal_number (QualifiedTarget q n) h = omega arith
refusal_number (UsingClause n) h = omega arith
refusal_number ResultTooLong h = omega arith
refusal_number TooManyNames h = omega arith
refusal_number (MalformedLine i) h = omega arith
refusal_number (RepeatedLevel i) h = omega arith
refusal_number (MissingLevel i) h = omega arith

module _ (levels : Result Actions Refusal) (l : Lent) (xs : List ℕ) where
  pub lent : are_lent l.output l.work l.spare ≡ true
  unfolding are_lent
  lent =
      rw (le-leb buffer_size (length l.output) l.output_fits, le-leb buffer_size (length l.work) l.work_fits)
      (le-leb buffer_size (length l.spare) l.spare_fits)

  pub passes_check : length xs ≤ text_limit → NoHigh xs → check_by l xs ≡ Ok tt
  unfolding body_check
  passes_check f n = rw lent (check_always text_limit true xs [] (Ok tt) (f, refl, n, (λ k h. absurd (omega arith))))

  -- what the call gives where the checks pass, and where the table is given too
  pub number_table : check_by l xs ≡ Ok tt → number_of levels l xs ≡ (call_numbers (by_table levels (body_result xs)).answer).number
  unfolding number_of body_answer
  number_table e = ap (λ (c : Result ⊤ Refusal). (call_numbers (call_answer c (by_table levels (body_result xs)).answer)).number) e

  pub number_passed : check_by l xs ≡ Ok tt → (a : Actions) → levels ≡ Ok a
      → number_of levels l xs ≡ (call_numbers (result_of [] (rewriting (action_of a) xs)).answer).number
  unfolding body_result
  number_passed e a g = number_table e ∙ ap (λ (t : Result Actions Refusal). (call_numbers (by_table t (body_result xs)).answer).number) g

  pub number_refused : (r : Refusal) → check_by l xs ≡ Err r → number_of levels l xs ≡ (refusal_numbers r).number
  unfolding number_of body_answer
  number_refused r e = ap (λ (c : Result ⊤ Refusal). (call_numbers (call_answer c (by_table levels (body_result xs)).answer)).number) e

  pub taken_text : (zs : List ℕ) → Taken levels xs zs → rewritten levels l xs ≡ zs
  unfolding rewritten body_answer body_output body_result result_of zeroed_to
  taken_text zs t = rw (passes_check t.fits t.ascii, t.given, t.result) (take-append_seam zs _)

  taken_zero : (zs : List ℕ) → Taken levels xs zs → number_of levels l xs ≡ 0
  unfolding result_of
  taken_zero zs t = number_passed (passes_check t.fits t.ascii) t.actions t.given ∙ rw t.result refl

  -- 1 exactly past the limit, else a byte over 127, the table or the passes decide
  pub zero_taken : number_of levels l xs ≡ 0 → (zs : List ℕ) × Taken levels xs zs
  unfolding result_of body_check
  zero_taken h = by_check (check_by l xs) refl
    where
      by_result : check_by l xs ≡ Ok tt → (a : Actions) → levels ≡ Ok a → (r : Rewriting) → rewriting (action_of a) xs ≡ r
          → (zs : List ℕ) × Taken levels xs zs
      by_result e a g (accepted zs) q =
          let c = check_only text_limit _ xs [] (Ok tt) e in
          (zs, record { fits = c.0; ascii = c.2; actions = a; given = g; result = q })
      by_result e a g (refused f) q =
          let z : 0 ≡ (refusal_numbers (handed_back f).refusal).number = sym h ∙ (number_passed e a g ∙ rw q refl) in
          absurd (refusal_number (handed_back f).refusal (sym z))

      by_levels : check_by l xs ≡ Ok tt → (t : Result Actions Refusal) → levels ≡ t → (zs : List ℕ) × Taken levels xs zs
      by_levels e (Ok a) g = by_result e a g (rewriting (action_of a) xs) refl
      by_levels e (Err f) g =
          let z : 0 ≡ (refusal_numbers f).number =
          sym h ∙ (number_table e ∙ ap (λ (t : Result Actions Refusal). (call_numbers (by_table t (body_result xs)).answer).number) g) in
          absurd (refusal_number f (sym z))

      by_check : (c : Result ⊤ Refusal) → check_by l xs ≡ c → (zs : List ℕ) × Taken levels xs zs
      by_check (Ok tt) e = by_levels e levels refl
      by_check (Err f) e = absurd (refusal_number f (sym (number_refused f e) ∙ h))

  -- the call gives 0, and these bytes, exactly if the text is within the limit and ASCII, the table is given, and the passes
  -- accept the text with them
  pub zero_exactly : (number_of levels l xs ≡ 0) ↔ ((zs : List ℕ) × Taken levels xs zs × (rewritten levels l xs ≡ zs))
  zero_exactly = ((λ h. let t = zero_taken h in (t.0, t.1, taken_text t.0 t.1)), (λ w. taken_zero w.0 w.1))

  -- a text that is not refused by 1 is within the limit
  pub not_one : (number_of levels l xs ≡ 1 → ⊥) → length xs ≤ text_limit
  unfolding body_check
  not_one h = by (ltb text_limit (length xs)) (λ e. absurd (h (number_refused TextTooLong (long e)))) (λ e. ltb-false text_limit (length xs) e)
    where
      long : ltb text_limit (length xs) ≡ true → check_by l xs ≡ Err TextTooLong
      long e = check_always text_limit _ xs [] (Err TextTooLong) (too_long refl (ltb-true text_limit (length xs) e))

  -- nor do the passes exceed the buffer where the checks pass, the table is given and 6 is not
  not_six : (number_of levels l xs ≡ 6 → ⊥) → check_by l xs ≡ Ok tt → (a : Actions) → levels ≡ Ok a
      → rewriting (action_of a) xs ≡ refused result_too_long → ⊥
  unfolding result_of
  not_six h e a g q = h (number_passed e a g ∙ rw q refl)

-- bytes over 127 in two texts joined
high_left : (a b : List ℕ) → NoHigh (a ++ b) → NoHigh a
high_left a b h k i = sym (ap is_high (get_or-append a b 0 k i)) ∙ h k (omega (arith, length-append a b))

high_right : (a b : List ℕ) → NoHigh (a ++ b) → NoHigh b
high_right a b h k i = sym (ap is_high (get_or-append-add a b k 0)) ∙ h (length a + k) (omega (arith, length-append a b))

pub high_both : (a b : List ℕ) → NoHigh a → NoHigh b → NoHigh (a ++ b)
high_both [] b p q k i = q k i
high_both (x ∷ a) b p q zero i = p zero (suc-le-suc zero-le)
high_both (x ∷ a) b p q (suc k) i = high_both a b (λ j h. p (suc j) (suc-le-suc h)) q k (le_of_suc-le-suc i)

module _ (levels : Result Actions Refusal) (l : Lent) (a : List ℕ) (s : Continuable a) (b : List ℕ) where
  split : (zs : List ℕ) → Taken levels (a ++ b) zs
      → (us : List ℕ) × (vs : List ℕ) × Taken levels a us × Taken levels b vs × (zs ≡ us ++ vs)
  split zs t =
      let w = rewriting_split (action_of t.actions) a s b zs t.result in
      let n = length-append a b in (
        w.front,
        w.back,
        record { fits = omega (arith, t.fits, n); ascii = high_left a b t.ascii; actions = t.actions; given = t.given; result = w.first },
        record { fits = omega (arith, t.fits, n); ascii = high_right a b t.ascii; actions = t.actions; given = t.given; result = w.second },
        w.whole,
      )

  -- 0 for the joined body gives 0 for both, and the joined rewriting is the two rewritings joined
  pub joined_zero : number_of levels l (a ++ b) ≡ 0 → (number_of levels l a ≡ 0) × (number_of levels l b ≡ 0)
  joined_zero h =
      let t = zero_taken levels l (a ++ b) h in
      let w = split t.0 t.1 in
      (taken_zero levels l a w.0 w.2, taken_zero levels l b w.1 w.3)

  pub joined_text : number_of levels l (a ++ b) ≡ 0 → rewritten levels l (a ++ b) ≡ rewritten levels l a ++ rewritten levels l b
  joined_text h =
      let t = zero_taken levels l (a ++ b) h in
      let w = split t.0 t.1 in
      taken_text levels l (a ++ b) t.0 t.1
      ∙ (w.4 ∙ rw (taken_text levels l a w.0 w.2, taken_text levels l b w.1 w.3) refl)

  -- 0 for both gives 0 for the joined body unless it meets a size limit
  pub both_zero : (number_of levels l (a ++ b) ≡ 1 → ⊥) → (number_of levels l (a ++ b) ≡ 6 → ⊥)
      → number_of levels l a ≡ 0 → number_of levels l b ≡ 0
      → number_of levels l (a ++ b) ≡ 0
  both_zero one six p q =
      let t = zero_taken levels l a p in
      let u = zero_taken levels l b q in
      let given = t.1.given in
      let again = u.1.given in
      let same : u.1.actions ≡ t.1.actions = cc in
      let f = not_one levels l (a ++ b) one in
      let n = high_both a b t.1.ascii u.1.ascii in
      let act = action_of t.1.actions in
      let long = not_six levels l (a ++ b) six (passes_check levels l (a ++ b) f n) t.1.actions given in
      let back : rewriting act b ≡ accepted u.0 = ap (λ (x : Actions). rewriting (action_of x) b) (sym same) ∙ u.1.result in
      let r = rewriting_both act a s b t.0 u.0 t.1.result back long in
      taken_zero levels l (a ++ b) (t.0 ++ u.0)
      (record { fits = f; ascii = n; actions = t.1.actions; given = given; result = r })

-- Demand 3, in its own words and for every table: for a closed body a and any body b, where the call on the joined body meets
-- no size limit, it gives 0 exactly if it gives 0 for both, and then the joined rewriting is the two rewritings joined. Where
-- the table is refused, the call gives 0 for none of them.
pub joined : (levels : Result Actions Refusal) (l : Lent) (a b : List ℕ) → is_closed a ≡ true
    → (number_of levels l (a ++ b) ≡ 1 → ⊥)
    → (number_of levels l (a ++ b) ≡ 6 → ⊥)
    → ((number_of levels l (a ++ b) ≡ 0) ↔ ((number_of levels l a ≡ 0) × (number_of levels l b ≡ 0)))
    × (number_of levels l (a ++ b) ≡ 0 → rewritten levels l (a ++ b) ≡ rewritten levels l a ++ rewritten levels l b)
joined levels l a b c one six =
    let s = continuable a c in
    ((joined_zero levels l a s b, (λ w. both_zero levels l a s b one six w.0 w.1)), joined_text levels l a s b)
