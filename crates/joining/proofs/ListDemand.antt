-- Demand 3 for a list of closed bodies with any body behind them, for every table. Assumes nothing.
use Rattle.std.specs.Prelude.{None, Result, Ok, Err, ⊤}
use mathlib.Core.Path.{◌≡◌, refl, sym, ap, ◌∙◌}
use mathlib.Core.Bool.{true}
use mathlib.Core.List.Memᴰ
use mathlib.Core.List.{List, [], ◌∷◌, ◌++◌, append_assoc, map, Memᴰ}
use mathlib.Core.Logic.{◌↔◌, ⊎_elim}
use Prim.Native.Nat.{ℕ, ◌≤◌, ◌<◌}
use native.Mathlib.Omega.{arith}
use borrow.Author.Tests.{eqb-true, eqb-false}
use lib.Dec.{eqb}
use lib.ListN.{length, length-append}
use Rattle.spec.proofs.Apart.{apart}
use Rattle.std.proofs.lemmas.Bool.{and_parts}
use Rattle.spec.proofs.Choice.{by}
use Rattle.spec.proofs.RefusalLaws.{after2, after3, after4, after5, target_in, clause_in, Through2, Through4, Exceeds, in1, in2, in3, in4, in5, assign_done, assign_refused, raise_done, raise_refused, qualified_exactly, using_exactly, too_long_exactly}
use Rattle.spec.proofs.RefusalCalls.{pass_number, pass_number_lem, told}
use Rattle.spec.proofs.TableNumbers.{IsTable, given_table}
use Rattle.spec.proofs.CheckLaws.{NoHigh, CheckRefuses, too_long, too_short, not_ascii, check_only, check_always}
use Rattle.spec.specs.Lists.{all, concat}
use Rattle.spec.specs.Map.{marked_text}
use Rattle.spec.specs.Requote.{requoted}
use Rattle.spec.specs.Assignments.{assignments}
use Rattle.spec.specs.Outcome.{qualified_target, using_clause, result_too_long, accepted, refused, Rewriting}
use Rattle.spec.specs.Raise.{action_of, raise}
use Rattle.spec.specs.declared.Level.{Level}
use Rattle.spec.specs.declared.Action.{Action}
use Rattle.spec.specs.Raise.{Actions}
use Rattle.spec.specs.Body.{buffer_size, assign_pass, raise_pass, rewriting}
use Rattle.spec.specs.Closed.{is_closed}
use Rattle.spec.specs.Answers.{text_limit, refusal_numbers, call_numbers, result_of, body_result, by_table, are_lent, body_check}
use Rattle.spec.specs.declared.Refusal.{Refusal}
use Rattle.spec.specs.declared.Refusal.TheVariants.{TextTooLong, BufferTooShort, NotAscii}
use Rattle.joining.specs.Continuable.{second_text, fourth_text, Continuable}
use Rattle.joining.specs.Call.{Lent, check_by, number_of, rewritten}
use Rattle.joining.proofs.Chain.{forget_both, assign_join, second_join, fourth_join, raised_join, rewriting_split, limited_exactly}
use Rattle.joining.proofs.PassJoin.{requoted_join}
use Rattle.joining.proofs.Kept.{continuable}
use Rattle.joining.proofs.Demand.{passes_check, number_table, number_passed, number_refused, zero_taken, high_both, not_one, joined_zero, joined_text, both_zero}

-- ---- a continuable text that is accepted, and behind it a text that is refusal 6

-- what is behind is no longer than both
back_fits : (a b c : List ℕ) → c ≡ a ++ b → length c ≤ buffer_size → buffer_size < length b → ⊥
back_fits a b c e h k = omega (arith, ap length e, length-append a b)

module _ (act : Level → Action) (a : List ℕ) (s : Continuable a) (us : List ℕ) (r : rewriting act a ≡ accepted us) (c : List ℕ) where
  -- the text of a after pass 3
  third : List ℕ
  third = ((limited_exactly act a us).0 r).0.middle

  -- pass 3 goes through both if it does so behind
  third_text : target_in (after2 c) ≡ None → assign_pass (after2 (a ++ c)) ≡ accepted (third ++ after3 c)
  unfolding assign_pass third
  third_text e =
      ap assign_pass (second_join a c s.first s.second)
      ∙ (assign_join (second_text a) (second_text c) s.third
      ∙ forget_both (assignments (marked_text (second_text a))) (assignments (marked_text (second_text c))) _ _
      ((limited_exactly act a us).0 r).0.third (assign_done (after2 c) e))

  -- and what pass 4 gives of both is what it gives of each, joined
  fourth_text_lem : fourth_text (third ++ after3 c) ≡ fourth_text third ++ after4 c
  unfolding third
  fourth_text_lem = fourth_join third (after3 c) (s.behind third ((limited_exactly act a us).0 r).0.third).quotes

  -- pass 5 goes through both if it does so behind
  fifth_text : clause_in act (after4 c) ≡ None → raise_pass act (fourth_text (third ++ after3 c)) ≡ accepted (us ++ after5 act c)
  unfolding raise_pass third
  fifth_text e =
      let q = s.behind third ((limited_exactly act a us).0 r).0.third in
      ap (raise_pass act) fourth_text_lem
      ∙ (raised_join act (fourth_text third) (after4 c) q.marks q.raises
      ∙ forget_both (raise act (marked_text (fourth_text third))) (raise act (marked_text (after4 c))) _ _
      ((limited_exactly act a us).0 r).0.fifth (raise_done act (after4 c) e))

  -- where passes 1 and 2 keep both within the buffer size, pass 3 refuses nothing behind
  no_target_lem : Through2 (a ++ c) → Exceeds act c → target_in (after2 c) ≡ None
  no_target_lem t (in1 h) = absurd (back_fits (requoted a) (requoted c) _ (requoted_join a c s.first) t.fits1 h)
  no_target_lem t (in2 f h) = absurd (back_fits (second_text a) (second_text c) _ (second_join a c s.first s.second) t.fits2 h)
  no_target_lem t (in3 u e h) = e
  no_target_lem t (in4 u h) = u.no_target
  no_target_lem t (in5 u e h) = u.before.no_target

  -- where passes 1 to 4 do, pass 5 refuses nothing behind
  after_third : Through4 (a ++ c) → Exceeds act c → after3 (a ++ c) ≡ third ++ after3 c
  after_third t x =
      let f = assign_done (after2 (a ++ c)) t.before.no_target in
      let g = third_text (no_target_lem t.before.before x) in
      cc

  no_clause_lem : Through4 (a ++ c) → Exceeds act c → clause_in act (after4 c) ≡ None
  no_clause_lem t x = go (after_third t x) x
    where
      go : after3 (a ++ c) ≡ third ++ after3 c → Exceeds act c → clause_in act (after4 c) ≡ None
      go m (in1 h) = absurd (back_fits (requoted a) (requoted c) _ (requoted_join a c s.first) t.before.before.fits1 h)
      go m (in2 f h) = absurd (back_fits (second_text a) (second_text c) _ (second_join a c s.first s.second) t.before.before.fits2 h)
      go m (in3 u e h) = absurd (back_fits third (after3 c) _ m t.before.fits3 h)
      go m (in4 u h) = absurd (back_fits (fourth_text third) (after4 c) _ (ap fourth_text m ∙ fourth_text_lem) t.fits4 h)
      go m (in5 u e h) = e

  -- so both joined are refusal 6
  pub long_behind : rewriting act c ≡ refused result_too_long → rewriting act (a ++ c) ≡ refused result_too_long
  long_behind k = go ((too_long_exactly act c).0 k) (rewriting act (a ++ c)) refl
    where
      go : Exceeds act c → (w : Rewriting) → rewriting act (a ++ c) ≡ w → rewriting act (a ++ c) ≡ refused result_too_long
      go x (accepted zs) e =
          let f = (rewriting_split act a s c zs e).second in
          absurd (apart (cc))
      go x (refused (qualified_target q n)) e =
          let t = (qualified_exactly act (a ++ c) q n).0 e in
          let f = assign_refused (after2 (a ++ c)) t.target t.first in
          let g = third_text (no_target_lem t.before x) in
          absurd (apart (cc))
      go x (refused (using_clause d)) e =
          let t = (using_exactly act (a ++ c) d).0 e in
          let f = raise_refused act (after4 (a ++ c)) d t.first in
          let m : raise_pass act (after4 (a ++ c)) ≡ accepted (us ++ after5 act c) =
          ap (λ (ys : List ℕ). raise_pass act (fourth_text ys)) (after_third t.before x) ∙ fifth_text (no_clause_lem t.before x) in
          absurd (apart (cc))
      go x (refused result_too_long) e = e

-- ---- the call

-- the checks pass, the table is given, and with its actions the passes give refusal 6
pub record TooLong (levels : Result Actions Refusal) (c : List ℕ) : Type 0 where
  pub fits : length c ≤ text_limit
  pub ascii : NoHigh c
  pub actions : Actions
  pub given : levels ≡ Ok actions
  pub exceeds : rewriting (action_of actions) c ≡ refused result_too_long

module _ (levels : Result Actions Refusal) (is : IsTable levels) (l : Lent) (c : List ℕ) where
  -- 1 is given past the limit, 6 where the result is too long, and another number else
  by_limit : {P : Type 0} → (number_of levels l c ≡ 1 → text_limit < length c → P) → (number_of levels l c ≡ 6 → TooLong levels c → P)
      → ((n : ℕ) → number_of levels l c ≡ n → (n ≡ 1 → ⊥) → (n ≡ 6 → ⊥) → P)
      → P
  unfolding body_check result_of
  by_limit {P} one six other = by_check (check_by l c) refl
    where
      by_result : check_by l c ≡ Ok tt → (a : Actions) → levels ≡ Ok a → (r : Rewriting) → rewriting (action_of a) c ≡ r → P
      by_result e a g (accepted zs) q = other 0 (number_passed levels l c e a g ∙ rw q refl) (λ z. omega arith) (λ z. omega arith)
      by_result e a g (refused f) q =
          let n : number_of levels l c ≡ pass_number f = number_passed levels l c e a g ∙ rw q refl in
          let k = check_only text_limit _ c [] (Ok tt) e in
          by (eqb (pass_number f) 6)
          (λ h.
          let d = eqb-true (pass_number f) 6 h in
          six (n ∙ d) (record { fits = k.0; ascii = k.2; actions = a; given = g; exceeds = q ∙ ap refused (told 6 f d) }))
          (λ h. other (pass_number f) n (λ z. omega (arith, (pass_number_lem f).0)) (eqb-false (pass_number f) 6 h))

      by_levels : check_by l c ≡ Ok tt → (t : Result Actions Refusal) → levels ≡ t → P
      by_levels e (Ok a) g = by_result e a g (rewriting (action_of a) c) refl
      by_levels e (Err f) g =
          let n = ap (λ (t : Result Actions Refusal). (call_numbers (by_table t (body_result c)).answer).number) g in
          other (refusal_numbers f).number (number_table levels l c e ∙ n) (λ z. omega (arith, (is f g).0)) (λ z. omega (arith, (is f g).0))

      by_check : (k : Result ⊤ Refusal) → check_by l c ≡ k → P
      by_check (Ok tt) e = by_levels e levels refl
      by_check (Err f) e = refuses (check_only text_limit _ c [] (Err f) e)
        where
          number : (g : Refusal) → f ≡ g → number_of levels l c ≡ (refusal_numbers g).number
          number g q = number_refused levels l c f e ∙ ap (λ (r : Refusal). (refusal_numbers r).number) q

          refuses : CheckRefuses text_limit (are_lent l.output l.work l.spare) c [] f → P
          refuses (too_long q h) = one (number TextTooLong q) h
          refuses (too_short q h n) = other 3 (number BufferTooShort q) (λ z. omega arith) (λ z. omega arith)
          refuses (not_ascii {i} q h y w) = other 2 (number (NotAscii i) q) (λ z. omega arith) (λ z. omega arith)

  one_only : number_of levels l c ≡ 1 → text_limit < length c
  one_only h = by_limit (λ e q. q) (λ e q. absurd (omega arith)) (λ n e p q. absurd (p (sym e ∙ h)))

  one_always : text_limit < length c → number_of levels l c ≡ 1
  unfolding body_check
  one_always h = number_refused levels l c TextTooLong (check_always text_limit _ c [] (Err TextTooLong) (too_long refl h))

  six_only : number_of levels l c ≡ 6 → TooLong levels c
  six_only h = by_limit (λ e q. absurd (omega arith)) (λ e q. q) (λ n e p q. absurd (q (sym e ∙ h)))

  six_always : TooLong levels c → number_of levels l c ≡ 6
  unfolding result_of
  six_always t =
      number_passed levels l c (passes_check levels l c t.fits t.ascii) t.actions t.given ∙ rw t.exceeds refl

  -- where the call gives 1 it is past the limit, and where it gives 6 the result is too long, and only there
  pub one_exactly : (number_of levels l c ≡ 1) ↔ (text_limit < length c)
  one_exactly = (one_only, one_always)

  pub six_exactly : (number_of levels l c ≡ 6) ↔ TooLong levels c
  six_exactly = (six_only, six_always)

-- what meets a size limit meets one behind an accepted continuable body
module _ (levels : Result Actions Refusal) (l : Lent) (a : List ℕ) (s : Continuable a) (z : number_of levels l a ≡ 0) (c : List ℕ) where
  -- as that body is accepted, the table is given
  is_given : IsTable levels
  is_given = let t = (zero_taken levels l a z).1 in given_table levels t.actions t.given

  pub one_behind : number_of levels l c ≡ 1 → number_of levels l (a ++ c) ≡ 1
  one_behind h = one_always levels is_given l (a ++ c) (omega (arith, one_only levels is_given l c h, length-append a c))

  pub six_behind : (number_of levels l (a ++ c) ≡ 1 → ⊥) → number_of levels l c ≡ 6 → number_of levels l (a ++ c) ≡ 6
  six_behind one h =
      let t = zero_taken levels l a z in
      let k = six_only levels is_given l c h in
      let given = t.1.given in
      let again = k.given in
      let same : k.actions ≡ t.1.actions = cc in
      let act = action_of t.1.actions in
      let long : rewriting act c ≡ refused result_too_long = ap (λ (x : Actions). rewriting (action_of x) c) (sym same) ∙ k.exceeds in
      six_always levels is_given l (a ++ c)
      (record {
        fits = not_one levels l (a ++ c) one;
        ascii = high_both a c t.1.ascii k.ascii;
        actions = t.1.actions;
        given = given;
        exceeds = long_behind act a s t.0 t.1.result c long;
      })

-- ---- the list

module _ (levels : Result Actions Refusal) (l : Lent) (b : List ℕ) where
  -- every body of the list, and the one behind it, gives 0
  abbrev pub AllZero : List (List ℕ) → Type 0
  AllZero bodies = ((a : List ℕ) → Memᴰ a bodies → number_of levels l a ≡ 0) × (number_of levels l b ≡ 0)

  -- the list's theorem, of the whole text
  abbrev Joins : List (List ℕ) → List ℕ → Type 0
  Joins bodies whole =
      (number_of levels l whole ≡ 1 → ⊥) → (number_of levels l whole ≡ 6 → ⊥)
      → ((number_of levels l whole ≡ 0) ↔ AllZero bodies)
      × (number_of levels l whole ≡ 0 → rewritten levels l whole ≡ concat (map (rewritten levels l) bodies) ++ rewritten levels l b)

  -- one closed body more in front
  step : (a : List ℕ) (bodies : List (List ℕ)) (c : List ℕ) → is_closed a ≡ true → Joins bodies c → Joins (a ∷ bodies) (a ++ c)
  unfolding concat
  step a bodies c k more one six = ((only, always), text)
    where
      s : Continuable a
      s = continuable a k

      behind : number_of levels l c ≡ 0 → ((number_of levels l c ≡ 0) ↔ AllZero bodies) × (number_of levels l c ≡ 0 → rewritten levels l c ≡ concat (map (rewritten levels l) bodies) ++ rewritten levels l b)
      behind h = more (λ e. omega arith) (λ e. omega arith)

      only : number_of levels l (a ++ c) ≡ 0 → AllZero (a ∷ bodies)
      only h =
          let w = joined_zero levels l a s c h in
          let m = (behind w.1).0.0 w.1 in
          ((λ d i. ⊎_elim (λ e. ap (number_of levels l) e ∙ w.0) (λ j. m.0 d j) (Memᴰ.cases_cons i)), m.1)

      always : AllZero (a ∷ bodies) → number_of levels l (a ++ c) ≡ 0
      always z =
          let front = z.0 a (Memᴰ.head refl) in
          let m = more (λ e. one (one_behind levels l a s front c e)) (λ e. six (six_behind levels l a s front c one e)) in
          both_zero levels l a s c one six front (m.0.1 ((λ d i. z.0 d (Memᴰ.tail i)), z.1))

      text : number_of levels l (a ++ c) ≡ 0 → rewritten levels l (a ++ c) ≡ concat (map (rewritten levels l) (a ∷ bodies)) ++ rewritten levels l b
      text h =
          let w = joined_zero levels l a s c h in
          joined_text levels l a s c h
          ∙ (ap (λ (ys : List ℕ). rewritten levels l a ++ ys) ((behind w.1).1 w.1)
          ∙ sym (append_assoc (rewritten levels l a) (concat (map (rewritten levels l) bodies)) (rewritten levels l b)))

-- Demand 3 for a list, in its own words and for every table: for closed bodies one after the other and any body b behind
-- them, where the call on the whole meets no size limit, it gives 0 exactly if it gives 0 for each of the bodies and for b,
-- and then the whole's rewriting is the rewritings one after the other.
pub joined_list : (levels : Result Actions Refusal) (l : Lent) (bodies : List (List ℕ)) (b : List ℕ) → all is_closed bodies ≡ true
    → (number_of levels l (concat bodies ++ b) ≡ 1 → ⊥)
    → (number_of levels l (concat bodies ++ b) ≡ 6 → ⊥)
    → ((number_of levels l (concat bodies ++ b) ≡ 0) ↔ (((a : List ℕ) → Memᴰ a bodies → number_of levels l a ≡ 0) × (number_of levels l b ≡ 0)))
    × (number_of levels l (concat bodies ++ b) ≡ 0 → rewritten levels l (concat bodies ++ b) ≡ concat (map (rewritten levels l) bodies) ++ rewritten levels l b)
unfolding all concat
joined_list levels l [] b k = λ one six. (((λ h. ((λ a i. absurd (Memᴰ.not-nil i)), h)), (λ z. z.1)), (λ h. refl))
joined_list levels l (a ∷ bodies) b k =
    rw (append_assoc a (concat bodies) b)
    (step levels l b a bodies (concat bodies ++ b) ((and_parts (is_closed a) (all is_closed bodies) k).0)
    (joined_list levels l bodies b ((and_parts (is_closed a) (all is_closed bodies) k).1)))
