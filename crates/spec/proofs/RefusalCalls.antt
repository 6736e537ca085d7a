-- What the two calls answer for every table, or without one: 1, 3 and 2 exactly if the checks say so, then 11, 12 and 13
-- exactly if the table is refused so, then 7 exactly if too many names are declared, the body call never 7 and with no
-- records, and each other answer exactly if the passes give it with the table's actions. Assumes nothing.
use Rattle.std.specs.Prelude.{Ok, Err, ⊤, Result}
use mathlib.Core.Path.{◌≡◌, refl, sym, ap, ◌∙◌, subst}
use mathlib.Core.Logic.{◌↔◌}
use mathlib.Core.Bool.{Bool}
use mathlib.Core.List.{List, [], ◌∷◌, ◌++◌}
use Prim.Native.Nat.{ℕ, zero, suc, ◌-◌, ◌≤◌, ◌<◌}
use native.Mathlib.Omega.{arith}
use borrow.Author.Tests.{ltb-true, lt-ltb, le-ltb}
use lib.Dec.{ltb}
use lib.ListN.{length}
use Rattle.spec.proofs.Apart.{apart}
use Rattle.spec.proofs.Choice.{by}
use Rattle.spec.proofs.QualifiedExactly.{HasQualifiedTarget, qualified_in_words}
use Rattle.spec.proofs.CheckLaws.{CheckRefuses, too_long, too_short, not_ascii, check_only}
use Rattle.spec.proofs.RefusalLaws.{Accepts, Exceeds, accepted_exactly, too_long_exactly}
use Rattle.spec.proofs.TableNumbers.{IsTable}
use Rattle.spec.proofs.UsingExactly.{HasUsingClause, using_in_words}
use Rattle.spec.specs.Outcome.{PassRefusal, qualified_target, using_clause, result_too_long, handed_back, accepted, refused, Rewriting}
use Rattle.spec.specs.Raise.{action_of}
use Rattle.spec.specs.Body.{rewriting}
use Rattle.spec.specs.Declarations.{record_limit, Declared, records_of, body_of}
use Rattle.spec.specs.Answers.{text_limit, check_of, refusal_numbers, call_numbers, CallResult, without_records, result_of, body_result, function_result, by_table, call_answer, body_check, body_answer, function_check, function_answer}
use Rattle.spec.specs.declared.Level.{Level}
use Rattle.spec.specs.declared.Action.{Action}
use Rattle.spec.specs.Raise.{Actions}
use Rattle.spec.specs.declared.Refusal.{Refusal}
use Rattle.spec.specs.declared.Refusal.TheVariants.{QualifiedTarget, UsingClause, TooManyNames}
use Rattle.spec.specs.declared.Accepted.{Accepted}

-- ---- what is answered for what the passes give

-- the number of a pass's refusal
abbrev pub pass_number : PassRefusal → ℕ
pass_number f = (refusal_numbers (handed_back f).refusal).number

-- it is 4, 5 or 6
pub pass_number_lem : (f : PassRefusal) → (4 ≤ pass_number f) × (pass_number f ≤ 6)
pass_number_lem (qualified_target q n) = (omega arith, omega arith)
pass_number_lem (using_clause c) = (omega arith, omega arith)
pass_number_lem result_too_long = (omega arith, omega arith)

-- what a number tells of a pass's refusal, from 4 on
abbrev FromFour : ℕ → PassRefusal → Type 0
FromFour zero f = (q : List ℕ) × (n : List ℕ) × (f ≡ qualified_target q n)
FromFour (suc zero) f = (c : List ℕ) × (f ≡ using_clause c)
FromFour (suc (suc zero)) f = f ≡ result_too_long
FromFour (suc (suc (suc n))) f = ⊥

-- the same for a number
abbrev NumberTells : ℕ → PassRefusal → Type 0
NumberTells n f = FromFour (n - 4) f

number_tells : (f : PassRefusal) → NumberTells (pass_number f) f
number_tells (qualified_target q n) = (q, n, refl)
number_tells (using_clause c) = (c, refl)
number_tells result_too_long = refl

-- so a refusal is told by its number
pub told : (n : ℕ) (f : PassRefusal) → pass_number f ≡ n → NumberTells n f
told n f e = subst (λ (k : ℕ). NumberTells k f) e (number_tells f)

-- so a refusal that is answered for the passes has such a number
result_number : (ds : List Declared) (r : Rewriting) (f : Refusal) → (result_of ds r).answer ≡ Err f
    → (4 ≤ (refusal_numbers f).number) × ((refusal_numbers f).number ≤ 6)
unfolding result_of
result_number ds (accepted zs) f h = absurd (apart (cc))
result_number ds (refused g) f h =
    let e : (handed_back g).refusal ≡ f = cc in
    let n = ap (λ (k : Refusal). (refusal_numbers k).number) e in
    (omega (arith, (pass_number_lem g).0), omega (arith, (pass_number_lem g).1))

-- ---- the number of each answer, by the condition on the text

module _ (act : Level → Action) (ds : List Declared) (xs : List ℕ) where
  -- accepted
  pub number_zero : ((call_numbers (result_of ds (rewriting act xs)).answer).number ≡ 0) ↔ ((zs : List ℕ) × Accepts act xs zs)
  unfolding result_of
  number_zero = (to (rewriting act xs) refl, (λ w. rw ((accepted_exactly act xs w.0).1 w.1)))
    where
      to : (r : Rewriting) → rewriting act xs ≡ r → (call_numbers (result_of ds r).answer).number ≡ 0 → (zs : List ℕ) × Accepts act xs zs
      to (accepted zs) e h = (zs, (accepted_exactly act xs zs).0 e)
      to (refused f) e h = absurd (omega (arith, (pass_number_lem f).0))

  -- a qualified target, in 01's words
  pub number_four : ((call_numbers (result_of ds (rewriting act xs)).answer).number ≡ 4)
      ↔ ((q : List ℕ) × (n : List ℕ) × HasQualifiedTarget xs q n)
  unfolding result_of
  number_four = (to (rewriting act xs) refl, (λ w. rw ((qualified_in_words act xs w.0 w.1).1 w.2)))
    where
      to : (r : Rewriting) → rewriting act xs ≡ r → (call_numbers (result_of ds r).answer).number ≡ 4
          → (q : List ℕ) × (n : List ℕ) × HasQualifiedTarget xs q n
      to (accepted zs) e h = absurd (omega arith)
      to (refused f) e h =
          let w = told 4 f h in
          (w.0, w.1, (qualified_in_words act xs w.0 w.1).0 (e ∙ ap refused w.2))

  -- its place is the length of q, and the output holds `q.n`
  pub result_four : (q n : List ℕ) → HasQualifiedTarget xs q n
      → result_of ds (rewriting act xs) ≡ without_records (QualifiedTarget (length q) (length (q ++ (46 ∷ n)))) (q ++ (46 ∷ n))
  unfolding result_of
  result_four q n w = ap (result_of ds) ((qualified_in_words act xs q n).1 w)

  -- a USING clause, in 01's words
  pub number_five : ((call_numbers (result_of ds (rewriting act xs)).answer).number ≡ 5) ↔ ((c : List ℕ) × HasUsingClause act xs c)
  unfolding result_of
  number_five = (to (rewriting act xs) refl, (λ w. rw ((using_in_words act xs w.0).1 w.1)))
    where
      to : (r : Rewriting) → rewriting act xs ≡ r → (call_numbers (result_of ds r).answer).number ≡ 5
          → (c : List ℕ) × HasUsingClause act xs c
      to (accepted zs) e h = absurd (omega arith)
      to (refused f) e h =
          let w = told 5 f h in
          (w.0, (using_in_words act xs w.0).0 (e ∙ ap refused w.1))

  -- the output holds the clause
  pub result_five : (c : List ℕ) → HasUsingClause act xs c → result_of ds (rewriting act xs) ≡ without_records (UsingClause (length c)) c
  unfolding result_of
  result_five c w = ap (result_of ds) ((using_in_words act xs c).1 w)

  -- a pass's result exceeds the buffer size
  pub number_six : ((call_numbers (result_of ds (rewriting act xs)).answer).number ≡ 6) ↔ Exceeds act xs
  unfolding result_of
  number_six = (to (rewriting act xs) refl, (λ w. rw ((too_long_exactly act xs).1 w)))
    where
      to : (r : Rewriting) → rewriting act xs ≡ r → (call_numbers (result_of ds r).answer).number ≡ 6 → Exceeds act xs
      to (accepted zs) e h = absurd (omega arith)
      to (refused f) e h = (too_long_exactly act xs).0 (e ∙ ap refused (told 6 f h))

-- ---- the checks

-- the checks give 1, 2 and 3 only
pub check_number : (limit : ℕ) (enough : Bool) (xs needle : List ℕ) (f : Refusal) → check_of limit enough xs needle ≡ Err f
    → (1 ≤ (refusal_numbers f).number) × ((refusal_numbers f).number ≤ 3)
check_number limit enough xs needle f e = go (check_only limit enough xs needle (Err f) e)
  where
    go : CheckRefuses limit enough xs needle f → (1 ≤ (refusal_numbers f).number) × ((refusal_numbers f).number ≤ 3)
    go (too_long q h) = rw q (omega arith, omega arith)
    go (too_short q h n) = rw q (omega arith, omega arith)
    go (not_ascii q h y w) = rw q (omega arith, omega arith)

-- ---- the checks, then the table, then the call with its actions

module _ (k : Result ⊤ Refusal)
    (checked : (f : Refusal) → k ≡ Err f → (1 ≤ (refusal_numbers f).number) × ((refusal_numbers f).number ≤ 3))
    (levels : Result Actions Refusal)
    (call : Actions → CallResult) where
  abbrev answer : Result Accepted Refusal
  answer = call_answer k (by_table levels call).answer

  -- 0 and 4 to 7 are given exactly if the checks pass, the table is given, and the call with its actions has the number
  call_number : IsTable levels → (n : ℕ) → (n ≡ 1 → ⊥) → (n ≡ 2 → ⊥) → (n ≡ 3 → ⊥) → n < 11
      → ((call_numbers answer).number ≡ n)
      ↔ ((k ≡ Ok tt) × (a : Actions) × (levels ≡ Ok a) × ((call_numbers (call a).answer).number ≡ n))
  call_number is n x y z l = (to k levels refl refl, (λ w. rw (w.0, w.2) w.3))
    where
      to : (c : Result ⊤ Refusal) (t : Result Actions Refusal) → k ≡ c → levels ≡ t → (call_numbers answer).number ≡ n
          → (k ≡ Ok tt) × (a : Actions) × (levels ≡ Ok a) × ((call_numbers (call a).answer).number ≡ n)
      to (Ok tt) (Ok a) e g h = (e, a, g, rw (e, g) at h)
      to (Ok tt) (Err f) e g h =
          let m : (refusal_numbers f).number ≡ n = rw (e, g) at h in
          absurd (omega (arith, (is f g).0))
      to (Err f) t e g h =
          let w = checked f e in
          let m : (refusal_numbers f).number ≡ n = rw e at h in
          absurd (omega (arith, w.0, w.1, x, y, z))

  -- 1, 3 and 2 exactly if the checks say so
  call_refused : IsTable levels → ((a : Actions) (g : Refusal) → (call a).answer ≡ Err g → 4 ≤ (refusal_numbers g).number)
      → (f : Refusal) → (refusal_numbers f).number < 4
      → (answer ≡ Err f) ↔ (k ≡ Err f)
  call_refused is later f l = (to k levels refl refl, (λ e. rw e refl))
    where
      to : (c : Result ⊤ Refusal) (t : Result Actions Refusal) → k ≡ c → levels ≡ t → answer ≡ Err f → k ≡ Err f
      to (Ok tt) (Ok a) e g h = absurd (omega (arith, later a f (rw (e, g) at h)))
      to (Ok tt) (Err r) e g h =
          let q : Err r ≡ Err f = rw (e, g) at h in
          let i : r ≡ f = cc in
          absurd (omega (arith, (is r g).0, ap (λ (d : Refusal). (refusal_numbers d).number) i))
      to (Err r) t e g h =
          let q : Err r ≡ Err f = rw e at h in
          let i : r ≡ f = cc in
          e ∙ ap Err i

  -- 11, 12 and 13 exactly if the checks pass and the table is refused so
  call_table : ((a : Actions) (g : Refusal) → (call a).answer ≡ Err g → (refusal_numbers g).number < 11)
      → (f : Refusal) → 11 ≤ (refusal_numbers f).number
      → (answer ≡ Err f) ↔ ((k ≡ Ok tt) × (levels ≡ Err f))
  call_table sooner f l = (to k levels refl refl, (λ w. rw (w.0, w.1) refl))
    where
      to : (c : Result ⊤ Refusal) (t : Result Actions Refusal) → k ≡ c → levels ≡ t → answer ≡ Err f → (k ≡ Ok tt) × (levels ≡ Err f)
      to (Ok tt) (Ok a) e g h = absurd (omega (arith, sooner a f (rw (e, g) at h)))
      to (Ok tt) (Err r) e g h =
          let q : Err r ≡ Err f = rw (e, g) at h in
          let i : r ≡ f = cc in
          (e, g ∙ ap Err i)
      to (Err r) t e g h =
          let q : Err r ≡ Err f = rw e at h in
          let i : r ≡ f = cc in
          absurd (omega (arith, (checked r e).1, ap (λ (d : Refusal). (refusal_numbers d).number) i))

-- ---- the body call

-- the numbers of the refusals behind the checks and the table
body_numbers : (xs : List ℕ) (a : Actions) (g : Refusal) → (body_result xs a).answer ≡ Err g
    → (4 ≤ (refusal_numbers g).number) × ((refusal_numbers g).number ≤ 6)
unfolding body_result
body_numbers xs a = result_number [] (rewriting (action_of a) xs)

module _ (levels : Result Actions Refusal) (xs out work spare : List ℕ) where
  -- 0 and 4 to 6; the table gives its actions
  pub body_number : IsTable levels → (n : ℕ) → (n ≡ 1 → ⊥) → (n ≡ 2 → ⊥) → (n ≡ 3 → ⊥) → n < 11
      → ((call_numbers (body_answer levels xs out work spare)).number ≡ n)
      ↔ ((body_check xs out work spare ≡ Ok tt)
      × (a : Actions)
      × (levels ≡ Ok a)
      × ((call_numbers (result_of [] (rewriting (action_of a) xs)).answer).number ≡ n))
  unfolding body_answer body_result body_check
  body_number = call_number (body_check xs out work spare) (check_number text_limit _ xs []) levels (body_result xs)

  -- 1, 3 and 2
  pub body_refused : IsTable levels → (f : Refusal) → (refusal_numbers f).number < 4
      → (body_answer levels xs out work spare ≡ Err f) ↔ (body_check xs out work spare ≡ Err f)
  unfolding body_answer body_check
  body_refused is =
      call_refused (body_check xs out work spare) (check_number text_limit _ xs []) levels (body_result xs) is
      (λ a g h. (body_numbers xs a g h).0)

  -- 11, 12 and 13
  pub body_table : (f : Refusal) → 11 ≤ (refusal_numbers f).number
      → (body_answer levels xs out work spare ≡ Err f)
      ↔ ((body_check xs out work spare ≡ Ok tt) × (levels ≡ Err f))
  unfolding body_answer body_check
  body_table =
      call_table (body_check xs out work spare) (check_number text_limit _ xs []) levels (body_result xs)
      (λ a g h. omega (arith, (body_numbers xs a g h).1))

  -- "never gives 7, and its count is 0": of the numbers that the body call hands back, its checks and the table included
  pub body_no_seven : IsTable levels → (call_numbers (body_answer levels xs out work spare)).number ≡ 7 → ⊥
  unfolding result_of
  body_no_seven is h =
      let w = (body_number is 7 (λ e. omega arith) (λ e. omega arith) (λ e. omega arith) (omega arith)).0 h in
      go (rewriting (action_of w.1) xs) w.3
    where
      go : (r : Rewriting) → (call_numbers (result_of [] r).answer).number ≡ 7 → ⊥
      go (accepted zs) h = omega arith
      go (refused f) h = omega (arith, (pass_number_lem f).1)

  pub body_no_records : (call_numbers (body_answer levels xs out work spare)).records ≡ 0
  unfolding body_answer body_result result_of
  body_no_records = go (body_check xs out work spare) levels
    where
      passes : (r : Rewriting) → (call_numbers (result_of [] r).answer).records ≡ 0
      passes (accepted zs) = refl
      passes (refused f) = refl

      go : (k : Result ⊤ Refusal) (t : Result Actions Refusal) → (call_numbers (call_answer k (by_table t (body_result xs)).answer)).records ≡ 0
      go (Ok tt) (Ok a) = passes (rewriting (action_of a) xs)
      go (Ok tt) (Err f) = refl
      go (Err f) t = refl

-- ---- the function call

-- 7 exactly if over 512 different names are declared, whatever the actions
pub too_many_names : (xs : List ℕ) (a : Actions)
    → ((function_result xs a).answer ≡ Err TooManyNames) ↔ (record_limit < length (records_of xs))
unfolding function_result
too_many_names xs a = (
  (λ h. by (ltb record_limit (length (records_of xs)))
      (λ e. ltb-true _ _ e)
      (λ e.
      let n = result_number (records_of xs) (rewriting (action_of a) (body_of xs)) TooManyNames (rw e at h) in
      absurd (omega (arith, n.1)))),
  (λ h. rw (lt-ltb record_limit (length (records_of xs)) h)),
)

-- else it answers what the passes over its body give
pub function_passes : (xs : List ℕ) (a : Actions)
    → length (records_of xs) ≤ record_limit
    → function_result xs a ≡ result_of (records_of xs) (rewriting (action_of a) (body_of xs))
unfolding function_result
function_passes xs a h = rw (le-ltb record_limit (length (records_of xs)) h)

-- the numbers of the refusals behind the checks and the table
function_numbers : (xs : List ℕ) (a : Actions) (g : Refusal) → (function_result xs a).answer ≡ Err g
    → (4 ≤ (refusal_numbers g).number) × ((refusal_numbers g).number ≤ 7)
unfolding function_result
function_numbers xs a g h =
    by (ltb record_limit (length (records_of xs)))
    (λ e.
    let q : Err TooManyNames ≡ Err g = rw e at h in
    let i : TooManyNames ≡ g = cc in
    rw (sym i) (omega arith, omega arith))
    (λ e.
    let n = result_number (records_of xs) (rewriting (action_of a) (body_of xs)) g (rw e at h) in
    (n.0, omega (arith, n.1)))

module _ (levels : Result Actions Refusal) (xs out work spare text numbers : List ℕ) where
  -- 0 and 4 to 7; what the call gives with the table's actions is said by `too_many_names` and `function_passes`
  pub function_number : IsTable levels → (n : ℕ) → (n ≡ 1 → ⊥) → (n ≡ 2 → ⊥) → (n ≡ 3 → ⊥) → n < 11
      → ((call_numbers (function_answer levels xs out work spare text numbers)).number ≡ n)
      ↔ ((function_check xs out work spare text numbers ≡ Ok tt)
      × (a : Actions)
      × (levels ≡ Ok a)
      × ((call_numbers (function_result xs a).answer).number ≡ n))
  unfolding function_answer function_check
  function_number = call_number (function_check xs out work spare text numbers) (check_number text_limit _ xs []) levels (function_result xs)

  -- 1, 3 and 2
  pub function_refused : IsTable levels → (f : Refusal) → (refusal_numbers f).number < 4
      → (function_answer levels xs out work spare text numbers ≡ Err f)
      ↔ (function_check xs out work spare text numbers ≡ Err f)
  unfolding function_answer function_check
  function_refused is =
      call_refused (function_check xs out work spare text numbers) (check_number text_limit _ xs []) levels (function_result xs) is
      (λ a g h. (function_numbers xs a g h).0)

  -- 11, 12 and 13
  pub function_table : (f : Refusal) → 11 ≤ (refusal_numbers f).number
      → (function_answer levels xs out work spare text numbers ≡ Err f)
      ↔ ((function_check xs out work spare text numbers ≡ Ok tt) × (levels ≡ Err f))
  unfolding function_answer function_check
  function_table =
      call_table (function_check xs out work spare text numbers) (check_number text_limit _ xs []) levels (function_result xs)
      (λ a g h. omega (arith, (function_numbers xs a g h).1))

  -- 7 exactly if the checks pass, the table is given, and over 512 different names are declared
  pub function_seven : IsTable levels
      → ((call_numbers (function_answer levels xs out work spare text numbers)).number ≡ 7)
      ↔ ((function_check xs out work spare text numbers ≡ Ok tt)
      × (a : Actions)
      × (levels ≡ Ok a)
      × (record_limit < length (records_of xs)))
  unfolding function_result result_of
  function_seven is =
      let w = function_number is 7 (λ e. omega arith) (λ e. omega arith) (λ e. omega arith) (omega arith) in (
        (λ h. let v = w.0 h in (v.0, v.1, v.2, seven v.1 v.3)),
        (λ v. w.1 (v.0, v.1, v.2, ap (λ (r : Result Accepted Refusal). (call_numbers r).number) ((too_many_names xs v.1).1 v.3))),
      )
    where
      passes : (r : Rewriting) → (call_numbers (result_of (records_of xs) r).answer).number ≡ 7 → ⊥
      passes (accepted zs) h = omega arith
      passes (refused f) h = omega (arith, (pass_number_lem f).1)

      seven : (a : Actions) → (call_numbers (function_result xs a).answer).number ≡ 7 → record_limit < length (records_of xs)
      seven a h =
          by (ltb record_limit (length (records_of xs)))
          (λ e. ltb-true _ _ e)
          (λ e. absurd (passes (rewriting (action_of a) (body_of xs)) (rw e at h)))
