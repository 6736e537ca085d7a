-- A refusal of the passes, 4, 5 or 6, is given only on its condition, and exactly then; a text is accepted exactly if none of
-- these holds. The conditions speak of the texts after each pass. Assumes nothing.
use Rattle.std.specs.Prelude.{Option, Some, None}
use mathlib.Core.Path.{◌≡◌, refl, sym, ap, ◌∙◌, subst}
use mathlib.Core.Logic.{◌↔◌}
use mathlib.Core.List.{List}
use Prim.Native.Nat.{ℕ, ◌≤◌, ◌<◌}
use borrow.Author.Tests.{ltb-true, ltb-false, lt-ltb, le-ltb}
use lib.Dec.{ltb}
use lib.ListN.{length}
use Rattle.spec.proofs.Choice.{by}
use Rattle.spec.proofs.RefusalOutcomes.{first_target, assigned_text, join_statements_lem, first_clause, tokens_text, join_tokens_lem}
use Rattle.spec.specs.Map.{bytes, marked_text}
use Rattle.spec.specs.Search.{byte_here, pieces}
use Rattle.spec.specs.Requote.{requoted}
use Rattle.spec.specs.Elsif.{elsif}
use Rattle.spec.specs.Assignments.{Target, assignments}
use Rattle.spec.specs.SelectInto.{quote_walk, select_into}
use Rattle.spec.specs.Outcome.{PassRefusal, qualified_target, using_clause, result_too_long, accepted, refused, Rewriting, forget}
use Rattle.spec.specs.Raise.{raises_from, raise}
use Rattle.spec.specs.declared.Level.{Level}
use Rattle.spec.specs.declared.Action.{Action}
use Rattle.spec.specs.Body.{buffer_size, requote_pass, elsif_pass, assign_pass, select_pass, raise_pass, limited, and_then, rewriting}

-- ---- one pass after another

-- a pass that accepts within the buffer size gives its text to the next one
pub then_accepted : (r : Rewriting) (pass : List ℕ → Rewriting) (ys zs : List ℕ)
    → r ≡ accepted ys
    → pass ys ≡ accepted zs
    → length zs ≤ buffer_size
    → and_then r pass ≡ accepted zs
unfolding and_then limited
then_accepted r pass ys zs e f h = rw (e, f, le-ltb buffer_size (length zs) h)

-- a longer text is refusal 6
pub then_long : (r : Rewriting) (pass : List ℕ → Rewriting) (ys zs : List ℕ)
    → r ≡ accepted ys
    → pass ys ≡ accepted zs
    → buffer_size < length zs
    → and_then r pass ≡ refused result_too_long
unfolding and_then limited
then_long r pass ys zs e f h = rw (e, f, lt-ltb buffer_size (length zs) h)

-- a pass's own refusals stand, and no later pass changes a refusal
pub then_refused : (r : Rewriting) (pass : List ℕ → Rewriting) (ys : List ℕ) (f : PassRefusal)
    → r ≡ accepted ys
    → pass ys ≡ refused f
    → and_then r pass ≡ refused f
unfolding and_then limited
then_refused r pass ys f e h = rw (e, h)

pub keeps_refused : (r : Rewriting) (pass : List ℕ → Rewriting) (f : PassRefusal) → r ≡ refused f → and_then r pass ≡ refused f
unfolding and_then
keeps_refused r pass f e = rw e

-- ---- the texts after each pass, whatever their lengths and refusals

abbrev pub after1 : List ℕ → List ℕ
after1 xs = requoted xs

abbrev pub after2 : List ℕ → List ℕ
after2 xs = bytes (elsif (marked_text (after1 xs)))

-- the target of the first statement that has one, in the text that pass 3 reads
unfoldable pub target_in : List ℕ → Option Target
target_in ys = first_target (pieces (byte_here 59) (marked_text ys))

-- the text after pass 3, whatever its targets
unfoldable pub assigned : List ℕ → List ℕ
assigned ys = bytes (assigned_text (pieces (byte_here 59) (marked_text ys)))

abbrev pub after3 : List ℕ → List ℕ
after3 xs = assigned (after2 xs)

abbrev pub after4 : List ℕ → List ℕ
after4 xs = bytes (select_into (quote_walk 0 (after3 xs)))

-- the clause of the first RAISE that is refused, in the text that pass 5 reads
unfoldable pub clause_in : (Level → Action) → List ℕ → Option (List ℕ)
clause_in act ys = first_clause (raises_from act 0 0 (marked_text ys))

-- the text after pass 5, a refused RAISE left out
unfoldable pub raised_text : (Level → Action) → List ℕ → List ℕ
raised_text act ys = bytes (tokens_text (raises_from act 0 0 (marked_text ys)))

abbrev pub after5 : (Level → Action) → List ℕ → List ℕ
after5 act xs = raised_text act (after4 xs)

-- pass 3 by its first target, pass 5 by its first clause
pub assign_done : (ys : List ℕ) → target_in ys ≡ None → assign_pass ys ≡ accepted (assigned ys)
unfolding target_in assigned assign_pass assignments forget
assign_done ys e = rw (join_statements_lem (pieces (byte_here 59) (marked_text ys)), e)

pub assign_refused : (ys : List ℕ) (r : Target)
    → target_in ys ≡ Some r
    → assign_pass ys ≡ refused (qualified_target (bytes r.qualifier) (bytes r.name))
unfolding target_in assign_pass assignments forget
assign_refused ys r e = rw (join_statements_lem (pieces (byte_here 59) (marked_text ys)), e)

pub raise_done : (act : Level → Action) (ys : List ℕ) → clause_in act ys ≡ None → raise_pass act ys ≡ accepted (raised_text act ys)
unfolding clause_in raised_text raise_pass raise forget
raise_done act ys e = rw (join_tokens_lem (raises_from act 0 0 (marked_text ys)), e)

pub raise_refused : (act : Level → Action) (ys c : List ℕ) → clause_in act ys ≡ Some c → raise_pass act ys ≡ refused (using_clause c)
unfolding clause_in raise_pass raise forget
raise_refused act ys c e = rw (join_tokens_lem (raises_from act 0 0 (marked_text ys)), e)

-- ---- the conditions

-- passes 1 and 2 accept
pub record Through2 (xs : List ℕ) : Type 0 where
  pub fits1 : length (after1 xs) ≤ buffer_size
  pub fits2 : length (after2 xs) ≤ buffer_size

-- and pass 3: no statement has a qualified target
pub record Through3 (xs : List ℕ) : Type 0 where
  pub before : Through2 xs
  pub no_target : target_in (after2 xs) ≡ None
  pub fits3 : length (after3 xs) ≤ buffer_size

-- and pass 4
pub record Through4 (xs : List ℕ) : Type 0 where
  pub before : Through3 xs
  pub fits4 : length (after4 xs) ≤ buffer_size

-- 0: all five accept, pass 5 where no RAISE has a refused clause; zs is the text after it
pub record Accepts (act : Level → Action) (xs zs : List ℕ) : Type 0 where
  pub before : Through4 xs
  pub no_clause : clause_in act (after4 xs) ≡ None
  pub fits5 : length (after5 act xs) ≤ buffer_size
  pub text : after5 act xs ≡ zs

-- 4: passes 1 and 2 accept, and the first statement with a target has `q.n`
pub record Qualifies (xs q n : List ℕ) : Type 0 where
  pub before : Through2 xs
  pub target : Target
  pub first : target_in (after2 xs) ≡ Some target
  pub qualifier : bytes target.qualifier ≡ q
  pub name : bytes target.name ≡ n

-- 5: passes 1 to 4 accept, and the first RAISE that is refused has the clause c
pub record Uses (act : Level → Action) (xs c : List ℕ) : Type 0 where
  pub before : Through4 xs
  pub first : clause_in act (after4 xs) ≡ Some c

-- 6: the text after a pass is longer than the buffer size, the passes before accept, and this one gives no 4 or 5
pub data Exceeds (act : Level → Action) (xs : List ℕ) : Type 0 where
  in1 : buffer_size < length (after1 xs) → Exceeds act xs
  in2 : length (after1 xs) ≤ buffer_size → buffer_size < length (after2 xs) → Exceeds act xs
  in3 : Through2 xs → target_in (after2 xs) ≡ None → buffer_size < length (after3 xs) → Exceeds act xs
  in4 : Through3 xs → buffer_size < length (after4 xs) → Exceeds act xs
  in5 : Through4 xs → clause_in act (after4 xs) ≡ None → buffer_size < length (after5 act xs) → Exceeds act xs

-- the condition of each answer
abbrev pub Condition : (Level → Action) → List ℕ → Rewriting → Type 0
Condition act xs (accepted zs) = Accepts act xs zs
Condition act xs (refused (qualified_target q n)) = Qualifies xs q n
Condition act xs (refused (using_clause c)) = Uses act xs c
Condition act xs (refused result_too_long) = Exceeds act xs

-- ---- what the passes give on each condition

run1 : (xs : List ℕ) → length (after1 xs) ≤ buffer_size → and_then (accepted xs) requote_pass ≡ accepted (after1 xs)
unfolding requote_pass
run1 xs h = then_accepted (accepted xs) requote_pass xs _ refl refl h

run2 : (xs : List ℕ) → Through2 xs → and_then (and_then (accepted xs) requote_pass) elsif_pass ≡ accepted (after2 xs)
unfolding elsif_pass
run2 xs t = then_accepted _ elsif_pass _ _ (run1 xs t.fits1) refl t.fits2

run3 : (xs : List ℕ) → Through3 xs → and_then (and_then (and_then (accepted xs) requote_pass) elsif_pass) assign_pass ≡ accepted (after3 xs)
run3 xs t = then_accepted _ assign_pass _ _ (run2 xs t.before) (assign_done (after2 xs) t.no_target) t.fits3

run4 : (xs : List ℕ) → Through4 xs
    → and_then (and_then (and_then (and_then (accepted xs) requote_pass) elsif_pass) assign_pass) select_pass ≡ accepted (after4 xs)
unfolding select_pass
run4 xs t = then_accepted _ select_pass _ _ (run3 xs t.before) refl t.fits4

gives : (act : Level → Action) (xs : List ℕ) (r : Rewriting) → Condition act xs r → rewriting act xs ≡ r
unfolding rewriting requote_pass elsif_pass select_pass
gives act xs (accepted zs) t =
    then_accepted _ (raise_pass act) _ _ (run4 xs t.before) (raise_done act (after4 xs) t.no_clause) t.fits5 ∙ ap accepted t.text
gives act xs (refused (qualified_target q n)) t =
    let e = assign_refused (after2 xs) t.target t.first in
    keeps_refused _ (raise_pass act) _
    (keeps_refused _ select_pass _
    (then_refused _ assign_pass _ _ (run2 xs t.before) (rw (t.qualifier, t.name) at e)))
gives act xs (refused (using_clause c)) t =
    then_refused _ (raise_pass act) _ _ (run4 xs t.before) (raise_refused act (after4 xs) c t.first)
gives act xs (refused result_too_long) (in1 h) =
    keeps_refused _ (raise_pass act) _ (keeps_refused _ select_pass _ (keeps_refused _ assign_pass _ (keeps_refused _ elsif_pass _
    (then_long (accepted xs) requote_pass xs _ refl refl h))))
gives act xs (refused result_too_long) (in2 a h) =
    keeps_refused _ (raise_pass act) _ (keeps_refused _ select_pass _ (keeps_refused _ assign_pass _
    (then_long _ elsif_pass _ _ (run1 xs a) refl h)))
gives act xs (refused result_too_long) (in3 t e h) =
    keeps_refused _ (raise_pass act) _ (keeps_refused _ select_pass _
    (then_long _ assign_pass _ _ (run2 xs t) (assign_done (after2 xs) e) h))
gives act xs (refused result_too_long) (in4 t h) =
    keeps_refused _ (raise_pass act) _ (then_long _ select_pass _ _ (run3 xs t) refl h)
gives act xs (refused result_too_long) (in5 t e h) =
    then_long _ (raise_pass act) _ _ (run4 xs t) (raise_done act (after4 xs) e) h

-- one of the conditions holds of every text
decided : (act : Level → Action) (xs : List ℕ) → (r : Rewriting) × Condition act xs r
decided act xs =
    short (after1 xs) (λ h. (refused result_too_long, in1 h)) (λ a.
    short (after2 xs) (λ h. (refused result_too_long, in2 a h)) (λ b.
    third (record { fits1 = a; fits2 = b }) (target_in (after2 xs)) refl))
  where
    short : {P : Type 0} (ys : List ℕ) → (buffer_size < length ys → P) → (length ys ≤ buffer_size → P) → P
    short ys f g = by (ltb buffer_size (length ys)) (λ e. f (ltb-true _ _ e)) (λ e. g (ltb-false _ _ e))

    fifth : Through4 xs → (o : Option (List ℕ)) → clause_in act (after4 xs) ≡ o → (r : Rewriting) × Condition act xs r
    fifth t None e =
        short (after5 act xs) (λ h. (refused result_too_long, in5 t e h))
        (λ h. (accepted (after5 act xs), record { before = t; no_clause = e; fits5 = h; text = refl }))
    fifth t (Some c) e = (refused (using_clause c), record { before = t; first = e })

    third : Through2 xs → (o : Option Target) → target_in (after2 xs) ≡ o → (r : Rewriting) × Condition act xs r
    third t None e =
        short (after3 xs) (λ h. (refused result_too_long, in3 t e h)) (λ c.
        let u : Through3 xs = record { before = t; no_target = e; fits3 = c } in
        short (after4 xs) (λ h. (refused result_too_long, in4 u h)) (λ d.
        fifth (record { before = u; fits4 = d }) (clause_in act (after4 xs)) refl))
    third t (Some r) e =
        (refused (qualified_target (bytes r.qualifier) (bytes r.name)), record { before = t; target = r; first = e; qualifier = refl; name = refl })

-- the passes give each answer exactly on its condition
pub exactly : (act : Level → Action) (xs : List ℕ) (r : Rewriting) → (rewriting act xs ≡ r) ↔ Condition act xs r
exactly act xs r =
    ((λ h. subst (Condition act xs) (sym (gives act xs (decided act xs).0 (decided act xs).1) ∙ h) (decided act xs).1), gives act xs r)

-- 0
pub accepted_exactly : (act : Level → Action) (xs zs : List ℕ) → (rewriting act xs ≡ accepted zs) ↔ Accepts act xs zs
accepted_exactly act xs zs = exactly act xs (accepted zs)

-- 4
pub qualified_exactly : (act : Level → Action) (xs q n : List ℕ) → (rewriting act xs ≡ refused (qualified_target q n)) ↔ Qualifies xs q n
qualified_exactly act xs q n = exactly act xs (refused (qualified_target q n))

-- 5
pub using_exactly : (act : Level → Action) (xs c : List ℕ) → (rewriting act xs ≡ refused (using_clause c)) ↔ Uses act xs c
using_exactly act xs c = exactly act xs (refused (using_clause c))

-- 6
pub too_long_exactly : (act : Level → Action) (xs : List ℕ) → (rewriting act xs ≡ refused result_too_long) ↔ Exceeds act xs
too_long_exactly act xs = exactly act xs (refused result_too_long)

-- what is accepted is within the buffer size
pub accepted_fits : (act : Level → Action) (xs zs : List ℕ) → rewriting act xs ≡ accepted zs → length zs ≤ buffer_size
accepted_fits act xs zs h =
    let t = (accepted_exactly act xs zs).0 h in
    rw t.text at t.fits5
