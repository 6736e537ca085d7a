-- What a call leaves in its output is never longer than the buffer size: not the text, not `q.n` of refusal 4 and not the
-- clause of refusal 5. Assumes nothing.
use Rattle.std.specs.Prelude.{Option, Some, None, Ok, Err, Result}
use Rattle.std.proofs.lemmas.Bool.{cond_both, and_parts}
use mathlib.Core.Path.{◌≡◌, refl, ap, subst}
use mathlib.Core.Bool.{not, ◌&&◌}
use mathlib.Core.List.{List, [], ◌∷◌, ◌++◌}
use Prim.Native.Nat.{ℕ, zero, suc, ◌+◌, ◌-◌, ◌≤◌, zero-le, suc-le-suc}
use native.Mathlib.Omega.{arith}
use borrow.Author.Tests.{eqb-true}
use lib.Dec.{eqb, ltb}
use lib.ListN.{length, drop, length-append, length-drop, length-map, length-reverse}
use Rattle.spec.proofs.WalkLaws.{while_length}
use Rattle.spec.proofs.LengthLaws.{trim_le}
use Rattle.spec.proofs.ListLaws.{while_sum, drop_while_le}
use Rattle.spec.proofs.MapLaws.{text_length}
use Rattle.spec.proofs.JoinedPieces.{joined, pieces_joined}
use Rattle.spec.proofs.FirstFound.{either_of, first_some}
use Rattle.spec.proofs.RefusalOutcomes.{first_target, fate_clause, first_clause}
use Rattle.spec.proofs.RefusalLaws.{after2, after4, target_in, clause_in, accepted_fits, qualified_exactly, using_exactly}
use Rattle.spec.specs.Bytes.{ascii, is_w, is_n, is_ident, is_word}
use Rattle.spec.specs.Lists.{is_empty, take_while, drop_while}
use Rattle.spec.specs.Map.{Marked, live, byte, bytes, marked_text, front_byte, of_byte, is_live_byte}
use Rattle.spec.specs.Search.{byte_here, pieces_from, pieces, starts_ignoring_case, word_here}
use Rattle.spec.specs.Assignments.{Target, or_else, assign_here, target_before, assign_target, lone_equals, equals_target, Marking, markings, marking_here, cases_behind, target_past, target_behind, marked_target, statement_target}
use Rattle.spec.specs.Parts.{trim}
use Rattle.spec.specs.Raise.{Fate, rewritten, refused_clause, message, using_fate, raise_fate, level_in, level_words, level_len, action_of, content_of, action_fate, raised_at, Token, raises_from}
use Rattle.spec.specs.declared.Level.{Level}
use Rattle.spec.specs.declared.Mark.{Mark}
use Rattle.spec.specs.declared.Mark.TheVariants.{OpensCase, ClosesCase, OpensStatement}
use Rattle.spec.specs.declared.RaiseType.{RaiseType}
use Rattle.spec.specs.declared.Action.{Action}
use Rattle.spec.specs.declared.Action.TheVariants.{Drop, Raise}
use Rattle.spec.specs.Raise.{Actions}
use Rattle.spec.specs.Outcome.{qualified_target, using_clause, result_too_long, accepted, refused, Rewriting}
use Rattle.spec.specs.Body.{buffer_size, rewriting}
use Rattle.spec.specs.Declarations.{record_limit, Declared, records_of, body_of}
use Rattle.spec.specs.Answers.{CallResult, result_of, body_result, function_result, by_table}
use Rattle.spec.specs.declared.Refusal.{Refusal}

pub bytes_length : (t : List Marked) → length (bytes t) ≡ length t
unfolding bytes
bytes_length t = length-map t byte

-- a text whose first byte is not 0 has a first byte
front_seen : (t : List Marked) (v : ℕ) → front_byte t ≡ suc v → 1 ≤ length t
unfolding front_byte
front_seen [] v h = absurd (omega arith)
front_seen (x ∷ t) v h = suc-le-suc zero-le

-- ---- a target is no longer than its statement

-- what is found, if anything is, has at most this size
abbrev pub Within : {A : Type 0} → (A → ℕ) → Option A → ℕ → Type 0
Within size None n = Unit {0}
Within size (Some a) n = size a ≤ n

pub within_le : {A : Type 0} (size : A → ℕ) (o : Option A) (m n : ℕ) → m ≤ n → Within size o m → Within size o n
within_le size None m n h w = tt
within_le size (Some a) m n h w = omega arith

-- the length of `q.n`
abbrev pub target_size : Target → ℕ
target_size r = length r.qualifier + suc (length r.name)

either_within : {A : Type 0} (size : A → ℕ) (o p : Option A) (n : ℕ)
    → Within size o n
    → Within size p n
    → Within size (either_of o p) n
either_within size None p n v w = w
either_within size (Some r) p n v w = v

else_within : (o p : Option Target) (n : ℕ) → Within target_size o n → Within target_size p n → Within target_size (or_else o p) n
unfolding or_else
else_within None p n v w = w
else_within (Some r) p n v w = v

before_within : (back : List Marked) → Within target_size (target_before back) (length back)
unfolding target_before
before_within back =
    let b = drop_while (of_byte is_w) back in
    let n = take_while (of_byte is_ident) b in
    let r = drop_while (of_byte is_ident) b in
    let q = take_while (of_byte is_ident) (drop 1 r) in
    cond_both (not (is_empty n) && (eqb (front_byte r) 46 && not (is_empty q))) _ _ (λ (o : Option Target). Within target_size o (length back))
    (λ e. omega (
      arith,
      length-reverse q,
      length-reverse n,
      drop_while_le (of_byte is_w) back,
      while_sum (of_byte is_ident) b,
      while_sum (of_byte is_ident) (drop 1 r),
      length-drop 1 r,
      front_seen r 45 (eqb-true (front_byte r) 46 ((and_parts (eqb (front_byte r) 46) (not (is_empty q)) ((and_parts (not (is_empty n)) _ e).1)).0)),
    ))
    (λ _. tt)

assign_within : (back t : List Marked) → Within target_size (assign_target back t) (length back + length t)
unfolding assign_target
assign_within back [] = tt
assign_within back (x ∷ t) =
    let n = length back + suc (length t) in
    let more : Within target_size (assign_target (x ∷ back) t) n =
    within_le target_size (assign_target (x ∷ back) t) _ n (omega arith) (assign_within (x ∷ back) t) in
    cond_both (assign_here back (x ∷ t)) _ _ (λ (o : Option Target). Within target_size o n)
    (λ _. else_within (target_before back) _ n (within_le target_size (target_before back) _ n (omega arith) (before_within back)) more)
    (λ _. more)

equals_within : (t : List Marked) → Within target_size (equals_target t) (length t)
unfolding equals_target
equals_within t =
    let a = drop_while (of_byte is_n) t in
    let q = take_while (of_byte is_ident) a in
    let r = drop_while (of_byte is_ident) a in
    let n = take_while (of_byte is_ident) (drop 1 r) in
    let e = drop_while (of_byte is_n) (drop_while (of_byte is_ident) (drop 1 r)) in
    let lone = not (is_empty n) && lone_equals e in
    cond_both (not (is_empty q) && (eqb (front_byte r) 46 && lone)) _ _ (λ (o : Option Target). Within target_size o (length t))
    (λ e. omega (
      arith,
      drop_while_le (of_byte is_n) t,
      while_sum (of_byte is_ident) a,
      while_sum (of_byte is_ident) (drop 1 r),
      length-drop 1 r,
      front_seen r 45 (eqb-true (front_byte r) 46 ((and_parts (eqb (front_byte r) 46) lone ((and_parts (not (is_empty q)) _ e).1)).0)),
    ))
    (λ _. tt)

past_within : (m : Mark) (n d : ℕ) (t : List Marked) → Within target_size (target_past m n d t) (length t)
unfolding target_past
past_within OpensCase n d t = tt
past_within ClosesCase n d t = tt
past_within OpensStatement n d t =
    cond_both (eqb d 0) _ _ (λ (o : Option Target). Within target_size o (length t))
    (λ _. within_le target_size (equals_target (drop n t)) _ _ (omega (arith, length-drop n t)) (equals_within (drop n t)))
    (λ _. tt)

behind_within : (m : Option Marking) (d : ℕ) (t : List Marked) → Within target_size (target_behind m d t) (length t)
unfolding target_behind
behind_within None d t = tt
behind_within (Some m) d t = past_within m.mark (length m.word) d t

marked_within : (d p : ℕ) (t : List Marked) → Within target_size (marked_target d p t) (length t)
unfolding marked_target
marked_within d p [] = tt
marked_within d p (x ∷ t) =
    let m = marking_here markings p (x ∷ t) in
    let more = marked_target (cases_behind m d) (byte x) t in
    else_within (target_behind m d (x ∷ t)) more (suc (length t)) (behind_within m d (x ∷ t))
    (within_le target_size more _ _ (omega arith) (marked_within (cases_behind m d) (byte x) t))

pub statement_within : (t : List Marked) → Within target_size (statement_target t) (length t)
unfolding statement_target
statement_within t =
    let rest = else_within (equals_target t) (marked_target 0 0 t) (length t) (equals_within t) (marked_within 0 0 t) in
    let whole = within_le target_size (assign_target [] t) _ (length t) (omega arith) (assign_within [] t) in
    else_within (assign_target [] t) _ (length t) whole rest

first_within : (b : ℕ) (ss : List (List Marked)) → Within target_size (first_target ss) (length (joined b ss))
unfolding first_some joined
first_within b [] = tt
first_within b (s ∷ []) = either_within target_size (statement_target s) None (length s) (statement_within s) tt
first_within b (s ∷ r ∷ ss) =
    let rest = live b ∷ joined b (r ∷ ss) in
    let n = length (s ++ rest) in
    let e = length-append s rest in
    either_within target_size (statement_target s) _ n
    (within_le target_size (statement_target s) _ n (omega arith) (statement_within s))
    (within_le target_size (first_target (r ∷ ss)) _ n (omega arith) (first_within b (r ∷ ss)))

-- a target of pass 3 is no longer than the text that pass 3 reads
pub target_within : (ys : List ℕ) → Within target_size (target_in ys) (length ys)
unfolding target_in pieces
target_within ys =
    let w = first_within 59 (pieces_from (byte_here 59) [] (marked_text ys)) in
    rw (pieces_joined 59 [] (marked_text ys), text_length ys) at w

-- `q.n` of refusal 4 is within the buffer size
pub qualified_fits : (act : Level → Action) (xs q n : List ℕ) → rewriting act xs ≡ refused (qualified_target q n) → length (q ++ (46 ∷ n)) ≤ buffer_size
qualified_fits act xs q n h =
    let t = (qualified_exactly act xs q n).0 h in
    let w : target_size t.target ≤ length (after2 xs) =
    subst (λ (o : Option Target). Within target_size o (length (after2 xs))) t.first (target_within (after2 xs)) in
    omega (
      arith,
      t.before.fits2,
      length-append q (46 ∷ n),
      ap length t.qualifier,
      ap length t.name,
      bytes_length t.target.qualifier,
      bytes_length t.target.name,
    )

-- ---- a clause is no longer than the text that pass 5 reads

using_within : (w : RaiseType) (content behind : List Marked)
    → Within length (fate_clause (using_fate w content behind)) (length content)
unfolding using_fate
using_within w content behind =
    let a = drop_while (of_byte is_w) behind in
    let b = drop_while (of_byte is_w) (drop 7 a) in
    let c = drop_while (of_byte is_w) (drop 1 b) in
    let m = message c in
    let fits =
    starts_ignoring_case (ascii "MESSAGE") a
    && (eqb (front_byte b) 61
    && (eqb (front_byte c) 39 && is_empty (drop_while (of_byte is_w) (drop (length m) c)))) in
    cond_both fits (rewritten w m) (refused_clause (bytes content)) (λ (f : Fate). Within length (fate_clause f) (length content))
    (λ _. tt)
    (λ _. omega (arith, bytes_length content))

fate_within : (w : RaiseType) (content : List Marked) → Within length (fate_clause (raise_fate w content)) (length content)
unfolding raise_fate
fate_within w content =
    cond_both (starts_ignoring_case (ascii "USING") content) _ _ (λ (f : Fate). Within length (fate_clause f) (length content))
    (λ _. using_within w content (drop 5 content))
    (λ _. tt)

action_within : (a : Action) (content : List Marked) → Within length (fate_clause (action_fate a content)) (length content)
unfolding action_fate
action_within Drop content = tt
action_within (Raise w) content =
    within_le length (fate_clause (raise_fate w (trim content))) _ _ (trim_le content) (fate_within w (trim content))

pub content_le : (t : List Marked) → length (content_of t) ≤ length t
unfolding content_of
content_le t =
    omega (
      arith,
      while_length (λ (x : Marked). not (is_live_byte 59 x)) (marked_text (bytes t)),
      text_length (bytes t),
      bytes_length t,
    )

raised_within : (act : Level → Action) (l : Option Level) (t : List Marked) → Within length (fate_clause (raised_at act l t).fate) (length t)
unfolding raised_at
raised_within act None t = tt
raised_within act (Some l) t =
    let n = 6 + level_len l (drop 6 t) in
    let content = content_of (drop n t) in
    within_le length (fate_clause (action_fate (act l) content)) _ _
    (omega (arith, content_le (drop n t), length-drop n t))
    (action_within (act l) content)

tokens_within : (act : Level → Action) (k p : ℕ) (t : List Marked) → Within length (first_clause (raises_from act k p t)) (length t)
unfolding first_some raises_from
tokens_within act k p [] = tt
tokens_within act zero p (x ∷ t) =
    let r = raised_at act (level_in level_words (drop 5 t)) (x ∷ t) in
    let n = suc (length t) in
    let later : (k : ℕ) → Within length (first_clause (raises_from act k (byte x) t)) n =
    λ k. within_le length (first_clause (raises_from act k (byte x) t)) _ n (omega arith) (tokens_within act k (byte x) t) in
    cond_both (word_here is_word (ascii "RAISE") p (x ∷ t)) _ _ (λ (ps : List Token). Within length (first_clause ps) n)
    (λ _. either_within length (fate_clause r.fate) _ n (raised_within act (level_in level_words (drop 5 t)) (x ∷ t)) (later (r.length - 1)))
    (λ _. later 0)
tokens_within act (suc k) p (x ∷ t) =
    within_le length (first_clause (raises_from act k (byte x) t)) _ _ (omega arith) (tokens_within act k (byte x) t)

-- a clause of pass 5 is no longer than the text that pass 5 reads
pub clause_within : (act : Level → Action) (ys : List ℕ) → Within length (clause_in act ys) (length ys)
unfolding clause_in
clause_within act ys =
    let w = tokens_within act 0 0 (marked_text ys) in
    rw (text_length ys) at w

-- the clause of refusal 5 is within the buffer size
pub using_fits : (act : Level → Action) (xs c : List ℕ) → rewriting act xs ≡ refused (using_clause c) → length c ≤ buffer_size
using_fits act xs c h =
    let t = (using_exactly act xs c).0 h in
    let w : length c ≤ length (after4 xs) =
    subst (λ (o : Option (List ℕ)). Within length o (length (after4 xs))) t.first (clause_within act (after4 xs)) in
    omega (arith, t.before.fits4)

-- ---- the calls

result_fits : (act : Level → Action) (ds : List Declared) (xs : List ℕ) → length (result_of ds (rewriting act xs)).output ≤ buffer_size
unfolding result_of
result_fits act ds xs = go (rewriting act xs) refl
  where
    go : (r : Rewriting) → rewriting act xs ≡ r → length (result_of ds r).output ≤ buffer_size
    go (accepted zs) e = accepted_fits act xs zs e
    go (refused (qualified_target q n)) e = qualified_fits act xs q n e
    go (refused (using_clause c)) e = using_fits act xs c e
    go (refused result_too_long) e = zero-le

-- the output of the body call, and of the function call, is within the buffer size, with any actions and refusals included
pub body_output_fits : (xs : List ℕ) (a : Actions) → length (body_result xs a).output ≤ buffer_size
unfolding body_result
body_output_fits xs a = result_fits (action_of a) [] xs

pub function_output_fits : (xs : List ℕ) (a : Actions) → length (function_result xs a).output ≤ buffer_size
unfolding function_result
function_output_fits xs a =
    cond_both (ltb record_limit (length (records_of xs))) _ _ (λ (r : CallResult). length r.output ≤ buffer_size)
    (λ _. zero-le)
    (λ _. result_fits (action_of a) (records_of xs) (body_of xs))

-- so it is whatever the table says: a refused table leaves nothing in it
pub by_table_fits : (levels : Result Actions Refusal) (call : Actions → CallResult) → ((a : Actions) → length (call a).output ≤ buffer_size)
    → length (by_table levels call).output ≤ buffer_size
by_table_fits (Ok a) call fits = fits a
by_table_fits (Err r) call fits = zero-le

pub body_table_fits : (levels : Result Actions Refusal) (xs : List ℕ) → length (by_table levels (body_result xs)).output ≤ buffer_size
body_table_fits levels xs = by_table_fits levels (body_result xs) (body_output_fits xs)

pub function_table_fits : (levels : Result Actions Refusal) (xs : List ℕ) → length (by_table levels (function_result xs)).output ≤ buffer_size
function_table_fits levels xs = by_table_fits levels (function_result xs) (function_output_fits xs)
