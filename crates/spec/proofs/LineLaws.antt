-- The lines of a table: which lines are well formed, that a well-formed line in front of a text is its first line, and what
-- the table says by its first line. Assumes nothing.
use Rattle.std.specs.Prelude.{Option, Some, None, Err}
use mathlib.Core.Path.{◌≡◌, refl, sym, ap, ◌∙◌}
use mathlib.Core.Bool.{Bool, true, false, not, ◌&&◌, false≢true}
use mathlib.Core.List.{List, [], ◌∷◌, ◌++◌}
use mathlib.Core.Logic.{◌↔◌}
use Prim.Native.Nat.{ℕ, suc, ◌+◌, ◌≤◌, ◌<◌}
use native.Mathlib.Omega.{arith}
use borrow.Author.Tests.{not-true, ltb-true, leb-true}
use lib.Dec.{eqb, ltb, leb}
use lib.ListN.{length, take, drop, length-append, take-append-drop}
use lib.Seq.{drop-append_seam}
use Rattle.spec.proofs.Apart.{apart}
use Rattle.std.proofs.lemmas.Bool.{and_parts}
use Rattle.spec.proofs.Choice.{by}
use Rattle.spec.proofs.NameOrder.{same_eq}
use Rattle.spec.specs.Bytes.{is_same}
use Rattle.spec.specs.Lists.{take_while, all, concat}
use Rattle.spec.specs.Search.{onto_first}
use Rattle.spec.specs.Raise.{action_name}
use Rattle.spec.specs.Levels.{level_name, Entry, line_text, all_levels, all_actions, all_entries, entry_in, entry_of, lines_of, given_action, or_repeated, table_from}
use Rattle.spec.specs.declared.Level.{Level}
use Rattle.spec.specs.declared.Level.TheVariants.{Debug, Log, Info, Notice, Warning, Exception}
use Rattle.spec.specs.declared.RaiseType.TheVariants.{Abort, Fail, Rollback}
use Rattle.spec.specs.declared.Action.{Action}
use Rattle.spec.specs.declared.Action.TheVariants.{Drop, Raise}
use Rattle.spec.specs.declared.Refusal.TheVariants.{MalformedLine}

-- ---- well-formed lines

-- what a line says, of its level and its action
abbrev pub entry : Level → Action → Entry
entry l a = record { level = l; action = a }

-- what holds of each action holds of all
each_action : (P : Action → Type 0) → P Drop → P (Raise Abort) → P (Raise Fail) → P (Raise Rollback) → (a : Action) → P a
each_action P d a f r Drop = d
each_action P d a f r (Raise Abort) = a
each_action P d a f r (Raise Fail) = f
each_action P d a f r (Raise Rollback) = r

-- the line of a level and an action says them
said : (l : Level) (a : Action) → entry_of (line_text (entry l a)) ≡ Some (entry l a)
unfolding entry_of entry_in all_entries all_levels all_actions concat line_text level_name action_name is_same
said Debug = each_action (λ a. entry_of (line_text (entry Debug a)) ≡ Some (entry Debug a)) refl refl refl refl
said Log = each_action (λ a. entry_of (line_text (entry Log a)) ≡ Some (entry Log a)) refl refl refl refl
said Info = each_action (λ a. entry_of (line_text (entry Info a)) ≡ Some (entry Info a)) refl refl refl refl
said Notice = each_action (λ a. entry_of (line_text (entry Notice a)) ≡ Some (entry Notice a)) refl refl refl refl
said Warning = each_action (λ a. entry_of (line_text (entry Warning a)) ≡ Some (entry Warning a)) refl refl refl refl
said Exception = each_action (λ a. entry_of (line_text (entry Exception a)) ≡ Some (entry Exception a)) refl refl refl refl

written : (es : List Entry) (line : List ℕ) (e : Entry) → entry_in es line ≡ Some e → line ≡ line_text e
unfolding entry_in
written [] line e h = absurd (apart (cc))
written (f ∷ es) line e h =
    by (is_same (line_text f) line)
    (λ q.
    let k : Some f ≡ Some e = rw q at h in
    let i : f ≡ e = cc in
    sym (same_eq (line_text f) line q) ∙ ap line_text i)
    (λ q. let k : entry_in es line ≡ Some e = rw q at h in written es line e k)

-- a line says e exactly if it is e's text
pub entry_exactly : (line : List ℕ) (e : Entry) → (entry_of line ≡ Some e) ↔ (line ≡ line_text e)
unfolding entry_of
entry_exactly line e = (written all_entries line e, λ h. ap entry_of h ∙ said e.level e.action)

-- two levels and actions are never written alike
pub text_injective : (e f : Entry) → line_text e ≡ line_text f → e ≡ f
text_injective e f h =
    let p = (entry_exactly (line_text e) e).1 refl in
    let q = (entry_exactly (line_text e) f).1 h in
    cc

-- a line is malformed exactly if it is the text of no entry
pub no_entry_exactly : (line : List ℕ) → (entry_of line ≡ None) ↔ ((e : Entry) → line ≡ line_text e → ⊥)
no_entry_exactly line = (
  (λ h e q. let k = (entry_exactly line e).1 q in apart (cc)),
  (λ h. go h (entry_of line) refl),
)
  where
    go : ((e : Entry) → line ≡ line_text e → ⊥) → (o : Option Entry) → entry_of line ≡ o → entry_of line ≡ None
    go h None q = q
    go h (Some e) q = absurd (h e ((entry_exactly line e).0 q))

passes : (p : Entry → Bool) (es : List Entry) (line : List ℕ) (e : Entry) → all p es ≡ true → entry_in es line ≡ Some e → p e ≡ true
unfolding entry_in all
passes p [] line e a h = absurd (apart (cc))
passes p (f ∷ es) line e a h =
    by (is_same (line_text f) line)
    (λ q.
    let k : Some f ≡ Some e = rw q at h in
    let i : e ≡ f = cc in
    ap p i ∙ (and_parts (p f) (all p es) a).0)
    (λ q. let k : entry_in es line ≡ Some e = rw q at h in passes p es line e ((and_parts (p f) (all p es) a).1) k)

-- a test that all of the list pass, each level with each action, every entry passes
pub every_entry : (p : Entry → Bool) → all p all_entries ≡ true → (e : Entry) → p e ≡ true
unfolding entry_of
every_entry p h e = passes p all_entries (line_text e) e h (said e.level e.action)

-- ---- the first line

-- b stands in xs as its last byte, and nowhere else
unfoldable pub only_last : ℕ → List ℕ → Bool
only_last b [] = false
only_last b (x ∷ []) = eqb x b
only_last b (x ∷ y ∷ xs) = not (eqb x b) && only_last b (y ∷ xs)

-- a text through its first b, or to its end
unfoldable pub through : ℕ → List ℕ → List ℕ
through b xs = take (length (take_while (λ (x : ℕ). not (eqb x b)) xs) + 1) xs

-- a text's first line, through its newline or to the end
abbrev pub first_line : List ℕ → List ℕ
first_line xs = through 10 xs

through_nil : (b : ℕ) → through b [] ≡ []
unfolding through take_while
through_nil b = refl

through_ends : (b x : ℕ) (t : List ℕ) → eqb x b ≡ true → through b (x ∷ t) ≡ x ∷ []
unfolding through take_while
through_ends b x t q = rw q

through_on : (b x : ℕ) (t : List ℕ) → eqb x b ≡ false → through b (x ∷ t) ≡ x ∷ through b t
unfolding through take_while
through_on b x t q =
    let n = length (take_while (λ (y : ℕ). not (eqb y b)) t) in
    let e : suc n + 1 ≡ suc (n + 1) = omega arith in
    rw (q, e)

-- a text that begins with one whose only b is its last byte
pub through_only : (b : ℕ) (p rest : List ℕ) → only_last b p ≡ true → through b (p ++ rest) ≡ p
unfolding only_last
through_only b [] rest h = absurd (false≢true h)
through_only b (x ∷ []) rest h = through_ends b x rest h
through_only b (x ∷ y ∷ p) rest h =
    let n = not-true (eqb x b) ((and_parts (not (eqb x b)) (only_last b (y ∷ p)) h).0) in
    let more = through_only b (y ∷ p) rest ((and_parts (not (eqb x b)) (only_last b (y ∷ p)) h).1) in
    through_on b x (y ∷ (p ++ rest)) n ∙ ap (λ (l : List ℕ). x ∷ l) more

-- the lines of t by its first
abbrev Front : List ℕ → Type 0
Front t = lines_of t ≡ first_line t ∷ lines_of (drop (length (first_line t)) t)

pub no_lines : lines_of [] ≡ []
unfolding lines_of
no_lines = refl

front_on : (b : ℕ) (t : List ℕ) → (0 < length t → Front t) → onto_first b (lines_of t) ≡ (b ∷ first_line t) ∷ lines_of (drop (length (first_line t)) t)
unfolding onto_first
front_on b [] more = rw (through_nil, no_lines)
front_on b (c ∷ t) more = rw (more (omega arith))

-- the lines of any text that is not empty: the first, and those of the rest
pub lines_front : (xs : List ℕ) → 0 < length xs → Front xs
unfolding lines_of
lines_front [] h = absurd (omega arith)
lines_front (b ∷ t) h =
    by (eqb b 10) (λ q. rw (q, through_ends 10 b t q)) (λ q. rw (q, through_on 10 b t q) (front_on b t (λ k. lines_front t k)))

-- a well-formed line has one newline, at its end
text_line : (e : Entry) → only_last 10 (line_text e) ≡ true
unfolding only_last all all_entries all_levels all_actions concat line_text level_name action_name
text_line e = every_entry (λ e. only_last 10 (line_text e)) refl e

-- it has at least one byte and at most 19
pub text_size : (e : Entry) → (0 < length (line_text e)) × (length (line_text e) ≤ 19)
unfolding all all_entries all_levels all_actions concat line_text level_name action_name
text_size e = (
  ltb-true 0 (length (line_text e)) (every_entry (λ e. ltb 0 (length (line_text e))) refl e),
  leb-true (length (line_text e)) 19 (every_entry (λ e. leb (length (line_text e)) 19) refl e),
)

-- of a text that begins with a well-formed line, that is the first line
pub first_text : (e : Entry) (rest : List ℕ) → first_line (line_text e ++ rest) ≡ line_text e
first_text e rest = through_only 10 (line_text e) rest (text_line e)

-- and where a well-formed line is the first, the text begins with it
pub text_first : (e : Entry) (xs : List ℕ) → first_line xs ≡ line_text e → xs ≡ line_text e ++ drop (length (line_text e)) xs
unfolding through
text_first e xs h =
    let n = length (take_while (λ (x : ℕ). not (eqb x 10)) xs) + 1 in
    let cut : xs ≡ line_text e ++ drop n xs = sym (take-append-drop n xs) ∙ ap (λ (l : List ℕ). l ++ drop n xs) h in
    let rest : drop (length (line_text e)) xs ≡ drop n xs = ap (drop (length (line_text e))) cut ∙ drop-append_seam (line_text e) (drop n xs) in
    cut ∙ ap (λ (l : List ℕ). line_text e ++ l) (sym rest)

-- ---- what a table says by its first line

module _ (es : List Entry) (n : ℕ) where
  -- a well-formed line: 12 if its level has an action, else the lines behind it decide
  pub from_text_lem : (e : Entry) (rest : List ℕ) → table_from es n (lines_of (line_text e ++ rest)) ≡ or_repeated n (given_action es e.level) (table_from (e ∷ es) (n + length (line_text e)) (lines_of rest))
  unfolding table_from
  from_text_lem e rest =
      let k : 0 < length (line_text e ++ rest) = omega (arith, length-append (line_text e) rest, text_size e) in
      rw (lines_front (line_text e ++ rest) k, first_text e rest, drop-append_seam (line_text e) rest, (entry_exactly (line_text e) e).1 refl)

  -- a malformed one: 11
  pub from_malformed : (xs : List ℕ) → 0 < length xs → ((e : Entry) → first_line xs ≡ line_text e → ⊥) → table_from es n (lines_of xs) ≡ Err (MalformedLine n)
  unfolding table_from
  from_malformed xs h w = rw (lines_front xs h, (no_entry_exactly (first_line xs)).1 w)
