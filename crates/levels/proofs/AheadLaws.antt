-- The first of some texts that stands in front, and a line as its level, its action and what stands behind each. Assumes
-- nothing.
use Rattle.std.specs.Prelude.{Option, Some, None, option_map}
use Rattle.std.specs.Borrow.{Bor}
use Rattle.std.specs.List.{find}
use Rattle.std.specs.Option.{unwrap_or}
use Rattle.std.proofs.lemmas.Option.{none-some}
use Rattle.std.proofs.lemmas.Bool.{and_from, and_parts}
use Rattle.levels.specs.declared.Line.{Line}
use mathlib.Core.Path.{◌≡◌, refl, sym, ap, ap₂, ◌∙◌}
use mathlib.Core.Bool.{Bool, true, false, not, ◌&&◌, false≢true}
use mathlib.Core.List.{List, [], ◌∷◌, ◌++◌, map, append_assoc, Memᴰ}
use Prim.Native.Nat.{ℕ, ◌+◌, ◌≤◌}
use native.Mathlib.Omega.{arith}
use borrow.Author.Tests.{not-true}
use lib.ListN.{length, drop, length-append}
use Rattle.spec.proofs.Apart.{apart}
use Rattle.spec.proofs.Choice.{by}
use Rattle.spec.proofs.LineLaws.{entry, text_injective, every_entry, only_last, through, first_line, through_only, first_text}
use Rattle.spec.proofs.PrefixLaws.{prefix_split, prefix_append}
use Rattle.spec.specs.Bytes.{is_prefix}
use Rattle.spec.specs.Lists.{all, concat}
use Rattle.spec.specs.Raise.{action_name}
use Rattle.spec.specs.Levels.{level_name, Entry, line_text, all_levels, all_actions, all_entries}
use Rattle.spec.specs.declared.Level.{Level}
use Rattle.spec.specs.declared.Level.TheVariants.{Debug, Log, Info, Notice, Warning, Exception}
use Rattle.spec.specs.declared.RaiseType.TheVariants.{Abort, Fail, Rollback}
use Rattle.spec.specs.declared.Action.{Action}
use Rattle.spec.specs.declared.Action.TheVariants.{Drop, Raise}
use Rattle.levels.specs.Lines.{ahead, IsTextTable, found_ahead, level_text, action_text, with_length, line_of}

-- ---- the first that stands in front

module _ {A : Type 0} (text : A → List ℕ) (xs : List ℕ) where
  -- what is found stands there
  pub ahead_some : (l : List A) (x : A) → ahead text l xs ≡ Some x → is_prefix (text x) xs ≡ true
  ahead_some [] x h = absurd (apart (cc))
  ahead_some (y ∷ l) x h =
      by (is_prefix (text y) xs)
      (λ q.
      let k : Some y ≡ Some x = rw q at h in
      let i : x ≡ y = cc in
      ap (λ (z : A). is_prefix (text z) xs) i ∙ q)
      (λ q. let k : ahead text l xs ≡ Some x = rw q at h in ahead_some l x k)

  -- and where none is found, none stands there
  pub ahead_none : (l : List A) → ahead text l xs ≡ None → all (λ x. not (is_prefix (text x) xs)) l ≡ true
  unfolding all
  ahead_none [] h = refl
  ahead_none (y ∷ l) h =
      by (is_prefix (text y) xs)
      (λ q. let k : Some y ≡ None = rw q at h in absurd (apart (cc)))
      (λ q. let k : ahead text l xs ≡ None = rw q at h in simp q (ahead_none l k))

-- ---- the same by a table of texts

-- the length of a text, and what it stands for
abbrev sized : {A : Type 0} → List ℕ × A → A × ℕ
sized w = (w.1, length w.0)

abbrev sized_name : {A : Type 0} → Bor (List ℕ) × A → A × ℕ
sized_name p = (p.1, length p.0.now)

-- the same of what is lent
abbrev pub handed : {A : Type 0} → Option (Bor (Bor (List ℕ) × A)) → Option (A × ℕ)
handed r = option_map sized_name (option_map (λ y. y.now) r)

module _ {A : Type 0} (xs : List ℕ) where
  -- the first that stands in front is the same of a list that has the texts themselves
  sized_ahead : {B : Type 0} (h : B → List ℕ × A) (l : List B)
      → option_map (λ b. sized (h b)) (find (λ b. is_prefix (h b).0 xs) l) ≡ option_map sized (find (λ w. is_prefix w.0 xs) (map h l))
  sized_ahead h [] = refl
  sized_ahead h (b ∷ l) = by (is_prefix (h b).0 xs) (λ q. rw q refl) (λ q. rw q (sized_ahead h l))

  -- by what a search in a table found
  pub table_ahead : (text : A → List ℕ) (l : List A) (table : List (Bor (List ℕ) × A)) (r : Option (Bor (Bor (List ℕ) × A)))
      → IsTextTable text l table → option_map (λ y. y.now) r ≡ find (λ p. is_prefix p.0.now xs) table → handed r ≡ found_ahead text l xs
  table_ahead text l table r h e =
      ap (option_map sized_name) e
      ∙ (sized_ahead (λ p. (p.0.now, p.1)) table
      ∙ (ap (λ (t : List (List ℕ × A)). option_map sized (find (λ w. is_prefix w.0 xs) t)) h ∙ sym (sized_ahead (λ x. (text x, x)) l)))

-- ---- all levels, and all actions

all_at : {A : Type 0} (p : A → Bool) (x : A) (l : List A) → Memᴰ x l → all p l ≡ true → p x ≡ true
unfolding all
all_at p x l (Memᴰ.head {x = y} {xs = t} e) h = ap p e ∙ (and_parts (p y) (all p t) h).0
all_at p x l (Memᴰ.tail {x = y} {xs = t} m) h = all_at p x t m ((and_parts (p y) (all p t) h).1)

level_in_lem : (l : Level) → Memᴰ l all_levels
unfolding all_levels
level_in_lem Debug = Memᴰ.head refl
level_in_lem Log = Memᴰ.tail (Memᴰ.head refl)
level_in_lem Info = Memᴰ.tail (Memᴰ.tail (Memᴰ.head refl))
level_in_lem Notice = Memᴰ.tail (Memᴰ.tail (Memᴰ.tail (Memᴰ.head refl)))
level_in_lem Warning = Memᴰ.tail (Memᴰ.tail (Memᴰ.tail (Memᴰ.tail (Memᴰ.head refl))))
level_in_lem Exception = Memᴰ.tail (Memᴰ.tail (Memᴰ.tail (Memᴰ.tail (Memᴰ.tail (Memᴰ.head refl)))))

action_in : (a : Action) → Memᴰ a all_actions
unfolding all_actions
action_in Drop = Memᴰ.head refl
action_in (Raise Abort) = Memᴰ.tail (Memᴰ.head refl)
action_in (Raise Fail) = Memᴰ.tail (Memᴰ.tail (Memᴰ.head refl))
action_in (Raise Rollback) = Memᴰ.tail (Memᴰ.tail (Memᴰ.tail (Memᴰ.head refl)))

-- ---- what is found, by the answer: there is one, and the length of its text, or there is none

module _ {A : Type 0} (text : A → List ℕ) where
  found_some : (o : Option A) (p : A × ℕ) → option_map (with_length text) o ≡ Some p → (o ≡ Some p.0) × (p.1 ≡ length (text p.0))
  found_some None p h = absurd (none-some _ h)
  found_some (Some x) p h =
      let same : (x, length (text x)) ≡ p = ap (λ (o : Option (A × ℕ)). unwrap_or o p) h in
      let front : x ≡ p.0 = ap (λ (q : A × ℕ). q.0) same in
      (ap Some front, sym (ap (λ (q : A × ℕ). q.1) same) ∙ ap (λ (y : A). length (text y)) front)

pub level_found_lem : (o : Option Level) (p : Level × ℕ) → option_map (with_length level_text) o ≡ Some p → (o ≡ Some p.0) × (p.1 ≡ length (level_text p.0))
level_found_lem = found_some level_text

pub action_found_lem : (o : Option Action) (p : Action × ℕ) → option_map (with_length action_text) o ≡ Some p → (o ≡ Some p.0) × (p.1 ≡ length (action_text p.0))
action_found_lem = found_some action_text

pub found_none : {A B : Type 0} (f : A → B) (o : Option A) → option_map f o ≡ None → o ≡ None
found_none f None h = refl
found_none f (Some x) h = absurd (none-some _ (sym h))

pub line_found_lem : (o : Option Entry) (l : Line) → option_map line_of o ≡ Some l → (o ≡ Some (entry l.level l.action)) × (l.len ≡ length (line_text (entry l.level l.action)))
line_found_lem None l h = absurd (none-some _ h)
line_found_lem (Some e) l h =
    let made : line_of e ≡ l = ap (λ (o : Option Line). unwrap_or o l) h in
    let same : e ≡ entry l.level l.action = ap₂ entry (ap (λ (m : Line). m.level) made) (ap (λ (m : Line). m.action) made) in
    (ap Some same, sym (ap (λ (m : Line). m.len) made) ∙ ap (λ (f : Entry). length (line_text f)) same)

-- ---- a line

-- a level's name has its space at its end alone
level_only : (l : Level) → only_last 32 (level_text l) ≡ true
unfolding only_last level_text all all_entries all_levels all_actions concat level_name
level_only l = every_entry (λ e. only_last 32 (level_text e.level)) refl (entry l Drop)

-- a line is its level and then its action
line_split : (l : Level) (a : Action) → line_text (entry l a) ≡ level_text l ++ action_text a
unfolding line_text level_text action_text
line_split l a = sym (append_assoc (level_name l) (32 ∷ []) (action_name a ++ (10 ∷ [])))

pub line_length : (l : Level) (a : Action) → length (line_text (entry l a)) ≡ length (level_text l) + length (action_text a)
line_length l a = ap length (line_split l a) ∙ length-append (level_text l) (action_text a)

level_injective : (k l : Level) → level_text k ≡ level_text l → k ≡ l
level_injective k l h =
    let both = line_split k Drop ∙ (ap (λ (w : List ℕ). w ++ action_text Drop) h ∙ sym (line_split l Drop)) in
    ap (λ (e : Entry). e.level) (text_injective (entry k Drop) (entry l Drop) both)

module _ (xs : List ℕ) where
  -- a line stands in front exactly if its level does and its action stands behind that
  line_parts : (l : Level) (a : Action) → is_prefix (line_text (entry l a)) xs ≡ (is_prefix (level_text l) xs && is_prefix (action_text a) (drop (length (level_text l)) xs))
  line_parts l a = ap (λ (p : List ℕ). is_prefix p xs) (line_split l a) ∙ prefix_append (level_text l) (action_text a) xs

  through_level : (l : Level) → is_prefix (level_text l) xs ≡ true → through 32 xs ≡ level_text l
  through_level l h = ap (through 32) (prefix_split (level_text l) xs h) ∙ through_only 32 (level_text l) (drop (length (level_text l)) xs) (level_only l)

  -- one level stands in front, and one line
  one_level : (k l : Level) → is_prefix (level_text k) xs ≡ true → is_prefix (level_text l) xs ≡ true → k ≡ l
  one_level k l h i = level_injective k l (sym (through_level k h) ∙ through_level l i)

  first_ahead : (e : Entry) → is_prefix (line_text e) xs ≡ true → first_line xs ≡ line_text e
  first_ahead e h = ap first_line (prefix_split (line_text e) xs h) ∙ first_text e (drop (length (line_text e)) xs)

  one_line : (e f : Entry) → is_prefix (line_text e) xs ≡ true → is_prefix (line_text f) xs ≡ true → e ≡ f
  one_line e f h i = text_injective e f (sym (first_ahead e h) ∙ first_ahead f i)

  -- no line stands in front
  pub no_line_lem : ahead line_text all_entries xs ≡ None → (e : Entry) → is_prefix (line_text e) xs ≡ false
  no_line_lem h e = not-true (is_prefix (line_text e) xs) (every_entry (λ f. not (is_prefix (line_text f) xs)) (ahead_none line_text xs all_entries h) e)

  all_absent : ((e : Entry) → is_prefix (line_text e) xs ≡ true → ⊥) → ahead line_text all_entries xs ≡ None
  all_absent w = go (ahead line_text all_entries xs) refl
    where
      go : (o : Option Entry) → ahead line_text all_entries xs ≡ o → ahead line_text all_entries xs ≡ None
      go None h = h
      go (Some e) h = absurd (w e (ahead_some line_text xs all_entries e h))

  -- without a level there is no line
  pub line_no_level : ahead level_text all_levels xs ≡ None → ahead line_text all_entries xs ≡ None
  line_no_level h =
      all_absent (λ e i.
      let level = is_prefix (level_text e.level) xs in
      let there = (and_parts level _ (sym (line_parts e.level e.action) ∙ i)).0 in
      let missing = not-true level (all_at (λ l. not (is_prefix (level_text l) xs)) e.level all_levels (level_in_lem e.level) (ahead_none level_text xs all_levels h)) in
      false≢true (sym missing ∙ there))

  module _ (l : Level) (h : ahead level_text all_levels xs ≡ Some l) where
    level_stands : is_prefix (level_text l) xs ≡ true
    level_stands = ahead_some level_text xs all_levels l h

    -- the level stands within the text
    pub level_fits : length (level_text l) ≤ length xs
    level_fits = omega (arith, ap length (prefix_split (level_text l) xs level_stands), length-append (level_text l) (drop (length (level_text l)) xs))

    -- nor with a level and no action
    pub line_no_action : ahead action_text all_actions (drop (length (level_text l)) xs) ≡ None → ahead line_text all_entries xs ≡ None
    line_no_action m =
        all_absent (λ e i.
        let level = is_prefix (level_text e.level) xs in
        let test : Level → Bool = λ k. is_prefix (action_text e.action) (drop (length (level_text k)) xs) in
        let both = sym (line_parts e.level e.action) ∙ i in
        let same : e.level ≡ l = one_level e.level l ((and_parts level (test e.level) both).0) level_stands in
        let there : test l ≡ true = ap test (sym same) ∙ (and_parts level (test e.level) both).1 in
        let missing = not-true (test l) (all_at (λ a. not (is_prefix (action_text a) (drop (length (level_text l)) xs))) e.action all_actions (action_in e.action) (ahead_none action_text (drop (length (level_text l)) xs) all_actions m)) in
        false≢true (sym missing ∙ there))

    -- a level and then an action are the line
    pub line_whole : (a : Action) → ahead action_text all_actions (drop (length (level_text l)) xs) ≡ Some a → ahead line_text all_entries xs ≡ Some (entry l a)
    line_whole a m =
        go (ahead line_text all_entries xs) refl
      where
        stands : is_prefix (line_text (entry l a)) xs ≡ true
        stands = line_parts l a ∙ and_from _ _ level_stands (ahead_some action_text (drop (length (level_text l)) xs) all_actions a m)

        go : (o : Option Entry) → ahead line_text all_entries xs ≡ o → ahead line_text all_entries xs ≡ Some (entry l a)
        go None i = absurd (false≢true (sym (no_line_lem i (entry l a)) ∙ stands))
        go (Some e) i = i ∙ ap Some (one_line e (entry l a) (ahead_some line_text xs all_entries e i) stands)
