-- Note 10's table in the note's words: 11, 12 and 13 exactly where it says, and the actions of a table exactly those of its
-- six lines. Assumes nothing.
use Rattle.std.specs.Prelude.{Result, Ok, Err}
use mathlib.Core.Path.{◌≡◌, refl, sym, ap, ◌∙◌, subst}
use mathlib.Core.List.Memᴰ
use mathlib.Core.List.{List, [], ◌∷◌, ◌++◌, append-nil, reverse, Memᴰ}
use mathlib.Core.Logic.{◌↔◌, ⊎_elim}
use Prim.Native.Nat.{ℕ, ◌+◌, ◌<◌}
use lib.ListN.{length}
use Rattle.spec.proofs.LineLaws.{entry, first_line, no_lines, from_text_lem, from_malformed}
use Rattle.spec.proofs.TableLines.{table_text, Stands, Different, given_line, none_given, given_some, only_line, end_cases}
use Rattle.spec.proofs.TableWalk.{reverse_lines, read_lines, Ending, finished, malformed, repeats, reading}
use Rattle.spec.specs.Raise.{action_of}
use Rattle.spec.specs.Levels.{Entry, line_text, lines_of, or_repeated, table_end, table_from, table_of}
use Rattle.spec.specs.declared.Level.{Level}
use Rattle.spec.specs.declared.Level.TheVariants.{Debug, Log, Info, Notice, Warning, Exception}
use Rattle.spec.specs.Raise.{Actions}
use Rattle.spec.specs.declared.Refusal.TheVariants.{TextTooLong, NotAscii, BufferTooShort, QualifiedTarget, UsingClause, ResultTooLong, TooManyNames, MalformedLine, RepeatedLevel, MissingLevel}
use Rattle.spec.specs.declared.Refusal.{Refusal}

-- ---- the note's words

-- 11: behind well-formed lines of different levels stands a malformed one, at i
pub record HasMalformedLine (xs : List ℕ) (i : ℕ) : Type 0 where
  pub before : List Entry
  pub rest : List ℕ
  pub parts : xs ≡ table_text before ++ rest
  pub different : Different before
  pub not_empty : 0 < length rest
  pub bad : (e : Entry) → first_line rest ≡ line_text e → ⊥
  pub place : i ≡ length (table_text before)

-- 12: behind well-formed lines of different levels stands a well-formed one whose level one of them has, at i
pub record HasRepeatedLevel (xs : List ℕ) (i : ℕ) : Type 0 where
  pub before : List Entry
  pub line : Entry
  pub rest : List ℕ
  pub parts : xs ≡ table_text before ++ (line_text line ++ rest)
  pub different : Different before
  pub again : Stands line.level before
  pub place : i ≡ length (table_text before)

-- 13: no line is bad and a level stands in none of them; i is the table's length
pub record HasMissingLevel (xs : List ℕ) (i : ℕ) : Type 0 where
  pub lines : List Entry
  pub parts : xs ≡ table_text lines
  pub different : Different lines
  pub level : Level
  pub missing : Stands level lines → ⊥
  pub place : i ≡ length xs

-- accepted: no line is bad, every level stands in one, and the actions are the lines'
pub record HasActions (xs : List ℕ) (a : Actions) : Type 0 where
  pub lines : List Entry
  pub parts : xs ≡ table_text lines
  pub different : Different lines
  pub complete : (l : Level) → Stands l lines
  pub actions : (e : Entry) → Memᴰ e lines → action_of a e.level ≡ e.action

-- what a table says, in these words; it has no other refusal
abbrev pub Says : List ℕ → Result Actions Refusal → Type 0
Says xs (Ok a) = HasActions xs a
Says xs (Err (MalformedLine i)) = HasMalformedLine xs i
Says xs (Err (RepeatedLevel i)) = HasRepeatedLevel xs i
Says xs (Err (MissingLevel i)) = HasMissingLevel xs i
Says xs (Err TextTooLong) = ⊥
Says xs (Err (NotAscii i)) = ⊥
Says xs (Err BufferTooShort) = ⊥
Says xs (Err (QualifiedTarget q n)) = ⊥
Says xs (Err (UsingClause n)) = ⊥
Says xs (Err ResultTooLong) = ⊥
Says xs (Err TooManyNames) = ⊥

-- a proof by the four
pub by_words : (xs : List ℕ) (P : Result Actions Refusal → Type 0)
    → ((a : Actions) → HasActions xs a → P (Ok a))
    → ((i : ℕ) → HasMalformedLine xs i → P (Err (MalformedLine i)))
    → ((i : ℕ) → HasRepeatedLevel xs i → P (Err (RepeatedLevel i)))
    → ((i : ℕ) → HasMissingLevel xs i → P (Err (MissingLevel i)))
    → (t : Result Actions Refusal) → Says xs t → P t
by_words xs P g m r l (Ok a) w = g a w
by_words xs P g m r l (Err (MalformedLine i)) w = m i w
by_words xs P g m r l (Err (RepeatedLevel i)) w = r i w
by_words xs P g m r l (Err (MissingLevel i)) w = l i w
by_words xs P g m r l (Err TextTooLong) w = absurd w
by_words xs P g m r l (Err (NotAscii i)) w = absurd w
by_words xs P g m r l (Err BufferTooShort) w = absurd w
by_words xs P g m r l (Err (QualifiedTarget q n)) w = absurd w
by_words xs P g m r l (Err (UsingClause n)) w = absurd w
by_words xs P g m r l (Err ResultTooLong) w = absurd w
by_words xs P g m r l (Err TooManyNames) w = absurd w

-- ---- where these words hold, the table says so

stands_reversed : (es : List Entry) (l : Level) → Stands l es → Stands l (reverse es)
stands_reversed es l s = (s.0, (reverse_lines es s.0).1 s.1, s.2)

lines_alone : (es : List Entry) → Different es → table_of (table_text es) ≡ table_end (reverse es) (length (table_text es))
unfolding table_from
lines_alone es d =
    ap table_of (sym (append-nil (table_text es)))
    ∙ (read_lines es [] d ∙ ap (λ ls. table_from (reverse es) (length (table_text es)) ls) no_lines)

module _ (xs : List ℕ) where
  malformed_says : (i : ℕ) → HasMalformedLine xs i → table_of xs ≡ Err (MalformedLine i)
  malformed_says i w =
      let n = length (table_text w.before) in
      ap table_of w.parts
      ∙ (read_lines w.before w.rest w.different
      ∙ (from_malformed (reverse w.before) n w.rest w.not_empty w.bad
      ∙ ap (λ (k : ℕ). Err (MalformedLine k)) (sym w.place)))

  repeated_says : (i : ℕ) → HasRepeatedLevel xs i → table_of xs ≡ Err (RepeatedLevel i)
  repeated_says i w =
      let es = reverse w.before in
      let n = length (table_text w.before) in
      let next = table_from (w.line ∷ es) (n + length (line_text w.line)) (lines_of w.rest) in
      let given = given_some es w.line.level (stands_reversed w.before w.line.level w.again) in
      ap table_of w.parts
      ∙ (read_lines w.before (line_text w.line ++ w.rest) w.different
      ∙ (from_text_lem es n w.line w.rest
      ∙ (ap (λ o. or_repeated n o next) given.1
      ∙ ap (λ (k : ℕ). Err (RepeatedLevel k)) (sym w.place))))

  missing_says : (i : ℕ) → HasMissingLevel xs i → table_of xs ≡ Err (MissingLevel i)
  missing_says i w =
      let size : length (table_text w.lines) ≡ i = ap length (sym w.parts) ∙ sym w.place in
      ap table_of w.parts
      ∙ (lines_alone w.lines w.different
      ∙ (⊎_elim
      (λ g. absurd (w.missing (entry w.level (action_of g.0 w.level), (reverse_lines w.lines _).0 (given_line (reverse w.lines) w.level _ (g.1 w.level)), refl)))
      (λ m. m.2)
      (end_cases (reverse w.lines) (length (table_text w.lines)))
      ∙ ap (λ (k : ℕ). Err (MissingLevel k)) size))

  given_says : (a : Actions) → HasActions xs a → table_of xs ≡ Ok a
  given_says a w =
      let es = reverse w.lines in
      ap table_of w.parts
      ∙ (lines_alone w.lines w.different
      ∙ ⊎_elim
      (λ g. g.2 ∙ ap Ok (same_actions g.0 a (λ l. sym (w.actions (entry l (action_of g.0 l)) ((reverse_lines w.lines _).0 (given_line es l _ (g.1 l)))))))
      (λ m. absurd (none_given es m.0 m.1 (stands_reversed w.lines m.0 (w.complete m.0))))
      (end_cases es (length (table_text w.lines))))
    where
      same_actions : (a b : Actions) → ((l : Level) → action_of a l ≡ action_of b l) → a ≡ b
      same_actions a b h = λ i. record { debug = h Debug i; log = h Log i; info = h Info i; notice = h Notice i; warning = h Warning i; exception = h Exception i }

  says_sound : (t : Result Actions Refusal) → Says xs t → table_of xs ≡ t
  says_sound = by_words xs (λ t. table_of xs ≡ t) given_says malformed_says repeated_says missing_says

  -- ---- and of each table some of these words hold

  ended : (es : List Entry) → xs ≡ table_text es → Different es → (t : Result Actions Refusal) × Says xs t
  ended es p d =
      ⊎_elim
      (λ g.
      let line : (l : Level) → Memᴰ (entry l (action_of g.0 l)) es = λ l. (reverse_lines es _).0 (given_line (reverse es) l _ (g.1 l)) in (
        Ok g.0,
        record {
          lines = es;
          parts = p;
          different = d;
          complete = λ l. (entry l (action_of g.0 l), line l, refl);
          actions = λ e m. ap (λ (f : Entry). f.action) (only_line es _ e d (line e.level) m refl);
        },
      ))
      (λ m. (
        Err (MissingLevel (length xs)),
        record {
          lines = es;
          parts = p;
          different = d;
          level = m.0;
          missing = λ s. none_given (reverse es) m.0 m.1 (stands_reversed es m.0 s);
          place = refl;
        },
      ))
      (end_cases (reverse es) (length (table_text es)))

  by_ending : (es : List Entry) (rest : List ℕ) → xs ≡ table_text es ++ rest → Different es → Ending es [] rest → (t : Result Actions Refusal) × Says xs t
  by_ending es rest p d (finished z) = ended es (p ∙ (ap (λ (l : List ℕ). table_text es ++ l) z ∙ append-nil (table_text es))) d
  by_ending es rest p d (malformed n w) = (
    Err (MalformedLine (length (table_text es))),
    record { before = es; rest = rest; parts = p; different = d; not_empty = n; bad = w; place = refl },
  )
  by_ending es rest p d (repeats e more q s) = (
    Err (RepeatedLevel (length (table_text es))),
    record {
      before = es;
      line = e;
      rest = more;
      parts = p ∙ ap (λ (l : List ℕ). table_text es ++ l) q;
      different = d;
      again = ⊎_elim (λ u. u) (λ u. absurd (Memᴰ.not-nil u.1)) s;
      place = refl;
    },
  )

  says_some : (t : Result Actions Refusal) × Says xs t
  says_some = let r = reading xs in by_ending r.before r.rest r.parts r.different r.ending

  -- ---- so a table says exactly what these words say of it

  pub table_exactly : (t : Result Actions Refusal) → (table_of xs ≡ t) ↔ Says xs t
  table_exactly t = ((λ h. subst (Says xs) (sym (says_sound says_some.0 says_some.1) ∙ h) says_some.1), says_sound t)

  -- 11, 12 and 13
  pub malformed_line_exactly : (i : ℕ) → (table_of xs ≡ Err (MalformedLine i)) ↔ HasMalformedLine xs i
  malformed_line_exactly i = table_exactly (Err (MalformedLine i))

  pub repeated_level_exactly : (i : ℕ) → (table_of xs ≡ Err (RepeatedLevel i)) ↔ HasRepeatedLevel xs i
  repeated_level_exactly i = table_exactly (Err (RepeatedLevel i))

  pub missing_level_exactly : (i : ℕ) → (table_of xs ≡ Err (MissingLevel i)) ↔ HasMissingLevel xs i
  missing_level_exactly i = table_exactly (Err (MissingLevel i))

  -- and accepted
  pub actions_exactly : (a : Actions) → (table_of xs ≡ Ok a) ↔ HasActions xs a
  actions_exactly a = table_exactly (Ok a)
