-- A table as it is read: the level and the action in front of a text by what stands there, a line, and the actions given so
-- far. Assumes nothing.
use Rattle.std.specs.Prelude.{◌≡◌, List, [], ◌∷◌, ◌++◌, ℕ, length, map, Option, Result, Ok, option_map}
use Rattle.std.specs.List.{find}
use Rattle.std.specs.Borrow.{Bor}
use Rattle.spec.specs.Bytes.{is_prefix}
use Rattle.spec.specs.Raise.{Actions, action_name}
use Rattle.spec.specs.Levels.{level_name, line_text, all_entries, Entry, given_action, or_missing}
use Rattle.spec.specs.declared.ByLevel.{ByLevel}
use Rattle.spec.specs.declared.Level.{Level}
use Rattle.spec.specs.declared.Level.TheVariants.{Debug, Log, Info, Notice, Warning, Exception}
use Rattle.spec.specs.declared.Action.{Action}
use Rattle.spec.specs.declared.Refusal.{Refusal}
use Rattle.levels.specs.declared.Line.{Line}

-- the first of these whose text stands in front of xs
abbrev pub ahead : {A : Type 0} → (A → List ℕ) → List A → List ℕ → Option A
ahead text l xs = find (λ x. is_prefix (text x) xs) l

-- a table that has, in this order, these and the text of each
abbrev pub IsTextTable : {A : Type 0} → (A → List ℕ) → List A → List (Bor (List ℕ) × A) → Type 0
IsTextTable {A = A} text l table = map {B = List ℕ × A} (λ p. (p.0.now, p.1)) table ≡ map (λ x. (text x, x)) l

-- a line's level, with the space behind it
unfoldable pub level_text : Level → List ℕ
level_text l = level_name l ++ (32 ∷ [])

-- a line's action, with the newline behind it
unfoldable pub action_text : Action → List ℕ
action_text a = action_name a ++ (10 ∷ [])

-- with the length of its text
abbrev pub with_length : {A : Type 0} → (A → List ℕ) → A → A × ℕ
with_length text x = (x, length (text x))

-- the first whose text stands in front, and how long that is
abbrev pub found_ahead : {A : Type 0} → (A → List ℕ) → List A → List ℕ → Option (A × ℕ)
found_ahead text l xs = option_map (with_length text) (ahead text l xs)

-- a line that says this
abbrev pub line_of : Entry → Line
line_of e = record { level = e.level; action = e.action; len = length (line_text e) }

-- the well-formed line in front
abbrev pub line_ahead : List ℕ → Option Line
line_ahead xs = option_map line_of (ahead line_text all_entries xs)

-- ---- the actions given so far

-- the table's actions, or 13
abbrev pub completed : ByLevel (Option Action) → ℕ → Result Actions Refusal
completed g n =
    or_missing n g.debug (λ d.
    or_missing n g.log (λ l.
    or_missing n g.info (λ i.
    or_missing n g.notice (λ m.
    or_missing n g.warning (λ w.
    or_missing n g.exception (λ x.
    Ok (record { debug = d; log = l; info = i; notice = m; warning = w; exception = x })))))))

-- what these lines give
unfoldable pub given_by : List Entry → ByLevel (Option Action)
given_by es =
    record {
      debug = given_action es Debug;
      log = given_action es Log;
      info = given_action es Info;
      notice = given_action es Notice;
      warning = given_action es Warning;
      exception = given_action es Exception;
    }
