-- Note 10, tables with the same lines: their order does not matter, and the table that drops all but EXCEPTION, which aborts,
-- equals no table for every call. Assumes nothing.
use Rattle.std.specs.Prelude.{Ok}
use mathlib.Core.Path.{◌≡◌, refl, sym, ap, ◌∙◌}
use mathlib.Core.List.{List, Memᴰ}
use Prim.Native.Nat.{ℕ}
use Rattle.spec.proofs.LevelLaws.{actions_exactly}
use Rattle.spec.proofs.TableLines.{table_text, Stands, Different, each_level, only_line}
use Rattle.spec.specs.Raise.{action_of, default_actions}
use Rattle.spec.specs.Levels.{Entry, table_of, no_table}
use Rattle.spec.specs.Answers.{body_answer, body_output, function_answer, function_output, function_text, function_records}
use Rattle.spec.specs.declared.Level.{Level}
use Rattle.spec.specs.declared.Level.TheVariants.{Debug, Log, Info, Notice, Warning, Exception}
use Rattle.spec.specs.declared.Action.{Action}
use Rattle.spec.specs.Raise.{Actions}

-- lines of which each level has one
pub record Complete (es : List Entry) : Type 0 where
  pub different : Different es
  pub all : (l : Level) → Stands l es

-- such a table gives these actions if its lines do
pub table_gives : (es : List Entry) (a : Actions) → Complete es → ((e : Entry) → Memᴰ e es → action_of a e.level ≡ e.action) → table_of (table_text es) ≡ Ok a
table_gives es a c h =
    (actions_exactly (table_text es) a).1
    (record { lines = es; parts = refl; different = c.different; complete = c.all; actions = h })

-- the actions of the lines
actions_in : (es : List Entry) → Complete es → Actions
actions_in es c =
    let action : Level → Action = λ l. (c.all l).0.action in
    record { debug = action Debug; log = action Log; info = action Info; notice = action Notice; warning = action Warning; exception = action Exception }

module _ (es : List Entry) (c : Complete es) where
  action_in : (l : Level) → action_of (actions_in es c) l ≡ (c.all l).0.action
  unfolding actions_in
  action_in = each_level (λ l. action_of (actions_in es c) l ≡ (c.all l).0.action) refl refl refl refl refl refl

  -- are those of any lines of different levels in which these stand
  same_lines : (fs : List Entry) → Different fs → ((e : Entry) → Memᴰ e es → Memᴰ e fs) → (f : Entry) → Memᴰ f fs → action_of (actions_in es c) f.level ≡ f.action
  same_lines fs d h f m =
      let line = c.all f.level in
      action_in f.level ∙ ap (λ (e : Entry). e.action) (only_line fs line.0 f d (h line.0 line.1) m line.2)

-- the order of the lines does not matter
pub any_order : (es fs : List Entry) → Complete es → Complete fs → ((e : Entry) → Memᴰ e es → Memᴰ e fs) → table_of (table_text es) ≡ table_of (table_text fs)
any_order es fs c d h =
    table_gives es (actions_in es c) c (same_lines es c es c.different (λ e m. m))
    ∙ sym (table_gives fs (actions_in es c) d (same_lines es c fs d.different h))

-- each level drops but EXCEPTION, which aborts
abbrev pub IsDefault : List Entry → Type 0
IsDefault es = (e : Entry) → Memᴰ e es → action_of default_actions e.level ≡ e.action

module _ (es : List Entry) (c : Complete es) (h : IsDefault es) where
  -- that table equals no table
  pub default_table : table_of (table_text es) ≡ no_table
  default_table = table_gives es default_actions c h

  -- and so do the calls with it
  pub default_body_answer : (xs out work spare : List ℕ) → body_answer (table_of (table_text es)) xs out work spare ≡ body_answer no_table xs out work spare
  default_body_answer xs out work spare = ap (λ t. body_answer t xs out work spare) default_table

  pub default_body_output : (xs out work spare : List ℕ) → body_output (table_of (table_text es)) xs out work spare ≡ body_output no_table xs out work spare
  default_body_output xs out work spare = ap (λ t. body_output t xs out work spare) default_table

  module _ (xs out work spare text numbers : List ℕ) where
    pub default_function_answer : function_answer (table_of (table_text es)) xs out work spare text numbers ≡ function_answer no_table xs out work spare text numbers
    default_function_answer = ap (λ t. function_answer t xs out work spare text numbers) default_table

    pub default_function_output : function_output (table_of (table_text es)) xs out work spare text numbers ≡ function_output no_table xs out work spare text numbers
    default_function_output = ap (λ t. function_output t xs out work spare text numbers) default_table

    pub default_function_text : function_text (table_of (table_text es)) xs out work spare text numbers ≡ function_text no_table xs out work spare text numbers
    default_function_text = ap (λ t. function_text t xs out work spare text numbers) default_table

    pub default_function_records : function_records (table_of (table_text es)) xs out work spare text numbers ≡ function_records no_table xs out work spare text numbers
    default_function_records = ap (λ t. function_records t xs out work spare text numbers) default_table
