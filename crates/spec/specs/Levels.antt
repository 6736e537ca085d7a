-- Note 10, "RAISE levels by site": what a table says, read line by line, and refusals 11, 12 and 13. Assumes nothing.
use Rattle.std.specs.Prelude.{ℕ, ◌+◌, Bool, cond, List, [], ◌∷◌, ◌++◌, map, eqb, length, Option, Some, None, Result, Ok, Err}
use Rattle.spec.specs.Bytes.{ascii, is_same}
use Rattle.spec.specs.Lists.{concat}
use Rattle.spec.specs.Search.{onto_first}
use Rattle.spec.specs.Raise.{action_name, default_actions, Actions}
use Rattle.spec.specs.declared.Level.{Level}
use Rattle.spec.specs.declared.Level.TheVariants.{Debug, Log, Info, Notice, Warning, Exception}
use Rattle.spec.specs.declared.RaiseType.TheVariants.{Abort, Fail, Rollback}
use Rattle.spec.specs.declared.Action.{Action}
use Rattle.spec.specs.declared.Action.TheVariants.{Drop, Raise}
use Rattle.spec.specs.declared.Refusal.TheVariants.{MalformedLine, RepeatedLevel, MissingLevel}
use Rattle.spec.specs.declared.Refusal.{Refusal}

-- DEBUG, LOG, INFO, NOTICE, WARNING or EXCEPTION in capitals
unfoldable pub level_name : Level → List ℕ
level_name Debug = ascii "DEBUG"
level_name Log = ascii "LOG"
level_name Info = ascii "INFO"
level_name Notice = ascii "NOTICE"
level_name Warning = ascii "WARNING"
level_name Exception = ascii "EXCEPTION"

unfoldable pub is_level : Level → Level → Bool
is_level k l = is_same (level_name k) (level_name l)

-- what a line says
pub record Entry : Type 0 where
  pub level : Level
  pub action : Action

-- a line: the level, one space, the action, then a newline
unfoldable pub line_text : Entry → List ℕ
line_text e = level_name e.level ++ (32 ∷ (action_name e.action ++ (10 ∷ [])))

unfoldable pub all_levels : List Level
all_levels = Debug ∷ Log ∷ Info ∷ Notice ∷ Warning ∷ Exception ∷ []

-- drop, abort, fail or rollback
unfoldable pub all_actions : List Action
all_actions = Drop ∷ Raise Abort ∷ Raise Fail ∷ Raise Rollback ∷ []

-- every line that is well formed says one of these
unfoldable pub all_entries : List Entry
all_entries = concat (map (λ (l : Level). map (λ (a : Action). record { level = l; action = a }) all_actions) all_levels)

-- the one of these entries that is written so
unfoldable pub entry_in : List Entry → List ℕ → Option Entry
entry_in [] line = None
entry_in (e ∷ es) line =
    let more = entry_in es line in
    cond (is_same (line_text e) line) (Some e) more

-- what a line says; none if it is malformed
unfoldable pub entry_of : List ℕ → Option Entry
entry_of line = entry_in all_entries line

-- the lines of a text, each through its newline; what stands behind the last newline is one too
unfoldable pub lines_of : List ℕ → List (List ℕ)
lines_of [] = []
lines_of (b ∷ xs) =
    let rest = lines_of xs in
    let ends = (b ∷ []) ∷ rest in
    let goes_on = onto_first b rest in
    cond (eqb b 10) ends goes_on

-- the action that the lines give a level
unfoldable pub given_action : List Entry → Level → Option Action
given_action [] l = None
given_action (e ∷ es) l =
    let more = given_action es l in
    cond (is_level e.level l) (Some e.action) more

-- refusal 13, whose place is the table's length n, if there is no action, else what is read next
abbrev pub or_missing : ℕ → Option Action → (Action → Result Actions Refusal) → Result Actions Refusal
or_missing n None next = Err (MissingLevel n)
or_missing n (Some a) next = next a

-- no line was bad: the actions, or 13 for a level missing
unfoldable pub table_end : List Entry → ℕ → Result Actions Refusal
table_end es n =
    or_missing n (given_action es Debug) (λ d.
    or_missing n (given_action es Log) (λ l.
    or_missing n (given_action es Info) (λ i.
    or_missing n (given_action es Notice) (λ m.
    or_missing n (given_action es Warning) (λ w.
    or_missing n (given_action es Exception) (λ x.
    Ok (record { debug = d; log = l; info = i; notice = m; warning = w; exception = x })))))))

-- refusal 11 for a line at n that is malformed, else what is read next
abbrev pub or_malformed : ℕ → Option Entry → (Entry → Result Actions Refusal) → Result Actions Refusal
or_malformed n None next = Err (MalformedLine n)
or_malformed n (Some e) next = next e

-- refusal 12 for a line at n whose level already has an action, else what is read next
abbrev pub or_repeated : ℕ → Option Action → Result Actions Refusal → Result Actions Refusal
or_repeated n None next = next
or_repeated n (Some a) next = Err (RepeatedLevel n)

-- the lines from offset n on, behind those that said es: the first bad line decides, and its offset is the place
unfoldable pub table_from : List Entry → ℕ → List (List ℕ) → Result Actions Refusal
table_from es n [] = table_end es n
table_from es n (line ∷ more) =
    or_malformed n (entry_of line) (λ e. or_repeated n (given_action es e.level) (table_from (e ∷ es) (n + length line) more))

unfoldable pub table_of : List ℕ → Result Actions Refusal
table_of xs = table_from [] 0 (lines_of xs)

-- rewriting without a table behaves as before
abbrev pub no_table : Result Actions Refusal
no_table = Ok default_actions
