-- Document 01, "The rewritten body", pass 5: RAISE, and refusal 5; Note 10 for the action of each level. First what becomes
-- of each RAISE, then the text made of it. Assumes nothing.
use Rattle.std.specs.Prelude.{ℕ, zero, suc, ◌+◌, ◌-◌, Bool, true, false, cond, not, ◌&&◌, ◌||◌, List, [], ◌∷◌, ◌++◌, map, eqb, length, take, drop, Option, Some, None}
use Rattle.spec.specs.Bytes.{ascii, is_word, is_w, upper}
use Rattle.spec.specs.Lists.{is_empty, take_while, drop_while}
use Rattle.spec.specs.Map.{Marked, byte, bytes, lives, marked_text, front_byte, of_byte, is_live_byte}
use Rattle.spec.specs.Search.{word_here, starts_ignoring_case}
use Rattle.spec.specs.Outcome.{using_clause, Outcome, accepted, refused, ◌⊕◌}
use Rattle.spec.specs.Parts.{trim}
use Rattle.spec.specs.declared.Level.{Level}
use Rattle.spec.specs.declared.Level.TheVariants.{Debug, Log, Info, Notice, Warning, Exception}
use Rattle.spec.specs.declared.RaiseType.{RaiseType}
use Rattle.spec.specs.declared.RaiseType.TheVariants.{Abort, Fail, Rollback}
use Rattle.spec.specs.declared.Action.{Action}
use Rattle.spec.specs.declared.Action.TheVariants.{Drop, Raise}
use Rattle.spec.specs.declared.ByLevel.{ByLevel}

-- behind an opening `'`: the length through the quote that closes the literal, 0 if none does; `''` stays inside,
-- backslash is plain
unfoldable pub close_len : List Marked → ℕ
close_len [] = 0
close_len (x ∷ []) = cond (eqb (byte x) 39) 1 0
close_len (x ∷ y ∷ t) =
    let pair = longer 2 (close_len t) in
    let one = longer 1 (close_len (y ∷ t)) in
    let quote = cond (eqb (byte y) 39) pair 1 in
    cond (eqb (byte x) 39) quote one
  where
    longer : ℕ → ℕ → ℕ
    longer k n = cond (eqb n 0) 0 (k + n)

-- m: the leading closed `'` literal, else the trimmed text up to the first comma
unfoldable pub message : List Marked → List Marked
message t =
    let n = close_len (drop 1 t) in
    let literal = take (1 + n) t in
    let words = trim (take_while (of_byte (λ c. not (eqb c 44))) t) in
    cond (eqb (front_byte t) 39 && not (eqb n 0)) literal words

-- what becomes of a RAISE
pub data Fate : Type 0 where
  -- `SELECT RAISE(w, m);` with this w and m
  rewritten : RaiseType → List Marked → Fate
  dropped : Fate
  -- it passes, with its separator
  passed : List Marked → Fate
  -- refusal 5, with the clause from USING
  refused_clause : List ℕ → Fate

-- the content behind USING: MESSAGE, `=`, then text starting with `'`, its m with only W behind; anything else is refused
unfoldable pub using_fate : RaiseType → List Marked → List Marked → Fate
using_fate w content behind =
    let a = drop_while (of_byte is_w) behind in
    let b = drop_while (of_byte is_w) (drop 7 a) in
    let c = drop_while (of_byte is_w) (drop 1 b) in
    let m = message c in
    let fits =
    starts_ignoring_case (ascii "MESSAGE") a
    && (eqb (front_byte b) 61
    && (eqb (front_byte c) 39 && is_empty (drop_while (of_byte is_w) (drop (length m) c)))) in
    cond fits (rewritten w m) (refused_clause (bytes content))

-- the trimmed content of a statement that becomes SQLite's RAISE
unfoldable pub raise_fate : RaiseType → List Marked → Fate
raise_fate w content =
    let clause_fate = using_fate w content (drop 5 content) in
    let plain_fate = rewritten w (message content) in
    cond (starts_ignoring_case (ascii "USING") content) clause_fate plain_fate

pub record LevelWord : Type 0 where
  pub word : List ℕ
  pub level : Level

-- the levels are prefixes; INFO with a space, newline or `;`
unfoldable pub level_words : List LevelWord
level_words =
    record { word = ascii "EXCEPTION"; level = Exception }
    ∷ record { word = ascii "NOTICE"; level = Notice }
    ∷ record { word = ascii "WARNING"; level = Warning }
    ∷ record { word = ascii "DEBUG"; level = Debug }
    ∷ record { word = ascii "LOG"; level = Log }
    ∷ record { word = ascii "INFO "; level = Info }
    ∷ record { word = ascii "INFO\n"; level = Info }
    ∷ record { word = ascii "INFO;"; level = Info }
    ∷ []

-- the level that stands at the front, ignoring case
unfoldable pub level_in : List LevelWord → List Marked → Option Level
level_in [] t = None
level_in (w ∷ ws) t =
    let more = level_in ws t in
    cond (starts_ignoring_case w.word t) (Some w.level) more

-- W or `;`
unfoldable pub ends_level : ℕ → Bool
ends_level c = is_w c || eqb c 59

-- EXCEPTION is told from the others by its length, whatever its action
abbrev pub is_exception : Level → Bool
is_exception Exception = true
is_exception Notice = false
is_exception Warning = false
is_exception Debug = false
is_exception Log = false
is_exception Info = false

-- how long the level is: EXCEPTION its own letters, the others run to W or `;`
unfoldable pub level_len : Level → List Marked → ℕ
level_len l t =
    let run = length (take_while (of_byte (λ c. not (ends_level c))) t) in
    cond (is_exception l) 9 run

-- what stands there for a level
abbrev pub at_level : {A : Type 0} → ByLevel A → Level → A
at_level a Debug = a.debug
at_level a Log = a.log
at_level a Info = a.info
at_level a Notice = a.notice
at_level a Warning = a.warning
at_level a Exception = a.exception

-- the same for every level
abbrev pub at_all : {A : Type 0} → A → ByLevel A
at_all x = record { debug = x; log = x; info = x; notice = x; warning = x; exception = x }

-- the same as before with x for a level
abbrev pub with_level : {A : Type 0} → ByLevel A → Level → A → ByLevel A
with_level g Debug x = record { debug = x; log = g.log; info = g.info; notice = g.notice; warning = g.warning; exception = g.exception }
with_level g Log x = record { debug = g.debug; log = x; info = g.info; notice = g.notice; warning = g.warning; exception = g.exception }
with_level g Info x = record { debug = g.debug; log = g.log; info = x; notice = g.notice; warning = g.warning; exception = g.exception }
with_level g Notice x = record { debug = g.debug; log = g.log; info = g.info; notice = x; warning = g.warning; exception = g.exception }
with_level g Warning x = record { debug = g.debug; log = g.log; info = g.info; notice = g.notice; warning = x; exception = g.exception }
with_level g Exception x = record { debug = g.debug; log = g.log; info = g.info; notice = g.notice; warning = g.warning; exception = x }

-- the action of each level
abbrev pub Actions : Type 0
Actions = ByLevel Action

-- the action of a level; what follows takes it as `act`
abbrev pub action_of : Actions → Level → Action
action_of a l = at_level a l

-- without a table: EXCEPTION aborts, the others vanish
abbrev pub default_actions : Actions
default_actions =
    record { debug = Drop; log = Drop; info = Drop; notice = Drop; warning = Drop; exception = Raise Abort }

-- the statement's content: read afresh behind the level, up to the next live `;` or the end
unfoldable pub content_of : List Marked → List Marked
content_of t = take_while (λ (x : Marked). not (is_live_byte 59 x)) (marked_text (bytes t))

-- messages and USING are read as for EXCEPTION wherever the action isn't drop
unfoldable pub action_fate : Action → List Marked → Fate
action_fate Drop content = dropped
action_fate (Raise w) content = raise_fate w (trim content)

-- a RAISE: how many bytes it takes, up to where the search goes on, and its fate
pub record Raised : Type 0 where
  pub length : ℕ
  pub fate : Fate

-- t starts with RAISE, one separator byte follows, and then perhaps a level
unfoldable pub raised_at : (Level → Action) → Option Level → List Marked → Raised
raised_at act None t = record { length = 6; fate = passed (take 6 t) }
raised_at act (Some l) t =
    let n = level_len l (drop 6 t) in
    let content = content_of (drop (6 + n) t) in
    record { length = 6 + n + length content + 1; fate = action_fate (act l) content }

-- what pass 5 reads: a byte that stays, or a RAISE
pub data Token : Type 0 where
  kept : Marked → Token
  raised : Raised → Token

-- the search for live RAISE in the map of the whole text; k bytes of the last one are still to pass, p is the byte before
unfoldable pub raises_from : (Level → Action) → ℕ → ℕ → List Marked → List Token
raises_from act k p [] = []
raises_from act zero p (x ∷ t) =
    let r = raised_at act (level_in level_words (drop 5 t)) (x ∷ t) in
    let stays = kept x ∷ raises_from act 0 (byte x) t in
    let goes = raised r ∷ raises_from act (r.length - 1) (byte x) t in
    cond (word_here is_word (ascii "RAISE") p (x ∷ t)) goes stays
raises_from act (suc k) p (x ∷ t) = raises_from act k (byte x) t

-- an action as a table writes it
unfoldable pub action_name : Action → List ℕ
action_name Drop = ascii "drop"
action_name (Raise Abort) = ascii "abort"
action_name (Raise Fail) = ascii "fail"
action_name (Raise Rollback) = ascii "rollback"

-- SQLite's RAISE word is the action in capitals
unfoldable pub raise_word : RaiseType → List ℕ
raise_word w = map upper (action_name (Raise w))

-- the text of a RAISE that SQLite reads
unfoldable pub raise_text : RaiseType → List Marked → List Marked
raise_text w m = lives (ascii "SELECT RAISE(" ++ (raise_word w ++ ascii ", ")) ++ (m ++ lives (ascii ");"))

-- the text made of a fate
unfoldable pub fate_text : Fate → Outcome (List Marked)
fate_text (rewritten w m) = accepted (raise_text w m)
fate_text dropped = accepted []
fate_text (passed t) = accepted t
fate_text (refused_clause c) = refused (using_clause c)

unfoldable pub token_text : Token → Outcome (List Marked)
token_text (kept x) = accepted (x ∷ [])
token_text (raised r) = fate_text r.fate

unfoldable pub join_tokens : List Token → Outcome (List Marked)
join_tokens [] = accepted []
join_tokens (p ∷ ps) = token_text p ⊕ join_tokens ps

-- pass 5
unfoldable pub raise : (Level → Action) → List Marked → Outcome (List Marked)
raise act t = join_tokens (raises_from act 0 0 t)
