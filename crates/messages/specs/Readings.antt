-- What a reading of a RAISE says: the definition's level, fate and length, by offsets in the text that was read. Assumes
-- nothing.
use Rattle.std.specs.Prelude.{◌≡◌, Bool, false, cond, not, ◌&&◌, List, [], ◌++◌, ℕ, ◌+◌, ◌≤◌, min, eqb, length, take, drop, get_or, Option, Some, None, Result, Ok, Err}
use Rattle.std.specs.Borrow.{Bor}
use Rattle.spec.specs.Bytes.{ascii}
use Rattle.spec.specs.Lists.{take_while}
use Rattle.spec.specs.Map.{Marked, lives, marked_text, is_live_byte}
use Rattle.spec.specs.Outcome.{using_clause, accepted, refused, Rewriting, forget}
use Rattle.spec.specs.Raise.{close_len, is_exception, level_len, action_fate, raise_word, fate_text, raised_at}
use Rattle.spec.specs.declared.Span.{Span}
use Rattle.spec.specs.declared.Span.TheVariants.{Verbatim, Dollar, Code}
use Rattle.spec.specs.declared.Level.{Level}
use Rattle.spec.specs.declared.RaiseType.{RaiseType}
use Rattle.spec.specs.declared.Action.{Action}
use Rattle.spec.specs.declared.Action.TheVariants.{Drop, Raise}
use Rattle.runs.specs.declared.Place.{Place}
use Rattle.runs.specs.Places.{piece_at}
use Rattle.messages.specs.declared.RaiseFate.{RaiseFate}
use Rattle.messages.specs.declared.RaiseFate.TheVariants.{Raises, Dropped, Passed}
use Rattle.messages.specs.declared.RaiseRead.{RaiseRead}

-- how long the text is at least where this level stands: EXCEPTION has its letters
abbrev pub level_reach : Option Level → ℕ
level_reach None = 0
level_reach (Some l) = cond (is_exception l) 9 0

-- where a level ends in xs, a text from the RAISE on
abbrev pub level_end : Level → List ℕ → ℕ
level_end l xs = 6 + level_len l (lives (drop 6 xs))

-- a span whose first byte is b ends the statement
abbrev pub ends_statement : Span → ℕ → Bool
ends_statement (Verbatim n) b = false
ends_statement (Dollar d) b = false
ends_statement (Code n) b = eqb b 59

-- the content of a statement that has xs behind its level
unfoldable pub content_in : List ℕ → List Marked
content_in xs = take_while (λ (x : Marked). not (is_live_byte 59 x)) (marked_text xs)

-- a length of which 0 stands for none
abbrev pub nonzero : ℕ → Option ℕ
nonzero n = cond (eqb n 0) None (Some n)

-- the length of the closed `'` literal in front, 0 if there is none
unfoldable pub literal_len : List ℕ → ℕ
literal_len xs =
    let n = close_len (lives (drop 1 xs)) in
    cond (eqb (get_or xs 0 0) 39 && not (eqb n 0)) (1 + n) 0

-- what stands ahead of the message of a RAISE with this word
unfoldable pub raise_front : RaiseType → List ℕ
raise_front w = ascii "SELECT RAISE(" ++ (raise_word w ++ ascii ", ")

-- what a RAISE with the message m becomes
unfoldable pub raising : RaiseType → List ℕ → List ℕ
raising w m = raise_front w ++ (m ++ ascii ");")

-- what becomes of a RAISE with the content xs whose action is this word
unfoldable pub raised_as : RaiseType → List ℕ → Rewriting
raised_as w xs = forget (fate_text (action_fate (Raise w) (lives xs)))

-- the same by a part of the content: the message, or the clause that is refused
abbrev pub raised_in : RaiseType → Result (Bor (List ℕ)) (Bor (List ℕ)) → Rewriting
raised_in w (Ok message) = accepted (raising w message.now)
raised_in w (Err clause) = refused (using_clause clause.now)

-- that part
abbrev pub part_in : Result (Bor (List ℕ)) (Bor (List ℕ)) → List ℕ
part_in (Ok message) = message.now
part_in (Err clause) = clause.now

-- the same by the message of a clause behind USING, if it has one to take
abbrev pub using_in : RaiseType → List ℕ → Option (Bor (List ℕ)) → Rewriting
using_in w clause (Some message) = accepted (raising w message.now)
using_in w clause None = refused (using_clause clause)

-- that message, else the clause
abbrev pub part_or : List ℕ → Option (Bor (List ℕ)) → List ℕ
part_or clause (Some message) = message.now
part_or clause None = clause

-- the fate of a statement with this action, by where its content lies
abbrev pub fate_of : Action → Place → RaiseFate
fate_of Drop p = Dropped
fate_of (Raise w) p = Raises w p

-- what a fate makes of xs, of which the statement takes the first n bytes
abbrev pub fate_in : RaiseFate → ℕ → List ℕ → Rewriting
fate_in (Raises w p) n xs = raised_as w (piece_at xs p)
fate_in Dropped n xs = accepted []
fate_in Passed n xs = accepted (take n xs)

-- the offsets of a fate lie from lo up to hi
abbrev pub FateWithin : RaiseFate → ℕ → ℕ → Type 0
FateWithin (Raises w p) lo hi = (lo ≤ p.at) × (p.at + p.len ≤ hi)
FateWithin Dropped lo hi = Unit
FateWithin Passed lo hi = Unit

-- the reading r of xs agrees with the definition on t, which has the level l: the same text or refusal, and the same end, as
-- far as xs goes
pub record Reads (act : Level → Action) (t : List Marked) (l : Option Level) (xs : List ℕ) (r : RaiseRead) : Type 0 where
  pub text : forget (fate_text (raised_at act l t).fate) ≡ fate_in r.fate r.end xs
  pub ends : r.end ≡ min (raised_at act l t).length (length xs)
