-- Document 01, pass 3, refusal 4: where a qualified target stands, by offsets. Predicates only, which take no walk of the
-- definitions; TargetLaws and QualifiedExactly prove that the definitions find exactly these. Assumes nothing.
use mathlib.Core.Path.{◌≡◌}
use mathlib.Core.Bool.{Bool, true, false}
use mathlib.Core.List.{List, map}
use Prim.Native.Nat.{ℕ, suc, ◌+◌, ◌-◌, ◌≤◌, ◌<◌}
use lib.ListN.{length, get_or}
use Rattle.spec.proofs.SearchLaws.{IsByteAt}
use Rattle.spec.proofs.MatchLaws.{IsWordAt}
use Rattle.spec.specs.Bytes.{ascii, is_ident, is_word, is_w, is_n}
use Rattle.spec.specs.Parts.{part}
use Rattle.spec.specs.Map.{Marked, live, quoted, bytes, marked_text}
use Rattle.spec.specs.Assignments.{Target}

-- ---- a statement by offsets

-- map bytes: 0 live, 1 quoted
abbrev pub flag_of : Marked → ℕ
flag_of (live c) = 0
flag_of (quoted c) = 1

-- the statement's part of the map
unfoldable pub flags : List Marked → List ℕ
flags t = map flag_of t

-- the byte at i; 0 past the end
abbrev pub byte_at : List Marked → ℕ → ℕ
byte_at t i = get_or (bytes t) i 0

-- the byte at i is live, past the end none
abbrev pub IsLiveAt : List Marked → ℕ → Type 0
IsLiveAt t i = get_or (flags t) i 1 ≡ 0

-- every byte from a up to e is in the set; there may be none
pub record AllIn (set : ℕ → Bool) (t : List Marked) (a e : ℕ) : Type 0 where
  pub order : a ≤ e
  pub all : (k : ℕ) → a ≤ k → k < e → set (byte_at t k) ≡ true

-- from a up to e stand bytes of the set, at least one, and none on either side: 01's whole run
pub record IsRun (set : ℕ → Bool) (t : List Marked) (a e : ℕ) : Type 0 where
  pub nonempty : a < e
  pub fits : e ≤ length t
  pub all : (k : ℕ) → a ≤ k → k < e → set (byte_at t k) ≡ true
  pub before : 0 < a → set (byte_at t (a - 1)) ≡ false
  pub behind : e < length t → set (byte_at t e) ≡ false

-- r is the `q.n` with q from a up to d, a `.` at d, and n from just behind it up to e; 01's sentence on q and n
pub record IsQualifiedName (t : List Marked) (a d e : ℕ) (r : Target) : Type 0 where
  pub qualifier : IsRun is_ident t a d
  pub dot : byte_at t d ≡ 46
  pub name : IsRun is_ident t (d + 1) e
  pub target : r ≡ record { qualifier = part a d t; name = part (d + 1) e t }

-- ---- the first kind of place, 01's sentence on `:=`

-- a live `:=` at i
pub record IsAssignAt (t : List Marked) (i : ℕ) : Type 0 where
  pub is_live_lem : IsLiveAt t i
  pub colon : byte_at t i ≡ 58
  pub equals : byte_at t (i + 1) ≡ 61

-- `q.n` before i, with nothing but W between
pub record IsNameBefore (t : List Marked) (i : ℕ) (r : Target) : Type 0 where
  pub start : ℕ
  pub dot : ℕ
  pub stop : ℕ
  pub named : IsQualifiedName t start dot stop r
  pub between : AllIn is_w t stop i

-- a live `:=` at i, and r before it
pub record IsAssignTarget (t : List Marked) (i : ℕ) (r : Target) : Type 0 where
  pub operator : IsAssignAt t i
  pub before : IsNameBefore t i r

-- ---- the second kind, 01's sentence on `=`, at the front

-- an `=` at i that starts neither `==` nor `=>`; it need not be live
pub record IsLoneEqualsAt (t : List Marked) (i : ℕ) : Type 0 where
  pub equals : byte_at t i ≡ 61
  pub not_double : byte_at t (i + 1) ≡ 61 → ⊥
  pub not_arrow : byte_at t (i + 1) ≡ 62 → ⊥

-- from an offset on: nothing but N, then r, nothing but N, then a lone `=`
pub record IsEqualsTarget (t : List Marked) (from : ℕ) (r : Target) : Type 0 where
  pub start : ℕ
  pub dot : ℕ
  pub stop : ℕ
  pub place : ℕ
  pub ahead : AllIn is_n t from start
  pub named : IsQualifiedName t start dot stop r
  pub between : AllIn is_n t stop place
  pub operator : IsLoneEqualsAt t place

-- ---- the third kind, the same sentence, past a word

-- w at k as the keyword search means it: live, matched ignoring ASCII case, no word byte on either side
abbrev pub StandsAt : List ℕ → List Marked → ℕ → Type 0
StandsAt w t k = IsWordAt is_word (bytes t) (flags t) w k

-- the words behind which a statement may start
pub data OpensStatement : List ℕ → Type 0 where
  begin : OpensStatement (ascii "BEGIN")
  then : OpensStatement (ascii "THEN")
  else : OpensStatement (ascii "ELSE")
  loop : OpensStatement (ascii "LOOP")

-- n CASEs are open at k, 01's sentence on them: a statement starts with none, a CASE at an offset makes one more behind it,
-- an END one less, and where none is open END leaves it so
pub data OpenCases (t : List Marked) : ℕ → ℕ → Type 0 where
  starts : OpenCases t 0 0
  opens : {k n : ℕ} → OpenCases t k n → StandsAt (ascii "CASE") t k → OpenCases t (suc k) (suc n)
  closes : {k n : ℕ} → OpenCases t k (suc n) → StandsAt (ascii "END") t k → OpenCases t (suc k) n
  not_below : {k : ℕ} → OpenCases t k 0 → StandsAt (ascii "END") t k → OpenCases t (suc k) 0
  stays : {k n : ℕ}
      → OpenCases t k n
      → (StandsAt (ascii "CASE") t k → ⊥)
      → (StandsAt (ascii "END") t k → ⊥)
      → OpenCases t (suc k) n

-- one of those words at k, no CASE open there, and the second kind of place from the word's end on
pub record IsMarkedTarget (t : List Marked) (k : ℕ) (r : Target) : Type 0 where
  pub word : List ℕ
  pub opens : OpensStatement word
  pub stands : StandsAt word t k
  pub no_case : OpenCases t k 0
  pub target : IsEqualsTarget t (k + length word) r

-- ---- the statement's target

-- r stands at a place at or behind i, and between i and that place there is no other: the leftmost
pub record FirstFrom (P : ℕ → Target → Type 0) (i : ℕ) (r : Target) : Type 0 where
  pub place : ℕ
  pub from : i ≤ place
  pub holds : P place r
  pub least : (k : ℕ) → i ≤ k → k < place → (s : Target) → P k s → ⊥

-- no place has a target of this kind
abbrev pub NoPlace : (ℕ → Target → Type 0) → Type 0
NoPlace P = (k : ℕ) (s : Target) → P k s → ⊥

-- r is the statement's target: the leftmost of the first kind; where there is none, that at the front; where there is none of
-- both, the leftmost past a word
pub data IsTargetOf (t : List Marked) (r : Target) : Type 0 where
  assigned : FirstFrom (IsAssignTarget t) 0 r → IsTargetOf t r
  at_front : NoPlace (IsAssignTarget t) → IsEqualsTarget t 0 r → IsTargetOf t r
  past_word :
      NoPlace (IsAssignTarget t)
      → ((s : Target) → IsEqualsTarget t 0 s → ⊥)
      → FirstFrom (IsMarkedTarget t) 0 r
      → IsTargetOf t r

-- the statement has none of the three kinds of place
pub record HasNoTarget (t : List Marked) : Type 0 where
  pub no_assign : NoPlace (IsAssignTarget t)
  pub no_front : (s : Target) → IsEqualsTarget t 0 s → ⊥
  pub no_word : NoPlace (IsMarkedTarget t)

-- ---- the text's target

-- from a up to e of the text stands a statement: on either side a live `;` or the text's edge, and no live `;` inside
pub record IsStatement (ys : List ℕ) (a e : ℕ) : Type 0 where
  pub order : a ≤ e
  pub fits : e ≤ length ys
  pub before : 0 < a → IsByteAt ys 59 (a - 1)
  pub behind : e < length ys → IsByteAt ys 59 e
  pub no_cut : (k : ℕ) → a ≤ k → k < e → IsByteAt ys 59 k → ⊥

-- r is the target of a statement, and no statement before it, at or behind i, has one
pub record IsFirstTarget (ys : List ℕ) (i : ℕ) (r : Target) : Type 0 where
  pub start : ℕ
  pub stop : ℕ
  pub from : i ≤ start
  pub statement : IsStatement ys start stop
  pub target : IsTargetOf (part start stop (marked_text ys)) r
  pub least : (a e : ℕ) → i ≤ a → IsStatement ys a e → e < start → HasNoTarget (part a e (marked_text ys))
