-- Document 01, "The rewritten body", pass 3: assignments, and refusal 4. Assumes nothing.
use Rattle.std.specs.Prelude.{ℕ, suc, ◌+◌, ◌-◌, Bool, cond, not, ◌&&◌, ◌||◌, List, [], ◌∷◌, ◌++◌, reverse, eqb, length, take, drop, Option, Some, None}
use Rattle.spec.specs.Bytes.{ascii, is_ident, is_digit, is_word, is_w, is_n}
use Rattle.spec.specs.Lists.{is_empty, take_while, drop_while, drop_end}
use Rattle.spec.specs.Map.{Marked, live, byte, bytes, lives, front_byte, of_byte}
use Rattle.spec.specs.Outcome.{qualified_target, Outcome, accepted, refused, ◌⊕◌}
use Rattle.spec.specs.Parts.{trim}
use Rattle.spec.specs.Search.{Test, first, word_here, needle_here, byte_here, pieces}
use Rattle.spec.specs.declared.Mark.{Mark}
use Rattle.spec.specs.declared.Mark.TheVariants.{OpensCase, ClosesCase, OpensStatement}

-- a qualified target `q.n`
pub record Target : Type 0 where
  pub qualifier : List Marked
  pub name : List Marked

unfoldable pub or_else : Option Target → Option Target → Option Target
or_else None o = o
or_else (Some t) o = Some t

-- a live `:=` stands here
unfoldable pub assign_here : Test
assign_here back t = needle_here (ascii ":=") back t

-- `q.n` stands before, W allowed between: q and n are whole, nonempty runs of identifier bytes, read backwards
unfoldable pub target_before : List Marked → Option Target
target_before back =
    let b = drop_while (of_byte is_w) back in
    let n = take_while (of_byte is_ident) b in
    let r = drop_while (of_byte is_ident) b in
    let q = take_while (of_byte is_ident) (drop 1 r) in
    let found : Option Target = Some record { qualifier = reverse q; name = reverse n } in
    cond (not (is_empty n) && (eqb (front_byte r) 46 && not (is_empty q))) found None

-- first, from the left, any live `:=` with `q.n` before it
unfoldable pub assign_target : List Marked → List Marked → Option Target
assign_target back [] = None
assign_target back (x ∷ t) =
    let more = assign_target (x ∷ back) t in
    let here = or_else (target_before back) more in
    cond (assign_here back (x ∷ t)) here more

-- `=`, not `==`, not `=>`
unfoldable pub lone_equals : List Marked → Bool
lone_equals t = eqb (front_byte t) 61 && not (eqb (front_byte (drop 1 t)) 61 || eqb (front_byte (drop 1 t)) 62)

-- `q.n` and a lone `=` stand here; N may stand before q and before `=`
unfoldable pub equals_target : List Marked → Option Target
equals_target t =
    let a = drop_while (of_byte is_n) t in
    let q = take_while (of_byte is_ident) a in
    let r = drop_while (of_byte is_ident) a in
    let n = take_while (of_byte is_ident) (drop 1 r) in
    let e = drop_while (of_byte is_n) (drop_while (of_byte is_ident) (drop 1 r)) in
    let found : Option Target = Some record { qualifier = q; name = n } in
    cond (not (is_empty q) && (eqb (front_byte r) 46 && (not (is_empty n) && lone_equals e))) found None

-- a marking word, and what it does: CASE opens one, END closes one, a statement may follow the others
pub record Marking : Type 0 where
  pub word : List ℕ
  pub mark : Mark

-- these six marking words stand in a fixed table
unfoldable pub markings : List Marking
markings =
    record { word = ascii "CASE"; mark = OpensCase }
    ∷ record { word = ascii "END"; mark = ClosesCase }
    ∷ record { word = ascii "BEGIN"; mark = OpensStatement }
    ∷ record { word = ascii "THEN"; mark = OpensStatement }
    ∷ record { word = ascii "ELSE"; mark = OpensStatement }
    ∷ record { word = ascii "LOOP"; mark = OpensStatement }
    ∷ []

-- the marking word that stands here live; p is the byte before
unfoldable pub marking_here : List Marking → ℕ → List Marked → Option Marking
marking_here [] p t = None
marking_here (m ∷ ms) p t =
    let more = marking_here ms p t in
    cond (word_here is_word m.word p t) (Some m) more

-- how many CASEs are open behind a mark, never below zero
unfoldable pub cases_after : Mark → ℕ → ℕ
cases_after OpensCase d = suc d
cases_after ClosesCase d = d - 1
cases_after OpensStatement d = d

unfoldable pub cases_behind : Option Marking → ℕ → ℕ
cases_behind None d = d
cases_behind (Some m) d = cases_after m.mark d

-- the target just past a marking word of n bytes, where no CASE is open
unfoldable pub target_past : Mark → ℕ → ℕ → List Marked → Option Target
target_past OpensCase n d t = None
target_past ClosesCase n d t = None
target_past OpensStatement n d t =
    let found = equals_target (drop n t) in
    cond (eqb d 0) found None

unfoldable pub target_behind : Option Marking → ℕ → List Marked → Option Target
target_behind None d t = None
target_behind (Some m) d t = target_past m.mark (length m.word) d t

-- the first such target behind a marking word, d CASEs being open here
unfoldable pub marked_target : ℕ → ℕ → List Marked → Option Target
marked_target d p [] = None
marked_target d p (x ∷ t) =
    let m = marking_here markings p (x ∷ t) in
    let more = marked_target (cases_behind m d) (byte x) t in
    or_else (target_behind m d (x ∷ t)) more

-- the check of a statement: a `:=` first, then a lone `=` at its front or past a marking word; it starts with no CASE open
unfoldable pub statement_target : List Marked → Option Target
statement_target t = or_else (assign_target [] t) (or_else (equals_target t) (marked_target 0 0 t))

-- the right side is trimmed of W, then of `;` at its end, then of W
unfoldable pub right_side : List Marked → List Marked
right_side t = trim (drop_end (of_byte (λ c. eqb c 59)) (trim t))

-- the name starts with a letter or `_`
unfoldable pub starts_name : List Marked → Bool
starts_name t = is_ident (front_byte t) && not (is_digit (front_byte t))

-- the statement with its first live `:=` at this place: read back over W to an identifier
unfoldable pub assignment_at : Option ℕ → List Marked → List Marked
assignment_at None t = t
assignment_at (Some i) t =
    let b = drop_while (of_byte is_w) (reverse (take i t)) in
    let name = reverse (take_while (of_byte is_ident) b) in
    let front = reverse (drop_while (of_byte is_ident) b) in
    let right = right_side (drop (i + 2) t) in
    let set = front ++ (lives (ascii "SET ") ++ (name ++ (lives (ascii " = ") ++ right))) in
    cond (starts_name name && not (is_empty right)) set t

-- the text before the name, `SET name = right`; else it passes
unfoldable pub assignment : List Marked → List Marked
assignment t = assignment_at (first assign_here 0 t) t

unfoldable pub checked_statement : Option Target → List Marked → Outcome (List Marked)
checked_statement None t = accepted (assignment t)
checked_statement (Some r) t = refused (qualified_target (bytes r.qualifier) (bytes r.name))

-- a statement is checked before it is rewritten
unfoldable pub statement : List Marked → Outcome (List Marked)
statement t = checked_statement (statement_target t) t

-- the statements' outcomes, a `;` between two
unfoldable pub join_statements : List (List Marked) → Outcome (List Marked)
join_statements [] = accepted []
join_statements (s ∷ []) = statement s
join_statements (s ∷ r ∷ ss) = statement s ⊕ (accepted (live 59 ∷ []) ⊕ join_statements (r ∷ ss))

-- pass 3: statements are cut at live `;`
unfoldable pub assignments : List Marked → Outcome (List Marked)
assignments t = join_statements (pieces (byte_here 59) t)
