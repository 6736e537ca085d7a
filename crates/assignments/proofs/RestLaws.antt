-- Pass 3 statement by statement: what is left from an offset on, a turn of the loop, and one statement. Assumes nothing.
use Rattle.std.specs.Prelude.{Option, Some, None, ⊤, Result, Ok, Err}
use Rattle.std.proofs.lemmas.Bool.{cond_both}
use mathlib.Core.Path.{◌≡◌, refl, sym, ap, ◌∙◌}
use mathlib.Core.Bool.{not, ◌&&◌}
use mathlib.Core.List.{List, [], ◌∷◌, ◌++◌, reverse}
use Prim.Native.Nat.{ℕ, ◌+◌, ◌-◌, ◌≤◌, ◌<◌}
use native.Mathlib.Omega.{arith}
use lib.ListN.{length, take, drop, length-append, length-drop, length-take, length-reverse, take-append-drop}
use Rattle.spec.proofs.Apart.{apart}
use Rattle.spec.proofs.BytesLaws.{bytes_take, bytes_drop}
use Rattle.spec.proofs.RefusalBounds.{bytes_length}
use Rattle.spec.proofs.RefusalOutcomes.{statement_nil}
use Rattle.spec.specs.Bytes.{ascii, is_ident, is_w}
use Rattle.spec.specs.Lists.{is_empty, take_while, drop_while}
use Rattle.spec.specs.Map.{Marked, live, bytes, lives, of_byte}
use Rattle.spec.specs.Search.{first, byte_here, pieces}
use Rattle.spec.specs.Outcome.{qualified_target, Outcome, accepted, refused, ◌⊕◌}
use Rattle.spec.specs.Assignments.{Target, assign_here, right_side, starts_name, assignment_at, assignment, statement_target, checked_statement, statement, join_statements, assignments}
use Rattle.spec.specs.declared.Refusal.TheVariants.{QualifiedTarget}
use Rattle.spec.specs.declared.Refusal.{Refusal}
use Rattle.spec.proofs.JoinedPieces.{pieces_cons}
use Rattle.spec.proofs.LengthLaws.{right_le}
use Rattle.spec.proofs.ListLaws.{while_sum, drop_while_le}
use Rattle.spec.proofs.WalkLaws.{first_within, pieces_at, pieces_cut, pieces_last}
use Rattle.output.specs.Passes.{WroteOutcome}
use Rattle.output.specs.Written.{Starts, Wrote}
use Rattle.output.specs.declared.Writer.{Writer}
use Rattle.output.proofs.OutcomeLaws.{Turn, turn_both, turn_front, turn_ok, turn_err}
use Rattle.output.proofs.StoreLaws.{front_stored}
use Rattle.output.proofs.WriterLaws.{wrote_none, wrote_then, wrote_front}
use Rattle.runs.specs.Places.{piece_at}
use Rattle.runs.specs.declared.Place.{Place}
use Rattle.targets.specs.Tells.{Tells}
use Rattle.targets.specs.declared.TargetPlaces.{TargetPlaces}

-- ---- the statements of a text

join_cut : (s : List Marked) (ps : List (List Marked)) → (p : List Marked) × (qs : List (List Marked)) × (ps ≡ p ∷ qs)
    → join_statements (s ∷ ps) ≡ statement s ⊕ (accepted (live 59 ∷ []) ⊕ join_statements ps)
unfolding join_statements
join_cut s ps w = rw w.2 refl

-- what the statements from i on come to
abbrev pub left_from : List Marked → ℕ → Outcome (List Marked)
left_from t i = join_statements (pieces_at (byte_here 59) t i)

module _ (t : List Marked) (i : ℕ) where
  left_cut : (j : ℕ) → first (byte_here 59) i t ≡ Some j
      → left_from t i ≡ statement (take (j - i) (drop i t)) ⊕ (accepted (live 59 ∷ []) ⊕ left_from t (j + 1))
  left_cut j e =
      ap join_statements (pieces_cut (byte_here 59) t i j e)
      ∙ join_cut (take (j - i) (drop i t)) (pieces_at (byte_here 59) t (j + 1)) (pieces_cons (byte_here 59) (reverse (take (j + 1) t)) (drop (j + 1) t))

  left_last : first (byte_here 59) i t ≡ None → left_from t i ≡ statement (drop i t)
  unfolding join_statements
  left_last e = ap join_statements (pieces_last (byte_here 59) t i e)

pub left_whole : (t : List Marked) → assignments t ≡ left_from t 0
unfolding assignments pieces
left_whole t = refl

-- the `;` that is found stands within the text
pub semicolon_within : (t : List Marked) (i j : ℕ) → Some j ≡ first (byte_here 59) i t → (i ≤ j) × (j < length t)
semicolon_within t i j e = first_within (byte_here 59) t i j (sym e)

-- ---- a turn of the loop: p is the next statement

module _ (t p : List Marked) (whole : Outcome (List Marked)) (a b c : Writer) (i : ℕ) (s : Turn a whole b (left_from t i)) where
  module _ (j : ℕ) (e : Some j ≡ first (byte_here 59) i t) (h : p ≡ take (j - i) (drop i t)) where
    cut : Turn a whole b (statement p ⊕ (accepted (live 59 ∷ []) ⊕ left_from t (j + 1)))
    cut = rw (left_cut t i j (sym e), ← h) at s

    -- it is written, and the `;` behind it
    pub statement_turn : (d : Writer) → WroteOutcome b (statement p) c (Ok tt) → Wrote c (59 ∷ []) d → Turn a whole d (left_from t (j + 1))
    unfolding bytes
    statement_turn d l k =
        turn_both cut
        (turn_both (turn_ok (statement p) b c (accepted (live 59 ∷ []) ⊕ left_from t (j + 1)) l)
        (turn_front (live 59 ∷ []) (59 ∷ []) c d (left_from t (j + 1)) refl k))

    -- or it is refused
    pub statement_refused : (r : Refusal) → WroteOutcome b (statement p) c (Err r) → WroteOutcome a whole c (Err r)
    statement_refused r k = turn_err whole (statement p) (accepted (live 59 ∷ []) ⊕ left_from t (j + 1)) cut c r k

  -- it is the last one
  pub statement_last : None ≡ first (byte_here 59) i t → p ≡ drop i t → (r : Result ⊤ Refusal) → WroteOutcome b (statement p) c r → WroteOutcome a whole c r
  statement_last e h r k = let q = rw (left_last t i (sym e), ← h) at s in q.completes c r k

-- ---- one statement

-- how long a part is
part_length : (xs : List ℕ) (p : Place) → p.at + p.len ≤ length xs → length (piece_at xs p) ≡ p.len
part_length xs p h = omega (arith, length-take p.len (drop p.at xs), length-drop p.at xs)

-- `q.n` in front of the output
pub target_written : (xs : List ℕ) (p : TargetPlaces) (o a b c d : Writer)
    → p.name.at ≡ p.qualifier.at + p.qualifier.len + 1 → p.name.at + p.name.len ≤ length xs → length xs ≤ length o.out.now
    → Starts o.out a → Wrote a (piece_at xs p.qualifier) b → Wrote b (46 ∷ []) c → Wrote c (piece_at xs p.name) d
    → WroteOutcome o (refused (qualified_target (piece_at xs p.qualifier) (piece_at xs p.name))) d (Err (QualifiedTarget p.qualifier.len d.len))
target_written xs p o a b c d h k l s u v w =
    let q = piece_at xs p.qualifier in
    let n = piece_at xs p.name in
    let f = wrote_front o.out (q ++ (46 ∷ n)) s (wrote_then q (46 ∷ n) u (wrote_then (46 ∷ []) n v w)) in
    let ql : length q ≡ p.qualifier.len = part_length xs p.qualifier (omega arith) in
    let nl : length n ≡ p.name.len = part_length xs p.name (omega arith) in
    (f.0, front_stored o.out.now d.out.now (q ++ (46 ∷ n)) _ refl (omega (arith, length-append q (46 ∷ n))) f.1, rw (ql, f.2) refl)

module _ (t : List Marked) (a b : Writer) where
  -- it has a qualified target
  pub statement_qualified : (p : TargetPlaces) (r : Result ⊤ Refusal) → Tells t (statement_target t) (Some p)
      → WroteOutcome a (refused (qualified_target (piece_at (bytes t) p.qualifier) (piece_at (bytes t) p.name))) b r
      → WroteOutcome a (statement t) b r
  unfolding statement checked_statement
  statement_qualified p r w h =
      rw (
        w.target,
        bytes_take p.qualifier.len (drop p.qualifier.at t),
        bytes_take p.name.len (drop p.name.at t),
        bytes_drop p.qualifier.at t,
        bytes_drop p.name.at t,
      )
      h

  -- it has none
  pub statement_rewritten : Tells t (statement_target t) None → Wrote a (bytes (assignment t)) b → WroteOutcome a (statement t) b (Ok tt)
  unfolding statement checked_statement
  statement_rewritten w p = rw w.target (p, refl)

pub statement_empty : (t : List Marked) (a : Writer) → length t ≡ 0 → WroteOutcome a (statement t) a (Ok tt)
unfolding bytes
statement_empty [] a h = rw statement_nil (wrote_none a, refl)
statement_empty (x ∷ t) a h = absurd (omega arith)

-- an assignment adds 7 bytes at most
assignment_long : (f : Option ℕ) (t : List Marked) → length (assignment_at f t) ≤ length t + 7
unfolding assignment_at lives
assignment_long None t = omega arith
assignment_long (Some i) t =
    let b = drop_while (of_byte is_w) (reverse (take i t)) in
    let name = take_while (of_byte is_ident) b in
    let front = drop_while (of_byte is_ident) b in
    let right = right_side (drop (i + 2) t) in
    cond_both (starts_name (reverse name) && not (is_empty right)) _ _ (λ (l : List Marked). length l ≤ length t + 7)
    (λ _.
    omega (
      arith,
      length-append (reverse front) (lives (ascii "SET ") ++ (reverse name ++ (lives (ascii " = ") ++ right))),
      length-append (reverse name) (lives (ascii " = ") ++ right),
      length-reverse front,
      length-reverse name,
      while_sum (of_byte is_ident) b,
      drop_while_le (of_byte is_w) (reverse (take i t)),
      length-reverse (take i t),
      ap length (take-append-drop i t),
      length-append (take i t) (drop i t),
      length-drop i t,
      right_le (drop (i + 2) t),
      length-drop (i + 2) t,
    ))
    (λ _. omega arith)

-- a statement that is written is at most 7 bytes longer than its text
pub statement_long : (t : List Marked) (a b : Writer) → WroteOutcome a (statement t) b (Ok tt) → b.len ≤ a.len + length t + 7
unfolding statement checked_statement assignment
statement_long t a b = go (statement_target t)
  where
    go : (r : Option Target) → WroteOutcome a (checked_statement r t) b (Ok tt) → b.len ≤ a.len + length t + 7
    go None e = omega (arith, e.0.count, bytes_length (assignment t), assignment_long (first assign_here 0 t) t)
    go (Some r) e = let q = e.2 in absurd (apart (cc))
