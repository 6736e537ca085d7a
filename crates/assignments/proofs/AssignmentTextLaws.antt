-- A statement with its first live `:=` at an offset: the parts of its rewriting. Assumes nothing.
use Rattle.std.specs.Prelude.{Some, None}
use mathlib.Core.Path.{◌≡◌, refl, sym, ap, ◌∙◌}
use mathlib.Core.Bool.{true, false, cond, not, ◌&&◌}
use mathlib.Core.List.{List, [], ◌++◌, reverse-reverse}
use Prim.Native.Nat.{ℕ, ◌+◌, ◌-◌, ◌≤◌}
use native.Mathlib.Omega.{arith}
use lib.Dec.{eqb}
use lib.ListN.{length, take, drop, get_or, length-drop}
use Rattle.spec.proofs.ListLaws.{empty_length}
use Rattle.spec.proofs.BytesLaws.{bytes_take, bytes_drop, bytes_append, bytes_lives, bytes_end, front_bytes}
use Rattle.spec.proofs.LengthLaws.{right_le}
use Rattle.spec.proofs.MapLaws.{marked_bytes, marked_length}
use Rattle.spec.proofs.RefusalBounds.{bytes_length}
use Rattle.spec.specs.Bytes.{ascii, is_digit, is_ident, is_w}
use Rattle.spec.specs.Lists.{is_empty, drop_end}
use Rattle.spec.specs.Map.{Marked, marked, bytes, lives, front_live, of_byte}
use Rattle.spec.specs.Search.{first, starts, needle_here}
use Rattle.spec.specs.Assignments.{assign_here, right_side, starts_name, assignment_at, assignment}
use Rattle.spec.specs.Parts.{trim}
use Rattle.std.proofs.lemmas.Bool.{and_parts}
use Rattle.spec.proofs.FirstLaws.{first_least}
use Rattle.spec.proofs.WalkLaws.{starts_exact, prefix_by_len}
use Rattle.spec.proofs.RunPlaces.{start_from, Behind, behind_at}
use Rattle.output.proofs.WriterLaws.{wrote_then}
use Rattle.output.specs.Written.{Wrote}
use Rattle.output.specs.declared.Writer.{Writer}
use Rattle.runs.specs.Sets.{in_set, trimmed}
use Rattle.runs.specs.declared.Set.TheVariants.{W, Ident}
use Rattle.runs.proofs.RunLaws.{start_whole, trim_bytes}
use Rattle.assignments.specs.Written.{set_text}

-- a `:=` that is found stands within the text
pub assign_inside : (t : List Marked) (i : ℕ) → Some i ≡ first (needle_here (ascii ":=")) 0 t → i + 2 ≤ length t
unfolding needle_here
assign_inside t i e =
    let l = first_least (needle_here (ascii ":=")) t 0 i (sym e) in
    let s = (and_parts (front_live (drop i t)) (starts (ascii ":=") (drop i t)) l.passes).1 in
    let p = prefix_by_len (λ (b : ℕ). b) (ascii ":=") (bytes (drop i t)) (sym (starts_exact (ascii ":=") (drop i t)) ∙ s) in
    omega (arith, bytes_length (drop i t), length-drop i t, l.inside)

-- the statement with the `:=` that is found, or without one
module _ (t : List Marked) {a b : Writer} where
  pub assignment_found : (i : ℕ) → Some i ≡ first (needle_here (ascii ":=")) 0 t → Wrote a (bytes (assignment_at (Some i) t)) b → Wrote a (bytes (assignment t)) b
  unfolding assignment assign_here
  assignment_found i e p = rw (← e) p

  pub assignment_none : None ≡ first (needle_here (ascii ":=")) 0 t → Wrote a (bytes t) b → Wrote a (bytes (assignment t)) b
  unfolding assignment assign_here assignment_at
  assignment_none e p = rw (← e) p

-- the parts one after the other
pub set_wrote : (front name right : List ℕ) {a b c d e f : Writer} → Wrote a front b → Wrote b (ascii "SET ") c → Wrote c name d → Wrote d (ascii " = ") e → Wrote e right f
    → Wrote a (set_text front name right) f
set_wrote front name right p q r s u =
    wrote_then front _ p (wrote_then (ascii "SET ") _ q (wrote_then name _ r (wrote_then (ascii " = ") right s u)))

-- no byte, no item
pub empty_bytes : (t : List Marked) (xs : List ℕ) → bytes t ≡ xs → is_empty t ≡ eqb (length xs) 0
empty_bytes t xs e = empty_length t ∙ ap (λ (k : ℕ). eqb k 0) (sym (bytes_length t) ∙ ap length e)

-- a right side is no longer than what stands behind the `:=`
pub right_short : (xs r : List ℕ) → ((t : List Marked) → bytes t ≡ xs → bytes (right_side t) ≡ r) → length r ≤ length xs
right_short xs r h =
    let t = marked xs [] in
    let b = h t (marked_bytes xs []) in
    omega (arith, ap length b, bytes_length (right_side t), right_le t, marked_length xs [])

-- ---- a marked text t that has the bytes xs

module _ (xs : List ℕ) (t : List Marked) (e : bytes t ≡ xs) where
  -- the right side, by where `;` at the end of the trimmed text starts
  pub right_at : (inner : List ℕ) → inner ≡ trimmed xs → (k : ℕ) → k ≡ start_from (λ (b : ℕ). eqb b 59) inner (length inner)
      → bytes (right_side t) ≡ trimmed (take k inner)
  unfolding right_side
  right_at inner h k q =
      let b : bytes (trim t) ≡ inner = trim_bytes t ∙ (ap trimmed e ∙ sym h) in
      trim_bytes (drop_end (of_byte (λ (c : ℕ). eqb c 59)) (trim t))
      ∙ ap trimmed
      (bytes_end (λ (c : ℕ). eqb c 59) (trim t)
      ∙ (ap (drop_end (λ (c : ℕ). eqb c 59)) b ∙ sym (start_whole (λ (c : ℕ). eqb c 59) inner k q).1))

  -- the first byte of a name
  pub name_at : starts_name t ≡ (is_ident (get_or xs 0 0) && not (is_digit (get_or xs 0 0)))
  unfolding starts_name
  name_at = rw (front_bytes t, e) refl

-- ---- in the bytes xs of t, the name before W before i ends at m and starts at s

module _ (xs : List ℕ) (t : List Marked) (e : bytes t ≡ xs) (i m s : ℕ) (w : i ≤ length xs) (hm : m ≡ start_from (in_set W) xs i) (hs : s ≡ start_from (in_set Ident) xs m) where
  white : Behind is_w t m i
  white = behind_at is_w t xs e i m w hm

  run : Behind is_ident t s m
  run = behind_at is_ident t xs e m s (omega (arith, white.upto)) hs

  abbrev name : List Marked
  name = take (m - s) (drop s t)

  abbrev right : List Marked
  right = right_side (drop (i + 2) t)

  parts : assignment_at (Some i) t
      ≡ cond (starts_name name && not (is_empty right)) (take s t ++ (lives (ascii "SET ") ++ (name ++ (lives (ascii " = ") ++ right)))) t
  unfolding assignment_at
  parts =
      rw (
        white.rest,
        run.front,
        run.rest,
        reverse-reverse (take s t),
      )
      refl

  name_bytes : bytes name ≡ take (m - s) (drop s xs)
  name_bytes = bytes_take (m - s) (drop s t) ∙ ap (λ (l : List ℕ). take (m - s) l) (bytes_drop s t ∙ ap (λ (l : List ℕ). drop s l) e)

  -- the right side has the bytes r, and the two make an assignment or not
  module _ (r : List ℕ) (hr : (u : List Marked) → bytes u ≡ drop (i + 2) xs → bytes (right_side u) ≡ r) where
    right_bytes : bytes right ≡ r
    right_bytes = hr (drop (i + 2) t) (bytes_drop (i + 2) t ∙ ap (λ (l : List ℕ). drop (i + 2) l) e)

    pub assignment_same : ((u v : List Marked) → bytes u ≡ take (m - s) (drop s xs) → bytes v ≡ r → false ≡ (starts_name u && not (is_empty v))) → bytes (assignment_at (Some i) t) ≡ xs
    assignment_same h = ap bytes (parts ∙ rw (← h name right name_bytes right_bytes) refl) ∙ e

    pub assignment_set : ((u v : List Marked) → bytes u ≡ take (m - s) (drop s xs) → bytes v ≡ r → true ≡ (starts_name u && not (is_empty v)))
        → bytes (assignment_at (Some i) t) ≡ set_text (take s xs) (take (m - s) (drop s xs)) r
    assignment_set h =
        let q : assignment_at (Some i) t ≡ take s t ++ (lives (ascii "SET ") ++ (name ++ (lives (ascii " = ") ++ right))) = parts ∙ rw (← h name right name_bytes right_bytes) refl in
        ap bytes q
        ∙ rw (
          bytes_append (take s t) (lives (ascii "SET ") ++ (name ++ (lives (ascii " = ") ++ right))),
          bytes_append (lives (ascii "SET ")) (name ++ (lives (ascii " = ") ++ right)),
          bytes_append name (lives (ascii " = ") ++ right),
          bytes_append (lives (ascii " = ")) right,
          bytes_lives (ascii "SET "),
          bytes_lives (ascii " = "),
          name_bytes,
          right_bytes,
          bytes_take s t,
          e,
        )
        refl
