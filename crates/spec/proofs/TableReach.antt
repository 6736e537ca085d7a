-- How far a table is read: what stands behind its first bad line does not matter, its first 133 bytes decide, and the places
-- are within bounds. Assumes nothing.
use Rattle.std.specs.Prelude.{Result, Err}
use mathlib.Core.Path.{◌≡◌, refl, sym, ap, ◌∙◌}
use mathlib.Core.Bool.{true, false≢true}
use mathlib.Core.List.{List, [], ◌∷◌, ◌++◌, append_assoc}
use mathlib.Core.Logic.{◌⊎◌, ⊎_elim}
use Prim.Native.Nat.{ℕ, ◌+◌, ◌-◌, ◌≤◌, ◌<◌}
use native.Mathlib.Omega.{arith}
use lib.ListN.{length, take, drop, length-take, take-append-drop}
use lib.Seq.{take_all, take-append-add}
use Rattle.spec.proofs.LineLaws.{only_last, first_line, through_only, first_text, text_first, text_size}
use Rattle.spec.proofs.LevelLaws.{HasMalformedLine, HasRepeatedLevel, HasActions, Says, by_words, table_exactly, actions_exactly, malformed_line_exactly, repeated_level_exactly, missing_level_exactly}
use Rattle.spec.proofs.TableLines.{table_text, Stands, Different}
use Rattle.spec.proofs.TableSize.{at_most_six, at_most_five, all_six, lines_size}
use Rattle.spec.specs.Levels.{Entry, line_text, table_of}
use Rattle.spec.specs.Raise.{Actions}
use Rattle.spec.specs.declared.Refusal.TheVariants.{MalformedLine, RepeatedLevel, MissingLevel}
use Rattle.spec.specs.declared.Refusal.{Refusal}

-- ---- behind the first bad line

-- behind the lines es: the text of no line, or of one whose level stands in es
abbrev pub IsBad : List Entry → List ℕ → Type 0
IsBad es line = ((e : Entry) → line ≡ line_text e → ⊥) ⊎ ((e : Entry) × (line ≡ line_text e) × Stands e.level es)

line_not_empty : (line rest : List ℕ) → only_last 10 line ≡ true → 0 < length (line ++ rest)
unfolding only_last
line_not_empty [] rest h = absurd (false≢true h)
line_not_empty (x ∷ line) rest h = omega arith

-- of two tables that agree through their first bad line, each says what the other says
pub bad_line_decides : (es : List Entry) (line xs ys : List ℕ) → Different es → only_last 10 line ≡ true → IsBad es line
    → table_of (table_text es ++ (line ++ xs)) ≡ table_of (table_text es ++ (line ++ ys))
bad_line_decides es line xs ys d o bad =
    ⊎_elim (λ w. malformed xs w ∙ sym (malformed ys w)) (λ w. repeated xs w ∙ sym (repeated ys w)) bad
  where
    malformed : (rest : List ℕ) → ((e : Entry) → line ≡ line_text e → ⊥) → table_of (table_text es ++ (line ++ rest)) ≡ Err (MalformedLine (length (table_text es)))
    malformed rest w =
        (malformed_line_exactly (table_text es ++ (line ++ rest)) (length (table_text es))).1
        (record {
          before = es;
          rest = line ++ rest;
          parts = refl;
          different = d;
          not_empty = line_not_empty line rest o;
          bad = λ e h. w e (sym (through_only 10 line rest o) ∙ h);
          place = refl;
        })

    repeated : (rest : List ℕ) → ((e : Entry) × (line ≡ line_text e) × Stands e.level es) → table_of (table_text es ++ (line ++ rest)) ≡ Err (RepeatedLevel (length (table_text es)))
    repeated rest w =
        (repeated_level_exactly (table_text es ++ (line ++ rest)) (length (table_text es))).1
        (record {
          before = es;
          line = w.0;
          rest = rest;
          parts = ap (λ (l : List ℕ). table_text es ++ (l ++ rest)) w.1;
          different = d;
          again = w.2;
          place = refl;
        })

-- ---- the first 133 bytes

-- an accepted table has six lines
pub six_lines : (xs : List ℕ) (a : Actions) (w : HasActions xs a) → length w.lines ≡ 6
six_lines xs a w = all_six w.lines w.different w.complete

-- lines of different levels have at most 114 bytes
pub lines_bound : (es : List Entry) → Different es → length (table_text es) ≤ 114
lines_bound es d = omega (arith, lines_size es, at_most_six es d)

-- the front of a text that is cut behind its first part
take_behind : (xs ys : List ℕ) (k : ℕ) → length xs ≤ k → take k (xs ++ ys) ≡ xs ++ take (k - length xs) ys
take_behind xs ys k h =
    let sum : length xs + (k - length xs) ≡ k = omega arith in
    ap (λ (n : ℕ). take n (xs ++ ys)) (sym sum) ∙ take-append-add xs ys (k - length xs)

module _ (xs : List ℕ) (k : ℕ) (h : 133 ≤ k) where
  keeps_malformed : (i : ℕ) → HasMalformedLine xs i → HasMalformedLine (take k xs) i
  keeps_malformed i w =
      let n = length (table_text w.before) in
      let within : n ≤ 114 = lines_bound w.before w.different in
      let front = take (k - n) w.rest in
      record {
        before = w.before;
        rest = front;
        parts = ap (take k) w.parts ∙ take_behind (table_text w.before) w.rest k (omega arith);
        different = w.different;
        not_empty = omega (arith, length-take (k - n) w.rest, w.not_empty);
        bad = λ e q.
            let begins = text_first e front q in
            w.bad e (ap first_line (sym (take-append-drop (k - n) w.rest) ∙ (ap (λ (l : List ℕ). l ++ drop (k - n) w.rest) begins ∙ append_assoc (line_text e) _ _)) ∙ first_text e _);
        place = w.place;
      }

  keeps_repeated : (i : ℕ) → HasRepeatedLevel xs i → HasRepeatedLevel (take k xs) i
  keeps_repeated i w =
      let n = length (table_text w.before) in
      let m = length (line_text w.line) in
      let within : n ≤ 114 = lines_bound w.before w.different in
      let cut : take (k - n) (line_text w.line ++ w.rest) ≡ line_text w.line ++ take (k - n - m) w.rest = take_behind (line_text w.line) w.rest (k - n) (omega (arith, text_size w.line)) in
      record {
        before = w.before;
        line = w.line;
        rest = take (k - n - m) w.rest;
        parts = ap (take k) w.parts ∙ (take_behind (table_text w.before) (line_text w.line ++ w.rest) k (omega arith) ∙ ap (λ (l : List ℕ). table_text w.before ++ l) cut);
        different = w.different;
        again = w.again;
        place = w.place;
      }

  whole : (es : List Entry) → xs ≡ table_text es → Different es → take k xs ≡ xs
  whole es p d = take_all k xs (omega (arith, ap length p, lines_bound es d))

  decided : (t : Result Actions Refusal) → Says xs t → table_of (take k xs) ≡ t
  decided =
      by_words xs (λ t. table_of (take k xs) ≡ t)
      (λ a w. ap table_of (whole w.lines w.parts w.different) ∙ (actions_exactly xs a).1 w)
      (λ i w. (malformed_line_exactly (take k xs) i).1 (keeps_malformed i w))
      (λ i w. (repeated_level_exactly (take k xs) i).1 (keeps_repeated i w))
      (λ i w. ap table_of (whole w.lines w.parts w.different) ∙ (missing_level_exactly xs i).1 w)

  -- a table says what its first 133 bytes say
  pub first_bytes_decide : table_of (take k xs) ≡ table_of xs
  first_bytes_decide = decided (table_of xs) ((table_exactly xs (table_of xs)).0 refl)

-- ---- the places

-- of 11 and 12 at most 114, of 13 at most 95
pub malformed_place : (xs : List ℕ) (i : ℕ) → table_of xs ≡ Err (MalformedLine i) → i ≤ 114
malformed_place xs i h = let w = (malformed_line_exactly xs i).0 h in omega (arith, w.place, lines_bound w.before w.different)

pub repeated_place : (xs : List ℕ) (i : ℕ) → table_of xs ≡ Err (RepeatedLevel i) → i ≤ 114
repeated_place xs i h = let w = (repeated_level_exactly xs i).0 h in omega (arith, w.place, lines_bound w.before w.different)

pub missing_place : (xs : List ℕ) (i : ℕ) → table_of xs ≡ Err (MissingLevel i) → i ≤ 95
missing_place xs i h =
    let w = (missing_level_exactly xs i).0 h in
    omega (arith, w.place, ap length w.parts, lines_size w.lines, at_most_five w.lines w.level w.different w.missing)
