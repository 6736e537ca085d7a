-- A statement that is cut by its keywords, as bytes. Assumes nothing.
use Rattle.std.specs.Prelude.{Option, Some, None, unwrap_or}
use Rattle.std.proofs.lemmas.List.{take_rest}
use mathlib.Core.Path.{◌≡◌, refl, sym, ap, ◌∙◌}
use mathlib.Core.Bool.{true, false}
use mathlib.Core.List.{List, ◌++◌, reverse}
use Prim.Native.Nat.{ℕ, ◌+◌, ◌-◌, ◌≤◌, zero-le, min}
use native.Mathlib.Omega.{arith}
use borrow.Author.Tests.{ltb-true, ltb-false}
use lib.Dec.{eqb, ltb}
use lib.ListN.{length, take, drop, length-drop}
use lib.Seq.{drop-length}
use Rattle.spec.proofs.BytesLaws.{bytes_append, bytes_take, bytes_drop, bytes_end}
use Rattle.std.proofs.lemmas.Bool.{and_parts}
use Rattle.spec.proofs.Choice.{by}
use Rattle.spec.proofs.FirstLaws.{first_least}
use Rattle.spec.proofs.LengthLaws.{word_in}
use Rattle.spec.proofs.RefusalBounds.{bytes_length}
use Rattle.spec.proofs.WalkLaws.{first_within, starts_length}
use Rattle.spec.specs.Bytes.{ascii, is_ident, is_w}
use Rattle.spec.specs.Lists.{drop_end}
use Rattle.spec.specs.Map.{Marked, bytes, of_byte, front_byte}
use Rattle.spec.specs.Search.{Test, first, word_here}
use Rattle.spec.specs.Parts.{trim_end, part}
use Rattle.spec.specs.SelectInto.{depth_of, top_word_here, listed, pair_up, place_or, from_part, front_place, indentation, set_line, set_lines, select_cut}
use Rattle.set_lines.specs.Lines.{Shared, shared_by, lines_text}
use Rattle.select_into.specs.Pairs.{last_line, from_text, pairs_text}
use Rattle.select_into.proofs.FromEndLaws.{listed_trimmed}
use Rattle.select_into.proofs.SetTextLaws.{lines_bytes, indentation_bytes}

-- ---- where a keyword stands

-- all of it stands within the text
pub word_within : (w : List ℕ) (t : List Marked) (i j : ℕ) → first (top_word_here w) i t ≡ Some j → j + length w ≤ length t
unfolding top_word_here
word_within w t i j e =
    let r = first_least (top_word_here w) t i j e in
    let p = front_byte (reverse (take j t)) in
    let h = (and_parts (word_here is_ident w p (drop j t)) (eqb (depth_of (reverse (take j t))) 0) r.passes).0 in
    let m = starts_length w (drop j t) (word_in is_ident w p (drop j t) h) in
    omega (arith, length-drop j t, r.inside)

pub place_bound : (f : Option ℕ) (n m : ℕ) → place_or f 0 ≤ m → n ≤ m → unwrap_or f n ≤ m
place_bound (Some i) n m h k = h
place_bound None n m h k = k

pub found_bound : (p : Test) (t : List Marked) (i : ℕ) (f : Option ℕ) → f ≡ first p i t → place_or f 0 ≤ length t
found_bound p t i (Some j) e = omega (arith, first_within p t i j (sym e))
found_bound p t i None e = zero-le

-- the WITH that was found if it stands before SELECT, else SELECT
pub front_least : (f : Option ℕ) (s : ℕ) → min (unwrap_or f s) s ≡ front_place f s
unfolding front_place
front_least None s = omega arith
front_least (Some w) s = by (ltb w s) (λ e. rw e (omega (arith, ltb-true w s e))) (λ e. rw e (omega (arith, ltb-false w s e)))

-- the place that was found, or n
pub place_told : (f : Option ℕ) (n : ℕ) → unwrap_or f n ≡ place_or f n
place_told (Some i) n = refl
place_told None n = refl

-- ---- the parts of a statement

module _ (t : List Marked) where
  from_bytes : (f : Option ℕ) → bytes (from_part f t) ≡ from_text (drop (place_or f (length (bytes t))) (bytes t))
  unfolding from_part from_text trim_end bytes drop_end
  from_bytes (Some i) =
      bytes_end (λ c. eqb c 59) (drop_end (of_byte is_w) (drop i t))
      ∙ ap (drop_end (λ c. eqb c 59)) (bytes_end is_w (drop i t) ∙ ap (drop_end is_w) (bytes_drop i t))
  from_bytes None = rw (drop-length (bytes t)) refl

  part_bytes : (a b : ℕ) → bytes (part a b t) ≡ part a b (bytes t)
  part_bytes a b = bytes_take (b - a) (drop a t) ∙ ap (take (b - a)) (bytes_drop a t)

  shared_bytes : (front s : ℕ) (f : Option ℕ)
      → shared_by (bytes (part front s t)) (bytes (from_part f t)) (bytes (indentation (take front t)))
      ≡ shared_by (part front s (bytes t)) (from_text (drop (place_or f (length (bytes t))) (bytes t))) (last_line (take front (bytes t)))
  shared_bytes front s f =
      rw (part_bytes front s, from_bytes f, indentation_bytes (take front t), bytes_take front t) refl

  module _ (s i : ℕ) (f : Option ℕ) where
    abbrev cols : List (List Marked)
    cols = listed (part (s + 6) i t)

    abbrev vars : List (List Marked)
    vars = listed (part (i + 4) (place_or f (length t - 1)) t)

    abbrev front : ℕ
    front = front_place (first (top_word_here (ascii "WITH")) 0 t) s

    cut_same : pair_up cols vars ≡ false → bytes (select_cut s i f t) ≡ bytes t
    unfolding select_cut
    cut_same e = rw e refl

    cut_pairs : pair_up cols vars ≡ true
        → bytes (select_cut s i f t)
        ≡ pairs_text (take front (bytes t)) (part front s (bytes t)) (drop (place_or f (length (bytes t))) (bytes t)) cols vars
    unfolding select_cut pairs_text
    cut_pairs e =
        let lines = set_lines (indentation (take front t)) (set_line (part front s t) (from_part f t)) cols vars in
        rw e
        (bytes_append (take front t) lines
        ∙ (ap (λ (l : List ℕ). l ++ bytes lines) (bytes_take front t)
        ∙ ap (λ (l : List ℕ). take front (bytes t) ++ l)
        (lines_bytes (part front s t) (from_part f t) (indentation (take front t)) cols vars (listed_trimmed (part (s + 6) i t))
        ∙ ap (λ (h : Shared). lines_text h cols vars) (shared_bytes front s f))))

    -- the columns and variables, as `put_cut` cuts them out
    module _ (c v : List Marked) (p n : ℕ) (xs : List ℕ) (ec : c ≡ part (s + 6) i t) (ev : v ≡ part (i + 4) p t)
        (ep : p ≡ unwrap_or f (n - 1)) (en : n ≡ length t) (ex : xs ≡ bytes t) where
      cols_same : listed c ≡ cols
      cols_same = ap listed ec

      vars_same : listed v ≡ vars
      vars_same = ap listed (ev ∙ ap (λ (j : ℕ). part (i + 4) j t) (ep ∙ (place_told f (n - 1) ∙ ap (λ (j : ℕ). place_or f (j - 1)) en)))

      pub cut_copied : pair_up (listed c) (listed v) ≡ false → xs ≡ bytes (select_cut s i f t)
      cut_copied e = ex ∙ sym (cut_same (rw (cols_same, vars_same) at e))

      pub cut_written : (m g : ℕ) → m ≡ front → g ≡ unwrap_or f n → pair_up (listed c) (listed v) ≡ true
          → pairs_text (take m xs) (part m s xs) (take (length xs - g) (drop g xs)) (listed c) (listed v) ≡ bytes (select_cut s i f t)
      cut_written m g em eg e =
          let k : n ≡ length (bytes t) = en ∙ sym (bytes_length t) in
          rw (take_rest, em, eg, place_told f n, k, ex, cols_same, vars_same) (sym (cut_pairs (rw (cols_same, vars_same) at e)))
