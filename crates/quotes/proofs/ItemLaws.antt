-- The parts of a list one after the other: behind a comma outside parentheses the list starts afresh, so its first part and
-- what stands behind that part's comma make up the list. Assumes nothing.
use Rattle.std.specs.Prelude.{Option, Some, None}
use Rattle.std.proofs.lemmas.List.{drop_more}
use mathlib.Core.Path.{◌≡◌, refl, sym, ap, ◌∙◌}
use mathlib.Core.Bool.{true, false, not, ◌&&◌, false≢true}
use mathlib.Core.List.{List, [], ◌∷◌, map, reverse}
use Prim.Native.Nat.{ℕ, ◌+◌, ◌-◌, ◌≤◌, ◌<◌}
use native.Mathlib.Omega.{arith}
use borrow.Author.Tests.{eqb-true, eqb-false, eq-eqb, ne_eqb}
use lib.Dec.{eqb}
use lib.ListN.{length, take, drop, get_or, length-drop, drop_of_length-le}
use lib.Seq.{take-length, take-take, drop-drop, length-take-le}
use Rattle.spec.proofs.EndLaws.{drop_end_take}
use Rattle.spec.proofs.BytesLaws.{bytes_take, bytes_drop, while_length_bytes}
use Rattle.spec.proofs.AheadLaws.{drop_take}
use Rattle.std.proofs.lemmas.Bool.{and_parts}
use Rattle.spec.proofs.Choice.{by}
use Rattle.spec.proofs.FirstLaws.{first_least}
use Rattle.spec.proofs.LengthLaws.{pieces_length}
use Rattle.spec.proofs.RefusalBounds.{bytes_length}
use Rattle.runs.proofs.RunLaws.{trim_bytes}
use Rattle.runs.specs.Sets.{in_set, trimmed}
use Rattle.runs.specs.declared.Set.TheVariants.{W}
use Rattle.spec.proofs.ListLaws.{empty_length, drop_end_le, drop_while_le}
use Rattle.spec.proofs.WalkLaws.{back_step, while_drop, while_length, passes_at, pieces_cut, pieces_last}
use Rattle.spec.specs.Parts.{trim, trim_end}
use Rattle.spec.specs.Bytes.{is_w}
use Rattle.spec.specs.Lists.{is_empty, take_while, drop_while, drop_end, keep, total}
use Rattle.spec.specs.Map.{Marked, live, quoted, is_live_byte, bytes, of_byte}
use Rattle.spec.specs.Search.{first, byte_here, pieces_from, pieces}
use Rattle.spec.specs.SelectInto.{depth_after, depth_of, comma_here, listed, place_or}
use Rattle.quotes.specs.Items.{Listed, FirstItem}
use Rattle.quotes.specs.declared.Item.{Item}

-- the pieces depend on what stands before only by how many parentheses are open there
same_pieces : (b c u : List Marked) → depth_of b ≡ depth_of c → pieces_from comma_here b u ≡ pieces_from comma_here c u
unfolding pieces_from comma_here byte_here depth_of
same_pieces b c [] e = refl
same_pieces b c (x ∷ u) e =
    let d : depth_of (x ∷ b) ≡ depth_of (x ∷ c) = ap (depth_after x) e in
    rw (e, same_pieces (x ∷ b) (x ∷ c) u d) refl

-- behind a comma outside parentheses none is open
comma_depth : (t : List Marked) (j : ℕ) → j < length t → passes_at comma_here t j ≡ true → depth_of (reverse (take (j + 1) t)) ≡ 0
unfolding comma_here byte_here depth_of
comma_depth t j h e =
    let d = drop_more t j (live 0) h in
    let p : (is_live_byte 44 (get_or t j (live 0)) && eqb (depth_of (reverse (take j t))) 0) ≡ true = rw d at e in
    let a = (and_parts (is_live_byte 44 (get_or t j (live 0))) (eqb (depth_of (reverse (take j t))) 0) p).0 in
    let z = (and_parts (is_live_byte 44 (get_or t j (live 0))) (eqb (depth_of (reverse (take j t))) 0) p).1 in
    rw (back_step t j (live 0) h) (after (get_or t j (live 0)) a ∙ eqb-true (depth_of (reverse (take j t))) 0 z)
  where
    after : (x : Marked) → is_live_byte 44 x ≡ true → depth_after x (depth_of (reverse (take j t))) ≡ depth_of (reverse (take j t))
    after (live c) q = rw (eqb-true c 44 q) refl
    after (quoted c) q = absurd (false≢true q)

-- how many bytes stand before the first comma
abbrev comma_at : List Marked → ℕ
comma_at t = place_or (first comma_here 0 t) (length t)

-- pieces trimmed, empty ones dropped
abbrev listed_of : List (List Marked) → List (List Marked)
listed_of ps = keep (λ (p : List Marked). not (is_empty p)) (map trim ps)

list_some : (p : List Marked) (ps : List (List Marked)) → is_empty (trim p) ≡ false → listed_of (p ∷ ps) ≡ trim p ∷ listed_of ps
unfolding keep
list_some p ps e = rw e refl

list_none : (p : List Marked) (ps : List (List Marked)) → is_empty (trim p) ≡ true → listed_of (p ∷ ps) ≡ listed_of ps
unfolding keep
list_none p ps e = rw e refl

-- nothing is listed in an empty text
listed_nil : (t : List Marked) → length t ≡ 0 → listed t ≡ []
unfolding listed keep pieces pieces_from trim trim_end drop_while drop_end is_empty
listed_nil [] h = refl
listed_nil (x ∷ t) h = absurd (omega arith)

module _ (t : List Marked) where
  -- at most all
  comma_le : comma_at t ≤ length t
  comma_le = go (first comma_here 0 t) refl
    where
      go : (f : Option ℕ) → first comma_here 0 t ≡ f → place_or f (length t) ≤ length t
      go (Some j) e = let r = first_least comma_here t 0 j e in omega (arith, r.inside)
      go None e = omega arith

  -- a list is its first piece and the list of what stands behind the first comma
  listed_front : listed t ≡ listed_of (take (comma_at t) t ∷ pieces comma_here (drop (comma_at t + 1) t))
  unfolding listed pieces depth_of pieces_from keep trim trim_end drop_while drop_end is_empty
  listed_front = go (first comma_here 0 t) refl
    where
      go : (f : Option ℕ) → first comma_here 0 t ≡ f
          → listed_of (pieces_from comma_here [] t) ≡ listed_of (take (place_or f (length t)) t ∷ pieces_from comma_here [] (drop (place_or f (length t) + 1) t))
      go (Some j) e =
          let r = first_least comma_here t 0 j e in
          let n : j - 0 ≡ j = omega arith in
          let cut : pieces_from comma_here [] t ≡ take (j - 0) t ∷ pieces_from comma_here (reverse (take (j + 1) t)) (drop (j + 1) t) = pieces_cut comma_here t 0 j e in
          ap listed_of
          ((rw n at cut)
          ∙ ap (λ (ps : List (List Marked)). take j t ∷ ps) (same_pieces (reverse (take (j + 1) t)) [] (drop (j + 1) t) (comma_depth t j r.inside r.passes)))
      go None e =
          let n : length t ≤ length t + 1 = omega arith in
          let whole : pieces_from comma_here [] t ≡ t ∷ [] = pieces_last comma_here t 0 e in
          rw (whole, take-length t, drop_of_length-le t n) refl

  -- a first piece that is not empty without W is the first part
  item_some : (length (trim (take (comma_at t) t)) ≡ 0 → ⊥) → listed t ≡ trim (take (comma_at t) t) ∷ listed (drop (comma_at t + 1) t)
  unfolding listed
  item_some h = listed_front ∙ list_some (take (comma_at t) t) (pieces comma_here (drop (comma_at t + 1) t)) (empty_length _ ∙ ne_eqb _ 0 h)

  -- an empty one is passed over
  item_none : length (trim (take (comma_at t) t)) ≡ 0 → listed t ≡ listed (drop (comma_at t + 1) t)
  unfolding listed
  item_none h = listed_front ∙ list_none (take (comma_at t) t) (pieces comma_here (drop (comma_at t + 1) t)) (empty_length _ ∙ eq-eqb _ 0 h)

-- past the end nothing is listed
pub item_over : (t : List Marked) (i : ℕ) → length t ≤ i → listed (drop i t) ≡ []
item_over t i h = listed_nil (drop i t) (omega (arith, length-drop i t))

-- ---- a text without W at both ends

-- how many bytes of W stand in front
abbrev lead : List Marked → ℕ
lead p = length (take_while (of_byte is_w) p)

trim_cut : (p : List Marked) → trim p ≡ take (length (trim p)) (drop (lead p) p)
unfolding trim trim_end
trim_cut p =
    drop_end_take (of_byte is_w) (drop_while (of_byte is_w) p)
    ∙ ap (take (length (drop_end (of_byte is_w) (drop_while (of_byte is_w) p)))) (while_drop (of_byte is_w) p)

trim_within : (p : List Marked) → lead p + length (trim p) ≤ length p
unfolding trim trim_end
trim_within p =
    omega (
      arith,
      drop_end_le (of_byte is_w) (drop_while (of_byte is_w) p),
      ap length (while_drop (of_byte is_w) p),
      length-drop (length (take_while (of_byte is_w) p)) p,
      while_length (of_byte is_w) p,
    )

-- ---- the first part from an offset on

-- xs are the bytes of t, and j bytes stand before the first comma from `at` on
module _ (t : List Marked) (at j : ℕ) (h : at < length t) (e : j ≡ comma_at (drop at t)) (xs : List ℕ) (x : xs ≡ bytes t) where
  abbrev piece : List Marked
  piece = take j (drop at t)

  -- it stands within the text
  pub comma_within : at + j ≤ length t
  comma_within = omega (arith, comma_le (drop at t), length-drop at t)

  piece_length : length piece ≡ j
  piece_length = length-take-le j (drop at t) (omega (arith, comma_le (drop at t)))

  piece_bytes : take (at + j - at) (drop at xs) ≡ bytes piece
  piece_bytes =
      let n : at + j - at ≡ j = omega arith in
      rw (n, x) (sym (bytes_take j (drop at t) ∙ ap (take j) (bytes_drop at t)))

  -- the list behind the comma
  list_behind : drop (comma_at (drop at t) + 1) (drop at t) ≡ drop (at + j + 1) t
  list_behind =
      let n : at + (comma_at (drop at t) + 1) ≡ at + j + 1 = omega (arith, e) in
      drop-drop (comma_at (drop at t) + 1) at t ∙ ap (λ (m : ℕ). drop m t) n

  -- ys are the piece's bytes without W at both ends
  module _ (ys : List ℕ) (y : ys ≡ trimmed (take (at + j - at) (drop at xs))) where
    long : length ys ≡ length (trim piece)
    long = ap length (y ∙ ap trimmed piece_bytes ∙ sym (trim_bytes piece)) ∙ bytes_length (trim piece)

    -- an empty piece is passed over
    pub item_skip : length ys ≡ 0 → listed (drop at t) ≡ listed (drop (at + j + 1) t)
    item_skip z =
        let n : length (trim (take (comma_at (drop at t)) (drop at t))) ≡ 0 = ap (λ (m : ℕ). length (trim (take m (drop at t)))) (sym e) ∙ (sym long ∙ z) in
        item_none (drop at t) n ∙ ap listed list_behind

    -- s bytes of W stand in front of it
    module _ (s : ℕ) (f : s ≡ length (take_while (in_set W) (take (at + j - at) (drop at xs)))) where
      front_same : lead piece ≡ s
      front_same = while_length_bytes is_w piece ∙ (ap (λ (b : List ℕ). length (take_while is_w b)) (sym piece_bytes) ∙ sym f)

      -- what is left stands before the comma
      pub item_fits : s + length ys ≤ j
      item_fits = omega (arith, trim_within piece, front_same, long, piece_length)

      trim_place : trim piece ≡ take (length ys) (drop (at + s) t)
      trim_place =
          trim_cut piece
          ∙ (ap (λ (m : ℕ). take m (drop (lead piece) piece)) (sym long)
          ∙ (ap (λ (m : ℕ). take (length ys) (drop m piece)) front_same
          ∙ (ap (take (length ys)) (drop_take s j (drop at t) ∙ ap (take (j - s)) (drop-drop s at t))
          ∙ take-take (length ys) (j - s) (drop (at + s) t) (omega (arith, item_fits)))))

      -- and is the first part, if it is not empty
      pub item_found : (i : ℕ) → listed (drop i t) ≡ listed (drop at t) → i ≤ at → (length ys ≡ 0 → ⊥) → Listed t i (at + s) (length ys) (at + j + 1)
      item_found i before h n =
          let same : trim (take (comma_at (drop at t)) (drop at t)) ≡ trim piece = ap (λ (m : ℕ). trim (take m (drop at t))) (sym e) in
          record {
            front =
                before
                ∙ (item_some (drop at t) (λ z. n (long ∙ (sym (ap length same) ∙ z)))
                ∙ (ap (λ (p : List Marked). p ∷ listed (drop (comma_at (drop at t) + 1) (drop at t))) (same ∙ trim_place)
                ∙ ap (λ (u : List Marked). take (length ys) (drop (at + s) t) ∷ listed u) list_behind));
            behind = omega arith;
            some = omega (arith, n);
            inside = omega (arith, item_fits, comma_within);
            beyond = omega (arith, item_fits);
            within = omega (arith, comma_within);
          }

-- its text, and the parts that are left behind it
pub item_part : (t : List Marked) (i : ℕ) (p : Item) → FirstItem t i (Some p)
    → listed (drop i t) ≡ take (p.place.at + p.place.len - p.place.at) (drop p.place.at t) ∷ listed (drop p.next t)
item_part t i p h =
    let n : p.place.at + p.place.len - p.place.at ≡ p.place.len = omega arith in
    rw n h.front

-- ---- the length of all parts, a comma behind each

abbrev pub parts_length : List (List Marked) → ℕ
parts_length [] = 0
parts_length (p ∷ ps) = length p + 1 + parts_length ps

trim_le : (t : List Marked) → length (trim t) ≤ length t
unfolding trim trim_end
trim_le t = omega (arith, drop_end_le (of_byte is_w) (drop_while (of_byte is_w) t), drop_while_le (of_byte is_w) t)

listed_le : (ps : List (List Marked)) → parts_length (listed_of ps) ≤ parts_length ps
unfolding keep
listed_le [] = omega arith
listed_le (p ∷ ps) =
    by (is_empty (trim p))
    (λ e. rw e (omega (arith, listed_le ps)))
    (λ e. rw e (omega (arith, listed_le ps, trim_le p)))

parts_total : (ps : List (List Marked)) → parts_length ps ≡ total (λ (p : List Marked). length p) ps + length ps
unfolding total
parts_total [] = refl
parts_total (p ∷ ps) = omega (arith, parts_total ps)

-- no longer than the text and one comma more
pub parts_le : (t : List Marked) → parts_length (listed t) ≤ length t + 1
unfolding listed
parts_le t =
    let ps = pieces comma_here t in
    omega (arith, listed_le ps, parts_total ps, pieces_length comma_here t)

-- no part is empty
some_each : (ps : List (List Marked)) → length (listed_of ps) + length (listed_of ps) ≤ parts_length (listed_of ps)
unfolding keep
some_each [] = omega arith
some_each (p ∷ ps) =
    by (is_empty (trim p))
    (λ e. rw e (some_each ps))
    (λ e. rw e (omega (arith, some_each ps, eqb-false (length (trim p)) 0 (sym (empty_length (trim p)) ∙ e))))

-- so there are no more parts than bytes
pub parts_count : (t : List Marked) → length (listed t) ≤ length t
unfolding listed
parts_count t = omega (arith, some_each (pieces comma_here t), parts_le t)
