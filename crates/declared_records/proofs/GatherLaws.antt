-- The records of a section, part by part: where a name stands, what a part adds, and what the parts give. Assumes nothing.
use Rattle.std.specs.Prelude.{Option, Some, None, is_some, Result, Ok, Err}
use Rattle.std.specs.Option.{MatchOption, unwrap_or}
use Rattle.std.proofs.lemmas.Bool.{cond_both}
use Rattle.std.proofs.lemmas.List.{take_rest}
use mathlib.Core.Path.{◌≡◌, refl, sym, ap, ◌∙◌, subst}
use mathlib.Core.Bool.{Bool, true, false}
use mathlib.Core.List.{List, [], ◌∷◌, ◌++◌}
use Prim.Native.Nat.{ℕ, zero, suc, ◌+◌, ◌-◌, ◌*◌, ◌≤◌, ◌<◌, zero-le, suc-le-suc, max}
use native.Mathlib.Omega.{arith}
use borrow.Author.Tests.{eq-eqb, ne_eqb, eqb-true, eqb-false, ltb-true, ltb-false}
use lib.Dec.{eqb, ltb}
use lib.ListN.{length, get_or, take, drop, length-append, length-drop}
use lib.Seq.{sets, length-take-le}
use Rattle.spec.proofs.Choice.{by}
use Rattle.spec.proofs.RecordLaws.{maybe_longer}
use Rattle.spec.proofs.WalkLaws.{pieces_at, pieces_cut, pieces_last, first_within}
use Rattle.spec.specs.Bytes.{is_same}
use Rattle.spec.specs.Map.{Marked, bytes}
use Rattle.spec.specs.Search.{first, byte_here, pieces}
use Rattle.spec.specs.Declarations.{Declared, one_if, declaration, declare, declare_maybe, declare_all}
use Rattle.spec.specs.Parts.{part}
use Rattle.declared_parts.proofs.DeclaredNameLaws.{not_same}
use Rattle.declared_parts.specs.DeclaredParts.{declared_by, place_or, part_numbers, read_of, Within}
use Rattle.runs.specs.declared.Place.{Place}
use Rattle.declared_parts.specs.declared.DeclarationPlaces.{DeclarationPlaces}
use Rattle.declared_records.specs.Held.{record_in, records_from, place_of, name_hash, held_numbers, HashIn, Hashed, HeldIn, Added, Gathered}
use Rattle.spec.specs.declared.Refusal.{Refusal}
use Rattle.spec.specs.declared.Refusal.TheVariants.{TooManyNames}
use Rattle.declared_records.proofs.HeldLaws.{record_other, record_put, hash_put, hash_other, from_length, from_replaced, from_added, hash_front, from_front}

-- ---- where a name stands

-- a record whose name has another hash has another name
pub other_hash : (xs rs : List ℕ) (k : ℕ) (n : List ℕ) → HashIn xs rs k → (get_or (drop (10 * k) rs) 0 0 ≡ name_hash n → ⊥) → false ≡ is_same n (record_in xs rs k).name
other_hash xs rs k n h other = not_same n _ (λ e. other (h ∙ ap name_hash (sym e)))

pub place_le : (n : List ℕ) (ds : List Declared) → place_of n ds ≤ length ds
unfolding place_of
place_le n [] = zero-le
place_le n (d ∷ ds) = cond_both (is_same n d.name) 0 (suc (place_of n ds)) (λ k. k ≤ suc (length ds)) (λ _. zero-le) (λ _. suc-le-suc (place_le n ds))

-- a declaration takes the place of the first record of its name, or stands behind all
pub declare_place : (d : Declared) (ds : List Declared)
    → declare d ds ≡ take (place_of d.name ds) ds ++ (d ∷ drop (suc (place_of d.name ds)) ds)
unfolding place_of declare
declare_place d [] = refl
declare_place d (e ∷ es) =
    by (is_same d.name e.name) (λ h. rw h refl) (λ h. rw h (ap (λ l. e ∷ l) (declare_place d es)))

place_start : (n xs rs : List ℕ) (count : ℕ) → place_of n (records_from xs rs 1 count) ≡ 0 + place_of n (records_from xs rs (0 + 1) (count - 0))
place_start n xs rs count =
    let a : 0 + 1 ≡ 1 = omega arith in
    let b : count - 0 ≡ count = omega arith in
    rw (a, b) (omega arith)

module _ (n xs rs : List ℕ) (k count : ℕ) where
  abbrev left : List Declared
  left = records_from xs rs (k + 1) (count - k)

  place_over : count ≤ k → place_of n left ≡ 0
  unfolding place_of records_from
  place_over h =
      let z : count - k ≡ 0 = omega arith in
      rw z refl

  module _ (h : k < count) where
    one : left ≡ record_in xs rs (k + 1) ∷ records_from xs rs (k + 1 + 1) (count - (k + 1))
    unfolding records_from
    one =
        let z : count - k ≡ suc (count - (k + 1)) = omega arith in
        let m : suc (k + 1) ≡ k + 1 + 1 = omega arith in
        rw (z, ← m) refl

    place_hit : is_same n (record_in xs rs (k + 1)).name ≡ true → place_of n left ≡ 0
    unfolding place_of
    place_hit e = rw (one, e) refl

    place_miss : is_same n (record_in xs rs (k + 1)).name ≡ false → place_of n left ≡ suc (place_of n (records_from xs rs (k + 1 + 1) (count - (k + 1))))
    unfolding place_of
    place_miss e = rw (one, e) refl

module _ (n xs rs : List ℕ) (count : ℕ) where
  -- whether record k + 1 has the name
  abbrev pub has_name : ℕ → Bool
  has_name k = is_same n (record_in xs rs (k + 1)).name

  -- past i records of other names
  place_past : (i k : ℕ) → k + i ≤ count → ((j : ℕ) → j < k + i → has_name j ≡ false) → place_of n (left n xs rs k count) ≡ i + place_of n (left n xs rs (k + i) count)
  place_past zero k b h =
      let z : k + 0 ≡ k = omega arith in
      rw z (omega arith)
  place_past (suc i) k b h =
      let z : k + suc i ≡ k + 1 + i = omega arith in
      let m = place_miss n xs rs k count (omega arith) (h k (omega arith)) in
      let p = place_past i (k + 1) (omega arith) (λ j a. h j (omega arith)) in
      rw z (omega (arith, m, p))

  -- the first record of the name, by the search for it
  pub place_found : (r : Option ℕ)
      → MatchOption r ((k : ℕ) → 0 ≤ k → k < count → has_name k ≡ false)
      (λ i. (0 ≤ i) × (i < count) × (has_name i ≡ true) × ((k : ℕ) → 0 ≤ k → k < i → has_name k ≡ false))
      → (unwrap_or r count ≡ place_of n (records_from xs rs 1 count)) × (unwrap_or r count ≤ count)
  place_found None h =
      let p = place_past count 0 (omega arith) (λ j a. h j (omega arith) (omega arith)) in
      let z : 0 + count ≡ count = omega arith in
      let q : place_of n (left n xs rs (0 + count) count) ≡ 0 = rw z (place_over n xs rs count count (omega arith)) in
      (omega (arith, place_start n xs rs count, p, q), omega arith)
  place_found (Some i) h =
      let p = place_past i 0 (omega (arith, h.1)) (λ j a. h.3 j (omega arith) (omega arith)) in
      let z : 0 + i ≡ i = omega arith in
      let q : place_of n (left n xs rs (0 + i) count) ≡ 0 = rw z (place_hit n xs rs i count h.1 h.2) in
      (omega (arith, place_start n xs rs count, p, q), omega (arith, h.1))

-- ---- one part

pub within_more : (n m : ℕ) (p : DeclarationPlaces) → n ≤ m → Within n p → Within m p
within_more n m p h w =
    record {
      name = omega (arith, w.name);
      name_len = omega (arith, w.name_len);
      kind = omega (arith, w.kind);
      kind_len = omega (arith, w.kind_len);
      value = (omega (arith, w.value.0), omega (arith, w.value.1));
    }

-- a part's numbers
or_place : (o : Option Place) → unwrap_or o (record { at = 0; len = 0 }) ≡ place_or o
or_place (Some v) = refl
or_place None = refl

pub part_stored : (rs rs' : List ℕ) (k front : ℕ) (p : DeclarationPlaces) (v : Place) (b c n : ℕ)
    → v ≡ unwrap_or p.value (record { at = 0; len = 0 }) → b ≡ one_if (is_some p.value) → c ≡ one_if p.constant → n ≡ one_if p.not_null
    → rs' ≡ sets rs (10 * k) (front ∷ p.name.at ∷ p.name.len ∷ p.kind.at ∷ p.kind.len ∷ b ∷ v.at ∷ v.len ∷ c ∷ n ∷ [])
    → rs' ≡ sets rs (10 * k) (held_numbers front p)
unfolding part_numbers
part_stored rs rs' k front p v b c n e f g h q = q ∙ rw (e, f, g, h, or_place p.value) refl

module _ (xs rs : List ℕ) (count : ℕ) (p : DeclarationPlaces) where
  abbrev held : List Declared
  held = records_from xs rs 1 count

  abbrev new : Declared
  new = declared_by xs (part_numbers p)

  -- no type, no record
  pub add_none : count ≤ 512 → Hashed xs rs count → p.kind.len ≡ 0 → Added xs rs count p rs (Ok count)
  unfolding read_of declare_maybe
  add_none h g e =
      let o : declare_maybe (read_of xs p) held ≡ held = rw (eq-eqb p.kind.len 0 e) refl in
      let number = sym (ap length o ∙ from_length xs rs 1 count) in
      record { number = number; within = h; records = sym o; hashed = g }

  module _ (e : p.kind.len ≡ 0 → ⊥) (k : ℕ) (q : k ≡ place_of (take p.name.len (drop p.name.at xs)) held) where
    known : k ≡ place_of new.name held
    unfolding declared_by part_numbers
    known = q

    low : k ≤ count
    low = omega (arith, known, place_le new.name held, from_length xs rs 1 count)

    made : declare_maybe (read_of xs p) held ≡ take k held ++ (new ∷ drop (suc k) held)
    unfolding read_of declare_maybe
    made = rw (ne_eqb p.kind.len 0 e, known) (declare_place new held)

    made_length : length (declare_maybe (read_of xs p) held) ≡ k + suc (count - suc k)
    made_length =
        ap length made
        ∙ omega (
          arith,
          low,
          length-append (take k held) (new ∷ drop (suc k) held),
          length-take-le k held (omega (arith, low, from_length xs rs 1 count)),
          length-drop (suc k) held,
          from_length xs rs 1 count,
        )

    -- no room
    pub add_full : count ≤ 512 → k ≡ 512 → Added xs rs count p rs (Err TooManyNames)
    add_full h f = (refl, omega (arith, low, made_length))

    module _ (room : 10 * (k + 1) + 10 ≤ length rs) (within : k < 512) (keeps : Hashed xs rs count) where
      abbrev numbers : List ℕ
      numbers = held_numbers (name_hash (take p.name.len (drop p.name.at xs))) p

      abbrev stored : List ℕ
      stored = sets rs (10 * (k + 1)) numbers

      ten : length numbers ≡ 10
      unfolding part_numbers
      ten = refl

      at : record_in xs stored (1 + k) ≡ new
      at =
          let z : 1 + k ≡ k + 1 = omega arith in
          rw z (record_put xs rs (k + 1) _ p room)

      others : (j : ℕ) → (j ≡ 1 + k → ⊥) → record_in xs stored j ≡ record_in xs rs j
      others j n = record_other xs rs numbers (k + 1) j ten (λ r. n (omega arith))

      -- the new record and those kept have their hashes
      all_hashed : (r : ℕ) → ((j : ℕ) → j ≤ r → (j ≡ k + 1 → ⊥) → j ≤ count) → Hashed xs stored r
      all_hashed r f j a b =
          by (eqb j (k + 1))
          (λ e. subst (λ (i : ℕ). HashIn xs stored i) (sym (eqb-true j (k + 1) e)) (hash_put xs rs (k + 1) p room))
          (λ e. let n = eqb-false j (k + 1) e in hash_other xs rs numbers (k + 1) j ten n (keeps j a (f j b n)))

      -- a repeated name
      add_replaced : count ≤ 512 → k < count → Added xs rs count p stored (Ok count)
      add_replaced l h =
          record {
            number = omega (arith, made_length);
            within = l;
            records = from_replaced xs rs stored new k count 1 h at others ∙ sym made;
            hashed = all_hashed count (λ j b n. b);
          }

      -- a new one
      add_new : count ≤ k → Added xs rs count p stored (Ok (k + 1))
      add_new h =
          let z : k ≡ count = omega (arith, low) in
          record {
            number = omega (arith, made_length);
            within = omega arith;
            records =
                let m : k + 1 ≡ suc count = omega arith in
                let a : record_in xs stored (1 + count) ≡ new = ap (λ i. record_in xs stored (1 + i)) (sym z) ∙ at in
                let o : (j : ℕ) → (j ≡ 1 + count → ⊥) → record_in xs stored j ≡ record_in xs rs j = λ j n. others j (λ r. n (r ∙ ap (λ i. 1 + i) z)) in
                ap (records_from xs stored 1) m ∙ (from_added xs rs stored new count 1 a o ∙ sym (rw z at made));
            hashed = all_hashed (k + 1) (λ j b n. omega (arith, low, n));
          }

      -- either way there are as many as the new record reaches, or as before
      pub add_one : count ≤ 512 → Added xs rs count p stored (Ok (max count (k + 1)))
      add_one l =
          by (ltb k count)
          (λ e. let h = ltb-true k count e in
          let m : max count (k + 1) ≡ count = omega arith in
          rw m (add_replaced l h))
          (λ e. let h = ltb-false k count e in
          let m : max count (k + 1) ≡ k + 1 = omega arith in
          rw m (add_new h))

-- ---- the parts

all_longer : (ps : List (List Marked)) (ds : List Declared) → length ds ≤ length (declare_all ps ds)
unfolding declare_all
all_longer [] ds = omega arith
all_longer (p ∷ ps) ds = omega (arith, maybe_longer (declaration p) ds, all_longer ps (declare_maybe (declaration p) ds))

-- the records so far, with what the parts from `at` on declare, are what all parts declare
pub record Going (t : List Marked) (at : ℕ) (rs : List ℕ) (count : ℕ) : Type 0 where
  pub within : count ≤ 512
  pub all : declare_all (pieces (byte_here 59) t) [] ≡ declare_all (pieces_at (byte_here 59) t at) (records_from (bytes t) rs 1 count)
  pub hashed : Hashed (bytes t) rs count

-- where the next part ends
pub part_end : (t : List Marked) (i j : ℕ) → Some j ≡ first (byte_here 59) i t → (i ≤ j) × (j < length t)
part_end t i j e = let w = first_within (byte_here 59) t i j (sym e) in (w.0, w.1)

module _ (t : List Marked) (at : ℕ) (rs : List ℕ) (count : ℕ) where
  abbrev xs : List ℕ
  xs = bytes t

  -- what the parts from `at` on make of these records
  abbrev made_from : List Declared
  made_from = declare_all (pieces_at (byte_here 59) t at) (records_from xs rs 1 count)

  module _ (p : DeclarationPlaces) where
    last_part : first (byte_here 59) at t ≡ None → declaration (part at (length t) t) ≡ read_of xs p → made_from ≡ declare_maybe (read_of xs p) (records_from xs rs 1 count)
    unfolding declare_all
    last_part e d =
        let f : declaration (drop at t) ≡ read_of xs p = rw (take_rest t at) at d in
        rw (pieces_last (byte_here 59) t at e, f) refl

    next_part : (j : ℕ) → first (byte_here 59) at t ≡ Some j → declaration (part at j t) ≡ read_of xs p
        → made_from ≡ declare_all (pieces_at (byte_here 59) t (j + 1)) (declare_maybe (read_of xs p) (records_from xs rs 1 count))
    unfolding declare_all
    next_part j e d =
        ap (λ ps. declare_all ps (records_from xs rs 1 count)) (pieces_cut (byte_here 59) t at j e)
        ∙ ap (λ o. declare_all (pieces_at (byte_here 59) t (j + 1)) (declare_maybe o (records_from xs rs 1 count))) d

    -- more parts leave no fewer records
    over_next : (ps : List (List Marked)) (ds : List Declared) → 512 < length ds → 512 < length (declare_all ps ds)
    over_next ps ds h = omega (arith, all_longer ps ds)

    module _ (rs' : List ℕ) (g : Going t at rs count) where
      -- the last part
      pub gathered_last : (o : Result ℕ Refusal) → Added xs rs count p rs' o → first (byte_here 59) at t ≡ None → declaration (part at (length t) t) ≡ read_of xs p → Gathered xs t rs' o
      gathered_last o add e d =
          subst (λ ds. HeldIn xs ds rs' o) (sym (g.all ∙ last_part e d)) add

      module _ (j : ℕ) (e : Some j ≡ first (byte_here 59) at t) (d : declaration (part at j t) ≡ read_of xs p) where
        -- too many
        pub gathered_over : (r : Refusal) → Added xs rs count p rs' (Err r) → Gathered xs t rs' (Err r)
        gathered_over r add =
            (add.0, rw (g.all ∙ next_part j (sym e) d) (over_next (pieces_at (byte_here 59) t (j + 1)) (declare_maybe (read_of xs p) (records_from xs rs 1 count)) add.1))

        -- one part further on
        pub gathered_next : (r : ℕ) → Added xs rs count p rs' (Ok r) → Going t (j + 1) rs' r
        gathered_next r add =
            record {
              within = add.within;
              all = g.all ∙ (next_part j (sym e) d ∙ ap (declare_all (pieces_at (byte_here 59) t (j + 1))) (sym add.records));
              hashed = add.hashed;
            }

-- at the start
pub gathered_start : (t : List Marked) (rs : List ℕ) → Going t 0 rs 0
unfolding pieces records_from
gathered_start t rs = record { within = omega arith; all = refl; hashed = λ k a b. absurd (omega arith) }

-- what the front of a slice holds, the slice holds
pub held_front : (xs : List ℕ) (ds : List Declared) (rs more : List ℕ) (o : Result ℕ Refusal) → length rs ≡ 5130 → HeldIn xs ds rs o → HeldIn xs ds (rs ++ more) o
held_front xs ds rs more (Ok r) l h =
    record {
      number = h.number;
      within = h.within;
      records = from_front xs rs more (omega arith) 1 r (omega (arith, h.within)) ∙ h.records;
      hashed = λ k a b. hash_front xs rs more (omega arith) k (omega (arith, h.within)) (h.hashed k a b);
    }
held_front xs ds rs more (Err e) l h = h
