-- The texts of the records packed one after the other, and their numbers. Assumes nothing.
use Rattle.std.specs.Prelude.{Option, Some, None}
use mathlib.Core.Path.{◌≡◌, refl, sym, ap, ◌∙◌}
use mathlib.Core.List.{List, ◌∷◌, ◌++◌}
use Prim.Native.Nat.{ℕ, suc, ◌+◌, ◌-◌, ◌*◌, ◌≤◌, ◌<◌, zero-le}
use native.Mathlib.Omega.{arith}
use lib.ListN.{length, get_or, drop, length-append}
use lib.Seq.{sets}
use Rattle.output.proofs.StoreLaws.{sets_append}
use Rattle.output.proofs.WriterLaws.{Left, wrote_then, left_start, left_more, left_done}
use Rattle.output.specs.Written.{Wrote}
use Rattle.output.specs.declared.Writer.{Writer}
use Rattle.spec.proofs.AheadLaws.{drop_front}
use Rattle.spec.proofs.RecordLaws.{default_three}
use Rattle.spec.specs.Declarations.{Declared, text_or, packed_record, packed, default_numbers, mark_numbers}
use Rattle.declared_parts.specs.DeclaredParts.{declared_by, part_numbers, Within, PlaceWithin}
use Rattle.declared_parts.specs.declared.DeclarationPlaces.{DeclarationPlaces}
use Rattle.declared_parts.proofs.BetweenLaws.{piece_le}
use Rattle.declared_records.specs.Held.{record_in, records_from, held_numbers}
use Rattle.declarations.specs.SectionRecords.{value_from, packed_places, other_numbers, record_numbers, final_numbers}
use Rattle.declared_records.proofs.HeldLaws.{sets_behind, record_same}

pub name_le : (xs rs : List ℕ) (k : ℕ) → length (record_in xs rs k).name ≤ length xs
unfolding declared_by
name_le xs rs k = piece_le xs (get_or (drop (10 * k) rs) 1 0) (get_or (drop (10 * k) rs) 2 0)

-- the three texts one after the other
pub texts_wrote : {a b c e : Writer} (d : Declared) → Wrote a d.name b → Wrote b d.type c → Wrote c (text_or d.default) e → Wrote a (packed_record d) e
unfolding packed_record
texts_wrote d p q r = wrote_then d.name (d.type ++ text_or d.default) p (wrote_then d.type (text_or d.default) q r)

-- and where they stand
pub places_packed : {a b c : Writer} (d : Declared) (p : DeclarationPlaces) → Wrote a d.name b → Wrote b d.type c
    → p ≡ record {
      name = record { at = a.len; len = b.len - a.len };
      kind = record { at = b.len; len = c.len - b.len };
      value = value_from c.len d.default;
      constant = d.constant;
      not_null = d.not_null;
    }
    → p ≡ packed_places a.len d
unfolding packed_places
places_packed {a} {b} {c} d p q r e =
    let n : b.len - a.len ≡ length d.name = omega (arith, q.count) in
    let m : c.len - b.len ≡ length d.type = omega (arith, r.count) in
    let i : b.len ≡ a.len + length d.name = q.count in
    let j : c.len ≡ a.len + length d.name + length d.type = omega (arith, q.count, r.count) in
    e ∙ rw (n, m, j, i) refl

-- they are within a text that they fit
pub places_within : (at n : ℕ) (d : Declared) → at + length (packed_record d) ≤ n → Within n (packed_places at d)
unfolding packed_places packed_record
places_within at n d h =
    let l = length-append d.name (d.type ++ text_or d.default) in
    let m = length-append d.type (text_or d.default) in
    record {
      name = omega (arith, l);
      name_len = omega (arith, l);
      kind = omega (arith, l, m);
      kind_len = omega (arith, l, m);
      value = value d.default (omega (arith, l, m));
    }
  where
    value : (o : Option (List ℕ)) → at + length d.name + length d.type + length (text_or o) ≤ n → PlaceWithin n (value_from (at + length d.name + length d.type) o)
    value None k = (zero-le, zero-le)
    value (Some xs) k = (omega arith, omega arith)

-- the numbers that are stored
pub packed_numbers : (xs rs : List ℕ) (at k front : ℕ) → front ≡ get_or (drop (10 * k) rs) 0 0
    → held_numbers front (packed_places at (record_in xs rs k)) ≡ record_numbers xs rs at k
unfolding part_numbers packed_places record_numbers other_numbers default_numbers
packed_numbers xs rs at k front h = go (record_in xs rs k) (record_in xs rs k).default refl
  where
    go : (d : Declared) (o : Option (List ℕ)) → d.default ≡ o → held_numbers front (packed_places at d) ≡ get_or rs (10 * k) 0 ∷ other_numbers at d
    go d None e = rw (e, h, drop_front rs (10 * k) 0) refl
    go d (Some xs) e = rw (e, h, drop_front rs (10 * k) 0) refl

-- ---- all records

numbers_length : (xs rs : List ℕ) (at k : ℕ) → length (record_numbers xs rs at k) ≡ 10
unfolding record_numbers other_numbers
numbers_length xs rs at k =
    let d = record_in xs rs k in
    let n = at + length d.name + length d.type in
    omega (arith, length-append (default_numbers d.default n) (mark_numbers d), default_three d.default n)

module _ (xs rs : List ℕ) (count : ℕ) (start : Writer) where
  -- the records from record k on
  abbrev left : ℕ → List Declared
  left k = records_from xs rs k (count + 1 - k)

  -- records below k are written, those from k on are as they were
  pub record Written (k : ℕ) (w : Writer) (rs' : List ℕ) : Type 0 where
    pub untouched : (j : ℕ) → 10 * k ≤ j → get_or rs' j 0 ≡ get_or rs j 0
    pub texts : Left start (packed (records_from xs rs 1 count)) w (packed (left k))
    pub numbers : sets rs 10 (final_numbers xs rs start.len 1 count) ≡ sets rs' (10 * k) (final_numbers xs rs w.len k (count + 1 - k))

  pub written_none : Written 1 start rs
  written_none =
      let z : count + 1 - 1 ≡ count = omega arith in
      let e : 10 * 1 ≡ 10 = omega arith in
      record { untouched = λ j h. refl; texts = rw z (left_start start _); numbers = rw (z, e) refl }

  module _ (k : ℕ) (w : Writer) (rs' : List ℕ) (h : k ≤ count) (g : Written k w rs') where
    -- the record that is written is the one that was read
    same : record_in xs rs' k ≡ record_in xs rs k
    same = record_same xs rs' rs k (λ i a b. g.untouched (10 * k + i) (omega arith))

    numbers_same : record_numbers xs rs' w.len k ≡ record_numbers xs rs w.len k
    unfolding record_numbers
    numbers_same = rw (same, g.untouched (10 * k) (omega arith)) refl

    one : left k ≡ record_in xs rs k ∷ left (k + 1)
    unfolding records_from
    one =
        let z : count + 1 - k ≡ suc (count + 1 - (k + 1)) = omega arith in
        let m : suc k ≡ k + 1 = omega arith in
        rw (z, m) refl

    packed_one : packed (left k) ≡ packed_record (record_in xs rs k) ++ packed (left (k + 1))
    unfolding packed
    packed_one = rw one refl

    final_one : final_numbers xs rs w.len k (count + 1 - k)
        ≡ record_numbers xs rs w.len k
        ++ final_numbers xs rs (w.len + length (packed_record (record_in xs rs k))) (k + 1) (count + 1 - (k + 1))
    unfolding final_numbers
    final_one =
        let z : count + 1 - k ≡ suc (count + 1 - (k + 1)) = omega arith in
        let m : suc k ≡ k + 1 = omega arith in
        rw (z, m) refl

    pub record_fits : w.len + length (packed_record (record_in xs rs' k)) ≤ start.len + length (packed (records_from xs rs 1 count))
    record_fits =
        rw same (omega (arith, g.texts.counts, ap length packed_one, length-append (packed_record (record_in xs rs k)) (packed (left (k + 1)))))

    pub written_one : (w' : Writer) (rs'' : List ℕ) → Wrote w (packed_record (record_in xs rs' k)) w'
        → rs'' ≡ sets rs' (10 * k) (record_numbers xs rs' w.len k)
        → Written (k + 1) w' rs''
    written_one w' rs'' q r =
        let d = record_in xs rs k in
        let p : Wrote w (packed_record d) w' = rw same at q in
        let vs : List ℕ = record_numbers xs rs w.len k in
        let r₁ : rs'' ≡ sets rs' (10 * k) vs = r ∙ ap (sets rs' (10 * k)) numbers_same in
        let l : length vs ≡ 10 = numbers_length xs rs w.len k in
        let e : 10 * k + length vs ≡ 10 * (k + 1) = omega arith in
        record {
          untouched = λ j a. rw r₁ (sets_behind vs rs' (10 * k) j (omega arith)) ∙ g.untouched j (omega arith);
          texts = left_more _ _ _ _ g.texts packed_one p;
          numbers =
              g.numbers
              ∙ (ap (sets rs' (10 * k)) final_one
              ∙ (sets_append vs (final_numbers xs rs (w.len + length (packed_record d)) (k + 1) (count + 1 - (k + 1))) rs' (10 * k) ∙ rw (r₁, p.count, e) refl));
        }

  -- nothing is left
  pub written_all : (k : ℕ) (w : Writer) (rs' : List ℕ) → count < k → Written k w rs'
      → Wrote start (packed (records_from xs rs 1 count)) w × (rs' ≡ sets rs 10 (final_numbers xs rs start.len 1 count))
  unfolding records_from packed final_numbers
  written_all k w rs' h g =
      let z : count + 1 - k ≡ 0 = omega arith in
      (left_done _ _ g.texts (rw z refl), sym (rw z at g.numbers))

  -- the last record is written
  pub written_end : (k : ℕ) (w w' : Writer) (rs' rs'' : List ℕ) → Written k w rs' → k ≡ count → Wrote w (packed_record (record_in xs rs' k)) w'
      → rs'' ≡ sets rs' (10 * k) (record_numbers xs rs' w.len k)
      → Wrote start (packed (records_from xs rs 1 count)) w' × (rs'' ≡ sets rs 10 (final_numbers xs rs start.len 1 count))
  written_end k w w' rs' rs'' g e p q =
      written_all (k + 1) w' rs'' (omega arith) (written_one k w rs' (omega arith) g w' rs'' p q)
