-- What stands in the lent buffers at the end: the packed texts and all numbers. Assumes nothing.
use Rattle.std.specs.Prelude.{Option, Some, None}
use mathlib.Core.Path.{◌≡◌, refl, sym, ap, ◌∙◌}
use mathlib.Core.List.{List, [], ◌∷◌, ◌++◌}
use Prim.Native.Nat.{ℕ, zero, suc, ◌+◌, ◌*◌, ◌≤◌, ◌<◌, zero-le}
use native.Mathlib.Omega.{arith}
use borrow.Author.Tests.{ne_eqb, lt-ltb, le-ltb}
use lib.ListN.{length, get_or, take, drop, set, replicate, length-append, drop_of_length-le}
use lib.Seq.{sets, drop_at, length-sets, set-get_or}
use Rattle.std.proofs.lemmas.List.{take-append-le, set-append_left, length-set}
use Rattle.output.proofs.StoreLaws.{sets_append}
use Rattle.spec.proofs.Choice.{by}
use Rattle.spec.proofs.LengthLaws.{pieces_length}
use Rattle.spec.specs.Lists.{total}
use Rattle.spec.proofs.RecordLaws.{numbers_length}
use Rattle.spec.proofs.MapLaws.{text_length}
use Rattle.spec.specs.Bytes.{ascii, is_same}
use Rattle.spec.specs.Map.{Marked, marked_text}
use Rattle.spec.specs.Search.{first, keyword_here, byte_here, pieces}
use Rattle.spec.specs.Declarations.{Declared, records_of, record_width, declaration, declare, declare_maybe, declare_all, packed_record, packed, head_next, next_of, record_at, records_at, numbers_of}
use Rattle.declared_parts.proofs.BetweenLaws.{piece_le}
use Rattle.declarations.proofs.SectionLaws.{section_place, records_in_lem, section_in}
use Rattle.declared_parts.proofs.SizeLaws.{packed_part}
use Rattle.declared_records.specs.Held.{record_in, records_from, Gathered}
use Rattle.declarations.specs.SectionRecords.{records_of_section, records_in, next_number, Linked, other_numbers, record_numbers, final_numbers, Holds, parsed_of}
use Rattle.spec.specs.declared.Refusal.{Refusal}
use Rattle.std.specs.Prelude.{Ok, Err}
use Rattle.output.proofs.StoreLaws.{front_stored}
use Rattle.declared_records.proofs.HeldLaws.{sets_behind, record_other, from_same, from_length}

-- ---- the texts are at most twice as long as the section

declare_packed : (d : Declared) (ds : List Declared) → length (packed (declare d ds)) ≤ length (packed ds) + length (packed_record d)
unfolding declare packed
declare_packed d [] = omega (arith, length-append (packed_record d) [])
declare_packed d (e ∷ es) =
    let a = length-append (packed_record e) (packed es) in
    by (is_same d.name e.name)
    (λ h. rw h (omega (arith, a, length-append (packed_record d) (packed es))))
    (λ h. rw h (omega (arith, a, length-append (packed_record e) (packed (declare d es)), declare_packed d es)))

maybe_packed : (o : Option Declared) (ds : List Declared) (n : ℕ) → ((d : Declared) → o ≡ Some d → length (packed_record d) ≤ n)
    → length (packed (declare_maybe o ds)) ≤ length (packed ds) + n
unfolding declare_maybe
maybe_packed None ds n h = omega arith
maybe_packed (Some d) ds n h = omega (arith, declare_packed d ds, h d refl)

all_packed : (ps : List (List Marked)) (ds : List Declared)
    → length (packed (declare_all ps ds)) ≤ length (packed ds) + 2 * total (λ (q : List Marked). length q) ps
unfolding declare_all total
all_packed [] ds = omega arith
all_packed (p ∷ ps) ds =
    omega (
      arith,
      all_packed ps (declare_maybe (declaration p) ds),
      maybe_packed (declaration p) ds (2 * length p) (λ d e. packed_part p d e),
    )

pub packed_small : (t : List Marked) → length (packed (records_of_section t)) ≤ 2 * length t
unfolding records_of_section packed
packed_small t = omega (arith, all_packed (pieces (byte_here 59) t) [], pieces_length (byte_here 59) t)

-- and as the whole text
pub packed_fits : (xs : List ℕ) → length (packed (records_of xs)) ≤ 2 * length xs
unfolding records_in
packed_fits xs =
    let t = marked_text xs in
    let f = first (keyword_here (ascii "DECLARE")) 0 t in
    let g = first (keyword_here (ascii "BEGIN")) 0 t in
    let s = section_place f g in
    let u = take s.len (drop s.at t) in
    let e : length (packed (records_of_section u)) ≡ length (packed (records_of xs)) =
    ap (λ (ds : List Declared). length (packed ds)) (ap records_of_section (section_in t f g refl refl).found ∙ records_in_lem xs) in
    omega (arith, packed_small u, piece_le t s.at s.len, text_length xs, e)

-- nothing stands behind as many numbers as the records take
none_behind : (rs rs' : List ℕ) → length rs ≡ 5130 → length rs' ≡ 5130 → drop 5130 rs' ≡ drop 5130 rs
none_behind rs rs' l m =
    let a : length rs ≤ 5130 = omega arith in
    let b : length rs' ≤ 5130 = omega arith in
    drop_of_length-le rs' b ∙ sym (drop_of_length-le rs a)

-- ---- all numbers

-- the head keeps its next where its other numbers become 0
pub head_cleared : (rs rs' : List ℕ) → rs' ≡ sets rs 1 (replicate 9 0) → rs' ≡ sets rs (10 * 0) (get_or rs 0 0 ∷ 0 ∷ 0 ∷ 0 ∷ 0 ∷ 0 ∷ 0 ∷ 0 ∷ 0 ∷ 0 ∷ [])
head_cleared rs rs' e = e ∙ ap (λ (l : List ℕ). sets l 1 (replicate 9 0)) (sym (set-get_or rs 0 0))

-- the records' numbers where each has its next
final_records : (xs rs : List ℕ) (ds : List Declared) (at k n : ℕ)
    → ((j : ℕ) → k ≤ j → j < k + n → get_or rs (10 * j) 0 ≡ next_of ds (record_in xs rs j).name)
    → final_numbers xs rs at k n ≡ records_at ds at (records_from xs rs k n)
unfolding final_numbers record_numbers records_at records_from record_at other_numbers
final_records xs rs ds at k zero h = refl
final_records xs rs ds at k (suc n) h =
    rw (
      h k (omega arith) (omega arith),
      final_records xs rs ds (at + length (packed_record (record_in xs rs k))) (suc k) n (λ j a b. h j (omega arith) (omega arith)),
    ) refl

module _ (xs : List ℕ) (t : List Marked) (count : ℕ) (rs₁ rs₂ : List ℕ) (g : Gathered xs t rs₁ (Ok count)) (l : Linked xs rs₁ count rs₂) where
  abbrev ds : List Declared
  ds = records_of_section t

  gathered : records_from xs rs₁ 1 count ≡ ds
  unfolding records_of_section
  gathered = g.records

  pub count_length : length ds ≡ count
  count_length = ap length (sym gathered) ∙ from_length xs rs₁ 1 count

  next_first : next_number xs rs₁ count 0 ≡ head_next ds
  unfolding next_number
  next_first = rw gathered refl

  next_named : (j : ℕ) (d : Declared) → (j ≡ 0 → ⊥) → d ≡ record_in xs rs₁ j → next_number xs rs₁ count j ≡ next_of ds d.name
  unfolding next_number
  next_named j d z e = rw (ne_eqb j 0 z, gathered, e) refl

  -- the head's ten numbers
  abbrev pub head_numbers : List ℕ
  head_numbers = get_or rs₂ 0 0 ∷ 0 ∷ 0 ∷ 0 ∷ 0 ∷ 0 ∷ 0 ∷ 0 ∷ 0 ∷ 0 ∷ []

  module _ (rs₃ : List ℕ) (e : rs₃ ≡ sets rs₂ (10 * 0) head_numbers) where
    kept : (j : ℕ) → 1 ≤ j → record_in xs rs₃ j ≡ record_in xs rs₁ j
    kept j h = rw e (record_other xs rs₂ head_numbers 0 j refl (λ z. absurd (omega arith))) ∙ l.same j

    pub kept_all : records_from xs rs₃ 1 count ≡ ds
    kept_all = from_same xs rs₃ rs₁ 1 count kept ∙ gathered

    nexts : (j : ℕ) → 1 ≤ j → j < 1 + count → get_or rs₃ (10 * j) 0 ≡ next_of ds (record_in xs rs₃ j).name
    nexts j a b =
        rw e (sets_behind head_numbers rs₂ (10 * 0) (10 * j) (omega arith)) ∙ (l.next j (omega arith) ∙ next_named j (record_in xs rs₃ j) (λ z. absurd (omega arith)) (kept j a))

    head : get_or rs₂ 0 0 ≡ head_next ds
    head =
        let z : 10 * 0 ≡ 0 = omega arith in
        (rw z at (l.next 0 zero-le)) ∙ next_first

    all_numbers : head_numbers ++ records_at ds 0 ds ≡ numbers_of ds
    unfolding numbers_of record_width
    all_numbers = rw head refl

    stored : (rs₄ : List ℕ) → rs₄ ≡ sets rs₃ 10 (final_numbers xs rs₃ 0 1 count) → rs₄ ≡ sets rs₂ 0 (numbers_of ds)
    stored rs₄ q =
        let z : 10 * 0 ≡ 0 = omega arith in
        let m : 0 + length head_numbers ≡ 10 = omega arith in
        let f : final_numbers xs rs₃ 0 1 count ≡ records_at ds 0 ds =
        final_records xs rs₃ ds 0 1 count nexts ∙ ap (records_at ds 0) kept_all in
        let r : rs₃ ≡ sets rs₂ 0 head_numbers = rw z at e in
        q
        ∙ (rw (f, r) refl
        ∙ (ap (λ i. sets (sets rs₂ 0 head_numbers) i (records_at ds 0 ds)) (sym m)
        ∙ (sym (sets_append head_numbers (records_at ds 0 ds) rs₂ 0) ∙ ap (sets rs₂ 0) all_numbers)))

    -- both buffers
    pub packed_all : (rs₀ out out' rs₄ : List ℕ) → length rs₀ ≡ 5130 → length rs₂ ≡ 5130 → length rs₄ ≡ 5130 → length t ≤ 16384 → 65536 ≤ length out
        → out' ≡ sets out 0 (packed (records_from xs rs₃ 1 count)) → rs₄ ≡ sets rs₃ 10 (final_numbers xs rs₃ 0 1 count)
        → Holds ds out out' rs₀ rs₄
    unfolding record_width
    packed_all rs₀ out out' rs₄ z c m a f p q =
        let n = numbers_length ds in
        let p₁ : out' ≡ sets out 0 (packed ds) = p ∙ rw kept_all refl in
        record {
          accepted = λ _. record {
            texts = p₁;
            front = rw p₁ (front_stored out _ (packed ds) _ refl (omega (arith, packed_small t)) refl);
            numbers = rw (stored rs₄ q) (front_stored rs₂ _ (numbers_of ds) _ refl (omega (arith, n, count_length, g.within)) refl);
          };
          refused = λ h. absurd (omega (arith, count_length, g.within));
          behind = none_behind rs₀ rs₄ z m;
        }

-- the answers
pub parsed_over : (xs : List ℕ) (t : List Marked) (rs : List ℕ) (e : Refusal) → Gathered xs t rs (Err e) → Err e ≡ parsed_of (records_of_section t)
unfolding parsed_of records_of_section
parsed_over xs t rs e g = rw (lt-ltb 512 (length (declare_all (pieces (byte_here 59) t) [])) g.1, g.0) refl

pub parsed_count : (es : List Declared) (n m : ℕ) → length es ≡ n → m ≡ length (packed es) → n ≤ 512 → Ok (record { records = n; bytes = m }) ≡ parsed_of es
unfolding parsed_of
parsed_count es n m e f h = rw (e, f, le-ltb 512 n h) refl

pub over_holds : (xs : List ℕ) (t : List Marked) (rs rs₀ out : List ℕ) (e : Refusal) → Gathered xs t rs (Err e) → length rs₀ ≡ 5130 → length rs ≡ 5130
    → Holds (records_of_section t) out out rs₀ rs
unfolding records_of_section
over_holds xs t rs rs₀ out e g z m =
    record { accepted = λ l. absurd (omega (arith, g.1)); refused = λ _. refl; behind = none_behind rs₀ rs z m }

-- stores within the front of a text leave what is behind it
sets_front : (vs d e : List ℕ) (i : ℕ) → i + length vs ≤ length d → sets (d ++ e) i vs ≡ sets d i vs ++ e
sets_front [] d e i h = refl
sets_front (v ∷ vs) d e i h =
    rw (set-append_left d e i v (omega arith)) (sets_front vs (set d i v) e (suc i) (omega (arith, length-set d i v)))

-- what stands in front of longer buffers
pub holds_in : (es : List Declared) (out front front' ws ws' rs : List ℕ) (n : ℕ) → front ++ drop n out ≡ out → length (packed es) ≤ length front → length ws' ≡ 5130
    → Holds es front front' ws ws' → Holds es out (front' ++ drop n out) rs (ws' ++ drop 5130 rs)
unfolding record_width
holds_in es out front front' ws ws' rs n whole fits l h =
    record {
      accepted =
          λ a.
          let p = h.accepted a in
          record {
            texts =
                ap (λ (d : List ℕ). d ++ drop n out) p.texts
                ∙ (sym (sets_front (packed es) front (drop n out) 0 (omega (arith, fits))) ∙ ap (λ (d : List ℕ). sets d 0 (packed es)) whole);
            front = take-append-le (length (packed es)) front' (drop n out) (omega (arith, fits, ap length p.texts, length-sets front 0 (packed es))) ∙ p.front;
            numbers = take-append-le (length (numbers_of es)) ws' (drop 5130 rs) (omega (arith, numbers_length es)) ∙ p.numbers;
          };
      refused = λ a. ap (λ (d : List ℕ). d ++ drop n out) (h.refused a) ∙ whole;
      behind = drop_at ws' (drop 5130 rs) 5130 l;
    }
