-- The nexts of records whose names are different are those of the definition. Assumes nothing.
use Rattle.std.specs.Prelude.{Ok}
use mathlib.Core.Path.{◌≡◌, refl, sym, ◌∙◌}
use mathlib.Core.Bool.{Bool, true, false, false≢true}
use mathlib.Core.List.{List, []}
use Prim.Native.Nat.{ℕ, zero, suc, ◌+◌, ◌-◌, ◌≤◌, ◌<◌}
use native.Mathlib.Nat.{le_of_suc-le-suc}
use native.Mathlib.Omega.{arith}
use borrow.Author.Tests.{eqb-true, eqb-false}
use lib.Dec.{eqb}
use lib.ListN.{get_or}
use Rattle.spec.proofs.Choice.{by}
use Rattle.spec.proofs.ChainLaws.{First, no_record, the_record, first_in_order_lem, distinct_place}
use Rattle.spec.proofs.NameOrder.{by_order}
use Rattle.spec.proofs.RecordLaws.{distinct, names, all_distinct}
use Rattle.spec.specs.Bytes.{is_before}
use Rattle.spec.specs.Map.{Marked}
use Rattle.spec.specs.Search.{byte_here, pieces}
use Rattle.spec.specs.Declarations.{Declared, Place, first_in_order, head_next, next_of}
use Rattle.declared_records.specs.Held.{records_from, Gathered}
use Rattle.declarations.specs.Chain.{name_in, Different, comes_behind, NextIs}
use Rattle.declarations.specs.SectionRecords.{next_number}
use Rattle.declared_records.proofs.HeldLaws.{from_length}
use Rattle.declarations.proofs.InsertLaws.{behind_head, behind_other}

-- the names of c records from record s on
name_at : (xs rs : List ℕ) (s c i : ℕ) → i < c → get_or (names (records_from xs rs s c)) i [] ≡ name_in xs rs (s + i)
unfolding names records_from
name_at xs rs s zero i h = absurd (omega arith)
name_at xs rs s (suc c) zero h =
    let z : s + 0 ≡ s = omega arith in
    rw z refl
name_at xs rs s (suc c) (suc i) h =
    let z : s + suc i ≡ suc s + i = omega arith in
    rw z (name_at xs rs (suc s) c i (le_of_suc-le-suc h))

module _ (xs rs : List ℕ) (count : ℕ) where
  abbrev ds : List Declared
  ds = records_from xs rs 1 count

  -- by number
  named : (m : ℕ) → 1 ≤ m → m ≤ count → get_or (names ds) (m - 1) [] ≡ name_in xs rs m
  named m a b =
      let z : 1 + (m - 1) ≡ m = omega arith in
      rw z at (name_at xs rs 1 count (m - 1) (omega arith))

  -- records of a section have different names
  pub gathered_different : (t : List Marked) → Gathered xs t rs (Ok count) → Different (name_in xs rs) count
  unfolding distinct
  gathered_different t g i j a b c d e =
      let u : distinct ds ≡ true = rw g.records (all_distinct (pieces (byte_here 59) t) [] refl) in
      let l = from_length xs rs 1 count in
      let p : i - 1 ≡ j - 1 =
      distinct_place ds (i - 1) (j - 1) u (omega arith) (omega arith) (rw (named i a b, named j c d) e) in
      omega arith

  -- the next of record j is the first of the names that come behind it
  next_first : Different (name_in xs rs) count → (j m : ℕ) (f : List ℕ → Bool) → ((i : ℕ) → comes_behind (name_in xs rs) j i ≡ f (name_in xs rs i))
      → NextIs (name_in xs rs) count 0 j m → m ≡ (first_in_order f 1 ds).number
  next_first u j m f e x = go (first_in_order f 1 ds) (first_in_order_lem f 1 ds)
    where
      go : (p : Place) → First f 1 ds p → m ≡ p.number
      go p (no_record z h) =
          by (eqb m 0)
          (λ w. eqb-true m 0 w ∙ sym z)
          (λ w. let b = x.held (eqb-false m 0 w) in
          let l = from_length xs rs 1 count in
          absurd (false≢true (sym (h (m - 1) (omega (arith, b.0, b.1))) ∙ (rw (named m b.0 b.1) (sym (e m) ∙ b.2)))))
      go p (the_record i b z r t h) =
          let l = from_length xs rs 1 count in
          let i' : i < count = omega arith in
          let r' : p.name ≡ name_in xs rs (1 + i) = r ∙ name_at xs rs 1 count i i' in
          let t' : f (name_in xs rs (1 + i)) ≡ true = rw r' at t in
          let s = x.least (1 + i) (omega arith) (omega arith) (e (1 + i) ∙ t') in
          let w = x.held s.0 in
          let k : is_before (name_in xs rs m) p.name ≡ false =
          rw (named m w.0 w.1) at (h (m - 1) (omega (arith, w.0, w.1)) (rw (named m w.0 w.1) (sym (e m) ∙ w.2))) in
          by_order (name_in xs rs m) (name_in xs rs (1 + i))
          (λ q. absurd (false≢true (sym (rw r' at k) ∙ q)))
          (λ q. u m (1 + i) w.0 w.1 (omega arith) (omega arith) q ∙ sym z)
          (λ q. absurd (false≢true (sym s.1 ∙ q)))

  -- and so its next number
  pub next_is : Different (name_in xs rs) count → (j m : ℕ) → NextIs (name_in xs rs) count 0 j m → m ≡ next_number xs rs count j
  unfolding next_number head_next next_of
  next_is u j m x =
      by (eqb j 0)
      (λ e. rw e (next_first u j m (λ (n : List ℕ). true) (λ i. behind_head (name_in xs rs) j i (eqb-true j 0 e)) x))
      (λ e. rw e (next_first u j m (is_before (name_in xs rs j)) (λ i. behind_other (name_in xs rs) j i (eqb-false j 0 e)) x))
