-- The loop that puts the records into the chain: what holds from turn to turn, and at the end. Assumes nothing.
use mathlib.Core.Path.{◌≡◌, ap, fun_ext, subst, ◌∙◌}
use mathlib.Core.List.{List}
use Prim.Native.Nat.{ℕ, suc, ◌+◌, ◌-◌, ◌*◌, ◌≤◌}
use native.Mathlib.Omega.{arith}
use lib.ListN.{length, get_or, drop, set}
use lib.Seq.{get_or-drop, get_or-set_other}
use Rattle.spec.specs.Declarations.{Declared}
use Rattle.declared_records.specs.Held.{record_in}
use Rattle.declared_records.proofs.HeldLaws.{record_same}
use Rattle.declarations.specs.Chain.{name_in, Different, Chained, LastAhead, Inserted}
use Rattle.declarations.specs.SectionRecords.{Linked}
use Rattle.declarations.proofs.InsertLaws.{insert_one}
use Rattle.declarations.proofs.NextLaws.{next_is}

module _ (xs rs : List ℕ) where
  -- a number that is stored as a record's next leaves the contents
  store_same : (k v j : ℕ) → record_in xs (set rs (10 * k) v) j ≡ record_in xs rs j
  store_same k v j =
      record_same xs (set rs (10 * k) v) rs j (λ i a c. get_or-set_other rs (10 * k) (10 * j + i) v 0 (λ r. absurd (omega arith)))

  -- the names are the same where the contents are
  names_same : (rs' : List ℕ) → ((j : ℕ) → record_in xs rs' j ≡ record_in xs rs j) → name_in xs rs' ≡ name_in xs rs
  names_same rs' h = fun_ext (λ j. ap (λ (d : Declared). d.name) (h j))

module _ (xs rs : List ℕ) (count : ℕ) where
  -- the records numbered above k are in the chain, and all records have their contents
  pub record LinkedAbove (k : ℕ) (rs' : List ℕ) : Type 0 where
    pub chained : Chained (name_in xs rs) rs' count k
    pub same : (j : ℕ) → record_in xs rs' j ≡ record_in xs rs j

  -- all are in the chain
  pub linked_all : (rs' : List ℕ) → Different (name_in xs rs) count → LinkedAbove 0 rs' → Linked xs rs count rs'
  linked_all rs' u l =
      record {
        next = λ j a. next_is xs rs count u j (get_or rs' (10 * j) 0) (l.chained j record { within = a; later = λ z. omega (arith, z) });
        same = l.same;
      }

-- the head's next may be stored first
pub linked_head : (xs rs : List ℕ) (count k v : ℕ) (rs' : List ℕ) → LinkedAbove xs (set rs 0 v) count k rs' → LinkedAbove xs rs count k rs'
linked_head xs rs count k v rs' l =
    record {
      chained = subst (λ n. Chained n rs' count k) (names_same xs rs (set rs 0 v) (store_same xs rs 0 v)) l.chained;
      same = λ j. l.same j ∙ store_same xs rs 0 v j;
    }

-- record k is put in by two stores
pub inserted : (xs rs : List ℕ) (count k p q : ℕ) (rs₁ rs₂ : List ℕ) → Different (name_in xs rs) count → 1 ≤ k → k ≤ count → count ≤ 512 → 5130 ≤ length rs
    → Chained (name_in xs rs) rs count k → LastAhead (name_in xs rs) rs count k p → q ≡ get_or (drop (10 * p) rs) 0 0
    → rs₁ ≡ set rs (10 * k) q → rs₂ ≡ set rs₁ (10 * p) k → Inserted xs rs count k rs₂
inserted xs rs count k p q rs₁ rs₂ u a b low long c t e s₁ s₂ =
    let z : suc (k - 1) ≡ k = omega arith in
    let y : 10 * p + 0 ≡ 10 * p = omega arith in
    let r : q ≡ get_or rs (10 * p) 0 = e ∙ (rw y at (get_or-drop (10 * p) rs 0 0)) in
    rw (s₂, s₁)
    (record {
      chained = rw r (rw z at (insert_one (name_in xs rs) rs count (k - 1) p u (rw z b) (omega arith) (rw z c) (rw z t)));
      same = λ j. store_same xs (set rs (10 * k) q) p k j ∙ store_same xs rs k q j;
    })
