-- The chain of the records while it grows: record 0 is its head, and records are put in from the last to the first. Assumes
-- nothing.
use Rattle.std.specs.Prelude.{◌≡◌, ℕ, ◌-◌, ◌*◌, ◌≤◌, ◌<◌, Bool, true, false, ◌||◌, List, eqb, get_or}
use Rattle.spec.specs.Bytes.{is_same, is_before}
use Rattle.declared_records.specs.Held.{record_in}

-- the name of record k
abbrev pub name_in : List ℕ → List ℕ → ℕ → List ℕ
name_in xs rs k = (record_in xs rs k).name

-- in what follows n gives the name of each record

-- no two of the records 1 to `count` have the same name
abbrev pub Different : (ℕ → List ℕ) → ℕ → Type 0
Different n count = (i j : ℕ) → 1 ≤ i → i ≤ count → 1 ≤ j → j ≤ count → is_same (n i) (n j) ≡ true → i ≡ j

-- by name record i comes behind record j; every record comes behind the head
abbrev pub comes_behind : (ℕ → List ℕ) → ℕ → ℕ → Bool
comes_behind n j i = eqb j 0 || is_before (n j) (n i)

-- record j is the head or one of those numbered above k
pub record InChain (count k j : ℕ) : Type 0 where
  pub within : j ≤ count
  pub later : (j ≡ 0 → ⊥) → k < j

-- of the records numbered above k, m is the first by name of those that come behind record j; 0 if there is none
pub record NextIs (n : ℕ → List ℕ) (count k j m : ℕ) : Type 0 where
  pub held : (m ≡ 0 → ⊥) → (k < m) × (m ≤ count) × (comes_behind n j m ≡ true)
  pub least : (i : ℕ) → k < i → i ≤ count → comes_behind n j i ≡ true → (m ≡ 0 → ⊥) × (is_before (n i) (n m) ≡ false)

-- the records numbered above k are in the chain
abbrev pub Chained : (ℕ → List ℕ) → List ℕ → ℕ → ℕ → Type 0
Chained n rs count k = (j : ℕ) → InChain count k j → NextIs n count k j (get_or rs (10 * j) 0)

-- record p is the last in the chain that record k comes behind
pub record LastAhead (n : ℕ → List ℕ) (rs : List ℕ) (count k p : ℕ) : Type 0 where
  pub held : InChain count k p
  pub ahead : comes_behind n p k ≡ true
  pub last : (get_or rs (10 * p) 0 ≡ 0 → ⊥) → is_before (n (get_or rs (10 * p) 0)) (n k) ≡ false

-- record k is put in; the records' contents are the same
pub record Inserted (xs rs : List ℕ) (count k : ℕ) (rs' : List ℕ) : Type 0 where
  pub chained : Chained (name_in xs rs) rs' count (k - 1)
  pub same : (j : ℕ) → record_in xs rs' j ≡ record_in xs rs j
