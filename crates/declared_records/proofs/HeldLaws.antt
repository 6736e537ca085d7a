-- The records that a list of numbers holds: what a store leaves of them, and of their names' hashes. Assumes nothing.
use mathlib.Core.Path.{◌≡◌, refl, sym, ap, ◌∙◌}
use mathlib.Core.List.{List, [], ◌∷◌, ◌++◌, append_assoc}
use Prim.Native.Nat.{ℕ, zero, suc, ◌+◌, ◌*◌, ◌%◌, ◌≤◌, ◌<◌}
use native.Mathlib.Nat.{le_of_suc-le-suc}
use native.Mathlib.Nat.{mod-add-mod}
use native.Mathlib.Omega.{arith}
use borrow.Author.Tests.{ltb-true, ltb-false}
use lib.Dec.{ltb}
use lib.ListN.{length, get_or, take, drop, set, get_or-append}
use lib.Seq.{sets, sets-eq, get_or-set_other, get_or-drop, length-take-le, drop_at, drop-set-lt}
use Rattle.spec.proofs.Choice.{by}
use Rattle.declared_parts.specs.DeclaredParts.{default_by, declared_by, part_numbers}
use Rattle.declared_parts.specs.declared.DeclarationPlaces.{DeclarationPlaces}
use Rattle.spec.specs.Declarations.{Declared}
use Rattle.declared_records.specs.Held.{record_in, records_from, hash_from, name_hash, held_numbers, HashIn}

-- a store elsewhere
pub sets_ahead : (vs l : List ℕ) (i j : ℕ) → j < i → get_or (sets l i vs) j 0 ≡ get_or l j 0
sets_ahead [] l i j h = refl
sets_ahead (v ∷ vs) l i j h =
    sets_ahead vs (set l i v) (suc i) j (omega arith) ∙ get_or-set_other l i j v 0 (λ e. absurd (omega arith))

pub sets_behind : (vs l : List ℕ) (i j : ℕ) → i + length vs ≤ j → get_or (sets l i vs) j 0 ≡ get_or l j 0
sets_behind [] l i j h = refl
sets_behind (v ∷ vs) l i j h =
    sets_behind vs (set l i v) (suc i) j (omega arith) ∙ get_or-set_other l i j v 0 (λ e. absurd (omega arith))

pub sets_drop : (vs l : List ℕ) (i n : ℕ) → i + length vs ≤ n → drop n (sets l i vs) ≡ drop n l
sets_drop [] l i n h = refl
sets_drop (v ∷ vs) l i n h = sets_drop vs (set l i v) (suc i) n (omega arith) ∙ drop-set-lt n l i v (omega arith)

-- what is stored stands there
pub sets_there : (vs l : List ℕ) (i : ℕ) → i + length vs ≤ length l → drop i (sets l i vs) ≡ vs ++ drop (i + length vs) l
sets_there vs l i h =
    ap (drop i) (sets-eq vs l i h ∙ append_assoc (take i l) vs (drop (i + length vs) l))
    ∙ drop_at (take i l) (vs ++ drop (i + length vs) l) i (length-take-le i l (omega arith))

-- numbers that agree in all places but the first declare the same
pub declared_same : (xs ns ms : List ℕ) → ((i : ℕ) → 0 < i → i < 10 → get_or ns i 0 ≡ get_or ms i 0) → declared_by xs ns ≡ declared_by xs ms
unfolding declared_by default_by
declared_same xs ns ms h =
    rw (
      h 1 (omega arith) (omega arith),
      h 2 (omega arith) (omega arith),
      h 3 (omega arith) (omega arith),
      h 4 (omega arith) (omega arith),
      h 5 (omega arith) (omega arith),
      h 6 (omega arith) (omega arith),
      h 7 (omega arith) (omega arith),
      h 8 (omega arith) (omega arith),
      h 9 (omega arith) (omega arith),
    ) refl

pub record_same : (xs rs rs' : List ℕ) (k : ℕ) → ((i : ℕ) → 0 < i → i < 10 → get_or rs (10 * k + i) 0 ≡ get_or rs' (10 * k + i) 0) → record_in xs rs k ≡ record_in xs rs' k
record_same xs rs rs' k h =
    declared_same xs (drop (10 * k) rs) (drop (10 * k) rs') (λ i a b. get_or-drop (10 * k) rs i 0 ∙ (h i a b ∙ sym (get_or-drop (10 * k) rs' i 0)))

-- stores as another record leave a record's numbers as they are, and the record
number_other : (rs vs : List ℕ) (k j i : ℕ) → length vs ≡ 10 → (j ≡ k → ⊥) → i < 10 → get_or (sets rs (10 * k) vs) (10 * j + i) 0 ≡ get_or rs (10 * j + i) 0
number_other rs vs k j i l n b =
    by (ltb j k)
    (λ e. let h : j < k = ltb-true j k e in sets_ahead vs rs (10 * k) (10 * j + i) (omega arith))
    (λ e. let h : k ≤ j = ltb-false j k e in let m : k < j = omega (arith, n) in sets_behind vs rs (10 * k) (10 * j + i) (omega arith))

pub record_other : (xs rs vs : List ℕ) (k j : ℕ) → length vs ≡ 10 → (j ≡ k → ⊥) → record_in xs (sets rs (10 * k) vs) j ≡ record_in xs rs j
record_other xs rs vs k j l n = record_same xs (sets rs (10 * k) vs) rs j (λ i a b. number_other rs vs k j i l n b)

-- the numbers of a part as record k declare what the part declares
pub record_put : (xs rs : List ℕ) (k h : ℕ) (p : DeclarationPlaces) → 10 * k + 10 ≤ length rs → record_in xs (sets rs (10 * k) (held_numbers h p)) k ≡ declared_by xs (part_numbers p)
unfolding part_numbers declared_by default_by
record_put xs rs k h p m = rw (sets_there (held_numbers h p) rs (10 * k) m) refl

-- ---- hashes

hash_more : (h : ℕ) (xs : List ℕ) (x : ℕ) → hash_from h (xs ++ (x ∷ [])) ≡ (hash_from h xs * 16777619 + x) % 4294967296
unfolding hash_from
hash_more h [] x = refl
hash_more h (y ∷ xs) x = hash_more ((h * 16777619 + y) % 4294967296) xs x

-- one more byte, by operations that wrap around
pub hash_push : (h : ℕ) (xs : List ℕ) (x : ℕ) → h ≡ name_hash xs → (h * 16777619 % 4294967296 + x) % 4294967296 ≡ name_hash (xs ++ (x ∷ []))
hash_push h xs x e = mod-add-mod (h * 16777619) 4294967296 x ∙ (rw e refl ∙ sym (hash_more 0 xs x))

pub hash_none : 0 ≡ name_hash []
unfolding hash_from
hash_none = refl

-- the hash of a part's name is stored with it
pub hash_put : (xs rs : List ℕ) (k : ℕ) (p : DeclarationPlaces) → 10 * k + 10 ≤ length rs
    → HashIn xs (sets rs (10 * k) (held_numbers (name_hash (take p.name.len (drop p.name.at xs))) p)) k
unfolding part_numbers declared_by default_by
hash_put xs rs k p m = rw (sets_there (held_numbers (name_hash (take p.name.len (drop p.name.at xs))) p) rs (10 * k) m) refl

-- and the others keep theirs
pub hash_other : (xs rs vs : List ℕ) (k j : ℕ) → length vs ≡ 10 → (j ≡ k → ⊥) → HashIn xs rs j → HashIn xs (sets rs (10 * k) vs) j
hash_other xs rs vs k j l n e =
    get_or-drop (10 * j) (sets rs (10 * k) vs) 0 0
    ∙ (number_other rs vs k j 0 l n (omega arith)
    ∙ (sym (get_or-drop (10 * j) rs 0 0) ∙ (e ∙ ap (λ (d : Declared). name_hash d.name) (sym (record_other xs rs vs k j l n)))))

-- ---- several records

-- as many as asked for
pub from_length : (xs rs : List ℕ) (k n : ℕ) → length (records_from xs rs k n) ≡ n
unfolding records_from
from_length xs rs k zero = refl
from_length xs rs k (suc n) = ap suc (from_length xs rs (suc k) n)

pub from_same : (xs rs rs' : List ℕ) (k n : ℕ) → ((j : ℕ) → k ≤ j → record_in xs rs j ≡ record_in xs rs' j) → records_from xs rs k n ≡ records_from xs rs' k n
unfolding records_from
from_same xs rs rs' k zero h = refl
from_same xs rs rs' k (suc n) h = rw (h k (omega arith), from_same xs rs rs' (suc k) n (λ j a. h j (omega arith))) refl

module _ (xs rs rs' : List ℕ) (d : Declared) where
  -- record s + k is replaced
  pub from_replaced : (k n s : ℕ) → k < n → record_in xs rs' (s + k) ≡ d → ((j : ℕ) → (j ≡ s + k → ⊥) → record_in xs rs' j ≡ record_in xs rs j)
      → records_from xs rs' s n ≡ take k (records_from xs rs s n) ++ (d ∷ drop (suc k) (records_from xs rs s n))
  unfolding records_from
  from_replaced k zero s h e f = absurd (omega arith)
  from_replaced zero (suc n) s h e f =
      let z : s + 0 ≡ s = omega arith in
      rw (sym (rw z at e), from_same xs rs rs' (suc s) n (λ j a. sym (f j (λ q. absurd (omega arith))))) refl
  from_replaced (suc k) (suc n) s h e f =
      let z : s + suc k ≡ suc s + k = omega arith in
      rw (f s (λ q. absurd (omega arith)), from_replaced k n (suc s) (le_of_suc-le-suc h) (rw z at e) (λ j q. f j (λ r. q (r ∙ z)))) refl

  -- record s + n is added
  pub from_added : (n s : ℕ) → record_in xs rs' (s + n) ≡ d → ((j : ℕ) → (j ≡ s + n → ⊥) → record_in xs rs' j ≡ record_in xs rs j)
      → records_from xs rs' s (suc n) ≡ take n (records_from xs rs s n) ++ (d ∷ drop (suc n) (records_from xs rs s n))
  unfolding records_from
  from_added zero s e f =
      let z : s + 0 ≡ s = omega arith in
      rw (sym (rw z at e)) refl
  from_added (suc n) s e f =
      let z : s + suc n ≡ suc s + n = omega arith in
      rw (f s (λ q. absurd (omega arith)), from_added n (suc s) (rw z at e) (λ j q. f j (λ r. q (r ∙ z)))) refl

-- ---- records in front of other numbers

module _ (xs rs more : List ℕ) (enough : 5130 ≤ length rs) where
  front_number : (k i : ℕ) → k ≤ 512 → i < 10 → get_or (rs ++ more) (10 * k + i) 0 ≡ get_or rs (10 * k + i) 0
  front_number k i a b = get_or-append rs more 0 (10 * k + i) (omega arith)

  record_front : (k : ℕ) → k ≤ 512 → record_in xs (rs ++ more) k ≡ record_in xs rs k
  record_front k a = record_same xs (rs ++ more) rs k (λ i l b. front_number k i a b)

  pub hash_front : (k : ℕ) → k ≤ 512 → HashIn xs rs k → HashIn xs (rs ++ more) k
  hash_front k a e =
      get_or-drop (10 * k) (rs ++ more) 0 0
      ∙ (front_number k 0 a (omega arith)
      ∙ (sym (get_or-drop (10 * k) rs 0 0) ∙ (e ∙ ap (λ (d : Declared). name_hash d.name) (sym (record_front k a)))))

  pub from_front : (k n : ℕ) → k + n ≤ 513 → records_from xs (rs ++ more) k n ≡ records_from xs rs k n
  unfolding records_from
  from_front k zero h = refl
  from_front k (suc n) h = rw (record_front k (omega arith), from_front (suc k) n (omega arith)) refl
