-- The chain of the declaration records: it visits each record once, in rising byte order of names. Assumes nothing.
use mathlib.Core.Option as maybe
use Rattle.std.proofs.lemmas.Bool.{and_from, and_parts, or_parts}
use mathlib.Core.Path.{◌≡◌, refl, sym, ap, ◌∙◌}
use mathlib.Core.Bool.{Bool, true, false, cond, not, ◌&&◌, ◌||◌, false≢true}
use mathlib.Core.List.{List, [], ◌∷◌, map}
use Prim.Native.Nat.{ℕ, zero, suc, ◌+◌, ◌*◌, ◌≤◌, ◌<◌, zero-le, suc-le-suc}
use native.Mathlib.Nat.{not-suc-le-zero, le_of_suc-le-suc}
use native.Mathlib.Omega.{arith}
use borrow.Author.Tests.{not-true, eqb-true, eqb-false, eq-eqb, ne_eqb}
use lib.Dec.{eqb}
use lib.ListN.{length, get_or, get_elem?}
use Rattle.spec.proofs.Choice.{by}
use Rattle.spec.proofs.NameOrder.{same_sym, before_irrefl, before_trans, by_order}
use Rattle.spec.proofs.RecordLaws.{named, distinct, names, length_names, number_at, number_next}
use Rattle.spec.specs.Bytes.{is_same, is_before}
use Rattle.spec.specs.Lists.{any, keep}
use Rattle.spec.specs.Declarations.{Declared, record_width, Place, first_in_order, head_next, next_of, numbers_of, chain_from, chain}

-- ---- how many elements pass a test

module _ {A : Type 0} (z : A) where
  count_none : (f : A → Bool) (l : List A) → ((k : ℕ) → k < length l → f (get_or l k z) ≡ false) → length (keep f l) ≡ 0
  unfolding keep
  count_none f [] h = refl
  count_none f (x ∷ l) h = rw (h 0 (suc-le-suc zero-le)) (count_none f l (λ k b. h (suc k) (suc-le-suc b)))

  -- tests that agree on every element pass as many
  count_same : (f g : A → Bool) (l : List A) → ((k : ℕ) → k < length l → f (get_or l k z) ≡ g (get_or l k z))
      → length (keep f l) ≡ length (keep g l)
  unfolding keep
  count_same f g [] h = refl
  count_same f g (x ∷ l) h =
      let r = count_same f g l (λ k b. h (suc k) (suc-le-suc b)) in
      rw (h 0 (suc-le-suc zero-le)) (by (g x) (λ e. rw e (ap suc r)) (λ e. rw e r))

  -- tests that agree on every element but one, which only the first passes
  count_one_less : (f g : A → Bool) (l : List A) (j : ℕ) → j < length l → f (get_or l j z) ≡ true → g (get_or l j z) ≡ false
      → ((k : ℕ) → k < length l → (k ≡ j → ⊥) → f (get_or l k z) ≡ g (get_or l k z))
      → length (keep f l) ≡ suc (length (keep g l))
  unfolding keep
  count_one_less f g [] j b p q h = absurd (not-suc-le-zero b)
  count_one_less f g (x ∷ l) zero b p q h =
      rw (p, q) (ap suc (count_same f g l (λ k c. h (suc k) (suc-le-suc c) (λ e. absurd (omega arith)))))
  count_one_less f g (x ∷ l) (suc j) b p q h =
      let r = count_one_less f g l j (le_of_suc-le-suc b) p q (λ k c n. h (suc k) (suc-le-suc c) (λ e. n (omega arith))) in
      rw (h 0 (suc-le-suc zero-le) (λ e. absurd (omega arith)))
      (by (g x) (λ e. rw e (ap suc r)) (λ e. rw e r))

count_all : {A : Type 0} (l : List A) → length (keep (λ (x : A). true) l) ≡ length l
unfolding keep
count_all [] = refl
count_all (x ∷ l) = ap suc (count_all l)

-- ---- names by place

not_named : (n : List ℕ) (ds : List Declared) (k : ℕ) → any (named n) ds ≡ false → k < length ds → is_same n (get_or (names ds) k []) ≡ false
unfolding any names
not_named n [] k h b = absurd (not-suc-le-zero b)
not_named n (d ∷ ds) zero h b = (or_parts (is_same n d.name) (any (named n) ds) h).0
not_named n (d ∷ ds) (suc k) h b = not_named n ds k ((or_parts (is_same n d.name) (any (named n) ds) h).1) (le_of_suc-le-suc b)

-- where names are different, the same name is at the same place
pub distinct_place : (ds : List Declared) (j k : ℕ) → distinct ds ≡ true → j < length ds → k < length ds
    → is_same (get_or (names ds) j []) (get_or (names ds) k []) ≡ true → j ≡ k
unfolding distinct names
distinct_place [] j k h b c e = absurd (not-suc-le-zero b)
distinct_place (d ∷ ds) zero zero h b c e = refl
distinct_place (d ∷ ds) zero (suc k) h b c e =
    let new = not-true (any (named d.name) ds) ((and_parts (not (any (named d.name) ds)) (distinct ds) h).0) in
    absurd (false≢true (sym (not_named d.name ds k new (le_of_suc-le-suc c)) ∙ e))
distinct_place (d ∷ ds) (suc j) zero h b c e =
    let new = not-true (any (named d.name) ds) ((and_parts (not (any (named d.name) ds)) (distinct ds) h).0) in
    absurd (false≢true (sym (not_named d.name ds j new (le_of_suc-le-suc b)) ∙ same_sym (get_or (names ds) j []) d.name e))
distinct_place (d ∷ ds) (suc j) (suc k) h b c e =
    ap suc (distinct_place ds j k ((and_parts (not (any (named d.name) ds)) (distinct ds) h).1) (le_of_suc-le-suc b) (le_of_suc-le-suc c) e)

-- ---- the first in order

-- what `first_in_order` gives: no record, where no name passes the test, or the number and the name of a record whose name
-- passes and that no name which passes comes before
pub data First (f : List ℕ → Bool) (i : ℕ) (ds : List Declared) (p : Place) : Type 0 where
  no_record : p.number ≡ 0 → ((k : ℕ) → k < length ds → f (get_or (names ds) k []) ≡ false) → First f i ds p
  the_record : (j : ℕ) → j < length ds → p.number ≡ i + j → p.name ≡ get_or (names ds) j [] → f p.name ≡ true
      → ((k : ℕ) → k < length ds → f (get_or (names ds) k []) ≡ true → is_before (get_or (names ds) k []) p.name ≡ false)
      → First f i ds p

-- what holds of the first name and of every other holds of each
each_name : (P : List ℕ → Type 0) (d : Declared) (ds : List Declared) → P d.name → ((k : ℕ) → k < length ds → P (get_or (names ds) k []))
    → (k : ℕ) → k < suc (length ds) → P (get_or (names (d ∷ ds)) k [])
unfolding names
each_name P d ds p q zero b = p
each_name P d ds p q (suc k) b = q k (le_of_suc-le-suc b)

-- one more record in front
first_step : (f : List ℕ → Bool) (i : ℕ) (d : Declared) (ds : List Declared) (here later : Place) → here.number ≡ i → here.name ≡ d.name
    → First f (suc i) ds later
    → First f i (d ∷ ds) (cond (f d.name && (eqb later.number 0 || is_before d.name later.name)) here later)
unfolding names
first_step f i d ds here later m n (no_record z h) =
    by (f d.name)
    (λ e. rw (e, eq-eqb later.number 0 z)
    (the_record 0 (suc-le-suc zero-le) (omega arith) n (rw n e)
    (each_name (λ x. f x ≡ true → is_before x here.name ≡ false) d ds (λ _. rw n (before_irrefl d.name))
    (λ k c t. absurd (false≢true (sym (h k c) ∙ t))))))
    (λ e. rw e (no_record z (each_name (λ x. f x ≡ false) d ds e h)))
first_step f i d ds here later m n (the_record j b q r p h) =
    let some_later : eqb later.number 0 ≡ false = ne_eqb later.number 0 (λ o. absurd (omega arith)) in
    by (f d.name)
    (λ e. by (is_before d.name later.name)
    (λ l. rw (e, some_later, l)
    (the_record 0 (suc-le-suc zero-le) (omega arith) n (rw n e)
    (each_name (λ x. f x ≡ true → is_before x here.name ≡ false) d ds (λ _. rw n (before_irrefl d.name))
    (λ k c t. by (is_before (get_or (names ds) k []) here.name)
    (λ s. let s' : is_before (get_or (names ds) k []) d.name ≡ true = rw n at s in
    absurd (false≢true (sym (h k c t) ∙ before_trans (get_or (names ds) k []) d.name later.name s' l)))
    (λ s. s)))))
    (λ l. rw (e, some_later, l)
    (the_record (suc j) (suc-le-suc b) (omega arith) r p
    (each_name (λ x. f x ≡ true → is_before x later.name ≡ false) d ds (λ _. l) h))))
    (λ e. rw e
    (the_record (suc j) (suc-le-suc b) (omega arith) r p
    (each_name (λ x. f x ≡ true → is_before x later.name ≡ false) d ds (λ t. absurd (false≢true (sym e ∙ t))) h)))

-- for every test and every number of the first record
pub first_in_order_lem : (f : List ℕ → Bool) (i : ℕ) (ds : List Declared) → First f i ds (first_in_order f i ds)
unfolding first_in_order
first_in_order_lem f i [] = no_record refl (λ k b. absurd (not-suc-le-zero b))
first_in_order_lem f i (d ∷ ds) =
    first_step f i d ds record { number = i; name = d.name } (first_in_order f (suc i) ds) refl refl (first_in_order_lem f (suc i) ds)

-- ---- the chain

-- the name of record k; the records are numbered from 1
unfoldable pub name_of : List Declared → ℕ → List ℕ
name_of ds zero = []
name_of ds (suc i) = get_or (names ds) i []

-- there is an element at each index within the list
element : (ds : List Declared) (i : ℕ) → i < length ds → (d : Declared) × ((get_elem? ds i ≡ maybe.some d) × (d.name ≡ get_or (names ds) i []))
unfolding names
element [] i b = absurd (not-suc-le-zero b)
element (d ∷ ds) zero b = (d, (refl, refl))
element (d ∷ ds) (suc i) b = element ds i (le_of_suc-le-suc b)

-- a record's first number is the next of its name
pub next_number_lem : (ds : List Declared) (k : ℕ) → 1 ≤ k → k ≤ length ds → get_or (numbers_of ds) (record_width * k) 0 ≡ next_of ds (name_of ds k)
unfolding number_at name_of
next_number_lem ds zero a b = absurd (omega arith)
next_number_lem ds (suc i) a b =
    let e = element ds i b in
    let n : record_width * suc i ≡ record_width * suc i + 0 = omega arith in
    rw (n, ← e.1.1) (number_next ds i e.0 e.1.0)

-- a test that a name passes wherever one before it does
abbrev Upward : (List ℕ → Bool) → Type 0
Upward f = (a b : List ℕ) → f a ≡ true → is_before a b ≡ true → f b ≡ true

-- how many names pass a test
abbrev how_many : (List ℕ → Bool) → List Declared → ℕ
how_many f ds = length (keep f (names ds))

-- no record passes
record Stop (ds : List Declared) (f : List ℕ → Bool) (i : ℕ) : Type 0 where
  ended : i ≡ 0
  nothing : (m : ℕ) → 1 ≤ m → m ≤ length ds → f (name_of ds m) ≡ false
  empty : how_many f ds ≡ 0

-- record k is the first that passes; the others that pass are those behind it
record Visit (ds : List Declared) (f : List ℕ → Bool) (i k : ℕ) : Type 0 where
  reached : i ≡ k
  low : 1 ≤ k
  high : k ≤ length ds
  passes : f (name_of ds k) ≡ true
  others : (m : ℕ) → 1 ≤ m → m ≤ length ds → (m ≡ k → ⊥) → f (name_of ds m) ≡ is_before (name_of ds k) (name_of ds m)
  fewer : how_many f ds ≡ suc (how_many (is_before (name_of ds k)) ds)

data Turn (ds : List Declared) (f : List ℕ → Bool) (i : ℕ) : Type 0 where
  stop : Stop ds f i → Turn ds f i
  visit : (k : ℕ) → Visit ds f i k → Turn ds f i

-- from the first in order, one of the two
turn : (ds : List Declared) (f : List ℕ → Bool) (p : Place) → distinct ds ≡ true → Upward f → First f 1 ds p → Turn ds f p.number
unfolding name_of
turn ds f p u up (no_record z h) =
    stop record {
      ended = z;
      nothing = λ m. nowhere m;
      empty = count_none [] f (names ds) (λ k b. h k (rw (length_names ds) at b));
    }
  where
    nowhere : (m : ℕ) → 1 ≤ m → m ≤ length ds → f (name_of ds m) ≡ false
    nowhere zero a b = absurd (omega arith)
    nowhere (suc k) a b = h k b
turn ds f p u up (the_record j b q r t h) =
    visit (suc j) record {
      reached = omega arith;
      low = suc-le-suc zero-le;
      high = b;
      passes = rw r at t;
      others = λ m. rest m;
      fewer =
          count_one_less [] f (is_before x) (names ds) j (rw (length_names ds) b) (rw r at t) (before_irrefl x)
          (λ k c n. agree k (rw (length_names ds) at c) n);
    }
  where
    x : List ℕ
    x = get_or (names ds) j []

    agree : (k : ℕ) → k < length ds → (k ≡ j → ⊥) → f (get_or (names ds) k []) ≡ is_before x (get_or (names ds) k [])
    agree k c n =
        let y = get_or (names ds) k [] in
        by (f y)
        (λ e. e ∙ sym (by_order x y (λ l. l) (λ s. absurd (n (sym (distinct_place ds j k u b c s))))
        (λ l. absurd (false≢true (sym (h k c e) ∙ rw r l)))))
        (λ e. e ∙ sym (by (is_before x y) (λ l. absurd (false≢true (sym e ∙ up x y (rw r at t) l))) (λ l. l)))

    rest : (m : ℕ) → 1 ≤ m → m ≤ length ds → (m ≡ suc j → ⊥) → f (name_of ds m) ≡ is_before x (name_of ds m)
    rest zero a c n = absurd (omega arith)
    rest (suc k) a c n = agree k c (λ e. n (ap suc e))

-- the chain at i visits the records ks: each the first that passes a test, from then on the test of the names behind it
abbrev Walk : List Declared → (List ℕ → Bool) → ℕ → List ℕ → Type 0
Walk ds f i [] = Stop ds f i
Walk ds f i (k ∷ ks) = Visit ds f i k × Walk ds (is_before (name_of ds k)) (next_of ds (name_of ds k)) ks

-- with as many steps as names pass the test, the chain is such a walk: each step leaves one name fewer
walk : (ds : List Declared) → distinct ds ≡ true → (n : ℕ) (f : List ℕ → Bool) → Upward f → how_many f ds ≤ n
    → Walk ds f (first_in_order f 1 ds).number (chain_from n (numbers_of ds) (first_in_order f 1 ds).number)
unfolding chain_from next_of
walk ds u zero f up b = go (turn ds f (first_in_order f 1 ds) u up (first_in_order_lem f 1 ds))
  where
    go : Turn ds f (first_in_order f 1 ds).number → Stop ds f (first_in_order f 1 ds).number
    go (stop s) = s
    go (visit k v) = absurd (omega (arith, v.fewer))
walk ds u (suc n) f up b =
    go (first_in_order f 1 ds).number (λ x c. walk ds u n (is_before x) (λ v w. before_trans x v w) c)
    (turn ds f (first_in_order f 1 ds) u up (first_in_order_lem f 1 ds))
  where
    go : (i : ℕ)
        → ((x : List ℕ) → how_many (is_before x) ds ≤ n → Walk ds (is_before x) (next_of ds x) (chain_from n (numbers_of ds) (next_of ds x)))
        → Turn ds f i → Walk ds f i (chain_from (suc n) (numbers_of ds) i)
    go i more (stop s) = rw s.ended (record { ended = refl; nothing = s.nothing; empty = s.empty })
    go i more (visit k v) =
        rw (ne_eqb i 0 (λ e. absurd (omega (arith, v.reached, v.low))), v.reached, next_number_lem ds k v.low v.high) (
          record { reached = refl; low = v.low; high = v.high; passes = v.passes; others = v.others; fewer = v.fewer },
          more (name_of ds k) (omega (arith, v.fewer)),
        )

walk_length : (ds : List Declared) (f : List ℕ → Bool) (i : ℕ) (ks : List ℕ) → Walk ds f i ks → length ks ≡ how_many f ds
walk_length ds f i [] w = sym w.empty
walk_length ds f i (k ∷ ks) w = ap suc (walk_length ds (is_before (name_of ds k)) _ ks w.1) ∙ sym w.0.fewer

walk_once : (ds : List Declared) (f : List ℕ → Bool) (i : ℕ) (ks : List ℕ) → Walk ds f i ks
    → (m : ℕ) → 1 ≤ m → m ≤ length ds → length (keep (eqb m) ks) ≡ cond (f (name_of ds m)) 1 0
unfolding keep
walk_once ds f i [] w m a b = rw (w.nothing m a b)
walk_once ds f i (k ∷ ks) w m a b =
    let more = walk_once ds (is_before (name_of ds k)) _ ks w.1 m a b in
    by (eqb m k)
    (λ e. let q : m ≡ k = eqb-true m k e in
    rw (e, q, w.0.passes) (ap suc (more ∙ (ap (λ (x : ℕ). cond (is_before (name_of ds k) (name_of ds x)) 1 0) q ∙ rw (before_irrefl (name_of ds k))))))
    (λ e. rw (e, w.0.others m a b (eqb-false m k e)) more)

-- each name comes before the next
unfoldable pub rising : List (List ℕ) → Bool
rising [] = true
rising (n ∷ []) = true
rising (n ∷ m ∷ ns) = is_before n m && rising (m ∷ ns)

walk_rising : (ds : List Declared) (f : List ℕ → Bool) (i : ℕ) (ks : List ℕ) → Walk ds f i ks → rising (map (name_of ds) ks) ≡ true
unfolding rising
walk_rising ds f i [] w = refl
walk_rising ds f i (k ∷ []) w = refl
walk_rising ds f i (k ∷ m ∷ ks) w =
    and_from (is_before (name_of ds k) (name_of ds m)) _ w.1.0.passes (walk_rising ds (is_before (name_of ds k)) _ (m ∷ ks) w.1)

-- the last of these numbers, k if there are none
unfoldable pub last_or : ℕ → List ℕ → ℕ
last_or k [] = k
last_or k (m ∷ ms) = last_or m ms

walk_ends : (ds : List Declared) (f : List ℕ → Bool) (i : ℕ) (ks : List ℕ) → Walk ds f i ks
    → (k : ℕ) → get_or (numbers_of ds) (record_width * k) 0 ≡ i → get_or (numbers_of ds) (record_width * last_or k ks) 0 ≡ 0
unfolding last_or
walk_ends ds f i [] w k e = e ∙ w.ended
walk_ends ds f i (m ∷ ks) w k e = walk_ends ds (is_before (name_of ds m)) _ ks w.1 m (next_number_lem ds m w.0.low w.0.high)

-- ---- what holds of the chain, where names are different

module _ (ds : List Declared) (u : distinct ds ≡ true) where
  chain_walk : Walk ds (λ (n : List ℕ). true) (head_next ds) (chain ds)
  unfolding chain head_next numbers_of
  chain_walk = walk ds u (length ds) (λ (n : List ℕ). true) (λ a b h k. refl) (omega (arith, count_all (names ds), length_names ds))

  -- it visits as many records as there are
  pub chain_length : length (chain ds) ≡ length ds
  chain_length = walk_length ds _ _ (chain ds) chain_walk ∙ (count_all (names ds) ∙ length_names ds)

  -- each record once
  pub chain_once : (k : ℕ) → 1 ≤ k → k ≤ length ds → length (keep (eqb k) (chain ds)) ≡ 1
  chain_once k a b = walk_once ds _ _ (chain ds) chain_walk k a b

  -- in strictly rising byte order of names
  pub chain_rising : rising (map (name_of ds) (chain ds)) ≡ true
  chain_rising = walk_rising ds _ _ (chain ds) chain_walk

  -- and the next number of the last one, or of the head where there are no records, is zero
  pub chain_ends : get_or (numbers_of ds) (record_width * last_or 0 (chain ds)) 0 ≡ 0
  unfolding numbers_of record_width
  chain_ends = walk_ends ds _ _ (chain ds) chain_walk 0 refl
