-- A record put into the chain, and how many records come behind one. Assumes nothing.
use mathlib.Core.Path.{◌≡◌, refl, sym, ◌∙◌}
use mathlib.Core.Bool.{Bool, true, false, cond, false≢true}
use mathlib.Core.List.{List}
use Prim.Native.Nat.{ℕ, zero, suc, ◌+◌, ◌*◌, ◌≤◌, ◌<◌}
use native.Mathlib.Omega.{arith}
use borrow.Author.Tests.{eqb-true, eqb-false, eq-eqb, ne_eqb}
use lib.Dec.{eqb}
use lib.ListN.{length, get_or, drop, set, length-set}
use lib.Seq.{get_or-drop, get_or-set_same, get_or-set_other}
use Rattle.spec.proofs.Choice.{by}
use Rattle.spec.proofs.NameOrder.{before_irrefl, before_trans, by_order}
use Rattle.spec.specs.Bytes.{is_before}
use Rattle.declarations.specs.Chain.{Different, comes_behind, InChain, NextIs, Chained, LastAhead}

-- ---- the order of records

module _ (n : ℕ → List ℕ) where
  pub behind_head : (j i : ℕ) → j ≡ 0 → comes_behind n j i ≡ true
  behind_head j i e = rw (eq-eqb j 0 e) refl

  pub behind_other : (j i : ℕ) → (j ≡ 0 → ⊥) → comes_behind n j i ≡ is_before (n j) (n i)
  behind_other j i e = rw (ne_eqb j 0 e) refl

  pub behind_trans : (j i h : ℕ) → comes_behind n j i ≡ true → is_before (n i) (n h) ≡ true → comes_behind n j h ≡ true
  behind_trans j i h a b =
      by (eqb j 0)
      (λ e. behind_head j h (eqb-true j 0 e))
      (λ e. let z = eqb-false j 0 e in behind_other j h z ∙ before_trans (n j) (n i) (n h) (sym (behind_other j i z) ∙ a) b)

-- ---- how many records come behind one

-- how many of the numbers 1 to m pass the test
unfoldable pub how_many : (ℕ → Bool) → ℕ → ℕ
how_many f zero = 0
how_many f (suc m) = cond (f (suc m)) (suc (how_many f m)) (how_many f m)

module _ (f g : ℕ → Bool) (h : (i : ℕ) → g i ≡ true → f i ≡ true) where
  many_le : (m : ℕ) → how_many g m ≤ how_many f m
  unfolding how_many
  many_le zero = omega arith
  many_le (suc m) =
      let r = many_le m in
      by (g (suc m))
      (λ e. rw (e, h (suc m) e) (omega arith))
      (λ e. by (f (suc m)) (λ d. rw (e, d) (omega arith)) (λ d. rw (e, d) r))

  pub many_less : (m i : ℕ) → 1 ≤ i → i ≤ m → f i ≡ true → g i ≡ false → how_many g m < how_many f m
  unfolding how_many
  many_less zero i a b p q = absurd (omega arith)
  many_less (suc m) i a b p q =
      by (eqb i (suc m))
      (λ e. let z : i ≡ suc m = eqb-true i (suc m) e in
      let p' : f (suc m) ≡ true = rw z at p in
      let q' : g (suc m) ≡ false = rw z at q in
      rw (p', q') (omega (arith, many_le m)))
      (λ e. let r = many_less m i a (omega (arith, eqb-false i (suc m) e)) p q in
      by (g (suc m))
      (λ s. rw (s, h (suc m) s) (omega arith))
      (λ s. by (f (suc m)) (λ d. rw (s, d) (omega arith)) (λ d. rw (s, d) r)))

-- fewer come behind a record's next
pub next_fewer : (n : ℕ → List ℕ) (count p m : ℕ) → 1 ≤ m → m ≤ count → comes_behind n p m ≡ true
    → how_many (comes_behind n m) count < how_many (comes_behind n p) count
next_fewer n count p m a b t =
    let z : m ≡ 0 → ⊥ = λ e. absurd (omega arith) in
    many_less (comes_behind n p) (comes_behind n m)
    (λ i s. behind_trans n p m i t (sym (behind_other n m i z) ∙ s))
    count m a b t (behind_other n m m z ∙ before_irrefl (n m))

-- ---- the nexts with record i + 1 put in behind record p, whose next was q

module _ (n : ℕ → List ℕ) (count : ℕ) (u : Different n count) (i : ℕ) (within : suc i ≤ count) (p q : ℕ) (held : InChain count (suc i) p) (ahead : comes_behind n p (suc i) ≡ true) (next : NextIs n count (suc i) p q) (last : (q ≡ 0 → ⊥) → is_before (n q) (n (suc i)) ≡ false) where
  -- the new record comes before q
  before_next : (q ≡ 0 → ⊥) → is_before (n (suc i)) (n q) ≡ true
  before_next z =
      let b = next.held z in
      by_order (n (suc i)) (n q) (λ l. l)
      (λ s. let e : suc i ≡ q = u (suc i) q (omega arith) within (omega (arith, b.0)) b.1 s in absurd (omega (arith, b.0)))
      (λ l. absurd (false≢true (sym (last z) ∙ l)))

  -- the next of p is the new record
  next_ahead : NextIs n count i p (suc i)
  next_ahead =
      record {
        held = λ _. (omega arith, within, ahead);
        least =
            λ x a b t. (
              λ z. absurd (omega arith),
              by (eqb x (suc i))
                  (λ e. rw (eqb-true x (suc i) e) (before_irrefl (n (suc i))))
                  (λ e. let l = next.least x (omega (arith, eqb-false x (suc i) e)) b t in
                  by (is_before (n x) (n (suc i)))
                  (λ s. absurd (false≢true (sym l.1 ∙ before_trans (n x) (n (suc i)) (n q) s (before_next l.0))))
                  (λ s. s)),
            );
      }

  -- the next of the new record is q
  next_new : NextIs n count i (suc i) q
  next_new =
      let own : suc i ≡ 0 → ⊥ = λ e. absurd (omega arith) in
      record {
        held =
            λ z.
            let b = next.held z in
            (omega (arith, b.0), b.1, behind_other n (suc i) q own ∙ before_next z);
        least =
            λ x a b t.
            let s : is_before (n (suc i)) (n x) ≡ true = sym (behind_other n (suc i) x own) ∙ t in
            by (eqb x (suc i))
            (λ e. absurd (false≢true (sym (before_irrefl (n (suc i))) ∙ (rw (eqb-true x (suc i) e) at s))))
            (λ e. next.least x (omega (arith, eqb-false x (suc i) e)) b (behind_trans n p (suc i) x ahead s));
      }

  -- no record that comes behind j and before the new one is in the chain, if the new one comes before the next of j
  none_between : (j m h : ℕ) → NextIs n count (suc i) j m → suc i < h → h ≤ count → comes_behind n j h ≡ true → is_before (n h) (n (suc i)) ≡ true
      → ((m ≡ 0 → ⊥) → is_before (n (suc i)) (n m) ≡ true) → ⊥
  none_between j m h x a b t s f =
      let l = x.least h a b t in
      false≢true (sym l.1 ∙ before_trans (n h) (n (suc i)) (n m) s (f l.0))

  -- so the new one comes between no other record and its next
  only_there : (j m : ℕ) → InChain count (suc i) j → NextIs n count (suc i) j m → (j ≡ p → ⊥) → comes_behind n j (suc i) ≡ true
      → ((m ≡ 0 → ⊥) → is_before (n (suc i)) (n m) ≡ true) → ⊥
  only_there j m d x o t f =
      by (eqb j 0)
      (λ e. let z = eqb-true j 0 e in above (λ w. o (z ∙ sym w)) (behind_head n j p z))
      (λ e. let z = eqb-false j 0 e in
      by (eqb p 0)
      (λ w. below z (behind_head n p j (eqb-true p 0 w)))
      (λ w. let y = eqb-false p 0 w in
      by_order (n j) (n p)
      (λ l. above y (behind_other n j p z ∙ l))
      (λ s. o (u j p (omega (arith, d.later z)) d.within (omega (arith, held.later y)) held.within s))
      (λ l. below z (behind_other n p j y ∙ l))))
    where
      above : (p ≡ 0 → ⊥) → comes_behind n j p ≡ true → ⊥
      above y s = none_between j m p x (held.later y) held.within s (sym (behind_other n p (suc i) y) ∙ ahead) f

      below : (j ≡ 0 → ⊥) → comes_behind n p j ≡ true → ⊥
      below z s = none_between p q j next (d.later z) d.within s (sym (behind_other n j (suc i) z) ∙ t) before_next

  -- the next of any other record is as before
  next_kept : (j m : ℕ) → InChain count (suc i) j → NextIs n count (suc i) j m → (j ≡ p → ⊥) → NextIs n count i j m
  next_kept j m d x o =
      record {
        held = λ z. let b = x.held z in (omega (arith, b.0), b.1, b.2);
        least =
            λ y a b t.
            by (eqb y (suc i))
            (λ e. let w : y ≡ suc i = eqb-true y (suc i) e in
            let t' : comes_behind n j (suc i) ≡ true = rw w at t in (
              λ z. only_there j m d x o t' (λ v. absurd (v z)),
              rw w
                  (by (is_before (n (suc i)) (n m)) (λ s. absurd (only_there j m d x o t' (λ _. s))) (λ s. s)),
            ))
            (λ e. x.least y (omega (arith, eqb-false y (suc i) e)) b t);
      }

-- the chain with record i + 1 put in
pub insert_one : (n : ℕ → List ℕ) (rs : List ℕ) (count i p : ℕ) → Different n count → suc i ≤ count → 10 * count < length rs
    → Chained n rs count (suc i) → LastAhead n rs count (suc i) p
    → Chained n (set (set rs (10 * suc i) (get_or rs (10 * p) 0)) (10 * p) (suc i)) count i
insert_one n rs count i p u w b c a j d =
    by (eqb j p)
    (λ e. let z : j ≡ p = eqb-true j p e in
    let l : 10 * p < length (set rs (10 * suc i) q) = omega (arith, length-set rs (10 * suc i) q, a.held.within) in
    rw (z, get_or-set_same (set rs (10 * suc i) q) (10 * p) (suc i) 0 l) (next_ahead n count u i w p q a.held a.ahead old a.last))
    (λ e. let o = eqb-false j p e in
    rw (get_or-set_other (set rs (10 * suc i) q) (10 * p) (10 * j) (suc i) 0 (λ r. o (omega arith)))
    (by (eqb j (suc i))
    (λ s. let z : j ≡ suc i = eqb-true j (suc i) s in
    let l : 10 * suc i < length rs = omega arith in
    rw (z, get_or-set_same rs (10 * suc i) q 0 l) (next_new n count u i w p q a.held a.ahead old a.last))
    (λ s. let y = eqb-false j (suc i) s in
    let h : InChain count (suc i) j = record { within = d.within; later = λ z. omega (arith, y, d.later z) } in
    rw (get_or-set_other rs (10 * suc i) (10 * j) q 0 (λ r. y (omega arith)))
    (next_kept n count u i w p q a.held a.ahead old a.last j (get_or rs (10 * j) 0) h (c j h) o))))
  where
    q : ℕ
    q = get_or rs (10 * p) 0

    old : NextIs n count (suc i) p q
    old = c p a.held

-- ---- the walk to the place of record k, at record p whose next is m

module _ (n : ℕ → List ℕ) (rs : List ℕ) (count k p m : ℕ) (c : Chained n rs count k) (h : InChain count k p) (t : comes_behind n p k ≡ true) (e : m ≡ get_or (drop (10 * p) rs) 0 0) where
  at_next : m ≡ get_or rs (10 * p) 0
  at_next =
      let z : 10 * p + 0 ≡ 10 * p = omega arith in
      e ∙ (rw z at (get_or-drop (10 * p) rs 0 0))

  next_here : NextIs n count k p m
  next_here = rw at_next (c p h)

  pub walk_within : m ≤ count
  walk_within = by (eqb m 0) (λ z. omega (arith, eqb-true m 0 z)) (λ z. (next_here.held (eqb-false m 0 z)).1)

  -- the chain ends here, or goes on with a name behind that of record k
  pub walk_ends : m ≡ 0 → LastAhead n rs count k p
  walk_ends z = record { held = h; ahead = t; last = λ o. absurd (o (sym at_next ∙ z)) }

  pub walk_stops : is_before (n m) (n k) ≡ false → LastAhead n rs count k p
  walk_stops b = record { held = h; ahead = t; last = λ _. rw (← at_next) b }

  -- or with one ahead
  module _ (o : m ≡ 0 → ⊥) where
    pub walk_held : InChain count k m
    walk_held = record { within = (next_here.held o).1; later = λ _. (next_here.held o).0 }

    pub walk_fewer : how_many (comes_behind n m) count < how_many (comes_behind n p) count
    walk_fewer = next_fewer n count p m (omega (arith, (next_here.held o).0)) (next_here.held o).1 (next_here.held o).2
