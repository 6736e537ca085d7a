-- The search for the first place that passes a test, for every test: it gives the least such offset at or after the
-- starting one, and none exactly if there is none. Assumes nothing.
use Rattle.std.proofs.lemmas.Option.{none-some}
use Rattle.std.specs.Prelude.{Option, Some, None}
use Rattle.std.proofs.lemmas.Bool.{false_from_ne_true}
use mathlib.Core.Path.{◌≡◌, refl, ap, ◌∙◌}
use mathlib.Core.Bool.{true, false, cond}
use mathlib.Core.List.{List, [], ◌∷◌}
use mathlib.Core.Logic.{◌⊎◌, inl, inr}
use Prim.Native.Nat.{ℕ, ◌+◌, ◌≤◌, ◌<◌}
use native.Mathlib.Omega.{arith}
use borrow.Author.Tests.{eqb-true, eqb-false, both_ways}
use lib.Dec.{eqb}
use lib.ListN.{length}
use Rattle.spec.proofs.Choice.{by}
use Rattle.spec.proofs.WalkLaws.{climb, passes_at, first_end, first_hit, first_miss, up_to_first, up_to_end}
use Rattle.spec.specs.Lists.{is_empty}
use Rattle.spec.specs.Map.{Marked}
use Rattle.spec.specs.Search.{Test, first}

-- j is the least offset of t at or after i that passes the test
pub record Least (p : Test) (i : ℕ) (t : List Marked) (j : ℕ) : Type 0 where
  pub from : i ≤ j
  pub inside : j < length t
  pub passes : passes_at p t j ≡ true
  pub least : (k : ℕ) → i ≤ k → k < j → passes_at p t k ≡ false

-- what holds at i and from i + 1 on holds from i on
split : (P : ℕ → Type 0) (i k : ℕ) → P i → (i + 1 ≤ k → P k) → i ≤ k → P k
split P i k here more h = by (eqb k i) (λ e. rw (eqb-true k i e) here) (λ e. more (omega (arith, eqb-false k i e)))

module _ (p : Test) (t : List Marked) where
  -- what is found is the least place
  pub first_least : (i j : ℕ) → first p i t ≡ Some j → Least p i t j
  first_least i j =
      up_to_first p t (λ (k : ℕ). Least p k t j) j
      (λ h q. record { from = omega arith; inside = h; passes = q; least = λ m a b. absurd (omega arith) })
      (λ k h q e r.
      record {
        from = omega (arith, r.from);
        inside = r.inside;
        passes = r.passes;
        least = λ m a b. split (λ (n : ℕ). passes_at p t n ≡ false) k m q (λ c. r.least m c b) a;
      })
      i

  -- the least place is found
  pub least_first : (i j : ℕ) → Least p i t j → first p i t ≡ Some j
  least_first i j =
      climb (λ (k : ℕ). Least p k t j → first p k t ≡ Some j) (length t)
      (λ k h r. absurd (omega (arith, r.from, r.inside)))
      (λ k h more r.
      by (eqb k j)
      (λ e.
      let same = eqb-true k j e in
      first_hit p t k h (rw same r.passes) ∙ ap Some same)
      (λ e.
      let b : k < j = omega (arith, r.from, eqb-false k j e) in
      first_miss p t k h (r.least k (omega arith) b)
      ∙ more (record { from = omega arith; inside = r.inside; passes = r.passes; least = λ m a. r.least m (omega arith) })))
      i

  -- where none is found, none passes
  pub first_none : (i : ℕ) → first p i t ≡ None → (k : ℕ) → i ≤ k → k < length t → passes_at p t k ≡ false
  first_none i =
      up_to_end p t (λ (m : ℕ). (k : ℕ) → m ≤ k → k < length t → passes_at p t k ≡ false)
      (λ m h k a b. absurd (omega arith))
      (λ m h q e more k a b. split (λ (n : ℕ). passes_at p t n ≡ false) m k q (λ c. more k c b) a)
      i

  -- where none passes, none is found
  pub none_first : (i : ℕ) → ((k : ℕ) → i ≤ k → k < length t → passes_at p t k ≡ false) → first p i t ≡ None
  none_first i =
      climb (λ (m : ℕ). ((k : ℕ) → m ≤ k → k < length t → passes_at p t k ≡ false) → first p m t ≡ None) (length t)
      (λ m h r. first_end p t m h)
      (λ m h more r. first_miss p t m h (r m (omega arith) h) ∙ more (λ k a. r k (omega arith)))
      i

-- ---- the same in the words of a property of offsets

-- j is the least number at or after i that has the property
pub record LeastOf (Q : ℕ → Type 0) (i j : ℕ) : Type 0 where
  pub from : i ≤ j
  pub holds : Q j
  pub least : (k : ℕ) → i ≤ k → k < j → Q k → ⊥

-- no number at or after i has the property
abbrev pub NoneOf : (ℕ → Type 0) → ℕ → Type 0
NoneOf Q i = (k : ℕ) → i ≤ k → Q k → ⊥

-- at each offset the test passes exactly if the property holds, which it does within the text only
pub record Says (p : Test) (t : List Marked) (Q : ℕ → Type 0) : Type 0 where
  pub sound : (k : ℕ) → passes_at p t k ≡ true → Q k
  pub complete : (k : ℕ) → Q k → passes_at p t k ≡ true
  pub inside : (k : ℕ) → Q k → k < length t

module _ (p : Test) (t : List Marked) (Q : ℕ → Type 0) (s : Says p t Q) (i : ℕ) where
  -- what is found is the least offset that has the property, and that one is found
  pub found_least : (j : ℕ) → first p i t ≡ Some j → LeastOf Q i j
  found_least j e =
      let r = first_least p t i j e in
      record {
        from = r.from;
        holds = s.sound j r.passes;
        least = λ k a b q. both_ways _ (r.least k a b) (s.complete k q);
      }

  pub least_found : (j : ℕ) → LeastOf Q i j → first p i t ≡ Some j
  least_found j r =
      least_first p t i j
      (record {
        from = r.from;
        inside = s.inside j r.holds;
        passes = s.complete j r.holds;
        least = λ k a b. false_from_ne_true (passes_at p t k) (λ q. r.least k a b (s.sound k q));
      })

  -- none is found exactly if none has it
  pub found_none : first p i t ≡ None → NoneOf Q i
  found_none e k a q = both_ways _ (first_none p t i e k a (s.inside k q)) (s.complete k q)

  pub none_found : NoneOf Q i → first p i t ≡ None
  none_found r = none_first p t i (λ k a b. false_from_ne_true (passes_at p t k) (λ q. r k a (s.sound k q)))

-- ---- a search for a word, which finds none if the word is empty

some_word : (w : List ℕ) (f : Option ℕ) (j : ℕ) → cond (is_empty w) None f ≡ Some j → f ≡ Some j
unfolding is_empty
some_word [] f j e = absurd (none-some j e)
some_word (a ∷ w) f j e = e

pub nonempty_word : (w : List ℕ) (f : Option ℕ) → 0 < length w → cond (is_empty w) None f ≡ f
unfolding is_empty
nonempty_word [] f h = absurd (omega arith)
nonempty_word (a ∷ w) f h = refl

-- and an empty one is not
pub empty_word : (w : List ℕ) (f : Option ℕ) → length w ≡ 0 → cond (is_empty w) None f ≡ None
unfolding is_empty
empty_word [] f h = refl
empty_word (a ∷ w) f h = absurd (omega arith)

module _ (p : Test) (t : List Marked) (Q : ℕ → Type 0) (s : Says p t Q) (w : List ℕ) (i : ℕ) where
  -- the least offset that has the property
  pub sought_least : (j : ℕ) → cond (is_empty w) None (first p i t) ≡ Some j → LeastOf Q i j
  sought_least j e = found_least p t Q s i j (some_word w (first p i t) j e)

  pub least_sought : (j : ℕ) → 0 < length w → LeastOf Q i j → cond (is_empty w) None (first p i t) ≡ Some j
  least_sought j h r = nonempty_word w (first p i t) h ∙ least_found p t Q s i j r

  -- none exactly if the word is empty or none has the property
  pub sought_none : cond (is_empty w) None (first p i t) ≡ None → (w ≡ []) ⊎ NoneOf Q i
  unfolding is_empty
  sought_none = go w
    where
      go : (v : List ℕ) → cond (is_empty v) None (first p i t) ≡ None → (v ≡ []) ⊎ NoneOf Q i
      go [] e = inl refl
      go (a ∷ v) e = inr (found_none p t Q s i e)

  pub none_sought : (w ≡ []) ⊎ NoneOf Q i → cond (is_empty w) None (first p i t) ≡ None
  unfolding is_empty
  none_sought (inl e) = rw e refl
  none_sought (inr r) = both w (none_found p t Q s i r)
    where
      both : (v : List ℕ) → first p i t ≡ None → cond (is_empty v) None (first p i t) ≡ None
      both [] e = refl
      both (a ∷ v) e = e
