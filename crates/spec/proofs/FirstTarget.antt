-- A walk that gives the first target met finds r exactly if r stands at a place before which none does. Assumes nothing.
use Rattle.std.specs.Prelude.{Option, Some, None}
use mathlib.Core.Path.{◌≡◌, refl, sym, ap, ◌∙◌}
use mathlib.Core.Bool.{Bool, true, false, cond, false≢true}
use mathlib.Core.Logic.{◌↔◌, ◌⊎◌, inl, inr}
use Prim.Native.Nat.{ℕ, ◌+◌, ◌≤◌, ◌<◌}
use native.Mathlib.Omega.{arith}
use borrow.Author.Tests.{eqb-true, eqb-false}
use lib.Dec.{eqb}
use Rattle.spec.proofs.Apart.{apart}
use Rattle.spec.proofs.Choice.{by}
use Rattle.spec.proofs.TargetPlaces.{FirstFrom, NoPlace}
use Rattle.spec.proofs.WalkLaws.{climb}
use Rattle.spec.specs.Assignments.{Target, or_else}

-- o is the target r exactly if r has the property
abbrev pub Exactly : Option Target → (Target → Type 0) → Type 0
Exactly o P = (r : Target) → (o ≡ Some r) ↔ P r

-- a target and none are apart
pub some_none : {A : Type 0} (o : Option Target) (r : Target) → o ≡ Some r → o ≡ None → A
some_none o r e n = absurd (apart (cc))

-- so it is none exactly if none has the property
pub none_exactly : {o : Option Target} {P : Target → Type 0} → Exactly o P → (o ≡ None) ↔ ((r : Target) → P r → ⊥)
none_exactly {o} {P} x = ((λ e r p. some_none o r ((x r).1 p) e), go o refl)
  where
    go : (q : Option Target) → o ≡ q → ((r : Target) → P r → ⊥) → o ≡ None
    go None e n = e
    go (Some r) e n = absurd (n r ((x r).0 e))

-- the choice of x on a test
pub choice_exactly : (b : Bool) (x : Target) → Exactly (cond b (Some x) None) (λ r. (b ≡ true) × (r ≡ x))
choice_exactly true x r = ((λ e. (refl, (cc))), (λ w. ap Some (sym w.1)))
choice_exactly false x r = ((λ e. absurd (apart (cc))), (λ w. absurd (false≢true w.0)))

-- one target if there is one, else the other
pub else_first : (o p : Option Target) (r : Target) → o ≡ Some r → or_else o p ≡ Some r
unfolding or_else
else_first o p r e = rw e refl

pub else_next : (o p : Option Target) → o ≡ None → or_else o p ≡ p
unfolding or_else
else_next o p e = rw e refl

pub else_exactly : {o p : Option Target} {P Q : Target → Type 0} → Exactly o P → Exactly p Q
    → Exactly (or_else o p) (λ r. P r ⊎ ((o ≡ None) × Q r))
else_exactly {o} {p} {P} {Q} x y r = (go o refl, back)
  where
    go : (q : Option Target) → o ≡ q → or_else o p ≡ Some r → P r ⊎ ((o ≡ None) × Q r)
    go None e h = inr (e, (y r).0 (sym (else_next o p e) ∙ h))
    go (Some s) e h = inl ((x r).0 (e ∙ (sym (else_first o p s e) ∙ h)))

    back : P r ⊎ ((o ≡ None) × Q r) → or_else o p ≡ Some r
    back (inl w) = else_first o p r ((x r).1 w)
    back (inr w) = else_next o p w.0 ∙ (y r).1 w.1

-- none exactly if both are none
pub else_none : (o p : Option Target) → (or_else o p ≡ None) ↔ ((o ≡ None) × (p ≡ None))
else_none o p = (go o refl, (λ w. else_next o p w.0 ∙ w.1))
  where
    go : (q : Option Target) → o ≡ q → or_else o p ≡ None → (o ≡ None) × (p ≡ None)
    go None e h = (e, sym (else_next o p e) ∙ h)
    go (Some r) e h = some_none (or_else o p) r (else_first o p r e) h

-- a walk w over the first n offsets that gives what f finds at the first offset where it finds anything
module _ (P : ℕ → Target → Type 0) (f w : ℕ → Option Target) (n : ℕ)
    (end : (i : ℕ) → n ≤ i → w i ≡ None)
    (step : (i : ℕ) → i < n → w i ≡ or_else (f i) (w (i + 1)))
    (here : (i : ℕ) → i < n → Exactly (f i) (P i))
    (inside : (i : ℕ) (r : Target) → P i r → i < n) where
  sound : (r : Target) (i : ℕ) → w i ≡ Some r → FirstFrom P i r
  sound r =
      climb (λ (i : ℕ). w i ≡ Some r → FirstFrom P i r) n
      (λ i h e. some_none (w i) r e (end i h))
      (λ i h more e. go i h more (f i) refl (sym (step i h) ∙ e))
    where
      go : (i : ℕ) → i < n → (w (i + 1) ≡ Some r → FirstFrom P (i + 1) r) → (o : Option Target) → f i ≡ o
          → or_else (f i) (w (i + 1)) ≡ Some r
          → FirstFrom P i r
      go i h more None e k =
          let m = more (sym (else_next (f i) (w (i + 1)) e) ∙ k) in
          record {
            place = m.place;
            from = omega (arith, m.from);
            holds = m.holds;
            least = λ j a b s p.
                by (eqb j i)
                (λ q. let z = eqb-true j i q in some_none (f i) s ((here i h s).1 (rw z at p)) e)
                (λ q. m.least j (omega (arith, eqb-false j i q)) b s p);
          }
      go i h more (Some s) e k =
          let z = sym (else_first (f i) (w (i + 1)) s e) ∙ k in
          record { place = i; from = omega arith; holds = (here i h r).0 (e ∙ z); least = λ j a b s p. absurd (omega arith) }

  complete : (r : Target) (i : ℕ) → FirstFrom P i r → w i ≡ Some r
  complete r =
      climb (λ (i : ℕ). FirstFrom P i r → w i ≡ Some r) n
      (λ i h m. absurd (omega (arith, m.from, inside m.place r m.holds)))
      (λ i h more m.
      by (eqb m.place i)
      (λ q.
      let z = eqb-true m.place i q in
      step i h ∙ else_first (f i) (w (i + 1)) r ((here i h r).1 (rw z at m.holds)))
      (λ q.
      let l : i < m.place = omega (arith, m.from, eqb-false m.place i q) in
      let none_here = (none_exactly (here i h)).1 (λ s p. m.least i (omega arith) l s p) in
      step i h
      ∙ (else_next (f i) (w (i + 1)) none_here
      ∙ more (record { place = m.place; from = omega arith; holds = m.holds; least = λ j a b. m.least j (omega arith) b }))))

  pub walk_exactly : (i : ℕ) → Exactly (w i) (FirstFrom P i)
  walk_exactly i r = (sound r i, complete r i)

  -- where it gives none there is none
  nowhere : (i : ℕ) → w i ≡ None → (k : ℕ) → i ≤ k → (s : Target) → P k s → ⊥
  nowhere =
      climb (λ (i : ℕ). w i ≡ None → (k : ℕ) → i ≤ k → (s : Target) → P k s → ⊥) n
      (λ i h e k a s p. omega (arith, inside k s p))
      (λ i h more e. go i h more (f i) refl (sym (step i h) ∙ e))
    where
      go : (i : ℕ) → i < n → (w (i + 1) ≡ None → (k : ℕ) → i + 1 ≤ k → (s : Target) → P k s → ⊥) → (o : Option Target) → f i ≡ o
          → or_else (f i) (w (i + 1)) ≡ None
          → (k : ℕ) → i ≤ k → (s : Target) → P k s → ⊥
      go i h more None e m k a s p =
          by (eqb k i)
          (λ q. let z = eqb-true k i q in some_none (f i) s ((here i h s).1 (rw z at p)) e)
          (λ q. more (sym (else_next (f i) (w (i + 1)) e) ∙ m) k (omega (arith, eqb-false k i q)) s p)
      go i h more (Some r) e m k a s p =
          some_none (or_else (f i) (w (i + 1))) r (else_first (f i) (w (i + 1)) r e) m

  pub walk_none : (w 0 ≡ None) ↔ NoPlace P
  walk_none = (
    (λ e k s p. nowhere 0 e k (omega arith) s p),
    (λ no. (none_exactly (walk_exactly 0)).1 (λ r m. no m.place r m.holds)),
  )
