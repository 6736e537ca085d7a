-- Stores one after the other, as a loop makes them. Assumes nothing.
use mathlib.Core.Path.{◌≡◌, refl, sym, ap, ◌∙◌}
use mathlib.Core.List.{List, [], ◌∷◌, ◌++◌, append_assoc}
use Prim.Native.Nat.{ℕ, suc, ◌+◌, ◌-◌, ◌≤◌, ◌<◌, min}
use native.Mathlib.Nat.{add-zero}
use native.Mathlib.Numerals.{add-one}
use native.Mathlib.Omega.{arith}
use borrow.Author.Tests.{ltb-true, ltb-false, leb-true, leb-false}
use lib.Dec.{eqb, ltb, leb}
use lib.ListN.{length, take, drop, get_or, set, replicate, drop_of_length-le, take-append-drop}
use lib.Seq.{sets, set_out, sets-eq, take_at, length-sets, length-take-le, drop-drop}
use Rattle.std.specs.List.{FoldsTo}
use Rattle.std.proofs.lemmas.List.{drop_more}
use Rattle.spec.proofs.Choice.{by}
use Rattle.spec.proofs.RequotedLength.{doubled_le, long_quoted}
use Rattle.spec.specs.Requote.{doubled, single_quoted}

-- u and then v
pub sets_append : {A : Type 0} (u v d : List A) (i : ℕ) → sets d i (u ++ v) ≡ sets (sets d i u) (i + length u) v
sets_append [] v d i = rw add-zero
sets_append (a ∷ u) v d i =
    let k : i + suc (length u) ≡ suc i + length u = omega arith in
    rw k (sets_append u v (set d i a) (suc i))

-- a turn of a loop that stores u, the front of what is left to store
pub sets_more : {A : Type 0} (d d' r u v : List A) (o o' : ℕ) → r ≡ u ++ v → d' ≡ sets d o u → o' ≡ o + length u → sets d o r ≡ sets d' o' v
sets_more d d' r u v o o' e p k = rw (e, p, k) (sets_append u v d o)

-- stores past the end do nothing
pub sets_out : {A : Type 0} (vs d : List A) (i : ℕ) → length d ≤ i → sets d i vs ≡ d
sets_out [] d i h = refl
sets_out (v ∷ vs) d i h = rw (set_out d i v h) (sets_out vs d (suc i) (omega arith))

-- a list stored from index n on, as far as there is room for it: u is its first m items
pub store_part : {A : Type 0} (d vs u : List A) (n m fits : ℕ) → n < length d → fits ≡ min (length vs) (length d - n) → m ≡ fits → u ≡ take fits vs
    → sets d n vs ≡ take n d ++ (u ++ drop m (drop n d))
store_part d vs u n m fits h e k f =
    let long : length u ≡ fits = ap length f ∙ length-take-le fits vs (omega arith) in
    let behind : drop (n + length u) d ≡ drop m (drop n d) = ap (λ (k : ℕ). drop (n + k) d) (long ∙ sym k) ∙ sym (drop-drop m n d ∙ ap (λ (k : ℕ). drop k d) (omega arith)) in
    let stored : sets d n u ≡ take n d ++ (u ++ drop m (drop n d)) = rw behind at (sets-eq u d n (omega (arith, long))) ∙ append_assoc (take n d) u (drop m (drop n d)) in
    let rest : sets (sets d n u) (n + length u) (drop fits vs) ≡ sets d n u =
    by (leb (length vs) fits)
    (λ q. rw (drop_of_length-le vs (leb-true (length vs) fits q)) refl)
    (λ q. sets_out (drop fits vs) (sets d n u) (n + length u) (omega (arith, long, leb-false (length vs) fits q, length-sets d n u))) in
    let whole : vs ≡ u ++ drop fits vs = rw f (sym (take-append-drop fits vs)) in
    ap (sets d n) whole ∙ (sets_append u (drop fits vs) d n ∙ (rest ∙ stored))

-- a list is stored item by item from index n on, and j items are stored in d': a turn stores the next one, as far as there is room
module _ (d d' vs : List ℕ) (n j : ℕ) where
  pub stored_turn : sets d n vs ≡ sets d' (n + j) (drop j vs) → j < length vs
      → sets d n vs ≡ sets (set d' (n + j) (get_or vs j 0)) (n + (j + 1)) (drop (j + 1) vs)
  stored_turn e h =
      let x = get_or vs j 0 in
      e ∙ sets_more d' (set d' (n + j) x) (drop j vs) (x ∷ []) (drop (j + 1) vs) (n + j) (n + (j + 1)) (drop_more vs j 0 h) refl (omega arith)

  pub stored_end : sets d n vs ≡ sets d' (n + j) (drop j vs) → length vs ≤ j → d' ≡ sets d n vs
  stored_end e h = sym (e ∙ rw (drop_of_length-le vs h) refl)

-- what calls that give x and change nothing have given
pub all_same : {F A : Type 0} (step : F → A → F → Type 0) (x : A) (f : F)
    → ((y : A) (next : F) → step f y next → (next ≡ f) × (y ≡ x))
    → (ys : List A) (end : F) → FoldsTo step f ys end → ys ≡ replicate (length ys) x
all_same step x f each [] end h = refl
all_same step x f each (y ∷ ys) end h =
    let e = each y h.0 h.1 in
    rw (e.1, sym (all_same step x f each ys end (rw e.0 at h.2))) refl

-- the same item, none left or no room
pub fill_end : {A : Type 0} (d : List A) (i to : ℕ) (x : A) → min to (length d) ≤ i → sets d i (replicate (to - i) x) ≡ d
fill_end d i to x h =
    by (ltb i to)
    (λ q. sets_out (replicate (to - i) x) d i (omega (arith, ltb-true i to q)))
    (λ q.
    let k : to - i ≡ 0 = omega (arith, ltb-false i to q) in
    rw k)

-- a byte of a list with each quote twice, and what stands behind it
doubled_cons : (c : ℕ) (cs : List ℕ) → doubled (c ∷ cs) ≡ doubled (c ∷ []) ++ doubled cs
unfolding doubled
doubled_cons c cs = by (eqb c 39) (λ e. rw e refl) (λ e. rw e refl)

module _ (src : List ℕ) (j : ℕ) where
  pub doubled_step : j < length src → doubled (drop j src) ≡ doubled (get_or src j 0 ∷ []) ++ doubled (drop (j + 1) src)
  doubled_step h = rw (drop_more src j 0 h) (doubled_cons (get_or src j 0) (drop (j + 1) src))

  pub doubled_end : length src ≤ j → doubled (drop j src) ≡ []
  unfolding doubled
  doubled_end h = rw (drop_of_length-le src h)

-- a quote, the list with each quote twice, a quote
pub stored_quoted : (d d₁ d₂ d₃ xs : List ℕ) (n p q : ℕ) → d₁ ≡ set d n 39 → p ≡ n + 1 → d₂ ≡ sets d₁ p (doubled xs) → q ≡ p + length (doubled xs) → d₃ ≡ set d₂ q 39 → d₃ ≡ sets d n (single_quoted xs)
unfolding single_quoted
stored_quoted d d₁ d₂ d₃ xs n p q a b c e f =
    f ∙ rw (c, e, a, b, add-one n) (sym (sets_append (doubled xs) (39 ∷ []) (set d n 39) (suc n)))

-- what is stored at the front of a buffer that is long enough stands there
pub front_stored : {A : Type 0} (d d' c : List A) (n : ℕ) → length c ≡ n → n ≤ length d → d' ≡ sets d 0 c → take n d' ≡ c
front_stored d d' c n e h p =
    let k : 0 + length c ≤ length d = omega arith in
    ap (take n) (p ∙ sets-eq c d 0 k) ∙ take_at c (drop (0 + length c) d) n e

-- a store past the end
pub ruleset store_laws = (set_out)

-- a quote, the doubled text and a quote, and how long it is
pub ruleset quoted_laws = (doubled_le, long_quoted, stored_quoted)
