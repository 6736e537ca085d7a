-- Parts and places at an index. Assumes nothing.
use mathlib.Core.Path.{◌≡◌, refl, sym, ap, ◌∙◌}
use mathlib.Core.Bool.{false≢true, cond, not}
use mathlib.Core.List.{List, []}
use Prim.Native.Nat.{ℕ, ◌+◌, ◌-◌, ◌≤◌, ◌<◌, min}
use native.Mathlib.Omega.{arith}
use denote.Ref.{Bor}
use borrow.Author.Tests.{le-leb, lt-leb, eq-eqb, eqb-true, not-false, leb-true, leb-false, ltb-false}
use lib.Dec.{eqb, leb, ltb}
use lib.ListN.{length, take, drop, get_or, length-drop, drop_of_length-le}
use Rattle.std.specs.Option.{unwrap_or, option_map}
use Rattle.std.specs.Slice.{IsGetRangeResult}
use Rattle.std.specs.List.{prefix_len, position_or_len, slice_get}
use Rattle.std.proofs.Common.{Option, Some, None, inl, inr}
use lib.Seq.{take_all, take-nil}
use Rattle.std.proofs.lemmas.List.{get_or-drop, take_rest}
use Rattle.std.proofs.lemmas.Option.{unwrap_or-slice_get}
use Rattle.std.proofs.lemmas.List.Sums.{prefix_len_passes, prefix_len_stops, prefix_len-le-length}
use Rattle.spec.proofs.Choice.{by}
use Rattle.stored_list.specs.Fields.{part_of, place_of}

-- ---- parts

module _ (a e : ℕ) (xs : List ℕ) where
  pub part_in : e ≤ length xs → a ≤ e → part_of a e xs ≡ take (e - a) (drop a xs)
  unfolding part_of
  part_in h k = simp (le-leb e (length xs) h, le-leb a e k)

  pub part_long : length xs < e → part_of a e xs ≡ []
  unfolding part_of
  part_long h = simp (lt-leb e (length xs) h)

  pub part_back : e < a → part_of a e xs ≡ []
  unfolding part_of
  part_back h = by (leb e (length xs)) (λ t. simp (t, lt-leb a e h)) (λ t. simp t)

  -- what `get` gives of a range, or else the empty list
  pub part_get : (r : Option (Bor (List ℕ))) (d : Bor (List ℕ)) → IsGetRangeResult xs a e r → d.now ≡ [] → (unwrap_or r d).now ≡ part_of a e xs
  part_get None d h k = k ∙ sym (elim h.0 [ inl p ↦ part_back p | inr p ↦ part_long p ])
  part_get (Some x) d h k = h.0.2 ∙ sym (part_in h.0.1 h.0.0)

-- ---- places

module _ (b : ℕ) (xs : List ℕ) (i : ℕ) where
  pub place_ge : i ≤ place_of b i xs
  unfolding place_of
  place_ge = omega arith

  pub place_at : place_of b i xs < length xs → get_or xs (place_of b i xs) 0 ≡ b
  unfolding place_of
  place_at h =
      let other = λ (c : ℕ). not (eqb c b) in
      let k = prefix_len other (drop i xs) in
      let e = prefix_len_stops other (drop i xs) 0 (omega (arith, length-drop i xs)) in
      sym (get_or-drop i xs k 0) ∙ eqb-true (get_or (drop i xs) k 0) b (not-false (eqb (get_or (drop i xs) k 0) b) e)

  pub place_before : (k : ℕ) → i ≤ k → k < place_of b i xs → get_or xs k 0 ≡ b → ⊥
  unfolding place_of
  place_before k h m e =
      let other = λ (c : ℕ). not (eqb c b) in
      let j : i + (k - i) ≡ k = omega arith in
      let p = prefix_len_passes other (drop i xs) (k - i) 0 (omega arith) in
      let q : get_or (drop i xs) (k - i) 0 ≡ b = get_or-drop i xs (k - i) 0 ∙ rw j e in
      false≢true (rw (q, eq-eqb b b refl) at p)

  -- from what `get` and `position` give
  pub place_get : (rest : List ℕ) (r : Option ℕ) → rest ≡ drop i xs
      → r ≡ cond (ltb (position_or_len (λ c. eqb c b) rest) (length rest)) (Some (position_or_len (λ c. eqb c b) rest)) None
      → i + unwrap_or r (length rest) ≡ place_of b i xs
  unfolding place_of
  place_get rest r e p =
      let n = position_or_len (λ c. eqb c b) rest in
      let q : unwrap_or r (length rest) ≡ n =
      by (ltb n (length rest))
      (λ t. rw (p, t) refl)
      (λ t. rw (p, t) (omega (arith, ltb-false n (length rest) t, prefix_len-le-length (λ (c : ℕ). not (eqb c b)) rest))) in
      rw (q, e) refl

  -- what stands from i on
  pub rest_get : (r : Option (Bor (List ℕ))) (d : Bor (List ℕ)) → IsGetRangeResult xs i (length xs) r → d.now ≡ []
      → (unwrap_or r d).now ≡ drop i xs
  rest_get r d h k =
      part_get i (length xs) xs r d h k
      ∙ by (leb i (length xs))
      (λ t. part_in i (length xs) xs (omega arith) (leb-true i (length xs) t) ∙ take_rest xs i)
      (λ t. let n = leb-false i (length xs) t in part_back i (length xs) xs n ∙ sym (drop_of_length-le xs (omega arith)))

-- ---- fields

-- from what `nth` gives
pub nth_get : (all : List (List ℕ)) (k : ℕ) (r : Option (Bor (List ℕ))) (d : Bor (List ℕ)) → option_map (λ x. x.now) r ≡ slice_get all k
    → d.now ≡ [] → (unwrap_or r d).now ≡ get_or all k []
nth_get all k None d h e = e ∙ (ap (λ (o : Option (List ℕ)). unwrap_or o []) h ∙ unwrap_or-slice_get all k [])
nth_get all k (Some x) d h e = ap (λ (o : Option (List ℕ)). unwrap_or o []) h ∙ unwrap_or-slice_get all k []

-- ---- the part of a buffer up to a place, as far as the buffer reaches

pub reached : {A : Type 0} (xs : List A) (from end : ℕ) (r : Option (Bor (List A))) (d : Bor (List A))
    → IsGetRangeResult xs from (min end (length xs)) r → d.now ≡ [] → (unwrap_or r d).now ≡ take (end - from) (drop from xs)
reached xs from end None d h k =
    k ∙ by (leb (length xs) from)
    (λ t. let n = leb-true (length xs) from t in rw (drop_of_length-le xs n) (sym (take-nil (end - from))))
    (λ t. let n = leb-false (length xs) from t in
    let z : end - from ≡ 0 = elim h.0 [ inl p ↦ omega arith | inr p ↦ omega arith ] in
    rw z refl)
reached xs from end (Some x) d h k =
    let ys = drop from xs in
    h.0.2 ∙ by (leb end (length xs))
    (λ t. let n = leb-true end (length xs) t in let e : min end (length xs) ≡ end = omega arith in rw e refl)
    (λ t. let n = leb-false end (length xs) t in
    take_all (min end (length xs) - from) ys (omega (arith, length-drop from xs)) ∙ sym (take_all (end - from) ys (omega (arith, length-drop from xs))))
