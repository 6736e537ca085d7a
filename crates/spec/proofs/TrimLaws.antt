-- An end that passes a test, and a text without W at both ends, by offsets: the definitions give exactly these. Assumes nothing.
use mathlib.Core.Path.{◌≡◌, refl, sym, ap, ◌∙◌}
use mathlib.Core.Bool.{Bool, true, false, cond, ◌&&◌, and-false}
use mathlib.Core.List.{List, [], ◌∷◌}
use Prim.Native.Nat.{ℕ, zero, suc, ◌+◌, ◌-◌, ◌≤◌, ◌<◌}
use native.Mathlib.Nat.{le_of_suc-le-suc}
use native.Mathlib.Omega.{arith}
use borrow.Author.Tests.{eqb-true, eqb-false, eq-eqb, ne_eqb, ltb-true, ltb-false, both_ways}
use lib.Dec.{eqb, ltb}
use lib.ListN.{length, take, drop, get_or, length-drop}
use lib.Seq.{get_or-drop, take-take}
use Rattle.spec.proofs.AheadLaws.{drop_take}
use Rattle.spec.proofs.BytesLaws.{bytes_drop, while_length_bytes, end_length_bytes}
use Rattle.spec.proofs.Choice.{by, neither_less}
use Rattle.spec.proofs.EndLaws.{drop_end_take}
use Rattle.spec.proofs.ListLaws.{empty_length, drop_end_le}
use Rattle.spec.proofs.WalkLaws.{while_drop, while_length, while_passes, while_fails, while_exactly}
use Rattle.spec.specs.Bytes.{is_w}
use Rattle.spec.specs.Lists.{is_empty, take_while, drop_while, drop_end}
use Rattle.spec.specs.Map.{Marked, bytes, of_byte}
use Rattle.spec.specs.Parts.{trim, trim_end}

-- ---- for every test

module _ {A : Type 0} (f : A → Bool) where
  end_step : (x : A) (t : List A)
      → length (drop_end f (x ∷ t)) ≡ cond (f x && eqb (length (drop_end f t)) 0) 0 (suc (length (drop_end f t)))
  unfolding drop_end
  end_step x t =
      rw (sym (empty_length (drop_end f t)))
      (by (f x && is_empty (drop_end f t)) (λ e. rw e refl) (λ e. rw e refl))

  module _ (x : A) (t : List A) where
    end_none : f x ≡ true → length (drop_end f t) ≡ 0 → length (drop_end f (x ∷ t)) ≡ 0
    end_none p q = end_step x t ∙ rw (p, eq-eqb (length (drop_end f t)) 0 q)

    end_fails : f x ≡ false → length (drop_end f (x ∷ t)) ≡ suc (length (drop_end f t))
    end_fails p = end_step x t ∙ rw p

    end_more : 0 < length (drop_end f t) → length (drop_end f (x ∷ t)) ≡ suc (length (drop_end f t))
    end_more h = end_step x t ∙ rw (ne_eqb (length (drop_end f t)) 0 (λ q. omega arith), and-false (f x))

  -- behind what is left all passes, and the last that is left does not
  pub end_passes : (t : List A) (d : A) (k : ℕ) → length (drop_end f t) ≤ k → k < length t → f (get_or t k d) ≡ true
  end_passes [] d k h b = absurd (omega arith)
  end_passes (x ∷ t) d zero h b = by (f x) (λ e. e) (λ e. absurd (omega (arith, end_fails x t e)))
  end_passes (x ∷ t) d (suc k) h b =
      let m = length (drop_end f t) in
      let less : m ≤ k =
      by (eqb m 0) (λ e. omega (arith, eqb-true m 0 e)) (λ e. omega (arith, end_more x t (omega (arith, eqb-false m 0 e)))) in
      end_passes t d k less (le_of_suc-le-suc b)

  pub end_last : (t : List A) (d : A) → 0 < length (drop_end f t) → f (get_or t (length (drop_end f t) - 1) d) ≡ false
  unfolding drop_end
  end_last [] d h = absurd (omega arith)
  end_last (x ∷ t) d h =
      let m = length (drop_end f t) in
      by (eqb m 0)
      (λ e.
      by (f x) (λ p. absurd (omega (arith, end_none x t p (eqb-true m 0 e))))
      (λ p.
      let z : length (drop_end f (x ∷ t)) - 1 ≡ 0 = omega (arith, end_fails x t p, eqb-true m 0 e) in
      ap (λ (k : ℕ). f (get_or (x ∷ t) k d)) z ∙ p))
      (λ e.
      let some : 0 < m = omega (arith, eqb-false m 0 e) in
      let z : length (drop_end f (x ∷ t)) - 1 ≡ suc (m - 1) = omega (arith, end_more x t some) in
      ap (λ (k : ℕ). f (get_or (x ∷ t) k d)) z ∙ end_last t d some)

  -- and that is how long it is: n where all from n on passes, and what stands just before n does not
  pub end_exactly : (t : List A) (d : A) (n : ℕ) → n ≤ length t → ((k : ℕ) → n ≤ k → k < length t → f (get_or t k d) ≡ true)
      → (0 < n → f (get_or t (n - 1) d) ≡ false)
      → length (drop_end f t) ≡ n
  end_exactly t d n h g e =
      let m = length (drop_end f t) in
      neither_less m n
      (λ b. both_ways _ (e (omega arith)) (end_passes t d (n - 1) (omega arith) (omega arith)))
      (λ b. both_ways _ (end_last t d (omega arith)) (g (m - 1) (omega arith) (omega (arith, drop_end_le f t))))

-- ---- W

-- all bytes of xs from i up to j are W
abbrev pub AllW : List ℕ → ℕ → ℕ → Type 0
AllW xs i j = (k : ℕ) → i ≤ k → k < j → is_w (get_or xs k 0) ≡ true

-- xs without W at both ends is its part from i up to j
pub record IsTrimmed (xs : List ℕ) (i j : ℕ) : Type 0 where
  pub ordered : i ≤ j
  pub inside : j ≤ length xs
  pub front : AllW xs 0 i
  pub behind : AllW xs j (length xs)
  pub first : i < j → is_w (get_or xs i 0) ≡ false
  pub last : i < j → is_w (get_or xs (j - 1) 0) ≡ false

-- by lengths: a is where the W in front end, k how long the rest is without those at its end
module _ (xs : List ℕ) (a k : ℕ) (p : a ≡ length (take_while is_w xs)) (q : k ≡ length (drop_end is_w (drop a xs))) where
  trimmed_places : IsTrimmed xs a (a + k)
  trimmed_places =
      let e : length (drop a xs) ≡ length xs - a = length-drop a xs in
      let w = while_length is_w xs in
      let r = drop_end_le is_w (drop a xs) in
      record {
        ordered = omega arith;
        inside = omega arith;
        front = λ m b c. while_passes is_w xs 0 m (omega arith);
        behind = λ m b c.
            let z : a + (m - a) ≡ m = omega arith in
            ap (λ (n : ℕ). is_w (get_or xs n 0)) (sym z)
            ∙ (ap is_w (sym (get_or-drop a xs (m - a) 0)) ∙ end_passes is_w (drop a xs) 0 (m - a) (omega arith) (omega arith));
        first = λ b. ap (λ (n : ℕ). is_w (get_or xs n 0)) p ∙ while_fails is_w xs 0 (omega arith);
        last = λ b.
            let z : a + (length (drop_end is_w (drop a xs)) - 1) ≡ a + k - 1 = omega arith in
            ap (λ (n : ℕ). is_w (get_or xs n 0)) (sym z)
            ∙ (ap is_w (sym (get_or-drop a xs (length (drop_end is_w (drop a xs)) - 1) 0)) ∙ end_last is_w (drop a xs) 0 (omega arith));
      }

  -- there is no other part but an empty one
  trimmed_only : (i j : ℕ) → IsTrimmed xs i j → (k ≡ j - i) × (i < j → a ≡ i)
  trimmed_only i j t =
      let l : length (drop a xs) ≡ length xs - a = length-drop a xs in
      let o = t.ordered in
      let u = t.inside in
      by (ltb i j)
      (λ b.
      let h = ltb-true i j b in
      let e : a ≡ i = p ∙ while_exactly is_w xs 0 i (omega arith) (λ m c. t.front m (omega arith) c) (λ c. t.first h) in
      let z : a + (j - i - 1) ≡ j - 1 = omega arith in (
        q ∙ end_exactly is_w (drop a xs) 0 (j - i) (omega arith)
            (λ m c d. ap is_w (get_or-drop a xs m 0) ∙ t.behind (a + m) (omega arith) (omega arith))
            (λ c. ap is_w (get_or-drop a xs (j - i - 1) 0) ∙ (ap (λ (n : ℕ). is_w (get_or xs n 0)) z ∙ t.last h)),
        λ c. e,
      ))
      (λ b.
      let h = ltb-false i j b in
      let none = end_exactly is_w (drop a xs) 0 0 (omega arith)
      (λ m c d.
      ap is_w (get_or-drop a xs m 0)
      ∙ by (ltb (a + m) i)
      (λ r. t.front (a + m) (omega arith) (ltb-true (a + m) i r))
      (λ r. t.behind (a + m) (omega (arith, ltb-false (a + m) i r)) (omega arith)))
      (λ c. absurd (omega arith)) in
      (omega arith, λ c. absurd (omega arith)))

-- what is trimmed of a marked text, by the lengths in its bytes
trim_part : (t : List Marked)
    → let a = length (take_while is_w (bytes t)) in trim t ≡ take (length (drop_end is_w (drop a (bytes t)))) (drop a t)
unfolding trim trim_end
trim_part t =
    let a = length (take_while is_w (bytes t)) in
    let skipped : drop_while (of_byte is_w) t ≡ drop a t =
    while_drop (of_byte is_w) t ∙ ap (λ (n : ℕ). drop n t) (while_length_bytes is_w t) in
    let size : length (drop_end (of_byte is_w) (drop a t)) ≡ length (drop_end is_w (drop a (bytes t))) =
    end_length_bytes is_w (drop a t) ∙ ap (λ (l : List ℕ). length (drop_end is_w l)) (bytes_drop a t) in
    ap (drop_end (of_byte is_w)) skipped
    ∙ (drop_end_take (of_byte is_w) (drop a t) ∙ ap (λ (n : ℕ). take n (drop a t)) size)

-- some part of every text is what is left of it
pub trimmed_some : (xs : List ℕ) → (i : ℕ) × (j : ℕ) × IsTrimmed xs i j
trimmed_some xs =
    let a = length (take_while is_w xs) in
    let k = length (drop_end is_w (drop a xs)) in
    (a, a + k, trimmed_places xs a k refl refl)

-- and trimming gives that part
pub trimmed_part : (t : List Marked) (i j : ℕ) → IsTrimmed (bytes t) i j → trim t ≡ take (j - i) (drop i t)
trimmed_part t i j w =
    let xs = bytes t in
    let a = length (take_while is_w xs) in
    let k = length (drop_end is_w (drop a xs)) in
    let r = trimmed_only xs a k refl refl i j w in
    let n : k ≡ j - i = r.0 in
    trim_part t
    ∙ (ap (λ (l : ℕ). take l (drop a t)) n
    ∙ by (ltb i j)
    (λ q. ap (λ (l : ℕ). take (j - i) (drop l t)) (r.1 (ltb-true i j q)))
    (λ q.
    let z : j - i ≡ 0 = omega (arith, ltb-false i j q) in
    rw z))

-- a part of a front is a part of the text
pub part_of_front : {A : Type 0} (l s k : ℕ) (t : List A) → s + l ≤ k → take l (drop s (take k t)) ≡ take l (drop s t)
part_of_front l s k t h = ap (take l) (drop_take s k t) ∙ take-take l (k - s) (drop s t) (omega arith)
