-- Where a pattern stands first in a text: by the windows of its length, nowhere, and read back. Assumes nothing.
use Rattle.std.specs.Prelude.{nat_eq}
use Rattle.std.proofs.Common.{◌≡◌, refl, sym, ap, ◌∙◌, List, [], ◌∷◌, ℕ, ◌+◌, ◌<◌, ◌≤◌, true, false, Option, Some, None, length, drop, get_or, arith, ltb}
use Prim.Native.Nat.{zero, suc, ◌-◌}
use mathlib.Core.Bool.{Bool, and-false}
use denote.Ref.{Bor}
use lib.ListN.{take, length-drop}
use Rattle.std.specs.List.{IsSubsliceAt}
use Rattle.std.specs.Cmp.Lexicographic.{pointwise}
use Rattle.std.specs.Option.{IfSome, IsSomeAnd, MatchOption, option_map}
use Rattle.std.proofs.lemmas.Option.{none-some}
use native.Mathlib.Numerals.{add-one}
use Rattle.spans.proofs.TagLaws.{at_found, at_missed}
use borrow.Author.Tests.{lt-ltb, le-ltb, ltb-true, ltb-false}
use Rattle.spec.proofs.Choice.{by}
use Rattle.spec.specs.Bytes.{is_prefix}
use Rattle.spec.specs.Spans.{seek_len}
use Rattle.spans.specs.Places.{seek_place}

module _ (p xs : List ℕ) where
  pub place_found : (i : ℕ) → i < length xs → seek_len p xs ≡ i → Some i ≡ seek_place p xs
  place_found i h e = simp (e, lt-ltb i (length xs) h)

  pub found_at : (k : ℕ) → Some k ≡ seek_place p xs → (k ≡ seek_len p xs) × (k < length xs)
  found_at k e =
      by (ltb (seek_len p xs) (length xs))
      (λ q. let s : k ≡ seek_len p xs = cc in (s, omega (arith, s, ltb-true (seek_len p xs) (length xs) q)))
      (λ q. absurd (cc))

  pub none_found : None ≡ seek_place p xs → length xs ≤ seek_len p xs
  none_found e = by (ltb (seek_len p xs) (length xs)) (λ q. absurd (cc)) (λ q. ltb-false (seek_len p xs) (length xs) q)

  -- where the pattern does not stand at the first k places, it is looked for behind them
  seek_behind : (k : ℕ) → k ≤ length xs → ((j : ℕ) → j < k → is_prefix p (drop j xs) ≡ false) → seek_len p xs ≡ k + seek_len p (drop k xs)
  seek_behind zero h f = omega arith
  seek_behind (suc k) h f =
      omega (arith, seek_behind k (omega arith) (λ j q. f j (omega arith)), rw add-one at (at_missed xs k (omega arith) p (f k (omega arith))))

  -- from the first place where it stands, or that it stands at none
  pub find_seeks : (r : Option ℕ)
      → MatchOption r ((k : ℕ) → 0 ≤ k → k < length xs → is_prefix p (drop k xs) ≡ false)
      (λ i. (0 ≤ i) × (i < length xs) × (is_prefix p (drop i xs) ≡ true) × ((k : ℕ) → 0 ≤ k → k < i → is_prefix p (drop k xs) ≡ false))
      → r ≡ seek_place p xs
  find_seeks None h =
      let e = seek_behind (length xs) (omega arith) (λ j q. h j (omega arith) q) in
      rw (le-ltb (seek_len p xs) (length xs) (omega (arith, e))) refl
  find_seeks (Some i) h =
      place_found i h.1 (seek_behind i (omega (arith, h.1)) (λ j q. h.3 j (omega arith) q) ∙ at_found xs i h.1 p h.2)

-- a text that is too short
pub too_short : (p xs : List ℕ) → length xs < length p → is_prefix p xs ≡ false
unfolding is_prefix
too_short [] xs h = absurd (omega arith)
too_short (a ∷ p) [] h = refl
too_short (a ∷ p) (x ∷ xs) h = rw (too_short p xs (omega arith), and-false) refl

-- a text of the pattern's length starts with it where the library's equality holds
pub same_prefix : (p x : List ℕ) → length x ≡ length p → is_prefix p x ≡ pointwise nat_eq x p
unfolding is_prefix
same_prefix [] [] h = refl
same_prefix [] (x ∷ xs) h = absurd (omega arith)
same_prefix (a ∷ p) [] h = absurd (omega arith)
same_prefix (a ∷ p) (x ∷ xs) h = rw (same_prefix p xs (omega arith)) refl

-- only as many bytes as the pattern has are compared
part_of : (p xs : List ℕ) → is_prefix p (take (length p) xs) ≡ is_prefix p xs
unfolding is_prefix
part_of [] xs = refl
part_of (a ∷ p) [] = refl
part_of (a ∷ p) (x ∷ xs) = rw (part_of p xs) refl

-- from what the library says of `position` over the windows of the pattern's length: `at k` is the window at k, if there is one; Yes and No are
-- what is known of a window that passes the test, and of one that does not
module _ (p xs : List ℕ) (at : ℕ → Option (Bor (List ℕ))) (len n : ℕ) (whole : Bool) (Yes No : Bor (List ℕ) → Type 0) where
  abbrev Item : ℕ → Option (Bor (List ℕ)) → Type 0
  Item k o = IfSome o (λ x. (length x.now ≡ n) × (k + n ≤ length xs) × IsSubsliceAt n xs k x.now)

  abbrev Tells : Bool → (Bor (List ℕ) → Type 0) → Type 0
  Tells b P = (x : Bor (List ℕ)) → length x.now ≡ length p → P x → is_prefix p x.now ≡ b

  module _ (some : 0 < length p) (long : n ≡ length p) (all : whole ≡ true → len ≡ length xs + 1 - n) (items : (k : ℕ) → Item k (at k))
      (there : (k d : ℕ) → k < len → option_map (λ (x : Bor (List ℕ)). get_or x.now 0 d) (at k) ≡ Some (get_or xs k d)) where
    module _ (b : Bool) (P : Bor (List ℕ) → Type 0) (told : Tells b P) where
      window : (k : ℕ) (x : Bor (List ℕ)) → Item k (Some x) → P x → (k + length p ≤ length xs) × (is_prefix p (drop k xs) ≡ b)
      window k x h q = (
        omega (arith, h.1, long),
        sym (part_of p (drop k xs)) ∙ (ap (λ (m : ℕ). is_prefix p (take m (drop k xs))) (sym long) ∙ ap (is_prefix p) (sym h.2.0)) ∙ told x (h.0 ∙ long) q,
      )

      at_some : (k : ℕ) → IsSomeAnd (at k) P → (k + length p ≤ length xs) × (is_prefix p (drop k xs) ≡ b)
      at_some k h = go (at k) (items k) h
        where
          go : (o : Option (Bor (List ℕ))) → Item k o → IsSomeAnd o P → (k + length p ≤ length xs) × (is_prefix p (drop k xs) ≡ b)
          go None i s = absurd s
          go (Some x) i s = window k x i s

      at_each : (k : ℕ) → k < len → IfSome (at k) P → is_prefix p (drop k xs) ≡ b
      at_each k l h = go (at k) (items k) (there k 0 l) h
        where
          go : (o : Option (Bor (List ℕ))) → Item k o → option_map (λ (x : Bor (List ℕ)). get_or x.now 0 0) o ≡ Some (get_or xs k 0)
              → IfSome o P
              → is_prefix p (drop k xs) ≡ b
          go None i e s = absurd (none-some _ e)
          go (Some x) i e s = (window k x i s).1

    pub windows_seek : (K : Type 0) (r : Option ℕ)
        → MatchOption r ((whole ≡ true) × (K → (k : ℕ) → IfSome (at k) No))
        (λ i. (len ≡ i + 1) × (K → IsSomeAnd (at i) Yes × ((k : ℕ) → k < i → IsSomeAnd (at k) No)))
        → Tells true Yes
        → Tells false No
        → K
        → r ≡ seek_place p xs
    windows_seek K None h hit miss c =
        find_seeks p xs None
        (λ k a l.
        by (ltb k len)
        (λ q. at_each false No miss k (ltb-true k len q) (h.1 c k))
        (λ q. too_short p (drop k xs) (omega (arith, all h.0, long, length-drop k xs, ltb-false k len q))))
    windows_seek K (Some i) h hit miss c =
        let s = h.1 c in
        let w = at_some true Yes hit i s.0 in
        find_seeks p xs (Some i) (omega arith, omega (arith, w.0), w.1, (λ k a l. (at_some false No miss k (s.1 k l)).1))
