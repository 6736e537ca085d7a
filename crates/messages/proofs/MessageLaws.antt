-- The message in a content: where a `'` literal closes, and the words up to a comma. Assumes nothing.
use Rattle.std.specs.Prelude.{Some, None}
use Rattle.std.proofs.lemmas.Bool.{cond_both, and_parts}
use Rattle.std.proofs.lemmas.List.{drop_more}
use mathlib.Core.Path.{◌≡◌, refl, sym, ap, ◌∙◌}
use mathlib.Core.Bool.{false, cond, not, ◌&&◌}
use mathlib.Core.List.{List, [], ◌∷◌}
use Prim.Native.Nat.{ℕ, suc, ◌+◌, ◌≤◌, ◌<◌, zero-le, suc-le-suc}
use native.Mathlib.Omega.{arith}
use borrow.Author.Tests.{eq-eqb, ne_eqb, eqb-true, eqb-false, ltb-true, ltb-false}
use lib.Dec.{eqb, ltb}
use lib.ListN.{length, take, drop, get_or, length-take, length-drop, drop_of_length-le}
use lib.Seq.{length-take-le}
use Rattle.spec.proofs.BytesLaws.{bytes_lives, front_bytes, bytes_while, bytes_take, bytes_drop}
use Rattle.spec.proofs.RefusalBounds.{bytes_length}
use Rattle.spec.proofs.AheadLaws.{drop_two, tail_one}
use Rattle.spec.proofs.Choice.{by, cond_le, made_some, made_none}
use Rattle.spec.proofs.MessagePlaces.{no_comma}
use Rattle.spec.proofs.SpanLaws.{seen}
use Rattle.spec.proofs.WalkLaws.{while_length, while_take}
use Rattle.spec.specs.Lists.{take_while}
use Rattle.spec.specs.Map.{Marked, byte, bytes, lives, of_byte}
use Rattle.spec.specs.Raise.{close_len, message}
use Rattle.messages.specs.Readings.{literal_len, nonzero}
use Rattle.runs.specs.Sets.{trimmed}
use Rattle.runs.proofs.RunLaws.{trimmed_le, trim_bytes}

-- ---- where a literal closes

-- a length from k bytes further back, 0 staying 0
unfoldable pub later : ℕ → ℕ → ℕ
later k n = cond (eqb n 0) 0 (k + n)

later_more : (k m n : ℕ) → later k (later m n) ≡ later (k + m) n
unfolding later
later_more k m n =
    by (eqb n 0)
    (λ e. rw e)
    (λ e.
    let z : eqb (m + n) 0 ≡ false = ne_eqb (m + n) 0 (λ q. eqb-false n 0 e (omega arith)) in
    rw (e, z) (omega arith))

pub later_none : (n : ℕ) → n ≡ later 0 n
unfolding later
later_none n = by (eqb n 0) (λ e. rw e (eqb-true n 0 e)) (λ e. rw e (omega arith))

-- a quote stands within the text
pub quote_within : (xs : List ℕ) (i : ℕ) → get_or xs i 0 ≡ 39 → i < length xs
quote_within xs i h = seen xs i 38 h

module _ (a b : ℕ) (xs : List ℕ) where
  close_doubled : a ≡ 39 → b ≡ 39 → close_len (lives (a ∷ b ∷ xs)) ≡ later 2 (close_len (lives xs))
  unfolding close_len lives later
  close_doubled p q = simp (eq-eqb a 39 p, eq-eqb b 39 q)

  close_single : a ≡ 39 → (b ≡ 39 → ⊥) → close_len (lives (a ∷ b ∷ xs)) ≡ 1
  unfolding close_len lives
  close_single p q = simp (eq-eqb a 39 p, ne_eqb b 39 q)

  close_other : (a ≡ 39 → ⊥) → close_len (lives (a ∷ b ∷ xs)) ≡ later 1 (close_len (lives (b ∷ xs)))
  unfolding close_len lives later
  close_other p = simp (ne_eqb a 39 p)

-- what is left to read from i on, counted from the front
abbrev pub close_from : List ℕ → ℕ → ℕ
close_from xs i = later i (close_len (lives (drop i xs)))

module _ (xs : List ℕ) (i : ℕ) where
  module _ (h : i + 1 < length xs) where
    ahead : close_len (lives (drop i xs)) ≡ close_len (lives (get_or xs i 0 ∷ get_or xs (i + 1) 0 ∷ drop (i + 2) xs))
    ahead = ap (λ (l : List ℕ). close_len (lives l)) (drop_two xs i h)

    single : get_or xs i 0 ≡ 39 → (get_or xs (i + 1) 0 ≡ 39 → ⊥) → close_from xs i ≡ i + 1
    unfolding later
    single p q = ap (later i) (ahead ∙ close_single _ _ _ p q)

    other : (get_or xs i 0 ≡ 39 → ⊥) → close_from xs i ≡ close_from xs (i + 1)
    other p =
        ap (later i) (ahead ∙ (close_other _ _ _ p ∙ ap (λ (l : List ℕ). later 1 (close_len (lives l))) (tail_one xs i h)))
        ∙ later_more i 1 (close_len (lives (drop (i + 1) xs)))

  -- at the last byte
  module _ (h : i + 1 ≡ length xs) where
    last : drop i xs ≡ get_or xs i 0 ∷ []
    last =
        let z : length xs ≤ i + 1 = omega arith in
        drop_more xs i 0 (omega arith) ∙ ap (λ (l : List ℕ). get_or xs i 0 ∷ l) (drop_of_length-le xs z)

    last_single : get_or xs i 0 ≡ 39 → close_from xs i ≡ i + 1
    unfolding close_len lives later
    last_single p = rw last (simp (eq-eqb (get_or xs i 0) 39 p))

    last_other : (get_or xs i 0 ≡ 39 → ⊥) → close_from xs i ≡ close_from xs (i + 1)
    unfolding close_len lives later
    last_other p =
        let z : length xs ≤ i + 1 = omega arith in
        rw (last, drop_of_length-le xs z) (simp (ne_eqb (get_or xs i 0) 39 p))

  pub close_none : length xs ≤ i → close_from xs i ≡ 0
  unfolding close_len lives later
  close_none h = rw (drop_of_length-le xs h)

  pub close_pair : get_or xs i 0 ≡ 39 → get_or xs (i + 1) 0 ≡ 39 → close_from xs i ≡ close_from xs (i + 2)
  close_pair p q =
      ap (later i) (ahead (quote_within xs (i + 1) q) ∙ close_doubled _ _ _ p q) ∙ later_more i 2 (close_len (lives (drop (i + 2) xs)))

  pub close_here : i < length xs → get_or xs i 0 ≡ 39 → (get_or xs (i + 1) 0 ≡ 39 → ⊥) → close_from xs i ≡ i + 1
  close_here h p q =
      by (ltb (i + 1) (length xs)) (λ e. single (ltb-true _ _ e) p q) (λ e. last_single (omega (arith, ltb-false (i + 1) (length xs) e)) p)

  pub close_on : i < length xs → (get_or xs i 0 ≡ 39 → ⊥) → close_from xs i ≡ close_from xs (i + 1)
  close_on h p =
      by (ltb (i + 1) (length xs)) (λ e. other (ltb-true _ _ e) p) (λ e. last_other (omega (arith, ltb-false (i + 1) (length xs) e)) p)

-- the marks do not matter
close_bytes : (t : List Marked) → close_len t ≡ close_len (lives (bytes t))
unfolding close_len later lives bytes
close_bytes [] = refl
close_bytes (x ∷ []) = refl
close_bytes (x ∷ y ∷ t) =
    let closes : ℕ → ℕ → ℕ = λ m n. cond (eqb (byte x) 39) (cond (eqb (byte y) 39) (later 2 m) 1) (later 1 n) in
    ap (λ (m : ℕ). closes m (close_len (y ∷ t))) (close_bytes t)
    ∙ ap (λ (n : ℕ). closes (close_len (lives (bytes t))) n) (close_bytes (y ∷ t))

-- a literal closes within the text
close_le : (t : List Marked) → close_len t ≤ length t
unfolding close_len later
close_le [] = zero-le
close_le (x ∷ []) = cond_le (eqb (byte x) 39) _ _ _ (suc-le-suc zero-le) zero-le
close_le (x ∷ y ∷ t) =
    let two : later 2 (close_len t) ≤ suc (suc (length t)) = later_le 2 (close_len t) _ (omega (arith, close_le t)) in
    let one : later 1 (close_len (y ∷ t)) ≤ suc (suc (length t)) = later_le 1 (close_len (y ∷ t)) _ (omega (arith, close_le (y ∷ t))) in
    cond_le (eqb (byte x) 39) _ _ _ (cond_le (eqb (byte y) 39) _ _ _ two (suc-le-suc zero-le)) one
  where
    later_le : (k n m : ℕ) → k + n ≤ m → later k n ≤ m
    later_le k n m h = cond_le (eqb n 0) _ _ _ zero-le h

pub close_within : (xs : List ℕ) → close_len (lives xs) ≤ length xs
close_within xs = omega (arith, close_le (lives xs), bytes_length (lives xs), ap length (bytes_lives xs))

pub literal_le : (xs : List ℕ) → literal_len xs ≤ length xs
unfolding literal_len
literal_le xs =
    let n = close_len (lives (drop 1 xs)) in
    cond_both (eqb (get_or xs 0 0) 39 && not (eqb n 0)) (1 + n) 0 (λ (k : ℕ). k ≤ length xs)
    (λ e.
    let q = seen xs 0 38 (eqb-true (get_or xs 0 0) 39 ((and_parts (eqb (get_or xs 0 0) 39) (not (eqb n 0)) e).0)) in
    omega (arith, close_within (drop 1 xs), length-drop 1 xs))
    (λ _. zero-le)

-- ---- the message

-- the message by the bytes: a closed literal in front, else the trimmed text up to the first comma
abbrev pub message_in : List ℕ → List ℕ
message_in xs = cond (eqb (literal_len xs) 0) (trimmed (take_while no_comma xs)) (take (literal_len xs) xs)

pub message_is : (t : List Marked) (xs : List ℕ) → bytes t ≡ xs → bytes (message t) ≡ message_in xs
unfolding message literal_len
message_is t xs e =
    let m = close_len (lives (drop 1 xs)) in
    let same : close_len (drop 1 t) ≡ m = close_bytes (drop 1 t) ∙ ap (λ (l : List ℕ). close_len (lives l)) (bytes_drop 1 t ∙ ap (drop 1) e) in
    rw (same, front_bytes t, e)
    (by (eqb (get_or xs 0 0) 39 && not (eqb m 0))
    (λ q. rw (q, ne_eqb (1 + m) 0 (λ z. omega arith)) (bytes_take (1 + m) t ∙ ap (take (1 + m)) e))
    (λ q. rw q (trim_bytes (take_while (of_byte no_comma) t) ∙ ap trimmed (bytes_while no_comma t ∙ ap (take_while no_comma) e))))

-- a length that is given is the number, and it is not 0
nonzero_some : (k n : ℕ) → nonzero k ≡ Some n → (eqb k 0 ≡ false) × (k ≡ n)
nonzero_some k n = made_some (eqb k 0) k n

pub literal_within : (xs : List ℕ) (n : ℕ) → nonzero (literal_len xs) ≡ Some n → n ≡ length (take n xs)
literal_within xs n h = sym (length-take-le n xs (omega (arith, literal_le xs, (nonzero_some (literal_len xs) n h).1)))

module _ (t : List Marked) (xs : List ℕ) (e : bytes t ≡ xs) where
  -- a closed literal in front is the message
  pub message_literal : (n : ℕ) → nonzero (literal_len xs) ≡ Some n → bytes (message t) ≡ take n xs
  message_literal n h =
      let s = nonzero_some (literal_len xs) n h in
      message_is t xs e ∙ rw (s.0, s.1) refl

  -- else it is the trimmed text up to the first comma, at k
  pub message_words : (k : ℕ) → nonzero (literal_len xs) ≡ None → k ≡ length (take_while no_comma xs) → bytes (message t) ≡ trimmed (take k xs)
  message_words k h q =
      message_is t xs e
      ∙ (rw (made_none (eqb (literal_len xs) 0) (literal_len xs) h) refl
      ∙ ap trimmed (while_take no_comma xs ∙ ap (λ (n : ℕ). take n xs) (sym q)))

-- it is no longer than the text
pub message_le : (xs : List ℕ) → length (message_in xs) ≤ length xs
message_le xs =
    cond_both (eqb (literal_len xs) 0) (trimmed (take_while no_comma xs)) (take (literal_len xs) xs) (λ (l : List ℕ). length l ≤ length xs)
    (λ _. omega (arith, trimmed_le (take_while no_comma xs), while_length no_comma xs))
    (λ _. omega (arith, length-take (literal_len xs) xs))
