-- The starts of the pieces in document 01's words: they rise, and each is one behind a live separator. Assumes nothing.
use Rattle.std.proofs.lemmas.Bool.{cond_both}
use mathlib.Core.Path.{◌≡◌, refl, ap, ◌∙◌}
use mathlib.Core.Bool.{true}
use mathlib.Core.List.{List, [], ◌∷◌}
use Prim.Native.Nat.{ℕ, zero, suc, ◌+◌, ◌-◌, ◌≤◌, ◌<◌, zero-le, suc-le-suc}
use native.Mathlib.Nat.{le_of_suc-le-suc}
use native.Mathlib.Omega.{arith}
use borrow.Author.Tests.{eqb-true, eqb-false}
use lib.Dec.{eqb}
use lib.ListN.{length, get_or}
use Rattle.spec.proofs.Choice.{by}
use Rattle.spec.proofs.MapLaws.{text_length}
use Rattle.spec.proofs.WalkLaws.{climb, passes_at, cuts_from, cuts_at, starts_cuts, cuts_end, cuts_hit, cuts_miss}
use Rattle.spec.proofs.FirstLaws.{NoneOf}
use Rattle.spec.specs.Lists.{keep}
use Rattle.spec.specs.Map.{Marked, marked_text, is_live_byte}
use Rattle.spec.specs.Search.{Test, byte_here, pieces, split_in_code}
use Rattle.spec.proofs.SearchLaws.{IsByteAt, byte_says}

-- ---- `split_in_code`

-- the first piece starts at 0, the others just behind each live b
pub split_cuts : (xs : List ℕ) (b : ℕ) → split_in_code xs b ≡ 0 ∷ cuts_from (byte_here b) [] (marked_text xs)
unfolding split_in_code pieces
split_cuts xs b = starts_cuts (byte_here b) [] (marked_text xs)

cuts_count : (b : ℕ) (back u : List Marked) → length (cuts_from (byte_here b) back u) ≡ length (keep (is_live_byte b) u)
unfolding cuts_from keep byte_here
cuts_count b back [] = refl
cuts_count b back (x ∷ u) =
    by (is_live_byte b x) (λ e. rw e (ap suc (cuts_count b (x ∷ back) u))) (λ e. rw e (cuts_count b (x ∷ back) u))

-- one more piece than there are live bytes b
pub split_count : (xs : List ℕ) (b : ℕ) → length (split_in_code xs b) ≡ suc (length (keep (is_live_byte b) (marked_text xs)))
split_count xs b = ap length (split_cuts xs b) ∙ ap suc (cuts_count b [] (marked_text xs))

-- each number is below the next
abbrev pub Rises : List ℕ → Type 0
Rises l = (k : ℕ) → suc k < length l → get_or l k 0 < get_or l (suc k) 0

rises_front : (i a : ℕ) (l : List ℕ) → i < a → Rises (a ∷ l) → Rises (i ∷ a ∷ l)
rises_front i a l h r zero k = h
rises_front i a l h r (suc n) k = r n (le_of_suc-le-suc k)

rises_over : (i a : ℕ) (l : List ℕ) → i < a → Rises (a ∷ l) → Rises (i ∷ l)
rises_over i a [] h r n k = absurd (omega arith)
rises_over i a (b ∷ l) h r zero k = omega (arith, r 0 (omega arith))
rises_over i a (b ∷ l) h r (suc n) k = r (suc n) k

-- each number is at most n
abbrev pub AtMost : ℕ → List ℕ → Type 0
AtMost n l = (k : ℕ) → k < length l → get_or l k 0 ≤ n

most_front : (n a : ℕ) (l : List ℕ) → a ≤ n → AtMost n l → AtMost n (a ∷ l)
most_front n a l h r zero k = h
most_front n a l h r (suc m) k = r m (le_of_suc-le-suc k)

-- for every test the cuts rise, from the place where the walk starts on
pub cuts_rise : (p : Test) (back u : List Marked) → Rises (length back ∷ cuts_from p back u)
unfolding cuts_from
cuts_rise p back [] = λ k h. absurd (omega arith)
cuts_rise p back (x ∷ u) =
    let more = cuts_rise p (x ∷ back) u in
    cond_both (p back (x ∷ u)) _ _ (λ (l : List ℕ). Rises (length back ∷ l))
    (λ e. rises_front (length back) (suc (length back)) (cuts_from p (x ∷ back) u) (omega arith) more)
    (λ e. rises_over (length back) (suc (length back)) (cuts_from p (x ∷ back) u) (omega arith) more)

-- and stay within the text
pub cuts_within : (p : Test) (back u : List Marked) → AtMost (length back + length u) (cuts_from p back u)
unfolding cuts_from
cuts_within p back [] = λ k h. absurd (omega arith)
cuts_within p back (x ∷ u) =
    let n : suc (length back) + length u ≡ length back + suc (length u) = omega arith in
    let more : AtMost (length back + suc (length u)) (cuts_from p (x ∷ back) u) = rw n at (cuts_within p (x ∷ back) u) in
    cond_both (p back (x ∷ u)) _ _ (λ (l : List ℕ). AtMost (length back + suc (length u)) l)
    (λ e. most_front (length back + suc (length u)) (suc (length back)) (cuts_from p (x ∷ back) u) (omega arith) more)
    (λ e. more)

-- the starts rise
pub split_rises : (xs : List ℕ) (b : ℕ) → Rises (split_in_code xs b)
split_rises xs b = rw (split_cuts xs b) (cuts_rise (byte_here b) [] (marked_text xs))

-- and none is past the text's end
pub split_within : (xs : List ℕ) (b : ℕ) → AtMost (length xs) (split_in_code xs b)
split_within xs b =
    let n : 0 + length (marked_text xs) ≡ length xs = omega (arith, text_length xs) in
    rw (split_cuts xs b)
    (most_front (length xs) 0 (cuts_from (byte_here b) [] (marked_text xs)) zero-le (rw n at (cuts_within (byte_here b) [] (marked_text xs))))

-- each cut stands just behind a place that passes, and each place that passes has its cut
pub cut_sound : (p : Test) (t : List Marked) (i k : ℕ) → k < length (cuts_at p t i) → passes_at p t (get_or (cuts_at p t i) k 0 - 1) ≡ true
cut_sound p t i =
    climb (λ (m : ℕ). (k : ℕ) → k < length (cuts_at p t m) → passes_at p t (get_or (cuts_at p t m) k 0 - 1) ≡ true) (length t)
    (λ m h k a. absurd (omega (arith, ap length (cuts_end p t m h))))
    (λ m h more.
    by (passes_at p t m)
    (λ q. rw (cuts_hit p t m h q) (front m q more))
    (λ q. rw (cuts_miss p t m h q) more))
    i
  where
    front : (m : ℕ) → passes_at p t m ≡ true
        → ((k : ℕ) → k < length (cuts_at p t (m + 1)) → passes_at p t (get_or (cuts_at p t (m + 1)) k 0 - 1) ≡ true)
        → (k : ℕ) → k < length ((m + 1) ∷ cuts_at p t (m + 1)) → passes_at p t (get_or ((m + 1) ∷ cuts_at p t (m + 1)) k 0 - 1) ≡ true
    front m q more zero a = let e : m + 1 - 1 ≡ m = omega arith in rw e q
    front m q more (suc k) a = more k (le_of_suc-le-suc a)

pub cut_complete : (p : Test) (t : List Marked) (i j : ℕ) → i ≤ j → j < length t → passes_at p t j ≡ true → (k : ℕ) × (k < length (cuts_at p t i)) × (get_or (cuts_at p t i) k 0 ≡ j + 1)
cut_complete p t i j a b q =
    climb (λ (m : ℕ). m ≤ j → (k : ℕ) × (k < length (cuts_at p t m)) × (get_or (cuts_at p t m) k 0 ≡ j + 1)) (length t)
    (λ m h c. absurd (omega arith))
    (λ m h more c.
    by (eqb m j)
    (λ e.
    let same = eqb-true m j e in
    rw (cuts_hit p t m h (rw same q)) (0, omega arith, omega arith))
    (λ e.
    let r = more (omega (arith, eqb-false m j e)) in
    by (passes_at p t m)
    (λ u. rw (cuts_hit p t m h u) (suc r.0, suc-le-suc r.1, r.2))
    (λ u. rw (cuts_miss p t m h u) r)))
    i a

-- so each start but the first stands just behind a live b, and each live b has the start behind it
pub split_sound : (xs : List ℕ) (b k : ℕ) → suc k < length (split_in_code xs b) → IsByteAt xs b (get_or (split_in_code xs b) (suc k) 0 - 1)
split_sound xs b k = rw (split_cuts xs b) (λ h. (byte_says xs b).sound _ (cut_sound (byte_here b) (marked_text xs) 0 k (le_of_suc-le-suc h)))

pub split_complete : (xs : List ℕ) (b j : ℕ) → IsByteAt xs b j → (k : ℕ) × (suc k < length (split_in_code xs b)) × (get_or (split_in_code xs b) (suc k) 0 ≡ j + 1)
split_complete xs b j r =
    let s = byte_says xs b in
    let c = cut_complete (byte_here b) (marked_text xs) 0 j zero-le (s.inside j r) (s.complete j r) in
    rw (split_cuts xs b) (c.0, suc-le-suc c.1, c.2)

-- a text with no live b is one piece
pub split_none : (xs : List ℕ) (b : ℕ) → NoneOf (IsByteAt xs b) 0 → split_in_code xs b ≡ 0 ∷ []
split_none xs b r = one (split_in_code xs b) (cuts_from (byte_here b) [] (marked_text xs)) (split_cuts xs b) (split_sound xs b)
  where
    one : (l m : List ℕ) → l ≡ 0 ∷ m → ((k : ℕ) → suc k < length l → IsByteAt xs b (get_or l (suc k) 0 - 1)) → l ≡ 0 ∷ []
    one l [] e s = e
    one l (a ∷ m) e s = absurd (r (get_or l 1 0 - 1) zero-le (s 0 (rw e (omega arith))))
