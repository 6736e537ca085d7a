-- The message of an abort in document 01's words, by offsets of its text: the definition gives exactly that part. Assumes
-- nothing.
use Rattle.std.proofs.lemmas.Bool.{and_from, and_parts}
use mathlib.Core.Path.{◌≡◌, refl, sym, ap, ◌∙◌}
use mathlib.Core.Bool.{Bool, true, false, not, ◌&&◌, false≢true}
use mathlib.Core.Logic.{◌↔◌}
use mathlib.Core.List.{List, ◌∷◌}
use Prim.Native.Nat.{ℕ, ◌+◌, ◌-◌, ◌≤◌, ◌<◌, zero-le}
use native.Mathlib.Omega.{arith}
use borrow.Author.Tests.{eqb-true, eqb-false, eq-eqb, ne_eqb, not-true, not-false}
use lib.Dec.{eqb}
use lib.ListN.{length, take, drop, get_or, length-append}
use lib.Seq.{get_or-take, length-take-le}
use Rattle.spec.proofs.ByteSets.{sign_not_w}
use Rattle.spec.proofs.BytesLaws.{bytes_take, while_length_bytes}
use Rattle.spec.proofs.Choice.{by}
use Rattle.spec.proofs.LiteralLaws.{IsLiteral, literal_exactly}
use Rattle.spec.proofs.SpanLaws.{seen}
use Rattle.spec.proofs.TrimLaws.{IsTrimmed, trimmed_some, trimmed_part, part_of_front}
use Rattle.spec.proofs.WalkLaws.{while_take, while_length, while_passes, while_fails, while_exactly}
use Rattle.spec.specs.Bytes.{is_w}
use Rattle.spec.specs.Lists.{take_while}
use Rattle.spec.specs.Map.{Marked, bytes, front_byte, of_byte}
use Rattle.spec.specs.Parts.{trim}
use Rattle.spec.specs.Raise.{close_len, message}

-- the first comma of xs stands at e; where there is none, xs ends there
pub record IsCommaEnd (xs : List ℕ) (e : ℕ) : Type 0 where
  pub inside : e ≤ length xs
  pub before : (k : ℕ) → k < e → get_or xs k 0 ≡ 44 → ⊥
  pub comma : e < length xs → get_or xs e 0 ≡ 44

-- the message of xs is its part from i up to j: the leading closed literal, else the trimmed text up to the first comma
pub data IsMessage (xs : List ℕ) : ℕ → ℕ → Type 0 where
  literal : {n : ℕ} → IsLiteral xs n → IsMessage xs 0 n
  words : {e i j : ℕ} → ((n : ℕ) → IsLiteral xs n → ⊥) → IsCommaEnd xs e → IsTrimmed (take e xs) i j → IsMessage xs i j

-- ---- up to the first comma

abbrev pub no_comma : ℕ → Bool
no_comma c = not (eqb c 44)

comma_some : (xs : List ℕ) → IsCommaEnd xs (length (take_while no_comma xs))
comma_some xs =
    record {
      inside = while_length no_comma xs;
      before = λ k h. eqb-false (get_or xs k 0) 44 (not-true (eqb (get_or xs k 0) 44) (while_passes no_comma xs 0 k h));
      comma = λ h.
          let c = get_or xs (length (take_while no_comma xs)) 0 in
          eqb-true c 44 (not-false (eqb c 44) (while_fails no_comma xs 0 h));
    }

comma_front : (t : List Marked) (e : ℕ) → IsCommaEnd (bytes t) e → take_while (of_byte no_comma) t ≡ take e t
comma_front t e w =
    let xs = bytes t in
    let n = while_exactly no_comma xs 0 e w.inside
    (λ k h. ap not (ne_eqb (get_or xs k 0) 44 (w.before k h)))
    (λ h. ap not (eq-eqb (get_or xs e 0) 44 (w.comma h))) in
    while_take (of_byte no_comma) t ∙ ap (λ (k : ℕ). take k t) (while_length_bytes no_comma t ∙ n)

-- what is trimmed of that front is a part of the text
comma_trim : (t : List Marked) (e i j : ℕ) → IsCommaEnd (bytes t) e → IsTrimmed (take e (bytes t)) i j
    → trim (take_while (of_byte no_comma) t) ≡ take (j - i) (drop i t)
comma_trim t e i j ends w =
    let bs : bytes (take e t) ≡ take e (bytes t) = bytes_take e t in
    let v : IsTrimmed (bytes (take e t)) i j = rw bs w in
    let n = length-take-le e (bytes t) ends.inside in
    ap trim (comma_front t e ends)
    ∙ (trimmed_part (take e t) i j v ∙ part_of_front (j - i) i e t (omega (arith, w.ordered, w.inside)))

-- ---- the message

module _ (t : List Marked) where
  -- the definition's test
  abbrev closed : Bool
  closed = eqb (front_byte t) 39 && not (eqb (close_len (drop 1 t)) 0)

  closed_literal : closed ≡ true → IsLiteral (bytes t) (1 + close_len (drop 1 t))
  closed_literal h =
      let a = eqb (front_byte t) 39 in
      let b = eqb (close_len (drop 1 t)) 0 in
      let n = eqb-false (close_len (drop 1 t)) 0 (not-true b ((and_parts a (not b) h).1)) in
      (literal_exactly t (1 + close_len (drop 1 t))).0 (eqb-true (front_byte t) 39 ((and_parts a (not b) h).0), omega (arith, n), refl)

  literal_closed : (n : ℕ) → IsLiteral (bytes t) n → (closed ≡ true) × (n ≡ 1 + close_len (drop 1 t))
  literal_closed n l =
      let w = (literal_exactly t n).1 l in
      let b = eqb (close_len (drop 1 t)) 0 in
      let some : b ≡ false = ne_eqb (close_len (drop 1 t)) 0 (λ q. omega (arith, w.1)) in
      (and_from (eqb (front_byte t) 39) (not b) (eq-eqb (front_byte t) 39 w.0) (ap not some), w.2)

  -- some part of every text is its message
  pub message_some : (i : ℕ) × (j : ℕ) × IsMessage (bytes t) i j
  message_some =
      by closed
      (λ h. (0, 1 + close_len (drop 1 t), literal (closed_literal h)))
      (λ h.
      let e = length (take_while no_comma (bytes t)) in
      let w = trimmed_some (take e (bytes t)) in
      (w.0, w.1, words (λ n l. false≢true (sym h ∙ (literal_closed n l).0)) (comma_some (bytes t)) w.2))

  -- and the definition gives that part
  pub message_part : (i j : ℕ) → IsMessage (bytes t) i j → message t ≡ take (j - i) (drop i t)
  unfolding message
  message_part i j (literal {n} l) =
      let w = literal_closed n l in
      let z : n - 0 ≡ 1 + close_len (drop 1 t) = omega (arith, w.1) in
      rw (w.0, z)
  message_part i j (words {e} none ends w) =
      by closed
      (λ h. absurd (none _ (closed_literal h)))
      (λ h. rw h (comma_trim t e i j ends w))

  pub message_exactly : (m : List Marked)
      → (message t ≡ m) ↔ ((i : ℕ) × (j : ℕ) × IsMessage (bytes t) i j × (m ≡ take (j - i) (drop i t)))
  message_exactly m = (
    (λ e. let w = message_some in (w.0, w.1, w.2, sym e ∙ message_part w.0 w.1 w.2)),
    (λ w. message_part w.0 w.1 w.2 ∙ sym w.3),
  )

-- a message lies within its text
pub message_within : (xs : List ℕ) (i j : ℕ) → IsMessage xs i j → (i ≤ j) × (j ≤ length xs)
message_within xs i j (literal l) =
    let n = length-append l.inside (39 ∷ l.rest) in
    (zero-le, omega (arith, l.size, ap length l.split))
message_within xs i j (words {e} none ends w) =
    let n = length-take-le e xs ends.inside in
    (w.ordered, omega (arith, w.inside, ends.inside))

-- and starts where a quote does
pub message_quote : (xs : List ℕ) (i j : ℕ) → IsMessage xs i j → get_or xs 0 0 ≡ 39 → i ≡ 0
message_quote xs i j (literal l) h = refl
message_quote xs i j (words {e} none ends w) h =
    let some = seen xs 0 38 h in
    by (eqb e 0)
    (λ q.
    let z = eqb-true e 0 q in
    let c : get_or xs 0 0 ≡ 44 = rw z at (ends.comma (omega arith)) in
    absurd (omega arith))
    (λ q.
    let z : get_or (take e xs) 0 0 ≡ 39 = get_or-take e xs 0 0 (omega (arith, eqb-false e 0 q)) ∙ h in
    by (eqb i 0) (λ r. eqb-true i 0 r)
    (λ r.
    let f = w.front 0 (omega arith) (omega (arith, eqb-false i 0 r)) in
    absurd (false≢true (sym (ap is_w z ∙ sign_not_w 39 refl) ∙ f))))
