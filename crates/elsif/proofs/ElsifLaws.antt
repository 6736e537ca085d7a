-- ELSIF rewritten from an offset on: up to the first keyword the text is copied, and behind it the walk goes on. Assumes
-- nothing.
use Rattle.std.specs.Prelude.{Some, None}
use Rattle.std.proofs.lemmas.List.{drop_more}
use mathlib.Core.Path.{◌≡◌, refl, sym, ap, ◌∙◌}
use mathlib.Core.Bool.{true, false}
use mathlib.Core.List.{List, [], ◌∷◌, ◌++◌, append-nil, reverse}
use Prim.Native.Nat.{ℕ, zero, suc, ◌+◌, ◌-◌, ◌≤◌, ◌<◌}
use native.Mathlib.Nat.{add-zero}
use native.Mathlib.Omega.{arith}
use borrow.Author.Tests.{ltb-true, ltb-false}
use lib.Dec.{ltb}
use lib.ListN.{length, take, drop, get_or, length-drop, drop_of_length-le}
use Rattle.spec.proofs.Choice.{by}
use Rattle.spec.proofs.CopyLaws.{copied, copied_all}
use Rattle.spec.proofs.FirstLaws.{first_least}
use Rattle.spec.proofs.LengthLaws.{word_in}
use Rattle.spec.proofs.BytesLaws.{bytes_take, bytes_drop, bytes_append}
use Rattle.spec.proofs.WalkLaws.{starts_length, before_next, passes_at}
use Rattle.spec.specs.Bytes.{ascii, is_word}
use Rattle.spec.specs.Elsif.{elsif_from, elsif}
use Rattle.spec.specs.Map.{Marked, live, byte, bytes, lives, front_byte}
use Rattle.spec.specs.Search.{Test, first, word_here, keyword_here}
use Rattle.output.proofs.WriterLaws.{Left, left_more}
use Rattle.output.specs.Written.{Wrote}
use Rattle.output.specs.declared.Writer.{Writer}

abbrev pub keyword : Test
keyword = keyword_here (ascii "ELSIF")

-- what stands from i on, rewritten
abbrev pub elsif_at : List Marked → ℕ → List Marked
elsif_at t i = elsif_from 0 (front_byte (reverse (take i t))) (drop i t)

-- one step of the walk
from_copy : (p : ℕ) (u v : List Marked) (x : Marked) → u ≡ x ∷ v → word_here is_word (ascii "ELSIF") p u ≡ false
    → elsif_from 0 p u ≡ x ∷ elsif_from 0 (byte x) v
unfolding elsif_from
from_copy p u v x q e = rw q (simp (rw q at e))

from_put : (p : ℕ) (u v : List Marked) (x : Marked) → u ≡ x ∷ v → word_here is_word (ascii "ELSIF") p u ≡ true
    → elsif_from 0 p u ≡ lives (ascii "ELSEIF") ++ elsif_from 4 (byte x) v
unfolding elsif_from
from_put p u v x q e = rw q (simp (rw q at e))

from_skip : (k p : ℕ) (u v : List Marked) (x : Marked) → u ≡ x ∷ v → elsif_from (suc k) p u ≡ elsif_from k (byte x) v
unfolding elsif_from
from_skip k p u v x q = rw q refl

from_end : (k p : ℕ) (u : List Marked) → u ≡ [] → elsif_from k p u ≡ []
unfolding elsif_from
from_end k p u q = rw q refl

module _ (t : List Marked) where
  -- k bytes passed over
  skipped : (k i : ℕ) → elsif_from k (front_byte (reverse (take i t))) (drop i t) ≡ elsif_at t (i + k)
  skipped zero i = rw add-zero refl
  skipped (suc k) i =
      let n : i + suc k ≡ i + 1 + k = omega arith in
      by (ltb i (length t))
      (λ e.
      let h = ltb-true i (length t) e in
      rw n
      (from_skip k (front_byte (reverse (take i t))) (drop i t) (drop (i + 1) t) (get_or t i (live 0)) (drop_more t i (live 0) h)
      ∙ (ap (λ (b : ℕ). elsif_from k b (drop (i + 1) t)) (before_next t i h) ∙ skipped k (i + 1))))
      (λ e.
      let h = ltb-false i (length t) e in
      let m : length t ≤ i + suc k = omega arith in
      from_end (suc k) _ (drop i t) (drop_of_length-le t h) ∙ sym (from_end 0 _ (drop (i + suc k) t) (drop_of_length-le t m)))

  copies : (i : ℕ) → i < length t → passes_at keyword t i ≡ false → elsif_at t i ≡ (get_or t i (live 0) ∷ []) ++ elsif_at t (i + 1)
  unfolding keyword_here
  copies i h e =
      from_copy (front_byte (reverse (take i t))) (drop i t) (drop (i + 1) t) (get_or t i (live 0)) (drop_more t i (live 0) h) e
      ∙ ap (λ (b : ℕ). get_or t i (live 0) ∷ elsif_from 0 b (drop (i + 1) t)) (before_next t i h)

  puts : (i : ℕ) → i < length t → passes_at keyword t i ≡ true → elsif_at t i ≡ lives (ascii "ELSEIF") ++ elsif_at t (i + 5)
  unfolding keyword_here
  puts i h e =
      let n : i + 1 + 4 ≡ i + 5 = omega arith in
      from_put (front_byte (reverse (take i t))) (drop i t) (drop (i + 1) t) (get_or t i (live 0)) (drop_more t i (live 0) h) e
      ∙ (ap (λ (b : ℕ). lives (ascii "ELSEIF") ++ elsif_from 4 b (drop (i + 1) t)) (before_next t i h)
      ∙ ap (λ (l : List Marked). lives (ascii "ELSEIF") ++ l) (skipped 4 (i + 1) ∙ ap (elsif_at t) n))

  module _ (i j : ℕ) (e : first keyword i t ≡ Some j) where
    -- the text up to the keyword, ELSEIF, and what stands behind the keyword rewritten
    pub elsif_hit : elsif_at t i ≡ take (j - i) (drop i t) ++ (lives (ascii "ELSEIF") ++ elsif_at t (j + 5))
    elsif_hit =
        let r = first_least keyword t i j e in
        copied (λ (l m : List Marked). l ++ m) (λ b. refl) (λ x l b. refl) keyword t (elsif_at t) copies i j e
        ∙ ap (λ (l : List Marked). take (j - i) (drop i t) ++ l) (puts j r.inside r.passes)

    -- the keyword stands within the text
    pub elsif_within : (i ≤ j) × (j + 5 ≤ length t)
    unfolding keyword_here
    elsif_within =
        let r = first_least keyword t i j e in
        let m = starts_length (ascii "ELSIF") (drop j t) (word_in is_word (ascii "ELSIF") (front_byte (reverse (take j t))) (drop j t) r.passes) in
        (r.from, omega (arith, length-drop j t, r.inside))

  -- without a keyword nothing changes
  pub elsif_last : (i : ℕ) → first keyword i t ≡ None → elsif_at t i ≡ drop i t
  elsif_last i e =
      copied_all (λ (l m : List Marked). l ++ m) (λ b. refl) (λ x l b. refl) keyword t (elsif_at t) copies [] (λ k h. from_end 0 _ (drop k t) (drop_of_length-le t h)) i e
      ∙ append-nil (drop i t)

  pub elsif_all : elsif t ≡ elsif_at t 0
  unfolding elsif front_byte
  elsif_all = refl

-- ---- the same on the bytes

module _ (t : List Marked) where
  abbrev pub rest_at : ℕ → List ℕ
  rest_at i = bytes (elsif_at t i)

  pub rest_all : bytes (elsif t) ≡ rest_at 0
  rest_all = ap bytes (elsif_all t)

  pub rest_last : (i : ℕ) → first keyword i t ≡ None → rest_at i ≡ drop i (bytes t)
  rest_last i e = ap bytes (elsif_last t i e) ∙ bytes_drop i t

  -- up to the keyword found, and behind it
  pub rest_hit : (i j : ℕ) → first keyword i t ≡ Some j → rest_at i ≡ take (j - i) (drop i (bytes t)) ++ (ascii "ELSEIF" ++ rest_at (j + 5))
  unfolding bytes lives
  rest_hit i j e =
      ap bytes (elsif_hit t i j e)
      ∙ (bytes_append (take (j - i) (drop i t)) (lives (ascii "ELSEIF") ++ elsif_at t (j + 5))
      ∙ ap (λ (l : List ℕ). l ++ (ascii "ELSEIF" ++ rest_at (j + 5))) (bytes_take (j - i) (drop i t) ∙ ap (take (j - i)) (bytes_drop i t)))

-- where the keyword found stands
pub within_at : (t : List Marked) (i j : ℕ) → Some j ≡ first keyword i t → (i ≤ j) × (j + 5 ≤ length t)
within_at t i j e = elsif_within t i j (sym e)

-- the text up to the keyword is written, then ELSEIF
pub elsif_turn : (t : List Marked) (text : List ℕ) {a b c d : Writer} (i j : ℕ) → Some j ≡ first keyword i t
    → Left a text b (rest_at t i)
    → Wrote b (take (j - i) (drop i (bytes t))) c
    → Wrote c (ascii "ELSEIF") d
    → Left a text d (rest_at t (j + 5))
elsif_turn t text i j e l p q =
    left_more text _ (ascii "ELSEIF") (rest_at t (j + 5)) (left_more text _ _ _ l (rest_hit t i j (sym e)) p) refl q
