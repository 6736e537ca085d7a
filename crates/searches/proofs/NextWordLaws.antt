-- The next word by its two ends, as the search reads them. Assumes nothing.
use Rattle.std.specs.Prelude.{Some, None}
use mathlib.Core.Path.{◌≡◌, sym, ap, ◌∙◌}
use mathlib.Core.List.{List, []}
use Prim.Native.Nat.{ℕ, ◌+◌, ◌-◌, ◌≤◌, ◌<◌}
use native.Mathlib.Omega.{arith}
use lib.ListN.{length, take, drop}
use Rattle.scanner.proofs.WordLaws.{word_within}
use Rattle.spec.specs.Lists.{take_while}
use Rattle.spec.specs.Map.{Marked, marked_text}
use Rattle.spec.specs.Search.{is_skipped, is_word_mark, word_place, word_text}
use Rattle.spec.proofs.MapLaws.{text_length}
use Rattle.spec.proofs.NextWord.{word_nowhere, word_start, word_length, word_place_lem, word_part_lem, word_empty}

-- the text xs with its map is t
module _ (xs : List ℕ) (t : List Marked) (from s e : ℕ) (hm : t ≡ marked_text xs)
    (hs : s ≡ from + length (take_while is_skipped (drop from t)))
    (he : e ≡ s + length (take_while is_word_mark (drop s t))) where
  starts_at : s ≡ word_start xs from
  unfolding word_start
  starts_at = hs ∙ ap (λ (u : List Marked). from + length (take_while is_skipped (drop from u))) hm

  ends_at : e ≡ s + length (word_text xs from)
  ends_at =
      he ∙ (ap (λ (u : List Marked). s + length (take_while is_word_mark (drop s u))) hm
      ∙ (ap (λ (n : ℕ). s + length (take_while is_word_mark (drop n (marked_text xs)))) starts_at
      ∙ ap (λ (n : ℕ). s + n) (sym (word_length xs from))))

  -- a word that is not empty stands within the text
  pub found_within : s < e → e ≤ length xs
  found_within h = omega (arith, word_within t from s e hs he h, ap length hm, text_length xs)

  pub found_place : s < e → word_place xs from ≡ Some s
  found_place h = word_place_lem xs from (omega (arith, ends_at)) ∙ ap Some (sym starts_at)

  pub found_text : s < e → take (e - s) (drop s xs) ≡ word_text xs from
  found_text h =
      let k : length (word_text xs from) ≡ e - s = omega (arith, ends_at) in
      sym (word_part_lem xs from s (found_place h) ∙ ap (λ (n : ℕ). take n (drop s xs)) k)

  pub none_place : e ≤ s → word_place xs from ≡ None
  none_place h = word_nowhere xs from (omega (arith, ends_at))

  pub none_text : e ≤ s → word_text xs from ≡ []
  none_text h = word_empty xs from (none_place h)
