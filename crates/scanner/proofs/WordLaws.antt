-- Steps over the bytes that pass a test, and the next word compared with a given one.
-- Assumes nothing.
use mathlib.Core.Path.{◌≡◌, refl, sym, ap, ◌∙◌}
use mathlib.Core.Bool.{Bool, ◌&&◌}
use mathlib.Core.List.{List}
use Prim.Native.Nat.{ℕ, zero, suc, ◌+◌, ◌-◌, ◌≤◌, ◌<◌}
use native.Mathlib.Omega.{arith}
use lib.Dec.{eqb}
use lib.ListN.{length, take, drop, get_or, length-drop}
use lib.Seq.{drop-drop}
use Rattle.std.specs.List.{range_with_len, take_while as library_take_while}
use Rattle.std.proofs.lemmas.List.Sums.{take_while-cons}
use Rattle.std.proofs.lemmas.List.{take-map}
use Rattle.spec.specs.Bytes.{upper, prefix_by}
use Rattle.spec.specs.Lists.{take_while}
use Rattle.spec.specs.Map.{Marked, live, byte, bytes}
use Rattle.spec.specs.Search.{is_skipped, is_word_mark, next_word, is_word_text}
use Rattle.spec.proofs.BytesLaws.{bytes_drop}
use Rattle.spec.proofs.Choice.{by}
use Rattle.spec.proofs.RunPlaces as places
use Rattle.spec.proofs.WalkLaws.{starts_case, while_take, while_drop, while_length}
use Rattle.runs.proofs.RunLaws as runs

-- ---- where the bytes that pass a test end

module _ (f : Marked → Bool) (t : List Marked) where
  -- the run over the offsets from i on, of which n are left
  abbrev pub passes : ℕ → Bool
  passes i = f (get_or t i (live 0))

  pub run_of_range : (n i : ℕ) → length t - i ≡ n → i + length (library_take_while passes (range_with_len i n)) ≡ places.end_from f t i
  run_of_range zero i h = omega (arith, runs.end_past f t i (omega arith))
  run_of_range (suc n) i h =
      let more = run_of_range n (i + 1) (omega arith) in
      rw take_while-cons
      (by (passes i)
      (λ e. rw e (omega (arith, more, runs.end_step f t i (live 0) (omega arith) e)))
      (λ e. rw e (omega (arith, runs.end_here f t i (live 0) (omega arith) e))))

-- ---- the next word

-- the bytes skipped from `from` on end at s, and the word bytes from s on end at e
module _ (t : List Marked) (from s e : ℕ) (hs : s ≡ places.end_from is_skipped t from) (he : e ≡ places.end_from is_word_mark t s) where
  word_text_lem : next_word (drop from t) ≡ take_while is_word_mark (drop s t)
  unfolding next_word
  word_text_lem =
      ap (λ (u : List Marked). take_while is_word_mark u)
      (while_drop is_skipped (drop from t)
      ∙ (drop-drop (length (take_while is_skipped (drop from t))) from t
      ∙ ap (λ (n : ℕ). drop n t) (sym hs)))

  word_length : length (take_while is_word_mark (drop s t)) ≡ e - s
  word_length = omega arith

  word_bytes : bytes (take_while is_word_mark (drop s t)) ≡ take (e - s) (drop s (bytes t))
  unfolding bytes
  word_bytes =
      ap bytes (while_take is_word_mark (drop s t))
      ∙ (ap (λ (n : ℕ). bytes (take n (drop s t))) word_length
      ∙ (sym (take-map byte (e - s) (drop s t)) ∙ ap (λ (l : List ℕ). take (e - s) l) (bytes_drop s t)))

  -- a word that is not empty stands within the text
  pub word_within : s < e → e ≤ length t
  word_within h = omega (arith, while_length is_word_mark (drop s t), length-drop s t)

  -- comparing it compares its length, then that part of the text
  pub word_is : (w : List ℕ) → is_word_text w (next_word (drop from t)) ≡ (eqb (e - s) (length w) && prefix_by upper w (take (e - s) (drop s (bytes t))))
  unfolding is_word_text
  word_is w = rw (word_text_lem, starts_case, word_length, word_bytes) refl
