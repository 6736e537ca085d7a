-- The map of `'` and `"`: its length, the marked text that it makes, and its storing byte by byte. Assumes nothing.
use Rattle.std.proofs.lemmas.List.{drop_more}
use mathlib.Core.Path.{◌≡◌, refl, ◌∙◌}
use mathlib.Core.Bool.{not, ◌&&◌}
use mathlib.Core.List.{List, [], ◌∷◌, ◌++◌}
use Prim.Native.Nat.{ℕ, ◌+◌, ◌≤◌, ◌<◌}
use native.Mathlib.Numerals.{add-one}
use native.Mathlib.Omega.{arith}
use lib.Dec.{eqb}
use lib.ListN.{length, drop, get_or, set, drop_of_length-le}
use lib.Seq.{sets, sets-eq}
use Rattle.spec.proofs.Choice.{by}
use Rattle.spec.specs.Answers.{kept_behind}
use Rattle.spec.specs.Bytes.{is_quote}
use Rattle.spec.specs.Map.{marked}
use Rattle.spec.specs.SelectInto.{quote_after, quote_walk}
use Rattle.quotes.specs.QuoteMap.{quote_flag, quote_map_from, quote_map}

map_from_length : (q : ℕ) (xs : List ℕ) → length (quote_map_from q xs) ≡ length xs
unfolding quote_map_from
map_from_length q [] = refl
map_from_length q (c ∷ cs) = omega (arith, map_from_length (quote_after q c) cs)

-- the map has the text's length
pub quote_map_length : (xs : List ℕ) → length (quote_map xs) ≡ length xs
unfolding quote_map
quote_map_length xs = map_from_length 0 xs

walk_from : (q : ℕ) (xs r : List ℕ) → marked xs (quote_map_from q xs ++ r) ≡ quote_walk q xs
unfolding quote_map_from quote_flag quote_walk marked
walk_from q [] r = refl
walk_from q (c ∷ cs) r =
    let more = walk_from (quote_after q c) cs r in
    by (eqb q 0 && not (is_quote c)) (λ e. rw (e, more) refl) (λ e. rw (e, more) refl)

-- a text beside its map is the text of pass 4's own walk over quotes, whatever stands in the buffer behind the map
pub quote_marks : (xs d : List ℕ) → marked xs (kept_behind (quote_map xs) d) ≡ quote_walk 0 xs
unfolding kept_behind quote_map
quote_marks xs d = walk_from 0 xs (drop (length (quote_map_from 0 xs)) d)

-- the map stored at the front of a list that is long enough
pub quotes_kept : (xs d : List ℕ) → length xs ≤ length d → sets d 0 (quote_map xs) ≡ kept_behind (quote_map xs) d
unfolding kept_behind
quotes_kept xs d h =
    let z : 0 + length (quote_map xs) ≡ length (quote_map xs) = omega arith in
    sets-eq (quote_map xs) d 0 (omega (arith, quote_map_length xs)) ∙ rw z

pub quotes_start : (xs : List ℕ) → quote_map xs ≡ quote_map_from 0 (drop 0 xs)
unfolding quote_map
quotes_start xs = refl

-- one more byte stored, and none left; q is the quote that is open before i
module _ (xs : List ℕ) (i q : ℕ) (d : List ℕ) where
  pub quotes_step : i < length xs
      → sets d i (quote_map_from q (drop i xs))
      ≡ sets (set d i (quote_flag q (get_or xs i 0))) (i + 1) (quote_map_from (quote_after q (get_or xs i 0)) (drop (i + 1) xs))
  unfolding quote_map_from
  quotes_step h = rw (drop_more xs i 0 h, add-one i) refl

  pub quotes_end : length xs ≤ i → sets d i (quote_map_from q (drop i xs)) ≡ d
  unfolding quote_map_from
  quotes_end h = rw (drop_of_length-le xs h) refl
