-- The searches for a keyword, a byte and a needle in document 01's words: what each finds is the least offset of what it seeks,
-- and none exactly if there is none. Assumes nothing.
use Rattle.std.specs.Prelude.{Some, None}
use Rattle.std.proofs.lemmas.Bool.{and_from, and_parts}
use mathlib.Core.Path.{◌≡◌, refl, sym, ◌∙◌}
use mathlib.Core.List.{List, []}
use mathlib.Core.Logic.{◌⊎◌, inr}
use Prim.Native.Nat.{ℕ, ◌+◌, ◌≤◌, ◌<◌}
use native.Mathlib.Omega.{arith}
use borrow.Author.Tests.{eqb-true, eq-eqb}
use lib.Dec.{eqb}
use lib.ListN.{length, drop, get_or}
use Rattle.spec.proofs.ByteSets.{sign_not_word}
use Rattle.spec.proofs.MapLaws.{map_length, marked_length}
use Rattle.spec.proofs.WalkLaws.{live_inside, needle_at, byte_at}
use Rattle.spec.proofs.FirstLaws.{LeastOf, NoneOf, Says, found_least, least_found, found_none, none_found, sought_least, least_sought, sought_none, none_sought}
use Rattle.spec.specs.Bytes.{is_word, prefix_by}
use Rattle.spec.specs.Map.{map_of, marked_text}
use Rattle.spec.specs.Search.{keyword_here, find_keyword, byte_here, find_in_code, needle_here, find_str_in_code}
use Rattle.spec.proofs.MatchLaws.{word_complete, IsWordAt, Same, at_prefix, prefix_at, word_sound}

-- ---- `find_keyword`

-- j is live, w matches there ignoring ASCII case, and no word byte stands on either side
abbrev pub IsKeywordAt : List ℕ → List ℕ → ℕ → Type 0
IsKeywordAt xs w j = IsWordAt is_word xs (map_of xs) w j

-- the test of a keyword passes exactly there
pub keyword_says : (xs w : List ℕ) → Says (keyword_here w) (marked_text xs) (IsKeywordAt xs w)
unfolding keyword_here marked_text
keyword_says xs w =
    record {
      sound = λ k. word_sound is_word xs (map_of xs) w (map_length xs) k;
      complete = λ k. word_complete is_word xs (map_of xs) w (map_length xs) k (sign_not_word 0 refl refl);
      inside = λ k r. omega (arith, live_inside (map_of xs) k r.is_live_lem, map_length xs, marked_length xs (map_of xs));
    }

module _ (xs w : List ℕ) (from : ℕ) where
  -- the least offset at or after the starting one
  pub keyword_found : (j : ℕ) → find_keyword xs w from ≡ Some j → LeastOf (IsKeywordAt xs w) from j
  unfolding find_keyword
  keyword_found = sought_least (keyword_here w) (marked_text xs) (IsKeywordAt xs w) (keyword_says xs w) w from

  pub found_keyword : (j : ℕ) → 0 < length w → LeastOf (IsKeywordAt xs w) from j → find_keyword xs w from ≡ Some j
  unfolding find_keyword
  found_keyword = least_sought (keyword_here w) (marked_text xs) (IsKeywordAt xs w) (keyword_says xs w) w from

  -- none exactly if none exists or the keyword is empty
  pub keyword_none : find_keyword xs w from ≡ None → (w ≡ []) ⊎ NoneOf (IsKeywordAt xs w) from
  unfolding find_keyword
  keyword_none = sought_none (keyword_here w) (marked_text xs) (IsKeywordAt xs w) (keyword_says xs w) w from

  pub none_keyword : (w ≡ []) ⊎ NoneOf (IsKeywordAt xs w) from → find_keyword xs w from ≡ None
  unfolding find_keyword
  none_keyword = none_sought (keyword_here w) (marked_text xs) (IsKeywordAt xs w) (keyword_says xs w) w from

  -- a start past the end finds none
  pub keyword_past : length xs ≤ from → find_keyword xs w from ≡ None
  keyword_past h = none_keyword (inr (λ k a r. omega (arith, live_inside (map_of xs) k r.is_live_lem, map_length xs)))

  -- nor does one with too few bytes behind it
  pub keyword_short : length xs < from + length w → find_keyword xs w from ≡ None
  keyword_short h = none_keyword (inr (λ k a r. omega (arith, r.matches.fits)))

-- ---- `find_in_code`

-- j is live and its byte is b
pub record IsByteAt (xs : List ℕ) (b j : ℕ) : Type 0 where
  pub is_live_lem : get_or (map_of xs) j 1 ≡ 0
  pub is_byte : get_or xs j 0 ≡ b

pub byte_says : (xs : List ℕ) (b : ℕ) → Says (byte_here b) (marked_text xs) (IsByteAt xs b)
unfolding marked_text
byte_says xs b =
    record {
      sound = λ k h.
          let e = sym (byte_at b xs (map_of xs) (map_length xs) k) ∙ h in
          let l = eqb (get_or (map_of xs) k 1) 0 in
          let m = eqb (get_or xs k 0) b in
          record { is_live_lem = eqb-true (get_or (map_of xs) k 1) 0 ((and_parts l m e).0); is_byte = eqb-true (get_or xs k 0) b ((and_parts l m e).1) };
      complete = λ k r.
          byte_at b xs (map_of xs) (map_length xs) k
          ∙ and_from (eqb (get_or (map_of xs) k 1) 0) (eqb (get_or xs k 0) b) (eq-eqb (get_or (map_of xs) k 1) 0 r.is_live_lem) (eq-eqb (get_or xs k 0) b r.is_byte);
      inside = λ k r. omega (arith, live_inside (map_of xs) k r.is_live_lem, map_length xs, marked_length xs (map_of xs));
    }

module _ (xs : List ℕ) (b : ℕ) where
  -- the least offset of that live byte, none exactly if there is none
  pub byte_found : (j : ℕ) → find_in_code xs b ≡ Some j → LeastOf (IsByteAt xs b) 0 j
  unfolding find_in_code
  byte_found j e = found_least (byte_here b) (marked_text xs) (IsByteAt xs b) (byte_says xs b) 0 j e

  pub found_byte : (j : ℕ) → LeastOf (IsByteAt xs b) 0 j → find_in_code xs b ≡ Some j
  unfolding find_in_code
  found_byte j r = least_found (byte_here b) (marked_text xs) (IsByteAt xs b) (byte_says xs b) 0 j r

  pub byte_none : find_in_code xs b ≡ None → NoneOf (IsByteAt xs b) 0
  unfolding find_in_code
  byte_none e = found_none (byte_here b) (marked_text xs) (IsByteAt xs b) (byte_says xs b) 0 e

  pub none_byte : NoneOf (IsByteAt xs b) 0 → find_in_code xs b ≡ None
  unfolding find_in_code
  none_byte r = none_found (byte_here b) (marked_text xs) (IsByteAt xs b) (byte_says xs b) 0 r

-- ---- `find_str_in_code`

-- j is live and the needle stands there, byte for byte
pub record IsNeedleAt (xs w : List ℕ) (j : ℕ) : Type 0 where
  pub is_live_lem : get_or (map_of xs) j 1 ≡ 0
  pub matches : Same (λ (b : ℕ). b) w xs j

pub needle_says : (xs w : List ℕ) → Says (needle_here w) (marked_text xs) (IsNeedleAt xs w)
unfolding marked_text
needle_says xs w =
    record {
      sound = λ k h.
          let l = eqb (get_or (map_of xs) k 1) 0 in
          let m = prefix_by (λ (b : ℕ). b) w (drop k xs) in
          let e = sym (needle_at w xs (map_of xs) (map_length xs) k) ∙ h in
          let q = eqb-true (get_or (map_of xs) k 1) 0 ((and_parts l m e).0) in
          record {
            is_live_lem = q;
            matches = prefix_at (λ (b : ℕ). b) w xs k (omega (arith, live_inside (map_of xs) k q, map_length xs)) ((and_parts l m e).1);
          };
      complete = λ k r.
          needle_at w xs (map_of xs) (map_length xs) k
          ∙ and_from (eqb (get_or (map_of xs) k 1) 0) (prefix_by (λ (b : ℕ). b) w (drop k xs))
          (eq-eqb (get_or (map_of xs) k 1) 0 r.is_live_lem)
          (at_prefix (λ (b : ℕ). b) w xs k r.matches);
      inside = λ k r. omega (arith, live_inside (map_of xs) k r.is_live_lem, map_length xs, marked_length xs (map_of xs));
    }

module _ (xs w : List ℕ) where
  -- the least offset of the needle
  pub needle_found : (j : ℕ) → find_str_in_code xs w ≡ Some j → LeastOf (IsNeedleAt xs w) 0 j
  unfolding find_str_in_code
  needle_found = sought_least (needle_here w) (marked_text xs) (IsNeedleAt xs w) (needle_says xs w) w 0

  pub found_needle : (j : ℕ) → 0 < length w → LeastOf (IsNeedleAt xs w) 0 j → find_str_in_code xs w ≡ Some j
  unfolding find_str_in_code
  found_needle = least_sought (needle_here w) (marked_text xs) (IsNeedleAt xs w) (needle_says xs w) w 0

  -- none exactly if none exists or the needle is empty
  pub needle_none : find_str_in_code xs w ≡ None → (w ≡ []) ⊎ NoneOf (IsNeedleAt xs w) 0
  unfolding find_str_in_code
  needle_none = sought_none (needle_here w) (marked_text xs) (IsNeedleAt xs w) (needle_says xs w) w 0

  pub none_needle : (w ≡ []) ⊎ NoneOf (IsNeedleAt xs w) 0 → find_str_in_code xs w ≡ None
  unfolding find_str_in_code
  none_needle = none_sought (needle_here w) (marked_text xs) (IsNeedleAt xs w) (needle_says xs w) w 0
