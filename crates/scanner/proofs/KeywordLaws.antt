-- A keyword at an offset of a text and its map. Assumes nothing.
use Rattle.std.specs.Prelude.{Some, None}
use mathlib.Core.Path.{◌≡◌, refl, sym, ap, ◌∙◌}
use mathlib.Core.Bool.{Bool, true, false, cond, not, ◌&&◌, and-false}
use mathlib.Core.List.{List, reverse}
use Prim.Native.Nat.{ℕ, ◌+◌, ◌-◌, ◌≤◌, ◌<◌}
use native.Mathlib.Omega.{arith}
use lib.Dec.{eqb}
use lib.ListN.{length, take, drop, get_or, length-drop}
use lib.Seq.{drop-drop}
use Rattle.spec.proofs.Choice.{by}
use Rattle.classes.proofs.BackLaws.{byte_back}
use Rattle.spec.proofs.MapLaws.{marked_length, marked_bytes}
use Rattle.spec.proofs.WalkLaws.{prefix_by_len, prefix_hit, prefix_miss, prefix_whole, starts_case_at, passes_at, front_live_lem, front_byte_lem, first_hit, first_miss}
use Rattle.spec.proofs.FirstLaws.{none_first}
use Rattle.spec.specs.Bytes.{is_word, upper, prefix_by}
use Rattle.spec.specs.Map.{marked, front_byte}
use Rattle.spec.specs.Search.{first, word_here, keyword_here}
use Rattle.scanner.specs.Edges.{edges}

-- a word that stands at offset i fits the text
pub prefix_fits : (w xs : List ℕ) (i : ℕ) → i < length xs → prefix_by upper w (drop i xs) ≡ true → i + length w ≤ length xs
prefix_fits w xs i h e = omega (arith, prefix_by_len upper w (drop i xs) e, length-drop i xs)

-- a word's rest stands behind offset i from its byte j on: one byte more
pub next_byte : (f : ℕ → ℕ) (w xs : List ℕ) (i j : ℕ) → j < length w → i + j < length xs → f (get_or xs (i + j) 0) ≡ f (get_or w j 0)
    → prefix_by f (drop j w) (drop (i + j) xs) ≡ prefix_by f (drop (j + 1) w) (drop (i + (j + 1)) xs)
next_byte f w xs i j a b e =
    let k : i + (j + 1) ≡ i + j + 1 = omega arith in
    rw k (prefix_hit f w xs j (i + j) a b e)

-- a word that no byte of a set touches, by the bytes and the map; p is the byte before
pub word_here_lem : (set : ℕ → Bool) (w xs ms : List ℕ) (p i : ℕ) → i < length xs
    → word_here set w p (drop i (marked xs ms))
    ≡ (eqb (get_or ms i 0) 0 && (prefix_by upper w (drop i xs) && (not (set p) && not (set (get_or xs (i + length w) 0)))))
unfolding word_here
word_here_lem set w xs ms p i h =
    rw (drop-drop (length w) i (marked xs ms), front_live_lem xs ms i h, starts_case_at w xs ms i, front_byte_lem xs ms (i + length w)) refl

-- the byte before offset i
pub byte_behind : (xs ms : List ℕ) (i : ℕ) → i ≤ length xs
    → front_byte (reverse (take i (marked xs ms))) ≡ cond (eqb i 0) 0 (get_or xs (i - 1) 0)
byte_behind xs ms i h = byte_back (marked xs ms) xs i (sym (marked_bytes xs ms)) (rw marked_length h)

-- a keyword by the byte before it
pub keyword_by_byte : (w xs ms : List ℕ) (i : ℕ) → i < length xs
    → keyword_here w (reverse (take i (marked xs ms))) (drop i (marked xs ms))
    ≡ word_here is_word w (cond (eqb i 0) 0 (get_or xs (i - 1) 0)) (drop i (marked xs ms))
unfolding keyword_here
keyword_by_byte w xs ms i h = rw (byte_behind xs ms i (omega arith)) refl

regroup : (m a b c : Bool) → (m && (a && (b && c))) ≡ ((m && (b && c)) && a)
regroup true true true true = refl
regroup true true true false = refl
regroup true true false c = refl
regroup true false true true = refl
regroup true false true false = refl
regroup true false false c = refl
regroup false a b c = refl

-- the edges at offset i, by the bytes and the map
pub edges_marked : (xs ms : List ℕ) (n i : ℕ) → i < length xs
    → edges (marked xs ms) n i ≡ (eqb (get_or ms i 0) 0 && (not (is_word (cond (eqb i 0) 0 (get_or xs (i - 1) 0))) && not (is_word (get_or xs (i + n) 0))))
unfolding edges
edges_marked xs ms n i h = rw (front_live_lem xs ms i h, byte_behind xs ms i (omega arith), front_byte_lem xs ms (i + n)) refl

module _ (xs ms w : List ℕ) where
  -- whether a keyword stands at i: it stands there in some letter case, and its edges are right
  pub key_here : (i : ℕ) → i < length xs → passes_at (keyword_here w) (marked xs ms) i ≡ (edges (marked xs ms) (length w) i && prefix_by upper w (drop i xs))
  unfolding keyword_here
  key_here i h =
      rw (word_here_lem is_word w xs ms (front_byte (reverse (take i (marked xs ms)))) i h, edges_marked xs ms (length w) i h, byte_behind xs ms i (omega arith))
      (regroup (eqb (get_or ms i 0) 0) (prefix_by upper w (drop i xs))
      (not (is_word (cond (eqb i 0) 0 (get_or xs (i - 1) 0)))) (not (is_word (get_or xs (i + length w) 0))))

  pub key_edge : (i : ℕ) → i < length xs → edges (marked xs ms) (length w) i ≡ false → first (keyword_here w) i (marked xs ms) ≡ first (keyword_here w) (i + 1) (marked xs ms)
  key_edge i h e = first_miss (keyword_here w) (marked xs ms) i (rw marked_length h) (key_here i h ∙ simp e)

  pub key_off : (i : ℕ) → i < length xs → prefix_by upper w (drop i xs) ≡ false → first (keyword_here w) i (marked xs ms) ≡ first (keyword_here w) (i + 1) (marked xs ms)
  key_off i h e = first_miss (keyword_here w) (marked xs ms) i (rw marked_length h) (key_here i h ∙ (ap (λ (b : Bool). edges (marked xs ms) (length w) i && b) e ∙ and-false (edges (marked xs ms) (length w) i)))

  -- the first byte of the word differs
  pub key_initial : (i : ℕ) → 0 < length w → i < length xs → (upper (get_or xs i 0) ≡ upper (get_or w 0 0) → ⊥) → first (keyword_here w) i (marked xs ms) ≡ first (keyword_here w) (i + 1) (marked xs ms)
  key_initial i e h n = key_off i h (prefix_miss upper w xs 0 i e h n)

  -- a later byte differs, the rest from it on being what is left to compare
  pub key_differs : (i j : ℕ) → prefix_by upper w (drop i xs) ≡ prefix_by upper (drop j w) (drop (i + j) xs) → j < length w → i + j < length xs
      → (upper (get_or xs (i + j) 0) ≡ upper (get_or w j 0) → ⊥) → first (keyword_here w) i (marked xs ms) ≡ first (keyword_here w) (i + 1) (marked xs ms)
  key_differs i j e a b n = key_off i (omega arith) (e ∙ prefix_miss upper w xs j (i + j) a b n)

  -- all its bytes are compared
  pub key_whole : (i j : ℕ) → prefix_by upper w (drop i xs) ≡ prefix_by upper (drop j w) (drop (i + j) xs) → length w ≤ j → prefix_by upper w (drop i xs) ≡ true
  key_whole i j e h = e ∙ prefix_whole upper w xs j (i + j) h

  pub key_hit : (i : ℕ) → i < length xs → edges (marked xs ms) (length w) i ≡ true → prefix_by upper w (drop i xs) ≡ true → first (keyword_here w) i (marked xs ms) ≡ Some i
  key_hit i h e m = first_hit (keyword_here w) (marked xs ms) i (rw marked_length h) (key_here i h ∙ simp (e, m))

  -- no room is left for the word
  pub key_end : (i : ℕ) → length xs < i + length w → first (keyword_here w) i (marked xs ms) ≡ None
  key_end i h =
      none_first (keyword_here w) (marked xs ms) i
      (λ k a b. let c : k < length xs = rw marked_length at b in key_here k c ∙ none k c (omega arith))
    where
      none : (k : ℕ) → k < length xs → length xs < k + length w → (edges (marked xs ms) (length w) k && prefix_by upper w (drop k xs)) ≡ false
      none k c g =
          by (prefix_by upper w (drop k xs))
          (λ e. absurd (omega (arith, prefix_by_len upper w (drop k xs) e, length-drop k xs, g, c)))
          (λ e. ap (λ (b : Bool). edges (marked xs ms) (length w) k && b) e ∙ and-false (edges (marked xs ms) (length w) k))
