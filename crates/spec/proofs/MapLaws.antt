-- The map: it has the text's length, holds 0 and 1 only, and agrees with the spans; a text beside its map. Assumes nothing.
use mathlib.Core.Path.{◌≡◌, refl, sym, ap, ◌∙◌}
use mathlib.Core.Bool.{true}
use mathlib.Core.List.{List, [], ◌∷◌, ◌++◌, map, map-append}
use Prim.Native.Nat.{ℕ, zero, suc, ◌+◌, zero-le, suc-le-suc}
use lib.ListN.{length, take, drop, replicate, length-append, length-replicate, length-map}
use lib.Seq.{length-take-le}
use lib.LanesLaws.{map-replicate}
use Rattle.spec.proofs.SpanLaws.{span_le, lexemes_step, tiles}
use Rattle.spec.specs.Lists.{all, concat}
use Rattle.spec.specs.Bytes.{within}
use Rattle.spec.specs.Spans.{Kind, line, block, single, double, dollar, code, kind_at, span_of, span_at, span_len, Lexeme, lexeme_at, lexemes}
use Rattle.spec.specs.Map.{Region, in_code, in_literal, in_comment, region_of, regions_of, flag, map_of, byte, mark, marked, marked_text, bytes, span_flag}

regions_length : (ls : List Lexeme) → length (regions_of ls) ≡ length (concat (map (λ (l : Lexeme). l.text) ls))
unfolding regions_of concat
regions_length [] = refl
regions_length (l ∷ ls) =
    length-append (replicate (length l.text) (region_of l.kind)) (regions_of ls)
    ∙ ap (λ (n : ℕ). n + length (regions_of ls)) (length-replicate (length l.text) (region_of l.kind))
    ∙ ap (λ (n : ℕ). length l.text + n) (regions_length ls)
    ∙ sym (length-append l.text (concat (map (λ (m : Lexeme). m.text) ls)))

-- the map has the text's length
pub map_length : (xs : List ℕ) → length (map_of xs) ≡ length xs
unfolding map_of
map_length xs = length-map (regions_of (lexemes xs)) flag ∙ (regions_length (lexemes xs) ∙ ap length (tiles xs))

-- and holds 0 and 1 only
pub map_values : (xs : List ℕ) → all (within 0 1) (map_of xs) ≡ true
unfolding map_of all within
map_values xs = go (regions_of (lexemes xs))
  where
    go : (rs : List Region) → all (within 0 1) (map flag rs) ≡ true
    go [] = refl
    go (in_code ∷ rs) = go rs
    go (in_literal ∷ rs) = go rs
    go (in_comment ∷ rs) = go rs

flag_of_kind : (k : Kind) (xs : List ℕ) → flag (region_of k) ≡ span_flag (span_of k xs)
unfolding span_of
flag_of_kind line xs = refl
flag_of_kind block xs = refl
flag_of_kind single xs = refl
flag_of_kind double xs = refl
flag_of_kind dollar xs = refl
flag_of_kind code xs = refl

-- live and quoted agree with the spans: the map is the front span's byte, as often as that span is long, then the map of
-- what stands behind it
pub map_step : (c : ℕ) (cs : List ℕ)
    → map_of (c ∷ cs)
    ≡ replicate (span_len (span_at (c ∷ cs))) (span_flag (span_at (c ∷ cs))) ++ map_of (drop (span_len (span_at (c ∷ cs))) (c ∷ cs))
unfolding map_of regions_of lexeme_at span_at
map_step c cs =
    let xs = c ∷ cs in
    let n = span_len (span_at xs) in
    let rest = regions_of (lexemes (drop n xs)) in
    let e : length (take n xs) ≡ n = length-take-le n xs (span_le xs (suc-le-suc zero-le)) in
    ap (λ ls. map flag (regions_of ls)) (lexemes_step c cs)
    ∙ (map-append flag (replicate (length (take n xs)) (region_of (kind_at xs))) rest
    ∙ ap (λ l. l ++ map flag rest)
    (map-replicate flag (length (take n xs)) (region_of (kind_at xs))
    ∙ (ap (λ m. replicate m (flag (region_of (kind_at xs)))) e ∙ ap (λ b. replicate n b) (flag_of_kind (kind_at xs) xs))))

pub mark_byte : (m c : ℕ) → byte (mark m c) ≡ c
mark_byte zero c = refl
mark_byte (suc m) c = refl

-- a text beside any map has the text's bytes
pub marked_bytes : (xs ms : List ℕ) → bytes (marked xs ms) ≡ xs
unfolding bytes marked
marked_bytes [] ms = refl
marked_bytes (c ∷ cs) [] = ap (λ l. c ∷ l) (marked_bytes cs [])
marked_bytes (c ∷ cs) (m ∷ ms) = rw mark_byte (ap (λ l. c ∷ l) (marked_bytes cs ms))

pub marked_length : (xs ms : List ℕ) → length (marked xs ms) ≡ length xs
unfolding marked
marked_length [] ms = refl
marked_length (c ∷ cs) [] = ap suc (marked_length cs [])
marked_length (c ∷ cs) (m ∷ ms) = ap suc (marked_length cs ms)

pub text_bytes : (xs : List ℕ) → bytes (marked_text xs) ≡ xs
unfolding marked_text
text_bytes xs = marked_bytes xs (map_of xs)

pub text_length : (xs : List ℕ) → length (marked_text xs) ≡ length xs
unfolding marked_text
text_length xs = marked_length xs (map_of xs)
