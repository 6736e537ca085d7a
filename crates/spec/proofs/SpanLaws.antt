-- Spans: each has at least one byte and at most the text's, and the row of spans is the text; where the search for a
-- delimiter stops. Assumes nothing.
use Rattle.std.proofs.lemmas.Bool.{cond_both, and_parts}
use mathlib.Core.Path.{◌≡◌, refl, sym, ap, ◌∙◌}
use mathlib.Core.Bool.{Bool, true, false, cond, not, false≢true}
use mathlib.Core.List.{List, [], ◌∷◌, ◌++◌, map}
use Prim.Native.Nat.{ℕ, zero, suc, ◌+◌, ◌-◌, ◌≤◌, ◌<◌, zero-le, suc-le-suc}
use native.Mathlib.Omega.{arith}
use borrow.Author.Tests.{eqb-true, eq-eqb, ne_eqb}
use lib.Dec.{eqb}
use lib.ListN.{length, take, drop, get_or, length-drop, take-append-drop}
use lib.Seq.{length-take-le, drop-nil}
use Rattle.spec.proofs.Choice.{by, cond_le}
use Rattle.spec.specs.Bytes.{is_digit, is_ident, is_pair, is_prefix}
use Rattle.spec.specs.Lists.{concat}
use Rattle.spec.specs.declared.Span.TheVariants.{Verbatim, Dollar, Code}
use Rattle.spec.specs.Spans.{line_len, comment_len, block_len, escapes, quote_len, quoted_len, tag_len, seek_len, opens_dollar, dollar_of, Kind, line, block, single, double, dollar, code, kind_at, span_of, span_at, span_len, Lexeme, lexeme_at, lexemes_from, lexemes}

pub line_le : (xs : List ℕ) → line_len xs ≤ length xs
unfolding line_len
line_le [] = zero-le
line_le (c ∷ cs) = cond_le (eqb c 10) _ _ _ (suc-le-suc zero-le) (suc-le-suc (line_le cs))

pub tag_le : (xs : List ℕ) → tag_len xs ≤ length xs
unfolding tag_len
tag_le [] = zero-le
tag_le (c ∷ cs) = cond_le (is_ident c) _ _ _ (suc-le-suc (tag_le cs)) zero-le

pub seek_le : (p xs : List ℕ) → seek_len p xs ≤ length xs
unfolding seek_len
seek_le p [] = zero-le
seek_le p (c ∷ cs) = cond_le (is_prefix p (c ∷ cs)) _ _ _ zero-le (suc-le-suc (seek_le p cs))

-- where p is not in front of what it stops at, the search ran to the end
pub seek_miss : (p xs : List ℕ) → is_prefix p (drop (seek_len p xs) xs) ≡ false → seek_len p xs ≡ length xs
unfolding seek_len
seek_miss p [] = λ h. refl
seek_miss p (x ∷ xs) =
    by (is_prefix p (x ∷ xs)) (λ e. simp e (λ h. absurd (false≢true (sym h)))) (λ e. simp e (λ h. ap suc (seek_miss p xs h)))

-- where it stops before the end, p stands there
pub seek_stands : (p xs : List ℕ) → seek_len p xs < length xs → is_prefix p (drop (seek_len p xs) xs) ≡ true
seek_stands p xs h = by (is_prefix p (drop (seek_len p xs) xs)) (λ e. e) (λ e. absurd (omega (arith, seek_miss p xs e)))

pub quote_le : (e : Bool) (q : ℕ) (xs : List ℕ) → quote_len e q xs ≤ length xs
unfolding quote_len
quote_le e q [] = zero-le
quote_le e q (c ∷ []) = suc-le-suc zero-le
quote_le e q (c ∷ d ∷ cs) =
    let pair = suc-le-suc (suc-le-suc (quote_le e q cs)) in
    cond_le (escapes e c) _ _ _ pair
    (cond_le (eqb c q) _ _ _ (cond_le (eqb d q) _ _ _ pair (suc-le-suc zero-le)) (suc-le-suc (quote_le e q (d ∷ cs))))

pub quoted_le : (e : Bool) (q : ℕ) (xs : List ℕ) → quoted_len e q xs ≤ length xs
unfolding quoted_len
quoted_le e q [] = zero-le
quoted_le e q (c ∷ cs) = suc-le-suc (quote_le e q cs)

pub comment_le : (k : ℕ) (xs : List ℕ) → comment_len k xs ≤ length xs
unfolding comment_len
comment_le k [] = zero-le
comment_le k (c ∷ []) = suc-le-suc zero-le
comment_le k (c ∷ d ∷ cs) =
    cond_le (is_pair 47 42 c d) _ _ _ (suc-le-suc (suc-le-suc (comment_le (suc k) cs)))
    (cond_le (is_pair 42 47 c d) _ _ _
    (cond_le (eqb k 1) _ _ _ (suc-le-suc (suc-le-suc zero-le)) (suc-le-suc (suc-le-suc (comment_le (k - 1) cs))))
    (suc-le-suc (comment_le k (d ∷ cs))))

pub block_le : (xs : List ℕ) → block_len xs ≤ length xs
unfolding block_len
block_le [] = zero-le
block_le (c ∷ []) = suc-le-suc zero-le
block_le (c ∷ d ∷ cs) = suc-le-suc (suc-le-suc (comment_le 1 cs))

-- what is not 0 stands within the list
pub seen : (xs : List ℕ) (i v : ℕ) → get_or xs i 0 ≡ suc v → i < length xs
seen [] i v h = absurd (omega arith)
seen (x ∷ xs) zero v h = suc-le-suc zero-le
seen (x ∷ xs) (suc i) v h = suc-le-suc (seen xs i v h)

-- a pair in front whose second byte is not 0
pub pair_two : (xs : List ℕ) (x y c : ℕ) → is_pair x (suc y) c (get_or xs 1 0) ≡ true → 1 < length xs
unfolding is_pair
pair_two xs x y c h = seen xs 1 y (eqb-true _ (suc y) ((and_parts (eqb c x) (eqb (get_or xs 1 0) (suc y)) h).1))

-- the opening delimiter stands within the text
pub opens_in : (xs : List ℕ) → opens_dollar xs ≡ true → 2 + tag_len (drop 1 xs) ≤ length xs
unfolding opens_dollar
opens_in xs h =
    let e : eqb (get_or xs (1 + tag_len (drop 1 xs)) 0) 36 ≡ true =
    (and_parts (not (is_digit (get_or xs 1 0))) _ ((and_parts (eqb (get_or xs 0 0) 36) _ h).1)).1 in
    omega (arith, seen xs (1 + tag_len (drop 1 xs)) 35 (eqb-true _ _ e))

-- where p stands in front of xs, xs is at least as long
pub prefix_len : (p xs : List ℕ) → is_prefix p xs ≡ true → length p ≤ length xs
unfolding is_prefix
prefix_len [] xs h = zero-le
prefix_len (a ∷ p) [] h = absurd (false≢true h)
prefix_len (a ∷ p) (x ∷ xs) h = suc-le-suc (prefix_len p xs ((and_parts (eqb x a) (is_prefix p xs) h).1))

pub dollar_le : (n : ℕ) (xs : List ℕ) → n ≤ length xs → (dollar_of n xs).span ≤ length xs
unfolding dollar_of
dollar_le n xs h =
    let k = seek_len (take n xs) (drop n xs) in
    let b = seek_le (take n xs) (drop n xs) in
    let shut = is_prefix (take n xs) (drop k (drop n xs)) in
    let last : cond shut n 0 ≤ length xs - (n + k) =
    cond_both shut n 0 (λ (m : ℕ). m ≤ length xs - (n + k))
    (λ e. omega (arith, prefix_len (take n xs) (drop k (drop n xs)) e, length-take-le n xs h, length-drop k (drop n xs), length-drop n xs))
    (λ e. zero-le) in
    omega (arith, last, b, length-drop n xs)

-- what holds of the span of each kind, where its text opens it, holds of the span in front
pub by_kind : (xs : List ℕ) (P : Kind → Type 0)
    → (is_pair 45 45 (get_or xs 0 0) (get_or xs 1 0) ≡ true → P line)
    → (is_pair 47 42 (get_or xs 0 0) (get_or xs 1 0) ≡ true → P block)
    → (eqb (get_or xs 0 0) 39 ≡ true → P single)
    → (eqb (get_or xs 0 0) 34 ≡ true → P double)
    → (opens_dollar xs ≡ true → P dollar)
    → P code
    → P (kind_at xs)
unfolding kind_at
by_kind xs P l b s d o c =
    cond_both (is_pair 45 45 (get_or xs 0 0) (get_or xs 1 0)) _ _ P l
    (λ _. cond_both (is_pair 47 42 (get_or xs 0 0) (get_or xs 1 0)) _ _ P b
    (λ _. cond_both (eqb (get_or xs 0 0) 39) _ _ P s
    (λ _. cond_both (eqb (get_or xs 0 0) 34) _ _ P d
    (λ _. cond_both (opens_dollar xs) _ _ P o (λ _. c)))))

-- a span has at most the text's length
pub span_le : (xs : List ℕ) → 0 < length xs → span_len (span_at xs) ≤ length xs
unfolding span_at span_of
span_le xs h =
    by_kind xs (λ k. span_len (span_of k xs) ≤ length xs)
    (λ e. omega (arith, pair_two xs 45 44 (get_or xs 0 0) e, line_le (drop 2 xs), length-drop 2 xs))
    (λ _. block_le xs)
    (λ _. quoted_le true 39 xs)
    (λ _. quoted_le false 34 xs)
    (λ o. dollar_le (2 + tag_len (drop 1 xs)) xs (opens_in xs o))
    h

-- and at least one byte
pub span_pos : (c : ℕ) (cs : List ℕ) → 0 < span_len (span_at (c ∷ cs))
unfolding span_at span_of quoted_len block_len dollar_of
span_pos c cs =
    by_kind (c ∷ cs) (λ k. 0 < span_len (span_of k (c ∷ cs)))
    (λ _. omega arith)
    (λ _. block_pos cs)
    (λ _. omega arith)
    (λ _. omega arith)
    (λ _. omega arith)
    (omega arith)
  where
    block_pos : (cs : List ℕ) → 0 < block_len (c ∷ cs)
    block_pos [] = suc-le-suc zero-le
    block_pos (d ∷ cs) = suc-le-suc zero-le

-- a walk that has k bytes to pass is the walk behind them
pub walk_past : (k : ℕ) (xs : List ℕ) → lexemes_from k xs ≡ lexemes_from 0 (drop k xs)
unfolding lexemes_from
walk_past zero xs = refl
walk_past (suc k) [] = refl
walk_past (suc k) (c ∷ cs) = walk_past k cs

-- the row of spans is the span in front, then the row behind it
pub lexemes_step : (c : ℕ) (cs : List ℕ) → lexemes (c ∷ cs) ≡ lexeme_at (c ∷ cs) ∷ lexemes (drop (span_len (span_at (c ∷ cs))) (c ∷ cs))
unfolding lexemes lexemes_from lexeme_at
lexemes_step c cs =
    let n = span_len (span_at (c ∷ cs)) in
    let e : n ≡ suc (n - 1) = omega (arith, span_pos c cs) in
    ap (λ (l : List Lexeme). lexeme_at (c ∷ cs) ∷ l) (walk_past (n - 1) cs ∙ ap (λ (m : ℕ). lexemes_from 0 (drop m (c ∷ cs))) (sym e))

-- the row of spans is the text, with none of its bytes lost, moved or doubled
tiles_from : (k : ℕ) (xs : List ℕ) → concat (map (λ (l : Lexeme). l.text) (lexemes_from k xs)) ≡ drop k xs
unfolding lexemes_from lexeme_at concat
tiles_from k [] = sym (drop-nil k)
tiles_from zero (c ∷ cs) =
    let n = span_len (span_at (c ∷ cs)) in
    let e : suc (n - 1) ≡ n = omega (arith, span_pos c cs) in
    ap (λ (l : List ℕ). take n (c ∷ cs) ++ l) (tiles_from (n - 1) cs ∙ ap (λ (m : ℕ). drop m (c ∷ cs)) e)
    ∙ take-append-drop n (c ∷ cs)
tiles_from (suc k) (c ∷ cs) = tiles_from k cs

pub tiles : (xs : List ℕ) → concat (map (λ (l : Lexeme). l.text) (lexemes xs)) ≡ xs
unfolding lexemes
tiles xs = tiles_from 0 xs

-- the span in front by the tests on it, made one after the other
module _ (xs : List ℕ) (c d : ℕ) (hc : c ≡ get_or xs 0 0) (hd : d ≡ get_or xs 1 0) where
  pub at_line : is_pair 45 45 c d ≡ true → span_at xs ≡ Verbatim (2 + line_len (drop 2 xs))
  unfolding span_at span_of kind_at
  at_line e = simp (← hc, ← hd, e)

  module _ (e : is_pair 45 45 c d ≡ false) where
    pub at_block : is_pair 47 42 c d ≡ true → span_at xs ≡ Verbatim (block_len xs)
    unfolding span_at span_of kind_at
    at_block f = simp (← hc, ← hd, e, f)

    module _ (f : is_pair 47 42 c d ≡ false) where
      pub at_single : c ≡ 39 → span_at xs ≡ Verbatim (quoted_len true 39 xs)
      unfolding span_at span_of kind_at
      at_single s = simp (← hc, ← hd, e, f, eq-eqb c 39 s)

      module _ (s : c ≡ 39 → ⊥) where
        pub at_double : c ≡ 34 → span_at xs ≡ Verbatim (quoted_len false 34 xs)
        unfolding span_at span_of kind_at
        at_double t = simp (← hc, ← hd, e, f, ne_eqb c 39 s, eq-eqb c 34 t)

        module _ (t : c ≡ 34 → ⊥) where
          pub at_opened : span_at xs ≡ cond (opens_dollar xs) (Dollar (dollar_of (2 + tag_len (drop 1 xs)) xs)) (Code 1)
          unfolding span_at span_of kind_at
          at_opened =
              by (opens_dollar xs)
              (λ o. simp (← hc, ← hd, e, f, ne_eqb c 39 s, ne_eqb c 34 t, o))
              (λ o. simp (← hc, ← hd, e, f, ne_eqb c 39 s, ne_eqb c 34 t, o))

          pub at_code : (c ≡ 36 → ⊥) → span_at xs ≡ Code 1
          unfolding opens_dollar
          at_code o = at_opened ∙ simp (← hc, ne_eqb c 36 o)
