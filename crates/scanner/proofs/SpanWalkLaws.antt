-- Walks from span to span: a turn and the end of the map's, and of the search for a dollar literal that is not closed.
-- Assumes nothing.
use mathlib.Core.Path.{◌≡◌, refl, ap, ◌∙◌}
use mathlib.Core.Bool.{true, false, ◌||◌}
use mathlib.Core.List.{List, ◌∷◌, ◌++◌}
use Prim.Native.Nat.{ℕ, ◌+◌, ◌-◌, ◌≤◌}
use native.Mathlib.Omega.{arith}
use lib.ListN.{length, drop, replicate, length-drop, length-replicate, drop_of_length-le}
use lib.Seq.{sets, sets-eq}
use Rattle.spec.proofs.MapLaws.{map_step, map_length}
use Rattle.spec.proofs.SpanLaws.{lexemes_step}
use Rattle.spec.specs.Answers.{kept_behind}
use Rattle.spec.specs.Lists.{any}
use Rattle.spec.specs.Map.{regions_of, map_of, span_flag}
use Rattle.spec.specs.Search.{is_unclosed, has_unterminated_dollar_quote}
use Rattle.spec.specs.Spans.{span_at, span_len, Lexeme, lexeme_at, lexemes_from, lexemes}
use Rattle.spec.specs.declared.Span.{Span}
use Rattle.output.proofs.StoreLaws.{sets_more}
use Rattle.spans.proofs.StepLaws.{by_front, Stepped}

-- a dollar literal that is not closed is the span in front, or stands behind it
unclosed_step : (c : ℕ) (cs : List ℕ)
    → has_unterminated_dollar_quote (c ∷ cs)
    ≡ (is_unclosed (span_at (c ∷ cs)) || has_unterminated_dollar_quote (drop (span_len (span_at (c ∷ cs))) (c ∷ cs)))
unfolding has_unterminated_dollar_quote any lexeme_at
unclosed_step c cs = ap (λ (ls : List Lexeme). any (λ (l : Lexeme). is_unclosed l.span) ls) (lexemes_step c cs)

module _ (xs : List ℕ) (at : ℕ) (s : Span) (to : ℕ) (t : Stepped xs at s to) where
  -- the map from `at` on is the span's byte up to `to`, then the map from there on
  map_ahead : map_of (drop at xs) ≡ replicate (to - at) (span_flag s) ++ map_of (drop to xs)
  map_ahead =
      let n : to - at ≡ span_len (span_at (drop at xs)) = omega (arith, t.far, ap span_len t.front) in
      rw (n, t.front, ← t.behind)
      (by_front (λ (l : List ℕ). map_of l ≡ replicate (span_len (span_at l)) (span_flag (span_at l)) ++ map_of (drop (span_len (span_at l)) l))
      map_step (drop at xs) (omega (arith, t.before, length-drop at xs)))

  -- a turn of `map_text`
  pub map_turn : (d d' : List ℕ) → d' ≡ sets d at (replicate (to - at) (span_flag s)) → sets d at (map_of (drop at xs)) ≡ sets d' to (map_of (drop to xs))
  map_turn d d' e =
      let n : to ≡ at + length (replicate (to - at) (span_flag s)) = omega (arith, length-replicate (to - at) (span_flag s), t.beyond) in
      sets_more d d' _ (replicate (to - at) (span_flag s)) (map_of (drop to xs)) at to map_ahead e n

  -- a turn of `has_unterminated`
  unclosed_ahead : has_unterminated_dollar_quote (drop at xs) ≡ (is_unclosed s || has_unterminated_dollar_quote (drop to xs))
  unclosed_ahead =
      rw (t.front, ← t.behind)
      (by_front (λ (l : List ℕ). has_unterminated_dollar_quote l ≡ (is_unclosed (span_at l) || has_unterminated_dollar_quote (drop (span_len (span_at l)) l)))
      unclosed_step (drop at xs) (omega (arith, t.before, length-drop at xs)))

  pub unclosed_here : is_unclosed s ≡ true → has_unterminated_dollar_quote (drop at xs) ≡ true
  unclosed_here e = unclosed_ahead ∙ rw e refl

  pub unclosed_behind : is_unclosed s ≡ false → has_unterminated_dollar_quote (drop at xs) ≡ has_unterminated_dollar_quote (drop to xs)
  unclosed_behind e = unclosed_ahead ∙ rw e refl

module _ (xs : List ℕ) (at : ℕ) (h : length xs ≤ at) where
  -- all is stored
  pub map_over : (d : List ℕ) → sets d at (map_of (drop at xs)) ≡ d
  unfolding map_of regions_of lexemes lexemes_from
  map_over d = rw (drop_of_length-le xs h)

  -- nothing is left to search
  pub unclosed_over : has_unterminated_dollar_quote (drop at xs) ≡ false
  unfolding has_unterminated_dollar_quote any lexemes lexemes_from
  unclosed_over = rw (drop_of_length-le xs h)

-- the map stored at the front of a list that is long enough
pub map_kept : (xs d : List ℕ) → length xs ≤ length d → sets d 0 (map_of xs) ≡ kept_behind (map_of xs) d
unfolding kept_behind
map_kept xs d h =
    let z : 0 + length (map_of xs) ≡ length (map_of xs) = omega arith in
    sets-eq (map_of xs) d 0 (omega (arith, map_length xs)) ∙ rw z
