-- Requoting from span to span, the text and its length: a turn of the walk, a byte that opens nothing, and the end; and the
-- quotes of a text counted byte by byte. Assumes nothing.
use mathlib.Core.Path.{◌≡◌, refl, sym, ap}
use mathlib.Core.Bool.{false}
use mathlib.Core.List.{List, [], ◌∷◌, ◌++◌, map}
use Prim.Native.Nat.{ℕ, suc, ◌+◌, ◌-◌, ◌≤◌, ◌<◌, zero-le}
use native.Mathlib.Omega.{arith}
use lib.ListN.{length, take, drop, get_or, length-append, length-drop, drop_of_length-le}
use lib.Seq.{length-take-le}
use Rattle.std.specs.List.{filter}
use lib.Dec.{eqb}
use Rattle.spec.proofs.AheadLaws.{drop_front}
use Rattle.spec.proofs.SpanLaws.{by_kind, lexemes_step}
use Rattle.spec.specs.Lists.{keep, concat}
use Rattle.spec.proofs.Choice.{by}
use Rattle.spec.proofs.RequotedLength.{span_length, requoted_exactly, quotes_le}
use Rattle.spec.specs.Requote.{requote_span, requote_lexeme, requoted, quotes_in, requoted_span_length, requoted_length}
use Rattle.spec.specs.Spans.{dollar_of, span_of, span_at, span_len, Lexeme, lexeme_at, lexemes_from, lexemes}
use Rattle.spec.specs.declared.Span.{Span}
use Rattle.spec.specs.declared.Span.TheVariants.{Code}
use Rattle.output.proofs.WriterLaws.{Left, left_more}
use Rattle.output.specs.Written.{Wrote}
use Rattle.output.specs.declared.Writer.{Writer}
use Rattle.spans.specs.Openers.{opens_span}
use Rattle.spans.proofs.OpenerLaws.{at_plain}
use Rattle.spans.proofs.StepLaws.{by_front, Stepped, stepped}
use Rattle.requote.specs.Inside.{inside_end}

-- a span's inside ends within the span
inside_le : (xs : List ℕ) → inside_end (span_at xs) ≤ span_len (span_at xs)
unfolding span_at span_of dollar_of
inside_le xs =
    by_kind xs (λ k. inside_end (span_of k xs) ≤ span_len (span_of k xs))
    (λ _. zero-le) (λ _. zero-le) (λ _. zero-le) (λ _. zero-le) (λ _. omega arith) zero-le

-- the requoted text is the span in front requoted, then what is behind it requoted
pub requoted_step : (c : ℕ) (cs : List ℕ)
    → requoted (c ∷ cs)
    ≡ requote_span (span_at (c ∷ cs)) (take (span_len (span_at (c ∷ cs))) (c ∷ cs)) ++ requoted (drop (span_len (span_at (c ∷ cs))) (c ∷ cs))
unfolding requoted concat requote_lexeme lexeme_at
requoted_step c cs = ap (λ (ls : List Lexeme). concat (map requote_lexeme ls)) (lexemes_step c cs)

module _ (xs : List ℕ) (at : ℕ) (s : Span) (to : ℕ) (t : Stepped xs at s to) where
  long : to - at ≡ span_len (span_at (drop at xs))
  long = omega (arith, t.far, ap span_len t.front)

  requoted_ahead : requoted (drop at xs) ≡ requote_span s (take (to - at) (drop at xs)) ++ requoted (drop to xs)
  requoted_ahead =
      rw (long, t.front, ← t.behind)
      (by_front (λ (l : List ℕ). requoted l ≡ requote_span (span_at l) (take (span_len (span_at l)) l) ++ requoted (drop (span_len (span_at l)) l))
      requoted_step (drop at xs) (omega (arith, t.before, length-drop at xs)))

  pub inside_within : inside_end s ≤ to - at
  inside_within = rw (long, t.front) (inside_le (drop at xs))

  -- what a turn of `requote` writes is the front of what is left
  pub requote_turn : (text : List ℕ) {a b c : Writer} → Left a text b (requoted (drop at xs)) → Wrote b (requote_span s (take (to - at) (drop at xs))) c → Left a text c (requoted (drop to xs))
  requote_turn text l p = left_more text _ _ (requoted (drop to xs)) l requoted_ahead p

  -- the length by the span in front and what is behind it
  pub length_turn : requoted_length (drop at xs) ≡ requoted_span_length s (take (to - at) (drop at xs)) + requoted_length (drop to xs)
  length_turn =
      let u = take (to - at) (drop at xs) in
      omega (
        arith,
        requoted_exactly (drop at xs),
        requoted_exactly (drop to xs),
        ap length requoted_ahead,
        length-append (requote_span s u) (requoted (drop to xs)),
        span_length s u,
      )

-- a byte that opens nothing stays
pub length_plain : (xs : List ℕ) (at : ℕ) → at < length xs → opens_span (get_or xs at 0) ≡ false
    → requoted_length (drop at xs) ≡ 1 + requoted_length (drop (at + 1) xs)
unfolding requoted_span_length
length_plain xs at h e =
    let t = stepped xs at (Code 1) (at + 1) h (sym (at_plain (drop at xs) (get_or xs at 0) (sym (drop_front xs at 0)) e)) refl in
    omega (arith, length_turn xs at (Code 1) (at + 1) t, length-take-le (at + 1 - at) (drop at xs) (omega (arith, length-drop at xs)))

-- nothing is left to requote
pub requoted_over : (xs : List ℕ) (at : ℕ) → length xs ≤ at → requoted (drop at xs) ≡ []
unfolding requoted concat lexemes lexemes_from
requoted_over xs at h = rw (drop_of_length-le xs h)

-- the quotes of a text, in the library's words
pub quotes_of_library : (xs : List ℕ) → quotes_in xs ≡ length (filter (λ c. eqb c 39) xs)
unfolding quotes_in keep
quotes_of_library [] = refl
quotes_of_library (c ∷ cs) = by (eqb c 39) (λ e. simp e (ap suc (quotes_of_library cs))) (λ e. simp e (quotes_of_library cs))

pub length_over : (xs : List ℕ) (at : ℕ) → length xs ≤ at → requoted_length (drop at xs) ≡ 0
length_over xs at h = omega (arith, requoted_exactly (drop at xs), ap length (requoted_over xs at h))

-- the length of a part of a text, and how many quotes it has at most
pub ruleset part_laws = (quotes_le, length-take-le, length-drop)
