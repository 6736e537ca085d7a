-- The step of a cursor, read back from its answer, for the walks from span to span. Assumes nothing.
use mathlib.Core.Path.{◌≡◌, sym, ap, ◌∙◌}
use mathlib.Core.List.{List, [], ◌∷◌}
use Prim.Native.Nat.{ℕ, ◌+◌, ◌≤◌, ◌<◌}
use native.Mathlib.Omega.{arith}
use borrow.Author.Tests.{ltb-true, ltb-false}
use lib.Dec.{ltb}
use lib.ListN.{length, drop, length-drop}
use lib.Seq.{drop-drop}
use Rattle.spec.proofs.SpanLaws.{span_le, span_pos}
use Rattle.spec.specs.Spans.{span_at, span_len}
use Rattle.spec.specs.declared.Span.{Span}
use Rattle.spans.specs.Steps.{step_at}
use Rattle.spans.specs.declared.Cursor.{Cursor}
use Rattle.std.specs.Prelude.{Option, Some, None}
use Rattle.std.specs.Option.{unwrap_or}
use Rattle.std.proofs.lemmas.Option.{none-some}
use Rattle.std.proofs.lemmas.Bool.{cond_both}

-- what holds of every text with a first byte holds of a text that is not empty
pub by_front : (P : List ℕ → Type 0) → ((c : ℕ) (cs : List ℕ) → P (c ∷ cs)) → (xs : List ℕ) → 0 < length xs → P xs
by_front P f [] h = absurd (omega arith)
by_front P f (c ∷ cs) h = f c cs

-- a step over the span s, from the offset `at` to the offset `to`
pub record Stepped (xs : List ℕ) (at : ℕ) (s : Span) (to : ℕ) : Type 0 where
  pub front : s ≡ span_at (drop at xs)
  pub before : at < length xs
  pub far : to ≡ at + span_len s
  pub beyond : at < to
  pub within : to ≤ length xs
  pub behind : drop (span_len (span_at (drop at xs))) (drop at xs) ≡ drop to xs

module _ (xs : List ℕ) (at : ℕ) where
  -- a step from the span at the offset
  pub stepped : (s : Span) (to : ℕ) → at < length xs → s ≡ span_at (drop at xs) → to ≡ at + span_len s → Stepped xs at s to
  stepped s to h e f =
      let ys = drop at xs in
      let n : 0 < length ys = omega (arith, length-drop at xs) in
      let k : to ≡ at + span_len (span_at ys) = f ∙ ap (λ (t : Span). at + span_len t) e in
      record {
        front = e;
        before = h;
        far = f;
        beyond = omega (arith, k, by_front (λ (l : List ℕ). 0 < span_len (span_at l)) span_pos ys n);
        within = omega (arith, k, span_le ys n, length-drop at xs);
        behind = drop-drop (span_len (span_at ys)) at xs ∙ ap (λ (m : ℕ). drop m xs) (sym k);
      }

  -- a step that was taken
  pub step_taken : (s : Span) (next : Cursor) → step_at xs at ≡ Some (s, next) → Stepped xs at s next.at
  unfolding step_at
  step_taken s next =
      cond_both (ltb at (length xs)) _ _ (λ (r : Option (Span × Cursor)). r ≡ Some (s, next) → Stepped xs at s next.at)
      (λ b e.
      let made : Span × Cursor = (span_at (drop at xs), record { at = at + span_len (span_at (drop at xs)) }) in
      let same : made ≡ (s, next) = ap (λ (o : Option (Span × Cursor)). unwrap_or o made) e in
      let f : span_at (drop at xs) ≡ s = ap (λ (p : Span × Cursor). p.0) same in
      let g : at + span_len (span_at (drop at xs)) ≡ next.at = ap (λ (p : Span × Cursor). p.1.at) same in
      stepped s next.at (ltb-true _ _ b) (sym f) (sym g ∙ ap (λ (t : Span). at + span_len t) f))
      (λ b e. absurd (none-some _ e))

  -- no step: the text has ended
  pub step_done : step_at xs at ≡ None → length xs ≤ at
  unfolding step_at
  step_done =
      cond_both (ltb at (length xs)) _ _ (λ (r : Option (Span × Cursor)). r ≡ None → length xs ≤ at)
      (λ b e. absurd (none-some _ (sym e)))
      (λ b e. ltb-false _ _ b)
