-- The content of a statement from span to span: a quoted span belongs to it, and so does a live byte that is no `;`. Assumes
-- nothing.
use mathlib.Core.Path.{◌≡◌, refl, sym, ap, ◌∙◌}
use mathlib.Core.Bool.{Bool, true, false, not, false≢true}
use mathlib.Core.List.{List, [], ◌∷◌, ◌++◌}
use Prim.Native.Nat.{ℕ, zero, suc, ◌+◌, ◌≤◌, ◌<◌, zero-le, suc-le-suc}
use native.Mathlib.Nat.{le_of_suc-le-suc}
use native.Mathlib.Omega.{arith}
use lib.Dec.{eqb}
use lib.ListN.{length, take, drop, get_or, replicate, length-append, length-replicate, length-drop, drop_of_length-le}
use lib.Seq.{length-take-le}
use Rattle.spec.proofs.AheadLaws.{drop_front}
use Rattle.spec.proofs.BytesLaws.{bytes_take}
use Rattle.std.proofs.lemmas.Bool.{and_parts}
use Rattle.spec.proofs.SpanLaws.{by_kind, span_le}
use Rattle.spec.proofs.MapLaws.{map_step, marked_length, text_bytes, text_length}
use Rattle.spec.proofs.WalkLaws.{while_take, while_length}
use Rattle.spec.specs.Lists.{take_while, all}
use Rattle.spec.specs.Map.{Marked, is_live_byte, mark, marked, marked_text, bytes, map_of}
use Rattle.spec.specs.Spans.{Kind, span_of, span_at, span_len}
use Rattle.spec.specs.declared.Span.{Span}
use Rattle.spec.specs.declared.Span.TheVariants.{Verbatim, Dollar, Code}
use Rattle.spans.proofs.StepLaws.{by_front, Stepped}
use Rattle.messages.specs.Readings.{ends_statement, content_in}

-- a byte of the content
abbrev goes_on : Marked → Bool
goes_on x = not (is_live_byte 59 x)

-- a text beside two maps, one behind the other
marked_cut : (xs u v : List ℕ) → length u ≤ length xs → marked xs (u ++ v) ≡ marked (take (length u) xs) u ++ marked (drop (length u) xs) v
unfolding marked
marked_cut xs [] v h = refl
marked_cut [] (m ∷ u) v h = absurd (omega arith)
marked_cut (c ∷ cs) (m ∷ u) v h = ap (λ (t : List Marked). mark m c ∷ t) (marked_cut cs u v (le_of_suc-le-suc h))

-- a front that passes whole belongs to the longest one
while_over : (f : Marked → Bool) (s t : List Marked) → all f s ≡ true → take_while f (s ++ t) ≡ s ++ take_while f t
unfolding take_while all
while_over f [] t h = refl
while_over f (x ∷ s) t h =
    rw ((and_parts (f x) (all f s) h).0) (ap (λ (l : List Marked). x ∷ l) (while_over f s t ((and_parts (f x) (all f s) h).1)))

-- quoted bytes all pass
quoted_pass : (n : ℕ) (xs : List ℕ) → all goes_on (marked (take n xs) (replicate n 1)) ≡ true
unfolding marked all
quoted_pass zero xs = refl
quoted_pass (suc n) [] = refl
quoted_pass (suc n) (c ∷ cs) = quoted_pass n cs

quoted_over : (xs : List ℕ) (n : ℕ) → n ≤ length xs → map_of xs ≡ replicate n 1 ++ map_of (drop n xs) → length (content_in xs) ≡ n + length (content_in (drop n xs))
unfolding content_in marked_text
quoted_over xs n h e =
    let k = length-replicate {A = ℕ} n 1 in
    let front = marked (take n xs) (replicate n 1) in
    let back = marked (drop n xs) (map_of (drop n xs)) in
    let cut : marked xs (map_of xs) ≡ front ++ back =
    ap (λ (m : List ℕ). marked xs m) e ∙ rw k at (marked_cut xs (replicate n 1) (map_of (drop n xs)) (rw k h)) in
    ap (λ (t : List Marked). length (take_while goes_on t)) cut
    ∙ (ap length (while_over goes_on front back (quoted_pass n xs))
    ∙ (length-append front (take_while goes_on back)
    ∙ ap (λ (m : ℕ). m + length (take_while goes_on back)) (marked_length (take n xs) (replicate n 1) ∙ length-take-le n xs h)))

-- a live byte passes unless it is `;`
live_over : (c : ℕ) (cs : List ℕ) → map_of (c ∷ cs) ≡ 0 ∷ map_of cs → eqb c 59 ≡ false → length (content_in (c ∷ cs)) ≡ 1 + length (content_in cs)
unfolding content_in marked_text marked take_while
live_over c cs e q = rw (e, q) (omega arith)

live_ends : (c : ℕ) (cs : List ℕ) → map_of (c ∷ cs) ≡ 0 ∷ map_of cs → eqb c 59 ≡ true → length (content_in (c ∷ cs)) ≡ 0
unfolding content_in marked_text marked take_while
live_ends c cs e q = rw (e, q)

-- a live span has one byte
code_one : (xs : List ℕ) (n : ℕ) → span_at xs ≡ Code n → n ≡ 1
unfolding span_at span_of
code_one xs n =
    by_kind xs (λ (k : Kind). span_of k xs ≡ Code n → n ≡ 1)
    (λ _ e. let z : ◌≡◌ {A = ℕ} 0 1 = cc in absurd (omega arith))
    (λ _ e. let z : ◌≡◌ {A = ℕ} 0 1 = cc in absurd (omega arith))
    (λ _ e. let z : ◌≡◌ {A = ℕ} 0 1 = cc in absurd (omega arith))
    (λ _ e. let z : ◌≡◌ {A = ℕ} 0 1 = cc in absurd (omega arith))
    (λ _ e. let z : ◌≡◌ {A = ℕ} 0 1 = cc in absurd (omega arith))
    (λ e. let q : ◌≡◌ {A = ℕ} 1 n = cc in sym q)

-- the span s stands in front of a text, b is the text's first byte
span_over : (c : ℕ) (cs : List ℕ) (s : Span) → s ≡ span_at (c ∷ cs) → ends_statement s c ≡ false → length (content_in (c ∷ cs)) ≡ span_len s + length (content_in (drop (span_len s) (c ∷ cs)))
span_over c cs (Verbatim n) e q =
    quoted_over (c ∷ cs) n (rw (← e) at (span_le (c ∷ cs) (suc-le-suc zero-le))) (rw (← e) at (map_step c cs))
span_over c cs (Dollar d) e q =
    quoted_over (c ∷ cs) d.span (rw (← e) at (span_le (c ∷ cs) (suc-le-suc zero-le))) (rw (← e) at (map_step c cs))
span_over c cs (Code n) e q =
    let k = code_one (c ∷ cs) n (sym e) in
    rw k (live_over c cs (rw (← e, k) at (map_step c cs)) q)

span_ends : (c : ℕ) (cs : List ℕ) (s : Span) → s ≡ span_at (c ∷ cs) → ends_statement s c ≡ true → length (content_in (c ∷ cs)) ≡ 0
span_ends c cs (Verbatim n) e q = absurd (false≢true q)
span_ends c cs (Dollar d) e q = absurd (false≢true q)
span_ends c cs (Code n) e q =
    let k = code_one (c ∷ cs) n (sym e) in
    live_ends c cs (rw (← e, k) at (map_step c cs)) q

module _ (xs : List ℕ) (at : ℕ) (s : Span) (to : ℕ) (t : Stepped xs at s to) where
  here : get_or xs at 0 ≡ get_or (drop at xs) 0 0
  here = sym (drop_front xs at 0)

  some_left : 0 < length (drop at xs)
  some_left = omega (arith, t.before, length-drop at xs)

  -- a span that does not end the statement is passed over
  pub content_on : ends_statement s (get_or xs at 0) ≡ false → at + length (content_in (drop at xs)) ≡ to + length (content_in (drop to xs))
  content_on q =
      let r =
      by_front (λ (l : List ℕ). s ≡ span_at l → ends_statement s (get_or l 0 0) ≡ false → length (content_in l) ≡ span_len s + length (content_in (drop (span_len s) l)))
      (λ c cs. span_over c cs s) (drop at xs) some_left t.front (rw here at q) in
      let behind : drop (span_len s) (drop at xs) ≡ drop to xs = ap (λ (z : Span). drop (span_len z) (drop at xs)) t.front ∙ t.behind in
      omega (arith, t.far, rw behind at r)

  -- one that does is where the content ends
  pub content_stops : ends_statement s (get_or xs at 0) ≡ true → length (content_in (drop at xs)) ≡ 0
  content_stops q =
      by_front (λ (l : List ℕ). s ≡ span_at l → ends_statement s (get_or l 0 0) ≡ true → length (content_in l) ≡ 0)
      (λ c cs. span_ends c cs s) (drop at xs) some_left t.front (rw here at q)

-- nothing is left to read
pub content_over : (xs : List ℕ) (at : ℕ) → length xs ≤ at → length (content_in (drop at xs)) ≡ 0
unfolding content_in marked_text marked take_while
content_over xs at h = rw (drop_of_length-le xs h)

-- the content is a front of the text
pub content_bytes : (xs : List ℕ) → bytes (content_in xs) ≡ take (length (content_in xs)) xs
unfolding content_in
content_bytes xs =
    ap bytes (while_take goes_on (marked_text xs))
    ∙ (bytes_take (length (take_while goes_on (marked_text xs))) (marked_text xs)
    ∙ ap (λ (l : List ℕ). take (length (take_while goes_on (marked_text xs))) l) (text_bytes xs))

pub content_le : (xs : List ℕ) → length (content_in xs) ≤ length xs
unfolding content_in
content_le xs = omega (arith, while_length goes_on (marked_text xs), text_length xs)
