-- A table read through its lines: those in front that are well formed and of different levels, and what stands behind them.
-- Assumes nothing.
use Rattle.std.specs.Prelude.{Option, Some, None}
use mathlib.Core.Path.{◌≡◌, refl, sym, ap, ◌∙◌}
use mathlib.Core.List.Memᴰ
use mathlib.Core.List.{List, [], ◌∷◌, ◌++◌, reverse, reverse_aux, append_assoc, Memᴰ}
use mathlib.Core.Logic.{◌↔◌, ◌⊎◌, inl, inr, ⊎_elim}
use Prim.Native.Nat.{ℕ, zero, suc, ◌+◌, ◌≤◌, ◌<◌}
use native.Mathlib.Omega.{arith}
use lib.ListN.{length, drop, length-append}
use Rattle.spec.proofs.LineLaws.{entry, entry_exactly, no_entry_exactly, first_line, text_first, text_size, from_text_lem}
use Rattle.spec.proofs.TableLines.{table_text, Stands, Different, given_line, none_given, given_none}
use Rattle.spec.specs.Lists.{concat}
use Rattle.spec.specs.Levels.{Entry, line_text, entry_of, lines_of, given_action, or_repeated, table_from, table_of}
use Rattle.spec.specs.declared.Action.{Action}

-- ---- the lines that were read, last first

-- no level of fs stands in es
abbrev pub New : List Entry → List Entry → Type 0
New fs es = (e : Entry) → Memᴰ e fs → Stands e.level es → ⊥

onto_cases : (fs es : List Entry) (e : Entry) → Memᴰ e (reverse_aux fs es) → Memᴰ e fs ⊎ Memᴰ e es
onto_cases [] es e m = inr m
onto_cases (f ∷ fs) es e m =
    ⊎_elim
    (λ n. inl (Memᴰ.tail n))
    (λ n. ⊎_elim (λ i. inl (Memᴰ.head i)) (λ o. inr o) (Memᴰ.cases_cons n))
    (onto_cases fs (f ∷ es) e m)

onto_old : (fs es : List Entry) (e : Entry) → Memᴰ e es → Memᴰ e (reverse_aux fs es)
onto_old [] es e m = m
onto_old (f ∷ fs) es e m = onto_old fs (f ∷ es) e (Memᴰ.tail m)

onto_new : (fs es : List Entry) (e : Entry) → Memᴰ e fs → Memᴰ e (reverse_aux fs es)
onto_new [] es e m = absurd (Memᴰ.not-nil m)
onto_new (f ∷ fs) es e m =
    ⊎_elim (λ i. onto_old fs (f ∷ es) e (Memᴰ.head i)) (λ n. onto_new fs (f ∷ es) e n) (Memᴰ.cases_cons m)

-- the same lines stand in both orders
pub reverse_lines : (es : List Entry) (e : Entry) → Memᴰ e (reverse es) ↔ Memᴰ e es
reverse_lines es e = (
  (λ m. ⊎_elim (λ n. n) (λ n. absurd (Memᴰ.not-nil n)) (onto_cases es [] e m)),
  onto_new es [] e,
)

-- ---- through lines of different levels the reading goes on

read_through : (fs es : List Entry) (n : ℕ) (rest : List ℕ) → Different fs → New fs es → table_from es n (lines_of (table_text fs ++ rest)) ≡ table_from (reverse_aux fs es) (n + length (table_text fs)) (lines_of rest)
unfolding concat
read_through [] es n rest d w = let z : n + 0 ≡ n = omega arith in rw z
read_through (f ∷ fs) es n rest d w =
    let next = table_from (f ∷ es) (n + length (line_text f)) (lines_of (table_text fs ++ rest)) in
    let old = given_none es f.level (w f (Memᴰ.head refl)) in
    let more = read_through fs (f ∷ es) (n + length (line_text f)) rest d.1 (new_to f fs es d w) in
    let size : n + length (line_text f) + length (table_text fs) ≡ n + length (line_text f ++ table_text fs) = omega (arith, length-append (line_text f) (table_text fs)) in
    ap (λ (l : List ℕ). table_from es n (lines_of l)) (append_assoc (line_text f) (table_text fs) rest)
    ∙ (from_text_lem es n f (table_text fs ++ rest)
    ∙ (ap (λ o. or_repeated n o next) old
    ∙ (more ∙ ap (λ (k : ℕ). table_from (reverse_aux fs (f ∷ es)) k (lines_of rest)) size)))
  where
    new_to : (f : Entry) (fs es : List Entry) → Different (f ∷ fs) → New (f ∷ fs) es → New fs (f ∷ es)
    new_to f fs es d w e m s =
        ⊎_elim
        (λ i. d.0 (e, m, sym s.2 ∙ ap (λ (g : Entry). g.level) i))
        (λ o. w e (Memᴰ.tail m) (s.0, o, s.2))
        (Memᴰ.cases_cons s.1)

-- so a table says what stands behind them says
pub read_lines : (es : List Entry) (rest : List ℕ) → Different es → table_of (table_text es ++ rest) ≡ table_from (reverse es) (length (table_text es)) (lines_of rest)
unfolding table_of
read_lines es rest d =
    let z : 0 + length (table_text es) ≡ length (table_text es) = omega arith in
    read_through es [] 0 rest d (λ e m s. Memᴰ.not-nil s.1) ∙ ap (λ (k : ℕ). table_from (reverse es) k (lines_of rest)) z

-- ---- each text has such lines in front

-- behind the lines fs, which came behind es: nothing, a malformed line, or one whose level stands before
pub data Ending (fs es : List Entry) (rest : List ℕ) : Type 0 where
  finished : rest ≡ [] → Ending fs es rest
  malformed : 0 < length rest → ((e : Entry) → first_line rest ≡ line_text e → ⊥) → Ending fs es rest
  repeats : (e : Entry) (more : List ℕ) → rest ≡ line_text e ++ more → Stands e.level fs ⊎ Stands e.level es → Ending fs es rest

-- so xs is read, behind es
pub record Reading (es : List Entry) (xs : List ℕ) : Type 0 where
  pub before : List Entry
  pub rest : List ℕ
  pub parts : xs ≡ table_text before ++ rest
  pub different : Different before
  pub new : New before es
  pub ending : Ending before es rest

none_before : (es : List Entry) (xs : List ℕ) → Ending [] es xs → Reading es xs
unfolding concat
none_before es xs e = record { before = []; rest = xs; parts = refl; different = tt; new = (λ e m s. Memᴰ.not-nil m); ending = e }

front_line : (es : List Entry) (xs ys : List ℕ) (e : Entry) → xs ≡ line_text e ++ ys → given_action es e.level ≡ None → Reading (e ∷ es) ys → Reading es xs
unfolding concat
front_line es xs ys e t g r =
    record {
      before = e ∷ r.before;
      rest = r.rest;
      parts = t ∙ (ap (λ (l : List ℕ). line_text e ++ l) r.parts ∙ sym (append_assoc (line_text e) (table_text r.before) r.rest));
      different = ((λ s. r.new s.0 s.1 (e, Memᴰ.head refl, sym s.2)), r.different);
      new = λ f m s.
          ⊎_elim
          (λ i. none_given es e.level g (s.0, s.1, s.2 ∙ ap (λ (h : Entry). h.level) i))
          (λ n. r.new f n (s.0, Memᴰ.tail s.1, s.2))
          (Memᴰ.cases_cons m);
      ending = moved r.before r.rest r.ending;
    }
  where
    moved : (fs : List Entry) (rest : List ℕ) → Ending fs (e ∷ es) rest → Ending (e ∷ fs) es rest
    moved fs rest (finished z) = finished z
    moved fs rest (malformed p w) = malformed p w
    moved fs rest (repeats f more q s) =
        repeats f more q
        (⊎_elim
        (λ u. inl (u.0, Memᴰ.tail u.1, u.2))
        (λ u.
        ⊎_elim
        (λ i. inl (u.0, Memᴰ.head i, u.2))
        (λ n. inr (u.0, n, u.2))
        (Memᴰ.cases_cons u.1))
        s)

step : (es : List Entry) (xs : List ℕ) → 0 < length xs → ((e : Entry) (ys : List ℕ) → length ys < length xs → Reading (e ∷ es) ys) → Reading es xs
step es xs p more = by_entry (entry_of (first_line xs)) refl
  where
    by_given : (e : Entry) → xs ≡ line_text e ++ drop (length (line_text e)) xs → (o : Option Action) → given_action es e.level ≡ o → Reading es xs
    by_given e t (Some a) g =
        none_before es xs (repeats e (drop (length (line_text e)) xs) t (inr (entry e.level a, given_line es e.level a g, refl)))
    by_given e t None g =
        let ys = drop (length (line_text e)) xs in
        let less : length ys < length xs = omega (arith, ap length t, length-append (line_text e) ys, text_size e) in
        front_line es xs ys e t g (more e ys less)

    by_entry : (o : Option Entry) → entry_of (first_line xs) ≡ o → Reading es xs
    by_entry None q = none_before es xs (malformed p ((no_entry_exactly (first_line xs)).0 q))
    by_entry (Some e) q =
        by_given e (text_first e xs ((entry_exactly (first_line xs) e).0 q)) (given_action es e.level) refl

reading_of : (k : ℕ) (es : List Entry) (xs : List ℕ) → length xs ≤ k → Reading es xs
reading_of zero es [] h = none_before es [] (finished refl)
reading_of zero es (x ∷ t) h = absurd (omega arith)
reading_of (suc k) es [] h = none_before es [] (finished refl)
reading_of (suc k) es (x ∷ t) h = step es (x ∷ t) (omega arith) (λ e ys m. reading_of k (e ∷ es) ys (omega arith))

-- each text is read so
pub reading : (xs : List ℕ) → Reading [] xs
reading xs = reading_of (length xs) [] xs (omega arith)
