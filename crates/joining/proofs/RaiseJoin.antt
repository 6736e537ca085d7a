-- Pass 5 over two texts joined, the first with a live `;` at its end and each of its RAISE followed safely: the two outcomes
-- joined. Assumes nothing.
use Rattle.std.specs.Prelude.{Option, Some, None}
use Rattle.std.proofs.lemmas.Bool.{cond_both, and_parts, or_parts}
use mathlib.Core.Path.{◌≡◌, refl, sym, ap, ◌∙◌}
use mathlib.Core.Bool.{Bool, true, false, not, ◌&&◌, ◌||◌, false≢true}
use mathlib.Core.List.{List, [], ◌∷◌, ◌++◌, append_assoc}
use Prim.Native.Nat.{ℕ, zero, suc, ◌+◌, ◌-◌, ◌≤◌, ◌<◌, zero-le, suc-le-suc}
use native.Mathlib.Nat.{le_of_suc-le-suc, not-suc-le-zero}
use native.Mathlib.Omega.{arith}
use borrow.Author.Tests.{eqb-true, leb-true, not-true}
use lib.Dec.{eqb, leb}
use lib.ListN.{length, drop, length-drop, length-append}
use lib.Seq.{take-append-le, drop-append-le, drop-drop}
use Rattle.spec.proofs.RefusalOutcomes.{outcome_none}
use Rattle.spec.proofs.ByteSets.{sign_not_ident, sign_not_w, gap_w, ident_not_w}
use Rattle.spec.proofs.BytesLaws.{bytes_append}
use Rattle.spec.proofs.Apart.{apart}
use Rattle.spec.proofs.Choice.{by}
use Rattle.spec.proofs.MapLaws.{mark_byte, text_length}
use Rattle.spec.proofs.LengthLaws.{word_in}
use Rattle.spec.specs.Bytes.{ascii, within, is_lower, is_ident, is_word, is_w, is_pair, upper}
use Rattle.spec.specs.Lists.{take_while, drop_while, all}
use Rattle.spec.specs.Spans.{opens_dollar, kind_at, span_of, span_at, span_len}
use Rattle.spec.specs.Map.{Marked, live, quoted, byte, bytes, mark, marked_text, is_live_byte, front_byte, front_live, of_byte, span_flag}
use Rattle.spec.specs.Search.{starts_ignoring_case, word_here}
use Rattle.spec.specs.Outcome.{◌⊕◌}
use Rattle.spec.specs.Raise.{passed, LevelWord, level_words, level_in, ends_level, is_exception, level_len, content_of, raised_at, Token, kept, raised, raises_from, token_text, join_tokens, raise}
use Rattle.spec.specs.declared.Level.{Level}
use Rattle.spec.specs.declared.Action.{Action}
use Rattle.spec.specs.declared.Level.TheVariants.{Exception, Notice, Warning, Debug, Log, Info}
use Rattle.spec.specs.Closed.{ends_live}
use Rattle.spec.specs.declared.Span.TheVariants.{Code}
use Rattle.joining.specs.Safe.{ends_level_safely, level_safe, safe_behind, raises_safe}
use Rattle.joining.proofs.Bools.{other, another, rest_says}
use Rattle.joining.proofs.SpanJoin.{marks_from, marks_length, marks_text, marks_join, ends_behind, ends_short}
use Rattle.joining.proofs.PassJoin.{at_end, no_semi, semi_last, starts_keep, starts_short, word_keep, word_fresh, outcome_assoc}

-- ---- bytes that open no span

unfoldable pub opens_none : ℕ → Bool
opens_none c = not (eqb c 45) && (not (eqb c 47) && (not (eqb c 39) && (not (eqb c 34) && not (eqb c 36))))

none_span : (c : ℕ) (cs : List ℕ) → opens_none c ≡ true → span_at (c ∷ cs) ≡ Code 1
unfolding opens_none span_at span_of kind_at is_pair opens_dollar
none_span c cs h =
    let a = not (eqb c 45) in
    let b = not (eqb c 47) in
    let d = not (eqb c 39) in
    let e = not (eqb c 34) in
    let f = not (eqb c 36) in
    let h2 = (and_parts a (b && (d && (e && f))) h).1 in
    let h3 = (and_parts b (d && (e && f)) h2).1 in
    let h4 = (and_parts d (e && f) h3).1 in
    let n1 : eqb c 45 ≡ false = not-true (eqb c 45) ((and_parts a (b && (d && (e && f))) h).0) in
    let n2 : eqb c 47 ≡ false = not-true (eqb c 47) ((and_parts b (d && (e && f)) h2).0) in
    let n3 : eqb c 39 ≡ false = not-true (eqb c 39) ((and_parts d (e && f) h3).0) in
    let n4 : eqb c 34 ≡ false = not-true (eqb c 34) ((and_parts e f h4).0) in
    let n5 : eqb c 36 ≡ false = not-true (eqb c 36) ((and_parts e f h4).1) in
    simp (n1, n2, n3, n4, n5)

-- such a byte is live, and the walk goes on right behind it
pub none_marks : (c : ℕ) (cs : List ℕ) → opens_none c ≡ true → marks_from 0 (c ∷ cs) ≡ live c ∷ marks_from 0 cs
unfolding marks_from
none_marks c cs h = rw (none_span c cs h)

-- where the bytes that may open a span fail a test, what passes it opens none
pub none_of : (f : ℕ → Bool) (c : ℕ) → f c ≡ true → f 45 ≡ false → f 47 ≡ false → f 39 ≡ false → f 34 ≡ false → f 36 ≡ false → opens_none c ≡ true
unfolding opens_none
none_of f c h a b d e g = rw (other f 45 c a h, other f 47 c b h, other f 39 c d h, other f 34 c e h, other f 36 c g h)

pub none_ident : (c : ℕ) → is_ident c ≡ true → opens_none c ≡ true
none_ident c h =
    none_of is_ident c h (sign_not_ident 45 refl) (sign_not_ident 47 refl) (sign_not_ident 39 refl) (sign_not_ident 34 refl) (sign_not_ident 36 refl)

pub none_upper : (c : ℕ) → opens_none (upper c) ≡ true → opens_none c ≡ true
unfolding opens_none upper is_lower within
none_upper c h = none_of (λ (c : ℕ). opens_none (upper c)) c h refl refl refl refl refl

-- ---- the walk's marks behind such bytes

pub marks_bytes : (k : ℕ) (xs : List ℕ) → bytes (marks_from k xs) ≡ xs
unfolding marks_from bytes
marks_bytes k [] = refl
marks_bytes zero (c ∷ cs) = rw mark_byte (ap (λ (l : List ℕ). c ∷ l) (marks_bytes (span_len (span_at (c ∷ cs)) - 1) cs))
marks_bytes (suc k) (c ∷ cs) = ap (λ (l : List ℕ). c ∷ l) (marks_bytes k cs)

marks_nil : (k : ℕ) → marks_from k [] ≡ []
unfolding marks_from
marks_nil k = refl

marks_front : (c : ℕ) (cs : List ℕ) → (x : Marked) × (j : ℕ) × (marks_from 0 (c ∷ cs) ≡ x ∷ marks_from j cs) × (byte x ≡ c)
unfolding marks_from
marks_front c cs =
    let s = span_at (c ∷ cs) in
    (mark (span_flag s) c, span_len s - 1, refl, mark_byte (span_flag s) c)

front_marks : (c : ℕ) (cs : List ℕ) → front_byte (marks_from 0 (c ∷ cs)) ≡ c
unfolding front_byte
front_marks c cs =
    let m = marks_front c cs in
    ap front_byte m.2 ∙ m.3

starts_head : (a : ℕ) (w : List ℕ) (x : Marked) (t : List Marked) → starts_ignoring_case (a ∷ w) (x ∷ t) ≡ true → upper (byte x) ≡ upper a
unfolding starts_ignoring_case
starts_head a w x t h = eqb-true _ _ ((and_parts (eqb (upper (byte x)) (upper a)) (starts_ignoring_case w t) h).0)

starts_tail : (a : ℕ) (w : List ℕ) (x : Marked) (t : List Marked) → starts_ignoring_case (a ∷ w) (x ∷ t) ≡ true → starts_ignoring_case w t ≡ true
unfolding starts_ignoring_case
starts_tail a w x t h = (and_parts (eqb (upper (byte x)) (upper a)) (starts_ignoring_case w t) h).1

starts_nil : (a : ℕ) (w : List ℕ) → starts_ignoring_case (a ∷ w) [] ≡ false
unfolding starts_ignoring_case
starts_nil a w = refl

-- behind a word of such bytes the marks are those of a fresh start
pub starts_visits : (w xs : List ℕ) → all (λ (a : ℕ). opens_none (upper a)) w ≡ true
    → starts_ignoring_case w (marks_from 0 xs) ≡ true
    → drop (length w) (marks_from 0 xs) ≡ marks_from 0 (drop (length w) xs)
unfolding all
starts_visits [] xs n h = refl
starts_visits (a ∷ w) [] n h = absurd (false≢true (sym (starts_nil a w) ∙ (rw (marks_nil 0) at h)))
starts_visits (a ∷ w) (c ∷ cs) n h =
    let m = marks_front c cs in
    let up : upper (byte m.0) ≡ upper a = starts_head a w m.0 (marks_from m.1 cs) (rw m.2 at h) in
    let up2 : upper c ≡ upper a = ap upper (sym m.3) ∙ up in
    let more = all (λ (a : ℕ). opens_none (upper a)) w in
    let k : opens_none c ≡ true = none_upper c (ap opens_none up2 ∙ (and_parts (opens_none (upper a)) more n).0) in
    let h2 : starts_ignoring_case (a ∷ w) (live c ∷ marks_from 0 cs) ≡ true = rw (none_marks c cs k) at h in
    rw (none_marks c cs k) (starts_visits w cs ((and_parts (opens_none (upper a)) more n).1) (starts_tail a w (live c) (marks_from 0 cs) h2))

-- ---- up to the first element that stops

module _ (g : Marked → Bool) (stop : g (live 59) ≡ false) where
  while_snoc : (s u : List Marked) → take_while g (s ++ (live 59 ∷ u)) ≡ take_while g (s ++ (live 59 ∷ []))
  unfolding take_while
  while_snoc [] u = rw stop
  while_snoc (x ∷ s) u = rw (while_snoc s u)

  while_before : (s : List Marked) → length (take_while g (s ++ (live 59 ∷ []))) < length (s ++ (live 59 ∷ []))
  unfolding take_while
  while_before [] = rw stop (suc-le-suc zero-le)
  while_before (x ∷ s) =
      cond_both (g x) _ _ (λ (l : List Marked). length l < suc (length (s ++ (live 59 ∷ []))))
      (λ _. suc-le-suc (while_before s)) (λ _. suc-le-suc zero-le)

  -- what stops at a `;` stops at the text's last one at the latest, whatever stands behind
  pub while_keep : (t u : List Marked) → ends_live t ≡ true → take_while g (t ++ u) ≡ take_while g t
  while_keep t u =
      at_end (λ t. take_while g (t ++ u) ≡ take_while g t)
      (λ s. ap (take_while g) (append_assoc s (live 59 ∷ []) u) ∙ while_snoc s u)
      t

  pub while_short : (t : List Marked) → ends_live t ≡ true → length (take_while g t) < length t
  while_short t = at_end (λ t. length (take_while g t) < length t) while_before t

-- ---- the level

-- an identifier byte ends no level
ident_runs : (c : ℕ) → is_ident c ≡ true → ends_level c ≡ false
unfolding ends_level
ident_runs c h = rw (ident_not_w c h, other is_ident 59 c (sign_not_ident 59 refl) h) refl

abbrev run : List Marked → List Marked
run t = take_while (of_byte (λ c. not (ends_level c))) t

run_on : (x : Marked) (t : List Marked) → ends_level (byte x) ≡ false → run (x ∷ t) ≡ x ∷ run t
unfolding take_while of_byte
run_on x t h = rw h

run_stop : (t : List Marked) → ends_level (front_byte t) ≡ true → run t ≡ []
unfolding take_while of_byte front_byte
run_stop [] h = refl
run_stop (x ∷ t) h = rw h

run_nil : run [] ≡ []
unfolding take_while
run_nil = refl

paren_none : opens_none 41 ≡ true
unfolding opens_none
paren_none = refl

space_none : opens_none 32 ≡ true
unfolding opens_none
space_none = refl

semi_ends : ends_level 59 ≡ true
unfolding ends_level
semi_ends = rw (sign_not_w 59 refl) refl

safe_ident : (x : Marked) (t : List Marked) → is_ident (byte x) ≡ true → ends_level_safely (x ∷ t) ≡ ends_level_safely t
unfolding ends_level_safely drop_while of_byte
safe_ident x t h = rw h

-- behind the identifier bytes that is a `)` and `;`, or the run stops
safe_paren : (x : Marked) (t : List Marked) → is_ident (byte x) ≡ false → ends_level (byte x) ≡ false → ends_level_safely (x ∷ t) ≡ true
    → (eqb (byte x) 41 && eqb (front_byte t) 59) ≡ true
unfolding ends_level_safely drop_while of_byte front_byte ends_level
safe_paren x t i e h =
    let c = byte x in
    let a : eqb c 59 ≡ false = (or_parts (is_w c) (eqb c 59) e).1 in
    let b : eqb c 32 ≡ false = another is_w 32 c (gap_w 32 refl) ((or_parts (is_w c) (eqb c 59) e).0) in
    rw (i, a, b) at h

-- a level that ends safely runs over bytes that open nothing
pub run_visits : (xs : List ℕ) → ends_level_safely (marks_from 0 xs) ≡ true
    → drop (length (run (marks_from 0 xs))) (marks_from 0 xs) ≡ marks_from 0 (drop (length (run (marks_from 0 xs))) xs)
run_visits [] h = rw (marks_nil 0, run_nil) (sym (marks_nil 0))
run_visits (c ∷ cs) h =
    by (is_ident c)
    (λ i.
    let m : marks_from 0 (c ∷ cs) ≡ live c ∷ marks_from 0 cs = none_marks c cs (none_ident c i) in
    let h2 : ends_level_safely (live c ∷ marks_from 0 cs) ≡ true = rw m at h in
    rw (m, run_on (live c) (marks_from 0 cs) (ident_runs c i)) (run_visits cs (sym (safe_ident (live c) (marks_from 0 cs) i) ∙ h2)))
    (λ i. by (ends_level c)
    (λ e. rw (run_stop (marks_from 0 (c ∷ cs)) (ap ends_level (front_marks c cs) ∙ e)))
    (λ e.
    let f = marks_front c cs in
    let x = f.0 in
    let t = marks_from f.1 cs in
    let p : (eqb (byte x) 41 && eqb (front_byte t) 59) ≡ true = safe_paren x t (ap is_ident f.3 ∙ i) (ap ends_level f.3 ∙ e) (rw f.2 at h) in
    let c41 : c ≡ 41 = sym f.3 ∙ eqb-true (byte x) 41 ((and_parts (eqb (byte x) 41) (eqb (front_byte t) 59) p).0) in
    let m : marks_from 0 (c ∷ cs) ≡ live c ∷ marks_from 0 cs = none_marks c cs (ap opens_none c41 ∙ paren_none) in
    let q : (eqb c 41 && eqb (front_byte (marks_from 0 cs)) 59) ≡ true = safe_paren (live c) (marks_from 0 cs) i e (rw m at h) in
    let z : front_byte (marks_from 0 cs) ≡ 59 = eqb-true _ 59 ((and_parts (eqb c 41) (eqb (front_byte (marks_from 0 cs)) 59) q).1) in
    rw (m, run_on (live c) (marks_from 0 cs) e, run_stop (marks_from 0 cs) (ap ends_level z ∙ semi_ends))))

-- whether a level stands before the `;` is decided before it
level_snoc : (ws : List LevelWord) (s u : List Marked) → all (λ (w : LevelWord). semi_last w.word) ws ≡ true
    → level_in ws (s ++ (live 59 ∷ u)) ≡ level_in ws (s ++ (live 59 ∷ []))
unfolding level_in all
level_snoc [] s u h = refl
level_snoc (w ∷ ws) s u h =
    let more = all (λ (w : LevelWord). semi_last w.word) ws in
    rw (starts_keep u w.word s ((and_parts (semi_last w.word) more h).0), level_snoc ws s u ((and_parts (semi_last w.word) more h).1))

level_keep : (t u : List Marked) → ends_live t ≡ true → level_in level_words (t ++ u) ≡ level_in level_words t
unfolding level_words all semi_last upper is_lower within
level_keep t u =
    at_end (λ t. level_in level_words (t ++ u) ≡ level_in level_words t)
    (λ s. ap (level_in level_words) (append_assoc s (live 59 ∷ []) u) ∙ level_snoc level_words s u refl)
    t

-- EXCEPTION is found only where it stands
never_exception : (ws : List LevelWord) (t : List Marked) → all (λ (w : LevelWord). not (is_exception w.level)) ws ≡ true
    → level_in ws t ≡ Some Exception → ⊥
unfolding level_in all
never_exception [] t n h = apart (cc)
never_exception (w ∷ ws) t n h =
    let more = all (λ (w : LevelWord). not (is_exception w.level)) ws in
    by (starts_ignoring_case w.word t)
    (λ e.
    let f : Some w.level ≡ Some Exception = rw e at h in
    let g : w.level ≡ Exception = cc in
    false≢true (rw g at ((and_parts (not (is_exception w.level)) more n).0)))
    (λ e. never_exception ws t ((and_parts (not (is_exception w.level)) more n).1) (rw e at h))

found_exception : (t : List Marked) → level_in level_words t ≡ Some Exception → starts_ignoring_case (ascii "EXCEPTION") t ≡ true
unfolding level_words level_in all
found_exception t h =
    by (starts_ignoring_case (ascii "EXCEPTION") t)
    (λ e. e)
    (λ e. absurd (never_exception (drop 1 level_words) t refl (rw e at h)))

-- the level's length: its bytes open nothing, and it ends before the last `;`
module _ (xs : List ℕ) (ends : ends_live (marks_from 0 xs) ≡ true) (safe : ends_level_safely (marks_from 0 xs) ≡ true) where
  level_visits : (l : Level) → level_in level_words (marks_from 0 xs) ≡ Some l
      → drop (level_len l (marks_from 0 xs)) (marks_from 0 xs) ≡ marks_from 0 (drop (level_len l (marks_from 0 xs)) xs)
  unfolding level_len all opens_none upper is_lower within
  level_visits Exception h = starts_visits (ascii "EXCEPTION") xs refl (found_exception (marks_from 0 xs) h)
  level_visits Notice h = run_visits xs safe
  level_visits Warning h = run_visits xs safe
  level_visits Debug h = run_visits xs safe
  level_visits Log h = run_visits xs safe
  level_visits Info h = run_visits xs safe

run_keep : (t u : List Marked) → ends_live t ≡ true → run (t ++ u) ≡ run t
unfolding of_byte
run_keep t u h = while_keep (of_byte (λ c. not (ends_level c))) (ap not semi_ends) t u h

len_keep : (l : Level) (t u : List Marked) → ends_live t ≡ true → level_len l (t ++ u) ≡ level_len l t
unfolding level_len
len_keep l t u h = rw (run_keep t u h)

exception_short : (t : List Marked) → ends_live t ≡ true → starts_ignoring_case (ascii "EXCEPTION") t ≡ true → 9 < length t
unfolding no_semi all upper is_lower within
exception_short t =
    at_end (λ t. starts_ignoring_case (ascii "EXCEPTION") t ≡ true → 9 < length t)
    (λ s h. rw length-append (omega (arith, starts_short [] (ascii "EXCEPTION") s refl h)))
    t

len_short : (l : Level) (t : List Marked) → ends_live t ≡ true → level_in level_words t ≡ Some l → level_len l t < length t
unfolding level_len of_byte
len_short Exception t h e = exception_short t h (found_exception t e)
len_short Notice t h e = while_short (of_byte (λ c. not (ends_level c))) (ap not semi_ends) t h
len_short Warning t h e = while_short (of_byte (λ c. not (ends_level c))) (ap not semi_ends) t h
len_short Debug t h e = while_short (of_byte (λ c. not (ends_level c))) (ap not semi_ends) t h
len_short Log t h e = while_short (of_byte (λ c. not (ends_level c))) (ap not semi_ends) t h
len_short Info t h e = while_short (of_byte (λ c. not (ends_level c))) (ap not semi_ends) t h

-- ---- the content

-- read afresh from a place that the walk visits, the content is the same with more text behind
content_keep : (xs : List ℕ) (u : List Marked) → ends_live (marks_from 0 xs) ≡ true
    → content_of (marks_from 0 xs ++ u) ≡ content_of (marks_from 0 xs)
unfolding content_of
content_keep xs u h =
    let e : bytes (marks_from 0 xs ++ u) ≡ xs ++ bytes u = bytes_append (marks_from 0 xs) u ∙ ap (λ (l : List ℕ). l ++ bytes u) (marks_bytes 0 xs) in
    let m : ends_live (marked_text xs) ≡ true = ap ends_live (marks_text xs) ∙ h in
    rw (e, marks_bytes 0 xs, marks_join xs (bytes u) m)
    (while_keep (λ (x : Marked). not (is_live_byte 59 x)) refl (marked_text xs) (marked_text (bytes u)) m)

content_short : (xs : List ℕ) → ends_live (marks_from 0 xs) ≡ true → length (content_of (marks_from 0 xs)) < length xs
unfolding content_of
content_short xs h =
    let m : ends_live (marked_text xs) ≡ true = ap ends_live (marks_text xs) ∙ h in
    let s = while_short (λ (x : Marked). not (is_live_byte 59 x)) refl (marked_text xs) m in
    rw (marks_bytes 0 xs) (rw (text_length xs) at s)

-- ---- one RAISE

ends_drop : (n : ℕ) (t : List Marked) → ends_live t ≡ true → n < length t → ends_live (drop n t) ≡ true
ends_drop zero t h k = h
ends_drop (suc n) [] h k = absurd (not-suc-le-zero k)
ends_drop (suc n) (x ∷ t) h k = ends_drop n t (sym (ends_behind x t (omega arith)) ∙ h) (le_of_suc-le-suc k)

-- behind RAISE: the separator opens nothing and is not the last byte
sep_visits : (xs : List ℕ) → safe_behind (marks_from 0 xs) ≡ true → drop 1 (marks_from 0 xs) ≡ marks_from 0 (drop 1 xs)
unfolding safe_behind
sep_visits [] h = rw (marks_nil 0)
sep_visits (c ∷ cs) h =
    let t = marks_from 0 (c ∷ cs) in
    let a = eqb (front_byte t) 32 in
    let b = eqb (front_byte t) 41 in
    let more = leb 2 (length t) && level_safe (level_in level_words (drop 1 t)) (drop 1 t) in
    let o : (a || b) ≡ true = (and_parts (a || b) more h).0 in
    let k : opens_none c ≡ true =
    by a
    (λ e. ap opens_none (sym (front_marks c cs) ∙ eqb-true (front_byte t) 32 e) ∙ space_none)
    (λ e. let f : b ≡ true = rw e at o in ap opens_none (sym (front_marks c cs) ∙ eqb-true (front_byte t) 41 f) ∙ paren_none) in
    rw (none_marks c cs k)

sep_room : (t : List Marked) → safe_behind t ≡ true → 2 ≤ length t
unfolding safe_behind
sep_room t h =
    let more = level_safe (level_in level_words (drop 1 t)) (drop 1 t) in
    let o = eqb (front_byte t) 32 || eqb (front_byte t) 41 in
    leb-true 2 (length t) ((and_parts (leb 2 (length t)) more ((and_parts o (leb 2 (length t) && more) h).1)).0)

sep_level : (t : List Marked) → safe_behind t ≡ true → level_safe (level_in level_words (drop 1 t)) (drop 1 t) ≡ true
unfolding safe_behind
sep_level t h =
    let more = level_safe (level_in level_words (drop 1 t)) (drop 1 t) in
    let o = eqb (front_byte t) 32 || eqb (front_byte t) 41 in
    (and_parts (leb 2 (length t)) more ((and_parts o (leb 2 (length t) && more) h).1)).1

-- what becomes of the RAISE at the front of t is the same with u behind, and it ends within t
record Kept (act : Level → Action) (t u : List Marked) : Type 0 where
  same : raised_at act (level_in level_words (drop 6 (t ++ u))) (t ++ u) ≡ raised_at act (level_in level_words (drop 6 t)) t
  within : (raised_at act (level_in level_words (drop 6 t)) t).length ≤ length t

module _ (act : Level → Action) (xs : List ℕ) (u : List Marked) (ends : ends_live (marks_from 0 xs) ≡ true) (six : 6 < length xs)
    (visits : drop 6 (marks_from 0 xs) ≡ marks_from 0 (drop 6 xs)) where
  six_marks : 6 ≤ length (marks_from 0 xs)
  six_marks = rw (marks_length 0 xs) (omega arith)

  six_more : drop 6 (marks_from 0 xs ++ u) ≡ marks_from 0 (drop 6 xs) ++ u
  six_more = drop-append-le 6 (marks_from 0 xs) u six_marks ∙ ap (λ (l : List Marked). l ++ u) visits

  six_ends : ends_live (marks_from 0 (drop 6 xs)) ≡ true
  six_ends = ap ends_live (sym visits) ∙ ends_drop 6 (marks_from 0 xs) ends (rw (marks_length 0 xs) six)

  level_known : (o : Option Level) → level_in level_words (marks_from 0 (drop 6 xs)) ≡ o → level_safe o (marks_from 0 (drop 6 xs)) ≡ true
      → (raised_at act o (marks_from 0 xs ++ u) ≡ raised_at act o (marks_from 0 xs)) × ((raised_at act o (marks_from 0 xs)).length ≤ length xs)
  unfolding raised_at
  level_known None e s =
      (ap (λ (l : List Marked). record { length = 6; fate = passed l }) (take-append-le 6 (marks_from 0 xs) u six_marks), omega arith)
  level_known (Some l) e s =
      let t = marks_from 0 (drop 6 xs) in
      let n = level_len l t in
      let ys = drop n (drop 6 xs) in
      let short : n < length t = len_short l t six_ends e in
      let back : drop n t ≡ marks_from 0 ys = level_visits (drop 6 xs) six_ends s l e in
      let n1 : level_len l (drop 6 (marks_from 0 xs ++ u)) ≡ n = ap (level_len l) six_more ∙ len_keep l t u six_ends in
      let n2 : level_len l (drop 6 (marks_from 0 xs)) ≡ n = ap (level_len l) visits in
      let d1 : drop (6 + n) (marks_from 0 xs ++ u) ≡ marks_from 0 ys ++ u =
      sym (drop-drop n 6 (marks_from 0 xs ++ u)) ∙ (ap (drop n) six_more ∙ (drop-append-le n t u (omega arith) ∙ ap (λ (l : List Marked). l ++ u) back)) in
      let d2 : drop (6 + n) (marks_from 0 xs) ≡ marks_from 0 ys = sym (drop-drop n 6 (marks_from 0 xs)) ∙ (ap (drop n) visits ∙ back) in
      let here : ends_live (marks_from 0 ys) ≡ true = ap ends_live (sym back) ∙ ends_drop n t six_ends short in (
        rw (n1, n2, d1, d2, content_keep ys u here),
        rw (n2, d2) (omega (arith, content_short ys here, length-drop n (drop 6 xs), length-drop 6 xs)),
      )

found_kept : (act : Level → Action) (xs : List ℕ) (u : List Marked) (p : ℕ) → ends_live (marks_from 0 xs) ≡ true
    → word_here is_word (ascii "RAISE") p (marks_from 0 xs) ≡ true
    → safe_behind (drop 5 (marks_from 0 xs)) ≡ true
    → Kept act (marks_from 0 xs) u
unfolding all opens_none upper is_lower within
found_kept act xs u p ends w s =
    let five : drop 5 (marks_from 0 xs) ≡ marks_from 0 (drop 5 xs) = starts_visits (ascii "RAISE") xs refl (word_in is_word (ascii "RAISE") p (marks_from 0 xs) w) in
    let t = marks_from 0 (drop 5 xs) in
    let safe : safe_behind t ≡ true = rw five at s in
    let one : drop 1 t ≡ marks_from 0 (drop 1 (drop 5 xs)) = sep_visits (drop 5 xs) safe in
    let room : 6 < length xs = omega (arith, sep_room t safe, marks_length 0 (drop 5 xs), length-drop 5 xs) in
    let visits : drop 6 (marks_from 0 xs) ≡ marks_from 0 (drop 6 xs) =
    sym (drop-drop 1 5 (marks_from 0 xs)) ∙ (ap (drop 1) five ∙ (one ∙ ap (marks_from 0) (drop-drop 1 5 xs))) in
    let one6 : drop 1 t ≡ marks_from 0 (drop 6 xs) = one ∙ ap (marks_from 0) (drop-drop 1 5 xs) in
    let level : level_safe (level_in level_words (marks_from 0 (drop 6 xs))) (marks_from 0 (drop 6 xs)) ≡ true = rw one6 at (sep_level t safe) in
    let known = level_known act xs u ends room visits (level_in level_words (marks_from 0 (drop 6 xs))) refl level in
    let l1 : level_in level_words (drop 6 (marks_from 0 xs ++ u)) ≡ level_in level_words (marks_from 0 (drop 6 xs)) =
    ap (level_in level_words) (six_more act xs u ends room visits) ∙ level_keep (marks_from 0 (drop 6 xs)) u (six_ends act xs u ends room visits) in
    let l2 : level_in level_words (drop 6 (marks_from 0 xs)) ≡ level_in level_words (marks_from 0 (drop 6 xs)) = ap (level_in level_words) visits in
    record { same = rw (l1, l2) known.0; within = rw (l2, marks_length 0 xs) known.1 }

-- ---- the search for RAISE

safe_more : (p : ℕ) (x : Marked) (t : List Marked) → raises_safe p (x ∷ t) ≡ true → raises_safe (byte x) t ≡ true
unfolding raises_safe
safe_more p x t h = rest_says (word_here is_word (ascii "RAISE") p (x ∷ t)) (safe_behind (drop 4 t)) (raises_safe (byte x) t) h

safe_here : (p : ℕ) (x : Marked) (t : List Marked) → raises_safe p (x ∷ t) ≡ true → word_here is_word (ascii "RAISE") p (x ∷ t) ≡ true
    → safe_behind (drop 4 t) ≡ true
unfolding raises_safe
safe_here p x t h e = (and_parts (safe_behind (drop 4 t)) (raises_safe (byte x) t) (rw e at h)).0

raise_keep : (p : ℕ) (t u : List Marked) → ends_live t ≡ true → word_here is_word (ascii "RAISE") p (t ++ u) ≡ word_here is_word (ascii "RAISE") p t
unfolding no_semi all upper is_lower within
raise_keep p t u =
    at_end (λ t. word_here is_word (ascii "RAISE") p (t ++ u) ≡ word_here is_word (ascii "RAISE") p t)
    (λ s. ap (word_here is_word (ascii "RAISE") p) (append_assoc s (live 59 ∷ []) u) ∙ word_keep u is_word (ascii "RAISE") p s refl)
    t

-- one byte of the search, the search behind it being known for every number of bytes to pass
turn : (act : Level → Action) (k p : ℕ) (x : Marked) (t u : List Marked)
    → word_here is_word (ascii "RAISE") p (x ∷ (t ++ u)) ≡ word_here is_word (ascii "RAISE") p (x ∷ t)
    → (word_here is_word (ascii "RAISE") p (x ∷ t) ≡ true → Kept act (x ∷ t) u)
    → ((j : ℕ) → j ≤ length t → raises_from act j (byte x) (t ++ u) ≡ raises_from act j (byte x) t ++ raises_from act 0 59 u)
    → k ≤ suc (length t)
    → raises_from act k p (x ∷ (t ++ u)) ≡ raises_from act k p (x ∷ t) ++ raises_from act 0 59 u
unfolding raises_from
turn act zero p x t u f keeps ih h =
    by (word_here is_word (ascii "RAISE") p (x ∷ t))
    (λ e.
    let k = keeps e in
    let n = (raised_at act (level_in level_words (drop 5 t)) (x ∷ t)).length - 1 in
    rw (f, e, k.same) (ap (λ (l : List Token). raised (raised_at act (level_in level_words (drop 5 t)) (x ∷ t)) ∷ l) (ih n (omega (arith, k.within)))))
    (λ e. rw (f, e) (ap (λ (l : List Token). kept x ∷ l) (ih 0 zero-le)))
turn act (suc k) p x t u f keeps ih h = ih k (le_of_suc-le-suc h)

quoted_word : (set : ℕ → Bool) (w : List ℕ) (p c : ℕ) (t : List Marked) → word_here set w p (quoted c ∷ t) ≡ false
unfolding word_here front_live
quoted_word set w p c t = refl

last_byte : (x : Marked) → ends_live (x ∷ []) ≡ true → byte x ≡ 59
unfolding ends_live
last_byte (live c) h = eqb-true c 59 h
last_byte (quoted c) h = absurd (false≢true h)

module _ (act : Level → Action) (u : List Marked) where
  -- the search over t and u, however many bytes of a RAISE are still to pass, is that over t and then that over u
  abbrev Splits : ℕ → List Marked → Type 0
  Splits p t = (k : ℕ) → k ≤ length t → raises_from act k p (t ++ u) ≡ raises_from act k p t ++ raises_from act 0 59 u

  splits_end : (p : ℕ) → p ≡ 59 → Splits p []
  unfolding raises_from
  splits_end p e zero h = rw e
  splits_end p e (suc k) h = absurd (not-suc-le-zero h)

  splits_behind : (x : Marked) (j : ℕ) (xs : List ℕ)
      → ((p : ℕ) → ends_live (marks_from j xs) ≡ true → raises_safe p (marks_from j xs) ≡ true → Splits p (marks_from j xs))
      → ends_live (x ∷ marks_from j xs) ≡ true
      → raises_safe (byte x) (marks_from j xs) ≡ true
      → Splits (byte x) (marks_from j xs)
  splits_behind x j [] ih h s =
      let e : ends_live (x ∷ []) ≡ true = rw (marks_nil j) at h in
      rw (marks_nil j) (splits_end (byte x) (last_byte x e))
  splits_behind x j (d ∷ ds) ih h s =
      let Some : 0 < length (marks_from j (d ∷ ds)) = rw (marks_length j (d ∷ ds)) (suc-le-suc zero-le) in
      ih (byte x) (sym (ends_behind x (marks_from j (d ∷ ds)) Some) ∙ h) s

  splits_walk : (j : ℕ) (xs : List ℕ) (p : ℕ) → ends_live (marks_from j xs) ≡ true → raises_safe p (marks_from j xs) ≡ true → Splits p (marks_from j xs)
  unfolding marks_from
  splits_walk j [] p h s k n = absurd (omega (arith, ends_short j [] h))
  splits_walk zero (c ∷ cs) p h s k n =
      let x = mark (span_flag (span_at (c ∷ cs))) c in
      let j = span_len (span_at (c ∷ cs)) - 1 in
      let t = marks_from j cs in
      turn act k p x t u (raise_keep p (x ∷ t) u h)
      (λ w. found_kept act (c ∷ cs) u p h w (safe_here p x t s w))
      (splits_behind x j cs (λ q e f. splits_walk j cs q e f) h (safe_more p x t s))
      n
  splits_walk (suc j) (c ∷ cs) p h s k n =
      let t = marks_from j cs in
      turn act k p (quoted c) t u (raise_keep p (quoted c ∷ t) u h)
      (λ w. absurd (false≢true (sym (quoted_word is_word (ascii "RAISE") p c t) ∙ w)))
      (splits_behind (quoted c) j cs (λ q e f. splits_walk j cs q e f) h (safe_more p (quoted c) t s))
      n

raises_fresh : (act : Level → Action) (t : List Marked) → raises_from act 0 59 t ≡ raises_from act 0 0 t
unfolding raises_from
raises_fresh act [] = refl
raises_fresh act (x ∷ t) = rw (word_fresh (ascii "RAISE") (x ∷ t))

tokens_append : (ps qs : List Token) → join_tokens (ps ++ qs) ≡ join_tokens ps ⊕ join_tokens qs
unfolding join_tokens
tokens_append [] qs = sym (outcome_none (join_tokens qs))
tokens_append (p ∷ ps) qs = rw (tokens_append ps qs) (sym (outcome_assoc (token_text p) (join_tokens ps) (join_tokens qs)))

-- whatever marked text stands behind
pub raise_at : (act : Level → Action) (a : List ℕ) (u : List Marked) → ends_live (marked_text a) ≡ true → raises_safe 0 (marked_text a) ≡ true
    → raise act (marked_text a ++ u) ≡ raise act (marked_text a) ⊕ raise act u
unfolding raise
raise_at act a u h s =
    let m = marks_text a in
    let e = splits_walk act u 0 a 0 (rw m at h) (rw m at s) 0 zero-le in
    rw m (ap join_tokens e ∙ (rw (raises_fresh act u) (tokens_append (raises_from act 0 0 (marks_from 0 a)) (raises_from act 0 0 u))))

pub raise_join : (act : Level → Action) (a b : List ℕ) → ends_live (marked_text a) ≡ true → raises_safe 0 (marked_text a) ≡ true
    → raise act (marked_text (a ++ b)) ≡ raise act (marked_text a) ⊕ raise act (marked_text b)
raise_join act a b h s = ap (raise act) (marks_join a b h) ∙ raise_at act a (marked_text b) h s
