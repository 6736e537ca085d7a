-- Pass 2 keeps what a reading reads, where letters leave the state in a word as it is. Assumes nothing.
use mathlib.Core.Path.{◌≡◌, refl, sym, ◌∙◌, subst}
use mathlib.Core.Bool.{Bool, true, false, cond, not, false≢true, true≢false}
use mathlib.Core.List.{List, [], ◌∷◌, ◌++◌, cons≢nil}
use Prim.Native.Nat.{ℕ, zero, suc}
use borrow.Author.Tests.{eqb-true, not-true}
use lib.Dec.{eqb}
use lib.ListN.{length}
use Rattle.spec.proofs.ByteSets.{sign_not_ident, letter_ident, capital_ident, not_word, upper_cases}
use Rattle.std.proofs.lemmas.Bool.{and_parts}
use Rattle.spec.proofs.Choice.{by}
use Rattle.spec.specs.Bytes.{ascii, within, is_digit, is_lower, is_upper, is_ident, is_word, is_quote, is_w, upper}
use Rattle.spec.specs.Map.{Marked, live, quoted, byte, lives, front_live}
use Rattle.spec.specs.Search.{starts_ignoring_case, word_here}
use Rattle.spec.specs.Elsif.{elsif_from, elsif}
use Rattle.spec.specs.Closed.{ends_live}
use Rattle.joining.proofs.Bools.{other, ident_no_quote}
use Rattle.joining.proofs.Reading.{Reading}
use Rattle.joining.proofs.Parts.{Read}
use Rattle.joining.proofs.Statements.{ends_append, ends_rest, ends_ident, Shut}
use Rattle.joining.proofs.WellFormed.{Open, clear, dash, slash, sign, tag, in_single, in_double, live_ok, well_ok, tagged, live_next, well_next, next_ident}
use Rattle.joining.proofs.WellFormedReading.{well_formed_reading}
use Rattle.joining.proofs.RaiseRead.{Seen, edge, in_word, r1, r2, r3, r4, r5, gap, paren, in_level, closed, level_letter, word_start, seen_next, seen_ok, seen_edge, raise_reading}

-- states that the letters of a word leave as they are, and that an E at the edge of a word leads to
pub record Speller (k : Reading) : Type 0 where
  pub still : k.State → Bool
  pub spell : (s : k.State) (c : ℕ) → k.edge s ≡ true → eqb (upper c) 69 ≡ true → k.ok s (live c) ≡ true
      → (k.ok s (live 69) ≡ true) × (k.after s (live c) ≡ k.after s (live 69)) × (still (k.after s (live 69)) ≡ true)
  pub keeps : (s : k.State) (x : Marked) → still s ≡ true → is_ident (byte x) ≡ true → k.ok s x ≡ true → k.after s x ≡ s
  pub takes : (s : k.State) (c : ℕ) → still s ≡ true → is_ident c ≡ true → k.ok s (live c) ≡ true

-- identifier bytes stand in front, so many
abbrev pub Idents : ℕ → List Marked → Type 0
Idents zero t = Unit {0}
Idents (suc n) [] = ⊥
Idents (suc n) (x ∷ t) = (is_ident (byte x) ≡ true) × Idents n t

abbrev Letters : List ℕ → Type 0
Letters [] = Unit {0}
Letters (a ∷ w) = ((c : ℕ) → eqb (upper c) (upper a) ≡ true → is_ident c ≡ true) × Letters w

word_idents : (w : List ℕ) (t : List Marked) → Letters w → starts_ignoring_case w t ≡ true → Idents (length w) t
unfolding starts_ignoring_case
word_idents [] t l h = tt
word_idents (a ∷ w) [] l h = absurd (false≢true h)
word_idents (a ∷ w) (x ∷ t) l h = (
  l.0 (byte x) ((and_parts (eqb (upper (byte x)) (upper a)) (starts_ignoring_case w t) h).0),
  word_idents w t l.1 ((and_parts (eqb (upper (byte x)) (upper a)) (starts_ignoring_case w t) h).1),
)

letters : Letters (ascii "LSIF")
unfolding upper is_lower within
letters = (
  λ c e. capital_ident c 76 refl (eqb-true (upper c) 76 e),
  (
    λ c e. capital_ident c 83 refl (eqb-true (upper c) 83 e),
    (
      λ c e. capital_ident c 73 refl (eqb-true (upper c) 73 e),
      (λ c e. capital_ident c 70 refl (eqb-true (upper c) 70 e), tt),
    ),
  ),
)

-- a live ELSIF at the front
record AtElsif (p : ℕ) (x : Marked) (t : List Marked) : Type 0 where
  code : ℕ
  is_live_lem : x ≡ live code
  first : eqb (upper code) 69 ≡ true
  idents : Idents 4 t
  left : is_ident p ≡ false

at_elsif : (p : ℕ) (x : Marked) (t : List Marked) → word_here is_word (ascii "ELSIF") p (x ∷ t) ≡ true → AtElsif p x t
unfolding word_here front_live starts_ignoring_case upper is_lower within
at_elsif p (quoted c) t h = absurd (false≢true h)
at_elsif p (live c) t h =
    let m : starts_ignoring_case (ascii "ELSIF") (live c ∷ t) ≡ true = (and_parts (starts_ignoring_case (ascii "ELSIF") (live c ∷ t)) _ h).0 in
    let w = not-true (is_word p) ((and_parts (not (is_word p)) _ ((and_parts (starts_ignoring_case (ascii "ELSIF") (live c ∷ t)) _ h).1)).0) in
    record {
      code = c;
      is_live_lem = refl;
      first = ((and_parts (eqb (upper c) (upper 69)) (starts_ignoring_case (ascii "LSIF") t) m).0);
      idents = word_idents (ascii "LSIF") t letters ((and_parts (eqb (upper c) (upper 69)) (starts_ignoring_case (ascii "LSIF") t) m).1);
      left = not_word p w;
    }

abbrev AllIdent : List ℕ → Type 0
AllIdent [] = Unit {0}
AllIdent (c ∷ w) = (is_ident c ≡ true) × AllIdent w

e_ident : (c : ℕ) → eqb (upper c) 69 ≡ true → is_ident c ≡ true
e_ident c e = capital_ident c 69 refl (eqb-true (upper c) 69 e)

lseif : AllIdent (ascii "LSEIF")
lseif = (letter_ident 76 refl, (letter_ident 83 refl, (letter_ident 69 refl, (letter_ident 73 refl, (letter_ident 70 refl, tt)))))

elsif_ends : (t : List Marked) (n p : ℕ) → Idents n t → ends_live t ≡ true → ends_live (elsif_from n p t) ≡ true
unfolding elsif_from
elsif_ends [] n p i h = h
elsif_ends (x ∷ t) zero p i h =
    by (word_here is_word (ascii "ELSIF") p (x ∷ t))
    (λ e.
    let a = at_elsif p x t e in
    let c = subst (λ (y : Marked). is_ident (byte y) ≡ true) (sym a.is_live_lem) (e_ident a.code a.first) in
    rw e (ends_append (lives (ascii "ELSEIF")) (elsif_from 4 (byte x) t) (elsif_ends t 4 (byte x) a.idents (ends_ident x t c h))))
    (λ e. rw e (rest t h (elsif_ends t 0 (byte x) tt)))
  where
    rest : (t : List Marked) → ends_live (x ∷ t) ≡ true → (ends_live t ≡ true → ends_live (elsif_from 0 (byte x) t) ≡ true)
        → ends_live (x ∷ elsif_from 0 (byte x) t) ≡ true
    rest [] h f = h
    rest (y ∷ t) h f = ends_append (x ∷ []) (elsif_from 0 (byte x) (y ∷ t)) (f (tail h))
      where
        tail : ends_live (x ∷ y ∷ t) ≡ true → ends_live (y ∷ t) ≡ true
        tail h = ends_rest x (y ∷ t) h (λ e. absurd (cons≢nil e))
elsif_ends (x ∷ t) (suc n) p i h = elsif_ends t n (byte x) i.1 (ends_ident x t i.0 h)

module _ (k : Reading) (l : Speller k) where
  abbrev Still : ℕ → k.State → Type 0
  Still zero s = Unit {0}
  Still (suc n) s = l.still s ≡ true

  still_down : (n : ℕ) (s : k.State) → l.still s ≡ true → Still n s
  still_down zero s h = tt
  still_down (suc n) s h = h

  spelled : (w : List ℕ) (u : List Marked) (s : k.State) → AllIdent w → l.still s ≡ true → Read k s u → Read k s (lives w ++ u)
  unfolding lives
  spelled [] u s a h r = r
  spelled (c ∷ w) u s a h r =
      let o = l.takes s c h a.0 in
      (o, subst (λ (z : k.State). Read k z (lives w ++ u)) (sym (l.keeps s (live c) h a.0 o)) (spelled w u s a.1 h r))

  elsif_reads : (t : List Marked) (n p : ℕ) (s : k.State) → Idents n t → Still n s → (is_ident p ≡ false → k.edge s ≡ true) → Read k s t
      → Read k s (elsif_from n p t)
  unfolding elsif_from lives
  elsif_reads [] n p s i z e r = tt
  elsif_reads (x ∷ t) zero p s i z e r =
      by (word_here is_word (ascii "ELSIF") p (x ∷ t))
      (λ h.
      let a = at_elsif p x t h in
      let c = a.code in
      let r2 : Read k s (live c ∷ t) = subst (λ (y : Marked). Read k s (y ∷ t)) a.is_live_lem r in
      let q = l.spell s c (e a.left) a.first r2.0 in
      let s2 = k.after s (live 69) in
      let more = elsif_reads t 4 (byte x) s2 a.idents q.2
      (λ f. absurd (true≢false (sym (subst (λ (y : Marked). is_ident (byte y) ≡ true) (sym a.is_live_lem) (e_ident c a.first)) ∙ f)))
      (subst (λ (w : k.State). Read k w t) q.1 r2.1) in
      rw h (q.0, spelled (ascii "LSEIF") (elsif_from 4 (byte x) t) s2 lseif q.2 more))
      (λ h. rw h (r.0, elsif_reads t 0 (byte x) (k.after s x) tt tt (λ f. k.edges s x f) r.1))
  elsif_reads (x ∷ t) (suc n) p s i z e r =
      elsif_reads t n (byte x) s i.1 (still_down n s z) (λ f. absurd (true≢false (sym i.0 ∙ f)))
      (subst (λ (w : k.State). Read k w t) (l.keeps s x z i.0 r.0) r.1)

  pub elsif_kept : (t : List Marked) → Shut k k.ok t → Shut k k.ok (elsif t)
  unfolding elsif
  elsif_kept t h =
      record {
        reads = elsif_reads t 0 0 k.start tt tt (λ _. k.edge_start) h.reads;
        ended = elsif_ends t 0 0 tt h.ended;
      }

-- ---- the two readings

abbrev well_still : Open → Bool
well_still clear = true
well_still dash = false
well_still slash = false
well_still sign = false
well_still tag = true
well_still in_single = false
well_still in_double = false

well_tagged : (s : Open) (c : ℕ) → eqb (upper c) 69 ≡ true → live_ok s c ≡ true
    → (live_ok s 69 ≡ true) × (tagged s c ≡ tagged s 69) × (well_still (tagged s 69) ≡ true)
unfolding is_digit within is_quote
well_tagged clear c e h = (refl, refl, refl)
well_tagged dash c e h = (refl, refl, refl)
well_tagged slash c e h = (refl, refl, refl)
well_tagged sign c e h = (refl, upper_cases (λ (n : ℕ). cond (is_digit n) clear tag ≡ tag) c 69 (eqb-true (upper c) 69 e) refl refl, refl)
well_tagged tag c e h = (refl, refl, refl)
well_tagged in_single c e h = absurd (false≢true h)
well_tagged in_double c e h = absurd (false≢true h)

well_spell : (s : Open) (c : ℕ) → eqb (upper c) 69 ≡ true → live_ok s c ≡ true
    → (live_ok s 69 ≡ true) × (live_next s c ≡ live_next s 69) × (well_still (live_next s 69) ≡ true)
well_spell s c e h =
    let w = well_tagged s c e h in
    let n = next_ident s 69 (letter_ident 69 refl) in
    (w.0, next_ident s c (e_ident c e) ∙ (w.1 ∙ sym n), subst (λ (z : Open). well_still z ≡ true) (sym n) w.2)

well_keeps : (s : Open) (x : Marked) → well_still s ≡ true → is_ident (byte x) ≡ true → well_ok s x ≡ true → well_next s x ≡ s
well_keeps clear (live c) h i o = next_ident clear c i
well_keeps clear (quoted c) h i o = absurd (true≢false (sym o ∙ ident_no_quote c i))
well_keeps dash x h i o = absurd (false≢true h)
well_keeps slash x h i o = absurd (false≢true h)
well_keeps sign x h i o = absurd (false≢true h)
well_keeps tag (live c) h i o = next_ident tag c i
well_keeps tag (quoted c) h i o = absurd (true≢false (sym o ∙ ident_no_quote c i))
well_keeps in_single x h i o = absurd (false≢true h)
well_keeps in_double x h i o = absurd (false≢true h)

well_takes : (s : Open) (c : ℕ) → well_still s ≡ true → is_ident c ≡ true → live_ok s c ≡ true
well_takes clear c h i = rw (ident_no_quote c i) refl
well_takes dash c h i = absurd (false≢true h)
well_takes slash c h i = absurd (false≢true h)
well_takes sign c h i = absurd (false≢true h)
well_takes tag c h i = rw (ident_no_quote c i, other is_ident 36 c (sign_not_ident 36 refl) i) refl
well_takes in_single c h i = absurd (false≢true h)
well_takes in_double c h i = absurd (false≢true h)

pub well_speller : Speller well_formed_reading
unfolding well_formed_reading
well_speller = record { still = well_still; spell = λ s c e u o. well_spell s c u o; keeps = well_keeps; takes = well_takes }

abbrev seen_still : Seen → Bool
seen_still edge = false
seen_still in_word = true
seen_still r1 = false
seen_still r2 = false
seen_still r3 = false
seen_still r4 = false
seen_still r5 = false
seen_still gap = false
seen_still paren = false
seen_still in_level = true
seen_still closed = false

e_word : (c : ℕ) → eqb (upper c) 69 ≡ true → word_start (live c) ≡ in_word
unfolding word_start upper is_lower within
e_word c e =
    upper_cases (λ (n : ℕ). word_start (live n) ≡ in_word) c 69 (eqb-true (upper c) 69 e)
    (rw (letter_ident 69 refl) refl) (rw (letter_ident 101 refl) refl)

e_level : (c : ℕ) → eqb (upper c) 69 ≡ true → seen_next gap (live c) ≡ in_level
unfolding seen_next level_letter
e_level c e = rw e refl

seen_spell : (s : Seen) (c : ℕ) → seen_edge s ≡ true → eqb (upper c) 69 ≡ true → seen_ok false s (live c) ≡ true
    → (seen_ok false s (live 69) ≡ true) × (seen_next s (live c) ≡ seen_next s (live 69)) × (seen_still (seen_next s (live 69)) ≡ true)
unfolding seen_next word_start level_letter upper is_ident is_lower is_upper is_digit within is_w
seen_spell edge c e u o = (refl, e_word c u, refl)
seen_spell in_word c e u o = absurd (false≢true e)
seen_spell r1 c e u o = absurd (false≢true e)
seen_spell r2 c e u o = absurd (false≢true e)
seen_spell r3 c e u o = absurd (false≢true e)
seen_spell r4 c e u o = absurd (false≢true e)
seen_spell r5 c e u o = absurd (false≢true e)
seen_spell gap c e u o = (refl, e_level c u, refl)
seen_spell paren c e u o = absurd (false≢true o)
seen_spell in_level c e u o = absurd (false≢true e)
seen_spell closed c e u o = absurd (false≢true o)

seen_keeps : (s : Seen) (x : Marked) → seen_still s ≡ true → is_ident (byte x) ≡ true → seen_next s x ≡ s
unfolding seen_next
seen_keeps edge x h i = absurd (false≢true h)
seen_keeps in_word x h i = rw i refl
seen_keeps r1 x h i = absurd (false≢true h)
seen_keeps r2 x h i = absurd (false≢true h)
seen_keeps r3 x h i = absurd (false≢true h)
seen_keeps r4 x h i = absurd (false≢true h)
seen_keeps r5 x h i = absurd (false≢true h)
seen_keeps gap x h i = absurd (false≢true h)
seen_keeps paren x h i = absurd (false≢true h)
seen_keeps in_level x h i = rw i refl
seen_keeps closed x h i = absurd (false≢true h)

seen_takes : (s : Seen) (c : ℕ) → seen_still s ≡ true → is_ident c ≡ true → seen_ok false s (live c) ≡ true
seen_takes edge c h i = absurd (false≢true h)
seen_takes in_word c h i = refl
seen_takes r1 c h i = absurd (false≢true h)
seen_takes r2 c h i = absurd (false≢true h)
seen_takes r3 c h i = absurd (false≢true h)
seen_takes r4 c h i = absurd (false≢true h)
seen_takes r5 c h i = absurd (false≢true h)
seen_takes gap c h i = absurd (false≢true h)
seen_takes paren c h i = absurd (false≢true h)
seen_takes in_level c h i = rw i refl
seen_takes closed c h i = absurd (false≢true h)

pub raise_read_speller : Speller raise_reading
unfolding raise_reading
raise_read_speller = record { still = seen_still; spell = seen_spell; keeps = λ s x h i o. seen_keeps s x h i; takes = seen_takes }
