-- A text that is read from the left with `)` allowed behind RAISE, and that ends in a live `;`, has what pass 5 needs.
-- Assumes nothing.
use Rattle.std.specs.Prelude.{Option, Some, None}
use Rattle.std.proofs.lemmas.Bool.{not_from_false, and_parts, or_parts}
use mathlib.Core.Path.{◌≡◌, refl, sym, ap, ◌∙◌, subst}
use mathlib.Core.Bool.{true, false, not, ◌&&◌, ◌||◌, false≢true, true≢false}
use mathlib.Core.List.{List, [], ◌∷◌, cons≢nil}
use Prim.Native.Nat.{ℕ, suc}
use native.Mathlib.Omega.{arith}
use borrow.Author.Tests.{eqb-true, le-leb, not-true}
use lib.Dec.{eqb, leb}
use lib.ListN.{length, drop}
use lib.Seq.{drop-drop}
use Rattle.spec.proofs.JoinedPieces.{live_byte}
use Rattle.spec.proofs.ByteSets.{is_capital, capital_ident, not_word}
use Rattle.spec.proofs.Choice.{by}
use Rattle.spec.specs.Bytes.{ascii, within, is_lower, is_ident, is_word, upper}
use Rattle.spec.specs.Lists.{drop_while}
use Rattle.spec.specs.Map.{Marked, byte, is_live, front_byte, front_live, of_byte}
use Rattle.spec.specs.Search.{starts_ignoring_case, word_here}
use Rattle.spec.specs.Raise.{level_words, level_in}
use Rattle.spec.specs.declared.Level.{Level}
use Rattle.spec.specs.Closed.{ends_live}
use Rattle.joining.specs.Safe.{ends_level_safely, level_safe, safe_behind, raises_safe}
use Rattle.joining.proofs.Bools.{at}
use Rattle.joining.proofs.Reading.{Reads}
use Rattle.joining.proofs.Statements.{ends_rest, ends_ident}
use Rattle.joining.proofs.RaiseRead.{Seen, edge, in_word, r1, r2, r3, r4, r5, gap, paren, in_level, closed, level_letter, level_letter_lem, word_start, letter_next, seen_next, seen_ok, seen_edge}
use Rattle.joining.proofs.RaiseReadStart.{edge_byte}

abbrev pub Guarded : Seen → List Marked → Type 0
Guarded s t = Reads (seen_ok true) seen_next s t

-- behind a byte that is no `;` a text goes on
ends_more : (x : Marked) (t : List Marked) → eqb (byte x) 59 ≡ false → ends_live (x ∷ t) ≡ true → ends_live t ≡ true
unfolding ends_live
ends_more x [] n h = absurd (true≢false (sym (ap (λ (y : Marked). eqb (byte y) 59) (live_byte 59 x h)) ∙ n))
ends_more x (y ∷ t) n h = h

-- ---- the level

safe_front : (c d : ℕ) → (eqb c 32 || (eqb c 59 || eqb c 41)) ≡ true → (eqb c 41 ≡ true → eqb d 59 ≡ true) → (eqb c 32 || (eqb c 59 || (eqb c 41 && eqb d 59))) ≡ true
safe_front c d h f =
    by (eqb c 32) (λ e. rw e refl)
    (λ e. rw e
    (by (eqb c 59) (λ g. rw g refl)
    (λ g. let p : eqb c 41 ≡ true = rw (e, g) at h in rw (g, p, f p) refl)))

closed_front : (t : List Marked) → ends_live t ≡ true → Guarded closed t → eqb (front_byte t) 59 ≡ true
unfolding ends_live front_byte
closed_front [] h r = absurd (false≢true h)
closed_front (x ∷ t) h r = r.0

level_ends : (t : List Marked) → ends_live t ≡ true → Guarded in_level t → ends_level_safely t ≡ true
unfolding ends_level_safely drop_while of_byte front_byte seen_next ends_live
level_ends [] h r = h
level_ends (x ∷ t) h r =
    by (is_ident (byte x))
    (λ i. rw i (level_ends t (ends_ident x t i h) (rw i at r.1)))
    (λ i. rw i
    (safe_front (byte x) (front_byte t) (rw i at r.0)
    (λ p. closed_front t (ends_more x t (at (λ (n : ℕ). eqb n 59 ≡ false) 41 (byte x) p refl) h) (rw (i, p) at r.1))))

-- the letters that levels begin with are capitals
capitals : (upper 69 ≡ 69) × (upper 78 ≡ 78) × (upper 87 ≡ 87) × (upper 68 ≡ 68) × (upper 76 ≡ 76) × (upper 73 ≡ 73)
unfolding upper is_lower within
capitals = (refl, refl, refl, refl, refl, refl)

-- no level begins with another letter
starts_other : (a n : ℕ) (w : List ℕ) (x : Marked) (t : List Marked) → upper a ≡ n → eqb (upper (byte x)) n ≡ false → starts_ignoring_case (a ∷ w) (x ∷ t) ≡ false
unfolding starts_ignoring_case
starts_other a n w x t e f = rw (e, f) refl

no_level : (x : Marked) (t : List Marked) → level_letter (byte x) ≡ false → level_in level_words (x ∷ t) ≡ None
unfolding level_in level_words level_letter
no_level x t h =
    let c = upper (byte x) in
    let e = or_parts (eqb c 69) _ h in
    let n = or_parts (eqb c 78) _ e.1 in
    let w = or_parts (eqb c 87) _ n.1 in
    let d = or_parts (eqb c 68) _ w.1 in
    let l = or_parts (eqb c 76) (eqb c 73) d.1 in
    rw (
      starts_other 69 69 (ascii "XCEPTION") x t capitals.0 e.0,
      starts_other 78 78 (ascii "OTICE") x t capitals.1 n.0,
      starts_other 87 87 (ascii "ARNING") x t capitals.2 w.0,
      starts_other 68 68 (ascii "EBUG") x t capitals.3 d.0,
      starts_other 76 76 (ascii "OG") x t capitals.4 l.0,
      starts_other 73 73 (ascii "NFO ") x t capitals.5 l.1,
      starts_other 73 73 (ascii "NFO\n") x t capitals.5 l.1,
      starts_other 73 73 (ascii "NFO;") x t capitals.5 l.1,
    ) refl

level_safe_lem : (o : Option Level) (t : List Marked) → ends_level_safely t ≡ true → level_safe o t ≡ true
level_safe_lem None t h = refl
level_safe_lem (Some l) t h = h

level_skip : (x : Marked) (t : List Marked) → is_ident (byte x) ≡ true → ends_level_safely t ≡ true → ends_level_safely (x ∷ t) ≡ true
unfolding ends_level_safely drop_while of_byte
level_skip x t i g = rw i g

gap_safe : (t : List Marked) → ends_live t ≡ true → Guarded gap t → level_safe (level_in level_words t) t ≡ true
unfolding ends_live seen_next
gap_safe [] h r = absurd (false≢true h)
gap_safe (x ∷ t) h r =
    by (level_letter (byte x))
    (λ e.
    let i = (level_letter_lem (byte x) e).0 in
    level_safe_lem (level_in level_words (x ∷ t)) (x ∷ t) (level_skip x t i (level_ends t (ends_ident x t i h) (rw e at r.1))))
    (λ e. rw (no_level x t e) refl)

paren_safe : (t : List Marked) → ends_live t ≡ true → Guarded paren t → level_safe (level_in level_words t) t ≡ true
unfolding ends_live
paren_safe [] h r = absurd (false≢true h)
paren_safe (x ∷ t) h r = rw (no_level x t (not-true (level_letter (byte x)) r.0)) refl

two_long : (t : List Marked) → ends_live t ≡ true → leb 2 (suc (length t)) ≡ true
unfolding ends_live
two_long [] h = absurd (false≢true h)
two_long (x ∷ t) h = le-leb 2 (suc (suc (length t))) (omega arith)

-- directly behind RAISE
five_safe : (t : List Marked) → ends_live t ≡ true → is_ident (front_byte t) ≡ false → Guarded r5 t → safe_behind t ≡ true
unfolding safe_behind front_byte seen_next ends_live
five_safe [] h i r = absurd (false≢true h)
five_safe (x ∷ t) h i r =
    by (eqb (byte x) 32)
    (λ e.
    let g = ends_more x t (at (λ (n : ℕ). eqb n 59 ≡ false) 32 (byte x) e refl) h in
    rw (e, two_long t g) (gap_safe t g (rw (i, e) at r.1)))
    (λ e.
    let p : eqb (byte x) 41 ≡ true = rw (i, e) at r.0 in
    let g = ends_more x t (at (λ (n : ℕ). eqb n 59 ≡ false) 41 (byte x) p refl) h in
    rw (e, p, two_long t g) (paren_safe t g (rw (i, e, p) at r.1)))

-- ---- the letters

-- one letter
letter_next_lem : (a : ℕ) (s : Seen) (x : Marked) → is_ident (byte x) ≡ true → eqb (upper (byte x)) a ≡ true → letter_next a s x ≡ s
unfolding letter_next
letter_next_lem a s x i e = rw (i, e) refl

-- a is a letter in capitals
abbrev Capital : ℕ → Type 0
Capital a = (c : ℕ) → eqb (upper c) (upper a) ≡ true → (eqb (upper c) a ≡ true) × (is_ident c ≡ true)

capital : (a : ℕ) → upper a ≡ a → is_capital a ≡ true → Capital a
capital a u i c e =
    let f : eqb (upper c) a ≡ true = subst (λ (n : ℕ). eqb (upper c) n ≡ true) u e in
    (f, capital_ident c a i (eqb-true (upper c) a f))

record Behind (s : Seen) (w : List ℕ) (t : List Marked) : Type 0 where
  reads : Guarded s t
  more : starts_ignoring_case w t ≡ true
  ended : ends_live t ≡ true

one_letter : (a : ℕ) (w : List ℕ) (s z : Seen) (t : List Marked) → Capital a → ((x : Marked) → seen_next s x ≡ letter_next a z x) → Behind s (a ∷ w) t → Behind z w (drop 1 t)
unfolding starts_ignoring_case ends_live
one_letter a w s z [] c n b = absurd (false≢true b.ended)
one_letter a w s z (x ∷ t) c n b =
    let e = (and_parts (eqb (upper (byte x)) (upper a)) (starts_ignoring_case w t) b.more).0 in
    let l = c (byte x) e in
    record {
      reads = subst (λ (y : Seen). Guarded y t) (n x ∙ letter_next_lem a z x l.1 l.0) b.reads.1;
      more = (and_parts (eqb (upper (byte x)) (upper a)) (starts_ignoring_case w t) b.more).1;
      ended = ends_ident x t l.1 b.ended;
    }

aise : (t : List Marked) → Behind r1 (ascii "AISE") t → Behind r5 [] (drop 4 t)
unfolding seen_next upper is_lower within
aise t b =
    let two = one_letter 65 (ascii "ISE") r1 r2 t (capital 65 refl refl) (λ x. refl) b in
    let three = one_letter 73 (ascii "SE") r2 r3 (drop 1 t) (capital 73 refl refl) (λ x. refl) two in
    let four = one_letter 83 (ascii "E") r3 r4 (drop 1 (drop 1 t)) (capital 83 refl refl) (λ x. refl) three in
    let five = one_letter 69 [] r4 r5 (drop 1 (drop 1 (drop 1 t))) (capital 69 refl refl) (λ x. refl) four in
    let e : drop 1 (drop 1 (drop 1 (drop 1 t))) ≡ drop 4 t =
    ap (λ (u : List Marked). drop 1 (drop 1 u)) (drop-drop 1 1 t) ∙ (ap (drop 1) (drop-drop 1 2 t) ∙ drop-drop 1 3 t) in
    subst (λ (u : List Marked). Behind r5 [] u) e five

-- an R at the edge of a word
r_start : (x : Marked) → is_live x ≡ true → eqb (upper (byte x)) 82 ≡ true → is_ident (byte x) ≡ true → word_start x ≡ r1
unfolding word_start
r_start x l u i = rw (i, l, u) refl

r_next : (s : Seen) (x : Marked) → seen_edge s ≡ true → is_live x ≡ true → eqb (upper (byte x)) 82 ≡ true → is_ident (byte x) ≡ true → seen_next s x ≡ r1
unfolding seen_next
r_next edge x e l u i = r_start x l u i
r_next in_word x e l u i = absurd (false≢true e)
r_next r1 x e l u i = absurd (false≢true e)
r_next r2 x e l u i = absurd (false≢true e)
r_next r3 x e l u i = absurd (false≢true e)
r_next r4 x e l u i = absurd (false≢true e)
r_next r5 x e l u i = absurd (false≢true e)
r_next gap x e l u i =
    by (level_letter (byte x)) (λ f. absurd (true≢false (sym u ∙ (level_letter_lem (byte x) f).1))) (λ f. rw f (r_start x l u i))
r_next paren x e l u i = r_start x l u i
r_next in_level x e l u i = absurd (false≢true e)
r_next closed x e l u i = r_start x l u i

raise_safe : (s : Seen) (p : ℕ) (x : Marked) (t : List Marked) → seen_edge s ≡ not (is_ident p) → ends_live (x ∷ t) ≡ true → Guarded s (x ∷ t)
    → word_here is_word (ascii "RAISE") p (x ∷ t) ≡ true
    → safe_behind (drop 4 t) ≡ true
unfolding word_here front_live starts_ignoring_case upper is_lower within
raise_safe s p x t e h r w =
    let l = (and_parts (is_live x) _ w).0 in
    let w1 = (and_parts (is_live x) _ w).1 in
    let m = (and_parts (starts_ignoring_case (ascii "RAISE") (x ∷ t)) _ w1).0 in
    let w2 = (and_parts (starts_ignoring_case (ascii "RAISE") (x ∷ t)) _ w1).1 in
    let left = not_word p (not-true (is_word p) ((and_parts (not (is_word p)) _ w2).0)) in
    let right = not_word (front_byte (drop 4 t)) (not-true (is_word (front_byte (drop 4 t))) ((and_parts (not (is_word p)) _ w2).1)) in
    let u = capital 82 refl refl (byte x) ((and_parts (eqb (upper (byte x)) (upper 82)) (starts_ignoring_case (ascii "AISE") t) m).0) in
    let n = r_next s x (e ∙ not_from_false (is_ident p) left) l u.0 u.1 in
    let b =
    aise t
    (record {
      reads = subst (λ (y : Seen). Guarded y t) n r.1;
      more = (and_parts (eqb (upper (byte x)) (upper 82)) (starts_ignoring_case (ascii "AISE") t) m).1;
      ended = ends_ident x t u.1 h;
    }) in
    five_safe (drop 4 t) b.ended right b.reads

-- every live RAISE has what pass 5 needs behind it
pub guarded_safe : (t : List Marked) (s : Seen) (p : ℕ) → seen_edge s ≡ not (is_ident p) → ends_live t ≡ true → Guarded s t → raises_safe p t ≡ true
unfolding raises_safe
guarded_safe [] s p e h r = refl
guarded_safe (x ∷ t) s p e h r =
    let more : raises_safe (byte x) t ≡ true = rest t h (guarded_safe t (seen_next s x) (byte x) (edge_byte s x)) r.1 in
    by (word_here is_word (ascii "RAISE") p (x ∷ t))
    (λ w. rw (w, raise_safe s p x t e h r w, more) refl)
    (λ w. rw (w, more) refl)
  where
    rest : (t : List Marked) → ends_live (x ∷ t) ≡ true → (ends_live t ≡ true → Guarded (seen_next s x) t → raises_safe (byte x) t ≡ true)
        → Guarded (seen_next s x) t
        → raises_safe (byte x) t ≡ true
    rest [] h f r = refl
    rest (y ∷ t) h f r = f (ends_rest x (y ∷ t) h (λ z. absurd (cons≢nil z))) r
