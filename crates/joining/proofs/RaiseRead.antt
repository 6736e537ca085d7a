-- What stands behind RAISE, read from the left. A RAISE that no identifier byte touches has a space behind it and then
-- neither W nor `;`, and a word there that a level may begin ends in a space or `;`. Behind pass 4 a `)` may stand behind
-- RAISE, and `);` behind the word. Passes 3 and 4 may cut and glue such text as they do. Assumes nothing.
use Rattle.std.proofs.lemmas.Bool.{cond_both, and_parts}
use mathlib.Core.Path.{◌≡◌, refl, sym, ap, ◌∙◌, subst}
use mathlib.Core.Bool.{Bool, true, false, cond, not, ◌&&◌, ◌||◌, false≢true, true≢false}
use mathlib.Core.List.{List, [], ◌∷◌}
use Prim.Native.Nat.{ℕ}
use borrow.Author.Tests.{eqb-true, not-true}
use lib.Dec.{eqb}
use Rattle.spec.proofs.ByteSets.{sign_not_ident, sign_not_w, gap_w, letter_ident, letter_not_w, w_not_ident, upper_cases}
use Rattle.spec.proofs.Choice.{by, or_cases}
use Rattle.spec.specs.Bytes.{ascii, within, is_digit, is_lower, is_upper, is_ident, is_w, upper}
use Rattle.spec.specs.Map.{Marked, live, byte, is_live, lives, front_byte}
use Rattle.joining.proofs.Bools.{and_no, at, another}
use Rattle.joining.proofs.Reading.{Reads, leaves, Takes, Reading, reads_all, put_in}

-- where the reading stands: behind no identifier byte, in a word, behind so many letters of RAISE, behind RAISE and a
-- space, behind RAISE and `)`, in a word that a level may begin, behind that and `)`
pub data Seen : Type 0 where
  edge in_word r1 r2 r3 r4 r5 gap paren in_level closed : Seen

-- a letter that a level begins with: E, N, W, D, L, I
unfoldable pub level_letter : ℕ → Bool
level_letter c =
    eqb (upper c) 69
    || (eqb (upper c) 78 || (eqb (upper c) 87 || (eqb (upper c) 68 || (eqb (upper c) 76 || eqb (upper c) 73))))

-- behind a byte that stands at the edge of a word
unfoldable pub word_start : Marked → Seen
word_start x = cond (is_ident (byte x)) (cond (is_live x && eqb (upper (byte x)) 82) r1 in_word) edge

-- behind the next letter of RAISE or another byte
unfoldable pub letter_next : ℕ → Seen → Marked → Seen
letter_next a s x = cond (is_ident (byte x)) (cond (eqb (upper (byte x)) a) s in_word) edge

unfoldable pub seen_next : Seen → Marked → Seen
seen_next edge x = word_start x
seen_next in_word x = cond (is_ident (byte x)) in_word edge
seen_next r1 x = letter_next 65 r2 x
seen_next r2 x = letter_next 73 r3 x
seen_next r3 x = letter_next 83 r4 x
seen_next r4 x = letter_next 69 r5 x
seen_next r5 x = cond (is_ident (byte x)) in_word (cond (eqb (byte x) 32) gap (cond (eqb (byte x) 41) paren edge))
seen_next gap x = cond (level_letter (byte x)) in_level (word_start x)
seen_next paren x = word_start x
seen_next in_level x = cond (is_ident (byte x)) in_level (cond (eqb (byte x) 41) closed edge)
seen_next closed x = word_start x

-- what may follow; p says that `)` may
abbrev pub seen_ok : Bool → Seen → Marked → Bool
seen_ok p edge x = true
seen_ok p in_word x = true
seen_ok p r1 x = true
seen_ok p r2 x = true
seen_ok p r3 x = true
seen_ok p r4 x = true
seen_ok p r5 x = is_ident (byte x) || (eqb (byte x) 32 || (p && eqb (byte x) 41))
seen_ok p gap x = not (is_w (byte x)) && not (eqb (byte x) 59)
seen_ok p paren x = p && not (level_letter (byte x))
seen_ok p in_level x = is_ident (byte x) || (eqb (byte x) 32 || (eqb (byte x) 59 || (p && eqb (byte x) 41)))
seen_ok p closed x = p && eqb (byte x) 59

-- not behind a `)`
abbrev pub seen_rest : Seen → Bool
seen_rest edge = true
seen_rest in_word = true
seen_rest r1 = true
seen_rest r2 = true
seen_rest r3 = true
seen_rest r4 = true
seen_rest r5 = true
seen_rest gap = true
seen_rest paren = false
seen_rest in_level = true
seen_rest closed = false

abbrev pub seen_before_space : Seen → Bool
seen_before_space edge = true
seen_before_space in_word = true
seen_before_space r1 = true
seen_before_space r2 = true
seen_before_space r3 = true
seen_before_space r4 = true
seen_before_space r5 = true
seen_before_space gap = false
seen_before_space paren = false
seen_before_space in_level = true
seen_before_space closed = false

abbrev pub seen_edge : Seen → Bool
seen_edge edge = true
seen_edge in_word = false
seen_edge r1 = false
seen_edge r2 = false
seen_edge r3 = false
seen_edge r4 = false
seen_edge r5 = false
seen_edge gap = true
seen_edge paren = true
seen_edge in_level = false
seen_edge closed = true

-- ---- letters

-- levels begin with identifier bytes other than R
pub level_letter_lem : (c : ℕ) → level_letter c ≡ true → (is_ident c ≡ true) × (eqb (upper c) 82 ≡ false)
unfolding level_letter upper is_lower within
level_letter_lem c h =
    or_cases (eqb (upper c) 69) _ h (λ e. upper_cases P c 69 (eqb-true (upper c) 69 e) (letter_ident 69 refl, refl) (letter_ident 101 refl, refl))
    (λ h. or_cases (eqb (upper c) 78) _ h (λ e. upper_cases P c 78 (eqb-true (upper c) 78 e) (letter_ident 78 refl, refl) (letter_ident 110 refl, refl))
    (λ h. or_cases (eqb (upper c) 87) _ h (λ e. upper_cases P c 87 (eqb-true (upper c) 87 e) (letter_ident 87 refl, refl) (letter_ident 119 refl, refl))
    (λ h. or_cases (eqb (upper c) 68) _ h (λ e. upper_cases P c 68 (eqb-true (upper c) 68 e) (letter_ident 68 refl, refl) (letter_ident 100 refl, refl))
    (λ h. or_cases (eqb (upper c) 76) (eqb (upper c) 73) h (λ e. upper_cases P c 76 (eqb-true (upper c) 76 e) (letter_ident 76 refl, refl) (letter_ident 108 refl, refl))
    (λ e. upper_cases P c 73 (eqb-true (upper c) 73 e) (letter_ident 73 refl, refl) (letter_ident 105 refl, refl))))))
  where
    P : ℕ → Type 0
    P n = (is_ident n ≡ true) × (eqb (upper n) 82 ≡ false)

pub no_level_letter : (c : ℕ) → is_ident c ≡ false → level_letter c ≡ false
no_level_letter c h = by (level_letter c) (λ e. absurd (true≢false (sym (level_letter_lem c e).0 ∙ h))) (λ e. e)

-- ---- one byte

pub start_cases : (P : Seen → Type 0) (x : Marked) → P edge → P in_word → P r1 → P (word_start x)
unfolding word_start
start_cases P x a b c =
    cond_both (is_ident (byte x)) _ edge P (λ _. cond_both (is_live x && eqb (upper (byte x)) 82) r1 in_word P (λ _. c) (λ _. b)) (λ _. a)

pub letter_cases : (P : Seen → Type 0) (a : ℕ) (s : Seen) (x : Marked) → P edge → P in_word → P s → P (letter_next a s x)
unfolding letter_next
letter_cases P a s x e w h =
    cond_both (is_ident (byte x)) _ edge P (λ _. cond_both (eqb (upper (byte x)) a) s in_word P (λ _. h) (λ _. w)) (λ _. e)

pub seen_safer : (s : Seen) (x : Marked) → seen_ok false s x ≡ true → seen_ok true s x ≡ true
seen_safer edge x h = refl
seen_safer in_word x h = refl
seen_safer r1 x h = refl
seen_safer r2 x h = refl
seen_safer r3 x h = refl
seen_safer r4 x h = refl
seen_safer r5 x h =
    by (is_ident (byte x)) (λ e. rw e refl) (λ e. rw e (by (eqb (byte x) 32) (λ f. rw f refl) (λ f. absurd (true≢false (sym (rw (e, f) at h))))))
seen_safer gap x h = h
seen_safer paren x h = absurd (false≢true h)
seen_safer in_level x h =
    by (is_ident (byte x)) (λ e. rw e refl)
    (λ e. rw e
    (by (eqb (byte x) 32) (λ f. rw f refl)
    (λ f. rw f (by (eqb (byte x) 59) (λ g. rw g refl) (λ g. absurd (true≢false (sym (rw (e, f, g) at h))))))))
seen_safer closed x h = absurd (false≢true h)

-- ---- what a reading asks

pub seen_alive : (s : Seen) (x : Marked) → seen_ok false s x ≡ true → seen_rest s ≡ true
seen_alive edge x h = refl
seen_alive in_word x h = refl
seen_alive r1 x h = refl
seen_alive r2 x h = refl
seen_alive r3 x h = refl
seen_alive r4 x h = refl
seen_alive r5 x h = refl
seen_alive gap x h = refl
seen_alive paren x h = h
seen_alive in_level x h = refl
seen_alive closed x h = h

pub seen_forth : (s : Seen) (x : Marked) → seen_ok false s x ≡ true → seen_rest (seen_next s x) ≡ true
unfolding seen_next
seen_forth edge x h = start_cases (λ (z : Seen). seen_rest z ≡ true) x refl refl refl
seen_forth in_word x h = cond_both (is_ident (byte x)) in_word edge (λ (z : Seen). seen_rest z ≡ true) (λ _. refl) (λ _. refl)
seen_forth r1 x h = letter_cases (λ (z : Seen). seen_rest z ≡ true) 65 r2 x refl refl refl
seen_forth r2 x h = letter_cases (λ (z : Seen). seen_rest z ≡ true) 73 r3 x refl refl refl
seen_forth r3 x h = letter_cases (λ (z : Seen). seen_rest z ≡ true) 83 r4 x refl refl refl
seen_forth r4 x h = letter_cases (λ (z : Seen). seen_rest z ≡ true) 69 r5 x refl refl refl
seen_forth r5 x h =
    by (is_ident (byte x)) (λ e. rw e refl) (λ e. rw e (by (eqb (byte x) 32) (λ f. rw f refl) (λ f. absurd (true≢false (sym (rw (e, f) at h))))))
seen_forth gap x h =
    cond_both (level_letter (byte x)) in_level (word_start x) (λ (z : Seen). seen_rest z ≡ true) (λ _. refl)
    (λ _. start_cases (λ (z : Seen). seen_rest z ≡ true) x refl refl refl)
seen_forth paren x h = absurd (false≢true h)
seen_forth in_level x h =
    by (is_ident (byte x)) (λ e. rw e refl)
    (λ e. rw e
    (by (eqb (byte x) 41)
    (λ f. let g = eqb-true (byte x) 41 f in absurd (true≢false (sym (rw (e, g) at h))))
    (λ f. rw f refl)))
seen_forth closed x h = absurd (false≢true h)

pub seen_settle : (s : Seen) (x : Marked) → is_w (byte x) ≡ false → seen_ok false s x ≡ true → seen_before_space (seen_next s x) ≡ true
unfolding seen_next
seen_settle edge x w h = start_cases (λ (z : Seen). seen_before_space z ≡ true) x refl refl refl
seen_settle in_word x w h = cond_both (is_ident (byte x)) in_word edge (λ (z : Seen). seen_before_space z ≡ true) (λ _. refl) (λ _. refl)
seen_settle r1 x w h = letter_cases (λ (z : Seen). seen_before_space z ≡ true) 65 r2 x refl refl refl
seen_settle r2 x w h = letter_cases (λ (z : Seen). seen_before_space z ≡ true) 73 r3 x refl refl refl
seen_settle r3 x w h = letter_cases (λ (z : Seen). seen_before_space z ≡ true) 83 r4 x refl refl refl
seen_settle r4 x w h = letter_cases (λ (z : Seen). seen_before_space z ≡ true) 69 r5 x refl refl refl
seen_settle r5 x w h =
    by (is_ident (byte x)) (λ e. rw e refl)
    (λ e. or_cases (eqb (byte x) 32) false (rw e at h)
    (λ f. let n : eqb (byte x) 32 ≡ false = another is_w 32 (byte x) (gap_w 32 refl) w in absurd (true≢false (sym f ∙ n)))
    (λ f. absurd (true≢false (sym f))))
seen_settle gap x w h =
    cond_both (level_letter (byte x)) in_level (word_start x) (λ (z : Seen). seen_before_space z ≡ true) (λ _. refl)
    (λ _. start_cases (λ (z : Seen). seen_before_space z ≡ true) x refl refl refl)
seen_settle paren x w h = absurd (false≢true h)
seen_settle in_level x w h =
    by (is_ident (byte x)) (λ e. rw e refl)
    (λ e. rw e
    (by (eqb (byte x) 41)
    (λ f. let g = eqb-true (byte x) 41 f in absurd (true≢false (sym (rw (e, g) at h))))
    (λ f. rw f refl)))
seen_settle closed x w h = absurd (false≢true h)

pub seen_edges : (s : Seen) (x : Marked) → is_ident (byte x) ≡ false → seen_edge (seen_next s x) ≡ true
unfolding seen_next word_start letter_next
seen_edges edge x i = rw i refl
seen_edges in_word x i = rw i refl
seen_edges r1 x i = rw i refl
seen_edges r2 x i = rw i refl
seen_edges r3 x i = rw i refl
seen_edges r4 x i = rw i refl
seen_edges r5 x i =
    rw i (by (eqb (byte x) 32) (λ f. rw f refl) (λ f. rw f (by (eqb (byte x) 41) (λ g. rw g refl) (λ g. rw g refl))))
seen_edges gap x i = rw (no_level_letter (byte x) i, i) refl
seen_edges paren x i = rw i refl
seen_edges in_level x i = rw i (by (eqb (byte x) 41) (λ g. rw g refl) (λ g. rw g refl))
seen_edges closed x i = rw i refl

-- ---- reading from the start

abbrev pub RaiseRead : Seen → List Marked → Type 0
RaiseRead s t = Reads (seen_ok false) seen_next s t

-- the edge asks less than the space behind RAISE, a word less than one that a level may begin
record Lower (u : List Marked) : Type 0 where
  from_gap : RaiseRead gap u → RaiseRead edge u
  from_level : RaiseRead in_level u → RaiseRead in_word u

lower : (u : List Marked) → Lower u
unfolding seen_next word_start
lower [] = record { from_gap = λ r. tt; from_level = λ r. tt }
lower (x ∷ u) =
    let more = lower u in
    record {
      from_gap =
          λ r. (
            refl,
            by (level_letter (byte x))
                (λ e.
                let l = level_letter_lem (byte x) e in
                let b : (is_live x && eqb (upper (byte x)) 82) ≡ false = rw l.1 (and_no (is_live x) false (λ _. refl)) in
                rw (l.0, b) (more.from_level (rw e at r.1)))
                (λ e. rw e at r.1),
          );
      from_level =
          λ r. (
            refl,
            by (is_ident (byte x))
                (λ e. rw e (more.from_level (rw e at r.1)))
                (λ e.
                let n : eqb (byte x) 41 ≡ false = level_end_lem e r.0 in
                rw e (rw (e, n) at r.1)),
          );
    }
  where
    level_end_lem : is_ident (byte x) ≡ false → seen_ok false in_level x ≡ true → eqb (byte x) 41 ≡ false
    level_end_lem e h = by (eqb (byte x) 41) (λ f. let g = eqb-true (byte x) 41 f in absurd (true≢false (sym (rw (e, g) at h)))) (λ f. f)

pub raise_read_rest : (u : List Marked) (s : Seen) → seen_rest s ≡ true → RaiseRead s u → seen_rest (leaves seen_next s u) ≡ true
raise_read_rest [] s h r = h
raise_read_rest (x ∷ u) s h r = raise_read_rest u (seen_next s x) (seen_forth s x r.0) r.1

-- what begins behind no identifier byte, or with none, is read from the start
behind_word : (x : Marked) (u : List Marked) (s : Seen) → is_ident (byte x) ≡ false → seen_rest s ≡ true → RaiseRead s (x ∷ u) → RaiseRead edge u
unfolding seen_next word_start letter_next
behind_word x u edge i h r = rw i at r.1
behind_word x u in_word i h r = rw i at r.1
behind_word x u r1 i h r = rw i at r.1
behind_word x u r2 i h r = rw i at r.1
behind_word x u r3 i h r = rw i at r.1
behind_word x u r4 i h r = rw i at r.1
behind_word x u r5 i h r =
    by (eqb (byte x) 32)
    (λ f. (lower u).from_gap (rw (i, f) at r.1))
    (λ f. absurd (true≢false (sym (rw (i, f) at r.0))))
behind_word x u gap i h r = rw (no_level_letter (byte x) i, i) at r.1
behind_word x u paren i h r = absurd (false≢true h)
behind_word x u in_level i h r = rw i at ((lower (x ∷ u)).from_level r).1
behind_word x u closed i h r = absurd (false≢true h)

seen_start : (u : List Marked) (s : Seen) → (seen_edge s || not (is_ident (front_byte u))) ≡ true → seen_rest s ≡ true → RaiseRead s u → RaiseRead edge u
unfolding front_byte seen_next word_start
seen_start [] s e h r = tt
seen_start (x ∷ u) s e h r = by (seen_edge s) (λ d. at_edge s d h r) (λ d. let i = not-true (is_ident (byte x)) (rw d at e) in (refl, rw i (behind_word x u s i h r)))
  where
    at_edge : (s : Seen) → seen_edge s ≡ true → seen_rest s ≡ true → RaiseRead s (x ∷ u) → RaiseRead edge (x ∷ u)
    at_edge edge d h r = r
    at_edge gap d h r = (lower (x ∷ u)).from_gap r
    at_edge in_word d h r = absurd (false≢true d)
    at_edge r1 d h r = absurd (false≢true d)
    at_edge r2 d h r = absurd (false≢true d)
    at_edge r3 d h r = absurd (false≢true d)
    at_edge r4 d h r = absurd (false≢true d)
    at_edge r5 d h r = absurd (false≢true d)
    at_edge paren d h r = absurd (false≢true h)
    at_edge in_level d h r = absurd (false≢true d)
    at_edge closed d h r = absurd (false≢true h)

pub seen_fresh : (u : List Marked) (s : Seen) → (seen_edge s || not (is_ident (front_byte u))) ≡ true → seen_rest s ≡ true → RaiseRead s u
    → RaiseRead edge u × (seen_rest (leaves seen_next s u) ≡ true → seen_rest (leaves seen_next edge u) ≡ true)
seen_fresh u s e h r = let w = seen_start u s e h r in (w, (λ _. raise_read_rest u edge refl w))

-- ---- the bytes that the passes cut at and the texts that they put in

pub seen_semi : (s : Seen) → seen_next s (live 59) ≡ edge
unfolding lives seen_next word_start letter_next level_letter upper is_ident is_lower is_upper is_digit within is_w
seen_semi edge = refl
seen_semi in_word = refl
seen_semi r1 = refl
seen_semi r2 = refl
seen_semi r3 = refl
seen_semi r4 = refl
seen_semi r5 = refl
seen_semi gap = refl
seen_semi paren = refl
seen_semi in_level = refl
seen_semi closed = refl

pub seen_comma : (s : Seen) → seen_next s (live 44) ≡ edge
unfolding lives seen_next word_start letter_next level_letter upper is_ident is_lower is_upper is_digit within is_w
seen_comma edge = refl
seen_comma in_word = refl
seen_comma r1 = refl
seen_comma r2 = refl
seen_comma r3 = refl
seen_comma r4 = refl
seen_comma r5 = refl
seen_comma gap = refl
seen_comma paren = refl
seen_comma in_level = refl
seen_comma closed = refl

pub seen_newline : (s : Seen) (x : Marked) → byte x ≡ 10 → seen_next s x ≡ edge
unfolding lives seen_next word_start letter_next level_letter upper is_ident is_lower is_upper is_digit within is_w
seen_newline edge x e = rw e refl
seen_newline in_word x e = rw e refl
seen_newline r1 x e = rw e refl
seen_newline r2 x e = rw e refl
seen_newline r3 x e = rw e refl
seen_newline r4 x e = rw e refl
seen_newline r5 x e = rw e refl
seen_newline gap x e = rw e refl
seen_newline paren x e = rw e refl
seen_newline in_level x e = rw e refl
seen_newline closed x e = rw e refl

pub seen_white : (x : Marked) → is_w (byte x) ≡ true → seen_next edge x ≡ edge
unfolding seen_next word_start
seen_white x w = rw (w_not_ident (byte x) w) refl

end_not_ident : (c : ℕ) → (is_w c || eqb c 59) ≡ true → is_ident c ≡ false
end_not_ident c h = or_cases (is_w c) (eqb c 59) h (λ w. w_not_ident c w) (λ e. at (λ (n : ℕ). is_ident n ≡ false) 59 c e (sign_not_ident 59 refl))

tail_five : (x : Marked) → (is_w (byte x) || eqb (byte x) 59) ≡ true → seen_ok false r5 x ≡ true → seen_ok false (seen_next r5 x) (live 59) ≡ true → ⊥
unfolding seen_next
tail_five x w h g =
    let i = end_not_ident (byte x) w in
    by (eqb (byte x) 32)
    (λ f. false≢true (rw (i, f, sign_not_w 59 refl) at g))
    (λ f. false≢true (rw (i, f) at h))

tail_gap : (a b : Bool) → (a || b) ≡ true → (not a && not b) ≡ true → ⊥
tail_gap true b w h = false≢true h
tail_gap false true w h = false≢true h
tail_gap false false w h = false≢true w

tail_level : seen_ok false in_level (live 59) ≡ true
tail_level = rw (sign_not_ident 59 refl) refl

pub seen_tail : (s : Seen) (x : Marked) → (is_w (byte x) || eqb (byte x) 59) ≡ true → seen_ok false s x ≡ true → seen_ok false (seen_next s x) (live 59) ≡ true
    → seen_ok false s (live 59) ≡ true
unfolding seen_next
seen_tail edge x w h g = refl
seen_tail in_word x w h g = refl
seen_tail r1 x w h g = refl
seen_tail r2 x w h g = refl
seen_tail r3 x w h g = refl
seen_tail r4 x w h g = refl
seen_tail r5 x w h g = absurd (tail_five x w h g)
seen_tail gap x w h g = absurd (tail_gap (is_w (byte x)) (eqb (byte x) 59) w h)
seen_tail paren x w h g = absurd (false≢true h)
seen_tail in_level x w h g = tail_level
seen_tail closed x w h g = absurd (false≢true h)

-- ---- the texts that the passes put in

every_seen : (Seen → Bool) → Bool
every_seen f =
    f edge && (f in_word && (f r1 && (f r2 && (f r3 && (f r4 && (f r5 && (f gap && (f paren && (f in_level && f closed)))))))))

each_seen : (f : Seen → Bool) → every_seen f ≡ true → (s : Seen) → f s ≡ true
unfolding every_seen
each_seen f h s =
    let h0 = h in
    let h1 = (and_parts (f edge) _ h0).1 in
    let h2 = (and_parts (f in_word) _ h1).1 in
    let h3 = (and_parts (f r1) _ h2).1 in
    let h4 = (and_parts (f r2) _ h3).1 in
    let h5 = (and_parts (f r3) _ h4).1 in
    let h6 = (and_parts (f r4) _ h5).1 in
    let h7 = (and_parts (f r5) _ h6).1 in
    let h8 = (and_parts (f gap) _ h7).1 in
    let h9 = (and_parts (f paren) _ h8).1 in
    at s ((and_parts (f edge) _ h0).0) ((and_parts (f in_word) _ h1).0) ((and_parts (f r1) _ h2).0) ((and_parts (f r2) _ h3).0) ((and_parts (f r3) _ h4).0) ((and_parts (f r4) _ h5).0) ((and_parts (f r5) _ h6).0) ((and_parts (f gap) _ h7).0) ((and_parts (f paren) _ h8).0) ((and_parts (f in_level) _ h9).0) ((and_parts (f in_level) _ h9).1)
  where
    at : (s : Seen) → f edge ≡ true → f in_word ≡ true → f r1 ≡ true → f r2 ≡ true → f r3 ≡ true → f r4 ≡ true → f r5 ≡ true → f gap ≡ true → f paren ≡ true → f in_level ≡ true → f closed ≡ true → f s ≡ true
    at edge a b c d e g i j k l m = a
    at in_word a b c d e g i j k l m = b
    at r1 a b c d e g i j k l m = c
    at r2 a b c d e g i j k l m = d
    at r3 a b c d e g i j k l m = e
    at r4 a b c d e g i j k l m = g
    at r5 a b c d e g i j k l m = i
    at gap a b c d e g i j k l m = j
    at paren a b c d e g i j k l m = k
    at in_level a b c d e g i j k l m = l
    at closed a b c d e g i j k l m = m

abbrev is_edge : Seen → Bool
is_edge edge = true
is_edge in_word = false
is_edge r1 = false
is_edge r2 = false
is_edge r3 = false
is_edge r4 = false
is_edge r5 = false
is_edge gap = false
is_edge paren = false
is_edge in_level = false
is_edge closed = false

only_edge : (s : Seen) → is_edge s ≡ true → s ≡ edge
only_edge edge h = refl
only_edge in_word h = absurd (false≢true h)
only_edge r1 h = absurd (false≢true h)
only_edge r2 h = absurd (false≢true h)
only_edge r3 h = absurd (false≢true h)
only_edge r4 h = absurd (false≢true h)
only_edge r5 h = absurd (false≢true h)
only_edge gap h = absurd (false≢true h)
only_edge paren h = absurd (false≢true h)
only_edge in_level h = absurd (false≢true h)
only_edge closed h = absurd (false≢true h)

-- from the states of a set: computed for each text
seen_text : (p : Bool) (set : Seen → Bool) (t : List Marked)
    → every_seen (λ s. not (set s) || (reads_all (seen_ok p) seen_next s t && is_edge (leaves seen_next s t))) ≡ true
    → (s : Seen) → set s ≡ true → Takes (seen_ok p) seen_next s edge t
seen_text p set t = put_in (seen_ok p) seen_next every_seen each_seen edge is_edge only_edge set t

pub seen_set : (s : Seen) → seen_rest s ≡ true → Takes (seen_ok false) seen_next s edge (lives (ascii "SET "))
unfolding every_seen lives seen_next word_start letter_next level_letter upper is_ident is_lower is_upper is_digit within is_w
seen_set = seen_text false seen_rest (lives (ascii "SET ")) refl

pub seen_select : (s : Seen) → seen_rest s ≡ true → Takes (seen_ok false) seen_next s edge (lives (ascii "SELECT "))
unfolding every_seen lives seen_next word_start letter_next level_letter upper is_ident is_lower is_upper is_digit within is_w
seen_select = seen_text false seen_rest (lives (ascii "SELECT ")) refl

pub seen_equals : (s : Seen) → seen_before_space s ≡ true → Takes (seen_ok false) seen_next s edge (lives (ascii " = "))
unfolding every_seen lives seen_next word_start letter_next level_letter upper is_ident is_lower is_upper is_digit within is_w
seen_equals = seen_text false seen_before_space (lives (ascii " = ")) refl

pub seen_open : (s : Seen) → seen_before_space s ≡ true → Takes (seen_ok false) seen_next s edge (lives (ascii " = ("))
unfolding every_seen lives seen_next word_start letter_next level_letter upper is_ident is_lower is_upper is_digit within is_w
seen_open = seen_text false seen_before_space (lives (ascii " = (")) refl

pub seen_limit : (s : Seen) → seen_before_space s ≡ true → Takes (seen_ok true) seen_next s edge (lives (ascii " LIMIT 1);"))
unfolding every_seen lives seen_next word_start letter_next level_letter upper is_ident is_lower is_upper is_digit within is_w
seen_limit = seen_text true seen_before_space (lives (ascii " LIMIT 1);")) refl

pub seen_closing : (s : Seen) → seen_before_space s ≡ true → Takes (seen_ok true) seen_next s edge (lives (ascii ");"))
unfolding every_seen lives seen_next word_start letter_next level_letter upper is_ident is_lower is_upper is_digit within is_w
seen_closing = seen_text true seen_before_space (lives (ascii ");")) refl

pub seen_space : (s : Seen) → seen_before_space s ≡ true → Takes (seen_ok false) seen_next s (seen_next s (live 32)) (live 32 ∷ []) × (seen_rest (seen_next s (live 32)) ≡ true)
unfolding lives seen_next word_start letter_next level_letter upper is_ident is_lower is_upper is_digit within is_w
seen_space edge h = (record { reads = (refl, tt); end = refl }, refl)
seen_space in_word h = (record { reads = (refl, tt); end = refl }, refl)
seen_space r1 h = (record { reads = (refl, tt); end = refl }, refl)
seen_space r2 h = (record { reads = (refl, tt); end = refl }, refl)
seen_space r3 h = (record { reads = (refl, tt); end = refl }, refl)
seen_space r4 h = (record { reads = (refl, tt); end = refl }, refl)
seen_space r5 h = (record { reads = (refl, tt); end = refl }, refl)
seen_space gap h = absurd (false≢true h)
seen_space paren h = absurd (false≢true h)
seen_space in_level h = (record { reads = (refl, tt); end = refl }, refl)
seen_space closed h = absurd (false≢true h)

-- an F behind a space
f_allowed : (x : Marked) → eqb (upper (byte x)) 70 ≡ true → seen_ok false gap x ≡ true
f_allowed x f = upper_cases (λ (n : ℕ). (not (is_w n) && not (eqb n 59)) ≡ true) (byte x) 70 (eqb-true (upper (byte x)) 70 f) (rw (letter_not_w 70 refl) refl) (rw (letter_not_w 102 refl) refl)

f_next : (x : Marked) → eqb (upper (byte x)) 70 ≡ true → seen_next gap x ≡ seen_next edge x
unfolding seen_next level_letter
f_next x f = let e = eqb-true (upper (byte x)) 70 f in let l : level_letter (byte x) ≡ false = rw e refl in rw l refl

gap_or_edge : (s : Seen) → seen_before_space s ≡ true → (P : Seen → Type 0) → P edge → P gap → P (seen_next s (live 32))
unfolding lives seen_next word_start letter_next level_letter upper is_ident is_lower is_upper is_digit within is_w
gap_or_edge edge h P a b = a
gap_or_edge in_word h P a b = a
gap_or_edge r1 h P a b = a
gap_or_edge r2 h P a b = a
gap_or_edge r3 h P a b = a
gap_or_edge r4 h P a b = a
gap_or_edge r5 h P a b = b
gap_or_edge gap h P a b = absurd (false≢true h)
gap_or_edge paren h P a b = absurd (false≢true h)
gap_or_edge in_level h P a b = a
gap_or_edge closed h P a b = absurd (false≢true h)

pub seen_from : (s : Seen) (x : Marked) (t : List Marked) → seen_before_space s ≡ true → eqb (upper (byte x)) 70 ≡ true → RaiseRead edge (x ∷ t)
    → RaiseRead (seen_next s (live 32)) (x ∷ t) × (leaves seen_next (seen_next s (live 32)) (x ∷ t) ≡ leaves seen_next edge (x ∷ t))
seen_from s x t h f r =
    gap_or_edge s h (λ (z : Seen). RaiseRead z (x ∷ t) × (leaves seen_next z (x ∷ t) ≡ leaves seen_next edge (x ∷ t)))
    (r, refl)
    ((f_allowed x f, subst (λ (z : Seen). RaiseRead z t) (sym (f_next x f)) r.1), ap (λ (z : Seen). leaves seen_next z t) (f_next x f))

-- passes 3 and 4 may cut and glue such text as they do
unfoldable pub raise_reading : Reading
raise_reading =
    record {
      State = Seen;
      start = edge;
      ok = seen_ok false;
      safe = seen_ok true;
      after = seen_next;
      rest = seen_rest;
      before_space = seen_before_space;
      edge = seen_edge;
      safer = seen_safer;
      rest_start = refl;
      before_space_start = refl;
      edge_start = refl;
      alive = λ s c h. seen_alive s (live c) h;
      back = λ s x n h r. seen_alive s x h;
      forth = λ s x n h r. seen_forth s x h;
      settle = λ s x w h r. seen_settle s x w h;
      edges = seen_edges;
      fresh = seen_fresh;
      semi = seen_semi;
      comma = seen_comma;
      newline = λ s x e h. seen_newline s x e;
      line_start = refl;
      white = λ x w h. seen_white x w;
      tail = seen_tail;
      set_word = seen_set;
      select_word = seen_select;
      equals = seen_equals;
      equals_open = seen_open;
      limit = seen_limit;
      closing = seen_closing;
      gap = seen_space;
      gap_from = seen_from;
    }
