-- A text each of whose RAISE is followed as *closed* says is read from the left. Assumes nothing.
use Rattle.std.proofs.lemmas.Bool.{cond_both, and_from, and_parts}
use mathlib.Core.Path.{◌≡◌, refl, sym, subst}
use mathlib.Core.Bool.{true, false, not, ◌&&◌, ◌||◌}
use mathlib.Core.List.{List, [], ◌∷◌}
use Prim.Native.Nat.{ℕ}
use lib.Dec.{eqb}
use lib.ListN.{length, drop}
use borrow.Author.Tests.{not-true}
use Rattle.spec.proofs.ByteSets.{sign_not_ident, ident_not_w}
use Rattle.spec.proofs.Choice.{by, or_cases}
use Rattle.spec.specs.Bytes.{ascii, within, is_lower, is_ident, upper}
use Rattle.spec.specs.Lists.{drop_while}
use Rattle.spec.specs.Map.{Marked, byte, is_live, front_byte, front_live, of_byte}
use Rattle.spec.specs.Search.{starts_ignoring_case, word_here}
use Rattle.spec.specs.Closed.{ends_word, is_followed, raises_followed}
use Rattle.joining.proofs.Bools.{at, other, rest_says}
use Rattle.joining.proofs.RaiseRead.{Seen, edge, in_word, r1, r2, r3, r4, r5, gap, paren, in_level, closed, level_letter, level_letter_lem, word_start, letter_next, seen_next, seen_ok, seen_edge, RaiseRead}

-- where w stands in front and no identifier byte behind it, what follows is as *closed* says
abbrev Owes : List ℕ → List Marked → Type 0
Owes w t = starts_ignoring_case w t ≡ true → is_ident (front_byte (drop (length w) t)) ≡ false → is_followed (drop (length w) t) ≡ true

-- what is known of the text from a state on
abbrev Known : Seen → List Marked → Type 0
Known edge t = Unit {0}
Known in_word t = Unit {0}
Known r1 t = Owes (ascii "AISE") t
Known r2 t = Owes (ascii "ISE") t
Known r3 t = Owes (ascii "SE") t
Known r4 t = Owes (ascii "E") t
Known r5 t = Owes [] t
Known gap t = (is_ident (front_byte t) && ends_word (front_byte (drop_while (of_byte is_ident) t))) ≡ true
Known paren t = ⊥
Known in_level t = ends_word (front_byte (drop_while (of_byte is_ident) t)) ≡ true
Known closed t = ⊥

-- the state is behind an identifier byte exactly if one stands before
start_edge : (x : Marked) → seen_edge (word_start x) ≡ not (is_ident (byte x))
unfolding word_start
start_edge x =
    by (is_ident (byte x))
    (λ i. rw i (cond_both (is_live x && eqb (upper (byte x)) 82) r1 in_word (λ (z : Seen). seen_edge z ≡ false) (λ _. refl) (λ _. refl)))
    (λ i. rw i refl)

letter_edge : (a : ℕ) (s : Seen) (x : Marked) → seen_edge s ≡ false → seen_edge (letter_next a s x) ≡ not (is_ident (byte x))
unfolding letter_next
letter_edge a s x h =
    by (is_ident (byte x))
    (λ i. rw i (cond_both (eqb (upper (byte x)) a) s in_word (λ (z : Seen). seen_edge z ≡ false) (λ _. h) (λ _. refl)))
    (λ i. rw i refl)

pub edge_byte : (s : Seen) (x : Marked) → seen_edge (seen_next s x) ≡ not (is_ident (byte x))
unfolding seen_next
edge_byte edge x = start_edge x
edge_byte in_word x = by (is_ident (byte x)) (λ i. rw i refl) (λ i. rw i refl)
edge_byte r1 x = letter_edge 65 r2 x refl
edge_byte r2 x = letter_edge 73 r3 x refl
edge_byte r3 x = letter_edge 83 r4 x refl
edge_byte r4 x = letter_edge 69 r5 x refl
edge_byte r5 x = by (is_ident (byte x)) (λ i. rw i refl) (λ i. rw i (by (eqb (byte x) 32) (λ f. rw f refl) (λ f. rw f (by (eqb (byte x) 41) (λ g. rw g refl) (λ g. rw g refl)))))
edge_byte gap x =
    by (level_letter (byte x)) (λ e. rw (e, (level_letter_lem (byte x) e).0) refl) (λ e. rw e (start_edge x))
edge_byte paren x = start_edge x
edge_byte in_level x = by (is_ident (byte x)) (λ i. rw i refl) (λ i. rw i (by (eqb (byte x) 41) (λ g. rw g refl) (λ g. rw g refl)))
edge_byte closed x = start_edge x

-- one letter further
owes_next : (a : ℕ) (w : List ℕ) (x : Marked) (t : List Marked) → Owes (a ∷ w) (x ∷ t) → eqb (upper (byte x)) (upper a) ≡ true → Owes w t
unfolding starts_ignoring_case
owes_next a w x t o e m i = o (and_from (eqb (upper (byte x)) (upper a)) (starts_ignoring_case w t) e m) i

letter_known : (a : ℕ) (w : List ℕ) (s : Seen) (x : Marked) (t : List Marked) → (Owes w t → Known s t) → Owes (a ∷ w) (x ∷ t) → upper a ≡ a → Known (letter_next a s x) t
unfolding letter_next
letter_known a w s x t k o u =
    cond_both (is_ident (byte x)) _ edge (λ (z : Seen). Known z t)
    (λ _. cond_both (eqb (upper (byte x)) a) s in_word (λ (z : Seen). Known z t)
    (λ e. k (owes_next a w x t o (subst (λ (n : ℕ). eqb (upper (byte x)) n ≡ true) (sym u) e))) (λ _. tt))
    (λ _. tt)

-- at the edge of a word
start_known : (p : ℕ) (x : Marked) (t : List Marked) → is_ident p ≡ false → raises_followed p (x ∷ t) ≡ true → Known (word_start x) t
unfolding word_start raises_followed word_here front_live starts_ignoring_case upper is_lower within
start_known p x t n h =
    cond_both (is_ident (byte x)) _ edge (λ (z : Seen). Known z t)
    (λ _. cond_both (is_live x && eqb (upper (byte x)) 82) r1 in_word (λ (z : Seen). Known z t)
    (λ e m i.
    let l = (and_parts (is_live x) (eqb (upper (byte x)) 82) e).0 in
    let u = (and_parts (is_live x) (eqb (upper (byte x)) 82) e).1 in
    (and_parts (is_followed (drop 4 t)) (raises_followed (byte x) t) (rw (l, u, m, n, i) at h)).0)
    (λ _. tt))
    (λ _. tt)

-- what follows a byte is followed as well
followed_rest : (p : ℕ) (x : Marked) (t : List Marked) → raises_followed p (x ∷ t) ≡ true → raises_followed (byte x) t ≡ true
unfolding raises_followed
followed_rest p x t h = rest_says (word_here is_ident (ascii "RAISE") p (x ∷ t)) (is_followed (drop 4 t)) (raises_followed (byte x) t) h

-- a space or `;` is no identifier byte and no `)`
word_end : (c : ℕ) → ends_word c ≡ true → ((eqb c 32 || (eqb c 59 || false)) ≡ true) × (eqb c 41 ≡ false)
unfolding ends_word
word_end c h =
    or_cases (eqb c 32) (eqb c 59) h
    (λ e. at (λ (n : ℕ). ((eqb n 32 || (eqb n 59 || false)) ≡ true) × (eqb n 41 ≡ false)) 32 c e (refl, refl))
    (λ e. at (λ (n : ℕ). ((eqb n 32 || (eqb n 59 || false)) ≡ true) × (eqb n 41 ≡ false)) 59 c e (refl, refl))

-- behind RAISE
five_known : (x : Marked) (t : List Marked) → Owes [] (x ∷ t) → (seen_ok false r5 x ≡ true) × Known (seen_next r5 x) t
unfolding seen_next is_followed front_byte starts_ignoring_case
five_known x t k =
    by (is_ident (byte x))
    (λ i. rw i (refl, tt))
    (λ i.
    let f = k refl i in
    let c = (and_parts (eqb (byte x) 32) (is_ident (front_byte t) && ends_word (front_byte (drop_while (of_byte is_ident) t))) f).0 in
    let d = (and_parts (eqb (byte x) 32) (is_ident (front_byte t) && ends_word (front_byte (drop_while (of_byte is_ident) t))) f).1 in
    rw (i, c) (refl, d))

-- in the word behind it
level_known : (x : Marked) (t : List Marked) → Known in_level (x ∷ t) → (seen_ok false in_level x ≡ true) × Known (seen_next in_level x) t
unfolding seen_next front_byte drop_while of_byte
level_known x t k =
    by (is_ident (byte x))
    (λ i. rw i (refl, rw i at k))
    (λ i. let w = word_end (byte x) (rw i at k) in rw (i, w.1) (w.0, tt))

-- behind the space
gap_known : (p : ℕ) (x : Marked) (t : List Marked) → is_ident p ≡ false → raises_followed p (x ∷ t) ≡ true → Known gap (x ∷ t)
    → (seen_ok false gap x ≡ true) × Known (seen_next gap x) t
unfolding seen_next front_byte drop_while of_byte
gap_known p x t n h k =
    let i = (and_parts (is_ident (byte x)) _ k).0 in
    let d = (and_parts (is_ident (byte x)) _ k).1 in (
      rw (ident_not_w (byte x) i, other is_ident 59 (byte x) (sign_not_ident 59 refl) i) refl,
      cond_both (level_letter (byte x)) in_level (word_start x) (λ (z : Seen). Known z t) (λ _. rw i at d) (λ _. start_known p x t n h),
    )

-- one byte: it is allowed, and what is known goes on
step : (s : Seen) (p : ℕ) (x : Marked) (t : List Marked) → seen_edge s ≡ not (is_ident p) → raises_followed p (x ∷ t) ≡ true → Known s (x ∷ t)
    → (seen_ok false s x ≡ true) × Known (seen_next s x) t
unfolding seen_next upper is_lower within
step edge p x t e h k = (refl, start_known p x t (not-true (is_ident p) (sym e)) h)
step in_word p x t e h k = (refl, cond_both (is_ident (byte x)) in_word edge (λ (z : Seen). Known z t) (λ _. tt) (λ _. tt))
step r1 p x t e h k = (refl, letter_known 65 (ascii "ISE") r2 x t (λ o. o) k refl)
step r2 p x t e h k = (refl, letter_known 73 (ascii "SE") r3 x t (λ o. o) k refl)
step r3 p x t e h k = (refl, letter_known 83 (ascii "E") r4 x t (λ o. o) k refl)
step r4 p x t e h k = (refl, letter_known 69 [] r5 x t (λ o. o) k refl)
step r5 p x t e h k = five_known x t k
step gap p x t e h k = gap_known p x t (not-true (is_ident p) (sym e)) h k
step paren p x t e h k = absurd k
step in_level p x t e h k = level_known x t k
step closed p x t e h k = absurd k

pub followed_read : (t : List Marked) (s : Seen) (p : ℕ) → seen_edge s ≡ not (is_ident p) → raises_followed p t ≡ true → Known s t → RaiseRead s t
followed_read [] s p e h k = tt
followed_read (x ∷ t) s p e h k =
    let w = step s p x t e h k in
    (w.0, followed_read t (seen_next s x) (byte x) (edge_byte s x) (followed_rest p x t h) w.1)
