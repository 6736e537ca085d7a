-- Facts on the byte sets: what proofs use of which bytes are in them, so that who exchanges a set proves this list anew. Besides,
-- the tables of crate `joining` compute with the sets byte by byte, and `is_digit` stays as it is. Assumes nothing.
use mathlib.Core.Path.{◌≡◌, refl, sym, ap, ◌∙◌, subst}
use mathlib.Core.Bool.{Bool, true, false, not, ◌&&◌, ◌||◌, false≢true}
use mathlib.Core.List.{List, [], ◌∷◌}
use Prim.Native.Nat.{ℕ, ◌+◌, ◌-◌, ◌≤◌, ◌<◌}
use native.Mathlib.Omega.{arith}
use borrow.Author.Tests.{leb-true, le-leb, lt-ltb, le-ltb, eqb-true, not-true, not-false}
use lib.Dec.{eqb, leb}
use Rattle.std.proofs.lemmas.Bool.{and_parts, or_parts, or_right}
use Rattle.spec.proofs.Choice.{by, or_cases}
use Rattle.spec.specs.Bytes.{within, is_digit, is_lower, is_upper, is_ident, is_word, is_w, is_n, is_high, upper}

-- ---- the bytes that the definitions name

abbrev one_of : List ℕ → ℕ → Bool
one_of [] c = false
one_of (n ∷ l) c = eqb c n || one_of l c

abbrev signs : List ℕ
signs = 0 ∷ 34 ∷ 36 ∷ 39 ∷ 40 ∷ 41 ∷ 42 ∷ 44 ∷ 45 ∷ 46 ∷ 47 ∷ 58 ∷ 59 ∷ 61 ∷ 92 ∷ []

abbrev gaps : List ℕ
gaps = 10 ∷ 32 ∷ []

-- 0, which stands for no byte, and `"` `$` `'` `(` `)` `*` `,` `-` `.` `/` `:` `;` `=` `\`
abbrev pub is_sign : ℕ → Bool
is_sign c = one_of signs c

-- the space and the newline
abbrev pub is_gap : ℕ → Bool
is_gap c = one_of gaps c

-- an ASCII letter in capitals
abbrev pub is_capital : ℕ → Bool
is_capital c = leb 65 c && leb c 90

-- an ASCII letter
abbrev pub is_letter : ℕ → Bool
is_letter c = (leb 97 c && leb c 122) || is_capital c

-- no byte of the list passes the test
abbrev none : (ℕ → Bool) → List ℕ → Bool
none f [] = true
none f (n ∷ l) = not (f n) && none f l

none_of : (f : ℕ → Bool) (l : List ℕ) (c : ℕ) → none f l ≡ true → one_of l c ≡ true → f c ≡ false
none_of f [] c e h = absurd (false≢true h)
none_of f (n ∷ l) c e h =
    or_cases (eqb c n) (one_of l c) h (λ q. ap f (eqb-true c n q) ∙ not-true (f n) ((and_parts (not (f n)) (none f l) e).0))
    (λ q. none_of f l c ((and_parts (not (f n)) (none f l) e).1) q)

pub sign_not_ident : (c : ℕ) → is_sign c ≡ true → is_ident c ≡ false
unfolding is_ident is_lower is_upper is_digit within
sign_not_ident c h = none_of is_ident signs c refl h

pub sign_not_w : (c : ℕ) → is_sign c ≡ true → is_w c ≡ false
unfolding is_w within
sign_not_w c h = none_of is_w signs c refl h

pub gap_w : (c : ℕ) → is_gap c ≡ true → is_w c ≡ true
unfolding is_w within
gap_w c h = not-false (is_w c) (none_of (λ (n : ℕ). not (is_w n)) gaps c refl h)

pub letter_ident : (c : ℕ) → is_letter c ≡ true → is_ident c ≡ true
unfolding is_ident is_lower is_upper is_digit within
letter_ident c h =
    or_cases (leb 97 c && leb c 122) (is_capital c) h
    (λ e. rw e refl)
    (λ e. rw e (by (leb 97 c && leb c 122) (λ f. rw f refl) (λ f. rw f refl)))

-- ---- the sets among each other

range : (lo hi c : ℕ) → within lo hi c ≡ true → (lo ≤ c) × (c ≤ hi)
unfolding within
range lo hi c e = (leb-true lo c ((and_parts (leb lo c) (leb c hi) e).0), leb-true c hi ((and_parts (leb lo c) (leb c hi) e).1))

-- an identifier byte is at least 48, a byte of W at most 32
ident_least : (c : ℕ) → is_ident c ≡ true → 48 ≤ c
unfolding is_ident is_lower is_upper is_digit
ident_least c h =
    or_cases (within 97 122 c) (within 65 90 c || (within 48 57 c || eqb c 95)) h
    (λ e. omega (arith, range 97 122 c e))
    (λ h. or_cases (within 65 90 c) (within 48 57 c || eqb c 95) h
    (λ e. omega (arith, range 65 90 c e))
    (λ h. or_cases (within 48 57 c) (eqb c 95) h (λ e. omega (arith, range 48 57 c e)) (λ e. omega (arith, eqb-true c 95 e))))

white_most : (c : ℕ) → is_w c ≡ true → c ≤ 32
unfolding is_w
white_most c h =
    or_cases (within 9 13 c) (eqb c 32) h (λ e. omega (arith, range 9 13 c e)) (λ e. omega (arith, eqb-true c 32 e))

pub ident_not_w : (c : ℕ) → is_ident c ≡ true → is_w c ≡ false
ident_not_w c h = by (is_w c) (λ e. absurd (omega (arith, ident_least c h, white_most c e))) (λ e. e)

pub w_not_ident : (c : ℕ) → is_w c ≡ true → is_ident c ≡ false
w_not_ident c h = by (is_ident c) (λ e. absurd (omega (arith, ident_least c e, white_most c h))) (λ e. e)

-- N is part of W
pub n_w : (c : ℕ) → is_n c ≡ true → is_w c ≡ true
unfolding is_n
n_w c h = (and_parts (is_w c) (not (eqb c 11)) h).0

pub not_n : (c : ℕ) → is_w c ≡ false → is_n c ≡ false
unfolding is_n
not_n c h = rw h refl

pub not_word : (c : ℕ) → is_word c ≡ false → is_ident c ≡ false
unfolding is_word
not_word c h = (or_parts (is_ident c) (eqb c 36) h).0

pub sign_not_word : (c : ℕ) → is_sign c ≡ true → eqb c 36 ≡ false → is_word c ≡ false
unfolding is_word
sign_not_word c h e = rw (sign_not_ident c h, e) refl

pub word_not_n : (c : ℕ) → is_word c ≡ true → is_n c ≡ false
unfolding is_word
word_not_n c h =
    not_n c (or_cases (is_ident c) (eqb c 36) h (λ e. ident_not_w c e) (λ e. ap is_w (eqb-true c 36 e) ∙ sign_not_w 36 refl))

-- bytes over 127
pub high : (c : ℕ) → 127 < c → is_high c ≡ true
unfolding is_high
high c h = lt-ltb 127 c h

pub low : (c : ℕ) → c ≤ 127 → is_high c ≡ false
unfolding is_high
low c h = le-ltb 127 c h

-- ---- letter case

pub letter_not_w : (c : ℕ) → is_letter c ≡ true → is_w c ≡ false
letter_not_w c h = ident_not_w c (letter_ident c h)

-- a letter in either case
pub upper_cases : (P : ℕ → Type 0) (c n : ℕ) → upper c ≡ n → P n → P (n + 32) → P c
unfolding upper is_lower
upper_cases P c n e a b =
    by (within 97 122 c)
    (λ l.
    let f : c - 32 ≡ n = sym (rw l refl) ∙ e in
    let h : n + 32 ≡ c = omega (arith, range 97 122 c l) in
    subst P h b)
    (λ l. let f : c ≡ n = sym (rw l refl) ∙ e in subst P (sym f) a)

-- a byte that is a capital letter but for its case is an identifier byte
pub capital_ident : (c n : ℕ) → is_capital n ≡ true → upper c ≡ n → is_ident c ≡ true
capital_ident c n h e =
    let least = leb-true 65 n ((and_parts (leb 65 n) (leb n 90) h).0) in
    let most = leb-true n 90 ((and_parts (leb 65 n) (leb n 90) h).1) in
    let small : is_letter (n + 32) ≡ true = rw (le-leb 97 (n + 32) (omega arith), le-leb (n + 32) 122 (omega arith)) refl in
    let large : is_letter n ≡ true = or_right (leb 97 n && leb n 122) (is_capital n) h in
    upper_cases (λ (m : ℕ). is_ident m ≡ true) c n e (letter_ident n large) (letter_ident (n + 32) small)
