-- Facts of Bools, bytes and lists that the laws here share. Assumes nothing.
use Rattle.std.proofs.lemmas.Bool.{and_parts}
use mathlib.Core.Path.{◌≡◌, refl, sym, ap, ◌∙◌, subst}
use mathlib.Core.Bool.{Bool, true, false, ◌&&◌, true≢false, cond}
use Prim.Native.Nat.{ℕ}
use borrow.Author.Tests.{eqb-true}
use lib.Dec.{eqb}
use Rattle.spec.proofs.ByteSets.{sign_not_ident, sign_not_w}
use Rattle.spec.proofs.Choice.{by, or_cases}
use Rattle.spec.specs.Bytes.{is_ident, is_quote, is_w}

-- where a test asks for one thing more than the rest says, the rest says its own
pub rest_says : (b a r : Bool) → cond b (a && r) r ≡ true → r ≡ true
rest_says true a r h = (and_parts a r h).1
rest_says false a r h = h

pub and_no : (a b : Bool) → (a ≡ true → b ≡ false) → (a && b) ≡ false
and_no true b h = h refl
and_no false b h = refl

-- a byte that is n has what n has
pub at : (P : ℕ → Type 0) (n c : ℕ) → eqb c n ≡ true → P n → P c
at P n c e h = subst P (sym (eqb-true c n e)) h

-- what passes a test is no byte that fails it
pub other : (f : ℕ → Bool) (n c : ℕ) → f n ≡ false → f c ≡ true → eqb c n ≡ false
other f n c e h = by (eqb c n) (λ g. absurd (true≢false (sym h ∙ (ap f (eqb-true c n g) ∙ e)))) (λ g. g)

-- and what fails a test is no byte that passes it
pub another : (f : ℕ → Bool) (n c : ℕ) → f n ≡ true → f c ≡ false → eqb c n ≡ false
another f n c e h = by (eqb c n) (λ g. absurd (true≢false (sym e ∙ (ap f (sym (eqb-true c n g)) ∙ h)))) (λ g. g)

-- a quote is `'` or `"`
pub quotes : (P : ℕ → Type 0) (c : ℕ) → is_quote c ≡ true → P 39 → P 34 → P c
unfolding is_quote
quotes P c e a b = or_cases (eqb c 39) (eqb c 34) e (λ f. at P 39 c f a) (λ f. at P 34 c f b)

-- what two quotes fail, no quote passes
pub no_quote : (f : ℕ → Bool) (c : ℕ) → f 39 ≡ false → f 34 ≡ false → f c ≡ true → is_quote c ≡ false
no_quote f c a b h =
    by (is_quote c) (λ e. absurd (true≢false (sym h ∙ quotes (λ (n : ℕ). f n ≡ false) c e a b))) (λ e. e)

pub ident_no_quote : (c : ℕ) → is_ident c ≡ true → is_quote c ≡ false
ident_no_quote c h = no_quote is_ident c (sign_not_ident 39 refl) (sign_not_ident 34 refl) h

pub white_no_quote : (c : ℕ) → is_w c ≡ true → is_quote c ≡ false
white_no_quote c h = no_quote is_w c (sign_not_w 39 refl) (sign_not_w 34 refl) h
