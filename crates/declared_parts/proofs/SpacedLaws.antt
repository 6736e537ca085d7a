-- Words joined by single spaces, one byte at a time. Assumes nothing.
use Rattle.std.proofs.lemmas.List.{drop_more}
use mathlib.Core.Path.{◌≡◌, refl}
use mathlib.Core.Bool.{Bool, true, false, cond}
use mathlib.Core.List.{List, [], ◌∷◌}
use Prim.Native.Nat.{ℕ, ◌+◌, ◌≤◌, ◌<◌, zero-le}
use native.Mathlib.Omega.{arith}
use lib.ListN.{length, get_or, drop, drop_of_length-le}
use Rattle.spec.proofs.Choice.{by}
use Rattle.spec.specs.Bytes.{is_w}
use Rattle.declared_parts.specs.DeclaredParts.{spaced}

module _ (xs : List ℕ) (j : ℕ) where
  pub spaced_over : (g : Bool) → length xs ≤ j → spaced g (drop j xs) ≡ []
  unfolding spaced
  spaced_over g h = rw (drop_of_length-le xs h) refl

  module _ (h : j < length xs) where
    pub spaced_w : (g : Bool) → is_w (get_or xs j 0) ≡ true → spaced g (drop j xs) ≡ spaced true (drop (j + 1) xs)
    unfolding spaced
    spaced_w g e = rw (drop_more xs j 0 h, e) refl

    pub spaced_gap : is_w (get_or xs j 0) ≡ false → spaced true (drop j xs) ≡ 32 ∷ get_or xs j 0 ∷ spaced false (drop (j + 1) xs)
    unfolding spaced
    spaced_gap e = rw (drop_more xs j 0 h, e) refl

    pub spaced_next : is_w (get_or xs j 0) ≡ false → spaced false (drop j xs) ≡ get_or xs j 0 ∷ spaced false (drop (j + 1) xs)
    unfolding spaced
    spaced_next e = rw (drop_more xs j 0 h, e) refl

-- one byte more at most, a space where W stood before
pub spaced_le : (g : Bool) (xs : List ℕ) → length (spaced g xs) ≤ cond g 1 0 + length xs
unfolding spaced
spaced_le g [] = zero-le
spaced_le true (c ∷ cs) =
    by (is_w c) (λ e. rw e (omega (arith, spaced_le true cs))) (λ e. rw e (omega (arith, spaced_le false cs)))
spaced_le false (c ∷ cs) =
    by (is_w c) (λ e. rw e (omega (arith, spaced_le true cs))) (λ e. rw e (omega (arith, spaced_le false cs)))
