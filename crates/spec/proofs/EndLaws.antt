-- The end of a list, by a test on its elements. Assumes nothing.
use mathlib.Core.Path.{◌≡◌, refl, sym, ap, ◌∙◌}
use mathlib.Core.Bool.{Bool, true, false, ◌&&◌, and-false}
use mathlib.Core.List.{List, [], ◌∷◌, ◌++◌, reverse, append-nil, append_assoc, reverse-cons, reverse-reverse}
use Prim.Native.Nat.{◌+◌, ◌<◌}
use native.Mathlib.Omega.{arith}
use lib.ListN.{length, take, drop, length-append, length-reverse}
use lib.Seq.{drop_at}
use Rattle.spec.proofs.Choice.{by}
use Rattle.spec.specs.Lists.{is_empty, take_while, drop_end}

module _ {A : Type 0} (f : A → Bool) where
  -- what is left is a front of the list
  pub drop_end_take : (t : List A) → drop_end f t ≡ take (length (drop_end f t)) t
  unfolding drop_end
  drop_end_take [] = refl
  drop_end_take (x ∷ t) =
      by (f x && is_empty (drop_end f t)) (λ e. rw e refl) (λ e. rw e (ap (λ (l : List A). x ∷ l) (drop_end_take t)))

  -- two lists one after the other: all of the second goes, and the end of the first; or some of the second stays, and all of
  -- the first
  pub drop_end_gone : (a b : List A) → drop_end f b ≡ [] → drop_end f (a ++ b) ≡ drop_end f a
  unfolding drop_end
  drop_end_gone [] b e = e
  drop_end_gone (x ∷ a) b e = rw (drop_end_gone a b e) refl

  pub some_behind : (a b : List A) → 0 < length b → is_empty (a ++ b) ≡ false
  unfolding is_empty
  some_behind [] [] h = absurd (omega arith)
  some_behind [] (y ∷ b) h = refl
  some_behind (x ∷ a) b h = refl

  pub drop_end_kept : (a b : List A) → 0 < length (drop_end f b) → drop_end f (a ++ b) ≡ a ++ drop_end f b
  unfolding drop_end
  drop_end_kept [] b h = refl
  drop_end_kept (x ∷ a) b h = rw (drop_end_kept a b h, some_behind a (drop_end f b) h, and-false (f x)) refl

  -- by its last element
  pub last_passes : (x : A) (l : List A) → f x ≡ true → drop_end f (l ++ (x ∷ [])) ≡ drop_end f l
  unfolding drop_end is_empty
  last_passes x l e = drop_end_gone l (x ∷ []) (simp e)

  pub last_fails : (x : A) (l : List A) → f x ≡ false → drop_end f (l ++ (x ∷ [])) ≡ l ++ (x ∷ [])
  unfolding drop_end is_empty
  last_fails x l e =
      let one : drop_end f (x ∷ []) ≡ x ∷ [] = simp e in
      drop_end_kept l (x ∷ []) (rw one (omega arith)) ∙ ap (λ (u : List A). l ++ u) one

  back_split : (l : List A) → drop_end f (reverse l) ++ reverse (take_while f l) ≡ reverse l
  unfolding drop_end take_while
  back_split [] = refl
  back_split (x ∷ l) =
      by (f x)
      (λ e.
      rw (reverse-cons x l, last_passes x (reverse l) e, e, reverse-cons x (take_while f l))
      (sym (append_assoc (drop_end f (reverse l)) (reverse (take_while f l)) (x ∷ [])) ∙ ap (λ (u : List A). u ++ (x ∷ [])) (back_split l)))
      (λ e. rw (reverse-cons x l, last_fails x (reverse l) e, e) (append-nil (reverse l ++ (x ∷ []))))

  -- what is left and the end that passes, found by reading backwards, are the list
  pub end_split : (t : List A) → drop_end f t ++ reverse (take_while f (reverse t)) ≡ t
  end_split t = let e = back_split (reverse t) in rw reverse-reverse at e

  pub end_sum : (t : List A) → length (drop_end f t) + length (take_while f (reverse t)) ≡ length t
  end_sum t =
      omega (
        arith,
        length-append (drop_end f t) (reverse (take_while f (reverse t))),
        length-reverse (take_while f (reverse t)),
        ap length (end_split t),
      )

  pub end_drop : (t : List A) → reverse (take_while f (reverse t)) ≡ drop (length (drop_end f t)) t
  end_drop t =
      sym (drop_at (drop_end f t) (reverse (take_while f (reverse t))) (length (drop_end f t)) refl)
      ∙ ap (drop (length (drop_end f t))) (end_split t)
