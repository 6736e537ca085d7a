-- Lists by a test on their elements, and sums over lists. Assumes nothing.
use Rattle.std.proofs.lemmas.Bool.{cond_both}
use mathlib.Core.Path.{◌≡◌, refl, sym, ap, ◌∙◌}
use mathlib.Core.Bool.{Bool, true, ◌&&◌, false≢true}
use mathlib.Core.List.{List, [], ◌∷◌, ◌++◌, map, reverse, reverse_aux, append_assoc}
use Prim.Native.Nat.{ℕ, suc, ◌+◌, ◌*◌, ◌≤◌, zero-le, suc-le-suc}
use native.Mathlib.Nat.{mul-zero, mul-suc, add_comm}
use native.Mathlib.Omega.{arith}
use lib.Dec.{eqb, eqb-suc-zero}
use lib.ListN.{length, take, drop, length-append, take-append-drop}
use Rattle.spec.proofs.Choice.{by}
use Rattle.spec.specs.Lists.{is_empty, take_while, drop_while, drop_end, all, keep, concat, total}

module _ {A : Type 0} where
  pub empty_length : (l : List A) → is_empty l ≡ eqb (length l) 0
  unfolding is_empty
  empty_length [] = refl
  empty_length (x ∷ l) = sym (eqb-suc-zero (length l))

  pub empty_nil : (l : List A) → is_empty l ≡ true → l ≡ []
  unfolding is_empty
  empty_nil [] h = refl
  empty_nil (x ∷ l) h = absurd (false≢true h)

  -- the front that passes the test and what stands behind it are the list
  pub while_split : (f : A → Bool) (t : List A) → take_while f t ++ drop_while f t ≡ t
  unfolding take_while drop_while
  while_split f [] = refl
  while_split f (x ∷ t) =
      by (f x) (λ e. simp e (ap (λ l. x ∷ l) (while_split f t))) (λ e. simp e)

  pub while_sum : (f : A → Bool) (t : List A) → length (take_while f t) + length (drop_while f t) ≡ length t
  while_sum f t = sym (length-append (take_while f t) (drop_while f t)) ∙ ap length (while_split f t)

  -- all elements of that front pass the test
  pub while_all : (f : A → Bool) (t : List A) → all f (take_while f t) ≡ true
  unfolding take_while all
  while_all f [] = refl
  while_all f (x ∷ t) = by (f x) (λ e. simp e (while_all f t)) (λ e. simp e)

  pub all_append : (f : A → Bool) (s t : List A) → all f (s ++ t) ≡ (all f s && all f t)
  unfolding all
  all_append f [] t = refl
  all_append f (x ∷ s) t = by (f x) (λ e. simp e (all_append f s t)) (λ e. simp e)

  pub concat_append : (s t : List (List A)) → concat (s ++ t) ≡ concat s ++ concat t
  unfolding concat
  concat_append [] t = refl
  concat_append (x ∷ s) t = ap (λ l. x ++ l) (concat_append s t) ∙ sym (append_assoc x (concat s) (concat t))

  pub total_append : (f : A → ℕ) (s t : List A) → total f (s ++ t) ≡ total f s + total f t
  unfolding total
  total_append f [] t = omega arith
  total_append f (x ∷ s) t = omega (arith, total_append f s t)

  total_reverse_onto : (f : A → ℕ) (s t : List A) → total f (reverse_aux s t) ≡ total f s + total f t
  unfolding total
  total_reverse_onto f [] t = omega arith
  total_reverse_onto f (x ∷ s) t = omega (arith, total_reverse_onto f s (x ∷ t))

  pub total_reverse : (f : A → ℕ) (t : List A) → total f (reverse t) ≡ total f t
  unfolding total
  total_reverse f t = omega (arith, total_reverse_onto f t [])

  -- cut anywhere, the two sums make up the sum
  pub total_cut : (f : A → ℕ) (i : ℕ) (t : List A) → total f (take i t) + total f (drop i t) ≡ total f t
  total_cut f i t = sym (total_append f (take i t) (drop i t)) ∙ ap (total f) (take-append-drop i t)

  pub total_while : (f : A → ℕ) (p : A → Bool) (t : List A) → total f (take_while p t) + total f (drop_while p t) ≡ total f t
  total_while f p t = sym (total_append f (take_while p t) (drop_while p t)) ∙ ap (total f) (while_split p t)

  -- where f is at most g at each element, its sum is at most g's
  pub total_le : (f g : A → ℕ) → ((x : A) → f x ≤ g x) → (t : List A) → total f t ≤ total g t
  unfolding total
  total_le f g h [] = zero-le
  total_le f g h (x ∷ t) = omega (arith, h x, total_le f g h t)

  pub total_const : (k : ℕ) (t : List A) → total (λ x. k) t ≡ k * length t
  unfolding total
  total_const k [] = sym (mul-zero k)
  total_const k (x ∷ t) = ap (λ n. k + n) (total_const k t) ∙ (add_comm k (k * length t) ∙ sym (mul-suc k (length t)))

  pub drop_end_le : (f : A → Bool) (t : List A) → length (drop_end f t) ≤ length t
  unfolding drop_end
  drop_end_le f [] = zero-le
  drop_end_le f (x ∷ t) =
      cond_both (f x && is_empty (drop_end f t)) [] (x ∷ drop_end f t) (λ l. length l ≤ suc (length t))
      (λ _. zero-le) (λ _. suc-le-suc (drop_end_le f t))

  pub drop_while_le : (f : A → Bool) (t : List A) → length (drop_while f t) ≤ length t
  unfolding drop_while
  drop_while_le f [] = zero-le
  drop_while_le f (x ∷ t) =
      cond_both (f x) (drop_while f t) (x ∷ t) (λ l. length l ≤ suc (length t))
      (λ _. omega (arith, drop_while_le f t)) (λ _. omega arith)

  pub keep_le : (f : A → Bool) (t : List A) → length (keep f t) ≤ length t
  unfolding keep
  keep_le f [] = zero-le
  keep_le f (x ∷ t) =
      cond_both (f x) (x ∷ keep f t) (keep f t) (λ l. length l ≤ suc (length t))
      (λ _. suc-le-suc (keep_le f t)) (λ _. omega (arith, keep_le f t))

-- the sum over a list of images
pub total_map : {A B : Type 0} (f : B → ℕ) (g : A → B) (t : List A) → total f (map g t) ≡ total (λ x. f (g x)) t
unfolding total
total_map f g [] = refl
total_map f g (x ∷ t) = ap (λ n. f (g x) + n) (total_map f g t)
