-- The bytes of a marked text: of its parts, of two texts joined, and by tests that read bytes only. Assumes nothing.
use Rattle.std.proofs.lemmas.List.{take-map, drop-map}
use mathlib.Core.Path.{◌≡◌, refl, sym, ap, ◌∙◌}
use mathlib.Core.Bool.{Bool, ◌&&◌}
use mathlib.Core.List.{List, [], ◌∷◌, ◌++◌, map, reverse, reverse_aux, map-append}
use Prim.Native.Nat.{ℕ}
use lib.ListN.{length, take, drop, get_or, length-map}
use Rattle.spec.proofs.Choice.{by}
use Rattle.spec.specs.Lists.{is_empty, take_while, drop_while, drop_end}
use Rattle.spec.specs.Map.{Marked, byte, bytes, lives, front_byte, of_byte}

map_reverse_onto : {A B : Type 0} (f : A → B) (l r : List A) → map f (reverse_aux l r) ≡ reverse_aux (map f l) (map f r)
map_reverse_onto f [] r = refl
map_reverse_onto f (x ∷ l) r = map_reverse_onto f l (x ∷ r)

pub bytes_take : (n : ℕ) (t : List Marked) → bytes (take n t) ≡ take n (bytes t)
unfolding bytes
bytes_take n t = sym (take-map byte n t)

pub bytes_drop : (n : ℕ) (t : List Marked) → bytes (drop n t) ≡ drop n (bytes t)
unfolding bytes
bytes_drop n t = sym (drop-map byte n t)

pub bytes_append : (s t : List Marked) → bytes (s ++ t) ≡ bytes s ++ bytes t
unfolding bytes
bytes_append s t = map-append byte s t

pub bytes_reverse : (t : List Marked) → bytes (reverse t) ≡ reverse (bytes t)
unfolding bytes
bytes_reverse t = map_reverse_onto byte t []

pub bytes_lives : (xs : List ℕ) → bytes (lives xs) ≡ xs
unfolding bytes lives
bytes_lives [] = refl
bytes_lives (x ∷ xs) = ap (λ (l : List ℕ). x ∷ l) (bytes_lives xs)

-- the byte in front
pub front_bytes : (t : List Marked) → front_byte t ≡ get_or (bytes t) 0 0
unfolding front_byte bytes
front_bytes [] = refl
front_bytes (x ∷ t) = refl

bytes_empty : (t : List Marked) → is_empty (bytes t) ≡ is_empty t
unfolding bytes is_empty
bytes_empty [] = refl
bytes_empty (x ∷ t) = refl

-- a test that reads bytes only
module _ (f : ℕ → Bool) where
  pub bytes_while : (t : List Marked) → bytes (take_while (of_byte f) t) ≡ take_while f (bytes t)
  unfolding bytes take_while of_byte
  bytes_while [] = refl
  bytes_while (x ∷ t) = by (f (byte x)) (λ e. rw e (ap (λ (l : List ℕ). byte x ∷ l) (bytes_while t))) (λ e. rw e)

  pub bytes_skip : (t : List Marked) → bytes (drop_while (of_byte f) t) ≡ drop_while f (bytes t)
  unfolding bytes drop_while of_byte
  bytes_skip [] = refl
  bytes_skip (x ∷ t) = by (f (byte x)) (λ e. rw e (bytes_skip t)) (λ e. rw e)

  pub bytes_end : (t : List Marked) → bytes (drop_end (of_byte f) t) ≡ drop_end f (bytes t)
  unfolding bytes drop_end of_byte
  bytes_end [] = refl
  bytes_end (x ∷ t) =
      let more = bytes_end t in
      let same : is_empty (drop_end f (bytes t)) ≡ is_empty (drop_end (of_byte f) t) = ap is_empty (sym more) ∙ bytes_empty (drop_end (of_byte f) t) in
      by (f (byte x) && is_empty (drop_end (of_byte f) t))
      (λ e. rw (same, e))
      (λ e. rw (same, e) (ap (λ (l : List ℕ). byte x ∷ l) more))

  -- so they are as long
  pub while_length_bytes : (t : List Marked) → length (take_while (of_byte f) t) ≡ length (take_while f (bytes t))
  unfolding bytes
  while_length_bytes t = sym (length-map (take_while (of_byte f) t) byte) ∙ ap length (bytes_while t)

  pub end_length_bytes : (t : List Marked) → length (drop_end (of_byte f) t) ≡ length (drop_end f (bytes t))
  unfolding bytes
  end_length_bytes t = sym (length-map (drop_end (of_byte f) t) byte) ∙ ap length (bytes_end t)
