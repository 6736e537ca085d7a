-- Runs of elements that pass a test, one element at a time, their bounds, and a text without W at both ends. Assumes nothing.
use mathlib.Core.Path.{◌≡◌, refl, sym, ap, ◌∙◌}
use mathlib.Core.Bool.{Bool, true, false}
use mathlib.Core.List.{List, [], ◌∷◌}
use Prim.Native.Nat.{ℕ, ◌+◌, ◌≤◌, ◌<◌}
use native.Mathlib.Omega.{arith}
use lib.Dec.{eqb}
use lib.ListN.{length, take, drop, get_or, length-drop}
use lib.Seq.{take-length}
use Rattle.classes.proofs.PrefixLaws.{eqb_flip}
use Rattle.spec.proofs.BytesLaws.{bytes_skip, bytes_end}
use Rattle.spec.proofs.EndLaws.{drop_end_take}
use Rattle.spec.proofs.ListLaws.{drop_end_le, drop_while_le}
use Rattle.spec.proofs.RunPlaces.{end_from, start_from}
use Rattle.spec.proofs.WalkLaws.{while_drop, while_length, while_length_end, while_length_hit, while_length_miss}
use Rattle.spec.specs.Parts.{trim, trim_end}
use Rattle.spec.specs.Bytes.{is_w}
use Rattle.spec.specs.Lists.{take_while, drop_while, drop_end, any}
use Rattle.spec.specs.Map.{Marked, bytes, of_byte}
use Rattle.runs.specs.Sets.{trimmed}

module _ {A : Type 0} (f : A → Bool) (xs : List A) where
  -- ---- where the run from i on ends
  module _ (i : ℕ) where
    pub end_past : length xs ≤ i → end_from f xs i ≡ i
    end_past h = omega (arith, while_length_end f xs i h)

    pub end_le : end_from f xs i ≤ i + length xs
    end_le = omega (arith, while_length f (drop i xs), length-drop i xs)

    module _ (d : A) (h : i < length xs) where
      pub end_step : f (get_or xs i d) ≡ true → end_from f xs i ≡ end_from f xs (i + 1)
      end_step e = omega (arith, while_length_hit f xs i d h e)

      pub end_here : f (get_or xs i d) ≡ false → end_from f xs i ≡ i
      end_here e = omega (arith, while_length_miss f xs i d h e)

  -- before the end of the list: what is left of it
  pub start_whole : (k : ℕ) → k ≡ start_from f xs (length xs) → (k ≡ length (drop_end f xs)) × (take k xs ≡ drop_end f xs)
  start_whole k e =
      let h : k ≡ length (drop_end f xs) = rw take-length at e in
      (h, ap (λ (n : ℕ). take n xs) h ∙ sym (drop_end_take f xs))

-- this byte somewhere
pub any_byte : (c : ℕ) (xs : List ℕ) → any (λ b. eqb b c) xs ≡ any (eqb c) xs
unfolding any
any_byte c [] = refl
any_byte c (b ∷ xs) = rw (eqb_flip b c, any_byte c xs) refl

-- ---- without W at both ends

-- W in front ends at s, and W at the end of the rest starts at k there
pub trimmed_at : (xs : List ℕ) (s k : ℕ) → s ≡ end_from is_w xs 0 → k ≡ start_from is_w (drop s xs) (length (drop s xs)) → trimmed xs ≡ take k (drop s xs)
unfolding trimmed
trimmed_at xs s k p q =
    let z : s ≡ length (take_while is_w xs) = omega arith in
    ap (drop_end is_w) (while_drop is_w xs ∙ ap (λ (n : ℕ). drop n xs) (sym z))
    ∙ sym (start_whole is_w (drop s xs) k q).1

pub trimmed_le : (xs : List ℕ) → length (trimmed xs) ≤ length xs
unfolding trimmed
trimmed_le xs = omega (arith, drop_end_le is_w (drop_while is_w xs), drop_while_le is_w xs)

-- the bytes of a marked text that is trimmed
pub trim_bytes : (t : List Marked) → bytes (trim t) ≡ trimmed (bytes t)
unfolding trim trim_end trimmed
trim_bytes t = bytes_end is_w (drop_while (of_byte is_w) t) ∙ ap (drop_end is_w) (bytes_skip is_w t)
