-- The text between two places: its parts, its front and its end by a test. Assumes nothing.
use Rattle.std.specs.Prelude.{Option, Some, None}
use Rattle.std.specs.Option.{unwrap_or, UnwrapsOrElse}
use mathlib.Core.Path.{◌≡◌, refl, ap, ◌∙◌}
use mathlib.Core.Bool.{Bool}
use mathlib.Core.List.{List, []}
use Prim.Native.Nat.{ℕ, ◌+◌, ◌-◌, ◌≤◌}
use native.Mathlib.Omega.{arith}
use lib.ListN.{length, take, drop, length-drop, length-take}
use lib.Seq.{length-take-le, take-take, drop-drop}
use Rattle.spec.proofs.AheadLaws.{drop_take}
use Rattle.spec.proofs.EndLaws.{drop_end_take}
use Rattle.spec.proofs.WalkLaws.{while_drop}
use Rattle.spec.specs.Bytes.{is_w}
use Rattle.spec.specs.Lists.{take_while, drop_while, drop_end}
use Rattle.spec.specs.Parts.{part}
use Rattle.runs.specs.declared.Place.{Place}
use Rattle.declared_parts.specs.DeclaredParts.{trimmed_place}

-- a part of a text is not longer than the text
pub piece_le : {A : Type 0} (xs : List A) (a n : ℕ) → length (take n (drop a xs)) ≤ length xs
piece_le xs a n = omega (arith, length-take n (drop a xs), length-drop a xs)

module _ {A : Type 0} (xs : List A) (a b : ℕ) where
  pub between_length : a ≤ b → b ≤ length xs → length (part a b xs) ≡ b - a
  between_length h k = length-take-le (b - a) (drop a xs) (omega (arith, length-drop a xs))

  pub between_none : b ≤ a → part a b xs ≡ []
  between_none h =
      let k : b - a ≡ 0 = omega arith in
      rw k

  -- parts of it
  module _ (i : ℕ) where
    pub drop_between : drop i (part a b xs) ≡ part (a + i) b xs
    drop_between =
        let k : b - a - i ≡ b - (a + i) = omega arith in
        drop_take i (b - a) (drop a xs) ∙ rw (k, drop-drop i a xs) refl

    pub take_between : a + i ≤ b → take i (part a b xs) ≡ part a (a + i) xs
    take_between h =
        let k : a + i - a ≡ i = omega arith in
        rw k (take-take i (b - a) (drop a xs) (omega arith))

module _ {A : Type 0} (f : A → Bool) (xs : List A) (a b : ℕ) where
  -- where the front ends, and what stands behind it
  abbrev pub front_end : ℕ
  front_end = a + length (take_while f (part a b xs))

  pub behind_front : drop_while f (part a b xs) ≡ part front_end b xs
  behind_front = while_drop f (part a b xs) ∙ drop_between xs a b (length (take_while f (part a b xs)))

  -- the length without the end, and what stands ahead of it
  abbrev pub end_len : ℕ
  end_len = length (drop_end f (part a b xs))

  pub ahead_of_end : a + end_len ≤ b → drop_end f (part a b xs) ≡ part a (a + end_len) xs
  ahead_of_end h = drop_end_take f (part a b xs) ∙ take_between xs a b end_len h

-- the place of a default, by where it begins and ends
pub place_by : (xs : List ℕ) (from to at end : ℕ) → at ≡ front_end is_w xs from to → end ≡ at + end_len is_w xs at to
    → record { at = at; len = end - at } ≡ trimmed_place xs from to
place_by xs from to at end p q =
    let k : end - at ≡ end_len is_w xs at to = omega arith in
    rw (k, p) refl

-- a place, or the default one, which is 0 and 0
pub default_place : (o : Option Place) (v : Place) → UnwrapsOrElse o (λ q. (q.at ≡ 0) × (q.len ≡ 0)) v → v ≡ unwrap_or o (record { at = 0; len = 0 })
default_place (Some p) v e = e
default_place None v e = ap (λ (n : ℕ). record { at = n; len = v.len }) e.0 ∙ ap (λ (n : ℕ). record { at = 0; len = n }) e.1
