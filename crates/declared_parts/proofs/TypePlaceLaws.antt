-- The places of CONSTANT and NOT NULL around a type's words, as the code reads them. Assumes nothing.
use Rattle.std.specs.Prelude.{Option, Some, None, is_some}
use Rattle.std.specs.Option.{unwrap_or}
use Rattle.std.proofs.lemmas.List.{take_rest}
use mathlib.Core.Path.{◌≡◌, refl, sym, ap, ◌∙◌}
use mathlib.Core.Bool.{true, false}
use mathlib.Core.List.{List}
use Prim.Native.Nat.{ℕ, ◌+◌, ◌-◌}
use native.Mathlib.Omega.{arith}
use lib.ListN.{length, take, drop, length-drop}
use lib.Seq.{take-length}
use Rattle.spec.specs.Bytes.{ascii, is_w}
use Rattle.spec.specs.Lists.{take_while, drop_end}
use Rattle.runs.specs.Places.{piece_at}
use Rattle.declared_parts.specs.DeclaredParts.{not_w, is_text, constant_len, last_word, ends_in, type_len, type_in}
use Rattle.runs.specs.declared.Place.{Place}

module _ (xs : List ℕ) where
  -- the last word ends at b and starts at a
  pub last_by : (a b : ℕ) → b ≡ length (drop_end is_w (take (length xs) xs)) → a ≡ length (drop_end not_w (take b xs))
      → record { at = a; len = b - a } ≡ last_word xs
  unfolding last_word
  last_by a b e h =
      let z : length (drop_end is_w xs) ≡ b = ap (λ (l : List ℕ). length (drop_end is_w l)) (sym (take-length xs)) ∙ sym e in
      rw (z, sym h) refl

  -- the last word, and the last one ahead of it
  module _ (l : Place) (e : l ≡ last_word xs) where
    pub null_missing : false ≡ is_text (ascii "NULL") (piece_at xs l) → None ≡ type_len xs
    unfolding type_len ends_in
    null_missing p = rw (← e, ← p) refl

    module _ (m : Place) (h : m ≡ last_word (take l.at xs)) (p : true ≡ is_text (ascii "NULL") (piece_at xs l)) where
      pub not_missing : false ≡ is_text (ascii "NOT") (piece_at (take l.at xs) m) → None ≡ type_len xs
      unfolding type_len ends_in
      not_missing q = rw (← e, ← p, ← h, ← q) refl

      pub both_stand : true ≡ is_text (ascii "NOT") (piece_at (take l.at xs) m) → Some m.at ≡ type_len xs
      unfolding type_len ends_in
      both_stand q = rw (← e, ← p, ← h, ← q) refl

  -- the places by what the calls answered
  pub places_by : (start : ℕ) (f n : Option ℕ) → start ≡ 0 + length (take_while is_w xs) → f ≡ constant_len (take (length xs - start) (drop start xs))
      → n ≡ type_len (take (length xs - (start + unwrap_or f 0)) (drop (start + unwrap_or f 0) xs))
      → record {
        words = record { at = start + unwrap_or f 0; len = unwrap_or n (length xs - (start + unwrap_or f 0)) };
        constant = is_some f;
        not_null = is_some n;
      }
      ≡ type_in xs
  unfolding type_in
  places_by start f n a b c =
      let from = start + unwrap_or f 0 in
      let s : length (take_while is_w xs) ≡ start = omega arith in
      let g : constant_len (drop start xs) ≡ f = ap constant_len (sym (take_rest xs start)) ∙ sym b in
      let t : type_len (drop from xs) ≡ n = ap type_len (sym (take_rest xs from)) ∙ sym c in
      rw (s, g, t, length-drop from xs) refl
