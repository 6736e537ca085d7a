-- The texts of a record are at most twice as long as the part that declares it. Assumes nothing.
use Rattle.std.specs.Prelude.{Option, Some, None}
use mathlib.Core.Path.{◌≡◌, refl, sym, ap, ◌∙◌}
use mathlib.Core.Bool.{false}
use mathlib.Core.List.{List, ◌++◌}
use Prim.Native.Nat.{ℕ, ◌+◌, ◌-◌, ◌*◌, ◌≤◌, zero-le}
use native.Mathlib.Omega.{arith}
use lib.Dec.{eqb}
use lib.ListN.{length, take, drop, length-append, length-drop}
use lib.Seq.{length-take-le}
use Rattle.spec.proofs.RefusalBounds.{bytes_length}
use Rattle.spec.proofs.RequotedLength.{long_quoted, doubled_le}
use Rattle.spec.proofs.Choice.{by, made_some}
use Rattle.spec.proofs.LengthLaws.{trim_le}
use Rattle.spec.proofs.ListLaws.{while_sum, drop_while_le}
use Rattle.spec.specs.Lists.{take_while, drop_while}
use Rattle.spec.specs.Map.{Marked, bytes}
use Rattle.spec.specs.Parts.{trim, part}
use Rattle.spec.specs.Declarations.{Declared, delimiter_of, requoted_default, words, declared_of, declaration, text_or, packed_record}
use Rattle.runs.specs.Places.{piece_at}
use Rattle.declared_parts.specs.DeclaredParts.{cut_in, type_in, Fits, is_whole, spaced}
use Rattle.declared_parts.specs.declared.Cut.{Cut}
use Rattle.declared_parts.proofs.BetweenLaws.{piece_le}
use Rattle.declared_parts.proofs.DefaultCutLaws.{cut_fits}
use Rattle.declared_parts.proofs.ReadLaws.{default_behind, cut_declaration}
use Rattle.declared_parts.proofs.SpacedLaws.{spaced_le}
use Rattle.declared_parts.proofs.WholeLaws.{delimiter_length, whole_long, whole_text, other_text}
use Rattle.declared_parts.proofs.WordsLaws.{space, in_word}
use Rattle.declared_parts.proofs.TypeLaws.{declared_at, declared_words}

-- where a default begins, else the end
abbrev rest_or : ℕ → Option ℕ → ℕ
rest_or n (Some r) = r
rest_or n None = n

rest_behind : (c : Cut) (n : ℕ) → Fits c n → c.head ≤ rest_or n c.rest
rest_behind c n f = go c.rest refl
  where
    go : (o : Option ℕ) → c.rest ≡ o → c.head ≤ rest_or n o
    go (Some r) e = f.ordered r e
    go None e = f.head

requoted_le : (xs : List ℕ) → length (requoted_default xs) ≤ 2 * length xs
requoted_le xs =
    let n = length (delimiter_of xs) in
    by (is_whole (delimiter_of xs) xs)
    (λ e.
    let l = whole_long xs n refl e in
    let m = take (length xs - n - n) (drop n xs) in
    omega (
      arith,
      ap length (whole_text xs n refl e),
      long_quoted m,
      doubled_le m,
      delimiter_length xs,
      length-take-le (length xs - n - n) (drop n xs) (omega (arith, length-drop n xs)),
    ))
    (λ e. omega (arith, ap length (other_text xs n refl e)))

value_le : (o : Option ℕ) (t : List Marked) → length (text_or (default_behind o t)) ≤ 2 * (length t - rest_or (length t) o)
value_le None t = zero-le
value_le (Some r) t =
    let u = trim (drop r t) in
    omega (arith, requoted_le (bytes u), bytes_length u, trim_le (drop r t), length-drop r t)

-- the name and the type stand in the words' text
record Short (n : ℕ) (o : Option (List ℕ)) (d : Declared) : Type 0 where
  front : length d.name + length d.type ≤ n
  default : d.default ≡ o

words_le : (t : List Marked) (o : Option (List ℕ)) (d : Declared) → declared_of (words t) o ≡ Some d → Short (length t) o d
words_le t o d h =
    let v = drop_while space t in
    let r = drop_while in_word v in
    let p = type_in (bytes r) in
    let xs = piece_at (bytes r) p.words in
    let q : declared_at o (bytes (take_while in_word v)) (bytes r) p ≡ Some d = sym (declared_words o t v r refl refl) ∙ h in
    let front : length (bytes (take_while in_word v)) + length (spaced false xs) ≤ length t =
    omega (
      arith,
      bytes_length (take_while in_word v),
      spaced_le false xs,
      piece_le (bytes r) p.words.at p.words.len,
      bytes_length r,
      while_sum in_word v,
      drop_while_le space t,
    ) in
    let m = made_some (eqb p.words.len 0) _ d q in
    rw (← m.1) (record { front = front; default = refl })

pub packed_part : (part : List Marked) (d : Declared) → declaration part ≡ Some d → length (packed_record d) ≤ 2 * length part
unfolding packed_record
packed_part part d h =
    let t = trim part in
    let c = cut_in t in
    let f = cut_fits t in
    let s = words_le (take c.head t) (default_behind c.rest t) d (sym (cut_declaration part t c refl refl) ∙ h) in
    omega (
      arith,
      f.head,
      rest_behind c (length t) f,
      s.front,
      ap (λ o. length (text_or o)) s.default,
      value_le c.rest t,
      length-take-le c.head t f.head,
      trim_le part,
      length-append d.name (d.type ++ text_or d.default),
      length-append d.type (text_or d.default),
    )
