-- A default that is wholly a dollar literal. Assumes nothing.
use Rattle.std.specs.Cmp.Lexicographic.{pointwise}
use Rattle.std.specs.Prelude.{nat_eq}
use Rattle.std.specs.Borrow.{Bor}
use Rattle.std.specs.Prelude.{Option, Some, None, is_some, IfSome}
use Rattle.std.specs.Option.{option_copied}
use Rattle.std.proofs.lemmas.Option.{cond_some, none-some}
use mathlib.Core.Path.{◌≡◌, refl, sym, ap, ◌∙◌}
use mathlib.Core.Bool.{Bool, true, false, ◌&&◌, and-true, and-false}
use mathlib.Core.List.{List, [], ◌∷◌, ◌++◌}
use Prim.Native.Nat.{ℕ, suc, ◌+◌, ◌-◌, ◌*◌, ◌≤◌, ◌<◌}
use native.Mathlib.Omega.{arith}
use borrow.Author.Tests.{eq-eqb, ne_eqb, le-leb, lt-leb, leb-true}
use lib.Dec.{eqb, leb}
use lib.ListN.{length, get_or, take, drop, length-append, length-drop, length-take}
use lib.Seq.{drop-drop}
use Rattle.spec.proofs.WalkLaws.{prefix_take}
use Rattle.std.proofs.lemmas.Bool.{and_parts}
use Rattle.spec.proofs.Choice.{by}
use Rattle.spec.proofs.SpanLaws.{prefix_len}
use Rattle.spec.specs.Bytes.{is_ident, is_prefix, is_same}
use Rattle.spec.specs.Lists.{take_while}
use Rattle.spec.specs.Requote.{single_quoted}
use Rattle.spec.specs.Declarations.{delimiter_of, requoted_by, requoted_default}
use Rattle.declared_parts.specs.DeclaredParts.{is_whole, inside_of}
use Rattle.declared_parts.proofs.DeclaredNameLaws.{same_of_library}

pub delimiter_length : (xs : List ℕ) → length (delimiter_of xs) ≡ length (take_while is_ident (drop 1 xs)) + 2
unfolding delimiter_of
delimiter_length xs = omega (arith, length-append (take_while is_ident (drop 1 xs)) (36 ∷ []))

-- a tag and `$` stand in front exactly if `$` stands behind the tag
tag_prefix : (f : ℕ → Bool) (cs : List ℕ) → is_prefix (take_while f cs ++ (36 ∷ [])) cs ≡ eqb (get_or cs (length (take_while f cs)) 0) 36
unfolding take_while is_prefix
tag_prefix f [] = refl
tag_prefix f (c ∷ cs) =
    by (f c) (λ e. rw (e, eq-eqb c c refl) (tag_prefix f cs)) (λ e. rw e (and-true (eqb c 36)))

delimiter_prefix : (xs : List ℕ) → is_prefix (delimiter_of xs) xs ≡ (eqb (get_or xs 0 0) 36 && eqb (get_or xs (length (take_while is_ident (drop 1 xs)) + 1) 0) 36)
unfolding delimiter_of is_prefix
delimiter_prefix [] = refl
delimiter_prefix (c ∷ cs) =
    let k : length (take_while is_ident cs) + 1 ≡ suc (length (take_while is_ident cs)) = omega arith in
    rw (k, tag_prefix is_ident cs) refl

module _ (xs : List ℕ) (n : ℕ) (d : n ≡ length (delimiter_of xs)) where
  -- too short for two delimiters
  pub whole_short : length xs < 2 * n → is_whole (delimiter_of xs) xs ≡ false
  unfolding is_whole
  whole_short h =
      by (is_prefix (delimiter_of xs) xs)
      (λ e. rw (e, lt-leb (length (delimiter_of xs)) (length (drop (length (delimiter_of xs)) xs)) (omega (arith, length-drop (length (delimiter_of xs)) xs, prefix_len (delimiter_of xs) xs e))) refl)
      (λ e. rw e refl)

  last_at : n - 1 ≡ length (take_while is_ident (drop 1 xs)) + 1
  last_at = omega (arith, delimiter_length xs)

  -- no `$` at one of the two places
  pub whole_first : (get_or xs 0 0 ≡ 36 → ⊥) → is_whole (delimiter_of xs) xs ≡ false
  unfolding is_whole
  whole_first e = rw (delimiter_prefix xs, ne_eqb (get_or xs 0 0) 36 e) refl

  pub whole_last : (get_or xs (n - 1) 0 ≡ 36 → ⊥) → is_whole (delimiter_of xs) xs ≡ false
  unfolding is_whole
  whole_last e =
      let f = rw last_at at e in
      rw (delimiter_prefix xs, ne_eqb (get_or xs (length (take_while is_ident (drop 1 xs)) + 1) 0) 36 f, and-false (eqb (get_or xs 0 0) 36)) refl

  -- the delimiter at both places: the end decides, by the library's equality
  pub whole_same : n ≤ length xs - n → get_or xs 0 0 ≡ 36 → get_or xs (n - 1) 0 ≡ 36 → is_whole (delimiter_of xs) xs ≡ pointwise nat_eq (drop (length xs - n) xs) (take n xs)
  unfolding is_whole
  whole_same h a b =
      let m = length (delimiter_of xs) in
      let p : is_prefix (delimiter_of xs) xs ≡ true =
      delimiter_prefix xs ∙ rw (eq-eqb (get_or xs 0 0) 36 a, eq-eqb (get_or xs (length (take_while is_ident (drop 1 xs)) + 1) 0) 36 (rw last_at at b)) refl in
      let l : leb m (length (drop m xs)) ≡ true = le-leb m (length (drop m xs)) (omega (arith, length-drop m xs)) in
      let k : m + (length (drop m xs) - m) ≡ length xs - m = omega (arith, length-drop m xs) in
      rw (d, p, l, drop-drop (length (drop m xs) - m) m xs, k, prefix_take (delimiter_of xs) xs p)
      (same_of_library (drop (length xs - m) xs) (delimiter_of xs))

  -- a whole one has two delimiters
  pub whole_long : is_whole (delimiter_of xs) xs ≡ true → 2 * n ≤ length xs
  unfolding is_whole
  whole_long h =
      let m = length (delimiter_of xs) in
      let r = drop m xs in
      let e = (and_parts (is_prefix (delimiter_of xs) xs) (leb m (length r) && is_same (drop (length r - m) r) (delimiter_of xs)) h).1 in
      let p = (and_parts (is_prefix (delimiter_of xs) xs) (leb m (length r) && is_same (drop (length r - m) r) (delimiter_of xs)) h).0 in
      omega (arith, leb-true m (length r) ((and_parts (leb m (length r)) (is_same (drop (length r - m) r) (delimiter_of xs)) e).0), length-drop m xs, prefix_len (delimiter_of xs) xs p)

  -- what it becomes, and what any other becomes
  pub whole_text : is_whole (delimiter_of xs) xs ≡ true → requoted_default xs ≡ single_quoted (take (length xs - n - n) (drop n xs))
  unfolding requoted_default requoted_by is_whole
  whole_text h =
      let m = length (delimiter_of xs) in
      let k : length (drop m xs) - m ≡ length xs - m - m = omega (arith, length-drop m xs) in
      rw (h, d, k) refl

  pub other_text : is_whole (delimiter_of xs) xs ≡ false → requoted_default xs ≡ xs
  unfolding requoted_default requoted_by is_whole
  other_text h = rw h refl

module _ (xs : List ℕ) where
  abbrev delimiter : ℕ
  delimiter = length (delimiter_of xs)

  abbrev inside : List ℕ
  inside = take (length xs - delimiter - delimiter) (drop delimiter xs)

  -- what the code answers, by its test
  pub inside_by : (n : ℕ) (b : Bool) (r : Option (Bor (List ℕ))) → n ≡ delimiter → b ≡ is_whole (delimiter_of xs) xs → is_some r ≡ b → IfSome r (λ v. v.now ≡ take (length xs - n - n) (drop n xs))
      → option_copied r ≡ inside_of xs
  unfolding inside_of
  inside_by n b (Some v) d p e s = rw (sym p, sym e) (ap Some (s ∙ rw d refl))
  inside_by n b None d p e s = rw (sym p, sym e) refl

  -- the same by what stands inside
  module _ (ys : List ℕ) (e : Some ys ≡ inside_of xs) where
    pub inside_text : requoted_default xs ≡ single_quoted ys
    unfolding inside_of
    inside_text =
        let k = cond_some (is_whole (delimiter_of xs) xs) inside ys (sym e) in
        whole_text xs delimiter refl k.0 ∙ ap single_quoted k.1

    pub inside_le : length ys ≤ length xs
    unfolding inside_of
    inside_le =
        let k = cond_some (is_whole (delimiter_of xs) xs) inside ys (sym e) in
        omega (arith, ap length (sym k.1), length-take (length xs - delimiter - delimiter) (drop delimiter xs), length-drop delimiter xs)

  pub inside_none : None ≡ inside_of xs → requoted_default xs ≡ xs
  unfolding inside_of
  inside_none e =
      by (is_whole (delimiter_of xs) xs)
      (λ p. absurd (none-some inside (e ∙ rw p refl)))
      (λ p. other_text xs delimiter refl p)
