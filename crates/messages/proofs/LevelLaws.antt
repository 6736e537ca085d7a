-- The level in front, by a search in a table of words. Assumes nothing.
use Rattle.std.specs.Prelude.{Option, option_map}
use Rattle.std.specs.Borrow.{Bor}
use Rattle.std.specs.List.{find}
use mathlib.Core.Path.{◌≡◌, refl, ap, ◌∙◌}
use mathlib.Core.Bool.{true, not}
use mathlib.Core.List.{List, [], ◌∷◌, map}
use Prim.Native.Nat.{ℕ, ◌≤◌, zero-le}
use native.Mathlib.Omega.{arith}
use borrow.Author.Tests.{not-true}
use lib.ListN.{length, drop}
use Rattle.std.proofs.lemmas.Bool.{and_parts}
use Rattle.spec.proofs.Choice.{by}
use Rattle.spec.proofs.MapLaws.{text_bytes}
use Rattle.spec.proofs.RefusalBounds.{bytes_length}
use Rattle.spec.proofs.WalkLaws.{starts_case, starts_length}
use Rattle.spec.specs.Bytes.{ascii, upper, prefix_by}
use Rattle.spec.specs.Lists.{all}
use Rattle.spec.specs.Map.{Marked, bytes, marked_text}
use Rattle.spec.specs.Search.{starts_ignoring_case}
use Rattle.spec.specs.Raise.{LevelWord, level_words, level_in, is_exception}
use Rattle.spec.specs.declared.Level.{Level}
use Rattle.messages.specs.Readings.{level_reach}

-- an entry of the table, and the level of one that is lent
abbrev pub word_of : Bor (List ℕ) × Level → LevelWord
word_of p = record { word = p.0.now; level = p.1 }

abbrev pub level_of : Option (Bor (Bor (List ℕ) × Level)) → Option Level
level_of r = option_map (λ p. p.1) (option_map (λ y. y.now) r)

module _ (xs : List ℕ) (t : List Marked) (h : bytes t ≡ xs) where
  words_in : (table : List (Bor (List ℕ) × Level)) → option_map (λ p. p.1) (find (λ p. prefix_by upper p.0.now xs) table) ≡ level_in (map word_of table) t
  unfolding level_in
  words_in [] = refl
  words_in (p ∷ table) =
      let s : starts_ignoring_case p.0.now t ≡ prefix_by upper p.0.now xs = starts_case p.0.now t ∙ ap (prefix_by upper p.0.now) h in
      by (prefix_by upper p.0.now xs) (λ q. rw (s, q) refl) (λ q. rw (s, q) (words_in table))

  -- by what the search found
  pub level_found : (table : List (Bor (List ℕ) × Level)) (r : Option (Bor (Bor (List ℕ) × Level)))
      → map word_of table ≡ level_words → option_map (λ y. y.now) r ≡ find (λ p. prefix_by upper p.0.now xs) table → level_of r ≡ level_in level_words t
  level_found table r w e = ap (option_map (λ p. p.1)) e ∙ (words_in table ∙ ap (λ (ws : List LevelWord). level_in ws t) w)

-- ---- how far the level reaches

others_reach : (t : List Marked) (ws : List LevelWord) → all (λ w. not (is_exception w.level)) ws ≡ true → level_reach (level_in ws t) ≡ 0
unfolding level_in all
others_reach t [] h = refl
others_reach t (w ∷ ws) h =
    let other = not-true (is_exception w.level) ((and_parts (not (is_exception w.level)) (all (λ v. not (is_exception v.level)) ws) h).0) in
    by (starts_ignoring_case w.word t)
    (λ q. rw (q, other) refl)
    (λ q. rw q (others_reach t ws ((and_parts (not (is_exception w.level)) _ h).1)))

level_within : (t : List Marked) → level_reach (level_in level_words t) ≤ length t
unfolding level_in level_words all
level_within t =
    by (starts_ignoring_case (ascii "EXCEPTION") t)
    (λ q. rw q (starts_length (ascii "EXCEPTION") t q))
    (λ q.
    let others : level_reach (level_in (drop 1 level_words) t) ≡ 0 = others_reach t (drop 1 level_words) refl in
    rw (q, others) zero-le)

pub level_bound : (xs : List ℕ) (r : Option Level) → ((t : List Marked) → bytes t ≡ xs → r ≡ level_in level_words t) → level_reach r ≤ length xs
level_bound xs r h =
    let t = marked_text xs in
    let e = h t (text_bytes xs) in
    omega (arith, ap level_reach e, level_within t, ap length (text_bytes xs), bytes_length t)
