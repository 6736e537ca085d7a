-- The section between DECLARE and BEGIN, and the body. Assumes nothing.
use Rattle.std.specs.Prelude.{Option, Some, None}
use Rattle.std.specs.Option.{unwrap_or}
use Rattle.std.proofs.lemmas.Bool.{cond_both}
use mathlib.Core.Path.{◌≡◌, refl, sym, ◌∙◌}
use mathlib.Core.List.{List, []}
use Prim.Native.Nat.{ℕ, ◌+◌, ◌-◌, ◌≤◌, ◌<◌, zero-le, min}
use native.Mathlib.Omega.{arith}
use borrow.Author.Tests.{ltb-true, ltb-false, lt-ltb, le-ltb}
use lib.Dec.{ltb}
use lib.ListN.{length, take, drop}
use Rattle.spec.proofs.Choice.{by}
use Rattle.spec.proofs.WalkLaws.{first_within}
use Rattle.spec.specs.Bytes.{ascii}
use Rattle.spec.specs.Map.{Marked, marked_text}
use Rattle.spec.specs.Search.{first, keyword_here}
use Rattle.spec.specs.Declarations.{declare_section, records_of, body_from}
use Rattle.declared_parts.proofs.BetweenLaws.{between_none}
use Rattle.runs.specs.Places.{place_between}
use Rattle.runs.specs.declared.Place.{Place}
use Rattle.declarations.specs.SectionRecords.{records_of_section, records_in, declare_end, section_of, SectionIn}

-- the records of a text by its own map
pub records_in_lem : (xs : List ℕ) → records_in (marked_text xs) ≡ records_of xs
unfolding records_in records_of_section records_of
records_in_lem xs = refl

abbrev declare_at : List Marked → Option ℕ
declare_at t = first (keyword_here (ascii "DECLARE")) 0 t

abbrev begin_at : List Marked → Option ℕ
begin_at t = first (keyword_here (ascii "BEGIN")) 0 t

pub declare_end_lem : (t : List Marked) (f : Option ℕ) → f ≡ declare_at t → declare_end f ≤ length t + 7
declare_end_lem t (Some d) e = omega (arith, (first_within (keyword_here (ascii "DECLARE")) t 0 d (sym e)).1)
declare_end_lem t None e = zero-le

-- past the largest number nothing begins, so the sum may stop there
pub between_stopped : (d b m : ℕ) → m ≡ min (d + 7) 18446744073709551615 → b < 18446744073709551616 → place_between m b ≡ place_between (d + 7) b
unfolding place_between
between_stopped d b m e h =
    by (ltb (d + 7) b)
    (λ q. let k : m ≡ d + 7 = omega (arith, ltb-true (d + 7) b q) in rw k refl)
    (λ q. rw (q, le-ltb m b (omega (arith, ltb-false (d + 7) b q))) refl)

-- the section, empty if there is none
abbrev pub section_place : Option ℕ → Option ℕ → Place
section_place f g = unwrap_or (section_of f g) (record { at = 0; len = 0 })

-- the part that is cut out
cut : (t : List Marked) (f g : Option ℕ) → take (section_place f g).len (drop (section_place f g).at t) ≡ declare_section f g t
unfolding declare_section place_between
cut t (Some d) (Some b) =
    by (ltb (d + 7) b)
    (λ e. rw (e, lt-ltb d b (omega (arith, ltb-true (d + 7) b e))) refl)
    (λ e. rw e
    (cond_both (ltb d b) (take (b - (d + 7)) (drop (d + 7) t)) [] (λ l. [] ≡ l)
    (λ _. sym (between_none t (d + 7) b (ltb-false (d + 7) b e))) (λ _. refl)))
cut t (Some d) None = refl
cut t None (Some b) = refl
cut t None None = refl

pub section_in : (t : List Marked) (f g : Option ℕ) → f ≡ declare_at t → g ≡ begin_at t → SectionIn t (section_place f g)
unfolding records_in place_between
section_in t f g p q =
    record {
      within = within g (λ b e. (first_within (keyword_here (ascii "BEGIN")) t 0 b (sym q ∙ e)).1) f;
      found = cut t f g ∙ rw (p, q) refl;
    }
  where
    within : (g : Option ℕ) → ((b : ℕ) → g ≡ Some b → b < length t) → (f : Option ℕ) → (section_place f g).at + (section_place f g).len ≤ length t
    within (Some b) h (Some d) = by (ltb (d + 7) b) (λ e. rw e (omega (arith, h b refl, ltb-true (d + 7) b e))) (λ e. rw e (omega arith))
    within None h (Some d) = omega arith
    within g h None = omega arith

-- ---- the body

pub body_found : (xs : List ℕ) (o : Option ℕ) → drop (unwrap_or o 0) xs ≡ body_from o xs
unfolding body_from
body_found xs (Some b) = refl
body_found xs None = refl

pub body_within : (t : List Marked) (o : Option ℕ) → o ≡ begin_at t → unwrap_or o 0 ≤ length t
body_within t (Some b) e = omega (arith, (first_within (keyword_here (ascii "BEGIN")) t 0 b (sym e)).1)
body_within t None e = zero-le
