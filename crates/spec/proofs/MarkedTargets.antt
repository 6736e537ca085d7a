-- The third kind of qualified target: the walk over the marking words finds the leftmost one just past a word where no CASE
-- is open, and none exactly if there is none. Assumes nothing.
use Rattle.std.specs.Prelude.{Option, Some, None}
use Rattle.std.proofs.lemmas.List.{drop_more}
use mathlib.Core.Path.{◌≡◌, refl, sym, ap, ◌∙◌}
use mathlib.Core.List.{List, ◌∷◌, reverse}
use mathlib.Core.Logic.{◌↔◌}
use Prim.Native.Nat.{ℕ, ◌+◌, ◌≤◌, ◌<◌}
use native.Mathlib.Numerals.{add-one}
use native.Mathlib.Omega.{arith}
use borrow.Author.Tests.{eqb-true, eqb-false}
use lib.Dec.{eqb}
use lib.ListN.{length, take, drop, get_or, drop_of_length-le}
use lib.Seq.{drop-drop}
use Rattle.spec.proofs.Apart.{apart}
use Rattle.spec.proofs.Choice.{by}
use Rattle.spec.proofs.EqualsTargets.{NoRunOver, equals_target_exactly}
use Rattle.spec.proofs.FirstTarget.{Exactly, walk_exactly, walk_none}
use Rattle.spec.proofs.MarkingWords.{marking, IsMarking, case, end, opening, one_marking, not_both, case_other, end_other}
use Rattle.spec.proofs.MarkingWords.{met, Met, word, nothing, met_here, cases, open_cases, open_same}
use Rattle.spec.proofs.RefusalBounds.{bytes_length}
use Rattle.spec.proofs.ByteSets.{not_word}
use Rattle.spec.proofs.RunPlaces.{flags_length}
use Rattle.spec.proofs.TargetPlaces.{flags, byte_at, StandsAt, OpensStatement, IsMarkedTarget, FirstFrom, NoPlace}
use Rattle.spec.proofs.WalkLaws.{back_step, live_inside}
use Rattle.spec.specs.Map.{Marked, live, byte, front_byte}
use Rattle.spec.specs.declared.Mark.TheVariants as mark
use Rattle.spec.specs.Assignments.{Target, or_else, Marking, markings, marking_here}
use Rattle.spec.specs.Assignments.{cases_behind, target_past, target_behind, marked_target}

-- ---- the target just past a word

-- behind a keyword no run of identifier bytes goes on
word_edge : (t : List Marked) (w : List ℕ) (k : ℕ) → StandsAt w t k → NoRunOver t (k + length w)
word_edge t w k s z h = not_word (byte_at t (k + length w)) s.behind

-- what is found at k
abbrev marked_at : List Marked → ℕ → Option Target
marked_at t k = target_behind (met t k) (cases t k) (drop k t)

module _ (t : List Marked) (k : ℕ) where
  -- behind CASE and END there is none
  not_opening : (m : Marking) → IsMarking m → StandsAt m.word t k → (m.mark ≡ mark.OpensStatement → ⊥)
      → (r : Target) → IsMarkedTarget t k r → ⊥
  not_opening m a s d r p = not_both t k m (marking p.word mark.OpensStatement) a (opening p.opens) d s p.stands

  -- behind the others, where none is open
  past : (w : List ℕ) → OpensStatement w → StandsAt w t k
      → Exactly (target_past mark.OpensStatement (length w) (cases t k) (drop k t)) (IsMarkedTarget t k)
  unfolding target_past
  past w a s r =
      let x = equals_target_exactly t (k + length w) (word_edge t w k s) r in
      let m = marking w mark.OpensStatement in
      rw (drop-drop (length w) k t)
      (by (eqb (cases t k) 0)
      (λ e.
      let c = eqb-true (cases t k) 0 e in
      rw e (
        (λ h. record { word = w; opens = a; stands = s; no_case = rw c at (open_cases t k); target = x.0 h }),
        (λ p.
            let n = marking p.word mark.OpensStatement in
            let same : p.word ≡ w = ap (λ (y : Marking). y.word) (one_marking t k n m (opening p.opens) (opening a) p.stands s) in
            x.1 (rw same at p.target)),
      ))
      (λ e.
      rw e (
        (λ h. absurd (apart (cc))),
        (λ p. absurd (eqb-false (cases t k) 0 e (sym (open_same t p.no_case)))),
      )))

  marked_exactly : Exactly (marked_at t k) (IsMarkedTarget t k)
  unfolding target_behind target_past
  marked_exactly r = go (met t k) (met_here t k)
    where
      never : {A : Type 0} → None ≡ Some r → A
      never h = absurd (apart (cc))

      behind : (m : Marking) → IsMarking m → StandsAt m.word t k
          → (target_past m.mark (length m.word) (cases t k) (drop k t) ≡ Some r) ↔ IsMarkedTarget t k r
      behind _ case s = (never, (λ p. absurd (not_opening _ case s case_other r p)))
      behind _ end s = (never, (λ p. absurd (not_opening _ end s end_other r p)))
      behind _ (opening {w = w} a) s = past w a s r

      go : (o : Option Marking) → Met t k o → (target_behind o (cases t k) (drop k t) ≡ Some r) ↔ IsMarkedTarget t k r
      go _ (word m a s) = behind m a s
      go _ (nothing f) = (never, (λ p. absurd (f (marking p.word mark.OpensStatement) (opening p.opens) p.stands)))

-- ---- the walk

walk_front : (d p : ℕ) (u v : List Marked) (x : Marked) → u ≡ x ∷ v
    → marked_target d p u
    ≡ or_else (target_behind (marking_here markings p u) d u) (marked_target (cases_behind (marking_here markings p u) d) (byte x) v)
unfolding marked_target
walk_front d p u v x e = rw e refl

module _ (t : List Marked) where
  walk : ℕ → Option Target
  walk k = marked_target (cases t k) (front_byte (reverse (take k t))) (drop k t)

  walk_end : (k : ℕ) → length t ≤ k → walk k ≡ None
  unfolding walk marked_target
  walk_end k h = rw (drop_of_length-le t h) refl

  walk_step : (k : ℕ) → k < length t → walk k ≡ or_else (marked_at t k) (walk (k + 1))
  unfolding walk met cases front_byte
  walk_step k h =
      let x = get_or t k (live 0) in
      walk_front (cases t k) (front_byte (reverse (take k t))) (drop k t) (drop (k + 1) t) x (drop_more t k (live 0) h)
      ∙ rw (back_step t k (live 0) h, add-one k) refl

  inside : (k : ℕ) (r : Target) → IsMarkedTarget t k r → k < length t
  inside k r p = omega (arith, live_inside (flags t) k p.stands.is_live_lem, flags_length t, bytes_length t)

  -- r is found exactly if it stands just past the first such word
  pub marked_target_exactly : Exactly (marked_target 0 0 t) (FirstFrom (IsMarkedTarget t) 0)
  unfolding walk cases front_byte
  marked_target_exactly =
      walk_exactly (IsMarkedTarget t) (marked_at t) walk (length t) walk_end walk_step (λ k h. marked_exactly t k) inside 0

  -- none is found exactly if no such place exists
  pub marked_target_none : (marked_target 0 0 t ≡ None) ↔ NoPlace (IsMarkedTarget t)
  unfolding walk cases front_byte
  marked_target_none =
      walk_none (IsMarkedTarget t) (marked_at t) walk (length t) walk_end walk_step (λ k h. marked_exactly t k) inside
