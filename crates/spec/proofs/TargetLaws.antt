-- The check of a statement gives document 01's target of it, and none exactly if it has none of the three kinds of place.
-- Assumes nothing.
use Rattle.std.specs.Prelude.{None}
use mathlib.Core.Path.{◌≡◌}
use mathlib.Core.List.{List, []}
use mathlib.Core.Logic.{◌↔◌, ◌⊎◌, inl, inr}
use Rattle.spec.proofs.AssignTargets.{assign_target_exactly, assign_target_none}
use Rattle.spec.proofs.EqualsTargets.{equals_target_exactly, equals_target_none, front_edge}
use Rattle.spec.proofs.FirstTarget.{Exactly, else_exactly, else_none}
use Rattle.spec.proofs.MarkedTargets.{marked_target_exactly, marked_target_none}
use Rattle.spec.proofs.TargetPlaces.{IsAssignTarget, IsEqualsTarget, IsMarkedTarget, FirstFrom}
use Rattle.spec.proofs.TargetPlaces.{IsTargetOf, assigned, at_front, past_word, HasNoTarget}
use Rattle.spec.specs.Map.{Marked}
use Rattle.spec.specs.Assignments.{Target, or_else, assign_target, equals_target, marked_target, statement_target}

module _ (t : List Marked) where
  -- at the front, or just past a word
  abbrev Later : Target → Type 0
  Later r = IsEqualsTarget t 0 r ⊎ ((equals_target t ≡ None) × FirstFrom (IsMarkedTarget t) 0 r)

  later : Exactly (or_else (equals_target t) (marked_target 0 0 t)) Later
  later = else_exactly (equals_target_exactly t 0 (front_edge t)) (marked_target_exactly t)

  -- the statement has the target r exactly if the definition gives r
  pub statement_target_exactly : Exactly (statement_target t) (IsTargetOf t)
  unfolding statement_target
  statement_target_exactly r =
      let x = else_exactly (assign_target_exactly t) later r in
      ((λ h. to (x.0 h)), (λ w. x.1 (from w)))
    where
      to : FirstFrom (IsAssignTarget t) 0 r ⊎ ((assign_target [] t ≡ None) × Later r) → IsTargetOf t r
      to (inl w) = assigned w
      to (inr (e, inl w)) = at_front ((assign_target_none t).0 e) w
      to (inr (e, inr (f, w))) = past_word ((assign_target_none t).0 e) ((equals_target_none t 0 (front_edge t)).0 f) w

      from : IsTargetOf t r → FirstFrom (IsAssignTarget t) 0 r ⊎ ((assign_target [] t ≡ None) × Later r)
      from (assigned w) = inl w
      from (at_front a w) = inr ((assign_target_none t).1 a, inl w)
      from (past_word a f w) = inr ((assign_target_none t).1 a, inr ((equals_target_none t 0 (front_edge t)).1 f, w))

  -- none exactly if none of the three kinds of place exists
  pub statement_target_none : (statement_target t ≡ None) ↔ HasNoTarget t
  unfolding statement_target
  statement_target_none =
      let rest = else_none (equals_target t) (marked_target 0 0 t) in
      let all = else_none (assign_target [] t) (or_else (equals_target t) (marked_target 0 0 t)) in
      let no_front = equals_target_none t 0 (front_edge t) in (
        (λ h.
            let a = all.0 h in
            let b = rest.0 a.1 in
            record {
              no_assign = (assign_target_none t).0 a.0;
              no_front = no_front.0 b.0;
              no_word = (marked_target_none t).0 b.1;
            }),
        (λ n.
            let b = rest.1 (no_front.1 n.no_front, (marked_target_none t).1 n.no_word) in
            all.1 ((assign_target_none t).1 n.no_assign, b)),
      )
