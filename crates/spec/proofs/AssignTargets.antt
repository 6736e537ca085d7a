-- The first kind of qualified target: the walk for a live `:=` with `q.n` before it finds the leftmost such place, and none
-- exactly if there is none. Assumes nothing.
use Rattle.std.specs.Prelude.{Option, Some, None}
use Rattle.std.proofs.lemmas.Bool.{cond_both, and_from, and_parts}
use Rattle.std.proofs.lemmas.List.{drop_more}
use mathlib.Core.Path.{◌≡◌, refl, sym, ap, ◌∙◌}
use mathlib.Core.Bool.{Bool, true, false, cond, not, ◌&&◌, false≢true}
use mathlib.Core.List.{List, [], ◌∷◌, reverse}
use mathlib.Core.Logic.{◌↔◌}
use Prim.Native.Nat.{ℕ, zero, suc, ◌+◌, ◌-◌, ◌≤◌, ◌<◌}
use native.Mathlib.Omega.{arith}
use borrow.Author.Tests.{eqb-true, eqb-false, eq-eqb, ne_eqb, not-true}
use lib.Dec.{eqb}
use lib.ListN.{length, take, drop, get_or, drop_of_length-le}
use Rattle.spec.proofs.Apart.{apart}
use Rattle.spec.proofs.Choice.{by}
use Rattle.spec.proofs.FirstTarget.{Exactly, choice_exactly, walk_exactly, walk_none}
use Rattle.spec.proofs.ListLaws.{empty_length}
use Rattle.spec.proofs.RefusalBounds.{bytes_length}
use Rattle.spec.proofs.RunPlaces.{flags_length, marked_flags, byte_inside, byte_behind, back_rest, Behind, behind, start_same}
use Rattle.spec.proofs.ByteSets.{sign_not_ident, ident_not_w, w_not_ident}
use Rattle.spec.proofs.MatchLaws.{prefix_at, at_prefix}
use Rattle.spec.proofs.TargetPlaces.{flags, byte_at, IsRun, IsAssignAt, IsNameBefore, IsAssignTarget, FirstFrom, NoPlace}
use Rattle.spec.specs.Parts.{part}
use Rattle.spec.proofs.WalkLaws.{back_step, live_inside, needle_at}
use Rattle.spec.specs.Bytes.{ascii, is_ident, is_w, prefix_by}
use Rattle.spec.specs.Lists.{take_while}
use Rattle.spec.specs.Map.{Marked, live, bytes, front_byte, of_byte}
use Rattle.spec.specs.Search.{needle_here}
use Rattle.spec.specs.Assignments.{Target, or_else, assign_here, target_before, assign_target}

-- ---- the operator

-- the test of a live `:=` passes exactly there
pub assign_says : (t : List Marked) (i : ℕ) → (assign_here (reverse (take i t)) (drop i t) ≡ true) ↔ IsAssignAt t i
unfolding assign_here
assign_says t i = (sound, complete)
  where
    l : Bool
    l = eqb (get_or (flags t) i 1) 0

    m : Bool
    m = prefix_by (λ (b : ℕ). b) (ascii ":=") (drop i (bytes t))

    here : needle_here (ascii ":=") (reverse (take i t)) (drop i t) ≡ (l && m)
    here =
        ap (λ (u : List Marked). needle_here (ascii ":=") (reverse (take i u)) (drop i u)) (sym (marked_flags t))
        ∙ needle_at (ascii ":=") (bytes t) (flags t) (flags_length t) i

    sound : needle_here (ascii ":=") (reverse (take i t)) (drop i t) ≡ true → IsAssignAt t i
    sound h =
        let e = sym here ∙ h in
        let q = eqb-true (get_or (flags t) i 1) 0 ((and_parts l m e).0) in
        let h : i ≤ length (bytes t) = omega (arith, live_inside (flags t) i q, flags_length t) in
        let s = prefix_at (λ (b : ℕ). b) (ascii ":=") (bytes t) i h ((and_parts l m e).1) in
        let z : i ≡ i + 0 = omega arith in
        let colon = ap (λ (k : ℕ). byte_at t k) z ∙ s.same 0 (omega arith) in
        record { is_live_lem = q; colon = colon; equals = s.same 1 (omega arith) }

    same : IsAssignAt t i → (k : ℕ) → k < 2 → byte_at t (i + k) ≡ get_or (ascii ":=") k 0
    same r zero h = let z : i + 0 ≡ i = omega arith in ap (λ (k : ℕ). byte_at t k) z ∙ r.colon
    same r (suc zero) h = r.equals
    same r (suc (suc k)) h = absurd (omega arith)

    complete : IsAssignAt t i → needle_here (ascii ":=") (reverse (take i t)) (drop i t) ≡ true
    complete r =
        let n = byte_inside t (i + 1) (omega (arith, r.equals)) in
        here
        ∙ and_from l m (eq-eqb (get_or (flags t) i 1) 0 r.is_live_lem)
        (at_prefix (λ (b : ℕ). b) (ascii ":=") (bytes t) i (record { fits = omega (arith, bytes_length t); same = same r }))

-- ---- the name before it

-- W back from i starts at m, a run of identifier bytes back from m at s, and one back from the byte before s at a
module _ (t : List Marked) (i m s a : ℕ) (h : i ≤ length t) (w : Behind is_w t m i) (n : Behind is_ident t s m)
    (q : Behind is_ident t a (s - 1)) where
  abbrev found : Target
  found = record { qualifier = part a (s - 1) t; name = part s m t }

  abbrev test : Bool
  test = not (eqb (m - s) 0) && (eqb (front_byte (reverse (take s t))) 46 && not (eqb (s - 1 - a) 0))

  pub before_value : target_before (reverse (take i t)) ≡ cond test (Some found) None
  unfolding target_before
  before_value =
      rw (
        w.rest,
        empty_length (take_while (of_byte is_ident) (reverse (take m t))),
        n.long,
        n.front,
        n.rest,
        back_rest t s (omega (arith, w.upto, n.upto)),
        empty_length (take_while (of_byte is_ident) (reverse (take (s - 1) t))),
        q.long,
        q.front,
      )
      refl

  module _ (edge : is_ident (byte_at t i) ≡ false) where
    name_run : s < m → IsRun is_ident t s m
    name_run l =
        record {
          nonempty = l;
          fits = omega (arith, w.upto);
          all = n.all;
          before = n.stops;
          behind = λ _.
              by (eqb m i)
              (λ z. ap (λ (j : ℕ). is_ident (byte_at t j)) (eqb-true m i z) ∙ edge)
              (λ z. w_not_ident (byte_at t m) (w.all m (omega arith) (omega (arith, w.upto, eqb-false m i z))));
        }

    qualifier_run : a < s - 1 → byte_at t (s - 1) ≡ 46 → IsRun is_ident t a (s - 1)
    qualifier_run l d =
        record {
          nonempty = l;
          fits = omega (arith, w.upto, n.upto);
          all = q.all;
          before = q.stops;
          behind = λ _. ap is_ident d ∙ sign_not_ident 46 refl;
        }

    built : (r : Target) → s < m → a < s - 1 → byte_at t (s - 1) ≡ 46 → s - 1 + 1 ≡ s → r ≡ found → IsNameBefore t i r
    built r x y d k g =
        record {
          start = a;
          dot = s - 1;
          stop = m;
          named = record { qualifier = qualifier_run y d; dot = d; name = rw k (name_run x); target = rw k g };
          between = record { order = w.upto; all = w.all };
        }

    sound : (r : Target) → (test ≡ true) × (r ≡ found) → IsNameBefore t i r
    sound r (e, g) =
        let one = not (eqb (m - s) 0) in
        let two = eqb (front_byte (reverse (take s t))) 46 in
        let three = not (eqb (s - 1 - a) 0) in
        let rest = (and_parts one (two && three) e).1 in
        let some_name : s < m = omega (arith, eqb-false (m - s) 0 (not-true (eqb (m - s) 0) ((and_parts one (two && three) e).0))) in
        let some_qualifier : a < s - 1 = omega (arith, eqb-false (s - 1 - a) 0 (not-true (eqb (s - 1 - a) 0) ((and_parts two three rest).1))) in
        let front = byte_behind t s (omega arith) (omega (arith, w.upto, n.upto)) in
        let is_dot = sym front ∙ eqb-true (front_byte (reverse (take s t))) 46 ((and_parts two three rest).0) in
        built r some_name some_qualifier is_dot (omega arith) g

    complete : (r : Target) → IsNameBefore t i r → (test ≡ true) × (r ≡ found)
    complete r p =
        let d = p.named.name in
        let c = p.named.qualifier in
        let white : m ≡ p.stop =
        start_same is_w t i m p.stop w p.between.order p.between.all
        (λ z. ident_not_w (byte_at t (p.stop - 1)) (d.all (p.stop - 1) (omega (arith, d.nonempty)) (omega arith))) in
        let front : s ≡ p.dot + 1 =
        start_same is_ident t m s (p.dot + 1) n (omega (arith, d.nonempty)) (λ k x y. d.all k x (omega arith)) d.before in
        let back : a ≡ p.start =
        start_same is_ident t (s - 1) a p.start q (omega (arith, c.nonempty)) (λ k x y. c.all k x (omega arith)) c.before in
        let dot : s - 1 ≡ p.dot = omega arith in
        let before = byte_behind t s (omega arith) (omega (arith, w.upto, n.upto)) in
        let is_dot = before ∙ (ap (λ (j : ℕ). byte_at t j) dot ∙ p.named.dot) in
        let some_name = ne_eqb (m - s) 0 (λ z. omega (arith, d.nonempty)) in
        let some_qualifier = ne_eqb (s - 1 - a) 0 (λ z. omega (arith, c.nonempty)) in
        let dot_test = eq-eqb (front_byte (reverse (take s t))) 46 is_dot in
        (rw (some_name, dot_test, some_qualifier) refl, rw (dot, back, white, front) p.named.target)

    at_offsets : Exactly (target_before (reverse (take i t))) (IsNameBefore t i)
    at_offsets r =
        let x = choice_exactly test found r in
        ((λ e. sound r (x.0 (sym before_value ∙ e))), (λ p. before_value ∙ x.1 (complete r p)))

-- `q.n` before an offset whose byte is no identifier byte
before_exactly : (t : List Marked) (i : ℕ) → i ≤ length t → is_ident (byte_at t i) ≡ false
    → Exactly (target_before (reverse (take i t))) (IsNameBefore t i)
before_exactly t i h edge =
    let w = behind is_w t i h in
    let n = behind is_ident t w.0 (omega (arith, w.1.upto)) in
    let q = behind is_ident t (n.0 - 1) (omega (arith, w.1.upto, n.1.upto)) in
    at_offsets t i w.0 n.0 q.0 h w.1 n.1 q.1 edge

-- ---- the walk

-- what is found at i
abbrev assigned_at : List Marked → ℕ → Option Target
assigned_at t i = cond (assign_here (reverse (take i t)) (drop i t)) (target_before (reverse (take i t))) None

assigned_exactly : (t : List Marked) (i : ℕ) → i < length t → Exactly (assigned_at t i) (IsAssignTarget t i)
assigned_exactly t i h r =
    cond_both (assign_here (reverse (take i t)) (drop i t)) _ _ (λ (o : Option Target). (o ≡ Some r) ↔ IsAssignTarget t i r)
    (λ e.
    let c = (assign_says t i).0 e in
    let b = before_exactly t i (omega arith) (ap is_ident c.colon ∙ sign_not_ident 58 refl) r in
    ((λ s. record { operator = c; before = b.0 s }), (λ p. b.1 p.before)))
    (λ e. ((λ s. absurd (apart (cc))), (λ p. absurd (false≢true (sym e ∙ (assign_says t i).1 p.operator)))))

walk_front : (back u v : List Marked) (x : Marked) → u ≡ x ∷ v
    → assign_target back u ≡ or_else (cond (assign_here back u) (target_before back) None) (assign_target (x ∷ back) v)
unfolding assign_target or_else
walk_front back u v x e = rw e (by (assign_here back (x ∷ v)) (λ q. rw q refl) (λ q. rw q refl))

module _ (t : List Marked) where
  walk : ℕ → Option Target
  walk i = assign_target (reverse (take i t)) (drop i t)

  end : (i : ℕ) → length t ≤ i → walk i ≡ None
  unfolding walk assign_target
  end i h = rw (drop_of_length-le t h) refl

  step : (i : ℕ) → i < length t → walk i ≡ or_else (assigned_at t i) (walk (i + 1))
  unfolding walk
  step i h =
      walk_front (reverse (take i t)) (drop i t) (drop (i + 1) t) (get_or t i (live 0)) (drop_more t i (live 0) h)
      ∙ ap (λ (b : List Marked). or_else (assigned_at t i) (assign_target b (drop (i + 1) t))) (sym (back_step t i (live 0) h))

  inside : (i : ℕ) (r : Target) → IsAssignTarget t i r → i < length t
  inside i r p = byte_inside t i (omega (arith, p.operator.colon))

  -- r is found exactly if it stands before the first live `:=` with a `q.n` before it
  pub assign_target_exactly : Exactly (assign_target [] t) (FirstFrom (IsAssignTarget t) 0)
  unfolding walk
  assign_target_exactly = walk_exactly (IsAssignTarget t) (assigned_at t) walk (length t) end step (assigned_exactly t) inside 0

  -- none is found exactly if no such place exists
  pub assign_target_none : (assign_target [] t ≡ None) ↔ NoPlace (IsAssignTarget t)
  unfolding walk
  assign_target_none = walk_none (IsAssignTarget t) (assigned_at t) walk (length t) end step (assigned_exactly t) inside
