-- The second kind of qualified target: `q.n` and a lone `=` from an offset on are found exactly if they stand there.
-- Assumes nothing.
use Rattle.std.specs.Prelude.{Some, None}
use mathlib.Core.Path.{◌≡◌, refl, sym, ap, ◌∙◌}
use mathlib.Core.Bool.{Bool, true, false, cond, not, ◌&&◌, ◌||◌, false≢true}
use mathlib.Core.List.{List}
use mathlib.Core.Logic.{◌↔◌}
use Prim.Native.Nat.{ℕ, ◌+◌, ◌-◌, ◌<◌}
use native.Mathlib.Omega.{arith}
use borrow.Author.Tests.{eqb-true, eqb-false, eq-eqb, ne_eqb, not-true}
use lib.Dec.{eqb}
use lib.ListN.{drop, get_or}
use lib.Seq.{drop-drop}
use Rattle.std.proofs.lemmas.Bool.{and_parts, or_parts}
use Rattle.spec.proofs.Choice.{by}
use Rattle.spec.proofs.FirstTarget.{Exactly, choice_exactly, none_exactly}
use Rattle.spec.proofs.ListLaws.{empty_length}
use Rattle.spec.proofs.RunPlaces.{byte_ahead, byte_inside, Ahead, end_from, ahead, end_same}
use Rattle.spec.proofs.ByteSets.{sign_not_ident, sign_not_w, ident_not_w, w_not_ident, n_w, not_n}
use Rattle.spec.proofs.TargetPlaces.{byte_at, IsLoneEqualsAt, IsEqualsTarget}
use Rattle.spec.specs.Parts.{part}
use Rattle.spec.specs.Bytes.{is_ident, is_n}
use Rattle.spec.specs.Lists.{take_while}
use Rattle.spec.specs.Map.{Marked, bytes, of_byte}
use Rattle.spec.specs.Assignments.{Target, lone_equals, equals_target}

-- ---- the operator

lone_at : (t : List Marked) (i : ℕ)
    → lone_equals (drop i t) ≡ (eqb (byte_at t i) 61 && not (eqb (byte_at t (i + 1)) 61 || eqb (byte_at t (i + 1)) 62))
unfolding lone_equals
lone_at t i = rw (drop-drop 1 i t, byte_ahead t i, byte_ahead t (i + 1)) refl

-- the same by the bytes of the text
pub lone_bytes : (xs : List ℕ) (t : List Marked) → bytes t ≡ xs → (i : ℕ)
    → lone_equals (drop i t) ≡ (eqb (get_or xs i 0) 61 && not (eqb (get_or xs (i + 1) 0) 61 || eqb (get_or xs (i + 1) 0) 62))
lone_bytes xs t e i = let v = lone_at t i in rw e at v

-- the test of a lone `=` passes exactly there
pub lone_says : (t : List Marked) (i : ℕ) → (lone_equals (drop i t) ≡ true) ↔ IsLoneEqualsAt t i
lone_says t i = (sound, complete)
  where
    one : Bool
    one = eqb (byte_at t i) 61

    double : Bool
    double = eqb (byte_at t (i + 1)) 61

    arrow : Bool
    arrow = eqb (byte_at t (i + 1)) 62

    sound : lone_equals (drop i t) ≡ true → IsLoneEqualsAt t i
    sound h =
        let e = sym (lone_at t i) ∙ h in
        let n = not-true (double || arrow) ((and_parts one (not (double || arrow)) e).1) in
        record {
          equals = eqb-true (byte_at t i) 61 ((and_parts one (not (double || arrow)) e).0);
          not_double = eqb-false (byte_at t (i + 1)) 61 ((or_parts double arrow n).0);
          not_arrow = eqb-false (byte_at t (i + 1)) 62 ((or_parts double arrow n).1);
        }

    complete : IsLoneEqualsAt t i → lone_equals (drop i t) ≡ true
    complete r =
        let c = byte_at t (i + 1) in
        lone_at t i ∙ rw (eq-eqb (byte_at t i) 61 r.equals, ne_eqb c 61 r.not_double, ne_eqb c 62 r.not_arrow) refl

-- ---- the name ahead of it

-- no run of identifier bytes goes over an offset
abbrev pub NoRunOver : List Marked → ℕ → Type 0
NoRunOver t i = 0 < i → is_ident (byte_at t (i - 1)) ≡ true → is_ident (byte_at t i) ≡ false

-- N from `from` on ends at a, a run of identifier bytes from a on at d, one from behind d on at e, and N from e on at i
module _ (t : List Marked) (from a d e i : ℕ) (w : Ahead is_n t from a) (q : Ahead is_ident t a d)
    (n : Ahead is_ident t (d + 1) e) (v : Ahead is_n t e i) where
  abbrev found : Target
  found = record { qualifier = part a d t; name = part (d + 1) e t }

  abbrev test : Bool
  test = not (eqb (d - a) 0) && (eqb (byte_at t d) 46 && (not (eqb (e - (d + 1)) 0) && lone_equals (drop i t)))

  pub equals_value : equals_target (drop from t) ≡ cond test (Some found) None
  unfolding equals_target
  equals_value =
      rw (
        w.rest,
        empty_length (take_while (of_byte is_ident) (drop a t)),
        q.long,
        q.front,
        q.rest,
        byte_ahead t d,
        drop-drop 1 d t,
        empty_length (take_while (of_byte is_ident) (drop (d + 1) t)),
        n.long,
        n.front,
        n.rest,
        v.rest,
      )
      refl

  module _ (edge : NoRunOver t from) where
    -- the qualifier is whole on its left too
    left_edge : is_ident (byte_at t a) ≡ true → 0 < a → is_ident (byte_at t (a - 1)) ≡ false
    left_edge h z =
        by (eqb a from)
        (λ p.
        let s = eqb-true a from p in
        by (is_ident (byte_at t (a - 1)))
        (λ k. absurd (false≢true (sym (edge (omega arith) (rw s at k)) ∙ rw s at h)))
        (λ k. k))
        (λ p. w_not_ident (byte_at t (a - 1)) (n_w (byte_at t (a - 1)) (w.all (a - 1) (omega (arith, w.from, eqb-false a from p)) (omega arith))))

    sound : (r : Target) → (test ≡ true) × (r ≡ found) → IsEqualsTarget t from r
    sound r (h, g) =
        let one = not (eqb (d - a) 0) in
        let two = eqb (byte_at t d) 46 in
        let three = not (eqb (e - (d + 1)) 0) in
        let four = lone_equals (drop i t) in
        let some_qualifier = eqb-false (d - a) 0 (not-true (eqb (d - a) 0) ((and_parts one (two && (three && four)) h).0)) in
        let behind_one = (and_parts one (two && (three && four)) h).1 in
        let is_dot = eqb-true (byte_at t d) 46 ((and_parts two (three && four) behind_one).0) in
        let behind_two = (and_parts two (three && four) behind_one).1 in
        let some_name = eqb-false (e - (d + 1)) 0 (not-true (eqb (e - (d + 1)) 0) ((and_parts three four behind_two).0)) in
        let lone = (lone_says t i).0 ((and_parts three four behind_two).1) in
        let dot_inside = byte_inside t d (omega (arith, is_dot)) in
        let longer : a < d = omega (arith, some_qualifier) in
        record {
          start = a;
          dot = d;
          stop = e;
          place = i;
          ahead = record { order = w.from; all = w.all };
          named =
              record {
                qualifier =
                    record {
                      nonempty = longer;
                      fits = omega arith;
                      all = q.all;
                      before = left_edge (q.all a (omega arith) longer);
                      behind = λ _. ap is_ident is_dot ∙ sign_not_ident 46 refl;
                    };
                dot = is_dot;
                name =
                    record {
                      nonempty = omega (arith, some_name);
                      fits = n.fits (omega arith);
                      all = n.all;
                      before = λ _.
                          let k : d + 1 - 1 ≡ d = omega arith in
                          ap (λ (j : ℕ). is_ident (byte_at t j)) k ∙ (ap is_ident is_dot ∙ sign_not_ident 46 refl);
                      behind = n.stops;
                    };
                target = g;
              };
          between = record { order = v.from; all = v.all };
          operator = lone;
        }

    complete : (r : Target) → IsEqualsTarget t from r → (test ≡ true) × (r ≡ found)
    complete r p =
        let c = p.named.qualifier in
        let b = p.named.name in
        let first = not_n (byte_at t p.start) (ident_not_w (byte_at t p.start) (c.all p.start (omega arith) c.nonempty)) in
        let front : a ≡ p.start =
        end_same is_n t from a p.start w p.ahead.order (omega (arith, c.nonempty, c.fits)) p.ahead.all
        (λ _. first) in
        let dot : d ≡ p.dot =
        end_same is_ident t a d p.dot q (omega (arith, c.nonempty)) c.fits (λ k x y. c.all k (omega arith) y) c.behind in
        let stop : e ≡ p.stop =
        end_same is_ident t (d + 1) e p.stop n (omega (arith, b.nonempty)) b.fits
        (λ k x y. b.all k (omega arith) y) b.behind in
        let inside = byte_inside t p.place (omega (arith, p.operator.equals)) in
        let place : i ≡ p.place =
        end_same is_n t e i p.place v (omega (arith, p.between.order)) (omega arith) (λ k x y. p.between.all k (omega arith) y)
        (λ _. ap is_n p.operator.equals ∙ not_n 61 (sign_not_w 61 refl)) in
        let some_qualifier = ne_eqb (d - a) 0 (λ z. omega (arith, c.nonempty)) in
        let is_dot = eq-eqb (byte_at t d) 46 (ap (λ (j : ℕ). byte_at t j) dot ∙ p.named.dot) in
        let some_name = ne_eqb (e - (d + 1)) 0 (λ z. omega (arith, b.nonempty)) in
        let lone = ap (λ (j : ℕ). lone_equals (drop j t)) place ∙ (lone_says t p.place).1 p.operator in
        (rw (some_qualifier, is_dot, some_name, lone) refl, rw (front, dot, stop) p.named.target)

    at_offsets : Exactly (equals_target (drop from t)) (IsEqualsTarget t from)
    at_offsets r =
        let x = choice_exactly test found r in
        ((λ h. sound r (x.0 (sym equals_value ∙ h))), (λ p. equals_value ∙ x.1 (complete r p)))

module _ (t : List Marked) (from : ℕ) (edge : NoRunOver t from) where
  -- r is found exactly if it stands there with a lone `=` behind it
  pub equals_target_exactly : Exactly (equals_target (drop from t)) (IsEqualsTarget t from)
  equals_target_exactly =
      let a = end_from (of_byte is_n) t from in
      let d = end_from (of_byte is_ident) t a in
      let e = end_from (of_byte is_ident) t (d + 1) in
      let i = end_from (of_byte is_n) t e in
      at_offsets t from a d e i (ahead is_n t from) (ahead is_ident t a) (ahead is_ident t (d + 1)) (ahead is_n t e) edge

  -- none is found exactly if none stands there
  pub equals_target_none : (equals_target (drop from t) ≡ None) ↔ ((r : Target) → IsEqualsTarget t from r → ⊥)
  equals_target_none = none_exactly equals_target_exactly

-- a statement's front is such an offset
pub front_edge : (t : List Marked) → NoRunOver t 0
front_edge t z h = absurd (omega arith)
