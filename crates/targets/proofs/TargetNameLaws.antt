-- A qualified name before an operator and ahead of a lone `=`, by the offsets of its parts. Assumes nothing.
use Rattle.std.specs.Prelude.{Option, Some, None}
use mathlib.Core.Path.{◌≡◌, refl, sym, ap, ◌∙◌}
use mathlib.Core.Bool.{true, false, cond, not, ◌&&◌}
use mathlib.Core.List.{List, reverse}
use Prim.Native.Nat.{ℕ, ◌+◌, ◌-◌, ◌≤◌, ◌<◌}
use native.Mathlib.Omega.{arith}
use borrow.Author.Tests.{eq-eqb, ne_eqb, ltb-true, ltb-false}
use lib.Dec.{eqb, ltb}
use lib.ListN.{length, take, drop, get_or}
use Rattle.spec.proofs.Apart.{apart}
use Rattle.spec.proofs.Choice.{by}
use Rattle.spec.proofs.SpanLaws.{seen}
use Rattle.spec.proofs.RefusalBounds.{bytes_length}
use Rattle.spec.specs.Bytes.{is_ident, is_w, is_n}
use Rattle.spec.specs.Map.{Marked, bytes, front_byte}
use Rattle.spec.specs.Assignments.{Target, or_else, target_before, lone_equals, equals_target}
use Rattle.spec.proofs.AssignTargets.{before_value}
use Rattle.spec.proofs.EqualsTargets.{equals_value}
use Rattle.spec.proofs.RunPlaces.{end_from, start_from, byte_behind, ahead_at, behind_at}
use Rattle.runs.specs.Sets.{in_set}
use Rattle.runs.specs.declared.Set.TheVariants.{W, N, Ident}
use Rattle.runs.specs.Places.{place_between}
use Rattle.runs.specs.declared.Place.{Place}
use Rattle.targets.specs.Tells.{target_in, Tells}
use Rattle.targets.specs.declared.TargetPlaces.{TargetPlaces}

-- ---- the bytes between two offsets

-- a target by its offsets and lengths
abbrev places : ℕ → ℕ → ℕ → ℕ → TargetPlaces
places a k b n =
    record { qualifier = record { at = a; len = k }; name = record { at = b; len = n } }

between_none : (a b : ℕ) → None ≡ place_between a b → b ≤ a
unfolding place_between
between_none a b e =
    by (ltb a b) (λ q. let f = rw q at e in absurd (apart (cc))) (λ q. ltb-false a b q)

between_some : (a b : ℕ) (p : Place) → Some p ≡ place_between a b → (a < b) × (p ≡ record { at = a; len = b - a })
unfolding place_between
between_some a b p e =
    by (ltb a b) (λ q. (ltb-true a b q, let f = rw q at e in cc)) (λ q. let f = rw q at e in absurd (apart (cc)))

-- ---- one check, then another

-- what the first finds counts, and where it finds nothing the second counts
module _ (t : List Marked) (o more : Option Target) where
  pub tells_some : (p : TargetPlaces) → Tells t o (Some p) → Tells t (or_else o more) (Some p)
  unfolding or_else
  tells_some p w = record { target = ap (λ (o : Option Target). or_else o more) w.target; inside = w.inside }

  pub tells_next : Tells t o None → or_else o more ≡ more
  unfolding or_else
  tells_next w = ap (λ (o : Option Target). or_else o more) w.target

  pub tells_none : (r : Option TargetPlaces) → Tells t o None → Tells t more r → Tells t (or_else o more) r
  tells_none r w v = rw (tells_next w) v

-- no place tells that there is no target
pub tells_nothing : (t : List Marked) (o : Option Target) → o ≡ None → Tells t o None
tells_nothing t o e = record { target = e; inside = tt }

-- ---- a marked text t that has the bytes xs

module _ (xs : List ℕ) (t : List Marked) (e : bytes t ≡ xs) where
  same_length : length t ≡ length xs
  same_length = sym (bytes_length t) ∙ ap length e

  -- N from i on ends at a, the qualifier at b, the name behind the `.` at m, and N behind it at d
  equals_at : (i a b m d : ℕ) → a ≡ end_from is_n xs i → b ≡ end_from is_ident xs a → m ≡ end_from is_ident xs (b + 1) → d ≡ end_from is_n xs m
      → equals_target (drop i t)
      ≡ cond (not (eqb (b - a) 0) && (eqb (get_or xs b 0) 46 && (not (eqb (m - (b + 1)) 0) && lone_equals (drop d t))))
      (target_in t (Some (places a (b - a) (b + 1) (m - (b + 1))))) None
  equals_at i a b m d ha hb hm hd =
      let v = equals_value t i a b m d (ahead_at is_n t xs e i a ha) (ahead_at is_ident t xs e a b hb) (ahead_at is_ident t xs e (b + 1) m hm) (ahead_at is_n t xs e m d hd) in
      rw e at v

  -- W before i starts at m, the name before it at s, and the qualifier before the byte before the name at q
  before_at : (i m s q : ℕ) → i ≤ length xs → m ≡ start_from is_w xs i → s ≡ start_from is_ident xs m → q ≡ start_from is_ident xs (s - 1)
      → target_before (reverse (take i t))
      ≡ cond (not (eqb (m - s) 0) && (eqb (front_byte (reverse (take s t))) 46 && not (eqb (s - 1 - q) 0)))
      (target_in t (Some (places q (s - 1 - q) s (m - s)))) None
  before_at i m s q w hm hs hq =
      let white = behind_at is_w t xs e i m w hm in
      let name = behind_at is_ident t xs e m s (omega (arith, white.upto)) hs in
      before_value t i m s q (omega (arith, same_length)) white name
      (behind_at is_ident t xs e (s - 1) q (omega (arith, white.upto, name.upto)) hq)

-- ---- a lone `=` behind a name

module _ (xs : List ℕ) (i a b : ℕ) where
  pub equals_no_qualifier : None ≡ place_between a b → a ≡ end_from (in_set N) xs i → b ≡ end_from (in_set Ident) xs a → (t : List Marked) → bytes t ≡ xs → Tells t (equals_target (drop i t)) None
  equals_no_qualifier h ha hb t e =
      let l = between_none a b h in
      tells_nothing t _ (equals_at xs t e i a b _ _ ha hb refl refl ∙ simp (eq-eqb (b - a) 0 (omega arith)))

  module _ (q : Place) (h : Some q ≡ place_between a b) where
    pub equals_no_dot : (get_or xs b 0 ≡ 46 → ⊥) → a ≡ end_from (in_set N) xs i → b ≡ end_from (in_set Ident) xs a → (t : List Marked) → bytes t ≡ xs → Tells t (equals_target (drop i t)) None
    equals_no_dot p ha hb t e =
        let l = between_some a b q h in
        tells_nothing t _ (equals_at xs t e i a b _ _ ha hb refl refl ∙ simp (ne_eqb (b - a) 0 (omega arith), ne_eqb (get_or xs b 0) 46 p))

    module _ (p : get_or xs b 0 ≡ 46) (m : ℕ) where
      pub equals_no_name : None ≡ place_between (b + 1) m → a ≡ end_from (in_set N) xs i → b ≡ end_from (in_set Ident) xs a → m ≡ end_from (in_set Ident) xs (b + 1) → (t : List Marked) → bytes t ≡ xs → Tells t (equals_target (drop i t)) None
      equals_no_name k ha hb hm t e =
          let l = between_some a b q h in
          let g = between_none (b + 1) m k in
          tells_nothing t _
          (equals_at xs t e i a b m _ ha hb hm refl
          ∙ simp (ne_eqb (b - a) 0 (omega arith), eq-eqb (get_or xs b 0) 46 p, eq-eqb (m - (b + 1)) 0 (omega arith)))

      module _ (n : Place) (k : Some n ≡ place_between (b + 1) m) (d : ℕ) where
        signed : a ≡ end_from (in_set N) xs i → b ≡ end_from (in_set Ident) xs a → m ≡ end_from (in_set Ident) xs (b + 1) → d ≡ end_from (in_set N) xs m
            → (t : List Marked) → bytes t ≡ xs → equals_target (drop i t) ≡ cond (lone_equals (drop d t)) (target_in t (Some (record { qualifier = q; name = n }))) None
        signed ha hb hm hd t e =
            let l = between_some a b q h in
            let g = between_some (b + 1) m n k in
            equals_at xs t e i a b m d ha hb hm hd
            ∙ rw (l.1, g.1) (simp (ne_eqb (b - a) 0 (omega arith), eq-eqb (get_or xs b 0) 46 p, ne_eqb (m - (b + 1)) 0 (omega arith)))

        pub equals_no_sign : ((t : List Marked) → bytes t ≡ xs → false ≡ lone_equals (drop d t)) → a ≡ end_from (in_set N) xs i → b ≡ end_from (in_set Ident) xs a → m ≡ end_from (in_set Ident) xs (b + 1) → d ≡ end_from (in_set N) xs m
            → (t : List Marked) → bytes t ≡ xs → Tells t (equals_target (drop i t)) None
        equals_no_sign s ha hb hm hd t e = tells_nothing t _ (signed ha hb hm hd t e ∙ simp (sym (s t e)))

pub equals_found : (xs : List ℕ) (i a b m d : ℕ) (r : TargetPlaces) → Some r.qualifier ≡ place_between a b → get_or xs b 0 ≡ 46 → Some r.name ≡ place_between (b + 1) m
    → ((t : List Marked) → bytes t ≡ xs → true ≡ lone_equals (drop d t))
    → a ≡ end_from (in_set N) xs i → b ≡ end_from (in_set Ident) xs a → m ≡ end_from (in_set Ident) xs (b + 1) → d ≡ end_from (in_set N) xs m
    → (t : List Marked) → bytes t ≡ xs → Tells t (equals_target (drop i t)) (Some r)
equals_found xs i a b m d r h p k s ha hb hm hd t e =
    let l = between_some a b r.qualifier h in
    let g = between_some (b + 1) m r.name k in
    let f = (ahead_at is_ident t xs e (b + 1) m hm).fits (omega (arith, seen xs b 45 p, same_length xs t e)) in
    record {
      target = signed xs i a b r.qualifier h p m r.name k d ha hb hm hd t e ∙ simp (sym (s t e));
      inside = rw (l.1, g.1) (omega arith, omega arith);
    }

-- ---- a name before an operator

module _ (xs : List ℕ) (i m s : ℕ) where
  pub before_no_name : None ≡ place_between s m → i ≤ length xs → m ≡ start_from (in_set W) xs i → s ≡ start_from (in_set Ident) xs m → (t : List Marked) → bytes t ≡ xs → Tells t (target_before (reverse (take i t))) None
  before_no_name h w hm hs t e =
      let l = between_none s m h in
      tells_nothing t _ (before_at xs t e i m s _ w hm hs refl ∙ simp (eq-eqb (m - s) 0 (omega arith)))

  module _ (n : Place) (h : Some n ≡ place_between s m) where
    pub before_front : s ≡ 0 → i ≤ length xs → m ≡ start_from (in_set W) xs i → s ≡ start_from (in_set Ident) xs m → (t : List Marked) → bytes t ≡ xs → Tells t (target_before (reverse (take i t))) None
    unfolding front_byte
    before_front z w hm hs t e =
        let l = between_some s m n h in
        let f : front_byte (reverse (take s t)) ≡ 0 = rw z refl in
        tells_nothing t _ (before_at xs t e i m s _ w hm hs refl ∙ simp (ne_eqb (m - s) 0 (omega arith), f))

    -- the byte before the name stands at k
    module _ (k : ℕ) (g : s ≡ k + 1) where
      dot : i ≤ length xs → m ≡ start_from (in_set W) xs i → s ≡ start_from (in_set Ident) xs m → (t : List Marked) → bytes t ≡ xs → front_byte (reverse (take s t)) ≡ get_or xs k 0
      dot w hm hs t e =
          let white = behind_at is_w t xs e i m w hm in
          let name = behind_at is_ident t xs e m s (omega (arith, white.upto)) hs in
          let b = byte_behind t s (omega arith) (omega (arith, same_length xs t e, white.upto, name.upto)) in
          let j : s - 1 ≡ k = omega arith in
          rw (j, e) at b

      pub before_no_dot : (get_or xs k 0 ≡ 46 → ⊥) → i ≤ length xs → m ≡ start_from (in_set W) xs i → s ≡ start_from (in_set Ident) xs m → (t : List Marked) → bytes t ≡ xs → Tells t (target_before (reverse (take i t))) None
      before_no_dot p w hm hs t e =
          let l = between_some s m n h in
          tells_nothing t _ (before_at xs t e i m s _ w hm hs refl ∙ simp (ne_eqb (m - s) 0 (omega arith), dot w hm hs t e, ne_eqb (get_or xs k 0) 46 p))

      -- the qualifier starts at q
      module _ (p : get_or xs k 0 ≡ 46) (q : ℕ) where
        dotted : i ≤ length xs → m ≡ start_from (in_set W) xs i → s ≡ start_from (in_set Ident) xs m → q ≡ start_from (in_set Ident) xs k
            → (t : List Marked) → bytes t ≡ xs → target_before (reverse (take i t)) ≡ cond (not (eqb (k - q) 0)) (target_in t (Some (places q (k - q) s (m - s)))) None
        dotted w hm hs hq t e =
            let l = between_some s m n h in
            let j : s - 1 ≡ k = omega arith in
            let v = before_at xs t e i m s q w hm hs (rw j hq) in
            let d = rw j at v in
            d ∙ simp (ne_eqb (m - s) 0 (omega arith), dot w hm hs t e, eq-eqb (get_or xs k 0) 46 p)

        pub before_no_qualifier : None ≡ place_between q k → i ≤ length xs → m ≡ start_from (in_set W) xs i → s ≡ start_from (in_set Ident) xs m → q ≡ start_from (in_set Ident) xs k
            → (t : List Marked) → bytes t ≡ xs → Tells t (target_before (reverse (take i t))) None
        before_no_qualifier r w hm hs hq t e =
            let l = between_none q k r in
            tells_nothing t _ (dotted w hm hs hq t e ∙ simp (eq-eqb (k - q) 0 (omega arith)))

-- and a name there is
pub before_found : (xs : List ℕ) (i m s k q : ℕ) (r : TargetPlaces) → Some r.name ≡ place_between s m → s ≡ k + 1 → get_or xs k 0 ≡ 46 → Some r.qualifier ≡ place_between q k
    → i ≤ length xs → m ≡ start_from (in_set W) xs i → s ≡ start_from (in_set Ident) xs m → q ≡ start_from (in_set Ident) xs k
    → (t : List Marked) → bytes t ≡ xs → Tells t (target_before (reverse (take i t))) (Some r)
before_found xs i m s k q r h g p f w hm hs hq t e =
    let l = between_some q k r.qualifier f in
    let o = between_some s m r.name h in
    let white = behind_at is_w t xs e i m w hm in
    record {
      target = dotted xs i m s r.name h k g p q w hm hs hq t e ∙ rw (l.1, o.1) (simp (ne_eqb (k - q) 0 (omega arith)));
      inside = rw (l.1, o.1) (omega arith, omega (arith, same_length xs t e, white.upto));
    }
