-- Note 2 in its own words: a default begins behind the leftmost default key of its part, and a part that has none has no
-- default. The test passes exactly where a predicate on offsets holds, so the search finds the leftmost. Assumes nothing.
use Rattle.std.specs.Prelude.{Option, Some, None}
use Rattle.std.proofs.lemmas.Bool.{and_from, and_parts, or_left, or_right}
use mathlib.Core.Path.{◌≡◌, refl, sym, ap, ◌∙◌}
use mathlib.Core.Bool.{Bool, true, false, not, ◌&&◌}
use mathlib.Core.List.{List, [], ◌∷◌, reverse}
use mathlib.Core.Logic.{◌↔◌}
use Prim.Native.Nat.{ℕ, zero, suc, ◌+◌, ◌-◌, ◌<◌}
use native.Mathlib.Omega.{arith}
use borrow.Author.Tests.{eqb-true, eqb-false, eq-eqb, ne_eqb, not-true}
use lib.Dec.{eqb}
use lib.ListN.{length, take, drop, get_or}
use Rattle.spec.proofs.Apart.{apart}
use Rattle.spec.proofs.AssignTargets.{assign_says}
use Rattle.spec.proofs.Choice.{made_some, or_cases}
use Rattle.spec.proofs.EqualsTargets.{lone_says}
use Rattle.spec.proofs.FirstLaws.{Says, found_least, least_found, found_none, none_found}
use Rattle.spec.proofs.MarkingWords.{word_says}
use Rattle.spec.proofs.RefusalBounds.{bytes_length}
use Rattle.spec.proofs.RunPlaces.{flags_length, marked_flags, byte_ahead, byte_behind, byte_inside}
use Rattle.spec.proofs.TargetPlaces.{flags, byte_at, IsLiveAt, IsAssignAt, IsLoneEqualsAt, StandsAt}
use Rattle.spec.proofs.WalkLaws.{passes_at, live_at, live_inside}
use Rattle.spec.specs.Bytes.{ascii, upper, is_lower, within}
use Rattle.spec.specs.Map.{Marked, bytes, front_byte, front_live}
use Rattle.spec.specs.Lists.{is_empty}
use Rattle.spec.specs.Parts.{trim}
use Rattle.spec.specs.Search.{first, keyword_here}
use Rattle.spec.specs.Assignments.{assign_here, lone_equals}
use Rattle.spec.specs.Declarations.{Declared, requoted_default, words, behind_constant, ahead_of_not_null, declared_of, is_lone, equals_here, default_here, key_length, part_at, declaration}

-- ---- the default key by offsets: predicates, which take no walk of the definitions

-- a live lone `=` at k: no `=` on either side and no `>` behind
pub record IsEqualsAt (t : List Marked) (k : ℕ) : Type 0 where
  pub is_live_lem : IsLiveAt t k
  pub operator : IsLoneEqualsAt t k
  pub not_before : 0 < k → byte_at t (k - 1) ≡ 61 → ⊥

-- a default key of n bytes at k, Note 2's sentence: a live `:=`, a live lone `=` or a live keyword DEFAULT
pub data IsDefaultKey (t : List Marked) (k : ℕ) : ℕ → Type 0 where
  assign : IsAssignAt t k → IsDefaultKey t k 2
  equals : IsEqualsAt t k → IsDefaultKey t k 1
  word : StandsAt (ascii "DEFAULT") t k → IsDefaultKey t k 7

-- the key of n bytes at i is leftmost: none of the three stands before it
pub record IsLeftmost (t : List Marked) (i n : ℕ) : Type 0 where
  pub key : IsDefaultKey t i n
  pub least : (k m : ℕ) → k < i → IsDefaultKey t k m → ⊥

-- none of the three stands anywhere
abbrev pub NoKey : List Marked → Type 0
NoKey t = (k m : ℕ) → IsDefaultKey t k m → ⊥

-- ---- the test passes exactly there

-- no `=` before j, at the front neither
before : (t : List Marked) (j : ℕ) → j < length t → (0 < j → byte_at t (j - 1) ≡ 61 → ⊥) → eqb (front_byte (reverse (take j t))) 61 ≡ false
unfolding front_byte
before t zero h q = refl
before t (suc j) h q = ne_eqb _ 61 (λ e. q (omega arith) (sym (byte_behind t (suc j) (omega arith) (omega arith)) ∙ e))

module _ (t : List Marked) (k : ℕ) where
  live_front : front_live (drop k t) ≡ eqb (get_or (flags t) k 1) 0
  live_front = ap (λ (u : List Marked). front_live (drop k u)) (sym (marked_flags t)) ∙ live_at (bytes t) (flags t) (flags_length t) k

  pub equals_says : (equals_here (reverse (take k t)) (drop k t) ≡ true) ↔ IsEqualsAt t k
  unfolding equals_here is_lone
  equals_says = (sound, complete)
    where
      l : Bool
      l = front_live (drop k t)

      m : Bool
      m = lone_equals (drop k t)

      p : ℕ
      p = front_byte (reverse (take k t))

      sound : (l && (m && not (eqb p 61))) ≡ true → IsEqualsAt t k
      sound h =
          let rest = (and_parts l (m && not (eqb p 61)) h).1 in
          let lone = (lone_says t k).0 ((and_parts m (not (eqb p 61)) rest).0) in
          let other = eqb-false p 61 (not-true (eqb p 61) ((and_parts m (not (eqb p 61)) rest).1)) in
          let inside = byte_inside t k (omega (arith, lone.equals)) in
          record {
            is_live_lem = eqb-true (get_or (flags t) k 1) 0 (sym live_front ∙ (and_parts l (m && not (eqb p 61)) h).0);
            operator = lone;
            not_before = λ z e. other (byte_behind t k z (omega arith) ∙ e);
          }

      complete : IsEqualsAt t k → (l && (m && not (eqb p 61))) ≡ true
      complete r =
          let inside = byte_inside t k (omega (arith, r.operator.equals)) in
          and_from l (m && not (eqb p 61)) (live_front ∙ eq-eqb (get_or (flags t) k 1) 0 r.is_live_lem)
          (and_from m (not (eqb p 61)) ((lone_says t k).1 r.operator) (ap not (before t k inside r.not_before)))

  pub key_sound : passes_at default_here t k ≡ true → (n : ℕ) × IsDefaultKey t k n
  unfolding default_here keyword_here
  key_sound h =
      or_cases (assign_here (reverse (take k t)) (drop k t)) _ h
      (λ e. (2, assign ((assign_says t k).0 e)))
      (λ q.
      or_cases (equals_here (reverse (take k t)) (drop k t)) _ q
      (λ e. (1, equals (equals_says.0 e)))
      (λ e. (7, word ((word_says t (ascii "DEFAULT") k).0 e))))

  pub key_complete : (n : ℕ) → IsDefaultKey t k n → passes_at default_here t k ≡ true
  unfolding default_here keyword_here
  key_complete _ (assign r) = or_left (assign_here (reverse (take k t)) (drop k t)) _ ((assign_says t k).1 r)
  key_complete _ (equals r) =
      or_right (assign_here (reverse (take k t)) (drop k t)) _
      (or_left (equals_here (reverse (take k t)) (drop k t)) _ (equals_says.1 r))
  key_complete _ (word r) =
      or_right (assign_here (reverse (take k t)) (drop k t)) _
      (or_right (equals_here (reverse (take k t)) (drop k t)) _ ((word_says t (ascii "DEFAULT") k).1 r))

  key_live : (n : ℕ) → IsDefaultKey t k n → IsLiveAt t k
  key_live _ (assign r) = r.is_live_lem
  key_live _ (equals r) = r.is_live_lem
  key_live _ (word r) = r.is_live_lem

  -- a byte that is D in capitals is neither `:` nor `=`
  not_sign : (b : ℕ) → upper (byte_at t k) ≡ upper 68 → upper b ≡ b → (b ≡ 68 → ⊥) → byte_at t k ≡ b → ⊥
  unfolding upper is_lower within
  not_sign b u s n e = n (sym s ∙ (ap upper (sym e) ∙ u))

  -- its length is told by its first byte
  pub key_length_lem : (n : ℕ) → IsDefaultKey t k n → key_length (drop k t) ≡ n
  unfolding key_length upper is_lower within
  key_length_lem _ (assign r) = rw (byte_ahead t k, r.colon) refl
  key_length_lem _ (equals r) = rw (byte_ahead t k, r.operator.equals) refl
  key_length_lem _ (word r) =
      let z : k ≡ k + 0 = omega arith in
      let d = ap (λ (j : ℕ). upper (byte_at t j)) z ∙ r.matches.same 0 (omega arith) in
      rw (byte_ahead t k, ne_eqb (byte_at t k) 58 (not_sign 58 d refl (λ e. omega arith)), ne_eqb (byte_at t k) 61 (not_sign 61 d refl (λ e. omega arith))) refl

-- a default key at k, of any length
abbrev Key : List Marked → ℕ → Type 0
Key t k = (n : ℕ) × IsDefaultKey t k n

key_says : (t : List Marked) → Says default_here t (Key t)
key_says t =
    record {
      sound = λ k. key_sound t k;
      complete = λ k q. key_complete t k q.0 q.1;
      inside = λ k q. omega (arith, live_inside (flags t) k (key_live t k q.0 q.1), flags_length t, bytes_length t);
    }

-- ---- where the default begins

-- the default is what the words came with
declared_default : (ws : List (List Marked)) (o : Option (List ℕ)) (d : Declared) → declared_of ws o ≡ Some d → d.default ≡ o
unfolding declared_of
declared_default [] o d e = absurd (apart (cc))
declared_default (n ∷ ws) o d e =
    let m = made_some (is_empty (ahead_of_not_null (behind_constant ws))) _ d e in
    ap (λ (x : Declared). x.default) (sym m.1)

module _ (part : List Marked) where
  abbrev t : List Marked
  t = trim part

  -- the default behind a key of n bytes at i
  abbrev behind : ℕ → ℕ → List ℕ
  behind i n = requoted_default (bytes (trim (drop (i + n) t)))

  at_place : (i n : ℕ) → first default_here 0 t ≡ Some i → key_length (drop i t) ≡ n → declaration part ≡ declared_of (words (take i t)) (Some (behind i n))
  unfolding declaration part_at
  at_place i n e q = rw (e, q) refl

  no_place : first default_here 0 t ≡ None → declaration part ≡ declared_of (words t) None
  unfolding declaration part_at
  no_place e = rw e refl

  -- leftmost: name and type stand ahead of the leftmost key, the default behind it
  pub default_behind : (i n : ℕ) → IsLeftmost t i n → declaration part ≡ declared_of (words (take i t)) (Some (behind i n))
  default_behind i n l =
      at_place i n
      (least_found default_here t (Key t) (key_says t) 0 i
      (record { from = omega arith; holds = (n, l.key); least = λ k a b q. l.least k q.0 b q.1 }))
      (key_length_lem t i n l.key)

  -- a part with none of the three has no default
  pub default_absent : NoKey t → declaration part ≡ declared_of (words t) None
  default_absent h = no_place (none_found default_here t (Key t) (key_says t) 0 (λ k a q. h k q.0 q.1))

  -- a part either has a leftmost key or none
  pub data KeyOf : Type 0 where
    leftmost : (i n : ℕ) → IsLeftmost t i n → KeyOf
    nowhere : NoKey t → KeyOf

  pub key_of : KeyOf
  key_of = go (first default_here 0 t) refl
    where
      go : (f : Option ℕ) → first default_here 0 t ≡ f → KeyOf
      go (Some i) e =
          let r = found_least default_here t (Key t) (key_says t) 0 i e in
          leftmost i r.holds.0 (record { key = r.holds.1; least = λ k m b q. r.least k (omega arith) b (m, q) })
      go None e = nowhere (λ k m q. found_none default_here t (Key t) (key_says t) 0 e k (omega arith) (m, q))

  -- so a record's default says which
  module _ (d : Declared) (e : declaration part ≡ Some d) where
    pub present_leftmost : (v : List ℕ) → d.default ≡ Some v → (i : ℕ) × (n : ℕ) × IsLeftmost t i n × (v ≡ behind i n)
    present_leftmost v p = go key_of
      where
        go : KeyOf → (i : ℕ) × (n : ℕ) × IsLeftmost t i n × (v ≡ behind i n)
        go (leftmost i n l) =
            let s = declared_default (words (take i t)) (Some (behind i n)) d (sym (default_behind i n l) ∙ e) in
            let z : v ≡ behind i n = cc in
            (i, n, l, z)
        go (nowhere h) = let s = declared_default (words t) None d (sym (default_absent h) ∙ e) in absurd (apart (cc))

    pub absent_nowhere : d.default ≡ None → NoKey t
    absent_nowhere p = go key_of
      where
        go : KeyOf → NoKey t
        go (leftmost i n l) =
            let s = declared_default (words (take i t)) (Some (behind i n)) d (sym (default_behind i n l) ∙ e) in
            absurd (apart (cc))
        go (nowhere h) = h
