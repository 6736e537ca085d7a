-- Where a part is cut for its default: the tests of the code decide, byte by byte, whether a default key stands at i; the
-- cut is at the leftmost and stands within the part. By the predicate of `DefaultLaws`. Assumes nothing.
use Rattle.std.proofs.lemmas.Option.{none-some}
use Rattle.std.specs.Prelude.{Option, Some, None, IfSome, IsSomeAnd, MatchOption, IsTrue}
use Rattle.std.specs.Option.{unwrap_or, option_map}
use denote.Param.Members.{Mut, Called}
use Rattle.std.specs.declared.ops.Range.{Range}
use Rattle.std.specs.Iterator.Runs.{Run, SomeRun, AllItemsGive, IsFirstToGive}
use Rattle.std.proofs.iter.Yields.{nat_range_steps}
use Rattle.std.proofs.iter.runs.Sources.{range_runs}
use Rattle.std.proofs.lemmas.List.{drop_more}
use mathlib.Core.Path.{◌≡◌, refl, sym, ap, subst, ◌∙◌}
use mathlib.Core.Bool.{true, false, cond, not, false≢true}
use mathlib.Core.List.{List}
use Prim.Native.Nat.{ℕ, ◌+◌, ◌-◌, ◌≤◌, ◌<◌}
use native.Mathlib.Omega.{arith}
use borrow.Author.Tests.{eq-eqb}
use lib.Dec.{eqb}
use lib.ListN.{length, drop, get_or, get_or-map}
use Rattle.spec.specs.Bytes.{ascii, upper, is_lower, within, is_prefix}
use Rattle.spec.specs.Map.{Marked, live, byte, bytes, is_live, front_live}
use Rattle.spec.specs.Search.{first, word_here, keyword_here, needle_here}
use Rattle.spec.specs.Assignments.{assign_here, lone_equals}
use Rattle.spec.specs.Declarations.{is_lone, equals_here, default_here, key_length}
use Rattle.classes.proofs.BackLaws.{byte_back}
use Rattle.spec.proofs.BytesLaws.{bytes_drop}
use Rattle.std.proofs.lemmas.Bool.{or_right}
use Rattle.spec.proofs.Choice.{by}
use Rattle.spec.proofs.AssignTargets.{assign_says}
use Rattle.spec.proofs.DefaultLaws.{IsDefaultKey, assign, equals, word, equals_says, key_sound, key_complete, key_length_lem}
use Rattle.spec.proofs.FirstLaws.{first_least, least_first, none_first}
use Rattle.spec.proofs.MarkingWords.{word_says}
use Rattle.spec.proofs.RefusalBounds.{bytes_length}
use Rattle.spec.proofs.RunPlaces.{byte_inside}
use Rattle.spec.proofs.WalkLaws.{passes_at, starts_exact, prefix_exact}
use Rattle.declared_parts.specs.DeclaredParts.{starts_key, key_at, cut_at, cut_of, cut_in, Fits}
use Rattle.declared_parts.specs.declared.Cut.{Cut}

-- the byte at i
byte_bytes : (t : List Marked) (i : ℕ) → byte (get_or t i (live 0)) ≡ get_or (bytes t) i 0
unfolding bytes
byte_bytes t i = sym (get_or-map byte t i (live 0))

-- ---- a lone `=` at i

module _ (t : List Marked) (i : ℕ) where
  pub lone_no : lone_equals (drop i t) ≡ false → false ≡ passes_at is_lone t i
  unfolding is_lone
  lone_no q = simp q

  pub lone_behind : (xs : List ℕ) → xs ≡ bytes t → i < length t → lone_equals (drop i t) ≡ true → not (eqb (cond (eqb i 0) 0 (get_or xs (i - 1) 0)) 61) ≡ passes_at is_lone t i
  unfolding is_lone
  lone_behind xs e h q = rw (q, byte_back t xs i e (omega arith)) refl

-- ---- the default key at i

module _ (t : List Marked) (i : ℕ) where
  -- a key ends within the text
  key_fits : (n : ℕ) → IsDefaultKey t i n → i + n ≤ length t
  key_fits _ (assign r) = omega (arith, byte_inside t (i + 1) (omega (arith, r.equals)))
  key_fits _ (equals r) = omega (arith, byte_inside t i (omega (arith, r.operator.equals)))
  key_fits _ (word r) = omega (arith, r.matches.fits, bytes_length t)

  -- by its first byte
  key_first : (n : ℕ) → IsDefaultKey t i n → starts_key (get_or (bytes t) i 0) ≡ true
  unfolding starts_key upper is_lower within
  key_first _ (assign r) = rw r.colon refl
  key_first _ (equals r) = rw r.operator.equals refl
  key_first _ (word r) =
      let b = get_or (bytes t) i 0 in
      let z : i ≡ i + 0 = omega arith in
      let d = ap (λ (j : ℕ). upper (get_or (bytes t) j 0)) z ∙ r.matches.same 0 (omega arith) in
      or_right (eqb b 58) _ (or_right (eqb b 61) _ (eq-eqb (upper b) 68 d))

  -- a key of n bytes stands there; or none does
  key_stands : (n : ℕ) → IsDefaultKey t i n → (Some n ≡ key_at t i) × (i + n ≤ length t)
  unfolding key_at
  key_stands n k = (rw (key_complete t i n k) (ap Some (sym (key_length_lem t i n k))), key_fits n k)

  key_missing : passes_at default_here t i ≡ false → None ≡ key_at t i
  unfolding key_at
  key_missing e = rw e refl

-- ---- the same by the tests of the code

module _ (t : List Marked) (i : ℕ) (h : i < length t) where
  -- the byte at i
  abbrev x : Marked
  x = get_or t i (live 0)

  front_is : front_live (drop i t) ≡ is_live x
  unfolding front_live
  front_is = rw (drop_more t i (live 0) h) refl

  stands : (n : ℕ) → IsDefaultKey t i n → Some n ≡ key_at t i
  stands n k = (key_stands t i n k).0

  pub key_other : starts_key (byte x) ≡ false → None ≡ key_at t i
  key_other q =
      key_missing t i
      (by (passes_at default_here t i)
      (λ p.
      let k = key_sound t i p in
      let f = key_first t i k.0 k.1 in
      absurd (false≢true (sym q ∙ (ap starts_key (byte_bytes t i) ∙ f))))
      (λ p. p))

  pub key_quoted : is_live x ≡ false → None ≡ key_at t i
  unfolding default_here assign_here needle_here equals_here keyword_here word_here
  key_quoted e = key_missing t i (simp (front_is ∙ e))

  module _ (e : is_live x ≡ true) where
    assign_tested : passes_at assign_here t i ≡ is_prefix (ascii ":=") (drop i (bytes t))
    unfolding assign_here needle_here
    assign_tested = rw (front_is, e, starts_exact, bytes_drop, prefix_exact) refl

    equals_tested : passes_at equals_here t i ≡ passes_at is_lone t i
    unfolding equals_here
    equals_tested = simp (front_is ∙ e)

    pub key_assign : is_prefix (ascii ":=") (drop i (bytes t)) ≡ true → Some 2 ≡ key_at t i
    key_assign q = stands 2 (assign ((assign_says t i).0 (assign_tested ∙ q)))

    pub key_equals : passes_at is_lone t i ≡ true → Some 1 ≡ key_at t i
    key_equals q = stands 1 (equals ((equals_says t i).0 (equals_tested ∙ q)))

    pub key_word : passes_at (keyword_here (ascii "DEFAULT")) t i ≡ true → Some 7 ≡ key_at t i
    unfolding keyword_here
    key_word q = stands 7 (word ((word_says t (ascii "DEFAULT") i).0 q))

    pub key_none : is_prefix (ascii ":=") (drop i (bytes t)) ≡ false → passes_at is_lone t i ≡ false → passes_at (keyword_here (ascii "DEFAULT")) t i ≡ false → None ≡ key_at t i
    unfolding default_here
    key_none a b c = key_missing t i (simp (assign_tested ∙ a, equals_tested ∙ b, c))

-- a key stands within the text
pub key_within : (t : List Marked) (i n : ℕ) → Some n ≡ key_at t i → i + n ≤ length t
key_within t i n e =
    by (passes_at default_here t i)
    (λ p.
    let k = key_sound t i p in
    let s = key_stands t i k.0 k.1 in
    let q : Some n ≡ Some k.0 = e ∙ sym s.0 in
    let z : n ≡ k.0 = cc in
    omega (arith, s.1))
    (λ p. absurd (none-some n (key_missing t i p ∙ sym e)))

-- ---- the cut

-- the cut at i is the definition's if a key stands there; and so one does
at_key : (t : List Marked) (i : ℕ) → passes_at default_here t i ≡ true → cut_at t i ≡ Some (cut_of (Some i) t)
unfolding cut_at key_at
at_key t i e = rw e refl

no_key : (t : List Marked) (i : ℕ) → None ≡ cut_at t i → passes_at default_here t i ≡ false
no_key t i e = by (passes_at default_here t i) (λ p. absurd (none-some _ (e ∙ at_key t i p))) (λ p. p)

a_key : (t : List Marked) (i : ℕ) (c : Cut) → Some c ≡ cut_at t i → passes_at default_here t i ≡ true
unfolding cut_at key_at
a_key t i c e = by (passes_at default_here t i) (λ p. p) (λ p. absurd (none-some c (sym (e ∙ rw p refl))))

-- the cut at an offset with none ahead of it; or there is none in the text
cut_found : (t : List Marked) (i : ℕ) (c : Cut) → i < length t → Some c ≡ cut_at t i → ((k : ℕ) → k < i → None ≡ cut_at t k) → c ≡ cut_in t
unfolding cut_in
cut_found t i c h e n =
    let p = a_key t i c e in
    let f = least_first default_here t 0 i (record { from = omega arith; inside = h; passes = p; least = λ k a b. no_key t k (n k b) }) in
    let z : Some c ≡ Some (cut_of (Some i) t) = e ∙ at_key t i p in
    let same : c ≡ cut_of (Some i) t = cc in
    rw f same

cut_missed : (t : List Marked) → ((k : ℕ) → k < length t → None ≡ cut_at t k) → record { head = length t; rest = None } ≡ cut_in t
unfolding cut_in
cut_missed t h = rw (none_first default_here t 0 (λ k a b. no_key t k (h k b))) refl

-- its two parts stand within the text
pub cut_fits : (t : List Marked) → Fits (cut_in t) (length t)
unfolding cut_in
cut_fits t = go (first default_here 0 t) refl
  where
    go : (f : Option ℕ) → first default_here 0 t ≡ f → Fits (cut_of f t) (length t)
    go (Some i) e =
        let k = key_sound t i (first_least default_here t 0 i e).passes in
        let n = key_length_lem t i k.0 k.1 in
        let l = key_fits t i k.0 k.1 in
        record {
          head = omega (arith, l);
          ordered = λ r q. let z : i + key_length (drop i t) ≡ r = cc in omega arith;
          within = λ r q. let z : i + key_length (drop i t) ≡ r = cc in omega (arith, n, l);
        }
    go None e =
        record {
          head = omega arith;
          ordered = λ r q. absurd (none-some r q);
          within = λ r q. absurd (none-some r q);
        }

-- so is a cut that is the definition's
pub cut_tells : (t : List Marked) (c : Cut) → c ≡ cut_in t → Fits c (length t)
cut_tells t c e = rw e (cut_fits t)

-- ---- what `find_map` gives over the offsets of the text, each call at an offset giving the cut there

-- an item that is n has what all items have, or what one has
item_has : (P : ℕ → Type 0) (n : ℕ) (o : Option ℕ) → option_map (λ x. x) o ≡ Some n → IfSome o P → P n
item_has P n None e h = absurd (none-some n e)
item_has P n (Some a) e h = let same : a ≡ n = cc in subst P same h

item_is : (P : ℕ → Type 0) (n : ℕ) (o : Option ℕ) → option_map (λ x. x) o ≡ Some n → IsSomeAnd o P → P n
item_is P n None e h = absurd h
item_is P n (Some a) e h = let same : a ≡ n = cc in subst P same h

abbrev offsets : ℕ → Range ℕ
offsets n = record { start = 0; end = n }

-- the offset at place k is k
kth : (p : Run nat_range_steps) (n : ℕ) → p.from ≡ offsets n → (k : ℕ) → k < p.len → option_map (λ b. b) (p.at k) ≡ Some k
kth p n s k h =
    let z : p.from.start + k ≡ k = omega (arith, ap (λ (b : Range ℕ). b.start) s) in
    (range_runs p p.seen).3 k h ∙ ap Some z

module _ {F : Type 0} (g : Mut F (ℕ × Unit {0}) (Option Cut)) (f : F) (t : List Marked)
    (each : (a : ℕ × Unit {0}) (r : Option Cut) (f' : F) → Called g f a r f' → (f' ≡ f) × (r ≡ cut_at t a.0)) where
  pub cut_mapped : (n m : ℕ) → n ≡ length t → m ≡ length t → (r : Option Cut)
      → SomeRun nat_range_steps (offsets n) (λ p. MatchOption r (IsTrue p.whole × AllItemsGive p g f None) (λ y. (i : ℕ) × (i < p.len) × (p.len ≡ i + 1) × IsFirstToGive p g f (Some y) None i))
      → unwrap_or r (record { head = m; rest = None }) ≡ cut_in t
  cut_mapped n m same whole None (p, s, h) =
      let c = range_runs p p.seen in
      let all = h.1 (λ a r q k. (each a r q k).0) in
      let long : p.len ≡ n = omega (arith, c.1 h.0, ap (λ (b : Range ℕ). b.end - b.start) s) in
      rw whole
      (cut_missed t
      (λ k l.
      let q : k < p.len = omega (arith, long, same) in
      (each (k, tt) None f (item_has (λ b. Called g f (b, tt) None f) k (p.at k) (kth p n s k q) (all k))).1))
  cut_mapped n m same whole (Some y) (p, s, h) =
      let c = range_runs p p.seen in
      let i = h.0 in
      let d = h.3 (λ a r q k. (each a r q k).0) in
      let at = kth p n s in
      cut_found t i y (omega (arith, h.1, same, c.0, ap (λ (b : Range ℕ). b.end - b.start) s))
      (each (i, tt) (Some y) f (item_is (λ b. Called g f (b, tt) (Some y) f) i (p.at i) (at i h.1) d.0)).1
      (λ k m. (each (k, tt) None f (item_is (λ b. Called g f (b, tt) None f) k (p.at k) (at k (omega (arith, h.1))) (d.1 k m))).1)
