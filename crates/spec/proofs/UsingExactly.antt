-- Refusal 5 in document 01's words: which RAISEs are read, and that the passes give it exactly where the first of these that
-- is refused has its clause. Assumes nothing.
use Rattle.std.specs.Prelude.{Option, Some, None}
use mathlib.Core.Path.{◌≡◌, refl, sym, ap, ◌∙◌}
use mathlib.Core.Logic.{◌↔◌, ◌⊎◌, inl, inr, ⊎_elim}
use mathlib.Core.List.{List}
use Prim.Native.Nat.{ℕ, zero, suc, ◌+◌, ◌≤◌, ◌<◌, zero-le}
use native.Mathlib.Omega.{arith}
use borrow.Author.Tests.{eqb-true, eqb-false}
use lib.Dec.{eqb}
use lib.ListN.{length, drop}
use Rattle.spec.proofs.Apart.{apart}
use Rattle.spec.proofs.Choice.{by, neither_less}
use Rattle.spec.proofs.FirstFound.{either_of, either_none}
use Rattle.spec.proofs.FirstLaws.{LeastOf, found_least, least_found}
use Rattle.spec.proofs.MapLaws.{text_bytes}
use Rattle.spec.proofs.RaisePlaces.{GoesOn, IsRefusedRaise, raise_of, raise_refused_exactly, goes_exactly, goes_further}
use Rattle.spec.proofs.RaiseWalk.{raise_here, clause_at, clause_end, clause_step, clause_last}
use Rattle.spec.proofs.RefusalLaws.{after4, clause_in, Through4, accepted_exactly, using_exactly}
use Rattle.spec.proofs.RefusalOutcomes.{fate_clause}
use Rattle.spec.proofs.SearchLaws.{IsKeywordAt, keyword_says}
use Rattle.spec.specs.Bytes.{ascii}
use Rattle.spec.specs.Map.{bytes, marked_text, front_byte}
use Rattle.spec.specs.Search.{first}
use Rattle.spec.specs.Raise.{Fate, rewritten, dropped, passed, refused_clause}
use Rattle.spec.specs.declared.Level.{Level}
use Rattle.spec.specs.declared.Action.{Action}
use Rattle.spec.specs.Outcome.{using_clause, accepted, refused}
use Rattle.spec.specs.Body.{rewriting}

-- ---- the words

-- the first live keyword RAISE of xs at or behind s stands at k
abbrev pub NextRaise : List ℕ → ℕ → ℕ → Type 0
NextRaise xs s k = LeastOf (IsKeywordAt xs (ascii "RAISE")) s k

-- the search for RAISE begins at the front, and again where it goes on behind a RAISE that it found
pub data Begins (xs : List ℕ) : ℕ → Type 0 where
  at_front : Begins xs 0
  behind : {s k n : ℕ} → Begins xs s → NextRaise xs s k → GoesOn xs k n → Begins xs n

-- the RAISE at k is read: a search finds it
pub record IsReadAt (xs : List ℕ) (k : ℕ) : Type 0 where
  pub from : ℕ
  pub begins : Begins xs from
  pub found : NextRaise xs from k

-- with these actions, c is the clause of the first RAISE that is read and refused
pub record FirstRefused (act : Level → Action) (xs c : List ℕ) : Type 0 where
  pub at : ℕ
  pub is_read : IsReadAt xs at
  pub is_refused : IsRefusedRaise act xs at c
  pub none_before : (k : ℕ) (d : List ℕ) → k < at → IsReadAt xs k → IsRefusedRaise act xs k d → ⊥

-- no RAISE that is read is refused
abbrev pub NoneRefused : (Level → Action) → List ℕ → Type 0
NoneRefused act xs = (k : ℕ) (d : List ℕ) → IsReadAt xs k → IsRefusedRaise act xs k d → ⊥

-- ---- the definition, in these words

fate_refused : (f : Fate) (c : List ℕ) → fate_clause f ≡ Some c → f ≡ refused_clause c
fate_refused (rewritten w m) c e = absurd (apart (cc))
fate_refused dropped c e = absurd (apart (cc))
fate_refused (passed u) c e = absurd (apart (cc))
fate_refused (refused_clause d) c e = let q : d ≡ c = cc in ap refused_clause q

module _ (act : Level → Action) (xs : List ℕ) where
  -- the clause of the RAISE at k, and where the search goes on behind it
  abbrev clause_of : ℕ → Option (List ℕ)
  clause_of k = fate_clause (raise_of act (drop k (marked_text xs))).fate

  abbrev next_of : ℕ → ℕ
  next_of k = k + (raise_of act (drop k (marked_text xs))).length

  refused_some : (k : ℕ) (c : List ℕ) → IsRefusedRaise act xs k c → clause_of k ≡ Some c
  refused_some k c w =
      let v : IsRefusedRaise act (bytes (marked_text xs)) k c = rw (text_bytes xs) w in
      ap fate_clause ((raise_refused_exactly act (marked_text xs) k c).1 v)

  some_refused : (k : ℕ) (c : List ℕ) → clause_of k ≡ Some c → IsRefusedRaise act xs k c
  some_refused k c e =
      let f = fate_refused (raise_of act (drop k (marked_text xs))).fate c e in
      rw (text_bytes xs) at ((raise_refused_exactly act (marked_text xs) k c).0 f)

  goes_next : (k : ℕ) → GoesOn xs k (next_of k)
  goes_next k = rw (text_bytes xs) at ((goes_exactly act (marked_text xs) k (next_of k)).1 refl)

  goes_only : (k n : ℕ) → GoesOn xs k n → n ≡ next_of k
  goes_only k n g =
      let h : GoesOn (bytes (marked_text xs)) k n = rw (text_bytes xs) g in
      (goes_exactly act (marked_text xs) k n).0 h

  next_found : (s k : ℕ) → NextRaise xs s k → first raise_here s (marked_text xs) ≡ Some k
  next_found s k = least_found raise_here (marked_text xs) (IsKeywordAt xs (ascii "RAISE")) (keyword_says xs (ascii "RAISE")) s k

  found_next : (s k : ℕ) → first raise_here s (marked_text xs) ≡ Some k → NextRaise xs s k
  found_next s k = found_least raise_here (marked_text xs) (IsKeywordAt xs (ascii "RAISE")) (keyword_says xs (ascii "RAISE")) s k

  next_only : (s k j : ℕ) → NextRaise xs s k → NextRaise xs s j → k ≡ j
  next_only s k j a b = let e = next_found s k a in let f = next_found s j b in cc

  -- the first clause from s on
  abbrev from : ℕ → Option (List ℕ)
  from s = clause_at act (marked_text xs) s

  from_step : (s k n : ℕ) → NextRaise xs s k → GoesOn xs k n → from s ≡ either_of (clause_of k) (from n)
  from_step s k n a g =
      clause_step act (marked_text xs) s k (next_found s k a)
      ∙ ap (λ (m : ℕ). either_of (clause_of k) (from m)) (sym (goes_only k n g))

  -- ---- none is refused

  none_from : from 0 ≡ None → (m : ℕ) → Begins xs m → from m ≡ None
  none_from e m at_front = e
  none_from e m (behind {s} {k} {n} b a g) =
      (either_none (clause_of k) (from n) (sym (from_step s k n a g) ∙ none_from e s b)).1

  none_refused : from 0 ≡ None → NoneRefused act xs
  none_refused e k d r w =
      let s = r.from in
      let step = from_step s k (next_of k) r.found (goes_next k) in
      let n = either_none (clause_of k) (from (next_of k)) (sym step ∙ none_from e s r.begins) in
      let f = refused_some k d w in
      let z = n.0 in
      apart (cc)

  -- ---- one is refused

  -- of the searches that begin before i, each that finds a RAISE finds one that is not refused, and goes on at i or before
  abbrev Passed : ℕ → Type 0
  Passed i =
      (s k n : ℕ) → s < i → Begins xs s → NextRaise xs s k → GoesOn xs k n → (n ≤ i) × ((d : List ℕ) → IsRefusedRaise act xs k d → ⊥)

  -- what is at most i is less or the same
  less_or : {P : Type 0} (s i : ℕ) → s ≤ i → (s < i → P) → (s ≡ i → P) → P
  less_or s i h f g = by (eqb s i) (λ e. g (eqb-true s i e)) (λ e. f (omega (arith, eqb-false s i e)))

  -- the search that begins at i finds the RAISE at j and goes on at m
  module _ (i j m : ℕ) (p : Passed i) (a : NextRaise xs i j) (g : GoesOn xs j m) where
    -- a search that begins at i does the same
    same_raise : (s k : ℕ) → s ≡ i → NextRaise xs s k → k ≡ j
    same_raise s k e c = let b : NextRaise xs i k = rw e at c in next_only i k j b a

    same_next : (k n : ℕ) → k ≡ j → GoesOn xs k n → n ≡ m
    same_next k n e f = goes_only k n f ∙ (ap next_of e ∙ sym (goes_only j m g))

    -- so no search begins between
    between : (l : ℕ) → Begins xs l → (l ≤ i) ⊎ (m ≤ l)
    between l at_front = inl zero-le
    between l (behind {s} {k} {n} b c f) =
        ⊎_elim
        (λ h.
        less_or s i h
        (λ q. inl (p s k n q b c f).0)
        (λ q. let e = same_next k n (same_raise s k q c) f in inr (omega arith)))
        (λ h. inr (omega (arith, c.from, goes_further xs k n f)))
        (between s b)

    -- the RAISEs that are read before j are not refused
    none_yet : (k : ℕ) (d : List ℕ) → k < j → IsReadAt xs k → IsRefusedRaise act xs k d → ⊥
    none_yet k d h r w =
        let s = r.from in
        ⊎_elim
        (λ q.
        less_or s i q
        (λ z. (p s k (next_of k) z r.begins r.found (goes_next k)).1 d w)
        (λ z. omega (arith, same_raise s k z r.found)))
        (λ q. omega (arith, r.found.from, goes_further xs j m g))
        (between s r.begins)

    -- and where that at j is not refused either, all is passed up to m
    passed_on : clause_of j ≡ None → Passed m
    passed_on e s k n h b c f =
        ⊎_elim
        (λ q.
        less_or s i q
        (λ z.
        let w = p s k n z b c f in
        (omega (arith, w.0, a.from, goes_further xs j m g), w.1))
        (λ z.
        let same = same_raise s k z c in
        let further = same_next k n same f in
        (omega arith, λ d w. let v = refused_some k d w in let u : clause_of k ≡ None = ap clause_of same ∙ e in apart (cc))))
        (λ q. absurd (omega arith))
        (between s b)

  -- the RAISE at k, which the search from i on finds, is the first that is refused, or the next search finds that one
  first_step : (c : List ℕ) (i k : ℕ) → Begins xs i → Passed i → NextRaise xs i k → from i ≡ Some c
      → (Begins xs (next_of k) → Passed (next_of k) → from (next_of k) ≡ Some c → FirstRefused act xs c)
      → FirstRefused act xs c
  first_step c i k b p a e more = at (clause_of k) refl
    where
      g : GoesOn xs k (next_of k)
      g = goes_next k

      step : from i ≡ either_of (clause_of k) (from (next_of k))
      step = from_step i k (next_of k) a g

      at : (o : Option (List ℕ)) → clause_of k ≡ o → FirstRefused act xs c
      at None o =
          let r : from i ≡ from (next_of k) = step ∙ ap (λ (l : Option (List ℕ)). either_of l (from (next_of k))) o in
          more (behind b a g) (passed_on i k (next_of k) p a g o) (sym r ∙ e)
      at (Some d) o =
          let r : from i ≡ Some d = step ∙ ap (λ (l : Option (List ℕ)). either_of l (from (next_of k))) o in
          let same : d ≡ c = cc in
          record {
            at = k;
            is_read = record { from = i; begins = b; found = a };
            is_refused = some_refused k c (o ∙ ap Some same);
            none_before = none_yet i k (next_of k) p a g;
          }

  first_from_lem : (c : List ℕ) (f i : ℕ) → length (marked_text xs) ≤ i + f → Begins xs i → Passed i → from i ≡ Some c
      → FirstRefused act xs c
  first_from_lem c zero i h b p e = let n = clause_end act (marked_text xs) i (omega arith) in absurd (apart (cc))
  first_from_lem c (suc f) i h b p e = go (λ n l. first_from_lem c f n l) (first raise_here i (marked_text xs)) refl
    where
      go : ((n : ℕ) → length (marked_text xs) ≤ n + f → Begins xs n → Passed n → from n ≡ Some c → FirstRefused act xs c)
          → (q : Option ℕ)
          → first raise_here i (marked_text xs) ≡ q
          → FirstRefused act xs c
      go more None q = let n = clause_last act (marked_text xs) i q in absurd (apart (cc))
      go more (Some k) q =
          let a = found_next i k q in
          let g = goes_further xs k (next_of k) (goes_next k) in
          first_step c i k b p a e (more (next_of k) (omega (arith, a.from)))

  some_first : (c : List ℕ) → from 0 ≡ Some c → FirstRefused act xs c
  some_first c e = first_from_lem c (length (marked_text xs)) 0 (omega arith) at_front (λ s k n h. absurd (omega arith)) e

  -- there is but one first
  first_only : (c d : List ℕ) → FirstRefused act xs c → FirstRefused act xs d → c ≡ d
  first_only c d v w =
      let same =
      neither_less v.at w.at
      (λ l. w.none_before v.at c l v.is_read v.is_refused)
      (λ l. v.none_before w.at d l w.is_read w.is_refused) in
      let e = refused_some v.at c v.is_refused in
      let f = ap clause_of same ∙ refused_some w.at d w.is_refused in
      cc

  first_some_lem : (c : List ℕ) → FirstRefused act xs c → (o : Option (List ℕ)) → from 0 ≡ o → from 0 ≡ Some c
  first_some_lem c w None e = absurd (none_refused e w.at c w.is_read w.is_refused)
  first_some_lem c w (Some d) e = e ∙ ap Some (first_only d c (some_first d e) w)

  refused_none : NoneRefused act xs → (o : Option (List ℕ)) → from 0 ≡ o → from 0 ≡ None
  refused_none h None e = e
  refused_none h (Some d) e = let w = some_first d e in absurd (h w.at d w.is_read w.is_refused)

  clause_from : clause_in act xs ≡ from 0
  unfolding clause_in front_byte
  clause_from = refl

  -- the definition finds the clause of the first RAISE that is read and refused, and none exactly if there is no such RAISE
  pub clause_exactly : (c : List ℕ) → (clause_in act xs ≡ Some c) ↔ FirstRefused act xs c
  clause_exactly c =
      ((λ h. some_first c (sym clause_from ∙ h)), (λ w. clause_from ∙ first_some_lem c w (from 0) refl))

  pub no_clause_exactly : (clause_in act xs ≡ None) ↔ NoneRefused act xs
  no_clause_exactly = ((λ h. none_refused (sym clause_from ∙ h)), (λ h. clause_from ∙ refused_none h (from 0) refl))

-- ---- the answers

-- 5: passes 1 to 4 accept, and in the text after pass 4 the first RAISE that is read and refused has the clause c
pub record HasUsingClause (act : Level → Action) (xs c : List ℕ) : Type 0 where
  pub before : Through4 xs
  pub first : FirstRefused act (after4 xs) c

pub using_in_words : (act : Level → Action) (xs c : List ℕ) → (rewriting act xs ≡ refused (using_clause c)) ↔ HasUsingClause act xs c
using_in_words act xs c = (
  (λ h. let u = (using_exactly act xs c).0 h in record { before = u.before; first = (clause_exactly act (after4 xs) c).0 u.first }),
  (λ w. (using_exactly act xs c).1 (record { before = w.before; first = (clause_exactly act (after4 xs) c).1 w.first })),
)

-- where a text is accepted, no RAISE that is read in the text after pass 4 is refused
pub accepted_none_refused : (act : Level → Action) (xs zs : List ℕ) → rewriting act xs ≡ accepted zs → NoneRefused act (after4 xs)
accepted_none_refused act xs zs h = (no_clause_exactly act (after4 xs)).0 ((accepted_exactly act xs zs).0 h).no_clause
