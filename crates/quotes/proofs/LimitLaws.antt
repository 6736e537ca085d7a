-- ` LIMIT ` read byte by byte says whether it stands in the text; a text may come in parts. Assumes nothing.
use mathlib.Core.Path.{◌≡◌, refl, sym, ap, ◌∙◌}
use mathlib.Core.Bool.{Bool, true, false, cond, ◌&&◌, ◌||◌, or_self_left}
use mathlib.Core.List.{List, [], ◌∷◌, ◌++◌}
use Prim.Native.Nat.{ℕ, zero, suc, ◌≤◌, ◌<◌}
use native.Mathlib.Omega.{arith}
use borrow.Author.Tests.{eqb-true, eqb-false, ne_eqb}
use lib.Dec.{eqb, leb}
use lib.ListN.{drop, get_or}
use lib.Seq.{drop-cons}
use Rattle.spec.proofs.Choice.{by}
use Rattle.spec.proofs.WalkLaws.{starts_case}
use Rattle.spec.specs.Bytes.{ascii, within, is_lower, upper, prefix_by}
use Rattle.spec.specs.Map.{Marked, bytes}
use Rattle.spec.specs.Search.{first_from, first, is_found, starts_ignoring_case}
use Rattle.spec.specs.SelectInto.{has_limit}
use Rattle.quotes.specs.Limits.{limit_next, limit_from}

-- parts one after the other
pub limit_append : (k : ℕ) (a b : List ℕ) → limit_from k (a ++ b) ≡ limit_from (limit_from k a) b
unfolding limit_from
limit_append k [] b = refl
limit_append k (c ∷ a) b = limit_append (limit_next k c) a b

-- no byte, and one byte more
pub limit_none : (k : ℕ) → k ≡ limit_from k []
unfolding limit_from
limit_none k = refl

pub limit_more : (k n r c : ℕ) (xs : List ℕ) → n ≡ limit_from k xs → r ≡ limit_next n c → r ≡ limit_from k (xs ++ (c ∷ []))
unfolding limit_from
limit_more k n r c xs e f = f ∙ (ap (λ (m : ℕ). limit_next m c) e ∙ sym (limit_append k xs (c ∷ [])))

abbrev word : List ℕ
word = ascii " LIMIT "

-- the word stands somewhere in these bytes
unfoldable limit_in : List ℕ → Bool
limit_in [] = false
limit_in (c ∷ cs) = prefix_by upper word (c ∷ cs) || limit_in cs

limit_found : (back t : List Marked) → is_found (first_from (λ (b u : List Marked). starts_ignoring_case word u) back t) ≡ limit_in (bytes t)
unfolding first_from limit_in bytes
limit_found back [] = refl
limit_found back (x ∷ t) =
    by (starts_ignoring_case word (x ∷ t))
    (λ e. let f : prefix_by upper word (bytes (x ∷ t)) ≡ true = sym (starts_case word (x ∷ t)) ∙ e in rw (e, f) refl)
    (λ e.
    let f : prefix_by upper word (bytes (x ∷ t)) ≡ false = sym (starts_case word (x ∷ t)) ∙ e in
    rw (e, f) (limit_found (x ∷ back) t))

-- the word is in capitals, and a space stands at its two ends only
capitals : (k : ℕ) → upper (get_or word k 0) ≡ get_or word k 0
unfolding upper is_lower within
capitals zero = refl
capitals (suc zero) = refl
capitals (suc (suc zero)) = refl
capitals (suc (suc (suc zero))) = refl
capitals (suc (suc (suc (suc zero)))) = refl
capitals (suc (suc (suc (suc (suc zero))))) = refl
capitals (suc (suc (suc (suc (suc (suc zero)))))) = refl
capitals (suc (suc (suc (suc (suc (suc (suc k))))))) = refl

letter : (k : ℕ) → k < 5 → get_or word (suc k) 0 ≡ 32 → ⊥
letter zero h e = omega arith
letter (suc zero) h e = omega arith
letter (suc (suc zero)) h e = omega arith
letter (suc (suc (suc zero))) h e = omega arith
letter (suc (suc (suc (suc zero)))) h e = omega arith
letter (suc (suc (suc (suc (suc k))))) h e = omega arith

-- a word in front is one of them
front_in : (cs : List ℕ) → (prefix_by upper word cs || limit_in cs) ≡ limit_in cs
unfolding limit_in prefix_by
front_in [] = refl
front_in (c ∷ cs) = or_self_left (prefix_by upper word (c ∷ cs)) (limit_in cs)

-- all 7 matched stay matched
pub limit_full : (cs : List ℕ) → limit_from 7 cs ≡ 7
unfolding limit_from limit_next
limit_full [] = refl
limit_full (c ∷ cs) = limit_full cs

-- behind a space 7 are matched, or 1
pub limit_space : (k : ℕ) → k ≤ 7 → limit_next k 32 ≡ cond (leb 6 k) 7 1
unfolding limit_next upper is_lower within
limit_space zero h = refl
limit_space (suc zero) h = refl
limit_space (suc (suc zero)) h = refl
limit_space (suc (suc (suc zero))) h = refl
limit_space (suc (suc (suc (suc zero)))) h = refl
limit_space (suc (suc (suc (suc (suc zero))))) h = refl
limit_space (suc (suc (suc (suc (suc (suc zero)))))) h = refl
limit_space (suc (suc (suc (suc (suc (suc (suc zero))))))) h = refl
limit_space (suc (suc (suc (suc (suc (suc (suc (suc k)))))))) h = absurd (omega arith)

-- the word from k on against a text with a first byte
prefix_next : (k c : ℕ) (cs : List ℕ) → k < 7
    → prefix_by upper (drop k word) (c ∷ cs) ≡ (eqb (upper c) (get_or word k 0) && prefix_by upper (drop (suc k) word) cs)
unfolding prefix_by
prefix_next k c cs h = rw (drop-cons word k 0 h, capitals k) refl

module _ (k c : ℕ) (h : k < 7) where
  next_hit : eqb (upper c) (get_or word k 0) ≡ true → limit_next k c ≡ suc k
  unfolding limit_next
  next_hit e = rw (ne_eqb k 7 (omega arith), e) refl

  next_miss : eqb (upper c) (get_or word k 0) ≡ false → limit_next k c ≡ cond (eqb (upper c) 32) 1 0
  unfolding limit_next
  next_miss e = rw (ne_eqb k 7 (omega arith), e) refl

-- k bytes of the word being matched, all 7 are matched at the end exactly if the others stand in front or the word stands
-- somewhere behind
limit_read : (cs : List ℕ) (k : ℕ) → k < 7 → eqb (limit_from k cs) 7 ≡ (prefix_by upper (drop k word) cs || limit_in cs)
unfolding limit_from prefix_by limit_in
limit_read [] k h = rw (drop-cons word k 0 h, ne_eqb k 7 (omega arith)) refl
limit_read (c ∷ cs) k h =
    rw (prefix_next k c cs h, prefix_next 0 c cs (omega arith))
    (by (eqb (upper c) (get_or word k 0))
    (λ e. rw (next_hit k c h e, e) (hit k h e (limit_read cs (suc k))))
    (λ e.
    rw (next_miss k c h e, e)
    (by (eqb (upper c) 32)
    (λ q. rw q (limit_read cs 1 (omega arith)))
    (λ q. rw q (limit_read cs 0 (omega arith) ∙ front_in cs)))))
  where
    hit : (k : ℕ) → k < 7 → eqb (upper c) (get_or word k 0) ≡ true
        → (suc k < 7 → eqb (limit_from (suc k) cs) 7 ≡ (prefix_by upper (drop (suc k) word) cs || limit_in cs))
        → eqb (limit_from (suc k) cs) 7
        ≡ (prefix_by upper (drop (suc k) word) cs || ((eqb (upper c) 32 && prefix_by upper (drop 1 word) cs) || limit_in cs))
    hit zero h e more = rw e (more (omega arith) ∙ sym (or_self_left (prefix_by upper (drop 1 word) cs) (limit_in cs)))
    hit (suc k) h e more =
        by (eqb k 5)
        (λ f. rw (eqb-true k 5 f, limit_full cs) refl)
        (λ f.
        let five : k < 5 = omega (arith, eqb-false k 5 f) in
        let other : upper c ≡ 32 → ⊥ = λ z. letter k five (sym (eqb-true (upper c) (get_or word (suc k) 0) e) ∙ z) in
        rw (ne_eqb (upper c) 32 other) (more (omega arith)))

-- a text holds the word exactly if all 7 are matched behind it, whatever its marks
pub limit_marks : (t : List Marked) → has_limit t ≡ eqb (limit_from 0 (bytes t)) 7
unfolding has_limit first
limit_marks t = limit_found [] t ∙ sym (limit_read (bytes t) 0 (omega arith) ∙ front_in (bytes t))
