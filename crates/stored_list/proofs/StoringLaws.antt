-- A loop that stores a list at a place of a buffer, as far as the buffer reaches. Assumes nothing.
use mathlib.Core.Path.{◌≡◌, refl, sym, ap, ◌∙◌}
use mathlib.Core.List.{List, [], ◌∷◌, ◌++◌}
use Prim.Native.Nat.{ℕ, ◌+◌, ◌≤◌, ◌<◌, min}
use native.Mathlib.Omega.{arith}
use lib.Dec.{leb}
use lib.ListN.{length, set, length-append}
use lib.Seq.{sets, length-sets}
use borrow.Author.Tests.{leb-true, leb-false}
use Rattle.spec.proofs.Choice.{by}
use Rattle.output.proofs.StoreLaws.{sets_append, sets_out}

-- vs is to be stored at o in d. So far the buffer is d', and us is left, to be stored at n.
pub record Storing (d : List ℕ) (o : ℕ) (vs d' : List ℕ) (n : ℕ) (us : List ℕ) : Type 0 where
  pub kept : length d' ≡ length d
  pub reached : n ≤ length d
  pub stored : sets d o vs ≡ sets d' n us
  pub counted : min (o + length vs) (length d) ≡ min (n + length us) (length d)

-- all is stored, as far as the buffer reaches, and n is the place behind it
pub record Stored (d : List ℕ) (o : ℕ) (vs d' : List ℕ) (n : ℕ) : Type 0 where
  pub count : n ≡ min (o + length vs) (length d)
  pub content : d' ≡ sets d o vs

-- a list from its place on, where the place is the buffer's end if it lies behind that
sets_min : (d us : List ℕ) (n : ℕ) → sets d n us ≡ sets d (min n (length d)) us
sets_min d us n =
    by (leb n (length d))
    (λ e. let h : n ≤ length d = leb-true n (length d) e in
    let k : min n (length d) ≡ n = omega arith in
    rw k refl)
    (λ e. let h : length d < n = leb-false n (length d) e in
    sets_out us d n (omega arith) ∙ sym (sets_out us d (min n (length d)) (omega arith)))

module _ (d : List ℕ) (o : ℕ) (vs : List ℕ) where
  pub storing : o ≤ length d → Storing d o vs d o vs
  storing h = record { kept = refl; reached = h; stored = refl; counted = refl }

  module _ (d' : List ℕ) (n : ℕ) where
    -- a turn stores the list u, the front of what is left
    pub storing_list : (us u t d'' : List ℕ) (m : ℕ) → Storing d o vs d' n us → us ≡ u ++ t → d'' ≡ sets d' n u
        → m ≡ min (n + length u) (length d') → Storing d o vs d'' m t
    storing_list us u t d'' m s e p k =
        let l : length (sets d' n u) ≡ length d' = length-sets d' n u in
        let l'' : length d'' ≡ length d' = ap length p ∙ l in
        let j : m ≡ min (n + length u) (length (sets d' n u)) = omega arith in
        let z : length us ≡ length u + length t = ap length e ∙ length-append u t in
        record {
          kept = l'' ∙ s.kept;
          reached = omega (arith, s.kept);
          stored = s.stored ∙ (rw (e, p, j) (sets_append u t d' n ∙ sets_min (sets d' n u) t (n + length u)));
          counted = s.counted ∙ omega (arith, s.kept, s.reached);
        }

    -- a turn stores one element
    pub storing_one : (us t d'' : List ℕ) (v m : ℕ) → Storing d o vs d' n us → n < length d' → us ≡ v ∷ t → d'' ≡ set d' n v
        → m ≡ n + 1 → Storing d o vs d'' m t
    storing_one us t d'' v m s h e p k = storing_list us (v ∷ []) t d'' m s e p (omega arith)

    pub stored_all : (us : List ℕ) → Storing d o vs d' n us → us ≡ [] → Stored d o vs d' n
    stored_all us s e =
        let z : length us ≡ 0 = ap length e in
        record {
          count = omega (arith, s.counted, s.reached);
          content = sym (s.stored ∙ ap (λ (l : List ℕ). sets d' n l) e);
        }

    pub stored_full : (us : List ℕ) → Storing d o vs d' n us → length d' ≤ n → Stored d o vs d' n
    stored_full us s h =
        record {
          count = omega (arith, s.counted, s.reached, s.kept);
          content = sym (s.stored ∙ sets_out us d' n h);
        }
