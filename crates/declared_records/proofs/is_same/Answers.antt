-- `declared_records::is_same` meets its contract: the same bytes have the same last four, or fewer than four. Assumes nothing.
use Rattle.std.proofs.Common.{◌≡◌, refl, sym, ◌∙◌, ℕ, ◌-◌, ◌≤◌, ◌<◌, Bool, true, nat_eq, List, length, drop, arith}
use Rattle.std.specs.Borrow.{Bor}
use Rattle.std.specs.Cmp.Lexicographic.{pointwise}
use Rattle.std.specs.Prelude.{Option, Some, None, MatchOption}
use Rattle.std.specs.Option.{option_eq}
use mathlib.Core.Bool.{false≢true}
use Rattle.declared_parts.proofs.DeclaredNameLaws.{not_same, same_of_library}
use Rattle.spec.proofs.NameOrder.{same_refl}
use Rattle.declared_records.proofs.is_same.Goals as goal

pointwise_self : (u : List ℕ) → pointwise nat_eq u u ≡ true
pointwise_self u = sym (same_of_library u u) ∙ same_refl u

-- both are the last four bytes of x, if it has as many
same_last : (f : List ℕ → List ℕ → Bool) → ((u : List ℕ) → f u u ≡ true) → (x : List ℕ) (W : Bor (List ℕ) → Type 0)
    → ((y : Bor (List ℕ)) → W y → (4 ≤ length x) × (y.now ≡ drop (length x - 4) x))
    → (r q : Option (Bor (List ℕ))) → MatchOption r (length x < 4) W → MatchOption q (length x < 4) W → option_eq (λ a b. f a.now b.now) r q ≡ true
same_last f h x W w None None a b = refl
same_last f h x W w None (Some z) a b = let k = (w z b).0 in absurd (omega (arith, a, k))
same_last f h x W w (Some y) None a b = let k = (w y a).0 in absurd (omega (arith, b, k))
same_last f h x W w (Some y) (Some z) a b = rw ((w y a).1, (w z b).1) (h (drop (length x - 4) x))

pub returns-else-eq : goal.returns-else-eq
returns-else-eq c =
    let a = c.args in
    c.if-eq.false
    ∙ not_same a.a.now a.b.now (λ e.
    false≢true (sym c.if-eq.false ∙ (c.eq.ensures ∙ same_last (pointwise nat_eq) pointwise_self a.a.now _ (λ y w. (w.0, w.1.same)) c.last_chunk.result c.last_chunk-2.result c.last_chunk.ensures.cases (rw e c.last_chunk-2.ensures.cases))))
