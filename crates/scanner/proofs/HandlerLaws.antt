-- The search for a handler goes from keyword to keyword. Assumes nothing.
use Rattle.std.specs.Prelude.{Some, None}
use mathlib.Core.Path.{◌≡◌, refl, ◌∙◌}
use mathlib.Core.Bool.{Bool, true, false, ◌&&◌}
use mathlib.Core.List.{List}
use Prim.Native.Nat.{ℕ, ◌+◌, ◌≤◌, ◌<◌}
use lib.ListN.{length, drop}
use lib.Seq.{drop-drop}
use Rattle.spec.specs.Bytes.{ascii}
use Rattle.spec.specs.Map.{Marked}
use Rattle.spec.specs.Search.{Test, first, keyword_here, next_word, is_word_text, handler_here}
use Rattle.spec.proofs.FirstLaws.{first_least, first_none, none_first}
use Rattle.spec.proofs.WalkLaws.{passes_at, first_hit, first_miss, up_to_first}

-- where q passes only if p does, the search for q may go on from the first place that passes p
module _ (p q : Test) (t : List Marked) (only : (k : ℕ) → passes_at p t k ≡ false → passes_at q t k ≡ false) where
  pub none_too : (i : ℕ) → first p i t ≡ None → first q i t ≡ None
  none_too i e = none_first q t i (λ k a b. only k (first_none p t i e k a b))

  pub first_from_lem : (i j : ℕ) → first p i t ≡ Some j → first q i t ≡ first q j t
  first_from_lem i j =
      up_to_first p t (λ (k : ℕ). first q k t ≡ first q j t) j (λ h s. refl) (λ k h s e more. first_miss q t k h (only k s) ∙ more) i

abbrev pub keyword : Test
keyword = keyword_here (ascii "EXCEPTION")

module _ (t : List Marked) where
  handler_at : (k : ℕ) → passes_at handler_here t k ≡ (passes_at keyword t k && is_word_text (ascii "WHEN") (next_word (drop (k + 9) t)))
  unfolding handler_here
  handler_at k = rw (drop-drop 9 k t) refl

  handler_only : (k : ℕ) → passes_at keyword t k ≡ false → passes_at handler_here t k ≡ false
  handler_only k e = handler_at k ∙ simp e

  -- no keyword, no handler
  pub handler_none : (i : ℕ) → first keyword i t ≡ None → first handler_here i t ≡ None
  handler_none i e = none_too keyword handler_here t handler_only i e

  -- the first keyword from i on stands at j
  module _ (i j : ℕ) (e : first keyword i t ≡ Some j) where
    pub keyword_within : (i ≤ j) × (j < length t)
    keyword_within = let r = first_least keyword t i j e in (r.from, r.inside)

    here : (b : Bool) → is_word_text (ascii "WHEN") (next_word (drop (j + 9) t)) ≡ b → passes_at handler_here t j ≡ b
    here b q = handler_at j ∙ simp ((first_least keyword t i j e).passes, q)

    pub handler_hit : is_word_text (ascii "WHEN") (next_word (drop (j + 9) t)) ≡ true → first handler_here i t ≡ Some j
    handler_hit q =
        first_from_lem keyword handler_here t handler_only i j e ∙ first_hit handler_here t j keyword_within.1 (here true q)

    pub handler_miss : is_word_text (ascii "WHEN") (next_word (drop (j + 9) t)) ≡ false → first handler_here i t ≡ first handler_here (j + 1) t
    handler_miss q =
        first_from_lem keyword handler_here t handler_only i j e ∙ first_miss handler_here t j keyword_within.1 (here false q)
