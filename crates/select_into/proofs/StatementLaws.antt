-- The statements of a text one after the other. Assumes nothing.
use Rattle.std.specs.Prelude.{Some, None}
use Rattle.std.proofs.lemmas.List.{drop_more}
use mathlib.Core.Path.{◌≡◌, refl, sym, ap, ◌∙◌}
use mathlib.Core.Bool.{true}
use mathlib.Core.List.{List, [], ◌∷◌, ◌++◌, reverse}
use Prim.Native.Nat.{ℕ, suc, ◌+◌, ◌-◌, ◌≤◌, ◌<◌}
use native.Mathlib.Omega.{arith}
use lib.ListN.{length, take, drop, get_or, length-drop}
use lib.Seq.{take-suc, get_or-drop}
use Rattle.spec.proofs.BytesLaws.{bytes_append}
use Rattle.spec.proofs.FirstLaws.{first_least}
use Rattle.spec.proofs.JoinedPieces.{live_byte, pieces_cons}
use Rattle.spec.proofs.WalkLaws.{pieces_at, pieces_cut, pieces_last}
use Rattle.spec.specs.Map.{Marked, live, bytes}
use Rattle.spec.specs.Search.{first, byte_here, pieces}
use Rattle.output.proofs.WriterLaws.{Left, left_start}
use Rattle.output.specs.declared.Writer.{Writer}
use Rattle.spec.specs.SelectInto.{select_statement, join_selects, select_into}

front_live_lem : (b : ℕ) (back u v : List Marked) (x : Marked) → u ≡ x ∷ v → byte_here b back u ≡ true → x ≡ live b
unfolding byte_here
front_live_lem b back u v x q e = live_byte b x (rw q at e)

join_more : (s : List Marked) (r : List (List Marked)) → (p : List Marked) × (ps : List (List Marked)) × (r ≡ p ∷ ps)
    → join_selects (s ∷ r) ≡ select_statement (s ++ (live 59 ∷ [])) ++ join_selects r
unfolding join_selects
join_more s r w = rw w.2 refl

join_last : (s : List Marked) → join_selects (s ∷ []) ≡ s
unfolding join_selects
join_last s = refl

module _ (t : List Marked) where
  -- what becomes of the text from i on
  abbrev pub selects_at : ℕ → List ℕ
  selects_at i = bytes (join_selects (pieces_at (byte_here 59) t i))

  pub selects_start : (w : Writer) → Left w (bytes (select_into t)) w (selects_at 0)
  unfolding select_into pieces
  selects_start w = left_start w (selects_at 0)

  module _ (i j : ℕ) (e : first (byte_here 59) i t ≡ Some j) where
    pub statement_within : (i ≤ j) × (j < length t)
    statement_within = let r = first_least (byte_here 59) t i j e in (r.from, r.inside)

    -- a statement with its `;` is a part of the text
    statement_part : take (j - i) (drop i t) ++ (live 59 ∷ []) ≡ take (j + 1 - i) (drop i t)
    statement_part =
        let r = first_least (byte_here 59) t i j e in
        let k : j + 1 - i ≡ suc (j - i) = omega (arith, r.from) in
        let m : i + (j - i) ≡ j = omega (arith, r.from) in
        let l : get_or t j (live 0) ≡ live 59 = front_live_lem 59 (reverse (take j t)) (drop j t) (drop (j + 1) t) (get_or t j (live 0)) (drop_more t j (live 0) r.inside) r.passes in
        let g : get_or (drop i t) (j - i) (live 0) ≡ live 59 = get_or-drop i t (j - i) (live 0) ∙ (ap (λ (n : ℕ). get_or t n (live 0)) m ∙ l) in
        let h : j - i < length (drop i t) = omega (arith, length-drop i t, r.inside, r.from) in
        sym (ap (λ (n : ℕ). take n (drop i t)) k ∙ (take-suc (drop i t) (j - i) (live 0) h ∙ ap (λ (x : Marked). take (j - i) (drop i t) ++ (x ∷ [])) g))

    -- a statement, and what stands behind it
    pub selects_turn : (p : List Marked) → p ≡ take (j + 1 - i) (drop i t) → selects_at i ≡ bytes (select_statement p) ++ selects_at (j + 1)
    selects_turn p q =
        let s = take (j - i) (drop i t) in
        let rest = pieces_at (byte_here 59) t (j + 1) in
        ap (λ (ps : List (List Marked)). bytes (join_selects ps)) (pieces_cut (byte_here 59) t i j e)
        ∙ (ap bytes (join_more s rest (pieces_cons (byte_here 59) (reverse (take (j + 1) t)) (drop (j + 1) t)))
        ∙ (bytes_append (select_statement (s ++ (live 59 ∷ []))) (join_selects rest)
        ∙ ap (λ (u : List Marked). bytes (select_statement u) ++ selects_at (j + 1)) (statement_part ∙ sym q)))

  -- what is behind the last `;` is copied
  pub selects_last : (i : ℕ) → first (byte_here 59) i t ≡ None → selects_at i ≡ bytes (drop i t)
  selects_last i e =
      ap (λ (ps : List (List Marked)). bytes (join_selects ps)) (pieces_last (byte_here 59) t i e)
      ∙ ap bytes (join_last (drop i t))
