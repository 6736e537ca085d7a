-- The lines of pass 4 as bytes are those that are written. Assumes nothing.
use Rattle.std.proofs.lemmas.Bool.{cond_both}
use mathlib.Core.Path.{◌≡◌, refl, sym, ap, ◌∙◌}
use mathlib.Core.Bool.{Bool, true, false, cond, not, ◌||◌, or-true, or-false}
use mathlib.Core.List.{List, [], ◌∷◌, ◌++◌, append-nil, reverse}
use Prim.Native.Nat.{ℕ, suc, ◌≤◌, ◌<◌}
use native.Mathlib.Omega.{arith}
use borrow.Author.Tests.{eqb-false}
use lib.Dec.{eqb, leb}
use lib.ListN.{length, get_or, length-append, length-map}
use Rattle.spec.proofs.ByteSets.{gap_w}
use Rattle.spec.proofs.BytesLaws.{bytes_append, bytes_lives, bytes_end, bytes_while, bytes_reverse}
use Rattle.spec.proofs.Choice.{by, cond_le}
use Rattle.spec.specs.Bytes.{ascii, is_w, upper}
use Rattle.spec.specs.Lists.{is_empty, take_while, drop_end}
use Rattle.spec.specs.Map.{Marked, live, byte, bytes, lives, of_byte}
use Rattle.spec.specs.Parts.{trim_end}
use Rattle.spec.specs.SelectInto.{has_limit, subquery, set_line, set_lines, indentation}
use Rattle.quotes.specs.Limits.{limit_next, limit_from}
use Rattle.set_lines.specs.Lines.{spaced, query_text, limit_text, line_text, limited, break_text, shared_by, shared_line, lines_text}
use Rattle.select_into.specs.Pairs.{last_line}
use Rattle.quotes.proofs.LimitLaws.{limit_marks, limit_append, limit_full, limit_space}
use Rattle.spec.proofs.EndLaws.{drop_end_gone, drop_end_kept}
use Rattle.select_into.proofs.FromEndLaws.{Trimmed}

-- ---- the subquery

abbrev select : List ℕ
select = ascii "SELECT "

space_bytes : (f : List Marked) → bytes (live 32 ∷ f) ≡ 32 ∷ bytes f
unfolding bytes
space_bytes f = refl

query_bytes : (w f c : List Marked) → bytes (subquery w f c) ≡ bytes w ++ (select ++ (bytes c ++ (32 ∷ bytes f)))
unfolding subquery
query_bytes w f c =
    bytes_append w (lives select ++ (c ++ (live 32 ∷ f)))
    ∙ ap (λ (l : List ℕ). bytes w ++ l)
    (bytes_append (lives select) (c ++ (live 32 ∷ f))
    ∙ (ap (λ (l : List ℕ). l ++ bytes (c ++ (live 32 ∷ f))) (bytes_lives select)
    ∙ ap (λ (l : List ℕ). select ++ l) (bytes_append c (live 32 ∷ f) ∙ ap (λ (l : List ℕ). bytes c ++ l) (space_bytes f))))

-- a space with nothing but W behind it goes, and any other stays
space_gone : (f : List ℕ) → drop_end is_w f ≡ [] → drop_end is_w (32 ∷ f) ≡ []
unfolding drop_end is_empty
space_gone f e = rw (e, gap_w 32 refl) refl

space_kept : (f g : List ℕ) (x : ℕ) → drop_end is_w f ≡ x ∷ g → drop_end is_w (32 ∷ f) ≡ 32 ∷ x ∷ g
unfolding drop_end is_empty
space_kept f g x e = rw (e, gap_w 32 refl) refl

module _ (w c : List ℕ) (trimmed : drop_end is_w c ≡ c) (some : 0 < length c) where
  ends : (b u : List ℕ) → drop_end is_w b ≡ u → 0 < length u → drop_end is_w (w ++ (select ++ b)) ≡ w ++ (select ++ u)
  ends b u e h =
      let inner : drop_end is_w (select ++ b) ≡ select ++ u = drop_end_kept is_w select b (rw e h) ∙ ap (λ (l : List ℕ). select ++ l) e in
      let long : 0 < length (drop_end is_w (select ++ b)) = rw inner (omega (arith, length-append select u)) in
      drop_end_kept is_w w (select ++ b) long ∙ ap (λ (l : List ℕ). w ++ l) inner

  -- the subquery without W at its end
  query_trimmed : (f : List ℕ) → drop_end is_w (w ++ (select ++ (c ++ (32 ∷ f)))) ≡ query_text w (drop_end is_w f) c
  unfolding query_text spaced
  query_trimmed f = go (drop_end is_w f) refl
    where
      go : (g : List ℕ) → drop_end is_w f ≡ g → drop_end is_w (w ++ (select ++ (c ++ (32 ∷ f)))) ≡ w ++ (select ++ (c ++ spaced g))
      go [] e =
          ends (c ++ (32 ∷ f)) c (drop_end_gone is_w c (32 ∷ f) (space_gone f e) ∙ trimmed) some
          ∙ ap (λ (l : List ℕ). w ++ (select ++ l)) (sym (append-nil c))
      go (x ∷ g) e =
          let s = space_kept f g x e in
          ends (c ++ (32 ∷ f)) (c ++ (32 ∷ x ∷ g))
          (drop_end_kept is_w c (32 ∷ f) (rw s (omega arith)) ∙ ap (λ (l : List ℕ). c ++ l) s)
          (omega (arith, length-append c (32 ∷ x ∷ g)))

-- ---- ` LIMIT `

-- never more than 7 are matched
next_bound : (k c : ℕ) → k ≤ 7 → limit_next k c ≤ 7
unfolding limit_next
next_bound k c h =
    cond_both (eqb k 7) 7 _ (λ (n : ℕ). n ≤ 7) (λ _. omega arith)
    (λ e. cond_le (eqb (upper c) (get_or (ascii " LIMIT ") k 0)) (suc k) _ 7 (omega (arith, eqb-false k 7 e)) (cond_le (eqb (upper c) 32) 1 0 7 (omega arith) (omega arith)))

bound : (xs : List ℕ) (k : ℕ) → k ≤ 7 → limit_from k xs ≤ 7
unfolding limit_from
bound [] k h = h
bound (c ∷ xs) k h = bound xs (limit_next k c) (next_bound k c h)

behind_space : (k : ℕ) (f : List ℕ) → k ≤ 7 → eqb (limit_from k (32 ∷ f)) 7 ≡ (eqb (limit_from 1 f) 7 || leb 6 k)
unfolding limit_from
behind_space k f h =
    rw (limit_space k h)
    (by (leb 6 k) (λ e. rw (e, limit_full f) (sym (or-true (eqb (limit_from 1 f) 7)))) (λ e. rw e (sym (or-false (eqb (limit_from 1 f) 7)))))

-- whether the subquery has one, part by part
query_limited : (w f c : List Marked)
    → has_limit (subquery w f c)
    ≡ limited (limit_from (limit_from 0 (bytes w)) select) (eqb (limit_from 1 (bytes f)) 7) (bytes c)
unfolding limited
query_limited w f c =
    limit_marks (subquery w f c)
    ∙ (ap (λ (l : List ℕ). eqb (limit_from 0 l) 7) (query_bytes w f c)
    ∙ (ap (λ (n : ℕ). eqb n 7)
    (limit_append 0 (bytes w) (select ++ (bytes c ++ (32 ∷ bytes f)))
    ∙ (limit_append (limit_from 0 (bytes w)) select (bytes c ++ (32 ∷ bytes f))
    ∙ limit_append (limit_from (limit_from 0 (bytes w)) select) (bytes c) (32 ∷ bytes f)))
    ∙ behind_space (limit_from (limit_from (limit_from 0 (bytes w)) select) (bytes c)) (bytes f)
    (bound (bytes c) (limit_from (limit_from 0 (bytes w)) select) (bound select (limit_from 0 (bytes w)) (bound (bytes w) 0 (omega arith))))))

-- ---- a line

limit_bytes : (b : Bool) → bytes (cond b [] (lives (ascii " LIMIT 1"))) ≡ limit_text b
unfolding limit_text bytes
limit_bytes true = refl
limit_bytes false = bytes_lives (ascii " LIMIT 1")

module _ (w f c : List Marked) (trimmed : trim_end c ≡ c) (some : 0 < length c) where
  trimmed_bytes : bytes (trim_end (subquery w f c)) ≡ query_text (bytes w) (drop_end is_w (bytes f)) (bytes c)
  unfolding trim_end bytes
  trimmed_bytes =
      let long : length (bytes c) ≡ length c = length-map c byte in
      bytes_end is_w (subquery w f c)
      ∙ (ap (drop_end is_w) (query_bytes w f c)
      ∙ query_trimmed (bytes w) (bytes c) (sym (bytes_end is_w c) ∙ ap bytes trimmed) (omega arith) (bytes f))

  line_bytes : (v : List Marked) (indent : List ℕ)
      → bytes (set_line w f c v) ≡ shared_line (shared_by (bytes w) (bytes f) indent) (bytes c) (bytes v)
  unfolding set_line shared_line line_text
  line_bytes v indent =
      simp (bytes_append, bytes_lives, limit_bytes, trimmed_bytes, query_limited)

module _ (w f i : List Marked) where
  -- all lines
  pub lines_bytes : (cols vars : List (List Marked)) → Trimmed cols
      → bytes (set_lines i (set_line w f) cols vars) ≡ lines_text (shared_by (bytes w) (bytes f) (bytes i)) cols vars
  unfolding set_lines lines_text break_text is_empty bytes
  lines_bytes [] vars t = refl
  lines_bytes (c ∷ cols) [] t = refl
  lines_bytes (c ∷ []) (v ∷ vars) t =
      line_bytes w f c t.0 t.1 v (bytes i) ∙ sym (append-nil (shared_line (shared_by (bytes w) (bytes f) (bytes i)) (bytes c) (bytes v)))
  lines_bytes (c ∷ d ∷ cols) (v ∷ vars) t =
      let rest = set_lines i (set_line w f) (d ∷ cols) vars in
      let s = shared_by (bytes w) (bytes f) (bytes i) in
      bytes_append (set_line w f c v) (live 10 ∷ (i ++ rest))
      ∙ (ap (λ (l : List ℕ). l ++ (10 ∷ bytes (i ++ rest))) (line_bytes w f c t.0 t.1 v (bytes i))
      ∙ ap (λ (l : List ℕ). shared_line s (bytes c) (bytes v) ++ (10 ∷ l))
      (bytes_append i rest ∙ ap (λ (l : List ℕ). bytes i ++ l) (lines_bytes (d ∷ cols) vars t.2)))

-- ---- the indentation

pub indentation_bytes : (t : List Marked) → bytes (indentation t) ≡ last_line (bytes t)
unfolding indentation last_line
indentation_bytes t =
    bytes_reverse (take_while (of_byte (λ c. not (eqb c 10))) (reverse t))
    ∙ ap reverse (bytes_while (λ c. not (eqb c 10)) (reverse t) ∙ ap (take_while (λ c. not (eqb c 10))) (bytes_reverse t))
