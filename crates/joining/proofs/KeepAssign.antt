-- Pass 3 keeps what a reading reads. Assumes nothing.
use Rattle.std.specs.Prelude.{Option, Some, None}
use Rattle.std.proofs.lemmas.Bool.{cond_both, and_parts, or_left, or_right}
use mathlib.Core.Path.{◌≡◌, refl, sym, ap, ◌∙◌, subst}
use mathlib.Core.Bool.{Bool, true, false, cond, not, ◌&&◌, ◌||◌, false≢true}
use mathlib.Core.List.{List, [], ◌∷◌, ◌++◌, reverse, reverse-cons, reverse-append, reverse-reverse, append_assoc}
use Prim.Native.Nat.{ℕ, ◌+◌}
use borrow.Author.Tests.{eqb-true}
use lib.Dec.{eqb}
use lib.ListN.{take, drop, take-append-drop}
use lib.Seq.{drop-drop}
use Rattle.spec.proofs.RefusalOutcomes.{statement_nil}
use Rattle.spec.proofs.ByteSets.{sign_not_ident, sign_not_w, ident_not_w}
use Rattle.spec.proofs.Choice.{by}
use Rattle.spec.proofs.ListLaws.{while_split, while_all, all_append}
use Rattle.spec.proofs.FirstLaws.{first_least}
use Rattle.spec.specs.Bytes.{ascii, is_ident, is_quote, is_w}
use Rattle.spec.specs.Lists.{is_empty, take_while, drop_while, drop_end, all}
use Rattle.spec.specs.Map.{Marked, live, quoted, byte, lives, front_live, of_byte}
use Rattle.spec.specs.Search.{first, starts, needle_here, byte_here, pieces}
use Rattle.spec.specs.Outcome.{Outcome, accepted, refused, ◌⊕◌}
use Rattle.spec.specs.Assignments.{Target, assign_here, statement_target, right_side, starts_name, assignment_at, assignment, checked_statement, statement, join_statements, assignments}
use Rattle.spec.specs.Parts.{trim_end, trim}
use Rattle.spec.specs.Closed.{ends_live}
use Rattle.joining.proofs.Reading.{cut, paste, Reading}
use Rattle.joining.proofs.Parts.{NoQuote, no_quotes, front_drop, Read, ends, back_over, edge_behind}
use Rattle.joining.proofs.Statements.{Shut, shut_append, Statements, FirstOf, statements, ends_append}

-- all bytes of a list read backwards
all_reverse : (f : Marked → Bool) (t : List Marked) → all f t ≡ true → all f (reverse t) ≡ true
unfolding all
all_reverse f [] h = refl
all_reverse f (x ∷ t) h =
    subst (λ (l : List Marked). all f l ≡ true) (sym (reverse-cons x t))
    (all_append f (reverse t) (x ∷ []) ∙ rw (all_reverse f t ((and_parts (f x) (all f t) h).1), (and_parts (f x) (all f t) h).0) refl)

-- a live `:=` at the front
at_assign : (u : List Marked) → (front_live u && starts (ascii ":=") u) ≡ true
    → (y : Marked) × (a : List Marked) × (u ≡ live 58 ∷ y ∷ a) × (byte y ≡ 61)
unfolding front_live starts
at_assign [] h = absurd (false≢true h)
at_assign (quoted c ∷ u) h = absurd (false≢true h)
at_assign (live c ∷ []) h = absurd (false≢true ((and_parts (eqb c 58) false h).1))
at_assign (live c ∷ y ∷ a) h = (
  y,
  a,
  ap (λ (n : ℕ). live n ∷ y ∷ a) (eqb-true c 58 ((and_parts (eqb c 58) (eqb (byte y) 61 && true) h).0)),
  eqb-true (byte y) 61 ((and_parts (eqb (byte y) 61) true ((and_parts (eqb c 58) (eqb (byte y) 61 && true) h).1)).0),
)

-- the text before `:=`, read backwards: W, the name, and what stands before it
back_split : (back : List Marked) →
    let b = drop_while (of_byte is_w) back in
    reverse back ≡ reverse (drop_while (of_byte is_ident) b) ++ (reverse (take_while (of_byte is_ident) b) ++ reverse (take_while (of_byte is_w) back))
back_split back =
    let b = drop_while (of_byte is_w) back in
    let n = take_while (of_byte is_ident) b in
    let r = drop_while (of_byte is_ident) b in
    let w = take_while (of_byte is_w) back in
    ap reverse (sym (while_split (of_byte is_w) back))
    ∙ (reverse-append w b
    ∙ (ap (λ (z : List Marked). z ++ reverse w) (ap reverse (sym (while_split (of_byte is_ident) b)) ∙ reverse-append n r)
    ∙ append_assoc (reverse r) (reverse n) (reverse w)))

module _ (k : Reading) where
  -- read with a `;` behind it
  abbrev pub Piece : List Marked → Type 0
  Piece t = Read k k.start (t ++ (live 59 ∷ []))

  piece_front : (t : List Marked) → Piece t → Piece (drop_while (of_byte is_w) t)
  unfolding drop_while of_byte
  piece_front [] p = p
  piece_front (x ∷ t) p =
      by (is_w (byte x))
      (λ e. rw e (piece_front t (subst (λ (s : k.State). Read k s (t ++ (live 59 ∷ []))) (k.white x e p.0) p.1)))
      (λ e. rw e p)

  piece_end : (f : ℕ → Bool) → ((c : ℕ) → f c ≡ true → (is_w c || eqb c 59) ≡ true)
      → (t : List Marked) (s : k.State) → Read k s (t ++ (live 59 ∷ [])) → Read k s (drop_end (of_byte f) t ++ (live 59 ∷ []))
  unfolding drop_end of_byte is_empty
  piece_end f h [] s r = r
  piece_end f h (x ∷ t) s r = go (drop_end (of_byte f) t) (piece_end f h t (k.after s x) r.1)
    where
      go : (u : List Marked) → Read k (k.after s x) (u ++ (live 59 ∷ [])) → Read k s (cond (f (byte x) && is_empty u) [] (x ∷ u) ++ (live 59 ∷ []))
      go [] w =
          by (f (byte x))
          (λ e. rw e (k.tail s x (h (byte x) e) r.0 w.0, tt))
          (λ e. rw e (r.0, w))
      go (y ∷ u) w = by (f (byte x)) (λ e. rw e (r.0, w)) (λ e. rw e (r.0, w))

  white_ends : (c : ℕ) → is_w c ≡ true → (is_w c || eqb c 59) ≡ true
  white_ends c e = or_left (is_w c) (eqb c 59) e

  piece_trim : (t : List Marked) → Piece t → Piece (trim t)
  unfolding trim trim_end
  piece_trim t p = piece_end is_w white_ends (drop_while (of_byte is_w) t) k.start (piece_front t p)

  piece_right : (t : List Marked) → Piece t → Piece (right_side t)
  unfolding right_side
  piece_right t p =
      piece_trim (drop_end (of_byte (λ c. eqb c 59)) (trim t))
      (piece_end (λ c. eqb c 59) (λ c e. or_right (is_w c) (eqb c 59) e) (trim t) k.start (piece_trim t p))

  -- a word leaves a state that may have a space behind it
  before_space_word : (n : List Marked) (s : k.State) → all (of_byte is_ident) n ≡ true → NoQuote n → Read k s n → k.rest (ends k s n) ≡ true → k.before_space s ≡ true
      → k.before_space (ends k s n) ≡ true
  unfolding all of_byte
  before_space_word [] s a q r h f = f
  before_space_word (x ∷ n) s a q r h f =
      let i = (and_parts (is_ident (byte x)) (all (of_byte is_ident) n) a).0 in
      let z = back_over k n (k.after s x) q.1 r.1 h in
      before_space_word n (k.after s x) ((and_parts (is_ident (byte x)) (all (of_byte is_ident) n) a).1) q.1 r.1 h
      (k.settle s x (ident_not_w (byte x) i) r.0 z)

  set_parts : (front name w : List Marked) (y : Marked) (a : List Marked)
      → k.edge (ends k k.start front) ≡ true
      → all (of_byte is_ident) name ≡ true
      → all (of_byte is_w) w ≡ true
      → byte y ≡ 61
      → Read k k.start (front ++ (name ++ (w ++ (live 58 ∷ y ∷ (a ++ (live 59 ∷ []))))))
      → Read k k.start (front ++ (lives (ascii "SET ") ++ (name ++ (lives (ascii " = ") ++ (right_side a ++ (live 59 ∷ []))))))
  unfolding is_quote
  set_parts front name w y a e i j b r =
      let ok = k.ok in
      let next = k.after in
      let u = live 58 ∷ y ∷ (a ++ (live 59 ∷ [])) in
      let nn = no_quotes is_ident (sign_not_ident 39 refl) (sign_not_ident 34 refl) name i in
      let nw = no_quotes is_w (sign_not_w 39 refl) (sign_not_w 34 refl) w j in
      let c = cut ok next front (name ++ (w ++ u)) k.start r in
      let F = ends k k.start front in
      let d = cut ok next name (w ++ u) F c.1 in
      let g = cut ok next w u (ends k F name) d.1 in
      let W = ends k (ends k F name) w in
      let zw : k.rest W ≡ true = k.alive W 58 g.1.0 in
      let zn : k.rest (ends k F name) ≡ true = back_over k w (ends k F name) nw g.0 zw in
      let zf : k.rest F ≡ true = back_over k name F nn d.0 zn in
      let f = k.fresh (name ++ (w ++ u)) F (or_left (k.edge F) _ e) zf c.1 in
      let d2 = cut ok next name (w ++ u) k.start f.0 in
      let N = ends k k.start name in
      let g2 = cut ok next w u N d2.1 in
      let zn2 : k.rest N ≡ true = back_over k w N nw g2.0 (k.alive (ends k N w) 58 g2.1.0) in
      let fn : k.before_space N ≡ true = before_space_word name k.start i nn d2.0 zn2 k.before_space_start in
      let C = next W (live 58) in
      let zc : k.rest C ≡ true = k.forth W (live 58) refl g.1.0 zw in
      let qy : is_quote (byte y) ≡ false = rw b refl in
      let iy : is_ident (byte y) ≡ false = ap is_ident b ∙ sign_not_ident 61 refl in
      let ze : k.rest (next C y) ≡ true = k.forth C y qy g.1.1.0 zc in
      let ra = k.fresh (a ++ (live 59 ∷ [])) (next C y) (or_left (k.edge (next C y)) _ (k.edges C y iy)) ze g.1.1.1 in
      let S = k.set_word F zf in
      let E = k.equals N fn in
      let right = right_side a ++ (live 59 ∷ []) in
      paste ok next front _ k.start c.0
      (paste ok next (lives (ascii "SET ")) _ F S.reads
      (rw S.end
      (paste ok next name _ k.start d2.0
      (paste ok next (lives (ascii " = ")) right N E.reads (rw E.end (piece_right a ra.0))))))

  -- the statement with its first live `:=` at this place
  assign_at : (t back u : List Marked) → t ≡ reverse back ++ u → (front_live u && starts (ascii ":=") u) ≡ true → Piece t →
      let b = drop_while (of_byte is_w) back in
      let name = reverse (take_while (of_byte is_ident) b) in
      let front = reverse (drop_while (of_byte is_ident) b) in
      Piece (front ++ (lives (ascii "SET ") ++ (name ++ (lives (ascii " = ") ++ right_side (drop 2 u)))))
  assign_at t back u e h p =
      let q = at_assign u h in
      let y = q.0 in
      let a = q.1 in
      let b = drop_while (of_byte is_w) back in
      let name = reverse (take_while (of_byte is_ident) b) in
      let front = reverse (drop_while (of_byte is_ident) b) in
      let w = reverse (take_while (of_byte is_w) back) in
      let tail = live 58 ∷ y ∷ (a ++ (live 59 ∷ [])) in
      let S = lives (ascii "SET ") in
      let E = lives (ascii " = ") in
      let f : t ++ (live 59 ∷ []) ≡ front ++ (name ++ (w ++ tail)) =
      ap (λ (z : List Marked). z ++ (live 59 ∷ [])) (e ∙ ap (λ (z : List Marked). reverse back ++ z) q.2)
      ∙ (append_assoc (reverse back) (live 58 ∷ y ∷ a) (live 59 ∷ [])
      ∙ (ap (λ (z : List Marked). z ++ tail) (back_split back)
      ∙ (append_assoc front (name ++ w) tail ∙ ap (λ (z : List Marked). front ++ z) (append_assoc name w tail)))) in
      let r = set_parts front name w y a (edge_behind k (drop_while (of_byte is_ident) b) (front_drop is_ident (sign_not_ident 0 refl) b))
      (all_reverse (of_byte is_ident) (take_while (of_byte is_ident) b) (while_all (of_byte is_ident) b))
      (all_reverse (of_byte is_w) (take_while (of_byte is_w) back) (while_all (of_byte is_w) back))
      q.3 (subst (λ (z : List Marked). Read k k.start z) f p) in
      let g : (front ++ (S ++ (name ++ (E ++ right_side a)))) ++ (live 59 ∷ []) ≡ front ++ (S ++ (name ++ (E ++ (right_side a ++ (live 59 ∷ []))))) =
      simp append_assoc in
      subst (λ (z : List Marked). Piece (front ++ (S ++ (name ++ (E ++ right_side (drop 2 z)))))) (sym q.2)
      (subst (λ (z : List Marked). Read k k.start z) (sym g) r)

  piece_assignment : (t : List Marked) → Piece t → Piece (assignment t)
  unfolding assignment assignment_at assign_here needle_here
  piece_assignment t p = go (first assign_here 0 t) refl
    where
      go : (f : Option ℕ) → first assign_here 0 t ≡ f → Piece (assignment_at f t)
      go None e = p
      go (Some i) e =
          let l = first_least assign_here t 0 i e in
          let back = reverse (take i t) in
          let d : drop (i + 2) t ≡ drop 2 (drop i t) = sym (drop-drop 2 i t) in
          let s : t ≡ reverse back ++ drop i t = sym (ap (λ (z : List Marked). z ++ drop i t) (reverse-reverse (take i t)) ∙ take-append-drop i t) in
          let b = drop_while (of_byte is_w) back in
          let name = reverse (take_while (of_byte is_ident) b) in
          let front = reverse (drop_while (of_byte is_ident) b) in
          let right = right_side (drop (i + 2) t) in
          cond_both (starts_name name && not (is_empty right))
          (front ++ (lives (ascii "SET ") ++ (name ++ (lives (ascii " = ") ++ right)))) t (λ (z : List Marked). Piece z)
          (λ _. subst (λ (z : List Marked). Piece (front ++ (lives (ascii "SET ") ++ (name ++ (lives (ascii " = ") ++ right_side z))))) (sym d)
          (assign_at t back (drop i t) s l.passes p))
          (λ _. p)

  -- ---- all statements

  abbrev Kept : Outcome (List Marked) → Type 0
  Kept (accepted t) = Shut k k.ok t
  Kept (refused f) = Unit {0}

  -- a statement's outcome, with a `;` behind it
  abbrev KeptOne : Outcome (List Marked) → Type 0
  KeptOne (accepted t) = Shut k k.ok (t ++ (live 59 ∷ []))
  KeptOne (refused f) = Unit {0}

  statement_kept : (t : List Marked) → Piece t → KeptOne (statement t)
  unfolding statement checked_statement ends_live
  statement_kept t p = go (statement_target t)
    where
      go : (r : Option Target) → KeptOne (checked_statement r t)
      go None = record { reads = piece_assignment t p; ended = ends_append (assignment t) (live 59 ∷ []) refl }
      go (Some r) = tt

  join_last : (o : Outcome (List Marked)) → KeptOne o → Kept (o ⊕ (accepted (live 59 ∷ []) ⊕ accepted []))
  unfolding ◌⊕◌
  join_last (accepted t) h = h
  join_last (refused f) h = tt

  join_more : (o r : Outcome (List Marked)) → KeptOne o → Kept r → Kept (o ⊕ (accepted (live 59 ∷ []) ⊕ r))
  unfolding ◌⊕◌
  join_more (accepted t) (accepted u) h g =
      subst (λ (z : List Marked). Shut k k.ok z) (append_assoc t (live 59 ∷ []) u) (shut_append k k.ok (t ++ (live 59 ∷ [])) u h g)
  join_more (accepted t) (refused f) h g = tt
  join_more (refused f) r h g = tt

  join_kept : (s r : List Marked) (ss : List (List Marked)) → Statements k (s ∷ r ∷ ss) → Kept (join_statements (s ∷ r ∷ ss))
  unfolding join_statements
  join_kept s r [] h =
      subst (λ (z : List Marked). Kept (statement s ⊕ (accepted (live 59 ∷ []) ⊕ statement z))) (sym h.1)
      (rw statement_nil (join_last (statement s) (statement_kept s h.0)))
  join_kept s r (q ∷ ss) h = join_more (statement s) (join_statements (r ∷ q ∷ ss)) (statement_kept s h.0) (join_kept r q ss h.1)

  -- pass 3 gives text that is read and ends in a live `;`, or a refusal
  pub assign_kept : (t u : List Marked) → Shut k k.ok t → assignments t ≡ accepted u → Shut k k.ok u
  unfolding assignments
  assign_kept t u h e = subst Kept e (go (pieces (byte_here 59) t) (statements k t h))
    where
      go : (ps : List (List Marked)) → FirstOf k k.start ps → Kept (join_statements ps)
      go [] w = absurd w
      go (s ∷ []) w = absurd w
      go (s ∷ r ∷ ss) w = join_kept s r ss w
