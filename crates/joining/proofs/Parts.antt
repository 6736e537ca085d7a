-- Parts of a text that is read: what is cut out between two words, trimmed or split is read from the start. Assumes
-- nothing.
use Rattle.std.proofs.lemmas.Bool.{cond_both, not_from_false, and_parts, or_left, or_right}
use mathlib.Core.Path.{◌≡◌, refl, sym, ap, ◌∙◌, subst}
use mathlib.Core.Bool.{Bool, true, false, cond, not, ◌&&◌, false≢true, true≢false}
use mathlib.Core.List.{List, [], ◌∷◌, ◌++◌, map, reverse, reverse-cons}
use Prim.Native.Nat.{ℕ, ◌+◌, ◌-◌}
use native.Mathlib.Omega.{arith}
use borrow.Author.Tests.{eqb-true, leb-true, leb-false}
use lib.Dec.{eqb, leb}
use lib.ListN.{length, take, drop, take-append-drop}
use lib.Seq.{drop-drop}
use Rattle.spec.proofs.ByteSets.{sign_not_w}
use Rattle.spec.proofs.Choice.{by}
use Rattle.spec.specs.Bytes.{within, is_lower, is_ident, is_quote, is_w, upper}
use Rattle.spec.specs.Lists.{is_empty, drop_while, drop_end, all, keep}
use Rattle.spec.specs.Map.{Marked, live, quoted, byte, front_byte, front_live, of_byte}
use Rattle.spec.specs.Search.{Test, starts_ignoring_case, onto_first, pieces_from, pieces}
use Rattle.spec.specs.Parts.{trim_end, trim, part}
use Rattle.joining.proofs.Bools.{quotes, no_quote}
use Rattle.joining.proofs.Reading.{Reads, leaves, leaves_append, cut, Reading}

-- what stands at the front behind a run of such bytes is none of them
pub front_drop : (f : ℕ → Bool) → f 0 ≡ false → (t : List Marked) → f (front_byte (drop_while (of_byte f) t)) ≡ false
unfolding drop_while front_byte of_byte
front_drop f z [] = z
front_drop f z (x ∷ t) = by (f (byte x)) (λ e. rw e (front_drop f z t)) (λ e. rw e e)

-- no byte of the list is a quote
abbrev pub NoQuote : List Marked → Type 0
NoQuote [] = Unit {0}
NoQuote (x ∷ t) = (is_quote (byte x) ≡ false) × NoQuote t

pub no_quotes : (f : ℕ → Bool) → f 39 ≡ false → f 34 ≡ false → (t : List Marked) → all (of_byte f) t ≡ true → NoQuote t
unfolding all of_byte
no_quotes f a b [] h = tt
no_quotes f a b (x ∷ t) h =
    (no_quote f (byte x) a b ((and_parts (f (byte x)) (all (of_byte f) t) h).0), no_quotes f a b t ((and_parts (f (byte x)) (all (of_byte f) t) h).1))

quote_upper : (c : ℕ) → is_quote c ≡ true → is_quote (upper c) ≡ true
unfolding is_quote upper is_lower within
quote_upper c q = quotes (λ (n : ℕ). is_quote (upper n) ≡ true) c q refl refl

-- a byte of a word that matches ignoring case is no quote
pub letter_no_quote : (a c : ℕ) → is_quote (upper a) ≡ false → eqb (upper c) (upper a) ≡ true → is_quote c ≡ false
letter_no_quote a c n e =
    by (is_quote c)
    (λ q. absurd (true≢false (sym (quote_upper c q) ∙ (ap is_quote (eqb-true (upper c) (upper a) e) ∙ n))))
    (λ q. q)

-- w has no quote in it
abbrev pub PlainWord : List ℕ → Type 0
PlainWord [] = Unit {0}
PlainWord (a ∷ w) = (is_quote (upper a) ≡ false) × PlainWord w

module _ (k : Reading) where
  abbrev pub Read : k.State → List Marked → Type 0
  Read s t = Reads k.ok k.after s t

  abbrev pub ends : k.State → List Marked → k.State
  ends s t = leaves k.after s t

  -- a part that may stand by itself
  pub record StandsAlone (t : List Marked) : Type 0 where
    pub reads : Read k.start t
    pub out : k.rest (ends k.start t) ≡ true

  -- and may have a space behind it
  pub record BeforeSpace (t : List Marked) : Type 0 where
    pub reads : Read k.start t
    pub end : k.before_space (ends k.start t) ≡ true

  pub nil_part : StandsAlone []
  nil_part = record { reads = tt; out = k.rest_start }

  -- bytes that are no quotes open and close no literal
  pub back_over : (t : List Marked) (s : k.State) → NoQuote t → Read s t → k.rest (ends s t) ≡ true → k.rest s ≡ true
  back_over [] s n r h = h
  back_over (x ∷ t) s n r h = k.back s x n.0 r.0 (back_over t (k.after s x) n.1 r.1 h)

  -- before a live byte
  pub live_rest : (u : List Marked) (s : k.State) → front_live u ≡ true → Read s u → k.rest s ≡ true
  unfolding front_live
  live_rest [] s l r = absurd (false≢true l)
  live_rest (live c ∷ u) s l r = k.alive s c r.0
  live_rest (quoted c ∷ u) s l r = absurd (false≢true l)

  -- behind a text that ends in no identifier byte
  pub edge_behind : (back : List Marked) → is_ident (front_byte back) ≡ false → k.edge (ends k.start (reverse back)) ≡ true
  unfolding front_byte
  edge_behind [] h = k.edge_start
  edge_behind (x ∷ back) h =
      let s = ends k.start (reverse back) in
      let e : ends k.start (reverse (x ∷ back)) ≡ k.after s x =
      ap (λ (l : List Marked). ends k.start l) (reverse-cons x back) ∙ leaves_append k.after (reverse back) (x ∷ []) k.start in
      rw e (k.edges s x h)

  -- ---- trims

  -- without W at the front
  pub drop_front : (t : List Marked) → StandsAlone t → StandsAlone (drop_while (of_byte is_w) t)
  unfolding drop_while of_byte
  drop_front [] p = p
  drop_front (x ∷ t) p =
      by (is_w (byte x))
      (λ e.
      let a = k.white x e p.reads.0 in
      rw e (drop_front t (record { reads = subst (λ (s : k.State). Read s t) a p.reads.1; out = subst (λ (s : k.State). k.rest (ends s t) ≡ true) a p.out })))
      (λ e. rw e p)

  -- without such bytes at the end, where they are no quotes
  module _ (f : ℕ → Bool) (a : f 39 ≡ false) (b : f 34 ≡ false) where
    drop_end_from : (t : List Marked) (s : k.State) → Read s t → k.rest (ends s t) ≡ true
        → Read s (drop_end (of_byte f) t) × (k.rest (ends s (drop_end (of_byte f) t)) ≡ true)
    unfolding drop_end of_byte is_empty
    drop_end_from [] s r h = (tt, h)
    drop_end_from (x ∷ t) s r h = go (drop_end (of_byte f) t) (drop_end_from t (k.after s x) r.1 h)
      where
        go : (u : List Marked) → Read (k.after s x) u × (k.rest (ends (k.after s x) u) ≡ true)
            → Read s (cond (f (byte x) && is_empty u) [] (x ∷ u)) × (k.rest (ends s (cond (f (byte x) && is_empty u) [] (x ∷ u))) ≡ true)
        go [] w =
            by (f (byte x))
            (λ e. rw e (tt, k.back s x (no_quote f (byte x) a b e) r.0 w.1))
            (λ e. rw e ((r.0, tt), w.1))
        go (y ∷ u) w = by (f (byte x)) (λ e. rw e ((r.0, w.0), w.1)) (λ e. rw e ((r.0, w.0), w.1))

    pub drop_end_lem : (t : List Marked) → StandsAlone t → StandsAlone (drop_end (of_byte f) t)
    drop_end_lem t p = let w = drop_end_from t k.start p.reads p.out in record { reads = w.0; out = w.1 }

  -- without W at the end, a text may have a space behind it
  before_space_from : (t : List Marked) (s : k.State)
      → (is_empty (drop_end (of_byte is_w) t) ≡ true → k.before_space s ≡ true)
      → Read s (drop_end (of_byte is_w) t)
      → k.rest (ends s (drop_end (of_byte is_w) t)) ≡ true
      → k.before_space (ends s (drop_end (of_byte is_w) t)) ≡ true
  unfolding drop_end of_byte is_empty
  before_space_from [] s = λ e r h. e refl
  before_space_from (x ∷ t) s = go (drop_end (of_byte is_w) t) (before_space_from t (k.after s x))
    where
      go : (u : List Marked)
          → ((is_empty u ≡ true → k.before_space (k.after s x) ≡ true) → Read (k.after s x) u → k.rest (ends (k.after s x) u) ≡ true → k.before_space (ends (k.after s x) u) ≡ true)
          → (is_empty (cond (is_w (byte x) && is_empty u) [] (x ∷ u)) ≡ true → k.before_space s ≡ true)
          → Read s (cond (is_w (byte x) && is_empty u) [] (x ∷ u))
          → k.rest (ends s (cond (is_w (byte x) && is_empty u) [] (x ∷ u))) ≡ true
          → k.before_space (ends s (cond (is_w (byte x) && is_empty u) [] (x ∷ u))) ≡ true
      go [] ih =
          cond_both (is_w (byte x) && true) [] (x ∷ []) (λ (l : List Marked). (is_empty l ≡ true → k.before_space s ≡ true) → Read s l → k.rest (ends s l) ≡ true → k.before_space (ends s l) ≡ true)
          (λ c e r h. e refl)
          (λ c e r h. k.settle s x (not_white c) r.0 h)
        where
          not_white : (is_w (byte x) && true) ≡ false → is_w (byte x) ≡ false
          not_white c = by (is_w (byte x)) (λ w. absurd (true≢false (sym (rw w refl) ∙ c))) (λ w. w)
      go (y ∷ u) ih =
          cond_both (is_w (byte x) && false) [] (x ∷ y ∷ u) (λ (l : List Marked). (is_empty l ≡ true → k.before_space s ≡ true) → Read s l → k.rest (ends s l) ≡ true → k.before_space (ends s l) ≡ true)
          (λ c e r h. e refl)
          (λ c e r h. ih (λ z. absurd (false≢true z)) r.1 h)

  pub before_space_end : (t : List Marked) → StandsAlone t → BeforeSpace (trim_end t)
  unfolding trim_end
  before_space_end t p =
      let d = drop_end_lem is_w (sign_not_w 39 refl) (sign_not_w 34 refl) t p in
      record { reads = d.reads; end = before_space_from t k.start (λ _. k.before_space_start) d.reads d.out }

  pub trim_before_space : (t : List Marked) → StandsAlone t → BeforeSpace (trim t)
  unfolding trim
  trim_before_space t p = before_space_end (drop_while (of_byte is_w) t) (drop_front t p)

  -- ---- words

  -- from a word on: what stands before it is a part, and it is read from the start
  pub record AtWord (t u : List Marked) : Type 0 where
    pub before : StandsAlone t
    pub reads : Read k.start u
    pub out : k.rest (ends k.start (t ++ u)) ≡ true → k.rest (ends k.start u) ≡ true

  pub at_word : (back u : List Marked) → is_ident (front_byte back) ≡ false → front_live u ≡ true → Read k.start (reverse back ++ u)
      → AtWord (reverse back) u
  at_word back u i l r =
      let t = reverse back in
      let w = cut k.ok k.after t u k.start r in
      let z = live_rest u (ends k.start t) l w.1 in
      let f = k.fresh u (ends k.start t) (or_left (k.edge (ends k.start t)) (not (is_ident (front_byte u))) (edge_behind back i)) z w.1 in
      record {
        before = record { reads = w.0; out = z };
        reads = f.0;
        out = λ h. f.1 (subst (λ (s : k.State). k.rest s ≡ true) (leaves_append k.after t u k.start) h);
      }

  -- behind the bytes of a word
  past_word : (w : List ℕ) (u : List Marked) (s : k.State) → PlainWord w → starts_ignoring_case w u ≡ true → Read s u → k.rest s ≡ true
      → (z : k.State) × Read z (drop (length w) u) × (k.rest z ≡ true) × (ends s u ≡ ends z (drop (length w) u))
  unfolding starts_ignoring_case
  past_word [] u s p m r h = (s, r, h, refl)
  past_word (a ∷ w) [] s p m r h = absurd (false≢true m)
  past_word (a ∷ w) (x ∷ u) s p m r h =
      let e = (and_parts (eqb (upper (byte x)) (upper a)) (starts_ignoring_case w u) m).0 in
      past_word w u (k.after s x) p.1 ((and_parts (eqb (upper (byte x)) (upper a)) (starts_ignoring_case w u) m).1) r.1
      (k.forth s x (letter_no_quote a (byte x) p.0 e) r.0 h)

  pub behind_word : (w : List ℕ) (u : List Marked) → PlainWord w → starts_ignoring_case w u ≡ true
      → is_ident (front_byte (drop (length w) u)) ≡ false
      → Read k.start u
      → Read k.start (drop (length w) u) × (k.rest (ends k.start u) ≡ true → k.rest (ends k.start (drop (length w) u)) ≡ true)
  behind_word w u p m i r =
      let q = past_word w u k.start p m r k.rest_start in
      let v = drop (length w) u in
      let f = k.fresh v q.0 (or_right (k.edge q.0) (not (is_ident (front_byte v))) (not_from_false (is_ident (front_byte v)) i)) q.2 q.1 in
      (f.0, (λ h. f.1 (subst (λ (s : k.State). k.rest s ≡ true) q.3 h)))

  -- the part from one place to another, where a live byte stands
  pub part_between : (a b : ℕ) (t : List Marked) → Read k.start (drop a t) → front_live (drop b t) ≡ true → StandsAlone (part a b t)
  part_between a b t r l =
      by (leb a b)
      (λ e.
      let h = leb-true a b e in
      let n : a + (b - a) ≡ b = omega arith in
      let d : drop (b - a) (drop a t) ≡ drop b t = drop-drop (b - a) a t ∙ ap (λ (m : ℕ). drop m t) n in
      let s : take (b - a) (drop a t) ++ drop b t ≡ drop a t = ap (λ (u : List Marked). take (b - a) (drop a t) ++ u) (sym d) ∙ take-append-drop (b - a) (drop a t) in
      let w = cut k.ok k.after (take (b - a) (drop a t)) (drop b t) k.start (subst (λ (u : List Marked). Read k.start u) (sym s) r) in
      record { reads = w.0; out = live_rest (drop b t) _ l w.1 })
      (λ e.
      let h = leb-false a b e in
      let n : b - a ≡ 0 = omega arith in
      rw n nil_part)

  -- ---- pieces

  -- all of them are parts, may have a space behind them
  abbrev pub AllParts : List (List Marked) → Type 0
  AllParts [] = Unit {0}
  AllParts (p ∷ ps) = StandsAlone p × AllParts ps

  abbrev pub AllBeforeSpace : List (List Marked) → Type 0
  AllBeforeSpace [] = Unit {0}
  AllBeforeSpace (p ∷ ps) = BeforeSpace p × AllBeforeSpace ps

  -- the first piece is read from s
  abbrev FirstFrom : k.State → List (List Marked) → Type 0
  FirstFrom s [] = ⊥
  FirstFrom s (p ∷ ps) = Read s p × (k.rest (ends s p) ≡ true) × AllParts ps

  first_start : (ps : List (List Marked)) → FirstFrom k.start ps → AllParts ps
  first_start [] f = absurd f
  first_start (p ∷ ps) f = (record { reads = f.0; out = f.1 }, f.2)

  first_onto : (x : Marked) (s : k.State) (ps : List (List Marked)) → k.ok s x ≡ true → FirstFrom (k.after s x) ps → FirstFrom s (onto_first x ps)
  unfolding onto_first
  first_onto x s [] o f = absurd f
  first_onto x s (p ∷ ps) o f = ((o, f.0), f.1, f.2)

  -- a text cut at live commas, whatever more the test asks
  comma_from_lem : (p : Test) → ((back u : List Marked) (x : Marked) → p back (x ∷ u) ≡ true → x ≡ live 44)
      → (t back : List Marked) (s : k.State) → Read s t → k.rest (ends s t) ≡ true → FirstFrom s (pieces_from p back t)
  unfolding pieces_from
  comma_from_lem p c [] back s r h = (tt, h, tt)
  comma_from_lem p c (x ∷ t) back s r h =
      by (p back (x ∷ t))
      (λ e.
      let y = c back t x e in
      let o : k.ok s (live 44) ≡ true = rw y at r.0 in
      let z : k.after s x ≡ k.start = ap (λ (w : Marked). k.after s w) y ∙ k.comma s in
      rw e (
        tt,
        k.alive s 44 o,
        first_start (pieces_from p (x ∷ back) t)
            (comma_from_lem p c t (x ∷ back) k.start (subst (λ (w : k.State). Read w t) z r.1) (subst (λ (w : k.State). k.rest (ends w t) ≡ true) z h)),
      ))
      (λ e. rw e (first_onto x s (pieces_from p (x ∷ back) t) r.0 (comma_from_lem p c t (x ∷ back) (k.after s x) r.1 h)))

  pub comma_parts : (p : Test) → ((back u : List Marked) (x : Marked) → p back (x ∷ u) ≡ true → x ≡ live 44)
      → (t : List Marked) → StandsAlone t → AllParts (pieces p t)
  unfolding pieces
  comma_parts p c t q = first_start (pieces_from p [] t) (comma_from_lem p c t [] k.start q.reads q.out)

  pub trim_parts : (ps : List (List Marked)) → AllParts ps → AllBeforeSpace (map trim ps)
  trim_parts [] a = tt
  trim_parts (p ∷ ps) a = (trim_before_space p a.0, trim_parts ps a.1)

  pub keep_before_space : (f : List Marked → Bool) (ps : List (List Marked)) → AllBeforeSpace ps → AllBeforeSpace (keep f ps)
  unfolding keep
  keep_before_space f [] a = tt
  keep_before_space f (p ∷ ps) a = by (f p) (λ e. rw e (a.0, keep_before_space f ps a.1)) (λ e. rw e (keep_before_space f ps a.1))
