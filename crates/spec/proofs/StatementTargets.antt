-- Pass 3 finds the target of a text's first statement that has one, where statements are the parts between live `;`, and
-- none exactly if no statement has one. Assumes nothing.
use Rattle.std.specs.Prelude.{Option, Some, None}
use mathlib.Core.Path.{◌≡◌, refl, sym, ◌∙◌}
use mathlib.Core.List.{List, [], ◌∷◌}
use mathlib.Core.Logic.{◌↔◌, ◌⊎◌, inl, inr, ⊎_elim}
use Prim.Native.Nat.{ℕ, zero, suc, ◌+◌, ◌-◌, ◌≤◌, ◌<◌}
use native.Mathlib.Omega.{arith}
use borrow.Author.Tests.{ltb-true, ltb-false, eqb-true, eqb-false}
use lib.Dec.{eqb, ltb}
use lib.ListN.{length, drop, length-drop}
use lib.Seq.{take_all}
use Rattle.spec.proofs.Apart.{apart}
use Rattle.spec.proofs.Choice.{by, neither_less}
use Rattle.spec.proofs.FirstFound.{either_of, first_some}
use Rattle.spec.proofs.FirstLaws.{LeastOf, NoneOf, found_least, found_none}
use Rattle.spec.proofs.FirstTarget.{Exactly, else_exactly, else_none}
use Rattle.spec.proofs.MapLaws.{text_length}
use Rattle.spec.proofs.RefusalLaws.{target_in}
use Rattle.spec.proofs.RefusalOutcomes.{first_target}
use Rattle.spec.proofs.SearchLaws.{IsByteAt, byte_says}
use Rattle.spec.proofs.TargetLaws.{statement_target_exactly, statement_target_none}
use Rattle.spec.proofs.TargetPlaces.{IsTargetOf, HasNoTarget, IsStatement, IsFirstTarget}
use Rattle.spec.specs.Parts.{part}
use Rattle.spec.proofs.WalkLaws.{pieces_at, pieces_cut, pieces_last}
use Rattle.spec.specs.Map.{Marked, marked_text}
use Rattle.spec.specs.Search.{first, byte_here, pieces}
use Rattle.spec.specs.Assignments.{Target, or_else, statement_target}

-- ---- a list of statements

-- what it finds, and that it finds none, in words
record Finds (ss : List (List Marked)) (F : Target → Type 0) (N : Type 0) : Type 0 where
  some_target : Exactly (first_target ss) F
  no_target_lem : (first_target ss ≡ None) ↔ N

finds_nothing : Finds [] (λ r. ⊥) (⊥ → ⊥)
unfolding first_some
finds_nothing =
    record { some_target = λ r. ((λ e. absurd (apart (cc))), (λ f. absurd f)); no_target_lem = ((λ e f. f), (λ f. refl)) }

-- one statement more in front: its own target counts, and where it has none the others'
module _ (p : List Marked) (ps : List (List Marked)) where
  first_cons : first_target (p ∷ ps) ≡ or_else (statement_target p) (first_target ps)
  unfolding first_some or_else
  first_cons = go (statement_target p)
    where
      go : (o : Option Target) → either_of o (first_target ps) ≡ or_else o (first_target ps)
      go None = refl
      go (Some r) = refl

  finds_cons : {F : Target → Type 0} {N : Type 0} → Finds ps F N
      → Finds (p ∷ ps) (λ r. IsTargetOf p r ⊎ (HasNoTarget p × F r)) (HasNoTarget p × N)
  finds_cons {F} w =
      let no_head = statement_target_none p in
      let none_of = else_none (statement_target p) (first_target ps) in
      record {
        some_target = λ r.
            let x = else_exactly (statement_target_exactly p) w.some_target r in (
              (λ h. ⊎_elim inl (λ y. inr (no_head.0 y.0, y.1)) (x.0 (sym first_cons ∙ h))),
              (λ f. first_cons ∙ x.1 (⊎_elim inl (λ y. inr (no_head.1 y.0, y.1)) f)),
            );
        no_target_lem = (
          (λ h. let y = none_of.0 (sym first_cons ∙ h) in (no_head.0 y.0, w.no_target_lem.0 y.1)),
          (λ y. first_cons ∙ none_of.1 (no_head.1 y.0, w.no_target_lem.1 y.1)),
        );
      }

-- the same in other words that say as much
finds_as : {ss : List (List Marked)} {F G : Target → Type 0} {N M : Type 0} → Finds ss F N
    → ((r : Target) → F r ↔ G r)
    → (N ↔ M)
    → Finds ss G M
finds_as w a b =
    record {
      some_target = λ r. ((λ h. (a r).0 ((w.some_target r).0 h)), (λ y. (w.some_target r).1 ((a r).1 y)));
      no_target_lem = ((λ h. b.0 (w.no_target_lem.0 h)), (λ y. w.no_target_lem.1 (b.1 y)));
    }

-- ---- statements by offsets

-- two statements that start at one offset are one
one_end : (ys : List ℕ) (a e f : ℕ) → IsStatement ys a e → IsStatement ys a f → e ≡ f
one_end ys a e f s u =
    neither_less e f
    (λ l. u.no_cut e s.order l (s.behind (omega (arith, u.fits))))
    (λ l. s.no_cut f u.order l (u.behind (omega (arith, s.fits))))

-- an offset at which a statement starts
abbrev IsStart : List ℕ → ℕ → Type 0
IsStart ys i = 0 < i → IsByteAt ys 59 (i - 1)

-- no statement at or behind i has a target
abbrev NoneFrom : List ℕ → ℕ → Type 0
NoneFrom ys i = (a e : ℕ) → i ≤ a → IsStatement ys a e → HasNoTarget (part a e (marked_text ys))

-- the statements from i on find what they should
abbrev FindsFrom : List ℕ → ℕ → List (List Marked) → Type 0
FindsFrom ys i ss = Finds ss (IsFirstTarget ys i) (NoneFrom ys i)

abbrev from : List ℕ → ℕ → List (List Marked)
from ys i = pieces_at (byte_here 59) (marked_text ys) i

-- the statement that starts at i
module _ (ys : List ℕ) (i e : ℕ) (s : IsStatement ys i e) where
  abbrev here : List Marked
  here = part i e (marked_text ys)

  at_head : (r : Target) → IsTargetOf here r → IsFirstTarget ys i r
  at_head r w =
      record {
        start = i;
        stop = e;
        from = omega arith;
        statement = s;
        target = w;
        least = λ a f l u b. absurd (omega (arith, u.order));
      }

  head_target : (r : Target) (f : IsFirstTarget ys i r) → f.start ≡ i → IsTargetOf here r
  head_target r f z =
      let same = one_end ys i f.stop e (rw z at f.statement) s in
      rw (z, same) at f.target

  head_none : (a f : ℕ) → a ≡ i → IsStatement ys a f → HasNoTarget here → HasNoTarget (part a f (marked_text ys))
  head_none a f z u n =
      let same = one_end ys i f e (rw z at u) s in
      rw (z, same) n

module _ (ys : List ℕ) (i : ℕ) (h : i ≤ length ys) (s : IsStart ys i) where
  -- no live `;` stands at or behind i: the rest is the last statement
  module _ (n : NoneOf (IsByteAt ys 59) i) where
    rest : IsStatement ys i (length ys)
    rest =
        record { order = h; fits = omega arith; before = s; behind = λ l. absurd (omega arith); no_cut = λ k a b. n k a }

    no_later : (a e : ℕ) → i ≤ a → IsStatement ys a e → a ≡ i
    no_later a e l u =
        by (eqb a i) (λ q. eqb-true a i q)
        (λ q.
        let k : i < a = omega (arith, eqb-false a i q) in
        absurd (n (a - 1) (omega arith) (u.before (omega arith))))

    finds_last : FindsFrom ys i (drop i (marked_text ys) ∷ [])
    finds_last =
        let e = length ys in
        let all = take_all (e - i) (drop i (marked_text ys)) (omega (arith, length-drop i (marked_text ys), text_length ys)) in
        rw (sym all)
        (finds_as (finds_cons (part i e (marked_text ys)) [] finds_nothing)
        (λ r. (
          (λ w. ⊎_elim (at_head ys i e rest r) (λ y. absurd y.1) w),
          (λ f. inl (head_target ys i e rest r f (no_later f.start f.stop f.from f.statement))),
        )) (
          (λ w a f l u. head_none ys i e rest a f (no_later a f l u) u w.0),
          (λ m. (m i e (omega arith) rest, (λ f. f))),
        ))

  -- the first one stands at j: up to it stands a statement, and the others start behind it
  module _ (j : ℕ) (m : LeastOf (IsByteAt ys 59) i j) (g : j < length ys) where
    cut : IsStatement ys i j
    cut =
        record { order = m.from; fits = omega arith; before = s; behind = λ _. m.holds; no_cut = λ k a b. m.least k a b }

    past : (a e : ℕ) → i ≤ a → (a ≡ i → ⊥) → IsStatement ys a e → j + 1 ≤ a
    past a e l d u =
        let k : i < a = by (eqb a i) (λ q. absurd (d (eqb-true a i q))) (λ q. omega (arith, eqb-false a i q)) in
        by (ltb (a - 1) j)
        (λ q. absurd (m.least (a - 1) (omega arith) (ltb-true (a - 1) j q) (u.before (omega arith))))
        (λ q. omega (arith, ltb-false (a - 1) j q))

    -- where it has no target, the first behind it is the first
    onward : (r : Target) → HasNoTarget (part i j (marked_text ys)) → IsFirstTarget ys (j + 1) r → IsFirstTarget ys i r
    onward r n f =
        record {
          start = f.start;
          stop = f.stop;
          from = omega (arith, f.from, m.from);
          statement = f.statement;
          target = f.target;
          least = λ a e l u b.
              by (eqb a i)
              (λ q. head_none ys i j cut a e (eqb-true a i q) u n)
              (λ q. f.least a e (past a e l (eqb-false a i q) u) u b);
        }

    parted : (r : Target) → IsFirstTarget ys i r
        → IsTargetOf (part i j (marked_text ys)) r ⊎ (HasNoTarget (part i j (marked_text ys)) × IsFirstTarget ys (j + 1) r)
    parted r f =
        by (eqb f.start i)
        (λ q. inl (head_target ys i j cut r f (eqb-true f.start i q)))
        (λ q.
        let l = past f.start f.stop f.from (eqb-false f.start i q) f.statement in
        let w : IsFirstTarget ys (j + 1) r =
        record {
          start = f.start;
          stop = f.stop;
          from = l;
          statement = f.statement;
          target = f.target;
          least = λ a e k. f.least a e (omega (arith, m.from));
        } in
        inr (f.least i j (omega arith) cut (omega arith), w))

    finds_cut : FindsFrom ys (j + 1) (from ys (j + 1)) → FindsFrom ys i (part i j (marked_text ys) ∷ from ys (j + 1))
    finds_cut w =
        finds_as (finds_cons (part i j (marked_text ys)) (from ys (j + 1)) w)
        (λ r. ((λ y. ⊎_elim (at_head ys i j cut r) (λ f. onward r f.0 f.1) y), parted r)) (
          (λ n a e l u.
              by (eqb a i)
              (λ q. head_none ys i j cut a e (eqb-true a i q) u n.0)
              (λ q. n.1 a e (past a e l (eqb-false a i q) u) u)),
          (λ n. (n i j (omega arith) cut, (λ a e l u. n a e (omega (arith, m.from)) u))),
        )

-- what stands from i on, by the first live `;` at or behind i
from_last : (ys : List ℕ) (i : ℕ) → i ≤ length ys → IsStart ys i → first (byte_here 59) i (marked_text ys) ≡ None
    → FindsFrom ys i (from ys i)
from_last ys i h s e =
    rw (pieces_last (byte_here 59) (marked_text ys) i e)
    (finds_last ys i h s (found_none (byte_here 59) (marked_text ys) (IsByteAt ys 59) (byte_says ys 59) i e))

cut_inside : (ys : List ℕ) (j : ℕ) → IsByteAt ys 59 j → j < length ys
cut_inside ys j m = omega (arith, (byte_says ys 59).inside j m, text_length ys)

from_cut : (ys : List ℕ) (i j : ℕ) → i ≤ length ys → IsStart ys i → first (byte_here 59) i (marked_text ys) ≡ Some j
    → (i ≤ j → j < length ys → IsStart ys (j + 1) → FindsFrom ys (j + 1) (from ys (j + 1)))
    → FindsFrom ys i (from ys i)
from_cut ys i j h s e more =
    rw (pieces_cut (byte_here 59) (marked_text ys) i j e)
    (go (found_least (byte_here 59) (marked_text ys) (IsByteAt ys 59) (byte_says ys 59) i j e))
  where
    go : LeastOf (IsByteAt ys 59) i j → FindsFrom ys i (part i j (marked_text ys) ∷ from ys (j + 1))
    go m =
        let g = cut_inside ys j m.holds in
        let k : j + 1 - 1 ≡ j = omega arith in
        finds_cut ys i h s j m g (more m.from g (λ _. rw k m.holds))

-- from each start on; n bounds how many statements are left
finds : (ys : List ℕ) (n i : ℕ) → i ≤ length ys → length ys < i + n → IsStart ys i → FindsFrom ys i (from ys i)
finds ys zero i h b s = absurd (omega arith)
finds ys (suc n) i h b s = go (λ j. finds ys n (j + 1)) (first (byte_here 59) i (marked_text ys)) refl
  where
    go : ((j : ℕ) → j + 1 ≤ length ys → length ys < j + 1 + n → IsStart ys (j + 1) → FindsFrom ys (j + 1) (from ys (j + 1)))
        → (f : Option ℕ) → first (byte_here 59) i (marked_text ys) ≡ f
        → FindsFrom ys i (from ys i)
    go more None e = from_last ys i h s e
    go more (Some j) e = from_cut ys i j h s e (λ l g. more j (omega arith) (omega arith))

-- ---- the laws

module _ (ys : List ℕ) where
  whole : FindsFrom ys 0 (from ys 0)
  whole = finds ys (suc (length ys)) 0 (omega arith) (omega arith) (λ z. absurd (omega arith))

  -- pass 3 finds r in a text exactly if r is the target of its first statement that has one
  pub target_in_exactly : Exactly (target_in ys) (IsFirstTarget ys 0)
  unfolding target_in pieces
  target_in_exactly = whole.some_target

  -- and none exactly if no statement has one
  pub target_in_none : (target_in ys ≡ None) ↔ ((a e : ℕ) → IsStatement ys a e → HasNoTarget (part a e (marked_text ys)))
  unfolding target_in pieces
  target_in_none =
      ((λ h a e. whole.no_target_lem.0 h a e (omega arith)), (λ n. whole.no_target_lem.1 (λ a e l. n a e)))
