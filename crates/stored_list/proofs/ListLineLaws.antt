-- The lines in a buffer. Assumes nothing.
use mathlib.Core.Path.{◌≡◌, refl, sym, ap, ◌∙◌}
use mathlib.Core.Bool.{true, false, cond, false≢true}
use mathlib.Core.List.{List, [], ◌∷◌, ◌++◌}
use Prim.Native.Nat.{ℕ, ◌-◌, ◌≤◌, ◌<◌, ◌+◌}
use native.Mathlib.Omega.{arith}
use borrow.Author.Tests.{ltb-true, lt-ltb}
use lib.Dec.{ltb}
use lib.ListN.{length, take, drop, get_or, length-take, length-drop}
use lib.Seq.{sets, get_or-take}
use denote.Ref.{Bor}
use Rattle.std.specs.List.{All}
use Rattle.std.proofs.Common.{Option, Some, None, IfSome}
use Rattle.std.proofs.lemmas.List.{get_or-drop}
use Rattle.std.proofs.lemmas.Option.{none-some}
use Rattle.std.proofs.lemmas.List.Elements.{All-append}
use Rattle.std.proofs.lemmas.Fn.{FoldsTo-push}
use Rattle.output.proofs.StoreLaws.{front_stored}
use Rattle.spec.proofs.Choice.{by}
use Rattle.stored_list.specs.Fields.{part_of, place_of}
use Rattle.stored_list.proofs.FieldLaws.{part_in, place_ge, place_at, place_before}
use Rattle.stored_list.specs.ListLines.{line_at, start_after, newline_at, line_from, first_line, FirstRead, left_after, is_held, NextLine, LineIn, IsWhole, HandsLines}
use Rattle.stored_list.specs.declared.lines.Line.{Line}

-- ---- lines, from what the code computes

-- where the next newline stands in the bytes read
pub newline_read : (n i : ℕ) (xs : List ℕ) → place_of 10 i (part_of 0 n xs) ≡ newline_at n i xs
unfolding newline_at
newline_read n i xs = refl

module _ (xs : List ℕ) (b : Line) (s : ℕ) (j : s ≡ start_after b) (r : Option Line) (a : r ≡ line_from s b.filled xs) where
  line_read : r ≡ cond (is_held b xs) (Some (line_at (start_after b) (newline_at b.filled (start_after b) xs) b.filled)) None
  unfolding line_from is_held
  line_read = rw j at a

  pub next_held : (l : Line) → r ≡ Some l → NextLine xs b xs (Some l)
  next_held l q =
      by (is_held b xs)
      (λ t. let e = rw t at line_read in record { held = λ _. (refl, sym q ∙ e); read = λ f. absurd (false≢true (sym f ∙ t)) })
      (λ t. let e = rw t at line_read in absurd (none-some l (sym e ∙ q)))

  not_held : r ≡ None → is_held b xs ≡ false
  not_held q =
      by (is_held b xs)
      (λ t. let e = rw t at line_read in absurd (none-some _ (sym q ∙ e)))
      (λ t. t)

  left_after_lem : drop s (take b.filled xs) ≡ left_after b xs
  unfolding left_after
  left_after_lem = ap (λ (m : ℕ). drop m (take b.filled xs)) j

  module _ (mid ys : List ℕ) (left : ℕ) where
    pub next_read : (r' : Option Line) → r ≡ None → left ≡ length (drop s (take b.filled xs))
        → mid ≡ sets xs 0 (drop s (take b.filled xs)) → FirstRead left ys r' → take left ys ≡ take left mid → NextLine xs b ys r'
    next_read r' h l m f t =
        let w : left ≡ length (left_after b xs) = l ∙ ap length left_after_lem in
        let front : take left mid ≡ drop s (take b.filled xs) =
        front_stored xs mid (drop s (take b.filled xs)) left (sym l)
        (omega (arith, length-drop s (take b.filled xs), length-take b.filled xs)) m in
        record {
          held = λ q. absurd (false≢true (sym (not_held h) ∙ q));
          read = λ _. (rw w at (t ∙ (front ∙ left_after_lem)), rw w at f);
        }

-- ---- a line lies in the bytes read, if those lie in the buffer

module _ (xs : List ℕ) (n s : ℕ) (h : n ≤ length xs) (k : newline_at n s xs < n) where
  read : part_of 0 n xs ≡ take n xs
  read = let z : n - 0 ≡ n = omega arith in part_in 0 n xs h (omega arith) ∙ ap (λ (m : ℕ). take m xs) z

  at_end : newline_at n s xs ≡ place_of 10 s (take n xs)
  unfolding newline_at
  at_end = ap (λ (l : List ℕ). place_of 10 s l) read

  line_in : LineIn xs (line_at s (newline_at n s xs) n)
  line_in =
      let e = newline_at n s xs in
      let l = length-take n xs in
      record {
        ordered = rw at_end (place_ge 10 (take n xs) s);
        within = k;
        filled = h;
        newline = sym (get_or-take n xs e 0 k) ∙ rw at_end (place_at 10 (take n xs) s (omega (arith, at_end)));
        whole = λ m u v w. place_before 10 (take n xs) s m u (rw at_end at v) (get_or-take n xs m 0 (omega arith) ∙ w);
      }

first_in : (xs : List ℕ) (n : ℕ) (r : Option Line) → n ≤ length xs → r ≡ first_line n xs → IfSome r (LineIn xs)
unfolding line_from
first_in xs n r h e =
    by (ltb (newline_at n 0 xs) n)
    (λ t. rw (e, t) (line_in xs n 0 h (ltb-true (newline_at n 0 xs) n t)))
    (λ t. rw (e, t) tt)

-- a line that ends within what is filled is held, and the other way round
pub is_held_lem : (xs : List ℕ) (b : Line) → newline_at b.filled (start_after b) xs < b.filled → is_held b xs ≡ true
unfolding is_held
is_held_lem xs b h = lt-ltb (newline_at b.filled (start_after b) xs) b.filled h

held_end : (xs : List ℕ) (b : Line) → is_held b xs ≡ true → newline_at b.filled (start_after b) xs < b.filled
unfolding is_held
held_end xs b t = ltb-true (newline_at b.filled (start_after b) xs) b.filled t

pub next_in : (xs : List ℕ) (b : Line) (ys : List ℕ) (r : Option Line) → NextLine xs b ys r → b.filled ≤ length xs → IfSome r (LineIn ys)
next_in xs b ys r p h =
    by (is_held b xs)
    (λ t. let q = p.held t in rw (q.0, q.1) (line_in xs b.filled (start_after b) h (held_end xs b t)))
    (λ t. let q = (p.read t).1 in first_in ys q.0 r q.2 q.3)

-- ---- lines that are handed over

pub hands_more : {F : Type 0} (step : F → Bor (List ℕ) → F → Type 0) (f g h : F) (x : Bor (List ℕ)) → HandsLines step f g
    → step g x h → IsWhole x.now → HandsLines step f h
hands_more step f g h x e s w =
    let one : All (λ x. IsWhole x.now) (x ∷ []) = λ k d b. let z : k ≡ 0 = omega arith in rw z w in
    (e.0 ++ x ∷ [], All-append (λ x. IsWhole x.now) e.0 (x ∷ []) e.1 one, FoldsTo-push step f e.0 g x h e.2 s)

-- the bytes of a line
pub whole_line : (xs bytes : List ℕ) (r : Line) → LineIn xs r → bytes ≡ part_of r.start r.end xs → IsWhole bytes
whole_line xs bytes r l p k h e =
    let ys = take (r.end - r.start) (drop r.start xs) in
    let q : bytes ≡ ys = p ∙ part_in r.start r.end xs (omega (arith, l.within, l.filled)) l.ordered in
    let n : k < r.end - r.start = omega (arith, ap length q, length-take (r.end - r.start) (drop r.start xs)) in
    l.whole (r.start + k) (omega arith) (omega arith)
    (sym (get_or-drop r.start xs k 0) ∙ (sym (get_or-take (r.end - r.start) (drop r.start xs) k 0 n)
    ∙ (ap (λ (l : List ℕ). get_or l k 0) (sym q) ∙ e)))
