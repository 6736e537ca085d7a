-- The lines of a statement: their lengths, and one line after the other. Assumes nothing.
use Rattle.std.specs.Prelude.{Option, Some, None, is_some}
use Rattle.std.specs.Iterator.{YieldsFirst}
use mathlib.Core.Path.{◌≡◌, refl, sym, ap, ◌∙◌}
use mathlib.Core.Bool.{Bool, true, false, not}
use mathlib.Core.List.{List, [], ◌∷◌, ◌++◌}
use Prim.Native.Nat.{ℕ, ◌+◌, ◌≤◌}
use native.Mathlib.Omega.{arith}
use lib.Dec.{eqb, leb}
use lib.ListN.{length, length-append}
use Rattle.spec.proofs.RefusalBounds.{bytes_length}
use Rattle.spec.proofs.Choice.{by}
use Rattle.spec.specs.Bytes.{ascii}
use Rattle.spec.specs.Lists.{is_empty}
use Rattle.spec.specs.Map.{Marked, bytes}
use Rattle.output.proofs.WriterLaws.{Left, left_start, left_more}
use Rattle.output.specs.Written.{Wrote}
use Rattle.output.specs.declared.Writer.{Writer}
use Rattle.quotes.proofs.ItemLaws.{parts_length}
use Rattle.quotes.proofs.LimitLaws.{limit_space}
use Rattle.quotes.specs.Limits.{limit_from}
use Rattle.set_lines.specs.Lines.{spaced, query_text, limit_text, line_text, limited, break_text, Shared, shared_line, lines_text}

-- ---- a part at a time

pub spaced_none : (f : List ℕ) → length f ≡ 0 → spaced f ≡ []
unfolding spaced
spaced_none [] h = refl
spaced_none (x ∷ f) h = absurd (omega arith)

pub spaced_some : (f : List ℕ) → (length f ≡ 0 → ⊥) → spaced f ≡ (32 ∷ []) ++ f
unfolding spaced
spaced_some [] h = absurd (h refl)
spaced_some (x ∷ f) h = refl

spaced_length : (f : List ℕ) → length (spaced f) ≤ length f + 1
unfolding spaced
spaced_length [] = omega arith
spaced_length (x ∷ f) = omega arith

pub query_length : (w f c : List ℕ) → length (query_text w f c) ≤ length w + length f + length c + 8
unfolding query_text
query_length w f c = simp length-append (omega (arith, spaced_length f))

pub limit_length : (b : Bool) → length (limit_text b) ≤ 8
unfolding limit_text
limit_length true = omega arith
limit_length false = omega arith

pub line_length : (s : Shared) (c v : List ℕ) → length (shared_line s c v) ≤ length s.with_text + length s.from_text + length c + length v + 32
unfolding shared_line line_text
line_length s c v =
    simp length-append (omega (arith, query_length s.with_text s.from_text c, limit_length (limited s.matched s.tail c)))

-- ---- ` LIMIT `, with a space before the FROM part

pub space_first : limit_from 0 (ascii " ") ≡ 1
unfolding limit_from
space_first = limit_space 0 (omega arith)

pub space_last : (k : ℕ) → k ≤ 7 → leb 6 k ≡ eqb (limit_from k (ascii " ")) 7
unfolding limit_from
space_last k h = rw (limit_space k h) (by (leb 6 k) (λ e. rw e refl) (λ e. rw e refl))

-- ---- a line at a time

-- the parts that are left, the next of them taken already
abbrev pub parts_from : Option (List Marked) → List (List Marked) → List (List Marked)
parts_from (Some p) ps = p ∷ ps
parts_from None ps = []

-- a call of `next` gave the first of the parts, if there is one
module _ (r : Option (List Marked)) (ps qs : List (List Marked)) where
  pub parts_taken : YieldsFirst (λ (l : List (List Marked)). l) ps r qs → parts_from r qs ≡ ps
  parts_taken = go r
    where
      go : (r : Option (List Marked)) → YieldsFirst (λ (l : List (List Marked)). l) ps r qs → parts_from r qs ≡ ps
      go (Some p) h = sym h
      go None h = sym h.0

  parts_more : YieldsFirst (λ (l : List (List Marked)). l) ps r qs → is_some r ≡ not (is_empty ps)
  unfolding is_empty
  parts_more = go r
    where
      go : (r : Option (List Marked)) → YieldsFirst (λ (l : List (List Marked)). l) ps r qs → is_some r ≡ not (is_empty ps)
      go (Some p) h = rw h refl
      go None h = rw h.0 refl

-- a part that is left is no longer than the text of all
pub taken_short : (next : Option (List Marked)) (p : List Marked) (ps : List (List Marked)) (n : ℕ) → next ≡ Some p → parts_length (parts_from next ps) ≤ n + 1
    → (length (bytes p) ≤ n) × (parts_length ps ≤ n + 1)
taken_short next p ps n e h = let k = rw e at h in (omega (arith, k, bytes_length p), omega (arith, k))

pub part_short : (p : List Marked) (ps qs : List (List Marked)) (n : ℕ) → ps ≡ p ∷ qs → parts_length ps ≤ n + 1
    → (length (bytes p) ≤ n) × (parts_length qs ≤ n + 1)
part_short p ps qs n e h = let k = ap parts_length e in (omega (arith, h, k, bytes_length p), omega (arith, h, k))

module _ (s : Shared) where
  -- nothing is written yet, and the first part is taken
  pub lines_start : (w : Writer) (cols vars ps qs vs : List (List Marked)) (next : Option (List Marked))
      → ps ≡ cols → YieldsFirst (λ (l : List (List Marked)). l) ps next qs → vs ≡ vars
      → Left w (lines_text s cols vars) w (lines_text s (parts_from next qs) vs)
  lines_start w cols vars ps qs vs next e h q = rw (parts_taken next ps qs h, e, q) (left_start w (lines_text s cols vars))

  -- no column is left, or no variable
  pub lines_over : (next : Option (List Marked)) (cols vars : List (List Marked)) → next ≡ None → lines_text s (parts_from next cols) vars ≡ []
  unfolding lines_text
  lines_over next cols vars e = rw e refl

  pub lines_short : (cols vars : List (List Marked)) → vars ≡ [] → lines_text s cols vars ≡ []
  unfolding lines_text
  lines_short [] vars e = refl
  lines_short (c ∷ cols) vars e = rw e refl

  -- the line of a column and a variable is written, and the break behind it
  pub lines_turn : {a b d e : Writer} (text col var : List ℕ) (more : Bool) (c v : List Marked) (next next₁ : Option (List Marked)) (cols cols₁ vars vars₁ : List (List Marked))
      → Left a text b (lines_text s (parts_from next cols) vars)
      → next ≡ Some c
      → vars ≡ v ∷ vars₁
      → col ≡ bytes c
      → var ≡ bytes v
      → Wrote b (shared_line s col var) d
      → YieldsFirst (λ (l : List (List Marked)). l) cols next₁ cols₁
      → more ≡ is_some next₁
      → Wrote d (break_text s.indent more) e
      → Left a text e (lines_text s (parts_from next₁ cols₁) vars₁)
  unfolding lines_text
  lines_turn text col var more c v next next₁ cols cols₁ vars vars₁ l n q p r x y z w =
      let m = ap (break_text s.indent) (z ∙ parts_more next₁ cols cols₁ y) in
      rw (parts_taken next₁ cols cols₁ y)
      (left_more text _ _ _ (left_more text _ _ _ l (rw (n, q) refl) (rw (p, r) at x)) refl (rw m at w))
