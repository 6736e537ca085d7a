-- Writers one after the other, with and without a stop past 65536. Assumes nothing.
use Rattle.std.specs.Prelude.{⊤, Result, Ok, Err}
use mathlib.Core.Path.{◌≡◌, refl, sym, ap, ◌∙◌}
use mathlib.Core.List.{List, [], ◌++◌}
use Prim.Native.Nat.{ℕ, ◌+◌, ◌≤◌, ◌<◌}
use native.Mathlib.Omega.{arith}
use borrow.Author.Tests.{le-leb, leb-true, leb-false}
use lib.Dec.{leb}
use lib.ListN.{length, length-append}
use lib.Seq.{sets, length-sets}
use Rattle.std.specs.Borrow.{MutBor}
use Rattle.spec.proofs.Apart.{apart}
use Rattle.spec.proofs.Choice.{by}
use Rattle.spec.specs.declared.Refusal.TheVariants.{ResultTooLong}
use Rattle.spec.specs.declared.Refusal.{Refusal}
use Rattle.output.proofs.StoreLaws.{sets_append}
use Rattle.output.specs.Written.{counted, uncounted, checked, Starts, Wrote, WroteWithin}
use Rattle.output.specs.declared.Writer.{Writer}

-- ---- counts that stop

module _ (k : ℕ) where
  pub counted_within : k ≤ 65536 → counted k ≡ Ok k
  unfolding counted
  counted_within h = rw (le-leb k 65536 h)

  pub counted_beyond : 65536 < k → counted k ≡ Err ResultTooLong
  unfolding counted
  counted_beyond h = by (leb k 65536) (λ e. absurd (omega (arith, leb-true k 65536 e))) (λ e. rw e)

  pub checked_within : k ≤ 65536 → checked k ≡ Ok tt
  unfolding checked
  checked_within h = ap uncounted (counted_within h)

  pub checked_beyond : 65536 < k → checked k ≡ Err ResultTooLong
  unfolding checked
  checked_beyond h = ap uncounted (counted_beyond h)

  -- a count that passes is within the buffer, and a refused one is past it
  pub checked_ok : Ok tt ≡ checked k → k ≤ 65536
  unfolding checked counted
  checked_ok e = by (leb k 65536) (λ q. leb-true k 65536 q) (λ q. let f = rw q at e in absurd (apart (cc)))

  pub checked_err : (r : Refusal) → Err r ≡ checked k → (r ≡ ResultTooLong) × (65536 < k)
  unfolding checked counted
  checked_err r e =
      by (leb k 65536)
      (λ q. let f = rw q at e in absurd (apart (cc)))
      (λ q. let f = rw q at e in (cc, leb-false k 65536 q))

-- ---- writers that do not stop

pub wrote_none : (w : Writer) → Wrote w [] w
wrote_none w = record { same = refl; holds = refl; count = omega arith }

pub wrote_same : {a b : Writer} (u v : List ℕ) → u ≡ v → Wrote a u b → Wrote a v b
wrote_same u v e p = rw e at p

-- u and then v
pub wrote_then : {a b c : Writer} (u v : List ℕ) → Wrote a u b → Wrote b v c → Wrote a (u ++ v) c
wrote_then {a} u v p q =
    record {
      same = q.same ∙ p.same;
      holds = q.holds ∙ rw (p.holds, p.count) (sym (sets_append u v a.out.now a.len));
      count = omega (arith, p.count, q.count, length-append u v);
    }

-- all that is written from the front of a buffer on
pub wrote_front : (out : MutBor (List ℕ)) {a b : Writer} (u : List ℕ) → Starts out a → Wrote a u b
    → (b.out.ghost_name ≡ out.ghost_name) × (b.out.now ≡ sets out.now 0 u) × (b.len ≡ length u)
wrote_front out u s p = (p.same ∙ s.same, p.holds ∙ rw (s.holds, s.count) refl, omega (arith, p.count, s.count))

-- the buffer keeps its length
pub wrote_length : {a b : Writer} (u : List ℕ) → Wrote a u b → length b.out.now ≡ length a.out.now
wrote_length {a} u p = ap length p.holds ∙ length-sets a.out.now a.len u

-- ---- in the midst of writing `text`: `rest` is left

pub record Left (old : Writer) (text : List ℕ) (now : Writer) (rest : List ℕ) : Type 0 where
  pub same : now.out.ghost_name ≡ old.out.ghost_name
  pub stores : sets old.out.now old.len text ≡ sets now.out.now now.len rest
  pub counts : old.len + length text ≡ now.len + length rest

-- nothing is written yet
pub left_start : (w : Writer) (text : List ℕ) → Left w text w text
left_start w text = record { same = refl; stores = refl; counts = refl }

-- the buffer keeps its length
pub left_kept : {a b : Writer} (text r : List ℕ) → Left a text b r → length b.out.now ≡ length a.out.now
left_kept {a} {b} text r l = sym (length-sets b.out.now b.len r) ∙ (ap length (sym l.stores) ∙ length-sets a.out.now a.len text)

-- the front of what is left is written
pub left_more : {a b c : Writer} (text r u v : List ℕ) → Left a text b r → r ≡ u ++ v → Wrote b u c → Left a text c v
left_more {a} {b} text r u v l e p =
    record {
      same = p.same ∙ l.same;
      stores = l.stores ∙ rw (e, p.holds, p.count) (sets_append u v b.out.now b.len);
      counts = omega (arith, l.counts, p.count, ap length e, length-append u v);
    }

-- nothing is left
pub left_done : {a b : Writer} (text r : List ℕ) → Left a text b r → r ≡ [] → Wrote a text b
left_done text r l e =
    record {
      same = l.same;
      holds = sym (rw e at l.stores);
      count = omega (arith, l.counts, ap length e);
    }

-- all that is left is written
pub left_all : {a b c : Writer} (text r : List ℕ) → Left a text b r → Wrote b r c → Wrote a text c
left_all text r l p =
    record {
      same = p.same ∙ l.same;
      holds = p.holds ∙ sym l.stores;
      count = omega (arith, l.counts, p.count);
    }

-- ---- writers that stop

-- a text that is written whole, and counted
pub within_text : {a b : Writer} (u : List ℕ) (r : Result ⊤ Refusal) → Wrote a u b → r ≡ checked b.len → WroteWithin a u b r
within_text u r p e = record { same = p.same; kept = wrote_length u p; answer = e ∙ ap checked p.count; wrote = λ _. p }

pub within_same : {a b : Writer} (u v : List ℕ) (r : Result ⊤ Refusal) → u ≡ v → WroteWithin a u b r → WroteWithin a v b r
within_same u v r e p = rw e at p

-- u without a stop, and then v
pub within_then : {a b c : Writer} (u v : List ℕ) (r : Result ⊤ Refusal) → Wrote a u b → WroteWithin b v c r → WroteWithin a (u ++ v) c r
within_then {a} {b} u v r p q =
    let k : b.len + length v ≡ a.len + length (u ++ v) = omega (arith, p.count, length-append u v) in
    record {
      same = q.same ∙ p.same;
      kept = q.kept ∙ wrote_length u p;
      answer = q.answer ∙ ap checked k;
      wrote = λ h. wrote_then u v p (q.wrote (omega arith));
    }

-- nothing is left, and it is within the buffer
pub left_within : {a b : Writer} (text r : List ℕ) → Left a text b r → r ≡ [] → b.len ≤ 65536 → WroteWithin a text b (Ok tt)
left_within {a} {b} text r l e h =
    let p = left_done text r l e in
    within_text text (Ok tt) p (sym (checked_within b.len h))

-- it is too long already
pub left_over : {a b c : Writer} (text r : List ℕ) (q : Refusal) → c.out.ghost_name ≡ a.out.ghost_name → length c.out.now ≡ length a.out.now → Left a text b r → Err q ≡ checked b.len → WroteWithin a text c (Err q)
left_over {a} {b} text r q n h l e =
    let k = checked_err b.len q e in
    record {
      same = n;
      kept = h;
      answer = ap Err k.0 ∙ sym (checked_beyond (a.len + length text) (omega (arith, l.counts, k)));
      wrote = λ small. absurd (omega (arith, l.counts, k));
    }

-- the front of what is left is written, within the buffer
pub left_given : {a b c : Writer} (text r u v : List ℕ) → Left a text b r → r ≡ u ++ v → WroteWithin b u c (Ok tt) → Left a text c v × (c.len ≤ 65536)
left_given {a} {b} text r u v l e p =
    let k = checked_ok (b.len + length u) p.answer in
    let w = p.wrote k in
    (left_more text r u v l e w, omega (arith, k, w.count))

-- or it is too long
pub left_stopped : {a b c : Writer} (text r u v : List ℕ) (q : Refusal) → Left a text b r → r ≡ u ++ v → WroteWithin b u c (Err q) → WroteWithin a text c (Err q)
left_stopped {a} {b} text r u v q l e p =
    let k = checked_err (b.len + length u) q p.answer in
    let w : 65536 < a.len + length text = omega (arith, k, l.counts, ap length e, length-append u v) in
    record {
      same = p.same ∙ l.same;
      kept = p.kept ∙ left_kept text r l;
      answer = ap Err k.0 ∙ sym (checked_beyond (a.len + length text) w);
      wrote = λ h. absurd (omega arith);
    }

-- all of it is written, or it is too long
pub left_rest : {a b c : Writer} (text r : List ℕ) (q : Result ⊤ Refusal) → Left a text b r → WroteWithin b r c q → WroteWithin a text c q
left_rest text r q l p =
    record {
      same = p.same ∙ l.same;
      kept = p.kept ∙ left_kept text r l;
      answer = p.answer ∙ ap checked (sym l.counts);
      wrote = λ h. left_all text r l (p.wrote (omega (arith, l.counts)));
    }

-- what a writer that stops answers and leaves from the front of a buffer on
module _ (out : MutBor (List ℕ)) {a b : Writer} (u : List ℕ) (s : Starts out a) where
  pub within_ok : WroteWithin a u b (Ok tt)
      → (b.out.ghost_name ≡ out.ghost_name) × (Ok b.len ≡ counted (length u)) × (length u ≤ 65536 → b.out.now ≡ sets out.now 0 u)
  within_ok p =
      let k = checked_ok _ p.answer in
      let f = wrote_front out u s (p.wrote k) in
      (f.0, ap Ok f.2 ∙ sym (counted_within (length u) (omega (arith, k))), λ _. f.1)

  pub within_err : (q : Refusal) → WroteWithin a u b (Err q)
      → (b.out.ghost_name ≡ out.ghost_name) × (Err q ≡ counted (length u)) × (length u ≤ 65536 → b.out.now ≡ sets out.now 0 u)
  within_err q p =
      let k = checked_err _ q p.answer in (
        p.same ∙ s.same,
        ap Err k.0 ∙ sym (counted_beyond (length u) (omega (arith, k, s.count))),
        λ h. absurd (omega (arith, k, s.count)),
      )
