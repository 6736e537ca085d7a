-- An outcome as it is written from some writer on: a turn of a loop writes the front of what is left. Assumes nothing.
use Rattle.std.specs.Prelude.{⊤, Result, Ok, Err}
use mathlib.Core.Path.{◌≡◌, refl, sym, ap, ◌∙◌}
use mathlib.Core.List.{List, [], ◌++◌}
use Prim.Native.Nat.{ℕ}
use lib.ListN.{length}
use Rattle.std.specs.Borrow.{MutBor}
use Rattle.spec.proofs.Apart.{apart}
use Rattle.spec.proofs.BytesLaws.{bytes_append}
use Rattle.spec.proofs.RefusalBounds.{bytes_length}
use Rattle.spec.specs.Map.{Marked, bytes}
use Rattle.spec.specs.Outcome.{handed_back, Outcome, accepted, refused, ◌⊕◌, forget}
use Rattle.spec.specs.declared.Refusal.{Refusal}
use Rattle.output.proofs.WriterLaws.{wrote_none, wrote_same, wrote_then, wrote_front, wrote_length}
use Rattle.output.specs.Passes.{pass_answer, Leaves, WroteOutcome}
use Rattle.output.specs.Written.{Starts, Wrote}
use Rattle.output.specs.declared.Writer.{Writer}

-- whatever completes o' from b on completes o from a on
pub record Turn (a : Writer) (o : Outcome (List Marked)) (b : Writer) (o' : Outcome (List Marked)) : Type 0 where
  pub completes : (c : Writer) (r : Result ⊤ Refusal) → WroteOutcome b o' c r → WroteOutcome a o c r

pub turn_none : (a : Writer) (o : Outcome (List Marked)) → Turn a o a o
turn_none a o = record { completes = λ c r h. h }

pub turn_both : {a b c : Writer} {o o' o'' : Outcome (List Marked)} → Turn a o b o' → Turn b o' c o'' → Turn a o c o''
turn_both s t = record { completes = λ d r h. s.completes d r (t.completes d r h) }

-- the front u, with the bytes ys, is written
pub turn_front : (u : List Marked) (ys : List ℕ) (a b : Writer) (o : Outcome (List Marked)) → bytes u ≡ ys → Wrote a ys b → Turn a (accepted u ⊕ o) b o
unfolding ◌⊕◌
turn_front u ys a b (accepted v) e p =
    let whole : ys ++ bytes v ≡ bytes (u ++ v) = ap (λ (l : List ℕ). l ++ bytes v) (sym e) ∙ sym (bytes_append u v) in
    record { completes = λ c r h. (wrote_same (ys ++ bytes v) (bytes (u ++ v)) whole (wrote_then ys (bytes v) p h.0), h.1) }
turn_front u ys a b (refused x) e p = record { completes = λ c r h. (h.0 ∙ p.same, h.1, h.2) }

-- the front is an outcome that is written
pub turn_ok : (o : Outcome (List Marked)) (a b : Writer) (o' : Outcome (List Marked)) → WroteOutcome a o b (Ok tt) → Turn a (o ⊕ o') b o'
turn_ok (accepted u) a b o' p = turn_front u (bytes u) a b o' refl p.0
turn_ok (refused r) a b o' p = let q = p.2 in absurd (apart (cc))

-- or one that is refused, which is all that counts
pub turn_err : {a b : Writer} (o f more : Outcome (List Marked)) → Turn a o b (f ⊕ more) → (c : Writer) (r : Refusal) → WroteOutcome b f c (Err r) → WroteOutcome a o c (Err r)
unfolding ◌⊕◌
turn_err o (accepted t) more s c r h = let q = h.1 in absurd (apart (cc))
turn_err o (refused f) more s c r h = s.completes c (Err r) h

-- all is written
pub turn_done : {a b : Writer} (o : Outcome (List Marked)) → Turn a o b (accepted []) → WroteOutcome a o b (Ok tt)
unfolding bytes
turn_done {a} {b} o t = t.completes b (Ok tt) (wrote_none b, refl)

-- what a pass answers and leaves that starts at the front of a buffer
module _ (out : MutBor (List ℕ)) (a b : Writer) (s : Starts out a) where
  pub outcome_ok : (o : Outcome (List Marked)) → WroteOutcome a o b (Ok tt) → (b.out.ghost_name ≡ out.ghost_name) × (Ok b.len ≡ pass_answer o) × Leaves o out.now b.out.now
  outcome_ok (accepted t) p =
      let w = wrote_front out (bytes t) s p.0 in
      (w.0, ap Ok (w.2 ∙ bytes_length t), w.1)
  outcome_ok (refused r) p = let q = p.2 in absurd (apart (cc))

  pub outcome_err : (o : Outcome (List Marked)) (r : Refusal) → WroteOutcome a o b (Err r) → (b.out.ghost_name ≡ out.ghost_name) × (Err r ≡ pass_answer o) × Leaves o out.now b.out.now
  outcome_err (accepted t) r p = let q = p.1 in absurd (apart (cc))
  outcome_err (refused e) r p = let g = p.2 in let q : r ≡ (handed_back e).refusal = cc in (p.0 ∙ s.same, ap Err q, p.1)

-- the buffer keeps its length
pub outcome_length : (a b : Writer) (o : Outcome (List Marked)) → WroteOutcome a o b (Ok tt) → length b.out.now ≡ length a.out.now
outcome_length a b (accepted t) p = wrote_length (bytes t) p.0
outcome_length a b (refused r) p = let q = p.2 in absurd (apart (cc))

-- ---- an outcome of which the bytes are known

-- it is this text
pub text_written : {a b : Writer} (o : Outcome (List Marked)) (text : List ℕ) → forget o ≡ accepted text → Wrote a text b → WroteOutcome a o b (Ok tt)
unfolding forget
text_written (accepted t) text e p = let q : text ≡ bytes t = cc in (wrote_same text (bytes t) q p, refl)
text_written (refused r) text e p = absurd (apart (cc))

-- it is nothing
pub none_written : (a : Writer) (o : Outcome (List Marked)) → forget o ≡ accepted [] → WroteOutcome a o a (Ok tt)
none_written a o e = text_written o [] e (wrote_none a)
