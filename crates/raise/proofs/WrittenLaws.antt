-- What is written for a RAISE: how long it is, how it is put together, and which outcome it is. Assumes nothing.
use Rattle.std.specs.Prelude.{Ok, Err}
use mathlib.Core.Path.{◌≡◌, refl, ◌∙◌}
use mathlib.Core.List.{List, ◌++◌}
use Prim.Native.Nat.{ℕ, ◌+◌, ◌≤◌}
use native.Mathlib.Omega.{arith}
use lib.ListN.{length, length-append}
use Rattle.std.specs.Borrow.{Bor}
use Rattle.spec.proofs.Apart.{apart}
use Rattle.spec.specs.Bytes.{ascii}
use Rattle.spec.specs.Map.{Marked}
use Rattle.spec.specs.Outcome.{using_clause, Outcome, accepted, refused, forget}
use Rattle.spec.specs.Raise.{action_name, raise_word}
use Rattle.spec.specs.declared.RaiseType.{RaiseType}
use Rattle.spec.specs.declared.RaiseType.TheVariants.{Abort, Fail, Rollback}
use Rattle.spec.specs.declared.Refusal.TheVariants.{UsingClause}
use Rattle.messages.specs.Readings.{raise_front, raising, raised_as, raised_in}
use Rattle.output.proofs.OutcomeLaws.{text_written}
use Rattle.output.proofs.StoreLaws.{front_stored}
use Rattle.output.proofs.WriterLaws.{wrote_front}
use Rattle.output.specs.Passes.{WroteOutcome}
use Rattle.output.specs.Written.{Starts, Wrote}
use Rattle.output.specs.declared.Writer.{Writer}

pub front_most : (w : RaiseType) → length (raise_front w) ≤ 23
unfolding raise_front raise_word action_name
front_most Abort = omega arith
front_most Fail = omega arith
front_most Rollback = omega arith

raising_length : (w : RaiseType) (m : List ℕ) → length (raising w m) ≡ length (raise_front w) + length m + 2
unfolding raising
raising_length w m = omega (arith, length-append (raise_front w) (m ++ ascii ");"), length-append m (ascii ");"))

pub raising_most : (w : RaiseType) (m xs : List ℕ) → length m ≤ length xs → length (raising w m) ≤ length xs + 25
raising_most w m xs h = omega (arith, raising_length w m, front_most w)

-- ---- an outcome of which the bytes are known

-- it is a refused clause, which is written at the front
clause_front : (a : Writer) {b c : Writer} (o : Outcome (List Marked)) (clause : List ℕ) → forget o ≡ refused (using_clause clause) → length clause ≤ length a.out.now
    → Starts a.out b → Wrote b clause c → WroteOutcome a o c (Err (UsingClause (length clause)))
unfolding forget
clause_front a {b} {c} (accepted t) clause e h s p = absurd (apart (cc))
clause_front a {b} {c} (refused r) clause e h s p =
    let g : r ≡ using_clause clause = cc in
    let x = wrote_front a.out clause s p in
    rw g (x.0, front_stored a.out.now c.out.now clause (length clause) refl h x.1, refl)

module _ (w : RaiseType) (content : List ℕ) (o : Outcome (List Marked)) (e : forget o ≡ raised_as w content) where
  -- a message that is read
  pub message_written : {a b : Writer} (m : Bor (List ℕ)) → raised_as w content ≡ raised_in w (Ok m) → Wrote a (raising w m.now) b → WroteOutcome a o b (Ok tt)
  message_written m q p = text_written o (raising w m.now) (e ∙ q) p

  -- a clause that is refused
  pub clause_written : (a : Writer) {b c : Writer} (m : Bor (List ℕ)) → raised_as w content ≡ raised_in w (Err m) → length m.now ≤ length a.out.now
      → Starts a.out b → Wrote b m.now c → WroteOutcome a o c (Err (UsingClause (length m.now)))
  clause_written a m q h s p = clause_front a o m.now (e ∙ q) h s p
