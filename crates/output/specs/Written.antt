-- What a writer has written into its buffer, and how far it counts. Assumes nothing.
use Rattle.std.specs.Prelude.{◌≡◌, ⊤, cond, List, ℕ, ◌+◌, ◌≤◌, leb, length, Result, Ok, Err}
use Rattle.std.specs.Borrow.{MutBor}
use Rattle.std.proofs.lemmas.List.Edits.{sets}
use Rattle.spec.specs.declared.Refusal.TheVariants.{ResultTooLong}
use Rattle.spec.specs.declared.Refusal.{Refusal}
use Rattle.output.specs.declared.Writer.{Writer}

-- the count of a result of k bytes: refusal 6 past 65536
unfoldable pub counted : ℕ → Result ℕ Refusal
counted k = cond (leb k 65536) (Ok k) (Err ResultTooLong)

-- whether there is one, without it
abbrev pub uncounted : Result ℕ Refusal → Result ⊤ Refusal
uncounted (Ok k) = Ok tt
uncounted (Err r) = Err r

-- the same of a writer, which has the count
unfoldable pub checked : ℕ → Result ⊤ Refusal
checked k = uncounted (counted k)

-- a writer at the front of a buffer
pub record Starts (out : MutBor (List ℕ)) (new : Writer) : Type 0 where
  pub same : new.out.ghost_name ≡ out.ghost_name
  pub holds : new.out.now ≡ out.now
  pub count : new.len ≡ 0

-- a writer wrote text: as far as its buffer reaches, and counted all of it
pub record Wrote (old : Writer) (text : List ℕ) (new : Writer) : Type 0 where
  pub same : new.out.ghost_name ≡ old.out.ghost_name
  pub holds : new.out.now ≡ sets old.out.now old.len text
  pub count : new.len ≡ old.len + length text

-- the same of a writer that refuses by 6 past 65536; the buffer keeps its length then too
pub record WroteWithin (old : Writer) (text : List ℕ) (new : Writer) (r : Result ⊤ Refusal) : Type 0 where
  pub same : new.out.ghost_name ≡ old.out.ghost_name
  pub kept : length new.out.now ≡ length old.out.now
  pub answer : r ≡ checked (old.len + length text)
  pub wrote : old.len + length text ≤ 65536 → Wrote old text new
