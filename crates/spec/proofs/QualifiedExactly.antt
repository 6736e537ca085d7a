-- Refusal 4 in document 01's words: the passes refuse a text with `q.n` exactly if passes 1 and 2 accept it and the first
-- statement with a qualified target, in the text that pass 3 reads, has `q.n`. Assumes nothing.
use mathlib.Core.Path.{◌≡◌}
use mathlib.Core.List.{List}
use mathlib.Core.Logic.{◌↔◌}
use Prim.Native.Nat.{ℕ}
use Rattle.spec.proofs.RefusalLaws.{after2, Through2, accepted_exactly, qualified_exactly}
use Rattle.spec.proofs.StatementTargets.{target_in_exactly, target_in_none}
use Rattle.spec.proofs.TargetPlaces.{IsStatement, HasNoTarget, IsFirstTarget}
use Rattle.spec.specs.Parts.{part}
use Rattle.spec.specs.Map.{bytes, marked_text}
use Rattle.spec.specs.Assignments.{Target}
use Rattle.spec.specs.Outcome.{qualified_target, accepted, refused}
use Rattle.spec.specs.declared.Level.{Level}
use Rattle.spec.specs.declared.Action.{Action}
use Rattle.spec.specs.Body.{rewriting}

-- 4: passes 1 and 2 accept, and in the text after pass 2 the first statement with a qualified target has `q.n`
pub record HasQualifiedTarget (xs q n : List ℕ) : Type 0 where
  pub before : Through2 xs
  pub target : Target
  pub first : IsFirstTarget (after2 xs) 0 target
  pub qualifier : bytes target.qualifier ≡ q
  pub name : bytes target.name ≡ n

pub qualified_in_words : (act : Level → Action) (xs q n : List ℕ) → (rewriting act xs ≡ refused (qualified_target q n)) ↔ HasQualifiedTarget xs q n
qualified_in_words act xs q n = (
  (λ h.
      let w = (qualified_exactly act xs q n).0 h in
      let f = (target_in_exactly (after2 xs) w.target).0 w.first in
      record { before = w.before; target = w.target; first = f; qualifier = w.qualifier; name = w.name }),
  (λ w.
      let f = (target_in_exactly (after2 xs) w.target).1 w.first in
      (qualified_exactly act xs q n).1
      (record { before = w.before; target = w.target; first = f; qualifier = w.qualifier; name = w.name })),
)

-- where a text is accepted, no statement of the text after pass 2 has a qualified target
pub accepted_no_target : (act : Level → Action) (xs zs : List ℕ) → rewriting act xs ≡ accepted zs
    → (a e : ℕ) → IsStatement (after2 xs) a e → HasNoTarget (part a e (marked_text (after2 xs)))
accepted_no_target act xs zs h = (target_in_none (after2 xs)).0 ((accepted_exactly act xs zs).0 h).before.before.no_target
