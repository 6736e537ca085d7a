-- What a pass makes of its text: a text, or one of the refusals 4 to 6. Assumes nothing.
use Rattle.std.specs.Prelude.{ℕ, List, [], ◌∷◌, ◌++◌, length}
use Rattle.spec.specs.Map.{Marked, bytes}
use Rattle.spec.specs.declared.Refusal.{Refusal}
use Rattle.spec.specs.declared.Refusal.TheVariants.{QualifiedTarget, UsingClause, ResultTooLong}

-- why a pass refuses its text
pub data PassRefusal : Type 0 where
  -- 4: q and n
  qualified_target : List ℕ → List ℕ → PassRefusal
  -- 5: the clause from USING
  using_clause : List ℕ → PassRefusal
  -- 6: the result exceeds the buffer size
  result_too_long : PassRefusal

-- what is handed back for a refusal: the refusal that the call answers, and what the output holds
pub record HandedBack : Type 0 where
  pub refusal : Refusal
  pub output : List ℕ

-- 4: the output holds `q.n`; 5: it holds the clause from USING; 6: nothing
abbrev pub handed_back : PassRefusal → HandedBack
handed_back (qualified_target q n) =
    record { refusal = QualifiedTarget (length q) (length (q ++ (46 ∷ n))); output = q ++ (46 ∷ n) }
handed_back (using_clause c) = record { refusal = UsingClause (length c); output = c }
handed_back result_too_long = record { refusal = ResultTooLong; output = [] }

-- a text, or a refusal
pub data Outcome (A : Type 0) : Type 0 where
  accepted : A → Outcome A
  refused : PassRefusal → Outcome A

infixr 20 ◌⊕◌
-- one part's outcome, then the rest's: the first refusal counts
unfoldable pub ◌⊕◌ : Outcome (List Marked) → Outcome (List Marked) → Outcome (List Marked)
◌⊕◌ (accepted t) (accepted u) = accepted (t ++ u)
◌⊕◌ (accepted t) (refused r) = refused r
◌⊕◌ (refused r) o = refused r

-- an outcome as bytes, the marks forgotten
abbrev pub Rewriting : Type 0
Rewriting = Outcome (List ℕ)

unfoldable pub forget : Outcome (List Marked) → Rewriting
forget (accepted t) = accepted (bytes t)
forget (refused r) = refused r
