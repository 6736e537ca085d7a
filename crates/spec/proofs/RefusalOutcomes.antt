-- What passes 3 and 5 give: the refusal of the first qualified target or USING clause, and text exactly if there is none.
-- Assumes nothing.
use Rattle.std.specs.Prelude.{Option, Some, None}
use mathlib.Core.Path.{◌≡◌, refl, ◌∙◌}
use mathlib.Core.List.{List, [], ◌∷◌, ◌++◌}
use Prim.Native.Nat.{ℕ}
use Rattle.spec.proofs.FirstFound.{either_of, first_some}
use Rattle.spec.specs.Lists.{is_empty, take_while, drop_while}
use Rattle.spec.specs.Search.{first_from, first}
use Rattle.spec.specs.Map.{Marked, live, bytes}
use Rattle.spec.specs.Outcome.{qualified_target, using_clause, Outcome, accepted, refused, ◌⊕◌}
use Rattle.spec.specs.Assignments.{or_else, assign_target, equals_target, marked_target, assignment_at, Target, statement_target, assignment, checked_statement, statement, join_statements}
use Rattle.spec.specs.Raise.{Fate, rewritten, dropped, passed, refused_clause, Token, kept, raised, fate_text, raise_text, token_text, join_tokens}

-- ---- outcomes joined

pub outcome_none : (o : Outcome (List Marked)) → accepted [] ⊕ o ≡ o
unfolding ◌⊕◌
outcome_none (accepted t) = refl
outcome_none (refused r) = refl

-- ---- statements with their first target

-- the target of the first statement that has one
abbrev pub first_target : List (List Marked) → Option Target
first_target ss = first_some statement_target ss

-- the statements rewritten, a `;` between two, whatever their targets
unfoldable pub assigned_text : List (List Marked) → List Marked
assigned_text [] = []
assigned_text (s ∷ []) = assignment s
assigned_text (s ∷ r ∷ ss) = assignment s ++ (live 59 ∷ assigned_text (r ∷ ss))

-- text, or the refusal of this target
abbrev pub target_or : Option Target → List Marked → Outcome (List Marked)
target_or None t = accepted t
target_or (Some r) t = refused (qualified_target (bytes r.qualifier) (bytes r.name))

check_target : (o : Option Target) (t : List Marked) → checked_statement o t ≡ target_or o (assignment t)
unfolding checked_statement
check_target None t = refl
check_target (Some r) t = refl

-- one part's outcome, then the rest's, by their targets
join_targets : (o p : Option Target) (t u : List Marked) → target_or o t ⊕ target_or p u ≡ target_or (either_of o p) (t ++ u)
unfolding ◌⊕◌
join_targets None None t u = refl
join_targets None (Some r) t u = refl
join_targets (Some r) p t u = refl

-- an empty statement comes through
pub statement_nil : statement [] ≡ accepted []
unfolding statement checked_statement statement_target or_else assign_target equals_target marked_target assignment assignment_at first first_from is_empty take_while drop_while
statement_nil = refl

-- pass 3's outcome is the refusal of the first target, and the statements' text if there is none
pub join_statements_lem : (ss : List (List Marked)) → join_statements ss ≡ target_or (first_target ss) (assigned_text ss)
unfolding join_statements first_some assigned_text statement
join_statements_lem [] = refl
join_statements_lem (s ∷ []) = check_target (statement_target s) s ∙ last (statement_target s)
  where
    last : (o : Option Target) → target_or o (assignment s) ≡ target_or (either_of o None) (assignment s)
    last None = refl
    last (Some r) = refl
join_statements_lem (s ∷ r ∷ ss) =
    rw (check_target (statement_target s) s, join_statements_lem (r ∷ ss), join_targets None (first_target (r ∷ ss)) (live 59 ∷ []) (assigned_text (r ∷ ss)))
    (join_targets (statement_target s) (first_target (r ∷ ss)) (assignment s) (live 59 ∷ assigned_text (r ∷ ss)))

-- ---- tokens with their first refused clause

abbrev pub fate_clause : Fate → Option (List ℕ)
fate_clause (rewritten w m) = None
fate_clause dropped = None
fate_clause (passed t) = None
fate_clause (refused_clause c) = Some c

abbrev pub token_clause : Token → Option (List ℕ)
token_clause (kept x) = None
token_clause (raised r) = fate_clause r.fate

-- the clause of the first RAISE that is refused
abbrev pub first_clause : List Token → Option (List ℕ)
first_clause ps = first_some token_clause ps

-- the text made of the tokens, a refused one left out
unfoldable pub fate_bytes : Fate → List Marked
fate_bytes (rewritten w m) = raise_text w m
fate_bytes dropped = []
fate_bytes (passed t) = t
fate_bytes (refused_clause c) = []

unfoldable pub token_bytes : Token → List Marked
token_bytes (kept x) = x ∷ []
token_bytes (raised r) = fate_bytes r.fate

unfoldable pub tokens_text : List Token → List Marked
tokens_text [] = []
tokens_text (p ∷ ps) = token_bytes p ++ tokens_text ps

abbrev pub clause_or : Option (List ℕ) → List Marked → Outcome (List Marked)
clause_or None t = accepted t
clause_or (Some c) t = refused (using_clause c)

-- pass 5's outcome is the refusal of the first refused RAISE, and the tokens' text if there is none
pub join_tokens_lem : (ps : List Token) → join_tokens ps ≡ clause_or (first_clause ps) (tokens_text ps)
unfolding join_tokens first_some tokens_text token_text fate_text token_bytes fate_bytes ◌⊕◌
join_tokens_lem [] = refl
join_tokens_lem (kept x ∷ ps) = rw (join_tokens_lem ps) (go (first_clause ps) (x ∷ []) (tokens_text ps))
  where
    go : (o : Option (List ℕ)) (t u : List Marked) → accepted t ⊕ clause_or o u ≡ clause_or o (t ++ u)
    go None t u = refl
    go (Some c) t u = refl
join_tokens_lem (raised r ∷ ps) = rw (join_tokens_lem ps) (go r.fate (first_clause ps) (tokens_text ps))
  where
    go : (f : Fate) (o : Option (List ℕ)) (u : List Marked) → fate_text f ⊕ clause_or o u ≡ clause_or (either_of (fate_clause f) o) (fate_bytes f ++ u)
    go (rewritten w m) None u = refl
    go (rewritten w m) (Some c) u = refl
    go dropped None u = refl
    go dropped (Some c) u = refl
    go (passed t) None u = refl
    go (passed t) (Some c) u = refl
    go (refused_clause c) o u = refl
