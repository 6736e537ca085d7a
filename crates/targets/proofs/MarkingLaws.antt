-- The marking word at an offset, and the walk that meets them. Assumes nothing.
use Rattle.std.specs.Prelude.{Option, Some, None, map}
use Rattle.std.specs.List.{find}
use Rattle.std.specs.Option.{option_map}
use Rattle.std.proofs.lemmas.List.{drop_more}
use mathlib.Core.Path.{◌≡◌, refl, sym, ap, ◌∙◌}
use mathlib.Core.Bool.{Bool, true, false, ◌&&◌, and-false, false≢true}
use mathlib.Core.List.{List, [], ◌∷◌, reverse}
use Prim.Native.Nat.{ℕ, ◌+◌, ◌≤◌, ◌<◌}
use native.Mathlib.Omega.{arith}
use borrow.Author.Tests.{ne_eqb}
use lib.Dec.{eqb}
use lib.ListN.{length, take, drop, get_or, drop_of_length-le}
use Rattle.spec.specs.Bytes.{within, is_lower, is_word, upper}
use Rattle.spec.specs.Map.{Marked, live, byte, is_live, front_byte, front_live}
use Rattle.spec.specs.Search.{word_here, keyword_here, starts_ignoring_case}
use Rattle.spec.specs.declared.Mark.{Mark}
use Rattle.spec.specs.declared.Mark.TheVariants.{OpensCase, ClosesCase, OpensStatement}
use Rattle.spec.specs.Assignments as spec
use Rattle.spec.specs.Assignments.{Target, or_else, markings, marking_here, cases_behind, target_behind, marked_target}
use Rattle.spec.proofs.ByteSets.{is_capital, capital_ident, not_word}
use Rattle.std.proofs.lemmas.Bool.{and_parts}
use Rattle.spec.proofs.Choice.{by}
use Rattle.spec.proofs.WalkLaws.{before_next}
use Rattle.targets.proofs.TargetNameLaws.{tells_some, tells_next}
use Rattle.targets.specs.Tells.{Tells}
use Rattle.targets.specs.Words.{marking_of, may_start, seen}
use Rattle.targets.specs.declared.Marking.{Marking}
use Rattle.targets.specs.declared.TargetPlaces.{TargetPlaces}

-- ---- the table

-- the first word of a table that stands in front of t is the one met there
find_met : (back t : List Marked) (table : List Marking) → option_map marking_of (find (λ m. keyword_here m.word.now back t) table) ≡ marking_here (map marking_of table) (front_byte back) t
unfolding keyword_here marking_here
find_met back t [] = refl
find_met back t (m ∷ ms) =
    by (word_here is_word m.word.now (front_byte back) t)
    (λ e. simp e)
    (λ e. simp e (find_met back t ms))

pub met_first : (back t : List Marked) (table : List Marking) (r : Option Marking) → option_map (λ m. m) r ≡ find (λ m. keyword_here m.word.now back t) table
    → seen r ≡ marking_here (map marking_of table) (front_byte back) t
met_first back t table None e = ap (option_map marking_of) e ∙ find_met back t table
met_first back t table (Some m) e = ap (option_map marking_of) e ∙ find_met back t table

-- ---- where no word may start

-- a word's first letter
capital : List ℕ → Bool
capital [] = false
capital (a ∷ w) = is_capital (upper a)

all_capital : List spec.Marking → Bool
all_capital [] = true
all_capital (m ∷ ms) = capital m.word && all_capital ms

module _ (p : ℕ) (x : Marked) (u : List Marked) (h : may_start p x ≡ false) where
  word_off : (w : List ℕ) → capital w ≡ true → word_here is_word w p (x ∷ u) ≡ false
  unfolding word_here front_live starts_ignoring_case capital
  word_off [] c = absurd (false≢true c)
  word_off (a ∷ w) c =
      by (is_live x)
      (λ l.
      by (is_word (byte x))
      (λ b.
      by (is_word p)
      (λ n. simp (n, and-false))
      (λ n. absurd (false≢true (sym (rw (l, b, n) at h)))))
      (λ b.
      let e : eqb (upper (byte x)) (upper a) ≡ false =
      ne_eqb (upper (byte x)) (upper a) (λ q. false≢true (sym (not_word (byte x) b) ∙ capital_ident (byte x) (upper a) c q)) in
      simp (e, l)))
      (λ l. simp l)

  none_off : (ms : List spec.Marking) → all_capital ms ≡ true → marking_here ms p (x ∷ u) ≡ None
  unfolding marking_here all_capital
  none_off [] c = refl
  none_off (m ∷ ms) c = simp (word_off m.word ((and_parts (capital m.word) (all_capital ms) c).0)) (none_off ms ((and_parts (capital m.word) (all_capital ms) c).1))

markings_capital : all_capital markings ≡ true
unfolding all_capital markings capital upper is_lower within
markings_capital = refl

pub no_start : (t : List Marked) (i : ℕ) → i < length t → false ≡ may_start (front_byte (reverse (take i t))) (get_or t i (live 0))
    → seen None ≡ marking_here markings (front_byte (reverse (take i t))) (drop i t)
no_start t i h e =
    sym
    (ap (λ (u : List Marked). marking_here markings (front_byte (reverse (take i t))) u) (drop_more t i (live 0) h)
    ∙ none_off (front_byte (reverse (take i t))) (get_or t i (live 0)) (drop (i + 1) t) (sym e) markings markings_capital)

-- ---- the walk

-- at most one CASE more is open
pub cases_le : (m : Option spec.Marking) (d : ℕ) → cases_behind m d ≤ d + 1
unfolding cases_behind spec.cases_after
cases_le None d = omega arith
cases_le (Some m) d = go m.mark
  where
    go : (m : Mark) → spec.cases_after m d ≤ d + 1
    go OpensCase = omega arith
    go ClosesCase = omega arith
    go OpensStatement = omega arith

walk_front : (d p : ℕ) (t u : List Marked) (x : Marked) → t ≡ x ∷ u
    → marked_target d p t ≡ or_else (target_behind (marking_here markings p t) d t) (marked_target (cases_behind (marking_here markings p t) d) (byte x) u)
unfolding marked_target
walk_front d p t u x q = rw q refl

-- the first target from i on, d CASEs being open there
abbrev pub walk_from : List Marked → ℕ → ℕ → Option Target
walk_from t d i = marked_target d (front_byte (reverse (take i t))) (drop i t)

module _ (t : List Marked) where
  pub walk_start : marked_target 0 0 t ≡ walk_from t 0 0
  unfolding front_byte
  walk_start = refl

  pub walk_end : (d i : ℕ) → length t ≤ i → walk_from t d i ≡ None
  unfolding marked_target
  walk_end d i h = rw (drop_of_length-le t h) refl

  -- m is met at i
  module _ (whole : Option Target) (d i : ℕ) (h : i < length t) (w : whole ≡ walk_from t d i) (m : Option spec.Marking)
      (e : m ≡ marking_here markings (front_byte (reverse (take i t))) (drop i t)) where
    walk_step : whole ≡ or_else (target_behind m d (drop i t)) (walk_from t (cases_behind m d) (i + 1))
    walk_step =
        w ∙ rw (e, ← before_next t i h) (walk_front d (front_byte (reverse (take i t))) (drop i t) (drop (i + 1) t) (get_or t i (live 0)) (drop_more t i (live 0) h))

    -- with a target just past it, or without
    pub walk_found : (p : TargetPlaces) → Tells t (target_behind m d (drop i t)) (Some p) → Tells t whole (Some p)
    walk_found p k = rw walk_step (tells_some t _ _ p k)

    pub walk_more : Tells t (target_behind m d (drop i t)) None → whole ≡ walk_from t (cases_behind m d) (i + 1)
    walk_more k = walk_step ∙ tells_next t _ _ k
