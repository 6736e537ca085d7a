-- The lines of a table by their levels: which levels stand in them, that all are different, and what they give at the table's
-- end. Assumes nothing.
use Rattle.std.specs.Prelude.{Option, Some, None, Result, Ok, Err}
use mathlib.Core.Path.{◌≡◌, refl, sym, ap, ap₂, ◌∙◌}
use mathlib.Core.Bool.{true, false≢true}
use mathlib.Core.List.Memᴰ
use mathlib.Core.List.{List, [], ◌∷◌, map, Memᴰ}
use mathlib.Core.Logic.{◌⊎◌, inl, inr, ⊎_elim}
use Prim.Native.Nat.{ℕ}
use Rattle.spec.proofs.Apart.{apart}
use Rattle.spec.proofs.Choice.{by}
use Rattle.spec.proofs.LineLaws.{entry, text_injective}
use Rattle.spec.proofs.NameOrder.{same_eq, same_refl}
use Rattle.spec.specs.Lists.{concat}
use Rattle.spec.specs.Raise.{action_of}
use Rattle.spec.specs.Levels.{level_name, is_level, Entry, line_text, given_action, or_missing, table_end}
use Rattle.spec.specs.declared.Level.{Level}
use Rattle.spec.specs.declared.Level.TheVariants.{Debug, Log, Info, Notice, Warning, Exception}
use Rattle.spec.specs.declared.Action.{Action}
use Rattle.spec.specs.declared.Action.TheVariants.{Drop}
use Rattle.spec.specs.Raise.{Actions}
use Rattle.spec.specs.declared.Refusal.TheVariants.{MissingLevel}
use Rattle.spec.specs.declared.Refusal.{Refusal}

-- ---- the words

-- the table of these lines
abbrev pub table_text : List Entry → List ℕ
table_text es = concat (map line_text es)

-- one of the lines has this level
abbrev pub Stands : Level → List Entry → Type 0
Stands l es = (e : Entry) × Memᴰ e es × (e.level ≡ l)

-- the levels of the lines are all different
abbrev pub Different : List Entry → Type 0
Different [] = Unit {0}
Different (e ∷ es) = (Stands e.level es → ⊥) × Different es

-- ---- levels

-- what holds of each level holds of all
pub each_level : (P : Level → Type 0) → P Debug → P Log → P Info → P Notice → P Warning → P Exception → (l : Level) → P l
each_level P d l i n w x Debug = d
each_level P d l i n w x Log = l
each_level P d l i n w x Info = i
each_level P d l i n w x Notice = n
each_level P d l i n w x Warning = w
each_level P d l i n w x Exception = x

level_eq : (k l : Level) → is_level k l ≡ true → k ≡ l
unfolding is_level line_text
level_eq k l h =
    let names = same_eq (level_name k) (level_name l) h in
    let lines : line_text (entry k Drop) ≡ line_text (entry l Drop) = rw names in
    ap (λ (e : Entry). e.level) (text_injective (entry k Drop) (entry l Drop) lines)

eq_level : (k l : Level) → k ≡ l → is_level k l ≡ true
unfolding is_level
eq_level k l h = rw h (same_refl (level_name l))

-- ---- the action that lines give a level

-- it is that of one of the lines
pub given_line : (es : List Entry) (l : Level) (a : Action) → given_action es l ≡ Some a → Memᴰ (entry l a) es
unfolding given_action
given_line [] l a h = absurd (apart (cc))
given_line (e ∷ es) l a h =
    by (is_level e.level l)
    (λ q.
    let k : Some e.action ≡ Some a = rw q at h in
    let same : a ≡ e.action = cc in
    Memᴰ.head (ap₂ entry (sym (level_eq e.level l q)) same))
    (λ q. let k : given_action es l ≡ Some a = rw q at h in Memᴰ.tail (given_line es l a k))

-- there is none exactly if no line has the level, and else there is one
pub none_given : (es : List Entry) (l : Level) → given_action es l ≡ None → Stands l es → ⊥
unfolding given_action
none_given [] l h s = Memᴰ.not-nil s.1
none_given (e ∷ es) l h s =
    by (is_level e.level l)
    (λ q. let k : Some e.action ≡ None = rw q at h in apart (cc))
    (λ q.
    let k : given_action es l ≡ None = rw q at h in
    ⊎_elim
    (λ i. false≢true (sym q ∙ eq_level e.level l (sym (ap (λ (f : Entry). f.level) i) ∙ s.2)))
    (λ m. none_given es l k (s.0, m, s.2))
    (Memᴰ.cases_cons s.1))

pub given_none : (es : List Entry) (l : Level) → (Stands l es → ⊥) → given_action es l ≡ None
given_none es l w = go (given_action es l) refl
  where
    go : (o : Option Action) → given_action es l ≡ o → given_action es l ≡ None
    go None h = h
    go (Some a) h = absurd (w (entry l a, given_line es l a h, refl))

pub given_some : (es : List Entry) (l : Level) → Stands l es → (a : Action) × (given_action es l ≡ Some a)
given_some es l s = go (given_action es l) refl
  where
    go : (o : Option Action) → given_action es l ≡ o → (a : Action) × (given_action es l ≡ Some a)
    go None h = absurd (none_given es l h s)
    go (Some a) h = (a, h)

-- of different levels a line is told by its level
pub only_line : (es : List Entry) (e f : Entry) → Different es → Memᴰ e es → Memᴰ f es → e.level ≡ f.level → e ≡ f
only_line [] e f d m n q = absurd (Memᴰ.not-nil m)
only_line (g ∷ es) e f d m n q =
    ⊎_elim
    (λ i. ⊎_elim (λ j. i ∙ sym j) (λ k. absurd (d.0 (f, k, sym q ∙ ap (λ (h : Entry). h.level) i))) (Memᴰ.cases_cons n))
    (λ k. ⊎_elim (λ j. absurd (d.0 (e, k, q ∙ ap (λ (h : Entry). h.level) j))) (λ o. only_line es e f d.1 k o q) (Memᴰ.cases_cons n))
    (Memᴰ.cases_cons m)

-- ---- the table's end

-- t says the lines' actions, or that a level is missing
abbrev Ends : List Entry → ℕ → Result Actions Refusal → Type 0
Ends es n t =
    ((a : Actions) × ((l : Level) → given_action es l ≡ Some (action_of a l)) × (t ≡ Ok a))
    ⊎ ((l : Level) × (given_action es l ≡ None) × (t ≡ Err (MissingLevel n)))

by_level : (es : List Entry) (n : ℕ) (l : Level) (next : Action → Result Actions Refusal)
    → ((a : Action) → given_action es l ≡ Some a → Ends es n (next a))
    → Ends es n (or_missing n (given_action es l) next)
by_level es n l next more = go (given_action es l) refl
  where
    go : (o : Option Action) → given_action es l ≡ o → Ends es n (or_missing n (given_action es l) next)
    go None h = inr (l, h, ap (λ p. or_missing n p next) h)
    go (Some a) h = rw h (more a h)

-- so the table's end says one of the two
pub end_cases : (es : List Entry) (n : ℕ) → Ends es n (table_end es n)
unfolding table_end
end_cases es n =
    by_level es n Debug _ (λ d hd.
    by_level es n Log _ (λ l hl.
    by_level es n Info _ (λ i hi.
    by_level es n Notice _ (λ m hm.
    by_level es n Warning _ (λ w hw.
    by_level es n Exception _ (λ x hx.
    let a : Actions = record { debug = d; log = l; info = i; notice = m; warning = w; exception = x } in
    inl (a, each_level (λ k. given_action es k ≡ Some (action_of a k)) hd hl hi hm hw hx, refl)))))))
