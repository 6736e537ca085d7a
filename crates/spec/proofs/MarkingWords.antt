-- The marking words at an offset of a statement, and the CASEs open there: the walk meets the word that stands, whatever the
-- table's order, and counts as document 01 does. Assumes nothing.
use Rattle.std.specs.Prelude.{Option, Some, None}
use Rattle.std.proofs.lemmas.Bool.{cond_both}
use mathlib.Core.Path.{◌≡◌, refl, sym, ap, ◌∙◌}
use mathlib.Core.Bool.{true, cond, false≢true}
use mathlib.Core.List.{List, reverse}
use mathlib.Core.Logic.{◌↔◌}
use Prim.Native.Nat.{ℕ, zero, suc, ◌+◌, ◌-◌, ◌<◌}
use native.Mathlib.Omega.{arith}
use lib.Dec.{eqb}
use lib.ListN.{length, take, drop, get_or}
use Rattle.spec.proofs.ByteSets.{sign_not_word}
use Rattle.spec.proofs.Apart.{apart}
use Rattle.spec.proofs.RunPlaces.{flags_length, marked_flags}
use Rattle.spec.proofs.MatchLaws.{word_complete, word_sound}
use Rattle.spec.proofs.TargetPlaces.{flags, byte_at, StandsAt, OpensStatement, begin, then, else, loop}
use Rattle.spec.proofs.TargetPlaces.{OpenCases, starts, opens, closes, not_below, stays}
use Rattle.spec.specs.Bytes.{ascii, upper, within, is_lower, is_word}
use Rattle.spec.specs.Map.{Marked, marked, bytes, front_byte}
use Rattle.spec.specs.Search.{word_here}
use Rattle.spec.specs.declared.Mark.{Mark}
use Rattle.spec.specs.declared.Mark.TheVariants as mark
use Rattle.spec.specs.Assignments.{Marking, markings, marking_here, cases_after, cases_behind}

-- ---- the table

-- a word with what it does
abbrev pub marking : List ℕ → Mark → Marking
marking w m = record { word = w; mark = m }

-- the six marking words
pub data IsMarking : Marking → Type 0 where
  case : IsMarking (marking (ascii "CASE") mark.OpensCase)
  end : IsMarking (marking (ascii "END") mark.ClosesCase)
  opening : {w : List ℕ} → OpensStatement w → IsMarking (marking w mark.OpensStatement)

-- they are told apart by their first two bytes
named : ℕ → ℕ → Marking
named x y =
    let second = cond (eqb y 78) (marking (ascii "END") mark.ClosesCase) (marking (ascii "ELSE") mark.OpensStatement) in
    let rest = cond (eqb x 76) (marking (ascii "LOOP") mark.OpensStatement) second in
    let more = cond (eqb x 84) (marking (ascii "THEN") mark.OpensStatement) rest in
    cond (eqb x 67) (marking (ascii "CASE") mark.OpensCase) (cond (eqb x 66) (marking (ascii "BEGIN") mark.OpensStatement) more)

-- m is a word of two bytes or more that its first two name
record Named (m : Marking) : Type 0 where
  long : 1 < length m.word
  is_named : named (upper (get_or m.word 0 0)) (upper (get_or m.word 1 0)) ≡ m

marking_named : {m : Marking} → IsMarking m → Named m
unfolding named upper is_lower within
marking_named case = record { long = omega arith; is_named = refl }
marking_named end = record { long = omega arith; is_named = refl }
marking_named (opening begin) = record { long = omega arith; is_named = refl }
marking_named (opening then) = record { long = omega arith; is_named = refl }
marking_named (opening else) = record { long = omega arith; is_named = refl }
marking_named (opening loop) = record { long = omega arith; is_named = refl }

module _ (t : List Marked) (k : ℕ) where
  named_at : (m : Marking) → IsMarking m → StandsAt m.word t k → named (upper (byte_at t k)) (upper (byte_at t (k + 1))) ≡ m
  named_at m a s =
      let w = marking_named a in
      let z : k ≡ k + 0 = omega arith in
      let x = ap (λ (j : ℕ). upper (byte_at t j)) z ∙ s.matches.same 0 (omega (arith, w.long)) in
      rw (x, s.matches.same 1 w.long) w.is_named

  -- at one place at most one of them stands, so the table's order does not matter
  pub one_marking : (m n : Marking) → IsMarking m → IsMarking n → StandsAt m.word t k → StandsAt n.word t k → m ≡ n
  one_marking m n a b s u = sym (named_at m a s) ∙ named_at n b u

  -- two that do different things never stand at one place
  pub not_both : (m n : Marking) → IsMarking m → IsMarking n → (m.mark ≡ n.mark → ⊥)
      → StandsAt m.word t k
      → StandsAt n.word t k
      → ⊥
  not_both m n a b d s u = d (ap (λ (x : Marking). x.mark) (one_marking m n a b s u))

-- ---- the marking word at an offset

-- the test of a word passes exactly where the word stands
pub word_says : (t : List Marked) (w : List ℕ) (k : ℕ)
    → (word_here is_word w (front_byte (reverse (take k t))) (drop k t) ≡ true) ↔ StandsAt w t k
word_says t w k = (
  (λ h. word_sound is_word (bytes t) (flags t) w (flags_length t) k (sym here ∙ h)),
  (λ s. here ∙ word_complete is_word (bytes t) (flags t) w (flags_length t) k (sign_not_word 0 refl refl) s),
)
  where
    here : word_here is_word w (front_byte (reverse (take k t))) (drop k t)
        ≡ word_here is_word w (front_byte (reverse (take k (marked (bytes t) (flags t))))) (drop k (marked (bytes t) (flags t)))
    here = ap (λ (u : List Marked). word_here is_word w (front_byte (reverse (take k u))) (drop k u)) (sym (marked_flags t))

-- what the walk meets at k
unfoldable pub met : List Marked → ℕ → Option Marking
met t k = marking_here markings (front_byte (reverse (take k t))) (drop k t)

-- it is the word that stands there, and none where none does
pub data Met (t : List Marked) (k : ℕ) : Option Marking → Type 0 where
  word : (m : Marking) → IsMarking m → StandsAt m.word t k → Met t k (Some m)
  nothing : ((m : Marking) → IsMarking m → StandsAt m.word t k → ⊥) → Met t k None

module _ (t : List Marked) (k : ℕ) where
  next : (m : Marking) (rest : Option Marking) → IsMarking m → ((StandsAt m.word t k → ⊥) → Met t k rest)
      → Met t k (cond (word_here is_word m.word (front_byte (reverse (take k t))) (drop k t)) (Some m) rest)
  next m rest a more =
      cond_both (word_here is_word m.word (front_byte (reverse (take k t))) (drop k t)) _ _ (Met t k)
      (λ e. word m a ((word_says t m.word k).0 e))
      (λ e. more (λ s. false≢true (sym e ∙ (word_says t m.word k).1 s)))

  abbrev Not : List ℕ → Type 0
  Not w = StandsAt w t k → ⊥

  none_stands : Not (ascii "CASE") → Not (ascii "END") → Not (ascii "BEGIN") → Not (ascii "THEN") → Not (ascii "ELSE") → Not (ascii "LOOP")
      → {m : Marking} → IsMarking m → Not m.word
  none_stands a b c d e f case = a
  none_stands a b c d e f end = b
  none_stands a b c d e f (opening begin) = c
  none_stands a b c d e f (opening then) = d
  none_stands a b c d e f (opening else) = e
  none_stands a b c d e f (opening loop) = f

  pub met_here : Met t k (met t k)
  unfolding met marking_here markings
  met_here =
      next _ _ case (λ a.
      next _ _ end (λ b.
      next _ _ (opening begin) (λ c.
      next _ _ (opening then) (λ d.
      next _ _ (opening else) (λ e.
      next _ _ (opening loop) (λ f. nothing (λ m. none_stands a b c d e f)))))))

  -- so a word that stands there is met
  met_word : (m : Marking) → IsMarking m → StandsAt m.word t k → met t k ≡ Some m
  met_word m a s = go (met t k) met_here
    where
      go : (o : Option Marking) → Met t k o → o ≡ Some m
      go _ (word n b u) = ap Some (one_marking t k n m b a u s)
      go _ (nothing f) = absurd (f m a s)

-- ---- the open CASEs

-- as the walk counts them
unfoldable pub cases : List Marked → ℕ → ℕ
cases t zero = 0
cases t (suc k) = cases_behind (met t k) (cases t k)

pub case_other : mark.OpensCase ≡ mark.OpensStatement → ⊥
case_other e = apart (cc)

pub end_other : mark.ClosesCase ≡ mark.OpensStatement → ⊥
end_other e = apart (cc)

module _ (t : List Marked) where
  -- one step of the count, by the word that is met
  open_behind : (k : ℕ) (m : Marking) → IsMarking m → StandsAt m.word t k → (n : ℕ) → OpenCases t k n
      → OpenCases t (suc k) (cases_after m.mark n)
  unfolding cases_after
  open_behind k _ case s n o = opens o s
  open_behind k _ end s n o = closed n o
    where
      closed : (n : ℕ) → OpenCases t k n → OpenCases t (suc k) (n - 1)
      closed zero o = not_below o s
      closed (suc n) o = let z : suc n - 1 ≡ n = omega arith in rw z (closes o s)
  open_behind k _ (opening w) s n o =
      stays o
      (λ c. not_both t k _ _ case (opening w) case_other c s)
      (λ c. not_both t k _ _ end (opening w) end_other c s)

  -- as many are open as the walk counts
  pub open_cases : (k : ℕ) → OpenCases t k (cases t k)
  unfolding cases cases_behind
  open_cases zero = starts
  open_cases (suc k) = go (met t k) (met_here t k) (cases t k) (open_cases k)
    where
      go : (q : Option Marking) → Met t k q → (n : ℕ) → OpenCases t k n → OpenCases t (suc k) (cases_behind q n)
      go _ (word m a s) n o = open_behind k m a s n o
      go _ (nothing f) n o = stays o (f _ case) (f _ end)

  -- and no other number
  pub open_same : {k n : ℕ} → OpenCases t k n → n ≡ cases t k
  unfolding cases cases_behind cases_after
  open_same starts = refl
  open_same (opens {k = k} o s) = rw (met_word t k _ case s) (ap suc (open_same o))
  open_same (closes {k = k} o s) = rw (met_word t k _ end s) (omega (arith, open_same o))
  open_same (not_below {k = k} o s) = rw (met_word t k _ end s) (omega (arith, open_same o))
  open_same (stays {k = k} {n = n} o c e) = go (met t k) (met_here t k) (open_same o)
    where
      behind : (m : Marking) → IsMarking m → StandsAt m.word t k → n ≡ cases t k → n ≡ cases_after m.mark (cases t k)
      behind _ case s h = absurd (c s)
      behind _ end s h = absurd (e s)
      behind _ (opening w) s h = h

      go : (q : Option Marking) → Met t k q → n ≡ cases t k → n ≡ cases_behind q (cases t k)
      go _ (word m a s) h = behind m a s h
      go _ (nothing f) h = h

-- so at each offset one number of CASEs is open, and one only
pub some_open : (t : List Marked) (k : ℕ) → (n : ℕ) × OpenCases t k n
some_open t k = (cases t k, open_cases t k)

pub one_open : (t : List Marked) (k m n : ℕ) → OpenCases t k m → OpenCases t k n → m ≡ n
one_open t k m n a b = open_same t a ∙ sym (open_same t b)
