-- Note 1: the sum over the spans is the length of the requoted text, at most twice the text's; the checks of requoting, each
-- answer exactly on its condition; and requoting behind the call that tells the length. Assumes nothing.
use Rattle.std.specs.Prelude.{Result, Ok, Err, ⊤}
use Rattle.std.proofs.lemmas.Bool.{cond_both}
use mathlib.Core.Path.{◌≡◌, refl, sym, ap, ◌∙◌}
use mathlib.Core.Bool.{true, false≢true}
use mathlib.Core.List.{List, [], ◌∷◌, map, append-nil}
use Prim.Native.Nat.{ℕ, ◌+◌, ◌*◌, ◌≤◌, ◌<◌}
use mathlib.Core.Logic.{inl, ⊎_elim}
use native.Mathlib.Nat.{not-suc-le-zero}
use native.Mathlib.Omega.{arith}
use borrow.Author.Tests.{leb-true, leb-false, le-leb, lt-leb}
use lib.Dec.{eqb, leb}
use lib.ListN.{length, length-append, drop_of_length-le}
use Rattle.spec.proofs.Apart.{apart}
use Rattle.spec.proofs.Choice.{by}
use Rattle.spec.proofs.CheckLaws.{IsFirstHigh, NoHigh, CheckRefuses, too_long, too_short, not_ascii, check_only, check_always}
use Rattle.spec.proofs.LengthLaws.{requoted_length_lem}
use Rattle.spec.proofs.ListLaws.{keep_le}
use Rattle.spec.specs.Lists.{keep, concat, total}
use Rattle.spec.specs.Requote.{doubled, single_quoted, inside_of, requote_span, requote_lexeme, requoted, quotes_in, requoted_span_length, requoted_lexeme_length, requoted_length}
use Rattle.spec.specs.Spans.{Lexeme, lexemes}
use Rattle.spec.specs.Answers.{search_limit, kept_behind, if_passed, text_check, requoted_length_answer, short_last, requote_check, requote_answer, requote_exit}
use Rattle.spec.specs.declared.Span.{Span}
use Rattle.spec.specs.declared.Span.TheVariants.{Verbatim, Dollar, Code}
use Rattle.spec.specs.declared.Refusal.{Refusal}
use Rattle.spec.specs.declared.Refusal.TheVariants.{TextTooLong, NotAscii, BufferTooShort}

-- ---- the length

-- a text with every `'` doubled has one byte more for each
pub doubled_length : (xs : List ℕ) → length (doubled xs) ≡ length xs + quotes_in xs
unfolding doubled quotes_in keep
doubled_length [] = refl
doubled_length (c ∷ cs) =
    by (eqb c 39) (λ e. simp e (omega (arith, doubled_length cs))) (λ e. simp e (omega (arith, doubled_length cs)))

pub quotes_le : (xs : List ℕ) → quotes_in xs ≤ length xs
unfolding quotes_in
quotes_le xs = keep_le (λ c. eqb c 39) xs

pub doubled_le : (xs : List ℕ) → length (doubled xs) ≤ 2 * length xs
doubled_le xs = omega (arith, doubled_length xs, quotes_le xs)

-- in single quotes two more
pub long_quoted : (xs : List ℕ) → length (single_quoted xs) ≡ length (doubled xs) + 2
unfolding single_quoted
long_quoted xs = omega (arith, length-append (doubled xs) (39 ∷ []))

-- what becomes of a span
pub span_length : (s : Span) (text : List ℕ) → requoted_span_length s text ≡ length (requote_span s text)
unfolding requoted_span_length requote_span
span_length (Verbatim n) text = refl
span_length (Dollar d) text = omega (arith, long_quoted (inside_of d text), doubled_length (inside_of d text))
span_length (Code n) text = refl

-- Note 1: the number is the length of the requoted text, for every byte string
pub requoted_exactly : (xs : List ℕ) → requoted_length xs ≡ length (requoted xs)
unfolding requoted_length requoted total concat requoted_lexeme_length requote_lexeme
requoted_exactly xs = go (lexemes xs)
  where
    go : (ls : List Lexeme) → total requoted_lexeme_length ls ≡ length (concat (map requote_lexeme ls))
    go [] = refl
    go (l ∷ ls) =
        omega (
          arith,
          span_length l.span l.text,
          length-append (requote_span l.span l.text) (concat (map requote_lexeme ls)),
          go ls,
        )

-- and at most twice the text's
pub requoted_twice : (xs : List ℕ) → requoted_length xs ≤ 2 * length xs
requoted_twice xs = omega (arith, requoted_exactly xs, requoted_length_lem xs)

-- ---- the checks

-- requoting's checks, by those of the text and the lent length
module _ (xs lent : List ℕ) where
  pub text_refused : (r : Refusal) → text_check xs ≡ Err r → requote_check xs lent ≡ Err r
  unfolding requote_check
  text_refused r e = rw e refl

  pub text_fits : text_check xs ≡ Ok tt → length (requoted xs) ≤ length lent → requote_check xs lent ≡ Ok tt
  unfolding requote_check
  text_fits e h = rw (e, requoted_exactly xs, le-leb (length (requoted xs)) (length lent) h) refl

  pub text_short : text_check xs ≡ Ok tt → length lent < length (requoted xs) → requote_check xs lent ≡ Err BufferTooShort
  unfolding requote_check
  text_short e h = rw (e, requoted_exactly xs, lt-leb (length (requoted xs)) (length lent) h) refl

-- the condition of each refusal of requoting: no other is given
pub data RequoteRefuses (xs lent : List ℕ) (r : Refusal) : Type 0 where
  long : r ≡ TextTooLong → search_limit < length xs → RequoteRefuses xs lent r
  high : {i : ℕ} → r ≡ NotAscii i → length xs ≤ search_limit → IsFirstHigh xs i → RequoteRefuses xs lent r
  short : r ≡ BufferTooShort → length xs ≤ search_limit → NoHigh xs → length lent < length (requoted xs)
      → RequoteRefuses xs lent r

-- the condition of each answer
abbrev pub RequoteCondition : List ℕ → List ℕ → Result ⊤ Refusal → Type 0
RequoteCondition xs lent (Ok tt) = (length xs ≤ search_limit) × NoHigh xs × (length (requoted xs) ≤ length lent)
RequoteCondition xs lent (Err r) = RequoteRefuses xs lent r

module _ (xs lent : List ℕ) where
  holds : RequoteCondition xs lent (requote_check xs lent)
  unfolding requote_check
  holds = behind (text_check xs) refl
    where
      behind : (c : Result ⊤ Refusal) → text_check xs ≡ c → RequoteCondition xs lent (short_last c (leb (requoted_length xs) (length lent)))
      behind (Ok tt) e =
          let p = check_only search_limit true xs [] (Ok tt) e in
          cond_both (leb (requoted_length xs) (length lent)) _ _ (RequoteCondition xs lent)
          (λ y. (p.0, p.2, omega (arith, leb-true (requoted_length xs) (length lent) y, requoted_exactly xs)))
          (λ n. short refl p.0 p.2 (omega (arith, leb-false (requoted_length xs) (length lent) n, requoted_exactly xs)))
      behind (Err r) e = refused (check_only search_limit true xs [] (Err r) e)
        where
          refused : CheckRefuses search_limit true xs [] r → RequoteRefuses xs lent r
          refused (too_long q h) = long q h
          refused (too_short q h n) = absurd (false≢true (sym n))
          refused (not_ascii {i} q h y w) = ⊎_elim (λ f. high q h f) (λ f. absurd (not-suc-le-zero f.1.inside)) w

  -- each answer is given only on its condition
  pub requote_only : (c : Result ⊤ Refusal) → requote_check xs lent ≡ c → RequoteCondition xs lent c
  requote_only c e = rw e at holds

  passes : length xs ≤ search_limit → NoHigh xs → text_check xs ≡ Ok tt
  passes h n = check_always search_limit true xs [] (Ok tt) (h, refl, n, λ k l. absurd (not-suc-le-zero l))

  -- and always on it
  pub requote_always : (c : Result ⊤ Refusal) → RequoteCondition xs lent c → requote_check xs lent ≡ c
  requote_always (Ok tt) h = text_fits xs lent (passes h.0 h.1) h.2
  requote_always (Err r) (long e h) =
      rw e (text_refused xs lent _ (check_always search_limit true xs [] (Err TextTooLong) (too_long refl h)))
  requote_always (Err r) (high {i} e h f) =
      rw e (text_refused xs lent _ (check_always search_limit true xs [] (Err (NotAscii i)) (not_ascii refl h refl (inl f))))
  requote_always (Err r) (short e h n k) = rw e (text_short xs lent (passes h n) k)

-- ---- the two calls together

-- where a length is told, the text passes 1 and 2, and it is that of the requoted text
pub length_told : (xs : List ℕ) (n : ℕ) → requoted_length_answer xs ≡ Ok n → (text_check xs ≡ Ok tt) × (length (requoted xs) ≡ n)
unfolding requoted_length_answer
length_told xs n e = go (text_check xs) e
  where
    go : (c : Result ⊤ Refusal) → if_passed c (requoted_length xs) ≡ Ok n → (c ≡ Ok tt) × (length (requoted xs) ≡ n)
    go (Ok tt) e = let same : requoted_length xs ≡ n = cc in (refl, sym (requoted_exactly xs) ∙ same)
    go (Err r) e = absurd (apart cc)

-- where it is refused, the text does not pass, so requoting is refused alike (`text_refused`)
pub length_refused : (xs : List ℕ) (r : Refusal) → requoted_length_answer xs ≡ Err r → text_check xs ≡ Err r
unfolding requoted_length_answer
length_refused xs r e = go (text_check xs) e
  where
    go : (c : Result ⊤ Refusal) → if_passed c (requoted_length xs) ≡ Err r → c ≡ Err r
    go (Ok tt) e = absurd (apart cc)
    go (Err q) e = let same : q ≡ r = cc in ap Err same

-- that call never gives 3; that it gives nothing but 1 and 2 follows from `length_refused` and `check_only`
pub length_not_short : (xs : List ℕ) → requoted_length_answer xs ≡ Err BufferTooShort → ⊥
length_not_short xs e = go (check_only search_limit true xs [] (Err BufferTooShort) (length_refused xs BufferTooShort e))
  where
    go : CheckRefuses search_limit true xs [] BufferTooShort → ⊥
    go (too_long q h) = apart cc
    go (too_short q h n) = false≢true (sym n)
    go (not_ascii q h y w) = apart cc

module _ (xs lent : List ℕ) (n : ℕ) (e : requoted_length_answer xs ≡ Ok n) where
  -- a buffer of the length that was told passes, and one byte less is 3
  pub told_fits : n ≤ length lent → requote_check xs lent ≡ Ok tt
  told_fits h = let t = length_told xs n e in text_fits xs lent t.0 (omega (arith, t.1))

  pub told_short : length lent < n → requote_check xs lent ≡ Err BufferTooShort
  told_short h = let t = length_told xs n e in text_short xs lent t.0 (omega (arith, t.1))

  -- so what was told is what requoting answers, and a buffer of that length holds the requoted text and nothing else
  pub told_answer : n ≤ length lent → requote_answer xs lent ≡ Ok n
  unfolding requote_answer
  told_answer h = rw (told_fits h) (ap Ok (requoted_exactly xs ∙ (length_told xs n e).1))

  pub told_exit : length lent ≡ n → requote_exit xs lent ≡ requoted xs
  unfolding requote_exit kept_behind
  told_exit h =
      let long : length lent ≤ length (requoted xs) = omega (arith, (length_told xs n e).1) in
      rw (told_fits (omega arith), drop_of_length-le lent long, append-nil (requoted xs)) refl
