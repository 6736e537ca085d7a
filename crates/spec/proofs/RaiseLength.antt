-- How long the text made of a RAISE is, with any action of the levels: at most three times the RAISE's own bytes, as a level
-- with its RAISE has nine bytes at least and the text put for them 25 at most besides the message. So pass 5's result is at
-- most three times its text, and twice would not do. Assumes nothing.
use Rattle.std.specs.Prelude.{Option, Some, None}
use Rattle.std.proofs.lemmas.Bool.{cond_both}
use mathlib.Core.Path.{◌≡◌, refl, sym, ap, ◌∙◌}
use mathlib.Core.Bool.{Bool, true, false≢true}
use mathlib.Core.List.{List, [], ◌∷◌}
use Prim.Native.Nat.{ℕ, zero, suc, ◌+◌, ◌-◌, ◌*◌, ◌≤◌, ◌<◌, zero-le}
use native.Mathlib.Omega.{arith}
use borrow.Author.Tests.{ltb-true, ltb-false, eqb-true}
use lib.Dec.{eqb, ltb}
use lib.ListN.{length, drop, get_or, length-append, length-take, length-drop}
use Rattle.spec.proofs.Apart.{apart}
use Rattle.spec.proofs.ByteSets.{is_capital, capital_ident, ident_not_w, sign_not_ident}
use Rattle.spec.proofs.Choice.{by}
use Rattle.spec.proofs.LengthLaws.{trim_le}
use Rattle.spec.proofs.MapLaws.{text_length}
use Rattle.spec.proofs.RaisePlaces.{IsLevelWord, is_exception_lem, is_notice, is_warning, is_debug, is_log, info_space, info_newline, info_semicolon, LevelEnds, behind_letters, behind_run, IsLevelAt, level_exactly, raise_of}
use Rattle.spec.proofs.RaiseWalk.{raised_pos}
use Rattle.spec.proofs.RefusalBounds.{bytes_length, content_le}
use Rattle.spec.proofs.RefusalLaws.{clause_in, raised_text, raise_done, raise_refused}
use Rattle.spec.proofs.RefusalOutcomes.{fate_bytes, token_bytes, tokens_text}
use Rattle.spec.proofs.UsingPlaces.{MatchesAt, Rewrites, of_clause, of_content, fate_exactly}
use Rattle.spec.specs.Bytes.{ascii, upper, is_lower, is_ident, is_word, within}
use Rattle.spec.specs.Map.{Marked, byte, bytes, lives, marked_text}
use Rattle.spec.specs.Search.{word_here}
use Rattle.spec.specs.Parts.{trim}
use Rattle.spec.specs.Outcome.{accepted}
use Rattle.spec.specs.Raise.{Fate, rewritten, dropped, passed, refused_clause, raise_fate, level_in, level_words, ends_level, level_len, content_of, action_fate, raised_at, Token, raises_from, action_name, raise_word, raise_text}
use Rattle.spec.specs.Body.{raise_pass}
use Rattle.spec.specs.Computed.{computed}
use Rattle.spec.specs.declared.Level.{Level}
use Rattle.spec.specs.declared.RaiseType.{RaiseType}
use Rattle.spec.specs.declared.RaiseType.TheVariants.{Abort, Fail, Rollback}
use Rattle.spec.specs.declared.Action.{Action}
use Rattle.spec.specs.declared.Action.TheVariants.{Drop, Raise}

-- ---- a level has three bytes at least

-- a letter is no W and no `;`
letter_stays : (c : ℕ) → ends_level c ≡ true → is_capital (upper c) ≡ true → ⊥
unfolding ends_level
letter_stays c h e =
    let i = capital_ident c (upper c) e refl in
    by (eqb c 59)
    (λ q. false≢true (sym (sign_not_ident 59 refl) ∙ (ap is_ident (sym (eqb-true c 59 q)) ∙ i)))
    (λ q. false≢true (sym (rw (ident_not_w c i, q) refl) ∙ h))

-- the first three bytes of a level's word are letters
first_three : (p : ℕ → Bool) → p 0 ≡ true → p 1 ≡ true → p 2 ≡ true → (i : ℕ) → i < 3 → p i ≡ true
first_three p a b c zero h = a
first_three p a b c (suc zero) h = b
first_three p a b c (suc (suc zero)) h = c
first_three p a b c (suc (suc (suc i))) h = absurd (omega arith)

word_letters : (v : Level) (w : List ℕ) → IsLevelWord v w
    → (3 ≤ length w) × ((i : ℕ) → i < 3 → is_capital (upper (get_or w i 0)) ≡ true)
unfolding upper is_lower within
word_letters v w is_exception_lem = (omega arith, first_three (λ i. is_capital (upper (get_or (ascii "EXCEPTION") i 0))) refl refl refl)
word_letters v w is_notice = (omega arith, first_three (λ i. is_capital (upper (get_or (ascii "NOTICE") i 0))) refl refl refl)
word_letters v w is_warning = (omega arith, first_three (λ i. is_capital (upper (get_or (ascii "WARNING") i 0))) refl refl refl)
word_letters v w is_debug = (omega arith, first_three (λ i. is_capital (upper (get_or (ascii "DEBUG") i 0))) refl refl refl)
word_letters v w is_log = (omega arith, first_three (λ i. is_capital (upper (get_or (ascii "LOG") i 0))) refl refl refl)
word_letters v w info_space = (omega arith, first_three (λ i. is_capital (upper (get_or (ascii "INFO ") i 0))) refl refl refl)
word_letters v w info_newline = (omega arith, first_three (λ i. is_capital (upper (get_or (ascii "INFO\n") i 0))) refl refl refl)
word_letters v w info_semicolon = (omega arith, first_three (λ i. is_capital (upper (get_or (ascii "INFO;") i 0))) refl refl refl)

-- a level has three bytes at least, and ends within the text
pub level_long : (xs : List ℕ) (p : ℕ) (v : Level) (l : ℕ) → IsLevelAt xs p v l → (p + 3 ≤ l) × (l ≤ length xs)
level_long xs p v l w = at v w.word l w.is_word_lem w.stands w.ends
  where
    at : (u : Level) (x : List ℕ) (m : ℕ) → IsLevelWord u x → MatchesAt x xs p → LevelEnds xs p u m → (p + 3 ≤ m) × (m ≤ length xs)
    at u x m is_exception_lem s behind_letters = (omega arith, omega (arith, s.fits))
    at u x m i s (behind_run e r) =
        let h = word_letters u x i in (
          by (ltb m (p + 3))
              (λ q.
              let b = ltb-true m (p + 3) q in
              let z : p + (m - p) ≡ m = omega (arith, r.from) in
              let n : m - p < 3 = omega (arith, r.from) in
              let same : upper (get_or xs (p + (m - p)) 0) ≡ upper (get_or x (m - p) 0) = s.same (m - p) (omega (arith, h.0)) in
              let letter : is_capital (upper (get_or xs m 0)) ≡ true =
              ap (λ (k : ℕ). is_capital (upper (get_or xs k 0))) (sym z) ∙ (ap is_capital same ∙ h.1 (m - p) n) in
              absurd (letter_stays (get_or xs m 0) (r.stops (omega (arith, s.fits, h.0))) letter))
              (λ q. ltb-false m (p + 3) q),
          r.inside,
        )

-- ---- the text made of a RAISE

-- 25 bytes at most besides the message: `SELECT RAISE(ROLLBACK, );` has so many
raise_text_long : (w : RaiseType) (m : List Marked) → length (raise_text w m) ≤ 25 + length m
unfolding raise_text raise_word action_name lives upper is_lower within
raise_text_long Abort m = omega (arith, length-append m (lives (ascii ");")))
raise_text_long Fail m = omega (arith, length-append m (lives (ascii ");")))
raise_text_long Rollback m = omega (arith, length-append m (lives (ascii ");")))

-- the message is part of the content
message_long : (t m : List Marked) → Rewrites t m → length m ≤ length t
message_long t m (of_clause {a} {b} {c} {d} w e) = omega (arith, ap length e, length-take d (drop c t), length-drop c t)
message_long t m (of_content {i} {j} n w e) = omega (arith, ap length e, length-take (j - i) (drop i t), length-drop i t)

fate_long : (w : RaiseType) (t : List Marked) → length (fate_bytes (raise_fate w t)) ≤ 25 + length t
unfolding fate_bytes
fate_long w t = go (raise_fate w t) refl
  where
    go : (f : Fate) → raise_fate w t ≡ f → length (fate_bytes f) ≤ 25 + length t
    go (rewritten v m) e = omega (arith, raise_text_long v m, message_long t m ((fate_exactly w t (rewritten v m)).0 e).1)
    go dropped e = zero-le
    go (passed u) e = absurd ((fate_exactly w t (passed u)).0 e)
    go (refused_clause c) e = zero-le

action_long : (a : Action) (t : List Marked) → length (fate_bytes (action_fate a t)) ≤ 25 + length t
unfolding action_fate fate_bytes
action_long Drop t = zero-le
action_long (Raise w) t = omega (arith, fate_long w (trim t), trim_le t)

-- it is at most three times as long as the RAISE, of which no more counts than the text has
pub raise_long : (act : Level → Action) (u : List Marked)
    → (length (fate_bytes (raise_of act u).fate) ≤ 3 * (raise_of act u).length)
    × (length (fate_bytes (raise_of act u).fate) ≤ 3 * length u)
unfolding raised_at fate_bytes
raise_long act u = go (level_in level_words (drop 6 u)) refl
  where
    go : (o : Option Level) → level_in level_words (drop 6 u) ≡ o
        → (length (fate_bytes (raised_at act o u).fate) ≤ 3 * (raised_at act o u).length)
        × (length (fate_bytes (raised_at act o u).fate) ≤ 3 * length u)
    go None e = (omega (arith, length-take 6 u), omega (arith, length-take 6 u))
    go (Some v) e =
        let n = level_len v (drop 6 u) in
        let content = content_of (drop (6 + n) u) in
        let l = level_long (bytes u) 6 v (6 + n) ((level_exactly u 6 v (6 + n)).1 (e, refl)) in
        let t = action_long (act v) content in
        let c = content_le (drop (6 + n) u) in
        let d = length-drop (6 + n) u in
        let b = bytes_length u in
        (omega (arith, l.0), omega (arith, l.0, l.1))

tokens_long : (act : Level → Action) (k p : ℕ) (t : List Marked) → length (tokens_text (raises_from act k p t)) ≤ 3 * (length t - k)
unfolding raises_from tokens_text token_bytes
tokens_long act k p [] = zero-le
tokens_long act zero p (x ∷ t) =
    let r = raise_of act (x ∷ t) in
    cond_both (word_here is_word (ascii "RAISE") p (x ∷ t)) _ _ (λ (ps : List Token). length (tokens_text ps) ≤ 3 * (suc (length t) - 0))
    (λ _.
    let rest = tokens_text (raises_from act (r.length - 1) (byte x) t) in
    let b = raise_long act (x ∷ t) in
    omega (
      arith,
      length-append (fate_bytes r.fate) rest,
      tokens_long act (r.length - 1) (byte x) t,
      b.0,
      b.1,
      raised_pos act (level_in level_words (drop 6 (x ∷ t))) (x ∷ t),
    ))
    (λ _. omega (arith, tokens_long act 0 (byte x) t))
tokens_long act (suc k) p (x ∷ t) = omega (arith, tokens_long act k (byte x) t)

-- ---- pass 5

-- with any actions, pass 5's result is at most three times as long as its text
pub raise_length : (act : Level → Action) (ys zs : List ℕ) → raise_pass act ys ≡ accepted zs → length zs ≤ 3 * length ys
unfolding raised_text
raise_length act ys zs h = go (clause_in act ys) refl
  where
    tokens : List Marked
    tokens = tokens_text (raises_from act 0 0 (marked_text ys))

    go : (o : Option (List ℕ)) → clause_in act ys ≡ o → length zs ≤ 3 * length ys
    go None e =
        let f = raise_done act ys e in
        let same : raised_text act ys ≡ zs = cc in
        omega (arith, ap length same, bytes_length tokens, tokens_long act 0 0 (marked_text ys), text_length ys)
    go (Some c) e = let f = raise_refused act ys c e in absurd (apart (cc))

-- it may be over twice as long: 10 bytes become 25
not_twice : raise_pass (λ (l : Level). Raise Rollback) (ascii "RAISE LOG;") ≡ accepted (ascii "SELECT RAISE(ROLLBACK, );")
unfolding computed
not_twice = refl
