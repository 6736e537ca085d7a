-- A RAISE in document 01's words, by offsets of the text and with any actions of the levels: its level, where its statement
-- ends, which one is refused, what becomes of the others, and where the search goes on. The definition gives exactly these.
-- Assumes nothing.
use Rattle.std.specs.Prelude.{Option, Some, None}
use Rattle.std.proofs.lemmas.List.{drop_more}
use mathlib.Core.Path.{◌≡◌, refl, sym, ap, ◌∙◌, subst}
use mathlib.Core.Bool.{Bool, true, false, cond, not, false≢true}
use mathlib.Core.Logic.{◌↔◌}
use mathlib.Core.List.{List}
use Prim.Native.Nat.{ℕ, ◌+◌, ◌-◌, ◌≤◌, ◌<◌, zero-le}
use native.Mathlib.Omega.{arith}
use borrow.Author.Tests.{ltb-true, ltb-false, not-true, not-false}
use lib.Dec.{eqb, ltb}
use lib.ListN.{length, take, drop, get_or, length-drop}
use lib.Seq.{drop-drop, get_or-drop, length-take-le}
use Rattle.spec.proofs.Apart.{apart}
use Rattle.spec.proofs.BytesLaws.{bytes_take, bytes_drop, while_length_bytes}
use Rattle.spec.proofs.Choice.{by}
use Rattle.spec.proofs.FirstLaws.{LeastOf, NoneOf}
use Rattle.spec.proofs.MapLaws.{text_bytes, text_length}
use Rattle.spec.proofs.SearchLaws.{IsByteAt, byte_says}
use Rattle.spec.proofs.TrimLaws.{IsTrimmed, trimmed_some, trimmed_part, part_of_front}
use Rattle.spec.proofs.UsingPlaces.{MatchesAt, IsRefusedContent, Rewrites, starts_matches, matches_starts, fate_exactly}
use Rattle.spec.proofs.WalkLaws.{passes_at, while_take, while_length, while_passes, while_fails, while_passes_at, while_fails_at, while_exactly}
use Rattle.spec.specs.Bytes.{ascii, upper, is_lower, within}
use Rattle.spec.specs.Lists.{take_while}
use Rattle.spec.specs.Map.{Marked, live, bytes, marked_text, of_byte, is_live_byte}
use Rattle.spec.specs.Search.{starts_ignoring_case, byte_here}
use Rattle.spec.specs.Parts.{trim}
use Rattle.spec.specs.Raise.{Fate, rewritten, dropped, passed, refused_clause, level_words, level_in, ends_level, is_exception, level_len, content_of, action_fate, Raised, raised_at}
use Rattle.spec.specs.declared.Level.{Level}
use Rattle.spec.specs.declared.Level.TheVariants.{Exception, Notice, Warning, Debug, Log, Info}
use Rattle.spec.specs.declared.Action.{Action}
use Rattle.spec.specs.declared.Action.TheVariants.{Drop, Raise}

-- ---- the words

-- the words of the levels: INFO has a space, a newline or `;`
pub data IsLevelWord : Level → List ℕ → Type 0 where
  is_exception_lem : IsLevelWord Exception (ascii "EXCEPTION")
  is_notice : IsLevelWord Notice (ascii "NOTICE")
  is_warning : IsLevelWord Warning (ascii "WARNING")
  is_debug : IsLevelWord Debug (ascii "DEBUG")
  is_log : IsLevelWord Log (ascii "LOG")
  info_space : IsLevelWord Info (ascii "INFO ")
  info_newline : IsLevelWord Info (ascii "INFO\n")
  info_semicolon : IsLevelWord Info (ascii "INFO;")

-- what starts at p runs to W or `;` at l, or to the end
pub record IsRunEnd (xs : List ℕ) (p l : ℕ) : Type 0 where
  pub from : p ≤ l
  pub inside : l ≤ length xs
  pub before : (k : ℕ) → p ≤ k → k < l → ends_level (get_or xs k 0) ≡ false
  pub stops : l < length xs → ends_level (get_or xs l 0) ≡ true

-- where a level that starts at p ends: EXCEPTION behind its nine letters, each other one where its run does
pub data LevelEnds (xs : List ℕ) (p : ℕ) : Level → ℕ → Type 0 where
  behind_letters : LevelEnds xs p Exception (p + 9)
  behind_run : {v : Level} {l : ℕ} → is_exception v ≡ false → IsRunEnd xs p l → LevelEnds xs p v l

-- the level v stands at p, ignoring case, and ends at l
pub record IsLevelAt (xs : List ℕ) (p : ℕ) (v : Level) (l : ℕ) : Type 0 where
  pub word : List ℕ
  pub is_word_lem : IsLevelWord v word
  pub stands : MatchesAt word xs p
  pub ends : LevelEnds xs p v l

-- the statement, of which ys stands behind the level, runs to the next live `;` of ys read afresh, or to the end
pub data EndsAt (ys : List ℕ) : ℕ → Type 0 where
  semicolon : {e : ℕ} → LeastOf (IsByteAt ys 59) 0 e → EndsAt ys e
  at_end : NoneOf (IsByteAt ys 59) 0 → EndsAt ys (length ys)

-- where the search that found a RAISE at k goes on: behind the separator at k + 5 if no level stands there, as none does
-- where the text ends; else behind the statement's `;`. Past the end it finds none. The levels' actions have no part in it.
pub data GoesOn (xs : List ℕ) (k : ℕ) : ℕ → Type 0 where
  no_level : ((v : Level) (l : ℕ) → IsLevelAt xs (k + 6) v l → ⊥) → GoesOn xs k (k + 6)
  behind_level : {v : Level} {l e : ℕ} → IsLevelAt xs (k + 6) v l → EndsAt (drop l xs) e → GoesOn xs k (l + e + 1)

-- the RAISE at k is refused with the clause c: the action of its level is not drop, and what stands behind the level, up to
-- the statement's end and trimmed, is c, a refused content
pub record IsRefusedRaise (act : Level → Action) (xs : List ℕ) (k : ℕ) (c : List ℕ) : Type 0 where
  pub level : Level
  pub behind : ℕ
  pub stands : IsLevelAt xs (k + 6) level behind
  pub not_dropped : act level ≡ Drop → ⊥
  pub end : ℕ
  pub ends : EndsAt (drop behind xs) end
  pub i : ℕ
  pub j : ℕ
  pub trimmed : IsTrimmed (take end (drop behind xs)) i j
  pub clause : c ≡ take (j - i) (drop (behind + i) xs)
  pub refuses : IsRefusedContent c

-- ---- the statement's end

module _ (ys : List ℕ) where
  -- no live `;`
  abbrev goes : Marked → Bool
  goes x = not (is_live_byte 59 x)

  semicolon_at : (k : ℕ) → k < length ys
      → is_live_byte 59 (get_or (marked_text ys) k (live 0)) ≡ passes_at (byte_here 59) (marked_text ys) k
  unfolding byte_here
  semicolon_at k h = rw (drop_more (marked_text ys) k (live 0) (omega (arith, text_length ys)))

  module _ (k : ℕ) (h : k < length ys) where
    goes_not : IsByteAt ys 59 k → goes (get_or (marked_text ys) k (live 0)) ≡ false
    goes_not w = ap not (semicolon_at k h ∙ (byte_says ys 59).complete k w)

    goes_here : (IsByteAt ys 59 k → ⊥) → goes (get_or (marked_text ys) k (live 0)) ≡ true
    goes_here n =
        by (is_live_byte 59 (get_or (marked_text ys) k (live 0)))
        (λ e. absurd (n ((byte_says ys 59).sound k (sym (semicolon_at k h) ∙ e))))
        (λ e. ap not e)

    -- and the other way
    not_semicolon : goes (get_or (marked_text ys) k (live 0)) ≡ true → IsByteAt ys 59 k → ⊥
    not_semicolon e w = false≢true (sym (goes_not w) ∙ e)

    is_semicolon : goes (get_or (marked_text ys) k (live 0)) ≡ false → IsByteAt ys 59 k
    is_semicolon e =
        (byte_says ys 59).sound k (sym (semicolon_at k h) ∙ not-false (is_live_byte 59 (get_or (marked_text ys) k (live 0))) e)

  ends_long : (e : ℕ) → EndsAt ys e → (e ≤ length ys) × (length (take_while goes (marked_text ys)) ≡ e)
  ends_long e (semicolon w) =
      let l = text_length ys in
      let b : e < length ys = omega (arith, (byte_says ys 59).inside e w.holds) in (
        omega arith,
        while_exactly goes (marked_text ys) (live 0) e (omega arith)
            (λ k c. goes_here k (omega arith) (w.least k zero-le c))
            (λ c. goes_not e b w.holds),
      )
  ends_long e (at_end w) =
      let l = text_length ys in (
        omega arith,
        while_exactly goes (marked_text ys) (live 0) (length ys) (omega arith)
            (λ k c. goes_here k c (w k zero-le))
            (λ c. absurd (omega arith)),
      )

  ends_some : (e : ℕ) × EndsAt ys e
  ends_some =
      let t = marked_text ys in
      let n = length (take_while goes t) in
      let l : length t ≡ length ys = text_length ys in
      let passes : (k : ℕ) → k < length ys → k < n → IsByteAt ys 59 k → ⊥ =
      λ k h b. not_semicolon k h (while_passes goes t (live 0) k b) in
      by (ltb n (length ys))
      (λ q.
      let b = ltb-true n (length ys) q in (
        n,
        semicolon (record {
          from = zero-le;
          holds = is_semicolon n b (while_fails goes t (live 0) (omega arith));
          least = λ k a c. passes k (omega arith) c;
        }),
      ))
      (λ q.
      let b = ltb-false n (length ys) q in (
        length ys,
        at_end (λ k a w.
            let h = (byte_says ys 59).inside k w in
            passes k (omega arith) (omega arith) w),
      ))

-- the content that the definition reads
module _ (v : List Marked) (e : ℕ) (w : EndsAt (bytes v) e) where
  content_is : content_of v ≡ take e (marked_text (bytes v))
  unfolding content_of
  content_is =
      while_take (goes (bytes v)) (marked_text (bytes v))
      ∙ ap (λ (n : ℕ). take n (marked_text (bytes v))) (ends_long (bytes v) e w).1

  content_bytes : bytes (content_of v) ≡ take e (bytes v)
  content_bytes = ap bytes content_is ∙ (bytes_take e (marked_text (bytes v)) ∙ ap (take e) (text_bytes (bytes v)))

  content_long : length (content_of v) ≡ e
  content_long =
      ap length content_is
      ∙ length-take-le e (marked_text (bytes v)) (omega (arith, text_length (bytes v), (ends_long (bytes v) e w).0))

  -- trimmed
  content_trim : (i j : ℕ) → IsTrimmed (take e (bytes v)) i j → bytes (trim (content_of v)) ≡ take (j - i) (drop i (bytes v))
  content_trim i j u =
      let x : IsTrimmed (bytes (content_of v)) i j = rw content_bytes u in
      let n = length-take-le e (bytes v) (ends_long (bytes v) e w).0 in
      ap bytes (trimmed_part (content_of v) i j x)
      ∙ (bytes_take (j - i) (drop i (content_of v))
      ∙ (ap (take (j - i)) (bytes_drop i (content_of v) ∙ ap (drop i) content_bytes)
      ∙ part_of_front (j - i) i e (bytes v) (omega (arith, u.ordered, u.inside))))

-- ---- where a level ends

abbrev stays_level : ℕ → Bool
stays_level c = not (ends_level c)

run_long : (xs : List ℕ) (p l : ℕ) → IsRunEnd xs p l → p + length (take_while stays_level (drop p xs)) ≡ l
run_long xs p l w =
    let n : length (drop p xs) ≡ length xs - p = length-drop p xs in
    let z : p + (l - p) ≡ l = omega (arith, w.from) in
    let m = while_exactly stays_level (drop p xs) 0 (l - p) (omega (arith, w.inside))
    (λ k b. ap stays_level (get_or-drop p xs k 0) ∙ ap not (w.before (p + k) (omega arith) (omega arith)))
    (λ b.
    ap stays_level (get_or-drop p xs (l - p) 0)
    ∙ (ap (λ (k : ℕ). stays_level (get_or xs k 0)) z ∙ ap not (w.stops (omega (arith, w.from))))) in
    omega (arith, w.from)

run_some : (xs : List ℕ) (p : ℕ) → p ≤ length xs → IsRunEnd xs p (p + length (take_while stays_level (drop p xs)))
run_some xs p h =
    let n = length (take_while stays_level (drop p xs)) in
    record {
      from = omega arith;
      inside = omega (arith, while_length stays_level (drop p xs), length-drop p xs);
      before = λ k a b. not-true (ends_level (get_or xs k 0)) (while_passes_at stays_level xs 0 p k a b);
      stops = λ b. not-false (ends_level (get_or xs (p + n) 0)) (while_fails_at stays_level xs 0 p b);
    }

-- as the definition reads it at p
module _ (t : List Marked) (p : ℕ) where
  run_bytes : length (take_while (of_byte stays_level) (drop p t)) ≡ length (take_while stays_level (drop p (bytes t)))
  run_bytes =
      while_length_bytes stays_level (drop p t) ∙ ap (λ (v : List ℕ). length (take_while stays_level v)) (bytes_drop p t)

  ends_only : (v : Level) (l : ℕ) → LevelEnds (bytes t) p v l → p + level_len v (drop p t) ≡ l
  unfolding level_len
  ends_only v l behind_letters = refl
  ends_only v l (behind_run e w) = rw (e, run_bytes) (run_long (bytes t) p l w)

  ends_level_lem : (v : Level) → p ≤ length (bytes t) → LevelEnds (bytes t) p v (p + level_len v (drop p t))
  unfolding level_len
  ends_level_lem v h = at v
    where
      run : (u : Level) → is_exception u ≡ false → LevelEnds (bytes t) p u (p + length (take_while (of_byte stays_level) (drop p t)))
      run u e =
          let r : IsRunEnd (bytes t) p (p + length (take_while (of_byte stays_level) (drop p t))) = rw run_bytes (run_some (bytes t) p h) in
          behind_run e r

      at : (u : Level) → LevelEnds (bytes t) p u (p + level_len u (drop p t))
      at Exception = behind_letters
      at Notice = run Notice refl
      at Warning = run Warning refl
      at Debug = run Debug refl
      at Log = run Log refl
      at Info = run Info refl

-- ---- the level

-- a level is told by its word's first letter, so no two stand at one place
abbrev letter_level : ℕ → Level
letter_level b =
    cond (eqb b 69) Exception (cond (eqb b 78) Notice (cond (eqb b 87) Warning (cond (eqb b 68) Debug (cond (eqb b 76) Log Info))))

word_letter : (v : Level) (w : List ℕ) → IsLevelWord v w → (0 < length w) × (letter_level (upper (get_or w 0 0)) ≡ v)
unfolding upper is_lower within
word_letter v w is_exception_lem = (omega arith, refl)
word_letter v w is_notice = (omega arith, refl)
word_letter v w is_warning = (omega arith, refl)
word_letter v w is_debug = (omega arith, refl)
word_letter v w is_log = (omega arith, refl)
word_letter v w info_space = (omega arith, refl)
word_letter v w info_newline = (omega arith, refl)
word_letter v w info_semicolon = (omega arith, refl)

pub one_level : (xs : List ℕ) (p l m : ℕ) (v u : Level) → IsLevelAt xs p v l → IsLevelAt xs p u m → v ≡ u
one_level xs p l m v u a b =
    let x = word_letter v a.word a.is_word_lem in
    let y = word_letter u b.word b.is_word_lem in
    sym x.1 ∙ (ap letter_level (sym (a.stands.same 0 x.0) ∙ b.stands.same 0 y.0) ∙ y.1)

-- what the definition reads at p, and what stands there
data Reads (t : List Marked) (p : ℕ) : Type 0 where
  reads_level : (v : Level) → level_in level_words (drop p t) ≡ Some v → IsLevelAt (bytes t) p v (p + level_len v (drop p t))
      → Reads t p
  reads_none : level_in level_words (drop p t) ≡ None → ((v : Level) (l : ℕ) → IsLevelAt (bytes t) p v l → ⊥) → Reads t p

module _ (t : List Marked) (p : ℕ) where
  abbrev here : List ℕ → Bool
  here w = starts_ignoring_case w (drop p t)

  stood : (v : Level) (w : List ℕ) → level_in level_words (drop p t) ≡ Some v → IsLevelWord v w → here w ≡ true → Reads t p
  stood v w q i e =
      let s = starts_matches t w p e (word_letter v w i).0 in
      reads_level v q (record { word = w; is_word_lem = i; stands = s; ends = ends_level_lem t p v (omega (arith, s.fits)) })

  -- the words are tried in turn
  reads : Reads t p
  unfolding level_words level_in
  reads =
      by (here (ascii "EXCEPTION")) (λ e. stood Exception _ (rw e) is_exception_lem e) (λ x.
      by (here (ascii "NOTICE")) (λ e. stood Notice _ (rw (x, e)) is_notice e) (λ a.
      by (here (ascii "WARNING")) (λ e. stood Warning _ (rw (x, a, e)) is_warning e) (λ b.
      by (here (ascii "DEBUG")) (λ e. stood Debug _ (rw (x, a, b, e)) is_debug e) (λ c.
      by (here (ascii "LOG")) (λ e. stood Log _ (rw (x, a, b, c, e)) is_log e) (λ d.
      by (here (ascii "INFO ")) (λ e. stood Info _ (rw (x, a, b, c, d, e)) info_space e) (λ f.
      by (here (ascii "INFO\n")) (λ e. stood Info _ (rw (x, a, b, c, d, f, e)) info_newline e) (λ g.
      by (here (ascii "INFO;")) (λ e. stood Info _ (rw (x, a, b, c, d, f, g, e)) info_semicolon e) (λ h.
      reads_none (rw (x, a, b, c, d, f, g, h))
      (λ v l w. false≢true (sym (each x a b c d f g h v w.word w.is_word_lem) ∙ matches_starts t w.word p w.stands))))))))))
    where
      each : here (ascii "EXCEPTION") ≡ false → here (ascii "NOTICE") ≡ false → here (ascii "WARNING") ≡ false
          → here (ascii "DEBUG") ≡ false
          → here (ascii "LOG") ≡ false
          → here (ascii "INFO ") ≡ false
          → here (ascii "INFO\n") ≡ false
          → here (ascii "INFO;") ≡ false
          → (v : Level) (w : List ℕ)
          → IsLevelWord v w
          → here w ≡ false
      each x a b c d f g h v w is_exception_lem = x
      each x a b c d f g h v w is_notice = a
      each x a b c d f g h v w is_warning = b
      each x a b c d f g h v w is_debug = c
      each x a b c d f g h v w is_log = d
      each x a b c d f g h v w info_space = f
      each x a b c d f g h v w info_newline = g
      each x a b c d f g h v w info_semicolon = h

  -- a level is read exactly where it stands, with its length
  pub level_exactly : (v : Level) (l : ℕ)
      → IsLevelAt (bytes t) p v l
      ↔ ((level_in level_words (drop p t) ≡ Some v) × (p + level_len v (drop p t) ≡ l))
  level_exactly v l = ((λ w. (to reads w, ends_only t p v l w.ends)), (λ r. from reads r.0 r.1))
    where
      to : Reads t p → IsLevelAt (bytes t) p v l → level_in level_words (drop p t) ≡ Some v
      to (reads_level u e s) w = e ∙ ap Some (one_level (bytes t) p _ l u v s w)
      to (reads_none e n) w = absurd (n v l w)

      from : Reads t p → level_in level_words (drop p t) ≡ Some v → p + level_len v (drop p t) ≡ l → IsLevelAt (bytes t) p v l
      from (reads_level u f s) e z =
          let same : u ≡ v = cc in
          subst (IsLevelAt (bytes t) p v) z (subst (λ (x : Level). IsLevelAt (bytes t) p x (p + level_len x (drop p t))) same s)
      from (reads_none f n) e z = absurd (apart (cc))

-- ---- the RAISE at k

-- the RAISE at the front of u
abbrev pub raise_of : (Level → Action) → List Marked → Raised
raise_of act u = raised_at act (level_in level_words (drop 6 u)) u

-- the condition of each fate that an action gives a content
abbrev ActionCondition : Action → List Marked → Fate → Type 0
ActionCondition a t (rewritten w m) = (a ≡ Raise w) × Rewrites (trim t) m
ActionCondition a t dropped = a ≡ Drop
ActionCondition a t (passed u) = ⊥
ActionCondition a t (refused_clause c) = (a ≡ Drop → ⊥) × IsRefusedContent (bytes (trim t)) × (c ≡ bytes (trim t))

action_exactly : (a : Action) (t : List Marked) (f : Fate) → (action_fate a t ≡ f) ↔ ActionCondition a t f
unfolding action_fate
action_exactly Drop t (rewritten w m) = ((λ h. absurd (apart (cc))), (λ r. let e = r.0 in absurd (apart (cc))))
action_exactly Drop t dropped = ((λ h. refl), (λ e. refl))
action_exactly Drop t (passed u) = ((λ h. absurd (apart (cc))), (λ n. absurd n))
action_exactly Drop t (refused_clause c) = ((λ h. absurd (apart (cc))), (λ r. absurd (r.0 refl)))
action_exactly (Raise x) t (rewritten w m) = (
  (λ h. let r = (fate_exactly x (trim t) (rewritten w m)).0 h in (ap Raise (sym r.0), r.1)),
  (λ r. let e = r.0 in let same : w ≡ x = cc in (fate_exactly x (trim t) (rewritten w m)).1 (same, r.1)),
)
action_exactly (Raise x) t dropped = ((λ h. absurd ((fate_exactly x (trim t) dropped).0 h)), (λ e. absurd (apart (cc))))
action_exactly (Raise x) t (passed u) = ((λ h. absurd ((fate_exactly x (trim t) (passed u)).0 h)), (λ n. absurd n))
action_exactly (Raise x) t (refused_clause c) = (
  (λ h. let r = (fate_exactly x (trim t) (refused_clause c)).0 h in ((λ e. apart (cc)), r.0, r.1)),
  (λ r. (fate_exactly x (trim t) (refused_clause c)).1 (r.1, r.2)),
)

-- what becomes of the RAISE at k: it is rewritten with the word of its level's action and with the message of what stands
-- behind the level up to the statement's end, trimmed; it is dropped where that action is drop; it passes, with its separator,
-- where no level stands; else it is refused
abbrev pub RaiseBecomes : (Level → Action) → List Marked → ℕ → Fate → Type 0
RaiseBecomes act t k (rewritten w m) =
    (v : Level) × (l : ℕ) × IsLevelAt (bytes t) (k + 6) v l × (act v ≡ Raise w) × Rewrites (trim (content_of (drop l t))) m
RaiseBecomes act t k dropped = (v : Level) × (l : ℕ) × IsLevelAt (bytes t) (k + 6) v l × (act v ≡ Drop)
RaiseBecomes act t k (passed u) = ((v : Level) (l : ℕ) → IsLevelAt (bytes t) (k + 6) v l → ⊥) × (u ≡ take 6 (drop k t))
RaiseBecomes act t k (refused_clause c) = IsRefusedRaise act (bytes t) k c

module _ (act : Level → Action) (t : List Marked) (k : ℕ) where
  level_at : (o : Option Level) → level_in level_words (drop (k + 6) t) ≡ o → level_in level_words (drop 6 (drop k t)) ≡ o
  level_at o e = ap (level_in level_words) (drop-drop 6 k t) ∙ e

  -- with no level behind its separator
  none_is : level_in level_words (drop (k + 6) t) ≡ None → raise_of act (drop k t) ≡ record { length = 6; fate = passed (take 6 (drop k t)) }
  unfolding raised_at
  none_is e = rw (level_at None e)

  -- with the level v, which ends at l
  level_is : (v : Level) (l : ℕ) → level_in level_words (drop (k + 6) t) ≡ Some v → k + 6 + level_len v (drop (k + 6) t) ≡ l
      → (k + (raise_of act (drop k t)).length ≡ l + length (content_of (drop l t)) + 1)
      × ((raise_of act (drop k t)).fate ≡ action_fate (act v) (content_of (drop l t)))
  unfolding raised_at
  level_is v l e z =
      let u = drop k t in
      let n = level_len v (drop 6 u) in
      let m : n ≡ level_len v (drop (k + 6) t) = ap (level_len v) (drop-drop 6 k t) in
      let place : k + (6 + n) ≡ l = omega arith in
      let at : drop (6 + n) u ≡ drop l t = drop-drop (6 + n) k t ∙ ap (λ (i : ℕ). drop i t) place in
      let is : raise_of act u
      ≡ record { length = 6 + n + length (content_of (drop (6 + n) u)) + 1; fate = action_fate (act v) (content_of (drop (6 + n) u)) } =
      rw (level_at (Some v) e) in
      let c : length (content_of (drop (6 + n) u)) ≡ length (content_of (drop l t)) = ap (λ (i : List Marked). length (content_of i)) at in (
        omega (arith, ap (λ (r : Raised). r.length) is),
        ap (λ (r : Raised). r.fate) is ∙ ap (λ (i : List Marked). action_fate (act v) (content_of i)) at,
      )

  -- what stands behind the level, up to the statement's end and trimmed
  clause_at_lem : (l e i j : ℕ) → EndsAt (drop l (bytes t)) e → IsTrimmed (take e (drop l (bytes t))) i j
      → bytes (trim (content_of (drop l t))) ≡ take (j - i) (drop (l + i) (bytes t))
  clause_at_lem l e i j w u =
      let same : bytes (drop l t) ≡ drop l (bytes t) = bytes_drop l t in
      content_trim (drop l t) e (rw same w) i j (rw same u)
      ∙ ap (take (j - i)) (ap (drop i) same ∙ drop-drop i l (bytes t))

  -- each fate is given exactly if the RAISE becomes that, in the words above
  pub raise_exactly : (f : Fate) → ((raise_of act (drop k t)).fate ≡ f) ↔ RaiseBecomes act t k f
  raise_exactly f = (to (reads t (k + 6)) f, from f)
    where
      by_action : (v : Level) → level_in level_words (drop (k + 6) t) ≡ Some v → (g : Fate) → (raise_of act (drop k t)).fate ≡ g
          → ActionCondition (act v) (content_of (drop (k + 6 + level_len v (drop (k + 6) t)) t)) g
      by_action v e g h = (action_exactly (act v) _ g).0 (sym (level_is v _ e refl).1 ∙ h)

      to : Reads t (k + 6) → (g : Fate) → (raise_of act (drop k t)).fate ≡ g → RaiseBecomes act t k g
      to (reads_level v e s) (rewritten w m) h = let r = by_action v e (rewritten w m) h in (v, _, s, r.0, r.1)
      to (reads_level v e s) dropped h = (v, _, s, by_action v e dropped h)
      to (reads_level v e s) (passed u) h = absurd (by_action v e (passed u) h)
      to (reads_level v e s) (refused_clause c) h =
          let l = k + 6 + level_len v (drop (k + 6) t) in
          let w = by_action v e (refused_clause c) h in
          let n = ends_some (drop l (bytes t)) in
          let m = trimmed_some (take n.0 (drop l (bytes t))) in
          record {
            level = v;
            behind = l;
            stands = s;
            not_dropped = w.0;
            end = n.0;
            ends = n.1;
            i = m.0;
            j = m.1;
            trimmed = m.2;
            clause = w.2 ∙ clause_at_lem l n.0 m.0 m.1 n.1 m.2;
            refuses = rw w.2 w.1;
          }
      to (reads_none e n) (rewritten w m) h = let i = ap (λ (r : Raised). r.fate) (none_is e) in absurd (apart (cc))
      to (reads_none e n) dropped h = let i = ap (λ (r : Raised). r.fate) (none_is e) in absurd (apart (cc))
      to (reads_none e n) (passed u) h =
          let i = ap (λ (r : Raised). r.fate) (none_is e) in
          let same : u ≡ take 6 (drop k t) = cc in
          (n, same)
      to (reads_none e n) (refused_clause c) h = let i = ap (λ (r : Raised). r.fate) (none_is e) in absurd (apart (cc))

      -- a level that stands at k + 6 is read there
      at : (v : Level) (l : ℕ) → IsLevelAt (bytes t) (k + 6) v l → (g : Fate) → ActionCondition (act v) (content_of (drop l t)) g
          → (raise_of act (drop k t)).fate ≡ g
      at v l s g r =
          let read = (level_exactly t (k + 6) v l).0 s in
          (level_is v l read.0 read.1).1 ∙ (action_exactly (act v) (content_of (drop l t)) g).1 r

      from : (g : Fate) → RaiseBecomes act t k g → (raise_of act (drop k t)).fate ≡ g
      from (rewritten w m) r = at r.0 r.1 r.2 (rewritten w m) (r.3, r.4)
      from dropped r = at r.0 r.1 r.2 dropped r.3
      from (passed u) r = passes (reads t (k + 6))
        where
          passes : Reads t (k + 6) → (raise_of act (drop k t)).fate ≡ passed u
          passes (reads_level v e s) = absurd (r.0 v _ s)
          passes (reads_none e n) = ap (λ (r : Raised). r.fate) (none_is e) ∙ ap passed (sym r.1)
      from (refused_clause c) w =
          let l = w.behind in
          let same : c ≡ bytes (trim (content_of (drop l t))) =
          w.clause ∙ sym (clause_at_lem l w.end w.i w.j w.ends w.trimmed) in
          let r : IsRefusedContent (bytes (trim (content_of (drop l t)))) = rw same at w.refuses in
          at w.level l w.stands (refused_clause c) (w.not_dropped, r, same)

  -- so for refusal 5
  pub raise_refused_exactly : (c : List ℕ) → ((raise_of act (drop k t)).fate ≡ refused_clause c) ↔ IsRefusedRaise act (bytes t) k c
  raise_refused_exactly c = raise_exactly (refused_clause c)

  -- and where the action is drop, USING is not read
  pub raise_dropped_exactly : ((raise_of act (drop k t)).fate ≡ dropped)
      ↔ ((v : Level) × (l : ℕ) × IsLevelAt (bytes t) (k + 6) v l × (act v ≡ Drop))
  raise_dropped_exactly = raise_exactly dropped

  -- ---- where the search goes on

  level_goes : (v : Level) (l e : ℕ) → level_in level_words (drop (k + 6) t) ≡ Some v → k + 6 + level_len v (drop (k + 6) t) ≡ l
      → EndsAt (drop l (bytes t)) e
      → l + e + 1 ≡ k + (raise_of act (drop k t)).length
  level_goes v l e h z w =
      let same : bytes (drop l t) ≡ drop l (bytes t) = bytes_drop l t in
      let u : EndsAt (bytes (drop l t)) e = rw same w in
      omega (arith, content_long (drop l t) e u, (level_is v l h z).0)

  -- there, whatever the actions are
  pub goes_exactly : (n : ℕ) → GoesOn (bytes t) k n ↔ (n ≡ k + (raise_of act (drop k t)).length)
  goes_exactly n = (to, (λ e. subst (GoesOn (bytes t) k) (sym e) (some_on (reads t (k + 6)))))
    where
      to : {n : ℕ} → GoesOn (bytes t) k n → n ≡ k + (raise_of act (drop k t)).length
      to (no_level x) = at (reads t (k + 6))
        where
          at : Reads t (k + 6) → k + 6 ≡ k + (raise_of act (drop k t)).length
          at (reads_level v e s) = absurd (x v _ s)
          at (reads_none e y) = omega (arith, ap (λ (r : Raised). r.length) (none_is e))
      to (behind_level {v} {l} {e} s w) = let read = (level_exactly t (k + 6) v l).0 s in level_goes v l e read.0 read.1 w

      some_on : Reads t (k + 6) → GoesOn (bytes t) k (k + (raise_of act (drop k t)).length)
      some_on (reads_level v e s) =
          let l = k + 6 + level_len v (drop (k + 6) t) in
          let n = ends_some (drop l (bytes t)) in
          subst (GoesOn (bytes t) k) (level_goes v l n.0 e refl n.1) (behind_level s n.1)
      some_on (reads_none e x) =
          let n = ap (λ (r : Raised). k + r.length) (none_is e) in
          subst (GoesOn (bytes t) k) (sym n) (no_level x)

-- that is behind the RAISE
pub goes_further : (xs : List ℕ) (k n : ℕ) → GoesOn xs k n → k < n
goes_further xs k n (no_level x) = omega arith
goes_further xs k n (behind_level s w) = omega (arith, level_from xs (k + 6) _ _ s.ends)
  where
    level_from : (xs : List ℕ) (p : ℕ) (v : Level) (l : ℕ) → LevelEnds xs p v l → p ≤ l
    level_from xs p v l behind_letters = omega arith
    level_from xs p v l (behind_run e w) = w.from
