-- The content of a RAISE whose action is not drop, in document 01's words and by its offsets: what is refused and what is
-- rewritten is exactly that, and the word is the action's. Assumes nothing.
use Rattle.std.proofs.lemmas.Bool.{and_from, and_parts}
use mathlib.Core.Path.{◌≡◌, refl, sym, ap, ◌∙◌, subst}
use mathlib.Core.Bool.{Bool, true, false, cond, ◌&&◌, false≢true}
use mathlib.Core.Logic.{◌↔◌}
use mathlib.Core.List.{List}
use Prim.Native.Nat.{ℕ, ◌+◌, ◌-◌, ◌≤◌, ◌<◌}
use native.Mathlib.Omega.{arith}
use borrow.Author.Tests.{eqb-true, eq-eqb}
use lib.Dec.{eqb}
use lib.ListN.{length, take, drop, get_or, length-drop}
use lib.Seq.{drop-drop, get_or-drop, length-take-le}
use Rattle.spec.proofs.AheadLaws.{drop_front}
use Rattle.spec.proofs.Apart.{apart}
use Rattle.spec.proofs.ByteSets.{sign_not_w, letter_not_w, upper_cases}
use Rattle.spec.proofs.BytesLaws.{bytes_drop}
use Rattle.spec.proofs.Choice.{by}
use Rattle.spec.proofs.ListLaws.{empty_length, while_sum}
use Rattle.spec.proofs.MessagePlaces.{IsMessage, message_some, message_part, message_within, message_quote}
use Rattle.spec.proofs.RefusalBounds.{bytes_length}
use Rattle.spec.proofs.RunPlaces.{byte_ahead, Ahead, end_from, ahead_at}
use Rattle.spec.proofs.MatchLaws.{Same, prefix_at, at_prefix}
use Rattle.spec.proofs.SpanLaws.{seen}
use Rattle.spec.proofs.TrimLaws.{AllW}
use Rattle.spec.proofs.WalkLaws.{prefix_by_len, starts_case, while_passes_at, while_exactly, while_exactly_at}
use Rattle.spec.specs.Bytes.{ascii, upper, is_w, is_lower, within, prefix_by}
use Rattle.spec.specs.Lists.{is_empty, drop_while}
use Rattle.spec.specs.Map.{Marked, bytes, of_byte}
use Rattle.spec.specs.Search.{starts_ignoring_case}
use Rattle.spec.specs.Raise.{message, Fate, rewritten, dropped, passed, refused_clause, using_fate, raise_fate}
use Rattle.spec.specs.declared.RaiseType.{RaiseType}

-- w stands at j of xs, ignoring ASCII case
abbrev pub MatchesAt : List ℕ → List ℕ → ℕ → Type 0
MatchesAt w xs j = Same upper w xs j

-- the content xs is USING, MESSAGE at a, `=` at b and a text starting with `'` at c, with W or nothing between, and behind
-- that text's message of d bytes there is only W
pub record IsMessageClause (xs : List ℕ) (a b c d : ℕ) : Type 0 where
  pub at_using : MatchesAt (ascii "USING") xs 0
  pub from_using : 5 ≤ a
  pub behind_using : AllW xs 5 a
  pub at_message : MatchesAt (ascii "MESSAGE") xs a
  pub from_message : a + 7 ≤ b
  pub behind_message : AllW xs (a + 7) b
  pub at_equals : get_or xs b 0 ≡ 61
  pub from_equals : b + 1 ≤ c
  pub behind_equals : AllW xs (b + 1) c
  pub at_quote : get_or xs c 0 ≡ 39
  pub is_message : IsMessage (drop c xs) 0 d
  pub only_space : AllW xs (c + d) (length xs)

-- refusal 5: any other content that starts with USING
pub record IsRefusedContent (xs : List ℕ) : Type 0 where
  pub at_using : MatchesAt (ascii "USING") xs 0
  pub no_clause_lem : (a b c d : ℕ) → IsMessageClause xs a b c d → ⊥

-- ---- words and runs of W, at an offset

module _ (t : List Marked) (w : List ℕ) (j : ℕ) where
  pub starts_matches : starts_ignoring_case w (drop j t) ≡ true → 0 < length w → MatchesAt w (bytes t) j
  starts_matches h some =
      let p : prefix_by upper w (drop j (bytes t)) ≡ true =
      ap (prefix_by upper w) (sym (bytes_drop j t)) ∙ (sym (starts_case w (drop j t)) ∙ h) in
      prefix_at upper w (bytes t) j (omega (arith, prefix_by_len upper w (drop j (bytes t)) p, length-drop j (bytes t))) p

  pub matches_starts : MatchesAt w (bytes t) j → starts_ignoring_case w (drop j t) ≡ true
  matches_starts s = starts_case w (drop j t) ∙ (ap (prefix_by upper w) (bytes_drop j t) ∙ at_prefix upper w (bytes t) j s)

-- W from i on
run : (t : List Marked) (i : ℕ) → Ahead is_w t i (end_from is_w (bytes t) i)
run t i = ahead_at is_w t (bytes t) refl i (end_from is_w (bytes t) i) refl

-- a byte that is a letter of a word, or another that is no W, ends them
run_at : (xs : List ℕ) (i j : ℕ) → i ≤ j → AllW xs i j → j < length xs → is_w (get_or xs j 0) ≡ false → end_from is_w xs i ≡ j
run_at xs i j h w b e = while_exactly_at is_w xs 0 i j h (omega arith) w (λ _. e)

-- all of the rest is W exactly if nothing is left of it
module _ (t : List Marked) (i : ℕ) where
  rest_w : is_empty (drop_while (of_byte is_w) (drop i t)) ≡ true → AllW (bytes t) i (length (bytes t))
  rest_w h k a b =
      let left = drop_while (of_byte is_w) (drop i t) in
      let none : length left ≡ 0 = eqb-true (length left) 0 (sym (empty_length left) ∙ h) in
      let n = while_sum (of_byte is_w) (drop i t) in
      while_passes_at is_w (bytes t) 0 i k a (omega (arith, (run t i).long, length-drop i t, bytes_length t))

  w_rest : AllW (bytes t) i (length (bytes t)) → is_empty (drop_while (of_byte is_w) (drop i t)) ≡ true
  w_rest h =
      let u = drop i (bytes t) in
      let left = drop_while (of_byte is_w) (drop i t) in
      let l : length u ≡ length (bytes t) - i = length-drop i (bytes t) in
      let all = while_exactly is_w u 0 (length u) (omega arith)
      (λ k b. ap is_w (get_or-drop i (bytes t) k 0) ∙ h (i + k) (omega arith) (omega arith))
      (λ b. absurd (omega arith)) in
      let n = while_sum (of_byte is_w) (drop i t) in
      empty_length left ∙ eq-eqb (length left) 0 (omega (arith, (run t i).long, length-drop i t, bytes_length t))

-- ---- the clause

-- the offsets are where the runs of W end
module _ (xs : List ℕ) (a b c d : ℕ) (w : IsMessageClause xs a b c d) where
  place_message : end_from is_w xs 5 ≡ a
  unfolding upper is_lower within
  place_message =
      let fits = w.at_message.fits in
      let m : upper (get_or xs (a + 0) 0) ≡ 77 = w.at_message.same 0 (omega arith) in
      let z : a + 0 ≡ a = omega arith in
      run_at xs 5 a w.from_using w.behind_using (omega arith)
      (ap (λ (n : ℕ). is_w (get_or xs n 0)) (sym z) ∙ upper_cases (λ (n : ℕ). is_w n ≡ false) (get_or xs (a + 0) 0) 77 m (letter_not_w 77 refl) (letter_not_w 109 refl))

  place_equals : end_from is_w xs (a + 7) ≡ b
  place_equals =
      run_at xs (a + 7) b w.from_message w.behind_message (seen xs b 60 w.at_equals) (ap is_w w.at_equals ∙ sign_not_w 61 refl)

  place_quote : end_from is_w xs (b + 1) ≡ c
  place_quote =
      run_at xs (b + 1) c w.from_equals w.behind_equals (seen xs c 38 w.at_quote) (ap is_w w.at_quote ∙ sign_not_w 39 refl)

-- the message of the text from c on
module _ (t : List Marked) (c : ℕ) where
  message_from : (d : ℕ) → IsMessage (drop c (bytes t)) 0 d
      → (message (drop c t) ≡ take d (drop c t)) × (length (message (drop c t)) ≡ d)
  message_from d w =
      let same : bytes (drop c t) ≡ drop c (bytes t) = bytes_drop c t in
      let v : IsMessage (bytes (drop c t)) 0 d = rw same w in
      let z : d - 0 ≡ d = omega arith in
      let m : message (drop c t) ≡ take d (drop c t) = rw z at (message_part (drop c t) 0 d v) in
      let b = message_within (bytes (drop c t)) 0 d v in
      (m, ap length m ∙ length-take-le d (drop c t) (omega (arith, bytes_length (drop c t))))

  quoted_message : get_or (bytes t) c 0 ≡ 39 → IsMessage (drop c (bytes t)) 0 (length (message (drop c t)))
  quoted_message q =
      let w = message_some (drop c t) in
      let same : bytes (drop c t) ≡ drop c (bytes t) = bytes_drop c t in
      let v : IsMessage (drop c (bytes t)) w.0 w.1 = rw same at w.2 in
      let front : get_or (drop c (bytes t)) 0 0 ≡ 39 = drop_front (bytes t) c 0 ∙ q in
      let first = message_quote (drop c (bytes t)) w.0 w.1 v front in
      let u : IsMessage (drop c (bytes t)) 0 w.1 = rw first at v in
      rw (message_from w.1 u).1 u

module _ (t : List Marked) (a b c : ℕ)
    (pa : end_from is_w (bytes t) 5 ≡ a) (pb : end_from is_w (bytes t) (a + 7) ≡ b) (pc : end_from is_w (bytes t) (b + 1) ≡ c) where
  abbrev fits : Bool
  fits =
      starts_ignoring_case (ascii "MESSAGE") (drop a t)
      && (eqb (get_or (bytes t) b 0) 61
      && (eqb (get_or (bytes t) c 0) 39 && is_empty (drop_while (of_byte is_w) (drop (c + length (message (drop c t))) t))))

  using_is : (w : RaiseType) → using_fate w t (drop 5 t) ≡ cond fits (rewritten w (message (drop c t))) (refused_clause (bytes t))
  unfolding using_fate
  using_is w =
      rw (
        (run t 5).rest,
        pa,
        drop-drop 7 a t,
        (run t (a + 7)).rest,
        pb,
        drop-drop 1 b t,
        (run t (b + 1)).rest,
        pc,
        byte_ahead t b,
        byte_ahead t c,
        drop-drop (length (message (drop c t))) c t,
      )

  fits_clause : MatchesAt (ascii "USING") (bytes t) 0 → fits ≡ true → IsMessageClause (bytes t) a b c (length (message (drop c t)))
  fits_clause u h =
      let p = starts_ignoring_case (ascii "MESSAGE") (drop a t) in
      let q = eqb (get_or (bytes t) b 0) 61 in
      let r = eqb (get_or (bytes t) c 0) 39 in
      let s = is_empty (drop_while (of_byte is_w) (drop (c + length (message (drop c t))) t)) in
      let two = (and_parts p (q && (r && s)) h).1 in
      let three = (and_parts q (r && s) two).1 in
      let quote = eqb-true (get_or (bytes t) c 0) 39 ((and_parts r s three).0) in
      record {
        at_using = u;
        from_using = omega arith;
        behind_using = λ k x y. while_passes_at is_w (bytes t) 0 5 k x (omega arith);
        at_message = starts_matches t (ascii "MESSAGE") a ((and_parts p (q && (r && s)) h).0) (omega arith);
        from_message = omega arith;
        behind_message = λ k x y. while_passes_at is_w (bytes t) 0 (a + 7) k x (omega arith);
        at_equals = eqb-true (get_or (bytes t) b 0) 61 ((and_parts q (r && s) two).0);
        from_equals = omega arith;
        behind_equals = λ k x y. while_passes_at is_w (bytes t) 0 (b + 1) k x (omega arith);
        at_quote = quote;
        is_message = quoted_message t c quote;
        only_space = rest_w t (c + length (message (drop c t))) ((and_parts r s three).1);
      }

  clause_fits : (d : ℕ) → IsMessageClause (bytes t) a b c d → fits ≡ true
  clause_fits d w =
      let p = starts_ignoring_case (ascii "MESSAGE") (drop a t) in
      let q = eqb (get_or (bytes t) b 0) 61 in
      let r = eqb (get_or (bytes t) c 0) 39 in
      let s = is_empty (drop_while (of_byte is_w) (drop (c + length (message (drop c t))) t)) in
      let n = (message_from t c d w.is_message).1 in
      let rest : s ≡ true = rw n (w_rest t (c + d) w.only_space) in
      and_from p (q && (r && s)) (matches_starts t (ascii "MESSAGE") a w.at_message)
      (and_from q (r && s) (eq-eqb (get_or (bytes t) b 0) 61 w.at_equals)
      (and_from r s (eq-eqb (get_or (bytes t) c 0) 39 w.at_quote) rest))

-- ---- what becomes of the content

-- m is put in: the message of the clause, or of a content that does not start with USING
pub data Rewrites (t m : List Marked) : Type 0 where
  of_clause : {a b c d : ℕ} → IsMessageClause (bytes t) a b c d → m ≡ take d (drop c t) → Rewrites t m
  of_content : {i j : ℕ} → (MatchesAt (ascii "USING") (bytes t) 0 → ⊥) → IsMessage (bytes t) i j → m ≡ take (j - i) (drop i t)
      → Rewrites t m

-- the condition of each fate, where the action is SQLite's RAISE with the word w
abbrev pub RaiseCondition : RaiseType → List Marked → Fate → Type 0
RaiseCondition w t (rewritten v m) = (v ≡ w) × Rewrites t m
RaiseCondition w t dropped = ⊥
RaiseCondition w t (passed u) = ⊥
RaiseCondition w t (refused_clause c) = IsRefusedContent (bytes t) × (c ≡ bytes t)

module _ (w : RaiseType) (t : List Marked) where
  fate_using : MatchesAt (ascii "USING") (bytes t) 0 → raise_fate w t ≡ using_fate w t (drop 5 t)
  unfolding raise_fate
  fate_using u = rw (matches_starts t (ascii "USING") 0 u)

  fate_content : (MatchesAt (ascii "USING") (bytes t) 0 → ⊥) → raise_fate w t ≡ rewritten w (message t)
  unfolding raise_fate
  fate_content n =
      by (starts_ignoring_case (ascii "USING") t)
      (λ e. absurd (n (starts_matches t (ascii "USING") 0 e (omega arith))))
      (λ e. rw e)

  -- where the runs of W end
  abbrev a_end : ℕ
  a_end = end_from is_w (bytes t) 5

  abbrev b_end : ℕ
  b_end = end_from is_w (bytes t) (a_end + 7)

  abbrev c_end : ℕ
  c_end = end_from is_w (bytes t) (b_end + 1)

  -- m is put in, with the word w
  fate_rewrites : (m : List Marked) → Rewrites t m → raise_fate w t ≡ rewritten w m
  fate_rewrites m (of_clause {a} {b} {c} {d} v e) =
      let pa = place_message (bytes t) a b c d v in
      let pb = place_equals (bytes t) a b c d v in
      let pc = place_quote (bytes t) a b c d v in
      fate_using v.at_using
      ∙ (using_is t a b c pa pb pc w
      ∙ rw (clause_fits t a b c pa pb pc d v) (ap (rewritten w) ((message_from t c d v.is_message).0 ∙ sym e)))
  fate_rewrites m (of_content {i} {j} n v e) = fate_content n ∙ ap (rewritten w) (message_part t i j v ∙ sym e)

  fate_gives : (f : Fate) → RaiseCondition w t f → raise_fate w t ≡ f
  fate_gives (rewritten v m) c = fate_rewrites m c.1 ∙ ap (λ (u : RaiseType). rewritten u m) (sym c.0)
  fate_gives dropped c = absurd c
  fate_gives (passed _) c = absurd c
  fate_gives (refused_clause c) v =
      fate_using v.0.at_using
      ∙ (using_is t a_end b_end c_end refl refl refl w
      ∙ by (fits t a_end b_end c_end refl refl refl)
      (λ e. absurd (v.0.no_clause_lem a_end b_end c_end _ (fits_clause t a_end b_end c_end refl refl refl v.0.at_using e)))
      (λ e. rw e (ap refused_clause (sym v.1))))

  fate_decided : (f : Fate) × RaiseCondition w t f
  fate_decided =
      by (starts_ignoring_case (ascii "USING") t)
      (λ h.
      let u = starts_matches t (ascii "USING") 0 h (omega arith) in
      by (fits t a_end b_end c_end refl refl refl)
      (λ e.
      let v = fits_clause t a_end b_end c_end refl refl refl u e in
      (rewritten w (take (length (message (drop c_end t))) (drop c_end t)), (refl, of_clause v refl)))
      (λ e. (
        refused_clause (bytes t),
        (
          record {
            at_using = u;
            no_clause_lem = λ a b c d v.
                let one = fate_rewrites (take d (drop c t)) (of_clause v refl) in
                let two : raise_fate w t ≡ refused_clause (bytes t) = fate_using u ∙ (using_is t a_end b_end c_end refl refl refl w ∙ rw e) in
                absurd (apart (cc));
          },
          refl,
        ),
      )))
      (λ h.
      let v = message_some t in (
        rewritten w (take (v.1 - v.0) (drop v.0 t)),
        (refl, of_content (λ u. false≢true (sym h ∙ matches_starts t (ascii "USING") 0 u)) v.2 refl),
      ))

  -- each fate is given exactly on its condition
  pub fate_exactly : (f : Fate) → (raise_fate w t ≡ f) ↔ RaiseCondition w t f
  fate_exactly f =
      let d = fate_decided in
      ((λ h. subst (RaiseCondition w t) (sym (fate_gives d.0 d.1) ∙ h) d.1), fate_gives f)

-- refusal 5 is given exactly for a refused content, with all of it
pub fate_refused_exactly : (w : RaiseType) (t : List Marked) (c : List ℕ)
    → (raise_fate w t ≡ refused_clause c) ↔ (IsRefusedContent (bytes t) × (c ≡ bytes t))
fate_refused_exactly w t c = fate_exactly w t (refused_clause c)

-- the word put in is the action's, and the message is of the clause or of the content
pub fate_rewritten_exactly : (w v : RaiseType) (t m : List Marked) → (raise_fate w t ≡ rewritten v m) ↔ ((v ≡ w) × Rewrites t m)
fate_rewritten_exactly w v t m = fate_exactly w t (rewritten v m)
