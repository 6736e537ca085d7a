-- Pass 1 makes a well formed text of a closed body, in which RAISE has the same text behind it. Assumes nothing.
use mathlib.Core.Path.{◌≡◌, refl, sym, ap, ◌∙◌, subst}
use mathlib.Core.Bool.{Bool, true, false, cond, not, ◌&&◌, ◌||◌, false≢true, true≢false}
use mathlib.Core.List.{List, [], ◌∷◌, ◌++◌, map, append_assoc}
use Prim.Native.Nat.{ℕ, zero, suc, ◌+◌, ◌≤◌, ◌<◌, zero-le, suc-le-suc}
use native.Mathlib.Omega.{arith}
use borrow.Author.Tests.{eqb-true, eq-eqb, ltb-true, ltb-false, not-true}
use lib.Dec.{eqb, ltb}
use lib.ListN.{length, take, drop, get_or, length-drop, drop_of_length-le}
use lib.Seq.{take-suc, take-add, drop-drop, length-take-le}
use Rattle.spec.proofs.WalkLaws.{prefix_take}
use Rattle.spec.proofs.ByteSets.{sign_not_ident}
use Rattle.spec.proofs.BytesLaws.{bytes_append}
use Rattle.std.proofs.lemmas.Bool.{and_parts, or_parts, or_right}
use Rattle.spec.proofs.Choice.{by}
use Rattle.spec.proofs.SpanLaws.{by_kind, lexemes_step, opens_in, seen, seek_miss}
use Rattle.spec.proofs.MapLaws.{mark_byte, text_length}
use Rattle.spec.specs.Bytes.{within, is_digit, is_lower, is_upper, is_ident, is_quote, is_pair, is_prefix, is_w, upper}
use Rattle.spec.specs.Lists.{is_empty, any, all, concat}
use Rattle.spec.specs.Spans.{escapes, quote_len, quoted_len, tag_len, seek_len, opens_dollar, dollar_of, Kind, line, block, single, double, dollar, code, kind_at, span_of, span_at, span_len, Lexeme, lexeme_at, lexemes, lexemes_from}
use Rattle.spec.specs.Map.{Marked, live, quoted, mark, marked, marked_text, bytes, region_of, span_flag}
use Rattle.spec.specs.Requote.{doubled, single_quoted, requote_span, requote_lexeme, requoted}
use Rattle.spec.specs.Closed.{ends_live, is_plain_region, is_plain_span, raises_followed, is_closed}
use Rattle.joining.proofs.Bools.{and_no, at, another}
use Rattle.joining.proofs.Reading.{leaves, leaves_append, cut, paste, Takes, takes_cons}
use Rattle.joining.proofs.Statements.{ends_append, ends_rest}
use Rattle.joining.proofs.WellFormed.{past, text_step, text_code, text_single, text_double, Open, clear, dash, slash, sign, tag, in_single, in_double, live_ok, quoted_ok, well_ok, tagged, live_next, quoted_next, well_next, is_out, Well, live_out, closes_tag, is_tag, opens_tag, Literal, single_literal, double_literal}
use Rattle.joining.proofs.WellFormedReading.{quoted_start}
use Rattle.joining.proofs.RaiseReadStart.{followed_read}
use Rattle.joining.proofs.RaiseRead.{Seen, edge, in_word, r1, r2, r3, r4, r5, gap, paren, in_level, closed, level_letter, word_start, letter_next, seen_next, seen_ok, RaiseRead}

-- ---- the requoted text with its marks

-- a span's bytes behind pass 1, with the span's mark
unfoldable pub remarked : Lexeme → List Marked
remarked l = map (mark (span_flag l.span)) (requote_lexeme l)

unfoldable pub requoted_marks : List ℕ → List Marked
requoted_marks xs = concat (map remarked (lexemes xs))

bytes_mark : (m : ℕ) (xs : List ℕ) → bytes (map (mark m) xs) ≡ xs
unfolding bytes
bytes_mark m [] = refl
bytes_mark m (c ∷ cs) = rw mark_byte (ap (λ (l : List ℕ). c ∷ l) (bytes_mark m cs))

remarked_bytes : (ls : List Lexeme) → bytes (concat (map remarked ls)) ≡ concat (map requote_lexeme ls)
unfolding concat remarked bytes
remarked_bytes [] = refl
remarked_bytes (l ∷ ls) =
    bytes_append (remarked l) (concat (map remarked ls))
    ∙ (ap (λ (t : List ℕ). t ++ bytes (concat (map remarked ls))) (bytes_mark (span_flag l.span) (requote_lexeme l))
    ∙ ap (λ (t : List ℕ). requote_lexeme l ++ t) (remarked_bytes ls))

pub requoted_bytes : (xs : List ℕ) → bytes (requoted_marks xs) ≡ requoted xs
unfolding requoted_marks requoted
requoted_bytes xs = remarked_bytes (lexemes xs)

-- the front span, then what stands behind it
requoted_step : (c : ℕ) (cs : List ℕ) → requoted_marks (c ∷ cs) ≡ remarked (lexeme_at (c ∷ cs)) ++ requoted_marks (drop (span_len (span_at (c ∷ cs))) (c ∷ cs))
unfolding requoted_marks concat
requoted_step c cs = ap (λ (ls : List Lexeme). concat (map remarked ls)) (lexemes_step c cs)

-- n bytes as they are, then a requoted text
abbrev past_requoted : ℕ → List ℕ → List Marked
past_requoted n xs = map quoted (take n xs) ++ requoted_marks (drop n xs)

requoted_code : (c : ℕ) (cs : List ℕ) → kind_at (c ∷ cs) ≡ code → requoted_marks (c ∷ cs) ≡ live c ∷ requoted_marks cs
unfolding remarked requote_lexeme requote_span lexeme_at span_at span_of
requoted_code c cs e = requoted_step c cs ∙ rw e

requoted_single : (c : ℕ) (cs : List ℕ) → kind_at (c ∷ cs) ≡ single → requoted_marks (c ∷ cs) ≡ quoted c ∷ past_requoted (quote_len true 39 cs) cs
unfolding remarked requote_lexeme requote_span lexeme_at span_at span_of quoted_len
requoted_single c cs e = requoted_step c cs ∙ rw e

requoted_double : (c : ℕ) (cs : List ℕ) → kind_at (c ∷ cs) ≡ double → requoted_marks (c ∷ cs) ≡ quoted c ∷ past_requoted (quote_len false 34 cs) cs
unfolding remarked requote_lexeme requote_span lexeme_at span_at span_of quoted_len
requoted_double c cs e = requoted_step c cs ∙ rw e

-- ---- live bytes

abbrev is_code : Kind → Bool
is_code line = false
is_code block = false
is_code single = false
is_code double = false
is_code dollar = false
is_code code = true

-- what a live byte opens: nothing
record Opens (c : ℕ) (cs : List ℕ) : Type 0 where
  no_line_lem : is_pair 45 45 c (get_or cs 0 0) ≡ false
  no_block : is_pair 47 42 c (get_or cs 0 0) ≡ false
  no_single : eqb c 39 ≡ false
  no_double : eqb c 34 ≡ false
  no_dollar_lem : opens_dollar (c ∷ cs) ≡ false

code_opens : (c : ℕ) (cs : List ℕ) → is_code (kind_at (c ∷ cs)) ≡ true → Opens c cs
unfolding kind_at
code_opens c cs h =
    let d = get_or cs 0 0 in
    by (is_pair 45 45 c d) (λ e. absurd (false≢true (rw e at h)))
    (λ e1. by (is_pair 47 42 c d) (λ e. absurd (false≢true (rw (e1, e) at h)))
    (λ e2. by (eqb c 39) (λ e. absurd (false≢true (rw (e1, e2, e) at h)))
    (λ e3. by (eqb c 34) (λ e. absurd (false≢true (rw (e1, e2, e3, e) at h)))
    (λ e4. by (opens_dollar (c ∷ cs)) (λ e. absurd (false≢true (rw (e1, e2, e3, e4, e) at h)))
    (λ e5. record { no_line_lem = e1; no_block = e2; no_single = e3; no_double = e4; no_dollar_lem = e5 })))))

-- the state that the bytes before leave fits what follows
abbrev Fits : Open → List ℕ → Type 0
Fits clear cs = Unit {0}
Fits dash cs = eqb (get_or cs 0 0) 45 ≡ false
Fits slash cs = eqb (get_or cs 0 0) 42 ≡ false
Fits sign cs = is_tag cs ≡ false
Fits tag cs = closes_tag cs ≡ false
Fits in_single cs = ⊥
Fits in_double cs = ⊥

sign_tag : (cs : List ℕ) → is_tag (36 ∷ cs) ≡ true
unfolding is_tag closes_tag tag_len is_digit within
sign_tag cs = rw (sign_not_ident 36 refl) refl

sign_closes : (cs : List ℕ) → closes_tag (36 ∷ cs) ≡ true
unfolding closes_tag tag_len
sign_closes cs = rw (sign_not_ident 36 refl) refl

opens_quote : (c : ℕ) (cs : List ℕ) → Opens c cs → is_quote c ≡ false
unfolding is_quote
opens_quote c cs o = rw (o.no_single, o.no_double) refl

fits_allowed : (s : Open) (c : ℕ) (cs : List ℕ) → Fits s (c ∷ cs) → Opens c cs → live_ok s c ≡ true
fits_allowed clear c cs f o = rw (opens_quote c cs o) refl
fits_allowed dash c cs f o = rw (opens_quote c cs o, f) refl
fits_allowed slash c cs f o = rw (opens_quote c cs o, f) refl
fits_allowed sign c cs f o = rw (opens_quote c cs o, another (λ n. is_tag (n ∷ cs)) 36 c (sign_tag cs) f) refl
fits_allowed tag c cs f o = rw (opens_quote c cs o, another (λ n. closes_tag (n ∷ cs)) 36 c (sign_closes cs) f) refl
fits_allowed in_single c cs f o = absurd f
fits_allowed in_double c cs f o = absurd f

fits_tagged : (s : Open) (c : ℕ) (cs : List ℕ) → is_ident c ≡ true → Fits s (c ∷ cs) → Fits (tagged s c) cs
unfolding is_tag closes_tag tag_len
fits_tagged clear c cs i f = tt
fits_tagged dash c cs i f = tt
fits_tagged slash c cs i f = tt
fits_tagged sign c cs i f = by (is_digit c) (λ d. rw d tt) (λ d. rw d (rw (d, i) at f))
fits_tagged tag c cs i f = rw i at f
fits_tagged in_single c cs i f = absurd f
fits_tagged in_double c cs i f = absurd f

fits_next : (s : Open) (c : ℕ) (cs : List ℕ) → Fits s (c ∷ cs) → Opens c cs → Fits (live_next s c) cs
unfolding live_next is_pair
fits_next s c cs f o =
    by (eqb c 45) (λ e. rw e (rw e at o.no_line_lem))
    (λ e. rw e
    (by (eqb c 47) (λ g. rw g (rw g at o.no_block))
    (λ g. rw g
    (by (eqb c 36) (λ h. rw h (rw h at (sym (opens_tag c cs) ∙ o.no_dollar_lem)))
    (λ h. rw h (by (is_ident c) (λ i. rw i (fits_tagged s c cs i f)) (λ i. rw i tt)))))))

-- ---- literals

any_take : (f : ℕ → Bool) (n : ℕ) (xs : List ℕ) → any f xs ≡ false → any f (take n xs) ≡ false
unfolding any
any_take f zero xs h = refl
any_take f (suc n) [] h = refl
any_take f (suc n) (c ∷ cs) h = rw ((or_parts (f c) (any f cs) h).0) (any_take f n cs ((or_parts (f c) (any f cs) h).1))

any_drop : (f : ℕ → Bool) (n : ℕ) (xs : List ℕ) → any f xs ≡ false → any f (drop n xs) ≡ false
unfolding any
any_drop f zero xs h = h
any_drop f (suc n) [] h = refl
any_drop f (suc n) (c ∷ cs) h = any_drop f n cs ((or_parts (f c) (any f cs) h).1)

flip : (a b : ℕ) → eqb a b ≡ false → eqb b a ≡ false
flip a b e = by (eqb b a) (λ f. absurd (true≢false (sym (at (λ (n : ℕ). eqb a n ≡ true) a b f (eq-eqb a a refl)) ∙ e))) (λ f. f)

-- a literal that is closed is read to its end
module _ (e : Bool) (q : ℕ) (s : Open) (l : Literal q s) where
  -- the literal's length by its first two bytes
  len_one : (c : ℕ) → quote_len e q (c ∷ []) ≡ 1
  unfolding quote_len
  len_one c = refl

  len_pair : (c d : ℕ) (cs : List ℕ) → (e && eqb c 92) ≡ false → eqb c q ≡ true → eqb d q ≡ true → quote_len e q (c ∷ d ∷ cs) ≡ suc (suc (quote_len e q cs))
  unfolding quote_len escapes
  len_pair c d cs n a b = rw (n, a, b) refl

  len_end : (c d : ℕ) (cs : List ℕ) → (e && eqb c 92) ≡ false → eqb c q ≡ true → eqb d q ≡ false → quote_len e q (c ∷ d ∷ cs) ≡ 1
  unfolding quote_len escapes
  len_end c d cs n a b = rw (n, a, b) refl

  len_more : (c d : ℕ) (cs : List ℕ) → (e && eqb c 92) ≡ false → eqb c q ≡ false → quote_len e q (c ∷ d ∷ cs) ≡ suc (quote_len e q (d ∷ cs))
  unfolding quote_len escapes
  len_more c d cs n a = rw (n, a) refl

  -- its first n bytes are read
  abbrev ReadsFirst : List ℕ → ℕ → Type 0
  ReadsFirst xs n = n < length xs → any (eqb 10) (take n xs) ≡ false → Takes well_ok well_next s clear (map quoted (take n xs))

  literal_reads : (xs : List ℕ) → any (eqb 92) xs ≡ false → ReadsFirst xs (quote_len e q xs)
  unfolding any
  literal_reads [] b = λ h n. absurd (omega arith)
  literal_reads (c ∷ []) b = λ h n. absurd (omega (arith, len_one c))
  literal_reads (c ∷ d ∷ cs) b =
      let c92 = flip 92 c ((or_parts (eqb 92 c) _ b).0) in
      let es : (e && eqb c 92) ≡ false = and_no e (eqb c 92) (λ _. c92) in
      let bs = (or_parts (eqb 92 c) (any (eqb 92) (d ∷ cs)) b).1 in
      by (eqb c q)
      (λ f. by (eqb d q)
      (λ g. subst (ReadsFirst (c ∷ d ∷ cs)) (sym (len_pair c d cs es f g))
      (λ h n.
      let more = literal_reads cs ((or_parts (eqb 92 d) (any (eqb 92) cs) bs).1) (omega arith) ((or_parts (eqb 10 d) _ ((or_parts (eqb 10 c) _ n).1)).1) in
      let c10 = flip 10 c ((or_parts (eqb 10 c) _ n).0) in
      let z : quoted_next s c ≡ clear = l.shuts c ∙ rw f refl in
      let y : cond (eqb d 39) in_single in_double ≡ s = ap (λ (k : ℕ). cond (eqb k 39) in_single in_double) (eqb-true d q g) ∙ l.opens in
      let u = map quoted (take (quote_len e q cs) cs) in
      let dq : is_quote d ≡ true = ap is_quote (eqb-true d q g) ∙ l.is_quote_lem in
      takes_cons well_ok well_next (quoted c) (quoted d ∷ u) s clear clear (l.allows c c92 c10) z (takes_cons well_ok well_next (quoted d) u clear s clear dq y more)))
      (λ g. subst (ReadsFirst (c ∷ d ∷ cs)) (sym (len_end c d cs es f g))
      (λ h n.
      let c10 = flip 10 c ((or_parts (eqb 10 c) _ n).0) in
      record { reads = (l.allows c c92 c10, tt); end = l.shuts c ∙ rw f refl })))
      (λ f. subst (ReadsFirst (c ∷ d ∷ cs)) (sym (len_more c d cs es f))
      (λ h n.
      let more = literal_reads (d ∷ cs) bs (omega arith) ((or_parts (eqb 10 c) _ n).1) in
      let c10 = flip 10 c ((or_parts (eqb 10 c) _ n).0) in
      let z : quoted_next s c ≡ s = l.shuts c ∙ rw f refl in
      let u = map quoted (take (quote_len e q (d ∷ cs)) (d ∷ cs)) in
      takes_cons well_ok well_next (quoted c) u s s clear (l.allows c c92 c10) z more))

-- the inside of a dollar literal in single quotes, from behind the first
doubled_reads : (xs : List ℕ) → any (eqb 92) xs ≡ false → any (eqb 10) xs ≡ false
    → Takes well_ok well_next in_single clear (map quoted (doubled xs ++ (39 ∷ [])))
unfolding doubled any is_quote
doubled_reads [] b n = record { reads = (refl, tt); end = refl }
doubled_reads (c ∷ cs) b n =
    let more = doubled_reads cs ((or_parts (eqb 92 c) (any (eqb 92) cs) b).1) ((or_parts (eqb 10 c) (any (eqb 10) cs) n).1) in
    by (eqb c 39)
    (λ e. rw e (record { reads = (refl, (refl, more.reads)); end = more.end }))
    (λ e. rw e (one e (single_literal.allows c (flip 92 c ((or_parts (eqb 92 c) _ b).0)) (flip 10 c ((or_parts (eqb 10 c) _ n).0))) more))
  where
    one : eqb c 39 ≡ false → quoted_ok in_single c ≡ true → Takes well_ok well_next in_single clear (map quoted (doubled cs ++ (39 ∷ [])))
        → Takes well_ok well_next in_single clear (quoted c ∷ map quoted (doubled cs ++ (39 ∷ [])))
    one e o more =
        let z : quoted_next in_single c ≡ in_single = rw e refl in
        takes_cons well_ok well_next (quoted c) (map quoted (doubled cs ++ (39 ∷ []))) in_single in_single clear o z more

-- ---- dollar literals

-- the opening delimiter ends in `$`
opening : (c : ℕ) (cs : List ℕ) → opens_dollar (c ∷ cs) ≡ true → (w : List ℕ) × (take (2 + tag_len cs) (c ∷ cs) ≡ c ∷ (w ++ (36 ∷ [])))
unfolding is_tag closes_tag
opening c cs h =
    let t = (and_parts (eqb c 36) (is_tag cs) (sym (opens_tag c cs) ∙ h)).1 in
    let e = eqb-true (get_or cs (tag_len cs) 0) 36 ((and_parts (not (is_digit (get_or cs 0 0))) (closes_tag cs) t).1) in
    let b = seen cs (tag_len cs) 35 e in
    let n : 2 + tag_len cs ≡ suc (suc (tag_len cs)) = omega arith in (
      take (tag_len cs) cs,
      ap (λ (m : ℕ). take m (c ∷ cs)) n
          ∙ ap (λ (l : List ℕ). c ∷ l) (take-suc cs (tag_len cs) 0 b ∙ ap (λ (d : ℕ). take (tag_len cs) cs ++ (d ∷ [])) e),
    )

-- a closed dollar literal starts with `$` and ends in it
record Closing (c : ℕ) (cs : List ℕ) (n : ℕ) : Type 0 where
  inner : List ℕ
  text : take n (c ∷ cs) ≡ c ∷ (inner ++ (36 ∷ []))

closed_dollar : (c : ℕ) (cs : List ℕ) → opens_dollar (c ∷ cs) ≡ true →
    let n = 2 + tag_len cs in
    let k = seek_len (take n (c ∷ cs)) (drop n (c ∷ cs)) in
    is_prefix (take n (c ∷ cs)) (drop k (drop n (c ∷ cs))) ≡ true → Closing c cs (n + k + n)
closed_dollar c cs h s =
    let xs = c ∷ cs in
    let n = 2 + tag_len cs in
    let p = take n xs in
    let k = seek_len p (drop n xs) in
    let o = opening c cs h in
    let len : length p ≡ n = length-take-le n xs (opens_in xs h) in
    let e1 : take n (drop (n + k) xs) ≡ c ∷ (o.0 ++ (36 ∷ [])) =
    ap (λ (l : List ℕ). take n l) (sym (drop-drop k n xs)) ∙ (ap (λ (m : ℕ). take m (drop k (drop n xs))) (sym len) ∙ (prefix_take p (drop k (drop n xs)) s ∙ o.1)) in
    let j : n + k ≡ suc (1 + tag_len cs + k) = omega arith in
    let e2 : take (n + k) xs ≡ c ∷ take (1 + tag_len cs + k) cs = ap (λ (m : ℕ). take m xs) j in
    record {
      inner = take (1 + tag_len cs + k) cs ++ (c ∷ o.0);
      text =
          take-add (n + k) n xs
          ∙ (ap (λ (l : List ℕ). l ++ take n (drop (n + k) xs)) e2
          ∙ (ap (λ (l : List ℕ). (c ∷ take (1 + tag_len cs + k) cs) ++ l) e1
          ∙ ap (λ (l : List ℕ). c ∷ l) (sym (append_assoc (take (1 + tag_len cs + k) cs) (c ∷ o.0) (36 ∷ [])))));
    }

-- ---- RAISE and literals

-- a row of quoted bytes that ends in no identifier byte begins no RAISE
quoted_row : (d : ℕ) → is_ident d ≡ false → (xs : List ℕ)
    → Takes (seen_ok false) seen_next edge edge (map quoted (xs ++ (d ∷ []))) × Takes (seen_ok false) seen_next in_word edge (map quoted (xs ++ (d ∷ [])))
unfolding seen_next word_start
quoted_row d i [] = (record { reads = (refl, tt); end = rw i refl }, record { reads = (refl, tt); end = rw i refl })
quoted_row d i (c ∷ xs) =
    let more = quoted_row d i xs in
    let u = map quoted (xs ++ (d ∷ [])) in
    let ok = seen_ok false in
    by (is_ident c)
    (λ e. (takes_cons ok seen_next (quoted c) u edge in_word edge refl (rw e refl) more.1, takes_cons ok seen_next (quoted c) u in_word in_word edge refl (rw e refl) more.1))
    (λ e. (takes_cons ok seen_next (quoted c) u edge edge edge refl (rw e refl) more.0, takes_cons ok seen_next (quoted c) u in_word edge edge refl (rw e refl) more.0))

-- a quote may stand where a `$` stands
record Quotes (s : Seen) : Type 0 where
  allowed : seen_ok false s (quoted 39) ≡ true
  behind_dollar : seen_next s (quoted 36) ≡ edge
  behind_quote : seen_next s (quoted 39) ≡ edge

dollar_quotes : (s : Seen) → seen_ok false s (quoted 36) ≡ true → Quotes s
unfolding seen_next word_start letter_next level_letter upper is_ident is_lower is_upper is_digit within is_w
dollar_quotes edge h = record { allowed = refl; behind_dollar = refl; behind_quote = refl }
dollar_quotes in_word h = record { allowed = refl; behind_dollar = refl; behind_quote = refl }
dollar_quotes r1 h = record { allowed = refl; behind_dollar = refl; behind_quote = refl }
dollar_quotes r2 h = record { allowed = refl; behind_dollar = refl; behind_quote = refl }
dollar_quotes r3 h = record { allowed = refl; behind_dollar = refl; behind_quote = refl }
dollar_quotes r4 h = record { allowed = refl; behind_dollar = refl; behind_quote = refl }
dollar_quotes r5 h = absurd (false≢true h)
dollar_quotes gap h = record { allowed = refl; behind_dollar = refl; behind_quote = refl }
dollar_quotes paren h = absurd (false≢true h)
dollar_quotes in_level h = absurd (false≢true h)
dollar_quotes closed h = absurd (false≢true h)

-- ---- the whole text

-- what *closed* says, from a span on
record Fine (xs : List ℕ) : Type 0 where
  plain : all is_plain_span (lexemes xs) ≡ true
  slashless : any (eqb 92) xs ≡ false
  ended : (is_empty xs || ends_live (marked_text xs)) ≡ true

-- what pass 1 makes of it
record Requoted (xs : List ℕ) : Type 0 where
  well : (s : Open) → is_out s ≡ true → Fits s xs → Well s (requoted_marks xs) × (is_out (leaves well_next s (requoted_marks xs)) ≡ true)
  raise_read : (s : Seen) → RaiseRead s (marked_text xs) → RaiseRead s (requoted_marks xs)
  ends : ends_live (marked_text xs) ≡ true → ends_live (requoted_marks xs) ≡ true

-- a text that ends in a live byte does not end in a quoted row
ends_quoted : (xs : List ℕ) (u : List Marked) → ends_live (map quoted xs ++ u) ≡ true → ends_live u ≡ true
unfolding ends_live
ends_quoted [] u h = h
ends_quoted (c ∷ []) [] h = absurd (false≢true h)
ends_quoted (c ∷ []) (x ∷ u) h = h
ends_quoted (c ∷ d ∷ xs) u h = ends_quoted (d ∷ xs) u h

ends_inside : (n : ℕ) (xs : List ℕ) → ends_live (marked_text (drop n xs)) ≡ true → n < length xs
unfolding ends_live marked_text marked
ends_inside n xs h =
    by (ltb n (length xs)) (λ e. ltb-true n (length xs) e)
    (λ e. absurd (false≢true (rw (drop_of_length-le xs (ltb-false n (length xs) e)) at h)))

rest_plain : (c : ℕ) (cs : List ℕ) → Fine (c ∷ cs)
    → (is_plain_span (lexeme_at (c ∷ cs)) ≡ true) × (all is_plain_span (lexemes (drop (span_len (span_at (c ∷ cs))) (c ∷ cs))) ≡ true)
unfolding all
rest_plain c cs f =
    let l = lexeme_at (c ∷ cs) in
    let ls = lexemes (drop (span_len (span_at (c ∷ cs))) (c ∷ cs)) in
    let h : (is_plain_span l && all is_plain_span ls) ≡ true = subst (λ (z : List Lexeme). all is_plain_span z ≡ true) (lexemes_step c cs) f.plain in
    ((and_parts (is_plain_span l) (all is_plain_span ls) h).0, (and_parts (is_plain_span l) (all is_plain_span ls) h).1)

text_some : (c : ℕ) (cs : List ℕ) → marked_text (c ∷ cs) ≡ [] → ⊥
text_some c cs e = absurd (omega (arith, text_length (c ∷ cs), ap length e))

live_later : (c : ℕ) (cs : List ℕ) → ends_live (live c ∷ marked_text cs) ≡ true → (is_empty cs || ends_live (marked_text cs)) ≡ true
unfolding is_empty
live_later c [] h = refl
live_later c (d ∷ cs) h = ends_rest (live c) (marked_text (d ∷ cs)) h (text_some d cs)

live_ends : (c : ℕ) (cs : List ℕ) → ends_live (live c ∷ marked_text cs) ≡ true → (ends_live (marked_text cs) ≡ true → ends_live (requoted_marks cs) ≡ true)
    → ends_live (live c ∷ requoted_marks cs) ≡ true
unfolding requoted_marks lexemes lexemes_from concat marked_text marked
live_ends c [] h f = h
live_ends c (d ∷ cs) h f = ends_append (live c ∷ []) (requoted_marks (d ∷ cs)) (f (ends_rest (live c) (marked_text (d ∷ cs)) h (text_some d cs)))

-- a live byte
code_case : (c : ℕ) (cs : List ℕ) → kind_at (c ∷ cs) ≡ code → Fine (c ∷ cs) → (Fine cs → Requoted cs) → Requoted (c ∷ cs)
unfolding is_empty any span_at span_of
code_case c cs e f ih =
    let mt = text_code c cs e in
    let rt = requoted_code c cs e in
    let o = code_opens c cs (rw e refl) in
    let en : ends_live (live c ∷ marked_text cs) ≡ true = subst (λ (t : List Marked). ends_live t ≡ true) mt f.ended in
    let r = ih (record {
      plain = rw e at (rest_plain c cs f).1;
      slashless = (or_parts (eqb 92 c) (any (eqb 92) cs) f.slashless).1;
      ended = live_later c cs en;
    }) in
    record {
      well =
          λ s h g.
          let w = r.well (live_next s c) (live_out s c h) (fits_next s c cs g o) in
          subst (λ (t : List Marked). Well s t × (is_out (leaves well_next s t) ≡ true)) (sym rt) ((fits_allowed s c cs g o, w.0), w.1);
      raise_read =
          λ s t.
          let t2 : RaiseRead s (live c ∷ marked_text cs) = subst (λ (u : List Marked). RaiseRead s u) mt t in
          subst (λ (u : List Marked). RaiseRead s u) (sym rt) (t2.0, r.raise_read (seen_next s (live c)) t2.1);
      ends = λ _. subst (λ (t : List Marked). ends_live t ≡ true) (sym rt) (live_ends c cs en r.ends);
    }

-- a literal in quotes
module _ (e : Bool) (q : ℕ) (z : Open) (l : Literal q z) (c : ℕ) (cs : List ℕ) (cq : c ≡ q)
    (mt : marked_text (c ∷ cs) ≡ quoted c ∷ past (quote_len e q cs) cs)
    (rt : requoted_marks (c ∷ cs) ≡ quoted c ∷ past_requoted (quote_len e q cs) cs) where
  literal_case : any (eqb 92) cs ≡ false → any (eqb 10) (take (quote_len e q cs) cs) ≡ false
      → ends_live (marked_text (c ∷ cs)) ≡ true
      → (ends_live (marked_text (drop (quote_len e q cs) cs)) ≡ true → Requoted (drop (quote_len e q cs) cs))
      → Requoted (c ∷ cs)
  literal_case b n en ih =
      let m = quote_len e q cs in
      let u = map quoted (take m cs) in
      let R = requoted_marks (drop m cs) in
      let er : ends_live (marked_text (drop m cs)) ≡ true = ends_quoted (c ∷ take m cs) (marked_text (drop m cs)) (subst (λ (t : List Marked). ends_live t ≡ true) mt en) in
      let r = ih er in
      let t = literal_reads e q z l cs b (ends_inside m cs er) n in
      let iq : is_quote c ≡ true = ap is_quote cq ∙ l.is_quote_lem in
      let oz : cond (eqb c 39) in_single in_double ≡ z = ap (λ (k : ℕ). cond (eqb k 39) in_single in_double) cq ∙ l.opens in
      record {
        well =
            λ s h g.
            let qs = quoted_start s c h in
            let w = r.well clear refl tt in
            let chunk = takes_cons well_ok well_next (quoted c) u s z clear (qs.0 ∙ iq) (qs.1 ∙ oz) t in
            let ends2 : leaves well_next s ((quoted c ∷ u) ++ R) ≡ leaves well_next clear R =
            leaves_append well_next (quoted c ∷ u) R s ∙ ap (λ (y : Open). leaves well_next y R) chunk.end in
            subst (λ (y : List Marked). Well s y × (is_out (leaves well_next s y) ≡ true)) (sym rt) (
              paste well_ok well_next (quoted c ∷ u) R s chunk.reads (subst (λ (y : Open). Well y R) (sym chunk.end) w.0),
              subst (λ (y : Open). is_out y ≡ true) (sym ends2) w.1,
            );
        raise_read =
            λ s y.
            let t2 = cut (seen_ok false) seen_next (quoted c ∷ u) (marked_text (drop m cs)) s (subst (λ (v : List Marked). RaiseRead s v) mt y) in
            subst (λ (v : List Marked). RaiseRead s v) (sym rt) (paste (seen_ok false) seen_next (quoted c ∷ u) R s t2.0 (r.raise_read (leaves seen_next s (quoted c ∷ u)) t2.1));
        ends = λ _. subst (λ (y : List Marked). ends_live y ≡ true) (sym rt) (ends_append (quoted c ∷ u) R (r.ends er));
      }

-- a dollar literal
module _ (c : ℕ) (cs : List ℕ) where
  -- its opening delimiter's length, its inside's, and its own
  abbrev opens : ℕ
  opens = 2 + tag_len cs

  abbrev inner : ℕ
  inner = seek_len (take opens (c ∷ cs)) (drop opens (c ∷ cs))

  abbrev whole : ℕ
  whole = (dollar_of opens (c ∷ cs)).span

  abbrev insides : List ℕ
  insides = take inner (drop opens (take whole (c ∷ cs)))

  dollar_pos : 0 < whole
  unfolding dollar_of
  dollar_pos = omega arith

  text_dollar : kind_at (c ∷ cs) ≡ dollar → marked_text (c ∷ cs) ≡ map quoted (take whole (c ∷ cs)) ++ marked_text (drop whole (c ∷ cs))
  unfolding span_at span_of
  text_dollar e = text_step c cs ∙ rw e

  requoted_dollar : kind_at (c ∷ cs) ≡ dollar → requoted_marks (c ∷ cs) ≡ map quoted (single_quoted insides) ++ requoted_marks (drop whole (c ∷ cs))
  unfolding remarked requote_lexeme requote_span lexeme_at span_at span_of dollar_of
  requoted_dollar e = requoted_step c cs ∙ rw e

  -- within a longer text it is closed
  shut_dollar : opens_dollar (c ∷ cs) ≡ true → whole < length (c ∷ cs)
      → (is_prefix (take opens (c ∷ cs)) (drop inner (drop opens (c ∷ cs))) ≡ true) × (whole ≡ opens + inner + opens)
  unfolding dollar_of
  shut_dollar o h =
      let xs = c ∷ cs in
      by (is_prefix (take opens xs) (drop inner (drop opens xs)))
      (λ e. (e, rw e refl))
      (λ e.
      let k = seek_miss (take opens xs) (drop opens xs) e in
      let w : whole ≡ opens + inner + 0 = rw e refl in
      absurd (omega (arith, opens_in xs o, length-drop opens xs)))

  dollar_case : kind_at (c ∷ cs) ≡ dollar → opens_dollar (c ∷ cs) ≡ true → any (eqb 92) (c ∷ cs) ≡ false → any (eqb 10) (take whole (c ∷ cs)) ≡ false
      → ends_live (marked_text (c ∷ cs)) ≡ true
      → (ends_live (marked_text (drop whole (c ∷ cs))) ≡ true → Requoted (drop whole (c ∷ cs)))
      → Requoted (c ∷ cs)
  unfolding single_quoted is_quote opens_dollar
  dollar_case kd o b n en ih =
      let xs = c ∷ cs in
      let N = whole in
      let mt = text_dollar kd in
      let rt = requoted_dollar kd in
      let R = requoted_marks (drop N xs) in
      let er : ends_live (marked_text (drop N xs)) ≡ true = ends_quoted (take N xs) (marked_text (drop N xs)) (subst (λ (t : List Marked). ends_live t ≡ true) mt en) in
      let r = ih er in
      let sh = shut_dollar o (ends_inside N xs er) in
      let cl = closed_dollar c cs o sh.0 in
      let tx : take N xs ≡ c ∷ (cl.inner ++ (36 ∷ [])) = ap (λ (k : ℕ). take k xs) sh.1 ∙ cl.text in
      let u = map quoted (doubled insides ++ (39 ∷ [])) in
      let d =
      doubled_reads insides
      (any_take (eqb 92) inner (drop opens (take N xs)) (any_drop (eqb 92) opens (take N xs) (any_take (eqb 92) N xs b)))
      (any_take (eqb 10) inner (drop opens (take N xs)) (any_drop (eqb 10) opens (take N xs) n)) in
      let c36 : c ≡ 36 = eqb-true c 36 ((and_parts (eqb c 36) _ o).0) in
      record {
        well =
            λ s h g.
            let qs = quoted_start s 39 h in
            let w = r.well clear refl tt in
            let chunk = takes_cons well_ok well_next (quoted 39) u s in_single clear qs.0 qs.1 d in
            let ends2 : leaves well_next s ((quoted 39 ∷ u) ++ R) ≡ leaves well_next clear R =
            leaves_append well_next (quoted 39 ∷ u) R s ∙ ap (λ (y : Open). leaves well_next y R) chunk.end in
            subst (λ (y : List Marked). Well s y × (is_out (leaves well_next s y) ≡ true)) (sym rt) (
              paste well_ok well_next (quoted 39 ∷ u) R s chunk.reads (subst (λ (y : Open). Well y R) (sym chunk.end) w.0),
              subst (λ (y : Open). is_out y ≡ true) (sym ends2) w.1,
            );
        raise_read =
            λ s y.
            let v = map quoted (cl.inner ++ (36 ∷ [])) in
            let y2 : RaiseRead s (quoted 36 ∷ (v ++ marked_text (drop N xs))) =
            subst (λ (k : ℕ). RaiseRead s (quoted k ∷ (v ++ marked_text (drop N xs)))) c36
            (subst (λ (l : List ℕ). RaiseRead s (map quoted l ++ marked_text (drop N xs))) tx (subst (λ (l : List Marked). RaiseRead s l) mt y)) in
            let q = dollar_quotes s y2.0 in
            let t2 = cut (seen_ok false) seen_next v (marked_text (drop N xs)) edge (subst (λ (z : Seen). RaiseRead z (v ++ marked_text (drop N xs))) q.behind_dollar y2.1) in
            let row = (quoted_row 36 (sign_not_ident 36 refl) cl.inner).0 in
            let rest : RaiseRead edge R = r.raise_read edge (subst (λ (z : Seen). RaiseRead z (marked_text (drop N xs))) row.end t2.1) in
            let row2 = (quoted_row 39 (sign_not_ident 39 refl) (doubled insides)).0 in
            let chunk = takes_cons (seen_ok false) seen_next (quoted 39) u s edge edge q.allowed q.behind_quote row2 in
            subst (λ (l : List Marked). RaiseRead s l) (sym rt)
            (paste (seen_ok false) seen_next (quoted 39 ∷ u) R s chunk.reads (subst (λ (z : Seen). RaiseRead z R) (sym chunk.end) rest));
        ends = λ _. subst (λ (y : List Marked). ends_live y ≡ true) (sym rt) (ends_append (quoted 39 ∷ u) R (r.ends er));
      }

-- what *closed* says of the front span of this kind, and of what stands behind it
record FrontPlain (k : Kind) (xs : List ℕ) : Type 0 where
  here : is_plain_region (region_of k) (take (span_len (span_of k xs)) xs) ≡ true
  behind : all is_plain_span (lexemes (drop (span_len (span_of k xs)) xs)) ≡ true

front_plain : (k : Kind) (c : ℕ) (cs : List ℕ) → kind_at (c ∷ cs) ≡ k → Fine (c ∷ cs) → FrontPlain k (c ∷ cs)
unfolding is_plain_span lexeme_at span_at
front_plain k c cs e f =
    let p = rest_plain c cs f in
    subst (λ (z : Kind). FrontPlain z (c ∷ cs)) e (record { here = p.0; behind = p.1 })

rest_fine : (n : ℕ) (xs : List ℕ) → all is_plain_span (lexemes (drop n xs)) ≡ true → any (eqb 92) xs ≡ false → ends_live (marked_text (drop n xs)) ≡ true
    → Fine (drop n xs)
rest_fine n xs p b e =
    record {
      plain = p;
      slashless = any_drop (eqb 92) n xs b;
      ended = or_right (is_empty (drop n xs)) (ends_live (marked_text (drop n xs))) e;
    }

-- the front span, with what pass 1 makes of the text behind it
span_requoted : (c : ℕ) (cs : List ℕ) → Fine (c ∷ cs) → ((n : ℕ) → 0 < n → Fine (drop n (c ∷ cs)) → Requoted (drop n (c ∷ cs))) → Requoted (c ∷ cs)
unfolding is_empty any span_of quoted_len
span_requoted c cs f ih =
    let xs = c ∷ cs in
    let en = f.ended in
    let b = f.slashless in
    let bs = (or_parts (eqb 92 c) (any (eqb 92) cs) b).1 in
    by_kind xs (λ (k : Kind). kind_at xs ≡ k → Requoted xs)
    (λ t e. absurd (false≢true (front_plain line c cs e f).here))
    (λ t e. absurd (false≢true (front_plain block c cs e f).here))
    (λ t e.
    let p = front_plain single c cs e f in
    let m = quote_len true 39 cs in
    literal_case true 39 in_single single_literal c cs (eqb-true c 39 t) (text_single c cs e) (requoted_single c cs e) bs
    ((or_parts (eqb 10 c) (any (eqb 10) (take m cs)) (not-true (any (eqb 10) (c ∷ take m cs)) p.here)).1) en
    (λ er. ih (suc m) (suc-le-suc zero-le) (rest_fine m cs p.behind bs er)))
    (λ t e.
    let p = front_plain double c cs e f in
    let m = quote_len false 34 cs in
    literal_case false 34 in_double double_literal c cs (eqb-true c 34 t) (text_double c cs e) (requoted_double c cs e) bs
    ((or_parts (eqb 10 c) (any (eqb 10) (take m cs)) (not-true (any (eqb 10) (c ∷ take m cs)) p.here)).1) en
    (λ er. ih (suc m) (suc-le-suc zero-le) (rest_fine m cs p.behind bs er)))
    (λ o e.
    let p = front_plain dollar c cs e f in
    let m = whole c cs in
    dollar_case c cs e o b (not-true (any (eqb 10) (take m xs)) p.here) en
    (λ er. ih m (dollar_pos c cs) (rest_fine m xs p.behind b er)))
    (λ e. code_case c cs e f (λ g. ih 1 (suc-le-suc zero-le) g))
    refl

requoted_fine : (f : ℕ) (xs : List ℕ) → length xs ≤ f → Fine xs → Requoted xs
unfolding requoted_marks lexemes lexemes_from concat marked_text marked ends_live
requoted_fine zero [] b h = record { well = λ s o g. (tt, o); raise_read = λ s t. tt; ends = λ e. e }
requoted_fine zero (c ∷ cs) b h = absurd (omega arith)
requoted_fine (suc f) [] b h = record { well = λ s o g. (tt, o); raise_read = λ s t. tt; ends = λ e. e }
requoted_fine (suc f) (c ∷ cs) b h = span_requoted c cs h (λ n p g. requoted_fine f (drop n (c ∷ cs)) (omega (arith, length-drop n (c ∷ cs))) g)

-- pass 1's text of a closed body: it is well formed, RAISE has what *closed* says behind it, and it ends in a live `;`
pub record Closes (t : List Marked) : Type 0 where
  pub well : Well clear t
  pub raise_read : RaiseRead edge t
  pub ended : ends_live t ≡ true

pub requote_kept : (a : List ℕ) → is_closed a ≡ true → Closes (requoted_marks a)
unfolding is_closed
requote_kept a h =
    let e = ends_live (marked_text a) in
    let b = not (any (eqb 92) a) in
    let p = all is_plain_span (lexemes a) in
    let r = raises_followed 0 (marked_text a) in
    let h1 = (and_parts e (b && (p && r)) h).1 in
    let h2 = (and_parts b (p && r) h1).1 in
    let en = (and_parts e (b && (p && r)) h).0 in
    let q = requoted_fine (length a) a (omega arith) (record {
      plain = (and_parts p r h2).0;
      slashless = not-true (any (eqb 92) a) ((and_parts b (p && r) h1).0);
      ended = or_right (is_empty a) e en;
    }) in
    record {
      well = (q.well clear refl tt).0;
      raise_read = q.raise_read edge (followed_read (marked_text a) edge 0 (sym (ap not (sign_not_ident 0 refl))) ((and_parts p r h2).1) tt);
      ended = q.ends en;
    }
