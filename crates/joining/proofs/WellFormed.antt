-- Marked text with no comment, no dollar literal, no backslash and no newline in a literal, whose marks are those of its
-- quotes. The scanner gives each byte its mark back, and so does pass 4's walk. Assumes nothing.
use mathlib.Core.Path.{◌≡◌, refl, sym, ap, ◌∙◌, subst}
use mathlib.Core.Bool.{Bool, true, false, cond, not, ◌&&◌, false≢true, true≢false}
use mathlib.Core.List.{List, [], ◌∷◌, ◌++◌, map}
use Prim.Native.Nat.{ℕ, zero, suc, ◌+◌, ◌≤◌, zero-le, suc-le-suc}
use native.Mathlib.Nat.{le_of_suc-le-suc}
use native.Mathlib.Omega.{arith}
use borrow.Author.Tests.{eqb-true, not-true}
use lib.Dec.{eqb}
use lib.ListN.{length, take, drop, get_or, replicate}
use Rattle.spec.proofs.ByteSets.{sign_not_ident}
use Rattle.std.proofs.lemmas.Bool.{and_parts, or_parts}
use Rattle.spec.proofs.Choice.{by}
use Rattle.spec.proofs.SpanLaws.{span_le}
use Rattle.spec.proofs.MapLaws.{map_step}
use Rattle.spec.specs.Bytes.{within, is_digit, is_ident, is_quote, is_pair}
use Rattle.spec.specs.Spans.{escapes, quote_len, quoted_len, tag_len, opens_dollar, single, double, code, kind_at, span_of, span_at, span_len}
use Rattle.spec.specs.Map.{Marked, live, quoted, byte, mark, marked, marked_text, map_of, bytes, span_flag}
use Rattle.spec.specs.SelectInto.{quote_after, quote_walk}
use Rattle.joining.proofs.Bools.{and_no, other, another, quotes}
use Rattle.joining.proofs.Reading.{Reads, leaves}

-- ---- a marked text, span by span

-- n quoted bytes, then a text with its own marks
abbrev pub past : ℕ → List ℕ → List Marked
past n xs = map quoted (take n xs) ++ marked_text (drop n xs)

marked_front : (m n : ℕ) (xs ms : List ℕ) → n ≤ length xs → marked xs (replicate n m ++ ms) ≡ map (mark m) (take n xs) ++ marked (drop n xs) ms
unfolding marked
marked_front m zero xs ms h = refl
marked_front m (suc n) [] ms h = absurd (omega arith)
marked_front m (suc n) (c ∷ cs) ms h = ap (λ (t : List Marked). mark m c ∷ t) (marked_front m n cs ms (le_of_suc-le-suc h))

-- the front span's bytes with its mark, then the text behind it with its own
pub text_step : (c : ℕ) (cs : List ℕ)
    → marked_text (c ∷ cs) ≡ map (mark (span_flag (span_at (c ∷ cs)))) (take (span_len (span_at (c ∷ cs))) (c ∷ cs)) ++ marked_text (drop (span_len (span_at (c ∷ cs))) (c ∷ cs))
unfolding marked_text
text_step c cs =
    let s = span_at (c ∷ cs) in
    ap (λ (ms : List ℕ). marked (c ∷ cs) ms) (map_step c cs)
    ∙ marked_front (span_flag s) (span_len s) (c ∷ cs) (map_of (drop (span_len s) (c ∷ cs))) (span_le (c ∷ cs) (suc-le-suc zero-le))

-- a live byte
pub text_code : (c : ℕ) (cs : List ℕ) → kind_at (c ∷ cs) ≡ code → marked_text (c ∷ cs) ≡ live c ∷ marked_text cs
unfolding span_at span_of
text_code c cs e = text_step c cs ∙ rw e

-- a literal
pub text_single : (c : ℕ) (cs : List ℕ) → kind_at (c ∷ cs) ≡ single → marked_text (c ∷ cs) ≡ quoted c ∷ past (quote_len true 39 cs) cs
unfolding span_at span_of quoted_len
text_single c cs e = text_step c cs ∙ rw e

pub text_double : (c : ℕ) (cs : List ℕ) → kind_at (c ∷ cs) ≡ double → marked_text (c ∷ cs) ≡ quoted c ∷ past (quote_len false 34 cs) cs
unfolding span_at span_of quoted_len
text_double c cs e = text_step c cs ∙ rw e

-- ---- the state

-- what the bytes before leave open: nothing, `-`, `/`, `$`, `$` and a tag, or a literal
pub data Open : Type 0 where
  clear dash slash sign tag in_single in_double : Open

-- a live byte may follow
abbrev pub live_ok : Open → ℕ → Bool
live_ok clear c = not (is_quote c)
live_ok dash c = not (is_quote c) && not (eqb c 45)
live_ok slash c = not (is_quote c) && not (eqb c 42)
live_ok sign c = not (is_quote c) && not (eqb c 36)
live_ok tag c = not (is_quote c) && not (eqb c 36)
live_ok in_single c = false
live_ok in_double c = false

abbrev pub quoted_ok : Open → ℕ → Bool
quoted_ok clear c = is_quote c
quoted_ok dash c = is_quote c
quoted_ok slash c = is_quote c
quoted_ok sign c = is_quote c
quoted_ok tag c = is_quote c
quoted_ok in_single c = not (eqb c 92) && not (eqb c 10)
quoted_ok in_double c = not (eqb c 92) && not (eqb c 10)

abbrev pub well_ok : Open → Marked → Bool
well_ok s (live c) = live_ok s c
well_ok s (quoted c) = quoted_ok s c

-- behind an identifier byte
abbrev pub tagged : Open → ℕ → Open
tagged clear c = clear
tagged dash c = clear
tagged slash c = clear
tagged sign c = cond (is_digit c) clear tag
tagged tag c = tag
tagged in_single c = in_single
tagged in_double c = in_double

unfoldable pub live_next : Open → ℕ → Open
live_next s c = cond (eqb c 45) dash (cond (eqb c 47) slash (cond (eqb c 36) sign (cond (is_ident c) (tagged s c) clear)))

abbrev pub quoted_next : Open → ℕ → Open
quoted_next clear c = cond (eqb c 39) in_single in_double
quoted_next dash c = cond (eqb c 39) in_single in_double
quoted_next slash c = cond (eqb c 39) in_single in_double
quoted_next sign c = cond (eqb c 39) in_single in_double
quoted_next tag c = cond (eqb c 39) in_single in_double
quoted_next in_single c = cond (eqb c 39) clear in_single
quoted_next in_double c = cond (eqb c 34) clear in_double

abbrev pub well_next : Open → Marked → Open
well_next s (live c) = live_next s c
well_next s (quoted c) = quoted_next s c

-- in no literal
abbrev pub is_out : Open → Bool
is_out clear = true
is_out dash = true
is_out slash = true
is_out sign = true
is_out tag = true
is_out in_single = false
is_out in_double = false

abbrev pub Well : Open → List Marked → Type 0
Well s t = Reads well_ok well_next s t

-- a well formed text
pub record Formed (t : List Marked) : Type 0 where
  pub well : Well clear t
  pub out : is_out (leaves well_next clear t) ≡ true

pub next_ident : (s : Open) (c : ℕ) → is_ident c ≡ true → live_next s c ≡ tagged s c
unfolding live_next
next_ident s c h = rw (other is_ident 45 c (sign_not_ident 45 refl) h, other is_ident 47 c (sign_not_ident 47 refl) h, other is_ident 36 c (sign_not_ident 36 refl) h, h) refl

pub live_quote : (s : Open) (c : ℕ) → live_ok s c ≡ true → is_quote c ≡ false
live_quote clear c h = not-true (is_quote c) h
live_quote dash c h = not-true (is_quote c) ((and_parts (not (is_quote c)) (not (eqb c 45)) h).0)
live_quote slash c h = not-true (is_quote c) ((and_parts (not (is_quote c)) (not (eqb c 42)) h).0)
live_quote sign c h = not-true (is_quote c) ((and_parts (not (is_quote c)) (not (eqb c 36)) h).0)
live_quote tag c h = not-true (is_quote c) ((and_parts (not (is_quote c)) (not (eqb c 36)) h).0)
live_quote in_single c h = absurd (false≢true h)
live_quote in_double c h = absurd (false≢true h)

-- ---- what the state keeps from opening

front_dash : (t : List Marked) → Well dash t → eqb (get_or (bytes t) 0 0) 45 ≡ false
unfolding bytes
front_dash [] o = refl
front_dash (live c ∷ t) o = not-true (eqb c 45) ((and_parts (not (is_quote c)) (not (eqb c 45)) o.0).1)
front_dash (quoted c ∷ t) o = quotes (λ (n : ℕ). eqb n 45 ≡ false) c o.0 refl refl

front_slash : (t : List Marked) → Well slash t → eqb (get_or (bytes t) 0 0) 42 ≡ false
unfolding bytes
front_slash [] o = refl
front_slash (live c ∷ t) o = not-true (eqb c 42) ((and_parts (not (is_quote c)) (not (eqb c 42)) o.0).1)
front_slash (quoted c ∷ t) o = quotes (λ (n : ℕ). eqb n 42 ≡ false) c o.0 refl refl

-- identifier bytes, then `$`
unfoldable pub closes_tag : List ℕ → Bool
closes_tag xs = eqb (get_or xs (tag_len xs) 0) 36

-- behind a `$`: a tag and `$`
unfoldable pub is_tag : List ℕ → Bool
is_tag xs = not (is_digit (get_or xs 0 0)) && closes_tag xs

pub opens_tag : (c : ℕ) (cs : List ℕ) → opens_dollar (c ∷ cs) ≡ (eqb c 36 && is_tag cs)
unfolding opens_dollar is_tag closes_tag
opens_tag c cs =
    let e : 1 + tag_len cs ≡ suc (tag_len cs) = omega arith in
    ap (λ (n : ℕ). eqb c 36 && (not (is_digit (get_or cs 0 0)) && eqb (get_or (c ∷ cs) n 0) 36)) e

front_tag : (t : List Marked) → Well tag t → closes_tag (bytes t) ≡ false
unfolding bytes closes_tag tag_len
front_tag [] o = refl
front_tag (live c ∷ t) o =
    by (is_ident c)
    (λ e. rw e (front_tag t (rw (next_ident tag c e) at o.1)))
    (λ e. rw e (not-true (eqb c 36) ((and_parts (not (is_quote c)) (not (eqb c 36)) o.0).1)))
front_tag (quoted c ∷ t) o = quotes (λ (n : ℕ). eqb (get_or (n ∷ bytes t) (tag_len (n ∷ bytes t)) 0) 36 ≡ false) c o.0 (rw (sign_not_ident 39 refl) refl) (rw (sign_not_ident 34 refl) refl)

quote_tag : (c : ℕ) (cs : List ℕ) → is_quote c ≡ true → is_tag (c ∷ cs) ≡ false
unfolding is_tag closes_tag tag_len is_digit within
quote_tag c cs e = quotes (λ (n : ℕ). is_tag (n ∷ cs) ≡ false) c e (rw (sign_not_ident 39 refl) refl) (rw (sign_not_ident 34 refl) refl)

front_sign : (t : List Marked) → Well sign t → is_tag (bytes t) ≡ false
unfolding bytes is_tag closes_tag tag_len is_digit within
front_sign [] o = refl
front_sign (live c ∷ t) o =
    by (is_digit c)
    (λ d. rw d refl)
    (λ d. rw d
    (by (is_ident c)
    (λ e. rw e (front_tag t (subst (λ (s : Open). Well s t) (next_ident sign c e ∙ rw d refl) o.1)))
    (λ e. rw e (not-true (eqb c 36) ((and_parts (not (is_quote c)) (not (eqb c 36)) o.0).1)))))
front_sign (quoted c ∷ t) o = quote_tag c (bytes t) o.0

-- a live byte of a well formed text opens nothing
well_code : (s : Open) (c : ℕ) (t : List Marked) → live_ok s c ≡ true → Well (live_next s c) t → kind_at (c ∷ bytes t) ≡ code
unfolding kind_at live_next is_pair is_quote
well_code s c t a o =
    let q = live_quote s c a in
    let l : (eqb c 45 && eqb (get_or (bytes t) 0 0) 45) ≡ false = and_no (eqb c 45) _ (λ e. front_dash t (rw e at o)) in
    let b : (eqb c 47 && eqb (get_or (bytes t) 0 0) 42) ≡ false =
    and_no (eqb c 47) _ (λ e. front_slash t (rw (other (λ n. eqb n 47) 45 c refl e, e) at o)) in
    let d : opens_dollar (c ∷ bytes t) ≡ false =
    opens_tag c (bytes t)
    ∙ and_no (eqb c 36) _
    (λ e. front_sign t (rw (other (λ n. eqb n 36) 45 c refl e, other (λ n. eqb n 36) 47 c refl e, e) at o)) in
    rw (l, b, (or_parts (eqb c 39) (eqb c 34) q).0, (or_parts (eqb c 39) (eqb c 34) q).1, d) refl

-- ---- the scanner gives the marks back

-- at a span
AtSpan : Open → List Marked → Type 0
AtSpan s t = is_out s ≡ true → Well s t → is_out (leaves well_next s t) ≡ true → marked_text (bytes t) ≡ t

-- in a literal with the quote q and the state s
Inside : Bool → ℕ → Open → List Marked → Type 0
Inside e q s t = Well s t → is_out (leaves well_next s t) ≡ true → past (quote_len e q (bytes t)) (bytes t) ≡ t

record Same (t : List Marked) : Type 0 where
  span : (s : Open) → AtSpan s t
  single : Inside true 39 in_single t
  double : Inside false 34 in_double t

quote_single : (cs : List ℕ) → kind_at (39 ∷ cs) ≡ single
unfolding kind_at is_pair
quote_single cs = refl

quote_double : (cs : List ℕ) → kind_at (34 ∷ cs) ≡ double
unfolding kind_at is_pair
quote_double cs = refl

-- at a quoted byte outside literals
open_quote_lem : (c : ℕ) (t : List Marked) → Same t
    → is_quote c ≡ true
    → Well (cond (eqb c 39) in_single in_double) t
    → is_out (leaves well_next (cond (eqb c 39) in_single in_double) t) ≡ true
    → marked_text (c ∷ bytes t) ≡ quoted c ∷ t
unfolding Inside
open_quote_lem c t ih e =
    quotes
    (λ (n : ℕ). Well (cond (eqb n 39) in_single in_double) t
    → is_out (leaves well_next (cond (eqb n 39) in_single in_double) t) ≡ true
    → marked_text (n ∷ bytes t) ≡ quoted n ∷ t)
    c e
    (λ o z. text_single 39 (bytes t) (quote_single (bytes t)) ∙ ap (λ (u : List Marked). quoted 39 ∷ u) (ih.single o z))
    (λ o z. text_double 34 (bytes t) (quote_double (bytes t)) ∙ ap (λ (u : List Marked). quoted 34 ∷ u) (ih.double o z))

pub live_out : (s : Open) (c : ℕ) → is_out s ≡ true → is_out (live_next s c) ≡ true
unfolding live_next
live_out s c o =
    by (eqb c 45) (λ e. rw e refl)
    (λ e. rw e
    (by (eqb c 47) (λ f. rw f refl)
    (λ f. rw f
    (by (eqb c 36) (λ g. rw g refl)
    (λ g. rw g (by (is_ident c) (λ i. rw i (tag_out s o)) (λ i. rw i refl)))))))
  where
    tag_out : (s : Open) → is_out s ≡ true → is_out (tagged s c) ≡ true
    tag_out clear o = refl
    tag_out dash o = refl
    tag_out slash o = refl
    tag_out sign o = by (is_digit c) (λ e. rw e refl) (λ e. rw e refl)
    tag_out tag o = refl
    tag_out in_single o = o
    tag_out in_double o = o

at_span : (x : Marked) (t : List Marked) → Same t → (s : Open) → AtSpan s (x ∷ t)
unfolding bytes AtSpan
at_span (live c) t ih s i o z =
    text_code c (bytes t) (well_code s c t o.0 o.1)
    ∙ ap (λ (u : List Marked). live c ∷ u) (ih.span (live_next s c) (live_out s c i) o.1 z)
at_span (quoted c) t ih clear i o z = open_quote_lem c t ih o.0 o.1 z
at_span (quoted c) t ih dash i o z = open_quote_lem c t ih o.0 o.1 z
at_span (quoted c) t ih slash i o z = open_quote_lem c t ih o.0 o.1 z
at_span (quoted c) t ih sign i o z = open_quote_lem c t ih o.0 o.1 z
at_span (quoted c) t ih tag i o z = open_quote_lem c t ih o.0 o.1 z
at_span (quoted c) t ih in_single i o z = absurd (false≢true i)
at_span (quoted c) t ih in_double i o z = absurd (false≢true i)

-- s is the state in a literal of the quote q, which closes it and, at once, opens it again
pub record Literal (q : ℕ) (s : Open) : Type 0 where
  pub is_quote_lem : is_quote q ≡ true
  pub opens : cond (eqb q 39) in_single in_double ≡ s
  pub no_live : (c : ℕ) → live_ok s c ≡ false
  pub plain : (c : ℕ) → quoted_ok s c ≡ true → eqb c 92 ≡ false
  pub allows : (c : ℕ) → eqb c 92 ≡ false → eqb c 10 ≡ false → quoted_ok s c ≡ true
  pub shuts : (c : ℕ) → quoted_next s c ≡ cond (eqb c q) clear s
  pub in_literal_lem : is_out s ≡ false

plain_byte : (c : ℕ) → (not (eqb c 92) && not (eqb c 10)) ≡ true → eqb c 92 ≡ false
plain_byte c h = not-true (eqb c 92) ((and_parts (not (eqb c 92)) (not (eqb c 10)) h).0)

byte_plain : (c : ℕ) → eqb c 92 ≡ false → eqb c 10 ≡ false → (not (eqb c 92) && not (eqb c 10)) ≡ true
byte_plain c h k = rw (h, k) refl

pub single_literal : Literal 39 in_single
unfolding is_quote
single_literal =
    record { is_quote_lem = refl; opens = refl; no_live = λ c. refl; plain = plain_byte; allows = byte_plain; shuts = λ c. refl; in_literal_lem = refl }

pub double_literal : Literal 34 in_double
unfolding is_quote
double_literal =
    record { is_quote_lem = refl; opens = refl; no_live = λ c. refl; plain = plain_byte; allows = byte_plain; shuts = λ c. refl; in_literal_lem = refl }

-- in a literal, a byte at a time
module _ (e : Bool) (q : ℕ) (s : Open) (l : Literal q s) where
  behind : (c : ℕ) (y : Marked) (t : List Marked) → Well clear (y ∷ t) → is_out (leaves well_next clear (y ∷ t)) ≡ true
      → AtSpan clear (y ∷ t)
      → Inside e q s t
      → past (cond (eqb (byte y) q) (suc (suc (quote_len e q (bytes t)))) 1) (c ∷ byte y ∷ bytes t) ≡ quoted c ∷ y ∷ t
  unfolding bytes AtSpan Inside
  behind c (live d) t o z start pair =
      rw (another is_quote q d l.is_quote_lem (live_quote clear d o.0)) (ap (λ (u : List Marked). quoted c ∷ u) (start refl o z))
  behind c (quoted d) t o z start pair =
      by (eqb d q)
      (λ f.
      let g : cond (eqb d 39) in_single in_double ≡ s = ap (λ (n : ℕ). cond (eqb n 39) in_single in_double) (eqb-true d q f) ∙ l.opens in
      rw f (ap (λ (u : List Marked). quoted c ∷ quoted d ∷ u) (pair (rw g at o.1) (rw g at z))))
      (λ f. rw f (ap (λ (u : List Marked). quoted c ∷ u) (start refl o z)))

  inside_nil : Inside e q s []
  unfolding Inside
  inside_nil o z = absurd (true≢false (sym z ∙ l.in_literal_lem))

  inside_one : (x : Marked) → Inside e q s (x ∷ [])
  unfolding Inside bytes quote_len marked_text marked
  inside_one (live c) o z = absurd (true≢false (sym o.0 ∙ l.no_live c))
  inside_one (quoted c) o z = refl

  inside_more : (x y : Marked) (t : List Marked) → AtSpan clear (y ∷ t) → Inside e q s (y ∷ t) → Inside e q s t → Inside e q s (x ∷ y ∷ t)
  unfolding Inside bytes quote_len escapes
  inside_more (live c) y t start more pair o z = absurd (true≢false (sym o.0 ∙ l.no_live c))
  inside_more (quoted c) y t start more pair o z =
      let n : (e && eqb c 92) ≡ false = and_no e (eqb c 92) (λ _. l.plain c o.0) in
      by (eqb c q)
      (λ f.
      let g : quoted_next s c ≡ clear = l.shuts c ∙ rw f refl in
      rw (n, f) (behind c y t (rw g at o.1) (rw g at z) start pair))
      (λ f.
      let g : quoted_next s c ≡ s = l.shuts c ∙ rw f refl in
      rw (n, f) (ap (λ (u : List Marked). quoted c ∷ u) (more (rw g at o.1) (rw g at z))))

same : (t : List Marked) → Same t
unfolding AtSpan bytes marked_text marked
same [] =
    record {
      span = λ s i o z. refl;
      single = inside_nil true 39 in_single single_literal;
      double = inside_nil false 34 in_double double_literal;
    }
same (x ∷ []) =
    record {
      span = at_span x [] (same []);
      single = inside_one true 39 in_single single_literal x;
      double = inside_one false 34 in_double double_literal x;
    }
same (x ∷ y ∷ t) =
    let one = same (y ∷ t) in
    let two = same t in
    record {
      span = at_span x (y ∷ t) one;
      single = inside_more true 39 in_single single_literal x y t (one.span clear) one.single two.single;
      double = inside_more false 34 in_double double_literal x y t (one.span clear) one.double two.double;
    }

-- the scanner gives the marks back
pub scanned : (t : List Marked) → Formed t → marked_text (bytes t) ≡ t
unfolding AtSpan
scanned t f = (same t).span clear refl f.well f.out

-- ---- pass 4's walk gives them back too

-- the quote that is open
abbrev pub open_quote : Open → ℕ
open_quote clear = 0
open_quote dash = 0
open_quote slash = 0
open_quote sign = 0
open_quote tag = 0
open_quote in_single = 39
open_quote in_double = 34

out_quote : (s : Open) → is_out s ≡ true → open_quote s ≡ 0
out_quote clear h = refl
out_quote dash h = refl
out_quote slash h = refl
out_quote sign h = refl
out_quote tag h = refl
out_quote in_single h = absurd (false≢true h)
out_quote in_double h = absurd (false≢true h)

pub live_in : (s : Open) (c : ℕ) → live_ok s c ≡ true → is_out s ≡ true
live_in clear c h = refl
live_in dash c h = refl
live_in slash c h = refl
live_in sign c h = refl
live_in tag c h = refl
live_in in_single c h = h
live_in in_double c h = h

walk_open : (c : ℕ) (t : List Marked) → is_quote c ≡ true → quote_walk (open_quote (cond (eqb c 39) in_single in_double)) (bytes t) ≡ t
    → quote_walk 0 (c ∷ bytes t) ≡ quoted c ∷ t
unfolding quote_walk quote_after is_quote
walk_open c t e =
    quotes (λ (n : ℕ). quote_walk (open_quote (cond (eqb n 39) in_single in_double)) (bytes t) ≡ t → quote_walk 0 (n ∷ bytes t) ≡ quoted n ∷ t)
    c e (λ h. ap (λ (u : List Marked). quoted 39 ∷ u) h) (λ h. ap (λ (u : List Marked). quoted 34 ∷ u) h)

walked : (t : List Marked) (s : Open) → Well s t → quote_walk (open_quote s) (bytes t) ≡ t
unfolding quote_walk quote_after bytes
walked [] s o = refl
walked (live c ∷ t) s o =
    let i = live_in s c o.0 in
    let e = live_quote s c o.0 in
    let r : quote_walk 0 (bytes t) ≡ t = subst (λ (q : ℕ). quote_walk q (bytes t) ≡ t) (out_quote (live_next s c) (live_out s c i)) (walked t (live_next s c) o.1) in
    rw (out_quote s i, e) (ap (λ (u : List Marked). live c ∷ u) r)
walked (quoted c ∷ t) clear o = walk_open c t o.0 (walked t (cond (eqb c 39) in_single in_double) o.1)
walked (quoted c ∷ t) dash o = walk_open c t o.0 (walked t (cond (eqb c 39) in_single in_double) o.1)
walked (quoted c ∷ t) slash o = walk_open c t o.0 (walked t (cond (eqb c 39) in_single in_double) o.1)
walked (quoted c ∷ t) sign o = walk_open c t o.0 (walked t (cond (eqb c 39) in_single in_double) o.1)
walked (quoted c ∷ t) tag o = walk_open c t o.0 (walked t (cond (eqb c 39) in_single in_double) o.1)
walked (quoted c ∷ t) in_single o =
    by (eqb c 39)
    (λ e. rw e (ap (λ (u : List Marked). quoted c ∷ u) (walked t clear (rw e at o.1))))
    (λ e. rw e (ap (λ (u : List Marked). quoted c ∷ u) (walked t in_single (rw e at o.1))))
walked (quoted c ∷ t) in_double o =
    by (eqb c 34)
    (λ e. rw e (ap (λ (u : List Marked). quoted c ∷ u) (walked t clear (rw e at o.1))))
    (λ e. rw e (ap (λ (u : List Marked). quoted c ∷ u) (walked t in_double (rw e at o.1))))

pub quote_walked : (t : List Marked) → Formed t → quote_walk 0 (bytes t) ≡ t
quote_walked t f = walked t clear f.well
