-- A text whose last byte is a live `;` is read the same with any text behind it, and that text is read as from its start:
-- spans, map and marks of the joined text are those of the two, joined. Assumes nothing.
use Rattle.std.proofs.lemmas.Bool.{cond_both}
use mathlib.Core.Path.{◌≡◌, refl, sym, ap, ◌∙◌}
use mathlib.Core.Bool.{Bool, true, false, cond, ◌&&◌, false≢true}
use mathlib.Core.List.{List, [], ◌∷◌, ◌++◌, append_assoc, map-append}
use Prim.Native.Nat.{ℕ, zero, suc, ◌+◌, ◌-◌, ◌≤◌, ◌<◌, zero-le, suc-le-suc}
use native.Mathlib.Nat.{le_of_suc-le-suc, not-suc-le-zero}
use native.Mathlib.Omega.{arith}
use borrow.Author.Tests.{eqb-true}
use lib.Dec.{eqb}
use lib.ListN.{length, take, drop, replicate, length-drop, get_or-append}
use lib.Seq.{length-take-le, take-append-le, drop-append-le}
use Rattle.spec.proofs.ByteSets.{sign_not_ident}
use Rattle.spec.proofs.SpanLaws.{seek_le, seek_miss, prefix_len, opens_in, by_kind, span_pos, span_le}
use Rattle.spec.proofs.MapLaws.{map_length, map_step}
use Rattle.spec.specs.Bytes.{is_ident, is_pair, is_prefix}
use Rattle.spec.specs.Spans.{line_len, comment_len, block_len, escapes, quote_len, quoted_len, tag_len, seek_len, opens_dollar, dollar_of, code, kind_at, span_of, span_at, span_len, Lexeme, lexeme_at, lexemes_from, lexemes}
use Rattle.spec.specs.Map.{region_of, regions_of, flag, map_of, Marked, live, quoted, mark, marked, marked_text, is_live_byte, span_flag}
use Rattle.spec.specs.Closed.{ends_live}
use Rattle.spec.specs.declared.Span.TheVariants.{Verbatim, Dollar, Code}

-- ---- lengths

-- a choice that is below a bound is kept, where each arm below it is
cond_keep : (b : Bool) (x y x' y' n : ℕ) → (x < n → x' ≡ x) → (y < n → y' ≡ y) → cond b x y < n → cond b x' y' ≡ cond b x y
cond_keep true x y x' y' n p q h = p h
cond_keep false x y x' y' n p q h = q h

-- a length below the text's is the same with more text behind
module _ (ys : List ℕ) where
  pub quote_keep : (e : Bool) (q : ℕ) (xs : List ℕ) → quote_len e q xs < length xs → quote_len e q (xs ++ ys) ≡ quote_len e q xs
  unfolding quote_len
  quote_keep e q [] h = absurd (not-suc-le-zero h)
  quote_keep e q (c ∷ []) h = absurd (omega arith)
  quote_keep e q (c ∷ d ∷ cs) h =
      let n = suc (suc (length cs)) in
      cond_keep (escapes e c) _ _ _ _ n (λ k. ap suc (ap suc (quote_keep e q cs (le_of_suc-le-suc (le_of_suc-le-suc k)))))
      (cond_keep (eqb c q) _ _ _ _ n
      (cond_keep (eqb d q) _ _ _ _ n (λ k. ap suc (ap suc (quote_keep e q cs (le_of_suc-le-suc (le_of_suc-le-suc k))))) (λ _. refl))
      (λ k. ap suc (quote_keep e q (d ∷ cs) (le_of_suc-le-suc k))))
      h

  pub comment_keep : (k : ℕ) (xs : List ℕ) → comment_len k xs < length xs → comment_len k (xs ++ ys) ≡ comment_len k xs
  unfolding comment_len
  comment_keep k [] h = absurd (not-suc-le-zero h)
  comment_keep k (c ∷ []) h = absurd (omega arith)
  comment_keep k (c ∷ d ∷ cs) h =
      let n = suc (suc (length cs)) in
      cond_keep (is_pair 47 42 c d) _ _ _ _ n (λ l. ap suc (ap suc (comment_keep (suc k) cs (le_of_suc-le-suc (le_of_suc-le-suc l)))))
      (cond_keep (is_pair 42 47 c d) _ _ _ _ n
      (cond_keep (eqb k 1) _ _ _ _ n (λ _. refl) (λ l. ap suc (ap suc (comment_keep (k - 1) cs (le_of_suc-le-suc (le_of_suc-le-suc l))))))
      (λ l. ap suc (comment_keep k (d ∷ cs) (le_of_suc-le-suc l))))
      h

  pub line_keep : (xs : List ℕ) → line_len xs < length xs → line_len (xs ++ ys) ≡ line_len xs
  unfolding line_len
  line_keep [] h = absurd (not-suc-le-zero h)
  line_keep (c ∷ cs) h = cond_keep (eqb c 10) _ _ _ _ (suc (length cs)) (λ _. refl) (λ k. ap suc (line_keep cs (le_of_suc-le-suc k))) h

  pub tag_keep : (xs : List ℕ) → tag_len xs < length xs → tag_len (xs ++ ys) ≡ tag_len xs
  unfolding tag_len
  tag_keep [] h = absurd (not-suc-le-zero h)
  tag_keep (c ∷ cs) h = cond_keep (is_ident c) _ _ _ _ (suc (length cs)) (λ k. ap suc (tag_keep cs (le_of_suc-le-suc k))) (λ _. refl) h

  -- p stands in front of more text exactly if it stood in front of the text, where that is as long as p
  pub prefix_keep : (p xs : List ℕ) → length p ≤ length xs → is_prefix p (xs ++ ys) ≡ is_prefix p xs
  unfolding is_prefix
  prefix_keep [] xs h = refl
  prefix_keep (a ∷ p) [] h = absurd (not-suc-le-zero h)
  prefix_keep (a ∷ p) (x ∷ xs) h = ap (λ (b : Bool). eqb x a && b) (prefix_keep p xs (le_of_suc-le-suc h))

  pub seek_keep : (p xs : List ℕ) → 0 < length p → seek_len p xs + length p ≤ length xs → seek_len p (xs ++ ys) ≡ seek_len p xs
  unfolding seek_len
  seek_keep p [] z h = absurd (omega arith)
  seek_keep p (x ∷ xs) z h =
      rw (prefix_keep p (x ∷ xs) (omega arith))
      (cond_keep (is_prefix p (x ∷ xs)) 0 (suc (seek_len p xs)) 0 (suc (seek_len p (xs ++ ys))) (suc (length xs) + 1 - length p)
      (λ _. refl) (λ k. ap suc (seek_keep p xs z (omega arith))) (omega arith))

  pub block_keep : (xs : List ℕ) → block_len xs < length xs → block_len (xs ++ ys) ≡ block_len xs
  unfolding block_len
  block_keep [] h = absurd (not-suc-le-zero h)
  block_keep (c ∷ []) h = absurd (omega arith)
  block_keep (c ∷ d ∷ cs) h = ap suc (ap suc (comment_keep 1 cs (le_of_suc-le-suc (le_of_suc-le-suc h))))

  pub quoted_keep : (e : Bool) (q : ℕ) (xs : List ℕ) → quoted_len e q xs < length xs → quoted_len e q (xs ++ ys) ≡ quoted_len e q xs
  unfolding quoted_len
  quoted_keep e q [] h = absurd (not-suc-le-zero h)
  quoted_keep e q (c ∷ cs) h = ap suc (quote_keep e q cs (le_of_suc-le-suc h))

-- a dollar literal that ends before the text does
dollar_keep : (xs ys : List ℕ) (n : ℕ) → 2 ≤ n → n ≤ length xs → (dollar_of n xs).span < length xs → dollar_of n (xs ++ ys) ≡ dollar_of n xs
unfolding dollar_of
dollar_keep xs ys n two fits h = go (is_prefix (take n xs) (drop (seek_len (take n xs) (drop n xs)) (drop n xs))) refl
  where
    go : (b : Bool) → is_prefix (take n xs) (drop (seek_len (take n xs) (drop n xs)) (drop n xs)) ≡ b
        → dollar_of n (xs ++ ys) ≡ dollar_of n xs
    go false e =
        let all = seek_miss (take n xs) (drop n xs) e in
        absurd (omega (arith, all, length-drop n xs, h))
    go true e =
        let p = take n xs in
        let body = drop n xs in
        let k = seek_len p body in
        let lp : length p ≡ n = length-take-le n xs fits in
        let room = prefix_len p (drop k body) e in
        let kk : k + length p ≤ length body = omega (arith, room, length-drop k body, seek_le p body) in
        let t : take n (xs ++ ys) ≡ p = take-append-le n xs ys fits in
        let d : drop n (xs ++ ys) ≡ body ++ ys = drop-append-le n xs ys fits in
        let s : seek_len p (body ++ ys) ≡ k = seek_keep ys p body (omega arith) kk in
        let f : drop k (body ++ ys) ≡ drop k body ++ ys = drop-append-le k body ys (omega arith) in
        let g : is_prefix p (drop k body ++ ys) ≡ is_prefix p (drop k body) = prefix_keep ys p (drop k body) room in
        simp (t, d, s, f, g)

-- ---- the span in front

module _ (c d : ℕ) (cs ys : List ℕ) (short : tag_len (d ∷ cs) < length (d ∷ cs)) where
  opens_keep : opens_dollar (c ∷ d ∷ (cs ++ ys)) ≡ opens_dollar (c ∷ d ∷ cs)
  unfolding opens_dollar
  opens_keep =
      let n = 1 + tag_len (d ∷ cs) in
      rw (tag_keep ys (d ∷ cs) short, get_or-append (c ∷ d ∷ cs) ys 0 n (omega arith))

  kind_keep : kind_at (c ∷ d ∷ (cs ++ ys)) ≡ kind_at (c ∷ d ∷ cs)
  unfolding kind_at
  kind_keep = rw opens_keep

  span_keep : span_len (span_at (c ∷ d ∷ cs)) < length (c ∷ d ∷ cs) → span_at (c ∷ d ∷ (cs ++ ys)) ≡ span_at (c ∷ d ∷ cs)
  unfolding span_at span_of
  span_keep =
      let xs = c ∷ d ∷ cs in
      rw kind_keep
      (by_kind xs (λ k. span_len (span_of k xs) < length xs → span_of k (xs ++ ys) ≡ span_of k xs)
      (λ _ h. ap (λ (n : ℕ). Verbatim (2 + n)) (line_keep ys cs (omega arith)))
      (λ _ h. ap Verbatim (block_keep ys xs h))
      (λ _ h. ap Verbatim (quoted_keep ys true 39 xs h))
      (λ _ h. ap Verbatim (quoted_keep ys false 34 xs h))
      (λ o h. rw (tag_keep ys (d ∷ cs) short) (ap Dollar (dollar_keep xs ys (2 + tag_len (d ∷ cs)) (omega arith) (opens_in xs o) h)))
      (λ h. refl))

  -- a span that ends before the text does is the same with more text behind
  pub lexeme_keep : span_len (span_at (c ∷ d ∷ cs)) < length (c ∷ d ∷ cs) → lexeme_at (c ∷ d ∷ (cs ++ ys)) ≡ lexeme_at (c ∷ d ∷ cs)
  unfolding lexeme_at
  lexeme_keep h =
      let n = span_len (span_at (c ∷ d ∷ cs)) in
      let t : take n (c ∷ d ∷ (cs ++ ys)) ≡ take n (c ∷ d ∷ cs) = take-append-le n (c ∷ d ∷ cs) ys (omega arith) in
      rw (kind_keep, span_keep h, t)

-- ---- the marks, by the walk from span to span

-- with k bytes of the last span still to pass; a live span has one byte only
unfoldable pub marks_from : ℕ → List ℕ → List Marked
marks_from k [] = []
marks_from zero (c ∷ cs) =
    let s = span_at (c ∷ cs) in
    mark (span_flag s) c ∷ marks_from (span_len s - 1) cs
marks_from (suc k) (c ∷ cs) = quoted c ∷ marks_from k cs

pub marks_length : (k : ℕ) (xs : List ℕ) → length (marks_from k xs) ≡ length xs
unfolding marks_from
marks_length k [] = refl
marks_length zero (c ∷ cs) = ap suc (marks_length (span_len (span_at (c ∷ cs)) - 1) cs)
marks_length (suc k) (c ∷ cs) = ap suc (marks_length k cs)

-- what is left of a span behind its first byte has map byte 1
rest_flags : (xs : List ℕ) → replicate (span_len (span_at xs) - 1) (span_flag (span_at xs)) ≡ replicate (span_len (span_at xs) - 1) 1
unfolding span_at span_of
rest_flags xs =
    by_kind xs (λ k. replicate (span_len (span_of k xs) - 1) (span_flag (span_of k xs)) ≡ replicate (span_len (span_of k xs) - 1) 1)
    (λ _. refl) (λ _. refl) (λ _. refl) (λ _. refl) (λ _. refl) refl

marks_map : (k : ℕ) (xs : List ℕ) → k ≤ length xs → marks_from k xs ≡ marked xs (replicate k 1 ++ map_of (drop k xs))
unfolding marks_from marked
marks_map k [] h = refl
marks_map zero (c ∷ cs) h =
    let s = span_at (c ∷ cs) in
    let n = span_len s in
    let e : n ≡ suc (n - 1) = omega (arith, span_pos c cs) in
    let m : map_of (c ∷ cs) ≡ span_flag s ∷ (replicate (n - 1) 1 ++ map_of (drop (n - 1) cs)) =
    map_step c cs
    ∙ (ap (λ (l : ℕ). replicate l (span_flag s) ++ map_of (drop l (c ∷ cs))) e
    ∙ ap (λ (l : List ℕ). span_flag s ∷ (l ++ map_of (drop (n - 1) cs))) (rest_flags (c ∷ cs))) in
    rw m (ap (λ (l : List Marked). mark (span_flag s) c ∷ l) (marks_map (n - 1) cs (omega (arith, span_le (c ∷ cs) (suc-le-suc zero-le)))))
marks_map (suc k) (c ∷ cs) h = ap (λ (l : List Marked). quoted c ∷ l) (marks_map k cs (le_of_suc-le-suc h))

-- a text with its map is the walk's marks
pub marks_text : (xs : List ℕ) → marked_text xs ≡ marks_from 0 xs
unfolding marked_text
marks_text xs = sym (marks_map 0 xs zero-le)

-- ---- a text that ends in a live `;`

pub ends_behind : (x : Marked) (t : List Marked) → 0 < length t → ends_live (x ∷ t) ≡ ends_live t
unfolding ends_live
ends_behind x [] h = absurd (not-suc-le-zero h)
ends_behind x (y ∷ t) h = refl

-- such a text is its front and that `;`
pub ends_split : (t : List Marked) → ends_live t ≡ true → (s : List Marked) × (t ≡ s ++ (live 59 ∷ []))
unfolding ends_live
ends_split [] h = absurd (false≢true h)
ends_split (live c ∷ []) h = ([], ap (λ (b : ℕ). live b ∷ []) (eqb-true c 59 h))
ends_split (quoted c ∷ []) h = absurd (false≢true h)
ends_split (x ∷ y ∷ t) h =
    let w = ends_split (y ∷ t) h in
    (x ∷ w.0, ap (λ (l : List Marked). x ∷ l) w.1)

ends_rest : (x : Marked) (k d : ℕ) (cs : List ℕ) → ends_live (x ∷ marks_from k (d ∷ cs)) ≡ true → ends_live (marks_from k (d ∷ cs)) ≡ true
ends_rest x k d cs h = sym (ends_behind x (marks_from k (d ∷ cs)) (rw (marks_length k (d ∷ cs)) (suc-le-suc zero-le))) ∙ h

-- what is still to pass ends before the text does
pub ends_short : (k : ℕ) (xs : List ℕ) → ends_live (marks_from k xs) ≡ true → k < length xs
unfolding marks_from ends_live
ends_short k [] h = absurd (false≢true h)
ends_short zero (c ∷ cs) h = suc-le-suc zero-le
ends_short (suc k) (c ∷ []) h = absurd (false≢true h)
ends_short (suc k) (c ∷ d ∷ cs) h = suc-le-suc (ends_short k (d ∷ cs) (ends_rest (quoted c) k d cs h))

-- the one byte of a text that ends so
ends_one : (k c : ℕ) → ends_live (marks_from k (c ∷ [])) ≡ true → (k ≡ 0) × (c ≡ 59)
unfolding marks_from ends_live
ends_one zero c h = (refl, go (span_flag (span_at (c ∷ []))) h)
  where
    go : (m : ℕ) → is_live_byte 59 (mark m c) ≡ true → c ≡ 59
    go zero h = eqb-true c 59 h
    go (suc m) h = absurd (false≢true h)
ends_one (suc k) c h = absurd (false≢true h)

-- a tag ends before that `;`
ends_tag : (k : ℕ) (xs : List ℕ) → ends_live (marks_from k xs) ≡ true → tag_len xs < length xs
unfolding marks_from ends_live tag_len
ends_tag k [] h = absurd (false≢true h)
ends_tag k (c ∷ []) h = rw ((ends_one k c h).1, sign_not_ident 59 refl) (suc-le-suc zero-le)
ends_tag zero (c ∷ d ∷ cs) h =
    let m = span_len (span_at (c ∷ d ∷ cs)) - 1 in
    let r = ends_tag m (d ∷ cs) (ends_rest (mark (span_flag (span_at (c ∷ d ∷ cs))) c) m d cs h) in
    cond_both (is_ident c) _ _ (λ (n : ℕ). n < suc (length (d ∷ cs))) (λ _. suc-le-suc r) (λ _. suc-le-suc zero-le)
ends_tag (suc k) (c ∷ d ∷ cs) h =
    let r = ends_tag k (d ∷ cs) (ends_rest (quoted c) k d cs h) in
    cond_both (is_ident c) _ _ (λ (n : ℕ). n < suc (length (d ∷ cs))) (λ _. suc-le-suc r) (λ _. suc-le-suc zero-le)

-- a `;` is a span of its own, whatever follows
pub semi_lexeme : (ys : List ℕ) → lexeme_at (59 ∷ ys) ≡ record { kind = code; span = Code 1; text = 59 ∷ [] }
unfolding lexeme_at span_at span_of kind_at is_pair opens_dollar
semi_lexeme ys = refl

walk_step : (c : ℕ) (cs : List ℕ) → lexemes_from 0 (c ∷ cs) ≡ lexeme_at (c ∷ cs) ∷ lexemes_from (span_len (span_at (c ∷ cs)) - 1) cs
unfolding lexemes_from lexeme_at
walk_step c cs = refl

-- one span of the joined text, its walk behind it being known
step_join : (c d : ℕ) (cs ys : List ℕ)
    → tag_len (d ∷ cs) < length (d ∷ cs)
    → span_len (span_at (c ∷ d ∷ cs)) < length (c ∷ d ∷ cs)
    → lexemes_from (span_len (span_at (c ∷ d ∷ cs)) - 1) (d ∷ (cs ++ ys)) ≡ lexemes_from (span_len (span_at (c ∷ d ∷ cs)) - 1) (d ∷ cs) ++ lexemes ys
    → lexemes_from 0 (c ∷ d ∷ (cs ++ ys)) ≡ lexemes_from 0 (c ∷ d ∷ cs) ++ lexemes ys
step_join c d cs ys t h ih =
    rw (walk_step c (d ∷ (cs ++ ys)), walk_step c (d ∷ cs), lexeme_keep c d cs ys t h, span_keep c d cs ys t h)
    (ap (λ (l : List Lexeme). lexeme_at (c ∷ d ∷ cs) ∷ l) ih)

pub walk_join : (k : ℕ) (xs ys : List ℕ) → ends_live (marks_from k xs) ≡ true → lexemes_from k (xs ++ ys) ≡ lexemes_from k xs ++ lexemes ys
unfolding lexemes_from lexemes marks_from
walk_join k [] ys h = absurd (omega (arith, ends_short k [] h))
walk_join k (c ∷ []) ys h =
    let w = ends_one k c h in
    rw (w.0, w.1) (rw (semi_lexeme ys, semi_lexeme []))
walk_join zero (c ∷ d ∷ cs) ys h =
    let xs = c ∷ d ∷ cs in
    let n = span_len (span_at xs) in
    let r = ends_rest (mark (span_flag (span_at xs)) c) (n - 1) d cs h in
    step_join c d cs ys (ends_tag (n - 1) (d ∷ cs) r) (omega (arith, ends_short (n - 1) (d ∷ cs) r)) (walk_join (n - 1) (d ∷ cs) ys r)
walk_join (suc k) (c ∷ d ∷ cs) ys h = walk_join k (d ∷ cs) ys (ends_rest (quoted c) k d cs h)

-- the spans of two texts joined, the first with a live `;` at its end, are the spans of the two joined
pub lexemes_join : (a b : List ℕ) → ends_live (marked_text a) ≡ true → lexemes (a ++ b) ≡ lexemes a ++ lexemes b
unfolding lexemes
lexemes_join a b h = walk_join 0 a b (rw (marks_text a) at h)

regions_append : (s t : List Lexeme) → regions_of (s ++ t) ≡ regions_of s ++ regions_of t
unfolding regions_of
regions_append [] t = refl
regions_append (l ∷ s) t =
    rw (regions_append s t) (sym (append_assoc (replicate (length l.text) (region_of l.kind)) (regions_of s) (regions_of t)))

pub map_join : (a b : List ℕ) → ends_live (marked_text a) ≡ true → map_of (a ++ b) ≡ map_of a ++ map_of b
unfolding map_of
map_join a b h =
    rw (lexemes_join a b h, regions_append (lexemes a) (lexemes b)) (map-append flag (regions_of (lexemes a)) (regions_of (lexemes b)))

pub marked_append : (xs ys ms ns : List ℕ) → length ms ≡ length xs → marked (xs ++ ys) (ms ++ ns) ≡ marked xs ms ++ marked ys ns
unfolding marked
marked_append [] ys [] ns h = refl
marked_append [] ys (m ∷ ms) ns h = absurd (omega arith)
marked_append (c ∷ xs) ys [] ns h = absurd (omega arith)
marked_append (c ∷ xs) ys (m ∷ ms) ns h = ap (λ (l : List Marked). mark m c ∷ l) (marked_append xs ys ms ns (omega arith))

pub marks_join : (a b : List ℕ) → ends_live (marked_text a) ≡ true → marked_text (a ++ b) ≡ marked_text a ++ marked_text b
unfolding marked_text
marks_join a b h = rw (map_join a b h) (marked_append a b (map_of a) (map_of b) (map_length a))
