-- Pass 4 keeps what a reading reads. Assumes nothing.
use Rattle.std.specs.Prelude.{Option, Some, None}
use Rattle.std.proofs.lemmas.Bool.{cond_both, and_parts}
use mathlib.Core.Path.{◌≡◌, refl, sym, ap, ◌∙◌, subst}
use mathlib.Core.Bool.{Bool, true, false, cond, not, ◌&&◌, false≢true, true≢false}
use mathlib.Core.List.{List, [], ◌∷◌, ◌++◌, map, reverse, reverse-cons, reverse-append, reverse-reverse, append-nil}
use Prim.Native.Nat.{ℕ, suc, ◌+◌, ◌-◌}
use native.Mathlib.Omega.{arith}
use borrow.Author.Tests.{eqb-true, not-true}
use lib.Dec.{eqb, ltb}
use lib.ListN.{length, take, drop, take-append-drop}
use lib.Seq.{drop-drop}
use Rattle.spec.proofs.JoinedPieces.{live_byte}
use Rattle.spec.proofs.ByteSets.{sign_not_w}
use Rattle.spec.proofs.Choice.{by}
use Rattle.spec.proofs.ListLaws.{while_split}
use Rattle.spec.proofs.FirstLaws.{first_least}
use Rattle.spec.specs.Bytes.{ascii, within, is_lower, is_ident, is_quote, is_w, upper}
use Rattle.spec.specs.Lists.{is_empty, take_while, drop_while, drop_end}
use Rattle.spec.specs.Map.{Marked, live, byte, lives, front_byte, front_live, of_byte, is_live_byte}
use Rattle.spec.specs.Search.{first, starts_ignoring_case, word_here, byte_here, pieces}
use Rattle.spec.specs.Parts.{trim_end, trim, part}
use Rattle.spec.specs.SelectInto.{depth_of, top_word_here, comma_here, listed, indentation, has_limit, subquery, set_line, set_lines, pair_up, place_or, from_part, front_place, select_cut, into_at, select_at, select_statement, join_selects, select_into}
use Rattle.spec.specs.Closed.{ends_live}
use Rattle.joining.proofs.Reading.{reads_more, leaves_append, cut, paste, Takes, takes_append, Reading}
use Rattle.joining.proofs.Parts.{PlainWord, Read, ends, StandsAlone, BeforeSpace, nil_part, drop_end_lem, before_space_end, at_word, behind_word, part_between, AllBeforeSpace, comma_parts, trim_parts, keep_before_space}
use Rattle.joining.proofs.Statements.{ends_append, Shut, shut_leaves, shut_append, Statements, FirstOf, statements}

-- the list is empty, or its front fails the test
abbrev Stops : (Marked → Bool) → List Marked → Type 0
Stops f [] = Unit {0}
Stops f (x ∷ t) = f x ≡ false

stops : (f : Marked → Bool) (t : List Marked) → Stops f (drop_while f t)
unfolding drop_while
stops f [] = tt
stops f (x ∷ t) = by (f x) (λ e. rw e (stops f t)) (λ e. rw e e)

-- the last byte of a text that ends in a live `;`
last_live : (t : List Marked) → ends_live t ≡ true → front_live (drop (length t - 1) t) ≡ true
unfolding ends_live front_live
last_live [] h = absurd (false≢true h)
last_live (x ∷ []) h = rw (live_byte 59 x h) refl
last_live (x ∷ y ∷ t) h =
    let e : suc (length (y ∷ t)) - 1 ≡ suc (length (y ∷ t) - 1) = omega arith in
    subst (λ (n : ℕ). front_live (drop n (x ∷ y ∷ t)) ≡ true) (sym e) (last_live (y ∷ t) h)

-- empty, or an F in front
abbrev FromFront : List Marked → Type 0
FromFront [] = Unit {0}
FromFront (x ∷ t) = eqb (upper (byte x)) 70 ≡ true

from_end : (f : Marked → Bool) (t : List Marked) → FromFront t → FromFront (drop_end f t)
unfolding drop_end
from_end f [] h = tt
from_end f (x ∷ t) h = by (f x && is_empty (drop_end f t)) (λ e. rw e tt) (λ e. rw e h)

from_front : (t : List Marked) → starts_ignoring_case (ascii "FROM") t ≡ true → FromFront t
unfolding starts_ignoring_case upper is_lower within
from_front [] h = tt
from_front (x ∷ t) h = (and_parts (eqb (upper (byte x)) 70) (starts_ignoring_case (ascii "ROM") t) h).0

module _ (k : Reading) where
  -- what is read to the state z, in the text that pass 4 makes
  abbrev Goes : k.State → k.State → List Marked → Type 0
  Goes s z t = Takes k.safe k.after s z t

  goes : (s z : k.State) (t : List Marked) → Takes k.ok k.after s z t → Goes s z t
  goes s z t w = record { reads = reads_more k.ok k.safe k.after k.safer t s w.reads; end = w.end }

  -- ---- the indentation

  newline_end : (d : List Marked) → Stops (of_byte (λ c. not (eqb c 10))) d → Read k k.start (reverse d) → ends k k.start (reverse d) ≡ k.start
  unfolding of_byte
  newline_end [] h r = refl
  newline_end (x ∷ d) h r =
      let s = ends k k.start (reverse d) in
      let e : ends k k.start (reverse (x ∷ d)) ≡ k.after s x =
      ap (λ (l : List Marked). ends k k.start l) (reverse-cons x d) ∙ leaves_append k.after (reverse d) (x ∷ []) k.start in
      let w = cut k.ok k.after (reverse d) (x ∷ []) k.start (subst (λ (l : List Marked). Read k k.start l) (reverse-cons x d) r) in
      e ∙ k.newline s x (eqb-true (byte x) 10 (ten h)) w.1.0
    where
      ten : not (eqb (byte x) 10) ≡ false → eqb (byte x) 10 ≡ true
      ten h = by (eqb (byte x) 10) (λ e. e) (λ e. absurd (true≢false (sym (rw e refl) ∙ h)))

  indent_part : (t : List Marked) → StandsAlone k t → StandsAlone k (indentation t)
  unfolding indentation
  indent_part t p =
      let f = of_byte (λ c. not (eqb c 10)) in
      let r = reverse t in
      let d = drop_while f r in
      let n = reverse (take_while f r) in
      let e : t ≡ reverse d ++ n =
      sym (reverse-reverse t) ∙ (ap reverse (sym (while_split f r)) ∙ reverse-append (take_while f r) d) in
      let w = cut k.ok k.after (reverse d) n k.start (subst (λ (l : List Marked). Read k k.start l) e p.reads) in
      let z = newline_end d (stops f r) w.0 in
      record {
        reads = subst (λ (s : k.State). Read k s n) z w.1;
        out = subst (λ (s : k.State). k.rest s ≡ true)
            (ap (λ (l : List Marked). ends k k.start l) e ∙ (leaves_append k.after (reverse d) n k.start ∙ ap (λ (s : k.State). ends k s n) z)) p.out;
      }

  -- ---- a line

  whole : (t : List Marked) (s : k.State) → Read k s t → Takes k.ok k.after s (ends k s t) t
  whole t s r = record { reads = r; end = refl }

  -- a space and the FROM part
  space_from : (f : List Marked) (s : k.State) → k.before_space s ≡ true → FromFront f → StandsAlone k f
      → Read k s (live 32 ∷ f) × (k.rest (ends k s (live 32 ∷ f)) ≡ true)
  space_from [] s h l p = let g = k.gap s h in ((g.0.reads.0, tt), g.1)
  space_from (x ∷ t) s h l p =
      let g = k.gap s h in
      let w = k.gap_from s x t h l p.reads in
      ((g.0.reads.0, w.0), subst (λ (z : k.State). k.rest z ≡ true) (sym w.1) p.out)

  query_part : (w f c : List Marked) → StandsAlone k w → StandsAlone k f → FromFront f → BeforeSpace k c → StandsAlone k (subquery w f c)
  unfolding subquery
  query_part w f c pw pf l pc =
      let ok = k.ok in
      let next = k.after in
      let W = ends k k.start w in
      let C = ends k k.start c in
      let g = space_from f C pc.end l pf in
      let tail = live 32 ∷ f in
      let all =
      takes_append ok next w (lives (ascii "SELECT ") ++ (c ++ tail)) k.start W (ends k C tail) (whole w k.start pw.reads)
      (takes_append ok next (lives (ascii "SELECT ")) (c ++ tail) W k.start (ends k C tail) (k.select_word W pw.out)
      (takes_append ok next c tail k.start C (ends k C tail) (whole c k.start pc.reads) (whole tail C g.0))) in
      record { reads = all.reads; out = subst (λ (z : k.State). k.rest z ≡ true) (sym all.end) g.1 }

  line_close : (b : Bool) (s : k.State) → k.before_space s ≡ true → Goes s k.start (cond b [] (lives (ascii " LIMIT 1")) ++ lives (ascii ");"))
  unfolding lives
  line_close true s h = k.closing s h
  line_close false s h = k.limit s h

  line_goes : (w f c v : List Marked) (s : k.State) → StandsAlone k w → StandsAlone k f → FromFront f → BeforeSpace k c → BeforeSpace k v → k.rest s ≡ true
      → Goes s k.start (set_line w f c v)
  unfolding set_line
  line_goes w f c v s pw pf l pc pv h =
      let ok = k.safe in
      let next = k.after in
      let q = subquery w f c in
      let d = before_space_end k q (query_part w f c pw pf l pc) in
      let VV = ends k k.start v in
      let D = ends k k.start (trim_end q) in
      let M = lives (ascii " = (") in
      let L = cond (has_limit q) [] (lives (ascii " LIMIT 1")) ++ lives (ascii ");") in
      takes_append ok next (lives (ascii "SET ")) (v ++ (M ++ (trim_end q ++ L))) s k.start k.start (goes s k.start (lives (ascii "SET ")) (k.set_word s h))
      (takes_append ok next v (M ++ (trim_end q ++ L)) k.start VV k.start (goes k.start VV v (whole v k.start pv.reads))
      (takes_append ok next M (trim_end q ++ L) VV k.start k.start (goes VV k.start M (k.equals_open VV pv.end))
      (takes_append ok next (trim_end q) L k.start D k.start (goes k.start D (trim_end q) (whole (trim_end q) k.start d.reads))
      (line_close (has_limit q) D d.end))))

  line_ends : (w f c v : List Marked) → ends_live (set_line w f c v) ≡ true
  unfolding set_line lives ends_live
  line_ends w f c v =
      let q = subquery w f c in
      let M = lives (ascii " = (") in
      let L = cond (has_limit q) [] (lives (ascii " LIMIT 1")) in
      let E = lives (ascii ");") in
      ends_append (lives (ascii "SET ")) (v ++ (M ++ (trim_end q ++ (L ++ E))))
      (ends_append v (M ++ (trim_end q ++ (L ++ E)))
      (ends_append M (trim_end q ++ (L ++ E)) (ends_append (trim_end q) (L ++ E) (ends_append L E refl))))

  -- ---- the lines

  module _ (i w f : List Marked) (pi : StandsAlone k i) (pw : StandsAlone k w) (pf : StandsAlone k f) (l : FromFront f) where
    lines_go : (cs vs : List (List Marked)) (s : k.State) → length cs ≡ length vs → is_empty cs ≡ false → AllBeforeSpace k cs → AllBeforeSpace k vs → k.rest s ≡ true
        → Goes s k.start (set_lines i (set_line w f) cs vs) × (ends_live (set_lines i (set_line w f) cs vs) ≡ true)
    unfolding set_lines is_empty
    lines_go [] vs s n e pc pv h = absurd (true≢false e)
    lines_go (c ∷ cs) [] s n e pc pv h = absurd (omega arith)
    lines_go (c ∷ []) (v ∷ vs) s n e pc pv h = (line_goes w f c v s pw pf l pc.0 pv.0 h, line_ends w f c v)
    lines_go (c ∷ d ∷ cs) (v ∷ vs) s n e pc pv h =
        let ok = k.safe in
        let next = k.after in
        let I = ends k k.start i in
        let more = set_lines i (set_line w f) (d ∷ cs) vs in
        let m = lines_go (d ∷ cs) vs I (omega arith) refl pc.1 pv.1 pi.out in
        let nl : Goes k.start k.start (live 10 ∷ []) =
        record { reads = (k.safer k.start (live 10) k.line_start, tt); end = k.newline k.start (live 10) refl k.line_start } in (
          takes_append ok next (set_line w f c v) (live 10 ∷ (i ++ more)) s k.start k.start (line_goes w f c v s pw pf l pc.0 pv.0 h)
              (takes_append ok next (live 10 ∷ []) (i ++ more) k.start k.start k.start nl
              (takes_append ok next i more k.start I k.start (goes k.start I i (whole i k.start pi.reads)) m.0)),
          ends_append (set_line w f c v) (live 10 ∷ (i ++ more)) (ends_append (live 10 ∷ i) more m.1),
        )

  -- ---- where the statement is cut

  record Place (w : List ℕ) (j : ℕ) (t : List Marked) : Type 0 where
    before : StandsAlone k (take j t)
    here : StandsAlone k (drop j t)
    is_live_lem : front_live (drop j t) ≡ true
    matches : starts_ignoring_case w (drop j t) ≡ true
    behind : Read k k.start (drop (j + length w) t)

  place : (w : List ℕ) (j : ℕ) (t : List Marked) → PlainWord w → Shut k k.ok t → top_word_here w (reverse (take j t)) (drop j t) ≡ true → Place w j t
  unfolding top_word_here word_here
  place w j t pl sh e =
      let back = reverse (take j t) in
      let u = drop j t in
      let a = (and_parts (word_here is_ident w (front_byte back) u) (eqb (depth_of back) 0) e).0 in
      let lv = (and_parts (front_live u) _ a).0 in
      let b = (and_parts (front_live u) _ a).1 in
      let m = (and_parts (starts_ignoring_case w u) _ b).0 in
      let c = (and_parts (starts_ignoring_case w u) _ b).1 in
      let il = not-true (is_ident (front_byte back)) ((and_parts (not (is_ident (front_byte back))) _ c).0) in
      let ir = not-true (is_ident (front_byte (drop (length w) u))) ((and_parts (not (is_ident (front_byte back))) _ c).1) in
      let s : reverse back ++ u ≡ t = ap (λ (z : List Marked). z ++ u) (reverse-reverse (take j t)) ∙ take-append-drop j t in
      let at = at_word k back u il lv (subst (λ (z : List Marked). Read k k.start z) (sym s) sh.reads) in
      let rt : k.rest (ends k k.start t) ≡ true = subst (λ (z : k.State). k.rest z ≡ true) (sym (shut_leaves k t k.start sh.ended)) k.rest_start in
      let bh = behind_word k w u pl m ir at.reads in
      record {
        before = subst (λ (z : List Marked). StandsAlone k z) (reverse-reverse (take j t)) at.before;
        here = record { reads = at.reads; out = at.out (subst (λ (z : List Marked). k.rest (ends k k.start z) ≡ true) (sym s) rt) };
        is_live_lem = lv;
        matches = m;
        behind = subst (λ (z : List Marked). Read k k.start z) (drop-drop (length w) j t) bh.0;
      }

  comma_live : (back u : List Marked) (x : Marked) → comma_here back (x ∷ u) ≡ true → x ≡ live 44
  unfolding comma_here byte_here
  comma_live back u x h = live_byte 44 x ((and_parts (is_live_byte 44 x) (eqb (depth_of back) 0) h).0)

  listed_before_space : (t : List Marked) → StandsAlone k t → AllBeforeSpace k (listed t)
  unfolding listed
  listed_before_space t p = keep_before_space k _ (map trim (pieces comma_here t)) (trim_parts k (pieces comma_here t) (comma_parts k comma_here comma_live t p))

  from_part_lem : (f : Option ℕ) (t : List Marked) → ((j : ℕ) → f ≡ Some j → Place (ascii "FROM") j t) → StandsAlone k (from_part f t) × FromFront (from_part f t)
  unfolding from_part trim_end
  from_part_lem None t h = (nil_part k, tt)
  from_part_lem (Some j) t h =
      let p = h j refl in (
        drop_end_lem k (λ c. eqb c 59) refl refl _ (drop_end_lem k is_w (sign_not_w 39 refl) (sign_not_w 34 refl) (drop j t) p.here),
        from_end (of_byte (λ c. eqb c 59)) _ (from_end (of_byte is_w) (drop j t) (from_front (drop j t) p.matches)),
      )

  vars_part : (f : Option ℕ) (i : ℕ) (t : List Marked) → Shut k k.ok t → ((j : ℕ) → f ≡ Some j → Place (ascii "FROM") j t)
      → Read k k.start (drop (i + 4) t)
      → StandsAlone k (part (i + 4) (place_or f (length t - 1)) t)
  vars_part None i t sh h r = part_between k (i + 4) (length t - 1) t r (last_live t sh.ended)
  vars_part (Some j) i t sh h r = part_between k (i + 4) j t r (h j refl).is_live_lem

  -- the front part and the WITH part
  front_parts : (f : Option ℕ) (s : ℕ) (t : List Marked) → ((j : ℕ) → f ≡ Some j → Place (ascii "WITH") j t) → Place (ascii "SELECT") s t
      → StandsAlone k (take (front_place f s) t) × StandsAlone k (part (front_place f s) s t)
  unfolding front_place
  front_parts None s t h p = (p.before, part_between k s s t p.here.reads p.is_live_lem)
  front_parts (Some j) s t h p =
      cond_both (ltb j s) j s (λ (n : ℕ). StandsAlone k (take n t) × StandsAlone k (part n s t))
      (λ _. let q = h j refl in (q.before, part_between k j s t q.here.reads p.is_live_lem))
      (λ _. (p.before, part_between k s s t p.here.reads p.is_live_lem))

  unchanged : (t : List Marked) → Shut k k.ok t → Shut k k.safe t
  unchanged t sh = record { reads = reads_more k.ok k.safe k.after k.safer t k.start sh.reads; ended = sh.ended }

  plain_with : PlainWord (ascii "WITH")
  unfolding upper is_lower within is_quote
  plain_with = (refl, (refl, (refl, (refl, tt))))

  plain_select : PlainWord (ascii "SELECT")
  unfolding upper is_lower within is_quote
  plain_select = (refl, (refl, (refl, (refl, (refl, (refl, tt))))))

  found_place : (w : List ℕ) (from : ℕ) (t : List Marked) → PlainWord w → Shut k k.ok t → (j : ℕ) → first (top_word_here w) from t ≡ Some j → Place w j t
  found_place w from t pl sh j e = place w j t pl sh (first_least (top_word_here w) t from j e).passes

  cut_kept : (s i : ℕ) (from : Option ℕ) (t : List Marked) → Shut k k.ok t → Place (ascii "SELECT") s t → Place (ascii "INTO") i t
      → ((j : ℕ) → from ≡ Some j → Place (ascii "FROM") j t)
      → Shut k k.safe (select_cut s i from t)
  unfolding select_cut pair_up
  cut_kept s i from t sh ps pi hf =
      let wf = first (top_word_here (ascii "WITH")) 0 t in
      let front = front_place wf s in
      let fp = front_parts wf s t (found_place (ascii "WITH") 0 t plain_with sh) ps in
      let cols = listed (part (s + 6) i t) in
      let vars = listed (part (i + 4) (place_or from (length t - 1)) t) in
      let pc = listed_before_space (part (s + 6) i t) (part_between k (s + 6) i t ps.behind pi.is_live_lem) in
      let pv = listed_before_space (part (i + 4) (place_or from (length t - 1)) t) (vars_part from i t sh hf pi.behind) in
      let fr = from_part_lem from t hf in
      let indent = indentation (take front t) in
      let lines = set_lines indent (set_line (part front s t) (from_part from t)) cols vars in
      cond_both (pair_up cols vars) (take front t ++ lines) t (λ (z : List Marked). Shut k k.safe z)
      (λ e.
      let n = eqb-true (length cols) (length vars) ((and_parts (eqb (length cols) (length vars)) _ e).0) in
      let m = not-true (is_empty cols) ((and_parts (not (is_empty cols)) _ ((and_parts (eqb (length cols) (length vars)) _ e).1)).0) in
      let F = ends k k.start (take front t) in
      let g = lines_go indent (part front s t) (from_part from t) (indent_part (take front t) fp.0) fp.1 fr.0 fr.1 cols vars F n m pc pv fp.0.out in
      record {
        reads = paste k.safe k.after (take front t) lines k.start (reads_more k.ok k.safe k.after k.safer (take front t) k.start fp.0.reads) g.0.reads;
        ended = ends_append (take front t) lines g.1;
      })
      (λ _. unchanged t sh)

  plain_into : PlainWord (ascii "INTO")
  unfolding upper is_lower within is_quote
  plain_into = (refl, (refl, (refl, (refl, tt))))

  plain_from : PlainWord (ascii "FROM")
  unfolding upper is_lower within is_quote
  plain_from = (refl, (refl, (refl, (refl, tt))))

  select_statement_lem : (t : List Marked) → Shut k k.ok t → Shut k k.safe (select_statement t)
  unfolding select_statement select_at into_at
  select_statement_lem t sh = go (first (top_word_here (ascii "SELECT")) 0 t) refl
    where
      into : (s : ℕ) → Place (ascii "SELECT") s t → (f : Option ℕ) → first (top_word_here (ascii "INTO")) s t ≡ f → Shut k k.safe (into_at s f t)
      into s ps None e = unchanged t sh
      into s ps (Some i) e =
          cut_kept s i (first (top_word_here (ascii "FROM")) i t) t sh ps (found_place (ascii "INTO") s t plain_into sh i e)
          (found_place (ascii "FROM") i t plain_from sh)

      go : (f : Option ℕ) → first (top_word_here (ascii "SELECT")) 0 t ≡ f → Shut k k.safe (select_at f t)
      go None e = unchanged t sh
      go (Some s) e = into s (found_place (ascii "SELECT") 0 t plain_select sh s e) (first (top_word_here (ascii "INTO")) s t) refl

  ended_kept : (s : List Marked) → Read k k.start (s ++ (live 59 ∷ [])) → Shut k k.safe (select_statement (s ++ (live 59 ∷ [])))
  unfolding ends_live
  ended_kept s p = select_statement_lem (s ++ (live 59 ∷ [])) (record { reads = p; ended = ends_append s (live 59 ∷ []) refl })

  join_kept : (s r : List Marked) (ss : List (List Marked)) → Statements k (s ∷ r ∷ ss) → Shut k k.safe (join_selects (s ∷ r ∷ ss))
  unfolding join_selects
  join_kept s r [] h =
      subst (λ (z : List Marked). Shut k k.safe (select_statement (s ++ (live 59 ∷ [])) ++ z)) (sym h.1)
      (subst (λ (z : List Marked). Shut k k.safe z) (sym (append-nil (select_statement (s ++ (live 59 ∷ []))))) (ended_kept s h.0))
  join_kept s r (q ∷ ss) h =
      shut_append k k.safe (select_statement (s ++ (live 59 ∷ []))) (join_selects (r ∷ q ∷ ss)) (ended_kept s h.0) (join_kept r q ss h.1)

  -- pass 4 gives text that is read safely and ends in a live `;`
  pub select_kept : (t : List Marked) → Shut k k.ok t → Shut k k.safe (select_into t)
  unfolding select_into
  select_kept t h = go (pieces (byte_here 59) t) (statements k t h)
    where
      go : (ps : List (List Marked)) → FirstOf k k.start ps → Shut k k.safe (join_selects ps)
      go [] w = absurd w
      go (s ∷ []) w = absurd w
      go (s ∷ r ∷ ss) w = join_kept s r ss w
