-- Passes 3 and 4 may cut and glue well formed text as they do. Assumes nothing.
use mathlib.Core.Path.{◌≡◌, refl, sym, ◌∙◌, subst}
use mathlib.Core.Bool.{Bool, true, false, cond, not, ◌&&◌, ◌||◌, false≢true, true≢false}
use mathlib.Core.List.{List, [], ◌∷◌}
use Prim.Native.Nat.{ℕ}
use lib.Dec.{eqb}
use Rattle.spec.proofs.ByteSets.{sign_not_w, gap_w, w_not_ident}
use Rattle.std.proofs.lemmas.Bool.{and_parts, or_parts}
use Rattle.spec.proofs.Choice.{by}
use Rattle.spec.specs.Bytes.{ascii, within, is_digit, is_lower, is_upper, is_ident, is_quote, is_w}
use Rattle.spec.specs.Map.{Marked, live, quoted, byte, lives}
use Rattle.joining.proofs.Bools.{other, no_quote, white_no_quote}
use Rattle.joining.proofs.Reading.{leaves, Takes, Reading, reads_all, put_in}
use Rattle.joining.proofs.WellFormed.{Open, clear, dash, slash, sign, tag, in_single, in_double, live_ok, quoted_ok, well_ok, live_next, quoted_next, well_next, is_out, Well, next_ident, live_quote, live_in, live_out}

pub well_back : (s : Open) (x : Marked) → is_quote (byte x) ≡ false → well_ok s x ≡ true → is_out (well_next s x) ≡ true → is_out s ≡ true
unfolding is_quote
well_back s (live c) n o r = live_in s c o
well_back clear (quoted c) n o r = refl
well_back dash (quoted c) n o r = refl
well_back slash (quoted c) n o r = refl
well_back sign (quoted c) n o r = refl
well_back tag (quoted c) n o r = refl
well_back in_single (quoted c) n o r = rw ((or_parts (eqb c 39) (eqb c 34) n).0) at r
well_back in_double (quoted c) n o r = rw ((or_parts (eqb c 39) (eqb c 34) n).1) at r

pub well_forth : (s : Open) (x : Marked) → is_quote (byte x) ≡ false → well_ok s x ≡ true → is_out s ≡ true → is_out (well_next s x) ≡ true
well_forth s (live c) n o r = live_out s c r
well_forth clear (quoted c) n o r = absurd (true≢false (sym o ∙ n))
well_forth dash (quoted c) n o r = absurd (true≢false (sym o ∙ n))
well_forth slash (quoted c) n o r = absurd (true≢false (sym o ∙ n))
well_forth sign (quoted c) n o r = absurd (true≢false (sym o ∙ n))
well_forth tag (quoted c) n o r = absurd (true≢false (sym o ∙ n))
well_forth in_single (quoted c) n o r = absurd (false≢true r)
well_forth in_double (quoted c) n o r = absurd (false≢true r)

-- behind a byte that is no identifier byte the state does not depend on the one before
same_next : (s : Open) (c : ℕ) → is_ident c ≡ false → live_next s c ≡ live_next clear c
unfolding live_next
same_next s c i = rw i refl

pub quoted_start : (s : Open) (c : ℕ) → is_out s ≡ true → (quoted_ok s c ≡ is_quote c) × (quoted_next s c ≡ cond (eqb c 39) in_single in_double)
quoted_start clear c h = (refl, refl)
quoted_start dash c h = (refl, refl)
quoted_start slash c h = (refl, refl)
quoted_start sign c h = (refl, refl)
quoted_start tag c h = (refl, refl)
quoted_start in_single c h = absurd (false≢true h)
quoted_start in_double c h = absurd (false≢true h)

-- outside literals, the state that has nothing open asks least
pub weaken : (u : List Marked) (s : Open) → is_out s ≡ true → Well s u
    → Well clear u × (is_out (leaves well_next s u) ≡ true → is_out (leaves well_next clear u) ≡ true)
weaken [] s h r = (tt, (λ _. refl))
weaken (live c ∷ u) s h r =
    let a : not (is_quote c) ≡ true = rw (live_quote s c r.0) refl in
    by (is_ident c)
    (λ i.
    let w = weaken u (live_next s c) (live_out s c h) r.1 in
    rw (next_ident clear c i) ((a, w.0), w.1))
    (λ i. rw (sym (same_next s c i)) ((a, r.1), (λ z. z)))
weaken (quoted c ∷ u) s h r =
    let q = quoted_start s c h in
    ((sym q.0 ∙ r.0, subst (λ (z : Open). Well z u) q.1 r.1), (λ z. subst (λ (y : Open). is_out (leaves well_next y u) ≡ true) q.1 z))

pub well_newline : (s : Open) (x : Marked) → byte x ≡ 10 → well_ok s x ≡ true → well_next s x ≡ clear
unfolding live_next is_quote
well_newline s (live c) e o = rw (e, w_not_ident 10 (gap_w 10 refl)) refl
well_newline s (quoted c) e o = absurd (none s (subst (λ (n : ℕ). quoted_ok s n ≡ true) e o))
  where
    none : (s : Open) → quoted_ok s 10 ≡ true → ⊥
    none clear h = false≢true h
    none dash h = false≢true h
    none slash h = false≢true h
    none sign h = false≢true h
    none tag h = false≢true h
    none in_single h = false≢true h
    none in_double h = false≢true h

pub well_white : (x : Marked) → is_w (byte x) ≡ true → well_ok clear x ≡ true → well_next clear x ≡ clear
unfolding live_next
well_white (live c) w o =
    rw (other is_w 45 c (sign_not_w 45 refl) w, other is_w 47 c (sign_not_w 47 refl) w, other is_w 36 c (sign_not_w 36 refl) w)
    (by (is_ident c) (λ i. rw i refl) (λ i. rw i refl))
well_white (quoted c) w o = absurd (true≢false (sym o ∙ white_no_quote c w))

semi_ok : (s : Open) → is_out s ≡ true → live_ok s 59 ≡ true
unfolding is_quote
semi_ok clear h = refl
semi_ok dash h = refl
semi_ok slash h = refl
semi_ok sign h = refl
semi_ok tag h = refl
semi_ok in_single h = h
semi_ok in_double h = h

end_no_quote : (c : ℕ) → (is_w c || eqb c 59) ≡ true → is_quote c ≡ false
end_no_quote c h = no_quote (λ n. is_w n || eqb n 59) c (rw (sign_not_w 39 refl) refl) (rw (sign_not_w 34 refl) refl) h

pub well_tail : (s : Open) (x : Marked) → (is_w (byte x) || eqb (byte x) 59) ≡ true → well_ok s x ≡ true → well_ok (well_next s x) (live 59) ≡ true
    → well_ok s (live 59) ≡ true
well_tail s x w o e = semi_ok s (well_back s x (end_no_quote (byte x) w) o (live_in (well_next s x) 59 e))

-- ---- the texts that the passes put in

every_open : (Open → Bool) → Bool
every_open f = f clear && (f dash && (f slash && (f sign && (f tag && (f in_single && f in_double)))))

each_open : (f : Open → Bool) → every_open f ≡ true → (s : Open) → f s ≡ true
unfolding every_open
each_open f h s =
    let h1 = (and_parts (f clear) _ h).1 in
    let h2 = (and_parts (f dash) _ h1).1 in
    let h3 = (and_parts (f slash) _ h2).1 in
    let h4 = (and_parts (f sign) _ h3).1 in
    let h5 = (and_parts (f tag) _ h4).1 in
    at s ((and_parts (f clear) _ h).0) ((and_parts (f dash) _ h1).0) ((and_parts (f slash) _ h2).0) ((and_parts (f sign) _ h3).0)
    ((and_parts (f tag) _ h4).0) ((and_parts (f in_single) _ h5).0) ((and_parts (f in_single) _ h5).1)
  where
    at : (s : Open) → f clear ≡ true → f dash ≡ true → f slash ≡ true → f sign ≡ true → f tag ≡ true → f in_single ≡ true
        → f in_double ≡ true
        → f s ≡ true
    at clear a b c d e g k = a
    at dash a b c d e g k = b
    at slash a b c d e g k = c
    at sign a b c d e g k = d
    at tag a b c d e g k = e
    at in_single a b c d e g k = g
    at in_double a b c d e g k = k

abbrev is_clear : Open → Bool
is_clear clear = true
is_clear dash = false
is_clear slash = false
is_clear sign = false
is_clear tag = false
is_clear in_single = false
is_clear in_double = false

only_clear : (s : Open) → is_clear s ≡ true → s ≡ clear
only_clear clear h = refl
only_clear dash h = absurd (false≢true h)
only_clear slash h = absurd (false≢true h)
only_clear sign h = absurd (false≢true h)
only_clear tag h = absurd (false≢true h)
only_clear in_single h = absurd (false≢true h)
only_clear in_double h = absurd (false≢true h)

-- outside a literal: computed for each text
well_text : (t : List Marked)
    → every_open (λ s. not (is_out s) || (reads_all well_ok well_next s t && is_clear (leaves well_next s t))) ≡ true
    → (s : Open) → is_out s ≡ true → Takes well_ok well_next s clear t
well_text t = put_in well_ok well_next every_open each_open clear is_clear only_clear is_out t

pub well_set : (s : Open) → is_out s ≡ true → Takes well_ok well_next s clear (lives (ascii "SET "))
unfolding every_open lives live_next is_ident is_lower is_upper is_digit within is_quote
well_set = well_text (lives (ascii "SET ")) refl

pub well_select : (s : Open) → is_out s ≡ true → Takes well_ok well_next s clear (lives (ascii "SELECT "))
unfolding every_open lives live_next is_ident is_lower is_upper is_digit within is_quote
well_select = well_text (lives (ascii "SELECT ")) refl

pub well_equals : (s : Open) → is_out s ≡ true → Takes well_ok well_next s clear (lives (ascii " = "))
unfolding every_open lives live_next is_ident is_lower is_upper is_digit within is_quote
well_equals = well_text (lives (ascii " = ")) refl

pub well_open : (s : Open) → is_out s ≡ true → Takes well_ok well_next s clear (lives (ascii " = ("))
unfolding every_open lives live_next is_ident is_lower is_upper is_digit within is_quote
well_open = well_text (lives (ascii " = (")) refl

pub well_limit : (s : Open) → is_out s ≡ true → Takes well_ok well_next s clear (lives (ascii " LIMIT 1);"))
unfolding every_open lives live_next is_ident is_lower is_upper is_digit within is_quote
well_limit = well_text (lives (ascii " LIMIT 1);")) refl

pub well_closing : (s : Open) → is_out s ≡ true → Takes well_ok well_next s clear (lives (ascii ");"))
unfolding every_open lives live_next is_ident is_lower is_upper is_digit within is_quote
well_closing = well_text (lives (ascii ");")) refl

pub well_space : (s : Open) → is_out s ≡ true → Takes well_ok well_next s clear (lives (ascii " "))
unfolding every_open lives live_next is_ident is_lower is_upper is_digit within is_quote
well_space = well_text (lives (ascii " ")) refl

-- passes 3 and 4 may cut and glue well formed text as they do
unfoldable pub well_formed_reading : Reading
unfolding live_next is_ident is_lower is_upper is_digit within lives is_quote
well_formed_reading =
    record {
      State = Open;
      start = clear;
      ok = well_ok;
      safe = well_ok;
      after = well_next;
      rest = is_out;
      before_space = is_out;
      edge = λ s. true;
      safer = λ s x h. h;
      rest_start = refl;
      before_space_start = refl;
      edge_start = refl;
      alive = live_in;
      back = well_back;
      forth = well_forth;
      settle = λ s x w o h. h;
      edges = λ s x h. refl;
      fresh = λ u s e h r. weaken u s h r;
      semi = λ s. refl;
      comma = λ s. refl;
      newline = well_newline;
      line_start = refl;
      white = well_white;
      tail = well_tail;
      set_word = well_set;
      select_word = well_select;
      equals = well_equals;
      equals_open = well_open;
      limit = well_limit;
      closing = well_closing;
      gap = λ s h. (well_space s h, refl);
      gap_from = λ s x t h f r. (r, refl);
    }
