-- Passes 3 and 4, then all five: a text that has none of a pass's places comes through byte for byte, and the body call
-- accepts it as it is. Assumes nothing.
use Rattle.std.specs.Prelude.{Option, Some, None, Ok}
use Rattle.std.proofs.lemmas.Bool.{cond_both, and_from, and_parts, or_parts}
use mathlib.Core.Path.{◌≡◌, refl, sym, ap, ◌∙◌}
use mathlib.Core.Bool.{Bool, true, false, cond, not, ◌&&◌, false≢true}
use mathlib.Core.List.{List, [], ◌∷◌, ◌++◌, reverse_aux, append-nil, append_assoc}
use Prim.Native.Nat.{ℕ, ◌≤◌}
use native.Mathlib.Omega.{arith}
use lib.Dec.{eqb}
use lib.ListN.{length}
use Rattle.spec.proofs.Choice.{by}
use Rattle.spec.proofs.MapLaws.{text_bytes}
use Rattle.spec.proofs.FirstFound.{first_some}
use Rattle.spec.proofs.JoinedPieces.{joined, pieces_joined}
use Rattle.spec.proofs.UnchangedLaws.{has_dollar, none_here, none_behind, requote_unchanged, elsif_unchanged, raise_unchanged}
use Rattle.spec.proofs.RefusalOutcomes.{assigned_text}
use Rattle.spec.proofs.RefusalLaws.{then_accepted, target_in, assigned, assign_done}
use Rattle.spec.specs.Bytes.{ascii, is_quote}
use Rattle.spec.specs.Lists.{any, is_empty}
use Rattle.spec.specs.Map.{Marked, live, quoted, byte, bytes, marked_text, is_live, front_live}
use Rattle.spec.specs.Search.{Test, first_from, first, is_found, starts, needle_here, find_keyword, find_str_in_code, byte_here, pieces_from, pieces}
use Rattle.spec.specs.Assignments.{assign_here, assignment_at, assignment}
use Rattle.spec.specs.SelectInto.{quote_after, quote_walk, top_word_here, into_at, select_at, select_statement, join_selects, select_into}
use Rattle.spec.specs.Outcome.{accepted}
use Rattle.spec.specs.Raise.{action_of}
use Rattle.spec.specs.declared.Level.{Level}
use Rattle.spec.specs.declared.Action.{Action}
use Rattle.spec.specs.Raise.{Actions}
use Rattle.spec.specs.Body.{buffer_size, requote_pass, elsif_pass, assign_pass, select_pass, raise_pass, rewriting}
use Rattle.spec.specs.Answers.{result_of, body_result}
use Rattle.spec.specs.Computed.{computed}

-- ---- pass 3

needle_front : (w : List ℕ) (t u : List Marked) → starts w t ≡ true → starts w (t ++ u) ≡ true
unfolding starts
needle_front [] t u h = refl
needle_front (a ∷ w) [] u h = absurd (false≢true h)
needle_front (a ∷ w) (x ∷ t) u h =
    and_from (eqb (byte x) a) (starts w (t ++ u)) ((and_parts (eqb (byte x) a) (starts w t) h).0)
    (needle_front w t u ((and_parts (eqb (byte x) a) (starts w t) h).1))

-- a needle that stands at a place of a text stands there with more text behind, whatever stands before
needle_more : (w : List ℕ) (back past : List Marked) (x : Marked) (t u : List Marked)
    → needle_here w past (x ∷ (t ++ u)) ≡ false
    → needle_here w back (x ∷ t) ≡ false
unfolding needle_here front_live
needle_more w back past x t u h =
    by (needle_here w back (x ∷ t))
    (λ e. absurd (false≢true (sym h ∙ and_from (is_live x) (starts w (x ∷ (t ++ u)))
    ((and_parts (is_live x) (starts w (x ∷ t)) e).0)
    (needle_front w (x ∷ t) u ((and_parts (is_live x) (starts w (x ∷ t)) e).1)))))
    (λ e. e)

-- a needle that is nowhere in a text is nowhere in its front
pub none_front : (w : List ℕ) (back past t u : List Marked)
    → first_from (needle_here w) past (t ++ u) ≡ None
    → first_from (needle_here w) back t ≡ None
unfolding first_from
none_front w back past [] u h = refl
none_front w back past (x ∷ t) u h =
    rw (needle_more w back past x t u (none_here (needle_here w) past x (t ++ u) h))
    (none_front w (x ∷ back) (x ∷ past) t u (none_behind (needle_here w) past x (t ++ u) h))

-- and nowhere in what stands behind that
pub none_rest : (p : Test) (back t u : List Marked)
    → first_from p back (t ++ u) ≡ None
    → first_from p (reverse_aux t back) u ≡ None
none_rest p back [] u h = h
none_rest p back (x ∷ t) u h = none_rest p (x ∷ back) t u (none_behind p back x (t ++ u) h)

assignment_kept : (back s u : List Marked) → first_from (needle_here (ascii ":=")) back (s ++ u) ≡ None → assignment s ≡ s
unfolding assignment assignment_at assign_here first
assignment_kept back s u h = rw (none_front (ascii ":=") [] back s u h)

assigned_kept : (back : List Marked) (ss : List (List Marked))
    → first_from (needle_here (ascii ":=")) back (joined 59 ss) ≡ None
    → assigned_text ss ≡ joined 59 ss
unfolding assigned_text joined
assigned_kept back [] h = refl
assigned_kept back (s ∷ []) h = assignment_kept back s [] (rw append-nil h)
assigned_kept back (s ∷ r ∷ ss) h =
    let u = live 59 ∷ joined 59 (r ∷ ss) in
    let rest = none_behind (needle_here (ascii ":=")) (reverse_aux s back) (live 59) (joined 59 (r ∷ ss)) (none_rest (needle_here (ascii ":=")) back s u h) in
    rw (assignment_kept back s u h, assigned_kept (live 59 ∷ reverse_aux s back) (r ∷ ss) rest)

-- pass 3: no live `:=` and no qualified target, no byte changed
pub assign_unchanged : (xs : List ℕ)
    → find_str_in_code xs (ascii ":=") ≡ None
    → target_in xs ≡ None
    → assign_pass xs ≡ accepted xs
unfolding assigned find_str_in_code first is_empty pieces
assign_unchanged xs h e =
    let t = marked_text xs in
    let j = pieces_joined 59 [] t in
    let n : first_from (needle_here (ascii ":=")) [] (joined 59 (pieces_from (byte_here 59) [] t)) ≡ None = rw j h in
    assign_done xs e ∙ ap accepted (ap bytes (assigned_kept [] (pieces_from (byte_here 59) [] t) n ∙ j) ∙ text_bytes xs)

-- ---- pass 4

-- INTO stands at or behind this SELECT, outside parentheses and quotes
abbrev pub into_behind : Option ℕ → List Marked → Bool
into_behind None t = false
into_behind (Some s) t = is_found (first (top_word_here (ascii "INTO")) s t)

-- the statement has SELECT and then INTO, outside parentheses and quotes
unfoldable pub has_select_into : List Marked → Bool
has_select_into t = into_behind (first (top_word_here (ascii "SELECT")) 0 t) t

-- the statements that end in `;`, with it: every piece but the last
unfoldable pub ended : List (List Marked) → List (List Marked)
ended [] = []
ended (s ∷ []) = []
ended (s ∷ r ∷ ss) = (s ++ (live 59 ∷ [])) ∷ ended (r ∷ ss)

-- some statement of the text that ends in `;` has SELECT and then INTO
unfoldable pub has_into : List ℕ → Bool
has_into xs = any has_select_into (ended (pieces (byte_here 59) (quote_walk 0 xs)))

-- pass 4's own quote walk keeps the bytes
pub walk_bytes : (q : ℕ) (xs : List ℕ) → bytes (quote_walk q xs) ≡ xs
unfolding bytes quote_walk
walk_bytes q [] = refl
walk_bytes q (c ∷ cs) =
    let e : byte (cond (eqb q 0 && not (is_quote c)) (live c) (quoted c)) ≡ c =
    cond_both (eqb q 0 && not (is_quote c)) (live c) (quoted c) (λ x. byte x ≡ c) (λ _. refl) (λ _. refl) in
    rw e (ap (λ l. c ∷ l) (walk_bytes (quote_after q c) cs))

select_kept : (t : List Marked) → has_select_into t ≡ false → select_statement t ≡ t
unfolding has_select_into select_statement select_at into_at
select_kept t h = at (first (top_word_here (ascii "SELECT")) 0 t) h
  where
    into : (s : ℕ) (f : Option ℕ) → is_found f ≡ false → into_at s f t ≡ t
    into s None h = refl
    into s (Some i) h = absurd (false≢true (sym h))

    at : (f : Option ℕ) → into_behind f t ≡ false → select_at f t ≡ t
    at None h = refl
    at (Some s) h = into s (first (top_word_here (ascii "INTO")) s t) h

selects_kept : (ss : List (List Marked)) → any has_select_into (ended ss) ≡ false → join_selects ss ≡ joined 59 ss
unfolding join_selects joined any ended
selects_kept [] h = refl
selects_kept (s ∷ []) h = refl
selects_kept (s ∷ r ∷ ss) h =
    let t = s ++ (live 59 ∷ []) in
    let more = any has_select_into (ended (r ∷ ss)) in
    rw (select_kept t ((or_parts (has_select_into t) more h).0), selects_kept (r ∷ ss) ((or_parts (has_select_into t) more h).1))
    (append_assoc s (live 59 ∷ []) (joined 59 (r ∷ ss)))

-- pass 4: no statement with SELECT and then INTO, no byte changed
pub select_unchanged : (xs : List ℕ) → has_into xs ≡ false → select_pass xs ≡ accepted xs
unfolding has_into select_pass select_into pieces
select_unchanged xs h =
    let t = quote_walk 0 xs in
    ap accepted (ap bytes (selects_kept (pieces_from (byte_here 59) [] t) h ∙ pieces_joined 59 [] t) ∙ walk_bytes 0 xs)

-- ---- all five

-- a text with nothing to rewrite, each pass's places sought in the text itself
pub record Plain (xs : List ℕ) : Type 0 where
  pub fits : length xs ≤ buffer_size
  pub no_dollar : has_dollar xs ≡ false
  pub no_elsif : find_keyword xs (ascii "ELSIF") 0 ≡ None
  pub no_assignment : find_str_in_code xs (ascii ":=") ≡ None
  pub no_target : target_in xs ≡ None
  pub no_select_into : has_into xs ≡ false
  pub no_raise : find_keyword xs (ascii "RAISE") 0 ≡ None

-- not one byte more
pub plain_unchanged : (act : Level → Action) (xs : List ℕ) → Plain xs → rewriting act xs ≡ accepted xs
unfolding rewriting
plain_unchanged act xs p =
    let h = p.fits in
    then_accepted _ (raise_pass act) xs xs
    (then_accepted _ select_pass xs xs
    (then_accepted _ assign_pass xs xs
    (then_accepted _ elsif_pass xs xs
    (then_accepted _ requote_pass xs xs refl (requote_unchanged xs p.no_dollar) h)
    (elsif_unchanged xs p.no_elsif) h)
    (assign_unchanged xs p.no_assignment p.no_target) h)
    (select_unchanged xs p.no_select_into) h)
    (raise_unchanged act xs p.no_raise) h

-- the body call accepts it with any actions, with the text as the output
pub plain_answer : (xs : List ℕ) (a : Actions) → Plain xs → (body_result xs a).answer ≡ Ok (record { length = length xs; records = 0 })
unfolding body_result result_of
plain_answer xs a p = rw (plain_unchanged (action_of a) xs p)

pub plain_output : (xs : List ℕ) (a : Actions) → Plain xs → (body_result xs a).output ≡ xs
unfolding body_result result_of
plain_output xs a p = rw (plain_unchanged (action_of a) xs p)

-- such texts exist
plain_row : Plain (ascii "UPDATE t SET a = 'x;$$' WHERE b = (SELECT 1);")
unfolding computed has_dollar target_in first_some has_into ended has_select_into
plain_row =
    record {
      fits = omega arith;
      no_dollar = refl;
      no_elsif = refl;
      no_assignment = refl;
      no_target = refl;
      no_select_into = refl;
      no_raise = refl;
    }
