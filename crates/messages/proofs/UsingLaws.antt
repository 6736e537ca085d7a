-- A RAISE that is not dropped, by the bytes of its content: the clause behind USING, or the message. Assumes nothing.
use Rattle.std.specs.Borrow.{Bor}
use Rattle.std.specs.Option.{ok_or}
use Rattle.std.specs.Prelude.{Option, Some, None}
use Rattle.std.proofs.lemmas.List.{take_rest}
use mathlib.Core.Path.{◌≡◌, refl, sym, ap, ◌∙◌}
use mathlib.Core.Bool.{Bool, true, false, cond, ◌&&◌}
use mathlib.Core.List.{List, ◌++◌}
use Prim.Native.Nat.{ℕ, ◌+◌, ◌-◌, ◌≤◌, ◌<◌}
use native.Mathlib.Omega.{arith}
use borrow.Author.Tests.{eq-eqb, ne_eqb, le-leb, lt-leb, leb-true, leb-false}
use lib.Dec.{eqb, leb}
use lib.ListN.{length, take, drop, get_or, length-drop}
use lib.Seq.{drop-drop}
use Rattle.spec.proofs.BytesLaws.{bytes_lives, bytes_append, bytes_drop}
use Rattle.spec.proofs.Choice.{by}
use Rattle.spec.proofs.ListLaws.{empty_length}
use Rattle.spec.proofs.RefusalBounds.{bytes_length}
use Rattle.spec.proofs.RunPlaces.{byte_ahead, end_from, ahead_at}
use Rattle.spec.proofs.WalkLaws.{starts_case}
use Rattle.spec.specs.Bytes.{ascii, upper, is_w, prefix_by}
use Rattle.spec.specs.Lists.{is_empty, drop_while}
use Rattle.spec.specs.Map.{Marked, bytes, lives, front_byte, of_byte}
use Rattle.spec.specs.Search.{starts_ignoring_case}
use Rattle.spec.specs.Outcome.{using_clause, accepted, refused, Rewriting, forget}
use Rattle.spec.specs.Raise.{message, action_fate, rewritten, refused_clause, using_fate, raise_fate, raise_word, raise_text, fate_text}
use Rattle.spec.specs.declared.RaiseType.{RaiseType}
use Rattle.spec.specs.Parts.{trim}
use Rattle.runs.specs.Sets.{trimmed}
use Rattle.runs.proofs.RunLaws.{trim_bytes}
use Rattle.messages.specs.Readings.{raise_front, raising, raised_as, raised_in, using_in}
use Rattle.messages.proofs.MessageLaws.{message_in, message_is, message_le}

-- the text of a message
rewritten_text : (w : RaiseType) (m : List Marked) → forget (fate_text (rewritten w m)) ≡ accepted (raising w (bytes m))
unfolding forget fate_text raise_text raising raise_front
rewritten_text w m =
    let front = ascii "SELECT RAISE(" ++ (raise_word w ++ ascii ", ") in
    ap accepted
    (bytes_append (lives front) (m ++ lives (ascii ");"))
    ∙ (ap (λ (l : List ℕ). l ++ bytes (m ++ lives (ascii ");"))) (bytes_lives front)
    ∙ ap (λ (l : List ℕ). front ++ l)
    (bytes_append m (lives (ascii ");")) ∙ ap (λ (l : List ℕ). bytes m ++ l) (bytes_lives (ascii ");")))))

-- what the clause of a content comes to
abbrev becomes : RaiseType → List Marked → Rewriting
becomes w t = forget (fate_text (using_fate w t (drop 5 t)))

-- a choice of a message or a refused clause, as text
chosen : (w : RaiseType) (b : Bool) (m : List Marked) (c : List ℕ)
    → forget (fate_text (cond b (rewritten w m) (refused_clause c))) ≡ cond b (accepted (raising w (bytes m))) (refused (using_clause c))
unfolding forget fate_text
chosen w true m c = rewritten_text w m
chosen w false m c = refl

-- nothing is left from i on exactly if the list ends there
empty_drop : {A : Type 0} (t : List A) (i : ℕ) → is_empty (drop i t) ≡ leb (length t) i
empty_drop t i =
    let n = length-drop i t in
    empty_length (drop i t)
    ∙ by (leb (length t) i)
    (λ e. eq-eqb (length (drop i t)) 0 (omega (arith, leb-true (length t) i e)) ∙ sym e)
    (λ e. ne_eqb (length (drop i t)) 0 (λ z. omega (arith, leb-false (length t) i e)) ∙ sym e)

module _ (w : RaiseType) (t : List Marked) (xs : List ℕ) (e : bytes t ≡ xs) where
  -- the tests at an offset are of the bytes
  starts_at : (v : List ℕ) (i : ℕ) → starts_ignoring_case v (drop i t) ≡ prefix_by upper v (drop i xs)
  starts_at v i = starts_case v (drop i t) ∙ ap (λ (l : List ℕ). prefix_by upper v l) (bytes_drop i t ∙ ap (drop i) e)

  front_at : (i : ℕ) → front_byte (drop i t) ≡ get_or xs i 0
  front_at i = let b = byte_ahead t i in rw e at b

  message_at : (i : ℕ) → bytes (message (drop i t)) ≡ message_in (drop i xs)
  message_at i = message_is (drop i t) (drop i xs) (bytes_drop i t ∙ ap (drop i) e)

  skip_at : (i k : ℕ) → drop_while (of_byte is_w) (drop k (drop i t)) ≡ drop (end_from is_w xs (i + k)) t
  skip_at i k = ap (drop_while (of_byte is_w)) (drop-drop k i t) ∙ (ahead_at is_w t xs e (i + k) (end_from is_w xs (i + k)) refl).rest

  rest_empty : (i k : ℕ) → is_empty (drop_while (of_byte is_w) (drop k (drop i t))) ≡ leb (length xs) (end_from is_w xs (i + k))
  rest_empty i k =
      ap is_empty (skip_at i k)
      ∙ (empty_drop t (end_from is_w xs (i + k))
      ∙ ap (λ (n : ℕ). leb n (end_from is_w xs (i + k))) (sym (bytes_length t) ∙ ap length e))

  -- behind USING the W end at a, behind MESSAGE at b, behind `=` at c, where the message m starts
  module _ (a b c : ℕ) (m : List ℕ) (pa : a ≡ end_from is_w xs 5) (pb : b ≡ end_from is_w xs (a + 7)) (pc : c ≡ end_from is_w xs (b + 1)) (pm : m ≡ message_in (drop c xs)) where
    at_a : drop_while (of_byte is_w) (drop 5 t) ≡ drop a t
    at_a = skip_at 0 5 ∙ ap (λ (n : ℕ). drop n t) (sym pa)

    at_b : drop_while (of_byte is_w) (drop 7 (drop a t)) ≡ drop b t
    at_b = skip_at a 7 ∙ ap (λ (n : ℕ). drop n t) (sym pb)

    at_c : drop_while (of_byte is_w) (drop 1 (drop b t)) ≡ drop c t
    at_c = skip_at b 1 ∙ ap (λ (n : ℕ). drop n t) (sym pc)

    found : bytes (message (drop c t)) ≡ m
    found = message_at c ∙ sym pm

    long : length (message (drop c t)) ≡ length m
    long = sym (bytes_length (message (drop c t))) ∙ ap length found

    -- MESSAGE, `=` and a `'` stand there, and only W behind the message
    abbrev fits : Bool
    fits = prefix_by upper (ascii "MESSAGE") (drop a xs) && (eqb (get_or xs b 0) 61 && (eqb (get_or xs c 0) 39 && leb (length xs) (end_from is_w xs (c + length m))))

    using_is : becomes w t ≡ cond fits (accepted (raising w m)) (refused (using_clause xs))
    unfolding using_fate
    using_is =
        rw (at_a, at_b, at_c, starts_at (ascii "MESSAGE") a, front_at b, front_at c, rest_empty c (length (message (drop c t))), long, e)
        (chosen w fits (message (drop c t)) xs ∙ rw found refl)

  -- the same by the tests in their order, as far as they pass
  module _ (a : ℕ) (pa : a ≡ end_from is_w xs 5) where
    pub no_message : prefix_by upper (ascii "MESSAGE") (take (length xs - a) (drop a xs)) ≡ false → becomes w t ≡ refused (using_clause xs)
    no_message p = using_is a _ _ _ pa refl refl refl ∙ simp (rw take_rest at p)

    module _ (p : prefix_by upper (ascii "MESSAGE") (take (length xs - a) (drop a xs)) ≡ true) (b : ℕ) (pb : b ≡ end_from is_w xs (a + 7)) where
      pub no_equals : (get_or xs b 0 ≡ 61 → ⊥) → becomes w t ≡ refused (using_clause xs)
      no_equals q = using_is a b _ _ pa pb refl refl ∙ simp (rw take_rest at p, ne_eqb (get_or xs b 0) 61 q)

      module _ (q : get_or xs b 0 ≡ 61) (c : ℕ) (pc : c ≡ end_from is_w xs (b + 1)) where
        pub no_quote : (get_or xs c 0 ≡ 39 → ⊥) → becomes w t ≡ refused (using_clause xs)
        no_quote r = using_is a b c _ pa pb pc refl ∙ simp (rw take_rest at p, eq-eqb (get_or xs b 0) 61 q, ne_eqb (get_or xs c 0) 39 r)

        module _ (r : get_or xs c 0 ≡ 39) (m : List ℕ) (pm : (u : List Marked) → bytes u ≡ take (length xs - c) (drop c xs) → m ≡ bytes (message u)) (k : ℕ) (pk : k ≡ end_from is_w xs (c + length m)) where
          at_quote : becomes w t ≡ cond (leb (length xs) k) (accepted (raising w m)) (refused (using_clause xs))
          at_quote =
              let ys = drop c xs in
              let said : m ≡ message_in ys = pm (lives ys) (bytes_lives ys ∙ sym (take_rest xs c)) ∙ message_is (lives ys) ys (bytes_lives ys) in
              using_is a b c m pa pb pc said ∙ simp (rw take_rest at p, eq-eqb (get_or xs b 0) 61 q, eq-eqb (get_or xs c 0) 39 r, sym pk)

          pub more_behind : k < length xs → becomes w t ≡ refused (using_clause xs)
          more_behind h = at_quote ∙ rw (lt-leb _ _ h) refl

          pub message_last : length xs ≤ k → becomes w t ≡ accepted (raising w m)
          message_last h = at_quote ∙ rw (le-leb _ _ h) refl

  -- a content that starts with USING, and one that does not
  pub raise_is : forget (fate_text (raise_fate w t)) ≡ cond (prefix_by upper (ascii "USING") xs) (becomes w t) (accepted (raising w (message_in xs)))
  unfolding raise_fate
  raise_is =
      rw (starts_at (ascii "USING") 0)
      (by (prefix_by upper (ascii "USING") xs) (λ p. rw p refl) (λ p. rw p (rewritten_text w (message t) ∙ rw (message_at 0) refl)))

-- the marks do not matter
pub raise_marks : (w : RaiseType) (t u : List Marked) → bytes t ≡ bytes u → forget (fate_text (raise_fate w t)) ≡ forget (fate_text (raise_fate w u))
raise_marks w t u e =
    raise_is w t (bytes u) e
    ∙ (rw (using_is w t (bytes u) e _ _ _ _ refl refl refl refl ∙ sym (using_is w u (bytes u) refl _ _ _ _ refl refl refl refl)) refl
    ∙ sym (raise_is w u (bytes u) refl))

-- a RAISE by the trimmed text of its content xs
module _ (w : RaiseType) (xs : List ℕ) (text : Bor (List ℕ)) (e : text.now ≡ trimmed xs) where
  trimmed_here : bytes (trim (lives xs)) ≡ text.now
  trimmed_here = trim_bytes (lives xs) ∙ (ap trimmed (bytes_lives xs) ∙ sym e)

  same_answer : (r : Option (Bor (List ℕ))) → using_in w text.now r ≡ raised_in w (ok_or r text)
  same_answer None = refl
  same_answer (Some m) = refl

  -- what the clause behind USING comes to, where it starts with it
  pub raised_clause : (r : Option (Bor (List ℕ))) → prefix_by upper (ascii "USING") text.now ≡ true
      → ((t : List Marked) → bytes t ≡ text.now → becomes w t ≡ using_in w text.now r) → raised_as w xs ≡ raised_in w (ok_or r text)
  unfolding raised_as action_fate
  raised_clause r p f =
      raise_is w (trim (lives xs)) text.now trimmed_here ∙ rw p (f (trim (lives xs)) trimmed_here ∙ same_answer r)

  -- else its message
  pub raised_message : (m : List ℕ) → prefix_by upper (ascii "USING") text.now ≡ false
      → ((t : List Marked) → bytes t ≡ text.now → m ≡ bytes (message t)) → raised_as w xs ≡ accepted (raising w m)
  unfolding raised_as action_fate
  raised_message m p f =
      let ys = text.now in
      let said : m ≡ message_in ys = f (lives ys) (bytes_lives ys) ∙ message_is (lives ys) ys (bytes_lives ys) in
      raise_is w (trim (lives xs)) ys trimmed_here ∙ rw p (ap (λ (l : List ℕ). accepted (raising w l)) (sym said))

-- a message is no longer than the text
pub message_short : (ys m : List ℕ) → ((t : List Marked) → bytes t ≡ ys → m ≡ bytes (message t)) → length m ≤ length ys
message_short ys m f =
    omega (arith, message_le ys, ap length (f (lives ys) (bytes_lives ys) ∙ message_is (lives ys) ys (bytes_lives ys)))
