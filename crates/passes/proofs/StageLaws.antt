-- The passes in a row: what a pass answers and leaves gives what the definition says of it, and one pass after the other gives
-- the rewriting. Assumes nothing.
use Rattle.std.specs.Prelude.{Result, Ok, Err}
use mathlib.Core.Path.{◌≡◌, refl, sym, ap, ◌∙◌}
use mathlib.Core.List.{List, []}
use Prim.Native.Nat.{ℕ, ◌≤◌}
use native.Mathlib.Omega.{arith}
use borrow.Author.Tests.{leb-true, leb-false, lt-ltb, le-ltb}
use lib.Dec.{leb, ltb}
use lib.ListN.{length, take, length-take}
use lib.Seq.{sets}
use Rattle.spec.proofs.Apart.{apart}
use Rattle.spec.proofs.Choice.{by}
use Rattle.spec.proofs.LengthLaws.{requoted_length_lem, two_length, one_fits, two_fits, accepted_same}
use Rattle.spec.proofs.MapLaws.{marked_length}
use Rattle.spec.proofs.RefusalBounds.{bytes_length}
use Rattle.spec.specs.Map.{Marked, marked_text, bytes}
use Rattle.spec.specs.Outcome.{Outcome, accepted, refused, Rewriting, forget}
use Rattle.spec.specs.Requote.{requoted}
use Rattle.spec.specs.Elsif.{elsif}
use Rattle.spec.specs.SelectInto.{quote_walk, select_into}
use Rattle.spec.specs.declared.Level.{Level}
use Rattle.spec.specs.declared.Action.{Action}
use Rattle.spec.specs.Body.{buffer_size, limited, and_then, requote_pass, elsif_pass, assign_pass, select_pass, raise_pass, rewriting}
use Rattle.spec.specs.Answers.{text_limit, call_numbers, result_of, kept_behind}
use Rattle.spec.specs.declared.Refusal.{Refusal}
use Rattle.output.specs.Passes.{pass_answer, Leaves}
use Rattle.output.proofs.StoreLaws.{front_stored}
use Rattle.output.specs.Written.{counted}
use Rattle.quotes.specs.QuoteMap.{quote_map}
use Rattle.quotes.proofs.QuoteMapLaws.{quote_marks}
use Rattle.passes.specs.Gives.{Gives, finished, limited_answer}
use Rattle.passes.proofs.BufferEndLaws.{answer_length}
use Rattle.spec.specs.declared.Accepted.{Accepted}

-- a text with its map of quotes is as long as the text
pub quotes_length : (xs : List ℕ) → length (quote_walk 0 xs) ≡ length xs
quotes_length xs = ap length (sym (quote_marks xs [])) ∙ marked_length xs (kept_behind (quote_map xs) [])

-- ---- one pass, within the buffer size or refusal 6

-- a pass that counts no further than the buffer size
pub counted_gives : (ys d e : List ℕ) (p : Result ℕ Refusal)
    → p ≡ counted (length ys)
    → (length ys ≤ 65536 → e ≡ sets d 0 ys)
    → length d ≡ 65536
    → Gives (result_of [] (limited (accepted ys))) (finished p) e
unfolding result_of limited buffer_size counted
counted_gives ys d e p a s h =
    by (leb (length ys) 65536)
    (λ q.
    let fits = leb-true (length ys) 65536 q in
    let t = le-ltb 65536 (length ys) fits in
    record { answered = rw (a, q, t) refl; held = rw t (front_stored d e ys (length ys) refl (omega arith) (s fits)) })
    (λ q.
    let t = lt-ltb 65536 (length ys) (leb-false (length ys) 65536 q) in
    record { answered = rw (a, q, t) refl; held = rw t refl })

-- a pass that counts on, or refuses
pub limited_gives : (o : Outcome (List Marked)) (p q : Result ℕ Refusal) (d e : List ℕ) → p ≡ pass_answer o → q ≡ limited_answer p → Leaves o d e → length d ≡ 65536
    → Gives (result_of [] (limited (forget o))) (finished q) e
unfolding result_of limited forget
limited_gives (accepted t) p q d e a b l h =
    counted_gives (bytes t) d e q (rw a at b ∙ ap counted (sym (bytes_length t))) (λ _. l) h
limited_gives (refused f) p q d e a b l h = record { answered = rw (b, a) refl; held = l }

-- ---- from one pass to the next

-- what is given within a buffer has at most its length
pub given_fits : (w : Rewriting) (r : Result Accepted Refusal) (d : List ℕ) → Gives (result_of [] w) r d → length d ≡ 65536
    → (call_numbers r).length ≤ 65536
given_fits w r d g h =
    let out = (result_of [] w).output in
    let n = ap (λ (a : Result Accepted Refusal). (call_numbers a).length) g.answered ∙ answer_length [] w in
    omega (arith, n, ap length g.held, length-take (length out) d)

-- given an answer that is equal
pub given_as : (w : Rewriting) (p q : Result ℕ Refusal) (d : List ℕ) → Gives (result_of [] w) (finished p) d → p ≡ q → Gives (result_of [] w) (finished q) d
given_as w p q d g e = rw e at g

-- so has the text of a pass that is done
pub done_fits : (w : Rewriting) (p : Result ℕ Refusal) (k : ℕ) (d : List ℕ) → Gives (result_of [] w) (finished p) d → p ≡ Ok k
    → length d ≡ 65536
    → k ≤ 65536
done_fits w p k d g e h = given_fits w (finished (Ok k)) d (given_as w p (Ok k) d g e) h

-- a pass that is done was accepted, and its text stands in front
pub done_accepted : (w : Rewriting) (k : ℕ) (d : List ℕ) → Gives (result_of [] w) (finished (Ok k)) d → w ≡ accepted (take k d)
unfolding result_of
done_accepted (accepted ys) k d g =
    let n : k ≡ length ys = ap (λ (b : Result Accepted Refusal). (call_numbers b).length) g.answered in
    ap accepted (sym g.held ∙ ap (λ (i : ℕ). take i d) (sym n))
done_accepted (refused f) k d g = let a = g.answered in absurd (apart (cc))

-- a pass that refuses is what all the passes come to
pub stopped : (w : Rewriting) (q : Refusal) (d : List ℕ) → Gives (result_of [] w) (finished (Err q)) d
    → (pass : List ℕ → Rewriting) → and_then w pass ≡ w
unfolding result_of and_then
stopped (accepted ys) q d g pass = let a = g.answered in absurd (apart (cc))
stopped (refused f) q d g pass = refl

-- what a pass gives in one buffer is given in another that has its bytes in front
pub gives_copied : (w : Rewriting) (p : Result ℕ Refusal) (r : Result Accepted Refusal) (d out : List ℕ) → Gives (result_of [] w) (finished p) d
    → r ≡ finished p
    → take (call_numbers (finished p)).length out ≡ take (call_numbers (finished p)).length d
    → Gives (result_of [] w) r out
gives_copied w p r d out g a s =
    let n : (call_numbers (finished p)).length ≡ length (result_of [] w).output =
    ap (λ (b : Result Accepted Refusal). (call_numbers b).length) g.answered ∙ answer_length [] w in
    record {
      answered = a ∙ g.answered;
      held = ap (λ (i : ℕ). take i out) (sym n) ∙ (s ∙ (ap (λ (i : ℕ). take i d) n ∙ g.held));
    }

-- pass 4 refuses by 6 alone, which hands no bytes back
pub too_long_gives : (ys : List ℕ) (q : Refusal) (d out : List ℕ) (r : Result Accepted Refusal)
    → Gives (result_of [] (limited (select_pass ys))) (finished (Err q)) d
    → r ≡ Err q
    → Gives (result_of [] (limited (select_pass ys))) r out
unfolding result_of limited select_pass
too_long_gives ys q d out r g a =
    by (ltb buffer_size (length (bytes (select_into (quote_walk 0 ys)))))
    (λ e. record { answered = a ∙ g.answered; held = rw e refl })
    (λ e. let b = rw e at g.answered in absurd (apart (cc)))

-- ---- the first two passes, which never exceed the buffer size

-- what is stored in front of a buffer stands there
pub front_of : (d ys : List ℕ) (n : ℕ) → n ≡ length ys → length ys ≤ length d → take n (sets d 0 ys) ≡ ys
front_of d ys n e h = front_stored d (sets d 0 ys) ys n (sym e) (omega (arith, h, e)) refl

-- what pass 2 leaves of what pass 1 left
pub spelled_front : (xs d e d' e' : List ℕ) (k n : ℕ) → length xs ≤ 16384 → k ≡ length (requoted xs) → e ≡ sets d 0 (requoted xs)
    → length d ≡ 65536
    → n ≡ length (bytes (elsif (marked_text (take k e))))
    → e' ≡ sets d' 0 (bytes (elsif (marked_text (take k e))))
    → length d' ≡ 65536
    → take n e' ≡ bytes (elsif (marked_text (requoted xs)))
spelled_front xs d e d' e' k n h a s l b s' l' =
    let t : take k e ≡ requoted xs = front_stored d e (requoted xs) k (sym a) (omega (arith, requoted_length_lem xs, a)) s in
    let m : n ≡ length (bytes (elsif (marked_text (requoted xs)))) = rw t at b in
    front_stored d' e' (bytes (elsif (marked_text (requoted xs)))) n (sym m) (omega (arith, two_length xs, m)) (rw t at s')

-- ---- all five

-- from what pass 3 reads on
pub from_third : (act : Level → Action) (xs zs : List ℕ) → length xs ≤ 16384 → zs ≡ bytes (elsif (marked_text (requoted xs)))
    → rewriting act xs ≡ and_then (and_then (limited (assign_pass zs)) select_pass) (raise_pass act)
unfolding rewriting and_then requote_pass elsif_pass text_limit
from_third act xs zs h e = rw (accepted_same (requoted xs) (one_fits xs h), accepted_same _ (two_fits xs h), e) refl

module _ (act : Level → Action) (xs zs : List ℕ) (h : length xs ≤ 16384) (e : zs ≡ bytes (elsif (marked_text (requoted xs))))
    (d : List ℕ) where
  -- pass 3 refuses
  pub third_stops : (p : Result ℕ Refusal) (q : Refusal) → Gives (result_of [] (limited (assign_pass zs))) (finished p) d → p ≡ Err q
      → rewriting act xs ≡ limited (assign_pass zs)
  third_stops p q g a =
      let w = limited (assign_pass zs) in
      let s = stopped w q d (given_as w p (Err q) d g a) in
      from_third act xs zs h e ∙ (ap (λ (v : Rewriting). and_then v (raise_pass act)) (s select_pass) ∙ s (raise_pass act))

  module _ (p : Result ℕ Refusal) (n : ℕ) (g : Gives (result_of [] (limited (assign_pass zs))) (finished p) d) (a : p ≡ Ok n) where
    from_fourth : rewriting act xs ≡ and_then (limited (select_pass (take n d))) (raise_pass act)
    unfolding and_then
    from_fourth =
        let w = limited (assign_pass zs) in
        from_third act xs zs h e
        ∙ ap (λ (v : Rewriting). and_then (and_then v select_pass) (raise_pass act)) (done_accepted w n d (given_as w p (Ok n) d g a))

    -- pass 4 gives too much
    pub fourth_stops : (d' : List ℕ) (q : Refusal) → Gives (result_of [] (limited (select_pass (take n d)))) (finished (Err q)) d'
        → rewriting act xs ≡ limited (select_pass (take n d))
    fourth_stops d' q f = from_fourth ∙ stopped (limited (select_pass (take n d))) q d' f (raise_pass act)

    -- pass 5 is reached
    pub fifth_gives : (d' : List ℕ) (p' : Result ℕ Refusal) (k : ℕ)
        → Gives (result_of [] (limited (select_pass (take n d)))) (finished p') d'
        → p' ≡ Ok k
        → rewriting act xs ≡ limited (raise_pass act (take k d'))
    unfolding and_then
    fifth_gives d' p' k f b =
        let w = limited (select_pass (take n d)) in
        from_fourth ∙ ap (λ (v : Rewriting). and_then v (raise_pass act)) (done_accepted w k d' (given_as w p' (Ok k) d' f b))
