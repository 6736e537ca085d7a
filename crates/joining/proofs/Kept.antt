-- What passes 1 to 4 keep of a closed body: each text ends in a live `;`, and behind pass 4 each RAISE has what pass 5
-- needs behind it. Assumes nothing.
use mathlib.Core.Path.{◌≡◌, refl, sym, ap, ◌∙◌, subst}
use mathlib.Core.Bool.{true, not}
use mathlib.Core.List.{List}
use Prim.Native.Nat.{ℕ}
use Rattle.spec.proofs.ByteSets.{sign_not_ident}
use Rattle.spec.proofs.Apart.{apart}
use Rattle.std.proofs.lemmas.Bool.{and_parts}
use Rattle.spec.specs.Map.{Marked, marked_text, bytes}
use Rattle.spec.specs.Requote.{requoted}
use Rattle.spec.specs.Elsif.{elsif}
use Rattle.spec.specs.Outcome.{Outcome, accepted, refused, forget}
use Rattle.spec.specs.Assignments.{assignments}
use Rattle.spec.specs.SelectInto.{select_into}
use Rattle.spec.specs.Body.{assign_pass}
use Rattle.spec.specs.Closed.{ends_live, is_closed}
use Rattle.joining.specs.Safe.{raises_safe}
use Rattle.joining.specs.Continuable.{ContinuableBehind, Continuable}
use Rattle.joining.proofs.WellFormed.{Open, clear, is_out, Formed, scanned, quote_walked}
use Rattle.joining.proofs.WellFormedReading.{well_formed_reading}
use Rattle.joining.proofs.RaiseRead.{edge, raise_reading}
use Rattle.joining.proofs.RaiseReadEnd.{guarded_safe}
use Rattle.joining.proofs.Statements.{Shut, shut_leaves}
use Rattle.joining.proofs.KeepRequote.{requoted_marks, requoted_bytes, requote_kept}
use Rattle.joining.proofs.KeepElsif.{well_speller, raise_read_speller, elsif_kept}
use Rattle.joining.proofs.KeepAssign.{assign_kept}
use Rattle.joining.proofs.KeepSelect.{select_kept}

-- a text that both readings take
record Read (t : List Marked) : Type 0 where
  well : Shut well_formed_reading well_formed_reading.ok t
  raise_read : Shut raise_reading raise_reading.ok t

formed : (t : List Marked) → Shut well_formed_reading well_formed_reading.ok t → Formed t
unfolding well_formed_reading
formed t s =
    record { well = s.reads; out = subst (λ (z : Open). is_out z ≡ true) (sym (shut_leaves well_formed_reading t clear s.ended)) refl }

-- behind pass 1
first_both : (a : List ℕ) → is_closed a ≡ true → Read (requoted_marks a)
unfolding well_formed_reading raise_reading
first_both a h =
    let c = requote_kept a h in
    record { well = record { reads = c.well; ended = c.ended }; raise_read = record { reads = c.raise_read; ended = c.ended } }

second_both : (t : List Marked) → Read t → Read (elsif t)
second_both t b = record { well = elsif_kept well_formed_reading well_speller t b.well; raise_read = elsif_kept raise_reading raise_read_speller t b.raise_read }

third_both : (t u : List Marked) → Read t → assignments t ≡ accepted u → Read u
third_both t u b e = record { well = assign_kept well_formed_reading t u b.well e; raise_read = assign_kept raise_reading t u b.raise_read e }

-- behind pass 4
fourth_formed : (t : List Marked) → Read t → Shut well_formed_reading well_formed_reading.ok (select_into t)
unfolding well_formed_reading
fourth_formed t b = select_kept well_formed_reading t b.well

fourth_safe : (t : List Marked) → Read t → raises_safe 0 (select_into t) ≡ true
unfolding raise_reading
fourth_safe t b = let s = select_kept raise_reading t b.raise_read in guarded_safe (select_into t) edge 0 (sym (ap not (sign_not_ident 0 refl))) s.ended s.reads

after_both : (t : List Marked) → Read t → ContinuableBehind (bytes t)
after_both t b =
    let q = quote_walked t (formed t b.well) in
    let u = select_into t in
    let w = fourth_formed t b in
    let s = scanned u (formed u w) in
    record {
      quotes = rw q b.well.ended;
      marks = rw (q, s) w.ended;
      raises = rw (q, s) (fourth_safe t b);
    }

after_pass : (t : List Marked) → Read t → (A3 : List ℕ) (o : Outcome (List Marked)) → assignments t ≡ o → forget o ≡ accepted A3 → ContinuableBehind A3
unfolding forget
after_pass t b A3 (accepted u) e h =
    let same : bytes u ≡ A3 = cc in
    subst ContinuableBehind same (after_both u (third_both t u b e))
after_pass t b A3 (refused f) e h = absurd (apart (cc))

pub continuable : (a : List ℕ) → is_closed a ≡ true → Continuable a
unfolding is_closed assign_pass
continuable a h =
    let t1 = requoted_marks a in
    let b1 = first_both a h in
    let m1 : marked_text (requoted a) ≡ t1 = ap marked_text (sym (requoted_bytes a)) ∙ scanned t1 (formed t1 b1.well) in
    let t2 = elsif t1 in
    let b2 = second_both t1 b1 in
    let m2 : marked_text (bytes t2) ≡ t2 = scanned t2 (formed t2 b2.well) in
    record {
      first = (and_parts (ends_live (marked_text a)) _ h).0;
      second = rw m1 b1.well.ended;
      third = rw (m1, m2) b2.well.ended;
      behind = λ A3 e. after_pass t2 b2 A3 (assignments t2) refl (rw (m1, m2) at e);
    }
