-- The five passes over two texts joined, the first continuable: the joined text is accepted exactly if both are, and the result is
-- the two results joined. First without the size limits, then with them. Assumes nothing.
use mathlib.Core.Path.{◌≡◌, refl, sym, ap, ◌∙◌}
use mathlib.Core.Bool.{true}
use mathlib.Core.List.{List, ◌++◌}
use mathlib.Core.Logic.{◌↔◌}
use Prim.Native.Nat.{ℕ, ◌≤◌}
use native.Mathlib.Omega.{arith}
use lib.ListN.{length, length-append}
use Rattle.spec.proofs.BytesLaws.{bytes_append}
use Rattle.spec.proofs.Apart.{apart}
use Rattle.spec.proofs.RefusalLaws.{then_accepted, after2, after3, after4, assign_done, assign_refused, raise_done, raise_refused, accepted_exactly, qualified_exactly, using_exactly, accepted_fits}
use Rattle.spec.specs.Map.{Marked, bytes, marked_text}
use Rattle.spec.specs.Requote.{requoted}
use Rattle.spec.specs.Elsif.{elsif}
use Rattle.spec.specs.Outcome.{qualified_target, using_clause, result_too_long, Outcome, accepted, refused, ◌⊕◌, Rewriting, forget}
use Rattle.spec.specs.Assignments.{assignments}
use Rattle.spec.specs.SelectInto.{quote_walk, select_into}
use Rattle.spec.specs.Raise.{raise}
use Rattle.spec.specs.declared.Level.{Level}
use Rattle.spec.specs.declared.Action.{Action}
use Rattle.spec.specs.Body.{buffer_size, requote_pass, elsif_pass, assign_pass, select_pass, raise_pass, rewriting}
use Rattle.spec.specs.Closed.{ends_live}
use Rattle.joining.specs.Safe.{raises_safe}
use Rattle.joining.specs.Unlimited.{then_pass, unlimited}
use Rattle.joining.specs.Continuable.{second_text, fourth_text, Continuable}
use Rattle.joining.proofs.SpanJoin.{marks_join}
use Rattle.joining.proofs.PassJoin.{requoted_join, elsif_join, assignments_join, select_join, quotes_join}
use Rattle.joining.proofs.RaiseJoin.{raise_join}

-- ---- one pass

-- r and s are accepted, and zs is their two texts joined
pub record Both (r s : Rewriting) (zs : List ℕ) : Type 0 where
  pub front : List ℕ
  pub back : List ℕ
  pub first : r ≡ accepted front
  pub second : s ≡ accepted back
  pub whole : zs ≡ front ++ back

-- two outcomes joined are text exactly if both are, and then it is the two texts joined
forget_only : (o p : Outcome (List Marked)) (zs : List ℕ) → forget (o ⊕ p) ≡ accepted zs → Both (forget o) (forget p) zs
unfolding forget ◌⊕◌
forget_only (accepted t) (accepted u) zs h =
    let e : bytes (t ++ u) ≡ zs = cc in
    record { front = bytes t; back = bytes u; first = refl; second = refl; whole = sym e ∙ bytes_append t u }
forget_only (accepted t) (refused r) zs h = absurd (apart (cc))
forget_only (refused r) p zs h = absurd (apart (cc))

pub forget_both : (o p : Outcome (List Marked)) (us vs : List ℕ) → forget o ≡ accepted us → forget p ≡ accepted vs → forget (o ⊕ p) ≡ accepted (us ++ vs)
unfolding forget ◌⊕◌
forget_both (accepted t) (accepted u) us vs h k =
    let e : bytes t ≡ us = cc in
    let f : bytes u ≡ vs = cc in
    ap accepted (bytes_append t u ∙ rw (e, f))
forget_both (accepted t) (refused r) us vs h k = absurd (apart (cc))
forget_both (refused r) p us vs h k = absurd (apart (cc))

pub assign_join : (a b : List ℕ) → ends_live (marked_text a) ≡ true
    → assign_pass (a ++ b) ≡ forget (assignments (marked_text a) ⊕ assignments (marked_text b))
unfolding assign_pass
assign_join a b h = ap forget (ap assignments (marks_join a b h) ∙ assignments_join (marked_text a) (marked_text b) h)

pub second_join : (a b : List ℕ) → ends_live (marked_text a) ≡ true → ends_live (marked_text (requoted a)) ≡ true
    → second_text (a ++ b) ≡ second_text a ++ second_text b
second_join a b h k =
    rw (requoted_join a b h, marks_join (requoted a) (requoted b) k, elsif_join (marked_text (requoted a)) (marked_text (requoted b)) k)
    (bytes_append (elsif (marked_text (requoted a))) (elsif (marked_text (requoted b))))

pub fourth_join : (a b : List ℕ) → ends_live (quote_walk 0 a) ≡ true → fourth_text (a ++ b) ≡ fourth_text a ++ fourth_text b
fourth_join a b h =
    rw (quotes_join a b h, select_join (quote_walk 0 a) (quote_walk 0 b) h)
    (bytes_append (select_into (quote_walk 0 a)) (select_into (quote_walk 0 b)))

pub raised_join : (act : Level → Action) (a b : List ℕ) → ends_live (marked_text a) ≡ true → raises_safe 0 (marked_text a) ≡ true
    → raise_pass act (a ++ b) ≡ forget (raise act (marked_text a) ⊕ raise act (marked_text b))
unfolding raise_pass
raised_join act a b h s = ap forget (raise_join act a b h s)

-- ---- all five passes

-- passes 3 and 5, the two that may refuse, accept; middle is the text after pass 3
pub record Run (act : Level → Action) (xs zs : List ℕ) : Type 0 where
  pub middle : List ℕ
  pub third : assign_pass (second_text xs) ≡ accepted middle
  pub fifth : raise_pass act (fourth_text middle) ≡ accepted zs

run_only : (act : Level → Action) (xs zs : List ℕ) → unlimited act xs ≡ accepted zs → Run act xs zs
unfolding unlimited then_pass requote_pass elsif_pass select_pass
run_only act xs zs h = go (assign_pass (second_text xs)) refl h
  where
    go : (r : Rewriting) → assign_pass (second_text xs) ≡ r → then_pass (then_pass r select_pass) (raise_pass act) ≡ accepted zs → Run act xs zs
    go (accepted ys) e h = record { middle = ys; third = e; fifth = h }
    go (refused f) e h = absurd (apart (cc))

run_gives : (act : Level → Action) (xs zs : List ℕ) → Run act xs zs → unlimited act xs ≡ accepted zs
unfolding unlimited then_pass requote_pass elsif_pass select_pass
run_gives act xs zs r = rw r.third r.fifth

-- without the size limits a text is accepted exactly so
pub unlimited_exactly : (act : Level → Action) (xs zs : List ℕ) → (unlimited act xs ≡ accepted zs) ↔ Run act xs zs
unlimited_exactly act xs zs = (run_only act xs zs, run_gives act xs zs)

-- ---- two texts, the first continuable

-- passes 3 and 5 accept both texts, and zs and middle are their two texts joined
pub record Runs (act : Level → Action) (a b zs middle : List ℕ) : Type 0 where
  pub front : List ℕ
  pub back : List ℕ
  pub first : Run act a front
  pub second : Run act b back
  pub whole : zs ≡ front ++ back
  pub between : middle ≡ first.middle ++ second.middle

module _ (act : Level → Action) (a : List ℕ) (s : Continuable a) (b : List ℕ) where
  run_split : (zs : List ℕ) (r : Run act (a ++ b) zs) → Runs act a b zs r.middle
  unfolding assign_pass raise_pass
  run_split zs r =
      let three = forget_only (assignments (marked_text (second_text a))) (assignments (marked_text (second_text b))) r.middle
      (sym (assign_join (second_text a) (second_text b) s.third) ∙ (ap assign_pass (sym (second_join a b s.first s.second)) ∙ r.third)) in
      let q = s.behind three.front three.first in
      let four : fourth_text r.middle ≡ fourth_text three.front ++ fourth_text three.back =
      ap fourth_text three.whole ∙ fourth_join three.front three.back q.quotes in
      let five = forget_only (raise act (marked_text (fourth_text three.front))) (raise act (marked_text (fourth_text three.back))) zs
      (sym (raised_join act (fourth_text three.front) (fourth_text three.back) q.marks q.raises) ∙ (ap (raise_pass act) (sym four) ∙ r.fifth)) in
      record {
        front = five.front;
        back = five.back;
        first = record { middle = three.front; third = three.first; fifth = five.first };
        second = record { middle = three.back; third = three.second; fifth = five.second };
        whole = five.whole;
        between = three.whole;
      }

  run_both : (us vs : List ℕ) → Run act a us → Run act b vs → Run act (a ++ b) (us ++ vs)
  unfolding assign_pass raise_pass
  run_both us vs r t =
      let q = s.behind r.middle r.third in
      let three : assign_pass (second_text (a ++ b)) ≡ accepted (r.middle ++ t.middle) =
      ap assign_pass (second_join a b s.first s.second)
      ∙ (assign_join (second_text a) (second_text b) s.third
      ∙ forget_both (assignments (marked_text (second_text a))) (assignments (marked_text (second_text b))) _ _ r.third t.third) in
      let five : raise_pass act (fourth_text (r.middle ++ t.middle)) ≡ accepted (us ++ vs) =
      ap (raise_pass act) (fourth_join r.middle t.middle q.quotes)
      ∙ (raised_join act (fourth_text r.middle) (fourth_text t.middle) q.marks q.raises
      ∙ forget_both (raise act (marked_text (fourth_text r.middle))) (raise act (marked_text (fourth_text t.middle))) _ _ r.fifth t.fifth) in
      record { middle = r.middle ++ t.middle; third = three; fifth = five }

  -- without the size limits: the joined text is accepted exactly if both are, and its result is the two results joined
  pub unlimited_join : (zs : List ℕ) → (unlimited act (a ++ b) ≡ accepted zs) ↔ Both (unlimited act a) (unlimited act b) zs
  unlimited_join zs = (
    (λ h.
        let r = run_split zs (run_only act (a ++ b) zs h) in
        record {
          front = r.front;
          back = r.back;
          first = run_gives act a r.front r.first;
          second = run_gives act b r.back r.second;
          whole = r.whole;
        }),
    (λ w. run_gives act (a ++ b) (w.front ++ w.back) (run_both w.front w.back (run_only act a _ w.first) (run_only act b _ w.second))
        ∙ ap accepted (sym w.whole)),
  )

-- ---- with the size limits

-- each pass's result is within the buffer size
pub record Fits (xs zs middle : List ℕ) : Type 0 where
  pub fits1 : length (requoted xs) ≤ buffer_size
  pub fits2 : length (second_text xs) ≤ buffer_size
  pub fits3 : length middle ≤ buffer_size
  pub fits4 : length (fourth_text middle) ≤ buffer_size
  pub fits5 : length zs ≤ buffer_size

limited_only : (act : Level → Action) (xs zs : List ℕ) → rewriting act xs ≡ accepted zs → (r : Run act xs zs) × Fits xs zs r.middle
limited_only act xs zs h =
    let t = (accepted_exactly act xs zs).0 h in
    let three = t.before.before in (
      record {
        middle = after3 xs;
        third = assign_done (after2 xs) three.no_target;
        fifth = raise_done act (after4 xs) t.no_clause ∙ ap accepted t.text;
      },
      record {
        fits1 = three.before.fits1;
        fits2 = three.before.fits2;
        fits3 = three.fits3;
        fits4 = t.before.fits4;
        fits5 = accepted_fits act xs zs h;
      },
    )

limited_gives : (act : Level → Action) (xs zs : List ℕ) (r : Run act xs zs) → Fits xs zs r.middle → rewriting act xs ≡ accepted zs
unfolding rewriting requote_pass elsif_pass select_pass
limited_gives act xs zs r f =
    let one = then_accepted (accepted xs) requote_pass xs (requoted xs) refl refl f.fits1 in
    let two = then_accepted _ elsif_pass (requoted xs) (second_text xs) one refl f.fits2 in
    let three = then_accepted _ assign_pass (second_text xs) r.middle two r.third f.fits3 in
    let four = then_accepted _ select_pass r.middle (fourth_text r.middle) three refl f.fits4 in
    then_accepted _ (raise_pass act) (fourth_text r.middle) zs four r.fifth f.fits5

-- with the size limits a text is accepted exactly if it is without them and each pass's result is within the buffer size
pub limited_exactly : (act : Level → Action) (xs zs : List ℕ) → (rewriting act xs ≡ accepted zs) ↔ ((r : Run act xs zs) × Fits xs zs r.middle)
limited_exactly act xs zs = (limited_only act xs zs, (λ w. limited_gives act xs zs w.0 w.1))

-- what is accepted without the size limits is accepted with them, or is refusal 6
pub run_limited : (act : Level → Action) (xs zs : List ℕ) → Run act xs zs → (rewriting act xs ≡ refused result_too_long → ⊥) → rewriting act xs ≡ accepted zs
run_limited act xs zs r short = go (rewriting act xs) refl
  where
    go : (w : Rewriting) → rewriting act xs ≡ w → rewriting act xs ≡ accepted zs
    go (accepted ws) e =
        let g : unlimited act xs ≡ accepted ws = run_gives act xs ws (limited_only act xs ws e).0 in
        e ∙ (sym g ∙ run_gives act xs zs r)
    go (refused (qualified_target q n)) e =
        let t = (qualified_exactly act xs q n).0 e in
        let f = assign_refused (after2 xs) t.target t.first in
        let g = r.third in
        absurd (apart (cc))
    go (refused (using_clause c)) e =
        let t = (using_exactly act xs c).0 e in
        let f = assign_done (after2 xs) t.before.before.no_target in
        let g = r.third in
        let m : after3 xs ≡ r.middle = cc in
        let k = raise_refused act (after4 xs) c t.first in
        let l : raise_pass act (after4 xs) ≡ accepted zs = ap (λ (ys : List ℕ). raise_pass act (fourth_text ys)) m ∙ r.fifth in
        absurd (apart (cc))
    go (refused result_too_long) e = absurd (short e)

fit_front : (a b : List ℕ) → length (a ++ b) ≤ buffer_size → length a ≤ buffer_size
fit_front a b h = omega (arith, length-append a b)

fit_back : (a b : List ℕ) → length (a ++ b) ≤ buffer_size → length b ≤ buffer_size
fit_back a b h = omega (arith, length-append a b)

module _ (act : Level → Action) (a : List ℕ) (s : Continuable a) (b : List ℕ) where
  -- a joined text that is accepted: both are accepted, and the result is the two results joined
  pub rewriting_split : (zs : List ℕ) → rewriting act (a ++ b) ≡ accepted zs → Both (rewriting act a) (rewriting act b) zs
  rewriting_split zs h =
      let w = limited_only act (a ++ b) zs h in
      let r = run_split act a s b zs w.0 in
      let f = w.1 in
      let ma = r.first.middle in
      let mb = r.second.middle in
      let l1 : length (requoted a ++ requoted b) ≤ buffer_size = rw (requoted_join a b s.first) at f.fits1 in
      let l2 : length (second_text a ++ second_text b) ≤ buffer_size = rw (second_join a b s.first s.second) at f.fits2 in
      let l3 : length (ma ++ mb) ≤ buffer_size = rw r.between at f.fits3 in
      let e4 : fourth_text w.0.middle ≡ fourth_text ma ++ fourth_text mb =
      ap fourth_text r.between ∙ fourth_join ma mb (s.behind ma r.first.third).quotes in
      let l4 : length (fourth_text ma ++ fourth_text mb) ≤ buffer_size = rw e4 at f.fits4 in
      let l5 : length (r.front ++ r.back) ≤ buffer_size = rw r.whole at f.fits5 in
      record {
        front = r.front;
        back = r.back;
        first = limited_gives act a r.front r.first
            (record {
              fits1 = fit_front (requoted a) (requoted b) l1;
              fits2 = fit_front (second_text a) (second_text b) l2;
              fits3 = fit_front ma mb l3;
              fits4 = fit_front (fourth_text ma) (fourth_text mb) l4;
              fits5 = fit_front r.front r.back l5;
            });
        second = limited_gives act b r.back r.second
            (record {
              fits1 = fit_back (requoted a) (requoted b) l1;
              fits2 = fit_back (second_text a) (second_text b) l2;
              fits3 = fit_back ma mb l3;
              fits4 = fit_back (fourth_text ma) (fourth_text mb) l4;
              fits5 = fit_back r.front r.back l5;
            });
        whole = r.whole;
      }

  -- two accepted texts: the joined text is accepted with the two results joined, unless it is refusal 6
  pub rewriting_both : (us vs : List ℕ) → rewriting act a ≡ accepted us → rewriting act b ≡ accepted vs
      → (rewriting act (a ++ b) ≡ refused result_too_long → ⊥)
      → rewriting act (a ++ b) ≡ accepted (us ++ vs)
  rewriting_both us vs h k short =
      run_limited act (a ++ b) (us ++ vs) (run_both act a s b us vs (limited_only act a us h).0 (limited_only act b vs k).0) short

  -- where the joined text is not refusal 6, it is accepted exactly if both are
  pub rewriting_join : (zs : List ℕ) → (rewriting act (a ++ b) ≡ refused result_too_long → ⊥) → (rewriting act (a ++ b) ≡ accepted zs) ↔ Both (rewriting act a) (rewriting act b) zs
  rewriting_join zs short = (
    rewriting_split zs,
    (λ w. rewriting_both w.front w.back w.first w.second short ∙ ap accepted (sym w.whole)),
  )
