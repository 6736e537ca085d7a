-- A text that is continuable, with something for each pass to do, so that the laws on continuable texts speak of something. Assumes
-- nothing.
use mathlib.Core.Path.{◌≡◌, refl, subst}
use mathlib.Core.List.{List}
use Prim.Native.Nat.{ℕ}
use Rattle.spec.specs.Bytes.{ascii}
use Rattle.spec.specs.Outcome.{accepted}
use Rattle.spec.specs.Body.{assign_pass}
use Rattle.spec.specs.Computed.{computed}
use Rattle.joining.specs.Safe.{ends_level_safely, safe_behind, raises_safe}
use Rattle.joining.specs.Continuable.{second_text, ContinuableBehind, Continuable}

abbrev sample : List ℕ
sample = ascii "IF a THEN v := $$it's$$; ELSIF b THEN SELECT c INTO d FROM t; RAISE NOTICE 'n'; RAISE EXCEPTION 'e'; END IF;"

abbrev sample_behind : List ℕ
sample_behind = ascii "IF a THEN SET v = 'it''s'; ELSEIF b THEN SELECT c INTO d FROM t; RAISE NOTICE 'n'; RAISE EXCEPTION 'e'; END IF;"

sample_behind_lem : ContinuableBehind sample_behind
unfolding computed ends_level_safely safe_behind raises_safe
sample_behind_lem = record { quotes = refl; marks = refl; raises = refl }

sample_assigned : assign_pass (second_text sample) ≡ accepted sample_behind
unfolding computed
sample_assigned = refl

sample_continuable : Continuable sample
unfolding computed
sample_continuable =
    record {
      first = refl;
      second = refl;
      third = refl;
      behind = λ ys e.
          let f = sample_assigned in
          let g : sample_behind ≡ ys = cc in
          subst ContinuableBehind g sample_behind_lem;
    }
