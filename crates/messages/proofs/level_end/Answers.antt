-- `messages::level_end` meets its contract at a level other than EXCEPTION: the run is the definition's. Assumes nothing.
use native.Mathlib.Omega.{arith}
use mathlib.Core.Path.{sym, ◌∙◌}
use Rattle.spec.specs.Raise.{ends_level}
use Rattle.messages.proofs.ReadingLaws.{not_exception, other_ends}
use Rattle.messages.proofs.level_end.Goals as goal

pub returns-in_default : goal.returns-in_default
unfolding ends_level
returns-in_default c =
    let h = c.requires in
    record {
      value = c.run_end.ensures.value ∙ sym (other_ends c.args.level c.args.rest.now c.in_default.not-Exception);
      lower_bound = omega (arith, c.run_end.ensures.value);
      upper_bound = c.run_end.ensures.upper_bound (omega (arith, rw (not_exception c.args.level c.in_default.not-Exception) at h));
    }
