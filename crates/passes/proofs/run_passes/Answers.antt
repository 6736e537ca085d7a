-- `passes::run_passes` meets its contract. What pass 2 leaves is said once, at its place. A pass that refuses ends the row: `finish`
-- copies what passes 3 and 5 left, and of pass 4, which refuses by 6 alone, nothing. Assumes nothing.
use Rattle.std.proofs.lemmas.Result.{err_from_is_err_and}
use mathlib.Core.Path.{◌≡◌, refl}
use lib.ListN.{take}
use Rattle.spec.specs.Map.{marked_text, bytes}
use Rattle.spec.specs.Requote.{requoted}
use Rattle.spec.specs.Elsif.{elsif}
use Rattle.spec.specs.Raise.{action_of}
use Rattle.passes.proofs.StageLaws.{spelled_front, given_as, third_stops, fourth_stops, fifth_gives, gives_copied, too_long_gives}
use Rattle.passes.proofs.run_passes.Goals as goal
use Rattle.passes.proofs.run_passes.Goals.{After-elsif_pass-spelled}

-- pass 2's text in `output`
spelled_in : (c : goal.After-elsif_pass-spelled)
    → take c.elsif_pass-spelled.result c.elsif_pass-spelled.new.out ≡ bytes (elsif (marked_text (requoted c.args.text.now)))
spelled_in c =
    spelled_front _ c.args.work.now _ c.args.output.now _ _ _ c.requires c.requote-requoted.ensures.value c.requote-requoted.ensures.out_after c.told-work c.elsif_pass-spelled.ensures.value c.elsif_pass-spelled.ensures.out_after c.told-output

pub returns-in_default : goal.returns-in_default
returns-in_default c =
    let g = c.assign_pass-assigned.ensures in
    let stops = third_stops (action_of c.args.actions) c.args.text.now _ c.requires (spelled_in (goal.at.returns-in_default c).After-elsif_pass-spelled) _ _ _ g c.in_default.is in
    rw stops (gives_copied _ c.assign_pass-assigned.result _ _ _ g c.finish.ensures.value c.finish.ensures.out_after)

pub returns-in_err-k : goal.returns-in_err-k
returns-in_err-k c =
    let r = err_from_is_err_and c.from_residual.result c.from_residual.ensures.1 in
    let g = given_as _ _ _ _ c.select_pass.ensures c.in_err-k.was in
    let stops = fourth_stops (action_of c.args.actions) c.args.text.now _ c.requires (spelled_in (goal.at.returns-in_err-k c).After-elsif_pass-spelled) _ _ _ c.assign_pass-assigned.ensures c.in-Ok.is _ _ g in
    rw (stops, r.1, r.2) (too_long_gives _ _ _ _ _ g refl)

pub returns : goal.returns
returns c =
    let reached = fifth_gives (action_of c.args.actions) c.args.text.now _ c.requires (spelled_in (goal.at.returns c).After-elsif_pass-spelled) _ _ _ c.assign_pass-assigned.ensures c.in-Ok.is _ _ _ c.select_pass.ensures c.in_ok-k.was in
    rw reached (gives_copied _ c.raise_pass-raised.result _ _ _ c.raise_pass-raised.ensures c.finish-2.ensures.value c.finish-2.ensures.out_after)
