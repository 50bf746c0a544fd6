use Rattle.std.proofs.Common.{Some, None, sym, ap, ◌∙◌}
use Rattle.layout.proofs.Owners.{lowest_steep}
use Rattle.layout.proofs.draft.Draft.steep_record.Goals as goal

pub returns-in_err-place : goal.returns-in_err-place
returns-in_err-place c =
    let d = c.args.self.now in
    c.from_residual.ensures ∙ sym (lowest_steep d.divided.layout.now d.divided.counts d.ordered None c.in_err-place.ensures)

pub returns : goal.returns
returns c =
    let d = c.args.self.now in
    ap Some c.leg_record.ensures
    ∙ sym (lowest_steep d.divided.layout.now d.divided.counts d.ordered (Some (c.in_ok-place.place, c.in_ok-place.number)) c.in_ok-place.ensures)
