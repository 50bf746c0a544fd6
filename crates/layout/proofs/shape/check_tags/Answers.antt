use Rattle.std.proofs.Common.{rules, ap, ◌∙◌}
use Rattle.layout.specs.Questions.{no_leg_behind}
use Rattle.layout.specs.Verdict.{asked}
use Rattle.layout.proofs.Tags.{short_tags}
use Rattle.layout.proofs.shape.check_tags.Goals as goal

pub returns : goal.returns
returns c =
    c.put.ensures (no_leg_behind c.args.layout.now c.args.places) 3 (λ r b p. search rules) (λ r f p. search rules)
    ∙ ap (asked 3) (short_tags c.args.layout.now c.args.places c.requires)
