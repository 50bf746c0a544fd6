use Rattle.std.proofs.Common.{rules, ◌≡◌, ◌≤◌, unwrap_or, sym, ap, ◌∙◌, subst}
use Rattle.layout.specs.Layout.{no_place, places}
use Rattle.layout.specs.Records.{whole}
use Rattle.layout.proofs.Tags.{places_within}
use Rattle.layout.proofs.shape.count_places.Goals as goal

pub returns : goal.returns
returns c =
    let count : c.unwrap_or.result ≡ places c.args.layout.now =
    c.unwrap_or.ensures ∙ ap (λ o. unwrap_or o (whole c.args.layout.now)) (c.lowest_failing.ensures (no_place c.args.layout.now) (λ r b p. search rules)) in
    record { count = count; within = subst (λ n. n ≤ whole c.args.layout.now) (sym count) (places_within c.args.layout.now) }
