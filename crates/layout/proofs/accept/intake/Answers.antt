use Rattle.std.proofs.Common.{◌≡◌, vec_items, refl, ap, ◌∙◌, ap₂}
use Rattle.layout.specs.Layout.{counts, floor_of, guesses_of}
use Rattle.layout.specs.Verdict.{verdict}
use Rattle.layout.proofs.accept.intake.Goals as goal

pub returns-in-Ok : goal.returns-in-Ok
returns-in-Ok c =
    let divides : c.new.result.counts ≡ counts (vec_items c.args.layout) =
    c.new.ensures.counts ∙ c.in-Ok.ensures.divides ∙ ap counts c.as_slice.ensures.value in
    record {
      said = c.in-Ok.ensures.said ∙ ap verdict c.as_slice.ensures.value;
      floor = (
        ap₂ (λ v n. floor_of (vec_items v) n) c.new.ensures.layout divides,
        ap₂ (λ v n. guesses_of (vec_items v) n) c.new.ensures.layout divides,
        c.new.ensures.layout,
        divides,
      );
      back = tt;
    }

pub returns-in-Err : goal.returns-in-Err
returns-in-Err c = record { said = c.in-Err.ensures.said ∙ ap verdict c.as_slice.ensures.value; floor = tt; back = refl }
