use mir.Facts.{Fits-lt-pow}
use Rattle.std.proofs.lemmas.Result.{err_from_is_err_and}
use Rattle.layout.proofs.Accepted.{read_fine}
use Rattle.layout.proofs.Checks.{record_refused, low_refused, all_accepted}
use Rattle.layout.proofs.accept.check.Goals as goal

pub returns-in_err-read_records : goal.returns-in_err-read_records
returns-in_err-read_records c =
    let p = err_from_is_err_and c.from_residual-in_err-read_records.result c.from_residual-in_err-read_records.ensures.1 in
    record_refused c.args.layout.now _ c.in_ok-check_shape.ensures.counted c.in_ok-check_shape.ensures.said
    _ _ _ p.1 p.2 c.in_err-read_records.ensures

pub returns-in_err-check_low : goal.returns-in_err-check_low
returns-in_err-check_low c =
    let p = err_from_is_err_and c.from_residual-in_err-check_low.result c.from_residual-in_err-check_low.ensures.1 in
    low_refused c.args.layout.now _ c.in_ok-check_shape.ensures.counted c.in_ok-check_shape.ensures.said
    _ _ _ p.1 p.2 c.in_ok-read_records.ensures c.in_err-check_low.ensures

pub returns : goal.returns
returns c =
    all_accepted c.args.layout.now c.in_ok-check_shape.field-0 c.in_ok-check_shape.ensures.counted c.in_ok-check_shape.ensures.said
    (λ i. Fits-lt-pow (c.type_inv.layout i)) c.in_ok-read_records.ensures c.in_ok-check_low.ensures

pub invariant_of-check_low : goal.invariant_of-check_low
invariant_of-check_low c =
    let fine = read_fine c.args.layout.now _ (λ i. Fits-lt-pow (c.type_inv.layout i)) c.in_ok-check_shape.ensures.counted c.in_ok-check_shape.ensures.said
    c.in_ok-read_records.ensures in
    record { formed = fine.0; ordered = fine.1 }
