-- What the intake is filled with at the copy is what the layout takes in.
use Rattle.std.proofs.Common.{vec_items, refl, ap, ◌∙◌}
use Rattle.std.proofs.lemmas.Result.{MatchResult-at_ok, MatchResult-at_err, err_from_is_err_and}
use Rattle.intake.specs.Chains.{held}
use Rattle.office.proofs.Turns.{taken_as, same_at, answers_by, refuses_with}
use Rattle.office.proofs.running.run_filled.Goals as goal

pub returns : goal.returns
returns g c asked fills =
    let s = g.L.Layout.shape c.args.layout.now in
    let admitted = c.in_ok-admit.ensures in
    let opened = c.open-intake.ensures in
    let intake = c.fill.new.arg2 in
    let filled = fills c.open-intake.result c.fill.result intake opened.none (same_at s _ _ opened.network admitted.1)
    (record { shown = _; shows = refl; left = _; met = c.fill.ensures; leaves = refl }) in
    answers_by s _ _ (ap g.R.Rule.meaning (filled.same.1 ∙ opened.rule)) _ (held (vec_items intake.chains.records))
    (taken_as s admitted.0 asked _ (MatchResult-at_ok _ _ _ c.in_ok-fill.was filled.taken)) c.args.acts.now _
    (c.in_ok-settle_and_run.ensures s (g.met.L.Layout.lawful c.args.layout.now) (same_at s _ _ (filled.same.0 ∙ opened.network) admitted.1))

pub returns-in_err-fill : goal.returns-in_err-fill
returns-in_err-fill g c asked fills =
    let s = g.L.Layout.shape c.args.layout.now in
    let admitted = c.in_ok-admit.ensures in
    let opened = c.open-intake.ensures in
    let filled = fills c.open-intake.result c.fill.result c.fill.new.arg2 opened.none (same_at s _ _ opened.network admitted.1)
    (record { shown = _; shows = refl; left = _; met = c.fill.ensures; leaves = refl }) in
    let p = err_from_is_err_and c.from_residual-in_err-fill.result c.from_residual-in_err-fill.ensures.1 in
    rw p.1 (refuses_with _ _ _ (taken_as s admitted.0 asked _ (MatchResult-at_err _ _ _ c.in_err-fill.was filled.taken)) p.2)
