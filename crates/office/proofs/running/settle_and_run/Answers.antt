-- The run of the sheet is the run of every layout that gives the same answers.
use Rattle.std.proofs.Common.{vec_items, ◌∙◌, arith}
use Rattle.std.proofs.lemmas.Result.{IfOk-weaker}
use Rattle.intake.specs.Chains.{held}
use Rattle.intake.proofs.Entered.{held_count}
use Rattle.sheet.specs.Sheets.{figures_of}
use Rattle.office.specs.Office.{figures_by}
use Rattle.office.proofs.Turns.{settled_alike}
use Rattle.office.proofs.Ways.{ran_alike, sheet_settled}
use Rattle.office.proofs.running.settle_and_run.Goals as goal

pub returns : goal.returns
returns g c s laws same =
    let intake = c.args.intake in
    let sheet = c.new.result in
    let xs = held (vec_items intake.chains.records) in
    let meaning = g.R.Rule.meaning intake.rule in
    let like = settled_alike s laws intake.network sheet (c.new.ensures.network ∙ c.settle.ensures.network) same meaning (g.met.R.Rule.bound intake.rule) xs
    (λ i h. intake.leafy i (omega (arith, held_count intake.chains.records))) (c.new.ensures.rows ∙ c.settle.ensures.rows) in
    IfOk-weaker c.run_acts.result _ _
    (λ v r. ran_alike (figures_by s meaning xs) (figures_of sheet) laws (sheet_settled sheet) like c.args.acts.now (vec_items v) r)
    c.run_acts.ensures
