-- The front of the input is the settings line, and the rest is the text of the contributions.
use Rattle.std.proofs.Common.{vec_items, rules}
use Rattle.std.proofs.lemmas.Result.{err_from_is_err_and}
use Rattle.settings.specs.Line.{settings_text, ShortSettings}
use Rattle.settings.specs.Reading.{Alone}
use Rattle.composing.proofs.Whole.{broken_text, unheld_text}
use Rattle.composing.proofs.compose_text.Goals as goal

pub returns-in_err-contributions : goal.returns-in_err-contributions
returns-in_err-contributions c =
    let p = err_from_is_err_and c.from_residual-in_err-contributions.result c.from_residual-in_err-contributions.ensures.1 in
    let a : Alone ShortSettings settings_text c.args.input.now c.in_ok-settings.settings c.in_ok-settings.rest.now = search rules in
    rw (p.1, p.2) (broken_text c.args.input.now c.in_ok-settings.settings c.in_ok-settings.rest.now a _ c.in_err-contributions.ensures)

pub returns-in_err-deposit : goal.returns-in_err-deposit
returns-in_err-deposit c =
    let p = err_from_is_err_and c.from_residual-in_err-deposit.result c.from_residual-in_err-deposit.ensures.1 in
    let lines = c.in_ok-contributions.ensures in
    let a : Alone ShortSettings settings_text c.args.input.now c.in_ok-settings.settings c.in_ok-settings.rest.now = search rules in
    rw (p.1, p.2) (unheld_text c.args.input.now c.in_ok-settings.settings c.in_ok-settings.rest.now a
    (vec_items c.in_ok-contributions.contributions) lines.0 lines.1 c.count_cells.result c.deref.result.now
    c.count_cells.ensures c.deref.ensures.value _ c.in_err-deposit.ensures)
