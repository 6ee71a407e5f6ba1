-- The trial ends with the need met, or without a path of the amount 1; the guard puts the cover back either way.
use Rattle.std.proofs.Common.{false, List, sym, ap, ◌∙◌, subst, arith}
use Rattle.std.proofs.lemmas.Bool.{true≢false}
use Rattle.std.proofs.lemmas.List.{get_or-map}
use Rattle.layouts.specs.Admission.{shape_of}
use Rattle.layouts.specs.declared.memory.Cover.{Cover}
use Rattle.layouts.proofs.Kept.{network_cells}
use Rattle.readings.specs.Paths.{Changed, at, withheld_by}
use Rattle.readings.specs.Rows.{figures, needs}
use Rattle.readings.proofs.Networks.{network_sound}
use Rattle.readings.proofs.Tried.{barred_besides, put_back, trying_start, tried_exposed, tried_hidden, tried_shown}
use Rattle.readings.proofs.trial.try_cell.Goals as goal

pub loop-left-init : goal.loop-left-init
loop-left-init c =
    trying_start (shape_of c.args.network.now) c.args.side _ (figures c.args.rows.now) (needs c.args.rows.now c.args.cell) c.args.cell _ (at c.copy_figures.new.table)
    (sym (get_or-map (λ r. r.need) c.args.rows.now c.args.cell _ 0 (omega arith))) (ap at c.copy_figures.ensures) c.requires.tabled.balanced

pub returns-else-amount-gt1 : goal.returns-else-amount-gt1
returns-else-amount-gt1 c =
    let n = c.args.network.now in
    record {
      kept = c.drop-guard.ensures ∙ put_back c.args.covers.now _ _ c.args.cell c.replace-saved.ensures.value;
      tried = record {
        right = tried_exposed (shape_of n) c.args.side (withheld_by c.args.covers.now) _ (figures c.args.rows.now) (needs c.args.rows.now c.args.cell) c.args.cell c.loop-left.left c.loop-left.amount (at c.loop-left.table)
            (network_sound n) c.requires.tabled.balanced (omega (arith, network_cells n)) c.requires.withheld (barred_besides c.args.covers.now c.replace-saved.new.dest c.args.cell (omega arith) c.replace-saved.ensures.after)
            c.loop-left.invariant c.loop-left-test.true c.if-amount-gt1.false (at c.change.new.table)
            (subst (λ (m : List Cover). Changed (shape_of n) c.args.side (withheld_by m) c.args.cell c.loop-left.amount (at c.loop-left.table) (at c.change.new.table) false) c.view.ensures c.if-change.ensures);
        shown = λ e. absurd (true≢false e);
      };
    }

pub returns : goal.returns
returns c =
    let n = c.args.network.now in
    let besides = barred_besides c.args.covers.now c.replace-saved.new.dest c.args.cell (omega arith) c.replace-saved.ensures.after in
    record {
      kept = c.drop-guard-2.ensures ∙ put_back c.args.covers.now _ _ c.args.cell c.replace-saved.ensures.value;
      tried = record {
        right = tried_hidden (shape_of n) c.args.side (withheld_by c.args.covers.now) _ (figures c.args.rows.now) (needs c.args.rows.now c.args.cell) c.args.cell c.loop-left.left c.loop-left.amount (at c.loop-left.table)
            (network_sound n) c.requires.tabled.balanced (omega (arith, network_cells n)) c.requires.withheld besides c.loop-left.invariant c.loop-left-test.false;
        shown = λ _. tried_shown (shape_of n) c.args.side (withheld_by c.args.covers.now) _ (figures c.args.rows.now) (needs c.args.rows.now c.args.cell) c.args.cell c.loop-left.left c.loop-left.amount (at c.loop-left.table)
            (network_sound n) c.requires.tabled.balanced (omega (arith, network_cells n)) c.requires.withheld besides c.loop-left.invariant c.loop-left-test.false;
      };
    }
