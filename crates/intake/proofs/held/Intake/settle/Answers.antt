-- What settling gives is what a sheet needs.
use Rattle.std.proofs.Common.{◌≡◌, ℕ, ◌<◌, true, length, drop, vec_items, vec_len, sym, ◌∙◌, subst, arith}
use Rattle.std.proofs.lemmas.List.{take_at}
use Rattle.layouts.specs.Admission.{shape_of}
use Rattle.layouts.proofs.Kept.{network_cells, network_laws}
use Rattle.readings.specs.Exposure.{any_below}
use Rattle.intake.specs.Chains.{held}
use Rattle.intake.specs.Settling.{is_under, settled_rows}
use Rattle.intake.proofs.Entered.{held_count}
use Rattle.intake.proofs.Goods.{at_leaves}
use Rattle.intake.proofs.Figures.{rows_long, rows_balance, need_within, rows_small, rows_begun, rows_grounded}
use Rattle.intake.proofs.held.Intake.settle.Goals as goal

pub invariant_of-result : goal.invariant_of-result
invariant_of-result g c =
    let s = c.args.self in
    let n = s.network in
    let sh = shape_of n in
    let xs = held (vec_items s.chains.records) in
    let m = g.R.Rule.meaning s.rule in
    let laws = network_laws n in
    let bound = g.met.R.Rule.bound s.rule in
    let ls = c.settle_rows.new.rows in
    let settled : ls ≡ settled_rows sh m xs = c.settle_rows.ensures in
    let many : length xs ≡ vec_len s.chains.records = held_count s.chains.records in
    let at = at_leaves sh s.chains.records s.leafy in
    let small = λ (i : ℕ) (h : i < length xs). s.chains.chained.small i (omega (arith, s.chains.records.ok.0)) in
    let cells = network_cells n in
    let long : length ls ≡ vec_len s.rows = rows_long sh laws m bound xs at ls settled ∙ cells ∙ sym s.celled.1 in
    let e = take_at ls (drop (length ls) (vec_items s.rows)) (vec_len s.rows) long ∙ settled in
    let inside = λ (k : ℕ) (h : k < vec_len n.edges). subst (λ z. k < z) (sym cells) h in
    record {
      tabled = record {
        celled = rows_long sh laws m bound xs at _ e ∙ cells;
        balanced = rows_balance sh laws m bound xs at _ e;
        within = λ k h. need_within sh laws m bound xs at _ e k (inside k h);
        small = λ k h. rows_small sh laws m bound xs at _ e small (omega (arith, s.chains.chained.few, s.chains.records.ok.0)) k (inside k h);
      };
      fits = s.fits;
      begun = λ k h. rows_begun sh laws m bound xs at _ e k (inside k h);
      grounded = λ k h t. subst (λ z. any_below z (is_under sh k) ≡ true) cells (rows_grounded sh laws m bound xs at _ e k (inside k h) t);
    }
