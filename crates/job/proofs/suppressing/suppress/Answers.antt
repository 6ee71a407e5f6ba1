-- Each refusal is the first that the input meets, and the last answer is the page of the searched table.
use Rattle.std.proofs.Common.{◌≡◌, length, Some, refl, sym, ap, ◌∙◌, ⊎_elim}
use Rattle.std.proofs.lemmas.Option.{same_Some}
use Rattle.std.proofs.lemmas.Result.{err_from_is_err_and}
use Rattle.settings.specs.Asked.{shape_asked}
use Rattle.job.specs.Chosen.{meaning_of, shape_of}
use Rattle.job.specs.Job.{for_range, for_deposit, for_memory, page_in, too_large}
use Rattle.job.proofs.Ranges.{early_layout, early_rule, early_size, size_refused, size_passed}
use Rattle.job.proofs.Pages.{deposit_refused, page_printed}
use Rattle.job.proofs.suppressing.suppress.Goals as goal

pub returns-in_err-layout : goal.returns-in_err-layout
returns-in_err-layout c =
    let p = err_from_is_err_and c.from_residual-in_err-layout.result c.from_residual-in_err-layout.ensures.1 in
    let s = c.in_ok-settings.settings in
    let said = c.in_err-layout.ensures in
    rw p.1 (for_range s c.in_ok-settings.deposit.now c.in_ok-settings.ensures.reads.0 (early_layout s _ said.0 ∙ ap Some (sym (p.2 ∙ said.1))))

pub returns-in_err-rule : goal.returns-in_err-rule
returns-in_err-rule c =
    let p = err_from_is_err_and c.from_residual-in_err-rule.result c.from_residual-in_err-rule.ensures.1 in
    let s = c.in_ok-settings.settings in
    let said = c.in_err-rule.ensures in
    rw p.1 (for_range s c.in_ok-settings.deposit.now c.in_ok-settings.ensures.reads.0 (early_rule s _ c.in_ok-layout.ensures.0 said.0 ∙ ap Some (sym (p.2 ∙ said.1))))

pub returns-in_err-check_size : goal.returns-in_err-check_size
returns-in_err-check_size c =
    let p = err_from_is_err_and c.from_residual-in_err-check_size.result c.from_residual-in_err-check_size.ensures.1 in
    let s = c.in_ok-settings.settings in
    let lay = c.in_ok-layout.ensures in
    let n = length c.args.input.now in
    let x = c.in_err-check_size.field-0.0 in
    let said : too_large (shape_asked s.layout) n ≡ Some x = ap (λ t. too_large t n) (sym lay.1) ∙ size_refused _ x c.in_err-check_size.ensures in
    rw (p.1, p.2) (for_range s c.in_ok-settings.deposit.now c.in_ok-settings.ensures.reads.0 (early_size s n lay.0 c.in_ok-rule.ensures.0 ∙ said))

pub returns-in_err-answers : goal.returns-in_err-answers
returns-in_err-answers c =
    let p = err_from_is_err_and c.from_residual-in_err-answers.result c.from_residual-in_err-answers.ensures.1 in
    let s = c.in_ok-settings.settings in
    let b = c.in_ok-settings.deposit.now in
    let lay = c.in_ok-layout.ensures in
    let n = length c.args.input.now in
    let passed = size_passed _ _ c.in_ok-check_size.ensures in
    let line = c.in_ok-settings.ensures.reads.0 in
    let ranges = early_size s n lay.0 c.in_ok-rule.ensures.0 ∙ ap (λ t. too_large t n) (sym lay.1) ∙ passed in
    rw (p.1, p.2) (⊎_elim (λ e. for_deposit s b line ranges e) (λ m. for_memory s b line ranges m)
    (deposit_refused s n (shape_of c.in_ok-layout.layout) lay.1 passed b _ c.in_err-answers.ensures))

pub unwrap-requires : goal.unwrap-requires
unwrap-requires c =
    let got = page_printed c.in_ok-settings.settings _ (shape_of c.in_ok-layout.layout) c.in_ok-layout.ensures.1 (size_passed _ _ c.in_ok-check_size.ensures)
    c.in_ok-settings.deposit.now (meaning_of c.in_ok-rule.rule) c.in_ok-rule.ensures.1 c.in_ok-answers.answers c.pop.result c.in_ok-answers.ensures c.pop.ensures.value in
    rw got.3 refl

pub page_of-requires : goal.page_of-requires
page_of-requires c =
    let got = page_printed c.in_ok-settings.settings _ (shape_of c.in_ok-layout.layout) c.in_ok-layout.ensures.1 (size_passed _ _ c.in_ok-check_size.ensures)
    c.in_ok-settings.deposit.now (meaning_of c.in_ok-rule.rule) c.in_ok-rule.ensures.1 c.in_ok-answers.answers c.pop.result c.in_ok-answers.ensures c.pop.ensures.value in
    let held = same_Some _ _ (sym c.unwrap.ensures ∙ got.3) in
    rw held refl

pub returns : goal.returns
returns c =
    let s = c.in_ok-settings.settings in
    let b = c.in_ok-settings.deposit.now in
    let lay = c.in_ok-layout.ensures in
    let rule = c.in_ok-rule.ensures in
    let n = length c.args.input.now in
    let passed = size_passed _ _ c.in_ok-check_size.ensures in
    let got = page_printed s n (shape_of c.in_ok-layout.layout) lay.1 passed b (meaning_of c.in_ok-rule.rule) rule.1 c.in_ok-answers.answers c.pop.result
    c.in_ok-answers.ensures c.pop.ensures.value in
    let told = c.page_of.ensures ∙ ap page_in (same_Some _ _ (sym c.unwrap.ensures ∙ got.3)) in
    rw told (record {
      settings = s;
      rest = b;
      contributions = got.0;
      line = c.in_ok-settings.ensures.reads.0;
      ranges = early_size s n lay.0 rule.0 ∙ ap (λ t. too_large t n) (sym lay.1) ∙ passed;
      deposit = got.1;
      bytes = got.4;
    })
