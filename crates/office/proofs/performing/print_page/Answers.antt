-- A page is the same in more memory than the longest page wants.
use Rattle.std.proofs.Common.{rules, length, ◌∙◌, subst, refl}
use Rattle.std.proofs.lemmas.List.{with_items_is}
use Rattle.runs.specs.Acts.{print}
use Rattle.sheet.specs.Sheets.{Acted}
use Rattle.sheet.specs.Calls.{paged}
use Rattle.office.proofs.Turns.{printed_in, answer_made}
use Rattle.office.proofs.performing.print_page.Goals as goal

pub returns-clause-acted : goal.returns-clause-acted
returns-clause-acted c =
    let size = c.deref_mut.ensures.len ∙ c.in_ok-bytes.ensures.len ∙ c.min.ensures in
    let whole = with_items_is c.in_ok-bytes.bytes c.print.new.memory (c.print.auto.memory ∙ c.deref_mut.ensures.len) in
    subst (λ a. Acted c.args.sheet.now (print c.args.memory) a c.print.new.self)
    (answer_made c.print.result c.map.result _ (λ r. paged r c.print.new.memory) c.map.ensures.cases (λ n a k. search rules) (λ e. refl))
    (printed_in _ _ _ c.args.memory (length c.deref_mut.result.now) size c.print.ensures.acted)
