-- A witness is the same in more memory than the most cells want.
use Rattle.std.proofs.Common.{rules, length, ◌∙◌, subst, refl}
use Rattle.std.proofs.lemmas.List.{with_items_is}
use Rattle.runs.specs.Acts.{witness}
use Rattle.sheet.specs.Sheets.{Acted}
use Rattle.sheet.specs.Calls.{tabled}
use Rattle.office.proofs.Turns.{witnessed_in, answer_made}
use Rattle.office.proofs.performing.write_table.Goals as goal

pub returns-clause-acted : goal.returns-clause-acted
returns-clause-acted c =
    let size = c.deref_mut.ensures.len ∙ c.in_ok-figures.ensures.len ∙ c.min.ensures in
    let whole = with_items_is c.in_ok-figures.figures c.witness.new.memory (c.witness.auto.memory ∙ c.deref_mut.ensures.len) in
    subst (λ a. Acted c.args.sheet.now (witness c.args.cell c.args.side c.args.memory) a c.witness.new.self)
    (answer_made c.witness.result c.map.result _ (λ r. tabled r c.witness.new.memory) c.map.ensures.cases (λ n a k. search rules) (λ e. refl))
    (witnessed_in _ _ _ c.args.cell c.args.side c.args.memory (length c.deref_mut.result.now) size c.witness.ensures.acted)
