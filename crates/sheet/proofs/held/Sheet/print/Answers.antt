-- The page is out, as its act says.
use Rattle.std.proofs.Common.{◌*◌, ◌∙◌, length, rules}
use Rattle.runs.specs.Acts.{print, refusal}
use Rattle.sheet.specs.declared.events.Event.TheVariants.{PagePrinted}
use Rattle.sheet.proofs.Answering.{no_reason, acted_on}
use Rattle.sheet.proofs.Facts.{same_for}
use Rattle.sheet.proofs.Meetings.{met_each}
use Rattle.sheet.proofs.Shown.{acted_printed}
use Rattle.sheet.proofs.held.Sheet.print.Goals as goal

pub returns-clause-acted : goal.returns-clause-acted
returns-clause-acted c =
    let s = c.args.self.now in
    let t = c.check_page.new.self in
    let before = c.args.memory.now in
    let same = c.check_page.ensures.same in
    acted_on s t c.meet_all.new.self _ _ same
    (acted_printed t c.meet_all.new.self before c.write_lines.new.memory (19 * c.cells.result)
    (same_for (λ F st. refusal F st (print (length before))) s t same ∙ no_reason _ c.in_ok-check_page.ensures.answer)
    c.write_lines.ensures (met_each (λ _. PagePrinted) c.meet_all.ensures (λ x e k. search rules)) cc)
