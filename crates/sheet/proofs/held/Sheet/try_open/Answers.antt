use Rattle.sheet.proofs.Tries.{tried_hidden}
use Rattle.sheet.proofs.held.Sheet.try_open.Goals as goal

pub audit-requires : goal.audit-requires
audit-requires c = tried_hidden c.args.self.now c.set_cover.new.self c.args.cell c.set_cover.ensures.same c.set_cover.ensures.cover c.requires.hidden
