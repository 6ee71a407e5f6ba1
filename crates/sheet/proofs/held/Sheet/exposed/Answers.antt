-- The audit of a sheet as it stands.
use Rattle.sheet.proofs.Stood.{stood_hidden, audit_stood}
use Rattle.sheet.proofs.held.Sheet.exposed.Goals as goal

pub audit-requires : goal.audit-requires
audit-requires c = stood_hidden c.args.self.now c.set_covers.new.self c.set_covers.ensures.same c.set_covers.ensures.covers

pub returns-clause-says : goal.returns-clause-says
returns-clause-says c = audit_stood c.args.self.now c.set_covers.new.self c.set_covers.ensures.same c.set_covers.ensures.covers c.audit.result c.audit.ensures.says
