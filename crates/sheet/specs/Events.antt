-- The table of marks and events: the two together decide the next mark.
use Rattle.layouts.specs.declared.memory.Row.{Row}
use Rattle.layouts.specs.declared.memory.Mark.{Mark}
use Rattle.layouts.specs.declared.memory.Mark.TheVariants.{Open, Sensitive, Complement, Printed, Barred}
use Rattle.sheet.specs.declared.events.Event.{Event}
use Rattle.sheet.specs.declared.events.Event.TheVariants.{Listed, Unlisted, Added, PagePrinted}

abbrev pub next_mark : Mark → Event → Mark
next_mark Open Listed = Complement
next_mark Open Unlisted = Open
next_mark Open Added = Complement
next_mark Open PagePrinted = Printed
next_mark Sensitive e = Sensitive
next_mark Complement Listed = Complement
next_mark Complement Unlisted = Open
next_mark Complement Added = Complement
next_mark Complement PagePrinted = Complement
next_mark Printed e = Printed
next_mark Barred e = Barred

-- the row with this mark
abbrev pub marked : Row → Mark → Row
marked r m = record { figure = r.figure; need = r.need; mark = m }

-- the row once the event has met it
abbrev pub met : Row → Event → Row
met r e = marked r (next_mark r.mark e)
