-- The standing that rows have by their marks.
use Rattle.std.specs.Prelude.{Bool, true, false, List}
use Rattle.layouts.specs.declared.memory.Row.{Row}
use Rattle.layouts.specs.declared.memory.Mark.{Mark}
use Rattle.layouts.specs.declared.memory.Mark.TheVariants.{Open, Sensitive, Complement, Printed, Barred}
use Rattle.intake.specs.Marks.{mark_at}
use Rattle.runs.specs.Acts.{Standing}

abbrev pub is_complement_mark : Mark → Bool
is_complement_mark Open = false
is_complement_mark Sensitive = false
is_complement_mark Complement = true
is_complement_mark Printed = false
is_complement_mark Barred = false

abbrev pub is_printed_mark : Mark → Bool
is_printed_mark Open = false
is_printed_mark Sensitive = false
is_printed_mark Complement = false
is_printed_mark Printed = true
is_printed_mark Barred = false

abbrev pub standing_of : List Row → Standing
standing_of rows = record { complement = λ c. is_complement_mark (mark_at rows c); printed = λ c. is_printed_mark (mark_at rows c) }
