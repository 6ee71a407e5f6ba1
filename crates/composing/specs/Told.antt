-- What is told of a fault.
use Rattle.std.specs.Prelude.{ℕ, List, ◌++◌, codes, decimal}
use Rattle.composing.specs.declared.faults.Fault.{Fault}
use Rattle.composing.specs.declared.faults.Fault.TheVariants.{Settings, Form, TooLarge, UnknownLeaf, TooMany, OutOfMemory}

abbrev pub told : Fault → List ℕ
told Settings = codes "line 1: not a settings line"
told (Form line) = codes "line " ++ (decimal line ++ codes ": not three numbers, one blank apart")
told (TooLarge line) = codes "line " ++ (decimal line ++ codes ": a number above 4294967295")
told (UnknownLeaf line) = codes "line " ++ (decimal line ++ codes ": no cell of the layout")
told TooMany = codes "more than 4294967295 contributions"
told OutOfMemory = codes "out of memory"
