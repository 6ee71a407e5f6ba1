-- One cell more is decided, down to the first, as the rule of a search says.
use Rattle.std.proofs.Common.{◌≡◌, ℕ, ◌-◌, sym, ap, ◌∙◌, subst, arith, rules, tests}
use Rattle.layouts.specs.Blank.{is_open_mark}
use Rattle.layouts.specs.declared.memory.Cover.TheVariants.{Withheld}
use Rattle.sheet.specs.declared.held.Sheet.{Sheet}
use Rattle.sheet.specs.Sheets.{rows_of}
use Rattle.sheet.specs.Trying.{covers_of}
use Rattle.sheet.proofs.Answering.{acted_on}
use Rattle.sheet.proofs.Marking.{mark_read}
use Rattle.sheet.proofs.Tries.{Searching, search_none, few_added, down_one, in_now, step_old, step_opened, step_added, open_hidden, search_acted}
use Rattle.sheet.proofs.held.Sheet.search.Goals as goal
use Rattle.sheet.proofs.held.Sheet.search.Goals.{else-eq-via-then-eq+else-try_open, else-eq-via-else-eq}

pub row-requires : goal.row-requires
row-requires c = in_now (c.loop-cell.cell - 1) (down_one c.loop-cell-test.true c.loop-cell.invariant)

pub try_open-requires-clause-hidden : goal.try_open-requires-clause-hidden
try_open-requires-clause-hidden c =
    open_hidden (c.loop-cell.cell - 1) (down_one c.loop-cell-test.true c.loop-cell.invariant)
    (mark_read (rows_of c.loop-cell.self) (c.loop-cell.cell - 1) c.row.result c.row.ensures ∙ search rules)

pub loop-cell-init : goal.loop-cell-init
loop-cell-init c =
    search_none c.set_covers.new.self c.cells-cell.result c.cells-cell.ensures
    (c.set_covers.ensures.covers ∙ ap (covers_of Withheld) (sym c.set_covers.ensures.same.same_rows))

pub overflow_add-added : goal.overflow_add-added
overflow_add-added c = omega (arith, few_added c.loop-cell.invariant)

pub loop-cell-preserved-then-try_open : goal.loop-cell-preserved-then-try_open
loop-cell-preserved-then-try_open c =
    step_added (c.loop-cell.cell - 1) (down_one c.loop-cell-test.true c.loop-cell.invariant)
    (mark_read (rows_of c.loop-cell.self) (c.loop-cell.cell - 1) c.row.result c.row.ensures ∙ search rules) c.try_open.new.self c.if-try_open.ensures

pub loop-cell-preserved : goal.loop-cell-preserved
loop-cell-preserved c =
    let k : ℕ = c.loop-cell.cell - 1 in
    let h = down_one c.loop-cell-test.true c.loop-cell.invariant in
    let at : Sheet → Type 0 = λ s. Searching c.set_covers.new.self k c.loop-cell.added s in
    let read = mark_read (rows_of c.loop-cell.self) k c.row.result c.row.ensures in
    elim c.else-eq.branch [
      | else-eq-via-then-eq+else-try_open w ↦ subst at (sym w.self-is) (step_opened k h (read ∙ search rules) w.try_open.new.self w.if-try_open.ensures)
      | else-eq-via-else-eq w ↦ subst at (sym w.self-is) (step_old k h (ap is_open_mark read ∙ search (rules, tests)))
    ]

pub returns : goal.returns
returns c =
    let t = c.set_covers.new.self in
    let done : c.loop-cell.cell ≡ 0 = omega arith in
    let acted = acted_on c.args.self.now t c.loop-cell.self _ _ c.set_covers.ensures.same (search_acted (rw done at c.loop-cell.invariant)) in
    record { answer = cc acted.does.right; acted = acted }
