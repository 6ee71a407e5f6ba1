-- The layout that a settings line asks for.
use Rattle.layouts.specs.Shape.{Shape}
use Rattle.layouts.specs.Layouts.{grid, listed}
use Rattle.settings.specs.declared.choices.LayoutSetting.{LayoutSetting}
use Rattle.settings.specs.declared.choices.LayoutSetting.TheVariants as layouts

abbrev pub shape_asked : LayoutSetting → Shape
shape_asked (layouts.Grid rows columns) = grid rows columns
shape_asked (layouts.List leaves) = listed leaves
