-- Where a cell of shops in districts stands.
use Rattle.std.specs.Prelude.{ℕ, ◌-◌, ◌*◌, ◌/◌, Option, nat_lt}
use Rattle.layouts.specs.Answers.{only}
use Rattle.own_layouts.specs.Districts.{districts, by}
use Rattle.own_layouts.specs.declared.districts.Place.{Place}
use Rattle.own_layouts.specs.declared.districts.Place.TheVariants.{Shop, DistrictTotal, GrandTotal}

abbrev pub place_of : ℕ → ℕ → ℕ → Option Place
place_of D S c = only (nat_lt c (districts D S).cells) (by D S c (Shop (c / S)) (DistrictTotal (c - D * S)) GrandTotal)
