-- The worked needs.
use Rattle.std.specs.Prelude.{◌≡◌, [], ◌∷◌}
use Rattle.rules.specs.Needs.{p_need, nk_need}

abbrev pub WorkedNeeds : Type 0
WorkedNeeds =
    (p_need 20 (250 ∷ 100 ∷ 25 ∷ []) ≡ 25)
    × (p_need 20 (250 ∷ 100 ∷ 50 ∷ []) ≡ 0)
    × (p_need 20 (250 ∷ 100 ∷ 49 ∷ []) ≡ 1)
    × (p_need 15 (7 ∷ []) ≡ 2)
    × (p_need 15 [] ≡ 0)
    × (nk_need 2 80 (50 ∷ 30 ∷ 10 ∷ []) ≡ 10)
    × (nk_need 2 80 (50 ∷ 22 ∷ 18 ∷ []) ≡ 0)
