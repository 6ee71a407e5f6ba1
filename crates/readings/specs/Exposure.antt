-- Exposure: by readings, which say what it means; by walls, a test without hypotheses; and the audit of all sensitive cells.
use Rattle.std.specs.Prelude.{ℕ, zero, suc, Bool, false, cond, not, ◌&&◌, ◌||◌, Some, None, Option, ◌==◌, nat_lt}
use Rattle.refusals.specs.declared.Side.{Side}
use Rattle.refusals.specs.declared.Side.TheVariants.{Up, Down}
use Rattle.sums.specs.Sums.{sum_below}
use Rattle.layouts.specs.Shape.{Shape}
use Rattle.readings.specs.Readings.{Far}

-- The cell t is exposed on that side: no reading is k or more away from its figure.
abbrev pub Exposed : Shape → (ℕ → Bool) → (ℕ → ℕ) → ℕ → ℕ → Side → Type 0
Exposed sh withheld v k t side = Far sh withheld v k t side → ⊥

-- A change of t upsets the relation that it enters, and a path of changes from there makes that good. Where t is raised, passing a
-- cell from the relation that it leaves to the one that it enters raises it, and the other way lowers it; where t is lowered, the
-- roles are turned. So a path that raises c comes from `behind c` and goes to `ahead c`.
abbrev pub behind : Shape → Side → ℕ → ℕ
behind sh Up c = sh.leaves c
behind sh Down c = sh.enters c

abbrev pub ahead : Shape → Side → ℕ → ℕ
ahead sh Up c = sh.enters c
ahead sh Down c = sh.leaves c

-- the withheld cells other than t
abbrev pub besides : (ℕ → Bool) → ℕ → ℕ → Bool
besides withheld t c = withheld c && not (c == t)

-- a path out of the set S of relations raises c, or lowers it
abbrev pub raised_out : Shape → Side → (ℕ → Bool) → (ℕ → Bool) → ℕ → Bool
raised_out sh side pass S c = pass c && (S (behind sh side c) && not (S (ahead sh side c)))

abbrev pub lowered_out : Shape → Side → (ℕ → Bool) → (ℕ → Bool) → ℕ → Bool
lowered_out sh side pass S c = pass c && (S (ahead sh side c) && not (S (behind sh side c)))

-- the test passes at some number below n
unfoldable pub any_below : ℕ → (ℕ → Bool) → Bool
any_below zero test = false
any_below (suc n) test = any_below n test || test n

-- the test passes some set of numbers below m: the last is out, or it is in (it tries all of them, and is never run)
unfoldable pub any_set : ℕ → ((ℕ → Bool) → Bool) → Bool
any_set zero test = test (λ r. false)
any_set (suc m) test = any_set m test || any_set m (λ S. test (λ r. (r == m) || S r))

-- The set S is a wall around the relation that t enters: it holds that one and not the one that t leaves, no other withheld cell
-- could be raised on a way out of it, and those that could be lowered have less than k between them.
abbrev pub is_wall : Shape → (ℕ → Bool) → (ℕ → ℕ) → ℕ → ℕ → Side → (ℕ → Bool) → Bool
is_wall sh withheld v k t side S =
    ((S (sh.enters t) && not (S (sh.leaves t))) && not (any_below sh.cells (raised_out sh side (besides withheld t) S)))
    && nat_lt (sum_below sh.cells (λ c. cond (lowered_out sh side (besides withheld t) S c) (v c) 0)) k

-- some set of relations is a wall
unfoldable pub is_exposed : Shape → (ℕ → Bool) → (ℕ → ℕ) → ℕ → ℕ → Side → Bool
is_exposed sh withheld v k t side = any_set sh.relations (is_wall sh withheld v k t side)

-- What an audit looks at.
pub record Figures : Type 0 where
  pub shape : Shape
  pub figure : ℕ → ℕ
  pub need : ℕ → ℕ

abbrev pub sensitive : (ℕ → ℕ) → ℕ → Bool
sensitive need c = nat_lt 0 (need c)

-- the sensitive cell c is exposed on that side
abbrev pub is_told : Figures → (ℕ → Bool) → ℕ → Side → Bool
is_told F withheld c side = sensitive F.need c && is_exposed F.shape withheld F.figure (F.need c) c side

-- where the cell c is exposed, up before down
abbrev pub exposure_at : Figures → (ℕ → Bool) → ℕ → Option (ℕ × Side)
exposure_at F withheld c = cond (is_told F withheld c Up) (Some (c, Up)) (cond (is_told F withheld c Down) (Some (c, Down)) None)

-- the first that f has among the n numbers from k on
abbrev pub or_else : {A : Type 0} → Option A → Option A → Option A
or_else (Some x) y = Some x
or_else None y = y

unfoldable pub first_from : {A : Type 0} → ℕ → ℕ → (ℕ → Option A) → Option A
first_from zero k f = None
first_from (suc n) k f = or_else (f k) (first_from n (suc k) f)

-- the lowest sensitive cell that is exposed, with the side
abbrev pub audit : Figures → (ℕ → Bool) → Option (ℕ × Side)
audit F withheld = first_from F.shape.cells 0 (exposure_at F withheld)
