-- Runs: acts with their answers, the standing that they lead to, and what a call must do so that calls make up a run.
use Rattle.std.specs.Prelude.{◌≡◌, List, [], ◌∷◌}
use Rattle.readings.specs.Exposure.{Figures}
use Rattle.runs.specs.Acts.{Act, Answer, Standing, fresh, step, Right}

-- the acts so far, each with its answer, the latest first
abbrev pub History : Type 0
History = List (Act × Answer)

module _ (F : Figures) where
  -- the standing after these acts, from the acts and their answers alone
  abbrev pub standing : History → Standing
  standing [] = fresh
  standing (e ∷ h) = step F (standing h) e.0 e.1

  -- Each answer is right at the standing that the acts before it led to.
  abbrev pub Run : History → Type 0
  Run [] = Unit {0}
  Run (e ∷ h) = Run h × Right F (standing h) e.0 e.1

  -- What a call owes for its act: the right answer, and the standing that goes with it.
  pub record Does (before : Standing) (act : Act) (a : Answer) (after : Standing) : Type 0 where
    pub right : Right F before act a
    pub leaves : after ≡ step F before act a

  -- the calls that came to h are a run, and led to this standing
  pub record Came (h : History) (st : Standing) : Type 0 where
    pub run : Run h
    pub led : standing h ≡ st

-- What begins fresh, and each of whose calls does its act, always comes by a run.
pub record CallsRun : Type 0 where
  pub begins : (F : Figures) → Came F [] fresh
  pub goes_on : (F : Figures) (h : History) (before after : Standing) (act : Act) (a : Answer)
      → Came F h before → Does F before act a after → Came F ((act, a) ∷ h) after
