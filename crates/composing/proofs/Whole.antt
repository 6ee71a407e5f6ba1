-- A whole text: the settings line, and then the lines of the contributions.
use Rattle.std.proofs.Common.{◌≡◌, ℕ, ◌⊎◌, List, ◌++◌, Some, sym, ap, ◌∙◌, subst, inl, inr, ⊎_elim}
use Rattle.std.specs.List.{flat_map}
use Rattle.layouts.specs.declared.memory.Contribution.{Contribution}
use Rattle.settings.specs.Line.{settings_text, ShortSettings}
use Rattle.settings.specs.Reading.{Alone}
use Rattle.settings.specs.declared.choices.Settings.{Settings}
use Rattle.composing.specs.declared.faults.Fault.{Fault}
use Rattle.composing.specs.declared.faults.Fault.TheVariants.{OutOfMemory}
use Rattle.composing.specs.Composed.{fault_of}
use Rattle.composing.specs.Reading.{Broken, Why, broken, unheld}
use Rattle.composing.specs.Text.{cells_of, contribution_text, Lines, Text}

abbrev Refuses : List ℕ → Fault → Type 0
Refuses input e = (e ≡ OutOfMemory) ⊎ (Why input e × ((s : Settings) (xs : List Contribution) → Text input s xs → fault_of (cells_of s) xs ≡ Some e))

module _ (input : List ℕ) (s : Settings) (rest : List ℕ) (a : Alone ShortSettings settings_text input s rest) where
  text_of_lines : (xs : List Contribution) → Lines rest xs → Text input s xs
  text_of_lines xs l = record { short = a.0.0; small = l.small; is = a.0.1 ∙ ap (λ r. settings_text s ++ r) l.is }

  -- the settings and the lines of any reading of the input
  lines_of_text : (t : Settings) (xs : List Contribution) → Text input t xs → (s ≡ t) × Lines rest xs
  lines_of_text t xs x = let u = a.1 t (flat_map contribution_text xs) (x.short, x.is) in (u.0, record { small = x.small; is = u.1 })

  pub broken_text : (e : Fault) → (e ≡ OutOfMemory) ⊎ Broken rest e → Refuses input e
  broken_text e h =
      ⊎_elim (λ m. inl m)
      (λ b. inr (broken s rest a.0.0 a.0.1 b, λ t xs x. absurd (b.none xs (lines_of_text t xs x).1)))
      h

  pub unheld_text : (xs : List Contribution) → Lines rest xs → ((ys : List Contribution) → Lines rest ys → xs ≡ ys)
      → (cells : ℕ) (slice : List Contribution) → cells ≡ cells_of s → slice ≡ xs
      → (e : Fault) → (e ≡ OutOfMemory) ⊎ (fault_of cells slice ≡ Some e) → Refuses input e
  unheld_text xs l one cells slice d i e h =
      ⊎_elim (λ m. inl m)
      (λ f.
      let g : fault_of (cells_of s) xs ≡ Some e = sym (ap (λ n. fault_of n slice) d ∙ ap (fault_of (cells_of s)) i) ∙ f in
      inr (
        unheld s xs (text_of_lines xs l) g,
        λ t ys x.
            let u = lines_of_text t ys x in
            subst (λ zs. fault_of (cells_of t) zs ≡ Some e) (one ys u.1) (subst (λ w. fault_of (cells_of w) xs ≡ Some e) u.0 g),
      ))
      h
