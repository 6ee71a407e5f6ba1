-- A list that can be withheld names only cells, and none that is printed.
use Rattle.std.proofs.Common.{◌≡◌, ℕ, ◌<◌, Bool, true, false, cond, eqb, ltb, leb, List, [], ◌∷◌, length, Some, None, sym, refl, inl, inr}
use Rattle.std.proofs.lemmas.Bool.{leb-false, eqb-true, or_cases, true≢false}
use Rattle.refusals.specs.declared.Refusal.TheVariants.{MemorySize, UnknownCell, AlreadyPrinted}
use Rattle.sums.specs.Sums.{among}
use Rattle.readings.specs.Exposure.{Figures}
use Rattle.runs.specs.Acts.{Standing, withhold, bad_entry, refusal}

pub listed_good : (F : Figures) (st : Standing) (l : List ℕ) (c : ℕ) → bad_entry F st l ≡ None → among c l ≡ true
    → (c < F.shape.cells) × (st.printed c ≡ false)
listed_good F st [] c e h = absurd (true≢false (sym h))
listed_good F st (x ∷ xs) c e h = go (leb F.shape.cells x) (st.printed x) refl refl e (λ f r. listed_good F st xs c f r)
  where
    go : (b q : Bool) → leb F.shape.cells x ≡ b → st.printed x ≡ q
        → cond b (Some (UnknownCell x)) (cond q (Some (AlreadyPrinted x)) (bad_entry F st xs)) ≡ None
        → (bad_entry F st xs ≡ None → among c xs ≡ true → (c < F.shape.cells) × (st.printed c ≡ false))
        → (c < F.shape.cells) × (st.printed c ≡ false)
    go true q is p f rest = cc
    go false true is p f rest = cc
    go false false is p f rest = elim (or_cases (eqb c x) (among c xs) h) [
      | inl same ↦ rw (eqb-true c x same) (leb-false F.shape.cells x is, p)
      | inr r ↦ rest f r
    ]

-- an accepted list has no bad entry
pub entries_accepted : (F : Figures) (st : Standing) (l : List ℕ) → refusal F st (withhold l) ≡ None → bad_entry F st l ≡ None
entries_accepted F st l e = go (ltb 512 (length l)) e
  where
    go : (b : Bool) → cond b (Some MemorySize) (bad_entry F st l) ≡ None → bad_entry F st l ≡ None
    go true f = cc
    go false f = f
