-- Withholding more leaves more readings; the audit says which withheld cells suffice; with everything withheld they do.
use Rattle.std.proofs.Common.{◌≡◌, ℕ, ◌+◌, ◌*◌, ◌<◌, Bool, true, false, cond, eqb, is_some, Some, None, Option, sym, refl, ap, ◌∙◌, inl, inr, add-mul, one-mul, mul-zero, zero-mul, le-mul_of_pos_right, arith}
use Rattle.std.proofs.lemmas.Bool.{cases_Bool, both_ways, true≢false, false≢true, ltb-true, lt-ltb, or_left}
use Rattle.refusals.specs.declared.Side.{Side}
use Rattle.refusals.specs.declared.Side.TheVariants.{Up, Down}
use Rattle.sums.specs.Sums.{sum_below}
use Rattle.sums.proofs.SumBelow.{sum_same, sum_scale}
use Rattle.layouts.specs.Shape.{Shape}
use Rattle.readings.specs.Balance.{Balanced}
use Rattle.readings.specs.Readings.{Away, Reading, Withholds}
use Rattle.readings.specs.Exposure.{Figures, sensitive, audit}
use Rattle.readings.specs.Theorems.{Fit, Hidden, Safe, Told}
use Rattle.readings.proofs.Audits.{audit_right_lem}
use Rattle.runs.specs.Acts.{Standing, withheld}
use Rattle.runs.specs.Pairs.{Settled, Sensitive}

-- MORE WITHHELD, MORE READINGS
pub reading_more : (sh : Shape) (less more : ℕ → Bool) (v y : ℕ → ℕ) → Withholds sh.cells less more → Reading sh less v y → Reading sh more v y
reading_more sh less more v y sub r = record {
  balanced = r.balanced;
  true_figures = λ c l e. r.true_figures c l
      (elim (cases_Bool (less c)) [ inl on ↦ absurd (both_ways (more c) e (sub c l on)) | inr off ↦ off ]);
}

pub hidden_more : (F : Figures) (less more : ℕ → Bool) → Withholds F.shape.cells less more → (c : ℕ) (side : Side) → Hidden F less c side → Hidden F more c side
hidden_more F less more sub c side (y, w) = (y, record { reading = reading_more F.shape less more F.figure y sub w.reading; away = w.away })

pub safe_more : (F : Figures) (less more : ℕ → Bool) → Withholds F.shape.cells less more → Safe F less → Safe F more
safe_more F less more sub safe c l h side = hidden_more F less more sub c side (safe c l h side)

-- some sensitive cell is exposed
abbrev pub Exposes : Figures → (ℕ → Bool) → Type 0
Exposes F W = (c : ℕ) × (side : Side) × Told F W c side

pub exposes_less : (F : Figures) (less more : ℕ → Bool) → Withholds F.shape.cells less more → Exposes F more → Exposes F less
exposes_less F less more sub (c, side, told) = (
  c,
  side,
  record { inside = told.inside; is_sensitive = told.is_sensitive; exposed = λ far. told.exposed (hidden_more F less more sub c side far) },
)

-- A READING FAR AWAY, BY ITS PARTS
pub hidden_parts : (F : Figures) (W : ℕ → Bool) (c : ℕ) (side : Side) → Hidden F W c side → (t : ℕ → ℕ) × Reading F.shape W F.figure t × Away side (F.need c) (F.figure c) (t c)
hidden_parts F W c side (y, w) = (y, w.reading, w.away)

pub parts_hidden : (F : Figures) (W : ℕ → Bool) (c : ℕ) (side : Side) (t : ℕ → ℕ) → Reading F.shape W F.figure t → Away side (F.need c) (F.figure c) (t c) → Hidden F W c side
parts_hidden F W c side t r far = (t, record { reading = r; away = far })

pub sensitive_test : (F : Figures) (c : ℕ) → Sensitive F c → sensitive F.need c ≡ true
sensitive_test F c s = lt-ltb 0 (F.need c) s.has_need

pub test_sensitive : (F : Figures) (c : ℕ) → c < F.shape.cells → sensitive F.need c ≡ true → Sensitive F c
test_sensitive F c l e = record { inside = l; has_need = ltb-true 0 (F.need c) e }

-- WITH EVERYTHING WITHHELD
cond_scaled : (b : Bool) (a x : ℕ) → cond b (a * x) 0 ≡ a * cond b x 0
cond_scaled true a x = refl
cond_scaled false a x = sym (mul-zero a)

sum_scaled : (n a : ℕ) (b : ℕ → Bool) (v : ℕ → ℕ) → sum_below n (λ c. cond (b c) (a * v c) 0) ≡ a * sum_below n (λ c. cond (b c) (v c) 0)
sum_scaled n a b v =
    sum_same n (λ c. cond (b c) (a * v c) 0) (λ c. a * cond (b c) (v c) 0) (λ c _. cond_scaled (b c) a (v c))
    ∙ sum_scale n a (λ c. cond (b c) (v c) 0)

pub scaled_balanced : (sh : Shape) (a : ℕ) (v : ℕ → ℕ) → Balanced sh v → Balanced sh (λ c. a * v c)
scaled_balanced sh a v bal r l =
    sum_scaled sh.cells a (λ c. eqb (sh.enters c) r) v
    ∙ ap (λ x. a * x) (bal r l)
    ∙ sym (sum_scaled sh.cells a (λ c. eqb (sh.leaves c) r) v)

module _ (F : Figures) (ok : Settled F) where
  -- so many times the true table, where all cells are withheld
  scaled_reading : (W : ℕ → Bool) → ((c : ℕ) → W c ≡ true) → (a : ℕ) → Reading F.shape W F.figure (λ c. a * F.figure c)
  scaled_reading W all a = record {
    balanced = scaled_balanced F.shape a F.figure ok.balanced;
    true_figures = λ c l e. absurd (both_ways (W c) e (all c));
  }

  pub safe_all : (W : ℕ → Bool) → ((c : ℕ) → W c ≡ true) → Safe F W
  safe_all W all c l h Up =
      let k : ℕ = F.need c in
      let v : ℕ = F.figure c in (
        (λ x. (1 + k) * F.figure x),
        record {
          reading = scaled_reading W all (1 + k);
          away = omega (arith, add-mul 1 k v, one-mul v, le-mul_of_pos_right {m = v} k (omega (arith, ltb-true 0 k h, ok.within c l)));
        },
      )
  safe_all W all c l h Down = ((λ x. 0 * F.figure x), record { reading = scaled_reading W all 0; away = omega (arith, zero-mul (F.figure c), ok.within c l) })

  -- THE AUDIT
  pub fit : (st : Standing) → Fit F (withheld F st)
  fit st = record {
    sound = ok.sound;
    balanced = ok.balanced;
    hidden = λ c _ h. or_left (sensitive F.need c) (st.complement c) h;
    within = λ c l _. ok.within c l;
  }

  pub none_safe : (st : Standing) → is_some (audit F (withheld F st)) ≡ false → Safe F (withheld F st)
  none_safe st = go (audit F (withheld F st)) refl
    where
      go : (o : Option (ℕ × Side)) → audit F (withheld F st) ≡ o → is_some o ≡ false → Safe F (withheld F st)
      go None e _ = (audit_right_lem F (withheld F st) (fit st)).passes.0 e
      go (Some p) e f = absurd (true≢false f)

  pub some_exposes : (st : Standing) → is_some (audit F (withheld F st)) ≡ true → Exposes F (withheld F st)
  some_exposes st = go (audit F (withheld F st)) refl
    where
      go : (o : Option (ℕ × Side)) → audit F (withheld F st) ≡ o → is_some o ≡ true → Exposes F (withheld F st)
      go None e f = absurd (false≢true f)
      go (Some p) e _ = (p.0, p.1, (audit_right_lem F (withheld F st) (fit st)).names p.0 p.1 e)
