-- What a search leaves: nobody exposed, and of what it added nothing that could be opened again.
use Rattle.std.proofs.Common.{◌≡◌, ℕ, zero, suc, ◌<◌, Bool, true, false, not, ◌&&◌, ◌||◌, eqb, ltb, is_some, sym, refl, ap, ◌∙◌, inl, inr, arith}
use Rattle.std.proofs.lemmas.Bool.{cases_Bool, cases_eq, both_ways, not-true, not_from_false, and_parts, and_from, or_cases, or_parts, or_from, or_left, or_right, eq-eqb, ne_eqb, lt-ltb, cond_both}
use Rattle.readings.specs.Readings.{Withholds}
use Rattle.readings.specs.Exposure.{Figures, sensitive, besides, audit}
use Rattle.readings.specs.Theorems.{Safe}
use Rattle.runs.specs.Acts.{Standing, opened, withheld, bare, newly, closed, reopened, reopen, searched}
use Rattle.runs.specs.Pairs.{Settled}
use Rattle.runs.proofs.Hiding.{Exposes, safe_more, exposes_less, none_safe, some_exposes}

-- what is not printed
abbrev pub unprinted : Standing → ℕ → Bool
unprinted st c = not (st.printed c)

-- each printed cell is bare
abbrev pub PrintedBare : Figures → Standing → Type 0
PrintedBare F st = (c : ℕ) → st.printed c ≡ true → bare F st c ≡ true

pub bare_parts : (F : Figures) (st : Standing) (c : ℕ) → bare F st c ≡ true → (ltb c F.shape.cells ≡ true) × (withheld F st c ≡ false)
bare_parts F st c b =
    let p = and_parts (ltb c F.shape.cells) (not (withheld F st c)) b in
    (p.0, not-true (withheld F st c) p.1)

-- a bare cell stays so where it is no complement
pub bare_still : (F : Figures) (st after : Standing) (c : ℕ) → bare F st c ≡ true → after.complement c ≡ false → bare F after c ≡ true
bare_still F st after c b e =
    let p = bare_parts F st c b in
    and_from _ _ p.0 (not_from_false _ (or_from (sensitive F.need c) (after.complement c) (or_parts _ _ p.1).0 e))

module _ (F : Figures) (ok : Settled F) (new : ℕ → Bool) where
  -- whether c is opened again
  abbrev opens : ℕ → Standing → Bool
  opens c st = new c && not (is_some (audit F (withheld F (opened c st))))

  reopen_safe : (n : ℕ) (st : Standing) → Safe F (withheld F st) → Safe F (withheld F (reopen F new n st))
  reopen_safe zero st safe = safe
  reopen_safe (suc c) st safe =
      reopen_safe c (reopened F new c st)
      (cond_both (opens c st) (opened c st) st (λ s. Safe F (withheld F s))
      (λ e. none_safe F ok (opened c st) (not-true _ (and_parts (new c) _ e).1))
      (λ _. safe))

  reopen_fewer : (n : ℕ) (st : Standing) (x : ℕ) → (reopen F new n st).complement x ≡ true → st.complement x ≡ true
  reopen_fewer zero st x e = e
  reopen_fewer (suc c) st x e =
      cond_both (opens c st) (opened c st) st (λ s. s.complement x ≡ true → st.complement x ≡ true)
      (λ _ f. (and_parts (st.complement x) _ f).0)
      (λ _ f. f)
      (reopen_fewer c (reopened F new c st) x e)

  reopen_keeps_old : (n : ℕ) (st : Standing) (x : ℕ) → new x ≡ false → st.complement x ≡ true → (reopen F new n st).complement x ≡ true
  reopen_keeps_old zero st x old on = on
  reopen_keeps_old (suc c) st x old on =
      reopen_keeps_old c (reopened F new c st) x old
      (cond_both (opens c st) (opened c st) st (λ s. s.complement x ≡ true)
      (λ e. and_from _ _ on (not_from_false _ (ne_eqb x c (λ q. both_ways (new x) old (ap new q ∙ (and_parts (new c) _ e).0)))))
      (λ _. on))

  reopen_printed : (n : ℕ) (st : Standing) → (reopen F new n st).printed ≡ st.printed
  reopen_printed zero st = refl
  reopen_printed (suc c) st =
      reopen_printed c (reopened F new c st)
      ∙ cond_both (opens c st) (opened c st) st (λ s. s.printed ≡ st.printed) (λ _. refl) (λ _. refl)

  -- with a new cell that stayed withheld opened too, somebody would be exposed
  reopen_needed : (n : ℕ) (st : Standing) (x : ℕ) → x < n → new x ≡ true → (reopen F new n st).complement x ≡ true
      → Exposes F (besides (withheld F (reopen F new n st)) x)
  reopen_needed zero st x l is_new on = absurd (omega arith)
  reopen_needed (suc c) st x l is_new on =
      elim (cases_eq x c) [
        | inr other ↦ reopen_needed c (reopened F new c st) x (omega arith) is_new on
        | inl here ↦ cond_both (opens c st) (opened c st) st
            (λ s. (reopen F new c s).complement x ≡ true → Exposes F (besides (withheld F (reopen F new c s)) x))
            (λ _ f. absurd (both_ways (eqb x c) (not-true _ (and_parts (st.complement x) _ (reopen_fewer c (opened c st) x f)).1) (eq-eqb x c here)))
            (λ e _. exposes_less F (besides (withheld F (reopen F new c st)) x) (withheld F (opened c st)) (still here) (some_exposes F ok (opened c st) (exposed_then here e)))
            on
      ]
    where
      still : x ≡ c → Withholds F.shape.cells (besides (withheld F (reopen F new c st)) x) (withheld F (opened c st))
      still here y _ b =
          let p = and_parts (withheld F (reopen F new c st) y) (not (eqb y x)) b in
          elim (or_cases (sensitive F.need y) ((reopen F new c st).complement y) p.0) [
            | inl s ↦ or_left _ _ s
            | inr m ↦ or_right (sensitive F.need y) _
                (and_from _ _ (reopen_fewer c st y m) (ap (λ z. not (eqb y z)) (sym here) ∙ p.1))
          ]

      exposed_then : x ≡ c → opens c st ≡ false → is_some (audit F (withheld F (opened c st))) ≡ true
      exposed_then here e =
          elim (cases_Bool (is_some (audit F (withheld F (opened c st))))) [
            | inl found ↦ found
            | inr none ↦ absurd (both_ways (opens c st) e (and_from _ _ (ap new (sym here) ∙ is_new) (not_from_false _ none)))
          ]

-- A search, where each printed cell is bare and what is printed exposes nobody.
module _ (F : Figures) (ok : Settled F) (st : Standing) (apart : PrintedBare F st) (safe : Safe F (unprinted st)) where
  pub search_printed : (searched F st).printed ≡ st.printed
  search_printed = reopen_printed F ok (newly F st) F.shape.cells (closed F st)

  pub search_adds : (c : ℕ) → st.complement c ≡ true → (searched F st).complement c ≡ true
  search_adds c on =
      reopen_keeps_old F ok (newly F st) F.shape.cells (closed F st) c
      (go (ltb c F.shape.cells) (sensitive F.need c) (st.complement c) (st.printed c) on)
      (or_left _ _ on)
    where
      go : (a s m q : Bool) → m ≡ true → ((a && not (s || m)) && not q) ≡ false
      go true true true q e = refl
      go true false true q e = refl
      go false s true q e = refl
      go a s false q e = absurd (both_ways false refl e)

  closed_off : (c : ℕ) → st.printed c ≡ true → (closed F st).complement c ≡ false
  closed_off c p = go (bare F st c) (st.complement c) (st.printed c) (or_parts _ _ (bare_parts F st c (apart c p)).1).1 p
    where
      go : (b m q : Bool) → m ≡ false → q ≡ true → (m || (b && not q)) ≡ false
      go true m true e f = or_from m _ e refl
      go false m true e f = or_from m _ e refl
      go b m false e f = absurd (both_ways false refl f)

  pub search_apart : (c : ℕ) → st.printed c ≡ true → bare F (searched F st) c ≡ true
  search_apart c p =
      bare_still F st (searched F st) c (apart c p)
      (elim (cases_Bool ((searched F st).complement c)) [
        | inr off ↦ off
        | inl on ↦ absurd (both_ways _ (closed_off c p) (reopen_fewer F ok (newly F st) F.shape.cells (closed F st) c on))
      ])

  -- once every open cell is withheld, only printed cells are not
  closed_hides : Withholds F.shape.cells (unprinted st) (withheld F (closed F st))
  closed_hides c l u = go (ltb c F.shape.cells) (sensitive F.need c) (st.complement c) (st.printed c) (lt-ltb c _ l) u
    where
      go : (a s m q : Bool) → a ≡ true → not q ≡ true → (s || (m || ((a && not (s || m)) && not q))) ≡ true
      go a true m q e f = refl
      go a false true q e f = refl
      go true false false false e f = refl
      go true false false true e f = f
      go false false false q e f = absurd (both_ways false refl e)

  pub search_safe : Safe F (withheld F (searched F st))
  search_safe =
      reopen_safe F ok (newly F st) F.shape.cells (closed F st) (safe_more F (unprinted st) (withheld F (closed F st)) closed_hides safe)

  pub search_needed : (c : ℕ) → c < F.shape.cells → st.complement c ≡ false → (searched F st).complement c ≡ true
      → Exposes F (besides (withheld F (searched F st)) c)
  search_needed c l off on =
      reopen_needed F ok (newly F st) F.shape.cells (closed F st) c l
      (elim (or_cases (st.complement c) (newly F st c) (reopen_fewer F ok (newly F st) F.shape.cells (closed F st) c on)) [
        | inl was ↦ absurd (both_ways _ off was)
        | inr added ↦ added
      ])
      on
