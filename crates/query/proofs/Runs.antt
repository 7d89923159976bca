-- How moves along a word join: at the end of one word and the beginning of the next.
use Rattle.std.proofs.Common.{◌≡◌, ℕ, true, List, [], ◌∷◌, ◌++◌, Decides, sym, refl, subst}
use Rattle.query.specs.Meaning.{Meaning}
use Rattle.query.specs.Words.{Leads}
use Rattle.masks.specs.Members.{member}

module _ (m : Meaning) where
  -- Moves along one word and then along another are moves along both, joined.
  pub leads_join : (v w : List ℕ) (s u t : ℕ) → Leads m s v u → Leads m u w t → Leads m s (v ++ w) t
  leads_join [] w s u t e r = subst (λ (x : ℕ). Leads m x w t) (sym e) r
  leads_join (l ∷ v) w s u t p r = (p.0, p.1, leads_join v w p.0 u t p.2 r)

  -- And the other way round: moves along both words pass some state between them.
  pub leads_split : (v w : List ℕ) (s t : ℕ) → Leads m s (v ++ w) t → (u : ℕ) × Leads m s v u × Leads m u w t
  leads_split [] w s t r = (s, refl, r)
  leads_split (l ∷ v) w s t p =
      let q = leads_split v w p.0 t p.2 in
      (q.0, (p.0, p.1, q.1), q.2)

  -- One label more at the end: one move more.
  pub leads_push : (v : List ℕ) (l s u t : ℕ) → Leads m s v u → m.moves u l t ≡ true → Leads m s (v ++ l ∷ []) t
  leads_push v l s u t r e = leads_join v (l ∷ []) s u t r (t, e, refl)

  pub leads_pop : (v : List ℕ) (l s t : ℕ) → Leads m s (v ++ l ∷ []) t → (u : ℕ) × Leads m s v u × (m.moves u l t ≡ true)
  leads_pop v l s t r =
      let q = leads_split v (l ∷ []) s t r in
      (q.0, q.1, subst (λ (x : ℕ). m.moves q.0 l x ≡ true) q.2.2 q.2.1)

  -- The set holds just the states that the word can lead to from the start.
  abbrev pub Reached : ℕ → List ℕ → Type 0
  Reached set w = (t : ℕ) → Decides (member set t) (Leads m 0 w t)

  pub reached_more : (set set' : ℕ) (w : List ℕ) (l : ℕ) → Reached set w → ((t : ℕ) → Decides (member set' t) ((s : ℕ) × (member set s ≡ true) × (m.moves s l t ≡ true))) → Reached set' (w ++ l ∷ [])
  reached_more set set' w l sofar next t = (
    λ e. let p = (next t).0 e in leads_push w l 0 p.0 t ((sofar p.0).0 p.1) p.2,
    λ r. let p = leads_pop w l 0 t r in (next t).1 (p.0, (sofar p.0).1 p.1, p.2),
  )
