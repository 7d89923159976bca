-- A path's first link, and a path with one link more at its end.
use Rattle.std.proofs.Common.{◌≡◌, ℕ, ◌<◌, ◌≤◌, min, List, [], ◌∷◌, ◌++◌, length, refl, arith}
use Rattle.std.specs.Prelude.{IsSome}
use Rattle.paths.specs.Links.{Links, Triple}
use Rattle.paths.specs.Paths.{Chain, Path, path_time, time_of}

pub first_link : (G : Links) (a b : ℕ) (ts : List Triple) → Path G a ts b → (t : Triple) × (us : List Triple) × (ts ≡ t ∷ us) × IsSome (G t) × (path_time G ts ≤ time_of G t)
first_link G a b [] path = absurd (let some = path.some in omega arith)
first_link G a b (t ∷ ts) path = (t, ts, refl, path.laid.1, grind arith)

pub chain_push : (G : Links) (ts : List Triple) (t : Triple) (a b c : ℕ) → Chain G a ts c → Chain G c (t ∷ []) b → Chain G a (ts ++ t ∷ []) b
chain_push G [] t a b c e last = grind arith
chain_push G (u ∷ ts) t a b c chain last = grind (arith, chain_push G ts t u.to b c)

pub path_time-push : (G : Links) (ts : List Triple) (t : Triple) → 0 < length ts → path_time G (ts ++ t ∷ []) ≡ min (path_time G ts) (time_of G t)
path_time-push G [] t some = absurd (omega arith)
path_time-push G (u ∷ []) t some = omega arith
path_time-push G (u ∷ v ∷ ts) t some = omega (arith, path_time-push G (v ∷ ts) t)
