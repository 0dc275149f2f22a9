-- Sites that tell references apart.
use Rattle.std.specs.Prelude.{ℕ, suc, ◌+◌, ◌≤◌, ◌==◌, if◌then◌else◌, List, [], ◌∷◌}
use Rattle.cdc_prog.specs.Plain.{ProgramUnit, Program}
use Rattle.cdc_prog.specs.Dependence.{Spot}
use Rattle.cdc_path.specs.References.{refs, outside}

-- how many references have this site
abbrev pub times_at : (site : ℕ) → List Spot → ℕ
times_at site [] = 0
times_at site (q ∷ qs) = if q.at.site == site then suc (times_at site qs) else times_at site qs

abbrev pub times_in : (site : ℕ) → List ProgramUnit → ℕ
times_in site [] = 0
times_in site (u ∷ us) = times_at site (refs outside u.body) + times_in site us

-- no two references of a program have one site, but for site 0, which slots have
abbrev pub SitesStandOnce : Program → Type 0
SitesStandOnce p = (site : ℕ) → 1 ≤ site → times_in site p.units ≤ 1
