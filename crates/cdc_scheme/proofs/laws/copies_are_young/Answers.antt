use Rattle.cdc_scheme.specs.HistoryLaw.{StepLaws, copies_are_young}
use Rattle.cdc_scheme.proofs.laws.copies_are_young.Goals as goal

pub returns : goal.returns
returns g c =
    let s = g.met.S.Scheme in
    let laws : StepLaws g.S.Scheme = record {
      knows_start = s.knows_start;
      knows_write = s.knows_write;
      knows_boundary = s.knows_boundary;
      dates_write = s.dates_write;
      dates_target = s.dates_target;
      dates_neighbour = s.dates_neighbour;
      dates_wrote = s.dates_wrote;
      first = s.first;
      second = s.second;
    } in copies_are_young g.S.Scheme laws
