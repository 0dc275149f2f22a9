use Rattle.cdc_cache.specs.Carry.{SchemeLaws}
use Rattle.cdc_cache.specs.SidesLaws.{hits_give_memory}
use Rattle.cdc_cache.proofs.laws.hits_give_memory.Goals as goal

pub returns : goal.returns
returns g c =
    let s = g.met.S.Scheme in
    let laws : SchemeLaws g.S.Scheme = record {
      knows_write = s.knows_write;
      knows_boundary = s.knows_boundary;
      dates_write = s.dates_write;
      dates_target = s.dates_target;
      dates_neighbour = s.dates_neighbour;
      dates_wrote = s.dates_wrote;
      first = s.first;
      second = s.second;
    } in hits_give_memory g.S.Scheme laws
