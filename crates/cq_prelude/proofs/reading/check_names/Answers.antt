use Rattle.cq_prelude.proofs.ReadLemmas.{sound_alone}
use Rattle.cq_prelude.proofs.reading.check_names.Goals as goal

pub resolve-requires : goal.resolve-requires
resolve-requires c = record { formed = rw c.from_ref.ensures.value (sound_alone c.args.source.now c.requires) }
