use Rattle.whole_laws.proofs.Programs.{miss_nothing}
use Rattle.whole_laws.proofs.laws.read_programs_miss_nothing.Goals as goal

pub returns : goal.returns
returns c = miss_nothing c.places_differ.ensures c.firsts_have_skeletons.ensures c.programs_miss_nothing.ensures
