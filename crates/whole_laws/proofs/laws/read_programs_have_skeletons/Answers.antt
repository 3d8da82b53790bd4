use Rattle.whole_laws.proofs.Programs.{have_skeletons}
use Rattle.whole_laws.proofs.laws.read_programs_have_skeletons.Goals as goal

pub returns : goal.returns
returns c = have_skeletons c.places_differ.ensures c.firsts_have_skeletons.ensures c.programs_have_skeletons.ensures
