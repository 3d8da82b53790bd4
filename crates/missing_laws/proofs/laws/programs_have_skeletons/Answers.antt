use Rattle.missing_laws.proofs.Programs as programs
use Rattle.missing_laws.proofs.laws.programs_have_skeletons.Goals as goal

pub returns : goal.returns
returns c = programs.programs_have_skeletons
