use Rattle.flow_laws.proofs.Exact.{subs_are_sub_paths}
use Rattle.flow_laws.proofs.forms.subs_are_sub_paths.Goals as goal

pub returns : goal.returns
returns c = subs_are_sub_paths
