use Rattle.split_laws.proofs.Serving.{served_is_whole}
use Rattle.split_laws.proofs.served_is_whole.Goals as goal

pub returns : goal.returns
returns c = served_is_whole
