use Rattle.annotate.proofs.Annotating.{come_out}
use Rattle.annotate.proofs.laws.comments_come_out.Goals as goal

pub returns : goal.returns
returns c = come_out
