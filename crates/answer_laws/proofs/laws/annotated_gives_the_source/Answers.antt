use Rattle.answer_laws.proofs.Source.{annotated_gives_the_source}
use Rattle.answer_laws.proofs.laws.annotated_gives_the_source.Goals as goal

pub returns : goal.returns
returns c = annotated_gives_the_source c.comments_come_out.ensures
