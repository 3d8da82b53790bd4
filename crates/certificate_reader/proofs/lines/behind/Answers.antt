use Rattle.std.proofs.Common.{arith}
use Rattle.std.proofs.lemmas.Grind.{common_steps}
use Rattle.path_checker.specs.Lines.{behind}
use Rattle.certificate_reader.proofs.lines.behind.Goals as goal

pub returns : goal.returns
unfolding behind
returns c = grind (arith, common_steps, c.strip_prefix.ensures)
