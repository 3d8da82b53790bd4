use Rattle.cqual_tool.proofs.Naming.{last_is}
use Rattle.cqual_tool.proofs.preparing.last_file.Goals as goal

pub returns-in-Some : goal.returns-in-Some
returns-in-Some c = last_is c.args.named.now.sources.now c.in-Some.name.now c.in-Some.ensures.value
