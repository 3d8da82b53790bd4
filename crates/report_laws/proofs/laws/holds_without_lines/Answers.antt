use Rattle.report_laws.proofs.Unlined.{holds_without_lines}
use Rattle.report_laws.proofs.laws.holds_without_lines.Goals as goal

pub returns : goal.returns
returns c = holds_without_lines
