use Rattle.flow_laws.proofs.Shown.{shown_holds}
use Rattle.flow_laws.proofs.forms.shown_holds.Goals as goal

pub returns : goal.returns
returns c = shown_holds
