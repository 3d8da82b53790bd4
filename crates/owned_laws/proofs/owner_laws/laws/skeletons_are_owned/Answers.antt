use Rattle.owned_laws.proofs.OwnerLaws.Intervals.{skeletons_are_owned}
use Rattle.owned_laws.proofs.OwnerLaws.Fitting.{skeletons_at_are_owned}
use Rattle.owned_laws.proofs.owner_laws.laws.skeletons_are_owned.Goals as goal

pub returns : goal.returns
returns c = record { all = skeletons_are_owned; found = skeletons_at_are_owned }
