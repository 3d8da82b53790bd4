use Rattle.owned_laws.proofs.OwnerLaws.Fitting.{fitting_is_well_owned, lists_fit, staying_fits, leading_fits}
use Rattle.owned_laws.proofs.owner_laws.laws.fitting_is_well_owned.Goals as goal

pub returns : goal.returns
returns c =
    record { whole = fitting_is_well_owned; lists = lists_fit; flows = staying_fits; calls = leading_fits }
