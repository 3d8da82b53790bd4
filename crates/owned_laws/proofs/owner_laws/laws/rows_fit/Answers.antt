use Rattle.owned_laws.proofs.OwnerLaws.Rows.{rows_fit}
use Rattle.owned_laws.proofs.owner_laws.laws.rows_fit.Goals as goal

-- the constraints of each form fit where the skeletons of its parts are inside one owner, by the laws of flows
pub returns : goal.returns
returns c = rows_fit (record {
  stay = c.flows_stay.ensures.flow;
  made_equal = c.flows_stay.ensures.equate;
  smashed = c.flows_stay.ensures.smash;
  unsmashed = c.flows_stay.ensures.unsmash;
})
