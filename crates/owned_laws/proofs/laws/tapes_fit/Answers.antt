use Rattle.row_rules.specs.RowSteps.State.{nothing}
use Rattle.owned_laws.proofs.Found.{Laws, Setting}
use Rattle.owned_laws.proofs.Steps.{tape_fits, nothing_in}
use Rattle.owned_laws.proofs.laws.tapes_fit.Goals as goal

-- where each op of a tape fits in one function, so do the constraints of the tape
pub returns : goal.returns
returns c functions starts cs w f tape settled fits = tape_fits k tape nothing (nothing_in k) tt fits
  where
    law : Laws
    law = record {
      rows = c.rows_fit.ensures;
      instances = c.instances_fit.ensures;
      lists = c.fitting_is_well_owned.ensures.lists;
      parts = c.parts_stay.ensures;
      found = c.skeletons_are_owned.ensures.found;
    }

    k : Setting
    k = record {
      law = law;
      functions = functions;
      starts = starts;
      constraints = cs;
      world = w;
      function = f;
      settled = settled;
    }
