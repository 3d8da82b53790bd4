use Rattle.c_names.proofs.Low.{declared_low, params_low}
use Rattle.c_names.proofs.state.State.call.Goals as goal
use Rattle.c_names.proofs.state.State.call.Goals.{in-Some, in-None}

-- the parameters taken off the last list that ended, or none, are types of the table
pub function-requires-clause-params : goal.function-requires-clause-params
function-requires-clause-params c =
    elim c.match-pop.branch [
      | in-Some w ↦ rw w.params-is
          (params_low c.args.types.now c.args.self.now c.requires w.in-Some.params _ w.in-Some.ensures)
      | in-None w ↦ rw w.params-is (rw w.new-params.ensures.items tt)
    ]

pub function-requires-clause-back : goal.function-requires-clause-back
function-requires-clause-back c =
    declared_low c.args.types.now c.args.self.now c.requires c.in-Some-pop.declaration _ c.in-Some-pop.ensures
