use Rattle.skel_steps.specs.Picks.{candidate_in}
use Rattle.skel_steps.proofs.Candidates.{zero_added, other_added}
use Rattle.skel_steps.proofs.picks.PickedVal.add.Goals as goal
use Rattle.std.proofs.Common.{refl}

-- a candidate that is no zero is one more of all and of those that are none
pub returns-then-not-is_zero : goal.returns-then-not-is_zero
returns-then-not-is_zero c = λ rows all p. other_added rows all (candidate_in rows c.args.val.now c.args.is_zero)
    c.args.self.now _ p (cc) c.more-self.ensures (c.first-self.ensures rows) c.more-self-then-not-is_zero.ensures
    (c.first-self-then-not-is_zero.ensures rows)

pub returns-else-not-is_zero : goal.returns-else-not-is_zero
returns-else-not-is_zero c = λ rows all p. zero_added rows all (candidate_in rows c.args.val.now c.args.is_zero)
    c.args.self.now _ p (cc) c.more-self.ensures (c.first-self.ensures rows) refl refl
