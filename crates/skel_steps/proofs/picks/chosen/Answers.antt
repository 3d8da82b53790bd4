use Rattle.std.proofs.Common.{[]}
use Rattle.skel_steps.proofs.picks.chosen.Goals as goal

pub returns : goal.returns
returns c = c.add_where-2.ensures _ (c.add_where.ensures [] c.new-picked.ensures)
