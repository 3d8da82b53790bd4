use Rattle.std.proofs.Common.{◌∙◌, ap}
use Rattle.qual_types.specs.Rows.{skel_of}
use Rattle.unit_starts.specs.Views.{start_in}
use Rattle.unit_starts.proofs.UnitSkeletons.Marking.{marked_on}
use Rattle.unit_starts.proofs.UnitSkeletons.Placing.{found_on}
use Rattle.unit_starts.proofs.unit_skeletons.skeletons.Skeletons.add.Goals as goal

-- a skeleton that is added is in the table under its number, with its place as its mark
pub returns-in-Ok-clause-marked : goal.returns-in-Ok-clause-marked
returns-in-Ok-clause-marked c =
    let it = c.in_ok-at.ensures in
    marked_on c.args.self.now.vars c.fresh.new.self (start_in c.args.types.now c.args.start.now) it.kept c.in_ok-at.at
    it.number it.skel it.mark it.inner

-- a skeleton that is added is found at its place, where none was there before
pub returns-in-Ok-clause-found : goal.returns-in-Ok-clause-found
returns-in-Ok-clause-found c =
    let it = c.in_ok-at.ensures in
    let same = c.number.ensures in
    found_on c.args.self.now.vars c.fresh.new.self (start_in c.args.types.now c.args.start.now) it.kept c.number.result
    (same ∙ it.number) (ap (skel_of c.fresh.new.self) same ∙ it.skel) it.count c.args.self.now.starts c.add.new.self
    c.requires c.in-Ok.ensures.added
