use Rattle.std.proofs.Common.{sym, ◌∙◌}
use Rattle.unit_starts.proofs.UnitSkeletons.Counting.{some_number, no_number}
use Rattle.unit_starts.proofs.unit_skeletons.place_numbers.PlaceNumbers.number.Goals as goal

-- a place that is there has its index as its number
pub returns-in-Some : goal.returns-in-Some
returns-in-Some c =
    let is = c.self.invariant.numbers c.args.at.now in
    let number = some_number c.self.inside.all.items c.args.at.now c.in-Some.number
    (sym is ∙ sym c.get.ensures ∙ c.in-Some.is) in
    let view = c.self.view_is in cc

-- a place that is not there has the count of all as its number
pub returns-in-None : goal.returns-in-None
returns-in-None c =
    let is = c.self.invariant.numbers c.args.at.now in
    let number = no_number c.self.inside.all.items c.args.at.now (sym is ∙ sym c.get.ensures ∙ c.in-None.is) in
    let view = c.self.view_is in let count = c.len.ensures in cc
