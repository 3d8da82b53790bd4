use Rattle.std.proofs.Common.{ℕ, ◌+◌, List, sym, subst}
use Rattle.flow_query.specs.Ends.{AreThoseBelow, IsBound}
use Rattle.flow_query.proofs.Those.{those_push, those_same}
use Rattle.flow_query.proofs.Listing.{bound_stands}
use Rattle.flow_query.proofs.Ending.{is_no_bound}
use Rattle.flow_query.proofs.ends.list_bound.Goals as goal

-- a constraint that is no bound leaves the list of bounds that of those up to it
pub returns-in-None : goal.returns-in-None
returns-in-None c = λ those.
    let sys = c.args.graph.now in
    let Is : ℕ → Type 0 = λ n. IsBound sys c.args.lattice n in
    those_same Is c.args.number c.args.bounds.now.items those
    (is_no_bound sys c.args.lattice c.args.number c.constraint.result c.constraint.ensures.there c.in-None.ensures)

-- a constraint that is a bound, at the end of the list, makes it that of the bounds up to it
pub returns-in_ok-push-in-Some : goal.returns-in_ok-push-in-Some
returns-in_ok-push-in-Some c = λ those.
    let sys = c.args.graph.now in
    let Is : ℕ → Type 0 = λ n. IsBound sys c.args.lattice n in
    let Of : List ℕ → Type 0 = λ numbers. AreThoseBelow Is (c.args.number + 1) numbers in
    let bound = c.in-Some.field-0 in
    let own = bound_stands sys c.args.lattice c.args.number c.constraint.result c.constraint.ensures.there bound.elem
    bound.at c.in-Some.ensures in
    subst Of (sym c.in_ok-push-in-Some.ensures.items)
    (those_push Is c.args.number c.args.bounds.now.items those (bound.at, own.0, own.1))
