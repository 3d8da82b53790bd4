use Rattle.std.proofs.Common.{ℕ, ◌+◌, List, sym, subst, arith}
use Rattle.flow_query.specs.declared.ends.Constant.{Constant}
use Rattle.flow_query.specs.Ends.{AreStartsBelow, AreThoseBelow, IsConstant}
use Rattle.flow_query.proofs.Those.{those_push, those_same}
use Rattle.flow_query.proofs.Listing.{constant_stands}
use Rattle.flow_query.proofs.Ending.{const_stands, is_none_constant, starts_push, starts_same}
use Rattle.flow_query.proofs.ends.list_constant.Goals as goal

-- a constraint that is no constant leaves the list of constants that of those up to it
pub returns-in-None-clause-constants : goal.returns-in-None-clause-constants
returns-in-None-clause-constants c = λ those.
    let sys = c.args.graph.now in
    let Is : ℕ → Type 0 = λ n. IsConstant sys c.args.lattice n in
    those_same Is c.args.number c.args.constants.now.items those
    (is_none_constant sys c.args.lattice c.args.number c.constraint.result c.constraint.ensures.there c.in-None.ensures)

-- a constraint that is no constant leaves the starts those of the constants up to it
pub returns-in-None-clause-starts : goal.returns-in-None-clause-starts
returns-in-None-clause-starts c = λ starts.
    let sys = c.args.graph.now in
    starts_same sys c.args.lattice c.args.number c.args.starts.now.items starts
    (is_none_constant sys c.args.lattice c.args.number c.constraint.result c.constraint.ensures.there c.in-None.ensures)

-- a constraint that is a constant, at the end of the list, makes it that of the constants up to it
pub returns-in_ok-push-in-Some-2-clause-constants : goal.returns-in_ok-push-in-Some-2-clause-constants
returns-in_ok-push-in-Some-2-clause-constants c = λ those.
    let sys = c.args.graph.now in
    let Is : ℕ → Type 0 = λ n. IsConstant sys c.args.lattice n in
    let Of : List ℕ → Type 0 = λ numbers. AreThoseBelow Is (c.args.number + 1) numbers in
    let constant = c.in-Some.constant in
    let own = constant_stands sys c.args.lattice c.args.number c.constraint.result c.constraint.ensures.there
    constant.elem constant.at c.in-Some.ensures in
    subst Of (sym c.in_ok-push-in-Some.ensures.items)
    (those_push Is c.args.number c.args.constants.now.items those (constant.at, own.0, own.1))

-- a constraint that is a constant, with its variable as a start, makes the starts those up to it
pub returns-in_ok-push-in-Some-2-clause-starts : goal.returns-in_ok-push-in-Some-2-clause-starts
returns-in_ok-push-in-Some-2-clause-starts c = λ starts.
    let sys = c.args.graph.now in
    let constant = c.in-Some.constant in
    let Of : List Constant → Type 0 = λ list. AreStartsBelow sys c.args.lattice (c.args.number + 1) list in
    subst Of (sym c.in_ok-push-in-Some-2.ensures.items) (starts_push sys c.args.lattice c.args.number
    c.args.starts.now.items constant (grind arith) starts (const_stands sys c.args.lattice c.args.number
    c.constraint.result c.constraint.ensures.there constant.elem constant.at c.in-Some.ensures))
