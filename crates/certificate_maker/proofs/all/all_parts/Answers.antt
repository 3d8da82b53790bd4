use Rattle.std.proofs.Common.{◌≡◌, ℕ, Some, slice_get, subst, arith}
use Rattle.lattice_core.specs.View.{orders_of}
use Rattle.lattice_core.proofs.Orders.{order_there, all_orders}
use Rattle.flow_graph.specs.Unfolding.{IsAcceptedIn}
use Rattle.certificate_laws.specs.Certificates.{IsWritten}
use Rattle.closure_check.specs.declared.part.Part.{Part}
use Rattle.closure_check.specs.Parts.{certificate_of, IsPart}
use Rattle.flow_laws.proofs.Leads.{names_in_each}
use Rattle.certificate_maker.proofs.FirstParts.{of_found, next_first, accepted_of_all}
use Rattle.certificate_maker.proofs.all.all_parts.Goals as goal

-- the graph names elements of this lattice alone, as it does of each
pub part_in-requires-clause-named : goal.part_in-requires-clause-named
part_in-requires-clause-named c =
    names_in_each c.args.graph.now
    (orders_of c.args.lattices.now) c.new-at.result c.get.result.now.order c.requires.named
    (order_there c.args.lattices.now c.new-at.result c.get.result.now c.get.ensures)

-- a program that is not accepted in one lattice is not accepted in all
pub returns-in-None-clause-rejected : goal.returns-in-None-clause-rejected
returns-in-None-clause-rejected c = λ none accepted.
    c.in_ok-part.ensures.rejected c.in-None.is
    (accepted c.new-at.result c.get.result.now.order
    (order_there c.args.lattices.now c.new-at.result c.get.result.now c.get.ensures))

-- the certificate of one more lattice joins those of the lattices before it
pub loop-n-preserved : goal.loop-n-preserved
loop-n-preserved c =
    let sys = c.args.graph.now in
    let order = c.get.result.now.order in
    let At : ℕ → Type 0 = λ k. slice_get (orders_of c.args.lattices.now) k ≡ Some order in
    let Own : ℕ → Type 0 = λ k. IsPart sys order c.in-Some.part × IsWritten sys k (certificate_of c.in-Some.part) in
    let In : ℕ → Type 0 = λ k. IsAcceptedIn sys k order in
    next_first sys (orders_of c.args.lattices.now) c.loop-n.n order
    (subst At c.new-at.ensures (order_there c.args.lattices.now c.new-at.result c.get.result.now c.get.ensures))
    c.loop-n.parts.items c.push.new.self.items c.in-Some.part c.in_ok-push-in-Some.ensures.items
    (subst Own c.new-at.ensures (of_found (λ (part : Part). IsPart sys order part × IsWritten sys c.new-at.result
    (certificate_of part)) c.in_ok-part.field-0 c.in-Some.part c.in-Some.is c.in_ok-part.ensures.part))
    (subst In c.new-at.ensures (of_found (λ (part : Part). IsAcceptedIn sys c.new-at.result order) c.in_ok-part.field-0
    c.in-Some.part c.in-Some.is c.in_ok-part.ensures.accepted)) c.loop-n.invariant

-- with a certificate for each lattice, the program is accepted in all of them
pub returns-clause-accepted : goal.returns-clause-accepted
returns-clause-accepted c =
    let all = all_orders c.args.lattices.now in
    let count = c.len-n-end.ensures.count in
    let past = c.loop-n-test.false in
    let most = c.loop-n.auto.n-end in
    accepted_of_all c.args.graph.now (orders_of c.args.lattices.now) c.loop-n.n c.loop-n.parts.items
    (omega (arith, all, count, past, most)) c.loop-n.invariant
