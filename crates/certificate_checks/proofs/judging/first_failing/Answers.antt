use Rattle.std.proofs.Common.{◌≡◌, ℕ, Some, slice_get, refl, sym, ◌∙◌, subst, arith}
use Rattle.lattice_core.specs.View.{orders_of}
use Rattle.lattice_core.proofs.Orders.{order_there, all_orders}
use Rattle.flow_graph.specs.Unfolding.{IsAcceptedIn}
use Rattle.certificate_laws.specs.Certificates.{IsLowestFailing, Obeys}
use Rattle.closure_check.specs.Parts.{certificate_of}
use Rattle.flow_laws.proofs.Leads.{names_in_each}
use Rattle.certificate_checks.proofs.Checked.{as_many, part_of, next_first, all_obey, all_accepted}
use Rattle.certificate_checks.proofs.judging.first_failing.Goals as goal

-- there is a certificate for each lattice
pub part_of-requires : goal.part_of-requires
part_of-requires c =
    let all = all_orders c.args.lattices.now in
    let many = as_many c.args.graph.now (orders_of c.args.lattices.now) c.args.parts.now c.requires.parts in
    let count = c.len-at-end.ensures.count in
    let at = c.new-lattice.ensures in
    let before = c.loop-at-test.true in
    omega (arith, all, many, count, at, before)

-- the graph names elements of this lattice alone, as it does of each
pub check_part-requires-clause-named : goal.check_part-requires-clause-named
check_part-requires-clause-named c =
    names_in_each c.args.graph.now
    (orders_of c.args.lattices.now) c.new-lattice.result c.get.result.now.order c.requires.named
    (order_there c.args.lattices.now c.new-lattice.result c.get.result.now c.get.ensures)

-- the certificate of this lattice is a part of the graph, as each is that was read
pub check_part-requires-clause-part : goal.check_part-requires-clause-part
check_part-requires-clause-part c =
    part_of c.args.graph.now (orders_of c.args.lattices.now) c.args.parts.now c.new-lattice.result
    c.get.result.now.order c.part_of.result.now c.requires.parts
    (order_there c.args.lattices.now c.new-lattice.result c.get.result.now c.get.ensures) c.part_of.ensures

-- a lattice that breaks a rule, behind such as obey them, is the first that fails
pub returns-in-Err-clause-first : goal.returns-in-Err-clause-first
returns-in-Err-clause-first c =
    let sys = c.args.graph.now in
    let order = c.get.result.now.order in
    let part = c.part_of.result.now in
    let At : ℕ → Type 0 = λ k. slice_get (orders_of c.args.lattices.now) k ≡ Some order in
    let Of : ℕ → Type 0 = λ k. slice_get c.args.parts.now k ≡ Some part in
    let Fails : ℕ → Type 0 = λ k. IsLowestFailing sys k order (certificate_of part) c.in-Err.rule in
    let same = c.new-lattice.ensures ∙ sym c.from.ensures in
    record {
      order = order;
      part = part;
      there = subst At same (order_there c.args.lattices.now c.new-lattice.result c.get.result.now c.get.ensures);
      at = subst Of same c.part_of.ensures;
      fails = subst Fails same c.in-Err.ensures.rule;
      before = λ m below. c.loop-at.invariant.obey m (let at = c.from.ensures in omega (arith, below, at));
    }

-- a lattice whose certificate obeys the rules joins those before it
pub loop-at-preserved : goal.loop-at-preserved
loop-at-preserved c =
    let sys = c.args.graph.now in
    let order = c.get.result.now.order in
    let part = c.part_of.result.now in
    let At : ℕ → Type 0 = λ k. slice_get (orders_of c.args.lattices.now) k ≡ Some order in
    let Of : ℕ → Type 0 = λ k. slice_get c.args.parts.now k ≡ Some part in
    let Own : ℕ → Type 0 = λ k. Obeys sys k order (certificate_of part) in
    let In : ℕ → Type 0 = λ k. IsAcceptedIn sys k order in
    let same = c.new-lattice.ensures in
    next_first sys (orders_of c.args.lattices.now) c.args.parts.now c.loop-at.at order part
    (subst At same (order_there c.args.lattices.now c.new-lattice.result c.get.result.now c.get.ensures))
    (subst Of same c.part_of.ensures)
    (subst Own same (c.in_default.ensures.holds.0 refl))
    (subst In same c.in_default.ensures.accepted) c.loop-at.invariant

-- when no lattice is left, each certificate obeys the rules
pub returns-clause-first : goal.returns-clause-first
returns-clause-first c =
    let all = all_orders c.args.lattices.now in
    let count = c.len-at-end.ensures.count in
    let past = c.loop-at-test.false in
    let most = c.loop-at.auto.at-end in
    all_obey c.args.graph.now (orders_of c.args.lattices.now) c.args.parts.now c.loop-at.at
    (omega (arith, all, count, past, most)) c.loop-at.invariant

-- where no certificate breaks a rule, the program is accepted in all lattices
pub returns-clause-accepted : goal.returns-clause-accepted
returns-clause-accepted c = λ none.
    let all = all_orders c.args.lattices.now in
    let count = c.len-at-end.ensures.count in
    let past = c.loop-at-test.false in
    let most = c.loop-at.auto.at-end in
    all_accepted c.args.graph.now (orders_of c.args.lattices.now) c.args.parts.now c.loop-at.at
    (omega (arith, all, count, past, most)) c.loop-at.invariant
