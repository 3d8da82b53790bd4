use Rattle.std.proofs.Common.{ℕ, subst, inl}
use Rattle.flow_graph.specs.Paths.{Lead, Returning}
use Rattle.flow_graph.specs.declared.phase.Phase.TheVariants.{First}
use Rattle.lattice_solver.specs.Phases.{set_of}
use Rattle.lattice_solver.specs.Solution.{reached_at}
use Rattle.closure_check.specs.Parts.{AreBelow, AreSets, certificate_of}
use Rattle.certificate_maker.proofs.Written.{pairs_below, pairs_say, sets_of, sets_say}
use Rattle.certificate_maker.proofs.Solved.{first_exact, second_exact}
use Rattle.certificate_maker.proofs.maker.certificate.Goals as goal

-- the pairs are the joined ones, and the sets have just what leads to each variable
pub returns-clause-written : goal.returns-clause-written
returns-clause-written c =
    let sys = c.args.graph.now in
    let lattice = c.args.lattice in
    let solution = c.args.solver.now in
    let vars = c.vars-vars.result in
    let below = c.vars-vars.ensures.above in
    record {
      paired = pairs_say sys lattice c.in_ok-pairs.pairs.items c.in_ok-pairs.ensures.joined;
      first = sets_say sys lattice vars below (λ e v. Returning sys lattice e v)
          (λ v. set_of solution.phases First v) c.in_ok-first.first.items c.in_ok-first.ensures
          (λ e v path. inl path) (first_exact sys lattice solution c.requires.lattice c.requires.solved);
      second = sets_say sys lattice vars below (λ e v. Lead sys lattice e v)
          (λ v. reached_at solution v) c.in_ok-second.second.items c.in_ok-second.ensures
          (λ e v path. path) (second_exact sys lattice solution c.requires.lattice c.requires.solved);
    }

-- the lists are a certificate of the graph: their pairs ascend and their sets are of the lattice
pub returns-clause-part : goal.returns-clause-part
returns-clause-part c = λ order named.
    let sys = c.args.graph.now in
    let lattice = c.args.lattice in
    let solution = c.args.solver.now in
    let vars = c.vars-vars.result in
    let below = c.vars-vars.ensures.above in
    let same = c.vars-vars.ensures.value in
    record {
      firsts = subst (λ (n : ℕ). AreSets order n c.in_ok-first.first.items) same
          (sets_of sys lattice vars below (λ e v. Returning sys lattice e v)
          (λ v. set_of solution.phases First v) c.in_ok-first.first.items c.in_ok-first.ensures
          (λ e v path. inl path) (first_exact sys lattice solution c.requires.lattice c.requires.solved) order named);
      seconds = subst (λ (n : ℕ). AreSets order n c.in_ok-second.second.items) same
          (sets_of sys lattice vars below (λ e v. Lead sys lattice e v)
          (λ v. reached_at solution v) c.in_ok-second.second.items c.in_ok-second.ensures
          (λ e v path. path) (second_exact sys lattice solution c.requires.lattice c.requires.solved) order named);
      ascending = c.in_ok-pairs.ensures.ascending;
      below = subst (λ (n : ℕ). AreBelow n c.in_ok-pairs.pairs.items) same
          (pairs_below sys lattice vars below c.in_ok-pairs.pairs.items c.in_ok-pairs.ensures.joined);
    }

-- of an accepted, well owned program the certificate obeys the rules
pub returns-clause-holds : goal.returns-clause-holds
returns-clause-holds c = λ order owned is_order accepted.
    c.accepted_is_certified.ensures c.args.graph.now c.args.lattice order (certificate_of
    (record { pairs = c.in_ok-pairs.pairs; first = c.in_ok-first.first; second = c.in_ok-second.second })) owned
    is_order (returns-clause-written c) accepted
