use Rattle.std.proofs.Common.{◌≡◌, inl, inr, arith, sym, subst}
use Rattle.std.proofs.lemmas.Bool.{cases_lt}
use Rattle.std.proofs.lemmas.Option.{slice_get_within}
use Rattle.flow_graph.specs.declared.constraint.Link.TheVariants.{Const}
use Rattle.flow_graph.specs.declared.phase.Phase.TheVariants.{First}
use Rattle.flow_graph.specs.System.{Stands}
use Rattle.lattice_solver.proofs.Gaining.{gains_same, gains_then, below_same}
use Rattle.lattice_solver.proofs.turns.begin_all.Goals as goal

pub loop-n-init : goal.loop-n-init
loop-n-init c = record { gains = gains_same _; sound = λ all. all; begun = λ n e v lt st. absurd (omega (arith, lt)) }

pub begin-requires-clause-below : goal.begin-requires-clause-below
begin-requires-clause-below c = below_same c.args.flows.now.graph.now _ _ c.loop-n.invariant.gains.size c.requires.below

-- beginning with one more constraint keeps the constants before it in their sets
pub loop-n-preserved : goal.loop-n-preserved
loop-n-preserved c =
    let so_far = c.loop-n.invariant in
    let step = c.begin.ensures in
    record {
      gains = gains_then c.args.work.now c.loop-n.work c.begin.new.work so_far.gains step.gains;
      sound = λ all. step.sound (so_far.sound all);
      begun = λ n e v lt st. elim (cases_lt n c.loop-n.n) [
        | inl earlier ↦ step.gains.kept First v e (so_far.begun n e v earlier st)
        | inr last ↦
            let is : c.new.result ≡ n = omega (arith, lt, last, c.new.ensures) in
            step.begun e v (subst (λ k. Stands c.args.flows.now.graph.now c.args.flows.now.lattice k
            (Const c.args.flows.now.lattice e v)) (sym is) st)
      ];
    }

-- when all constraints are through, each constant is in the first set of its variable
pub returns-clause-begun : goal.returns-clause-begun
returns-clause-begun c = λ n e v st.
    let within = slice_get_within c.args.flows.now.graph.now.constraints n st.constraint st.there in
    c.loop-n.invariant.begun n e v (omega (arith, within, c.loop-n-test.false, c.len-n-end.ensures.length)) st
