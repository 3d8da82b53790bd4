use Rattle.std.proofs.Common.{◌≡◌, ℕ, inl, inr, sym, subst, arith}
use Rattle.std.proofs.lemmas.Bool.{cases_lt}
use Rattle.std.proofs.lemmas.Option.{slice_get_within}
use Rattle.flow_graph.specs.declared.constraint.Link.TheVariants.{Bound}
use Rattle.flow_graph.specs.System.{Stands}
use Rattle.bounds_below.proofs.Gaining.{gains_same, gains_then, below_same}
use Rattle.bounds_below.proofs.flows.begin_all.Goals as goal

pub loop-n-init : goal.loop-n-init
loop-n-init c = record { gains = gains_same _; sound = λ all. all; begun = λ n v b lt st. absurd (omega (arith, lt)) }

pub begin-requires-clause-below : goal.begin-requires-clause-below
begin-requires-clause-below c = below_same c.args.flows.now.graph.now _ _ c.loop-n.invariant.gains.size c.requires

-- beginning with one more constraint keeps the bounds before it in their sets
pub loop-n-preserved : goal.loop-n-preserved
loop-n-preserved c =
    let so_far = c.loop-n.invariant in
    let step = c.in_ok-begin.ensures in
    record {
      gains = gains_then c.args.work.now c.loop-n.work c.begin.new.work so_far.gains step.gains;
      sound = λ all. step.sound (so_far.sound all);
      begun = λ n v b lt st. elim (cases_lt n c.loop-n.n) [
        | inl earlier ↦ step.gains.kept v b (so_far.begun n v b earlier st)
        | inr last ↦
            let is : c.new.result ≡ n = omega (arith, lt, last, c.new.ensures) in
            step.begun v b (subst (λ (k : ℕ). Stands c.args.flows.now.graph.now c.args.flows.now.lattice k
            (Bound v c.args.flows.now.lattice b)) (sym is) st)
      ];
    }

-- when no constraint is left, each bound is in the set of its variable
pub returns-clause-begun : goal.returns-clause-begun
returns-clause-begun c = λ n v b st.
    let within = slice_get_within c.args.flows.now.graph.now.constraints n st.constraint st.there in
    c.loop-n.invariant.begun n v b (omega (arith, within, c.loop-n-test.false, c.len-n-end.ensures.length)) st
