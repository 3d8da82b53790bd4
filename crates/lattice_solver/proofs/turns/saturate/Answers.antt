use Rattle.std.proofs.Common.{◌≡◌, ◌<◌, refl, sym, ◌∙◌, subst, arith}
use Rattle.std.specs.Int.{bit_at}
use Rattle.lattice_core.proofs.Bits.{none_in}
use Rattle.flow_graph.specs.declared.phase.Phase.TheVariants.{First}
use Rattle.lattice_solver.specs.Phases.{HasIn, size_of}
use Rattle.lattice_solver.specs.Working.{Held, left_in}
use Rattle.lattice_solver.proofs.Agreeing.{empty_agrees, turn_agrees}
use Rattle.lattice_solver.proofs.Exact.{all_in}
use Rattle.lattice_solver.proofs.Gaining.{system_same}
use Rattle.lattice_solver.proofs.Over.{empty_over, over_on}
use Rattle.lattice_solver.proofs.turns.saturate.Goals as goal

-- after the start each variable that does not wait has nothing, so all constraints agree there
pub loop-taken-init : goal.loop-taken-init
loop-taken-init c =
    let gains = c.begin_all.ensures.gains in
    record {
      size = gains.size;
      sound = c.begin_all.ensures.sound
          (λ p v e has. absurd (none_in e (subst (λ set. bit_at set e ≡ 1) (c.requires.empty p v) has)));
      begun = c.begin_all.ensures.begun;
      agree = λ v quiet.
          empty_agrees c.args.flows.now.graph.now c.args.flows.now.lattice c.args.flows.now.summaries.now
          c.begin_all.new.work.sets v
          (λ p. (gains.still v quiet).1 p ∙ c.requires.empty p v);
      over = empty_over c.args.flows.now.graph.now c.args.flows.now.lattice c.args.flows.now.summaries.now
          c.args.passed.now c.begin_all.new.work.sets c.requires.room c.requires.none;
      same = refl;
    }

-- the passed sets stay right when a variable is taken, as sets only grow
pub pass_on-requires : goal.pass_on-requires
pass_on-requires c = record {
  over = over_on c.args.flows.now.graph.now c.args.flows.now.lattice c.args.flows.now.summaries.now c.loop-taken.passed
      c.loop-taken.work.sets c.take.new.self.sets
      c.in-Some.ensures.taken.kept c.loop-taken.invariant.over;
  ready =
      system_same c.args.flows.now _ _ (c.in-Some.ensures.taken.size ∙ c.loop-taken.invariant.size) c.requires.ready;
}

pub loop-taken-smaller : goal.loop-taken-smaller
loop-taken-smaller c =
    let less : left_in c.pass_on.new.work < left_in c.loop-taken.work =
    omega (arith, c.pass_on.ensures.gains.left, c.in-Some.ensures.taken.left) in
    less

-- carrying on what was taken makes the constraints agree at the variable, which waits no more
pub loop-taken-preserved : goal.loop-taken-preserved
loop-taken-preserved c =
    let so_far = c.loop-taken.invariant in
    let up = c.in-Some.ensures.taken in
    let gains = c.pass_on.ensures.gains in
    let all = c.in-Some.ensures.sound c.args.flows.now.lattice so_far.sound in
    record {
      size = gains.size ∙ up.size ∙ so_far.size;
      sound = c.pass_on.ensures.sound
          (λ p e has. all p c.in-Some.taken.at e (subst (λ set. bit_at set e ≡ 1) (up.had p) has)) all;
      begun = λ n e v st. gains.kept First v e (up.kept First v e (so_far.begun n e v st));
      agree = turn_agrees c.args.flows.now.graph.now c.args.flows.now.lattice c.args.flows.now.summaries.now
          c.loop-taken.work c.take.new.self c.pass_on.new.work c.in-Some.taken up gains
          c.pass_on.ensures.carried so_far.agree;
      over = c.pass_on.ensures.over;
      same = c.pass_on.ensures.same ∙ so_far.same;
    }

-- when nobody waits, the sets have exactly what leads to each variable in each phase
pub returns-clause-exact : goal.returns-clause-exact
returns-clause-exact c = λ p v e.
    let so_far = c.loop-taken.invariant in
    let same = c.in_default.ensures.same in (
      λ has. so_far.sound p v e (subst (λ (held : Held). HasIn held.sets p v e) same has),
      λ path. subst (λ (held : Held). HasIn held.sets p v e) (sym same)
          (all_in c.args.flows.now.graph.now c.args.flows.now.lattice c.args.flows.now.summaries.now
          c.loop-taken.work.sets c.requires.ready.summarised so_far.begun
          (λ u. so_far.agree u (c.in_default.ensures.none u)) p v e path),
    )

pub returns-clause-size : goal.returns-clause-size
returns-clause-size c =
    subst (λ (held : Held). size_of held.sets ≡ size_of c.args.work.now.sets)
    (sym c.in_default.ensures.same) c.loop-taken.invariant.size
