use Rattle.std.proofs.Common.{arith, ◌≡◌, ◌+◌, ◌<◌, ℕ, length, take, subst, ap, ◌∙◌}
use Rattle.type_table.specs.Types.{CType}
use Rattle.name_state.specs.NameTypes.Known.{Knows}
use Rattle.name_rules.specs.NameSteps.Steps.{names_step}
use Rattle.name_tables.specs.UnitSpelling.Spelled.{spelling_of}
use Rattle.unit_shapes.proofs.Implicit.{implicit_grows}
use Rattle.c_names.specs.Shown.{state_of}
use Rattle.c_names.proofs.Low.{knows_before, grows_twice, stepped, shown_after}
use Rattle.c_names.proofs.Running.{runs_on}
use Rattle.c_names.proofs.state.State.run.Goals as goal

-- one op more: the table grows, the state stays shown by it, and the ops left lead where all do
pub loop-op-preserved : goal.loop-op-preserved
loop-op-preserved c =
    let known = c.loop-op.invariant in
    let u = spelling_of c.args.spelling.now in
    let tape = c.args.tape.now in
    let i = c.loop-op.op-index in
    let op = c.op-item.result in
    let grown = c.in_ok-step.ensures.grown in
    let test = c.loop-op-test.true in
    let within : i < length tape = omega arith in
    let made : (t : ℕ → CType) → Knows t c.step.new.types → state_of t (take i tape) c.step.new.self
    ≡ names_step u (state_of t (take i tape) c.loop-op.self) op =
    subst (λ n. (t : ℕ → CType) → Knows t c.step.new.types → state_of t (take n tape) c.step.new.self
    ≡ names_step u (state_of t (take n tape) c.loop-op.self) op) known.counted c.in_ok-step.ensures.shown in
    record {
      counted = ap (λ n. n + 1) known.counted;
      shown = shown_after u op (take i tape)
          (take (i + 1) tape) c.loop-op.types c.step.new.types c.loop-op.self c.step.new.self
          known.shown grown
          (λ t knows. stepped t u tape i op c.loop-op.self c.step.new.self c.op-item.is within (made t knows));
      implicit = implicit_grows c.loop-op.types c.step.new.types c.args.implicit.now grown known.implicit;
      grown = grows_twice c.args.types.now c.loop-op.types c.step.new.types known.grown grown;
      runs = λ t knows.
          runs_on u tape i op (state_of t (take i tape) c.loop-op.self)
          (state_of t (take (i + 1) tape) c.step.new.self) c.op-item.is within
          (stepped t u tape i op c.loop-op.self c.step.new.self c.op-item.is within (made t knows))
          ∙ known.runs t (knows_before c.loop-op.types c.step.new.types t grown knows);
    }
