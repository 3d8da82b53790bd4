use Rattle.std.proofs.Common.{[], ap, ◌∙◌}
use Rattle.name_rules.specs.Scopes.{Names}
use Rattle.name_rules.specs.Units.{unit_begun}
use Rattle.name_rules.specs.NameSteps.State.{State, with_names}
use Rattle.name_rules.specs.NameSteps.Steps.{run}
use Rattle.name_tables.specs.UnitSpelling.Spelled.{spelling_of}
use Rattle.c_names.specs.Shown.{state_of, passed_by}
use Rattle.c_names.proofs.Low.{knows_before}
use Rattle.c_names.proofs.run.name_unit.Goals as goal

-- the state before a unit's tape, with its file scope begun, is shown alike by all tables grown from this one
pub run-requires-clause-shown : goal.run-requires-clause-shown
run-requires-clause-shown c = record {
  shown = with_names (unit_begun c.args.spelling.now.unit c.requires.shown.shown);
  alike = λ t passed knows.
      c.new-state.ensures t passed
      ∙ ap (λ (s : Names). passed_by passed (with_names s))
      (c.in_ok-begin_unit.ensures t ∙ ap (unit_begun c.args.spelling.now.unit) (c.requires.shown.alike t knows));
}

pub returns-clause-named : goal.returns-clause-named
unfolding state_of
returns-clause-named c =
    λ t knows.
    let u = spelling_of c.args.spelling.now in
    ap (λ (x : State). x.names)
    (c.in_ok-run.ensures.shown t knows
    ∙ ap (run u c.args.tape.now) (c.new-state.ensures t [] ∙ ap with_names (c.in_ok-begin_unit.ensures t)))

pub returns-clause-shown : goal.returns-clause-shown
unfolding state_of
returns-clause-shown c =
    let u = spelling_of c.args.spelling.now in
    let tape = c.args.tape.now in
    record {
      shown = (run u tape (with_names (unit_begun u.unit c.requires.shown.shown))).names;
      alike = λ t knows.
          let before = knows_before c.args.types.now c.run.new.types t c.in_ok-run.ensures.grown knows in
          ap (λ (x : State). x.names)
          (c.in_ok-run.ensures.shown t knows
          ∙ ap (run u tape) (c.new-state.ensures t []
          ∙ ap with_names (c.in_ok-begin_unit.ensures t ∙ ap (unit_begun u.unit) (c.requires.shown.alike t before))));
    }
