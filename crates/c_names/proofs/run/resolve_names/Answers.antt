use Rattle.std.proofs.Common.{ap, ◌∙◌}
use Rattle.name_rules.specs.Scopes.{Names}
use Rattle.name_rules.specs.Units.{no_names, unit_begun}
use Rattle.name_rules.specs.NameSteps.State.{with_names}
use Rattle.name_rules.specs.NameSteps.Steps.{run}
use Rattle.name_tables.specs.UnitSpelling.Spelled.{spelling_of}
use Rattle.c_names.proofs.Alone.{begun_alone}
use Rattle.c_names.proofs.run.resolve_names.Goals as goal

pub name_unit-requires-clause-shown : goal.name_unit-requires-clause-shown
name_unit-requires-clause-shown c = record { shown = no_names; alike = λ t knows. c.in_ok-names.ensures t }

-- the names of a unit that is resolved alone are those along its tape from no names
pub returns-clause-named : goal.returns-clause-named
returns-clause-named c =
    λ t knows.
    let u = spelling_of c.args.spelling.now in
    let tape = c.args.tape.now in
    c.in_ok-named.ensures.named t knows
    ∙ ap (λ (s : Names). (run u tape (with_names (unit_begun u.unit s))).names) (c.in_ok-names.ensures t)
    ∙ ap (λ (s : Names). (run u tape (with_names s)).names) (begun_alone u.unit)
