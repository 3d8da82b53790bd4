use Rattle.std.proofs.Common.{sym, ap, take, ◌∙◌}
use Rattle.name_rules.specs.NameSteps.Steps.{names_step}
use Rattle.name_tables.specs.UnitSpelling.Spelled.{spelling_of}
use Rattle.c_names.specs.Shown.{state_of}
use Rattle.c_names.proofs.state.State.step.Goals as goal

-- an op of statements does to the state what the rules' step over it does
pub returns-in_ok-statement-in-Stmt-clause-shown : goal.returns-in_ok-statement-in-Stmt-clause-shown
returns-in_ok-statement-in-Stmt-clause-shown c =
    λ t knows.
    let u = spelling_of c.args.spelling.now in
    let passed = take c.args.at c.args.tape.now in
    c.in_ok-statement-in-Stmt.ensures t passed
    ∙ ap (names_step u (state_of t passed c.args.self.now)) (sym c.in-Stmt.is)
