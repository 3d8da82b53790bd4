use Rattle.std.proofs.Common.{ℕ, List, IfOk, ap, subst, ◌∙◌}
use Rattle.annotate.specs.Texts.{UnitText}
use Rattle.annotate.specs.Scenes as scenes
use Rattle.cqual_tool.specs.declared.status.Status.TheVariants.{Malformed}
use Rattle.cqual_tool.specs.Statuses.{Says}
use Rattle.cqual_tool.specs.Words.{names_in}
use Rattle.cqual_tool.specs.Programs.{last_of}
use Rattle.cqual_tool.specs.Shapes.{shape_line}
use Rattle.cqual_tool.proofs.preparing.faulty.Goals as goal

-- the line of the fault of names or types is the same over the texts of the units
pub returns-clause-line : goal.returns-clause-line
returns-clause-line c =
    let named = names_in c.args.named.now in
    subst (λ (us : List UnitText). IfOk c.names_refused.result
    (Says Malformed (shape_line (last_of named.sources) us c.args.fault))) (ap scenes.units_of c.deref.ensures.value
    ∙ c.in_ok-units.ensures) (subst (λ (file : List ℕ). IfOk c.names_refused.result (Says Malformed (shape_line file
    (scenes.units_of c.deref.result.now) c.args.fault))) c.last_file.ensures c.names_refused.ensures.line)
