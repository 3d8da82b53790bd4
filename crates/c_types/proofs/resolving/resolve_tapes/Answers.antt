use Rattle.std.proofs.lemmas.Result.{IfOk-weaker, IfErr-weaker}
use Rattle.unit_shapes.specs.Views.{names_in}
use Rattle.unit_types.specs.Resolved.{tapes_of}
use Rattle.c_types.proofs.Sources.{named_is, none_is, first_is}
use Rattle.c_types.proofs.resolving.resolve_tapes.Goals as goal

-- where the tapes of sound sources resolve, the sources have no fault
pub returns-clause-none : goal.returns-clause-none
returns-clause-none c =
    IfOk-weaker c.resolve_units.result _ _
    (λ it is sources are. none_is c.names_of_tapes.ensures sources are.sound (tapes_of c.args.tapes.items) are.taped
    c.none_is_found.ensures is)
    c.resolve_units.ensures.none

-- the names and types that are resolved from the tapes of sound sources are those of the sources
pub returns-clause-names : goal.returns-clause-names
returns-clause-names c =
    IfOk-weaker c.resolve_units.result _ _
    (λ it is sources are. named_is c.names_of_tapes.ensures sources are.sound (tapes_of c.args.tapes.items) are.taped
    (names_in it.rows it.names) is)
    c.resolve_units.ensures.names

-- an answer that the tapes of sound sources have a fault names the first fault of the sources, unless memory was short
pub returns-clause-first : goal.returns-clause-first
returns-clause-first c =
    IfErr-weaker c.resolve_units.result _ _
    (λ fault is sources are. first_is c.names_of_tapes.ensures sources are.sound (tapes_of c.args.tapes.items) are.taped
    c.first_fault_is_found.ensures fault is)
    c.resolve_units.ensures.first
