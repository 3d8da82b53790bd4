use Rattle.std.proofs.Common.{◌≡◌, ℕ, map, take}
use Rattle.std.specs.List.{filter}
use Rattle.type_table.specs.Types.{CType}
use Rattle.name_state.specs.UnitNames.Shown.{names_of}
use Rattle.name_state.specs.NameLinks.Tables.{AreStatics}
use Rattle.sig_writer.specs.Functions.{is_first}
use Rattle.sig_writer.proofs.functions.first_functions.Given as goal

-- invariant of the loop: what is found is where the things so far were first declared as functions
abbrev pub invariant-loop-thing : goal.invariant-loop-thing
invariant-loop-thing l =
    (t : ℕ → CType) → AreStatics (names_of t l.names).statics l.statics.known →
    l.found.items ≡ map (λ it. it.1) (filter (is_first (names_of t l.names)) (take l.thing-index l.things))
