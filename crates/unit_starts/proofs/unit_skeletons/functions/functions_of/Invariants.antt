use Rattle.std.proofs.Common.{◌≡◌, ◌++◌, drop, map}
use Rattle.type_table.specs.Rows.{type_of}
use Rattle.name_rules.specs.Linking.{link_of}
use Rattle.row_rules.specs.Sites.{first_place, functions_among}
use Rattle.name_state.specs.UnitNames.Shown.{declared_of}
use Rattle.unit_shapes.specs.Views.{names_in}
use Rattle.unit_starts.proofs.unit_skeletons.functions.functions_of.Given as goal

-- invariant of the loop: the functions found and still to come are those of all declarations, by their links
abbrev pub invariant-loop-declared : goal.invariant-loop-declared
invariant-loop-declared l =
    let s = names_in l.types l.names in
    let bodies = map first_place s.bodies in
    l.found ++ map (link_of s)
    (functions_among bodies (map (declared_of (type_of l.types)) (drop l.declared-index l.all)))
    ≡ map (link_of s) (functions_among bodies (map (declared_of (type_of l.types)) l.all))
