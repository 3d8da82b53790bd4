use Rattle.std.proofs.Common.{◌≡◌, ◌+◌, ◌++◌, map, drop}
use Rattle.row_rules.specs.Sites.{variables_among}
use Rattle.unit_shapes.specs.Views.{names_in}
use Rattle.unit_starts.specs.Views.{start_in}
use Rattle.constraint_gen.specs.Listing.{is_listed, listed_from}
use Rattle.constraint_gen.specs.Marking.{NumbersDiffer}
use Rattle.constraint_gen.proofs.listing.listed_starts.Given as goal

-- invariant of the loop: what is listed, with the skeletons still to come, is the listing of all; so is the count
abbrev pub invariant-loop-start : goal.invariant-loop-start
invariant-loop-start l =
    (NumbersDiffer l.units
    → l.found.items ++ listed_from (is_listed l.units (names_in l.program.rows l.program.names)) l.from
    (map (start_in l.program.rows) (drop l.start-index l.starts))
    ≡ listed_from (is_listed l.units (names_in l.program.rows l.program.names)) 0
    (map (start_in l.program.rows) l.starts))
    × (l.from + variables_among (map (start_in l.program.rows) (drop l.start-index l.starts))
    ≡ variables_among (map (start_in l.program.rows) l.starts))
