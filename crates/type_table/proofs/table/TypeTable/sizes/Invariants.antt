use Rattle.std.proofs.Common.{◌≡◌, ◌+◌, drop}
use Rattle.type_table.specs.Types.{sizes}
use Rattle.type_table.specs.Rows.{capped, types_at, types_of}
use Rattle.type_table.proofs.table.TypeTable.sizes.Given as goal

-- what is left is added to the sizes of those before it
abbrev pub invariant-loop-ty : goal.invariant-loop-ty
invariant-loop-ty l =
    (capped (l.total + sizes (types_at (types_of l.self) (drop l.ty-index l.types)))
    ≡ capped (sizes (types_at (types_of l.self) l.types)))
    × (capped l.total ≡ l.total)
