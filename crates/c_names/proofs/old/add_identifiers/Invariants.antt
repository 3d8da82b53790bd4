use Rattle.std.proofs.Common.{◌≡◌, ◌++◌, [], ℕ, drop, map}
use Rattle.type_table.specs.Types.{CType, base}
use Rattle.name_rules.specs.Identifiers.{old_faults, old_types}
use Rattle.name_tables.specs.UnitSpelling.Spelled.{spelling_of}
use Rattle.name_state.specs.UnitNames.Shown.{names_of}
use Rattle.c_names.specs.Shown.{old_of}
use Rattle.c_names.proofs.old.add_identifiers.Given as goal

-- names and types so far, with what the identifiers left add, are as with what all of them add at first
abbrev pub invariant-loop-it : goal.invariant-loop-it
invariant-loop-it l = record {
  names : (t : ℕ → CType)
      → old_faults (spelling_of l.spelling) (map (old_of t) (drop l.it-index l.identifiers)) (names_of t l.names)
      ≡ old_faults (spelling_of l.spelling) (map (old_of t) l.identifiers) (names_of t l.initial.names);
  types : (t : ℕ → CType) → t l.plain ≡ base []
      → map t l.types.items ++ old_types (map (old_of t) (drop l.it-index l.identifiers))
      ≡ map t l.initial.types.items ++ old_types (map (old_of t) l.identifiers);
}
