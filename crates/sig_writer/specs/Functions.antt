-- The external functions of sources, each by where it was first declared in all of them (C99, 6.2.2).
use Rattle.std.specs.Prelude.{ℕ, Bool, ◌&&◌, List, map, reverse}
use Rattle.std.specs.List.{filter}
use Rattle.name_rules.specs.Spellings.{Place}
use Rattle.name_rules.specs.Scopes.{Names, declared_at, is_place}
use Rattle.name_rules.specs.Linking.{is_external, link_of}
use Rattle.row_rules.specs.Annotations.{has_access}
use Rattle.row_rules.specs.Starting.{is_some_function}
use Rattle.row_rules.specs.Worlds.{Numbered, numbered_from, skeleton_among}
use Rattle.type_rules.specs.Program.{names_of}
use Rattle.constraint_rules.specs.Systems.{Program, starts_of}
use Rattle.annotate.specs.Texts.{UnitText, bytes_in, unit_in}
use Rattle.sig_writer.specs.Signatures.{External}

-- An external object or function was first declared in all sources at this place, and as a function there.
abbrev pub is_first : Names → ℕ × Place → Bool
is_first s it =
    is_external s.statics it.0 it.1
    && (is_place (link_of s it.1) it.1 && is_some_function (declared_at s.declared it.1))

-- the places, in the order of these declarations
abbrev pub functions_in : Names → List Place
functions_in s = map (λ it. it.1) (filter (is_first s) (reverse s.things))

-- ---- the functions as texts name them

-- an external function by where it was first declared: its name there, and the skeleton that begins there
abbrev pub external_in : List UnitText → List Numbered → Place → External
external_in units skeletons p = record {
  place = p;
  name = bytes_in (unit_in units p.0) p.1;
  skel = skeleton_among skeletons p;
}

-- the external functions of a program, by its units
abbrev pub externals_in : List UnitText → Program → List External
externals_in units p =
    map (external_in units (numbered_from 0 (starts_of (has_access p.lattices) p.sources)))
    (functions_in (names_of p.sources))
