-- What a program holds of names, with types in place of their numbers.
use Rattle.std.specs.Prelude.{ℕ, map, reverse, option_map}
use Rattle.type_table.specs.Types.{CType}
use Rattle.name_rules.specs.Scopes as rules
use Rattle.name_rules.specs.Faults as fault_rules
use Rattle.name_tables.specs.declared.name_scopes.meant.Meant.{Meant}
use Rattle.name_tables.specs.declared.name_scopes.meant.Meant.TheVariants as meants
use Rattle.name_tables.specs.declared.name_scopes.tags.Tag.{Tag}
use Rattle.name_tables.specs.NameScopes.Meanings.{OneScope}
use Rattle.name_tables.specs.declared.name_records.declarations.Declared.{Declared}
use Rattle.name_tables.specs.declared.name_records.declarations.Role.{Role}
use Rattle.name_tables.specs.declared.name_records.declarations.Role.TheVariants as roles
use Rattle.name_tables.specs.declared.name_records.records.Use.{Use}
use Rattle.name_tables.specs.declared.name_records.records.Use.TheVariants as uses
use Rattle.name_tables.specs.declared.name_records.records.NameUse.{NameUse}
use Rattle.name_tables.specs.declared.name_records.records.TypeNamed.{TypeNamed}
use Rattle.name_tables.specs.declared.name_records.records.Rule.{Rule}
use Rattle.name_tables.specs.declared.name_records.records.Rule.TheVariants as rule_names
use Rattle.name_tables.specs.declared.name_records.records.Fault.{Fault}
use Rattle.name_tables.specs.declared.name_records.body.Own.{Own}
use Rattle.name_tables.specs.declared.name_records.body.Known.{Known}
use Rattle.name_tables.specs.declared.name_records.aggregates.Aggregate.{Aggregate}
use Rattle.name_tables.specs.declared.name_records.aggregates.StructKey.{StructKey}
use Rattle.name_tables.specs.NameRecords.Bodies.{OneBody}
use Rattle.name_tables.specs.NameRecords.Held.{bodied_of}
use Rattle.name_state.specs.declared.unit_names.names.Names.{Names}

-- what a definition is known by in other sources, as the definitions have it
abbrev pub key_of : StructKey → rules.StructKey
key_of it = record { kind = it.kind; by_typedef = it.by_typedef; name = it.name }

-- the struct, union or enum of a tag, as the definitions have it
abbrev pub tagged_of : Tag → rules.Tagged
tagged_of it = record { kind = it.kind; tag = it.tag; number = it.number }

-- what a name is declared as, as the definitions have it
abbrev pub role_of : Role → rules.Role
role_of roles.Typedef = rules.typedef_role
role_of roles.Object = rules.object_role
role_of roles.Function = rules.function_role
role_of (roles.Parameter i) = rules.parameter_role i
role_of (roles.Field n i) = rules.field_role n i
role_of roles.Enumerator = rules.enumerator_role

-- what a name in an expression stands for, as the definitions have it
abbrev pub use_of : Use → rules.Use
use_of (uses.Means at) = rules.means at
use_of uses.Called = rules.called
use_of uses.Missing = rules.missing

-- a name in an expression with its place, as the definitions have it
abbrev pub name_use_of : NameUse → rules.NameUse
name_use_of it = record { at = it.at; use_of = use_of it.use_of }

-- the rule that a fault of names breaks, as the definitions have it
abbrev pub rule_of : Rule → fault_rules.Rule
rule_of rule_names.Undeclared = fault_rules.undeclared
rule_of rule_names.DefinedTwice = fault_rules.defined_twice
rule_of rule_names.TypeTooLarge = fault_rules.type_too_large
rule_of rule_names.NoType = fault_rules.no_type

-- a fault of names, as the definitions have it
abbrev pub fault_of : Fault → fault_rules.Fault
fault_of it = record { at = it.at; rule = rule_of it.rule }

-- by the types of all numbers
module _ (t : ℕ → CType) where
  -- what a name means
  abbrev pub meaning_of : Meant → rules.Meaning
  meaning_of (meants.Type ty) = rules.means_type (t ty)
  meaning_of (meants.Thing at) = rules.means_thing at

  -- a name with what it means
  abbrev pub entry_of : ℕ × Meant → ℕ × rules.Meaning
  entry_of it = (it.0, meaning_of it.1)

  -- a scope
  abbrev pub scope_of : OneScope → rules.Scope
  scope_of s = record { names = map entry_of s.names; tags = map tagged_of s.tags }

  -- a declaration at its place
  abbrev pub declared_of : Declared → rules.Declared
  declared_of d = record { at = d.at; role = role_of d.role; first = d.first; type = t d.ty; owner = d.owner }

  -- a member of a struct of its own
  abbrev pub own_of : Own → rules.Own
  own_of it = record { at = it.at; type = t it.ty }

  -- a member that was found
  abbrev pub known_of : Known → rules.Known
  known_of it = record { name = it.name; at = it.at; type = t it.ty; own = it.own }

  -- a function that has a body
  abbrev pub body_of : OneBody → rules.Body
  body_of it = record { own = map own_of it.own; known = map known_of it.known }

  -- a struct or union
  abbrev pub aggregate_of : Aggregate → rules.Aggregate
  aggregate_of it =
      record { kind = it.kind; at = it.at; body = option_map body_of it.body; key = option_map key_of it.key }

  -- a type's name at its first token
  abbrev pub type_named_of : TypeNamed → rules.TypeNamed
  type_named_of it = record { at = it.at; type = t it.ty }

  -- all that is known of the names of a unit
  unfoldable pub names_of : Names → rules.Names
  names_of s =
      record {
        declared = map declared_of s.declared;
        scopes = map scope_of s.scopes;
        aggregates = map aggregate_of s.aggregates;
        things = s.things;
        statics = reverse s.statics.items;
        round = s.round;
        uses = map name_use_of s.uses;
        type_names = map type_named_of s.type_names;
        faults = map fault_of s.faults.items;
        bodies = map bodied_of s.bodies;
        enclosing = s.enclosing;
        kept = option_map scope_of s.kept;
      }
