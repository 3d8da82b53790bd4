-- What a program holds at a place of a tape, with types in place of their numbers.
use Rattle.std.specs.Prelude.{◌≡◌, ℕ, List, map, take, option_map, Vec}
use Rattle.std.specs.Global.{Global}
use Rattle.type_table.specs.declared.row.TypeRow.{TypeRow}
use Rattle.type_table.specs.Types.{CType}
use Rattle.name_state.specs.NameTypes.Known.{Knows, so_far_type}
use Rattle.name_rules.specs.NameSteps.State as steps
use Rattle.name_state.specs.NameUses.Named.{named_of}
use Rattle.name_rules.specs.Scopes as rules
use Rattle.name_state.specs.declared.unit_names.names.Names.{Names}
use Rattle.name_state.specs.UnitNames.Shown.{names_of}
use Rattle.c_names.specs.declared.state.Specifiers.{Specifiers}
use Rattle.c_names.specs.declared.state.OpenBody.{OpenBody}
use Rattle.c_names.specs.declared.state.OpenDeclaration.{OpenDeclaration}
use Rattle.c_names.specs.declared.state.OpenParameters.{OpenParameters}
use Rattle.tape_ops.specs.declared.op.Op.{Op}
use Rattle.name_rules.specs.Identifiers.{OldParameter as OldShown, Olds}
use Rattle.c_names.specs.declared.identifiers.OldParameter.{OldParameter}
use Rattle.c_names.specs.declared.state.OpenPart.{OpenPart}
use Rattle.c_names.specs.declared.state.State.{State}

-- by the types of all numbers
module _ (t : ℕ → CType) where
  -- the specifiers of a declaration so far, as the steps have them
  abbrev pub specifiers_of : Specifiers → steps.Specifiers
  specifiers_of s =
      record {
        type = so_far_type t s.so_far;
        words = s.words.items;
        storage = s.storage.items;
        is_untagged = s.is_untagged;
      }

  -- an open body of a tag, as the steps have it
  abbrev pub body_of : OpenBody → steps.OpenBody
  body_of b = record { outer = specifiers_of b.outer; members_of = b.members_of }

  -- an open declaration, as the steps have it
  abbrev pub declaration_of : OpenDeclaration → steps.OpenDeclaration
  declaration_of d =
      record {
        type = t d.ty;
        storage = d.storage.items;
        is_untagged = d.is_untagged;
        name = option_map named_of d.name;
        declared = t d.declared;
      }

  -- a parameter that a list of identifiers names
  abbrev pub old_of : OldParameter → OldShown
  old_of it = record { token = it.token; key = it.key; type = option_map t it.ty }

  -- all parameters of such a list, with the names behind it
  abbrev pub olds_of : List OldParameter → Names → Olds
  olds_of list names = record { list = map old_of list; names = names_of t names }

  -- an open list of parameters, as the steps have it
  abbrev pub parameters_of : OpenParameters → steps.OpenParameters
  parameters_of p = record { own = p.own; types = map t p.types.items; identifiers = map old_of p.identifiers }

  -- an open part of a unit, as the steps have it
  abbrev pub part_of : OpenPart → steps.OpenPart
  part_of it = record { outer = specifiers_of it.outer; from = it.from }

  -- the types of a list of numbers
  abbrev pub types_of_list : Vec ℕ Global → List CType
  types_of_list ns = map t ns.items

  -- behind these ops
  unfoldable pub state_of : List Op → State → steps.State
  state_of passed s =
      record {
        names = names_of t s.names;
        specifiers = specifiers_of s.specifiers;
        bodies = map body_of s.bodies;
        declarations = map declaration_of s.declarations;
        parameters = map parameters_of s.parameters;
        finished = map types_of_list s.finished;
        parts = map part_of s.parts;
        passed = passed;
      }

-- a state behind so many ops of a tape
abbrev pub state_at : (ℕ → CType) → List Op → ℕ → State → steps.State
state_at t tape at s = state_of t (take at tape) s

-- a state, with these ops as those that were passed
abbrev pub passed_by : List Op → steps.State → steps.State
passed_by passed s = record s { passed = passed }

-- a state is shown alike by the types of any table that this one grows to
pub record IsShown (rows : List TypeRow) (s : State) : Type 0 where
  pub shown : steps.State
  pub alike : (t : ℕ → CType) (passed : List Op) → Knows t rows → state_of t passed s ≡ passed_by passed shown

-- names are shown alike by the types of any table that this one grows to
pub record AreShown (rows : List TypeRow) (s : Names) : Type 0 where
  pub shown : rules.Names
  pub alike : (t : ℕ → CType) → Knows t rows → names_of t s ≡ shown
