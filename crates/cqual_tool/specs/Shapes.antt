-- The lines of units whose names or types have a fault.
use Rattle.std.specs.Prelude.{ℕ, List, [], Option, None, Some, codes}
use Rattle.name_rules.specs.Faults.{Fault, Rule, undeclared, not_pointer, not_function, no_member, argument_count, not_place, defined_twice, type_too_large, no_type}
use Rattle.annotate.specs.Texts.{UnitText, unit_in}
use Rattle.unit_types.specs.declared.fault.ShapeFault.{ShapeFault}
use Rattle.unit_types.specs.Faults.{fault_in}
use Rattle.cqual_tool.specs.Syntax.{token_line}
use Rattle.cqual_tool.specs.Texts.{malformed_line}

-- the code of a rule of names and types
abbrev pub shape_code : Rule → List ℕ
shape_code undeclared = codes "H1"
shape_code not_pointer = codes "H2"
shape_code not_function = codes "H3"
shape_code no_member = codes "H4"
shape_code argument_count = codes "H5"
shape_code not_place = codes "H6"
shape_code defined_twice = codes "H7"
shape_code type_too_large = codes "H8"
shape_code no_type = codes "H9"

-- a fault at a token of a unit, or of the whole source where there is no such unit
abbrev pub in_unit : List ℕ → Option UnitText → ℕ → List ℕ → List ℕ
in_unit file None token code = malformed_line file code
in_unit file (Some it) token code = token_line it.file it.lexed token code

-- the line of a fault at a token of a unit that is known by its number
abbrev pub unit_line : List ℕ → List UnitText → ℕ → ℕ → List ℕ → List ℕ
unit_line file units unit token code = in_unit file (unit_in units unit) token code

-- the line of a fault, where there is one: the code of its rule, at its token
abbrev pub some_fault_line : List ℕ → List UnitText → Option Fault → List ℕ
some_fault_line file units None = []
some_fault_line file units (Some it) = unit_line file units it.at.0 it.at.1 (shape_code it.rule)

-- the line of the first fault; want of memory has none
abbrev pub shape_line : List ℕ → List UnitText → ShapeFault → List ℕ
shape_line file units fault = some_fault_line file units (fault_in fault)
