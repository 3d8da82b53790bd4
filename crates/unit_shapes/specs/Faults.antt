-- Faults of a program, and the first of several.
use Rattle.std.specs.Prelude.{◌≡◌, ℕ, nat_lt, nat_eq, Bool, ◌&&◌, ◌||◌, List, [], ◌∷◌, Option, Some, None, if◌then◌else◌}
use Rattle.name_rules.specs.Faults as rules
use Rattle.unit_shapes.specs.declared.fault.Rule.{Rule}
use Rattle.unit_shapes.specs.declared.fault.Rule.TheVariants as rule_names
use Rattle.unit_shapes.specs.declared.fault.Fault.{Fault}

-- the rule that a fault breaks, as the definitions have it
abbrev pub rule_of : Rule → rules.Rule
rule_of rule_names.Undeclared = rules.undeclared
rule_of rule_names.NotPointer = rules.not_pointer
rule_of rule_names.NotFunction = rules.not_function
rule_of rule_names.NoMember = rules.no_member
rule_of rule_names.ArgCount = rules.argument_count
rule_of rule_names.NotPlace = rules.not_place
rule_of rule_names.DefinedTwice = rules.defined_twice
rule_of rule_names.TypeTooLarge = rules.type_too_large
rule_of rule_names.NoType = rules.no_type

-- a fault, as the definitions have it
abbrev pub fault_of : Fault → rules.Fault
fault_of it = record { at = it.at; rule = rule_of it.rule }

-- a fault, where there is one, as the definitions have it
abbrev pub some_fault_of : Option Fault → Option rules.Fault
some_fault_of None = None
some_fault_of (Some it) = Some (fault_of it)

-- whether three numbers come before three others, the first ones deciding first
abbrev pub is_lower : ℕ → ℕ → ℕ → ℕ → ℕ → ℕ → Bool
is_lower a b c x y z = nat_lt a x || (nat_eq a x && (nat_lt b y || (nat_eq b y && nat_lt c z)))

-- whether a fault comes before another: by the unit, then by the token, then by the rule
abbrev pub is_before : rules.Fault → rules.Fault → Bool
is_before f g = is_lower f.at.0 f.at.1 (rules.number f.rule) g.at.0 g.at.1 (rules.number g.rule)

-- the earlier one of a fault and one that is known; of two at one place by one rule the known one
unfoldable pub earlier : Option rules.Fault → rules.Fault → rules.Fault
earlier None f = f
earlier (Some g) f = if is_before f g then f else g

-- the earliest one of a fault that is known and of some more
abbrev pub keep : Option rules.Fault → List rules.Fault → Option rules.Fault
keep best [] = best
keep best (f ∷ fs) = keep (Some (earlier best f)) fs

-- the first of some faults, and none where there is none
abbrev pub IsFirstOf : Option rules.Fault → List rules.Fault → Type 0
IsFirstOf None faults = faults ≡ []
IsFirstOf (Some f) faults = rules.IsFirst f faults
