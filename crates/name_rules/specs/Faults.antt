-- The faults of names and types, and the first of several.
use Rattle.std.specs.Prelude.{ℕ, ◌<◌, Bool, List, [], ◌∷◌, Contains, if◌then◌else◌}
use Rattle.name_rules.specs.Spellings.{Place}

-- the rules that may fail, the lower first
pub data Rule : Type 0 where
  -- a name in an expression has no visible declaration and is not called directly
  undeclared : Rule
  -- what is dereferenced or indexed is no pointer
  not_pointer : Rule
  -- the value that is called is no pointer to a function
  not_function : Rule
  -- the struct has no body or no such member, or what stands there is no struct
  no_member : Rule
  -- the number of arguments is not that of the parameters, or with an ellipsis less
  argument_count : Rule
  -- the target of an assignment, `++`, `--` or `&` is no place
  not_place : Rule
  -- a second body of a function, or of a tag in one scope
  defined_twice : Rule
  -- a declared type or a type's name has over 4,096 constructors
  type_too_large : Rule
  -- an expression that a type is made by has none by what is known behind it
  no_type : Rule

-- the number of a rule, by which the lower one of two faults at one token comes first
abbrev pub number : Rule → ℕ
number undeclared = 1
number not_pointer = 2
number not_function = 3
number no_member = 4
number argument_count = 5
number not_place = 6
number defined_twice = 7
number type_too_large = 8
number no_type = 9

-- what is wrong in a unit: the token, and the rule that it breaks
pub record Fault : Type 0 where
  pub at : Place
  pub rule : Rule

-- an earlier unit, an earlier token of it, or a lower rule at one token
pub data IsBefore : Fault → Fault → Type 0 where
  by_unit : (f g : Fault) → f.at.0 < g.at.0 → IsBefore f g
  by_token : (u s t : ℕ) (r q : Rule) → s < t
      → IsBefore (record { at = (u, s); rule = r }) (record { at = (u, t); rule = q })
  by_rule : (p : Place) (r q : Rule) → number r < number q
      → IsBefore (record { at = p; rule = r }) (record { at = p; rule = q })

-- one of the faults, before which there is none
pub record IsFirst (f : Fault) (faults : List Fault) : Type 0 where
  pub there : Contains faults f
  pub first : (g : Fault) → Contains faults g → ¬ IsBefore g f

-- the fault, where something fails
abbrev pub fault_where : Bool → Place → Rule → List Fault
fault_where fails at rule = if fails then record { at = at; rule = rule } ∷ [] else []
