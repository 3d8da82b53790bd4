-- Functions with lists of identifiers, behind which their parameters are declared.
use Rattle.std.specs.Prelude.{ℕ, suc, nat_eq, Bool, true, false, ◌||◌, List, [], ◌∷◌, ◌++◌, slice_get, Option, None, Some, is_some, option_map, if◌then◌else◌}
use Rattle.type_table.specs.Types.{CType, base}
use Rattle.name_rules.specs.Spellings.{Place, Spelling, place, Named}
use Rattle.name_rules.specs.Faults.{undeclared, defined_twice, fault_where}
use Rattle.name_rules.specs.Scopes.{Names, with_faults, changed_at}
use Rattle.name_rules.specs.Declaring.{declared_param}

-- an identifier of a list, by its token and the number of its spelling, and the type of its parameter, where that is
-- declared
pub record OldParameter : Type 0 where
  pub token : ℕ
  pub key : ℕ
  pub type : Option CType

-- a list, and what is known of names behind it
pub record Olds : Type 0 where
  pub list : List OldParameter
  pub names : Names

-- whether a list has an identifier of this spelling
abbrev pub has_identifier : ℕ → List OldParameter → Bool
has_identifier key [] = false
has_identifier key (it ∷ others) = nat_eq it.key key || has_identifier key others

-- the number of the identifier of a spelling in a list
abbrev pub number_of_identifier : ℕ → List OldParameter → Option ℕ
number_of_identifier key [] = None
number_of_identifier key (it ∷ others) =
    if nat_eq it.key key then Some 0 else option_map suc (number_of_identifier key others)

-- one more identifier of a list; a second one of a spelling is at fault, and is left out
abbrev pub identified : Spelling → ℕ → ℕ → Olds → Olds
identified u token name it = record {
  list = if has_identifier (u.key name) it.list then it.list
      else it.list ++ record { token = token; key = u.key name; type = None } ∷ [];
  names = with_faults (fault_where (has_identifier (u.key name) it.list) (place u token) defined_twice) it.names;
}

-- the parameter of an identifier has the type of its first declaration
abbrev pub typed_first : CType → OldParameter → OldParameter
typed_first t it = record it { type = some_or it.type t } where
  some_or : Option CType → CType → Option CType
  some_or None t = Some t
  some_or (Some first) t = Some first

-- whether an identifier is there and a declaration gave it a type
abbrev pub is_typed : Option OldParameter → Bool
is_typed None = false
is_typed (Some it) = is_some it.type

-- a name that is declared behind the list, by the number of its identifier: without one it is at fault, and so is a
-- second declaration of one
abbrev pub old_declared : Spelling → Option Place → Named → CType → Option ℕ → Olds → Olds
old_declared u own it t None olds =
    record olds { names = with_faults (fault_where true (place u it.token) undeclared) olds.names }
old_declared u own it t (Some i) olds = record {
  list = changed_at olds.list i (typed_first t);
  names = declared_param u (Some it) i own t
      (with_faults (fault_where (is_typed (slice_get olds.list i)) (place u it.token) defined_twice) olds.names);
}

-- a declarator behind the list declares its name as a parameter, where it has one
abbrev pub old_declared_some : Spelling → Option Place → Option Named → CType → Olds → Olds
old_declared_some u own None t olds = olds
old_declared_some u own (Some it) t olds = old_declared u own it t (number_of_identifier (u.key it.name) olds.list) olds

-- whether there is no type
abbrev pub is_unknown : Option CType → Bool
is_unknown None = true
is_unknown (Some t) = false

-- identifiers that no declaration declares are at fault
abbrev pub old_faults : Spelling → List OldParameter → Names → Names
old_faults u [] s = s
old_faults u (it ∷ others) s =
    old_faults u others (with_faults (fault_where (is_unknown it.type) (place u it.token) undeclared) s)

-- a type, or a base type where there is none
abbrev pub type_or_base : Option CType → CType
type_or_base None = base []
type_or_base (Some t) = t

-- the types of the parameters in the order of the list; of one that is not declared a base type
abbrev pub old_types : List OldParameter → List CType
old_types [] = []
old_types (it ∷ others) = type_or_base it.type ∷ old_types others
