-- Types by expressions.
use Rattle.std.specs.Prelude.{ℕ, ◌<◌, Option, Some, None}
use Rattle.std.specs.List.{last_or}
use Rattle.type_table.specs.Types.{CType, words_of}
use Rattle.name_rules.specs.Spellings.{Spelling, place}
use Rattle.name_rules.specs.Faults.{no_type, fault_where}
use Rattle.name_rules.specs.Scopes.{TypeNamed, with_faults}
use Rattle.name_rules.specs.Pieces.{with_words}
use Rattle.name_rules.specs.Identifiers.{is_unknown}
use Rattle.name_rules.specs.NameSteps.State.{State, with_innermost}
use Rattle.name_rules.specs.NameSteps.Steps.{declaration, with_type}

-- a number, where there is one, is below this
abbrev pub IsLowSome : ℕ → Option ℕ → Type 0
IsLowSome n None = Unit {0}
IsLowSome n (Some ty) = ty < n

-- without a type there is a fault
abbrev pub blamed : Spelling → ℕ → Option CType → State → State
blamed u token t st = record st { names = with_faults (fault_where (is_unknown t) (place u token) no_type) st.names }

-- the declarator has this type
abbrev pub declared_as : CType → State → State
declared_as t st =
    record st { declarations = with_innermost (record (declaration st) { declared = t }) st.declarations }

-- the name of the declarator gets this type, with the words of the specifiers
abbrev pub auto_declared : CType → State → State
auto_declared t st = declared_as (with_words (words_of (declaration st).type) t) st

-- the type of a type's name, where there is one
abbrev pub type_of_name : Option TypeNamed → Option CType
type_of_name None = None
type_of_name (Some it) = Some it.type

-- the type whose name ended last
abbrev pub type_last : State → Option CType
type_last st = type_of_name (last_or None st.names.type_names)

-- the specifiers have this type, where there is one
abbrev pub with_some_type : Option CType → State → State
with_some_type None st = st
with_some_type (Some t) st = with_type t st
