-- What was found of names and of types' names, and what operators give.
use Rattle.std.specs.Prelude.{List, [], ◌∷◌, Option, None, Some, if◌then◌else◌}
use Rattle.c_words.specs.declared.kinds.Punct.{Punct}
use Rattle.c_words.specs.declared.kinds.Punct.TheVariants as signs
use Rattle.type_table.specs.Types.{CType, base, pointer}
use Rattle.name_rules.specs.Spellings.{Place}
use Rattle.name_rules.specs.Scopes.{Role, typedef_role, object_role, function_role, parameter_role, field_role, enumerator_role, Declared, Use, means, called, missing, NameUse, TypeNamed, Names, declared_at, is_place}
use Rattle.name_rules.specs.Values.{Shape, a_value, a_place, value, some_target, address, undeclared_function}

-- what was found of a use, and of a type's name

-- what the name at a place of an expression was found to stand for
abbrev pub use_at : List NameUse → Place → Use
use_at [] at = missing
use_at (it ∷ uses) at = if is_place it.at at then it.use_of else use_at uses at

-- the type of the type's name that begins at a place
abbrev pub type_named_at : List TypeNamed → Place → Option CType
type_named_at [] at = None
type_named_at (it ∷ others) at = if is_place it.at at then Some it.type else type_named_at others at

-- what a declared name is as an expression: an enumerator is a number, and all else is a place of its type
abbrev pub declared_shape : Role → CType → Shape
declared_shape typedef_role t = a_place (Some t)
declared_shape object_role t = a_place (Some t)
declared_shape function_role t = a_place (Some t)
declared_shape (parameter_role i) t = a_place (Some t)
declared_shape (field_role n i) t = a_place (Some t)
declared_shape enumerator_role t = a_value (Some (base []))

-- what a name is as an expression by its declaration; a place without a type where there is none
abbrev pub some_declared_shape : Option Declared → Shape
some_declared_shape None = a_place None
some_declared_shape (Some d) = declared_shape d.role d.type

-- a name is a place; an enumerator is a value
abbrev pub use_shape : Names → Use → Shape
use_shape s (means at) = some_declared_shape (declared_at s.declared at)
use_shape s called = a_place (Some undeclared_function)
use_shape s missing = a_place None

-- what a prefix operator makes of its operand; operators but `&`, `*`, `++` and `--` give a number
abbrev pub prefix_shape : Punct → Shape → Shape
prefix_shape signs.Ampersand e = a_value (address e)
prefix_shape signs.Star e = a_place (some_target (value e))
prefix_shape signs.PlusPlus e = a_value (value e)
prefix_shape signs.MinusMinus e = a_value (value e)
prefix_shape p e = a_value (Some (base []))

-- the value of an assignment, by its left operand: one of the type of that place
abbrev pub assigned_shape : Shape → Shape
assigned_shape e = a_value (if e.is_place then e.type else None)

-- the type of what is written in text is a pointer to a character
abbrev pub text_type : CType
text_type = pointer [] (base [])
