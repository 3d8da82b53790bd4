-- A declaration of an object of a block.
use Rattle.std.specs.Prelude.{ℕ, List, None, if◌then◌else◌}
use Rattle.c_words.specs.declared.kinds.Keyword.{Keyword}
use Rattle.c_words.specs.declared.kinds.Keyword.TheVariants as keywords
use Rattle.type_table.specs.Types.{CType}
use Rattle.name_rules.specs.Spellings.{Place}
use Rattle.name_rules.specs.Scopes.{Names, object_role}
use Rattle.name_rules.specs.Declaring.{has_word, declared_here}

-- it belongs to the function in whose body it is, if it is not static
abbrev pub local_declared : List Keyword → Place → ℕ → CType → Names → Names
local_declared words at name t s = declared_here at name object_role t
    (if has_word keywords.Static words then None else s.enclosing) s
