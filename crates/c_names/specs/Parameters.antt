-- A parameter, of the name and the type that its declarator has.
use Rattle.std.specs.Prelude.{[], ◌∷◌, ◌++◌, length, Option}
use Rattle.type_table.specs.Types.{CType}
use Rattle.name_rules.specs.Spellings.{Spelling, Named}
use Rattle.name_rules.specs.Pieces.{decayed}
use Rattle.name_rules.specs.Declaring.{declared_param}
use Rattle.name_rules.specs.NameSteps.State.{State, with_innermost}
use Rattle.name_rules.specs.NameSteps.Steps.{parameters}

-- the innermost list has one parameter more, with this name, where it has one, and this type
abbrev pub parameter_added : Spelling → Option Named → CType → State → State
parameter_added u it t st =
    record st {
      names = declared_param u it (length (parameters st).types) (parameters st).own (decayed t) st.names;
      parameters = with_innermost
          (record (parameters st) { types = (parameters st).types ++ decayed t ∷ [] }) st.parameters;
    }
