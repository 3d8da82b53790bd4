-- Readers of names, by the first token alone.
use Rattle.std.specs.Prelude.{ℕ, Option}
use Rattle.typedef_scope.specs.declared.kind.Kind.{Kind}
use Rattle.c_units.specs.Scoping.{at_name}
use Rattle.c_reading.specs.declared.kinds.Mode.{Mode}
use Rattle.c_reading.specs.Reading.{Reader, kind_at}
use Rattle.c_reading.specs.Tokens.{spelled_name}
use Rattle.c_reading.specs.Parts.{Inner, Declared}
use Rattle.c_reading.specs.Declaring as declaring

-- a name at the first token, which is held where a kind is wanted
abbrev pub held_at : Option Kind → ℕ → ℕ → Reader Declared
held_at wanted name room s ts = declaring.name_held name room (at_name wanted name s) s ts

-- a name where one stands, or none
abbrev pub name_at : Inner → Mode → Option Kind → ℕ → Reader Declared
name_at inner mode wanted room s ts = declaring.name_or_none inner mode wanted (spelled_name (kind_at ts)) room s ts
