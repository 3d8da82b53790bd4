-- The members of structs and unions, types by their numbers.
use Rattle.std.specs.Prelude.{ℕ, Bool, true, false, List, [], ◌∷◌, ◌++◌, length, Option, Some, None}
use Rattle.name_rules.specs.Spellings.{Place}
use Rattle.name_tables.specs.declared.name_records.body.Own.{Own}
use Rattle.name_tables.specs.declared.name_records.body.Known.{Known}

-- the members of a struct or union: its own, and those that it finds by their names
pub record OneBody : Type 0 where
  pub own : List Own
  pub known : List Known

-- a body without members
abbrev pub empty_body : OneBody
empty_body = record { own = []; known = [] }

-- the body that there is, or one without members
abbrev pub or_empty : Option OneBody → OneBody
or_empty None = empty_body
or_empty (Some body) = body

-- whether there is a body
abbrev pub has_body : Option OneBody → Bool
has_body None = false
has_body (Some body) = true

-- a body with one more own member, which has a name
abbrev pub with_member : ℕ → Place → ℕ → OneBody → OneBody
with_member name at ty body = record {
  own = body.own ++ record { at = at; ty = ty } ∷ [];
  known = body.known
      ++ record { name = name; at = at; ty = ty; own = length body.own } ∷ [];
}

-- members that an unnamed member has, as ones that lie in the own member of this number
abbrev pub lying_in : ℕ → List Known → List Known
lying_in own [] = []
lying_in own (it ∷ known) = record it { own = own } ∷ lying_in own known

-- a body that finds also the members of its own member of this number, which has no name
abbrev pub with_inner : ℕ → List Known → OneBody → OneBody
with_inner own inner body = record body { known = body.known ++ lying_in own inner }

-- a body with one more own member, which has no name and whose members it finds too
abbrev pub with_unnamed : Place → ℕ → List Known → OneBody → OneBody
with_unnamed at ty inner body = with_inner (length body.own) inner
    (record body { own = body.own ++ record { at = at; ty = ty } ∷ [] })
