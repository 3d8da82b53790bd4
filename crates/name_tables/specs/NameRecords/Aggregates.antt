-- The bodies of structs and unions by their numbers.
use Rattle.std.specs.Prelude.{ℕ, Bool, List, slice_get, Option, Some, None}
use Rattle.name_tables.specs.declared.name_records.body.Known.{Known}
use Rattle.name_tables.specs.declared.name_records.aggregates.Aggregate.{Aggregate}
use Rattle.name_tables.specs.NameRecords.Bodies.{OneBody, or_empty}

-- the body of a struct, union or enum, where it has one
abbrev pub body_of_some : Option Aggregate → Option OneBody
body_of_some None = None
body_of_some (Some it) = it.body

-- the body of the struct, union or enum of this number
abbrev pub body_at : List Aggregate → ℕ → Option OneBody
body_at all n = body_of_some (slice_get all n)

-- the members that the struct of this number finds by their names, none where it has no body
abbrev pub known_at : List Aggregate → ℕ → List Known
known_at all n = (or_empty (body_at all n)).known

-- a struct or union with its body changed, which was empty where it had none
abbrev pub with_body : (OneBody → OneBody) → Aggregate → Aggregate
with_body change it = record it { body = Some (change (or_empty it.body)) }

-- what a struct is known by in other sources
abbrev pub with_key : Bool → ℕ → Aggregate → Aggregate
with_key by_typedef name it = record it { key = Some (record { kind = it.kind; by_typedef = by_typedef; name = name }) }
