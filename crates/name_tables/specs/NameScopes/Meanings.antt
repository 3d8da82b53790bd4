-- What names and tags stand for in scopes, types by their numbers.
use Rattle.std.specs.Prelude.{ℕ, nat_eq, ◌&&◌, List, [], ◌∷◌, Option, Some, None, if◌then◌else◌}
use Rattle.tape_ops.specs.declared.specifier.TagKind.{TagKind}
use Rattle.name_rules.specs.Scopes.{is_kind}
use Rattle.name_lists.specs.Newest.{newest}
use Rattle.name_tables.specs.declared.name_scopes.meant.Meant.{Meant}
use Rattle.name_tables.specs.declared.name_scopes.tags.Tag.{Tag}

-- what a scope declares: names and tags, the newest first in both lists
pub record OneScope : Type 0 where
  pub names : List (ℕ × Meant)
  pub tags : List Tag

-- what a tag of a kind stands for by the first entry of it
abbrev pub tag_found : List Tag → TagKind → ℕ → Option ℕ
tag_found [] kind tag = None
tag_found
    (it ∷ tags) kind tag = if is_kind it.kind kind && nat_eq it.tag tag then Some it.number else tag_found tags kind tag

-- a scope in which nothing is declared
abbrev pub no_scope : OneScope
no_scope = record { names = []; tags = [] }

-- a scope in which a name has this meaning
abbrev pub with_name : ℕ → Meant → OneScope → OneScope
with_name name meant s = record s { names = (name, meant) ∷ s.names }

-- a scope in which a tag stands for the struct, union or enum of this number
abbrev pub with_tag : TagKind → ℕ → ℕ → OneScope → OneScope
with_tag kind tag number s = record s { tags = record { kind = kind; tag = tag; number = number } ∷ s.tags }

-- the innermost scope, an empty one where none is open
abbrev pub innermost : List OneScope → OneScope
innermost [] = no_scope
innermost (scope ∷ outer) = scope

-- the scopes around the innermost one
abbrev pub outer_scopes : List OneScope → List OneScope
outer_scopes [] = []
outer_scopes (scope ∷ outer) = outer

-- the first of two that is there
abbrev pub or_else : {A : Type 0} → Option A → Option A → Option A
or_else None outer = outer
or_else (Some here) outer = Some here

-- what a name stands for in the innermost scope that declares it
abbrev pub meant_through : List OneScope → ℕ → Option Meant
meant_through [] name = None
meant_through (scope ∷ outer) name = or_else (newest scope.names name) (meant_through outer name)

-- what a tag stands for in the innermost scope that has it
abbrev pub tag_through : List OneScope → TagKind → ℕ → Option ℕ
tag_through [] kind tag = None
tag_through (scope ∷ outer) kind tag = or_else (tag_found scope.tags kind tag) (tag_through outer kind tag)
