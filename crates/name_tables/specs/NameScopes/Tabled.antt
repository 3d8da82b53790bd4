-- The tables of the names and tags of scopes.
use Rattle.std.specs.Prelude.{◌≡◌, ℕ, List, [], ◌∷◌, if◌then◌else◌}
use Rattle.tape_ops.specs.declared.specifier.TagKind.TheVariants as kinds
use Rattle.tape_ops.specs.declared.specifier.TagKind.{TagKind}
use Rattle.name_rules.specs.Scopes.{is_kind}
use Rattle.name_lists.specs.Newest as lists
use Rattle.name_tables.specs.declared.name_scopes.meant.Meant.{Meant}
use Rattle.name_tables.specs.declared.name_scopes.tags.Tag.{Tag}
use Rattle.name_tables.specs.declared.name_scopes.tags.TagScopes.{TagScopes}
use Rattle.name_tables.specs.NameScopes.Meanings.{OneScope}

-- the scopes with their tags of a kind
abbrev pub scopes_in : TagScopes → TagKind → List (List (ℕ × ℕ))
scopes_in tags kinds.Struct = tags.structs
scopes_in tags kinds.Union = tags.unions
scopes_in tags kinds.Enum = tags.enums

-- the innermost scope has one tag more of this kind, and the others have theirs
abbrev pub IsBound : TagScopes → TagScopes → TagKind → ℕ → ℕ → Type 0
IsBound old new kind tag number = (k : TagKind) → scopes_in new k
    ≡ (if is_kind kind k
    then ((tag, number) ∷ lists.innermost (scopes_in old k)) ∷ lists.outer_scopes (scopes_in old k)
    else scopes_in old k)

-- the scopes have the tags that they had
abbrev pub AreSame : TagScopes → TagScopes → Type 0
AreSame old new = (k : TagKind) → scopes_in new k ≡ scopes_in old k

-- the tags of a kind with their numbers
abbrev pub in_kind : TagKind → List Tag → List (ℕ × ℕ)
in_kind kind [] = []
in_kind kind (it ∷ tags) = if is_kind it.kind kind then (it.tag, it.number) ∷ in_kind kind tags else in_kind kind tags

-- the names of each scope
abbrev pub names_of : List OneScope → List (List (ℕ × Meant))
names_of [] = []
names_of (scope ∷ outer) = scope.names ∷ names_of outer

-- the tags of a kind of each scope
abbrev pub tags_of : TagKind → List OneScope → List (List (ℕ × ℕ))
tags_of kind [] = []
tags_of kind (scope ∷ outer) = in_kind kind scope.tags ∷ tags_of kind outer

-- the tables have the names and tags of the scopes
pub record AreTabled (scopes : List OneScope) (names : List (List (ℕ × Meant))) (tags : TagScopes) : Type 0 where
  pub named : names ≡ names_of scopes
  pub tagged : (kind : TagKind) → scopes_in tags kind ≡ tags_of kind scopes
