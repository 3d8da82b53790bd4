-- What names and tags stand for, by the tables.
use Rattle.std.proofs.Common.{◌≡◌, ℕ, eqb, Bool, true, false, ◌&&◌, List, [], ◌∷◌, Option, None, Some, refl, ◌∙◌, ap}
use Rattle.std.proofs.Common.{if◌then◌else◌}
use Rattle.tape_ops.specs.declared.specifier.TagKind.{TagKind}
use Rattle.name_rules.specs.Scopes.{is_kind}
use Rattle.name_lists.specs.Newest as lists
use Rattle.name_tables.specs.declared.name_scopes.meant.Meant.{Meant}
use Rattle.name_tables.specs.declared.name_scopes.tags.Tag.{Tag}
use Rattle.name_tables.specs.NameScopes.Meanings.{OneScope, or_else, tag_found, meant_through, tag_through, innermost}
use Rattle.name_tables.specs.NameScopes.Tabled.{in_kind, names_of, tags_of}

-- in the innermost scope
pub meant_here : (scopes : List OneScope) (n : ℕ)
    → lists.newest (lists.innermost (names_of scopes)) n ≡ lists.newest (innermost scopes).names n
meant_here [] n = refl
meant_here (scope ∷ outer) n = refl

-- in all scopes
pub meant_known : (scopes : List OneScope) (n : ℕ)
    → lists.newest_through (names_of scopes) n ≡ meant_through scopes n
meant_known [] n = refl
meant_known (scope ∷ outer) n = by_meant (lists.newest scope.names n) (meant_known outer n)
  where
    by_meant : (o : Option Meant) → lists.newest_through (names_of outer) n ≡ meant_through outer n
        → lists.or_outer o (lists.newest_through (names_of outer) n) ≡ or_else o (meant_through outer n)
    by_meant None rest = rest
    by_meant (Some meant) rest = refl

-- the newest of a scope's tags of a kind is the one that the scope finds by kind and name
tag_in : (tags : List Tag) (kind : TagKind) (n : ℕ) → lists.newest (in_kind kind tags) n ≡ tag_found tags kind n
tag_in [] kind n = refl
tag_in (it ∷ tags) kind n = by_tests (is_kind it.kind kind) (eqb it.tag n) refl (tag_in tags kind n)
  where
    by_tests : (b c : Bool) → eqb it.tag n ≡ c → lists.newest (in_kind kind tags) n ≡ tag_found tags kind n
        → lists.newest (if b then (it.tag, it.number) ∷ in_kind kind tags else in_kind kind tags) n
        ≡ (if b && c then Some it.number else tag_found tags kind n)
    by_tests true true is rest = rw is refl
    by_tests true false is rest = rw is rest
    by_tests false c is rest = rest

pub tag_here : (scopes : List OneScope) (kind : TagKind) (n : ℕ)
    → lists.newest (lists.innermost (tags_of kind scopes)) n ≡ tag_found (innermost scopes).tags kind n
tag_here [] kind n = refl
tag_here (scope ∷ outer) kind n = tag_in scope.tags kind n

-- the newest of the tags of a kind through all scopes is the one that they find by kind and name
pub tag_known : (scopes : List OneScope) (kind : TagKind) (n : ℕ)
    → lists.newest_through (tags_of kind scopes) n ≡ tag_through scopes kind n
tag_known [] kind n = refl
tag_known (scope ∷ outer) kind n =
    by_number (lists.newest (in_kind kind scope.tags) n) (tag_in scope.tags kind n) (tag_known outer kind n)
  where
    by_number : (o : Option ℕ) → o ≡ tag_found scope.tags kind n
        → lists.newest_through (tags_of kind outer) n ≡ tag_through outer kind n
        → lists.or_outer o (lists.newest_through (tags_of kind outer) n)
        ≡ or_else (tag_found scope.tags kind n) (tag_through outer kind n)
    by_number None is rest = rest ∙ ap (λ o. or_else o (tag_through outer kind n)) is
    by_number (Some number) is rest = ap (λ o. or_else o (tag_through outer kind n)) is
