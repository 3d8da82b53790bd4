-- Scopes that are open while a source is read (C99, 6.2.1), each with its names and, while a declarator in it is being
-- read, the name of that declarator.
--
-- A name's scope begins behind its declarator. Until then the name is held: it is not visible and has no kind, and an
-- enumerator inside its declarator, whose scope would be the same, cannot take it. One held name a scope is enough,
-- since inside a declarator only enumerators are declared in the scope of its name.
use Rattle.std.specs.Prelude.{ℕ, nat_eq, Bool, true, false, List, [], ◌∷◌, Option, None, Some, if◌then◌else◌}
use Rattle.typedef_scope.specs.declared.kind.Kind.{Kind}
use Rattle.typedef_scope.specs.declared.kind.Kind.TheVariants.{Typedef}
use Rattle.typedef_scope.specs.Scopes.{is_same, kind_in, else_in}

-- a scope: its names with their kinds, the newest first, the name that is held, and whether its unit is read as wider C
pub record HeldScope : Type 0 where
  pub names : List (ℕ × Kind)
  pub held : Option ℕ
  pub wide : Bool

-- the scopes that are open, the innermost first
abbrev pub HeldScopes : Type 0
HeldScopes = List HeldScope

-- a scope without names
abbrev pub new_scope : Bool → HeldScope
new_scope wide = record { names = []; held = None; wide = wide }

-- one scope, without names, of a unit that is read as wider C or not
abbrev pub file_scope : Bool → HeldScopes
file_scope wide = new_scope wide ∷ []

-- the innermost of the scopes that are open
abbrev pub innermost : HeldScopes → HeldScope
innermost [] = new_scope false
innermost (scope ∷ outer) = scope

-- whether the unit is read as wider C
abbrev pub is_wide : HeldScopes → Bool
is_wide scopes = (innermost scopes).wide

-- what is open round the innermost scope
abbrev pub leave : HeldScopes → HeldScopes
leave [] = []
leave (scope ∷ outer) = outer

-- a scope without names inside the others
abbrev pub enter : HeldScopes → HeldScopes
enter scopes = new_scope (is_wide scopes) ∷ scopes

-- a scope that was closed before, inside the others
abbrev pub reopen : HeldScope → HeldScopes → HeldScopes
reopen scope scopes = scope ∷ scopes

-- the kind of a name: that of the innermost scope that declares it
abbrev pub kind_of : HeldScopes → ℕ → Option Kind
kind_of [] name = None
kind_of (scope ∷ outer) name = else_in (kind_in scope.names name) (kind_of outer name)

-- whether a name of this kind is a typedef name
abbrev pub is_typedef : Option Kind → Bool
is_typedef (Some Typedef) = true
is_typedef kind = false

-- whether a name is a typedef name here
abbrev pub names_type : HeldScopes → ℕ → Bool
names_type scopes name = is_typedef (kind_of scopes name)

-- whether a scope gives a name no kind other than this one
abbrev pub admits : Option Kind → Kind → Bool
admits None kind = true
admits (Some known) kind = is_same known kind

-- whether a scope may declare a name of this kind: it has not declared it of another
abbrev pub may_declare : HeldScope → ℕ → Kind → Bool
may_declare scope name kind = admits (kind_in scope.names name) kind

-- whether the name that a scope holds, if any, is this one
abbrev pub is_name : Option ℕ → ℕ → Bool
is_name None name = false
is_name (Some held) name = nat_eq held name

-- one more name, where the scope has not yet declared it
abbrev pub with_kind : Option Kind → HeldScope → ℕ → Kind → HeldScope
with_kind None scope name kind = record scope { names = (name, kind) ∷ scope.names }
with_kind (Some known) scope name kind = scope

-- a scope with a name of this kind, where it has not yet declared the name
abbrev pub with_name : HeldScope → ℕ → Kind → HeldScope
with_name scope name kind = with_kind (kind_in scope.names name) scope name kind

-- the innermost scope holds a name for a declarator of this kind, where it gives the name no other kind
abbrev pub hold : ℕ → Kind → HeldScopes → Option HeldScopes
hold name kind scopes =
    if may_declare (innermost scopes) name kind
    then Some (record (innermost scopes) { held = Some name } ∷ leave scopes)
    else None

-- the innermost scope lets go the name that it holds, and declares it
abbrev pub release_as : Option ℕ → Kind → HeldScopes → HeldScopes
release_as None kind scopes = scopes
release_as (Some name) kind scopes = record (with_name (innermost scopes) name kind) { held = None } ∷ leave scopes

-- the innermost scope declares the name that it holds, if any
abbrev pub release : Kind → HeldScopes → HeldScopes
release kind scopes = release_as (innermost scopes).held kind scopes

-- the innermost scope declares a name at once, where it does not hold it and gives it no other kind
abbrev pub declare : ℕ → Kind → HeldScopes → Option HeldScopes
declare name kind scopes =
    if is_name (innermost scopes).held name then None
    else if may_declare (innermost scopes) name kind then Some (with_name (innermost scopes) name kind ∷ leave scopes)
    else None
