-- What the first declaration of a thing is, in units that are well formed, scopes of names included.
use Rattle.std.specs.Prelude.{◌≡◌, ℕ, nat_eq, Bool, true, false, All, List, [], ◌∷◌, Some, if◌then◌else◌}
use Rattle.c_words.specs.declared.kinds.TokenKind.{TokenKind}
use Rattle.c_words.specs.declared.kinds.TokenKind.TheVariants as kinds
use Rattle.c_tree.specs.declared.lexeme.Lexeme.{Lexeme}
use Rattle.c_units.specs.Units.{IsWellFormed}
use Rattle.name_rules.specs.Spellings.{Place, Spelling}
use Rattle.name_rules.specs.Scopes.{Role, typedef_role, object_role, function_role, parameter_role, field_role, enumerator_role, Declared, declared_at}
use Rattle.type_rules.specs.Program.{Source, names_of}
use Rattle.name_rules.specs.MeaningLaws.Meanings.{Differ}

-- whether a declaration has a skeleton: those of types' names and of enumerators have none
abbrev pub has_skeleton : Role → Bool
has_skeleton typedef_role = false
has_skeleton enumerator_role = false
has_skeleton object_role = true
has_skeleton function_role = true
has_skeleton (parameter_role i) = true
has_skeleton (field_role n i) = true

-- what is declared at the place has a skeleton
abbrev pub HasSkeletonAt : List Declared → Place → Type 0
HasSkeletonAt ds p = (d : Declared) × (declared_at ds p ≡ Some d) × (has_skeleton d.role ≡ true)

-- what has a skeleton was first declared as what has one
abbrev pub FirstsHaveSkeletons : List Declared → Type 0
FirstsHaveSkeletons ds =
    (p : Place) (d : Declared) → declared_at ds p ≡ Some d → has_skeleton d.role ≡ true → HasSkeletonAt ds d.first

-- whether a token is this name
abbrev pub is_named : TokenKind → ℕ → Bool
is_named (kinds.Name n) name = nat_eq n name
is_named (kinds.Keyword word) name = false
is_named kinds.Number name = false
is_named kinds.Char name = false
is_named kinds.Text name = false
is_named (kinds.Punct sign) name = false
is_named (kinds.Qual lattice element) name = false
is_named kinds.Index name = false
is_named kinds.End name = false

-- whether a name of this number is among the tokens
abbrev pub has_name : List Lexeme → ℕ → Bool
has_name [] name = false
has_name (it ∷ all) name = if is_named it.kind name then true else has_name all name

-- no two names among the tokens of a unit have one number in all units
abbrev pub NamesDiffer : Spelling → List Lexeme → Type 0
NamesDiffer u all =
    (m n : ℕ) → has_name all m ≡ true → has_name all n ≡ true → u.key m ≡ u.key n → m ≡ n

-- a unit is well formed of some tokens, scopes of names included, whose different names have different numbers
pub record IsScoped (it : Source) : Type 0 where
  pub all : List Lexeme
  pub formed : IsWellFormed it.spelling.wide all it.items
  pub names : NamesDiffer it.spelling all

-- in such units what has a skeleton was first declared as what has one, where no two declarations are at one place
abbrev pub FirstsOfScopedHaveSkeletons : Type 0
FirstsOfScopedHaveSkeletons =
    (sources : List Source) → All IsScoped sources → Differ (names_of sources).declared
    → FirstsHaveSkeletons (names_of sources).declared
