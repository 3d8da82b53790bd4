-- Where a skeleton begins: what stands at one declared name, and what is fresh at one expression.
use Rattle.std.specs.Prelude.{ℕ, Bool, true, false, ◌||◌, not, List, [], ◌∷◌, Option, None, Some, if◌then◌else◌, slice_get, unwrap_or}
use Rattle.c_words.specs.declared.kinds.Punct.{Punct}
use Rattle.c_words.specs.declared.kinds.Punct.TheVariants as signs
use Rattle.type_table.specs.Types.{CType, base, pointer}
use Rattle.name_rules.specs.Spellings.{Place, Spelling, place, Named}
use Rattle.name_rules.specs.Scopes.{Role, typedef_role, object_role, function_role, parameter_role, field_role, enumerator_role, Declared, declared_at, Use, means, called, missing, Names, is_place}
use Rattle.name_rules.specs.Linking.{link_of}
use Rattle.name_rules.specs.Values.{is_pointer, is_additive, undeclared_function, Shape, address, Candidate, Association, selected, is_of_type}

-- A skeleton: where it begins, its type, the function that its variables belong to. At a function's name in an
-- expression it is an instance of the function that was first declared at `calls`: a call site. Functions go by their
-- links, the same in all units.
pub record Start : Type 0 where
  pub at : Place
  pub type : CType
  pub owner : Option Place
  pub calls : Option Place

-- what a fresh skeleton stands on: the unit, what is known of names, the function around it, and whether nothing is
-- fresh
pub record Around : Type 0 where
  pub spelling : Spelling
  pub names : Names
  pub enclosing : Option Place
  pub is_quiet : Bool
  -- whether some lattice bounds accesses
  pub access : Bool

-- what a skeleton stands on, with nothing fresh
abbrev pub quiet : Around → Around
quiet a = record a { is_quiet = true }

-- a fresh skeleton of a type at a token, where something may be fresh
abbrev pub fresh : Around → ℕ → CType → List Start
fresh a token t =
    if a.is_quiet then [] else record { at = place a.spelling token; type = t; owner = a.enclosing; calls = None } ∷ []

-- a fresh skeleton of a type at a token, where the type is known
abbrev pub some_fresh : Around → ℕ → Option CType → List Start
some_fresh a token None = []
some_fresh a token (Some t) = fresh a token t

-- whether something is declared as a function
abbrev pub is_function_role : Role → Bool
is_function_role function_role = true
is_function_role typedef_role = false
is_function_role object_role = false
is_function_role (parameter_role i) = false
is_function_role (field_role n i) = false
is_function_role enumerator_role = false

-- whether there is a declaration, and it is one of a function
abbrev pub is_some_function : Option Declared → Bool
is_some_function None = false
is_some_function (Some d) = is_function_role d.role

-- the owner of what is declared: this one, but nobody where it is nobody's
abbrev pub owned_there : Option Place → Option Place → Option Place
owned_there None f = None
owned_there (Some p) f = f

-- The function that a declared name belongs to, by its link: what was first declared as a function in its unit to that,
-- other names to the function around them, and what is nobody's to none.
abbrev pub owner_there : Names → Option Place → Declared → Option Place
owner_there s f d =
    owned_there d.owner (if is_some_function (declared_at s.declared d.first) then Some (link_of s d.first) else f)

-- a name's skeleton is a place of its type
abbrev pub named_start : Names → Option Place → Declared → List Start
named_start s f d = record { at = d.at; type = pointer [] d.type; owner = owner_there s f d; calls = None } ∷ []

-- the skeleton of a declared name by its role; a typedef and an enumerator have none
abbrev pub declared_start : Names → Option Place → Declared → Role → List Start
declared_start s f d typedef_role = []
declared_start s f d object_role = named_start s f d
declared_start s f d function_role = named_start s f d
declared_start s f d (parameter_role i) = named_start s f d
declared_start s f d (field_role n i) = named_start s f d
declared_start s f d enumerator_role = []

-- the skeleton of a declared name, where there is a declaration
abbrev pub some_declared_start : Names → Option Place → Option Declared → List Start
some_declared_start s f None = []
some_declared_start s f (Some d) = declared_start s f d d.role

-- the skeleton of the name that is declared at a token
abbrev pub name_start : Around → ℕ → List Start
name_start a token = some_declared_start a.names a.enclosing (declared_at a.names.declared (place a.spelling token))

-- a name in an expression: a function's name is an instance of it
abbrev pub instance : Around → ℕ → Place → CType → List Start
instance a token at t =
    if a.is_quiet then [] else
    record { at = place a.spelling token; type = pointer [] t; owner = a.enclosing; calls = Some (link_of a.names at) }
    ∷ []

-- what begins at a use of a declared name: the instance of a function, or the value of an enumerator
abbrev pub use_by_role : Around → ℕ → Declared → Role → List Start
use_by_role a token d typedef_role = []
use_by_role a token d object_role = []
use_by_role a token d function_role = instance a token d.at d.type
use_by_role a token d (parameter_role i) = []
use_by_role a token d (field_role n i) = []
use_by_role a token d enumerator_role = fresh a token (base [])

-- what begins at a use of a name, where its declaration is there
abbrev pub some_use_start : Around → ℕ → Option Declared → List Start
some_use_start a token None = []
some_use_start a token (Some d) = use_by_role a token d d.role

-- what begins at a name in an expression, by what it stands for
abbrev pub use_start : Around → ℕ → Use → List Start
use_start a token (means at) = some_use_start a token (declared_at a.names.declared at)
use_start a token called = fresh a token (pointer [] undeclared_function)
use_start a token missing = []

-- a place of a type
abbrev pub some_place : Option CType → Option CType
some_place None = None
some_place (Some t) = Some (pointer [] t)

-- whether a type is known and is a pointer
abbrev pub is_some_pointer : Option CType → Bool
is_some_pointer None = false
is_some_pointer (Some t) = is_pointer t

-- whether an operator's value is fresh: a sum with one pointer is that pointer
abbrev pub is_fresh_sum : Bool → Bool → Bool
is_fresh_sum true b = b
is_fresh_sum false b = not b

-- whether the value of a binary operator is fresh, by which of its operands are pointers
abbrev pub is_fresh_binary : Punct → Bool → Bool → Bool
is_fresh_binary p a b = not (is_additive p) || is_fresh_sum a b

-- whether the value of a prefix operator is fresh, as that of `+`, `-`, `~` and `!` is
abbrev pub is_fresh_prefix : Punct → Bool
is_fresh_prefix signs.Plus = true
is_fresh_prefix signs.Minus = true
is_fresh_prefix signs.Tilde = true
is_fresh_prefix signs.Bang = true
is_fresh_prefix p = false

-- what begins where a condition holds, else nothing
abbrev pub fresh_where : Bool → List Start → List Start
fresh_where true starts = starts
fresh_where false starts = []

-- The names of declarators have skeletons, those of parameters only where these are a function's own; they belong to
-- it.
pub data Having : Type 0 where
  with_skeleton : Having
  of_function : Option Place → Having
  without_skeleton : Having

-- parameters directly around the name are a function's own
abbrev pub having_where : Bool → Having → Having
having_where true own = own
having_where false own = without_skeleton

-- the skeleton of the name of a declarator at a token, where it has one
abbrev pub had_name : Having → Around → ℕ → List Start
had_name with_skeleton a token = name_start a token
had_name (of_function f) a token = name_start (record a { enclosing = f }) token
had_name without_skeleton a token = []

-- the function that a declaration is of, by its link
abbrev pub first_of : Names → Option Declared → Option Place
first_of s None = None
first_of s (Some d) = Some (link_of s d.first)

-- the function that was declared where a declarator's name was
abbrev pub declared_function : Spelling → Names → Option Named → Option Place
declared_function u s None = None
declared_function u s (Some it) = first_of s (declared_at s.declared (place u it.token))

-- what an operator before its operand begins; `carries`: the pointer that `&` makes is to carry the one by which its
-- operand came to its place
abbrev pub prefix_starts : Punct → Bool → Around → ℕ → Shape → List Start
prefix_starts signs.Ampersand carries a token e = fresh_where carries (some_fresh a token (address e))
prefix_starts sign carries a token e = fresh_where (is_fresh_prefix sign) (fresh a token (base []))

-- the candidates of a selection, by the type of the control's value
abbrev pub selected_by : Option CType → List Association → List Candidate
selected_by None all = []
selected_by (Some t) all = selected t all

-- Which associations of a selection are candidates: those of the type, or all where there are none. Without a type of
-- the control there are none of the type.
abbrev pub candidate_flags : Bool → Option CType → List Association → List Bool
candidate_flags has_some t [] = []
candidate_flags has_some t (it ∷ others) = (not has_some || is_of_type t it.type) ∷ candidate_flags has_some t others

-- the flags of the associations of a selection, at its first token
pub record Selection : Type 0 where
  pub at : Place
  pub flags : List Bool

-- the flag of a number, of the first selection at a place
abbrev pub flag_among : List Selection → Place → ℕ → Bool
flag_among [] p n = false
flag_among (it ∷ others) p n =
    if is_place it.at p then unwrap_or (slice_get it.flags n) false else flag_among others p n
