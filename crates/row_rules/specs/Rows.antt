-- The constraints that one form gives by itself: its row.
use Rattle.std.specs.Prelude.{ℕ, suc, Bool, true, false, ◌&&◌, ◌||◌, List, [], ◌∷◌, ◌++◌, slice_get, nat_eq, Option, None, Some, if◌then◌else◌}
use Rattle.c_words.specs.declared.kinds.Punct.{Punct}
use Rattle.c_words.specs.declared.kinds.Punct.TheVariants as signs
use Rattle.qual_base.specs.declared.places.Span.{Span}
use Rattle.flow_graph.specs.declared.constraint.Link.TheVariants.{Le}
use Rattle.flow_graph.specs.declared.constraint.Constraint.{Constraint}
use Rattle.type_table.specs.Types.{CType, pointer}
use Rattle.qual_types.specs.Skel.{Skel, root, param_at}
use Rattle.flow_rules.specs.declared.arrow.Arrow.TheVariants.{Flow}
use Rattle.flow_rules.specs.Lists.{flow, equal, cross, smash, unsmash}
use Rattle.name_rules.specs.Spellings.{Place, Named}
use Rattle.name_rules.specs.Scopes.{Role, typedef_role, object_role, function_role, parameter_role, field_role, enumerator_role, Declared, declared_at, Use, means, called, missing, Known, Own, is_place}
use Rattle.name_rules.specs.Linking.{link_of}
use Rattle.name_rules.specs.Values.{is_additive, own_of, own_number}
use Rattle.row_rules.specs.Annotations.{access_lattices, annotating, deref_bounds, further, parameters, uncut, write_bounds}
use Rattle.row_rules.specs.Indexing.{indexing}
use Rattle.row_rules.specs.Forming.{formed}
use Rattle.row_rules.specs.Starting.{is_some_function}
use Rattle.row_rules.specs.Vals.{Val, Candidate, is_vector_index, contents, is_empty, is_fun, is_nothing, is_ref, own, result, value}
use Rattle.row_rules.specs.Worlds.{World, all_lattices, at, constraint, constraints, in_all, site_number, skeleton, span, word_span}

-- An expression's value flows into a skeleton: nothing where it is a zero, or where either is void or is no skeleton.
abbrev pub flowing : Bool → Skel → Skel → ℕ → Span → List Constraint
flowing is_zero a t lattices where_ =
    if is_zero || (is_empty a || is_empty t) then [] else constraints lattices where_ (flow Flow true a t)

-- what is dereferenced is bounded, but where it points to a function
abbrev pub dereferenced : World → Skel → Bool → Span → List Constraint
dereferenced w s aims where_ = if is_fun (contents s) then [] else deref_bounds w (root s) aims where_

-- whether an assignment operator is `+=` or `-=`
abbrev pub is_plus_or_minus : Punct → Bool
is_plus_or_minus signs.PlusEqual = true
is_plus_or_minus signs.MinusEqual = true
is_plus_or_minus p = false

-- an assignment: `+=` and `-=` move a pointer, and nothing flows into it
abbrev pub assigned : World → Punct → Bool → Skel → Skel → Span → List Constraint
assigned w p is_zero a b where_ = write_bounds w (root a) where_
    ++ (if is_plus_or_minus p && is_ref (contents a) then []
    else flowing is_zero b (contents a) (all_lattices w) where_)

-- whether an operator gives a truth value: `||`, `&&` and comparisons
abbrev pub is_logical : Punct → Bool
is_logical signs.BarBar = true
is_logical signs.AmpersandAmpersand = true
is_logical signs.EqualEqual = true
is_logical signs.BangEqual = true
is_logical signs.Less = true
is_logical signs.Greater = true
is_logical signs.LessEqual = true
is_logical signs.GreaterEqual = true
is_logical p = false

-- both operands of an operator flow into its fresh value, where numbers are computed
abbrev pub computed : World → Punct → Bool → Bool → Skel → Skel → Skel → Span → List Constraint
computed w p first_is_zero last_is_zero a b t where_ =
    if is_logical p || (is_additive p && (is_ref a || is_ref b)) then []
    else flowing first_is_zero a t (all_lattices w) where_ ++ flowing last_is_zero b t (all_lattices w) where_

-- both branches of a condition flow into its fresh value
abbrev pub branched : World → Skel → Skel → Skel → Span → List Constraint
branched w a b t where_ = flowing false a t (all_lattices w) where_ ++ flowing false b t (all_lattices w) where_

-- the row of a condition: where none of its branches is a zero, its value is fresh
abbrev pub chosen : World → Bool → Bool → Skel → Skel → Skel → Span → List Constraint
chosen w first_is_zero last_is_zero a b t where_ =
    if first_is_zero || last_is_zero then [] else formed w where_ t ++ branched w a b t where_

-- what is left of the candidates of a pick flows into its fresh value
abbrev pub picking : World → List Candidate → Skel → Span → List Constraint
picking w [] t where_ = []
picking w (it ∷ others) t where_ =
    flowing it.is_zero (value it.val) t (all_lattices w) where_ ++ picking w others t where_

-- the row of a pick: where several candidates are left, its value is fresh
abbrev pub picked : World → List Candidate → Skel → Span → List Constraint
picked w [] t where_ = []
picked w (it ∷ []) t where_ = []
picked w (it ∷ other ∷ others) t where_ = formed w where_ t ++ picking w (it ∷ other ∷ others) t where_

-- an index, but where it takes an element of a vector
abbrev pub index_demand : World → Skel → Skel → Bool → Span → List Constraint
index_demand w a b aims where_ =
    if is_vector_index w.spelling.wide a b then [] else dereferenced w (if is_ref a then a else b) aims where_

-- A pointer that `&` makes to a place that was come to by a pointer: it points at the place, and is at least that
-- pointer in the lattices that bound accesses.
abbrev pub carrying : World → Skel → Skel → Span → List Constraint
carrying w by t where_ =
    if is_nothing by || is_nothing t then []
    else constraint (access_lattices w.lattices) where_ (Le (root by) (root t)) ∷ []

-- the row of `&` before a place that was come to by a pointer, where some lattice bounds accesses
abbrev pub carried : World → Skel → Skel → Skel → Span → List Constraint
carried w place by t where_ =
    formed w where_ t ++ (flowing false place t (all_lattices w) where_ ++ carrying w by t where_)

-- the row of a prefix operator; `aims`: the place of its value is only addressed
abbrev pub prefixed : World → Punct → Bool → Val → Skel → Bool → Span → List Constraint
prefixed w signs.PlusPlus is_zero e t aims where_ = write_bounds w (root e.skel) where_
prefixed w signs.MinusMinus is_zero e t aims where_ = write_bounds w (root e.skel) where_
prefixed w signs.Star is_zero e t aims where_ = dereferenced w (value e) aims where_
prefixed w signs.Plus is_zero e t aims where_ = flowing is_zero (value e) t (all_lattices w) where_
prefixed w signs.Minus is_zero e t aims where_ = flowing is_zero (value e) t (all_lattices w) where_
prefixed w signs.Tilde is_zero e t aims where_ = flowing is_zero (value e) t (all_lattices w) where_
prefixed w p is_zero e t aims where_ = []

-- an argument: into its parameter, or past the parameters into what stands for all further arguments
abbrev pub passed : World → Bool → Skel → Option Skel → Option ℕ → Span → List Constraint
passed w is_zero a (Some t) e where_ = flowing is_zero a t (all_lattices w) where_
passed w is_zero a None None where_ = []
passed w is_zero a None (Some e) where_ = if is_zero || is_empty a then [] else in_all w where_ (smash a e)

-- the skeleton of an expression of one token
abbrev pub formed_here : World → ℕ → List Constraint
formed_here w token = formed w (span w token token) (own w token)

-- a function's name: its signature, crossed with the instance here
abbrev pub crossed : World → ℕ → Place → List Constraint
crossed w token p =
    in_all w (span w token token) (cross (site_number w (at w token)) (skeleton w p) (skeleton w (at w token)))

-- the row of a use of a declared name: only that of a function gives something
abbrev pub instance : World → ℕ → Place → Role → List Constraint
instance w token p function_role = formed_here w token ++ crossed w token p
instance w token p typedef_role = []
instance w token p object_role = []
instance w token p (parameter_role i) = []
instance w token p (field_role n i) = []
instance w token p enumerator_role = []

-- the row of a use of a name, where its declaration is there
abbrev pub some_instance : World → ℕ → Option Declared → List Constraint
some_instance w token None = []
some_instance w token (Some d) = instance w token d.at d.role

-- the row of a name in an expression, by what it stands for
abbrev pub use_demand : World → ℕ → Use → List Constraint
use_demand w token (means p) = some_instance w token (declared_at w.names.declared p)
use_demand w token called = formed_here w token
use_demand w token missing = []

-- names

-- what the annotation words on a type give, where it is known
abbrev pub annotating_some : World → Option CType → Skel → List Constraint
annotating_some w None s = []
annotating_some w (Some t) s = annotating w t s

-- what the type of a cast says, and the operand flows in the lattices of which it has no word
abbrev pub casting : World → CType → Bool → Skel → Skel → Span → List Constraint
casting w type is_zero a t where_ =
    annotating w type t ++ (if nat_eq (uncut w type) 0 then [] else flowing is_zero a t (uncut w type) where_)

-- the row of a cast, where the type that it names is known
abbrev pub cast_demand : World → Option CType → Bool → Skel → Skel → Span → List Constraint
cast_demand w None is_zero a t where_ = []
cast_demand w (Some type) is_zero a t where_ = formed w where_ t ++ casting w type is_zero a t where_

-- annotations of a declared name, whose skeleton is a reference to one of its type
abbrev pub annotating_name : World → Declared → List Constraint
annotating_name w d = annotating w (pointer [] d.type) (skeleton w d.at)

-- where what a declaration is as was declared: first in its unit or in the prelude, or where this is that itself, first
-- in all units
abbrev pub equal_to : World → Declared → Place
equal_to w d = if is_place d.first d.at then link_of w.names d.at else d.first

-- a declaration is as that at a place, where that is another one and both have skeletons
abbrev pub tied_to : World → Declared → Place → List Constraint
tied_to w d first =
    if is_place first d.at || (is_nothing (skeleton w first) || is_nothing (skeleton w d.at)) then []
    else in_all w (word_span d.at) (equal Flow true (skeleton w first) (skeleton w d.at))

-- a further declaration is as the first
abbrev pub tied_to_first : World → Declared → List Constraint
tied_to_first w d = tied_to w d (equal_to w d)

-- what passes inside the skeleton of a declared name
abbrev pub formed_name : World → Declared → List Constraint
formed_name w d = formed w (word_span d.at) (skeleton w d.at)

-- the annotations of a declared name, what its index words say, and that it is as the first
abbrev pub plain_name_row : World → Declared → List Constraint
plain_name_row w d = annotating_name w d ++ (indexing w (pointer [] d.type) (skeleton w d.at) ++ tied_to_first w d)

-- the row of a declared name
abbrev pub name_row : World → Declared → List Constraint
name_row w d = formed_name w d ++ plain_name_row w d

-- the row of a declared name by its role; a typedef and an enumerator have none
abbrev pub declared_row : World → Declared → Role → List Constraint
declared_row w d typedef_role = []
declared_row w d object_role = name_row w d
declared_row w d function_role = name_row w d
declared_row w d (parameter_role i) = name_row w d
declared_row w d (field_role n i) = name_row w d
declared_row w d enumerator_role = []

-- the row of a declared name, where there is a declaration
abbrev pub some_declared_row : World → Option Declared → List Constraint
some_declared_row w None = []
some_declared_row w (Some d) = declared_row w d d.role

-- What a function is given flows into its parameter. What was first declared as a function is no parameter.
abbrev pub into_param : World → Option Skel → Declared → List Constraint
into_param w None d = []
into_param w (Some s) d =
    if is_some_function (declared_at w.names.declared d.first) || is_nothing (contents (skeleton w d.at)) then []
    else in_all w (word_span d.at) (flow Flow true s (contents (skeleton w d.at)))

-- a parameter's annotations, and what its function is given flows into it
abbrev pub plain_param_row : World → Skel → ℕ → Declared → List Constraint
plain_param_row w own i d = annotating_name w d ++ into_param w (param_at (parameters own) i) d

-- the row of the parameter of a number, of the function of this skeleton
abbrev pub param_row : World → Skel → ℕ → Option Declared → List Constraint
param_row w own i None = []
param_row w own i (Some d) = formed_name w d ++ plain_param_row w own i d

-- which row the name of a declarator has: none in a type's name and in a prototype, that of a name, or that of a
-- parameter of the function of this skeleton
pub data RowKind : Type 0 where
  no_row : RowKind
  row_of_name : RowKind
  row_of_param : Skel → ℕ → RowKind

-- the row of the name of a declarator at a token
abbrev pub row_at : World → RowKind → ℕ → List Constraint
row_at w no_row token = []
row_at w row_of_name token = some_declared_row w (declared_at w.names.declared (at w token))
row_at w (row_of_param own i) token = param_row w own i (declared_at w.names.declared (at w token))

-- the row of a parameter of the function of this skeleton; `bare`: the parameters stand directly around its name
abbrev pub param_kind : Option Skel → Bool → ℕ → RowKind
param_kind None bare i = no_row
param_kind (Some own) true i = row_of_param own i
param_kind (Some own) false i = no_row

-- the row of a parameter of the function of this skeleton, where there is one
abbrev pub some_param_kind : Option Skel → ℕ → RowKind
some_param_kind None i = no_row
some_param_kind (Some own) i = row_of_param own i

-- the number of a parameter by its identifier is that of its declaration
abbrev pub numbered_row : Option Skel → Role → RowKind
numbered_row own typedef_role = no_row
numbered_row own object_role = no_row
numbered_row own function_role = no_row
numbered_row own (parameter_role i) = some_param_kind own i
numbered_row own (field_role n i) = no_row
numbered_row own enumerator_role = no_row

-- the row of a parameter that is declared behind a list of identifiers, by its declaration
abbrev pub identified_by : Option Skel → Option Declared → RowKind
identified_by own None = no_row
identified_by own (Some d) = numbered_row own d.role

-- the row of the name of a declarator behind a list of identifiers
abbrev pub identified_kind : World → Option Skel → Option Named → RowKind
identified_kind w own None = no_row
identified_kind w own (Some it) = identified_by own (declared_at w.names.declared (at w it.token))

-- a returned value flows into the result of the function around it
abbrev pub returned : World → Option Skel → Bool → Skel → Span → List Constraint
returned w None is_zero a where_ = []
returned w (Some own) is_zero a where_ = flowing is_zero a (result own) (all_lattices w) where_

-- what is taken from a list of further arguments has what stands for all of them
abbrev pub taken : World → Skel → Skel → Span → List Constraint
taken w list t where_ = if is_nothing list || is_nothing t then [] else in_all w where_ (unsmash (root list) t)

-- the row of `va_start`: the further arguments of the function around it flow into the list (7.15.1.4)
abbrev pub started : World → Option Skel → Skel → Span → List Constraint
started w None list where_ = []
started w (Some own) list where_ = begun w (further own) list where_ where
  begun : World → Option ℕ → Skel → Span → List Constraint
  begun w None list where_ = []
  begun w (Some e) list where_ = if is_nothing list then [] else in_all w where_ (Le e (root list) ∷ [])

-- initialisers: what an item initialises

-- the skeleton of what is in an own member, where there is one
abbrev pub own_skel : World → Option Own → Option Skel
own_skel w None = None
own_skel w (Some it) = Some (contents (skeleton w it.at))

-- what an item without designators initialises of a struct, where the next member has this number
abbrev pub next_of_struct : World → ℕ → ℕ → Option Skel
next_of_struct w n next = own_skel w (slice_get (own_of w.names.aggregates n) (own_number w.names.aggregates n next))

-- what an item initialises of something without parts: all of it, and only the first item does
abbrev pub first_alone : Bool → Skel → Option Skel
first_alone true s = Some s
first_alone false s = None

-- the number of the own member behind a designated one
abbrev pub behind_known : Option Known → ℕ → ℕ
behind_known None next = next
behind_known (Some it) next = suc it.own

-- a list of further arguments: what is taken from it is of a type
abbrev pub taken_of_type : World → ℕ → Option CType → Skel → Span → List Constraint
taken_of_type w token type list where_ = annotating_some w type (own w token) ++ taken w list (own w token) where_

-- the row of `va_arg` (7.15.1.1)
abbrev pub taken_fresh : World → ℕ → Option CType → Skel → Span → List Constraint
taken_fresh w token type list where_ = formed w where_ (own w token) ++ taken_of_type w token type list where_

-- a compound literal is a place of its type
abbrev pub annotating_place : World → Option CType → Skel → List Constraint
annotating_place w None s = []
annotating_place w (Some t) s = annotating w (pointer [] t) s

-- the row of a compound literal (6.5.2.5)
abbrev pub literal_row : World → ℕ → Option CType → List Constraint
literal_row w token type = formed_here w token ++ annotating_place w type (own w token)

-- what is in the place of a declaration, where something of this role can be initialised
abbrev pub by_role : World → Declared → Role → Option Skel
by_role w d typedef_role = None
by_role w d function_role = None
by_role w d object_role = Some (contents (skeleton w d.at))
by_role w d (parameter_role i) = Some (contents (skeleton w d.at))
by_role w d (field_role n i) = Some (contents (skeleton w d.at))
by_role w d enumerator_role = None

-- what is in the place of a declaration, by the first declaration of its thing
abbrev pub by_first : World → Declared → Option Declared → Option Skel
by_first w d None = None
by_first w d (Some first) = by_role w d first.role

-- what the initialiser of a declared name initialises, where its declaration is there
abbrev pub initialised_at : World → Option Declared → Option Skel
initialised_at w None = None
initialised_at w (Some d) = by_first w d (declared_at w.names.declared d.first)

-- what an initialiser initialises: nothing where the name is a typedef or means a function
abbrev pub initialised : World → Option Named → Option Skel
initialised w None = None
initialised w (Some it) = initialised_at w (declared_at w.names.declared (at w it.token))

-- a function's own skeleton is that of its name in this declaration
abbrev pub own_skeleton : World → Option Named → Option Skel
own_skeleton w None = None
own_skeleton w (Some it) = Some (contents (skeleton w (at w it.token)))
