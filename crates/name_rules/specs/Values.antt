-- Types of values and of what is in a place, by those of their parts; none where a part has none.
use Rattle.std.specs.Prelude.{ℕ, suc, nat_eq, nat_lt, Bool, true, false, ◌&&◌, not, List, [], ◌∷◌, ◌++◌, length, slice_get, Option, None, Some, is_some, if◌then◌else◌, ◌||◌}
use Rattle.c_words.specs.declared.kinds.Punct.{Punct}
use Rattle.c_words.specs.declared.kinds.Punct.TheVariants as signs
use Rattle.tape_ops.specs.declared.specifier.TagKind.{TagKind}
use Rattle.tape_ops.specs.declared.specifier.TagKind.TheVariants as tags
use Rattle.type_table.specs.Types.{CType, base, void, struct, pointer, function, CTypes, no_types, more_types}
use Rattle.name_rules.specs.Scopes.{Aggregate, Body, Own, Known, body_of}

-- an expression: whether it is a place, and the type of what is in it, or else of its value
pub record Shape : Type 0 where
  pub is_place : Bool
  pub type : Option CType

-- a value of a type
abbrev pub a_value : Option CType → Shape
a_value t = record { is_place = false; type = t }

-- a place in which something of a type is
abbrev pub a_place : Option CType → Shape
a_place t = record { is_place = true; type = t }

-- the value of a place in which a function is, is a pointer to it
abbrev pub read_from : CType → CType
read_from (base ws) = base ws
read_from (void ws) = void ws
read_from (struct ws n) = struct ws n
read_from (pointer ws t) = pointer ws t
read_from (function ws ps r e) = pointer [] (function ws ps r e)

-- the type of the value that is read from a place, where the type of what is in it is known
abbrev pub some_read_from : Option CType → Option CType
some_read_from None = None
some_read_from (Some t) = Some (read_from t)

-- the type of an expression's value, which for a place is what is read from it (6.3.2.1)
abbrev pub value : Shape → Option CType
value it = if it.is_place then some_read_from it.type else it.type

-- whether a type is a pointer
abbrev pub is_pointer : CType → Bool
is_pointer (base ws) = false
is_pointer (void ws) = false
is_pointer (struct ws n) = false
is_pointer (pointer ws t) = true
is_pointer (function ws ps r e) = false

-- whether a type is `void`
abbrev pub is_void_type : CType → Bool
is_void_type (base ws) = false
is_void_type (void ws) = true
is_void_type (struct ws n) = false
is_void_type (pointer ws t) = false
is_void_type (function ws ps r e) = false

-- whether a type is a pointer to something else than `void`
abbrev pub points_to_some : CType → Bool
points_to_some (base ws) = false
points_to_some (void ws) = false
points_to_some (struct ws n) = false
points_to_some (pointer ws t) = not (is_void_type t)
points_to_some (function ws ps r e) = false

-- the type that a pointer points to
abbrev pub target : CType → Option CType
target (base ws) = None
target (void ws) = None
target (struct ws n) = None
target (pointer ws t) = Some t
target (function ws ps r e) = None

-- the type that a pointer of a known type points to
abbrev pub some_target : Option CType → Option CType
some_target None = None
some_target (Some t) = target t

-- the type of the address of a place, where it is one and the type of what is in it is known
abbrev pub address : Shape → Option CType
address it = if it.is_place then (pointed it.type) else None where
  pointed : Option CType → Option CType
  pointed None = None
  pointed (Some t) = Some (pointer [] t)

-- what `void *` without annotation words is
abbrev pub is_plain_void_pointer : Option CType → Bool
is_plain_void_pointer (Some (pointer [] (void []))) = true
is_plain_void_pointer _ = false

-- operators

-- whether an operator is `+` or `-`
abbrev pub is_additive : Punct → Bool
is_additive signs.Plus = true
is_additive signs.Minus = true
is_additive p = false

-- the type of `+` and `-`: of one pointer and another value that pointer, else a number
abbrev pub sum_type : Option CType → Option CType → Option CType
sum_type None b = None
sum_type (Some a) None = None
sum_type (Some a) (Some b) =
    Some (if is_pointer a then (if is_pointer b then base [] else a) else if is_pointer b then b else base [])

-- the type of a binary operator's value, which is a number but for `+` and `-` of pointers
abbrev pub binary_type : Punct → Option CType → Option CType → Option CType
binary_type p a b = if is_additive p then sum_type a b else Some (base [])

-- the type of a condition without a zero, where the first branch points to nothing but `void`, if at all: the second
-- where that points to something else, else the first pointer, else the first
abbrev pub second_branch : CType → Option CType → Option CType
second_branch a None = None
second_branch a (Some b) =
    Some (if points_to_some b then b else if is_pointer a then a else if is_pointer b then b else a)

-- the type of a condition with no zero in its branches, by the types of their values
abbrev pub branches_type : Option CType → Option CType → Option CType
branches_type None b = None
branches_type (Some a) b = if points_to_some a then Some a else second_branch a b

-- the type of a condition (6.5.15); a zero takes the type of the other branch
abbrev pub cond_type : Bool → Bool → Option CType → Option CType → Option CType
cond_type first_is_zero last_is_zero a b = if last_is_zero then a else if first_is_zero then b else branches_type a b

-- the type of what `[ ]` gives: what the left operand points to, where that is a pointer, else what the right one
-- points to
abbrev pub index_type : Option CType → Option CType → Option CType
index_type None b = None
index_type (Some a) b = if is_pointer a then target a else some_target b

-- calls

-- the type that a call of a pointer to a function gives
abbrev pub result_type : CType → Option CType
result_type (pointer ws (function vs ps r e)) = Some r
result_type t = None

-- the type that a call gives, where the type of what is called is known
abbrev pub some_result_type : Option CType → Option CType
some_result_type None = None
some_result_type (Some t) = result_type t

-- whether a type is a pointer to a function
abbrev pub points_to_function : CType → Bool
points_to_function (pointer ws (function vs ps r e)) = true
points_to_function t = false

-- how many parameters there are
abbrev pub count_types : CTypes → ℕ
count_types no_types = 0
count_types (more_types t ts) = suc (count_types ts)

-- whether what is called takes so many arguments; with an ellipsis it takes further ones, and what is no function any
-- number
abbrev pub takes : CType → ℕ → Bool
takes (pointer ws (function vs ps r None)) n = nat_eq (count_types ps) n
takes (pointer ws (function vs ps r (Some es))) n = not (nat_lt n (count_types ps))
takes t n = true

-- a name that is called without a declaration
abbrev pub undeclared_function : CType
undeclared_function = function [] no_types (base []) (Some [])

-- members

-- the first member of a name in a list
abbrev pub known_named : List Known → ℕ → Option Known
known_named [] name = None
known_named (it ∷ known) name = if nat_eq it.name name then Some it else known_named known name

-- the member that a body has by a name
abbrev pub member_in : Option Body → ℕ → Option Known
member_in None name = None
member_in (Some body) name = known_named body.known name

-- the member that a struct or union type has by a name
abbrev pub member_of : List Aggregate → CType → ℕ → Option Known
member_of all (struct ws n) name = member_in (body_of all n) name
member_of all (base ws) name = None
member_of all (void ws) name = None
member_of all (pointer ws t) name = None
member_of all (function ws ps r e) name = None

-- the type of a member, where there is one
abbrev pub known_type : Option Known → Option CType
known_type None = None
known_type (Some it) = Some it.type

-- the type of the member that a type has by a name, where both are known
abbrev pub member_type : List Aggregate → Option CType → ℕ → Option CType
member_type all None name = None
member_type all (Some t) name = known_type (member_of all t name)

-- whether a type is known and has no member of a name: a struct without a body, or no struct, has none
abbrev pub lacks_member : List Aggregate → Option CType → ℕ → Bool
lacks_member all None name = false
lacks_member all (Some t) name = is_absent (member_of all t name) where
  is_absent : Option Known → Bool
  is_absent None = true
  is_absent (Some it) = false

-- whether a type is known and is no pointer
abbrev pub is_no_pointer : Option CType → Bool
is_no_pointer None = false
is_no_pointer (Some t) = not (is_pointer t)

-- picks

-- whether a type is a base type: a number, as opposed to `void`, a struct, a pointer or a function
abbrev pub is_base_type : CType → Bool
is_base_type (base ws) = true
is_base_type (void ws) = false
is_base_type (struct ws n) = false
is_base_type (pointer ws t) = false
is_base_type (function ws ps r e) = false

-- whether a type is the struct or union of this number
abbrev pub is_struct_of : ℕ → CType → Bool
is_struct_of n (base ws) = false
is_struct_of n (void ws) = false
is_struct_of n (struct ws m) = nat_eq n m
is_struct_of n (pointer ws t) = false
is_struct_of n (function ws ps r e) = false

-- whether two types may be one: by their constructors and structures, down to what pointers point at and functions give
abbrev pub may_be_one : CType → CType → Bool
may_be_one (base ws) u = is_base_type u
may_be_one (void ws) u = is_void_type u
may_be_one (struct ws n) u = is_struct_of n u
may_be_one (pointer ws t) (base vs) = false
may_be_one (pointer ws t) (void vs) = false
may_be_one (pointer ws t) (struct vs n) = false
may_be_one (pointer ws t) (pointer vs u) = may_be_one t u
may_be_one (pointer ws t) (function vs ps r e) = false
may_be_one (function ws qs t f) (base vs) = false
may_be_one (function ws qs t f) (void vs) = false
may_be_one (function ws qs t f) (struct vs n) = false
may_be_one (function ws qs t f) (pointer vs u) = false
may_be_one (function ws qs t f) (function vs ps r e) = may_be_one t r

-- an expression that may be picked
pub record Candidate : Type 0 where
  pub shape : Shape
  pub is_zero : Bool

-- an association of a selection by a type: the type that is named before its expression, where that is not `default`
pub record Association : Type 0 where
  pub type : Option CType
  pub candidate : Candidate

-- whether an association may be the one for the control's type: where its type may be the same, and always for
-- `default`
abbrev pub is_candidate : CType → Option CType → Bool
is_candidate t None = true
is_candidate t (Some u) = may_be_one t u

-- the candidates by the type of the control's value
abbrev pub candidates_of : CType → List Association → List Candidate
candidates_of t [] = []
candidates_of t (it ∷ others) = (if is_candidate t it.type then it.candidate ∷ [] else []) ++ candidates_of t others

-- the expressions of all associations
abbrev pub all_candidates : List Association → List Candidate
all_candidates [] = []
all_candidates (it ∷ others) = it.candidate ∷ all_candidates others

-- the first candidates, or the others where there are none of the first
abbrev pub or_all : List Candidate → List Candidate → List Candidate
or_all [] others = others
or_all (it ∷ some) others = it ∷ some

-- the candidates of a selection: those of the type, or all where there are none of it
abbrev pub selected : CType → List Association → List Candidate
selected t all = or_all (candidates_of t all) (all_candidates all)

-- whether an association is one of the control's type, where that is known
abbrev pub is_of_type : Option CType → Option CType → Bool
is_of_type None named = false
is_of_type (Some t) named = is_candidate t named

-- whether some association may be one for the control's type
abbrev pub has_of_type : Option CType → List Association → Bool
has_of_type t [] = false
has_of_type t (it ∷ others) = is_of_type t it.type || has_of_type t others

-- the candidates that are no zeros
abbrev pub no_zeros : List Candidate → List Candidate
no_zeros [] = []
no_zeros (it ∷ others) = if it.is_zero then no_zeros others else it ∷ no_zeros others

-- the candidates that are no zeros, or all where all are zeros
abbrev pub left_of : List Candidate → List Candidate
left_of all = or_all (no_zeros all) all

-- the rank of a type for picks: pointers but those to `void`, pointers to `void`, structs, functions, base types,
-- `void`
abbrev pub rank : CType → ℕ
rank (void ws) = 0
rank (base ws) = 1
rank (function ws ps r e) = 2
rank (struct ws n) = 3
rank (pointer ws t) = if is_void_type t then 4 else 5

-- that of two types which is of a higher rank, or else the first; of one that is known that
abbrev pub higher_of : Option CType → Option CType → Option CType
higher_of t None = t
higher_of None (Some u) = Some u
higher_of (Some t) (Some u) = Some (if nat_lt (rank t) (rank u) then u else t)

-- the first type of the highest rank, of one so far and the values of candidates
abbrev pub ranked : Option CType → List Candidate → Option CType
ranked best [] = best
ranked best (it ∷ others) = ranked (higher_of best (value it.shape)) others

-- the first type of the highest rank
abbrev pub first_ranked : List Candidate → Option CType
first_ranked all = ranked None all

-- whether the values of all candidates have types
abbrev pub have_types : List Candidate → Bool
have_types [] = true
have_types (it ∷ others) = is_some (value it.shape) && have_types others

-- the value of a pick of several candidates
abbrev pub picked_value : List Candidate → Option CType
picked_value all = if have_types all then first_ranked (left_of all) else None

-- a pick: of one candidate that one, place and value; of several a value
abbrev pub pick_shape : List Candidate → Shape
pick_shape [] = a_value None
pick_shape (it ∷ []) = it.shape
pick_shape (it ∷ other ∷ others) = a_value (picked_value (it ∷ other ∷ others))

-- a selection by a type, by that of the control's value; without that it has none
abbrev pub selected_shape : Option CType → List Association → Shape
selected_shape None all = a_value None
selected_shape (Some t) all = pick_shape (selected t all)

-- how many expressions give a value of their own to a pick
abbrev pub is_fresh_pick : List Candidate → Bool
is_fresh_pick all = nat_lt 1 (length (left_of all))

-- whether the type of a value is known and is a base type
abbrev pub is_base_value : Option CType → Bool
is_base_value None = false
is_base_value (Some t) = is_base_type t

-- `[ ]` of wider C: where neither value is a pointer and the left one is a number, that is a vector, and its element is
-- as it is
abbrev pub is_vector_index : Bool → Shape → Shape → Bool
is_vector_index wide e e2 = wide && (is_base_value (value e) && is_no_pointer (value e2))

-- what `[ ]` gives: an element of what a pointer points to, or of a vector in wider C
abbrev pub index_shape : Bool → Shape → Shape → Shape
index_shape wide e e2 = if is_vector_index wide e e2 then e else a_place (index_type (value e) (value e2))

-- targets of items in braces (C99, 6.7.8)

-- what an item initialises: nothing, or what has a type where that is known
pub data Target : Type 0 where
  no_target : Target
  to : Option CType → Target

-- the own members of the struct or union of this number
abbrev pub own_of : List Aggregate → ℕ → List Own
own_of all n = own_in (body_of all n) where
  own_in : Option Body → List Own
  own_in None = []
  own_in (Some body) = body.own

-- whether an entry of the structs, unions and enums is there and is a union
abbrev pub is_union_at : Option Aggregate → Bool
is_union_at None = false
is_union_at (Some it) = is_union it.kind where
  is_union : TagKind → Bool
  is_union tags.Struct = false
  is_union tags.Union = true
  is_union tags.Enum = false

-- which of the struct's own members an item without designators has: the next one, of a union always the first
abbrev pub own_number : List Aggregate → ℕ → ℕ → ℕ
own_number all n next = if is_union_at (slice_get all n) then 0 else next

-- an item initialises this own member, or nothing where there is none
abbrev pub to_own : Option Own → Target
to_own None = no_target
to_own (Some it) = to (Some it.type)

-- the target of an item without designators, by whether it is the first and by the next member
abbrev pub next_target : List Aggregate → Option CType → Bool → ℕ → Target
next_target all None is_first next = to None
next_target all (Some (pointer ws t)) is_first next = to (Some t)
next_target all (Some (struct ws n)) is_first next = to_own (slice_get (own_of all n) (own_number all n next))
next_target all (Some (base ws)) is_first next = if is_first then to (Some (base ws)) else no_target
next_target all (Some (void ws)) is_first next = if is_first then to (Some (void ws)) else no_target
next_target all (Some (function ws ps r e)) is_first next = no_target

-- the target of an item with designators, which name something of this type
abbrev pub named_target : Option CType → Bool → Option CType → Target
named_target None is_first named = to None
named_target (Some (pointer ws t)) is_first named = to (Some t)
named_target (Some (struct ws n)) is_first named = to named
named_target (Some (base ws)) is_first named = if is_first then to (Some (base ws)) else no_target
named_target (Some (void ws)) is_first named = if is_first then to (Some (void ws)) else no_target
named_target (Some (function ws ps r e)) is_first named = no_target

-- the member behind a designated one, which is the own member that it is or lies in
abbrev pub behind_member : List Aggregate → Option CType → ℕ → ℕ → ℕ
behind_member all None name next = next
behind_member all (Some t) name next = behind_known (member_of all t name) where
  behind_known : Option Known → ℕ
  behind_known None = next
  behind_known (Some it) = suc it.own
