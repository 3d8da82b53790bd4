-- The skeleton of an operand, that of a place, which is a reference to what is in it, or that of a value (Foster et al.
-- 2006), and
-- what each operator makes of its operands.
use Rattle.std.specs.Prelude.{ℕ, Bool, true, false, ◌&&◌, not, List, [], ◌∷◌, Option, None, Some, if◌then◌else◌}
use Rattle.c_words.specs.declared.kinds.Punct.{Punct}
use Rattle.c_words.specs.declared.kinds.Punct.TheVariants as signs
use Rattle.qual_types.specs.declared.look.Kind.TheVariants as kinds
use Rattle.qual_types.specs.Skel.{Skel, flat, ref, fun, no_skeleton, struct_of}
use Rattle.name_rules.specs.Spellings.{Place}
use Rattle.name_rules.specs.Scopes.{Role, typedef_role, object_role, function_role, parameter_role, field_role, enumerator_role, Declared, declared_at, Use, means, called, missing, Known, body_of}
use Rattle.name_rules.specs.Values.{is_additive, member_in}
use Rattle.row_rules.specs.Annotations.{has_access}
use Rattle.row_rules.specs.Worlds.{World, at, skeleton}

-- an operand: whether it is a place, and its skeleton
pub record Val : Type 0 where
  pub is_place : Bool
  pub skel : Skel

-- an operand that is a value of this skeleton
abbrev pub a_value : Skel → Val
a_value s = record { is_place = false; skel = s }

-- an operand that is a place: its skeleton is a reference to what is in it
abbrev pub a_place : Skel → Val
a_place s = record { is_place = true; skel = s }

-- what a reference holds; of what is none, itself
abbrev pub contents : Skel → Skel
contents (ref v s) = s
contents (flat v k) = flat v k
contents (fun v ps r e) = fun v ps r e

-- the value of a place is what it holds, or the place itself where that is a function
abbrev pub read : Skel → Skel
read (ref v (fun u ps r e)) = ref v (fun u ps r e)
read (ref v (flat u k)) = flat u k
read (ref v (ref u s)) = ref u s
read (flat v k) = flat v k
read (fun v ps r e) = fun v ps r e

-- the skeleton of an operand's value
abbrev pub value : Val → Skel
value it = if it.is_place then read it.skel else it.skel

-- whether a skeleton is a reference: a pointer or a place
abbrev pub is_ref : Skel → Bool
is_ref (ref v s) = true
is_ref (flat v k) = false
is_ref (fun v ps r e) = false

-- whether a skeleton is that of a function
abbrev pub is_fun : Skel → Bool
is_fun (ref v s) = false
is_fun (flat v k) = false
is_fun (fun v ps r e) = true

-- whether it stands for there being no skeleton
abbrev pub is_nothing : Skel → Bool
is_nothing (flat v kinds.Nothing) = true
is_nothing (flat v kinds.Void) = false
is_nothing (flat v kinds.Base) = false
is_nothing (flat v (kinds.Struct n)) = false
is_nothing (ref v s) = false
is_nothing (fun v ps r e) = false

-- a void, or what has no skeleton: its value flows nowhere, and nothing flows into it
abbrev pub is_empty : Skel → Bool
is_empty (flat v kinds.Nothing) = true
is_empty (flat v kinds.Void) = true
is_empty (flat v kinds.Base) = false
is_empty (flat v (kinds.Struct n)) = false
is_empty (ref v s) = false
is_empty (fun v ps r e) = false

-- what a function gives; of what is no function, itself
abbrev pub result : Skel → Skel
result (fun v ps r e) = r
result (flat v k) = flat v k
result (ref v s) = ref v s

-- the member that the struct of a number has by a name, where there is such a struct
abbrev pub member_of : World → Option ℕ → ℕ → Option Known
member_of w None name = None
member_of w (Some n) name = member_in (body_of w.names.aggregates n) (w.spelling.key name)

-- the skeleton of a member, where there is one
abbrev pub known_skeleton : World → Option Known → Skel
known_skeleton w None = no_skeleton
known_skeleton w (Some it) = skeleton w it.at

-- a member's skeleton is that of its declaration: all objects of a struct share it
abbrev pub member_skel : World → Skel → ℕ → Skel
member_skel w s name = known_skeleton w (member_of w (struct_of s) name)

-- the value of `+` or `-`, by which operands are references: the one that is, or else a fresh one
abbrev pub sum_of : Bool → Bool → Skel → Skel → Skel → Skel
sum_of true true a b own = own
sum_of true false a b own = a
sum_of false true a b own = b
sum_of false false a b own = own

-- the value of a binary operator, by its operands and a fresh skeleton
abbrev pub binary_of : Punct → Skel → Skel → Skel → Skel
binary_of p a b own = if is_additive p then sum_of (is_ref a) (is_ref b) a b own else own

-- the value of a `&` before a place that was come to by a pointer is fresh, where some lattice bounds accesses
abbrev pub prefix_of : World → ℕ → Punct → Val → Bool → Val
prefix_of w token signs.Ampersand e aims =
    if aims && has_access w.lattices then a_value (skeleton w (at w token)) else a_value e.skel
prefix_of w token signs.Star e aims = a_place (value e)
prefix_of w token signs.PlusPlus e aims = a_value (value e)
prefix_of w token signs.MinusMinus e aims = a_value (value e)
prefix_of w token p e aims = a_value (skeleton w (at w token))

-- whether an operator is a `&` with a fresh value, which carries the pointer by which its operand came to its place
abbrev pub is_carrying : World → Punct → Bool → Bool
is_carrying w signs.Ampersand aims = aims && has_access w.lattices
is_carrying w p aims = false

-- a use of a declared name: the value of an enumerator, the instance of a function, or the place of what was declared
abbrev pub used_by_role : World → ℕ → Place → Role → Val
used_by_role w token p enumerator_role = a_value (skeleton w (at w token))
used_by_role w token p function_role = a_place (skeleton w (at w token))
used_by_role w token p typedef_role = a_place (skeleton w p)
used_by_role w token p object_role = a_place (skeleton w p)
used_by_role w token p (parameter_role i) = a_place (skeleton w p)
used_by_role w token p (field_role n i) = a_place (skeleton w p)

-- a use of a name, where its declaration is there
abbrev pub used_some : World → ℕ → Option Declared → Val
used_some w token None = a_place no_skeleton
used_some w token (Some d) = used_by_role w token d.at d.role

-- a name in an expression as an operand, by what it stands for
abbrev pub used : World → ℕ → Use → Val
used w token (means p) = used_some w token (declared_at w.names.declared p)
used w token called = a_place (skeleton w (at w token))
used w token missing = a_place no_skeleton

module _ (w : World) where
  -- the fresh skeleton at a token
  abbrev pub own : ℕ → Skel
  own token = skeleton w (at w token)

  -- of a condition: a zero takes the value of the other branch
  abbrev pub branch : Bool → Bool → ℕ → Skel → Skel → Skel
  branch first last token a b = if last then a else if first then b else own token

-- picks

-- an expression that may be picked
pub record Candidate : Type 0 where
  pub val : Val
  pub is_zero : Bool

-- the candidates that are no zeros
abbrev pub no_zeros : List Candidate → List Candidate
no_zeros [] = []
no_zeros (it ∷ others) = if it.is_zero then no_zeros others else it ∷ no_zeros others

-- the first candidates, or the others where there are none of the first
abbrev pub or_all : List Candidate → List Candidate → List Candidate
or_all [] others = others
or_all (it ∷ some) others = it ∷ some

-- the candidates that are no zeros, or all where all are zeros
abbrev pub left_of : List Candidate → List Candidate
left_of all = or_all (no_zeros all) all

-- the value of the candidates that are left: that of the one, or else a fresh one
abbrev pub value_of_left : Skel → List Candidate → Skel
value_of_left own [] = own
value_of_left own (it ∷ []) = value it.val
value_of_left own (it ∷ other ∷ others) = own

-- a pick: of one candidate that one, place and value; of several a value
abbrev pub pick_of : Skel → List Candidate → Val
pick_of own [] = a_value own
pick_of own (it ∷ []) = it.val
pick_of own (it ∷ other ∷ others) = a_value (value_of_left own (left_of (it ∷ other ∷ others)))

-- `[ ]` of wider C: where neither operand is a reference it takes an element of a vector, the left operand
abbrev pub is_vector_index : Bool → Skel → Skel → Bool
is_vector_index wide a b = wide && (not (is_ref a) && not (is_ref b))

-- what `[ ]` gives: the place that the operand which is a reference refers to, or in wider C an element of a vector
abbrev pub index_of : Bool → Val → Val → Val
index_of wide e e2 =
    if is_vector_index wide (value e) (value e2) then e
    else a_place (if is_ref (value e) then value e else value e2)
