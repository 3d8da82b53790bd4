-- Parts of rows.
use Rattle.std.specs.Prelude.{ℕ, ◌^◌, nat_eq, Bool, true, false, ◌&&◌, ◌||◌, List, [], ◌∷◌, ◌++◌, Option, None, Some, if◌then◌else◌}
use Rattle.c_words.specs.declared.kinds.Punct.{Punct}
use Rattle.qual_base.specs.declared.places.Span.{Span}
use Rattle.lattice_core.specs.declared.Entry.{Entry}
use Rattle.flow_graph.specs.declared.constraint.Constraint.{Constraint}
use Rattle.flow_graph.specs.declared.constraint.Link.TheVariants.{Bound, Le}
use Rattle.qual_types.specs.Skel.{Skel, root}
use Rattle.flow_rules.specs.declared.arrow.Arrow.TheVariants.{Flow}
use Rattle.flow_rules.specs.Lists.{flow, equal, cross}
use Rattle.name_rules.specs.Spellings.{Place}
use Rattle.name_rules.specs.Values.{is_additive}
use Rattle.row_rules.specs.Worlds.{World, all_lattices, at, constraint, in_all, site_number, skeleton, span}
use Rattle.type_table.specs.Types.{CType}
use Rattle.row_rules.specs.Annotations.{uncut, derefs_where}
use Rattle.row_rules.specs.Vals.{Val, is_nothing, is_ref, value}
use Rattle.row_rules.specs.Forming.{formed}
use Rattle.row_rules.specs.Rows.{is_plus_or_minus, is_logical, flowing, formed_here, branched, carrying}
use Rattle.row_adding.specs.declared.bounds.Attribute.{Attribute}
use Rattle.row_adding.specs.declared.bounds.Attribute.TheVariants as attributes

-- what an assignment moves into what is in a place
abbrev pub moved : World → Punct → Bool → Skel → Skel → Span → List Constraint
moved w p is_zero t b where_ =
    if is_plus_or_minus p && is_ref t then [] else flowing is_zero b t (all_lattices w) where_

-- whether a binary operator lets nothing of its operands into its value: it compares, or moves a pointer
abbrev pub computes_none : Punct → Skel → Skel → Bool
computes_none p a b = is_logical p || (is_additive p && (is_ref a || is_ref b))

-- whether an element bounds what is written to, what is followed and only addressed, or what is followed and accessed
abbrev pub has : Attribute → Entry → Bool
has attributes.Write = λ entry. entry.write
has attributes.Deref = λ entry. derefs_where true entry.deref
has attributes.Access = λ entry. derefs_where false entry.deref

-- the bound by one element
abbrev pub bound_by : (Entry → Bool) → ℕ → Span → ℕ → ℕ → Entry → List Constraint
bound_by test v where_ lattice n entry =
    if test entry then constraint (2 ^ lattice) where_ (Bound v lattice n) ∷ [] else []

-- the signature of the function of a place, crossed with the instance at a token
abbrev pub instance_row : World → ℕ → Place → List Constraint
instance_row w token p =
    in_all w (span w token token) (cross (site_number w (at w token)) (skeleton w p) (skeleton w (at w token)))

-- what a condition gives that has a fresh value
abbrev pub chosen_row : World → Skel → Skel → Skel → Span → List Constraint
chosen_row w a b t where_ = formed w where_ t ++ branched w a b t where_

-- the row of a function's name: what passes inside of the instance, and then that it is crossed
abbrev pub function_instance : World → ℕ → Place → List Constraint
function_instance w token p = formed_here w token ++ instance_row w token p

-- an operand flows into what it initialises
abbrev pub into_some : World → Option Skel → Bool → Val → Span → List Constraint
into_some w None is_zero it where_ = []
into_some w (Some t) is_zero it where_ = flowing is_zero (value it) t (all_lattices w) where_

-- the operand of a cast flows in the lattices of which the type has no word
abbrev pub cast_row : World → CType → Bool → Skel → Skel → Span → List Constraint
cast_row w type is_zero a t where_ = if nat_eq (uncut w type) 0 then [] else flowing is_zero a t (uncut w type) where_

-- the skeletons of two declarations of a name are equal, where these are two and both have one
abbrev pub tied : World → Bool → Skel → Skel → Span → List Constraint
tied w is_one a b where_ =
    if is_one || (is_nothing a || is_nothing b) then [] else in_all w where_ (equal Flow true a b)

-- what is given flows into the skeleton of what was no function first, where that is one
abbrev pub given : World → Bool → Skel → Skel → Span → List Constraint
given w was_function a b where_ = if was_function || is_nothing b then [] else in_all w where_ (flow Flow true a b)

-- the variable of further arguments flows into a list of arguments, where that is one
abbrev pub begun : World → ℕ → Skel → Span → List Constraint
begun w e list where_ = if is_nothing list then [] else in_all w where_ (Le e (root list) ∷ [])

-- a pointer that carries another one points at its place, and is at least that one
abbrev pub pointed : World → Skel → Skel → Skel → Span → List Constraint
pointed w place by t where_ = flowing false place t (all_lattices w) where_ ++ carrying w by t where_
