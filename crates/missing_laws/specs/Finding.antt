-- What is found of skeletons and call sites in a world.
use Rattle.std.specs.Prelude.{◌≡◌, ◌≢◌, ◌⊎◌, ℕ, Bool, true, false, List, [], ◌∷◌, ◌++◌, slice_get, unwrap_or, Option, None, Some}
use Rattle.c_words.specs.declared.kinds.Punct.{Punct}
use Rattle.c_words.specs.declared.kinds.Punct.TheVariants as signs
use Rattle.c_tree.specs.Tree.{Expr, operation, cast, prefix, sizeof_value, sizeof_type, extension, index, call, dot, arrow, post, compound, name_use, number_use, char_use, text_use, paren, statement_expr, va_arg, va_start, va_copy, offset, SpecWords, SomeDeclr, complex_part, label_use, compat, choose, generic, typeof_value, typeof_type, align, auto_word, range_desig, old_desig, case_range, goto_value, block_labels, identifiers, base_name, Assocs, no_assocs, more_assocs, Assoc, typed_assoc, default_assoc}
use Rattle.type_table.specs.Types.{CType, pointer}
use Rattle.qual_types.specs.Skel.{numbered, within}
use Rattle.name_rules.specs.Spellings.{Place}
use Rattle.name_rules.specs.Scopes.{Role, typedef_role, object_role, function_role, parameter_role, field_role, enumerator_role, Declared, declared_at, means, Known, Own, body_of}
use Rattle.name_rules.specs.Linking.{link_of}
use Rattle.name_rules.specs.Uses.{type_named_at, use_at, use_shape}
use Rattle.name_rules.specs.Values.{Shape, Association, value, has_of_type, member_in, own_of}
use Rattle.c_tree.specs.Firsts.{first_word}
use Rattle.type_rules.specs.Tokens.{some_declared_name}
use Rattle.type_rules.specs.Shapes.{shape_of, associations_of}
use Rattle.type_rules.specs.Judging.{expr_faults}
use Rattle.row_rules.specs.Sites.{has_place}
use Rattle.row_rules.specs.Starting.{Around, Start, candidate_flags}
use Rattle.row_rules.specs.Vals.{Val}
use Rattle.row_rules.specs.Worlds.{World, Numbered, at, skeleton}
use Rattle.constraint_rules.specs.Values.{val}
use Rattle.first_laws.specs.Firsts.{has_skeleton}
use Rattle.row_rules.specs.Annotations.{has_access}

-- the same world, with other skeletons and call sites behind those that it has
abbrev pub more : World → List Numbered → List Place → World
more w skeletons sites = record w { skeletons = w.skeletons ++ skeletons; sites = w.sites ++ sites }

-- at the place begins a skeleton of this type
abbrev pub Begins : World → Place → CType → Type 0
Begins w p t = (n : ℕ) × (skeleton w p ≡ numbered t n)

-- a call is one of the call sites
abbrev pub IsSite : World → Option Place → Place → Type 0
IsSite w None p = Unit {0}
IsSite w (Some f) p = has_place w.sites p ≡ true

-- what begins there is found
abbrev pub IsFound : World → Start → Type 0
IsFound w start = Begins w start.at start.type × IsSite w start.calls start.at

-- all of these skeletons and call sites are found
abbrev pub AreFound : World → List Start → Type 0
AreFound w [] = Unit {0}
AreFound w (start ∷ starts) = IsFound w start × AreFound w starts

-- what a declared name has, which is a place of its type
abbrev pub NameBegins : World → Declared → Role → Type 0
NameBegins w d enumerator_role = Unit {0}
NameBegins w d typedef_role = Begins w d.at (pointer [] d.type)
NameBegins w d object_role = Begins w d.at (pointer [] d.type)
NameBegins w d function_role = Begins w d.at (pointer [] d.type)
NameBegins w d (parameter_role i) = Begins w d.at (pointer [] d.type)
NameBegins w d (field_role n i) = Begins w d.at (pointer [] d.type)

-- a type's name was found
abbrev pub TypeIsKnown : World → SpecWords → Type 0
TypeIsKnown w ws = (t : CType) × (type_named_at w.names.type_names (at w (first_word ws)) ≡ Some t)

-- a name was found, or is that of a function that is called without a declaration
abbrev pub UseIsKnown : World → ℕ → Type 0
UseIsKnown w token = (t : CType) × ((use_shape w.names (use_at w.names.uses (at w token))).type ≡ Some t)

-- an expression has a type
abbrev pub HasType : World → Expr → Type 0
HasType w e = (t : CType) × ((shape_of w.spelling w.names e).type ≡ Some t)

-- what the name at a token means has a skeleton
abbrev pub UseBegins : World → ℕ → Type 0
UseBegins w token =
    (p : Place) (d : Declared) → use_at w.names.uses (at w token) ≡ means p → declared_at w.names.declared p ≡ Some d →
    NameBegins w d d.role

-- the sign is one that stands before its operand (C99, 6.5.3)
abbrev pub is_prefix : Punct → Bool
is_prefix signs.PlusPlus = true
is_prefix signs.MinusMinus = true
is_prefix signs.Ampersand = true
is_prefix signs.Star = true
is_prefix signs.Plus = true
is_prefix signs.Minus = true
is_prefix signs.Tilde = true
is_prefix signs.Bang = true
is_prefix p = false

-- the sign stands before an operand (6.5.3)
abbrev pub IsPrefix : Punct → Type 0
IsPrefix p = is_prefix p ≡ true

-- a type's name is known, and its declarator has no name
abbrev pub IsTypeName : World → SpecWords → SomeDeclr → Type 0
IsTypeName w ws d = TypeIsKnown w ws × (some_declared_name d ≡ None)

-- the control of a selection by a type has one, where it has no fault; its own constraints do not count
abbrev pub ControlHasType : World → Expr → Type 0
ControlHasType w e = expr_faults w.spelling w.names e ≡ [] → HasType w e

-- the flags of the associations of a selection, by the types that are known
abbrev pub flags_of : Option CType → List Association → List Bool
flags_of t all = candidate_flags (has_of_type t all) t all

-- a world knows which associations of a selection are candidates
abbrev pub AreCandidates : World → ℕ → Expr → Assocs → Type 0
AreCandidates w token e xs =
    (n : ℕ) → w.candidate (at w token) n
    ≡ unwrap_or
    (slice_get (flags_of (value (shape_of w.spelling w.names e)) (associations_of w.spelling w.names xs)) n) false

-- at an expression itself, its parts aside
abbrev pub IsSettled : World → Expr → Type 0
IsSettled w (name_use token name) = UseIsKnown w token × UseBegins w token
IsSettled w (prefix token p e) = IsPrefix p
IsSettled w (operation e op token e2) = Unit {0}
IsSettled w (cast opening ws d closing e) = IsTypeName w ws d
IsSettled w (sizeof_value word e) = Unit {0}
IsSettled w (sizeof_type word opening ws d closing) = Unit {0}
IsSettled w (extension keyword e) = Unit {0}
IsSettled w (index e opening e2 closing) = Unit {0}
IsSettled w (call e opening es closing) = Unit {0}
IsSettled w (dot e token name) = Unit {0}
IsSettled w (arrow e token name) = Unit {0}
IsSettled w (post e token p) = Unit {0}
IsSettled w (compound opening ws d closing list) = IsTypeName w ws d
IsSettled w (number_use token) = Unit {0}
IsSettled w (char_use token) = Unit {0}
IsSettled w (text_use texts) = Unit {0}
IsSettled w (paren opening e closing) = Unit {0}
IsSettled w (statement_expr opening opening2 items closing closing2) = Unit {0}
IsSettled w (va_arg keyword opening e separator ws d closing) = IsTypeName w ws d
IsSettled w (va_start keyword opening e separator e2 closing) = Unit {0}
IsSettled w (va_copy keyword opening e separator e2 closing) = Unit {0}
IsSettled w (offset keyword opening ws d separator name steps closing) = Unit {0}
IsSettled w (complex_part keyword e) = Unit {0}
IsSettled w (label_use token name) = Unit {0}
IsSettled w (compat keyword opening ws d separator ws2 d2 closing) = Unit {0}
IsSettled w (choose keyword opening e separator e2 separator2 e3 closing) = Unit {0}
IsSettled w (generic keyword opening e xs closing) =
    (xs ≢ no_assocs) × (ControlHasType w e × AreCandidates w keyword e xs)

-- each member of each struct has a skeleton
pub record MembersBegin (w : World) : Type 0 where
  pub known : (n name : ℕ) (it : Known) → member_in (body_of w.names.aggregates n) name ≡ Some it →
      Begins w it.at (pointer [] it.type)
  pub own : (n i : ℕ) (it : Own) → slice_get (own_of w.names.aggregates n) i ≡ Some it →
      Begins w it.at (pointer [] it.type)

-- in a form that is not quiet, in this function
abbrev pub loud : World → Option Place → Around
loud w f =
    record { spelling = w.spelling; names = w.names; enclosing = f; is_quiet = false; access = has_access w.lattices }

-- what is of this type, a place or a value
abbrev pub of_type : Shape → CType → ℕ → Val
of_type s t n = record { is_place = s.is_place; skel = numbered (within s.is_place t) n }

-- the skeleton of an expression is that of its type, or of a reference to it where the expression is a place
abbrev pub HasItsSkeleton : World → Expr → CType → Type 0
HasItsSkeleton w e t = (n : ℕ) × (val w e ≡ of_type (shape_of w.spelling w.names e) t n)

-- a skeleton begins at a place
abbrev pub PlaceBegins : World → Place → Type 0
PlaceBegins w p = (t : CType) × Begins w p t

-- What has a skeleton was first declared where one begins. What has none was first declared as what has none.
abbrev pub FirstIs : World → Declared → Type 0
FirstIs w d =
    (has_skeleton d.role ≡ true → PlaceBegins w d.first)
    × (has_skeleton d.role ≡ false → (first : Declared) → declared_at w.names.declared d.first ≡ Some first →
    has_skeleton first.role ≡ false)

-- what is declared at a token was first declared as what it is
abbrev pub FirstIsMet : World → ℕ → Type 0
FirstIsMet w token = (d : Declared) → declared_at w.names.declared (at w token) ≡ Some d → FirstIs w d

-- what is declared at a token is of a role that has a skeleton
abbrev pub RoleHasSkeleton : World → ℕ → Type 0
RoleHasSkeleton w token =
    (d : Declared) → declared_at w.names.declared (at w token) ≡ Some d → has_skeleton d.role ≡ true

-- where a declaration is linked with another, a skeleton begins at that too
abbrev pub LinksAreMet : World → Type 0
LinksAreMet w = (p : Place) → (link_of w.names p ≡ p) ⊎ PlaceBegins w (link_of w.names p)

-- a skeleton begins at a token
abbrev pub TokenBegins : World → ℕ → Type 0
TokenBegins w token = PlaceBegins w (at w token)
