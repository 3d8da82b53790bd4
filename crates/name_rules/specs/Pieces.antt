-- What a declarator makes of a type (C99, 6.7.5). An array is a pointer to its element. A parameter or result of
-- function type is a pointer to the function.
use Rattle.std.specs.Prelude.{Bool, true, false, List, [], ◌∷◌, ◌++◌, Option, None, Some}
use Rattle.type_table.specs.Types.{Words, CType, base, void, struct, pointer, function, CTypes, no_types, more_types}

-- a type with further annotation words on its outermost constructor
abbrev pub with_words : Words → CType → CType
with_words more (base ws) = base (ws ++ more)
with_words more (void ws) = void (ws ++ more)
with_words more (struct ws n) = struct (ws ++ more) n
with_words more (pointer ws t) = pointer (ws ++ more) t
with_words more (function ws ps r e) = function (ws ++ more) ps r e

-- a function's parameter or result
abbrev pub decayed : CType → CType
decayed (base ws) = base ws
decayed (void ws) = void ws
decayed (struct ws n) = struct ws n
decayed (pointer ws t) = pointer ws t
decayed (function ws ps r e) = pointer [] (function ws ps r e)

-- an ellipsis without annotation words
abbrev pub bare_ellipsis : Option Words → Option Words
bare_ellipsis None = None
bare_ellipsis (Some es) = Some []

-- a type without annotation words, on each node and before each ellipsis
abbrev mutual
  -- a type without its annotation words
  pub bare : CType → CType
  bare (base ws) = base []
  bare (void ws) = void []
  bare (struct ws n) = struct [] n
  bare (pointer ws t) = pointer [] (bare t)
  bare (function ws ps r e) = function [] (all_bare ps) (bare r) (bare_ellipsis e)

  -- types without their annotation words
  pub all_bare : CTypes → CTypes
  all_bare no_types = no_types
  all_bare (more_types t ts) = more_types (bare t) (all_bare ts)

-- whether a type is that of a function
abbrev pub is_function : CType → Bool
is_function (base ws) = false
is_function (void ws) = false
is_function (struct ws n) = false
is_function (pointer ws t) = false
is_function (function ws ps r e) = true

-- what a declarator is made of, from its name outwards: a pointer or an array, or a function
pub data Piece : Type 0 where
  to_pointer : Words → Piece
  to_function : CTypes → Option Words → Piece

-- the type that one piece of a declarator makes of the type outside of it
abbrev pub piece_of : Piece → CType → CType
piece_of (to_pointer ws) t = pointer ws t
piece_of (to_function ps e) t = function [] ps (decayed t) e

-- the type of a name, by its declarator and the type of its specifiers: the piece that is farthest from the name is
-- nearest to the specifiers
abbrev pub applied : List Piece → CType → CType
applied [] t = t
applied (p ∷ ps) t = piece_of p (applied ps t)

-- the types of a list of parameters, none where it says that there are none, as `(void)` does (6.7.5.3)
abbrev pub no_params_if : Bool → CTypes → CTypes
no_params_if true types = no_types
no_params_if false types = types

-- a list of types as the types of parameters
abbrev pub types_in : List CType → CTypes
types_in [] = no_types
types_in (t ∷ ts) = more_types t (types_in ts)
