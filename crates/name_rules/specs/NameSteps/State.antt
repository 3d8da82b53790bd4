-- What is known at a place of a tape: names, and what is begun and not yet at its end, the innermost of each kind
-- first.
use Rattle.std.specs.Prelude.{ℕ, Bool, false, List, [], ◌∷◌, Option, None}
use Rattle.c_words.specs.declared.kinds.Keyword.{Keyword}
use Rattle.tape_ops.specs.declared.op.Op.{Op}
use Rattle.type_table.specs.Types.{Words, CType, base}
use Rattle.name_rules.specs.Spellings.{Place, Named}
use Rattle.name_rules.specs.Scopes.{Names}
use Rattle.name_rules.specs.Identifiers.{OldParameter}

-- specifiers: their type without annotation words, these words, the storage words and `inline`, and whether a struct or
-- union without a tag is one of them, so far
pub record Specifiers : Type 0 where
  pub type : CType
  pub words : Words
  pub storage : List Keyword
  pub is_untagged : Bool

-- a body of a tag: the specifiers that it is a word of, with the type that they have behind it, and the number of the
-- struct whose members stand in it
pub record OpenBody : Type 0 where
  pub outer : Specifiers
  pub members_of : ℕ

-- a declaration whose specifiers are whole: their type and storage words, and until a name was declared whether a
-- struct or union without a tag is one of them; and of the declarator that is being read the name, where it has one,
-- and the type so far
pub record OpenDeclaration : Type 0 where
  pub type : CType
  pub storage : List Keyword
  pub is_untagged : Bool
  pub name : Option Named
  pub declared : CType

-- a list of parameters: the function whose own they are, where they are a function's own, and their types so far; where
-- it is a list of identifiers, these
pub record OpenParameters : Type 0 where
  pub own : Option Place
  pub types : List CType
  pub identifiers : List OldParameter

-- a type by what stands in parentheses, or the initialiser that gives its type to a name: the specifiers outside, and
-- how many ops are before it
pub record OpenPart : Type 0 where
  pub outer : Specifiers
  pub from : ℕ

-- what is known at a place of a tape
pub record State : Type 0 where
  pub names : Names
  -- the specifiers that are being read; the annotation words before a pointer, an array or an ellipsis too
  pub specifiers : Specifiers
  pub bodies : List OpenBody
  pub declarations : List OpenDeclaration
  pub parameters : List OpenParameters
  -- the types of the parameters of lists that ended and of which no function was made, the last one first
  pub finished : List (List CType)
  pub parts : List OpenPart
  -- the ops so far
  pub passed : List Op

-- specifiers of which no word was read
abbrev pub no_specifiers : Specifiers
no_specifiers = record { type = base []; words = []; storage = []; is_untagged = false }

-- names, with nothing begun
abbrev pub with_names : Names → State
with_names names =
    record {
      names = names;
      specifiers = no_specifiers;
      bodies = [];
      declarations = [];
      parameters = [];
      finished = [];
      parts = [];
      passed = [];
    }

-- a declaration of which nothing was read, which stands for the innermost one where none is open
abbrev pub no_declaration : OpenDeclaration
no_declaration = record { type = base []; storage = []; is_untagged = false; name = None; declared = base [] }

-- a body of which nothing was read, which stands for the innermost one where none is open
abbrev pub no_body : OpenBody
no_body = record { outer = no_specifiers; members_of = 0 }

-- an empty list of parameters, which stands for the innermost one where none is open
abbrev pub no_parameters : OpenParameters
no_parameters = record { own = None; types = []; identifiers = [] }

-- a part of which nothing was read, which stands for the innermost one where none is open
abbrev pub no_part : OpenPart
no_part = record { outer = no_specifiers; from = 0 }

-- the innermost one, or this one where there is none
abbrev pub innermost_or : {A : Type 0} → A → List A → A
innermost_or none [] = none
innermost_or none (x ∷ xs) = x

-- a stack with this in place of the innermost one
abbrev pub with_innermost : {A : Type 0} → A → List A → List A
with_innermost y [] = []
with_innermost y (x ∷ xs) = y ∷ xs

-- what is open around the innermost one
abbrev pub without_innermost : {A : Type 0} → List A → List A
without_innermost [] = []
without_innermost (x ∷ xs) = xs
