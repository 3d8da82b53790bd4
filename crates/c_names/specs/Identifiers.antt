-- Identifiers of a list, each by the number of its spelling.
use Rattle.std.specs.Prelude.{◌≡◌, Bool, false, is_some, ℕ, suc, nat_eq, List, [], ◌∷◌, Option, None, Some, option_map, if◌then◌else◌}
use Rattle.std.specs.declared.hash.FoldHasher.{FoldHasher}
use Rattle.std.specs.declared.hash.BuildHasherDefault.{BuildHasherDefault}
use Rattle.std.specs.HashMap.{get, HashMap}
use Rattle.c_names.specs.declared.identifiers.OldParameter.{OldParameter}

-- the number of the identifier of a spelling in a list
abbrev pub number_in : ℕ → List OldParameter → Option ℕ
number_in key [] = None
number_in key (it ∷ others) = if nat_eq it.key key then Some 0 else option_map suc (number_in key others)

-- whether an identifier is there and a declaration gave it a type
abbrev pub is_typed_in : Option OldParameter → Bool
is_typed_in None = false
is_typed_in (Some it) = is_some it.ty

-- the number of the type that there was first, or else this one
abbrev pub some_or : Option ℕ → ℕ → Option ℕ
some_or None ty = Some ty
some_or (Some first) ty = Some first

-- the parameter of an identifier has the type of its first declaration
abbrev pub typed_once : ℕ → OldParameter → OldParameter
typed_once ty it = record it { ty = some_or it.ty ty }

-- a hash table of the numbers of identifiers, by their spellings
abbrev pub NumberTable : Type 0
NumberTable = HashMap ℕ ℕ (BuildHasherDefault FoldHasher)

-- the number of the identifier of a spelling, where there is one
abbrev pub number_there : NumberTable → ℕ → Option ℕ
number_there table key = get nat_eq table key

-- each spelling has the number of its identifier
pub record AreNumbered (all : List OldParameter) (numbers : NumberTable) : Type 0 where
  pub same : (key : ℕ) → number_there numbers key ≡ number_in key all
