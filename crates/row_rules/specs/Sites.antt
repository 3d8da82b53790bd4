-- Functions by numbers, call sites, and the owner of each variable, from where skeletons begin.
use Rattle.std.specs.Prelude.{◌≡◌, ℕ, ◌+◌, Bool, true, false, List, [], ◌∷◌, ◌++◌, map, replicate, Option, None, Some, if◌then◌else◌}
use Rattle.qual_base.specs.declared.places.Owner.{Owner}
use Rattle.qual_base.specs.declared.places.Owner.TheVariants.{Nobody, Function}
use Rattle.flow_graph.specs.declared.constraint.Site.{Site}
use Rattle.type_table.specs.Types.{size}
use Rattle.name_rules.specs.Spellings.{Place}
use Rattle.name_rules.specs.Scopes.{Declared, Bodied, Names, is_place}
use Rattle.name_rules.specs.Linking.{link_of}
use Rattle.row_rules.specs.Starting.{Start, is_function_role}
use Rattle.row_rules.specs.Worlds.{number_among}

-- how many variables there are
abbrev pub variables_among : List Start → ℕ
variables_among [] = 0
variables_among (start ∷ starts) = size start.type + variables_among starts

-- Functions are numbered in the order of their first declarations in each unit, by their links: linked ones have one
-- number, the first.
-- So is what is first declared as an object and has a body.

-- whether a place is among some
abbrev pub has_place : List Place → Place → Bool
has_place [] p = false
has_place (q ∷ places) p = if is_place q p then true else has_place places p

-- no two of these places are one
abbrev pub AreDifferent : List Place → Type 0
AreDifferent [] = Unit {0}
AreDifferent (p ∷ places) = (has_place places p ≡ false) × AreDifferent places

-- whether a declaration is the first one of its thing, and that is a function or has a body
abbrev pub is_first_function : List Place → Declared → Bool
is_first_function bodies d =
    if is_place d.at d.first then (if is_function_role d.role then true else has_place bodies d.at) else false

-- where functions and what has a body were first declared in each unit, in the order of declarations
abbrev pub functions_among : List Place → List Declared → List Place
functions_among bodies [] = []
functions_among bodies (d ∷ ds) =
    if is_first_function bodies d then d.at ∷ functions_among bodies ds else functions_among bodies ds

-- where the function of a body was first declared
abbrev pub first_place : Bodied → Place
first_place it = it.first

-- the functions of all units in the order of their numbers, each by its link
abbrev pub functions_of : Names → List Place
functions_of s = map (link_of s) (functions_among (map first_place s.bodies) s.declared)

-- an owner of variables: the function of a place by its number, or nobody
abbrev pub owner_by : List Place → Option Place → Owner
owner_by functions None = Nobody
owner_by functions (Some p) = Function (number_among 0 functions p)

-- call sites, in the order of their tokens

-- the call site at a skeleton that is an instance of a function
abbrev pub site_of : List Place → Start → Option Place → List Site
site_of functions start None = []
site_of functions start (Some f) = record {
  unit = start.at.0;
  token = start.at.1;
  target = number_among 0 functions f;
  owner = owner_by functions start.owner;
} ∷ []

-- the call sites among skeletons
abbrev pub sites_among : List Place → List Start → List Site
sites_among functions [] = []
sites_among functions (start ∷ starts) = site_of functions start start.calls ++ sites_among functions starts

-- the place of a skeleton that is an instance of a function
abbrev pub place_of : Start → Option Place → List Place
place_of start None = []
place_of start (Some f) = start.at ∷ []

-- the places of the call sites among skeletons
abbrev pub site_places : List Start → List Place
site_places [] = []
site_places (start ∷ starts) = place_of start start.calls ++ site_places starts

-- the owner of each variable, of skeletons one behind the other
abbrev pub owners_among : List Place → List Start → List Owner
owners_among functions [] = []
owners_among functions (start ∷ starts) =
    replicate (size start.type) (owner_by functions start.owner) ++ owners_among functions starts
