-- One copy of each function for each call string (Rehof and Fähndrich, POPL 2001).
use Rattle.std.specs.Prelude.{◌≡◌, ℕ, ◌≤◌, List, [], ◌∷◌, length}
use Rattle.qual_base.specs.declared.places.Owner.{Owner}
use Rattle.qual_base.specs.declared.places.Owner.TheVariants.{Nobody, Function}
use Rattle.flow_graph.specs.System.{System, Calls}

-- A call string of a function is a list of sites, here with the last site first. It is empty, or its last site has the
-- function as its target, and each site but the first has as its owner the target of the site before it. The first
-- site's owner may be any function, or nobody.
abbrev pub IsCallString : System → Owner → List ℕ → Type 0
IsCallString sys owner [] = Unit {0}
IsCallString sys owner (site ∷ []) = (outer : Owner) × Calls sys site outer owner
IsCallString sys owner (site ∷ before ∷ sites) =
    (outer : Owner) × Calls sys site outer owner × IsCallString sys outer (before ∷ sites)

-- The copies of an owner at a depth are its call strings of at most that many sites. What belongs to nobody is there
-- once.
abbrev pub IsCopy : System → ℕ → Owner → List ℕ → Type 0
IsCopy sys depth Nobody sites = sites ≡ []
IsCopy sys depth (Function f) sites = IsCallString sys (Function f) sites × (length sites ≤ depth)

-- the function that owns one of two, or nobody
abbrev pub either : Owner → Owner → Owner
either Nobody other = other
either (Function f) other = Function f
