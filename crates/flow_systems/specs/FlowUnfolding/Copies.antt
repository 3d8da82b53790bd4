-- Tests of call strings and copies, and of where a constraint stands.
use Rattle.std.specs.Prelude.{ℕ, List, [], ◌∷◌, length, slice_get, Some, None, Bool, false, true, ◌&&◌, nat_eq, nat_le}
use Rattle.std.specs.declared.option.Option.{Option}
use Rattle.qual_base.specs.declared.places.Owner.{Owner}
use Rattle.qual_base.specs.declared.places.Owner.TheVariants.{Nobody, Function}
use Rattle.flow_graph.specs.declared.constraint.Link.{Link}
use Rattle.flow_graph.specs.declared.constraint.Link.TheVariants.{Le, Const, Bound, Enter, Leave}
use Rattle.flow_graph.specs.declared.constraint.Site.{Site}
use Rattle.flow_graph.specs.System.{System, owner_of}
use Rattle.flow_graph.specs.CallStrings.{either}

-- whether an owner is this function
abbrev pub is_function : Owner → ℕ → Bool
is_function Nobody f = false
is_function (Function g) f = nat_eq g f

-- a site that there may be has an owner as its target
abbrev pub has_target : Option Site → Owner → Bool
has_target None owner = false
has_target (Some site) owner = is_function owner site.target

-- the owner of a site, and nobody where there is no site
abbrev pub owner_at : Option Site → Owner
owner_at None = Nobody
owner_at (Some site) = site.owner

-- whether the site of a number calls this function
abbrev pub calls : System → ℕ → Owner → Bool
calls sys s owner = has_target (slice_get sys.sites s) owner

-- whose the site of a number is
abbrev pub outer_of : System → ℕ → Owner
outer_of sys s = owner_at (slice_get sys.sites s)

-- the list is a call string of the owner, the last site first
abbrev pub is_call_string : System → Owner → List ℕ → Bool
is_call_string sys owner [] = true
is_call_string sys owner (s ∷ w) = calls sys s owner && is_call_string sys (outer_of sys s) w

-- whether a list of sites tells a copy of a variable of this owner: of nobody's there is one alone
abbrev pub is_copy : System → ℕ → Owner → List ℕ → Bool
is_copy sys depth Nobody w = nat_eq (length w) 0
is_copy sys depth (Function f) w = nat_le (length w) depth && is_call_string sys (Function f) w

-- the sites that are open around the last one
abbrev pub behind : List ℕ → List ℕ
behind [] = []
behind (s ∷ w) = w

-- whether the last site of a copy is this one
abbrev pub ends_in : List ℕ → ℕ → Bool
ends_in [] site = false
ends_in (s ∷ w) site = nat_eq s site

-- a site is there, and this is a copy of its owner
abbrev pub is_outer_copy : System → ℕ → Option Site → List ℕ → Bool
is_outer_copy sys depth None w = false
is_outer_copy sys depth (Some site) w = is_copy sys depth site.owner w

-- a call of the site leads into the copy, from a copy of the site's owner
abbrev pub is_entered : System → ℕ → ℕ → List ℕ → Bool
is_entered sys depth site w =
    ends_in w site && (nat_le (length w) depth && is_outer_copy sys depth (slice_get sys.sites site) (behind w))

-- the link stands in the copy with these sites, an Enter or a Leave in the copy that it enters or leaves
abbrev pub stands : System → ℕ → Link → List ℕ → Bool
stands sys depth (Le u v) w = is_copy sys depth (either (owner_of sys u) (owner_of sys v)) w
stands sys depth (Const l e v) w = is_copy sys depth (owner_of sys v) w
stands sys depth (Bound v l e) w = is_copy sys depth (owner_of sys v) w
stands sys depth (Enter s u v) w = is_entered sys depth s w
stands sys depth (Leave s u v) w = is_entered sys depth s w
