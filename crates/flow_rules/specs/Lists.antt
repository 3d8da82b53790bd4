-- Flow lists: what one skeleton that flows into another gives (Foster et al. 2006, subtyping of qualified types; Rehof
-- and Fähndrich 2001 for the calls and returns of a site).
--
-- `forward` tells which of the two skeletons goes into the other: `flow arrow true a b` is the list of a into b, and
-- `flow arrow false a b` that of b into a, since parameters go the other way. So each list is read off both skeletons
-- at once.
use Rattle.std.specs.Prelude.{ℕ, Bool, true, false, not, List, [], ◌∷◌, ◌++◌, Option, Some, None}
use Rattle.flow_graph.specs.declared.constraint.Link.{Link}
use Rattle.flow_graph.specs.declared.constraint.Link.TheVariants.{Le, Enter, Leave}
use Rattle.qual_types.specs.Skel.{Skel, flat, ref, fun, Skels, no_skels, more_skels, root, all_nodes, strict_nodes}
use Rattle.flow_rules.specs.declared.arrow.Arrow.{Arrow}
use Rattle.flow_rules.specs.declared.arrow.Arrow.TheVariants.{Flow, Cross}

-- The pair of u, a variable of the first skeleton, and v, one of the second. Between a function's signature and an
-- instance of it, a pair from the signature is a return of the site and a pair from the instance is a call.
abbrev pub pair : Arrow → Bool → ℕ → ℕ → List Link
pair Flow true u v = Le u v ∷ []
pair Flow false u v = Le v u ∷ []
pair (Cross s) true u v = Leave s u v ∷ []
pair (Cross s) false u v = Enter s v u ∷ []

-- a flow both ways between a variable of the first skeleton and one of the second
abbrev pub both : Arrow → Bool → ℕ → ℕ → List Link
both arrow forward u v = pair arrow forward u v ++ pair arrow (not forward) u v

-- the pair of two variables of further arguments, where both functions take some
abbrev pub pair_some : Arrow → Bool → Option ℕ → Option ℕ → List Link
pair_some arrow forward None f = []
pair_some arrow forward (Some e) None = []
pair_some arrow forward (Some e) (Some f) = pair arrow forward e f

-- a flow both ways between two variables of further arguments, where both functions take some
abbrev pub both_some : Arrow → Bool → Option ℕ → Option ℕ → List Link
both_some arrow forward None f = []
both_some arrow forward (Some e) None = []
both_some arrow forward (Some e) (Some f) = both arrow forward e f

-- a flow both ways
unfoldable pub tie : ℕ → ℕ → List Link
tie n v = Le n v ∷ Le v n ∷ []

-- each of these and one other, both ways
abbrev pub tied : List ℕ → ℕ → List Link
tied [] v = []
tied (n ∷ ns) v = tie n v ++ tied ns v

-- each of these and the variable of further arguments, both ways, where there is one
abbrev pub tied_some : List ℕ → Option ℕ → List Link
tied_some ns None = []
tied_some ns (Some e) = tied ns e

-- Skeletons of two shapes: all inner nodes of both, the one that goes before the other, are as the root that is gone
-- into.
-- A signature and its instance have one shape.
abbrev pub collapsed : Arrow → Bool → Skel → Skel → List Link
collapsed Flow true a b = tied (strict_nodes a) (root b) ++ tied (strict_nodes b) (root b)
collapsed Flow false a b = tied (strict_nodes b) (root a) ++ tied (strict_nodes a) (root a)
collapsed (Cross s) forward a b = []

-- the parameters past those that both have
abbrev pub past : Skels → Skels → Skels
past no_skels qs = no_skels
past (more_skels p ps) no_skels = more_skels p ps
past (more_skels p ps) (more_skels q qs) = past ps qs

-- The parameters that one function alone has are as the further arguments of the other, where that takes some.
abbrev pub extra : Arrow → Bool → Skels → Option ℕ → Skels → Option ℕ → List Link
extra Flow true ps e qs f = tied_some (all_nodes (past ps qs)) f ++ tied_some (all_nodes (past qs ps)) e
extra Flow false ps e qs f = tied_some (all_nodes (past qs ps)) e ++ tied_some (all_nodes (past ps qs)) f
extra (Cross s) forward ps e qs f = []

-- two skeletons of two shapes, made equal
abbrev pub equal_uneven : Arrow → Bool → Skel → Skel → List Link
equal_uneven arrow forward a b = both arrow forward (root a) (root b) ++ collapsed arrow forward a b

-- two skeletons, made equal
abbrev mutual
  -- the links that make two skeletons equal
  pub equal : Arrow → Bool → Skel → Skel → List Link
  equal arrow forward (flat u k) (flat v l) = both arrow forward u v
  equal arrow forward (ref u a) (ref v b) = both arrow forward u v ++ equal arrow forward a b
  equal arrow forward (fun u ps r e) (fun v qs s f) = both arrow forward u v
      ++ (equals arrow forward ps qs
      ++ (extra arrow forward ps e qs f ++ (equal arrow forward r s ++ both_some arrow forward e f)))
  equal arrow forward (flat u k) (ref v b) = equal_uneven arrow forward (flat u k) (ref v b)
  equal arrow forward (flat u k) (fun v qs s f) = equal_uneven arrow forward (flat u k) (fun v qs s f)
  equal arrow forward (ref u a) (flat v l) = equal_uneven arrow forward (ref u a) (flat v l)
  equal arrow forward (ref u a) (fun v qs s f) = equal_uneven arrow forward (ref u a) (fun v qs s f)
  equal arrow forward (fun u ps r e) (flat v l) = equal_uneven arrow forward (fun u ps r e) (flat v l)
  equal arrow forward (fun u ps r e) (ref v b) = equal_uneven arrow forward (fun u ps r e) (ref v b)

  -- the parameters that both have
  pub equals : Arrow → Bool → Skels → Skels → List Link
  equals arrow forward no_skels qs = []
  equals arrow forward (more_skels p ps) no_skels = []
  equals arrow forward (more_skels p ps) (more_skels q qs) = equal arrow forward p q ++ equals arrow forward ps qs

-- a skeleton into one of another shape
abbrev pub flow_uneven : Arrow → Bool → Skel → Skel → List Link
flow_uneven arrow forward a b = pair arrow forward (root a) (root b) ++ collapsed arrow forward a b

-- A skeleton into another: what references hold is equal, since it may be read and written; parameters go the other
-- way, and so do further arguments.
abbrev mutual
  -- the links by which a skeleton flows into another
  pub flow : Arrow → Bool → Skel → Skel → List Link
  flow arrow forward (flat u k) (flat v l) = pair arrow forward u v
  flow arrow forward (ref u a) (ref v b) = pair arrow forward u v ++ equal arrow forward a b
  flow arrow forward (fun u ps r e) (fun v qs s f) = pair arrow forward u v
      ++ (flows arrow (not forward) ps qs
      ++ (extra arrow forward ps e qs f ++ (flow arrow forward r s ++ pair_some arrow (not forward) e f)))
  flow arrow forward (flat u k) (ref v b) = flow_uneven arrow forward (flat u k) (ref v b)
  flow arrow forward (flat u k) (fun v qs s f) = flow_uneven arrow forward (flat u k) (fun v qs s f)
  flow arrow forward (ref u a) (flat v l) = flow_uneven arrow forward (ref u a) (flat v l)
  flow arrow forward (ref u a) (fun v qs s f) = flow_uneven arrow forward (ref u a) (fun v qs s f)
  flow arrow forward (fun u ps r e) (flat v l) = flow_uneven arrow forward (fun u ps r e) (flat v l)
  flow arrow forward (fun u ps r e) (ref v b) = flow_uneven arrow forward (fun u ps r e) (ref v b)

  -- the parameters that both have
  pub flows : Arrow → Bool → Skels → Skels → List Link
  flows arrow forward no_skels qs = []
  flows arrow forward (more_skels p ps) no_skels = []
  flows arrow forward (more_skels p ps) (more_skels q qs) = flow arrow forward p q ++ flows arrow forward ps qs

-- The signature of a function, a reference to it, and an instance at a site: the roots, then what they refer to. For
-- other skeletons the roots alone.
abbrev pub cross_by : Arrow → Skel → Skel → List Link
cross_by arrow (ref u a) (ref v b) = pair arrow true u v ++ flow arrow true a b
cross_by arrow (ref u a) (flat v l) = pair arrow true u v
cross_by arrow (ref u a) (fun v qs r f) = pair arrow true u v
cross_by arrow (flat u k) b = pair arrow true u (root b)
cross_by arrow (fun u ps r e) b = pair arrow true u (root b)

-- a function's signature and the instance of it at a site
abbrev pub cross : ℕ → Skel → Skel → List Link
cross s a b = cross_by (Cross s) a b

-- a skeleton into one variable that stands for all of it
abbrev pub smash_by : Arrow → Skel → ℕ → List Link
smash_by arrow a e = pair arrow true (root a) e ++ tied (strict_nodes a) e

-- one variable that stands for all of a skeleton, into that skeleton
abbrev pub unsmash_by : Arrow → ℕ → Skel → List Link
unsmash_by arrow e b = pair arrow true e (root b) ++ tied (strict_nodes b) e

-- an argument into the variable that stands for all further arguments
abbrev pub smash : Skel → ℕ → List Link
smash a e = smash_by Flow a e

-- the variable that stands for all further arguments, into what is taken from them
abbrev pub unsmash : ℕ → Skel → List Link
unsmash e b = unsmash_by Flow e b
