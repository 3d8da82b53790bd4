-- What holds of all variables of two skeletons holds of the ends of their lists.
use Rattle.std.proofs.Common.{◌≡◌, ℕ, Bool, true, false, not, List, [], ◌∷◌, ◌++◌, Option, None, Some, refl}
use Rattle.qual_base.specs.declared.places.Owner.{Owner}
use Rattle.flow_graph.specs.declared.constraint.Link.{Link}
use Rattle.qual_types.specs.Skel.{Skel, flat, ref, fun, Skels, no_skels, more_skels, root, nodes, all_nodes, strict_nodes, of_some}
use Rattle.flow_rules.specs.declared.arrow.Arrow.{Arrow}
use Rattle.flow_rules.specs.declared.arrow.Arrow.TheVariants.{Flow, Cross}
use Rattle.flow_rules.specs.Lists.{pair, both, pair_some, both_some, tie, tied, tied_some, collapsed, past, extra, equal_uneven, equal, equals, flow_uneven, flow, flows, cross, smash, unsmash}
use Rattle.flow_rules.specs.Owners.{IsIn, AllIn, Stays, AllStay, AllOwned, Leads, AllLead}

module _ (P : ℕ → Type 0) where
  abbrev pub Each : List ℕ → Type 0
  Each [] = Unit {0}
  Each (v ∷ vs) = P v × Each vs

  each_front : (xs ys : List ℕ) → Each (xs ++ ys) → Each xs
  each_front [] ys h = tt
  each_front (x ∷ xs) ys h = (h.0, each_front xs ys h.1)

  each_back : (xs ys : List ℕ) → Each (xs ++ ys) → Each ys
  each_back [] ys h = h
  each_back (x ∷ xs) ys h = each_back xs ys h.1

  at_root : (s : Skel) → Each (nodes s) → P (root s)
  at_root (flat v k) h = h.0
  at_root (ref v s) h = h.0
  at_root (fun v ps r e) h = h.0

  inner : (s : Skel) → Each (nodes s) → Each (strict_nodes s)
  inner (flat v k) h = tt
  inner (ref v s) h = h.1
  inner (fun v ps r e) h = h.1

  beyond : (ps qs : Skels) → Each (all_nodes ps) → Each (all_nodes (past ps qs))
  beyond no_skels qs h = tt
  beyond (more_skels p ps) no_skels h = h
  beyond (more_skels p ps) (more_skels q qs) h = beyond ps qs (each_back (nodes p) (all_nodes ps) h)

  -- the parts of a function
  record Parts (ps : Skels) (r : Skel) (e : Option ℕ) : Type 0 where
    params : Each (all_nodes ps)
    result : Each (nodes r)
    last : Each (of_some e)

  parts : (ps : Skels) (r : Skel) (e : Option ℕ) → Each (all_nodes ps ++ (nodes r ++ of_some e)) → Parts ps r e
  parts ps r e h =
      let k = each_back (all_nodes ps) (nodes r ++ of_some e) h in
      record {
        params = each_front (all_nodes ps) (nodes r ++ of_some e) h;
        result = each_front (nodes r) (of_some e) k;
        last = each_back (nodes r) (of_some e) k;
      }

module _ (Fit : Link → Type 0) where
  abbrev pub All : List Link → Type 0
  All [] = Unit {0}
  All (l ∷ ls) = Fit l × All ls

  joined : (xs ys : List Link) → All xs → All ys → All (xs ++ ys)
  joined [] ys h k = k
  joined (x ∷ xs) ys h k = (h.0, joined xs ys h.1 k)

-- The lists of an arrow, where each pair of variables of the two sides fits, and so do the lists of uneven skeletons.
module _ (P Q : ℕ → Type 0) (Fit : Link → Type 0) (arrow : Arrow)
    (pairs : (f : Bool) (u v : ℕ) → P u → Q v → All Fit (pair arrow f u v))
    (uneven : (f : Bool) (a b : Skel) → Each P (nodes a) → Each Q (nodes b) → All Fit (collapsed arrow f a b))
    (more : (f : Bool) (ps : Skels) (e : Option ℕ) (qs : Skels) (g : Option ℕ) → Each P (all_nodes ps)
    → Each P (of_some e) → Each Q (all_nodes qs) → Each Q (of_some g)
    → All Fit (extra arrow f ps e qs g)) where
  two : (f : Bool) (u v : ℕ) → P u → Q v → All Fit (both arrow f u v)
  two f u v p q = joined Fit (pair arrow f u v) (pair arrow (not f) u v) (pairs f u v p q) (pairs (not f) u v p q)

  two_some : (f : Bool) (e g : Option ℕ) → Each P (of_some e) → Each Q (of_some g) → All Fit (both_some arrow f e g)
  two_some f (Some e) (Some g) h k = two f e g h.0 k.0
  two_some f (Some e) None h k = tt
  two_some f None g h k = tt

  one_some : (f : Bool) (e g : Option ℕ) → Each P (of_some e) → Each Q (of_some g) → All Fit (pair_some arrow f e g)
  one_some f (Some e) (Some g) h k = pairs f e g h.0 k.0
  one_some f (Some e) None h k = tt
  one_some f None g h k = tt

  equal_apart : (f : Bool) (a b : Skel) → Each P (nodes a) → Each Q (nodes b) → All Fit (equal_uneven arrow f a b)
  equal_apart f a b h g =
      joined Fit (both arrow f (root a) (root b)) (collapsed arrow f a b) (two f _ _ (at_root P a h) (at_root Q b g))
      (uneven f a b h g)

  flow_apart : (f : Bool) (a b : Skel) → Each P (nodes a) → Each Q (nodes b) → All Fit (flow_uneven arrow f a b)
  flow_apart f a b h g =
      joined Fit (pair arrow f (root a) (root b)) (collapsed arrow f a b) (pairs f _ _ (at_root P a h) (at_root Q b g))
      (uneven f a b h g)

  mutual
    pub equal_ends : (f : Bool) (a b : Skel) → Each P (nodes a) → Each Q (nodes b) → All Fit (equal arrow f a b)
    equal_ends f (flat u k) (flat v l) h g = two f u v h.0 g.0
    equal_ends f (ref u a) (ref v b) h g =
        joined Fit (both arrow f u v) (equal arrow f a b) (two f u v h.0 g.0) (equal_ends f a b h.1 g.1)
    equal_ends f (fun u ps r e) (fun v qs s d) h g =
        let x = parts P ps r e h.1 in
        let y = parts Q qs s d g.1 in
        joined Fit (both arrow f u v) _ (two f u v h.0 g.0)
        (joined Fit (equals arrow f ps qs) _ (equals_ends f ps qs x.params y.params)
        (joined Fit (extra arrow f ps e qs d) _ (more f ps e qs d x.params x.last y.params y.last)
        (joined Fit (equal arrow f r s) _ (equal_ends f r s x.result y.result) (two_some f e d x.last y.last))))
    equal_ends f (flat u k) (ref v b) h g = equal_apart f (flat u k) (ref v b) h g
    equal_ends f (flat u k) (fun v qs s d) h g = equal_apart f (flat u k) (fun v qs s d) h g
    equal_ends f (ref u a) (flat v l) h g = equal_apart f (ref u a) (flat v l) h g
    equal_ends f (ref u a) (fun v qs s d) h g = equal_apart f (ref u a) (fun v qs s d) h g
    equal_ends f (fun u ps r e) (flat v l) h g = equal_apart f (fun u ps r e) (flat v l) h g
    equal_ends f (fun u ps r e) (ref v b) h g = equal_apart f (fun u ps r e) (ref v b) h g

    equals_ends : (f : Bool) (ps qs : Skels) → Each P (all_nodes ps) → Each Q (all_nodes qs)
        → All Fit (equals arrow f ps qs)
    equals_ends f no_skels qs h g = tt
    equals_ends f (more_skels p ps) no_skels h g = tt
    equals_ends f (more_skels p ps) (more_skels q qs) h g =
        joined Fit (equal arrow f p q) (equals arrow f ps qs)
        (equal_ends f p q (each_front P (nodes p) (all_nodes ps) h) (each_front Q (nodes q) (all_nodes qs) g))
        (equals_ends f ps qs (each_back P (nodes p) (all_nodes ps) h) (each_back Q (nodes q) (all_nodes qs) g))

  mutual
    pub flow_ends : (f : Bool) (a b : Skel) → Each P (nodes a) → Each Q (nodes b) → All Fit (flow arrow f a b)
    flow_ends f (flat u k) (flat v l) h g = pairs f u v h.0 g.0
    flow_ends f (ref u a) (ref v b) h g =
        joined Fit (pair arrow f u v) (equal arrow f a b) (pairs f u v h.0 g.0) (equal_ends f a b h.1 g.1)
    flow_ends f (fun u ps r e) (fun v qs s d) h g =
        let x = parts P ps r e h.1 in
        let y = parts Q qs s d g.1 in
        joined Fit (pair arrow f u v) _ (pairs f u v h.0 g.0)
        (joined Fit (flows arrow (not f) ps qs) _ (flows_ends (not f) ps qs x.params y.params)
        (joined Fit (extra arrow f ps e qs d) _ (more f ps e qs d x.params x.last y.params y.last)
        (joined Fit (flow arrow f r s) _ (flow_ends f r s x.result y.result) (one_some (not f) e d x.last y.last))))
    flow_ends f (flat u k) (ref v b) h g = flow_apart f (flat u k) (ref v b) h g
    flow_ends f (flat u k) (fun v qs s d) h g = flow_apart f (flat u k) (fun v qs s d) h g
    flow_ends f (ref u a) (flat v l) h g = flow_apart f (ref u a) (flat v l) h g
    flow_ends f (ref u a) (fun v qs s d) h g = flow_apart f (ref u a) (fun v qs s d) h g
    flow_ends f (fun u ps r e) (flat v l) h g = flow_apart f (fun u ps r e) (flat v l) h g
    flow_ends f (fun u ps r e) (ref v b) h g = flow_apart f (fun u ps r e) (ref v b) h g

    flows_ends : (f : Bool) (ps qs : Skels) → Each P (all_nodes ps) → Each Q (all_nodes qs)
        → All Fit (flows arrow f ps qs)
    flows_ends f no_skels qs h g = tt
    flows_ends f (more_skels p ps) no_skels h g = tt
    flows_ends f (more_skels p ps) (more_skels q qs) h g =
        joined Fit (flow arrow f p q) (flows arrow f ps qs)
        (flow_ends f p q (each_front P (nodes p) (all_nodes ps) h) (each_front Q (nodes q) (all_nodes qs) g))
        (flows_ends f ps qs (each_back P (nodes p) (all_nodes ps) h) (each_back Q (nodes q) (all_nodes qs) g))

-- Flows: both sides in one owner or nobody's.
module _ (own : ℕ → Owner) (owner : Owner) where
  abbrev In : ℕ → Type 0
  In v = IsIn own owner v

  abbrev Fits : Link → Type 0
  Fits l = Stays own owner l

  in_each : (vs : List ℕ) → AllIn own owner vs → Each In vs
  in_each [] h = tt
  in_each (v ∷ vs) h = (h.0, in_each vs h.1)

  stay_all : (ls : List Link) → All Fits ls → AllStay own owner ls
  stay_all [] h = tt
  stay_all (l ∷ ls) h = (h.0, stay_all ls h.1)

  flow_pairs : (f : Bool) (u v : ℕ) → In u → In v → All Fits (pair Flow f u v)
  flow_pairs true u v p q = ((p, q), tt)
  flow_pairs false u v p q = ((q, p), tt)

  ties : (ns : List ℕ) (v : ℕ) → Each In ns → In v → All Fits (tied ns v)
  unfolding tie
  ties [] v h p = tt
  ties (n ∷ ns) v h p = ((h.0, p), ((p, h.0), ties ns v h.1 p))

  ties_some : (ns : List ℕ) (e : Option ℕ) → Each In ns → Each In (of_some e) → All Fits (tied_some ns e)
  ties_some ns None h k = tt
  ties_some ns (Some e) h k = ties ns e h k.0

  flow_uneven_ends : (f : Bool) (a b : Skel) → Each In (nodes a) → Each In (nodes b) → All Fits (collapsed Flow f a b)
  flow_uneven_ends true a b h k =
      joined Fits (tied (strict_nodes a) (root b)) (tied (strict_nodes b) (root b))
      (ties _ _ (inner In a h) (at_root In b k)) (ties _ _ (inner In b k) (at_root In b k))
  flow_uneven_ends false a b h k =
      joined Fits (tied (strict_nodes b) (root a)) (tied (strict_nodes a) (root a))
      (ties _ _ (inner In b k) (at_root In a h)) (ties _ _ (inner In a h) (at_root In a h))

  flow_more : (f : Bool) (ps : Skels) (e : Option ℕ) (qs : Skels) (g : Option ℕ) → Each In (all_nodes ps)
      → Each In (of_some e) → Each In (all_nodes qs) → Each In (of_some g)
      → All Fits (extra Flow f ps e qs g)
  flow_more true ps e qs g hp he hq hg =
      joined Fits (tied_some (all_nodes (past ps qs)) g) (tied_some (all_nodes (past qs ps)) e)
      (ties_some _ g (beyond In ps qs hp) hg) (ties_some _ e (beyond In qs ps hq) he)
  flow_more false ps e qs g hp he hq hg =
      joined Fits (tied_some (all_nodes (past qs ps)) e) (tied_some (all_nodes (past ps qs)) g)
      (ties_some _ e (beyond In qs ps hq) he) (ties_some _ g (beyond In ps qs hp) hg)

  pub flow_stays : (a b : Skel) → AllIn own owner (nodes a) → AllIn own owner (nodes b)
      → AllStay own owner (flow Flow true a b)
  flow_stays a b h k =
      stay_all _ (flow_ends In In Fits Flow flow_pairs flow_uneven_ends flow_more true a b (in_each _ h) (in_each _ k))

  pub equal_stays : (a b : Skel) → AllIn own owner (nodes a) → AllIn own owner (nodes b)
      → AllStay own owner (equal Flow true a b)
  equal_stays a b h k =
      stay_all _ (equal_ends In In Fits Flow flow_pairs flow_uneven_ends flow_more true a b (in_each _ h) (in_each _ k))

  pub smash_stays : (a : Skel) (e : ℕ) → AllIn own owner (nodes a) → IsIn own owner e → AllStay own owner (smash a e)
  smash_stays a e h p =
      let each = in_each _ h in
      stay_all (smash a e) ((at_root In a each, p), ties (strict_nodes a) e (inner In a each) p)

  pub unsmash_stays : (e : ℕ) (b : Skel) → IsIn own owner e → AllIn own owner (nodes b)
      → AllStay own owner (unsmash e b)
  unsmash_stays e b p h =
      let each = in_each _ h in
      stay_all (unsmash e b) ((p, at_root In b each), ties (strict_nodes b) e (inner In b each) p)

-- Crossings: the signature's side is the inner owner's, the instance's the outer one's.
module _ (own : ℕ → Owner) (outer inside : Owner) (site : ℕ) where
  abbrev Inner : ℕ → Type 0
  Inner v = own v ≡ inside

  abbrev Outer : ℕ → Type 0
  Outer v = own v ≡ outer

  abbrev Goes : Link → Type 0
  Goes l = Leads own outer inside site l

  inner_each : (vs : List ℕ) → AllOwned own inside vs → Each Inner vs
  inner_each [] h = tt
  inner_each (v ∷ vs) h = (h.0, inner_each vs h.1)

  outer_each : (vs : List ℕ) → AllOwned own outer vs → Each Outer vs
  outer_each [] h = tt
  outer_each (v ∷ vs) h = (h.0, outer_each vs h.1)

  lead_all : (ls : List Link) → All Goes ls → AllLead own outer inside site ls
  lead_all [] h = tt
  lead_all (l ∷ ls) h = (h.0, lead_all ls h.1)

  cross_pairs : (f : Bool) (u v : ℕ) → Inner u → Outer v → All Goes (pair (Cross site) f u v)
  cross_pairs true u v p q = ((refl, p, q), tt)
  cross_pairs false u v p q = ((refl, q, p), tt)

  cross_ends : (a b : Skel) → Each Inner (nodes a) → Each Outer (nodes b) → All Goes (cross site a b)
  cross_ends (ref u a) (ref v b) h k =
      joined Goes (pair (Cross site) true u v) (flow (Cross site) true a b) (cross_pairs true u v h.0 k.0)
      (flow_ends Inner Outer Goes (Cross site) cross_pairs (λ f a b x y. tt)
      (λ f ps e qs g x y z w. tt) true a b h.1 k.1)
  cross_ends (ref u a) (flat v l) h k = cross_pairs true u v h.0 k.0
  cross_ends (ref u a) (fun v qs r g) h k = cross_pairs true u v h.0 k.0
  cross_ends (flat u l) b h k = cross_pairs true u (root b) h.0 (at_root Outer b k)
  cross_ends (fun u ps r e) b h k = cross_pairs true u (root b) h.0 (at_root Outer b k)

  pub cross_leads : (a b : Skel) → AllOwned own inside (nodes a) → AllOwned own outer (nodes b)
      → AllLead own outer inside site (cross site a b)
  cross_leads a b h k = lead_all _ (cross_ends a b (inner_each _ h) (outer_each _ k))
