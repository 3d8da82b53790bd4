-- What is asked of each constraint, that a system is well owned.
use Rattle.std.proofs.Common.{◌≡◌, ◌⊎◌, inl, inr, ℕ, zero, suc, ◌+◌, Bool, true, false, List, [], ◌∷◌, ◌++◌, Some, refl, sym, ◌∙◌, ap, subst, arith, Contains, length, ◌<◌}
use Rattle.std.specs.Prelude.{slice_get, if◌then◌else◌}
use Rattle.qual_base.specs.declared.places.Owner.{Owner}
use Rattle.qual_base.specs.declared.places.Owner.TheVariants.{Nobody, Function}
use Rattle.flow_graph.specs.declared.constraint.Link.{Link}
use Rattle.flow_graph.specs.declared.constraint.Link.TheVariants.{Le, Const, Bound, Enter, Leave}
use Rattle.flow_graph.specs.declared.constraint.Constraint.{Constraint}
use Rattle.flow_graph.specs.declared.constraint.Site.{Site}
use Rattle.flow_graph.specs.System.{System, owner_of, Has}
use Rattle.type_table.specs.Types.{size}
use Rattle.qual_types.specs.Skel.{Skel, flat, ref, fun, Skels, no_skels, more_skels, nodes, all_nodes, of_some, param_at}
use Rattle.flow_rules.specs.Owners.{AllIn, Stays, AllOwned, Leads}
use Rattle.name_rules.specs.Spellings.{Place}
use Rattle.name_rules.specs.Scopes.{is_place}
use Rattle.row_rules.specs.Starting.{Start}
use Rattle.row_rules.specs.Worlds.{Numbered, numbered_from, skeleton_among}
use Rattle.row_rules.specs.Sites.{owner_by}
use Rattle.owned_laws.specs.OwnerLaws.Laws.{owner_among, skeleton_of}
use Rattle.owned_laws.specs.OwnerLaws.Fitting.{Fits, AllFit, FittingIsWellOwned, ListsFit, StayingFits, LeadingFits, start_at, SkeletonsAtAreOwned, AllPartsStay}
use Rattle.owned_laws.proofs.OwnerLaws.Intervals.{skeletons_are_owned}

-- constraints by their numbers

-- each of constraints that all fit in a system fits
fits_at : (sys : System) (cs : List Constraint) (n : ℕ) (c : Constraint) → AllFit sys cs →
    slice_get cs n ≡ Some c → Fits sys c.link
fits_at sys [] n c h e = absurd cc
fits_at sys (it ∷ cs) zero c h e = let same : it ≡ c = cc in subst (λ (d : Constraint). Fits sys d.link) same h.0
fits_at sys (it ∷ cs) (suc n) c h e = fits_at sys cs n c h.1 e

has_fits : (sys : System) (n : ℕ) (link : Link) → AllFit sys sys.constraints → Has sys n link → Fits sys link
has_fits sys n link h it =
    subst (Fits sys) it.link_is (fits_at sys sys.constraints n it.constraint h it.there)

-- two variables of one owner or of nobody that have functions have the same one
one_function : (o : Owner) (f g : ℕ) (a b : Owner) → (a ≡ o) ⊎ (a ≡ Nobody) → (b ≡ o) ⊎ (b ≡ Nobody) →
    a ≡ Function f → b ≡ Function g → f ≡ g
one_function o f g a b (inl p) (inl q) e d = cc
one_function o f g a b (inl p) (inr q) e d = absurd cc
one_function o f g a b (inr p) (inl q) e d = absurd cc
one_function o f g a b (inr p) (inr q) e d = absurd cc

-- a system whose constraints all fit is well owned
pub fitting_is_well_owned : FittingIsWellOwned
fitting_is_well_owned sys h = record {
  le = λ n u v f g it e d. let fit = has_fits sys n (Le u v) h it in
      one_function fit.owner f g (owner_of sys u) (owner_of sys v) fit.from fit.to e d;
  enter = λ n s u v it. has_fits sys n (Enter s u v) h it;
  leave = λ n s u v it. has_fits sys n (Leave s u v) h it;
}

pub lists_fit : ListsFit
lists_fit sys [] ds h k = k
lists_fit sys (c ∷ cs) ds h k = (h.0, lists_fit sys cs ds h.1 k)

-- a link that stays within one owner fits
stays_fits : (sys : System) (owner : Owner) (link : Link) → Stays (owner_of sys) owner link → Fits sys link
stays_fits sys owner (Le u v) h = record { owner = owner; from = h.0; to = h.1 }
stays_fits sys owner (Const l e v) h = tt
stays_fits sys owner (Bound v l e) h = tt
stays_fits sys owner (Enter s u v) h = absurd h
stays_fits sys owner (Leave s u v) h = absurd h

-- the constraints of links that stay within one owner all fit
pub staying_fits : StayingFits
staying_fits sys owner lattices where_ [] h = tt
staying_fits sys owner lattices where_ (link ∷ links) h =
    (stays_fits sys owner link h.0, staying_fits sys owner lattices where_ links h.1)

-- a link that leads from the owner of a site to its target, or back, by this site fits
leads_fits : (sys : System) (site : ℕ) (it : Site) (link : Link) → slice_get sys.sites site ≡ Some it →
    Leads (owner_of sys) it.owner (Function it.target) site link → Fits sys link
leads_fits sys site it (Le u v) there h = absurd h
leads_fits sys site it (Const l e v) there h = tt
leads_fits sys site it (Bound v l e) there h = tt
leads_fits sys site it (Enter s u v) there h =
    record { it = it; there = ap (slice_get sys.sites) h.0 ∙ there; outer_is = h.1; inner_is = h.2 }
leads_fits sys site it (Leave s u v) there h =
    record { it = it; there = ap (slice_get sys.sites) h.0 ∙ there; outer_is = h.2; inner_is = h.1 }

-- the constraints of links that lead by a site all fit
pub leading_fits : LeadingFits
leading_fits sys site it lattices where_ [] there h = tt
leading_fits sys site it lattices where_ (link ∷ links) there h =
    (leads_fits sys site it link there h.0, leading_fits sys site it lattices where_ links there h.1)

-- the skeleton that is found at a place is one of those that begin

pub record IsOneOf (all : List Numbered) (start : Start) (s : Skel) : Type 0 where
  pub it : Numbered
  pub there : Contains all it
  pub start_is : it.start ≡ start
  pub skeleton_is : s ≡ skeleton_of it

-- what is found among numbered skeletons is found with one more before them
later : (first : Numbered) (all : List Numbered) (start : Start) (s : Skel) → IsOneOf all start s →
    IsOneOf (first ∷ all) start s
later first all start s p = record {
  it = p.it;
  there = (suc p.there.0, (let less : p.there.0 < length all = p.there.1 in omega arith), p.there.2);
  start_is = p.start_is;
  skeleton_is = p.skeleton_is;
}

-- the first skeleton that begins at a place is one of the numbered ones, and the one found there
pub found_at : (starts : List Start) (n : ℕ) (p : Place) (start : Start) → start_at starts p ≡ Some start →
    IsOneOf (numbered_from n starts) start (skeleton_among (numbered_from n starts) p)
found_at [] n p start e = absurd cc
found_at (head ∷ starts) n p start e = by (is_place head.at p) e (found_at starts (n + size head.type) p start)
  where
    first : Numbered
    first = record { start = head; first = n }

    others : List Numbered
    others = numbered_from (n + size head.type) starts

    by : (b : Bool) → (if b then Some head else start_at starts p) ≡ Some start →
        (start_at starts p ≡ Some start → IsOneOf others start (skeleton_among others p)) →
        IsOneOf (first ∷ others) start (if b then skeleton_of first else skeleton_among others p)
    by true e more = record { it = first; there = (0, omega arith, refl); start_is = cc; skeleton_is = refl }
    by false e more = later first others start (skeleton_among others p) (more e)

-- the variables of the skeleton found at a place have the owner with which it begins there
pub skeletons_at_are_owned : SkeletonsAtAreOwned
skeletons_at_are_owned functions starts p start e =
    let found = found_at starts 0 p start e in
    subst (λ (s : Skel). AllOwned (owner_among functions starts) (owner_by functions start.owner) (nodes s))
    (sym found.skeleton_is)
    (subst (λ (it : Start). AllOwned (owner_among functions starts) (owner_by functions it.owner)
    (nodes (skeleton_of found.it))) found.start_is (skeletons_are_owned functions starts found.it found.there))

-- parts of skeletons

module _ (own : ℕ → Owner) (owner : Owner) where
  pub front : (xs ys : List ℕ) → AllIn own owner (xs ++ ys) → AllIn own owner xs
  front [] ys h = tt
  front (x ∷ xs) ys h = (h.0, front xs ys h.1)

  pub back : (xs ys : List ℕ) → AllIn own owner (xs ++ ys) → AllIn own owner ys
  back [] ys h = h
  back (x ∷ xs) ys h = back xs ys h.1

  param_stays : (ps : Skels) (n : ℕ) (q : Skel) → AllIn own owner (all_nodes ps) → param_at ps n ≡ Some q →
      AllIn own owner (nodes q)
  param_stays no_skels n q h e = absurd cc
  param_stays (more_skels p ps) zero q h e =
      let same : p ≡ q = cc in
      subst (λ (s : Skel). AllIn own owner (nodes s)) same (front (nodes p) (all_nodes ps) h)
  param_stays (more_skels p ps) (suc n) q h e = param_stays ps n q (back (nodes p) (all_nodes ps) h) e

-- where the variables of a skeleton stay within an owner, so do its contents, its result and its parameters
pub parts_stay : AllPartsStay
parts_stay own owner (flat v k) h =
    record { contents_in = h; read_in = h; result_in = h; param_in = λ n q e. absurd cc }
parts_stay own owner (ref v (flat u k)) h =
    record { contents_in = h.1; read_in = h.1; result_in = h; param_in = λ n q e. absurd cc }
parts_stay own owner (ref v (ref u s)) h =
    record { contents_in = h.1; read_in = h.1; result_in = h; param_in = λ n q e. absurd cc }
parts_stay own owner (ref v (fun u ps r e)) h =
    record { contents_in = h.1; read_in = h; result_in = h; param_in = λ n q e. absurd cc }
parts_stay own owner (fun v ps r e) h = record {
  contents_in = h;
  read_in = h;
  result_in = front own owner (nodes r) (of_some e) (back own owner (all_nodes ps) (nodes r ++ of_some e) h.1);
  param_in = λ n q is. param_stays own owner ps n q (front own owner (all_nodes ps) (nodes r ++ of_some e) h.1) is;
}
