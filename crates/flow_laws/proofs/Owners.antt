-- Owners and copies along constraints of a well owned system.
use Rattle.std.proofs.Common.{◌≡◌, ℕ, ◌+◌, ◌≤◌, List, [], ◌∷◌, length, refl, sym, ◌∙◌, ap, subst, arith, Some}
use Rattle.qual_base.specs.declared.places.Owner.{Owner}
use Rattle.qual_base.specs.declared.places.Owner.TheVariants.{Nobody, Function}
use Rattle.flow_graph.specs.declared.constraint.Site.{Site}
use Rattle.flow_graph.specs.declared.constraint.Link.TheVariants.{Le, Enter, Leave}
use Rattle.flow_graph.specs.System.{System, owner_of, Stands, Calls, IsWellOwned}
use Rattle.flow_graph.specs.CallStrings.{IsCallString, IsCopy, either}
use Rattle.flow_graph.specs.Unfolding.{seen_from}
use Rattle.flow_graph.specs.Paths.{Matches, stay, longer, Part, flow, group}
use Rattle.flow_laws.proofs.Links.{has_of}

pub function_is : {f g : ℕ} → Function f ≡ Function g → f ≡ g
function_is e = cc

site_is : {x y : Site} → Some x ≡ Some y → x ≡ y
site_is e = cc

-- what is seen in a copy of the variable is that copy
pub seen_is : (sys : System) (depth : ℕ) (owner : Owner) (sites : List ℕ) → IsCopy sys depth owner sites
    → seen_from owner sites ≡ sites
seen_is sys depth Nobody sites h = sym h
seen_is sys depth (Function f) sites h = refl

pub seen_twice : (owner : Owner) (sites : List ℕ) → seen_from owner (seen_from owner sites) ≡ seen_from owner sites
seen_twice Nobody sites = refl
seen_twice (Function f) sites = refl

pub seen_within : (owner : Owner) (sites : List ℕ) → length (seen_from owner sites) ≤ length sites
seen_within Nobody sites = omega arith
seen_within (Function f) sites = omega arith

pub string_of : (sys : System) (depth : ℕ) (owner : Owner) (sites : List ℕ) → IsCopy sys depth owner sites
    → IsCallString sys owner sites
string_of sys depth Nobody sites h = subst (IsCallString sys Nobody) (sym h) tt
string_of sys depth (Function f) sites h = h.0

-- a call string with one more site
string_on : (sys : System) (s : ℕ) (outer inner : Owner) (sites : List ℕ) → IsCallString sys outer sites
    → Calls sys s outer inner → IsCallString sys inner (s ∷ sites)
string_on sys s outer inner [] h call = (outer, call)
string_on sys s outer inner (t ∷ sites) h call = (outer, call, h)

-- a copy of the caller with the site in front is one of the function called, where the depth has room
pub copy_on : (sys : System) (depth : ℕ) (outer inner : Owner) (s : ℕ) (sites : List ℕ) → IsCopy sys depth outer sites
    → Calls sys s outer inner → length sites + 1 ≤ depth →
    IsCopy sys depth inner (s ∷ sites)
copy_on sys depth outer inner s sites copy call fits =
    let string = string_on sys s outer (Function call.it.target) sites (string_of sys depth outer sites copy)
    (subst (Calls sys s outer) call.inner_is call) in
    rw call.inner_is (string, omega arith)

-- no flow leads from one function to another
abbrev pub SameFunction : Owner → Owner → Type 0
SameFunction one other = (f g : ℕ) → one ≡ Function f → other ≡ Function g → f ≡ g

-- to each copy of the variable behind a flow leads a copy of the one before
pub flow_to : (sys : System) (depth : ℕ) (one other : Owner) (sites : List ℕ) → SameFunction one other
    → IsCopy sys depth other sites →
    (from : List ℕ) × IsCopy sys depth (either one other) from × IsCopy sys depth one (seen_from one from)
    × (seen_from other from ≡ seen_from other sites)
    × (length (seen_from one from) ≤ length sites)
flow_to sys depth Nobody Nobody sites same copy = (sites, copy, refl, refl, omega arith)
flow_to sys depth Nobody (Function g) sites same copy = (sites, copy, refl, refl, omega arith)
flow_to sys depth (Function f) Nobody sites same copy = ([], (tt, omega arith), (tt, omega arith), refl, omega arith)
flow_to sys depth (Function f) (Function g) sites same copy =
    let own : IsCopy sys depth (Function f) sites =
    subst (λ h. IsCopy sys depth (Function h) sites) (sym (same f g refl refl)) copy in
    (sites, own, own, refl, omega arith)

-- and from each copy of the one before leads one to a copy of the variable behind
pub flow_from : (sys : System) (depth : ℕ) (one other : Owner) (sites : List ℕ) → SameFunction one other
    → IsCopy sys depth one sites →
    IsCopy sys depth other (seen_from other sites) × IsCopy sys depth (either one other) sites
flow_from sys depth Nobody Nobody sites same copy = (refl, copy)
flow_from sys depth Nobody (Function g) sites same copy =
    let first : IsCopy sys depth (Function g) sites =
    subst (IsCopy sys depth (Function g)) (sym copy) (tt, omega arith) in
    (first, first)
flow_from sys depth (Function f) Nobody sites same copy = (refl, copy)
flow_from sys depth (Function f) (Function g) sites same copy =
    (subst (λ h. IsCopy sys depth (Function h) sites) (same f g refl refl) copy, copy)

module _ (sys : System) (lattice : ℕ) where
  part_owner : (f x v : ℕ) → Part sys lattice f x v → owner_of sys v ≡ Function f
  part_owner f x v (flow _ _ _ n st is) = is
  part_owner f x v (group _ _ a b _ s g n m st q st2 is) = is

  pub end_owner : (f u v : ℕ) → Matches sys lattice f u v → owner_of sys v ≡ Function f
  end_owner f u v (stay _ _ is) = is
  end_owner f u v (longer _ _ x _ m p) = part_owner f x v p

  pub start_owner : (f u v : ℕ) → Matches sys lattice f u v → owner_of sys u ≡ Function f
  start_owner f u v (stay _ _ is) = is
  start_owner f u v (longer _ _ x _ m p) = start_owner f u x m

module _ (sys : System) (lattice : ℕ) (owned : IsWellOwned sys) where
  pub entering : (n s u a : ℕ) → Stands sys lattice n (Enter s u a) → Calls sys s (owner_of sys u) (owner_of sys a)
  entering n s u a st = owned.enter n s u a (has_of sys lattice n (Enter s u a) st)

  pub leaving : (n s b v : ℕ) → Stands sys lattice n (Leave s b v) → Calls sys s (owner_of sys v) (owner_of sys b)
  leaving n s b v st = owned.leave n s b v (has_of sys lattice n (Leave s b v) st)

  pub same_function : (n u v : ℕ) → Stands sys lattice n (Le u v) → SameFunction (owner_of sys u) (owner_of sys v)
  same_function n u v st f g p q = owned.le n u v f g (has_of sys lattice n (Le u v) st) p q

  -- both ends outside a group have the owner of its site
  pub same_outer : (n m s u a b v : ℕ) → Stands sys lattice n (Enter s u a) → Stands sys lattice m (Leave s b v)
      → owner_of sys u ≡ owner_of sys v
  same_outer n m s u a b v st st2 =
      let one = entering n s u a st in
      let other = leaving m s b v st2 in
      one.outer_is ∙ ap (λ (site : Site). site.owner) (site_is (sym one.there ∙ other.there)) ∙ sym other.outer_is
