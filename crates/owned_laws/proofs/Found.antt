-- The skeletons that are looked up.
use Rattle.std.proofs.Common.{◌≡◌, ◌⊎◌, inl, inr, ℕ, ◌+◌, Bool, true, false, List, [], ◌∷◌, Option, None, Some, refl, sym, ◌∙◌, ap, subst}
use Rattle.std.specs.Prelude.{if◌then◌else◌}
use Rattle.qual_base.specs.declared.places.Owner.{Owner}
use Rattle.qual_base.specs.declared.places.Owner.TheVariants.{Nobody}
use Rattle.flow_graph.specs.declared.constraint.Constraint.{Constraint}
use Rattle.flow_graph.specs.System.{System}
use Rattle.type_table.specs.Types.{size}
use Rattle.qual_types.specs.Skel.{Skel, no_skeleton, nodes, numbered}
use Rattle.flow_rules.specs.Owners.{AllIn, AllOwned}
use Rattle.name_rules.specs.Spellings.{Place}
use Rattle.name_rules.specs.Scopes.{is_place}
use Rattle.row_rules.specs.Starting.{Start}
use Rattle.row_rules.specs.Worlds.{World, Numbered, numbered_from, skeleton_among, skeleton}
use Rattle.row_rules.specs.Sites.{owner_by}
use Rattle.owned_laws.specs.OwnerLaws.Fitting.{ListsFit, start_at, SkeletonsAtAreOwned}
use Rattle.owned_laws.specs.OwnerLaws.Laws.{owner_among}
use Rattle.owned_laws.specs.OwnerLaws.Rows.{AllPartsInside, Inside, RowsFit, InstancesFit, system_with}
use Rattle.owned_laws.specs.Around.{BeginsIn, IsOwn, Settled}

-- the laws that this stands on
pub record Laws : Type 0 where
  pub rows : RowsFit
  pub instances : InstancesFit
  pub lists : ListsFit
  pub parts : AllPartsInside
  pub found : SkeletonsAtAreOwned

-- variables that an owner has are within another one where the first is this one or nobody
owned_in : (own : ℕ → Owner) (o owner : Owner) (vs : List ℕ) → (o ≡ owner) ⊎ (o ≡ Nobody) → AllOwned own o vs →
    AllIn own owner vs
owned_in own o owner [] is h = tt
owned_in own o owner (v ∷ vs) (inl e) h = (inl (h.0 ∙ e), owned_in own o owner vs (inl e) h.1)
owned_in own o owner (v ∷ vs) (inr e) h = (inr (h.0 ∙ e), owned_in own o owner vs (inr e) h.1)

-- where no skeleton begins at a place, the skeleton found there is none
none_at : (starts : List Start) (n : ℕ) (p : Place) → start_at starts p ≡ None →
    skeleton_among (numbered_from n starts) p ≡ no_skeleton
none_at [] n p e = refl
none_at (head ∷ starts) n p e = by (is_place head.at p) e (none_at starts (n + size head.type) p)
  where
    by : (b : Bool) → (if b then Some head else start_at starts p) ≡ None →
        (start_at starts p ≡ None → skeleton_among (numbered_from (n + size head.type) starts) p ≡ no_skeleton) →
        (if b then numbered head.type n else skeleton_among (numbered_from (n + size head.type) starts) p) ≡ no_skeleton
    by true e more = absurd cc
    by false e more = more e

-- what begins for nobody at a place begins there for any function
pub nobodys : (starts : List Start) (f : Option Place) (p : Place) → BeginsIn starts None p → BeginsIn starts f p
nobodys starts f p h it e = by (h it e)
  where
    by : IsOwn None it.owner → IsOwn f it.owner
    by (inl is) = inl is
    by (inr is) = inl is

own_owner : (functions : List Place) (f own : Option Place) → IsOwn f own →
    (owner_by functions own ≡ owner_by functions f) ⊎ (owner_by functions own ≡ Nobody)
own_owner functions f own (inl e) = inr (ap (owner_by functions) e)
own_owner functions f own (inr e) = inl (ap (owner_by functions) e)

-- a system, its world, and the function around
pub record Setting : Type 0 where
  pub law : Laws
  pub functions : List Place
  pub starts : List Start
  pub constraints : List Constraint
  pub world : World
  pub function : Option Place
  pub settled : Settled starts world

module _ (k : Setting) where
  abbrev pub sys : System
  sys = system_with k.functions k.starts k.constraints

  abbrev pub owner : Owner
  owner = owner_by k.functions k.function

  -- is none, or belongs to the function or to nobody
  abbrev pub In : Skel → Type 0
  In s = Inside sys owner s

  abbrev pub Begins : Place → Type 0
  Begins p = BeginsIn k.starts k.function p

  pub none_in : In no_skeleton
  none_in = inl refl

  among_in : (p : Place) → Begins p → In (skeleton_among (numbered_from 0 k.starts) p)
  among_in p h = by (start_at k.starts p) refl
    where
      by : (o : Option Start) → start_at k.starts p ≡ o → In (skeleton_among (numbered_from 0 k.starts) p)
      by None e = subst In (sym (none_at k.starts 0 p e)) none_in
      by (Some it) e =
          inr (owned_in (owner_among k.functions k.starts) (owner_by k.functions it.owner) owner
          (nodes (skeleton_among (numbered_from 0 k.starts) p)) (own_owner k.functions k.function it.owner (h it e))
          (k.law.found k.functions k.starts p it e))

  pub skeleton_in : (p : Place) → Begins p → In (skeleton k.world p)
  skeleton_in p h =
      subst (λ (all : List Numbered). In (skeleton_among all p)) (sym k.settled.knows.skeletons_are) (among_in p h)

  pub nobodys_in : (p : Place) → BeginsIn k.starts None p → In (skeleton k.world p)
  nobodys_in p h = skeleton_in p (nobodys k.starts k.function p h)
