-- Whose the variables of skeletons are, and where calls lead.
use Rattle.std.specs.Prelude.{◌≡◌, ℕ, Contains, List, slice_get, Some, unwrap_or}
use Rattle.qual_base.specs.declared.places.Owner.{Owner}
use Rattle.qual_base.specs.declared.places.Owner.TheVariants.{Nobody, Function}
use Rattle.qual_types.specs.Skel.{Skel, nodes, numbered}
use Rattle.flow_rules.specs.Lists.{cross}
use Rattle.flow_rules.specs.Owners.{AllOwned, AllLead}
use Rattle.name_rules.specs.Spellings.{Place}
use Rattle.row_rules.specs.Starting.{Start}
use Rattle.row_rules.specs.Worlds.{Numbered, numbered_from, number_among}
use Rattle.row_rules.specs.Sites.{AreDifferent, owner_by, owners_among, site_places, sites_among}

-- the owner of each variable, as a system has it
abbrev pub owner_among : List Place → List Start → ℕ → Owner
owner_among functions starts v = unwrap_or (slice_get (owners_among functions starts) v) Nobody

-- a skeleton whose constructors have their numbers
abbrev pub skeleton_of : Numbered → Skel
skeleton_of it = numbered it.start.type it.first

-- all variables of a skeleton belong to its owner
abbrev pub SkeletonsAreOwned : Type 0
SkeletonsAreOwned =
    (functions : List Place) (starts : List Start) (it : Numbered) → Contains (numbered_from 0 starts) it
    → AllOwned (owner_among functions starts) (owner_by functions it.start.owner) (nodes (skeleton_of it))

-- The flows between a function's skeleton, which is its own, and an instance of it lead from the owner of the instance
-- to the function and back, at the site that has the number of the instance's place.
pub record Leads (functions : List Place) (starts : List Start) (it of : Numbered) (f : Place) : Type 0 where
  pub site : slice_get (sites_among functions starts) (number_among 0 (site_places starts) it.start.at) ≡ Some (record {
    unit = it.start.at.0;
    token = it.start.at.1;
    target = number_among 0 functions f;
    owner = owner_by functions it.start.owner;
  })
  pub flows : AllLead (owner_among functions starts) (owner_by functions it.start.owner)
      (Function (number_among 0 functions f)) (number_among 0 (site_places starts) it.start.at)
      (cross (number_among 0 (site_places starts) it.start.at) (skeleton_of of) (skeleton_of it))

-- the law: between a function's own skeleton and an instance of it calls and returns lead as they should
abbrev pub CallsLead : Type 0
CallsLead =
    (functions : List Place) (starts : List Start) (it of : Numbered) (f : Place)
    → AreDifferent (site_places starts) → Contains (numbered_from 0 starts) it → it.start.calls ≡ Some f
    → Contains (numbered_from 0 starts) of → of.start.owner ≡ Some f → Leads functions starts it of f
