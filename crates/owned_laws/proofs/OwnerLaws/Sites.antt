-- Each instance of a function is the site of its number, where no two are at one place.
use Rattle.std.proofs.Common.{◌≡◌, ℕ, zero, suc, ◌+◌, ◌<◌, Bool, true, false, Contains, List, [], ◌∷◌, ◌++◌, length, Option, None, Some, refl, ◌∙◌, ap, subst, arith}
use Rattle.std.specs.Prelude.{if◌then◌else◌, slice_get}
use Rattle.std.proofs.lemmas.Bool.{eq-eqb}
use Rattle.qual_base.specs.declared.places.Owner.{Owner}
use Rattle.qual_base.specs.declared.places.Owner.TheVariants.{Function}
use Rattle.flow_graph.specs.declared.constraint.Site.{Site}
use Rattle.type_table.specs.Types.{size}
use Rattle.qual_types.specs.Skel.{Skel, nodes}
use Rattle.flow_rules.specs.Lists.{cross}
use Rattle.flow_rules.specs.Owners.{AllOwned, AllLead}
use Rattle.name_rules.specs.Spellings.{Place}
use Rattle.name_rules.specs.Scopes.{is_place}
use Rattle.name_rules.proofs.MeaningLaws.Lists.{place_is}
use Rattle.row_rules.specs.Starting.{Start}
use Rattle.row_rules.specs.Worlds.{Numbered, numbered_from, number_among}
use Rattle.row_rules.specs.Sites.{AreDifferent, has_place, owner_by, site_of, sites_among, place_of, site_places}
use Rattle.owned_laws.specs.OwnerLaws.Laws.{owner_among, skeleton_of, CallsLead}
use Rattle.owned_laws.proofs.OwnerLaws.Intervals.{skeletons_are_owned}

-- places

pub place_itself : (p : Place) → is_place p p ≡ true
place_itself p = rw (eq-eqb p.0 p.0 refl, eq-eqb p.1 p.1 refl) refl

-- the number of a place among others, counted from one more, is one more
number_suc : (places : List Place) (n : ℕ) (p : Place) → number_among (suc n) places p ≡ suc (number_among n places p)
number_suc [] n p = refl
number_suc (q ∷ places) n p = by (is_place q p) (number_suc places (suc n) p)
  where
    by : (b : Bool) → number_among (suc (suc n)) places p ≡ suc (number_among (suc n) places p) →
        (if b then suc n else number_among (suc (suc n)) places p)
        ≡ suc (if b then n else number_among (suc n) places p)
    by true e = refl
    by false e = e

-- a skeleton that is numbered is one of those that were numbered
in_starts : (starts : List Start) (n : ℕ) (it : Numbered) → Contains (numbered_from n starts) it →
    Contains starts it.start
in_starts [] n it c = absurd (omega (arith, c.1))
in_starts (start ∷ starts) n it (zero, less, is) =
    (0, omega arith, ap (λ (x : Numbered). x.start) is)
in_starts (start ∷ starts) n it (suc k, less, is) =
    let c : Contains starts it.start = in_starts starts (n + size start.type) it (k, omega arith, is) in
    (suc c.0, (let inside : c.0 < length starts = c.1 in omega arith), c.2)

-- the place of an instance is one of the sites' places

-- a place that is among the sites behind a skeleton is among them with the site of it, if it is one, in front
has_there : (head : Start) (called : Option Place) (places : List Place) (p : Place) →
    has_place places p ≡ true → has_place (place_of head called ++ places) p ≡ true
has_there head None places p e = e
has_there head (Some f) places p e = by (is_place head.at p)
  where
    by : (b : Bool) → (if b then true else has_place places p) ≡ true
    by true = refl
    by false = e

-- a skeleton that calls a function has its own place among the sites
has_here : (head : Start) (f : Place) (places : List Place) → head.calls ≡ Some f →
    has_place (place_of head head.calls ++ places) head.at ≡ true
has_here head f places is =
    ap (λ (called : Option Place). has_place (place_of head called ++ places) head.at) is
    ∙ ap (λ (b : Bool). if b then true else has_place places head.at) (place_itself head.at)

-- the place of each skeleton that calls a function is among the sites
has_site : (starts : List Start) (start : Start) (f : Place) → Contains starts start → start.calls ≡ Some f →
    has_place (site_places starts) start.at ≡ true
has_site [] start f c is = absurd (omega (arith, c.1))
has_site (head ∷ starts) start f (zero, less, same) is =
    subst (λ (it : Start). it.calls ≡ Some f → has_place (site_places (head ∷ starts)) it.at ≡ true) same
    (has_here head f (site_places starts)) is
has_site (head ∷ starts) start f (suc k, less, same) is =
    has_there head head.calls (site_places starts) start.at (has_site starts start f (k, omega arith, same) is)

-- sites by their numbers

module _ (functions : List Place) where
  abbrev site : Start → Place → Site
  site start f = record {
    unit = start.at.0;
    token = start.at.1;
    target = number_among 0 functions f;
    owner = owner_by functions start.owner;
  }

  abbrev IsSite : List Site → List Place → Start → Place → Type 0
  IsSite sites places start f = slice_get sites (number_among 0 places start.at) ≡ Some (site start f)

  site_here : (head : Start) (f : Place) (sites : List Site) (places : List Place) → head.calls ≡ Some f →
      IsSite (site_of functions head head.calls ++ sites) (place_of head head.calls ++ places) head f
  site_here head f sites places is =
      ap (λ (called : Option Place). slice_get (site_of functions head called ++ sites)
      (number_among 0 (place_of head called ++ places) head.at)) is
      ∙ ap (λ (b : Bool). slice_get (site head f ∷ sites) (if b then 0 else number_among 1 places head.at))
      (place_itself head.at)

  -- behind a site at another place
  site_past : (head start : Start) (f g : Place) (sites : List Site) (places : List Place) →
      has_place places head.at ≡ false → has_place places start.at ≡ true → IsSite sites places start f →
      IsSite (site head g ∷ sites) (head.at ∷ places) start f
  site_past head start f g sites places none has p = by (is_place head.at start.at) refl
    where
      by : (b : Bool) → is_place head.at start.at ≡ b →
          slice_get (site head g ∷ sites) (if b then 0 else number_among 1 places start.at) ≡ Some (site start f)
      by true e =
          let same : head.at ≡ start.at = place_is head.at start.at e in
          let both : has_place places head.at ≡ has_place places start.at = ap (has_place places) same in
          absurd cc
      by false e = ap (slice_get (site head g ∷ sites)) (number_suc places 0 start.at) ∙ p

  site_there : (head start : Start) (called : Option Place) (f : Place) (sites : List Site) (places : List Place) →
      AreDifferent (place_of head called ++ places) → has_place places start.at ≡ true →
      (AreDifferent places → IsSite sites places start f) →
      IsSite (site_of functions head called ++ sites) (place_of head called ++ places) start f
  site_there head start None f sites places different has p = p different
  site_there head start (Some g) f sites places different has p =
      site_past head start f g sites places different.0 has (p different.1)

  is_site : (starts : List Start) (start : Start) (f : Place) → AreDifferent (site_places starts) →
      Contains starts start → start.calls ≡ Some f → IsSite (sites_among functions starts) (site_places starts) start f
  is_site [] start f different c is = absurd (omega (arith, c.1))
  is_site (head ∷ starts) start f different (zero, less, same) is =
      subst (λ (it : Start). it.calls ≡ Some f →
      IsSite (sites_among functions (head ∷ starts)) (site_places (head ∷ starts)) it f) same
      (site_here head f (sites_among functions starts) (site_places starts)) is
  is_site (head ∷ starts) start f different (suc k, less, same) is =
      site_there head start head.calls f (sites_among functions starts) (site_places starts) different
      (has_site starts start f (k, omega arith, same) is)
      (λ others. is_site starts start f others (k, omega arith, same) is)

-- flows between a function and its instance

-- the law: the flows between a function and its instance lead by the site from owner to owner
abbrev pub Crossings : Type 0
Crossings =
    (own : ℕ → Owner) (outer inner : Owner) (site : ℕ) (a b : Skel) → AllOwned own inner (nodes a) →
    AllOwned own outer (nodes b) → AllLead own outer inner site (cross site a b)

-- calls and returns lead between an instance and its function by the site of the instance's number
pub calls_lead : Crossings → CallsLead
calls_lead crossings functions starts it of f different there is known own = record {
  site = is_site functions starts it.start f different (in_starts starts 0 it there) is;
  flows = crossings (owner_among functions starts) (owner_by functions it.start.owner)
      (Function (number_among 0 functions f)) (number_among 0 (site_places starts) it.start.at) (skeleton_of of)
      (skeleton_of it)
      (subst (λ (owner : Option Place).
      AllOwned (owner_among functions starts) (owner_by functions owner) (nodes (skeleton_of of))) own
      (skeletons_are_owned functions starts of known))
      (skeletons_are_owned functions starts it there);
}
