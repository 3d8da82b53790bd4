-- The constraints of a function's name in an expression fit.
use Rattle.std.proofs.Common.{◌≡◌, ℕ, Bool, true, false, List, [], ◌∷◌, Some, refl, sym, ◌∙◌, ap, subst}
use Rattle.std.specs.Prelude.{if◌then◌else◌}
use Rattle.flow_graph.specs.declared.constraint.Constraint.{Constraint}
use Rattle.flow_graph.specs.declared.constraint.Site.{Site}
use Rattle.qual_types.specs.Skel.{Skel}
use Rattle.flow_rules.specs.Lists.{cross}
use Rattle.name_rules.specs.Spellings.{Place}
use Rattle.name_rules.specs.Scopes.{is_place}
use Rattle.name_rules.proofs.MeaningLaws.Lists.{place_is}
use Rattle.row_rules.specs.Starting.{Start}
use Rattle.row_rules.specs.Worlds.{World, Numbered, at, span, all_lattices, numbered_from, number_among, skeleton_among, constraints}
use Rattle.row_rules.specs.Sites.{owner_by, site_places}
use Rattle.row_rules.specs.Rows.{crossed}
use Rattle.owned_laws.specs.OwnerLaws.Laws.{skeleton_of, Leads, CallsLead}
use Rattle.owned_laws.specs.OwnerLaws.Fitting.{AllFit, start_at}
use Rattle.owned_laws.specs.OwnerLaws.Rows.{system_with, KnowsStarts, InstancesFit}
use Rattle.owned_laws.proofs.OwnerLaws.Fitting.{leading_fits, found_at}

-- what begins first at a place begins there
pub begins_at : (starts : List Start) (p : Place) (start : Start) → start_at starts p ≡ Some start → start.at ≡ p
begins_at [] p start e = absurd cc
begins_at (head ∷ starts) p start e = by (is_place head.at p) (place_is head.at p) e (begins_at starts p start)
  where
    by : (b : Bool) → (b ≡ true → head.at ≡ p) → (if b then Some head else start_at starts p) ≡ Some start →
        (start_at starts p ≡ Some start → start.at ≡ p) → start.at ≡ p
    by true is e more = let same : head ≡ start = cc in subst (λ (it : Start). it.at ≡ p) same (is refl)
    by false is e more = more e

-- the flows of an instance, by the place that its token has
crossing : (functions : List Place) (starts : List Start) (cs : List Constraint) (w : World) (token : ℕ) (f : Place)
    (it of : Numbered) → it.start.at ≡ at w token → Leads functions starts it of f →
    AllFit (system_with functions starts cs)
    (constraints (all_lattices w) (span w token token)
    (cross (number_among 0 (site_places starts) (at w token)) (skeleton_of of) (skeleton_of it)))
crossing functions starts cs w token f it of is leads =
    subst (λ (p : Place). AllFit (system_with functions starts cs)
    (constraints (all_lattices w) (span w token token)
    (cross (number_among 0 (site_places starts) p) (skeleton_of of) (skeleton_of it)))) is
    (leading_fits (system_with functions starts cs) (number_among 0 (site_places starts) it.start.at) site
    (all_lattices w) (span w token token)
    (cross (number_among 0 (site_places starts) it.start.at) (skeleton_of of) (skeleton_of it)) leads.site leads.flows)
  where
    site : Site
    site = record {
      unit = it.start.at.0;
      token = it.start.at.1;
      target = number_among 0 functions f;
      owner = owner_by functions it.start.owner;
    }

-- said of the skeletons and the sites that a world knows
known : (functions : List Place) (starts : List Start) (cs : List Constraint) (w : World) (token : ℕ) (first : Place) →
    KnowsStarts w starts →
    AllFit (system_with functions starts cs)
    (constraints (all_lattices w) (span w token token)
    (cross (number_among 0 (site_places starts) (at w token)) (skeleton_among (numbered_from 0 starts) first)
    (skeleton_among (numbered_from 0 starts) (at w token)))) →
    AllFit (system_with functions starts cs) (crossed w token first)
known functions starts cs w token first knows h =
    subst (λ (all : List Numbered). AllFit (system_with functions starts cs)
    (constraints (all_lattices w) (span w token token)
    (cross (number_among 0 w.sites (at w token)) (skeleton_among all first) (skeleton_among all (at w token)))))
    (sym knows.skeletons_are)
    (subst (λ (sites : List Place). AllFit (system_with functions starts cs)
    (constraints (all_lattices w) (span w token token)
    (cross (number_among 0 sites (at w token)) (skeleton_among (numbered_from 0 starts) first)
    (skeleton_among (numbered_from 0 starts) (at w token))))) (sym knows.sites_are) h)

-- the skeleton of the function's declaration in the unit is crossed, the site calls its link
pub instances_fit : CallsLead → InstancesFit
instances_fit law functions starts cs w token first f different knows it =
    let here = found_at starts 0 (at w token) it.here it.begins_here in
    let there = found_at starts 0 first it.there it.begins_there in
    known functions starts cs w token first knows
    (subst (λ (s : Skel). AllFit (system_with functions starts cs)
    (constraints (all_lattices w) (span w token token)
    (cross (number_among 0 (site_places starts) (at w token)) s
    (skeleton_among (numbered_from 0 starts) (at w token))))) (sym there.skeleton_is)
    (subst (λ (s : Skel). AllFit (system_with functions starts cs)
    (constraints (all_lattices w) (span w token token)
    (cross (number_among 0 (site_places starts) (at w token)) (skeleton_of there.it) s))) (sym here.skeleton_is)
    (crossing functions starts cs w token f here.it there.it
    (ap (λ (s : Start). s.at) here.start_is ∙ begins_at starts (at w token) it.here it.begins_here)
    (law functions starts here.it there.it f different here.there
    (ap (λ (s : Start). s.calls) here.start_is ∙ it.calls) there.there
    (ap (λ (s : Start). s.owner) there.start_is ∙ it.is_own)))))
