-- Of two systems that differ by their numbers each is the other under its numbers.
use Rattle.std.proofs.Common.{◌≡◌, slice_get, Option, None, Some, refl, subst, sym, ap, ◌∙◌}
use Rattle.qual_base.specs.declared.places.Owner.{Owner}
use Rattle.qual_base.specs.declared.places.Owner.TheVariants.{Nobody, Function}
use Rattle.flow_graph.specs.declared.constraint.Link.{Link}
use Rattle.flow_graph.specs.declared.constraint.Link.TheVariants.{Le, Const, Bound, Enter, Leave}
use Rattle.flow_graph.specs.declared.constraint.Constraint.{Constraint}
use Rattle.flow_graph.specs.declared.constraint.Site.{Site}
use Rattle.flow_graph.specs.System.{owner_of}
use Rattle.renaming_laws.specs.Renamings.{Renaming, turned, renamed_owner, renamed_link, IsSameConstraint, IsSameSite, Agree}
use Rattle.renaming_laws.specs.Laws.{RenamedTurns}

-- two that agree do so the other way round, where being the same turns round
agree_turns : {A : Type 0} (same other : A → A → Type 0) (o p : Option A) → ((x y : A) → same x y → other y x)
    → Agree same o p → Agree other p o
agree_turns same other None None turn h = tt
agree_turns same other None (Some y) turn h = absurd h
agree_turns same other (Some x) None turn h = absurd h
agree_turns same other (Some x) (Some y) turn h = turn x y h

owner_back : (ren : Renaming) (o : Owner) → renamed_owner (turned ren) (renamed_owner ren o) ≡ o
owner_back ren Nobody = refl
owner_back ren (Function f) = ap (λ g. Function g) (ren.functions.from_to f)

-- a link that is renamed and renamed back is the link
link_back : (ren : Renaming) (l : Link) → renamed_link (turned ren) (renamed_link ren l) ≡ l
link_back ren (Le u v) =
    ap (λ x. Le x (ren.vars.from (ren.vars.to v))) (ren.vars.from_to u) ∙ ap (λ y. Le u y) (ren.vars.from_to v)
link_back ren (Const l e v) = ap (λ x. Const l e x) (ren.vars.from_to v)
link_back ren (Bound v l e) = ap (λ x. Bound x l e) (ren.vars.from_to v)
link_back ren (Enter s u v) =
    ap (λ x. Enter x (ren.vars.from (ren.vars.to u)) (ren.vars.from (ren.vars.to v))) (ren.sites.from_to s)
    ∙ (ap (λ x. Enter s x (ren.vars.from (ren.vars.to v))) (ren.vars.from_to u)
    ∙ ap (λ x. Enter s u x) (ren.vars.from_to v))
link_back ren (Leave s u v) =
    ap (λ x. Leave x (ren.vars.from (ren.vars.to u)) (ren.vars.from (ren.vars.to v))) (ren.sites.from_to s)
    ∙ (ap (λ x. Leave s x (ren.vars.from (ren.vars.to v))) (ren.vars.from_to u)
    ∙ ap (λ x. Leave s u x) (ren.vars.from_to v))

-- a constraint that is another under new numbers is that under which the other is renamed back
constraint_turns : (ren : Renaming) (old new : Constraint) → IsSameConstraint ren old new
    → IsSameConstraint (turned ren) new old
constraint_turns ren old new h = record {
  link_is = sym (link_back ren old.link) ∙ ap (λ l. renamed_link (turned ren) l) (sym h.link_is);
  lattices_are = sym h.lattices_are;
}

-- a site that is another under new numbers is that under which the other is renamed back
site_turns : (ren : Renaming) (old new : Site) → IsSameSite ren old new → IsSameSite (turned ren) new old
site_turns ren old new h = record {
  target_is = sym (ren.functions.from_to old.target) ∙ ap (λ f. ren.functions.from f) (sym h.target_is);
  owner_is = sym (owner_back ren old.owner) ∙ ap (λ o. renamed_owner (turned ren) o) (sym h.owner_is);
}

-- where one system is another under new numbers, that one is the first under the old numbers
pub renamed_turns : RenamedTurns
renamed_turns ren sys other is = record {
  constraints = λ m. agree_turns (IsSameConstraint ren) (IsSameConstraint (turned ren))
      (slice_get sys.constraints (ren.constraints.from m)) (slice_get other.constraints m)
      (constraint_turns ren)
      (subst (λ n. Agree (IsSameConstraint ren) (slice_get sys.constraints (ren.constraints.from m))
      (slice_get other.constraints n)) (ren.constraints.to_from m)
      (is.constraints (ren.constraints.from m)));
  sites = λ m. agree_turns (IsSameSite ren) (IsSameSite (turned ren)) (slice_get sys.sites (ren.sites.from m))
      (slice_get other.sites m)
      (site_turns ren)
      (subst (λ n. Agree (IsSameSite ren) (slice_get sys.sites (ren.sites.from m)) (slice_get other.sites n))
      (ren.sites.to_from m) (is.sites (ren.sites.from m)));
  owners = λ w. sym (owner_back ren (owner_of sys (ren.vars.from w)))
      ∙ ap (λ o. renamed_owner (turned ren) o)
      (sym (is.owners (ren.vars.from w)) ∙ ap (λ v. owner_of other v) (ren.vars.to_from w));
}
