-- What meets a system meets one that it is under other numbers, where each variable and each copy is seen under its new
-- number.
use Rattle.std.proofs.Common.{◌≡◌, ℕ, ◌≤◌, true, List, [], ◌∷◌, length, map, slice_get, Option, None, Some, refl, subst, sym, ap, ◌∙◌}
use Rattle.std.specs.Int.{bit_at}
use Rattle.std.proofs.lemmas.List.{length-map}
use Rattle.qual_base.specs.declared.places.Owner.{Owner}
use Rattle.qual_base.specs.declared.places.Owner.TheVariants.{Nobody, Function}
use Rattle.lattice_core.specs.Order.{Order, leq}
use Rattle.flow_graph.specs.declared.constraint.Link.{Link}
use Rattle.flow_graph.specs.declared.constraint.Link.TheVariants.{Le, Const, Bound, Enter, Leave}
use Rattle.flow_graph.specs.declared.constraint.Site.{Site}
use Rattle.flow_graph.specs.System.{System, owner_of, IsInLattice, Stands, Calls}
use Rattle.flow_graph.specs.CallStrings.{IsCallString, IsCopy, either}
use Rattle.flow_graph.specs.Unfolding.{Assignment, seen_from, at, Rises, Keeps, Meets, IsAcceptedIn, IsExceeded, CanStay}
use Rattle.renaming_laws.specs.Renamings.{Renaming, renamed_owner, renamed_link, IsSameConstraint, IsSameSite, Agree, IsRenamed}

-- what agrees with something is there
pub record IsFound {A : Type 0} (same : A → A → Type 0) (x : A) (found : Option A) : Type 0 where
  pub it : A
  pub is : found ≡ Some it
  pub alike : same x it

found_in : {A : Type 0} (same : A → A → Type 0) (x : A) (found : Option A) → Agree same (Some x) found
    → IsFound same x found
found_in same x None h = absurd h
found_in same x (Some y) h = record { it = y; is = refl; alike = h }

-- a link that is in a lattice is so under new numbers
carried : (ren : Renaming) (lattice : ℕ) (link : Link) (old new : ℕ) → new ≡ old → IsInLattice lattice link old
    → IsInLattice lattice (renamed_link ren link) new
carried ren lattice (Le u v) old new is h = ap (λ m. bit_at m lattice) is ∙ h
carried ren lattice (Const named e v) old new is h = h
carried ren lattice (Bound v named e) old new is h = h
carried ren lattice (Enter s u v) old new is h = ap (λ m. bit_at m lattice) is ∙ h
carried ren lattice (Leave s u v) old new is h = ap (λ m. bit_at m lattice) is ∙ h

seen_renamed : (ren : Renaming) (owner : Owner) (sites : List ℕ)
    → seen_from (renamed_owner ren owner) (map ren.sites.to sites) ≡ map ren.sites.to (seen_from owner sites)
seen_renamed ren Nobody sites = refl
seen_renamed ren (Function f) sites = refl

either_renamed : (ren : Renaming) (a b : Owner)
    → either (renamed_owner ren a) (renamed_owner ren b) ≡ renamed_owner ren (either a b)
either_renamed ren Nobody b = refl
either_renamed ren (Function f) b = refl

module _ (ren : Renaming) (sys other : System) (is : IsRenamed ren sys other) where
  abbrev renamed_sites : List ℕ → List ℕ
  renamed_sites sites = map ren.sites.to sites

  pub stands : (lattice n : ℕ) (link : Link) → Stands sys lattice n link
      → Stands other lattice (ren.constraints.to n) (renamed_link ren link)
  stands lattice n link st =
      let found = found_in (IsSameConstraint ren) st.constraint (slice_get other.constraints (ren.constraints.to n))
      (subst (λ o. Agree (IsSameConstraint ren) o (slice_get other.constraints (ren.constraints.to n))) st.there
      (is.constraints n)) in
      record {
        constraint = found.it;
        there = found.is;
        link_is = found.alike.link_is ∙ ap (λ l. renamed_link ren l) st.link_is;
        carried = carried ren lattice link st.constraint.lattices found.it.lattices found.alike.lattices_are st.carried;
      }

  site_there : (s : ℕ) (site : Site) → slice_get sys.sites s ≡ Some site
      → IsFound (IsSameSite ren) site (slice_get other.sites (ren.sites.to s))
  site_there s site there = found_in (IsSameSite ren) site (slice_get other.sites (ren.sites.to s))
      (subst (λ o. Agree (IsSameSite ren) o (slice_get other.sites (ren.sites.to s))) there (is.sites s))

  calls : (s : ℕ) (outer inner : Owner) → Calls sys s outer inner
      → Calls other (ren.sites.to s) (renamed_owner ren outer) (renamed_owner ren inner)
  calls s outer inner c =
      let found = site_there s c.it c.there in
      record {
        it = found.it;
        there = found.is;
        outer_is = ap (λ o. renamed_owner ren o) c.outer_is ∙ sym found.alike.owner_is;
        inner_is = ap (λ o. renamed_owner ren o) c.inner_is ∙ ap (λ f. Function f) (sym found.alike.target_is);
      }

  call_string : (owner : Owner) (sites : List ℕ) → IsCallString sys owner sites
      → IsCallString other (renamed_owner ren owner) (renamed_sites sites)
  call_string owner [] h = tt
  call_string owner (site ∷ []) h = (renamed_owner ren h.0, calls site h.0 owner h.1)
  call_string owner (site ∷ before ∷ sites) h =
      (renamed_owner ren h.0, calls site h.0 owner h.1, call_string h.0 (before ∷ sites) h.2)

  copy : (depth : ℕ) (owner : Owner) (sites : List ℕ) → IsCopy sys depth owner sites
      → IsCopy other depth (renamed_owner ren owner) (renamed_sites sites)
  copy depth Nobody sites h = ap (λ s. renamed_sites s) h
  copy depth (Function f) sites h =
      (call_string (Function f) sites h.0, subst (λ n. n ≤ depth) (sym (length-map sites ren.sites.to)) h.1)

  -- the copies of a variable
  copy_of : (depth v : ℕ) (sites : List ℕ) → IsCopy sys depth (owner_of sys v) sites
      → IsCopy other depth (owner_of other (ren.vars.to v)) (renamed_sites sites)
  copy_of depth v sites h =
      subst (λ o. IsCopy other depth o (renamed_sites sites)) (sym (is.owners v)) (copy depth (owner_of sys v) sites h)

  copy_either : (depth u v : ℕ) (sites : List ℕ) → IsCopy sys depth (either (owner_of sys u) (owner_of sys v)) sites →
      IsCopy other depth (either (owner_of other (ren.vars.to u)) (owner_of other (ren.vars.to v)))
      (renamed_sites sites)
  copy_either depth u v sites h =
      let same : either (owner_of other (ren.vars.to u)) (owner_of other (ren.vars.to v))
      ≡ renamed_owner ren (either (owner_of sys u) (owner_of sys v)) =
      ap (λ o. either o (owner_of other (ren.vars.to v))) (is.owners u)
      ∙ (ap (λ o. either (renamed_owner ren (owner_of sys u)) o) (is.owners v)
      ∙ either_renamed ren (owner_of sys u) (owner_of sys v)) in
      subst (λ o. IsCopy other depth o (renamed_sites sites)) (sym same)
      (copy depth (either (owner_of sys u) (owner_of sys v)) sites h)

  abbrev pub pulled : Assignment → Assignment
  pulled new v sites = new (ren.vars.to v) (renamed_sites sites)

  pub at_pulled : (new : Assignment) (v : ℕ) (sites : List ℕ)
      → at other new (ren.vars.to v) (renamed_sites sites) ≡ at sys (pulled new) v sites
  at_pulled new v sites =
      ap (λ o. new (ren.vars.to v) (seen_from o (renamed_sites sites))) (is.owners v)
      ∙ ap (λ s. new (ren.vars.to v) s) (seen_renamed ren (owner_of sys v) sites)

  module _ (lattice : ℕ) (order : Order) where
    -- the order of two variables in two copies
    both_pulled : (new : Assignment) (u v : ℕ) (from to : List ℕ) →
        leq order (at other new (ren.vars.to u) (renamed_sites from))
        (at other new (ren.vars.to v) (renamed_sites to)) ≡ true →
        leq order (at sys (pulled new) u from) (at sys (pulled new) v to) ≡ true
    both_pulled new u v from to h = subst (λ x. leq order x (at sys (pulled new) v to) ≡ true) (at_pulled new u from)
        (subst (λ y. leq order (at other new (ren.vars.to u) (renamed_sites from)) y ≡ true) (at_pulled new v to) h)

    fits : (depth s : ℕ) (sites : List ℕ) → length (s ∷ sites) ≤ depth
        → length (ren.sites.to s ∷ renamed_sites sites) ≤ depth
    fits depth s sites h = subst (λ n. n ≤ depth) (sym (length-map (s ∷ sites) ren.sites.to)) h

    owner_copy : (depth : ℕ) (site new : Site) (sites : List ℕ) → IsSameSite ren site new
        → IsCopy sys depth site.owner sites → IsCopy other depth new.owner (renamed_sites sites)
    owner_copy depth site new sites same h =
        subst (λ o. IsCopy other depth o (renamed_sites sites)) (sym same.owner_is) (copy depth site.owner sites h)

    pub rises_pulled : (depth : ℕ) (new : Assignment) → Rises other lattice order depth new
        → Rises sys lattice order depth (pulled new)
    rises_pulled depth new h = record {
      elements = λ v sites. h.elements (ren.vars.to v) (renamed_sites sites);
      le = λ n u v sites st here. both_pulled new u v sites sites
          (h.le (ren.constraints.to n) (ren.vars.to u) (ren.vars.to v) (renamed_sites sites)
          (stands lattice n (Le u v) st) (copy_either depth u v sites here));
      const = λ n e v sites st here. subst (λ x. leq order e x ≡ true) (at_pulled new v sites)
          (h.const (ren.constraints.to n) e (ren.vars.to v) (renamed_sites sites)
          (stands lattice n (Const lattice e v) st) (copy_of depth v sites here));
      enter = λ n s u v site sites st there here room.
          let found = site_there s site there in
          both_pulled new u v sites (s ∷ sites)
          (h.enter (ren.constraints.to n) (ren.sites.to s) (ren.vars.to u) (ren.vars.to v) found.it
          (renamed_sites sites) (stands lattice n (Enter s u v) st) found.is
          (owner_copy depth site found.it sites found.alike here) (fits depth s sites room));
      leave = λ n s u v site sites st there here room.
          let found = site_there s site there in
          both_pulled new u v (s ∷ sites) sites
          (h.leave (ren.constraints.to n) (ren.sites.to s) (ren.vars.to u) (ren.vars.to v) found.it
          (renamed_sites sites) (stands lattice n (Leave s u v) st) found.is
          (owner_copy depth site found.it sites found.alike here) (fits depth s sites room));
    }

    pub keeps_pulled : (depth : ℕ) (new : Assignment) (n : ℕ)
        → Keeps other lattice order depth new (ren.constraints.to n) → Keeps sys lattice order depth (pulled new) n
    keeps_pulled depth new n h e v sites st here = subst (λ x. leq order x e ≡ true) (at_pulled new v sites)
        (h e (ren.vars.to v) (renamed_sites sites) (stands lattice n (Bound v lattice e) st)
        (copy_of depth v sites here))

    pub meets_pulled : (depth : ℕ) (new : Assignment) → Meets other lattice order depth new
        → Meets sys lattice order depth (pulled new)
    meets_pulled depth new h = record {
      rises = rises_pulled depth new h.rises;
      bound = λ n. keeps_pulled depth new n (h.bound (ren.constraints.to n));
    }

    pub accepted_pulled : IsAcceptedIn other lattice order → IsAcceptedIn sys lattice order
    accepted_pulled h depth = (pulled (h depth).0, meets_pulled depth (h depth).0 (h depth).1)

    pub stays_pulled : (v r : ℕ) → CanStay other lattice order (ren.vars.to v) r → CanStay sys lattice order v r
    stays_pulled v r h depth = (
      pulled (h depth).0,
      meets_pulled depth (h depth).0 (h depth).1,
      λ sites here. subst (λ x. leq order x r ≡ true) (at_pulled (h depth).0 v sites)
          ((h depth).2 (renamed_sites sites) (copy_of depth v sites here)),
    )

    pub exceeded_goes : (n : ℕ) → IsExceeded sys lattice order n → IsExceeded other lattice order (ren.constraints.to n)
    exceeded_goes n h = record {
      var = ren.vars.to h.var;
      element = h.element;
      bound = stands lattice n (Bound h.var lattice h.element) h.bound;
      depth = h.depth;
      unmet = λ new rises keeps.
          h.unmet (pulled new) (rises_pulled h.depth new rises) (keeps_pulled h.depth new n keeps);
    }
