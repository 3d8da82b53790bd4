-- Where what is linked is declared: the link of a thing is a thing and its own link, and that of a member is a member.
use Rattle.std.proofs.Common.{◌≡◌, ◌⊎◌, inl, inr, ℕ, Bool, true, false, List, [], ◌∷◌, Option, None, Some, nat_eq, refl, sym, ◌∙◌, ap, subst}
use Rattle.std.specs.Prelude.{◌&&◌, option_and_then, if◌then◌else◌}
use Rattle.std.proofs.lemmas.Bool.{and_parts, eqb-true}
use Rattle.name_rules.specs.Spellings.{Place}
use Rattle.name_rules.specs.Scopes.{function_role, field_role, Declared, declared_at, Known, Body, StructKey, Aggregate, Names, is_place, or_place}
use Rattle.name_rules.specs.Values.{member_in}
use Rattle.name_rules.specs.Declaring.{or_at}
use Rattle.name_rules.specs.Linking.{is_external, place_where, first_external, thing_linked, thing_link, defines, is_elsewhere, place_of, member_where, member_among, is_found, name_found, linked_in, member_link, link_of}
use Rattle.name_rules.specs.MeaningLaws.Meanings.{IsThing, IsMember, ThingsAre, ThingsDiffer, KnownAre, SomeBodyIs, AggregatesAre, AreFirst, HasLink}
use Rattle.name_rules.proofs.MeaningLaws.Lists.{place_itself, place_is, other_way, declared_place, member_found}

-- which of two it is
either_is : (p q : Option Place) (at : Place) (R : Type 0) → (p ≡ Some at → R) → (q ≡ Some at → R) →
    or_place p q ≡ Some at → R
either_is None q at R f g e = g e
either_is (Some p) q at R f g e = f e

-- things

abbrev HasThing : List (ℕ × Place) → ℕ → Place → Type 0
HasThing [] name p = ⊥
HasThing (it ∷ things) name p = ((it.0 ≡ name) × (it.1 ≡ p)) ⊎ HasThing things name p

-- what holds of the places of all things holds of the place of one that has a name
thing_there : (P : Place → Type 0) (things : List (ℕ × Place)) (name : ℕ) (p : Place) → ThingsAre P things →
    HasThing things name p → P p
thing_there P [] name p h k = absurd k
thing_there P (it ∷ things) name p h (inl k) = subst P k.1 h.0
thing_there P (it ∷ things) name p h (inr k) = thing_there P things name p h.1 k

module _ (statics : List (ℕ × ℕ)) where
  -- what is found is an external thing of the name
  first_is : (things : List (ℕ × Place)) (name : ℕ) (q : Place) → first_external statics things name ≡ Some q →
      HasThing things name q × (is_external statics name q ≡ true)
  first_is [] name q e = absurd cc
  first_is (it ∷ things) name q e =
      either_is (first_external statics things name)
      (place_where (nat_eq it.0 name && is_external statics it.0 it.1) it.1) q
      (HasThing (it ∷ things) name q × (is_external statics name q ≡ true))
      (λ k. let more = first_is things name q k in (inr more.0, more.1))
      (here (nat_eq it.0 name && is_external statics it.0 it.1) refl) e
    where
      here : (b : Bool) → (nat_eq it.0 name && is_external statics it.0 it.1) ≡ b → place_where b it.1 ≡ Some q →
          HasThing (it ∷ things) name q × (is_external statics name q ≡ true)
      here false is e = absurd cc
      here true is e =
          let both = and_parts (nat_eq it.0 name) (is_external statics it.0 it.1) is in
          let same : it.0 ≡ name = eqb-true it.0 name both.0 in
          let at : it.1 ≡ q = cc in (
            inl (same, at),
            subst (λ (n : ℕ). is_external statics n q ≡ true) same
                (subst (λ (p : Place). is_external statics it.0 p ≡ true) at both.1),
          )

  module _ (all : List (ℕ × Place)) where
    -- what is linked is a thing, and its link is that of its name
    linked_is : (things : List (ℕ × Place)) (p q : Place) → thing_link statics all things p ≡ Some q →
        (name : ℕ) × HasThing things name p × (first_external statics all name ≡ Some q)
    linked_is [] p q e = absurd cc
    linked_is (it ∷ things) p q e =
        either_is (thing_linked statics all p it) (thing_link statics all things p) q
        ((name : ℕ) × HasThing (it ∷ things) name p × (first_external statics all name ≡ Some q))
        (here (is_place it.1 p && is_external statics it.0 it.1) refl)
        (λ k. let more = linked_is things p q k in (more.0, inr more.1, more.2)) e
      where
        here : (b : Bool) → (is_place it.1 p && is_external statics it.0 it.1) ≡ b →
            (if b then first_external statics all it.0 else None) ≡ Some q →
            (name : ℕ) × HasThing (it ∷ things) name p × (first_external statics all name ≡ Some q)
        here false is e = absurd cc
        here true is e =
            (it.0, inl (refl, place_is it.1 p (and_parts (is_place it.1 p) (is_external statics it.0 it.1) is).0), e)

    -- the link of an external thing is that of its name, where no other is at its place
    link_is : (things : List (ℕ × Place)) (name : ℕ) (p q : Place) → ThingsDiffer things → HasThing things name p →
        is_external statics name p ≡ true → first_external statics all name ≡ Some q →
        thing_link statics all things p ≡ Some q
    link_is [] name p q d h external first = absurd h
    link_is (it ∷ things) name p q d (inl h) external first =
        ap (λ (found : Option Place). or_place found (thing_link statics all things p)) here
      where
        is : (is_place it.1 p && is_external statics it.0 it.1) ≡ true
        is = rw (h.0, h.1, place_itself p) external

        here : thing_linked statics all p it ≡ Some q
        here = ap (λ (b : Bool). if b then first_external statics all it.0 else None) is
            ∙ (ap (λ (n : ℕ). first_external statics all n) h.0 ∙ first)
    link_is (it ∷ things) name p q d (inr h) external first =
        ap (λ (found : Option Place). or_place found (thing_link statics all things p)) none
        ∙ link_is things name p q d.1 h external first
      where
        other : is_place it.1 p ≡ false
        other = other_way p it.1 (thing_there (λ r. is_place r it.1 ≡ false) things name p d.0 h)

        none : thing_linked statics all p it ≡ None
        none = ap
            (λ (b : Bool). if b && is_external statics it.0 it.1 then first_external statics all it.0 else None) other

-- members

module _ (P : Place → Type 0) where
  place_of_is : (body : Option Body) (name : ℕ) (q : Place) (found : Option Known) → SomeBodyIs P body →
      member_in body name ≡ found → place_of found ≡ Some q → P q
  place_of_is body name q None h is e = absurd cc
  place_of_is body name q (Some it) h is e =
      let same : it.at ≡ q = cc in subst P same (member_found P body name it h is)

  among_is : (key : StructKey) (name : ℕ) (xs : List Aggregate) (q : Place) → AggregatesAre P xs →
      member_among key name xs ≡ Some q → P q
  among_is key name [] q h e = absurd cc
  among_is key name (it ∷ xs) q h e =
      either_is (member_where (defines key it) it name) (member_among key name xs) q (P q) (here (defines key it))
      (among_is key name xs q h.1) e
    where
      here : (b : Bool) → member_where b it name ≡ Some q → P q
      here false e = absurd cc
      here true e = place_of_is it.body name q (member_in it.body name) h.0 refl e

  name_is : (body : Body) (known : List Known) (p : Place) (name : ℕ) → KnownAre P known →
      name_found body known p ≡ Some name → P p
  name_is body [] p name h e = absurd cc
  name_is body (it ∷ known) p name h e =
      by (is_place it.at p && is_found p (place_of (member_in (Some body) it.name))) refl e
      (name_is body known p name h.1)
    where
      by : (b : Bool) → (is_place it.at p && is_found p (place_of (member_in (Some body) it.name))) ≡ b →
          (if b then Some it.name else name_found body known p) ≡ Some name →
          (name_found body known p ≡ Some name → P p) → P p
      by true is e more =
          subst P (place_is it.at p (and_parts (is_place it.at p)
          (is_found p (place_of (member_in (Some body) it.name))) is).0) h.0
      by false is e more = more e

  module _ (all : List Aggregate) (every : AggregatesAre P all) where
    in_one : (p q : Place) (it : Aggregate) (key : Option StructKey) (body : Option Body) → SomeBodyIs P body →
        linked_in all p it key body ≡ Some q → P p × P q
    in_one p q it None body h e = absurd cc
    in_one p q it (Some key) None h e = absurd cc
    in_one p q it (Some key) (Some body) h e = by (defines key it && is_elsewhere it.at.0 key all) e
      where
        found : (name : Option ℕ) → name_found body body.known p ≡ name →
            option_and_then (λ n. member_among key n all) name ≡ Some q → P p × P q
        found None is e = absurd cc
        found (Some name) is e = (name_is body body.known p name h.1 is, among_is key name all q every e)

        by : (b : Bool)
            → (if b then option_and_then (λ n. member_among key n all) (name_found body body.known p) else None)
            ≡ Some q → P p × P q
        by true e = found (name_found body body.known p) refl e
        by false e = absurd cc

    -- what is linked as a member is one, and so is its link
    members_are : (xs : List Aggregate) (p q : Place) → AggregatesAre P xs → member_link all xs p ≡ Some q → P p × P q
    members_are [] p q h e = absurd cc
    members_are (it ∷ xs) p q h e =
        either_is (linked_in all p it it.key it.body) (member_link all xs p) q (P p × P q)
        (in_one p q it it.key it.body h.0) (members_are xs p q h.1) e

-- links

-- what is found at a place is this
found_is : (ds : List Declared) (p : Place) (d it : Declared) → declared_at ds p ≡ Some d → declared_at ds p ≡ Some it →
    it ≡ d
found_is ds p d it e f = let both = sym e ∙ f in cc

no_function : (it : Declared) (n i : ℕ) → it.role ≡ field_role n i → it.role ≡ function_role → ⊥
no_function it n i e f = let both : field_role n i ≡ function_role = sym e ∙ f in cc

module _ (s : Names) (h : AreFirst s) (d : Declared) (there : declared_at s.declared d.at ≡ Some d)
    (first : d.first ≡ d.at) where
  by_thing : (name : ℕ) (q : Place) → HasThing s.things name d.at → first_external s.statics s.things name ≡ Some q →
      link_of s d.at ≡ q → HasLink s d
  by_thing name q has e is = record {
    it = thing.it;
    there = ap (declared_at s.declared) is ∙ thing.there;
    is_first = λ f. thing.is_first ∙ sym at;
    is_last = λ f. ap (link_of s) at ∙ (last ∙ sym at);
    of_file = inr (own, thing.of_file);
  }
    where
      oldest : HasThing s.things name q × (is_external s.statics name q ≡ true)
      oldest = first_is s.statics s.things name q e

      thing : IsThing s.declared q
      thing = thing_there (IsThing s.declared) s.things name q h.things oldest.0

      at : thing.it.at ≡ q
      at = declared_place s.declared q thing.it thing.there

      last : link_of s q ≡ q
      last = ap (λ (found : Option Place). or_at (or_place found (member_link s.aggregates s.aggregates q)) q)
          (link_is s.statics s.things s.things name q q h.differ oldest.0 oldest.1 e)

      here : IsThing s.declared d.at
      here = thing_there (IsThing s.declared) s.things name d.at h.things has

      own : (d.role ≡ function_role) ⊎ (d.owner ≡ None)
      own = subst (λ (it : Declared). (it.role ≡ function_role) ⊎ (it.owner ≡ None))
          (found_is s.declared d.at d here.it there here.there) here.of_file

  by_member : (q : Place) → IsMember s.declared d.at → IsMember s.declared q → link_of s d.at ≡ q → HasLink s d
  by_member q here other is = record {
    it = other.it;
    there = ap (declared_at s.declared) is ∙ other.there;
    is_first = λ f. absurd (no_function other.it other.is_field.0 other.is_field.1 other.is_field.2 f);
    is_last = λ f. absurd (no_function other.it other.is_field.0 other.is_field.1 other.is_field.2 f);
    of_file = inr (inr own, inr other.none);
  }
    where
      own : d.owner ≡ None
      own = subst (λ (it : Declared). it.owner ≡ None) (found_is s.declared d.at d here.it there here.there) here.none

  by_itself : link_of s d.at ≡ d.at → HasLink s d
  by_itself is = record {
    it = d;
    there = ap (declared_at s.declared) is ∙ there;
    is_first = λ f. first;
    is_last = λ f. is;
    of_file = inl is;
  }

  pub has_link : HasLink s d
  has_link = by (thing_link s.statics s.things s.things d.at) (member_link s.aggregates s.aggregates d.at) refl refl
    where
      by : (thing member : Option Place) → thing_link s.statics s.things s.things d.at ≡ thing →
          member_link s.aggregates s.aggregates d.at ≡ member → HasLink s d
      by (Some q) member e f =
          let linked = linked_is s.statics s.things s.things d.at q e in
          by_thing linked.0 q linked.1 linked.2 (rw e refl)
      by None (Some q) e f =
          let both = members_are (IsMember s.declared) s.aggregates h.members s.aggregates d.at q h.members f in
          by_member q both.0 both.1 (rw (e, f) refl)
      by None None e f = by_itself (rw (e, f) refl)
