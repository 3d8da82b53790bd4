-- At the link of a declaration a skeleton begins.
use Rattle.std.proofs.Common.{◌≡◌, ◌⊎◌, inl, inr, ℕ, Bool, true, false, List, [], ◌∷◌, Option, None, Some, refl}
use Rattle.std.specs.Prelude.{◌&&◌, nat_eq, option_and_then, if◌then◌else◌}
use Rattle.type_table.specs.Types.{pointer}
use Rattle.name_rules.specs.Spellings.{Place}
use Rattle.name_rules.specs.Scopes.{Aggregate, Body, Known, StructKey, is_place, or_place}
use Rattle.name_rules.specs.Values.{member_in}
use Rattle.name_rules.specs.Declaring.{or_at}
use Rattle.name_rules.specs.Linking.{defines, first_external, is_elsewhere, is_external, linked_in, member_among, member_link, member_where, name_found, place_of, place_where, thing_link, thing_linked}
use Rattle.name_rules.specs.MeaningLaws.Meanings.{ThingsAre}
use Rattle.row_rules.specs.Worlds.{World}
use Rattle.missing_laws.specs.Finding.{LinksAreMet, PlaceBegins}
use Rattle.missing_laws.proofs.Meant.{AllGood, AreWell, BodyGood, Stands, body_known, stood}

module _ (w : World) (well : AreWell w.names.declared) where
  abbrev SomeMet : Option Place → Type 0
  SomeMet None = Unit {0}
  SomeMet (Some p) = PlaceBegins w p

  met_where : (b : Bool) (o : Option Place) → SomeMet o → SomeMet (if b then o else None)
  met_where true o h = h
  met_where false o h = tt

  either_met : (o p : Option Place) → SomeMet o → SomeMet p → SomeMet (or_place o p)
  either_met None p h k = k
  either_met (Some at) p h k = h

  -- objects and functions

  thing_met : (b : Bool) (p : Place) → Stands w well p → SomeMet (place_where b p)
  thing_met true p h = stood w well p h
  thing_met false p h = tt

  external_met : (statics : List (ℕ × ℕ)) (things : List (ℕ × Place)) (name : ℕ) → ThingsAre (Stands w well) things →
      SomeMet (first_external statics things name)
  external_met statics [] name h = tt
  external_met statics (it ∷ things) name h =
      either_met (first_external statics things name) _ (external_met statics things name h.1)
      (thing_met (nat_eq it.0 name && is_external statics it.0 it.1) it.1 h.0)

  linked_met : (statics : List (ℕ × ℕ)) (all things : List (ℕ × Place)) (p : Place) → ThingsAre (Stands w well) all →
      SomeMet (thing_link statics all things p)
  linked_met statics all [] p h = tt
  linked_met statics all (it ∷ things) p h =
      either_met (thing_linked statics all p it) (thing_link statics all things p)
      (met_where (is_place it.1 p && is_external statics it.0 it.1) (first_external statics all it.0)
      (external_met statics all it.0 h)) (linked_met statics all things p h)

  -- members

  known_met : (body : Option Body) (name : ℕ) (o : Option Known) → BodyGood w well body → member_in body name ≡ o →
      SomeMet (place_of o)
  known_met body name None h e = tt
  known_met body name (Some it) h e = (pointer [] it.type, body_known w well body name it h e)

  member_met : (b : Bool) (it : Aggregate) (name : ℕ) → BodyGood w well it.body → SomeMet (member_where b it name)
  member_met true it name h = known_met it.body name (member_in it.body name) h refl
  member_met false it name h = tt

  among_met : (key : StructKey) (name : ℕ) (all : List Aggregate) → AllGood w well all →
      SomeMet (member_among key name all)
  among_met key name [] h = tt
  among_met key name (it ∷ others) h =
      either_met (member_where (defines key it) it name) (member_among key name others)
      (member_met (defines key it) it name h.0) (among_met key name others h.1)

  found_met : (all : List Aggregate) (key : StructKey) (o : Option ℕ) → AllGood w well all →
      SomeMet (option_and_then (λ name. member_among key name all) o)
  found_met all key None h = tt
  found_met all key (Some name) h = among_met key name all h

  in_met : (all : List Aggregate) (p : Place) (it : Aggregate) (key : Option StructKey) (body : Option Body) →
      AllGood w well all → SomeMet (linked_in all p it key body)
  in_met all p it None body h = tt
  in_met all p it (Some key) None h = tt
  in_met all p it (Some key) (Some body) h =
      met_where (defines key it && is_elsewhere it.at.0 key all) _
      (found_met all key (name_found body body.known p) h)

  members_met : (all others : List Aggregate) (p : Place) → AllGood w well all → SomeMet (member_link all others p)
  members_met all [] p h = tt
  members_met all (it ∷ others) p h =
      either_met (linked_in all p it it.key it.body) (member_link all others p) (in_met all p it it.key it.body h)
      (members_met all others p h)

  at_met : (o : Option Place) (p : Place) → SomeMet o → (or_at o p ≡ p) ⊎ PlaceBegins w (or_at o p)
  at_met None p h = inl refl
  at_met (Some at) p h = inr h

  pub links_met : ThingsAre (Stands w well) w.names.things → AllGood w well w.names.aggregates → LinksAreMet w
  links_met things members p =
      at_met (or_place (thing_link w.names.statics w.names.things w.names.things p)
      (member_link w.names.aggregates w.names.aggregates p)) p
      (either_met (thing_link w.names.statics w.names.things w.names.things p) _
      (linked_met w.names.statics w.names.things w.names.things p things)
      (members_met w.names.aggregates w.names.aggregates p members))
