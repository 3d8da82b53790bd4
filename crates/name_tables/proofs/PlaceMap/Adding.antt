-- What is added where a place has nothing.
use Rattle.std.proofs.Common.{◌≡◌, Bool, true, false, Option, Some, None, is_some, refl, sym, ◌∙◌, ap, if◌then◌else◌}
use Rattle.name_rules.specs.Spellings.{Place}
use Rattle.name_rules.specs.Scopes.{is_place}
use Rattle.name_rules.proofs.MeaningLaws.Lists.{place_is}
use Rattle.name_tables.specs.PlaceMap.Values.{or_else, there}

pub or_none : {V : Type 0} (o : Option V) → or_else o None ≡ o
or_none None = refl
or_none (Some v) = refl

or_known : {V : Type 0} (o e : Option V) → is_some o ≡ true → or_else o e ≡ o
or_known None e is = absurd cc
or_known (Some v) e is = refl

or_new : {V : Type 0} (o e : Option V) → is_some o ≡ false → or_else o e ≡ e
or_new None e is = refl
or_new (Some v) e is = absurd cc

pub or_assoc : {V : Type 0} (a b c : Option V) → or_else (or_else a b) c ≡ or_else a (or_else b c)
or_assoc None b c = refl
or_assoc (Some v) b c = refl

module _ {V : Type 0} (before : Place → Option V) (at : Place) (v : V) where
  -- a place that has something keeps it
  pub stays : is_some (before at) ≡ true → (p : Place) → before p ≡ or_else (before p) (there at v p)
  stays known p = by_test (is_place at p) refl
    where
      by_test : (b : Bool) → is_place at p ≡ b → before p ≡ or_else (before p) (if b then Some v else None)
      by_test false is = sym (or_none (before p))
      by_test true is =
          sym (or_known (before p) (Some v) (ap (λ (q : Place). is_some (before q)) (sym (place_is at p is)) ∙ known))

  -- another gets this
  pub comes : (after : Place → Option V) → is_some (before at) ≡ false
      → ((p : Place) → after p ≡ (if is_place at p then Some v else before p)) → (p : Place)
      → after p ≡ or_else (before p) (there at v p)
  comes after unknown set p = set p ∙ by_test (is_place at p) refl
    where
      by_test : (b : Bool) → is_place at p ≡ b
          → (if b then Some v else before p) ≡ or_else (before p) (if b then Some v else None)
      by_test false is = sym (or_none (before p))
      by_test true is =
          sym (or_new (before p) (Some v) (ap (λ (q : Place). is_some (before q)) (sym (place_is at p is)) ∙ unknown))
