-- What names mean stays in the item, or is of the file.
use Rattle.std.proofs.Common.{◌≡◌, ◌⊎◌, inl, inr, ℕ, nat_eq, Bool, true, false, List, [], ◌∷◌, ◌++◌, map, Some, refl, sym, ◌∙◌, ap, subst}
use Rattle.std.specs.Prelude.{All, if◌then◌else◌}
use Rattle.std.proofs.lemmas.List.Elements.{All-head, All-tail}
use Rattle.tape_ops.specs.declared.op.Op.{Op}
use Rattle.c_tree.specs.declared.lexeme.Lexeme.{Lexeme}
use Rattle.c_tree.specs.Unit.{Item, IsItem}
use Rattle.c_tape.specs.Tape.{item_tape, tape_of}
use Rattle.owned_laws.specs.TapeLaws.Marks.{function_token, ItemsAreBracketed}
use Rattle.owned_laws.proofs.TapeLaws.Turns.{declares_its}
use Rattle.name_rules.specs.Spellings.{Spelling, Place}
use Rattle.name_rules.specs.Scopes.{Scope, Declared, declared_at, means, NameUse, Names, is_place, innermost}
use Rattle.name_rules.specs.Uses.{use_at}
use Rattle.name_rules.specs.Units.{no_names, shared, unit_begun}
use Rattle.name_rules.specs.NameSteps.State.{State, with_names}
use Rattle.name_rules.specs.NameSteps.Steps.{step, run}
use Rattle.name_rules.specs.NameSteps.Units.{tape_named, tapes_named}
use Rattle.resolve_laws.specs.NameLaws.NameLaws.{tape_of_source, IsSound, NamesOfTapes}
use Rattle.type_rules.specs.Program.{Source}
use Rattle.row_rules.specs.Sites.{has_place, AreDifferent}
use Rattle.name_rules.specs.MeaningLaws.Meanings.{Differ, ThingsAre, UseIs}
use Rattle.row_laws.specs.KeyLaws.Keys.{key_places}
use Rattle.row_laws.specs.KeyLaws.Differing.{keys_among}
use Rattle.owned_laws.specs.ScopeLaws.Staying.{IsOfFile, IsWithin, ItemsStay, SourcesStay, NamesStay}
use Rattle.name_rules.proofs.MeaningLaws.Lists.{place_is, shared_are}
use Rattle.owned_laws.proofs.ScopeLaws.Places.{keys_joined, declared_place, differ_left, differ_right, differ_apart, has_left, has_right}
use Rattle.owned_laws.proofs.ScopeLaws.Apart.{declared_differ}
use Rattle.name_rules.proofs.MeaningLaws.Growing.{Grown, then_grown, same, run_grown, tapes_grown}
use Rattle.owned_laws.proofs.ScopeLaws.Fitting.{Around, around_top}
use Rattle.owned_laws.proofs.ScopeLaws.Changes.{Every, Adds, adds_none, adds_then, adds_map, UseWithin, DeclaredWithin}
use Rattle.owned_laws.proofs.ScopeLaws.Steps.{Holds, Next, run_next}

-- tapes of items

run_joined : (u : Spelling) (xs ys : List Op) (st : State) → run u (xs ++ ys) st ≡ run u ys (run u xs st)
run_joined u [] ys st = refl
run_joined u (op ∷ xs) ys st = run_joined u xs ys (step u st op)

-- some item of a unit, and of a program, by the places of its ops

abbrev SomeItem : Spelling → List Item → (List Place → Type 0) → Type 0
SomeItem u [] F = ⊥
SomeItem u (item ∷ items) F = F (key_places u (item_tape item)) ⊎ SomeItem u items F

abbrev SomeSource : List Source → (List Place → Type 0) → Type 0
SomeSource [] F = ⊥
SomeSource (it ∷ sources) F = SomeItem it.spelling it.items F ⊎ SomeSource sources F

-- what holds of the places of some item still holds where it is weakened for all lists of places
item_map : (u : Spelling) (items : List Item) (F G : List Place → Type 0) → ((keys : List Place) → F keys → G keys) →
    SomeItem u items F → SomeItem u items G
item_map u [] F G f h = h
item_map u (item ∷ items) F G f (inl h) = inl (f (key_places u (item_tape item)) h)
item_map u (item ∷ items) F G f (inr h) = inr (item_map u items F G f h)

-- what holds of the places of some item of the sources still holds where it is weakened for all lists of places
source_map : (sources : List Source) (F G : List Place → Type 0) → ((keys : List Place) → F keys → G keys) →
    SomeSource sources F → SomeSource sources G
source_map [] F G f h = h
source_map (it ∷ sources) F G f (inl h) = inl (item_map it.spelling it.items F G f h)
source_map (it ∷ sources) F G f (inr h) = inr (source_map sources F G f h)

module _ (S : Names) (differ : Differ S.declared) where
  -- names between items
  record OfFile (scopes : List Scope) (ts rs : List (ℕ × Place)) : Type 0 where
    pub around : Around (IsOfFile S) (IsOfFile S) [] scopes
    pub things : ThingsAre (IsOfFile S) ts
    pub round : ThingsAre (IsOfFile S) rs

  abbrev AtFile : Names → Type 0
  AtFile s = OfFile s.scopes s.things s.round

  file_around : (P Q : Place → Type 0) (scopes : List Scope) → Around (IsOfFile S) P [] scopes →
      Around (IsOfFile S) Q [] scopes
  file_around P Q [] h = absurd h
  file_around P Q (file ∷ []) h = h
  file_around P Q (file ∷ (scope ∷ scopes)) h = absurd h

  begins : (keys : List Place) (u : Spelling) (st : State) → AtFile st.names → Holds S differ keys u [] st
  begins keys u st h = (
    tt,
    tt,
    record {
      around = file_around (IsOfFile S) (IsWithin S keys) st.names.scopes h.around;
      keeps = tt;
      things = h.things;
      round = h.round;
    },
  )

  ends : (keys : List Place) (u : Spelling) (st : State) → Holds S differ keys u [] st → AtFile st.names
  ends keys u st h = record {
    around = file_around (IsWithin S keys) (IsOfFile S) st.names.scopes h.2.around;
    things = h.2.things;
    round = h.2.round;
  }

  abbrev ItemAdds : Spelling → List Item → Names → Names → Type 0
  ItemAdds u items s next =
      Adds (λ it. SomeItem u items (λ keys. UseWithin S differ keys it))
      (λ d. SomeItem u items (λ keys. DeclaredWithin S differ keys d)) s.uses s.declared next.uses next.declared

  abbrev SourceAdds : List Source → Names → Names → Type 0
  SourceAdds sources s next =
      Adds (λ it. SomeSource sources (λ keys. UseWithin S differ keys it))
      (λ d. SomeSource sources (λ keys. DeclaredWithin S differ keys d)) s.uses s.declared next.uses next.declared

  unit_at_file : (unit : ℕ) (s : Names) → AtFile s → AtFile (unit_begun unit s)
  unit_at_file unit s h = record {
    around = tt;
    things = h.things;
    round = by (nat_eq unit 1);
  }
    where
      by : (b : Bool) → ThingsAre (IsOfFile S) (if b then shared s (innermost s.scopes).names else s.round)
      by true = shared_are (IsOfFile S) s (innermost s.scopes).names
          (around_top (IsOfFile S) (IsOfFile S) [] s.scopes h.around)
      by false = h.round

  module _ (bracketed : ItemsAreBracketed) where
    items_next : (u : Spelling) (all : List Lexeme) (items : List Item) (st : State) → All (IsItem all) items →
        Grown (run u (tape_of items) st).names.declared S.declared → AtFile st.names →
        AtFile (run u (tape_of items) st).names × ItemAdds u items st.names (run u (tape_of items) st).names
    items_next u all [] st rules g h = (h, adds_none)
    items_next u all (item ∷ items) st rules g h =
        subst (λ (last : State). AtFile last.names × ItemAdds u (item ∷ items) st.names last.names)
        (sym (run_joined u (item_tape item) (tape_of items) st))
        (joined (items_next u all items next (All-tail (IsItem all) item items rules) later
        (ends keys u next one.0)))
      where
        keys : List Place
        keys = key_places u (item_tape item)

        next : State
        next = run u (item_tape item) st

        later : Grown (run u (tape_of items) next).names.declared S.declared
        later = subst (λ (last : State). Grown last.names.declared S.declared)
            (run_joined u (item_tape item) (tape_of items) st) g

        one : Next S differ keys u [] st next
        one = run_next S differ keys u (function_token item) (item_tape item) [] [] st
            (bracketed item (declares_its all item (All-head (IsItem all) item items rules))) (λ p e. e)
            (then_grown next.names.declared (run u (tape_of items) next).names.declared S.declared
            (run_grown u (tape_of items) next) later) (begins keys u st h)

        joined : AtFile (run u (tape_of items) next).names
            × ItemAdds u items next.names (run u (tape_of items) next).names →
            AtFile (run u (tape_of items) next).names
            × ItemAdds u (item ∷ items) st.names (run u (tape_of items) next).names
        joined (file, adds) = (
          file,
          adds_then st.names.uses next.names.uses (run u (tape_of items) next).names.uses st.names.declared
              next.names.declared (run u (tape_of items) next).names.declared
              (adds_map (λ it k. inl k) (λ d k. inl k) one.1)
              (adds_map (λ it k. inr k) (λ d k. inr k) adds),
        )

    sources_next : (sources : List Source) (s : Names) → All IsSound sources →
        Grown (tapes_named (map tape_of_source sources) s).declared S.declared → AtFile s →
        SourceAdds sources s (tapes_named (map tape_of_source sources) s)
    sources_next [] s sound g h = adds_none
    sources_next (it ∷ sources) s sound g h =
        adds_then s.uses next.uses (tapes_named (map tape_of_source sources) next).uses s.declared next.declared
        (tapes_named (map tape_of_source sources) next).declared (adds_map (λ it k. inl k) (λ d k. inl k) one.1)
        (adds_map (λ it k. inr k) (λ d k. inr k)
        (sources_next sources next (All-tail IsSound it sources sound) g one.0))
      where
        next : Names
        next = tape_named (tape_of_source it) (unit_begun it.spelling.unit s)

        rules : IsSound it
        rules = All-head IsSound it sources sound

        one : AtFile next × ItemAdds it.spelling it.items (unit_begun it.spelling.unit s) next
        one = items_next it.spelling rules.0 it.items (with_names (unit_begun it.spelling.unit s)) rules.1.parts
            (then_grown next.declared (tapes_named (map tape_of_source sources) next).declared S.declared
            (tapes_grown (map tape_of_source sources) next) g) (unit_at_file it.spelling.unit s h)

-- what is found is among all

-- a place whose use means something is that of a use among them, with its property
use_found : (U : NameUse → Type 0) (uses : List NameUse) (p q : Place) → Every U uses → use_at uses p ≡ means q →
    (it : NameUse) × U it × (it.at ≡ p) × (it.use_of ≡ means q)
use_found U [] p q h e = absurd cc
use_found U (it ∷ uses) p q h e = by (is_place it.at p) (place_is it.at p) e (use_found U uses p q h.1)
  where
    by : (b : Bool) → (b ≡ true → it.at ≡ p) → (if b then it.use_of else use_at uses p) ≡ means q →
        (use_at uses p ≡ means q → (it : NameUse) × U it × (it.at ≡ p) × (it.use_of ≡ means q)) →
        (it : NameUse) × U it × (it.at ≡ p) × (it.use_of ≡ means q)
    by true is e next = (it, h.0, is refl, e)
    by false is e next = next e

-- the first declaration at a place has the property that all have
declared_found : (D : Declared → Type 0) (ds : List Declared) (p : Place) (d : Declared) → Every D ds →
    declared_at ds p ≡ Some d → D d
declared_found D [] p d h e = absurd cc
declared_found D (x ∷ ds) p d h e = by (is_place x.at p) e (declared_found D ds p d h.1)
  where
    by : (b : Bool) → (if b then Some x else declared_at ds p) ≡ Some d → (declared_at ds p ≡ Some d → D d) → D d
    by true e next = let same : x ≡ d = cc in subst D same h.0
    by false e next = next e

-- each place is of one item

left_one : {A B : Type 0} (xs ys : List Place) (p : Place) → AreDifferent (xs ++ ys) → has_place xs p ≡ true →
    (B → has_place ys p ≡ true) → A ⊎ B → A
left_one xs ys p d e f (inl a) = a
left_one xs ys p d e f (inr b) = let there = f b in let none = differ_apart xs ys p d e in absurd cc

right_one : {A B : Type 0} (xs ys : List Place) (p : Place) → AreDifferent (xs ++ ys) → has_place ys p ≡ true →
    (A → has_place xs p ≡ true) → A ⊎ B → B
right_one xs ys p d e f (inl a) = let none = differ_apart xs ys p d (f a) in absurd cc
right_one xs ys p d e f (inr b) = b

-- the places of an item, of which p is one
abbrev Has : Place → (List Place → Type 0) → List Place → Type 0
Has p R keys = (has_place keys p ≡ true) × R keys

module _ (p : Place) (R : List Place → Type 0) where
  item_has : (u : Spelling) (items : List Item) → SomeItem u items (Has p R) →
      has_place (key_places u (tape_of items)) p ≡ true
  item_has u [] h = absurd h
  item_has u (item ∷ items) (inl k) =
      subst (λ (ps : List Place). has_place ps p ≡ true) (sym (keys_joined u (item_tape item) (tape_of items)))
      (has_left (key_places u (item_tape item)) (key_places u (tape_of items)) p k.0)
  item_has u (item ∷ items) (inr k) =
      subst (λ (ps : List Place). has_place ps p ≡ true) (sym (keys_joined u (item_tape item) (tape_of items)))
      (has_right (key_places u (item_tape item)) (key_places u (tape_of items)) p (item_has u items k))

  source_has : (sources : List Source) → SomeSource sources (Has p R) → has_place (keys_among sources) p ≡ true
  source_has [] h = absurd h
  source_has (it ∷ sources) (inl k) =
      has_left (key_places it.spelling (tape_of it.items)) (keys_among sources) p (item_has it.spelling it.items k)
  source_has (it ∷ sources) (inr k) =
      has_right (key_places it.spelling (tape_of it.items)) (keys_among sources) p (source_has sources k)

module _ (S : Names) where
  -- each use and declaration at these places is of some of the items, and within it
  record Found (keys : List Place) (Some_of : (List Place → Type 0) → Type 0) : Type 0 where
    pub uses : (p q : Place) → has_place keys p ≡ true → use_at S.uses p ≡ means q →
        Some_of (Has p (λ here. IsWithin S here q))
    pub firsts : (p : Place) (d : Declared) → has_place keys p ≡ true → declared_at S.declared p ≡ Some d →
        Some_of (Has p (λ here. IsWithin S here d.first))

  items_stay : (u : Spelling) (items : List Item) → AreDifferent (key_places u (tape_of items)) →
      Found (key_places u (tape_of items)) (SomeItem u items) → ItemsStay u S items
  items_stay u [] d h = tt
  items_stay u (item ∷ items) d h = (
    record {
      uses = λ p q e f. (left_one here later p apart e (item_has p (λ ps. IsWithin S ps q) u items)
          (h.uses p q (inside p (has_left here later p e)) f)).1;
      firsts = λ p it e f. (left_one here later p apart e (item_has p (λ ps. IsWithin S ps it.first) u items)
          (h.firsts p it (inside p (has_left here later p e)) f)).1;
    },
    items_stay u items (differ_right here later apart) (record {
      uses = λ p q e f. right_one here later p apart e (λ k. k.0) (h.uses p q (inside p (has_right here later p e)) f);
      firsts = λ p it e f. right_one here later p apart e (λ k. k.0)
          (h.firsts p it (inside p (has_right here later p e)) f);
    }),
  )
    where
      here : List Place
      here = key_places u (item_tape item)

      later : List Place
      later = key_places u (tape_of items)

      apart : AreDifferent (here ++ later)
      apart = subst AreDifferent (keys_joined u (item_tape item) (tape_of items)) d

      inside : (p : Place) → has_place (here ++ later) p ≡ true →
          has_place (key_places u (tape_of (item ∷ items))) p ≡ true
      inside p e =
          subst (λ (ps : List Place). has_place ps p ≡ true) (sym (keys_joined u (item_tape item) (tape_of items))) e

  sources_stay : (sources : List Source) → AreDifferent (keys_among sources) →
      Found (keys_among sources) (SomeSource sources) → SourcesStay S sources
  sources_stay [] d h = tt
  sources_stay (it ∷ sources) d h = (
    items_stay it.spelling it.items (differ_left here later d) (record {
      uses = λ p q e f. left_one here later p d e (source_has p (λ ps. IsWithin S ps q) sources)
          (h.uses p q (has_left here later p e) f);
      firsts = λ p it e f. left_one here later p d e (source_has p (λ ps. IsWithin S ps it.first) sources)
          (h.firsts p it (has_left here later p e) f);
    }),
    sources_stay sources (differ_right here later d) (record {
      uses = λ p q e f. right_one here later p d e (item_has p (λ ps. IsWithin S ps q) it.spelling it.items)
          (h.uses p q (has_right here later p e) f);
      firsts = λ p x e f. right_one here later p d e (item_has p (λ ps. IsWithin S ps x.first) it.spelling it.items)
          (h.firsts p x (has_right here later p e) f);
    }),
  )
    where
      here : List Place
      here = key_places it.spelling (tape_of it.items)

      later : List Place
      later = keys_among sources

-- what names mean stays in the item or is of the file, where each place is that of one op alone
pub names_stay : NamesOfTapes → ItemsAreBracketed → NamesStay
names_stay named bracketed sources sound apart =
    subst (λ (it : Names). SourcesStay it sources) (named sources sound)
    (sources_stay S sources apart (record { uses = λ p q e f. used p q f; firsts = λ p d e f. declared p d f }))
  where
    S : Names
    S = tapes_named (map tape_of_source sources) no_names

    differ : Differ S.declared
    differ = declared_differ sources S apart refl

    adds : SourceAdds S differ sources no_names S
    adds = sources_next S differ bracketed sources no_names sound (same S.declared S.declared refl)
        (record { around = tt; things = tt; round = tt })

    used : (p q : Place) → use_at S.uses p ≡ means q → SomeSource sources (Has p (λ keys. IsWithin S keys q))
    used p q e =
        let it = use_found (λ it. SomeSource sources (λ keys. UseWithin S differ keys it)) adds.uses p q adds.uses_are
        (ap (λ (uses : List NameUse). use_at uses p) (sym adds.uses_is) ∙ e) in
        source_map sources (λ keys. UseWithin S differ keys it.0) (Has p (λ keys. IsWithin S keys q))
        (λ keys k. (
          subst (λ (at : Place). has_place keys at ≡ true) it.2 k.0,
          subst (UseIs (IsWithin S keys)) it.3 k.1,
        ))
        it.1

    declared : (p : Place) (d : Declared) → declared_at S.declared p ≡ Some d →
        SomeSource sources (Has p (λ keys. IsWithin S keys d.first))
    declared p d e =
        source_map sources (λ keys. DeclaredWithin S differ keys d) (Has p (λ keys. IsWithin S keys d.first))
        (λ keys k. (
          subst (λ (at : Place). has_place keys at ≡ true) (declared_place S.declared p d e) k.0,
          k.1,
        ))
        (declared_found
        (λ d. SomeSource sources (λ keys. DeclaredWithin S differ keys d)) adds.more p d adds.declared_are
        (ap (λ (ds : List Declared). declared_at ds p) (sym adds.declared_is) ∙ e))
