-- What is known by a key, against the definitions that have it.
use Rattle.std.proofs.Common.{◌≡◌, ℕ, zero, suc, ◌+◌, arith, Bool, true, false, not, ◌&&◌, ◌||◌, nat_eq, List, [], ◌∷◌, map, slice_get, Option, Some, None, is_some, option_map, inl, inr, refl, sym, ◌∙◌, ap, if◌then◌else◌}
use Rattle.std.proofs.lemmas.Bool.Decides.{eqb_tells}
use Rattle.std.proofs.lemmas.Option.{same_Some}
use Rattle.qual_base.proofs.Tests.{and_false, or_false}
use Rattle.type_table.specs.Types.{CType}
use Rattle.name_rules.specs.Scopes as rules
use Rattle.name_rules.specs.Linking.{is_same_key, is_key, defines, is_elsewhere}
use Rattle.name_tables.specs.declared.name_records.aggregates.StructKey.{StructKey}
use Rattle.name_tables.specs.declared.name_records.aggregates.Aggregate.{Aggregate}
use Rattle.name_tables.specs.NameRecords.Bodies.{OneBody}
use Rattle.name_state.specs.UnitNames.Shown.{key_of, body_of, aggregate_of}
use Rattle.name_state.specs.declared.name_links.keys.Shared.{Shared}
use Rattle.name_state.specs.NameLinks.Tables.{with_unit, key_held, is_keyed_by, known_behind}
use Rattle.name_state.proofs.NameLinks.Tests.{and_true, or_true, or_assoc, number_sym, key_sym, key_is}

module _ (t : ℕ → CType) where
  held_by : (key : rules.StructKey) (held : Option StructKey) (body : Option OneBody) (in_source : Bool)
      → is_keyed_by key (if is_some body && in_source then held else None)
      ≡ is_key key (option_map key_of held) && (rules.has_body (option_map (body_of t) body) && in_source)
  held_by key None None in_source = refl
  held_by key None (Some body) true = refl
  held_by key None (Some body) false = refl
  held_by key (Some other) None in_source = sym (and_false (is_same_key key (key_of other)))
  held_by key (Some other) (Some body) false = sym (and_false (is_same_key key (key_of other)))
  held_by key (Some other) (Some body) true =
      key_sym (key_of other) key ∙ sym (and_true (is_same_key key (key_of other)))

  -- whether a definition has a key
  pub held_is : (key : rules.StructKey) (it : Aggregate)
      → is_keyed_by key (key_held it) ≡ defines key (aggregate_of t it)
  held_is key it = held_by key it.key it.body (not (nat_eq it.at.0 0))

  -- whether another source has one too
  abbrev pub others_have : ℕ → rules.StructKey → List Aggregate → Bool
  others_have unit key all = is_elsewhere unit key (map (aggregate_of t) all)

  -- where a key has a definition, further ones say only whether they are elsewhere
  pub known_some : (key : rules.StructKey) (s : Shared) (n : ℕ) (all : List Aggregate)
      → known_behind key (Some s) n all
      ≡ Some (record s { is_elsewhere = s.is_elsewhere || others_have s.unit key all })
  known_some key s n [] =
      ap (λ (b : Bool). Some (let r : Shared = record s { is_elsewhere = b } in r)) (sym (or_false s.is_elsewhere))
  known_some key s n (it ∷ all) =
      by_test (is_keyed_by key (key_held it)) (λ more. known_some key more (suc n) all)
      ∙ ap (λ (b : Bool). Some (let r : Shared = record s {
        is_elsewhere = s.is_elsewhere || ((b && not (nat_eq it.at.0 s.unit)) || others_have s.unit key all);
      } in r)) (held_is key it)
    where
      by_test : (b : Bool)
          → ((more : Shared) → known_behind key (Some more) (suc n) all
          ≡ Some (record more { is_elsewhere = more.is_elsewhere || others_have more.unit key all }))
          → known_behind key (if b then Some (with_unit (Some s) n it.at.0) else Some s) (suc n) all
          ≡ Some (record s
          { is_elsewhere = s.is_elsewhere || ((b && not (nat_eq it.at.0 s.unit)) || others_have s.unit key all) })
      by_test false behind = behind s
      by_test true behind =
          behind (with_unit (Some s) n it.at.0)
          ∙ ap (λ (b : Bool). Some (let r : Shared = record s { is_elsewhere = b } in r))
          (or_assoc s.is_elsewhere (not (nat_eq s.unit it.at.0)) (others_have s.unit key all)
          ∙ ap (λ b. s.is_elsewhere || (not b || others_have s.unit key all)) (number_sym s.unit it.at.0))

  -- the first definition of a key is at its number
  abbrev Holder : ℕ → List Aggregate → rules.StructKey → Shared → Type 0
  Holder n all key s =
      (i : ℕ) × (it : Aggregate) × (slice_get all i ≡ Some it) × (s.first ≡ n + i)
      × (is_keyed_by key (key_held it) ≡ true)

  abbrev first_of_some : Option Shared → ℕ
  first_of_some None = 0
  first_of_some (Some s) = s.first

  holder : (key : rules.StructKey) (n : ℕ) (all : List Aggregate) (s : Shared) → known_behind key None n all ≡ Some s
      → Holder n all key s
  holder key n [] s is = absurd cc
  holder key n (it ∷ all) s is =
      by_test (is_keyed_by key (key_held it)) refl is (λ behind. holder key (suc n) all s behind)
    where
      by_test : (b : Bool) → is_keyed_by key (key_held it) ≡ b
          → known_behind key (if b then Some (with_unit None n it.at.0) else None) (suc n) all ≡ Some s
          → (known_behind key None (suc n) all ≡ Some s → Holder (suc n) all key s) → Holder n (it ∷ all) key s
      by_test true holds is behind =
          let first : n ≡ s.first =
          ap first_of_some (sym (known_some key (with_unit None n it.at.0) (suc n) all) ∙ is) in
          (0, it, refl, omega (arith, first), holds)
      by_test false other is behind =
          let found = behind is in
          (suc found.0, found.1, found.2, omega (arith, found.3), found.4)

  same_holder : (a b : rules.StructKey) (held : Option StructKey) → is_keyed_by a held ≡ true
      → is_keyed_by b held ≡ true → a ≡ b
  same_holder a b None first second = absurd cc
  same_holder a b (Some key) first second = sym (key_is (key_of key) a first) ∙ key_is (key_of key) b second

  -- keys are apart by the numbers of their first definitions
  pub one_key : (all : List Aggregate) (a b : rules.StructKey) (s u : Shared) → known_behind a None 0 all ≡ Some s
      → known_behind b None 0 all ≡ Some u → s.first ≡ u.first → a ≡ b
  one_key all a b s u first second same =
      let x = holder a 0 all s first in
      let y = holder b 0 all u second in
      let number : x.0 ≡ y.0 = omega (arith, x.3, y.3, same) in
      let it_is : x.1 ≡ y.1 = same_Some x.1 y.1 (sym x.2 ∙ ap (λ (i : ℕ). slice_get all i) number ∙ y.2) in
      same_holder a b (key_held x.1) x.4 (ap (λ (it : Aggregate). is_keyed_by b (key_held it)) it_is ∙ y.4)

  -- a definition in another unit is elsewhere
  elsewhere_by : (key : rules.StructKey) (unit : ℕ) (it : Aggregate) → is_keyed_by key (key_held it) ≡ true
      → nat_eq it.at.0 unit ≡ false → (all : List Aggregate) (i : ℕ) → slice_get all i ≡ Some it
      → others_have unit key all ≡ true
  elsewhere_by key unit it holds apart [] i there = absurd cc
  elsewhere_by key unit it holds apart (x ∷ all) zero there =
      ap (λ (y : Aggregate). (defines key (aggregate_of t y) && not (nat_eq y.at.0 unit)) || others_have unit key all)
      (same_Some x it there)
      ∙ ap (λ b. (b && not (nat_eq it.at.0 unit)) || others_have unit key all) (sym (held_is key it) ∙ holds)
      ∙ ap (λ b. not b || others_have unit key all) apart
  elsewhere_by key unit it holds apart (x ∷ all) (suc i) there =
      ap (λ b. (defines key (aggregate_of t x) && not (nat_eq x.at.0 unit)) || b)
      (elsewhere_by key unit it holds apart all i there)
      ∙ or_true (defines key (aggregate_of t x) && not (nat_eq x.at.0 unit))

  -- what is known by the key of a definition
  abbrev pub Known : ℕ → List Aggregate → rules.StructKey → Aggregate → Type 0
  Known n all key it =
      (s : Shared) × (known_behind key None n all ≡ Some s) × (s.is_elsewhere ≡ others_have it.at.0 key all)

  pub known_here : (key : rules.StructKey) (it : Aggregate) → is_keyed_by key (key_held it) ≡ true
      → (n : ℕ) (all : List Aggregate)
      (i : ℕ) → slice_get all i ≡ Some it → Known n all key it
  known_here key it holds n [] i there = absurd cc
  known_here key it holds n (x ∷ all) i there =
      by_test (is_keyed_by key (key_held x)) refl i there (λ j. known_here key it holds (suc n) all j)
    where
      of_first : (j : ℕ) → slice_get (x ∷ all) j ≡ Some it → nat_eq x.at.0 it.at.0 ≡ false
          → others_have x.at.0 key all ≡ true
      of_first zero there apart =
          absurd (let no : true ≡ false = sym (same_unit (same_Some x it there)) ∙ apart in cc)
        where
          same_unit : x ≡ it → nat_eq x.at.0 it.at.0 ≡ true
          same_unit is = elim (eqb_tells x.at.0 it.at.0) [
            | inl same ↦ same.0
            | inr other ↦ absurd (other.1 (ap (λ (y : Aggregate). y.at.0) is))
          ]
      of_first (suc j) there apart = elsewhere_by key x.at.0 it holds (number_sym it.at.0 x.at.0 ∙ apart) all j there

      same_others : (j : ℕ) → slice_get (x ∷ all) j ≡ Some it
          → others_have x.at.0 key all ≡ not (nat_eq x.at.0 it.at.0) || others_have it.at.0 key all
      same_others j there = elim (eqb_tells x.at.0 it.at.0) [
        | inl same ↦ ap (λ (u : ℕ). others_have u key all) same.1
            ∙ ap (λ b. not b || others_have it.at.0 key all) (sym same.0)
        | inr other ↦ of_first j there other.0 ∙ ap (λ b. not b || others_have it.at.0 key all) (sym other.0)
      ]

      by_test : (b : Bool) → is_keyed_by key (key_held x) ≡ b → (j : ℕ) → slice_get (x ∷ all) j ≡ Some it
          → ((k : ℕ) → slice_get all k ≡ Some it → Known (suc n) all key it) → Known n (x ∷ all) key it
      by_test true is j there behind = (
        record { first = n; unit = x.at.0; is_elsewhere = others_have x.at.0 key all },
        ap (λ b. known_behind key (if b then Some (with_unit None n x.at.0) else None) (suc n) all) is
            ∙ known_some key (with_unit None n x.at.0) (suc n) all,
        same_others j there
            ∙ ap (λ b. (b && not (nat_eq x.at.0 it.at.0)) || others_have it.at.0 key all) (sym is ∙ held_is key x),
      )
      by_test false is zero there behind =
          absurd (let no : false ≡ true =
          sym is ∙ ap (λ (y : Aggregate). is_keyed_by key (key_held y)) (same_Some x it there)
          ∙ holds in cc)
      by_test false is (suc j) there behind =
          let found = behind j there in (
            found.0,
            ap (λ b. known_behind key (if b then Some (with_unit None n x.at.0) else None) (suc n) all) is ∙ found.1,
            found.2 ∙ ap (λ b. (b && not (nat_eq x.at.0 it.at.0)) || others_have it.at.0 key all)
                (sym is ∙ held_is key x),
          )
