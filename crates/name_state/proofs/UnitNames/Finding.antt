-- What is found by the number of the first, or by a name, is what the rules find.
use Rattle.std.proofs.Common.{◌≡◌, ℕ, zero, suc, nat_eq, Bool, true, false, List, [], ◌∷◌, map, Option, Some, None, option_map, refl, ◌∙◌, ap, if◌then◌else◌}
use Rattle.type_table.specs.Types.{CType}
use Rattle.name_rules.specs.Spellings.{Place}
use Rattle.name_rules.specs.Scopes as rules
use Rattle.name_rules.specs.Uses.{use_at, type_named_at}
use Rattle.name_rules.specs.Values.{known_named, member_in}
use Rattle.name_tables.specs.declared.name_records.records.NameUse.{NameUse}
use Rattle.name_tables.specs.declared.name_records.records.TypeNamed.{TypeNamed}
use Rattle.name_tables.specs.declared.name_records.body.Known.{Known}
use Rattle.name_tables.specs.declared.name_records.aggregates.Aggregate.{Aggregate}
use Rattle.name_tables.specs.NameRecords.Bodies.{OneBody, or_empty}
use Rattle.name_tables.specs.NameRecords.Aggregates.{known_at}
use Rattle.name_tables.specs.NameRecords.Found.{first_use, first_type, member_named}
use Rattle.name_state.specs.UnitNames.Shown.{use_of, name_use_of, type_named_of, known_of, body_of, aggregate_of}

abbrev pub use_or_missing : Option NameUse → rules.Use
use_or_missing None = rules.missing
use_or_missing (Some it) = use_of it.use_of

-- the first use at a place, or a missing one, is the use that the rules find there
use_first : (us : List NameUse) (at : Place) → use_or_missing (first_use us at) ≡ use_at (map name_use_of us) at
use_first [] at = refl
use_first (u ∷ us) at = by_test (rules.is_place u.at at) (use_first us at)
  where
    by_test : (b : Bool) → use_or_missing (first_use us at) ≡ use_at (map name_use_of us) at
        → use_or_missing (if b then Some u else first_use us at)
        ≡ (if b then use_of u.use_of else use_at (map name_use_of us) at)
    by_test true is = refl
    by_test false is = is

pub use_found : (us : List NameUse) (at : Place) (o : Option NameUse) → o ≡ first_use us at →
    use_or_missing o ≡ use_at (map name_use_of us) at
use_found us at o is = ap use_or_missing is ∙ use_first us at

-- the type of the first type's name at a place is the one that the rules find there
type_first : (t : ℕ → CType) (ts : List TypeNamed) (at : Place)
    → option_map t (first_type ts at) ≡ type_named_at (map (type_named_of t) ts) at
type_first t [] at = refl
type_first t (n ∷ ts) at = by_test (rules.is_place n.at at) (type_first t ts at)
  where
    by_test : (b : Bool) → option_map t (first_type ts at) ≡ type_named_at (map (type_named_of t) ts) at
        → option_map t (if b then Some n.ty else first_type ts at)
        ≡ (if b then Some (t n.ty) else type_named_at (map (type_named_of t) ts) at)
    by_test true is = refl
    by_test false is = is

-- a type's name that is found is the one that the rules find
pub type_found : (t : ℕ → CType) (ts : List TypeNamed) (at : Place) (o : Option ℕ) → o ≡ first_type ts at →
    option_map t o ≡ type_named_at (map (type_named_of t) ts) at
type_found t ts at o is = ap (option_map t) is ∙ type_first t ts at

module _ (t : ℕ → CType) where
  known_found : (known : List Known) (name : ℕ)
      → option_map (known_of t) (member_named known name) ≡ known_named (map (known_of t) known) name
  known_found [] name = refl
  known_found (k ∷ known) name = by_test (nat_eq k.name name) (known_found known name)
    where
      by_test : (b : Bool)
          → option_map (known_of t) (member_named known name) ≡ known_named (map (known_of t) known) name
          → option_map (known_of t) (if b then Some k else member_named known name)
          ≡ (if b then Some (known_of t k) else known_named (map (known_of t) known) name)
      by_test true is = refl
      by_test false is = is

  of_body : (body : Option OneBody) (name : ℕ) → known_named (map (known_of t) (or_empty body).known) name
      ≡ member_in (option_map (body_of t) body) name
  of_body None name = refl
  of_body (Some body) name = refl

  member_first : (all : List Aggregate) (n name : ℕ) → option_map (known_of t) (member_named (known_at all n) name)
      ≡ member_in (rules.body_of (map (aggregate_of t) all) n) name
  member_first [] zero name = refl
  member_first [] (suc n) name = refl
  member_first (it ∷ all) zero name = known_found (or_empty it.body).known name ∙ of_body it.body name
  member_first (it ∷ all) (suc n) name = member_first all n name

  -- a member that is found is the one that the rules find
  pub member_found : (all : List Aggregate) (n name : ℕ) (o : Option Known) → o ≡ member_named (known_at all n) name →
      option_map (known_of t) o ≡ member_in (rules.body_of (map (aggregate_of t) all) n) name
  member_found all n name o is = ap (option_map (known_of t)) is ∙ member_first all n name
