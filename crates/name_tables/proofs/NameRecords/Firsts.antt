-- The first declaration, use or type's name of a place, as they come.
use Rattle.std.proofs.Common.{◌≡◌, ℕ, List, [], ◌∷◌, ◌++◌, Bool, true, false, Option, Some, length, refl, sym, ◌∙◌, ap, if◌then◌else◌}
use Rattle.name_rules.specs.Spellings.{Place}
use Rattle.name_rules.specs.Scopes.{is_place}
use Rattle.name_tables.specs.declared.place_map.index.PlaceIndex.{PlaceIndex}
use Rattle.name_tables.specs.declared.place_map.map.PlaceMap.{PlaceMap}
use Rattle.name_tables.specs.PlaceMap.Values.{number_at, value_at, or_else, there}
use Rattle.name_tables.specs.PlaceMap.Firsts.{first_item, item_of, AreFirst}
use Rattle.name_tables.proofs.PlaceMap.Firsts.{item_is, first_next}
use Rattle.name_tables.specs.declared.name_records.declarations.Declared.{Declared}
use Rattle.name_tables.specs.declared.name_records.records.NameUse.{NameUse}
use Rattle.name_tables.specs.declared.name_records.records.TypeNamed.{TypeNamed}
use Rattle.name_tables.specs.NameRecords.Records.{declared_place, first_declared}
use Rattle.name_tables.specs.NameRecords.Found.{use_place, first_use, first_type, AreFirstTypes}

first_is : (ds : List Declared) (at : Place) → first_item declared_place ds at ≡ first_declared ds at
first_is [] at = refl
first_is (d ∷ ds) at = ap (λ (o : Option Declared). if is_place d.at at then Some d else o) (first_is ds at)

-- the declaration whose number is found
pub declared_found : (ds : List Declared) (first : PlaceIndex) (at : Place) (o : Option ℕ)
    → AreFirst declared_place ds first
    → o ≡ number_at first at → item_of ds o ≡ first_declared ds at
declared_found ds first at o numbered is =
    ap (item_of ds) (is ∙ numbered.same at) ∙ item_is declared_place ds at ∙ first_is ds at

-- a declaration that is pushed has its number added
pub one_more : (ds new : List Declared) (d : Declared) (n : ℕ) (before after : PlaceIndex)
    → AreFirst declared_place ds before
    → new ≡ ds ++ d ∷ [] → n ≡ length ds
    → ((p : Place) → number_at after p ≡ or_else (number_at before p) (there d.at n p))
    → AreFirst declared_place new after
one_more ds new d n before after first is at added = first_next declared_place ds new d n before after first is at added

use_is : (us : List NameUse) (at : Place) → first_item use_place us at ≡ first_use us at
use_is [] at = refl
use_is (u ∷ us) at = ap (λ (o : Option NameUse). if is_place u.at at then Some u else o) (use_is us at)

-- the use whose number is found
pub use_found : (us : List NameUse) (first : PlaceIndex) (at : Place) (o : Option ℕ) → AreFirst use_place us first
    → o ≡ number_at first at → item_of us o ≡ first_use us at
use_found us first at o numbered is =
    ap (item_of us) (is ∙ numbered.same at) ∙ item_is use_place us at ∙ use_is us at

pub use_more : (us new : List NameUse) (u : NameUse) (n : ℕ) (before after : PlaceIndex) → AreFirst use_place us before
    → new ≡ us ++ u ∷ [] → n ≡ length us
    → ((p : Place) → number_at after p ≡ or_else (number_at before p) (there u.at n p)) → AreFirst use_place new after
use_more us new u n before after first is at added = first_next use_place us new u n before after first is at added

-- one more type's name at the end is the first at its place only where there was none
type_behind : (ts : List TypeNamed) (t : TypeNamed) (p : Place) →
    first_type (ts ++ t ∷ []) p ≡ or_else (first_type ts p) (there t.at t.ty p)
type_behind [] t p = refl
type_behind (it ∷ ts) t p = by (type_behind ts t p) (is_place it.at p) where
  by : first_type (ts ++ t ∷ []) p ≡ or_else (first_type ts p) (there t.at t.ty p) → (b : Bool) →
      (if b then Some it.ty else first_type (ts ++ t ∷ []) p) ≡
      or_else (if b then Some it.ty else first_type ts p) (there t.at t.ty p)
  by h true = refl
  by h false = h

-- a type's name that is pushed is added
pub type_more : (ts new : List TypeNamed) (t : TypeNamed) (before after : PlaceMap ℕ) → AreFirstTypes ts before
    → new ≡ ts ++ t ∷ []
    → ((p : Place) → value_at after p ≡ or_else (value_at before p) (there t.at t.ty p)) → AreFirstTypes new after
type_more ts new t before after first is added = record {
  same = λ p. added p ∙ ap (λ (o : Option ℕ). or_else o (there t.at t.ty p)) (first.same p) ∙
      sym (type_behind ts t p) ∙ ap (λ (l : List TypeNamed). first_type l p) (sym is);
}
