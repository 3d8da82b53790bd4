-- What names mean stays in the item: what a name in an item of a unit means is declared in that item, or is of the
-- file.
use Rattle.std.specs.Prelude.{◌≡◌, ◌⊎◌, true, All, List, [], ◌∷◌, None, Some}
use Rattle.c_tree.specs.Unit.{Item}
use Rattle.c_tape.specs.Tape.{item_tape}
use Rattle.name_rules.specs.Spellings.{Spelling, Place}
use Rattle.name_rules.specs.Scopes.{function_role, Declared, declared_at, means, Names}
use Rattle.name_rules.specs.Uses.{use_at}
use Rattle.type_rules.specs.Program.{Source, names_of}
use Rattle.row_rules.specs.Sites.{has_place, AreDifferent}
use Rattle.resolve_laws.specs.NameLaws.NameLaws.{IsSound}
use Rattle.row_laws.specs.KeyLaws.Keys.{key_places}
use Rattle.row_laws.specs.KeyLaws.Differing.{keys_among}

-- what is declared at the place is a function, or belongs to nobody
abbrev pub IsOfFile : Names → Place → Type 0
IsOfFile s q = (d : Declared) → declared_at s.declared q ≡ Some d → (d.role ≡ function_role) ⊎ (d.owner ≡ None)

-- the place is one of these, or what is declared there is of the file
abbrev pub IsWithin : Names → List Place → Place → Type 0
IsWithin s keys q = (has_place keys q ≡ true) ⊎ IsOfFile s q

-- names that are used at these places, and declarations at them, mean what is declared at these places, or what is of
-- the file
pub record AreWithin (u : Spelling) (s : Names) (keys : List Place) : Type 0 where
  pub uses : (p q : Place) → has_place keys p ≡ true → use_at s.uses p ≡ means q → IsWithin s keys q
  pub firsts : (p : Place) (d : Declared) → has_place keys p ≡ true → declared_at s.declared p ≡ Some d →
      IsWithin s keys d.first

-- what names mean stays in each item of a unit
abbrev pub ItemsStay : Spelling → Names → List Item → Type 0
ItemsStay u s [] = Unit {0}
ItemsStay u s (item ∷ items) = AreWithin u s (key_places u (item_tape item)) × ItemsStay u s items

-- what names mean stays in each item of each unit
abbrev pub SourcesStay : Names → List Source → Type 0
SourcesStay s [] = Unit {0}
SourcesStay s (it ∷ sources) = ItemsStay it.spelling s it.items × SourcesStay s sources

-- the law: what names mean stays in the item, where each place is that of one op alone
abbrev pub NamesStay : Type 0
NamesStay =
    (sources : List Source) → All IsSound sources → AreDifferent (keys_among sources)
    → SourcesStay (names_of sources) sources
