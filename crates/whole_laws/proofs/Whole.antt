-- No two declarations, uses of names or skeletons of units that were read are at one place.
use Rattle.std.proofs.Common.{◌≡◌, Bool, true, false, List, [], ◌∷◌, None, Some, refl}
use Rattle.std.specs.Prelude.{if◌then◌else◌}
use Rattle.name_rules.specs.Spellings.{Place}
use Rattle.name_rules.specs.Scopes.{Declared, declared_at, is_place}
use Rattle.type_rules.specs.Program.{names_of}
use Rattle.resolve_laws.specs.NameLaws.NameLaws.{NamesOfTapes}
use Rattle.row_rules.specs.Sites.{AreDifferent, has_place}
use Rattle.name_rules.specs.MeaningLaws.Meanings.{Differ}
use Rattle.row_laws.specs.StartLaws.Laws.{SelectionsOfProgramAreFound, StartsOfProgramAreFound}
use Rattle.row_laws.specs.KeyLaws.Differing.{KeysDiffer, keys_among}
use Rattle.row_laws.proofs.KeyLaws.Sound.{sound_of}
use Rattle.owned_laws.specs.ScopeLaws.Apart.{DeclarationsDiffer}
use Rattle.missing_laws.specs.Programs.{declared_places}
use Rattle.whole_laws.specs.Programs.{PlacesOfReadDiffer}
use Rattle.whole_laws.proofs.Selections.{selections_differ}
use Rattle.whole_laws.proofs.Starts.{starts_differ}
use Rattle.whole_laws.proofs.Uses.{uses_differ}

-- where nothing is declared at a place, it is not among the places of the declarations
none_declared : (ds : List Declared) (p : Place) → declared_at ds p ≡ None → has_place (declared_places ds) p ≡ false
none_declared [] p e = refl
none_declared (d ∷ ds) p e = by (is_place d.at p) e (none_declared ds p)
  where
    by : (b : Bool) → (if b then Some d else declared_at ds p) ≡ None →
        (declared_at ds p ≡ None → has_place (declared_places ds) p ≡ false) →
        (if b then true else has_place (declared_places ds) p) ≡ false
    by true e more = absurd cc
    by false e more = more e

declared_differ : (ds : List Declared) → Differ ds → AreDifferent (declared_places ds)
declared_differ [] h = tt
declared_differ (d ∷ ds) h = (none_declared ds d.at h.0, declared_differ ds h.1)

-- no two declarations, uses, skeletons or selections of units that were read are at one place, by the laws of tapes
pub places_differ : KeysDiffer → NamesOfTapes → DeclarationsDiffer → StartsOfProgramAreFound
    → SelectionsOfProgramAreFound →
    PlacesOfReadDiffer
places_differ keys names declarations starts selections sources read units =
    let sound = sound_of sources read in
    let differ : AreDifferent (keys_among sources) = keys sources read units in
    record {
      declared = declared_differ (names_of sources).declared (declarations sources sound differ);
      uses = uses_differ names sources sound differ;
      starts = starts_differ starts sources sound differ;
      selections = selections_differ selections sources differ;
    }
