-- The candidates of a selection, one association after the other.
use Rattle.std.specs.Prelude.{Bool, true, false, not, ◌||◌, List, [], ◌∷◌, ◌++◌, Option}
use Rattle.type_table.specs.Types.{CType}
use Rattle.name_rules.specs.Values.{Candidate, Association, is_of_type}

-- the candidates so far, and behind them one more, where it is one
abbrev pub with_candidate : Bool → List Candidate → Candidate → List Candidate
with_candidate true all it = all ++ it ∷ []
with_candidate false all it = all

-- behind some candidates those of further associations, by whether some association is of the control's type
abbrev pub picked_on : Bool → Option CType → List Candidate → List Association → List Candidate
picked_on has_some t all [] = all
picked_on has_some t all (it ∷ others) =
    picked_on has_some t (with_candidate (not has_some || is_of_type t it.type) all it.candidate) others
