-- Each function has a skeleton.
use Rattle.std.specs.Prelude.{◌≡◌, List, None, Some}
use Rattle.name_rules.specs.Spellings.{Place}
use Rattle.name_rules.specs.Scopes.{function_role, Declared, declared_at, Names}
use Rattle.row_rules.specs.Starting.{Start}
use Rattle.owned_laws.specs.OwnerLaws.Fitting.{start_at}

-- each function that belongs to itself has a skeleton
abbrev pub FunctionsBegin : List Start → Names → Type 0
FunctionsBegin starts s =
    (p : Place) (d : Declared) → declared_at s.declared p ≡ Some d → d.role ≡ function_role → d.owner ≡ Some d.at
    → start_at starts d.at ≡ None → ⊥
