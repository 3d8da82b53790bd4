-- A use of a name, fact by fact.
use Rattle.std.proofs.Common.{◌≡◌, Bool, [], ◌∷◌, ◌++◌, ◌∙◌, ap}
use Rattle.name_rules.specs.Spellings.{Place}
use Rattle.name_rules.specs.Scopes.{Use, Names, with_faults}
use Rattle.name_rules.specs.Faults.{undeclared, fault_where}
use Rattle.name_rules.specs.Declaring.{is_missing, used_as}

-- a use that is added, and then is at fault where it has no meaning, is what the rules make of it
pub used_is : (s middle after : Names) (at : Place) (it : Use) (fails : Bool) → fails ≡ is_missing it
    → middle ≡ record s { uses = s.uses ++ record { at = at; use_of = it } ∷ [] } → after
    ≡ with_faults (fault_where fails at undeclared) middle → after ≡ used_as at it s
used_is s middle after at it fails missing one two =
    two ∙ ap (λ b. with_faults (fault_where b at undeclared) middle) missing
    ∙ ap (with_faults (fault_where (is_missing it) at undeclared)) one
