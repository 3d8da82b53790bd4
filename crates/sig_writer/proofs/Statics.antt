-- A table of `static`, by one more.
use Rattle.std.proofs.Common.{◌≡◌, ℕ, ◌+◌, ◌<◌, ◌||◌, Bool, true, false, cond, List, length, take, reverse, slice_index_or, Option, Some, is_some, refl, sym, ◌∙◌, ap}
use Rattle.std.specs.HashMap.{get}
use Rattle.name_rules.specs.Spellings.{Place}
use Rattle.name_rules.specs.Scopes.{is_place}
use Rattle.name_rules.specs.Linking.{is_internal}
use Rattle.name_state.specs.NameLinks.Tables.{StaticSet, AreStatics}
use Rattle.sig_writer.proofs.Taken.{one_reversed}

by_test : (b : Bool) (value : Unit {0}) (o : Option (Unit {0})) (rest : Bool) → is_some o ≡ rest
    → is_some (cond b (Some value) o) ≡ b || rest
by_test true value o rest is = refl
by_test false value o rest is = is

-- one entry more of the table of `static` keeps it the table of the entries so far, the newest first
pub static_added : (all : List (ℕ × ℕ)) (i : ℕ) (it : ℕ × ℕ) (before after : StaticSet) (value : Unit {0})
    → it ≡ slice_index_or all i it → i < length all → AreStatics (reverse (take i all)) before
    → ((q : Place) → get is_place after q ≡ cond (is_place it q) (Some value) (get is_place before q))
    → AreStatics (reverse (take (i + 1) all)) after
static_added all i it before after value is lt known set = λ unit name.
    ap is_some (set (unit, name))
    ∙ by_test (is_place it (unit, name)) value (get is_place before (unit, name))
    (is_internal (reverse (take i all)) unit name)
    (known unit name)
    ∙ ap (λ (them : List (ℕ × ℕ)). is_internal them unit name) (sym (one_reversed all i it is lt))
