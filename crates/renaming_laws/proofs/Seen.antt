-- The systems of the example, number by number.
use Rattle.std.proofs.Common.{◌≡◌, ℕ, zero, suc, slice_get, refl}
use Rattle.flow_graph.specs.System.{owner_of}
use Rattle.renaming_laws.specs.Renamings.{renamed_owner, IsSameConstraint, IsSameSite, Agree}
use Rattle.renaming_laws.specs.Example.{sys, other, exchanged, renaming}
use Rattle.renaming_laws.specs.Laws.{SomeAreRenamed}

-- the constraints of the two examples agree under the exchange
constraints : (n : ℕ)
    → Agree (IsSameConstraint renaming) (slice_get sys.constraints n) (slice_get other.constraints (exchanged n))
constraints zero = record { link_is = refl; lattices_are = refl }
constraints (suc zero) = record { link_is = refl; lattices_are = refl }
constraints (suc (suc zero)) = record { link_is = refl; lattices_are = refl }
constraints (suc (suc (suc n))) = tt

-- the sites of the two examples agree under the exchange
sites : (s : ℕ) → Agree (IsSameSite renaming) (slice_get sys.sites s) (slice_get other.sites (exchanged s))
sites zero = record { target_is = refl; owner_is = refl }
sites (suc zero) = record { target_is = refl; owner_is = refl }
sites (suc (suc s)) = tt

-- the variables of the two examples have the same owners under the exchange
owners : (v : ℕ) → owner_of other (exchanged v) ≡ renamed_owner renaming (owner_of sys v)
owners zero = refl
owners (suc zero) = refl
owners (suc (suc v)) = refl

pub some_are_renamed : SomeAreRenamed
some_are_renamed = record { constraints = constraints; sites = sites; owners = owners }
