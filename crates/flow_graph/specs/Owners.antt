-- Owners in four bytes.
use Rattle.std.specs.Prelude.{ℕ, zero, suc}
use Rattle.qual_base.specs.declared.places.Owner.{Owner}
use Rattle.qual_base.specs.declared.places.Owner.TheVariants.{Nobody, Function}

-- the owner that a cell stands for
abbrev pub owner_in : ℕ → Owner
owner_in zero = Nobody
owner_in (suc f) = Function f
