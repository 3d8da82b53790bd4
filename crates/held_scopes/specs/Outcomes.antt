-- What an operation that may be refused makes of the scopes.
use Rattle.std.specs.Prelude.{◌≡◌, Bool, Option, Result, IfOk}
use Rattle.std.specs.Bool.{then_some}
use Rattle.c_units.specs.HeldScopes.{HeldScopes}

-- the answer says whether there are scopes that the operation makes, and then they are these
abbrev pub Makes : {E : Type 0} → Result Bool E → Option HeldScopes → HeldScopes → Type 0
Makes result made scopes = IfOk result (λ done. made ≡ then_some done scopes)
