use Rattle.std.proofs.Common.{◌≡◌, drop}
use Rattle.constraint_gen.specs.Listing.{is_name_at}
use Rattle.constraint_gen.proofs.listing.is_name_in_some.Given as goal

abbrev pub invariant-loop-tokens : goal.invariant-loop-tokens
invariant-loop-tokens l = is_name_at (drop l.tokens-index l.units) l.at ≡ is_name_at l.units l.at
