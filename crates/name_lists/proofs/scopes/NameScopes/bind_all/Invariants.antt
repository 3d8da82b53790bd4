use Rattle.std.proofs.Common.{◌≡◌, ◌∷◌, ◌++◌, reverse, take}
use Rattle.name_lists.specs.Newest.{innermost, outer_scopes}
use Rattle.name_lists.proofs.scopes.NameScopes.bind_all.Given as goal

abbrev pub invariant-loop-it : goal.invariant-loop-it
invariant-loop-it g l = l.self ≡ (reverse (take l.it-index l.entries) ++ innermost l.fn.self) ∷ outer_scopes l.fn.self
