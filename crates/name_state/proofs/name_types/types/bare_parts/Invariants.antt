use Rattle.std.proofs.Common.{◌≡◌, ◌++◌, drop, map}
use Rattle.name_state.specs.NameTypes.Known.{bare_at}
use Rattle.name_state.proofs.name_types.types.bare_parts.Given as goal

abbrev pub invariant-loop-ty : goal.invariant-loop-ty
invariant-loop-ty l = l.all.items ++ map (bare_at l.bare) (drop l.ty-index l.types) ≡ map (bare_at l.bare) l.types
