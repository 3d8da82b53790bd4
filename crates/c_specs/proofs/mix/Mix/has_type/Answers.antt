use Rattle.std.proofs.Common.{◌∙◌}
use Rattle.c_specs.proofs.Typed.{typed_right}
use Rattle.c_specs.proofs.mix.Mix.has_type.Goals as goal

pub returns : goal.returns
returns c = record { stands = c.stands.ensures; typed = λ ws is. c.stands.ensures ∙ typed_right ws c.args.self is }
