use Rattle.std.proofs.Common.{ap, ◌∙◌, map}
use Rattle.name_state.specs.UnitNames.Shown.{names_of, aggregate_of}
use Rattle.name_state.proofs.UnitNames.Views.{keyed_is}
use Rattle.name_state.proofs.unit_names.names.Names.set_key.Goals as goal

pub returns : goal.returns
unfolding names_of
returns c =
    λ t.
    let all = c.args.self.now.aggregates in
    let old = names_of t c.args.self.now in
    ap (λ xs. record old { aggregates = xs })
    (ap (map (aggregate_of t)) c.set_key.ensures ∙ keyed_is t c.args.by_typedef c.args.name all c.args.number)
