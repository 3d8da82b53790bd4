use Rattle.std.proofs.Common.{ap, ◌∙◌, map, refl}
use Rattle.name_state.specs.UnitNames.Shown.{names_of, aggregate_of}
use Rattle.name_state.proofs.UnitNames.Views.{changed_is}
use Rattle.name_state.proofs.unit_names.names.Names.open_body.Goals as goal

pub returns : goal.returns
unfolding names_of
returns c =
    λ t.
    let all = c.args.self.now.aggregates in
    let old = names_of t c.args.self.now in
    ap (λ xs. record old { aggregates = xs })
    (ap (map (aggregate_of t)) c.open.ensures
    ∙ changed_is t (λ body. body) (λ body. body) (λ b. refl) all c.args.number)
