use Rattle.std.proofs.Common.{ap, ◌∙◌, map, Some}
use Rattle.name_rules.specs.Scopes as rules
use Rattle.name_tables.specs.NameRecords.Bodies.{with_unnamed}
use Rattle.name_tables.specs.NameRecords.Aggregates.{known_at}
use Rattle.name_state.specs.UnitNames.Shown.{names_of, aggregate_of, known_of}
use Rattle.name_state.proofs.UnitNames.Views.{changed_is, unnamed_is, inner_is}
use Rattle.name_state.proofs.unit_names.names.Names.push_unnamed.Goals as goal

pub returns : goal.returns
unfolding names_of
returns c =
    λ t.
    let all = c.args.self.now.aggregates in
    let old = names_of t c.args.self.now in
    let at = c.args.at.now in
    let ty = c.args.ty in
    let inner = known_at all c.args.inner in
    ap (λ xs. record old { aggregates = xs }) (ap (map (aggregate_of t)) c.in_ok-push_unnamed.ensures
    ∙ changed_is t (with_unnamed at ty inner) (rules.with_unnamed at (t ty) (map (known_of t) inner))
    (unnamed_is t at ty inner) all c.args.number
    ∙ ap
    (λ ks. rules.changed_at (map (aggregate_of t) all) c.args.number
    (λ it. record it { body = Some (rules.with_unnamed at (t ty) ks (rules.or_no_body it.body)) }))
    (inner_is t all c.args.inner))
