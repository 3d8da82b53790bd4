use Rattle.std.proofs.Common.{ap, ◌∙◌, map}
use Rattle.name_rules.specs.Scopes as rules
use Rattle.name_tables.specs.NameRecords.Bodies.{with_member}
use Rattle.name_state.specs.UnitNames.Shown.{names_of, aggregate_of}
use Rattle.name_state.proofs.UnitNames.Views.{changed_is, member_is}
use Rattle.name_state.proofs.unit_names.names.Names.push_member.Goals as goal

pub returns : goal.returns
unfolding names_of
returns c =
    λ t.
    let all = c.args.self.now.aggregates in
    let old = names_of t c.args.self.now in
    let at = c.args.at.now in
    ap (λ xs. record old { aggregates = xs }) (ap (map (aggregate_of t)) c.in_ok-push_member.ensures
    ∙ changed_is t (with_member c.args.name at c.args.ty) (rules.with_member c.args.name at (t c.args.ty))
    (member_is t c.args.name at c.args.ty) all c.args.number)
