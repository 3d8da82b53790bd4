use Rattle.std.proofs.Common.{option_map, sym, ◌∙◌, ap}
use Rattle.qual_types.specs.Skel.{flat}
use Rattle.row_rules.specs.RowSteps.Steps as steps
use Rattle.row_world.specs.Shown.{skel}
use Rattle.row_rules.specs.Rows as rows
use Rattle.qual_types.specs.declared.look.Kind.{Kind}
use Rattle.skel_steps.proofs.targets.flat_target.Goals as goal

-- an item of a base type initialises it where it is the first
pub returns-in-Base : goal.returns-in-Base
returns-in-Base c =
    let k = c.args.known.now in
    let named = option_map (skel k) c.args.named.now in
    λ w v shows is. c.first_alone.ensures (skel k)
    ∙ (ap (rows.first_alone c.args.is_first) (is ∙ ap (flat v) c.in-Base.is)
    ∙ ap (λ (kind : Kind). steps.item_target w (flat v kind) c.args.is_first c.args.next named) (sym c.in-Base.is))

-- an item of `void` initialises it where it is the first
pub returns-in-Void : goal.returns-in-Void
returns-in-Void c =
    let k = c.args.known.now in
    let named = option_map (skel k) c.args.named.now in
    λ w v shows is. c.first_alone-in-Void.ensures (skel k)
    ∙ (ap (rows.first_alone c.args.is_first) (is ∙ ap (flat v) c.in-Void.is)
    ∙ ap (λ (kind : Kind). steps.item_target w (flat v kind) c.args.is_first c.args.next named) (sym c.in-Void.is))

-- an item of a struct initialises the member that is named, or the next one
pub returns-in-Struct : goal.returns-in-Struct
returns-in-Struct c =
    let k = c.args.known.now in
    let named = option_map (skel k) c.args.named.now in
    λ w v shows is. c.member_target.ensures w v c.args.is_first shows
    ∙ ap (λ (kind : Kind). steps.item_target w (flat v kind) c.args.is_first c.args.next named) (sym c.in-Struct.is)

-- an item of nothing initialises nothing
pub returns-in-Nothing : goal.returns-in-Nothing
returns-in-Nothing c =
    let k = c.args.known.now in
    let named = option_map (skel k) c.args.named.now in
    λ w v shows is.
    ap (λ (kind : Kind). steps.item_target w (flat v kind) c.args.is_first c.args.next named) (sym c.in-Nothing.is)
