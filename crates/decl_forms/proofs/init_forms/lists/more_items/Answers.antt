use Rattle.std.proofs.Common.{Bool, subst}
use Rattle.c_reading.specs.Reading.{comma_turn}
use Rattle.c_reading.specs.Initialising.{next_init_item}
use Rattle.c_reading.specs.Knot.{knot}
use Rattle.reader_base.specs.Looping.{WentOn}
use Rattle.decl_forms.specs.InitForms.Listed.{listing}
use Rattle.decl_forms.proofs.init_forms.lists.more_items.Goals as goal

-- each turn that reads one more item of a braced initialiser takes a token
pub loop-known-smaller : goal.loop-known-smaller
loop-known-smaller g c =
    let before = c.loop-known.cursor in
    let after = c.item_turn.new.cursor in
    let turn = comma_turn (next_init_item (knot c.args.depth) c.args.room)
    (listing c.loop-known.known) before.scopes before.rest.now in
    let P : Bool → Type 0 =
    λ more. WentOn (listing c.loop-known.known) (listing c.item_turn.new.known) before after more turn in
    c.items_step.ensures.takes (listing c.loop-known.known) (listing c.item_turn.new.known)
    before.scopes after.scopes before.rest.now after.rest.now
    (subst P c.if-branch.true c.in_ok-item_turn.ensures)
