use Rattle.std.proofs.Common.{◌≡◌, ◌<◌, List, ◌++◌, length, slice_get, Some, refl, sym, ◌∙◌, ap, arith}
use Rattle.std.proofs.lemmas.Option.{slice_get_past, slice_get_read}
use Rattle.qual_types.specs.Positions.{view_of}
use Rattle.qual_types.specs.declared.position.Step.{Step}
use Rattle.annotate.specs.Annotated.{item_text}
use Rattle.annotate.specs.Comments.{begun_with}
use Rattle.annotate.proofs.Annotating.{none_more, no_item, other_unit, other_token, one_more}
use Rattle.annotate.proofs.annotated.add_listing.Goals as goal

-- an element of a variable past the table leaves the comments as they were
pub returns-then-number-count-clause-added : goal.returns-then-number-count-clause-added
returns-then-number-count-clause-added c =
    λ s shows before.
    let count = shows.count in
    none_more s c.args.unit before c.args.listing.now c.args.comments.now.items
    (λ token within. no_item s c.args.unit token c.args.listing.now _
    (slice_get_past s.positions c.args.listing.now.var (omega (arith, count))))

-- an element of a variable in another unit leaves the comments as they were
pub returns-then-ne-clause-added : goal.returns-then-ne-clause-added
returns-then-ne-clause-added c =
    λ s shows before.
    let position = view_of c.in_ok-position.position in
    let in_table : c.args.listing.now.var < length c.args.scene.now.vars.now = omega arith in
    let found = shows.stand c.args.listing.now.var position in_table (c.in_ok-position.ensures in_table) in
    none_more s c.args.unit before c.args.listing.now c.args.comments.now.items
    (λ token within. other_unit s c.args.unit token c.args.listing.now _ position found
    (λ (same : c.in_ok-position.position.unit ≡ c.args.unit). grind arith))

-- an element of a variable at a token past the comments leaves them as they were
pub returns-then-token-len-clause-added : goal.returns-then-token-len-clause-added
returns-then-token-len-clause-added c =
    λ s shows before.
    let position = view_of c.in_ok-position.position in
    let in_table : c.args.listing.now.var < length c.args.scene.now.vars.now = omega arith in
    let found = shows.stand c.args.listing.now.var position in_table (c.in_ok-position.ensures in_table) in
    none_more s c.args.unit before c.args.listing.now c.args.comments.now.items
    (λ token within. other_token s c.args.unit token c.args.listing.now _ position found
    (λ (same : c.in_ok-position.position.token ≡ token). grind arith))

-- an element of a variable at a token of the unit adds its item to the comment of this token
pub returns-clause-added : goal.returns-clause-added
returns-clause-added c =
    λ s shows before.
    let position = view_of c.in_ok-position.position in
    let in_table : c.args.listing.now.var < length c.args.scene.now.vars.now = omega arith in
    let found = shows.stand c.args.listing.now.var position in_table (c.in_ok-position.ensures in_table) in
    let same_unit : c.in_ok-position.position.unit ≡ c.args.unit = grind arith in
    let was : slice_get c.args.comments.now.items c.number-token.result ≡ Some c.index_mut.result.now =
    slice_get_read c.args.comments.now.items
    (length c.args.comments.now.items) c.number-token.result c.index_mut.result.now refl
    (grind arith) c.index_mut.ensures.value in
    let path : List Step = c.in_ok-position.position.path.items in
    one_more s c.args.unit before c.args.listing.now c.args.comments.now.items position c.number-token.result
    c.index_mut.result.now c.add_item.new.comment found same_unit (sym c.number-token.ensures) (grind arith) was
    (c.in_ok-add_item.ensures.is s shows ∙ ap (λ (p : List Step). begun_with c.index_mut.result.now.items
    ++ item_text s p c.args.listing.now) c.deref.ensures.value)
