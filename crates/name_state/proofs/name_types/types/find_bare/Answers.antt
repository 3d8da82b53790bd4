use Rattle.std.proofs.Common.{arith, rules, [], ◌≡◌, ◌∙◌, ap, length}
use Rattle.type_table.specs.Rows.{shown, type_of, types_of}
use Rattle.name_rules.specs.Pieces.{bare}
use Rattle.name_state.proofs.NameTypes.Knowing.{grows_push}
use Rattle.name_state.proofs.NameTypes.Bare.{bare_more}
use Rattle.name_state.proofs.name_types.types.find_bare.Goals as goal

-- one type more has a bare type that is known, in the table that the new shape was pushed to
pub returns-clause-known : goal.returns-clause-known
returns-clause-known c =
    let longer = c.in_ok-at.ensures.longer in
    let number = c.in_ok-at.ensures.number in
    let number_is : c.new-ty.result ≡ length c.args.bare.now.items = search rules in
    bare_more c.args.table.now _ c.args.bare.now.items _ c.in_ok-at.at c.requires.known c.requires.room
    (grows_push _ _ c.in_ok-at.ensures.kept (omega arith)) (omega arith)
    (c.in_ok-at.ensures.there ∙
    ap (λ ws. shown (types_of c.args.table.now) c.in_ok-shape.shape ws c.new-2.result.items) c.new.ensures.items ∙
    ap (λ es. shown (types_of c.args.table.now) c.in_ok-shape.shape [] es) c.new-2.ensures.items ∙
    c.in_ok-shape.ensures.made ∙ ap (λ n. bare (type_of c.args.table.now n)) number_is)
    c.in_ok-push-2.ensures.items
