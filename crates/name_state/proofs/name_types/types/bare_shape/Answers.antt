use Rattle.std.proofs.Common.{◌<◌, ◌∙◌, ap, refl, sym, subst, length, map}
use Rattle.type_table.specs.declared.row.Shape.TheVariants as shapes
use Rattle.type_table.specs.Types.{words_of, ellipsis_words_of}
use Rattle.type_table.specs.Rows.{shown, types_of, type_of, types_at, AreParts, AreBelow}
use Rattle.name_state.specs.NameTypes.Known.{bare_at}
use Rattle.name_state.proofs.NameTypes.Knowing.{same_function}
use Rattle.name_state.proofs.NameTypes.Bare.{bare_function, bare_below}
use Rattle.name_state.proofs.name_types.types.bare_shape.Goals as goal

-- the shape made of a function's bare parameters and bare result is the function's bare type
pub returns-in_ok-params-in-Fun-clause-made : goal.returns-in_ok-params-in-Fun-clause-made
returns-in_ok-params-in-Fun-clause-made c =
    let rows = c.args.table.now in
    let bares = c.args.bare.now in
    let t = type_of rows c.args.ty in
    let low : AreParts (length bares) (shapes.Fun c.in-Fun.params c.in-Fun.back c.in-Fun.ellipsis) =
    subst (λ n. AreParts n (shapes.Fun c.in-Fun.params c.in-Fun.back c.in-Fun.ellipsis)) c.requires.next
    (subst (AreParts c.args.ty) c.in-Fun.is c.shape.ensures.low) in
    same_function refl (ap (types_at (types_of rows)) (c.in_ok-params-in-Fun.ensures
    ∙ ap (map (bare_at bares)) c.deref.ensures.value)) (ap (type_of rows) c.bare_part-in-Fun.ensures) refl
    ∙ bare_function rows bares c.in-Fun.params.items c.in-Fun.back c.in-Fun.ellipsis (words_of t)
    (ellipsis_words_of t) t c.requires.known low.0 low.1
    (c.shape.ensures.shown ∙ ap (λ s. shown (types_of rows) s (words_of t) (ellipsis_words_of t)) c.in-Fun.is)

-- the bare parameters and result of a function are below the size of the table
pub returns-in_ok-params-in-Fun-clause-parts : goal.returns-in_ok-params-in-Fun-clause-parts
returns-in_ok-params-in-Fun-clause-parts c =
    let rows = c.args.table.now in
    let bares = c.args.bare.now in
    let low : AreParts (length bares) (shapes.Fun c.in-Fun.params c.in-Fun.back c.in-Fun.ellipsis) =
    subst (λ n. AreParts n (shapes.Fun c.in-Fun.params c.in-Fun.back c.in-Fun.ellipsis)) c.requires.next
    (subst (AreParts c.args.ty) c.in-Fun.is c.shape.ensures.low) in (
      subst (AreBelow (length rows))
          (sym (c.in_ok-params-in-Fun.ensures ∙ ap (map (bare_at bares)) c.deref.ensures.value))
          (bare_below rows bares c.in-Fun.params.items c.requires.known low.0),
      subst (λ n. n < length rows) (sym c.bare_part-in-Fun.ensures) (c.requires.known.low c.in-Fun.back low.1),
    )
