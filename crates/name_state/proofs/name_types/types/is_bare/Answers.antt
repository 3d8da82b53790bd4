use Rattle.std.proofs.Common.{rules, ◌≡◌, ◌∙◌, [], true, ap, sym, subst, length, map}
use Rattle.std.proofs.lemmas.Bool.{eqb-true}
use Rattle.std.proofs.lemmas.List.{nil_from_length}
use Rattle.type_table.specs.declared.row.Shape.TheVariants as shapes
use Rattle.type_table.specs.Types.{words_of, ellipsis_words_of, function}
use Rattle.type_table.specs.Rows.{shown, types_of, type_of, types_at, some_where, AreParts}
use Rattle.name_state.specs.NameTypes.Known.{bare_at}
use Rattle.name_state.proofs.NameTypes.Bare.{own_function}
use Rattle.name_state.proofs.name_types.types.is_bare.Goals as goal

-- a function without words whose parameters and result are their own bare types is its own bare type
pub returns-then-are_bare : goal.returns-then-are_bare
returns-then-are_bare c =
    λ same.
    let rows = c.args.table.now in
    let bares = c.args.bare.now in
    let t = type_of rows c.args.ty in
    let low : AreParts (length bares) (shapes.Fun c.in-Fun.params c.in-Fun.back c.in-Fun.ellipsis) =
    subst (λ n. AreParts n (shapes.Fun c.in-Fun.params c.in-Fun.back c.in-Fun.ellipsis)) c.requires.next
    (subst (AreParts c.args.ty) c.in-Fun.is c.shape.ensures.low) in
    let words : words_of t ≡ [] = sym c.words.ensures ∙
    nil_from_length c.words.result.now
    (eqb-true _ 0 (sym c.is_empty.ensures ∙ (let e : c.is_empty.result ≡ true = cc in e))) in
    let dots : ellipsis_words_of t ≡ [] = sym c.ellipsis_words.ensures ∙
    nil_from_length c.ellipsis_words.result.now (eqb-true _ 0 (sym c.is_empty-else-not-is_empty.ensures ∙
    (let e : c.is_empty-else-not-is_empty.result ≡ true = cc in e))) in
    own_function rows bares c.in-Fun.params.items c.in-Fun.back c.in-Fun.ellipsis t c.requires.known low.0 low.1
    (c.shape.ensures.shown ∙ ap (λ s. shown (types_of rows) s (words_of t) (ellipsis_words_of t)) c.in-Fun.is ∙
    ap (λ ws. function ws (types_at (types_of rows) c.in-Fun.params.items) (type_of rows c.in-Fun.back)
    (some_where c.in-Fun.ellipsis (ellipsis_words_of t))) words ∙
    ap (λ es. function [] (types_at (types_of rows) c.in-Fun.params.items) (type_of rows c.in-Fun.back)
    (some_where c.in-Fun.ellipsis es)) dots)
    (subst (λ ns. map (bare_at bares) ns ≡ ns) c.deref.ensures.value (c.are_bare.ensures c.if-are_bare.true))
    (search rules)
