-- The tree of a declarator's shape.
use Rattle.std.specs.Prelude.{option_map}
use Rattle.c_tree.specs.Tree.{Declr, pointer, declr_name, declr_paren, array, params, abs_pointer, abs_paren, abs_array, abs_params, identifiers, base_name}
use Rattle.c_tree.specs.Lists.{some_declr_from, some_size_from, params_from}
use Rattle.c_tree.specs.View.{declr_of, dots_of}
use Rattle.c_shape.specs.declared.declarator.DeclaratorShape.{DeclaratorShape}
use Rattle.c_shape.specs.declared.declarator.DeclaratorShape.TheVariants as shapes

-- the declarator that is made of the parts of a shape
abbrev pub declarator_shaped : DeclaratorShape → Declr
declarator_shaped (shapes.Pointer star words d) = pointer star words.now.items (declr_of d.now.value)
declarator_shaped (shapes.DeclName token name) = declr_name token name
declarator_shaped (shapes.DeclParen opening attrs d closing) =
    declr_paren opening attrs.now.items (declr_of d.now.value) closing
declarator_shaped (shapes.Array d opening words size closing) =
    array (declr_of d.now.value) opening words.now.items (some_size_from size.now) closing
declarator_shaped (shapes.Params d opening ps dots closing) =
    params (declr_of d.now.value) opening (params_from ps.now.items) (option_map dots_of dots.now) closing
declarator_shaped (shapes.AbsPointer star words d) = abs_pointer star words.now.items (some_declr_from d.now)
declarator_shaped (shapes.AbsParen opening attrs d closing) =
    abs_paren opening attrs.now.items (declr_of d.now.value) closing
declarator_shaped (shapes.AbsArray d opening words size closing) =
    abs_array (some_declr_from d.now) opening words.now.items (some_size_from size.now) closing
declarator_shaped (shapes.AbsParams d opening ps dots closing) =
    abs_params (some_declr_from d.now) opening (params_from ps.now.items) (option_map dots_of dots.now) closing
declarator_shaped (shapes.Identifiers d opening names closing) =
    identifiers (declr_of d.now.value) opening names.now.items closing
declarator_shaped (shapes.BaseName token) = base_name token
