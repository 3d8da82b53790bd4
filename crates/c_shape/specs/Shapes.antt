-- The tree of a shape.
use Rattle.c_tree.specs.Tree.{Expr, operation, cast, prefix, sizeof_value, sizeof_type, extension, index, call, dot, arrow, post, compound, name_use, number_use, char_use, text_use, paren, statement_expr, va_arg, va_start, va_copy, offset, Operator, comma, assign, cond, binary, SpecWords, SomeDeclr, init_list, complex_part, label_use, compat, choose, generic}
use Rattle.c_tree.specs.Lists.{assocs_from, exprs_from, some_expr_from, some_declr_from, desigs_from, init_items_from}
use Rattle.c_tree.specs.Unit.{spec_words_from, block_items_from}
use Rattle.c_tree.specs.View.{expr_of}
use Rattle.c_shape.specs.declared.shape.Between.{Between}
use Rattle.c_shape.specs.declared.shape.Between.TheVariants as betweens
use Rattle.c_shape.specs.declared.shape.TypeShape.{TypeShape}
use Rattle.c_shape.specs.declared.shape.Shape.{Shape}
use Rattle.c_shape.specs.declared.shape.Shape.TheVariants as shapes

-- the operator of what stands between two operands
abbrev pub between_of : Between → Operator
between_of betweens.Comma = comma
between_of (betweens.Assign p) = assign p
between_of (betweens.Cond middle colon) = cond (some_expr_from middle.now) colon
between_of (betweens.Binary p) = binary p

-- the words of a type's name
abbrev pub words_of : TypeShape → SpecWords
words_of t = spec_words_from t.words.now.items

-- the declarator of a type's name, if any
abbrev pub declr_in : TypeShape → SomeDeclr
declr_in t = some_declr_from t.declr.now

-- the expression that is made of the parts of a shape
abbrev pub shaped : Shape → Expr
shaped (shapes.Operation left between token right) =
    operation (expr_of left.now.value) (between_of between) token (expr_of right.now.value)
shaped (shapes.Cast opening t closing e) = cast opening (words_of t) (declr_in t) closing (expr_of e.now.value)
shaped (shapes.Prefix token p e) = prefix token p (expr_of e.now.value)
shaped (shapes.Sizeof word e) = sizeof_value word (expr_of e.now.value)
shaped (shapes.SizeofType word opening t closing) = sizeof_type word opening (words_of t) (declr_in t) closing
shaped (shapes.Ext keyword e) = extension keyword (expr_of e.now.value)
shaped (shapes.Index e opening e2 closing) = index (expr_of e.now.value) opening (expr_of e2.now.value) closing
shaped (shapes.Call e opening es closing) = call (expr_of e.now.value) opening (exprs_from es.now.items) closing
shaped (shapes.Dot e token name) = dot (expr_of e.now.value) token name
shaped (shapes.Arrow e token name) = arrow (expr_of e.now.value) token name
shaped (shapes.Post e token p) = post (expr_of e.now.value) token p
shaped (shapes.Compound opening t closing brace items last brace2) =
    compound opening (words_of t) (declr_in t) closing (init_list brace (init_items_from items.now.items) last brace2)
shaped (shapes.NameUse token name) = name_use token name
shaped (shapes.NumberUse token) = number_use token
shaped (shapes.CharUse token) = char_use token
shaped (shapes.TextUse texts) = text_use texts.now.items
shaped (shapes.Paren opening e closing) = paren opening (expr_of e.now.value) closing
shaped (shapes.StmtExpr opening brace items brace2 closing) =
    statement_expr opening brace (block_items_from items.now.items) brace2 closing
shaped (shapes.VaArg keyword opening e separator t closing) =
    va_arg keyword opening (expr_of e.now.value) separator (words_of t) (declr_in t) closing
shaped (shapes.VaStart keyword opening e separator e2 closing) =
    va_start keyword opening (expr_of e.now.value) separator (expr_of e2.now.value) closing
shaped (shapes.VaCopy keyword opening e separator e2 closing) =
    va_copy keyword opening (expr_of e.now.value) separator (expr_of e2.now.value) closing
shaped (shapes.Offset keyword opening t separator name steps closing) =
    offset keyword opening (words_of t) (declr_in t) separator name (desigs_from steps.now.items) closing
shaped (shapes.Part keyword e) = complex_part keyword (expr_of e.now.value)
shaped (shapes.LabelUse token name) = label_use token name
shaped (shapes.Compat keyword opening t separator t2 closing) =
    compat keyword opening (words_of t) (declr_in t) separator (words_of t2) (declr_in t2) closing
shaped (shapes.Choose keyword opening e separator e2 separator2 e3 closing) =
    choose keyword opening (expr_of e.now.value) separator (expr_of e2.now.value) separator2
    (expr_of e3.now.value) closing
shaped (shapes.Generic keyword opening e xs closing) =
    generic keyword opening (expr_of e.now.value) (assocs_from xs.now.items) closing
