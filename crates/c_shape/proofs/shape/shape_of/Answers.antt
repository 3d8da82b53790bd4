use Rattle.std.proofs.Common.{◌≡◌, Vec, Global, refl, sym, ◌∙◌, ap}
use Rattle.c_syntax.specs.declared.declarator.TypeName.{TypeName}
use Rattle.c_syntax.specs.declared.specifier.SpecWord as rust_spec_word
use Rattle.c_tree.specs.Lists.{some_declr_from, desigs_from}
use Rattle.c_tree.specs.Tree as tree
use Rattle.c_tree.specs.Unit.{spec_words_from}
use Rattle.c_tree.specs.View.{expr_of, init_list_of}
use Rattle.c_tree.proofs.ViewLemmas.{cast_is, sizeof_type_is, call_is, compound_is, statement_expr_is, va_arg_is, offset_is, compat_is, generic_is, init_list_is}
use Rattle.c_shape.specs.declared.shape.TypeShape.{TypeShape}
use Rattle.c_shape.specs.Shapes.{words_of, declr_in}
use Rattle.c_shape.proofs.shape.shape_of.Goals as goal

both : {A B C : Type 0} (f : A → B → C) {a a2 : A} {b b2 : B} → a ≡ a2 → b ≡ b2 → f a b ≡ f a2 b2
both f h k = rw (h, k) refl

-- a node with the parts of a type's name has them through its shape too
typed : (f : tree.SpecWords → tree.SomeDeclr → tree.Expr) (t : TypeShape) (name : TypeName)
    → t.words.now ≡ name.specs.words → t.declr.now ≡ name.declr →
    f (words_of t) (declr_in t) ≡ f (spec_words_from name.specs.words.items) (some_declr_from name.declr)
typed f t name words declr =
    both f (ap (λ (v : Vec rust_spec_word.SpecWord Global). spec_words_from v.items) words) (ap some_declr_from declr)

-- the form of a cast shows its type's words and declarator and its operand
pub returns-in-Cast : goal.returns-in-Cast
returns-in-Cast c =
    let e = c.in-Cast in
    typed (λ ws d. tree.cast e.«open» ws d e.close (expr_of e.operand.value)) c.type_shape.result e.type_name
    c.type_shape.ensures.words c.type_shape.ensures.declr
    ∙ sym (ap expr_of e.is ∙ cast_is e.«open» e.type_name e.close e.operand)

-- the form of a `sizeof` of a type's name shows the type's words and declarator
pub returns-in-SizeofType : goal.returns-in-SizeofType
returns-in-SizeofType c =
    let e = c.in-SizeofType in
    let t = c.type_shape-in-SizeofType in
    typed
    (λ ws d. tree.sizeof_type e.keyword e.«open» ws d e.close) t.result e.type_name t.ensures.words t.ensures.declr
    ∙ sym (ap expr_of e.is ∙ sizeof_type_is e.keyword e.«open» e.type_name e.close)

pub returns-in-Call : goal.returns-in-Call
returns-in-Call c = let e = c.in-Call in sym (ap expr_of e.is ∙ call_is e.callee e.«open» e.arguments e.close)

-- the form of a compound literal shows its type's words and declarator and its list
pub returns-in-Compound : goal.returns-in-Compound
returns-in-Compound c =
    let e = c.in-Compound in
    let t = c.type_shape-in-Compound in
    ap (λ (list : tree.InitList). tree.compound e.«open» (words_of t.result) (declr_in t.result) e.close list)
    (sym (init_list_is e.list))
    ∙ typed (λ ws d. tree.compound e.«open» ws d e.close (init_list_of e.list)) t.result e.type_name t.ensures.words
    t.ensures.declr
    ∙ sym (ap expr_of e.is ∙ compound_is e.«open» e.type_name e.close e.list)

pub returns-in-StmtExpr : goal.returns-in-StmtExpr
returns-in-StmtExpr c = let e = c.in-StmtExpr in sym (ap expr_of e.is ∙ statement_expr_is e.«open» e.block e.close)

-- the form of a `va_arg` shows its list and its type's words and declarator
pub returns-in-VaArg : goal.returns-in-VaArg
returns-in-VaArg c =
    let e = c.in-VaArg in
    let t = c.type_shape-in-VaArg in
    typed (λ ws d. tree.va_arg e.keyword e.«open»
    (expr_of e.list.value) e.comma ws d e.close) t.result e.type_name t.ensures.words t.ensures.declr
    ∙ sym (ap expr_of e.is ∙ va_arg_is e.keyword e.«open» e.list e.comma e.type_name e.close)

-- the form of an `offsetof` shows its type's words and declarator, its member and its steps
pub returns-in-Offset : goal.returns-in-Offset
returns-in-Offset c =
    let e = c.in-Offset in
    let t = c.type_shape-in-Offset in
    typed (λ ws d. tree.offset e.keyword e.«open» ws d e.comma e.member
    (desigs_from e.steps.items) e.close) t.result e.type_name t.ensures.words t.ensures.declr
    ∙ sym (ap expr_of e.is ∙ offset_is e.keyword e.«open» e.type_name e.comma e.member e.steps e.close)

-- the form of a question about two types shows the words and declarators of both
pub returns-in-Compat : goal.returns-in-Compat
returns-in-Compat c =
    let e = c.in-Compat in
    let t = c.type_shape-in-Compat in
    let t2 = c.type_shape-in-Compat-2 in
    typed (λ ws d. tree.compat e.keyword e.«open» ws d e.comma (words_of t2.result)
    (declr_in t2.result) e.close) t.result e.left t.ensures.words t.ensures.declr
    ∙ typed (λ ws d. tree.compat e.keyword e.«open» (spec_words_from e.left.specs.words.items)
    (some_declr_from e.left.declr) e.comma ws d e.close) t2.result e.right t2.ensures.words t2.ensures.declr
    ∙ sym (ap expr_of e.is ∙ compat_is e.keyword e.«open» e.left e.comma e.right e.close)

pub returns-in-Generic : goal.returns-in-Generic
returns-in-Generic c =
    let e = c.in-Generic in
    sym (ap expr_of e.is ∙ generic_is e.keyword e.«open» e.control e.associations e.close)
