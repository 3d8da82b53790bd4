-- The trees of nodes whose children are in a `Vec` or an `Option`, from the parts that a program has.
--
-- Lists first: what is held as a row has the tree of its list of values. Then a lemma a node.
use Rattle.std.proofs.Common.{◌≡◌, ℕ, Option, None, Some, option_map, Vec, Box, Global, refl, sym, ◌∙◌, ap}
use mathlib.Core.Former.{Count}
use Rattle.c_syntax.specs.declared.parts.Attr.{Attr}
use Rattle.c_syntax.specs.declared.parts.ArrayWord.{ArrayWord}
use Rattle.c_syntax.specs.declared.parts.PointerWord.{PointerWord}
use Rattle.c_syntax.specs.declared.parts.Identifier.{Identifier}
use Rattle.c_syntax.specs.declared.parts.Word.{Word}
use Rattle.c_syntax.specs.declared.parts.Ellipsis.{Ellipsis}
use Rattle.c_syntax.specs.declared.parts.Marked.{Marked}
use Rattle.c_syntax.specs.declared.parts.Listed.{Listed}
use Rattle.c_syntax.specs.declared.parts.Braced.{Braced}
use Rattle.c_syntax.specs.declared.declaration.Decl.TheBlock as rows
use Rattle.c_syntax.specs.declared.declaration.Decl.TheViews as views
use Rattle.c_syntax.specs.declared.declaration.Declaration as rust_declaration
use Rattle.c_syntax.specs.declared.declaration.InitDeclr as rust_init_declr
use Rattle.c_syntax.specs.declared.declarator.ArraySize as rust_array_size
use Rattle.c_syntax.specs.declared.declarator.Declr as rust_declr
use Rattle.c_syntax.specs.declared.declarator.Param as rust_param
use Rattle.c_syntax.specs.declared.declarator.TypeName as rust_type_name
use Rattle.c_syntax.specs.declared.expression.Assoc as rust_assoc
use Rattle.c_syntax.specs.declared.expression.Expr as rust_expr
use Rattle.c_syntax.specs.declared.initialiser.Desig as rust_desig
use Rattle.c_syntax.specs.declared.initialiser.InitItem as rust_init_item
use Rattle.c_syntax.specs.declared.initialiser.InitList as rust_init_list
use Rattle.c_syntax.specs.declared.specifier.Enum as rust_enum
use Rattle.c_syntax.specs.declared.specifier.MemDeclr as rust_mem_declr
use Rattle.c_syntax.specs.declared.specifier.Member as rust_member
use Rattle.c_syntax.specs.declared.specifier.SpecWord as rust_spec_word
use Rattle.c_syntax.specs.declared.specifier.Specs as rust_specs
use Rattle.c_syntax.specs.declared.specifier.Struct as rust_struct
use Rattle.c_syntax.specs.declared.specifier.StructItem as rust_struct_item
use Rattle.c_syntax.specs.declared.statement.Block as rust_block
use Rattle.c_syntax.specs.declared.statement.BlockItem as rust_block_item
use Rattle.c_syntax.specs.declared.statement.ForStart as rust_for_start
use Rattle.c_syntax.specs.declared.statement.Stmt as rust_stmt
use Rattle.c_tree.specs.Tree as tree
use Rattle.c_tree.specs.View.{dots_of, expr_of, some_expr_of, exprs_of, assocs_of, assoc_of, spec_words_of, spec_word_of, some_body_of, struct_items_of, struct_item_of, mem_declrs_of, mem_declr_of, some_value_of, enum_type_of, some_enum_body_of, enumerators_of, declr_of, some_declr_of, some_size_of, params_of, init_of, init_list_of, init_items_of, desigs_of, desig_of, init_declrs_of, declaration_of, block_items_of, block_item_of, stmt_of, some_else_of, for_start_of}
use Rattle.c_tree.specs.Unit.{spec_words_from, block_items_from}
use Rattle.c_tree.specs.Lists.{exprs_from, assocs_from, some_expr_from, struct_items_from, some_body_from, mem_declrs_from, some_value_from, enumerators_from, some_enum_body_from, some_declr_from, some_size_from, params_from, desigs_from, init_items_from, init_declrs_from, some_else_from}

both : {A B C : Type 0} (f : A → B → C) {a a2 : A} {b b2 : B} → a ≡ a2 → b ≡ b2 → f a b ≡ f a2 b2
both f h k = rw (h, k) refl

exprs_row : (n : Count) (row : rust_expr.Row_of-Expr n) → exprs_of row ≡ exprs_from (rust_expr.items-the_row-Expr n row)
exprs_row n rust_expr.end_of-Expr = refl
exprs_row n (rust_expr.more_of-Expr e rest) =
    ap (λ (es : tree.Exprs). tree.more_exprs (expr_of e) es) (exprs_row _ rest)

assocs_row : (n : Count) (row : rust_expr.Row_of-Assoc n)
    → assocs_of row ≡ assocs_from (rust_expr.items-the_row-Assoc n row)
assocs_row n rust_expr.end_of-Assoc = refl
assocs_row n (rust_expr.more_of-Assoc x rest) =
    ap (λ (xs : tree.Assocs). tree.more_assocs (assoc_of x) xs) (assocs_row _ rest)

words_row : (n : Count) (row : rust_specs.Row_of-SpecWord n)
    → spec_words_of row ≡ spec_words_from (rust_specs.items-the_row-SpecWord n row)
words_row n rust_specs.end_of-SpecWord = refl
words_row n (rust_specs.more_of-SpecWord w rest) =
    ap (λ (ws : tree.SpecWords). tree.more_words (spec_word_of w) ws) (words_row _ rest)

struct_items_row : (n : Count) (row : rust_struct.Row_of-StructItem n)
    → struct_items_of row ≡ struct_items_from (rust_struct.items-the_row-StructItem n row)
struct_items_row n rust_struct.end_of-StructItem = refl
struct_items_row n (rust_struct.more_of-StructItem item rest) =
    ap (λ (items : tree.StructItems). tree.more_struct_items (struct_item_of item) items) (struct_items_row _ rest)

mem_declrs_row : (n : Count) (row : rust_member.Row_of-Member-declrs-2 n)
    → mem_declrs_of row ≡ mem_declrs_from (rust_member.items-the_row-Member-declrs-2 n row)
mem_declrs_row n rust_member.end_of-Member-declrs-2 = refl
mem_declrs_row n (rust_member.more_of-Member-declrs-2 attrs d rest) =
    ap (λ (ds : tree.MemDeclrs). tree.more_mem_declrs attrs.items (mem_declr_of d) ds) (mem_declrs_row _ rest)

-- a row of enumerators, as it is held, is the list of its values
enumerators_row : (n : Count) (row : rust_enum.Row_of-Enumerator n)
    → enumerators_of row ≡ enumerators_from (rust_enum.items-the_row-Enumerator n row)
enumerators_row n rust_enum.end_of-Enumerator = refl
enumerators_row n (rust_enum.more_of-Enumerator name attrs rust_mem_declr.MemDeclr-Named-1-None' rest) =
    ap (λ (es : tree.Enumerators). tree.more_enumerators name attrs.items tree.no_value es) (enumerators_row _ rest)
enumerators_row n (rust_enum.more_of-Enumerator name attrs (rust_mem_declr.MemDeclr-Named-1-Some' token p e) rest) =
    ap (λ (es : tree.Enumerators). tree.more_enumerators name attrs.items (tree.some_value token (expr_of e)) es)
    (enumerators_row _ rest)

words_shown : (m : _) (row : _) → spec_words_of row ≡ spec_words_from (rows.shown-the_row-SpecWord-0 m row).items
words_shown m row = words_row _ row ∙ ap spec_words_from (sym (rows.items_shown-the_row-SpecWord-0 m row))

-- a row of parameters, as it is held, is the list of its values
params_row : (n : Count) (row : rust_declr.Row_of-Param n)
    → params_of row ≡ params_from (rust_declr.items-the_row-Param n row)
params_row n rust_declr.end_of-Param = refl
params_row n (rust_declr.more_of-Param m ws rust_declr.Declr-AbsPointer-2-None' attrs rest) =
    both (λ (ws : tree.SpecWords) (ps : tree.Params). tree.more_params ws tree.no_declr attrs.items ps)
    (words_shown m ws) (params_row _ rest)
params_row n (rust_declr.more_of-Param m ws (rust_declr.Declr-AbsPointer-2-Some' p d) attrs rest) =
    both (λ (ws : tree.SpecWords) (ps : tree.Params). tree.more_params ws (tree.some_declr (declr_of d)) attrs.items ps)
    (words_shown m ws) (params_row _ rest)

desigs_row : (n : Count) (row : rust_init_item.Row_of-Desig n)
    → desigs_of row ≡ desigs_from (rust_init_item.items-the_row-Desig n row)
desigs_row n rust_init_item.end_of-Desig = refl
desigs_row n (rust_init_item.more_of-Desig d rest) =
    ap (λ (ds : tree.Desigs). tree.more_desigs (desig_of d) ds) (desigs_row _ rest)

desigs_shown : (m : _) (row : _) → desigs_of row ≡ desigs_from (rows.shown-the_row-Desig-4 m row).items
desigs_shown m row = desigs_row _ row ∙ ap desigs_from (sym (rows.items_shown-the_row-Desig-4 m row))

-- a row of items of an initialiser, as it is held, is the list of its values
init_items_row : (n : Count) (row : rust_init_list.Row_of-InitItem n)
    → init_items_of row ≡ init_items_from (rust_init_list.items-the_row-InitItem n row)
init_items_row n rust_init_list.end_of-InitItem = refl
init_items_row n (rust_init_list.more_of-InitItem m ds equal init rest) =
    both (λ (ds : tree.Desigs) (items : tree.InitItems). tree.more_init_items ds equal (init_of init) items)
    (desigs_shown m ds) (init_items_row _ rest)

-- a row of declarators with initialisers, as it is held, is the list of its values
init_declrs_row : (n : Count) (row : rust_declaration.Row_of-Declaration-declrs-2 n)
    → init_declrs_of row ≡ init_declrs_from (rust_declaration.items-the_row-Declaration-declrs-2 n row)
init_declrs_row n rust_declaration.end_of-Declaration-declrs-2 = refl
init_declrs_row n
    (rust_declaration.more_of-Declaration-declrs-2 attrs p d asm attrs2 rust_init_declr.InitDeclr-init-None' rest) =
    ap (λ (ds : tree.InitDeclrs). tree.more_init_declrs attrs.items (declr_of d) asm attrs2.items tree.no_init ds)
    (init_declrs_row _ rest)
init_declrs_row n (rust_declaration.more_of-Declaration-declrs-2 attrs p d asm attrs2
    (rust_init_declr.InitDeclr-init-Some' equal init) rest) =
    ap (λ (ds : tree.InitDeclrs). tree.more_init_declrs attrs.items (declr_of d) asm attrs2.items
    (tree.some_init equal (init_of init)) ds) (init_declrs_row _ rest)

block_items_row : (n : Count) (row : rust_block.Row_of-BlockItem n)
    → block_items_of row ≡ block_items_from (rust_block.items-the_row-BlockItem n row)
block_items_row n rust_block.end_of-BlockItem = refl
block_items_row n (rust_block.more_of-BlockItem item rest) =
    ap (λ (items : tree.BlockItems). tree.more_block_items (block_item_of item) items) (block_items_row _ rest)

-- what is held of a `Vec`
words_hidden : (v : Vec rust_spec_word.SpecWord Global)
    → spec_words_of (rows.hidden-the_row-SpecWord-0 v) ≡ spec_words_from v.items
words_hidden v =
    words_row _ (rows.hidden-the_row-SpecWord-0 v) ∙ ap spec_words_from (rows.items_hidden-the_row-SpecWord-0 v)

params_hidden : (v : Vec rust_param.Param Global) → params_of (rows.hidden-the_row-Param-1 v) ≡ params_from v.items
params_hidden v = params_row _ (rows.hidden-the_row-Param-1 v) ∙ ap params_from (rows.items_hidden-the_row-Param-1 v)

exprs_hidden : (v : Vec rust_expr.Expr Global) → exprs_of (rows.hidden-the_row-Expr-2 v) ≡ exprs_from v.items
exprs_hidden v = exprs_row _ (rows.hidden-the_row-Expr-2 v) ∙ ap exprs_from (rows.items_hidden-the_row-Expr-2 v)

block_items_hidden : (v : Vec rust_block_item.BlockItem Global)
    → block_items_of (rows.hidden-the_row-BlockItem-3 v) ≡ block_items_from v.items
block_items_hidden v =
    block_items_row _ (rows.hidden-the_row-BlockItem-3 v)
    ∙ ap block_items_from (rows.items_hidden-the_row-BlockItem-3 v)

desigs_hidden : (v : Vec rust_desig.Desig Global) → desigs_of (rows.hidden-the_row-Desig-4 v) ≡ desigs_from v.items
desigs_hidden v = desigs_row _ (rows.hidden-the_row-Desig-4 v) ∙ ap desigs_from (rows.items_hidden-the_row-Desig-4 v)

assocs_hidden : (v : Vec rust_assoc.Assoc Global) → assocs_of (rows.hidden-the_row-Assoc-5 v) ≡ assocs_from v.items
assocs_hidden v = assocs_row _ (rows.hidden-the_row-Assoc-5 v) ∙ ap assocs_from (rows.items_hidden-the_row-Assoc-5 v)

struct_items_hidden : (v : Vec rust_struct_item.StructItem Global)
    → struct_items_of (rows.hidden-the_row-StructItem-6 v) ≡ struct_items_from v.items
struct_items_hidden v =
    struct_items_row _ (rows.hidden-the_row-StructItem-6 v)
    ∙ ap struct_items_from (rows.items_hidden-the_row-StructItem-6 v)

mem_declrs_hidden : (v : Vec (Listed rust_mem_declr.MemDeclr) Global)
    → mem_declrs_of (rows.hidden-the_row-Member-declrs-2-7 v) ≡ mem_declrs_from v.items
mem_declrs_hidden v =
    mem_declrs_row _ (rows.hidden-the_row-Member-declrs-2-7 v)
    ∙ ap mem_declrs_from (rows.items_hidden-the_row-Member-declrs-2-7 v)

-- what is held of an `Option`
expr_held : (e : Option (Box rust_expr.Expr Global)) → some_expr_of (rows.back-Expr-Cond-2 e) ≡ some_expr_from e
expr_held None = refl
expr_held (Some e) = refl

declr_held : (d : Option (Box rust_declr.Declr Global))
    → some_declr_of (rows.back-Declr-AbsPointer-2 d) ≡ some_declr_from d
declr_held None = refl
declr_held (Some d) = refl

size_held : (size : Option rust_array_size.ArraySize)
    → some_size_of (rows.back-Declr-Array-3 size) ≡ some_size_from size
size_held None = refl
size_held (Some size) = refl

value_held : (value : Option (Marked (Box rust_expr.Expr Global)))
    → some_value_of (rows.back-MemDeclr-Named-1 value) ≡ some_value_from value
value_held None = refl
value_held (Some value) = refl

body_held : (body : Option (Braced rust_struct_item.StructItem))
    → some_body_of (rows.back-Struct-body body) ≡ some_body_from body
body_held None = refl
body_held (Some body) =
    ap (λ (items : tree.StructItems). tree.some_body body.«open» items body.close) (struct_items_hidden body.items)

else_held : (other : Option (Marked (Box rust_stmt.Stmt Global)))
    → some_else_of (rows.back-Stmt-If-5 other) ≡ some_else_from other
else_held None = refl
else_held (Some other) = refl

-- the body of an enum, as it is held, shows its enumerators, or none
enum_body_shown : (body : rust_enum.Held-Enum-body)
    → some_enum_body_of body ≡ some_enum_body_from (rows.view-Enum-body body)
enum_body_shown rust_enum.Enum-body-None' = refl
enum_body_shown (rust_enum.Enum-body-Some' opening m items last closing) =
    ap (λ (items : tree.Enumerators). tree.some_enum_body opening items last closing)
    (enumerators_row _ items ∙ ap enumerators_from (sym (rows.items_shown-the_row-Enumerator-10 m items)))

pub cast_is : (opening : ℕ) (t : rust_type_name.TypeName) (closing : ℕ) (e : Box rust_expr.Expr Global) →
    expr_of (rust_expr.Cast opening t closing e)
    ≡ tree.cast opening (spec_words_from t.specs.words.items) (some_declr_from t.declr) closing (expr_of e.value)
cast_is opening t closing e =
    both (λ (ws : tree.SpecWords) (d : tree.SomeDeclr). tree.cast opening ws d closing (expr_of e.value))
    (words_hidden t.specs.words) (declr_held t.declr)

pub sizeof_type_is : (word : Word) (opening : ℕ) (t : rust_type_name.TypeName) (closing : ℕ) →
    expr_of (rust_expr.SizeofType word opening t closing)
    ≡ tree.sizeof_type word opening (spec_words_from t.specs.words.items) (some_declr_from t.declr) closing
sizeof_type_is word opening t closing =
    both (λ (ws : tree.SpecWords) (d : tree.SomeDeclr). tree.sizeof_type word opening ws d closing)
    (words_hidden t.specs.words) (declr_held t.declr)

pub call_is : (callee : Box rust_expr.Expr Global) (opening : ℕ) (arguments : Vec rust_expr.Expr Global) (closing : ℕ) →
    expr_of (rust_expr.Call callee opening arguments closing)
    ≡ tree.call (expr_of callee.value) opening (exprs_from arguments.items) closing
call_is callee opening arguments closing =
    ap (λ (es : tree.Exprs). tree.call (expr_of callee.value) opening es closing) (exprs_hidden arguments)

pub compound_is : (opening : ℕ) (t : rust_type_name.TypeName) (closing : ℕ) (list : rust_init_list.InitList) →
    expr_of (rust_expr.Compound opening t closing list)
    ≡ tree.compound opening (spec_words_from t.specs.words.items) (some_declr_from t.declr) closing (init_list_of list)
compound_is opening t closing list =
    both (λ (ws : tree.SpecWords) (d : tree.SomeDeclr). tree.compound opening ws d closing (init_list_of list))
    (words_hidden t.specs.words) (declr_held t.declr)

pub statement_expr_is : (opening : ℕ) (block : rust_block.Block) (closing : ℕ) →
    expr_of (rust_expr.StmtExpr opening block closing)
    ≡ tree.statement_expr opening block.«open» (block_items_from block.items.items) block.close closing
statement_expr_is opening block closing =
    ap (λ (items : tree.BlockItems). tree.statement_expr opening block.«open» items block.close closing)
    (block_items_hidden block.items)

pub va_arg_is : (keyword opening : ℕ) (list : Box rust_expr.Expr Global) (separator : ℕ) (t : rust_type_name.TypeName)
    (closing : ℕ) →
    expr_of (rust_expr.VaArg keyword opening list separator t closing) ≡ tree.va_arg keyword opening
    (expr_of list.value) separator (spec_words_from t.specs.words.items) (some_declr_from t.declr) closing
va_arg_is keyword opening list separator t closing =
    both (λ (ws : tree.SpecWords) (d : tree.SomeDeclr). tree.va_arg keyword opening
    (expr_of list.value) separator ws d closing) (words_hidden t.specs.words) (declr_held t.declr)

-- an `offsetof` of a type's name has the tree of its words, its declarator and its steps
pub offset_is : (keyword opening : ℕ) (t : rust_type_name.TypeName) (separator : ℕ) (name : Identifier)
    (steps : Vec rust_desig.Desig Global) (closing : ℕ) →
    expr_of (rust_expr.Offset keyword opening t separator name steps closing) ≡ tree.offset keyword opening
    (spec_words_from t.specs.words.items) (some_declr_from t.declr) separator name (desigs_from steps.items) closing
offset_is keyword opening t separator name steps closing =
    both (λ (ws : tree.SpecWords) (d : tree.SomeDeclr). tree.offset keyword opening ws d separator name
    (desigs_of (rows.hidden-the_row-Desig-4 steps)) closing) (words_hidden t.specs.words) (declr_held t.declr) ∙
    ap (λ (ds : tree.Desigs). tree.offset keyword opening (spec_words_from t.specs.words.items)
    (some_declr_from t.declr) separator name ds closing) (desigs_hidden steps)

-- a question whether two types are compatible has the tree of the words and declarators of both
pub compat_is : (keyword opening : ℕ) (t : rust_type_name.TypeName) (separator : ℕ) (t2 : rust_type_name.TypeName)
    (closing : ℕ) →
    expr_of (rust_expr.Compat keyword opening t separator t2 closing) ≡
    tree.compat keyword opening (spec_words_from t.specs.words.items) (some_declr_from t.declr) separator
    (spec_words_from t2.specs.words.items) (some_declr_from t2.declr) closing
compat_is keyword opening t separator t2 closing =
    both (λ (ws : tree.SpecWords) (d : tree.SomeDeclr). tree.compat keyword opening ws d separator
    (spec_words_of (rows.hidden-the_row-SpecWord-0 t2.specs.words))
    (some_declr_of (rows.back-Declr-AbsPointer-2 t2.declr)) closing) (words_hidden t.specs.words) (declr_held t.declr) ∙
    both (λ (ws : tree.SpecWords) (d : tree.SomeDeclr). tree.compat keyword opening
    (spec_words_from t.specs.words.items) (some_declr_from t.declr) separator ws d closing)
    (words_hidden t2.specs.words) (declr_held t2.declr)

pub generic_is : (keyword opening : ℕ) (e : Box rust_expr.Expr Global) (xs : Vec rust_assoc.Assoc Global)
    (closing : ℕ) →
    expr_of (rust_expr.Generic keyword opening e xs closing)
    ≡ tree.generic keyword opening (expr_of e.value) (assocs_from xs.items) closing
generic_is keyword opening e xs closing =
    ap (λ (xs : tree.Assocs). tree.generic keyword opening (expr_of e.value) xs closing) (assocs_hidden xs)

pub typed_assoc_is : (t : rust_type_name.TypeName) (colon : ℕ) (e : Box rust_expr.Expr Global) →
    assoc_of (rust_assoc.Typed t colon e)
    ≡ tree.typed_assoc (spec_words_from t.specs.words.items) (some_declr_from t.declr) colon (expr_of e.value)
typed_assoc_is t colon e =
    both (λ (ws : tree.SpecWords) (d : tree.SomeDeclr). tree.typed_assoc ws d colon (expr_of e.value))
    (words_hidden t.specs.words) (declr_held t.declr)

pub typeof_type_is : (word : Word) (opening : ℕ) (t : rust_type_name.TypeName) (closing : ℕ) →
    spec_word_of (rust_spec_word.TypeofType word opening t closing)
    ≡ tree.typeof_type word opening (spec_words_from t.specs.words.items) (some_declr_from t.declr) closing
typeof_type_is word opening t closing =
    both (λ (ws : tree.SpecWords) (d : tree.SomeDeclr). tree.typeof_type word opening ws d closing)
    (words_hidden t.specs.words) (declr_held t.declr)

pub struct_is : (s : Box rust_struct.Struct Global)
    → spec_word_of (rust_spec_word.Struct s)
    ≡ tree.struct_type s.value.keyword s.value.attrs.items s.value.tag (some_body_from s.value.body)
struct_is s =
    ap (λ (body : tree.SomeBody). tree.struct_type s.value.keyword s.value.attrs.items s.value.tag body)
    (body_held s.value.body)

pub member_is : (m : rust_member.Member)
    → struct_item_of (rust_struct_item.Member m)
    ≡ tree.member m.extensions.items (spec_words_from m.specs.words.items) (mem_declrs_from m.declrs.items) m.semi
member_is m =
    both (λ (ws : tree.SpecWords) (ds : tree.MemDeclrs). tree.member m.extensions.items ws ds m.semi)
    (words_hidden m.specs.words) (mem_declrs_hidden m.declrs)

pub named_is : (d : Box rust_declr.Declr Global) (width : Option (Marked (Box rust_expr.Expr Global)))
    (attrs : Vec Attr Global) →
    mem_declr_of (rust_mem_declr.Named d width attrs)
    ≡ tree.named (declr_of d.value) (some_value_from width) attrs.items
named_is d width attrs =
    ap (λ (value : tree.SomeValue). tree.named (declr_of d.value) value attrs.items) (value_held width)

pub enum_is : (e : rust_enum.Enum) →
    enum_type_of e ≡ tree.enum_of (views.out-Enum e).keyword (views.out-Enum e).attrs.items (views.out-Enum e).tag
    (some_enum_body_from (views.out-Enum e).body)
unfolding views.out-Enum denote.Hole.Carrier.out
enum_is (rust_enum.Enum' keyword attrs tag body) =
    ap (λ (body : tree.SomeEnumBody). tree.enum_of keyword attrs.items tag body) (enum_body_shown body)

pub array_is : (d : Box rust_declr.Declr Global) (opening : ℕ) (words : Vec ArrayWord Global)
    (size : Option rust_array_size.ArraySize) (closing : ℕ) →
    declr_of (rust_declr.Array d opening words size closing)
    ≡ tree.array (declr_of d.value) opening words.items (some_size_from size) closing
array_is d opening words size closing =
    ap (λ (size : tree.SomeSize). tree.array (declr_of d.value) opening words.items size closing) (size_held size)

pub params_is : (d : Box rust_declr.Declr Global) (opening : ℕ) (ps : Vec rust_param.Param Global)
    (dots : Option Ellipsis) (closing : ℕ) →
    declr_of (rust_declr.Params d opening ps dots closing)
    ≡ tree.params (declr_of d.value) opening (params_from ps.items) (option_map dots_of dots) closing
params_is d opening ps dots closing =
    ap (λ (ps : tree.Params). tree.params (declr_of d.value) opening ps (option_map dots_of dots) closing)
    (params_hidden ps)

pub abs_pointer_is : (star : ℕ) (words : Vec PointerWord Global) (d : Option (Box rust_declr.Declr Global))
    → declr_of (rust_declr.AbsPointer star words d) ≡ tree.abs_pointer star words.items (some_declr_from d)
abs_pointer_is star words d = ap (λ (d : tree.SomeDeclr). tree.abs_pointer star words.items d) (declr_held d)

pub abs_array_is : (d : Option (Box rust_declr.Declr Global)) (opening : ℕ) (words : Vec ArrayWord Global)
    (size : Option rust_array_size.ArraySize) (closing : ℕ) →
    declr_of (rust_declr.AbsArray d opening words size closing)
    ≡ tree.abs_array (some_declr_from d) opening words.items (some_size_from size) closing
abs_array_is d opening words size closing =
    both (λ (d : tree.SomeDeclr) (size : tree.SomeSize). tree.abs_array d opening words.items size closing)
    (declr_held d) (size_held size)

pub abs_params_is : (d : Option (Box rust_declr.Declr Global)) (opening : ℕ) (ps : Vec rust_param.Param Global)
    (dots : Option Ellipsis) (closing : ℕ) →
    declr_of (rust_declr.AbsParams d opening ps dots closing)
    ≡ tree.abs_params (some_declr_from d) opening (params_from ps.items) (option_map dots_of dots) closing
abs_params_is d opening ps dots closing =
    both (λ (d : tree.SomeDeclr) (ps : tree.Params). tree.abs_params d opening ps (option_map dots_of dots) closing)
    (declr_held d) (params_hidden ps)

pub init_list_is : (list : rust_init_list.InitList) →
    init_list_of list
    ≡ tree.init_list (views.out-InitList list).«open» (init_items_from (views.out-InitList list).items.items)
    (views.out-InitList list).comma (views.out-InitList list).close
unfolding views.out-InitList denote.Hole.Carrier.out
init_list_is (rust_init_list.InitList' opening m items last closing) =
    ap (λ (items : tree.InitItems). tree.init_list opening items last closing)
    (init_items_row _ items ∙ ap init_items_from (sym (rows.items_shown-the_row-InitItem-9 m items)))

pub declaration_is : (d : rust_declaration.Declaration) → declaration_of d ≡
    tree.declaration (views.out-Declaration d).extensions.items
    (spec_words_from (views.out-Declaration d).specs.words.items)
    (init_declrs_from (views.out-Declaration d).declrs.items) (views.out-Declaration d).semi
unfolding views.out-Declaration denote.Hole.Carrier.out
declaration_is (rust_declaration.Declaration' exts m ws n ds semi) =
    both (λ (ws : tree.SpecWords) (ds : tree.InitDeclrs). tree.declaration exts.items ws ds semi) (words_shown m ws)
    (init_declrs_row _ ds ∙ ap init_declrs_from (sym (rows.items_shown-the_row-Declaration-declrs-2-8 n ds)))

pub block_is : (block : rust_block.Block)
    → stmt_of (rust_stmt.Block block) ≡ tree.block block.«open» (block_items_from block.items.items) block.close
block_is block =
    ap (λ (items : tree.BlockItems). tree.block block.«open» items block.close) (block_items_hidden block.items)

pub expr_stmt_is : (e : Option (Box rust_expr.Expr Global)) (semi : ℕ)
    → stmt_of (rust_stmt.ExprStmt e semi) ≡ tree.expr_stmt (some_expr_from e) semi
expr_stmt_is e semi = ap (λ (e : tree.SomeExpr). tree.expr_stmt e semi) (expr_held e)

pub if_is : (keyword opening : ℕ) (e : Box rust_expr.Expr Global) (closing : ℕ) (s : Box rust_stmt.Stmt Global)
    (other : Option (Marked (Box rust_stmt.Stmt Global))) →
    stmt_of (rust_stmt.If keyword opening e closing s other)
    ≡ tree.if_stmt keyword opening (expr_of e.value) closing (stmt_of s.value) (some_else_from other)
if_is keyword opening e closing s other =
    ap (λ (other : tree.SomeElse). tree.if_stmt keyword opening (expr_of e.value) closing (stmt_of s.value) other)
    (else_held other)

pub for_is : (keyword opening : ℕ) (start : rust_for_start.ForStart) (condition : Option (Box rust_expr.Expr Global))
    (semi : ℕ) (step : Option (Box rust_expr.Expr Global)) (closing : ℕ) (s : Box rust_stmt.Stmt Global) →
    stmt_of (rust_stmt.For keyword opening start condition semi step closing s) ≡ tree.for_stmt keyword opening
    (for_start_of start) (some_expr_from condition) semi (some_expr_from step) closing (stmt_of s.value)
for_is keyword opening start condition semi step closing s =
    both (λ (e e2 : tree.SomeExpr). tree.for_stmt keyword opening (for_start_of start) e semi e2 closing
    (stmt_of s.value)) (expr_held condition) (expr_held step)

pub return_is : (keyword : ℕ) (e : Option (Box rust_expr.Expr Global)) (semi : ℕ)
    → stmt_of (rust_stmt.Return keyword e semi) ≡ tree.return_stmt keyword (some_expr_from e) semi
return_is keyword e semi = ap (λ (e : tree.SomeExpr). tree.return_stmt keyword e semi) (expr_held e)

pub start_value_is : (e : Option (Box rust_expr.Expr Global)) (semi : ℕ)
    → for_start_of (rust_for_start.Value e semi) ≡ tree.start_value (some_expr_from e) semi
start_value_is e semi = ap (λ (e : tree.SomeExpr). tree.start_value e semi) (expr_held e)
