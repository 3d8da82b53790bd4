-- The trees of nodes with lists, as `c_tree` has them.
use Rattle.std.proofs.Common.{◌≡◌, ℕ, suc, List, [], ◌∷◌, length, Vec, Box, Option, Global, refl, ap}
use Rattle.c_syntax.specs.declared.parts.Attr.{Attr}
use Rattle.c_syntax.specs.declared.parts.Marked.{Marked}
use Rattle.c_syntax.specs.declared.declaration.Declaration as rust_declaration
use Rattle.c_syntax.specs.declared.declarator.Declr as rust_declr
use Rattle.c_syntax.specs.declared.expression.Assoc as rust_assoc
use Rattle.c_syntax.specs.declared.expression.Expr as rust_expr
use Rattle.c_syntax.specs.declared.declarator.TypeName as rust_type_name
use Rattle.c_syntax.specs.declared.parts.Word.{Word}
use Rattle.c_syntax.specs.declared.initialiser.InitList as rust_init_list
use Rattle.c_syntax.specs.declared.specifier.Enum as rust_enum
use Rattle.c_syntax.specs.declared.specifier.MemDeclr as rust_mem_declr
use Rattle.c_syntax.specs.declared.specifier.Member as rust_member
use Rattle.c_syntax.specs.declared.specifier.SpecWord as rust_spec_word
use Rattle.c_syntax.specs.declared.specifier.Struct as rust_struct
use Rattle.c_syntax.specs.declared.specifier.StructItem as rust_struct_item
use Rattle.c_syntax.specs.declared.statement.Stmt as rust_stmt
use Rattle.c_syntax.specs.declared.statement.BlockItem as rust_block_item
use Rattle.c_tree.specs.Tree as tree
use Rattle.c_tree.specs.View.{stmt_of, block_item_of, assoc_of, expr_of, spec_word_of, struct_item_of, mem_declr_of, enum_type_of, declr_of, init_list_of, declaration_of}
use Rattle.c_tree.specs.Unit.{spec_words_from}
use Rattle.c_tape.specs.Tape.{assoc_count}
use Rattle.c_tree.specs.Lists.{assocs_from, some_declr_from, some_body_from, mem_declrs_from, some_value_from, some_enum_body_from, init_items_from, init_declrs_from}
use Rattle.c_syntax.specs.declared.declaration.Decl.TheViews as views
use Rattle.c_tree.proofs.ViewLemmas as nodes

pub init_list_is : (list : rust_init_list.InitList) →
    init_list_of list
    ≡ tree.init_list (views.out-InitList list).«open» (init_items_from (views.out-InitList list).items.items)
    (views.out-InitList list).comma (views.out-InitList list).close
init_list_is list = nodes.init_list_is list

pub struct_is : (s : Box rust_struct.Struct Global) →
    spec_word_of (rust_spec_word.Struct s)
    ≡ tree.struct_type s.value.keyword s.value.attrs.items s.value.tag (some_body_from s.value.body)
struct_is s = nodes.struct_is s

pub member_is : (m : rust_member.Member) →
    struct_item_of (rust_struct_item.Member m)
    ≡ tree.member m.extensions.items (spec_words_from m.specs.words.items) (mem_declrs_from m.declrs.items) m.semi
member_is m = nodes.member_is m

pub named_is : (d : Box rust_declr.Declr Global) (width : Option (Marked (Box rust_expr.Expr Global)))
    (attrs : Vec Attr Global) →
    mem_declr_of (rust_mem_declr.Named d width attrs)
    ≡ tree.named (declr_of d.value) (some_value_from width) attrs.items
named_is d width attrs = nodes.named_is d width attrs

pub enum_is : (e : rust_enum.Enum) →
    enum_type_of e ≡ tree.enum_of (views.out-Enum e).keyword (views.out-Enum e).attrs.items (views.out-Enum e).tag
    (some_enum_body_from (views.out-Enum e).body)
enum_is e = nodes.enum_is e

pub declaration_is : (d : rust_declaration.Declaration) →
    declaration_of d ≡ tree.declaration (views.out-Declaration d).extensions.items
    (spec_words_from (views.out-Declaration d).specs.words.items)
    (init_declrs_from (views.out-Declaration d).declrs.items) (views.out-Declaration d).semi
declaration_is d = nodes.declaration_is d

pub typeof_type_is : (word : Word) (opening : ℕ) (t : rust_type_name.TypeName) (closing : ℕ) →
    spec_word_of (rust_spec_word.TypeofType word opening t closing)
    ≡ tree.typeof_type word opening (spec_words_from t.specs.words.items) (some_declr_from t.declr) closing
typeof_type_is word opening t closing = nodes.typeof_type_is word opening t closing

pub typed_assoc_is : (t : rust_type_name.TypeName) (colon : ℕ) (e : Box rust_expr.Expr Global) →
    assoc_of (rust_assoc.Typed t colon e)
    ≡ tree.typed_assoc (spec_words_from t.specs.words.items) (some_declr_from t.declr) colon (expr_of e.value)
typed_assoc_is t colon e = nodes.typed_assoc_is t colon e

-- associations are as many in the tree
pub counted : (xs : List rust_assoc.Assoc) → length xs ≡ assoc_count (assocs_from xs)
counted [] = refl
counted (x ∷ xs) = ap suc (counted xs)

pub stmt_item_is : (s : Box rust_stmt.Stmt Global)
    → block_item_of (rust_block_item.Stmt s) ≡ tree.block_stmt (stmt_of s.value)
stmt_item_is s = refl
