-- The tape of a unit: its nodes in post-order, children in token order.
--
-- A line a node. Attributes, `asm`, assertions, labels and jumps have no op, and no token of theirs is in one.
use Rattle.c_words.specs.declared.kinds.Punct.{Punct}
use Rattle.c_words.specs.declared.kinds.Punct.TheVariants as signs
use Rattle.std.specs.Prelude.{ℕ, suc, Bool, true, false, ◌&&◌, if◌then◌else◌, List, [], ◌∷◌, ◌++◌, Option, None, Some, map}
use Rattle.c_words.specs.declared.kinds.Keyword.TheVariants as keywords
use Rattle.c_syntax.specs.declared.parts.Identifier.{Identifier}
use Rattle.c_syntax.specs.declared.parts.Word.{Word}
use Rattle.c_syntax.specs.declared.parts.Qual.{Qual}
use Rattle.c_syntax.specs.declared.parts.PointerWord.{PointerWord}
use Rattle.c_syntax.specs.declared.parts.PointerWord.TheVariants as pointer_words
use Rattle.c_syntax.specs.declared.parts.ArrayWord.{ArrayWord}
use Rattle.c_syntax.specs.declared.parts.ArrayWord.TheVariants as array_words
use Rattle.tape_ops.specs.declared.op.Op.{Op}
use Rattle.tape_ops.specs.declared.op.Op.TheVariants as ops
use Rattle.tape_ops.specs.declared.expression.ExprOp.{ExprOp}
use Rattle.tape_ops.specs.declared.expression.ExprOp.TheVariants as exprs
use Rattle.tape_ops.specs.declared.form.FormOp.{FormOp}
use Rattle.tape_ops.specs.declared.form.FormOp.TheVariants as forms
use Rattle.tape_ops.specs.declared.initialiser.InitOp.{InitOp}
use Rattle.tape_ops.specs.declared.initialiser.InitOp.TheVariants as inits
use Rattle.tape_ops.specs.declared.specifier.SpecOp.{SpecOp}
use Rattle.tape_ops.specs.declared.specifier.SpecOp.TheVariants as specs
use Rattle.tape_ops.specs.declared.specifier.TagKind.{TagKind}
use Rattle.tape_ops.specs.declared.specifier.TagKind.TheVariants as tags
use Rattle.tape_ops.specs.declared.declarator.DeclrOp.{DeclrOp}
use Rattle.tape_ops.specs.declared.declarator.DeclrOp.TheVariants as declrs
use Rattle.tape_ops.specs.declared.statement.StmtOp.{StmtOp}
use Rattle.tape_ops.specs.declared.statement.StmtOp.TheVariants as stmts
use Rattle.c_tree.specs.Addresses.{comes_by_pointer}
use Rattle.c_tree.specs.Tree.{Expr, operation, cast, prefix, sizeof_value, sizeof_type, extension, index, call, dot, arrow, post, compound, name_use, number_use, char_use, text_use, paren, statement_expr, va_arg, va_start, va_copy, offset, Operator, comma, assign, cond, binary, SomeExpr, no_expr, some_expr, Exprs, no_exprs, more_exprs, SpecWords, no_words, more_words, SpecWord, storage, thread, inline_word, noreturn, qualifier, basic, struct_type, enum_type, typedef_name, attribute, SomeBody, no_body, some_body, StructItems, no_struct_items, more_struct_items, StructItem, member, member_semi, member_assert, MemDeclrs, no_mem_declrs, more_mem_declrs, MemDeclr, named, unnamed, SomeValue, no_value, some_value, EnumType, enum_of, SomeEnumBody, no_enum_body, some_enum_body, Enumerators, no_enumerators, more_enumerators, Declr, pointer, declr_name, declr_paren, array, params, abs_pointer, abs_paren, abs_array, abs_params, SomeDeclr, no_declr, some_declr, SomeSize, no_size, some_size, ArraySize, size_value, size_star, Params, no_params, more_params, Init, init_value, init_braced, InitList, init_list, InitItems, no_init_items, more_init_items, Desigs, no_desigs, more_desigs, Desig, member_desig, index_desig, SomeInit, no_init, some_init, InitDeclrs, no_init_declrs, more_init_declrs, Declaration, declaration, Decl, decl_declaration, decl_assert, BlockItems, no_block_items, more_block_items, BlockItem, block_decl, block_stmt, Stmt, block, expr_stmt, attr_stmt, label, case_stmt, default_stmt, if_stmt, switch_stmt, while_stmt, do_stmt, for_stmt, goto_stmt, continue_stmt, break_stmt, return_stmt, asm_stmt, SomeElse, no_else, some_else, ForStart, start_declaration, start_value, Dots, identifiers, base_name, typeof_value, typeof_type, align, auto_word, complex_part, label_use, compat, choose, generic, Assocs, no_assocs, more_assocs, Assoc, typed_assoc, default_assoc, range_desig, old_desig, block_labels, case_range, goto_value}
use Rattle.c_syntax.specs.declared.declaration.Item as rust_item
use Rattle.c_tree.specs.Unit.{item_of, Item, function_item, old_function_item, decl_item, asm_item, semi_item}
use Rattle.c_tree.specs.Ends.{first_token, last_token, first_text}
use Rattle.c_tree.specs.Firsts.{qual_token, first_word}
use Rattle.c_tape.specs.Tests.{is_void, tag_kind, says_none, has_ellipsis, declares_tag, are_auto, is_name, is_end, ends_in_value}

-- a tape of one node

-- a tape of one node of an expression
abbrev pub expr : ExprOp → List Op
expr op = ops.Expr op ∷ []

-- a tape of one node of a form: a cast, `sizeof`, `_Generic`, a step of an offset and the like
abbrev pub form : FormOp → List Op
form op = ops.Form op ∷ []

-- a tape of one node of an initialiser
abbrev pub init : InitOp → List Op
init op = ops.Init op ∷ []

-- a tape of one node of specifiers
abbrev pub spec : SpecOp → List Op
spec op = ops.Spec op ∷ []

-- a tape of one node of a declarator
abbrev pub declr : DeclrOp → List Op
declr op = ops.Declr op ∷ []

-- a tape of one node of a statement
abbrev pub stmt : StmtOp → List Op
stmt op = ops.Stmt op ∷ []

-- qualifiers

-- a qualifier, by its token
abbrev pub qual_tape : Qual → List Op
qual_tape q = spec (specs.Word (qual_token q))

-- qualifiers in the order of their tokens
abbrev pub quals_tape : List Qual → List Op
quals_tape [] = []
quals_tape (q ∷ qs) = qual_tape q ++ quals_tape qs

-- a qualifier behind the `*` of a pointer; an attribute there says nothing
abbrev pub pointer_word_tape : PointerWord → List Op
pointer_word_tape (pointer_words.Qual q) = qual_tape q
pointer_word_tape (pointer_words.Attr attr) = []

-- the qualifiers behind the `*` of a pointer
abbrev pub pointer_words_tape : List PointerWord → List Op
pointer_words_tape [] = []
pointer_words_tape (word ∷ words) = pointer_word_tape word ++ pointer_words_tape words

-- a qualifier behind the `[` of an array declarator; `static` there says nothing
abbrev pub array_word_tape : ArrayWord → List Op
array_word_tape (array_words.Static token) = []
array_word_tape (array_words.Qual q) = qual_tape q

-- the qualifiers behind the `[` of an array declarator
abbrev pub array_words_tape : List ArrayWord → List Op
array_words_tape [] = []
array_words_tape (word ∷ words) = array_word_tape word ++ array_words_tape words

-- the qualifiers before `...`
abbrev pub dots_tape : Option Dots → List Op
dots_tape None = []
dots_tape (Some dots) = quals_tape dots.quals

-- what the type of a declarator is made of, beginning with what is nearest to the type of the specifiers
abbrev mutual
  -- the pointers, arrays and functions of a declarator
  pub pieces : Declr → List Op
  pieces (pointer star words d) = pointer_words_tape words ++ declr declrs.Pointer ++ pieces d
  pieces (declr_name token name) = []
  pieces (declr_paren opening attrs d closing) = pieces d
  pieces (array d opening words size closing) = array_words_tape words ++ declr declrs.Array ++ pieces d
  pieces (params d opening ps dots closing) =
      dots_tape dots ++ declr (declrs.Function (has_ellipsis ps dots)) ++ pieces d
  pieces (abs_pointer star words d) = pointer_words_tape words ++ declr declrs.Pointer ++ some_pieces d
  pieces (abs_paren opening attrs d closing) = pieces d
  pieces (abs_array d opening words size closing) = array_words_tape words ++ declr declrs.Array ++ some_pieces d
  pieces (abs_params d opening ps dots closing) =
      dots_tape dots ++ declr (declrs.Function (has_ellipsis ps dots)) ++ some_pieces d
  pieces (identifiers d opening names closing) = declr (declrs.Function false) ++ pieces d
  pieces (base_name token) = []

  -- those of a declarator that may be absent
  pub some_pieces : SomeDeclr → List Op
  some_pieces no_declr = []
  some_pieces (some_declr d) = pieces d

-- a list of an initialiser once more, with the targets of its values

-- which member or element a designator chooses
abbrev pub desig_tape : Desig → List Op
desig_tape (member_desig before name) = init (inits.Member name.token name.name)
desig_tape (index_desig opening e closing) = init (inits.Index opening)
desig_tape (range_desig opening e dots e2 closing) = init (inits.Index opening)
desig_tape (old_desig name colon) = init (inits.Member name.token name.name)

-- which member or element the designators of an item choose, the outermost first
abbrev pub desigs_tape : Desigs → List Op
desigs_tape no_desigs = []
desigs_tape (more_desigs d ds) = desig_tape d ++ desigs_tape ds

abbrev mutual
  -- an initialiser once more: a value by its tokens, or a list
  pub rule : Init → List Op
  rule (init_value e) = init (inits.Leaf (first_token e) (last_token e))
  rule (init_braced list) = rule_of_list list

  -- a braced list, once more
  pub rule_of_list : InitList → List Op
  rule_of_list (init_list opening items last closing) =
      init inits.ListBegin ++ rule_of_items items ++ init inits.ListEnd

  -- the items of a list, each behind what its designators choose, once more
  pub rule_of_items : InitItems → List Op
  rule_of_items no_init_items = []
  rule_of_items (more_init_items ds equal i items) = desigs_tape ds ++ rule i ++ rule_of_items items

-- operators with their operands

-- how many arguments a call has
abbrev pub count : Exprs → ℕ
count no_exprs = 0
count (more_exprs e es) = suc (count es)

-- the arguments of a call, behind their values
abbrev pub arguments : Exprs → List Op
arguments no_exprs = []
arguments (more_exprs e es) = expr (exprs.Arg (count es) (first_token e) (last_token e)) ++ arguments es

-- how many associations a `_Generic` has
abbrev pub assoc_count : Assocs → ℕ
assoc_count no_assocs = 0
assoc_count (more_assocs x xs) = suc (assoc_count xs)

-- whether `?:` has a middle operand, which GNU C may leave out
abbrev pub has_middle : SomeExpr → Bool
has_middle no_expr = false
has_middle (some_expr e) = true

-- an operator behind its operands, with its own token and the first and the last of the whole
abbrev pub operator_tape : Operator → ℕ → ℕ → ℕ → List Op
operator_tape comma token first last = expr (exprs.Comma token)
operator_tape (assign p) token first last = expr (exprs.Assign p token first last)
operator_tape (cond middle colon) token first last = expr (exprs.Cond (has_middle middle) token first last)
operator_tape (binary p) token first last = expr (exprs.Binary p token first last)

-- tags

-- a tag without a body
abbrev pub tag_tape : Bool → TagKind → Option Identifier → List Op
tag_tape is_alone kind None = []
tag_tape is_alone kind (Some tag) =
    if is_alone then spec (specs.TagAlone kind tag.token tag.name) else spec (specs.TagUse kind tag.token tag.name)

-- the beginning of a body
abbrev pub body_tape : TagKind → ℕ → Option Identifier → List Op
body_tape kind keyword None = spec (specs.Untagged kind keyword)
body_tape kind keyword (Some tag) = spec (specs.TagBody kind tag.token tag.name)

-- a struct or union without a tag, which a member without a declarator is
abbrev pub unnamed_word_tape : SpecWord → List Op
unnamed_word_tape (storage word) = []
unnamed_word_tape (thread token) = []
unnamed_word_tape (inline_word token) = []
unnamed_word_tape (noreturn token) = []
unnamed_word_tape (qualifier q) = []
unnamed_word_tape (basic word) = []
unnamed_word_tape (struct_type word attrs None body) = spec (specs.UnnamedMember word.token)
unnamed_word_tape (struct_type word attrs (Some tag) body) = []
unnamed_word_tape (enum_type e) = []
unnamed_word_tape (typedef_name name) = []
unnamed_word_tape (attribute attr) = []
unnamed_word_tape (typeof_value keyword opening e closing) = []
unnamed_word_tape (typeof_type word opening ws d closing) = []
unnamed_word_tape (align attr) = []
unnamed_word_tape (auto_word token) = []

-- a struct or union without a tag among specifiers that have no declarator
abbrev pub unnamed_tape : SpecWords → List Op
unnamed_tape no_words = []
unnamed_tape (more_words word words) = unnamed_word_tape word ++ unnamed_tape words

-- what stands round other nodes

-- says nothing, and its value is dropped
abbrev pub quietly : List Op → List Op
quietly tape = stmt stmts.Quiet ++ tape ++ stmt stmts.Loud

-- in a scope of its own
abbrev pub in_scope : List Op → List Op
in_scope tape = stmt stmts.Enter ++ tape ++ stmt stmts.Leave

-- specifiers with these words
abbrev pub specs_with : List Op → List Op
specs_with words = words ++ spec specs.SpecsEnd

-- a type name of specifiers and a declarator, with its first token
abbrev pub type_name_with : List Op → List Op → ℕ → List Op
type_name_with words d first = specs_with words ++ d ++ declr (declrs.TypeName first)

-- a list of parameters, or one that says that there are none
abbrev pub params_with : Bool → Bool → List Op → List Op
params_with own none tape = declr (declrs.ParamsBegin own) ++ (if none then [] else tape) ++ declr declrs.ParamsEnd

-- an operator before its operand, from the tape of the operand only addressed and from that of it taken: that of `&` is
-- only addressed
abbrev pub prefix_tape : ℕ → Punct → Expr → Bool → List Op → List Op → List Op
prefix_tape token signs.Ampersand e aims addressed taken =
    addressed ++ expr (exprs.Prefix signs.Ampersand token (last_token e) (comes_by_pointer false e))
prefix_tape token p e aims addressed taken = taken ++ expr (exprs.Prefix p token (last_token e) aims)

abbrev mutual
  -- an expression; `called`: it stands right before the `(` of a call; `aims`: its place is only addressed, and so is
  -- that of its part through parentheses, `__extension__`, parts and members
  pub tape_in : Bool → Bool → Expr → List Op
  tape_in called aims (operation a op token b) =
      tape_in false false a ++ middle_tape op ++ tape_in false false b
      ++ operator_tape op token (first_token a) (last_token b)
  tape_in called aims (cast opening ws d closing e) =
      type_name_with (words_tape false ws) (some_declr_tape d) (first_word ws) ++ tape_in false false e
      ++ form (forms.Cast opening (last_token e))
  tape_in called aims (prefix token p e) = prefix_tape token p e aims (tape_in false true e) (tape_in false false e)
  tape_in called aims (sizeof_value word e) =
      stmt stmts.Quiet ++ tape_in false false e ++ form (forms.Sizeof word.token)
  tape_in called aims (sizeof_type word opening ws d closing) =
      stmt stmts.Quiet ++ type_name_with (words_tape false ws) (some_declr_tape d) (first_word ws)
      ++ form (forms.Sizeof word.token)
  tape_in called aims (extension keyword e) = tape_in false aims e ++ expr (exprs.Ext keyword)
  tape_in called aims (index a opening b closing) =
      tape_in false false a ++ tape_in false false b ++ expr (exprs.Index opening (first_token a) closing aims)
  tape_in called aims (call f opening es closing) =
      tape_in true false f ++ exprs_tape es ++ arguments es ++ expr (exprs.Call opening (count es))
  tape_in called aims (dot e token name) = tape_in false aims e ++ expr (exprs.Dot token name.token name.name)
  tape_in called aims (arrow e token name) =
      tape_in false false e ++ expr (exprs.Arrow token (first_token e) name.token aims)
      ++ expr (exprs.Dot token name.token name.name)
  tape_in called aims (post e token p) = tape_in false false e ++ expr (exprs.Post p token (first_token e))
  tape_in called aims (compound opening ws d closing list) =
      type_name_with (words_tape false ws) (some_declr_tape d) (first_word ws) ++ init inits.Begin ++ list_tape list
      ++ init (inits.Literal opening) ++ rule_of_list list ++ init inits.LiteralEnd
  tape_in called aims (name_use token name) = expr (exprs.Name called token name)
  tape_in called aims (number_use token) = expr (exprs.Number token)
  tape_in called aims (char_use token) = expr (exprs.Char token)
  tape_in called aims (text_use texts) = expr (exprs.Text (first_text texts))
  tape_in called aims (paren opening e closing) = tape_in false aims e ++ expr (exprs.Paren opening)
  tape_in called aims (statement_expr opening opening2 items closing closing2) =
      in_scope (block_items_tape true items) ++ form (forms.StmtExpr (ends_in_value items) opening)
  tape_in called aims (va_arg keyword opening e separator ws d closing) =
      tape_in false false e ++ type_name_with (words_tape false ws) (some_declr_tape d) (first_word ws)
      ++ form (forms.VaArg keyword closing)
  tape_in called aims (va_start keyword opening a separator b closing) =
      tape_in false false a ++ tape_in false false b ++ form (forms.VaStart keyword closing)
  tape_in called aims (va_copy keyword opening a separator b closing) =
      tape_in false false a ++ tape_in false false b ++ form (forms.VaCopy keyword closing)
  tape_in called aims (offset keyword opening ws d separator name steps closing) =
      stmt stmts.Quiet ++ type_name_with (words_tape false ws) (some_declr_tape d) (first_word ws)
      ++ form (forms.OffsetMember name.token name.name) ++ steps_tape steps ++ form (forms.Offset keyword)
  tape_in called aims (complex_part keyword e) = tape_in false aims e ++ expr (exprs.Ext keyword)
  tape_in called aims (label_use token name) = expr (exprs.Label token)
  tape_in called aims (compat keyword opening ws d separator ws2 d2 closing) =
      stmt stmts.Quiet ++ type_name_with (words_tape false ws) (some_declr_tape d) (first_word ws)
      ++ type_name_with (words_tape false ws2) (some_declr_tape d2) (first_word ws2) ++ form (forms.Compat keyword)
  tape_in called aims (choose keyword opening e separator a separator2 b closing) =
      quietly (tape_in false false e) ++ tape_in false false a ++ tape_in false false b ++ form (forms.Choose keyword)
  tape_in called aims (generic keyword opening e xs closing) =
      stmt stmts.Quiet ++ tape_in false false e ++ form forms.Control ++ assocs_tape xs
      ++ form (forms.Generic keyword (assoc_count xs))

  -- the associations of `_Generic`
  pub assocs_tape : Assocs → List Op
  assocs_tape no_assocs = []
  assocs_tape (more_assocs x xs) = assoc_tape x ++ assocs_tape xs

  -- an association: its type, or none, and then its expression
  pub assoc_tape : Assoc → List Op
  assoc_tape (typed_assoc ws d colon e) =
      type_name_with (words_tape false ws) (some_declr_tape d) (first_word ws) ++ tape_in false false e
  assoc_tape (default_assoc keyword colon e) = form forms.NoType ++ tape_in false false e

  -- what stands between the operands of `?:`
  pub middle_tape : Operator → List Op
  middle_tape comma = []
  middle_tape (assign p) = []
  middle_tape (cond middle colon) = some_expr_tape middle
  middle_tape (binary p) = []

  -- an expression that may be left out
  pub some_expr_tape : SomeExpr → List Op
  some_expr_tape no_expr = []
  some_expr_tape (some_expr e) = tape_in false false e

  -- the values of the arguments of a call
  pub exprs_tape : Exprs → List Op
  exprs_tape no_exprs = []
  exprs_tape (more_exprs e es) = tape_in false false e ++ exprs_tape es

  -- an expression whose value is dropped
  pub dropped_tape : SomeExpr → List Op
  dropped_tape no_expr = []
  dropped_tape (some_expr e) = tape_in false false e ++ stmt stmts.Pop

  -- the steps of an offset
  pub steps_tape : Desigs → List Op
  steps_tape no_desigs = []
  steps_tape (more_desigs d ds) = step_tape d ++ steps_tape ds

  -- a step of an offset: a member, or an index behind its value
  pub step_tape : Desig → List Op
  step_tape (member_desig before name) = form (forms.OffsetMember name.token name.name)
  step_tape (index_desig opening e closing) = tape_in false false e ++ form (forms.OffsetIndex opening)
  step_tape (range_desig opening e dots e2 closing) =
      tape_in false false e ++ quietly (tape_in false false e2) ++ form (forms.OffsetIndex opening)
  step_tape (old_desig name colon) = form (forms.OffsetMember name.token name.name)

  -- the words of specifiers; `alone`: they are a declaration of nothing but a tag
  pub words_tape : Bool → SpecWords → List Op
  words_tape alone no_words = []
  words_tape alone (more_words word ws) = word_tape alone word ++ words_tape alone ws

  -- a word of specifiers; basic types other than `void` are not told apart
  pub word_tape : Bool → SpecWord → List Op
  word_tape alone (storage word) = spec (specs.Storage word.keyword)
  word_tape alone (thread token) = []
  word_tape alone (inline_word token) = spec (specs.Storage keywords.Inline)
  word_tape alone (noreturn token) = []
  word_tape alone (qualifier q) = qual_tape q
  word_tape alone (basic word) = if is_void word.keyword then spec specs.Void else []
  word_tape alone (struct_type word attrs tag body) = struct_tape alone (tag_kind word.keyword) word.token tag body
  word_tape alone (enum_type e) = enum_tape e
  word_tape alone (typedef_name name) = spec (specs.Typedef name.token name.name)
  word_tape alone (attribute attr) = []
  word_tape alone (typeof_value keyword opening e closing) =
      stmt stmts.Quiet ++ spec specs.PartBegin ++ tape_in false false e ++ spec (specs.TypeofEnd closing)
      ++ stmt stmts.Loud
  word_tape alone (typeof_type word opening ws d closing) =
      spec specs.PartBegin ++ type_name_with (words_tape false ws) (some_declr_tape d) (first_word ws)
      ++ spec specs.TypeEnd
  word_tape alone (align attr) = []
  word_tape alone (auto_word token) = []

  -- a struct or union: the use of its tag, or its body
  pub struct_tape : Bool → TagKind → ℕ → Option Identifier → SomeBody → List Op
  struct_tape alone kind keyword tag no_body = tag_tape alone kind tag
  struct_tape alone kind keyword tag (some_body opening items closing) =
      body_tape kind keyword tag ++ struct_items_tape items ++ spec specs.BodyEnd

  -- the members of a struct or union
  pub struct_items_tape : StructItems → List Op
  struct_items_tape no_struct_items = []
  struct_items_tape (more_struct_items item items) = struct_item_tape item ++ struct_items_tape items

  -- a member's declaration; a semicolon or an assertion alone says nothing
  pub struct_item_tape : StructItem → List Op
  struct_item_tape (member extensions ws ds semi) =
      specs_with (words_tape false ws) ++ members_tape ws ds ++ declr declrs.DeclarationEnd
  struct_item_tape (member_semi semi) = []
  struct_item_tape (member_assert it) = []

  -- the members of a declaration with these specifiers
  pub members_tape : SpecWords → MemDeclrs → List Op
  members_tape ws no_mem_declrs = unnamed_tape ws
  members_tape ws (more_mem_declrs attrs d ds) = mem_declr_tape d ++ mem_declrs_tape ds

  -- the declarators of a member's declaration
  pub mem_declrs_tape : MemDeclrs → List Op
  mem_declrs_tape no_mem_declrs = []
  mem_declrs_tape (more_mem_declrs attrs d ds) = mem_declr_tape d ++ mem_declrs_tape ds

  -- a member, or the width of an unnamed bit-field, whose value is not used
  pub mem_declr_tape : MemDeclr → List Op
  mem_declr_tape (named d width attrs) = contents false d ++ pieces d ++ declr declrs.Member ++ some_value_tape width
  mem_declr_tape (unnamed colon e attrs) = quietly (tape_in false false e)

  -- a width or a value, which is not used
  pub some_value_tape : SomeValue → List Op
  some_value_tape no_value = []
  some_value_tape (some_value token e) = quietly (tape_in false false e)

  -- an enumeration type
  pub enum_tape : EnumType → List Op
  enum_tape (enum_of keyword attrs tag body) = enum_body_tape keyword tag body

  -- an enumeration: the use of its tag, or its body
  pub enum_body_tape : ℕ → Option Identifier → SomeEnumBody → List Op
  enum_body_tape keyword tag no_enum_body = tag_tape false tags.Enum tag
  enum_body_tape keyword tag (some_enum_body opening es last closing) =
      body_tape tags.Enum keyword tag ++ enumerators_tape es ++ spec specs.BodyEnd

  -- the enumerators of an enumeration, each behind its value
  pub enumerators_tape : Enumerators → List Op
  enumerators_tape no_enumerators = []
  enumerators_tape (more_enumerators name attrs value es) =
      some_value_tape value ++ spec (specs.Enumerator name.token name.name) ++ enumerators_tape es

  -- a declarator that may be absent
  pub some_declr_tape : SomeDeclr → List Op
  some_declr_tape no_declr = []
  some_declr_tape (some_declr d) = contents false d ++ pieces d

  -- the name, the parameters and the sizes of a declarator
  pub contents : Bool → Declr → List Op
  contents own (pointer star words d) = contents own d
  contents own (declr_name token name) = declr (declrs.DeclName token name)
  contents own (declr_paren opening attrs d closing) = contents own d
  contents own (array d opening words size closing) = contents own d ++ some_size_tape size
  contents own (params d opening ps dots closing) =
      contents own d ++ params_with (own && is_name d) (says_none ps) (params_tape ps)
  contents own (abs_pointer star words d) = some_contents d
  contents own (abs_paren opening attrs d closing) = contents own d
  contents own (abs_array d opening words size closing) = some_contents d ++ some_size_tape size
  contents own (abs_params d opening ps dots closing) =
      some_contents d ++ params_with false (says_none ps) (params_tape ps)
  contents own (identifiers d opening names closing) =
      contents own d ++ declr (declrs.ParamsBegin false) ++ declr declrs.ParamsEnd
  contents own (base_name token) = []

  -- the parameters and sizes of a declarator that may be absent
  pub some_contents : SomeDeclr → List Op
  some_contents no_declr = []
  some_contents (some_declr d) = contents false d

  -- the size of an array, if any
  pub some_size_tape : SomeSize → List Op
  some_size_tape no_size = []
  some_size_tape (some_size size) = size_tape size

  -- the size of an array: an expression, whose value is not used, or `*`
  pub size_tape : ArraySize → List Op
  size_tape (size_value e) = quietly (tape_in false false e)
  size_tape (size_star token) = []

  -- the parameters of a function declarator
  pub params_tape : Params → List Op
  params_tape no_params = []
  params_tape (more_params ws d attrs ps) =
      specs_with (words_tape false ws) ++ some_declr_tape d ++ declr declrs.Param ++ params_tape ps

  -- the expressions of an initialiser
  pub init_tape : Init → List Op
  init_tape (init_value e) = tape_in false false e
  init_tape (init_braced list) = list_tape list

  -- the expressions of a braced list
  pub list_tape : InitList → List Op
  list_tape (init_list opening items last closing) = init_items_tape items

  -- the expressions of the items of a list, each behind the indices of its designators
  pub init_items_tape : InitItems → List Op
  init_items_tape no_init_items = []
  init_items_tape (more_init_items ds equal i items) = indices_tape ds ++ init_tape i ++ init_items_tape items

  -- the indices of designators
  pub indices_tape : Desigs → List Op
  indices_tape no_desigs = []
  indices_tape (more_desigs d ds) = index_tape d ++ indices_tape ds

  -- the index or the bounds of a designator, whose values are not used
  pub index_tape : Desig → List Op
  index_tape (member_desig before name) = []
  index_tape (index_desig opening e closing) = quietly (tape_in false false e)
  index_tape (range_desig opening e dots e2 closing) =
      quietly (tape_in false false e) ++ quietly (tape_in false false e2)
  index_tape (old_desig name colon) = []

  -- the initialiser of the name that was declared last
  pub some_init_tape : SomeInit → List Op
  some_init_tape no_init = []
  some_init_tape (some_init equal i) = declared_init_tape i

  -- an initialiser: one value, or the values of a list and then what each of them initialises
  pub declared_init_tape : Init → List Op
  declared_init_tape (init_value e) = tape_in false false e ++ init (inits.Value (first_token e) (last_token e))
  declared_init_tape (init_braced list) =
      init inits.Begin ++ list_tape list ++ init inits.Rule ++ rule_of_list list ++ init inits.End

  -- the declarators of a declaration, each with its initialiser
  pub init_declrs_tape : InitDeclrs → List Op
  init_declrs_tape no_init_declrs = []
  init_declrs_tape (more_init_declrs attrs d asm_label attrs2 i ds) =
      contents false d ++ pieces d ++ declr declrs.Declare ++ some_init_tape i ++ init_declrs_tape ds

  -- a declaration
  pub declaration_tape : Declaration → List Op
  declaration_tape (declaration extensions ws ds semi) =
      specs_with (words_tape (declares_tag ws ds) ws)
      ++ (if are_auto ws ds then auto_declrs_tape semi ds else init_declrs_tape ds) ++ declr declrs.DeclarationEnd

  -- the declarator of a name that has the type of its initialiser
  pub auto_declrs_tape : ℕ → InitDeclrs → List Op
  auto_declrs_tape semi no_init_declrs = []
  auto_declrs_tape semi (more_init_declrs attrs d asm_label attrs2 i ds) =
      contents false d ++ auto_init_tape semi i ++ auto_declrs_tape semi ds

  -- the initialiser that gives a name its type; one in braces gives none
  pub auto_init_tape : ℕ → SomeInit → List Op
  auto_init_tape semi no_init = []
  auto_init_tape semi (some_init equal (init_value e)) =
      declr declrs.AutoBegin ++ tape_in false false e ++ declr (declrs.AutoEnd semi)
      ++ init (inits.Value (first_token e) (last_token e))
  auto_init_tape semi (some_init equal (init_braced list)) = []

  -- a declaration; a `_Static_assert` says nothing
  pub decl_tape : Decl → List Op
  decl_tape (decl_declaration d) = declaration_tape d
  decl_tape (decl_assert it) = []

  -- the items of a block; `kept`: the value of the last one is that of the block
  pub block_items_tape : Bool → BlockItems → List Op
  block_items_tape kept no_block_items = []
  block_items_tape kept (more_block_items item items) =
      block_item_tape (kept && is_end items) item ++ block_items_tape kept items

  -- an item of a block; `kept`: its value is that of the block
  pub block_item_tape : Bool → BlockItem → List Op
  block_item_tape kept (block_decl d) = decl_tape d
  block_item_tape kept (block_stmt s) = stmt_tape kept s
  block_item_tape kept (block_labels keyword names semi) = []

  -- a statement; `kept`: its value is that of the block around it
  pub stmt_tape : Bool → Stmt → List Op
  stmt_tape kept (block opening items closing) = in_scope (block_items_tape false items)
  stmt_tape kept (expr_stmt e semi) = if kept then some_expr_tape e else dropped_tape e
  stmt_tape kept (attr_stmt attrs semi) = []
  stmt_tape kept (label name colon attrs s) = stmt_tape false s
  stmt_tape kept (case_stmt keyword e colon s) = quietly (tape_in false false e) ++ stmt_tape false s
  stmt_tape kept (default_stmt keyword colon s) = stmt_tape false s
  stmt_tape kept (if_stmt keyword opening e closing s other) =
      in_scope (tape_in false false e ++ stmt stmts.Pop ++ in_scope (stmt_tape false s) ++ some_else_tape other)
  stmt_tape kept (switch_stmt keyword opening e closing s) =
      in_scope (tape_in false false e ++ stmt stmts.Pop ++ in_scope (stmt_tape false s))
  stmt_tape kept (while_stmt keyword opening e closing s) =
      in_scope (tape_in false false e ++ stmt stmts.Pop ++ in_scope (stmt_tape false s))
  stmt_tape kept (do_stmt keyword s keyword2 opening e closing semi) =
      in_scope (in_scope (stmt_tape false s) ++ tape_in false false e ++ stmt stmts.Pop)
  stmt_tape kept (for_stmt keyword opening start e semi e2 closing s) =
      in_scope (for_start_tape start ++ dropped_tape e ++ dropped_tape e2 ++ in_scope (stmt_tape false s))
  stmt_tape kept (goto_stmt keyword name semi) = []
  stmt_tape kept (continue_stmt keyword semi) = []
  stmt_tape kept (break_stmt keyword semi) = []
  stmt_tape kept (return_stmt keyword e semi) = return_tape keyword e semi
  stmt_tape kept (asm_stmt keyword words group semi) = []
  stmt_tape kept (case_range keyword e dots e2 colon s) =
      quietly (tape_in false false e) ++ quietly (tape_in false false e2) ++ stmt_tape false s
  stmt_tape kept (goto_value keyword star e semi) = tape_in false false e ++ stmt stmts.Pop

  -- the statement behind `else`, if any
  pub some_else_tape : SomeElse → List Op
  some_else_tape no_else = []
  some_else_tape (some_else keyword s) = in_scope (stmt_tape false s)

  -- the first clause of a `for`
  pub for_start_tape : ForStart → List Op
  for_start_tape (start_declaration d) = declaration_tape d
  for_start_tape (start_value e semi) = dropped_tape e

  -- the value that is returned, if any
  pub return_tape : ℕ → SomeExpr → ℕ → List Op
  return_tape keyword no_expr semi = []
  return_tape keyword (some_expr e) semi = tape_in false false e ++ stmt (stmts.Return keyword semi)

-- an expression; `called`: it stands right before the `(` of a call
abbrev pub expr_tape : Bool → Expr → List Op
expr_tape called e = tape_in called false e

-- an expression whose place is only addressed
abbrev pub addressed_tape : Expr → List Op
addressed_tape e = tape_in false true e

-- identifiers of a list
abbrev pub identifiers_tape : List Identifier → List Op
identifiers_tape [] = []
identifiers_tape (name ∷ names) = declr (declrs.Identifier name.token name.name) ++ identifiers_tape names

-- the declarators of a declaration of parameters
abbrev pub old_declrs_tape : InitDeclrs → List Op
old_declrs_tape no_init_declrs = []
old_declrs_tape (more_init_declrs attrs d asm_label attrs2 i ds) =
    contents false d ++ pieces d ++ declr declrs.OldParam ++ some_init_tape i ++ old_declrs_tape ds

-- a declaration of parameters behind a list of identifiers
abbrev pub old_declaration_tape : Declaration → List Op
old_declaration_tape (declaration extensions ws ds semi) =
    specs_with (words_tape (declares_tag ws ds) ws)
    ++ (if are_auto ws ds then auto_declrs_tape semi ds else old_declrs_tape ds) ++ declr declrs.DeclarationEnd

-- the declarations behind a list of identifiers
abbrev pub old_declarations_tape : List Declaration → List Op
old_declarations_tape [] = []
old_declarations_tape (d ∷ ds) = old_declaration_tape d ++ old_declarations_tape ds

-- a declarator with a list of identifiers: the declarations of these stand where those of parameters do
abbrev mutual
  -- the name, the identifiers with their declarations, and the sizes of such a declarator
  pub old_contents : List Declaration → Declr → List Op
  old_contents ds (identifiers d opening names closing) =
      contents false d ++ declr (declrs.ParamsBegin true) ++ identifiers_tape names ++ old_declarations_tape ds
      ++ declr declrs.ParamsEnd
  old_contents ds (pointer star words d) = old_contents ds d
  old_contents ds (declr_paren opening attrs d closing) = old_contents ds d
  old_contents ds (array d opening words size closing) = old_contents ds d ++ some_size_tape size
  old_contents ds (params d opening ps dots closing) =
      old_contents ds d ++ params_with false (says_none ps) (params_tape ps)
  old_contents ds (declr_name token name) = contents false (declr_name token name)
  old_contents ds (base_name token) = contents false (base_name token)
  old_contents ds (abs_pointer star words d) = contents false (abs_pointer star words d)
  old_contents ds (abs_paren opening attrs d closing) = contents false (abs_paren opening attrs d closing)
  old_contents ds (abs_array d opening words size closing) = contents false (abs_array d opening words size closing)
  old_contents ds (abs_params d opening ps dots closing) = contents false (abs_params d opening ps dots closing)

-- an item of a unit
abbrev pub item_tape : Item → List Op
item_tape (function_item extensions ws d attrs opening items closing) =
    specs_with (words_tape false ws) ++ contents true d ++ pieces d ++ declr declrs.Declare ++ stmt stmts.FunctionBody
    ++ block_items_tape false items ++ stmt stmts.FunctionEnd ++ declr declrs.DeclarationEnd
item_tape (old_function_item extensions ws d attrs ds opening items closing) =
    specs_with (words_tape false ws) ++ old_contents ds d ++ pieces d ++ declr declrs.Declare ++ stmt stmts.FunctionBody
    ++ block_items_tape false items ++ stmt stmts.FunctionEnd ++ declr declrs.DeclarationEnd
item_tape (decl_item d) = decl_tape d
item_tape (asm_item keyword group semi) = []
item_tape (semi_item semi) = []

-- the items of a unit, in the order of their tokens
abbrev pub tape_of : List Item → List Op
tape_of [] = []
tape_of (item ∷ items) = item_tape item ++ tape_of items

-- of the items that a program has
abbrev pub items_tape : List rust_item.Item → List Op
items_tape items = tape_of (map item_of items)
