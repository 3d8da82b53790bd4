-- Units with their tapes, worked out by hand. In the text above each, the number of a token stands behind it;
-- names are numbered from 0, as they first stand in it.
use Rattle.std.specs.Prelude.{◌≡◌, ℕ, true, false, List, [], ◌∷◌, ◌++◌, None, Some}
use Rattle.c_words.specs.declared.kinds.Punct.TheVariants as puncts
use Rattle.c_words.specs.declared.kinds.Keyword.{Keyword}
use Rattle.c_words.specs.declared.kinds.Keyword.TheVariants as keywords
use Rattle.c_syntax.specs.declared.parts.Identifier.{Identifier}
use Rattle.c_syntax.specs.declared.parts.Word.{Word}
use Rattle.c_syntax.specs.declared.parts.Qual.TheVariants as quals
use Rattle.tape_ops.specs.declared.op.Op.{Op}
use Rattle.tape_ops.specs.declared.expression.ExprOp.TheVariants as exprs
use Rattle.tape_ops.specs.declared.form.FormOp.TheVariants as forms
use Rattle.tape_ops.specs.declared.initialiser.InitOp.TheVariants as inits
use Rattle.tape_ops.specs.declared.specifier.SpecOp.TheVariants as specs
use Rattle.tape_ops.specs.declared.specifier.TagKind.TheVariants as tags
use Rattle.tape_ops.specs.declared.declarator.DeclrOp.TheVariants as declrs
use Rattle.tape_ops.specs.declared.statement.StmtOp.TheVariants as stmts
use Rattle.c_tree.specs.Tree as tree
use Rattle.c_tree.specs.Unit.{Item, function_item, decl_item}
use Rattle.c_tape.specs.Tape.{expr, form, init, spec, declr, stmt, tape_of}

-- a keyword at a token
abbrev pub word : ℕ → Keyword → Word
word token keyword = record { token = token; keyword = keyword }

-- a name at a token
abbrev pub ident : ℕ → ℕ → Identifier
ident token name = record { token = token; name = name }

-- a pointer and a name of one declaration: `int0 x1 ,2 *3 y4 ;5`
abbrev pub unit1 : List Item
unit1 =
    decl_item
    (tree.decl_declaration
    (tree.declaration [] (tree.more_words (tree.basic (word 0 keywords.Int)) tree.no_words)
    (tree.more_init_declrs [] (tree.declr_name 1 0) None [] tree.no_init
    (tree.more_init_declrs [] (tree.pointer 3 [] (tree.declr_name 4 1)) None [] tree.no_init
    tree.no_init_declrs))
    5))
    ∷ []

-- its tape
abbrev pub tape1 : List Op
tape1 =
    spec specs.SpecsEnd ++ declr (declrs.DeclName 1 0) ++ declr declrs.Declare ++ declr (declrs.DeclName 4 1)
    ++ declr declrs.Pointer ++ declr declrs.Declare ++ declr declrs.DeclarationEnd

-- a function that gives a pointer to a function:
-- `int0 (1 *2 f3 (4 int5 a6 )7 )8 (9 void10 )11 {12 return13 a14 ;15 }16`
abbrev pub unit2 : List Item
unit2 =
    function_item [] (tree.more_words (tree.basic (word 0 keywords.Int)) tree.no_words)
    (tree.params
    (tree.declr_paren 1 []
    (tree.pointer 2 []
    (tree.params (tree.declr_name 3 0) 4
    (tree.more_params (tree.more_words (tree.basic (word 5 keywords.Int)) tree.no_words)
    (tree.some_declr (tree.declr_name 6 1)) [] tree.no_params)
    None 7))
    8)
    9
    (tree.more_params (tree.more_words (tree.basic (word 10 keywords.Void)) tree.no_words)
    tree.no_declr [] tree.no_params)
    None 11)
    [] 12
    (tree.more_block_items (tree.block_stmt (tree.return_stmt 13 (tree.some_expr (tree.name_use 14 1)) 15))
    tree.no_block_items)
    16
    ∷ []

-- its tape
abbrev pub tape2 : List Op
tape2 =
    spec specs.SpecsEnd ++ declr (declrs.DeclName 3 0) ++ declr (declrs.ParamsBegin true) ++ spec specs.SpecsEnd
    ++ declr (declrs.DeclName 6 1) ++ declr declrs.Param ++ declr declrs.ParamsEnd
    ++ declr (declrs.ParamsBegin false) ++ declr declrs.ParamsEnd ++ declr (declrs.Function false)
    ++ declr declrs.Pointer ++ declr (declrs.Function false) ++ declr declrs.Declare
    ++ stmt stmts.FunctionBody ++ expr (exprs.Name false 14 1) ++ stmt (stmts.Return 13 15)
    ++ stmt stmts.FunctionEnd ++ declr declrs.DeclarationEnd

-- members, one of them a struct without a tag:
-- `struct0 s1 {2 const3 int4 x5 :6 3_7 ;8 struct9 {10 int11 y12 ;13 }14 ;15 }16 ;17`
abbrev pub unit3 : List Item
unit3 =
    decl_item
    (tree.decl_declaration
    (tree.declaration []
    (tree.more_words
    (tree.struct_type (word 0 keywords.Struct) [] (Some (ident 1 0))
    (tree.some_body 2
    (tree.more_struct_items
    (tree.member []
    (tree.more_words
    (tree.qualifier (quals.Word (word 3 keywords.Const)))
    (tree.more_words (tree.basic (word 4 keywords.Int))
    tree.no_words))
    (tree.more_mem_declrs []
    (tree.named (tree.declr_name 5 1)
    (tree.some_value 6 (tree.number_use 7)) [])
    tree.no_mem_declrs)
    8)
    (tree.more_struct_items
    (tree.member []
    (tree.more_words
    (tree.struct_type (word 9 keywords.Struct) [] None
    (tree.some_body 10
    (tree.more_struct_items
    (tree.member []
    (tree.more_words
    (tree.basic (word 11 keywords.Int))
    tree.no_words)
    (tree.more_mem_declrs []
    (tree.named (tree.declr_name 12 2)
    tree.no_value [])
    tree.no_mem_declrs)
    13)
    tree.no_struct_items)
    14))
    tree.no_words)
    tree.no_mem_declrs 15)
    tree.no_struct_items))
    16))
    tree.no_words)
    tree.no_init_declrs 17))
    ∷ []

-- its tape
abbrev pub tape3 : List Op
tape3 =
    spec (specs.TagBody tags.Struct 1 0) ++ spec (specs.Word 3) ++ spec specs.SpecsEnd
    ++ declr (declrs.DeclName 5 1) ++ declr declrs.Member ++ stmt stmts.Quiet ++ expr (exprs.Number 7)
    ++ stmt stmts.Loud ++ declr declrs.DeclarationEnd
    ++ spec (specs.Untagged tags.Struct 9) ++ spec specs.SpecsEnd ++ declr (declrs.DeclName 12 2)
    ++ declr declrs.Member ++ declr declrs.DeclarationEnd ++ spec specs.BodyEnd ++ spec specs.SpecsEnd
    ++ spec (specs.UnnamedMember 9) ++ declr declrs.DeclarationEnd
    ++ spec specs.BodyEnd ++ spec specs.SpecsEnd ++ declr declrs.DeclarationEnd

-- a tag alone, and one with a qualifier: `struct0 s1 ;2 const3 union4 s5 ;6`
abbrev pub unit4 : List Item
unit4 =
    decl_item
    (tree.decl_declaration
    (tree.declaration []
    (tree.more_words
    (tree.struct_type (word 0 keywords.Struct) [] (Some (ident 1 0)) tree.no_body)
    tree.no_words)
    tree.no_init_declrs 2))
    ∷ decl_item
    (tree.decl_declaration
    (tree.declaration []
    (tree.more_words (tree.qualifier (quals.Word (word 3 keywords.Const)))
    (tree.more_words
    (tree.struct_type (word 4 keywords.Union) [] (Some (ident 5 0)) tree.no_body)
    tree.no_words))
    tree.no_init_declrs 6))
    ∷ []

-- its tape
abbrev pub tape4 : List Op
tape4 =
    spec (specs.TagAlone tags.Struct 1 0) ++ spec specs.SpecsEnd ++ declr declrs.DeclarationEnd
    ++ spec (specs.Word 3) ++ spec (specs.TagUse tags.Union 5 0) ++ spec specs.SpecsEnd
    ++ declr declrs.DeclarationEnd

-- a list with a designator: `T0 a1 [2 2_3 ]4 =5 {6 [7 1_8 ]9 =10 b11 ,12 {13 3_14 }15 }16 ;17`
abbrev pub unit5 : List Item
unit5 =
    decl_item
    (tree.decl_declaration
    (tree.declaration []
    (tree.more_words (tree.typedef_name (record { token = 0; name = 0 })) tree.no_words)
    (tree.more_init_declrs []
    (tree.array (tree.declr_name 1 1) 2 []
    (tree.some_size (tree.size_value (tree.number_use 3))) 4)
    None []
    (tree.some_init 5
    (tree.init_braced
    (tree.init_list 6
    (tree.more_init_items
    (tree.more_desigs (tree.index_desig 7 (tree.number_use 8) 9)
    tree.no_desigs)
    (Some 10) (tree.init_value (tree.name_use 11 2))
    (tree.more_init_items tree.no_desigs None
    (tree.init_braced
    (tree.init_list 13
    (tree.more_init_items tree.no_desigs None
    (tree.init_value (tree.number_use 14))
    tree.no_init_items)
    None 15))
    tree.no_init_items))
    None 16)))
    tree.no_init_declrs)
    17))
    ∷ []

-- its tape
abbrev pub tape5 : List Op
tape5 =
    spec (specs.Typedef 0 0) ++ spec specs.SpecsEnd ++ declr (declrs.DeclName 1 1) ++ stmt stmts.Quiet
    ++ expr (exprs.Number 3) ++ stmt stmts.Loud ++ declr declrs.Array ++ declr declrs.Declare
    ++ init inits.Begin ++ stmt stmts.Quiet ++ expr (exprs.Number 8) ++ stmt stmts.Loud
    ++ expr (exprs.Name false 11 2) ++ expr (exprs.Number 14)
    ++ init inits.Rule ++ init inits.ListBegin ++ init (inits.Index 7) ++ init (inits.Leaf 11 11)
    ++ init inits.ListBegin ++ init (inits.Leaf 14 14) ++ init inits.ListEnd ++ init inits.ListEnd
    ++ init inits.End ++ declr declrs.DeclarationEnd

-- a call with two arguments, and both parts of an if:
-- `void0 f1 (2 void3 )4 {5 if6 (7 a8 )9 g10 (11 b12 ,13 c14 ->15 m16 )17 ;18 else19 ;20 }21`
abbrev pub unit6 : List Item
unit6 =
    function_item [] (tree.more_words (tree.basic (word 0 keywords.Void)) tree.no_words)
    (tree.params (tree.declr_name 1 0) 2
    (tree.more_params (tree.more_words (tree.basic (word 3 keywords.Void)) tree.no_words) tree.no_declr
    [] tree.no_params)
    None 4)
    [] 5
    (tree.more_block_items
    (tree.block_stmt
    (tree.if_stmt 6 7 (tree.name_use 8 1) 9
    (tree.expr_stmt
    (tree.some_expr
    (tree.call (tree.name_use 10 2) 11
    (tree.more_exprs (tree.name_use 12 3)
    (tree.more_exprs (tree.arrow (tree.name_use 14 4) 15 (ident 16 5))
    tree.no_exprs))
    17))
    18)
    (tree.some_else 19 (tree.expr_stmt tree.no_expr 20))))
    tree.no_block_items)
    21
    ∷ []

-- its tape
abbrev pub tape6 : List Op
tape6 =
    spec specs.Void ++ spec specs.SpecsEnd ++ declr (declrs.DeclName 1 0) ++ declr (declrs.ParamsBegin true)
    ++ declr declrs.ParamsEnd ++ declr (declrs.Function false) ++ declr declrs.Declare
    ++ stmt stmts.FunctionBody
    ++ stmt stmts.Enter ++ expr (exprs.Name false 8 1) ++ stmt stmts.Pop ++ stmt stmts.Enter
    ++ expr (exprs.Name true 10 2) ++ expr (exprs.Name false 12 3) ++ expr (exprs.Name false 14 4)
    ++ expr (exprs.Arrow 15 14 16 false) ++ expr (exprs.Dot 15 16 5)
    ++ expr (exprs.Arg 1 12 12) ++ expr (exprs.Arg 0 14 16) ++ expr (exprs.Call 11 2) ++ stmt stmts.Pop
    ++ stmt stmts.Leave ++ stmt stmts.Enter ++ stmt stmts.Leave ++ stmt stmts.Leave ++ stmt stmts.FunctionEnd
    ++ declr declrs.DeclarationEnd

-- a size, and the value of a block: `int0 x1 =2 sizeof3 (4 int5 )6 +7 (8 {9 1_10 ;11 x12 ;13 }14 )15 ;16`
abbrev pub unit7 : List Item
unit7 =
    decl_item
    (tree.decl_declaration
    (tree.declaration [] (tree.more_words (tree.basic (word 0 keywords.Int)) tree.no_words)
    (tree.more_init_declrs [] (tree.declr_name 1 0) None []
    (tree.some_init 2
    (tree.init_value
    (tree.operation
    (tree.sizeof_type (word 3 keywords.Sizeof) 4
    (tree.more_words (tree.basic (word 5 keywords.Int)) tree.no_words)
    tree.no_declr 6)
    (tree.binary puncts.Plus) 7
    (tree.statement_expr 8 9
    (tree.more_block_items
    (tree.block_stmt
    (tree.expr_stmt (tree.some_expr (tree.number_use 10)) 11))
    (tree.more_block_items
    (tree.block_stmt
    (tree.expr_stmt (tree.some_expr (tree.name_use 12 0))
    13))
    tree.no_block_items))
    14 15))))
    tree.no_init_declrs)
    16))
    ∷ []

-- its tape
abbrev pub tape7 : List Op
tape7 =
    spec specs.SpecsEnd ++ declr (declrs.DeclName 1 0) ++ declr declrs.Declare ++ stmt stmts.Quiet
    ++ spec specs.SpecsEnd ++ declr (declrs.TypeName 5) ++ form (forms.Sizeof 3)
    ++ stmt stmts.Enter ++ expr (exprs.Number 10) ++ stmt stmts.Pop ++ expr (exprs.Name false 12 0)
    ++ stmt stmts.Leave ++ form (forms.StmtExpr true 8) ++ expr (exprs.Binary puncts.Plus 7 3 15)
    ++ init (inits.Value 3 15) ++ declr declrs.DeclarationEnd

-- enumerators: `enum0 e1 {2 A3 ,4 B5 =6 2_7 }8 v9 ;10`
abbrev pub unit8 : List Item
unit8 =
    decl_item
    (tree.decl_declaration
    (tree.declaration []
    (tree.more_words
    (tree.enum_type
    (tree.enum_of 0 [] (Some (ident 1 0))
    (tree.some_enum_body 2
    (tree.more_enumerators (ident 3 1) [] tree.no_value
    (tree.more_enumerators (ident 5 2) []
    (tree.some_value 6 (tree.number_use 7)) tree.no_enumerators))
    None 8)))
    tree.no_words)
    (tree.more_init_declrs [] (tree.declr_name 9 3) None [] tree.no_init tree.no_init_declrs) 10))
    ∷ []

-- its tape
abbrev pub tape8 : List Op
tape8 =
    spec (specs.TagBody tags.Enum 1 0) ++ spec (specs.Enumerator 3 1) ++ stmt stmts.Quiet
    ++ expr (exprs.Number 7) ++ stmt stmts.Loud ++ spec (specs.Enumerator 5 2) ++ spec specs.BodyEnd
    ++ spec specs.SpecsEnd ++ declr (declrs.DeclName 9 3) ++ declr declrs.Declare ++ declr declrs.DeclarationEnd

-- a compound literal: `int0 *1 p2 =3 &4 (5 int6 [7 ]8 )9 {10 1_11 }12 ;13`
abbrev pub unit9 : List Item
unit9 =
    decl_item
    (tree.decl_declaration
    (tree.declaration [] (tree.more_words (tree.basic (word 0 keywords.Int)) tree.no_words)
    (tree.more_init_declrs [] (tree.pointer 1 [] (tree.declr_name 2 0)) None []
    (tree.some_init 3
    (tree.init_value
    (tree.prefix 4 puncts.Ampersand
    (tree.compound 5
    (tree.more_words (tree.basic (word 6 keywords.Int)) tree.no_words)
    (tree.some_declr (tree.abs_array tree.no_declr 7 [] tree.no_size 8))
    9
    (tree.init_list 10
    (tree.more_init_items tree.no_desigs None
    (tree.init_value (tree.number_use 11)) tree.no_init_items)
    None 12)))))
    tree.no_init_declrs)
    13))
    ∷ []

-- its tape
abbrev pub tape9 : List Op
tape9 =
    spec specs.SpecsEnd ++ declr (declrs.DeclName 2 0) ++ declr declrs.Pointer ++ declr declrs.Declare
    ++ spec specs.SpecsEnd ++ declr declrs.Array ++ declr (declrs.TypeName 6) ++ init inits.Begin
    ++ expr (exprs.Number 11)
    ++ init (inits.Literal 5) ++ init inits.ListBegin ++ init (inits.Leaf 11 11) ++ init inits.ListEnd
    ++ init inits.LiteralEnd ++ expr (exprs.Prefix puncts.Ampersand 4 12 false) ++ init (inits.Value 4 12)
    ++ declr declrs.DeclarationEnd

-- loops, a switch and a case:
-- `void0 f1 (2 )3 {4 for5 (6 int7 i8 =9 0_10 ;11 i12 ;13 i14 ++15 )16
--  switch17 (18 i19 )20 case21 1_22 :23 break24 ;25 }26`
abbrev pub unit10 : List Item
unit10 =
    function_item [] (tree.more_words (tree.basic (word 0 keywords.Void)) tree.no_words)
    (tree.params (tree.declr_name 1 0) 2 tree.no_params None 3) [] 4
    (tree.more_block_items
    (tree.block_stmt
    (tree.for_stmt 5 6
    (tree.start_declaration
    (tree.declaration []
    (tree.more_words (tree.basic (word 7 keywords.Int)) tree.no_words)
    (tree.more_init_declrs [] (tree.declr_name 8 1) None []
    (tree.some_init 9 (tree.init_value (tree.number_use 10)))
    tree.no_init_declrs)
    11))
    (tree.some_expr (tree.name_use 12 1)) 13
    (tree.some_expr (tree.post (tree.name_use 14 1) 15 puncts.PlusPlus)) 16
    (tree.switch_stmt 17 18 (tree.name_use 19 1) 20
    (tree.case_stmt 21 (tree.number_use 22) 23 (tree.break_stmt 24 25)))))
    tree.no_block_items)
    26
    ∷ []

-- its tape
abbrev pub tape10 : List Op
tape10 =
    spec specs.Void ++ spec specs.SpecsEnd ++ declr (declrs.DeclName 1 0) ++ declr (declrs.ParamsBegin true)
    ++ declr declrs.ParamsEnd ++ declr (declrs.Function true) ++ declr declrs.Declare ++ stmt stmts.FunctionBody
    ++ stmt stmts.Enter ++ spec specs.SpecsEnd ++ declr (declrs.DeclName 8 1) ++ declr declrs.Declare
    ++ expr (exprs.Number 10) ++ init (inits.Value 10 10) ++ declr declrs.DeclarationEnd
    ++ expr (exprs.Name false 12 1) ++ stmt stmts.Pop ++ expr (exprs.Name false 14 1)
    ++ expr (exprs.Post puncts.PlusPlus 15 14) ++ stmt stmts.Pop
    ++ stmt stmts.Enter ++ stmt stmts.Enter ++ expr (exprs.Name false 19 1) ++ stmt stmts.Pop
    ++ stmt stmts.Enter ++ stmt stmts.Quiet ++ expr (exprs.Number 22) ++ stmt stmts.Loud ++ stmt stmts.Leave
    ++ stmt stmts.Leave ++ stmt stmts.Leave ++ stmt stmts.Leave ++ stmt stmts.FunctionEnd
    ++ declr declrs.DeclarationEnd

-- an offset: `int0 x1 =2 __builtin_offsetof3 (4 struct5 s6 ,7 a8 .9 b10 [11 1_12 ]13 )14 ;15`
abbrev pub unit11 : List Item
unit11 =
    decl_item
    (tree.decl_declaration
    (tree.declaration [] (tree.more_words (tree.basic (word 0 keywords.Int)) tree.no_words)
    (tree.more_init_declrs [] (tree.declr_name 1 0) None []
    (tree.some_init 2
    (tree.init_value
    (tree.offset 3 4
    (tree.more_words
    (tree.struct_type (word 5 keywords.Struct) [] (Some (ident 6 1))
    tree.no_body)
    tree.no_words)
    tree.no_declr 7 (ident 8 2)
    (tree.more_desigs (tree.member_desig 9 (ident 10 3))
    (tree.more_desigs (tree.index_desig 11 (tree.number_use 12) 13)
    tree.no_desigs))
    14)))
    tree.no_init_declrs)
    15))
    ∷ []

-- its tape
abbrev pub tape11 : List Op
tape11 =
    spec specs.SpecsEnd ++ declr (declrs.DeclName 1 0) ++ declr declrs.Declare ++ stmt stmts.Quiet
    ++ spec (specs.TagUse tags.Struct 6 1) ++ spec specs.SpecsEnd ++ declr (declrs.TypeName 5)
    ++ form (forms.OffsetMember 8 2)
    ++ form (forms.OffsetMember 10 3) ++ expr (exprs.Number 12) ++ form (forms.OffsetIndex 11)
    ++ form (forms.Offset 3) ++ init (inits.Value 3 14) ++ declr declrs.DeclarationEnd

-- qualifiers before an ellipsis, and a storage word: `static0 int1 g2 (3 int4 ,5 const6 ...7 )8 ;9`
abbrev pub unit12 : List Item
unit12 =
    decl_item
    (tree.decl_declaration
    (tree.declaration []
    (tree.more_words (tree.storage (word 0 keywords.Static))
    (tree.more_words (tree.basic (word 1 keywords.Int)) tree.no_words))
    (tree.more_init_declrs []
    (tree.params (tree.declr_name 2 0) 3
    (tree.more_params (tree.more_words (tree.basic (word 4 keywords.Int)) tree.no_words)
    tree.no_declr [] tree.no_params)
    (Some
    (record
    { comma = 5; quals = quals.Word (word 6 keywords.Const) ∷ []; dots = 7 }))
    8)
    None [] tree.no_init tree.no_init_declrs)
    9))
    ∷ []

-- its tape
abbrev pub tape12 : List Op
tape12 =
    spec (specs.Storage keywords.Static) ++ spec specs.SpecsEnd ++ declr (declrs.DeclName 2 0)
    ++ declr (declrs.ParamsBegin false) ++ spec specs.SpecsEnd ++ declr declrs.Param ++ declr declrs.ParamsEnd
    ++ spec (specs.Word 6) ++ declr (declrs.Function true) ++ declr declrs.Declare ++ declr declrs.DeclarationEnd

-- a conditional without a middle, in parentheses, and a cast: `int0 x1 =2 (3 a4 ?5 :6 (7 int8 )9 f10 (11 )12 )13 ;14`
abbrev pub unit13 : List Item
unit13 =
    decl_item
    (tree.decl_declaration
    (tree.declaration [] (tree.more_words (tree.basic (word 0 keywords.Int)) tree.no_words)
    (tree.more_init_declrs [] (tree.declr_name 1 0) None []
    (tree.some_init 2
    (tree.init_value
    (tree.paren 3
    (tree.operation (tree.name_use 4 1) (tree.cond tree.no_expr 6) 5
    (tree.cast 7
    (tree.more_words (tree.basic (word 8 keywords.Int))
    tree.no_words)
    tree.no_declr 9
    (tree.call (tree.name_use 10 2) 11 tree.no_exprs 12)))
    13)))
    tree.no_init_declrs)
    14))
    ∷ []

-- its tape
abbrev pub tape13 : List Op
tape13 =
    spec specs.SpecsEnd ++ declr (declrs.DeclName 1 0) ++ declr declrs.Declare ++ expr (exprs.Name false 4 1)
    ++ spec specs.SpecsEnd ++ declr (declrs.TypeName 8) ++ expr (exprs.Name true 10 2) ++ expr (exprs.Call 11 0)
    ++ form (forms.Cast 7 12)
    ++ expr (exprs.Cond false 5 4 12) ++ expr (exprs.Paren 3) ++ init (inits.Value 3 13)
    ++ declr declrs.DeclarationEnd

-- each unit has the tape that was worked out for it
abbrev pub TapesOfExamples : Type 0
TapesOfExamples = (tape_of unit1 ≡ tape1)
    × (tape_of unit2 ≡ tape2)
    × (tape_of unit3 ≡ tape3)
    × (tape_of unit4 ≡ tape4)
    × (tape_of unit5 ≡ tape5)
    × (tape_of unit6 ≡ tape6)
    × (tape_of unit7 ≡ tape7)
    × (tape_of unit8 ≡ tape8)
    × (tape_of unit9 ≡ tape9)
    × (tape_of unit10 ≡ tape10)
    × (tape_of unit11 ≡ tape11)
    × (tape_of unit12 ≡ tape12)
    × (tape_of unit13 ≡ tape13)
