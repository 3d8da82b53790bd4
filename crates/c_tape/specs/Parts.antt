-- The tapes of parts of nodes, from what a program has of them.
use Rattle.std.specs.Prelude.{ℕ, if◌then◌else◌, false, List, ◌++◌, Option, Box}
use Rattle.std.specs.Global.{Global}
use Rattle.c_syntax.specs.declared.declarator.Declr as rust_declr
use Rattle.c_syntax.specs.declared.expression.Expr as rust_expr
use Rattle.c_syntax.specs.declared.initialiser.InitItem as rust_init_item
use Rattle.c_syntax.specs.declared.specifier.SpecWord as rust_spec_word
use Rattle.c_tree.specs.View.{expr_of}
use Rattle.c_tree.specs.Lists.{some_declr_from, init_items_from}
use Rattle.c_tree.specs.Unit.{spec_words_from}
use Rattle.tape_ops.specs.declared.op.Op.{Op}
use Rattle.tape_ops.specs.declared.initialiser.InitOp.TheVariants as inits
use Rattle.c_tree.specs.Firsts.{first_word}
use Rattle.tape_ops.specs.declared.declarator.DeclrOp.TheVariants as declrs
use Rattle.c_tree.specs.Tree.{SpecWords, InitDeclrs}
use Rattle.c_tape.specs.Tests.{are_auto, declares_tag}
use Rattle.c_tape.specs.Tape.{init, declr, specs_with, auto_declrs_tape, old_declrs_tape, init_declrs_tape, expr_tape, words_tape, some_declr_tape, type_name_with, init_items_tape, rule_of_items}

-- the tape of an expression in a box, which no call is right behind
abbrev pub boxed_tape : Box rust_expr.Expr Global → List Op
boxed_tape e = expr_tape false (expr_of e.value)

-- the tape of a type name
abbrev pub type_tape : List rust_spec_word.SpecWord → Option (Box rust_declr.Declr Global) → List Op
type_tape words d =
    type_name_with (words_tape false (spec_words_from words)) (some_declr_tape (some_declr_from d))
    (first_word (spec_words_from words))

-- a list in braces once more, with the targets of its values
abbrev pub list_rule : List rust_init_item.InitItem → List Op
list_rule items = init inits.ListBegin ++ rule_of_items (init_items_from items) ++ init inits.ListEnd

-- a compound literal behind its type name
abbrev pub literal_tape : ℕ → List rust_init_item.InitItem → List Op
literal_tape opening items =
    init inits.Begin ++ init_items_tape (init_items_from items) ++ init (inits.Literal opening) ++ list_rule items
    ++ init inits.LiteralEnd

-- the tape of a declaration, by its semicolon, its specifiers and its declarators
abbrev pub declaration_of_parts : ℕ → SpecWords → InitDeclrs → List Op
declaration_of_parts semi words ds =
    specs_with (words_tape (declares_tag words ds) words)
    ++ (if are_auto words ds then auto_declrs_tape semi ds else init_declrs_tape ds) ++ declr declrs.DeclarationEnd

-- the tape of such a declaration behind a list of identifiers
abbrev pub old_declaration_of_parts : ℕ → SpecWords → InitDeclrs → List Op
old_declaration_of_parts semi words ds =
    specs_with (words_tape (declares_tag words ds) words)
    ++ (if are_auto words ds then auto_declrs_tape semi ds else old_declrs_tape ds) ++ declr declrs.DeclarationEnd
