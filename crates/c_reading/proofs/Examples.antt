-- What the reader of units answers of the tokens of small sources: the height of the unit, or why which token is
-- refused.
use Rattle.std.proofs.Common.{◌≡◌, ℕ, false, List, [], ◌∷◌, Ok, Err, inl, inr, refl}
use Rattle.c_words.specs.declared.kinds.TokenKind.{TokenKind}
use Rattle.c_words.specs.declared.kinds.TokenKind.TheVariants as kinds
use Rattle.c_words.specs.declared.kinds.Punct.TheVariants as puncts
use Rattle.c_words.specs.declared.kinds.Keyword.TheVariants as keywords
use Rattle.c_tree.specs.Unit.{Item, unit_height}
use Rattle.std.specs.Prelude.{◌⊎◌}
use Rattle.c_units.specs.Units.{numbered}
use Rattle.c_reading.specs.declared.kinds.FaultKind.TheVariants as faults
use Rattle.c_reading.specs.Reading.{Read, Refusal}
use Rattle.c_reading.specs.Tokens.{extensions_at, texts_at, quals_at, array_words_at, asm_words_at, group_at, attr_at, attrs_at, pointer_word_at, pointer_words_at, assert_at, align_at}
use Rattle.c_reading.specs.Declaring.{star_size, size_with, array_with, param_with, next_param, params_with, prototype_with, paren_with, named_paren, opened_by, opened_with, core_with, direct_with, pointer_with, declr_with, type_name_with, names_list, identifiers_with}
use Rattle.c_reading.specs.Reading.{and_then, fits, turns, run, repeated, listed}
use Rattle.c_reading.specs.Stating.{label_at, some_init_with, declr_behind, init_declr_with, next_init_declr, declrs_with, bare_declaration, declaration_behind, declaration_with, declaration_from, expr_stmt_with, label_with, named_item, extended_item, attr_item_by, attr_item, other_item, block_item_with, block_body, block_with, some_expr_with, case_with, default_with, some_else_with, if_inside, headed_inside, do_inside, start_value_with, extended_start, for_start_with, for_inside, goto_with, jump_with, return_with, asm_with, attr_stmt_with, named_stmt, stmt_by, stmt_with, auto_declr, auto_behind, labels_with, range_behind as range_behind_2, value_behind, goto_value_with, goto_name}
use Rattle.c_reading.specs.Initialising.{init_with, member_desig_with, index_desig_with, desig_with, init_here, init_item_with, next_init_item, init_items_with, braced_with, init_list_with, range_behind, index_behind, old_item, plain_item, named_init_item}
use Rattle.c_reading.specs.Knot.{knot, unit_at}
use Rattle.c_reading.specs.Specifying.{specs_here, value_with, named_declr, width_with, field_with, mem_declr_with, first_member, next_member, mem_declrs_with, member_with, struct_item_with, members_with, body_with, struct_with, enumerator_behind, enumerator_named, enumerator_with, next_enumerator, enumerators_with, enum_body_with, enum_with, word_by, word_with, specs_with, typed_word_with, typeof_value_with, typeof_with, atomic_with}
use Rattle.c_reading.specs.Expressing.{next_argument, arguments_with, index_with, call_with, dot_with, arrow_with, post_with, postfixed, text_with, compound_with, cast_behind, typed_behind, typed_with, statement_with, paren_with as paren_with_2, opened_by as opened_by_2, opened_with as opened_with_2, prefix_with, extension_with, sizeof_value_with, sizeof_typed, sizeof_type_with, sizeof_behind, sizeof_with, va_arg_with, va_two_with, step_with, offset_with, unary_by, unary_with, cast_with, operand_with, middle_with, row_with, expr_with, part_with, label_use_with, compat_with, choose_with, default_assoc_with, typed_assoc_with, assoc_with, next_assoc, generic_with}
use Rattle.c_reading.specs.Items.{function_with, attrs_behind, function_or_not, behind_function, first_declr, declared_item, asm_item_with, item_with, items_with, old_declaration, old_function_with}

answer : Read (List Item) → ℕ ⊎ Refusal
answer (Ok x) = inl (unit_height x.tree)
answer (Err r) = inr r

abbrev reads : List TokenKind → ℕ ⊎ Refusal
reads tokens = answer (unit_at false (numbered tokens))

-- (The texts of the sources stand above their tokens; names are numbered in the order of their first use.)
examples :
    -- _Complex float static c , T ;
    (reads (kinds.Keyword keywords.Complex ∷ kinds.Keyword keywords.Float ∷ kinds.Keyword keywords.Static ∷ kinds.Name 0
    ∷ kinds.Punct puncts.Comma ∷ kinds.Name 1 ∷ kinds.Punct puncts.Semicolon ∷ kinds.End ∷ []) ≡ inl 4) ×
    -- typedef int T; typedef T T;
    (reads (kinds.Keyword keywords.Typedef ∷ kinds.Keyword keywords.Int ∷ kinds.Name 0 ∷ kinds.Punct puncts.Semicolon
    ∷ kinds.Keyword keywords.Typedef ∷ kinds.Name 0 ∷ kinds.Name 0 ∷ kinds.Punct puncts.Semicolon ∷ kinds.End
    ∷ []) ≡ inl 4) ×
    -- int a = {.a = 1};
    (reads (kinds.Keyword keywords.Int ∷ kinds.Name 0 ∷ kinds.Punct puncts.Equal ∷ kinds.Punct puncts.OpenBrace
    ∷ kinds.Punct puncts.Dot ∷ kinds.Name 0 ∷ kinds.Punct puncts.Equal ∷ kinds.Number ∷ kinds.Punct puncts.CloseBrace
    ∷ kinds.Punct puncts.Semicolon ∷ kinds.End ∷ []) ≡ inl 6) ×
    -- int (__attribute__((a)) *p);
    (reads (kinds.Keyword keywords.Int ∷ kinds.Punct puncts.OpenParen ∷ kinds.Keyword keywords.Attribute
    ∷ kinds.Punct puncts.OpenParen ∷ kinds.Punct puncts.OpenParen ∷ kinds.Name 0 ∷ kinds.Punct puncts.CloseParen
    ∷ kinds.Punct puncts.CloseParen ∷ kinds.Punct puncts.Star ∷ kinds.Name 1 ∷ kinds.Punct puncts.CloseParen
    ∷ kinds.Punct puncts.Semicolon ∷ kinds.End ∷ []) ≡ inl 6) ×
    -- int f(int * __attribute__((a)));
    (reads (kinds.Keyword keywords.Int ∷ kinds.Name 0 ∷ kinds.Punct puncts.OpenParen ∷ kinds.Keyword keywords.Int
    ∷ kinds.Punct puncts.Star ∷ kinds.Keyword keywords.Attribute ∷ kinds.Punct puncts.OpenParen
    ∷ kinds.Punct puncts.OpenParen ∷ kinds.Name 1 ∷ kinds.Punct puncts.CloseParen ∷ kinds.Punct puncts.CloseParen
    ∷ kinds.Punct puncts.CloseParen ∷ kinds.Punct puncts.Semicolon ∷ kinds.End ∷ []) ≡ inl 7) ×
    -- union __attribute__((a)) { int a; } u;
    (reads (kinds.Keyword keywords.Union ∷ kinds.Keyword keywords.Attribute ∷ kinds.Punct puncts.OpenParen
    ∷ kinds.Punct puncts.OpenParen ∷ kinds.Name 0 ∷ kinds.Punct puncts.CloseParen ∷ kinds.Punct puncts.CloseParen
    ∷ kinds.Punct puncts.OpenBrace ∷ kinds.Keyword keywords.Int ∷ kinds.Name 0 ∷ kinds.Punct puncts.Semicolon
    ∷ kinds.Punct puncts.CloseBrace ∷ kinds.Name 1 ∷ kinds.Punct puncts.Semicolon ∷ kinds.End ∷ []) ≡ inl 7) ×
    -- typedef int T; void f(void) { T const x; }
    (reads (kinds.Keyword keywords.Typedef ∷ kinds.Keyword keywords.Int ∷ kinds.Name 0 ∷ kinds.Punct puncts.Semicolon
    ∷ kinds.Keyword keywords.Void ∷ kinds.Name 1 ∷ kinds.Punct puncts.OpenParen ∷ kinds.Keyword keywords.Void
    ∷ kinds.Punct puncts.CloseParen ∷ kinds.Punct puncts.OpenBrace ∷ kinds.Name 0 ∷ kinds.Keyword keywords.Const
    ∷ kinds.Name 2 ∷ kinds.Punct puncts.Semicolon ∷ kinds.Punct puncts.CloseBrace ∷ kinds.End ∷ []) ≡ inl 6) ×
    -- typedef int T; void f(void) { T: T: ; }
    (reads (kinds.Keyword keywords.Typedef ∷ kinds.Keyword keywords.Int ∷ kinds.Name 0 ∷ kinds.Punct puncts.Semicolon
    ∷ kinds.Keyword keywords.Void ∷ kinds.Name 1 ∷ kinds.Punct puncts.OpenParen ∷ kinds.Keyword keywords.Void
    ∷ kinds.Punct puncts.CloseParen ∷ kinds.Punct puncts.OpenBrace ∷ kinds.Name 0 ∷ kinds.Punct puncts.Colon
    ∷ kinds.Name 0 ∷ kinds.Punct puncts.Colon ∷ kinds.Punct puncts.Semicolon ∷ kinds.Punct puncts.CloseBrace ∷ kinds.End
    ∷ []) ≡ inl 6) ×
    -- typedef int T; void f(void) { (T)&x; }
    (reads (kinds.Keyword keywords.Typedef ∷ kinds.Keyword keywords.Int ∷ kinds.Name 0 ∷ kinds.Punct puncts.Semicolon
    ∷ kinds.Keyword keywords.Void ∷ kinds.Name 1 ∷ kinds.Punct puncts.OpenParen ∷ kinds.Keyword keywords.Void
    ∷ kinds.Punct puncts.CloseParen ∷ kinds.Punct puncts.OpenBrace ∷ kinds.Punct puncts.OpenParen ∷ kinds.Name 0
    ∷ kinds.Punct puncts.CloseParen ∷ kinds.Punct puncts.Ampersand ∷ kinds.Name 2 ∷ kinds.Punct puncts.Semicolon
    ∷ kinds.Punct puncts.CloseBrace ∷ kinds.End ∷ []) ≡ inl 8) ×
    -- typedef int T; void f(void) { T T, U, V; }
    (reads (kinds.Keyword keywords.Typedef ∷ kinds.Keyword keywords.Int ∷ kinds.Name 0 ∷ kinds.Punct puncts.Semicolon
    ∷ kinds.Keyword keywords.Void ∷ kinds.Name 1 ∷ kinds.Punct puncts.OpenParen ∷ kinds.Keyword keywords.Void
    ∷ kinds.Punct puncts.CloseParen ∷ kinds.Punct puncts.OpenBrace ∷ kinds.Name 0 ∷ kinds.Name 0
    ∷ kinds.Punct puncts.Comma ∷ kinds.Name 2 ∷ kinds.Punct puncts.Comma ∷ kinds.Name 3 ∷ kinds.Punct puncts.Semicolon
    ∷ kinds.Punct puncts.CloseBrace ∷ kinds.End ∷ []) ≡ inl 6) ×
    -- typedef int T; void f(void) { __builtin_va_start(ap, x); }
    (reads (kinds.Keyword keywords.Typedef ∷ kinds.Keyword keywords.Int ∷ kinds.Name 0 ∷ kinds.Punct puncts.Semicolon
    ∷ kinds.Keyword keywords.Void ∷ kinds.Name 1 ∷ kinds.Punct puncts.OpenParen ∷ kinds.Keyword keywords.Void
    ∷ kinds.Punct puncts.CloseParen ∷ kinds.Punct puncts.OpenBrace ∷ kinds.Keyword keywords.VaStart ∷ kinds.Punct
    puncts.OpenParen ∷ kinds.Name 2 ∷ kinds.Punct puncts.Comma ∷ kinds.Name 3 ∷ kinds.Punct puncts.CloseParen
    ∷ kinds.Punct puncts.Semicolon ∷ kinds.Punct puncts.CloseBrace ∷ kinds.End ∷ []) ≡ inl 6) ×
    -- typedef int T; void f(void) { x += y -= z *= 1; }
    (reads (kinds.Keyword keywords.Typedef ∷ kinds.Keyword keywords.Int ∷ kinds.Name 0 ∷ kinds.Punct puncts.Semicolon
    ∷ kinds.Keyword keywords.Void ∷ kinds.Name 1 ∷ kinds.Punct puncts.OpenParen ∷ kinds.Keyword keywords.Void
    ∷ kinds.Punct puncts.CloseParen ∷ kinds.Punct puncts.OpenBrace ∷ kinds.Name 2 ∷ kinds.Punct puncts.PlusEqual
    ∷ kinds.Name 3 ∷ kinds.Punct puncts.MinusEqual ∷ kinds.Name 4 ∷ kinds.Punct puncts.StarEqual ∷ kinds.Number
    ∷ kinds.Punct puncts.Semicolon ∷ kinds.Punct puncts.CloseBrace ∷ kinds.End ∷ []) ≡ inl 8) ×
    -- typedef int T; void f(void) { sizeof (int){1}++; }
    (reads (kinds.Keyword keywords.Typedef ∷ kinds.Keyword keywords.Int ∷ kinds.Name 0 ∷ kinds.Punct puncts.Semicolon
    ∷ kinds.Keyword keywords.Void ∷ kinds.Name 1 ∷ kinds.Punct puncts.OpenParen ∷ kinds.Keyword keywords.Void
    ∷ kinds.Punct puncts.CloseParen ∷ kinds.Punct puncts.OpenBrace ∷ kinds.Keyword keywords.Sizeof
    ∷ kinds.Punct puncts.OpenParen ∷ kinds.Keyword keywords.Int ∷ kinds.Punct puncts.CloseParen
    ∷ kinds.Punct puncts.OpenBrace ∷ kinds.Number ∷ kinds.Punct puncts.CloseBrace ∷ kinds.Punct puncts.PlusPlus
    ∷ kinds.Punct puncts.Semicolon ∷ kinds.Punct puncts.CloseBrace ∷ kinds.End ∷ []) ≡ inl 10) ×
    -- typedef int T; void f(void) { __builtin_va_arg(a = b, int)++; }
    (reads (kinds.Keyword keywords.Typedef ∷ kinds.Keyword keywords.Int ∷ kinds.Name 0 ∷ kinds.Punct puncts.Semicolon
    ∷ kinds.Keyword keywords.Void ∷ kinds.Name 1 ∷ kinds.Punct puncts.OpenParen ∷ kinds.Keyword keywords.Void
    ∷ kinds.Punct puncts.CloseParen ∷ kinds.Punct puncts.OpenBrace ∷ kinds.Keyword keywords.VaArg
    ∷ kinds.Punct puncts.OpenParen ∷ kinds.Name 2 ∷ kinds.Punct puncts.Equal ∷ kinds.Name 3 ∷ kinds.Punct puncts.Comma
    ∷ kinds.Keyword keywords.Int ∷ kinds.Punct puncts.CloseParen ∷ kinds.Punct puncts.PlusPlus
    ∷ kinds.Punct puncts.Semicolon ∷ kinds.Punct puncts.CloseBrace ∷ kinds.End ∷ []) ≡ inl 8) ×
    -- union T } } __const a ;
    (reads (kinds.Keyword keywords.Union ∷ kinds.Name 0 ∷ kinds.Punct puncts.CloseBrace ∷ kinds.Punct puncts.CloseBrace
    ∷ kinds.Keyword keywords.Const ∷ kinds.Name 1 ∷ kinds.Punct puncts.Semicolon ∷ kinds.End ∷ [])
    ≡ inr (faults.Unexpected, 2)) ×
    -- int f(a, b) { }
    (reads (kinds.Keyword keywords.Int ∷ kinds.Name 0 ∷ kinds.Punct puncts.OpenParen ∷ kinds.Name 1
    ∷ kinds.Punct puncts.Comma ∷ kinds.Name 2 ∷ kinds.Punct puncts.CloseParen ∷ kinds.Punct puncts.OpenBrace
    ∷ kinds.Punct puncts.CloseBrace ∷ kinds.End ∷ []) ≡ inr (faults.Unexpected, 3)) ×
    -- int a __attribute__((a ]));
    (reads (kinds.Keyword keywords.Int ∷ kinds.Name 0 ∷ kinds.Keyword keywords.Attribute ∷ kinds.Punct puncts.OpenParen
    ∷ kinds.Punct puncts.OpenParen ∷ kinds.Name 0 ∷ kinds.Punct puncts.CloseBracket ∷ kinds.Punct puncts.CloseParen
    ∷ kinds.Punct puncts.CloseParen ∷ kinds.Punct puncts.Semicolon ∷ kinds.End ∷ []) ≡ inr (faults.Unexpected, 6)) ×
    -- int x[sizeof(enum { x })];
    (reads (kinds.Keyword keywords.Int ∷ kinds.Name 0 ∷ kinds.Punct puncts.OpenBracket ∷ kinds.Keyword keywords.Sizeof
    ∷ kinds.Punct puncts.OpenParen ∷ kinds.Keyword keywords.Enum ∷ kinds.Punct puncts.OpenBrace ∷ kinds.Name 0
    ∷ kinds.Punct puncts.CloseBrace ∷ kinds.Punct puncts.CloseParen ∷ kinds.Punct puncts.CloseBracket
    ∷ kinds.Punct puncts.Semicolon ∷ kinds.End ∷ []) ≡ inr (faults.Unexpected, 7)) ×
    -- typedef int T; int f(T) T x; { }
    (reads (kinds.Keyword keywords.Typedef ∷ kinds.Keyword keywords.Int ∷ kinds.Name 0 ∷ kinds.Punct puncts.Semicolon
    ∷ kinds.Keyword keywords.Int ∷ kinds.Name 1 ∷ kinds.Punct puncts.OpenParen ∷ kinds.Name 0
    ∷ kinds.Punct puncts.CloseParen ∷ kinds.Name 0 ∷ kinds.Name 2 ∷ kinds.Punct puncts.Semicolon
    ∷ kinds.Punct puncts.OpenBrace ∷ kinds.Punct puncts.CloseBrace ∷ kinds.End ∷ []) ≡ inr (faults.Unexpected, 9)) ×
    -- typedef int T; void f(void) { (int); }
    (reads (kinds.Keyword keywords.Typedef ∷ kinds.Keyword keywords.Int ∷ kinds.Name 0 ∷ kinds.Punct puncts.Semicolon
    ∷ kinds.Keyword keywords.Void ∷ kinds.Name 1 ∷ kinds.Punct puncts.OpenParen ∷ kinds.Keyword keywords.Void
    ∷ kinds.Punct puncts.CloseParen ∷ kinds.Punct puncts.OpenBrace ∷ kinds.Punct puncts.OpenParen
    ∷ kinds.Keyword keywords.Int ∷ kinds.Punct puncts.CloseParen ∷ kinds.Punct puncts.Semicolon
    ∷ kinds.Punct puncts.CloseBrace ∷ kinds.End ∷ []) ≡ inr (faults.Unexpected, 13)) ×
    -- typedef int T; void f(void) { ++(T)1; }
    (reads (kinds.Keyword keywords.Typedef ∷ kinds.Keyword keywords.Int ∷ kinds.Name 0 ∷ kinds.Punct puncts.Semicolon
    ∷ kinds.Keyword keywords.Void ∷ kinds.Name 1 ∷ kinds.Punct puncts.OpenParen ∷ kinds.Keyword keywords.Void
    ∷ kinds.Punct puncts.CloseParen ∷ kinds.Punct puncts.OpenBrace ∷ kinds.Punct puncts.PlusPlus
    ∷ kinds.Punct puncts.OpenParen ∷ kinds.Name 0 ∷ kinds.Punct puncts.CloseParen ∷ kinds.Number
    ∷ kinds.Punct puncts.Semicolon ∷ kinds.Punct puncts.CloseBrace ∷ kinds.End ∷ []) ≡ inr (faults.Unexpected, 14)) ×
    -- typedef int T; void f(void) { sizeof (T)[1]; }
    (reads (kinds.Keyword keywords.Typedef ∷ kinds.Keyword keywords.Int ∷ kinds.Name 0 ∷ kinds.Punct puncts.Semicolon
    ∷ kinds.Keyword keywords.Void ∷ kinds.Name 1 ∷ kinds.Punct puncts.OpenParen ∷ kinds.Keyword keywords.Void
    ∷ kinds.Punct puncts.CloseParen ∷ kinds.Punct puncts.OpenBrace ∷ kinds.Keyword keywords.Sizeof
    ∷ kinds.Punct puncts.OpenParen ∷ kinds.Name 0 ∷ kinds.Punct puncts.CloseParen ∷ kinds.Punct puncts.OpenBracket
    ∷ kinds.Number ∷ kinds.Punct puncts.CloseBracket ∷ kinds.Punct puncts.Semicolon ∷ kinds.Punct puncts.CloseBrace
    ∷ kinds.End ∷ []) ≡ inr (faults.Unexpected, 14)) ×
    -- int int x;
    (reads (kinds.Keyword keywords.Int ∷ kinds.Keyword keywords.Int ∷ kinds.Name 0 ∷ kinds.Punct puncts.Semicolon
    ∷ kinds.End ∷ []) ≡ inr (faults.BadMix, 1)) ×
    -- void int x;
    (reads (kinds.Keyword keywords.Void ∷ kinds.Keyword keywords.Int ∷ kinds.Name 0 ∷ kinds.Punct puncts.Semicolon
    ∷ kinds.End ∷ []) ≡ inr (faults.BadMix, 1)) ×
    -- short long x;
    (reads (kinds.Keyword keywords.Short ∷ kinds.Keyword keywords.Long ∷ kinds.Name 0 ∷ kinds.Punct puncts.Semicolon
    ∷ kinds.End ∷ []) ≡ inr (faults.BadMix, 1)) ×
    -- short char x;
    (reads (kinds.Keyword keywords.Short ∷ kinds.Keyword keywords.Char ∷ kinds.Name 0 ∷ kinds.Punct puncts.Semicolon
    ∷ kinds.End ∷ []) ≡ inr (faults.BadMix, 1)) ×
    -- int _Complex x;
    (reads (kinds.Keyword keywords.Int ∷ kinds.Keyword keywords.Complex ∷ kinds.Name 0 ∷ kinds.Punct puncts.Semicolon
    ∷ kinds.End ∷ []) ≡ inr (faults.BadMix, 1)) ×
    -- _Complex int x;
    (reads (kinds.Keyword keywords.Complex ∷ kinds.Keyword keywords.Int ∷ kinds.Name 0 ∷ kinds.Punct puncts.Semicolon
    ∷ kinds.End ∷ []) ≡ inr (faults.BadMix, 1)) ×
    -- signed _Bool x;
    (reads (kinds.Keyword keywords.Signed ∷ kinds.Keyword keywords.Bool ∷ kinds.Name 0 ∷ kinds.Punct puncts.Semicolon
    ∷ kinds.End ∷ []) ≡ inr (faults.BadMix, 1)) ×
    -- float double x;
    (reads (kinds.Keyword keywords.Float ∷ kinds.Keyword keywords.Double ∷ kinds.Name 0 ∷ kinds.Punct puncts.Semicolon
    ∷ kinds.End ∷ []) ≡ inr (faults.BadMix, 1)) ×
    -- typedef int T; int T;
    (reads (kinds.Keyword keywords.Typedef ∷ kinds.Keyword keywords.Int ∷ kinds.Name 0 ∷ kinds.Punct puncts.Semicolon
    ∷ kinds.Keyword keywords.Int ∷ kinds.Name 0 ∷ kinds.Punct puncts.Semicolon ∷ kinds.End ∷ [])
    ≡ inr (faults.Redeclared, 5)) ×
    -- int T; enum { T };
    (reads (kinds.Keyword keywords.Int ∷ kinds.Name 0 ∷ kinds.Punct puncts.Semicolon ∷ kinds.Keyword keywords.Enum
    ∷ kinds.Punct puncts.OpenBrace ∷ kinds.Name 0 ∷ kinds.Punct puncts.CloseBrace ∷ kinds.Punct puncts.Semicolon
    ∷ kinds.End ∷ []) ≡ inr (faults.Redeclared, 5)) ×
    -- enum { T }; int T;
    (reads (kinds.Keyword keywords.Enum ∷ kinds.Punct puncts.OpenBrace ∷ kinds.Name 0 ∷ kinds.Punct puncts.CloseBrace
    ∷ kinds.Punct puncts.Semicolon ∷ kinds.Keyword keywords.Int ∷ kinds.Name 0 ∷ kinds.Punct puncts.Semicolon
    ∷ kinds.End ∷ []) ≡ inr (faults.Redeclared, 6)) ×
    -- typedef int T; T a, T;
    (reads (kinds.Keyword keywords.Typedef ∷ kinds.Keyword keywords.Int ∷ kinds.Name 0 ∷ kinds.Punct puncts.Semicolon
    ∷ kinds.Name 0 ∷ kinds.Name 1 ∷ kinds.Punct puncts.Comma ∷ kinds.Name 0 ∷ kinds.Punct puncts.Semicolon ∷ kinds.End
    ∷ []) ≡ inr (faults.Redeclared, 7)) ×
    -- typedef int T; enum { T };
    (reads (kinds.Keyword keywords.Typedef ∷ kinds.Keyword keywords.Int ∷ kinds.Name 0 ∷ kinds.Punct puncts.Semicolon
    ∷ kinds.Keyword keywords.Enum ∷ kinds.Punct puncts.OpenBrace ∷ kinds.Name 0 ∷ kinds.Punct puncts.CloseBrace
    ∷ kinds.Punct puncts.Semicolon ∷ kinds.End ∷ []) ≡ inr (faults.Redeclared, 6)) ×
    -- enum { T }; typedef int T;
    (reads (kinds.Keyword keywords.Enum ∷ kinds.Punct puncts.OpenBrace ∷ kinds.Name 0 ∷ kinds.Punct puncts.CloseBrace
    ∷ kinds.Punct puncts.Semicolon ∷ kinds.Keyword keywords.Typedef ∷ kinds.Keyword keywords.Int ∷ kinds.Name 0
    ∷ kinds.Punct puncts.Semicolon ∷ kinds.End ∷ []) ≡ inr (faults.Redeclared, 7)) ×
    -- typedef enum t { E1 , T , } T ;
    (reads (kinds.Keyword keywords.Typedef ∷ kinds.Keyword keywords.Enum ∷ kinds.Name 0 ∷ kinds.Punct puncts.OpenBrace
    ∷ kinds.Name 1 ∷ kinds.Punct puncts.Comma ∷ kinds.Name 2 ∷ kinds.Punct puncts.Comma ∷ kinds.Punct puncts.CloseBrace
    ∷ kinds.Name 2 ∷ kinds.Punct puncts.Semicolon ∷ kinds.End ∷ []) ≡ inr (faults.Redeclared, 9)) ×
    -- int x = sizeof(enum { x });
    (reads (kinds.Keyword keywords.Int ∷ kinds.Name 0 ∷ kinds.Punct puncts.Equal ∷ kinds.Keyword keywords.Sizeof
    ∷ kinds.Punct puncts.OpenParen ∷ kinds.Keyword keywords.Enum ∷ kinds.Punct puncts.OpenBrace ∷ kinds.Name 0
    ∷ kinds.Punct puncts.CloseBrace ∷ kinds.Punct puncts.CloseParen ∷ kinds.Punct puncts.Semicolon ∷ kinds.End ∷ [])
    ≡ inr (faults.Redeclared, 7)) ×
    -- int a = x + 1 = 2;
    (reads (kinds.Keyword keywords.Int ∷ kinds.Name 0 ∷ kinds.Punct puncts.Equal ∷ kinds.Name 1
    ∷ kinds.Punct puncts.Plus ∷ kinds.Number ∷ kinds.Punct puncts.Equal ∷ kinds.Number ∷ kinds.Punct puncts.Semicolon
    ∷ kinds.End ∷ []) ≡ inr (faults.BadTarget, 6)) ×
    -- int a[x + 1 = 3];
    (reads (kinds.Keyword keywords.Int ∷ kinds.Name 0 ∷ kinds.Punct puncts.OpenBracket ∷ kinds.Name 1
    ∷ kinds.Punct puncts.Plus ∷ kinds.Number ∷ kinds.Punct puncts.Equal ∷ kinds.Number ∷ kinds.Punct puncts.CloseBracket
    ∷ kinds.Punct puncts.Semicolon ∷ kinds.End ∷ []) ≡ inr (faults.BadTarget, 6)) ×
    -- enum { A = 1 + 2 = 3 };
    (reads (kinds.Keyword keywords.Enum ∷ kinds.Punct puncts.OpenBrace ∷ kinds.Name 0 ∷ kinds.Punct puncts.Equal
    ∷ kinds.Number ∷ kinds.Punct puncts.Plus ∷ kinds.Number ∷ kinds.Punct puncts.Equal ∷ kinds.Number
    ∷ kinds.Punct puncts.CloseBrace ∷ kinds.Punct puncts.Semicolon ∷ kinds.End ∷ []) ≡ inr (faults.BadTarget, 7)) ×
    -- struct { int a : x + 1 = 3; };
    (reads (kinds.Keyword keywords.Struct ∷ kinds.Punct puncts.OpenBrace ∷ kinds.Keyword keywords.Int ∷ kinds.Name 0
    ∷ kinds.Punct puncts.Colon ∷ kinds.Name 1 ∷ kinds.Punct puncts.Plus ∷ kinds.Number ∷ kinds.Punct puncts.Equal
    ∷ kinds.Number ∷ kinds.Punct puncts.Semicolon ∷ kinds.Punct puncts.CloseBrace ∷ kinds.Punct puncts.Semicolon
    ∷ kinds.End ∷ []) ≡ inr (faults.BadTarget, 8)) ×
    -- void f(void) { case x + 1 = 2: ; }
    (reads (kinds.Keyword keywords.Void ∷ kinds.Name 0 ∷ kinds.Punct puncts.OpenParen ∷ kinds.Keyword keywords.Void
    ∷ kinds.Punct puncts.CloseParen ∷ kinds.Punct puncts.OpenBrace ∷ kinds.Keyword keywords.Case ∷ kinds.Name 1
    ∷ kinds.Punct puncts.Plus ∷ kinds.Number ∷ kinds.Punct puncts.Equal ∷ kinds.Number ∷ kinds.Punct puncts.Colon
    ∷ kinds.Punct puncts.Semicolon ∷ kinds.Punct puncts.CloseBrace ∷ kinds.End ∷ []) ≡ inr (faults.BadTarget, 10)) ×
    -- int a[] = { [1 + 1 = 2] = 3 };
    (reads (kinds.Keyword keywords.Int ∷ kinds.Name 0 ∷ kinds.Punct puncts.OpenBracket ∷ kinds.Punct puncts.CloseBracket
    ∷ kinds.Punct puncts.Equal ∷ kinds.Punct puncts.OpenBrace ∷ kinds.Punct puncts.OpenBracket ∷ kinds.Number
    ∷ kinds.Punct puncts.Plus ∷ kinds.Number ∷ kinds.Punct puncts.Equal ∷ kinds.Number ∷ kinds.Punct puncts.CloseBracket
    ∷ kinds.Punct puncts.Equal ∷ kinds.Number ∷ kinds.Punct puncts.CloseBrace ∷ kinds.Punct puncts.Semicolon ∷ kinds.End
    ∷ []) ≡ inr (faults.BadTarget, 10)) ×
    -- void f(void) { x = 1 ? 2 : 3 = 4; }
    (reads (kinds.Keyword keywords.Void ∷ kinds.Name 0 ∷ kinds.Punct puncts.OpenParen ∷ kinds.Keyword keywords.Void
    ∷ kinds.Punct puncts.CloseParen ∷ kinds.Punct puncts.OpenBrace ∷ kinds.Name 1 ∷ kinds.Punct puncts.Equal
    ∷ kinds.Number ∷ kinds.Punct puncts.Question ∷ kinds.Number ∷ kinds.Punct puncts.Colon ∷ kinds.Number
    ∷ kinds.Punct puncts.Equal ∷ kinds.Number ∷ kinds.Punct puncts.Semicolon ∷ kinds.Punct puncts.CloseBrace ∷ kinds.End
    ∷ []) ≡ inr (faults.BadTarget, 13)) ×
    -- void f(void) { case 1 ? 2 : x = 3: ; }
    (reads (kinds.Keyword keywords.Void ∷ kinds.Name 0 ∷ kinds.Punct puncts.OpenParen ∷ kinds.Keyword keywords.Void
    ∷ kinds.Punct puncts.CloseParen ∷ kinds.Punct puncts.OpenBrace ∷ kinds.Keyword keywords.Case ∷ kinds.Number
    ∷ kinds.Punct puncts.Question ∷ kinds.Number ∷ kinds.Punct puncts.Colon ∷ kinds.Name 1 ∷ kinds.Punct puncts.Equal
    ∷ kinds.Number ∷ kinds.Punct puncts.Colon ∷ kinds.Punct puncts.Semicolon ∷ kinds.Punct puncts.CloseBrace ∷ kinds.End
    ∷ []) ≡ inr (faults.BadTarget, 12))
unfolding extensions_at texts_at quals_at array_words_at asm_words_at group_at attr_at attrs_at pointer_word_at
    pointer_words_at assert_at star_size size_with array_with param_with next_param params_with prototype_with
    paren_with named_paren opened_by opened_with core_with direct_with pointer_with declr_with type_name_with and_then
    fits turns run repeated listed label_at some_init_with declr_behind init_declr_with next_init_declr declrs_with
    bare_declaration declaration_behind declaration_with declaration_from expr_stmt_with label_with named_item
    extended_item attr_item_by attr_item other_item block_item_with block_body block_with some_expr_with case_with
    default_with some_else_with if_inside headed_inside do_inside start_value_with extended_start for_start_with
    for_inside goto_with jump_with return_with asm_with attr_stmt_with named_stmt stmt_by stmt_with init_with
    member_desig_with index_desig_with desig_with init_here init_item_with next_init_item init_items_with braced_with
    init_list_with knot unit_at specs_here value_with named_declr width_with field_with mem_declr_with first_member
    next_member mem_declrs_with member_with struct_item_with members_with body_with struct_with enumerator_behind
    enumerator_named enumerator_with next_enumerator enumerators_with enum_body_with enum_with word_by word_with
    specs_with next_argument arguments_with index_with call_with dot_with arrow_with post_with postfixed text_with
    compound_with cast_behind typed_behind typed_with statement_with paren_with_2 opened_by_2 opened_with_2 prefix_with
    extension_with sizeof_value_with sizeof_typed sizeof_type_with sizeof_behind sizeof_with va_arg_with va_two_with
    step_with offset_with unary_by unary_with cast_with operand_with middle_with row_with expr_with function_with
    attrs_behind function_or_not behind_function first_declr declared_item asm_item_with item_with items_with names_list
    identifiers_with part_with label_use_with compat_with choose_with default_assoc_with typed_assoc_with assoc_with
    next_assoc generic_with range_behind index_behind old_item plain_item named_init_item old_declaration
    old_function_with typed_word_with typeof_value_with typeof_with atomic_with auto_declr auto_behind labels_with
    range_behind_2 value_behind goto_value_with goto_name align_at answer
examples = (
  refl,
  refl,
  refl,
  refl,
  refl,
  refl,
  refl,
  refl,
  refl,
  refl,
  refl,
  refl,
  refl,
  refl,
  refl,
  refl,
  refl,
  refl,
  refl,
  refl,
  refl,
  refl,
  refl,
  refl,
  refl,
  refl,
  refl,
  refl,
  refl,
  refl,
  refl,
  refl,
  refl,
  refl,
  refl,
  refl,
  refl,
  refl,
  refl,
  refl,
  refl,
  refl,
  refl,
  refl,
  refl,
  refl,
)
