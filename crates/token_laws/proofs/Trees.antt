-- Each token that an op of a tree's tape carries is one of the tree's text.
use Rattle.std.proofs.Common.{◌≡◌, ◌≢◌, All, Bool, true, false, List, [], ◌∷◌, ◌++◌, ℕ, Option, None, Some, refl, sym, subst}
use Rattle.std.proofs.lemmas.List.Elements.{All-head, All-tail}
use Rattle.std.specs.Prelude.{if◌then◌else◌}
use Rattle.c_words.specs.declared.kinds.Punct.{Punct}
use Rattle.c_words.specs.declared.kinds.Punct.TheVariants.{Colon, Comma, Equal}
use Rattle.c_words.specs.declared.kinds.Punct.TheVariants as signs
use Rattle.c_syntax.specs.declared.parts.Identifier.{Identifier}
use Rattle.tape_ops.specs.declared.op.Op.{Op}
use Rattle.tape_ops.specs.declared.expression.ExprOp.TheVariants as exprs
use Rattle.tape_ops.specs.declared.specifier.SpecOp.TheVariants as specs
use Rattle.tape_ops.specs.declared.specifier.TagKind.{TagKind}
use Rattle.tape_ops.specs.declared.specifier.TagKind.TheVariants as tags
use Rattle.c_tree.specs.declared.lexeme.Lexeme.{Lexeme}
use Rattle.c_tree.specs.Tree.{Expr, operation, cast, prefix, sizeof_value, sizeof_type, extension, index, call, dot, arrow, post, compound, name_use, number_use, char_use, text_use, paren, statement_expr, va_arg, va_start, va_copy, offset, Operator, comma, assign, cond, binary, SomeExpr, no_expr, some_expr, Exprs, no_exprs, more_exprs, SpecWords, no_words, more_words, SpecWord, storage, thread, inline_word, noreturn, qualifier, basic, struct_type, enum_type, typedef_name, attribute, SomeBody, no_body, some_body, StructItems, no_struct_items, more_struct_items, StructItem, member, member_semi, member_assert, MemDeclrs, no_mem_declrs, more_mem_declrs, MemDeclr, named, unnamed, SomeValue, no_value, some_value, EnumType, enum_of, SomeEnumBody, no_enum_body, some_enum_body, Enumerators, no_enumerators, more_enumerators, Declr, pointer, declr_name, declr_paren, array, params, abs_pointer, abs_paren, abs_array, abs_params, SomeDeclr, no_declr, some_declr, SomeSize, no_size, some_size, ArraySize, size_value, size_star, Params, no_params, more_params, Init, init_value, init_braced, InitList, init_list, InitItems, no_init_items, more_init_items, Desigs, no_desigs, more_desigs, Desig, member_desig, index_desig, SomeInit, no_init, some_init, InitDeclrs, no_init_declrs, more_init_declrs, Declaration, declaration, Decl, decl_declaration, decl_assert, BlockItems, no_block_items, more_block_items, BlockItem, block_decl, block_stmt, Stmt, block, expr_stmt, attr_stmt, label, case_stmt, default_stmt, if_stmt, switch_stmt, while_stmt, do_stmt, for_stmt, goto_stmt, continue_stmt, break_stmt, return_stmt, asm_stmt, SomeElse, no_else, some_else, ForStart, start_declaration, start_value, complex_part, label_use, compat, choose, generic, Assocs, no_assocs, more_assocs, Assoc, typed_assoc, default_assoc, typeof_value, typeof_type, align, auto_word, identifiers, base_name, range_desig, old_desig, block_labels, case_range, goto_value}
use Rattle.c_tree.specs.Text.{tokens_between, texts_text, expr_text, operator_text, some_expr_text, exprs_text, other_exprs_text, spec_words_text, spec_word_text, some_body_text, struct_items_text, struct_item_text, mem_declrs_text, other_mem_declrs_text, mem_declr_text, some_value_text, enum_type_text, some_enum_body_text, enumerators_text, other_enumerators_text, declr_text, some_declr_text, some_size_text, array_size_text, params_text, other_params_text, init_text, init_list_text, init_items_text, other_init_items_text, desigs_text, desig_text, some_init_text, init_declrs_text, other_init_declrs_text, declaration_text, decl_text, block_items_text, block_item_text, stmt_text, some_else_text, for_start_text, assocs_text, assoc_text}
use Rattle.c_tree.specs.Specifiers.{IsMix}
use Rattle.c_tree.specs.WellFormed.{IsElement, IsExpr, IsMiddle, IsSomeExpr, AreArguments, AreSteps, IsStep, AreDesigs, IsDesig, AreSpecWords, IsSpecWord, IsBody, AreStructItems, IsStructItem, AreMemDeclrs, IsMemDeclr, IsSomeValue, IsEnum, IsEnumBody, AreEnumerators, IsDeclr, IsSize, IsArraySize, AreParams, IsSomeDeclr, IsInit, IsInitList, AreInitItems, IsSomeInit, AreInitDeclrs, IsDeclaration, IsDecl, AreBlockItems, IsBlockItem, IsStmt, IsOther, IsStart, AreAssocs, IsAssoc}
use Rattle.c_tree.specs.Unit.{Item, function_item, old_function_item, decl_item, asm_item, semi_item, IsItem, declarations_text, item_text, items_text}
use Rattle.c_tree.specs.Ends.{first_token, last_token, first_text, number_of_first, FirstBegins, LastEnds}
use Rattle.c_tree.specs.Firsts.{word_token, first_word}
use Rattle.c_tree.proofs.Weaker.{type_words_are, abstract_is, direct_is}
use Rattle.c_tape.specs.Tests.{is_void, tag_kind, says_none, are_auto}
use Rattle.c_tape.specs.Tape.{expr, spec, arguments, pieces, some_pieces, desigs_tape, desig_tape, rule, rule_of_list, rule_of_items, prefix_tape, tape_in, assocs_tape, assoc_tape, auto_declrs_tape, auto_init_tape, old_declrs_tape, old_declaration_tape, old_declarations_tape, old_contents, array_words_tape, operator_tape, middle_tape, some_expr_tape, exprs_tape, dropped_tape, steps_tape, step_tape, words_tape, word_tape, unnamed_tape, unnamed_word_tape, specs_with, type_name_with, struct_tape, struct_items_tape, struct_item_tape, members_tape, mem_declrs_tape, mem_declr_tape, some_value_tape, enum_tape, enum_body_tape, enumerators_tape, some_declr_tape, contents, some_contents, some_size_tape, size_tape, params_tape, init_tape, list_tape, init_items_tape, indices_tape, index_tape, some_init_tape, declared_init_tape, init_declrs_tape, declaration_tape, decl_tape, block_items_tape, block_item_tape, stmt_tape, some_else_tape, for_start_tape, return_tape, item_tape, tape_of}
use Rattle.token_laws.proofs.Texts.{AllAt, Holds, Covers, empty, one, both, nothing, none, so, done, join, head, skip, bind, trail, past, ended, ends, put, set, mute, as_fact, known}
use Rattle.token_laws.proofs.Parts.{Begins, first_of, SomeAt, tag_ops, body_ops, quiet_covers, scope_covers, either, params_cover, some_sign_skip, tag_covers, words_skip, names_skip, names_cover, extensions_skip, texts_skip, group_skip, attrs_skip, label_skip, assert_skip, qual_at, pointer_words_at, array_words_at, dots_at}

-- of the ends of an expression
record Ends (P : ℕ → Type 0) (e : Expr) : Type 0 where
  first : P (first_token e)
  last : P (last_token e)

-- of the first of some words, and of the unnamed members that they may be
record Worded (P : ℕ → Type 0) (ws : SpecWords) : Type 0 where
  begins : Begins P ws
  unnamed : Holds P (unnamed_tape ws)

record OneWord (P : ℕ → Type 0) (word : SpecWord) : Type 0 where
  begins : P (word_token word)
  unnamed : Holds P (unnamed_word_tape word)

module _ (P : ℕ → Type 0) where
  at_first : (first : ℕ) (t : List Lexeme) → number_of_first t ≡ Some first → AllAt P t → P first
  at_first first [] e h = absurd cc
  at_first first (it ∷ t) e h = let same : it.at ≡ first = cc in subst P same h.0

  at_last : (last : Lexeme) (front k : List Lexeme) → AllAt P (front ++ last ∷ k) → P last.at
  at_last last [] k h = h.0
  at_last last (it ∷ front) k h = at_last last front k h.1

  void_ops : (is : Bool) → Holds P (if is then spec specs.Void else [])
  void_ops true = one tt
  void_ops false = empty

module _ {P : ℕ → Type 0} (all : List Lexeme) (element : (n : ℕ) → IsElement (tokens_between all n n) → P n)
    (firsts : FirstBegins)
    (lasts : LastEnds) where
  ends_of : (e : Expr) → IsExpr all e → (k : List Lexeme) → AllAt P (expr_text all e k) → Ends P e
  ends_of e is k h =
      let it = lasts all e k is in
      record {
        first = at_first P (first_token e) (expr_text all e k) (firsts all e k is) h;
        last = subst P it.is (at_last P it.last it.front k (subst (AllAt P) it.spelled h));
      }

  with_ends : (e : Expr) → IsExpr all e → {F : Type 0} {xs : List Op} {k : List Lexeme}
      → Covers P F xs (expr_text all e k) k →
      Covers P (Ends P e) xs (expr_text all e k) k
  with_ends e is {k = k} p = record {
    goes = λ h. (let a = p.goes h in record { ops = a.ops; facts = ends_of e is k h; rest = a.rest });
  }

  texts_cover : (texts : List ℕ) → texts ≢ [] → {k : List Lexeme} →
      Covers P (Unit {0}) (expr (exprs.Text (first_text texts))) (texts_text texts k) k
  texts_cover [] h = absurd (h refl)
  texts_cover (token ∷ tokens) h = head (λ is. put (texts_skip tokens nothing) (λ f. one (is, tt)))

  -- a `&` takes its operand only addressed
  prefix_covers : (sign : Punct) (token : ℕ) (e : Expr) (aims : Bool) {xs ys : List Op} {t k : List Lexeme} → P token →
      Covers P (Ends P e) xs t k → Covers P (Ends P e) ys t k
      → Covers P (Ends P e) (prefix_tape token sign e aims xs ys) t k
  prefix_covers signs.Ampersand token e aims is p q = put p (λ f. one (is, (f.last, tt)))
  prefix_covers sign token e aims is p q = put q (λ f. one (is, (f.last, tt)))

  type_name_covers : (ws : SpecWords) → IsMix ws → {xs ys : List Op} {t m k : List Lexeme} →
      Covers P (Worded P ws) xs t m → Covers P (Unit {0}) ys m k →
      Covers P (Unit {0}) (type_name_with xs ys (first_word ws)) t k
  type_name_covers ws mix p q = done (put (join (mute p (one tt)) q) (λ f. one (first_of P ws mix f.0.begins, tt)))

  mutual
    -- expressions

    expr_covers : (e : Expr) → IsExpr all e → (called aims : Bool) → {k : List Lexeme} →
        Covers P (Ends P e) (tape_in called aims e) (expr_text all e k) k
    expr_covers (operation e op token e2) h called aims =
        with_ends (operation e op token e2) h
        (operator_covers op h.3 token e e2 (expr_covers e h.0 false false) (expr_covers e2 h.1 false false))
    expr_covers (cast opening ws d closing e) h called aims =
        with_ends (cast opening ws d closing e) h (head (λ is. put (join (type_name_covers ws h.0
        (words_cover ws (type_words_are all ws h.1) false) (some_declr_covers d (abstract_is all d h.2)))
        (skip (expr_covers e h.3 false false))) (λ f. one (is, (f.1.last, tt)))))
    expr_covers (prefix token p e) h called aims =
        with_ends (prefix token p e) h
        (head (λ is. prefix_covers p token e aims is (expr_covers e h.0 false true) (expr_covers e h.0 false false)))
    expr_covers (sizeof_value word e) h called aims =
        with_ends (sizeof_value word e) h
        (head (λ is. put (set (one tt) (expr_covers e h.0 false false)) (λ f. one (is, tt))))
    expr_covers (sizeof_type word opening ws d closing) h called aims =
        with_ends (sizeof_type word opening ws d closing) h (head (λ is. put (set (one tt) (skip (ends
        (type_name_covers ws h.0 (words_cover ws (type_words_are all ws h.1) false)
        (some_declr_covers d (abstract_is all d h.2)))))) (λ f. one (is, tt))))
    expr_covers (extension keyword e) h called aims =
        with_ends (extension keyword e) h (head (λ is. put (expr_covers e h.0 false aims) (λ f. one (is, tt))))
    expr_covers (index e opening e2 closing) h called aims =
        with_ends (index e opening e2 closing) h
        (put (join (ended (expr_covers e h.0 false false)) (ended (expr_covers e2 h.1 false false)))
        (λ f. one (f.0.1, (f.0.0.first, (f.1.1, tt)))))
    expr_covers (call e opening es closing) h called aims =
        with_ends (call e opening es closing) h
        (put (put (join (ended (expr_covers e h.0 true false)) (ends (exprs_cover es h.1)))
        (λ f. f.1)) (λ f. one (f.0.1, tt)))
    expr_covers (dot e token name) h called aims =
        with_ends (dot e token name) h
        (put (ended (ended (expr_covers e h.0 false aims))) (λ f. one (f.0.1, (f.1, tt))))
    expr_covers (arrow e token name) h called aims =
        with_ends (arrow e token name) h (put (put (ended (ended (expr_covers e h.0 false false)))
        (λ f. one (f.0.1, (f.0.0.first, (f.1, tt))))) (λ f. one (f.0.1, (f.1, tt))))
    expr_covers (post e token p) h called aims =
        with_ends (post e token p) h (put (ended (expr_covers e h.0 false false)) (λ f. one (f.1, (f.0.first, tt))))
    expr_covers (compound opening ws d closing list) h called aims =
        with_ends (compound opening ws d closing list) h (head (λ is. mute (put (put (join
        (mute (type_name_covers ws h.0 (words_cover ws (type_words_are all ws h.1) false)
        (some_declr_covers d (abstract_is all d h.2))) (one tt)) (skip (list_covers list h.3))) (λ f. one (is, tt)))
        (λ f. f.1)) (one tt)))
    expr_covers (name_use token name) h called aims =
        with_ends (name_use token name) h (head (λ is. put nothing (λ f. one (is, tt))))
    expr_covers (number_use token) h called aims =
        with_ends (number_use token) h (head (λ is. put nothing (λ f. one (is, tt))))
    expr_covers (char_use token) h called aims =
        with_ends (char_use token) h (head (λ is. put nothing (λ f. one (is, tt))))
    expr_covers (text_use texts) h called aims = with_ends (text_use texts) h (texts_cover texts h)
    expr_covers (paren opening e closing) h called aims =
        with_ends (paren opening e closing) h (head (λ is. put (ends (expr_covers e h false aims)) (λ f. one (is, tt))))
    expr_covers (statement_expr opening opening2 items closing closing2) h called aims =
        with_ends (statement_expr opening opening2 items closing closing2) h
        (head (λ is. put (scope_covers (skip (ends (ends
        (block_items_cover items h.0 true))))) (λ f. one (is, tt))))
    expr_covers (va_arg keyword opening e separator ws d closing) h called aims =
        with_ends (va_arg keyword opening e separator ws d closing) h
        (head (λ is. put (skip (join (expr_covers e h.0 false false)
        (skip (ended (type_name_covers ws h.1 (words_cover ws (type_words_are all ws h.2) false)
        (some_declr_covers d (abstract_is all d h.3))))))) (λ f. one (is, (f.1.1, tt)))))
    expr_covers (va_start keyword opening e separator e2 closing) h called aims =
        with_ends (va_start keyword opening e separator e2 closing) h
        (head (λ is. put (skip (join (expr_covers e h.0 false false)
        (skip (ended (expr_covers e2 h.1 false false))))) (λ f. one (is, (f.1.1, tt)))))
    expr_covers (va_copy keyword opening e separator e2 closing) h called aims =
        with_ends (va_copy keyword opening e separator e2 closing) h
        (head (λ is. put (skip (join (expr_covers e h.0 false false)
        (skip (ended (expr_covers e2 h.1 false false))))) (λ f. one (is, (f.1.1, tt)))))
    expr_covers (offset keyword opening ws d separator name steps closing) h called aims =
        with_ends (offset keyword opening ws d separator name steps closing) h
        (head (λ is. put (skip (join (put (ended (ends
        (set (one tt) (type_name_covers ws h.0 (words_cover ws (type_words_are all ws h.1) false)
        (some_declr_covers d (abstract_is all d h.2)))))) (λ f. one (f.1, tt))) (ends (steps_cover steps h.3))))
        (λ f. one (is, tt))))
    expr_covers (complex_part keyword e) h called aims =
        with_ends (complex_part keyword e) h (head (λ is. put (expr_covers e h.0 false aims) (λ f. one (is, tt))))
    expr_covers (label_use token name) h called aims =
        with_ends (label_use token name) h (head (λ is. skip (put nothing (λ f. one (is, tt)))))
    expr_covers (compat keyword opening ws d separator ws2 d2 closing) h called aims =
        with_ends (compat keyword opening ws d separator ws2 d2 closing) h (head (λ is. put (skip (join
        (set (one tt) (ends (type_name_covers ws h.0 (words_cover ws (type_words_are all ws h.1) false)
        (some_declr_covers d (abstract_is all d h.2)))))
        (ends (type_name_covers ws2 h.3 (words_cover ws2 (type_words_are all ws2 h.4) false)
        (some_declr_covers d2 (abstract_is all d2 h.5)))))) (λ f. one (is, tt))))
    expr_covers (choose keyword opening e separator e2 separator2 e3 closing) h called aims =
        with_ends (choose keyword opening e separator e2 separator2 e3 closing) h (head (λ is. put (skip (join (join
        (quiet_covers (ends (expr_covers e h.0 false false))) (ends (expr_covers e2 h.1 false false)))
        (ends (expr_covers e3 h.2 false false)))) (λ f. one (is, tt))))
    expr_covers (generic keyword opening e xs closing) h called aims =
        with_ends (generic keyword opening e xs closing) h (head (λ is. put (skip (join (mute (set (one tt)
        (expr_covers e h.0 false false)) (one tt)) (ends (assocs_cover xs h.3)))) (λ f. one (is, tt))))

    assocs_cover : (xs : Assocs) → AreAssocs all xs → {k : List Lexeme} →
        Covers P (Unit {0}) (assocs_tape xs) (assocs_text all xs k) k
    assocs_cover no_assocs h = nothing
    assocs_cover (more_assocs x xs) h = skip (done (join (assoc_covers x h.0) (assocs_cover xs h.1)))

    assoc_covers : (x : Assoc) → IsAssoc all x → {k : List Lexeme}
        → Covers P (Unit {0}) (assoc_tape x) (assoc_text all x k) k
    assoc_covers (typed_assoc ws d colon e) h =
        done (join (ends (type_name_covers ws h.0 (words_cover ws (type_words_are all ws h.1) false)
        (some_declr_covers d (abstract_is all d h.2)))) (expr_covers e h.3 false false))
    assoc_covers (default_assoc keyword colon e) h = skip (skip (done (set (one tt) (expr_covers e h.0 false false))))

    operator_covers : (op : Operator) → IsMiddle all op → (token : ℕ) (e e2 : Expr)
        → {xs ys : List Op} {t m k : List Lexeme} →
        Covers P (Ends P e) xs t (operator_text all op token m) → Covers P (Ends P e2) ys m k →
        Covers P (Unit {0}) (xs ++ middle_tape op ++ ys ++ operator_tape op token (first_token e) (last_token e2)) t k
    operator_covers comma h token e e2 p q = done (put (join (join (ended p) nothing) q) (λ f. one (f.0.0.1, tt)))
    operator_covers (assign sign) h token e e2 p q =
        done (put (join (join (ended p) nothing) q) (λ f. one (f.0.0.1, (f.0.0.0.first, (f.1.last, tt)))))
    operator_covers (cond middle colon) h token e e2 p q =
        done (put (join (join (ended p) (ends (some_expr_covers middle h))) q)
        (λ f. one (f.0.0.1, (f.0.0.0.first, (f.1.last, tt)))))
    operator_covers (binary sign) h token e e2 p q =
        done (put (join (join (ended p) nothing) q) (λ f. one (f.0.0.1, (f.0.0.0.first, (f.1.last, tt)))))

    some_expr_covers : (e : SomeExpr) → IsSomeExpr all e → {k : List Lexeme} →
        Covers P (Unit {0}) (some_expr_tape e) (some_expr_text all e k) k
    some_expr_covers no_expr h = nothing
    some_expr_covers (some_expr e) h = done (expr_covers e h false false)

    -- with the ops of arguments
    exprs_cover : (es : Exprs) → AreArguments all es → {k : List Lexeme} →
        Covers P (Holds P (arguments es)) (exprs_tape es) (exprs_text all es k) k
    exprs_cover no_exprs h = none
    exprs_cover (more_exprs e es) h =
        so (join (expr_covers e h.0 false false) (other_exprs_cover es h.2))
        (λ f. both (one (f.0.first, (f.0.last, tt))) f.1)

    other_exprs_cover : (es : Exprs) → AreArguments all es → {k : List Lexeme} →
        Covers P (Holds P (arguments es)) (exprs_tape es) (other_exprs_text all es k) k
    other_exprs_cover no_exprs h = none
    other_exprs_cover (more_exprs e es) h =
        skip (so (join (expr_covers e h.0 false false) (other_exprs_cover es h.2))
        (λ f. both (one (f.0.first, (f.0.last, tt))) f.1))

    dropped_covers : (e : SomeExpr) → IsSomeExpr all e → {k : List Lexeme} →
        Covers P (Unit {0}) (dropped_tape e) (some_expr_text all e k) k
    dropped_covers no_expr h = nothing
    dropped_covers (some_expr e) h = done (mute (expr_covers e h false false) (one tt))

    steps_cover : (ds : Desigs) → AreSteps all ds → {k : List Lexeme} →
        Covers P (Unit {0}) (steps_tape ds) (desigs_text all ds k) k
    steps_cover no_desigs h = nothing
    steps_cover (more_desigs d ds) h = done (join (step_covers d h.0) (steps_cover ds h.1))

    step_covers : (d : Desig) → IsStep all d → {k : List Lexeme}
        → Covers P (Unit {0}) (step_tape d) (desig_text all d k) k
    step_covers (member_desig before name) h = skip (head (λ is. put nothing (λ f. one (is, tt))))
    step_covers (index_desig opening e closing) h =
        head (λ is. done (put (ends (expr_covers e h false false)) (λ f. one (is, tt))))
    step_covers (range_desig opening e dots e2 closing) h = absurd h
    step_covers (old_desig name colon) h = absurd h

    -- specifiers

    words_cover : (ws : SpecWords) → AreSpecWords all ws → (is_alone : Bool) → {k : List Lexeme} →
        Covers P (Worded P ws) (words_tape is_alone ws) (spec_words_text all ws k) k
    words_cover no_words h is_alone = so nothing (λ f. record { begins = tt; unnamed = empty })
    words_cover (more_words word ws) h is_alone =
        so (join (word_covers word h.0 is_alone) (words_cover ws h.1 is_alone)) (λ f. record {
          begins = f.0.begins;
          unnamed = both f.0.unnamed f.1.unnamed;
        })

    word_covers : (word : SpecWord) → IsSpecWord all word → (is_alone : Bool) → {k : List Lexeme} →
        Covers P (OneWord P word) (word_tape is_alone word) (spec_word_text all word k) k
    word_covers (storage word) h is_alone =
        head (λ is. so (mute nothing (one tt)) (λ f. record { begins = is; unnamed = empty }))
    word_covers (thread token) h is_alone = head (λ is. so nothing (λ f. record { begins = is; unnamed = empty }))
    word_covers (inline_word token) h is_alone =
        head (λ is. so (mute nothing (one tt)) (λ f. record { begins = is; unnamed = empty }))
    word_covers (noreturn token) h is_alone = head (λ is. so nothing (λ f. record { begins = is; unnamed = empty }))
    word_covers (qualifier q) h is_alone =
        so (put (qual_at all element q h.0) (λ f. one (f, tt))) (λ f. record { begins = f; unnamed = empty })
    word_covers (basic word) h is_alone =
        head (λ is.
        so (put nothing (λ f. void_ops P (is_void word.keyword))) (λ f. record { begins = is; unnamed = empty }))
    word_covers (struct_type word attrs None body) h is_alone =
        head (λ is.
        so (attrs_skip all attrs (struct_covers body h.3 is_alone (tag_kind word.keyword) word.token None is tt))
        (λ f. record { begins = is; unnamed = one (is, tt) }))
    word_covers (struct_type word attrs (Some tag) body) h is_alone =
        head (λ is.
        so (attrs_skip all attrs (head (λ it. struct_covers body h.3 is_alone (tag_kind word.keyword) word.token
        (Some tag) is it))) (λ f. record { begins = is; unnamed = empty }))
    word_covers (enum_type e) h is_alone = enum_covers e h
    word_covers (typedef_name name) h is_alone =
        head (λ is. so (put nothing (λ f. one (is, tt))) (λ f. record { begins = is; unnamed = empty }))
    word_covers (attribute attr) h is_alone =
        head (λ is. so (group_skip all attr.group nothing) (λ f. record { begins = is; unnamed = empty }))
    word_covers (typeof_value keyword opening e closing) h is_alone =
        head (λ is.
        so (mute (put (skip (set (both (one tt) (one tt)) (ended (expr_covers e h false false)))) (λ f. one (f.1, tt)))
        (one tt)) (λ f. record { begins = is; unnamed = empty }))
    word_covers (typeof_type word opening ws d closing) h is_alone =
        head (λ is.
        so (mute (skip (set (one tt) (ends (type_name_covers ws h.1 (words_cover ws (type_words_are all ws h.2) false)
        (some_declr_covers d (abstract_is all d h.3)))))) (one tt))
        (λ f. record { begins = is; unnamed = empty }))
    word_covers (align attr) h is_alone =
        head (λ is. so (group_skip all attr.group nothing) (λ f. record { begins = is; unnamed = empty }))
    word_covers (auto_word token) h is_alone = head (λ is. so nothing (λ f. record { begins = is; unnamed = empty }))

    struct_covers : (body : SomeBody) → IsBody all body →
        (is_alone : Bool) (kind : TagKind) (keyword : ℕ) (tag : Option Identifier) → P keyword → SomeAt P tag →
        {k : List Lexeme}
        → Covers P (Unit {0}) (struct_tape is_alone kind keyword tag body) (some_body_text all body k) k
    struct_covers no_body h is_alone kind keyword tag is it = put nothing (λ f. tag_ops P is_alone kind tag it)
    struct_covers (some_body opening items closing) h is_alone kind keyword tag is it =
        mute (set (body_ops P kind keyword tag is it) (skip (ends (struct_items_cover items h)))) (one tt)

    struct_items_cover : (items : StructItems) → AreStructItems all items → {k : List Lexeme} →
        Covers P (Unit {0}) (struct_items_tape items) (struct_items_text all items k) k
    struct_items_cover no_struct_items h = nothing
    struct_items_cover (more_struct_items item items) h =
        done (join (struct_item_covers item h.0) (struct_items_cover items h.1))

    struct_item_covers : (item : StructItem) → IsStructItem all item → {k : List Lexeme} →
        Covers P (Unit {0}) (struct_item_tape item) (struct_item_text all item k) k
    struct_item_covers (member extensions ws ds semi) h =
        extensions_skip extensions (mute (ends (members_cover ds h.4 ws (words_cover ws h.1 false))) (one tt))
    struct_item_covers (member_semi semi) h = skip nothing
    struct_item_covers (member_assert it) h = assert_skip all it nothing

    -- behind their specifiers
    members_cover : (ds : MemDeclrs) → AreMemDeclrs all ds → (ws : SpecWords) → {t k : List Lexeme} →
        Covers P (Worded P ws) (words_tape false ws) t (mem_declrs_text all ds k) →
        Covers P (Unit {0}) (specs_with (words_tape false ws) ++ members_tape ws ds) t k
    members_cover no_mem_declrs h ws p = done (put (mute p (one tt)) (λ f. f.unnamed))
    members_cover (more_mem_declrs attrs d ds) h ws p =
        done
        (join (mute p (one tt)) (attrs_skip all attrs (join (mem_declr_covers d h.1) (other_mem_declrs_cover ds h.2))))

    other_mem_declrs_cover : (ds : MemDeclrs) → AreMemDeclrs all ds → {k : List Lexeme} →
        Covers P (Unit {0}) (mem_declrs_tape ds) (other_mem_declrs_text all ds k) k
    other_mem_declrs_cover no_mem_declrs h = nothing
    other_mem_declrs_cover (more_mem_declrs attrs d ds) h =
        skip (attrs_skip all attrs (done (join (mem_declr_covers d h.1) (other_mem_declrs_cover ds h.2))))

    mem_declr_covers : (d : MemDeclr) → IsMemDeclr all d → {k : List Lexeme} →
        Covers P (Unit {0}) (mem_declr_tape d) (mem_declr_text all d k) k
    mem_declr_covers (named d width attrs) h =
        done (past
        (join (mute (put (contents_cover d h.0 false) (λ f. f)) (one tt)) (some_value_covers width h.2 Colon))
        (attrs_skip all attrs nothing))
    mem_declr_covers (unnamed colon e attrs) h =
        done (quiet_covers (skip (past (expr_covers e h.0 false false) (attrs_skip all attrs nothing))))

    some_value_covers : (value : SomeValue) → IsSomeValue all value → (sign : Punct) → {k : List Lexeme} →
        Covers P (Unit {0}) (some_value_tape value) (some_value_text all sign value k) k
    some_value_covers no_value h sign = nothing
    some_value_covers (some_value token e) h sign = done (quiet_covers (skip (expr_covers e h.0 false false)))

    enum_covers : (e : EnumType) → IsEnum all e → {k : List Lexeme} →
        Covers P (OneWord P (enum_type e)) (enum_tape e) (enum_type_text all e k) k
    enum_covers (enum_of keyword attrs tag body) h =
        head (λ is. so (attrs_skip all attrs (tag_covers tag (λ it. enum_body_covers body h.2 keyword tag is it)))
        (λ f. record { begins = is; unnamed = empty }))

    enum_body_covers : (body : SomeEnumBody) → IsEnumBody all body → (keyword : ℕ) (tag : Option Identifier)
        → P keyword →
        SomeAt P tag → {k : List Lexeme}
        → Covers P (Unit {0}) (enum_body_tape keyword tag body) (some_enum_body_text all body k) k
    enum_body_covers no_enum_body h keyword tag is it = put nothing (λ f. tag_ops P false tags.Enum tag it)
    enum_body_covers (some_enum_body opening es last closing) h keyword tag is it =
        mute (set (body_ops P tags.Enum keyword tag is it) (skip (past (enumerators_cover es h.1)
        (some_sign_skip Comma last (skip nothing))))) (one tt)

    enumerators_cover : (es : Enumerators) → AreEnumerators all es → {k : List Lexeme} →
        Covers P (Unit {0}) (enumerators_tape es) (enumerators_text all es k) k
    enumerators_cover no_enumerators h = nothing
    enumerators_cover (more_enumerators name attrs value es) h =
        head (λ is. done (join (put (attrs_skip all attrs (some_value_covers value h.1 Equal)) (λ f. one (is, tt)))
        (other_enumerators_cover es h.2)))

    other_enumerators_cover : (es : Enumerators) → AreEnumerators all es → {k : List Lexeme} →
        Covers P (Unit {0}) (enumerators_tape es) (other_enumerators_text all es k) k
    other_enumerators_cover no_enumerators h = nothing
    other_enumerators_cover (more_enumerators name attrs value es) h =
        skip (head (λ is.
        done (join (put (attrs_skip all attrs (some_value_covers value h.1 Equal)) (λ f. one (is, tt)))
        (other_enumerators_cover es h.2))))

    -- declarators, with the ops of their pieces

    some_declr_covers : (d : SomeDeclr) → IsSomeDeclr all d → {k : List Lexeme} →
        Covers P (Unit {0}) (some_declr_tape d) (some_declr_text all d k) k
    some_declr_covers no_declr h = nothing
    some_declr_covers (some_declr d) h = done (put (contents_cover d h false) (λ f. f))

    contents_cover : (d : Declr) → IsDeclr all d → (is_own : Bool) → {k : List Lexeme} →
        Covers P (Holds P (pieces d)) (contents is_own d) (declr_text all d k) k
    contents_cover (pointer star words d) h is_own =
        skip (bind (pointer_words_at all element words h.0) (λ o. so (contents_cover d h.1 is_own)
        (λ f. both (both o (one tt)) f)))
    contents_cover (declr_name token name) h is_own = head (λ is. put none (λ f. one (is, tt)))
    contents_cover (declr_paren opening attrs d closing) h is_own =
        skip (attrs_skip all attrs (ends (contents_cover d h.1 is_own)))
    contents_cover (array d opening words size closing) h is_own =
        so (join (contents_cover d h.0 is_own) (skip (bind (array_words_at all element words h.3)
        (λ o. so (ends (some_size_covers size h.4)) (λ f. o)))))
        (λ f. both (both f.1 (one tt)) f.0)
    contents_cover (params d opening ps dots closing) h is_own =
        so (join (contents_cover d h.0 is_own) (skip (trail (params_cover _ (says_none ps) (params_go ps h.3))
        (ends (dots_at all element ps dots h.4)))))
        (λ f. both (both f.1.1 (one tt)) f.0)
    contents_cover (abs_pointer star words d) h is_own =
        skip (bind (pointer_words_at all element words h.0) (λ o. so (some_contents_cover d (abstract_is all d h.1))
        (λ f. both (both o (one tt)) f)))
    contents_cover (abs_paren opening attrs d closing) h is_own =
        skip (attrs_skip all attrs (ends (contents_cover d h.1 is_own)))
    contents_cover (abs_array d opening words size closing) h is_own =
        so (join (some_contents_cover d (direct_is all d h.0)) (skip (bind (array_words_at all element words h.1)
        (λ o. so (ends (some_size_covers size h.2)) (λ f. o)))))
        (λ f. both (both f.1 (one tt)) f.0)
    contents_cover (abs_params d opening ps dots closing) h is_own =
        so (join (some_contents_cover d (direct_is all d h.0))
        (skip (trail (params_cover false (says_none ps) (params_go ps h.1))
        (ends (dots_at all element ps dots h.2)))))
        (λ f. both (both f.1.1 (one tt)) f.0)
    contents_cover (identifiers d opening names closing) h is_own =
        so (mute (mute (past (contents_cover d h.0 is_own) (skip (names_skip names (skip nothing)))) (one tt)) (one tt))
        (λ f. both (one tt) f)
    contents_cover (base_name token) h is_own = skip none

    some_contents_cover : (d : SomeDeclr) → IsSomeDeclr all d → {k : List Lexeme} →
        Covers P (Holds P (some_pieces d)) (some_contents d) (some_declr_text all d k) k
    some_contents_cover no_declr h = none
    some_contents_cover (some_declr d) h = contents_cover d h false

    some_size_covers : (size : SomeSize) → IsSize all size → {k : List Lexeme} →
        Covers P (Unit {0}) (some_size_tape size) (some_size_text all size k) k
    some_size_covers no_size h = nothing
    some_size_covers (some_size size) h = size_covers size h

    size_covers : (size : ArraySize) → IsArraySize all size → {k : List Lexeme} →
        Covers P (Unit {0}) (size_tape size) (array_size_text all size k) k
    size_covers (size_value e) h = done (quiet_covers (expr_covers e h.0 false false))
    size_covers (size_star token) h = skip nothing

    params_go : (ps : Params) → AreParams all ps → {k : List Lexeme} →
        Covers P (Unit {0}) (params_tape ps) (params_text all ps k) k
    params_go no_params h = nothing
    params_go (more_params ws d attrs ps) h =
        done (join (mute (join (mute (words_cover ws h.1 false) (one tt)) (past (some_declr_covers d h.3)
        (attrs_skip all attrs nothing))) (one tt)) (other_params_go ps h.6))

    other_params_go : (ps : Params) → AreParams all ps → {k : List Lexeme} →
        Covers P (Unit {0}) (params_tape ps) (other_params_text all ps k) k
    other_params_go no_params h = nothing
    other_params_go (more_params ws d attrs ps) h =
        skip (done (join (mute (join (mute (words_cover ws h.1 false) (one tt)) (past (some_declr_covers d h.3)
        (attrs_skip all attrs nothing))) (one tt)) (other_params_go ps h.6)))

    -- initialisers, with the ops by which they are gone through once more

    init_covers : (i : Init) → IsInit all i → {k : List Lexeme}
        → Covers P (Holds P (rule i)) (init_tape i) (init_text all i k) k
    init_covers (init_value e) h = so (expr_covers e h.0 false false) (λ f. one (f.first, (f.last, tt)))
    init_covers (init_braced list) h = list_covers list h

    list_covers : (list : InitList) → IsInitList all list → {k : List Lexeme} →
        Covers P (Holds P (rule_of_list list)) (list_tape list) (init_list_text all list k) k
    list_covers (init_list opening items last closing) h =
        skip (so (past (init_items_cover items h.0) (some_sign_skip Comma last (skip nothing)))
        (λ f. both (both (one tt) f) (one tt)))

    init_items_cover : (items : InitItems) → AreInitItems all items → {k : List Lexeme} →
        Covers P (Holds P (rule_of_items items)) (init_items_tape items) (init_items_text all items k) k
    init_items_cover no_init_items h = none
    init_items_cover (more_init_items ds equal i items) h =
        so (join (join (indices_cover ds h.0) (some_sign_skip Equal equal (init_covers i h.2)))
        (other_init_items_cover items h.3))
        (λ f. both (both f.0.0 f.0.1) f.1)

    other_init_items_cover : (items : InitItems) → AreInitItems all items → {k : List Lexeme} →
        Covers P (Holds P (rule_of_items items)) (init_items_tape items) (other_init_items_text all items k) k
    other_init_items_cover no_init_items h = none
    other_init_items_cover (more_init_items ds equal i items) h =
        skip (so (join (join (indices_cover ds h.0) (some_sign_skip Equal equal (init_covers i h.2)))
        (other_init_items_cover items h.3))
        (λ f. both (both f.0.0 f.0.1) f.1))

    indices_cover : (ds : Desigs) → AreDesigs all ds → {k : List Lexeme} →
        Covers P (Holds P (desigs_tape ds)) (indices_tape ds) (desigs_text all ds k) k
    indices_cover no_desigs h = none
    indices_cover (more_desigs d ds) h =
        so (join (index_covers d h.0) (indices_cover ds h.1)) (λ f. both f.0 f.1)

    index_covers : (d : Desig) → IsDesig all d → {k : List Lexeme} →
        Covers P (Holds P (desig_tape d)) (index_tape d) (desig_text all d k) k
    index_covers (member_desig before name) h = skip (head (λ is. so nothing (λ f. one (is, tt))))
    index_covers (index_desig opening e closing) h =
        head (λ is. so (quiet_covers (ends (expr_covers e h.0 false false))) (λ f. one (is, tt)))
    index_covers (range_desig opening e dots e2 closing) h =
        head (λ is. so (join (quiet_covers (ends (expr_covers e h.0 false false)))
        (quiet_covers (ends (expr_covers e2 h.2 false false)))) (λ f. one (is, tt)))
    index_covers (old_desig name colon) h = head (λ is. skip (so nothing (λ f. one (is, tt))))

    some_init_covers : (i : SomeInit) → IsSomeInit all i → {k : List Lexeme} →
        Covers P (Unit {0}) (some_init_tape i) (some_init_text all i k) k
    some_init_covers no_init h = nothing
    some_init_covers (some_init equal i) h = skip (declared_init_covers i h)

    declared_init_covers : (i : Init) → IsInit all i → {k : List Lexeme} →
        Covers P (Unit {0}) (declared_init_tape i) (init_text all i k) k
    declared_init_covers (init_value e) h =
        done (put (expr_covers e h.0 false false) (λ f. one (f.first, (f.last, tt))))
    declared_init_covers (init_braced list) h =
        done (mute (put (mute (set (one tt) (list_covers list h)) (one tt)) (λ f. f)) (one tt))

    -- declarations and statements

    init_declrs_cover : (ds : InitDeclrs) → AreInitDeclrs all ds → {k : List Lexeme} →
        Covers P (Unit {0}) (init_declrs_tape ds) (init_declrs_text all ds k) k
    init_declrs_cover no_init_declrs h = nothing
    init_declrs_cover (more_init_declrs attrs d asm_label attrs2 i ds) h =
        attrs_skip all attrs (done (join (join (mute (put (contents_cover d h.1 false) (λ f. f)) (one tt))
        (label_skip all asm_label (attrs_skip all attrs2 (some_init_covers i h.5)))) (other_init_declrs_cover ds h.6)))

    other_init_declrs_cover : (ds : InitDeclrs) → AreInitDeclrs all ds → {k : List Lexeme} →
        Covers P (Unit {0}) (init_declrs_tape ds) (other_init_declrs_text all ds k) k
    other_init_declrs_cover no_init_declrs h = nothing
    other_init_declrs_cover (more_init_declrs attrs d asm_label attrs2 i ds) h =
        skip (attrs_skip all attrs (done (join (join (mute (put (contents_cover d h.1 false) (λ f. f)) (one tt))
        (label_skip all asm_label (attrs_skip all attrs2 (some_init_covers i h.5)))) (other_init_declrs_cover ds h.6))))

    declaration_covers : (d : Declaration) → IsDeclaration all d → {k : List Lexeme} →
        Covers P (Unit {0}) (declaration_tape d) (declaration_text all d k) k
    declaration_covers (declaration extensions ws ds semi) h =
        extensions_skip extensions
        (done (mute (ends (join (mute (words_cover ws h.1 _) (one tt)) (either (are_auto ws ds)
        (known (init_declrs_cover ds h.3) (λ is. auto_declrs_cover semi ds is h.3)) (init_declrs_cover ds h.3))))
        (one tt)))

    -- behind `__auto_type`: the `;` is a token of the tape
    auto_declrs_cover : (semi : ℕ) (ds : InitDeclrs) → P semi → AreInitDeclrs all ds → {k : List Lexeme} →
        Covers P (Unit {0}) (auto_declrs_tape semi ds) (init_declrs_text all ds k) k
    auto_declrs_cover semi no_init_declrs is h = nothing
    auto_declrs_cover semi (more_init_declrs attrs d asm_label attrs2 i ds) is h =
        attrs_skip all attrs
        (done (join (join (contents_cover d h.1 false) (label_skip all asm_label (attrs_skip all attrs2
        (auto_init_covers semi i is h.5)))) (other_auto_declrs_cover semi ds is h.6)))

    other_auto_declrs_cover : (semi : ℕ) (ds : InitDeclrs) → P semi → AreInitDeclrs all ds → {k : List Lexeme} →
        Covers P (Unit {0}) (auto_declrs_tape semi ds) (other_init_declrs_text all ds k) k
    other_auto_declrs_cover semi no_init_declrs is h = nothing
    other_auto_declrs_cover semi (more_init_declrs attrs d asm_label attrs2 i ds) is h =
        skip (attrs_skip all attrs
        (done (join (join (contents_cover d h.1 false) (label_skip all asm_label (attrs_skip all attrs2
        (auto_init_covers semi i is h.5)))) (other_auto_declrs_cover semi ds is h.6))))

    auto_init_covers : (semi : ℕ) (i : SomeInit) → P semi → IsSomeInit all i → {k : List Lexeme} →
        Covers P (Unit {0}) (auto_init_tape semi i) (some_init_text all i k) k
    auto_init_covers semi no_init is h = nothing
    auto_init_covers semi (some_init equal (init_value e)) is h =
        skip (done
        (put (mute (set (one tt) (expr_covers e h.0 false false)) (one (is, tt))) (λ f. one (f.first, (f.last, tt)))))
    auto_init_covers semi (some_init equal (init_braced list)) is h = skip (done (as_fact (list_covers list h)))

    decl_covers : (d : Decl) → IsDecl all d → {k : List Lexeme}
        → Covers P (Unit {0}) (decl_tape d) (decl_text all d k) k
    decl_covers (decl_declaration d) h = declaration_covers d h
    decl_covers (decl_assert it) h = assert_skip all it nothing

    block_items_cover : (items : BlockItems) → AreBlockItems all items → (kept : Bool) → {k : List Lexeme} →
        Covers P (Unit {0}) (block_items_tape kept items) (block_items_text all items k) k
    block_items_cover no_block_items h kept = nothing
    block_items_cover (more_block_items item items) h kept =
        done (join (block_item_covers item h.0 _) (block_items_cover items h.1 kept))

    block_item_covers : (item : BlockItem) → IsBlockItem all item → (kept : Bool) → {k : List Lexeme} →
        Covers P (Unit {0}) (block_item_tape kept item) (block_item_text all item k) k
    block_item_covers (block_decl d) h kept = decl_covers d h
    block_item_covers (block_stmt s) h kept = stmt_covers s h kept
    block_item_covers (block_labels keyword names semi) h kept = skip (names_skip names (skip nothing))

    stmt_covers : (s : Stmt) → IsStmt all s → (kept : Bool) → {k : List Lexeme} →
        Covers P (Unit {0}) (stmt_tape kept s) (stmt_text all s k) k
    stmt_covers (block opening items closing) h kept = scope_covers (skip (ends (block_items_cover items h.0 false)))
    stmt_covers (expr_stmt e semi) h kept = ends (either kept (some_expr_covers e h) (dropped_covers e h))
    stmt_covers (attr_stmt attrs semi) h kept = attrs_skip all attrs (skip nothing)
    stmt_covers (label name colon attrs s) h kept = skip (skip (attrs_skip all attrs (stmt_covers s h.1 false)))
    stmt_covers (case_stmt keyword e colon s) h kept =
        skip (done (join (quiet_covers (expr_covers e h.0 false false)) (skip (stmt_covers s h.2 false))))
    stmt_covers (default_stmt keyword colon s) h kept = skip (skip (stmt_covers s h false))
    stmt_covers (if_stmt keyword opening e closing s other) h kept =
        done (scope_covers (skip (skip (join (join (mute (expr_covers e h.0 false false) (one tt))
        (skip (scope_covers (stmt_covers s h.1 false)))) (some_else_covers other s h.2)))))
    stmt_covers (switch_stmt keyword opening e closing s) h kept =
        done (scope_covers (skip (skip (join (mute (expr_covers e h.0 false false) (one tt)) (skip (scope_covers
        (stmt_covers s h.1 false)))))))
    stmt_covers (while_stmt keyword opening e closing s) h kept =
        done (scope_covers (skip (skip (join (mute (expr_covers e h.0 false false) (one tt)) (skip (scope_covers
        (stmt_covers s h.1 false)))))))
    stmt_covers (do_stmt keyword s keyword2 opening e closing semi) h kept =
        done (scope_covers (mute (skip (join (scope_covers (stmt_covers s h.0 false)) (skip (skip (ends (ends
        (expr_covers e h.1 false false))))))) (one tt)))
    stmt_covers (for_stmt keyword opening start e semi e2 closing s) h kept =
        done (scope_covers (skip (skip (join (join (join (for_start_covers start h.0) (dropped_covers e h.1))
        (skip (dropped_covers e2 h.2))) (skip (scope_covers (stmt_covers s h.3 false)))))))
    stmt_covers (goto_stmt keyword name semi) h kept = skip (skip (skip nothing))
    stmt_covers (continue_stmt keyword semi) h kept = skip (skip nothing)
    stmt_covers (break_stmt keyword semi) h kept = skip (skip nothing)
    stmt_covers (return_stmt keyword e semi) h kept = head (λ is. return_covers e h keyword semi is (ended nothing))
    stmt_covers (asm_stmt keyword words group semi) h kept =
        skip (words_skip words (group_skip all group (skip nothing)))
    stmt_covers (case_range keyword e dots e2 colon s) h kept =
        skip (done (join (join (quiet_covers (ends (expr_covers e h.0 false false))) (quiet_covers (ends
        (expr_covers e2 h.2 false false)))) (stmt_covers s h.4 false)))
    stmt_covers (goto_value keyword star e semi) h kept =
        skip (skip (ends (done (mute (expr_covers e h false false) (one tt)))))

    some_else_covers : (other : SomeElse) (before : Stmt) → IsOther all before other → {k : List Lexeme} →
        Covers P (Unit {0}) (some_else_tape other) (some_else_text all other k) k
    some_else_covers no_else before h = nothing
    some_else_covers (some_else keyword s) before h = skip (scope_covers (stmt_covers s h.0 false))

    for_start_covers : (start : ForStart) → IsStart all start → {k : List Lexeme} →
        Covers P (Unit {0}) (for_start_tape start) (for_start_text all start k) k
    for_start_covers (start_declaration d) h = declaration_covers d h
    for_start_covers (start_value e semi) h = ends (dropped_covers e h)

    return_covers : (e : SomeExpr) → IsSomeExpr all e → (keyword semi : ℕ) → P keyword → {m k : List Lexeme} →
        Covers P (Unit {0} × P semi) [] m k
        → Covers P (Unit {0}) (return_tape keyword e semi) (some_expr_text all e m) k
    return_covers no_expr h keyword semi is p = done p
    return_covers (some_expr e) h keyword semi is p =
        done (put (trail (expr_covers e h false false) p) (λ f. one (is, (f.1.1, tt))))

  -- functions with lists of identifiers

  old_declrs_cover : (ds : InitDeclrs) → AreInitDeclrs all ds → {k : List Lexeme} →
      Covers P (Unit {0}) (old_declrs_tape ds) (init_declrs_text all ds k) k
  old_declrs_cover no_init_declrs h = nothing
  old_declrs_cover (more_init_declrs attrs d asm_label attrs2 i ds) h =
      attrs_skip all attrs (done (join (join (mute (put (contents_cover d h.1 false) (λ f. f)) (one tt))
      (label_skip all asm_label (attrs_skip all attrs2 (some_init_covers i h.5)))) (others ds h.6)))
    where
      others : (ds : InitDeclrs) → AreInitDeclrs all ds → {k : List Lexeme} →
          Covers P (Unit {0}) (old_declrs_tape ds) (other_init_declrs_text all ds k) k
      others no_init_declrs h = nothing
      others (more_init_declrs attrs d asm_label attrs2 i ds) h =
          skip (attrs_skip all attrs (done (join (join (mute (put (contents_cover d h.1 false) (λ f. f)) (one tt))
          (label_skip all asm_label (attrs_skip all attrs2 (some_init_covers i h.5)))) (others ds h.6))))

  old_declaration_covers : (d : Declaration) → IsDeclaration all d → {k : List Lexeme} →
      Covers P (Unit {0}) (old_declaration_tape d) (declaration_text all d k) k
  old_declaration_covers (declaration extensions ws ds semi) h =
      extensions_skip extensions (done (mute (ends (join (mute (words_cover ws h.1 _) (one tt)) (either (are_auto ws ds)
      (known (init_declrs_cover ds h.3) (λ is. auto_declrs_cover semi ds is h.3)) (old_declrs_cover ds h.3))))
      (one tt)))

  old_declarations_cover : (ds : List Declaration) → All (IsDeclaration all) ds → {k : List Lexeme} →
      Covers P (Unit {0}) (old_declarations_tape ds) (declarations_text all ds k) k
  old_declarations_cover [] h = nothing
  old_declarations_cover (d ∷ ds) h =
      done (join (old_declaration_covers d (All-head (IsDeclaration all) d ds h))
      (old_declarations_cover ds (All-tail (IsDeclaration all) d ds h)))

  -- the ops of the declarations of parameters stand among those of the declarator
  record OldOnes (ds : List Declaration) (d : Declr) : Type 0 where
    pieces_hold : Holds P (pieces d)
    contents_hold : Holds P (old_declarations_tape ds) → Holds P (old_contents ds d)

  plain_ones : (ds : List Declaration) (d : Declr) → old_contents ds d ≡ contents false d → IsDeclr all d
      → {k : List Lexeme} →
      Covers P (OldOnes ds d) [] (declr_text all d k) k
  plain_ones ds d same h =
      so (as_fact (contents_cover d h false))
      (λ f. record { pieces_hold = f.0; contents_hold = λ g. subst (Holds P) (sym same) f.1 })

  old_contents_cover : (ds : List Declaration) (d : Declr) → IsDeclr all d → {k : List Lexeme} →
      Covers P (OldOnes ds d) [] (declr_text all d k) k
  old_contents_cover ds (identifiers d opening names closing) h =
      so
      (trail (as_fact (contents_cover d h.0 false)) (skip (so (trail (names_cover names) (skip nothing)) (λ f. f.0))))
      (λ f. record {
        pieces_hold = both (one tt) f.0.0;
        contents_hold = λ g. both (both (both (both f.0.1 (one tt)) f.1) g) (one tt);
      })
  old_contents_cover ds (pointer star words d) h =
      skip (bind (pointer_words_at all element words h.0) (λ o. so (old_contents_cover ds d h.1)
      (λ f. record { pieces_hold = both (both o (one tt)) f.pieces_hold; contents_hold = f.contents_hold })))
  old_contents_cover ds (declr_paren opening attrs d closing) h =
      skip (attrs_skip all attrs (so (ends (old_contents_cover ds d h.1))
      (λ f. record { pieces_hold = f.pieces_hold; contents_hold = f.contents_hold })))
  old_contents_cover ds (array d opening words size closing) h =
      so (trail {G = Holds P (array_words_tape words) × Holds P (some_size_tape size)} (old_contents_cover ds d h.0)
      (skip (bind (array_words_at all element words h.3)
      (λ o. so (ends (as_fact (some_size_covers size h.4))) (λ f. (o, f.1))))))
      (λ f. record {
        pieces_hold = both (both f.1.0 (one tt)) f.0.pieces_hold;
        contents_hold = λ g. both (f.0.contents_hold g) f.1.1;
      })
  old_contents_cover ds (params d opening ps dots closing) h =
      so (trail (old_contents_cover ds d h.0)
      (skip (trail (as_fact (params_cover false (says_none ps) (params_go ps h.3)))
      (ends (dots_at all element ps dots h.4)))))
      (λ f. record {
        pieces_hold = both (both f.1.1 (one tt)) f.0.pieces_hold;
        contents_hold = λ g. both (f.0.contents_hold g) f.1.0.1;
      })
  old_contents_cover ds (declr_name token name) h = plain_ones ds (declr_name token name) refl h
  old_contents_cover ds (base_name token) h = plain_ones ds (base_name token) refl h
  old_contents_cover ds (abs_pointer star words d) h = plain_ones ds (abs_pointer star words d) refl h
  old_contents_cover ds (abs_paren opening attrs d closing) h = plain_ones ds (abs_paren opening attrs d closing) refl h
  old_contents_cover ds (abs_array d opening words size closing) h =
      plain_ones ds (abs_array d opening words size closing) refl h
  old_contents_cover ds (abs_params d opening ps dots closing) h =
      plain_ones ds (abs_params d opening ps dots closing) refl h

  item_covers : (item : Item) → IsItem all item → {k : List Lexeme} →
      Covers P (Unit {0}) (item_tape item) (item_text all item k) k
  item_covers (function_item extensions ws d attrs opening items closing) h =
      extensions_skip extensions
      (done (mute (mute (join (mute (mute (put (join (mute (words_cover ws h.1 false) (one tt))
      (contents_cover d h.4 true)) (λ f. f.1)) (one tt)) (one tt))
      (attrs_skip all attrs (skip (ends (block_items_cover items h.7 false))))) (one tt)) (one tt)))
  item_covers (old_function_item extensions ws d attrs ds opening items closing) h =
      extensions_skip extensions
      (done (mute (mute (join (mute (mute (put (join (mute (words_cover ws h.1 false) (one tt))
      (put (trail (old_contents_cover ds d h.4) (attrs_skip all attrs (as_fact (old_declarations_cover ds h.7))))
      (λ f. f.0.contents_hold f.1.1))) (λ f. f.1.0.pieces_hold)) (one tt)) (one tt))
      (skip (ends (block_items_cover items h.8 false)))) (one tt)) (one tt)))
  item_covers (decl_item d) h = decl_covers d h
  item_covers (asm_item keyword group semi) h = skip (group_skip all group (skip nothing))
  item_covers (semi_item semi) h = skip nothing

  pub items_cover : (items : List Item) → All (IsItem all) items → (k : List Lexeme) →
      Covers P (Unit {0}) (tape_of items) (items_text all items k) k
  items_cover [] h k = nothing
  items_cover (item ∷ items) h k =
      done (join (item_covers item (All-head (IsItem all) item items h))
      (items_cover items (All-tail (IsItem all) item items h) k))
