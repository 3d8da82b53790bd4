-- Tapes along which no skeleton begins, and parts of tapes that are said in two ways.
use Rattle.std.proofs.Common.{◌≡◌, ℕ, Bool, true, false, List, [], ◌∷◌, ◌++◌, Option, None, Some, refl, ◌∙◌, ap}
use Rattle.qual_base.proofs.Tests.{and_second, and_first}
use Rattle.c_syntax.specs.declared.parts.Identifier.{Identifier}
use Rattle.c_syntax.specs.declared.parts.Qual.{Qual}
use Rattle.c_syntax.specs.declared.parts.PointerWord.{PointerWord}
use Rattle.c_syntax.specs.declared.parts.PointerWord.TheVariants as pointer_words
use Rattle.c_syntax.specs.declared.parts.ArrayWord.{ArrayWord}
use Rattle.c_syntax.specs.declared.parts.ArrayWord.TheVariants as array_words
use Rattle.tape_ops.specs.declared.op.Op.{Op}
use Rattle.tape_ops.specs.declared.op.Op.TheVariants as ops
use Rattle.tape_ops.specs.declared.specifier.TagKind.{TagKind}
use Rattle.tape_ops.specs.declared.specifier.SpecOp.TheVariants as specs
use Rattle.tape_ops.specs.declared.expression.ExprOp.TheVariants as exprs
use Rattle.tape_ops.specs.declared.declarator.DeclrOp.TheVariants as declrs
use Rattle.tape_ops.specs.declared.initialiser.InitOp.TheVariants as inits
use Rattle.c_tree.specs.Tree.{Exprs, no_exprs, more_exprs, SpecWords, no_words, more_words, SpecWord, storage, thread, inline_word, noreturn, qualifier, basic, struct_type, enum_type, typedef_name, attribute, Declr, pointer, declr_name, declr_paren, array, params, abs_pointer, abs_paren, abs_array, abs_params, SomeDeclr, no_declr, some_declr, Params, no_params, more_params, Init, init_value, init_braced, InitList, init_list, InitItems, no_init_items, more_init_items, Desigs, no_desigs, more_desigs, member_desig, index_desig, BlockItems, no_block_items, more_block_items, block_decl, block_stmt, Stmt, block, expr_stmt, attr_stmt, label, case_stmt, default_stmt, if_stmt, switch_stmt, while_stmt, do_stmt, for_stmt, goto_stmt, continue_stmt, break_stmt, return_stmt, asm_stmt, no_expr, some_expr, Dots, identifiers, base_name, range_desig, old_desig, block_labels, case_range, goto_value, typeof_value, typeof_type, align, auto_word}
use Rattle.c_tree.specs.Firsts.{qual_token}
use Rattle.c_tree.specs.Ends.{first_token, last_token}
use Rattle.c_tape.specs.Tests.{is_bare_word, says_none, has_ellipsis}
use Rattle.c_tape.specs.Tests as tape_tests
use Rattle.c_tape.specs.Tape.{count, pointer_words_tape, array_words_tape, quals_tape, dots_tape, pieces, some_pieces, arguments, tag_tape, rule, rule_of_list, rule_of_items, desigs_tape}
use Rattle.type_rules.specs.Tokens.{is_bare}
use Rattle.row_rules.specs.Starting.{Start, Around, Having}
use Rattle.constraint_rules.specs.Starts.{words_starts, word_starts, params_starts}
use Rattle.constraint_rules.specs.Starts as starts
use Rattle.name_rules.specs.ShapeSteps.State.{State}
use Rattle.row_laws.proofs.StartLaws.Found.{Over, behind, run_append, Finds, nothing, join, idle}

-- a tape along which no skeleton begins
abbrev pub FindsNone : Over → List Op → Type 0
FindsNone k tape = (h : Having) → Finds k h tape (λ a. [])

-- that changes no stack of shapes either
pub record IsPlain (k : Over) (tape : List Op) : Type 0 where
  pub left : (st : State) → behind k st tape ≡ st
  pub none : FindsNone k tape

module _ (k : Over) where
  pub none_both : {xs ys : List Op} → FindsNone k xs → FindsNone k ys → FindsNone k (xs ++ ys)
  none_both p q = λ h. join (p h) (q h)

  empty : IsPlain k []
  empty = record { left = λ st. refl; none = λ h. nothing }

  both : {xs ys : List Op} → IsPlain k xs → IsPlain k ys → IsPlain k (xs ++ ys)
  both {xs} {ys} p q = record {
    left = λ st. run_append k xs ys st ∙ (q.left (behind k st xs) ∙ p.left st);
    none = none_both p.none q.none;
  }

  -- qualifiers

  qual_plain : (token : ℕ) → IsPlain k (ops.Spec (specs.Word token) ∷ [])
  qual_plain token = record {
    left = λ st. refl;
    none = λ h. idle (ops.Spec (specs.Word token)) (λ st r. refl) (λ ds r. refl);
  }

  quals_plain : (qs : List Qual) → IsPlain k (quals_tape qs)
  quals_plain [] = empty
  quals_plain (q ∷ qs) = both (qual_plain (qual_token q)) (quals_plain qs)

  pointer_words_plain : (words : List PointerWord) → IsPlain k (pointer_words_tape words)
  pointer_words_plain [] = empty
  pointer_words_plain (pointer_words.Qual q ∷ words) = both (qual_plain (qual_token q)) (pointer_words_plain words)
  pointer_words_plain (pointer_words.Attr attr ∷ words) = pointer_words_plain words

  array_words_plain : (words : List ArrayWord) → IsPlain k (array_words_tape words)
  array_words_plain [] = empty
  array_words_plain (array_words.Static token ∷ words) = array_words_plain words
  array_words_plain (array_words.Qual q ∷ words) = both (qual_plain (qual_token q)) (array_words_plain words)

  dots_plain : (dots : Option Dots) → IsPlain k (dots_tape dots)
  dots_plain None = empty
  dots_plain (Some dots) = quals_plain dots.quals

  -- what the types of declarators are made of

  pointer_plain : IsPlain k (ops.Declr declrs.Pointer ∷ [])
  pointer_plain = record {
    left = λ st. refl;
    none = λ h. idle (ops.Declr declrs.Pointer) (λ st r. refl) (λ ds r. refl);
  }

  array_plain : IsPlain k (ops.Declr declrs.Array ∷ [])
  array_plain = record {
    left = λ st. refl;
    none = λ h. idle (ops.Declr declrs.Array) (λ st r. refl) (λ ds r. refl);
  }

  function_plain : (has_ellipsis : Bool) → IsPlain k (ops.Declr (declrs.Function has_ellipsis) ∷ [])
  function_plain has_ellipsis = record {
    left = λ st. refl;
    none = λ h. idle (ops.Declr (declrs.Function has_ellipsis)) (λ st r. refl) (λ ds r. refl);
  }

  mutual
    pub pieces_plain : (d : Declr) → IsPlain k (pieces d)
    pieces_plain (pointer star words d) = both (both (pointer_words_plain words) pointer_plain) (pieces_plain d)
    pieces_plain (declr_name token name) = empty
    pieces_plain (declr_paren opening attrs d closing) = pieces_plain d
    pieces_plain (array d opening words size closing) =
        both (both (array_words_plain words) array_plain) (pieces_plain d)
    pieces_plain (params d opening ps dots closing) =
        both (both (dots_plain dots) (function_plain (has_ellipsis ps dots))) (pieces_plain d)
    pieces_plain (abs_pointer star words d) =
        both (both (pointer_words_plain words) pointer_plain) (some_pieces_plain d)
    pieces_plain (abs_paren opening attrs d closing) = pieces_plain d
    pieces_plain (abs_array d opening words size closing) =
        both (both (array_words_plain words) array_plain) (some_pieces_plain d)
    pieces_plain (abs_params d opening ps dots closing) =
        both (both (dots_plain dots) (function_plain (has_ellipsis ps dots))) (some_pieces_plain d)
    pieces_plain (identifiers d opening names closing) = both (function_plain false) (pieces_plain d)
    pieces_plain (base_name token) = empty

    pub some_pieces_plain : (d : SomeDeclr) → IsPlain k (some_pieces d)
    some_pieces_plain no_declr = empty
    some_pieces_plain (some_declr d) = pieces_plain d

  -- tags, and arguments behind their values

  pub tag_none : (alone : Bool) (kind : TagKind) (tag : Option Identifier) → FindsNone k (tag_tape alone kind tag)
  tag_none alone kind None = λ h. nothing
  tag_none true kind (Some tag) =
      λ h. idle (ops.Spec (specs.TagAlone kind tag.token tag.name)) (λ st r. refl) (λ ds r. refl)
  tag_none false kind (Some tag) =
      λ h. idle (ops.Spec (specs.TagUse kind tag.token tag.name)) (λ st r. refl) (λ ds r. refl)

  pub arguments_none : (es : Exprs) → FindsNone k (arguments es)
  arguments_none no_exprs = λ h. nothing
  arguments_none (more_exprs e es) =
      none_both (λ h. idle (ops.Expr (exprs.Arg (count es) (first_token e) (last_token e))) (λ st r. refl)
      (λ ds r. refl)) (arguments_none es)

  -- the list of an initialiser, gone through once more

  desigs_none : (ds : Desigs) → FindsNone k (desigs_tape ds)
  desigs_none no_desigs = λ h. nothing
  desigs_none (more_desigs (member_desig before name) ds) =
      none_both (λ h. idle (ops.Init (inits.Member name.token name.name)) (λ st r. refl) (λ ds r. refl))
      (desigs_none ds)
  desigs_none (more_desigs (index_desig opening e closing) ds) =
      none_both (λ h. idle (ops.Init (inits.Index opening)) (λ st r. refl) (λ ds r. refl)) (desigs_none ds)
  desigs_none (more_desigs (range_desig opening e dots e2 closing) ds) =
      none_both (λ h. idle (ops.Init (inits.Index opening)) (λ st r. refl) (λ ds r. refl)) (desigs_none ds)
  desigs_none (more_desigs (old_desig name colon) ds) =
      none_both (λ h. idle (ops.Init (inits.Member name.token name.name)) (λ st r. refl) (λ ds r. refl))
      (desigs_none ds)

  mutual
    rule_none : (i : Init) → FindsNone k (rule i)
    rule_none (init_value e) =
        λ h. idle (ops.Init (inits.Leaf (first_token e) (last_token e))) (λ st r. refl) (λ ds r. refl)
    rule_none (init_braced list) = list_none list

    pub list_none : (list : InitList) → FindsNone k (rule_of_list list)
    list_none (init_list opening items last closing) =
        none_both (none_both (λ h. idle (ops.Init inits.ListBegin) (λ st r. refl) (λ ds r. refl)) (items_none items))
        (λ h. idle (ops.Init inits.ListEnd) (λ st r. refl) (λ ds r. refl))

    items_none : (items : InitItems) → FindsNone k (rule_of_items items)
    items_none no_init_items = λ h. nothing
    items_none (more_init_items ds equal i items) =
        none_both (none_both (desigs_none ds) (rule_none i)) (items_none items)

-- what is said in two ways

-- whether a statement has a value is the same by tapes and by rules
same_value : (t : Stmt) → tape_tests.is_value t ≡ starts.is_value_stmt t
same_value (block opening items closing) = refl
same_value (expr_stmt no_expr semi) = refl
same_value (expr_stmt (some_expr e) semi) = refl
same_value (attr_stmt attrs semi) = refl
same_value (label name colon attrs t) = refl
same_value (case_stmt keyword e colon t) = refl
same_value (default_stmt keyword colon t) = refl
same_value (if_stmt keyword opening e closing t other) = refl
same_value (switch_stmt keyword opening e closing t) = refl
same_value (while_stmt keyword opening e closing t) = refl
same_value (do_stmt keyword t keyword2 opening e closing semi) = refl
same_value (for_stmt keyword opening start e semi e2 closing t) = refl
same_value (goto_stmt keyword name semi) = refl
same_value (continue_stmt keyword semi) = refl
same_value (break_stmt keyword semi) = refl
same_value (return_stmt keyword e semi) = refl
same_value (asm_stmt keyword words group semi) = refl
same_value (case_range keyword e dots e2 colon t) = refl
same_value (goto_value keyword star e semi) = refl

-- whether a block ends in a value is the same by tapes and by rules
pub same_end : (items : BlockItems) → tape_tests.ends_in_value items ≡ starts.ends_in_value items
same_end no_block_items = refl
same_end (more_block_items (block_decl d) no_block_items) = refl
same_end (more_block_items (block_stmt t) no_block_items) = same_value t
same_end (more_block_items (block_labels keyword names semi) no_block_items) = refl
same_end (more_block_items item (more_block_items item2 items)) = same_end (more_block_items item2 items)

-- in a list of parameters that says that there are none, no skeleton begins

-- no skeleton begins in a word of specifiers that has no body and no type by parentheses
bare_word : (a : Around) (word : SpecWord) → is_bare_word word ≡ true → word_starts a word ≡ []
bare_word a (storage word) e = refl
bare_word a (thread token) e = refl
bare_word a (inline_word token) e = refl
bare_word a (noreturn token) e = refl
bare_word a (qualifier q) e = refl
bare_word a (basic word) e = refl
bare_word a (struct_type word attrs tag body) e = absurd cc
bare_word a (enum_type it) e = absurd cc
bare_word a (typedef_name name) e = refl
bare_word a (attribute attr) e = refl
bare_word a (typeof_value keyword opening it closing) e = absurd cc
bare_word a (typeof_type word opening ws d closing) e = absurd cc
bare_word a (align attr) e = refl
bare_word a (auto_word token) e = refl

-- no skeletons begin in words of specifiers of which none has a body or a type by parentheses
bare_words : (a : Around) (ws : SpecWords) → tape_tests.is_bare ws ≡ true → words_starts a ws ≡ []
bare_words a no_words e = refl
bare_words a (more_words word ws) e =
    ap (λ (before : List Start). before ++ words_starts a ws)
    (bare_word a word (and_first (is_bare_word word) (tape_tests.is_bare ws) e))
    ∙ bare_words a ws (and_second (is_bare_word word) (tape_tests.is_bare ws) e)

-- no skeleton begins in a list of parameters that says that there are none
pub none_said : (a : Around) (h : Having) (ps : Params) → says_none ps ≡ true → params_starts a h ps ≡ []
none_said a h no_params e = refl
none_said a h (more_params ws no_declr attrs no_params) e =
    ap (λ (before : List Start). before ++ []) (bare_words a ws e)
none_said a h (more_params ws no_declr attrs (more_params ws2 d attrs2 ps)) e = absurd cc
none_said a h (more_params ws (some_declr d) attrs ps) e = absurd cc
