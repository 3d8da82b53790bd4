-- The tapes of all forms end what they begin.
use Rattle.std.proofs.Common.{◌≡◌, ℕ, Bool, true, false, List, [], ◌∷◌, ◌++◌, Option, None, Some, refl, sym, ◌∙◌, ap, subst}
use Rattle.std.specs.Prelude.{◌&&◌, ◌||◌, if◌then◌else◌}
use Rattle.std.proofs.lemmas.Bool.{eq-eqb, and_parts}
use Rattle.c_tree.specs.Tree.{Expr, operation, cast, prefix, sizeof_value, sizeof_type, extension, index, call, dot, arrow, post, compound, name_use, number_use, char_use, text_use, paren, statement_expr, va_arg, va_start, va_copy, offset, Operator, comma, assign, cond, binary, SomeExpr, no_expr, some_expr, Exprs, no_exprs, more_exprs, SpecWords, no_words, more_words, SpecWord, storage, thread, inline_word, noreturn, qualifier, basic, struct_type, enum_type, typedef_name, attribute, SomeBody, no_body, some_body, StructItems, no_struct_items, more_struct_items, StructItem, member, member_semi, member_assert, MemDeclrs, no_mem_declrs, more_mem_declrs, MemDeclr, named, unnamed, SomeValue, no_value, some_value, EnumType, enum_of, SomeEnumBody, no_enum_body, some_enum_body, Enumerators, no_enumerators, more_enumerators, Declr, pointer, declr_name, declr_paren, array, params, abs_pointer, abs_paren, abs_array, abs_params, SomeDeclr, no_declr, some_declr, SomeSize, no_size, some_size, ArraySize, size_value, size_star, Params, no_params, more_params, Init, init_value, init_braced, InitList, init_list, InitItems, no_init_items, more_init_items, Desigs, no_desigs, more_desigs, Desig, member_desig, index_desig, SomeInit, no_init, some_init, InitDeclrs, no_init_declrs, more_init_declrs, Declaration, declaration, Decl, decl_declaration, decl_assert, BlockItems, no_block_items, more_block_items, BlockItem, block_decl, block_stmt, Stmt, block, expr_stmt, attr_stmt, label, case_stmt, default_stmt, if_stmt, switch_stmt, while_stmt, do_stmt, for_stmt, goto_stmt, continue_stmt, break_stmt, return_stmt, asm_stmt, SomeElse, no_else, some_else, ForStart, start_declaration, start_value, complex_part, label_use, compat, choose, generic, Assocs, no_assocs, more_assocs, Assoc, typed_assoc, default_assoc, typeof_value, typeof_type, align, auto_word, identifiers, base_name, range_desig, old_desig, block_labels, case_range, goto_value}
use Rattle.c_tree.specs.Unit.{Item, function_item, old_function_item, decl_item, asm_item, semi_item, is_round_name}
use Rattle.c_tree.specs.Ends.{first_token, last_token}
use Rattle.c_tree.specs.Firsts.{first_word}
use Rattle.c_syntax.specs.declared.parts.Identifier.{Identifier}
use Rattle.tape_ops.specs.declared.op.Op.{Op}
use Rattle.tape_ops.specs.declared.specifier.TagKind.{TagKind}
use Rattle.tape_ops.specs.declared.specifier.TagKind.TheVariants as tags
use Rattle.c_tape.specs.Tests.{are_auto, is_void, tag_kind, says_none, is_name}
use Rattle.c_tape.specs.Tape.{tape_in, assocs_tape, assoc_tape, auto_declrs_tape, auto_init_tape, identifiers_tape, old_declrs_tape, old_declaration_tape, old_declarations_tape, old_contents, middle_tape, some_expr_tape, exprs_tape, dropped_tape, steps_tape, step_tape, words_tape, word_tape, struct_tape, struct_items_tape, struct_item_tape, members_tape, mem_declrs_tape, mem_declr_tape, some_value_tape, enum_tape, enum_body_tape, enumerators_tape, some_declr_tape, contents, some_contents, some_size_tape, size_tape, params_tape, init_tape, list_tape, init_items_tape, indices_tape, index_tape, some_init_tape, declared_init_tape, init_declrs_tape, declaration_tape, decl_tape, block_items_tape, block_item_tape, stmt_tape, some_else_tape, for_start_tape, return_tape, item_tape}
use Rattle.owned_laws.specs.TapeLaws.Marks.{Mark, in_declaration, in_params, in_tag, in_body, is_open, is_token, body_begun, params_begun, name_token, some_name_token, function_token, in_part, auto_ended, lists_own, DeclaresIts, ItemsAreBracketed}
use Rattle.owned_laws.specs.TapeLaws.Marks as marks
use Rattle.owned_laws.proofs.TapeLaws.Passing.{Passes, Declares, none, join, one, quiet_passes, scope_passes, specs_pass, type_name_passes, params_pass, declared_passes, pieces_pass, rule_list_passes, arguments_pass, operator_passes, prefix_passes, tag_passes, body_passes, unnamed_passes, void_passes}

-- what names and own parameters are behind a declarator

-- the token of the name that was read last, by that of a declarator and the one before it
abbrev pub read : Option ℕ → Option ℕ → Option ℕ
read None n = n
read (Some token) n = Some token

-- whether a function's own parameters are behind a declarator
abbrev pub behind : Bool → Declr → Bool → Bool
behind own (pointer star words d) o = behind own d o
behind own (declr_name token name) o = o
behind own (declr_paren opening attrs d closing) o = behind own d o
behind own (array d opening words size closing) o = behind own d o
behind own (params d opening ps dots closing) o = (own && is_name d) || behind own d o
behind own (abs_pointer star words d) o = o
behind own (abs_paren opening attrs d closing) o = behind own d o
behind own (abs_array d opening words size closing) o = o
behind own (abs_params d opening ps dots closing) o = o
behind own (identifiers d opening names closing) o = behind own d o
behind own (base_name token) o = o

-- a declarator that is not own leaves as it was whether own parameters were there
none_behind : (d : Declr) (o : Bool) → behind false d o ≡ o
none_behind (pointer star words d) o = none_behind d o
none_behind (declr_name token name) o = refl
none_behind (declr_paren opening attrs d closing) o = none_behind d o
none_behind (array d opening words size closing) o = none_behind d o
none_behind (params d opening ps dots closing) o = none_behind d o
none_behind (abs_pointer star words d) o = refl
none_behind (abs_paren opening attrs d closing) o = none_behind d o
none_behind (abs_array d opening words size closing) o = refl
none_behind (abs_params d opening ps dots closing) o = refl
none_behind (identifiers d opening names closing) o = none_behind d o
none_behind (base_name token) o = refl

not_above : (above b : Bool) → b ≡ true → ((above && false) || b) ≡ true
not_above true b e = e
not_above false b e = e

name_above : (above o : Bool) → above ≡ true → ((above && true) || o) ≡ true
name_above true o e = refl
name_above false o e = absurd cc

-- behind what declares a function its own parameters are there, with those above
own_behind : (d : Declr) (above o : Bool) → is_round_name d above ≡ true →
    ((above && is_name d) || behind true d o) ≡ true
own_behind (pointer star words d) above o e = not_above above _ (own_behind d false o e)
own_behind (declr_name token name) above o e = name_above above o e
own_behind (declr_paren opening attrs d closing) above o e = own_behind d above o e
own_behind (array d opening words size closing) above o e = not_above above _ (own_behind d false o e)
own_behind (params d opening ps dots closing) above o e = not_above above _ (own_behind d true o e)
own_behind (abs_pointer star words d) above o e = absurd cc
own_behind (abs_paren opening attrs d closing) above o e = absurd cc
own_behind (abs_array d opening words size closing) above o e = absurd cc
own_behind (abs_params d opening ps dots closing) above o e = absurd cc
own_behind (identifiers d opening names closing) above o e = absurd cc
own_behind (base_name token) above o e = absurd cc

same_token : (n : ℕ) → is_token (Some n) (Some n) ≡ true
same_token n = eq-eqb n n refl

-- the name of what declares a function is the one that was read last
round_read : (d : Declr) (above : Bool) (n : Option ℕ) → is_round_name d above ≡ true →
    is_token (read (name_token d) n) (name_token d) ≡ true
round_read (pointer star words d) above n e = round_read d false n e
round_read (declr_name token name) above n e = same_token token
round_read (declr_paren opening attrs d closing) above n e = round_read d above n e
round_read (array d opening words size closing) above n e = round_read d false n e
round_read (params d opening ps dots closing) above n e = round_read d true n e
round_read (abs_pointer star words d) above n e = absurd cc
round_read (abs_paren opening attrs d closing) above n e = absurd cc
round_read (abs_array d opening words size closing) above n e = absurd cc
round_read (abs_params d opening ps dots closing) above n e = absurd cc
round_read (identifiers d opening names closing) above n e = absurd cc
round_read (base_name token) above n e = absurd cc

-- the name of a declarator that is no more than a name is the one that was read last
bare_read : (d : Declr) (n : Option ℕ) → is_name d ≡ true → is_token (read (name_token d) n) (name_token d) ≡ true
bare_read (pointer star words d) n e = absurd cc
bare_read (declr_name token name) n e = same_token token
bare_read (declr_paren opening attrs d closing) n e = bare_read d n e
bare_read (array d opening words size closing) n e = absurd cc
bare_read (params d opening ps dots closing) n e = absurd cc
bare_read (abs_pointer star words d) n e = absurd cc
bare_read (abs_paren opening attrs d closing) n e = absurd cc
bare_read (abs_array d opening words size closing) n e = absurd cc
bare_read (abs_params d opening ps dots closing) n e = absurd cc
bare_read (identifiers d opening names closing) n e = absurd cc
bare_read (base_name token) n e = absurd cc

kept_or : {t : Option ℕ} {m : List Mark} {xs ys : List Op} (b : Bool) → Passes t m xs m → Passes t m ys m →
    Passes t m (if b then xs else ys) m
kept_or true p q = p
kept_or false p q = q

-- from these marks to the same
abbrev Over : Option ℕ → List Mark → List Op → Type 0
Over t m tape = Passes t m tape m

no_own : {A : Type 0} → false ≡ true → A
no_own e = absurd cc

-- where a name with the type of its initialiser may be declared
abbrev TakesAuto : List Mark → Type 0
TakesAuto m = (n d : Option ℕ) (o : Bool) →
    auto_ended (in_part ∷ (in_declaration n d o ∷ m)) ≡ Some (in_declaration None n o ∷ m)

-- a name with the type of its initialiser may be declared in an open scope, in a body or in the file
open_takes : (m : List Mark) → is_open m ≡ true → TakesAuto m
open_takes [] e n d o = refl
open_takes (marks.in_scope ∷ m) e n d o = refl
open_takes (in_body ∷ m) e n d o = refl
open_takes (in_declaration n2 d2 own ∷ m) e n d o = absurd cc
open_takes (in_params own ∷ m) e n d o = absurd cc
open_takes (in_tag ∷ m) e n d o = absurd cc
open_takes (marks.in_quiet ∷ m) e n d o = absurd cc
open_takes (in_part ∷ m) e n d o = absurd cc

module _ {t : Option ℕ} where
  -- a part of a declaration, and what is behind it
  with_more : {m : List Mark} {n d : Option ℕ} {o : Bool} {xs ys : List Op} → Declares t n d o m xs →
      ((n2 d2 : Option ℕ) → Declares t n2 d2 o m ys) → Declares t n d o m (xs ++ ys)
  with_more p q =
      let next = q p.name p.last in
      record { name = next.name; last = next.last; goes = join p.goes next.goes }

  -- what is declared behind the name of a declarator
  behind_name : {m : List Mark} {n2 n d : Option ℕ} {o : Bool} {xs ys : List Op} →
      Passes t (in_declaration n d o ∷ m) xs (in_declaration n2 d o ∷ m) → Declares t n2 d o m ys →
      Declares t n d o m (xs ++ ys)
  behind_name p q = record { name = q.name; last = q.last; goes = join p q.goes }

  either_declares : {m : List Mark} {n d : Option ℕ} {o : Bool} {xs ys : List Op} (b : Bool) → Declares t n d o m xs →
      Declares t n d o m ys → Declares t n d o m (if b then xs else ys)
  either_declares true p q = p
  either_declares false p q = q

  named_before : {m : List Mark} (own : Bool) (d : Declr) (n : Option ℕ) →
      (own ≡ true → (m ≡ []) × (t ≡ name_token d)) → (own && is_name d) ≡ true →
      (m ≡ []) × (is_token (read (name_token d) n) t ≡ true)
  named_before own d n h e = (
    (h (and_parts own (is_name d) e).0).0,
    subst (λ (it : Option ℕ). is_token (read (name_token d) n) it ≡ true)
        (sym (h (and_parts own (is_name d) e).0).1) (bare_read d n (and_parts own (is_name d) e).1),
  )

  -- what is no function's has no own parameters
  plain : (d : Declr) {m : List Mark} {n dd : Option ℕ} {o : Bool} →
      Passes t (in_declaration n dd o ∷ m) (contents false d)
      (in_declaration (read (name_token d) n) dd (behind false d o) ∷ m) →
      Passes t (in_declaration n dd o ∷ m) (contents false d) (in_declaration (read (name_token d) n) dd o ∷ m)
  plain d {m} {n} {dd} {o} p =
      subst (λ (b : Bool). Passes t (in_declaration n dd o ∷ m) (contents false d)
      (in_declaration (read (name_token d) n) dd b ∷ m)) (none_behind d o) p

  mutual
    pub expr_passes : (e : Expr) → {m : List Mark} (called aims : Bool) → Over t m (tape_in called aims e)
    expr_passes (operation e op token e2) called aims =
        join (join (join (expr_passes e false false) (middle_passes op)) (expr_passes e2 false false))
        (operator_passes op token (first_token e) (last_token e2))
    expr_passes (cast opening ws d closing e) called aims =
        join (join (type_name_passes (first_word ws) (words_pass ws false) (some_declr_passes d))
        (expr_passes e false false)) (one refl)
    expr_passes (prefix token p e) called aims =
        prefix_passes token p e aims (expr_passes e false true) (expr_passes e false false)
    expr_passes (sizeof_value word e) called aims = join (join (one refl) (expr_passes e false false)) (one refl)
    expr_passes (sizeof_type word opening ws d closing) called aims =
        join (join (one refl) (type_name_passes (first_word ws) (words_pass ws false) (some_declr_passes d))) (one refl)
    expr_passes (extension keyword e) called aims = join (expr_passes e false aims) (one refl)
    expr_passes (index e opening e2 closing) called aims =
        join (join (expr_passes e false false) (expr_passes e2 false false)) (one refl)
    expr_passes (call e opening es closing) called aims =
        join (join (join (expr_passes e true false) (exprs_pass es)) (arguments_pass es)) (one refl)
    expr_passes (dot e token name) called aims = join (expr_passes e false aims) (one refl)
    expr_passes (arrow e token name) called aims = join (join (expr_passes e false false) (one refl)) (one refl)
    expr_passes (post e token p) called aims = join (expr_passes e false false) (one refl)
    expr_passes (compound opening ws d closing list) called aims =
        join (join
        (join (join (join (type_name_passes (first_word ws) (words_pass ws false) (some_declr_passes d)) (one refl))
        (list_passes list)) (one refl)) (rule_list_passes list)) (one refl)
    expr_passes (name_use token name) called aims = one refl
    expr_passes (number_use token) called aims = one refl
    expr_passes (char_use token) called aims = one refl
    expr_passes (text_use texts) called aims = one refl
    expr_passes (paren opening e closing) called aims = join (expr_passes e false aims) (one refl)
    expr_passes (statement_expr opening opening2 items closing closing2) called aims =
        join (scope_passes (block_items_pass items true refl)) (one refl)
    expr_passes (va_arg keyword opening e separator ws d closing) called aims =
        join (join (expr_passes e false false)
        (type_name_passes (first_word ws) (words_pass ws false) (some_declr_passes d))) (one refl)
    expr_passes (va_start keyword opening e separator e2 closing) called aims =
        join (join (expr_passes e false false) (expr_passes e2 false false)) (one refl)
    expr_passes (va_copy keyword opening e separator e2 closing) called aims =
        join (join (expr_passes e false false) (expr_passes e2 false false)) (one refl)
    expr_passes (offset keyword opening ws d separator name steps closing) called aims =
        join (join (join (join (one refl)
        (type_name_passes (first_word ws) (words_pass ws false) (some_declr_passes d))) (one refl))
        (steps_pass steps)) (one refl)
    expr_passes (complex_part keyword e) called aims = join (expr_passes e false aims) (one refl)
    expr_passes (label_use token name) called aims = one refl
    expr_passes (compat keyword opening ws d separator ws2 d2 closing) called aims =
        join (join (join (one refl) (type_name_passes (first_word ws) (words_pass ws false) (some_declr_passes d)))
        (type_name_passes (first_word ws2) (words_pass ws2 false) (some_declr_passes d2))) (one refl)
    expr_passes (choose keyword opening e separator e2 separator2 e3 closing) called aims =
        join (join (join (quiet_passes (expr_passes e false false)) (expr_passes e2 false false))
        (expr_passes e3 false false)) (one refl)
    expr_passes (generic keyword opening e xs closing) called aims =
        join (join (join (join (one refl) (expr_passes e false false)) (one refl)) (assocs_pass xs)) (one refl)

    assocs_pass : (xs : Assocs) → {m : List Mark} → Over t m (assocs_tape xs)
    assocs_pass no_assocs = none
    assocs_pass (more_assocs x xs) = join (assoc_passes x) (assocs_pass xs)

    assoc_passes : (x : Assoc) → {m : List Mark} → Over t m (assoc_tape x)
    assoc_passes (typed_assoc ws d colon e) =
        join (type_name_passes (first_word ws) (words_pass ws false) (some_declr_passes d)) (expr_passes e false false)
    assoc_passes (default_assoc keyword colon e) = join (one refl) (expr_passes e false false)

    middle_passes : (op : Operator) → {m : List Mark} → Over t m (middle_tape op)
    middle_passes comma = none
    middle_passes (assign p) = none
    middle_passes (cond middle colon) = some_expr_passes middle
    middle_passes (binary p) = none

    some_expr_passes : (e : SomeExpr) → {m : List Mark} → Over t m (some_expr_tape e)
    some_expr_passes no_expr = none
    some_expr_passes (some_expr e) = expr_passes e false false

    exprs_pass : (es : Exprs) → {m : List Mark} → Over t m (exprs_tape es)
    exprs_pass no_exprs = none
    exprs_pass (more_exprs e es) = join (expr_passes e false false) (exprs_pass es)

    dropped_passes : (e : SomeExpr) → {m : List Mark} → Over t m (dropped_tape e)
    dropped_passes no_expr = none
    dropped_passes (some_expr e) = join (expr_passes e false false) (one refl)

    steps_pass : (ds : Desigs) → {m : List Mark} → Over t m (steps_tape ds)
    steps_pass no_desigs = none
    steps_pass (more_desigs d ds) = join (step_passes d) (steps_pass ds)

    step_passes : (d : Desig) → {m : List Mark} → Over t m (step_tape d)
    step_passes (member_desig before name) = one refl
    step_passes (index_desig opening e closing) = join (expr_passes e false false) (one refl)
    step_passes (range_desig opening e dots e2 closing) =
        join (join (expr_passes e false false) (quiet_passes (expr_passes e2 false false))) (one refl)
    step_passes (old_desig name colon) = one refl

    -- specifiers

    pub words_pass : (ws : SpecWords) → {m : List Mark} (alone : Bool) → Over t m (words_tape alone ws)
    words_pass no_words alone = none
    words_pass (more_words word ws) alone = join (word_passes word alone) (words_pass ws alone)

    word_passes : (word : SpecWord) → {m : List Mark} (alone : Bool) → Over t m (word_tape alone word)
    word_passes (storage word) alone = one refl
    word_passes (thread token) alone = none
    word_passes (inline_word token) alone = one refl
    word_passes (noreturn token) alone = none
    word_passes (qualifier q) alone = one refl
    word_passes (basic word) alone = void_passes (is_void word.keyword)
    word_passes (struct_type word attrs tag body) alone =
        struct_passes body alone (tag_kind word.keyword) word.token tag
    word_passes (enum_type e) alone = enum_passes e
    word_passes (typedef_name name) alone = one refl
    word_passes (attribute attr) alone = none
    word_passes (typeof_value keyword opening e closing) alone =
        join (join (join (join (one refl) (one refl)) (expr_passes e false false)) (one refl)) (one refl)
    word_passes (typeof_type word opening ws d closing) alone =
        join (join (one refl) (type_name_passes (first_word ws) (words_pass ws false) (some_declr_passes d))) (one refl)
    word_passes (align attr) alone = none
    word_passes (auto_word token) alone = none

    struct_passes : (body : SomeBody) → {m : List Mark} (alone : Bool) (kind : TagKind) (keyword : ℕ)
        (tag : Option Identifier) → Over t m (struct_tape alone kind keyword tag body)
    struct_passes no_body alone kind keyword tag = tag_passes alone kind tag
    struct_passes (some_body opening items closing) alone kind keyword tag =
        join (join (body_passes kind keyword tag) (struct_items_pass items)) (one refl)

    struct_items_pass : (items : StructItems) → {m : List Mark} → Over t (in_tag ∷ m) (struct_items_tape items)
    struct_items_pass no_struct_items = none
    struct_items_pass (more_struct_items item items) = join (struct_item_passes item) (struct_items_pass items)

    struct_item_passes : (item : StructItem) → {m : List Mark} → Over t (in_tag ∷ m) (struct_item_tape item)
    struct_item_passes (member extensions ws ds semi) =
        join (join (specs_pass (words_pass ws false)) (members_pass ds ws).goes) (one refl)
    struct_item_passes (member_semi semi) = none
    struct_item_passes (member_assert it) = none

    members_pass : (ds : MemDeclrs) → {m : List Mark} {n dd : Option ℕ} {o : Bool} (ws : SpecWords) →
        Declares t n dd o (in_tag ∷ m) (members_tape ws ds)
    members_pass no_mem_declrs {n = n} {dd = dd} ws = record { name = n; last = dd; goes = unnamed_passes ws }
    members_pass (more_mem_declrs attrs d ds) ws = with_more (mem_declr_passes d) (λ n dd. mem_declrs_pass ds)

    mem_declrs_pass : (ds : MemDeclrs) → {m : List Mark} {n dd : Option ℕ} {o : Bool} →
        Declares t n dd o (in_tag ∷ m) (mem_declrs_tape ds)
    mem_declrs_pass no_mem_declrs {n = n} {dd = dd} = record { name = n; last = dd; goes = none }
    mem_declrs_pass (more_mem_declrs attrs d ds) = with_more (mem_declr_passes d) (λ n dd. mem_declrs_pass ds)

    mem_declr_passes : (d : MemDeclr) → {m : List Mark} {n dd : Option ℕ} {o : Bool} →
        Declares t n dd o (in_tag ∷ m) (mem_declr_tape d)
    mem_declr_passes (named d width attrs) {dd = dd} =
        record {
          name = None;
          last = dd;
          goes = join (join (join (plain d (contents_pass d false no_own)) (pieces_pass d)) (one refl))
              (some_value_passes width);
        }
    mem_declr_passes (unnamed colon e attrs) {n = n} {dd = dd} =
        record { name = n; last = dd; goes = quiet_passes (expr_passes e false false) }

    some_value_passes : (value : SomeValue) → {m : List Mark} → Over t m (some_value_tape value)
    some_value_passes no_value = none
    some_value_passes (some_value token e) = quiet_passes (expr_passes e false false)

    enum_passes : (e : EnumType) → {m : List Mark} → Over t m (enum_tape e)
    enum_passes (enum_of keyword attrs tag body) = enum_body_passes body keyword tag

    enum_body_passes : (body : SomeEnumBody) → {m : List Mark} (keyword : ℕ) (tag : Option Identifier) →
        Over t m (enum_body_tape keyword tag body)
    enum_body_passes no_enum_body keyword tag = tag_passes false tags.Enum tag
    enum_body_passes (some_enum_body opening es last closing) keyword tag =
        join (join (body_passes tags.Enum keyword tag) (enumerators_pass es)) (one refl)

    enumerators_pass : (es : Enumerators) → {m : List Mark} → Over t (in_tag ∷ m) (enumerators_tape es)
    enumerators_pass no_enumerators = none
    enumerators_pass (more_enumerators name attrs value es) =
        join (join (some_value_passes value) (one refl)) (enumerators_pass es)

    -- declarators

    some_declr_passes : (d : SomeDeclr) → {m : List Mark} {n dd : Option ℕ} {o : Bool} →
        Declares t n dd o m (some_declr_tape d)
    some_declr_passes no_declr {n = n} {dd = dd} = record { name = n; last = dd; goes = none }
    some_declr_passes (some_declr d) {n = n} {dd = dd} =
        record {
          name = read (name_token d) n;
          last = dd;
          goes = join (plain d (contents_pass d false no_own)) (pieces_pass d);
        }

    pub contents_pass : (d : Declr) → {m : List Mark} {n dd : Option ℕ} {o : Bool} (own : Bool) →
        (own ≡ true → (m ≡ []) × (t ≡ name_token d)) →
        Passes t (in_declaration n dd o ∷ m) (contents own d)
        (in_declaration (read (name_token d) n) dd (behind own d o) ∷ m)
    contents_pass (pointer star words d) own h = contents_pass d own h
    contents_pass (declr_name token name) own h = one refl
    contents_pass (declr_paren opening attrs d closing) own h = contents_pass d own h
    contents_pass (array d opening words size closing) own h = join (contents_pass d own h) (some_size_passes size)
    contents_pass (params d opening ps dots closing) {n = n} own h =
        join (contents_pass d own h)
        (params_pass (own && is_name d) (says_none ps) (named_before own d n h) (params_go ps))
    contents_pass (abs_pointer star words d) own h = some_contents_pass d
    contents_pass (abs_paren opening attrs d closing) own h = contents_pass d own h
    contents_pass (abs_array d opening words size closing) own h = join (some_contents_pass d) (some_size_passes size)
    contents_pass (abs_params d opening ps dots closing) own h =
        join (some_contents_pass d) (params_pass false (says_none ps) no_own (params_go ps))
    contents_pass (identifiers d opening names closing) own h =
        join (join (contents_pass d own h) (one refl)) (one refl)
    contents_pass (base_name token) own h = none

    some_contents_pass : (d : SomeDeclr) → {m : List Mark} {n dd : Option ℕ} {o : Bool} →
        Passes t (in_declaration n dd o ∷ m) (some_contents d) (in_declaration (read (some_name_token d) n) dd o ∷ m)
    some_contents_pass no_declr = none
    some_contents_pass (some_declr d) = plain d (contents_pass d false no_own)

    pub some_size_passes : (size : SomeSize) → {m : List Mark} → Over t m (some_size_tape size)
    some_size_passes no_size = none
    some_size_passes (some_size size) = size_passes size

    size_passes : (size : ArraySize) → {m : List Mark} → Over t m (size_tape size)
    size_passes (size_value e) = quiet_passes (expr_passes e false false)
    size_passes (size_star token) = none

    pub params_go : (ps : Params) → {m : List Mark} {own : Bool} → Over t (in_params own ∷ m) (params_tape ps)
    params_go no_params = none
    params_go (more_params ws d attrs ps) =
        join (join (join (specs_pass (words_pass ws false)) (some_declr_passes d).goes) (one refl)) (params_go ps)

    -- initialisers

    init_passes : (i : Init) → {m : List Mark} → Over t m (init_tape i)
    init_passes (init_value e) = expr_passes e false false
    init_passes (init_braced list) = list_passes list

    list_passes : (list : InitList) → {m : List Mark} → Over t m (list_tape list)
    list_passes (init_list opening items last closing) = init_items_pass items

    init_items_pass : (items : InitItems) → {m : List Mark} → Over t m (init_items_tape items)
    init_items_pass no_init_items = none
    init_items_pass (more_init_items ds equal i items) =
        join (join (indices_pass ds) (init_passes i)) (init_items_pass items)

    indices_pass : (ds : Desigs) → {m : List Mark} → Over t m (indices_tape ds)
    indices_pass no_desigs = none
    indices_pass (more_desigs d ds) = join (index_passes d) (indices_pass ds)

    index_passes : (d : Desig) → {m : List Mark} → Over t m (index_tape d)
    index_passes (member_desig before name) = none
    index_passes (index_desig opening e closing) = quiet_passes (expr_passes e false false)
    index_passes (range_desig opening e dots e2 closing) =
        join (quiet_passes (expr_passes e false false)) (quiet_passes (expr_passes e2 false false))
    index_passes (old_desig name colon) = none

    pub some_init_passes : (i : SomeInit) → {m : List Mark} → Over t m (some_init_tape i)
    some_init_passes no_init = none
    some_init_passes (some_init equal i) = declared_init_passes i

    declared_init_passes : (i : Init) → {m : List Mark} → Over t m (declared_init_tape i)
    declared_init_passes (init_value e) = join (expr_passes e false false) (one refl)
    declared_init_passes (init_braced list) =
        join (join (join (join (one refl) (list_passes list)) (one refl)) (rule_list_passes list)) (one refl)

    -- declarations and statements

    pub init_declrs_pass : (ds : InitDeclrs) → {m : List Mark} {n dd : Option ℕ} {o : Bool} → is_open m ≡ true →
        Declares t n dd o m (init_declrs_tape ds)
    init_declrs_pass no_init_declrs {n = n} {dd = dd} in_open = record { name = n; last = dd; goes = none }
    init_declrs_pass (more_init_declrs attrs d asm_label attrs2 i ds) {n = n} in_open =
        with_more (record {
          name = None;
          last = read (name_token d) n;
          goes =
              join (join (join (plain d (contents_pass d false no_own)) (pieces_pass d)) (declared_passes in_open))
              (some_init_passes i);
        }) (λ n2 d2. init_declrs_pass ds in_open)

    declaration_passes : (d : Declaration) → {m : List Mark} → is_open m ≡ true → Over t m (declaration_tape d)
    declaration_passes (declaration extensions ws ds semi) in_open =
        join (join (specs_pass (words_pass ws _))
        (either_declares (are_auto ws ds) (auto_declrs_pass ds semi (open_takes _ in_open))
        (init_declrs_pass ds in_open)).goes)
        (one refl)

    -- declarators of names that have the types of their initialisers
    pub auto_declrs_pass : (ds : InitDeclrs) → {m : List Mark} {n dd : Option ℕ} {o : Bool} (semi : ℕ) → TakesAuto m →
        Declares t n dd o m (auto_declrs_tape semi ds)
    auto_declrs_pass no_init_declrs {n = n} {dd = dd} semi h = record { name = n; last = dd; goes = none }
    auto_declrs_pass (more_init_declrs attrs d asm_label attrs2 i ds) semi h =
        with_more (behind_name (plain d (contents_pass d false no_own)) (auto_init_passes i semi h))
        (λ n2 d2. auto_declrs_pass ds semi h)

    auto_init_passes : (i : SomeInit) → {m : List Mark} {n dd : Option ℕ} {o : Bool} (semi : ℕ) → TakesAuto m →
        Declares t n dd o m (auto_init_tape semi i)
    auto_init_passes no_init {n = n} {dd = dd} semi h = record { name = n; last = dd; goes = none }
    auto_init_passes (some_init equal (init_value e)) {n = n} {dd = dd} {o = o} semi h = record {
      name = None;
      last = n;
      goes = join (join (join (one refl) (expr_passes e false false)) (one (h n dd o))) (one refl);
    }
    auto_init_passes (some_init equal (init_braced list)) {n = n} {dd = dd} semi h =
        record { name = n; last = dd; goes = none }

    pub decl_passes : (d : Decl) → {m : List Mark} → is_open m ≡ true → Over t m (decl_tape d)
    decl_passes (decl_declaration d) in_open = declaration_passes d in_open
    decl_passes (decl_assert it) in_open = none

    pub block_items_pass : (items : BlockItems) → {m : List Mark} (kept : Bool) → is_open m ≡ true →
        Over t m (block_items_tape kept items)
    block_items_pass no_block_items kept in_open = none
    block_items_pass (more_block_items item items) kept in_open =
        join (block_item_passes item _ in_open) (block_items_pass items kept in_open)

    block_item_passes : (item : BlockItem) → {m : List Mark} (kept : Bool) → is_open m ≡ true →
        Over t m (block_item_tape kept item)
    block_item_passes (block_decl d) kept in_open = decl_passes d in_open
    block_item_passes (block_stmt t) kept in_open = stmt_passes t kept in_open
    block_item_passes (block_labels keyword names semi) kept in_open = none

    stmt_passes : (s : Stmt) → {m : List Mark} (kept : Bool) → is_open m ≡ true → Over t m (stmt_tape kept s)
    stmt_passes (block opening items closing) kept in_open = scope_passes (block_items_pass items false refl)
    stmt_passes (expr_stmt e semi) kept in_open = kept_or kept (some_expr_passes e) (dropped_passes e)
    stmt_passes (attr_stmt attrs semi) kept in_open = none
    stmt_passes (label name colon attrs t) kept in_open = stmt_passes t false in_open
    stmt_passes (case_stmt keyword e colon t) kept in_open =
        join (quiet_passes (expr_passes e false false)) (stmt_passes t false in_open)
    stmt_passes (default_stmt keyword colon t) kept in_open = stmt_passes t false in_open
    stmt_passes (if_stmt keyword opening e closing t other) kept in_open =
        scope_passes
        (join (join (join (expr_passes e false false) (one refl)) (scope_passes (stmt_passes t false refl)))
        (some_else_passes other))
    stmt_passes (switch_stmt keyword opening e closing t) kept in_open =
        scope_passes (join (join (expr_passes e false false) (one refl)) (scope_passes (stmt_passes t false refl)))
    stmt_passes (while_stmt keyword opening e closing t) kept in_open =
        scope_passes (join (join (expr_passes e false false) (one refl)) (scope_passes (stmt_passes t false refl)))
    stmt_passes (do_stmt keyword t keyword2 opening e closing semi) kept in_open =
        scope_passes (join (join (scope_passes (stmt_passes t false refl)) (expr_passes e false false)) (one refl))
    stmt_passes (for_stmt keyword opening start e semi e2 closing t) kept in_open =
        scope_passes (join (join (join (for_start_passes start) (dropped_passes e)) (dropped_passes e2))
        (scope_passes (stmt_passes t false refl)))
    stmt_passes (goto_stmt keyword name semi) kept in_open = none
    stmt_passes (continue_stmt keyword semi) kept in_open = none
    stmt_passes (break_stmt keyword semi) kept in_open = none
    stmt_passes (return_stmt keyword e semi) kept in_open = return_passes e keyword semi
    stmt_passes (asm_stmt keyword words group semi) kept in_open = none
    stmt_passes (case_range keyword e dots e2 colon t) kept in_open =
        join (join (quiet_passes (expr_passes e false false)) (quiet_passes (expr_passes e2 false false)))
        (stmt_passes t false in_open)
    stmt_passes (goto_value keyword star e semi) kept in_open = join (expr_passes e false false) (one refl)

    some_else_passes : (other : SomeElse) → {m : List Mark} → Over t m (some_else_tape other)
    some_else_passes no_else = none
    some_else_passes (some_else keyword t) = scope_passes (stmt_passes t false refl)

    for_start_passes : (start : ForStart) → {m : List Mark} → Over t (marks.in_scope ∷ m) (for_start_tape start)
    for_start_passes (start_declaration d) = declaration_passes d refl
    for_start_passes (start_value e semi) = dropped_passes e

    return_passes : (e : SomeExpr) → {m : List Mark} (keyword semi : ℕ) → Over t m (return_tape keyword e semi)
    return_passes no_expr keyword semi = none
    return_passes (some_expr e) keyword semi = join (expr_passes e false false) (one refl)

-- the declarations behind a list of identifiers, and a declarator with such a list

module _ {t : Option ℕ} where
  identifiers_pass : (names : List Identifier) {m : List Mark} → Over t (in_params true ∷ m) (identifiers_tape names)
  identifiers_pass [] = none
  identifiers_pass (name ∷ names) = join (one refl) (identifiers_pass names)

  old_declrs_pass : (ds : InitDeclrs) {m : List Mark} {n dd : Option ℕ} {o : Bool} →
      Declares t n dd o (in_params true ∷ m) (old_declrs_tape ds)
  old_declrs_pass no_init_declrs {n = n} {dd = dd} = record { name = n; last = dd; goes = none }
  old_declrs_pass (more_init_declrs attrs d asm_label attrs2 i ds) {n = n} =
      with_more (record {
        name = None;
        last = read (name_token d) n;
        goes =
            join (join (join (plain d (contents_pass d false no_own)) (pieces_pass d)) (one refl)) (some_init_passes i);
      }) (λ n2 d2. old_declrs_pass ds)

  old_declaration_passes : (d : Declaration) {m : List Mark} → Over t (in_params true ∷ m) (old_declaration_tape d)
  old_declaration_passes (declaration extensions ws ds semi) =
      join (join (specs_pass (words_pass ws _))
      (either_declares (are_auto ws ds) (auto_declrs_pass ds semi (λ n d o. refl)) (old_declrs_pass ds)).goes)
      (one refl)

  old_declarations_pass : (ds : List Declaration) {m : List Mark}
      → Over t (in_params true ∷ m) (old_declarations_tape ds)
  old_declarations_pass [] = none
  old_declarations_pass (d ∷ ds) = join (old_declaration_passes d) (old_declarations_pass ds)

  -- own parameters begin behind the name of the function, which a list of identifiers stands around
  old_begins : (d : Declr) (n dd : Option ℕ) (o : Bool) → is_name d ≡ true → t ≡ name_token d →
      params_begun t true (in_declaration (read (name_token d) n) dd o ∷ [])
      ≡ Some (in_params true ∷ (in_declaration (read (name_token d) n) dd o ∷ []))
  old_begins d n dd o bare is =
      ap (λ (b : Bool). if b then Some (in_params true ∷ (in_declaration (read (name_token d) n) dd o ∷ [])) else None)
      (subst (λ (it : Option ℕ). is_token (read (name_token d) n) it ≡ true) (sym is) (bare_read d n bare))

  old_contents_pass : (d : Declr) {n dd : Option ℕ} {o : Bool} (ds : List Declaration) → lists_own d ≡ true →
      t ≡ name_token d → Passes t (in_declaration n dd o ∷ []) (old_contents ds d)
      (in_declaration (read (name_token d) n) dd true ∷ [])
  old_contents_pass (identifiers d opening names closing) {n} {dd} {o} ds own is =
      join (join (join (join (plain d (contents_pass d false no_own)) (one (old_begins d n dd o own is)))
      (identifiers_pass names)) (old_declarations_pass ds)) (one refl)
  old_contents_pass (declr_paren opening attrs d closing) ds own is = old_contents_pass d ds own is
  old_contents_pass (pointer star words d) ds own is = old_contents_pass d ds own is
  old_contents_pass (array d opening words size closing) ds own is =
      join (old_contents_pass d ds own is) (some_size_passes size)
  old_contents_pass (params d opening ps dots closing) ds own is =
      join (old_contents_pass d ds own is) (params_pass false (says_none ps) no_own (params_go ps))
  old_contents_pass (declr_name token name) ds own is = absurd cc
  old_contents_pass (abs_pointer star words d) ds own is = absurd cc
  old_contents_pass (abs_paren opening attrs d closing) ds own is = absurd cc
  old_contents_pass (abs_array d opening words size closing) ds own is = absurd cc
  old_contents_pass (abs_params d opening ps dots closing) ds own is = absurd cc
  old_contents_pass (base_name token) ds own is = absurd cc

-- the name around which a list of identifiers stands is the one that was read last
own_read : (d : Declr) (n : Option ℕ) → lists_own d ≡ true → is_token (read (name_token d) n) (name_token d) ≡ true
own_read (identifiers d opening names closing) n e = bare_read d n e
own_read (declr_paren opening attrs d closing) n e = own_read d n e
own_read (pointer star words d) n e = own_read d n e
own_read (array d opening words size closing) n e = own_read d n e
own_read (params d opening ps dots closing) n e = own_read d n e
own_read (declr_name token name) n e = absurd cc
own_read (abs_pointer star words d) n e = absurd cc
own_read (abs_paren opening attrs d closing) n e = absurd cc
own_read (abs_array d opening words size closing) n e = absurd cc
own_read (abs_params d opening ps dots closing) n e = absurd cc
own_read (base_name token) n e = absurd cc

-- the tape of an item that declares its function ends all that it begins
item_passes : (item : Item) → DeclaresIts item → Passes (function_token item) [] (item_tape item) []
item_passes (function_item extensions ws d attrs opening items closing) its =
    join (join (join (join (join (join (join (specs_pass (words_pass ws false))
    (contents_pass d true (λ e. (refl, refl)))) (pieces_pass d)) (declared_passes refl)) (one begins))
    (block_items_pass items false refl)) (one refl)) (one refl)
  where
    last : Option ℕ
    last = read (name_token d) None

    begins : body_begun (name_token d) (in_declaration None last (behind true d false) ∷ [])
        ≡ Some (in_body ∷ (in_declaration None last true ∷ []))
    begins =
        ap (λ (o : Bool). body_begun (name_token d) (in_declaration None last o ∷ [])) (own_behind d false false its)
        ∙ ap (λ (b : Bool). if b then Some (in_body ∷ (in_declaration None last true ∷ [])) else None)
        (round_read d false None its)
item_passes (old_function_item extensions ws d attrs ds opening items closing) its =
    join (join (join (join (join (join (join (specs_pass (words_pass ws false))
    (old_contents_pass d ds its refl)) (pieces_pass d)) (declared_passes refl)) (one begins))
    (block_items_pass items false refl)) (one refl)) (one refl)
  where
    last : Option ℕ
    last = read (name_token d) None

    begins : body_begun (name_token d) (in_declaration None last true ∷ [])
        ≡ Some (in_body ∷ (in_declaration None last true ∷ []))
    begins =
        ap (λ (b : Bool). if b then Some (in_body ∷ (in_declaration None last true ∷ [])) else None)
        (own_read d None its)
item_passes (decl_item d) its = decl_passes d refl
item_passes (asm_item keyword group semi) its = none
item_passes (semi_item semi) its = none

pub items_are_bracketed : ItemsAreBracketed
items_are_bracketed item its = (item_passes item its).goes
