-- Scopes of names in the grammar grow through each part of a tree: what surrounds the innermost scope stays as it is,
-- each name that it declares keeps its kind, and inside of what declares no name but enumerators it holds the name that
-- it held.
use Rattle.std.proofs.Common.{◌≡◌, ℕ, nat_eq, Bool, true, false, List, [], ◌∷◌, Option, None, Some, refl, sym, ◌∙◌, subst}
use Rattle.std.specs.Prelude.{◌&&◌, not, if◌then◌else◌}
use Rattle.std.proofs.lemmas.Bool.{eqb-true}
use Rattle.qual_base.proofs.Tests.{ne_turned}
use Rattle.c_syntax.specs.declared.parts.Identifier.{Identifier}
use Rattle.c_tree.specs.Tree.{Expr, operation, cast, prefix, sizeof_value, sizeof_type, extension, index, call, dot, arrow, post, compound, name_use, number_use, char_use, text_use, paren, statement_expr, va_arg, va_start, va_copy, offset, Operator, comma, assign, cond, binary, SomeExpr, no_expr, some_expr, Exprs, no_exprs, more_exprs, SpecWords, no_words, more_words, SpecWord, storage, thread, inline_word, noreturn, qualifier, basic, struct_type, enum_type, typedef_name, attribute, SomeBody, no_body, some_body, StructItems, no_struct_items, more_struct_items, StructItem, member, member_semi, member_assert, MemDeclrs, no_mem_declrs, more_mem_declrs, MemDeclr, named, unnamed, SomeValue, no_value, some_value, EnumType, enum_of, SomeEnumBody, no_enum_body, some_enum_body, Enumerators, no_enumerators, more_enumerators, Declr, pointer, declr_name, declr_paren, array, params, abs_pointer, abs_paren, abs_array, abs_params, SomeDeclr, no_declr, some_declr, SomeSize, no_size, some_size, ArraySize, size_value, size_star, Params, no_params, more_params, Init, init_value, init_braced, InitList, init_list, InitItems, no_init_items, more_init_items, Desigs, no_desigs, more_desigs, Desig, member_desig, index_desig, SomeInit, no_init, some_init, InitDeclrs, no_init_declrs, more_init_declrs, Declaration, declaration, Decl, decl_declaration, decl_assert, BlockItems, no_block_items, more_block_items, BlockItem, block_decl, block_stmt, Stmt, block, expr_stmt, attr_stmt, label, case_stmt, default_stmt, if_stmt, switch_stmt, while_stmt, do_stmt, for_stmt, goto_stmt, continue_stmt, break_stmt, return_stmt, asm_stmt, SomeElse, no_else, some_else, ForStart, start_declaration, start_value, identifiers, base_name, complex_part, label_use, compat, choose, generic, Assocs, no_assocs, more_assocs, Assoc, typed_assoc, default_assoc, typeof_value, typeof_type, align, auto_word, range_desig, old_desig, block_labels, case_range, goto_value}
use Rattle.c_tree.specs.WellFormed.{has_auto}
use Rattle.typedef_scope.specs.declared.kind.Kind.{Kind}
use Rattle.typedef_scope.specs.declared.kind.Kind.TheVariants.{Value, Constant}
use Rattle.typedef_scope.specs.Scopes.{kind_in}
use Rattle.c_units.specs.HeldScopes.{HeldScope, HeldScopes, declare, enter, hold, is_name, is_typedef, is_wide, leave, may_declare, names_type, new_scope, release, release_as, with_kind, with_name}
use Rattle.c_units.specs.Units.{declarations_scopes}
use Rattle.c_units.specs.Scoping.{is_base, at_name, behind, declared_kind, some_shows_no_type, where_true, identifiers_scopes, expr_scopes, assocs_scopes, assoc_scopes, operator_scopes, some_expr_scopes, exprs_scopes, spec_words_scopes, spec_word_scopes, some_body_scopes, struct_items_scopes, struct_item_scopes, mem_declrs_scopes, mem_declr_scopes, some_value_scopes, enum_type_scopes, some_enum_body_scopes, enumerators_scopes, declr_scopes, some_declr_scopes, some_size_scopes, array_size_scopes, params_scopes, init_scopes, init_list_scopes, init_items_scopes, desigs_scopes, desig_scopes, some_init_scopes, init_declrs_scopes, auto_declrs_scopes, declaration_scopes, decl_scopes, block_items_scopes, block_item_scopes, stmt_scopes, some_else_scopes, for_start_scopes}
use Rattle.first_laws.proofs.Words.{kind_other}

-- a scope with more names, which where that is wanted holds the same one, and gives it no kind
pub record Grown (kept : Bool) (scope now : HeldScope) : Type 0 where
  pub kinds : (m : ℕ) (kind : Kind) → kind_in scope.names m ≡ Some kind → kind_in now.names m ≡ Some kind
  pub holds : kept ≡ true → now.held ≡ scope.held
  pub same : kept ≡ true → (m : ℕ) → scope.held ≡ Some m → kind_in now.names m ≡ kind_in scope.names m

-- scopes whose innermost has grown
pub record AreGrown (kept : Bool) (scope : HeldScope) (outer t : HeldScopes) : Type 0 where
  pub now : HeldScope
  pub are : t ≡ now ∷ outer
  pub grown : Grown kept scope now

abbrev pub Grew : Bool → HeldScopes → HeldScopes → Type 0
Grew kept h t = (scope : HeldScope) (outer : HeldScopes) → h ≡ scope ∷ outer → AreGrown kept scope outer t

-- where there are scopes behind a part, they are such
pub record Grows (kept : Bool) (h : HeldScopes) (o : Option HeldScopes) : Type 0 where
  pub grows : (t : HeldScopes) → o ≡ Some t → Grew kept h t

-- scopes alone

unchanged : {kept : Bool} (scope : HeldScope) → Grown kept scope scope
unchanged scope = record { kinds = λ m kind e. e; holds = λ want. refl; same = λ want m e. refl }

-- a scope that has grown to a second which has grown to a third has grown to the third
grown_on : {kept : Bool} {scope now next : HeldScope} → Grown kept scope now → Grown kept now next
    → Grown kept scope next
grown_on g more = record {
  kinds = λ m kind e. more.kinds m kind (g.kinds m kind e);
  holds = λ want. more.holds want ∙ g.holds want;
  same = λ want m e. more.same want m (g.holds want ∙ e) ∙ g.same want m e;
}

-- a scope grows by one name that is declared in it
pub one_name : (scope : HeldScope) (m : ℕ) (kind : Kind) → Grown false scope (with_name scope m kind)
one_name scope m kind = by (kind_in scope.names m) refl
  where
    other : (n : ℕ) (k : Kind) (b : Bool) → nat_eq m n ≡ b → kind_in scope.names m ≡ None →
        kind_in scope.names n ≡ Some k → (if b then Some kind else kind_in scope.names n) ≡ Some k
    other n k true e none is =
        let same : m ≡ n = eqb-true m n e in
        let no : kind_in scope.names n ≡ None = subst (λ (i : ℕ). kind_in scope.names i ≡ None) same none in absurd cc
    other n k false e none is = is

    by : (o : Option Kind) → kind_in scope.names m ≡ o → Grown false scope (with_kind o scope m kind)
    by None e = record {
      kinds = λ n k is. other n k (nat_eq m n) refl e is;
      holds = λ want. absurd cc;
      same = λ want n is. absurd cc;
    }
    by (Some known) e = record { kinds = λ n k is. is; holds = λ want. absurd cc; same = λ want n is. absurd cc }

same_held : (o : Option Kind) (scope : HeldScope) (m : ℕ) (kind : Kind) → (with_kind o scope m kind).held ≡ scope.held
same_held None scope m kind = refl
same_held (Some known) scope m kind = refl

pub same_grew : {kept : Bool} (h : HeldScopes) → Grew kept h h
same_grew h scope outer e = record { now = scope; are = e; grown = unchanged scope }

-- scopes of which the innermost grew twice have grown so at once
pub grew_on : {kept : Bool} {h t v : HeldScopes} → Grew kept h t → Grew kept t v → Grew kept h v
grew_on f g scope outer e =
    let first = f scope outer e in let second = g first.now outer first.are in
    record { now = second.now; are = second.are; grown = grown_on first.grown second.grown }

-- a change of the innermost scope
at_innermost : {kept : Bool} {h : HeldScopes} (part : HeldScopes → Option HeldScopes) →
    ((scope : HeldScope) (outer t : HeldScopes) → part (scope ∷ outer) ≡ Some t → AreGrown kept scope outer t)
    → Grows kept h (part h)
at_innermost part g = record {
  grows = λ t e scope outer is. g scope outer t (subst (λ (now : HeldScopes). part now ≡ Some t) is e);
}

now_is : {kept : Bool} (scope now : HeldScope) (outer t : HeldScopes) → Grown kept scope now
    → Some (now ∷ outer) ≡ Some t →
    AreGrown kept scope outer t
now_is scope now outer t g e = let same : now ∷ outer ≡ t = cc in record { now = now; are = sym same; grown = g }

-- steps

module _ {kept : Bool} {h : HeldScopes} where
  still : Grows kept h (Some h)
  still = record {
    grows = λ t e. let same : h ≡ t = cc in subst (λ (v : HeldScopes). Grew kept h v) same (same_grew h);
  }

  tested : (b : Bool) → Grows kept h (where_true b h)
  tested true = still
  tested false = record { grows = λ t e. absurd cc }

  -- a part behind another
  after : {o : Option HeldScopes} {next : HeldScopes → Option HeldScopes} → Grows kept h o →
      ((t : HeldScopes) → Grows kept t (next t)) → Grows kept h (behind o next)
  after {o = None} f g = record { grows = λ t e. absurd cc }
  after {o = Some before} f g = record { grows = λ t e. grew_on (f.grows before refl) ((g before).grows t e) }

  past : {v : HeldScopes} {o : Option HeldScopes} → Grows kept h (Some v) → Grows kept v o → Grows kept h o
  past {v} f g = record { grows = λ t e. grew_on (f.grows v refl) (g.grows t e) }

  -- a test before a part
  checked : (o : Option HeldScopes) {next : Option HeldScopes} → Grows kept h next → Grows kept h (behind o (λ _. next))
  checked None f = record { grows = λ t e. absurd cc }
  checked (Some before) f = f

  -- a part in a scope of its own
  pub own : {o : Option HeldScopes} → Grows false (enter h) o → Grows kept h (behind o (λ inner. Some (leave inner)))
  own {o = None} f = record { grows = λ t e. absurd cc }
  own {o = Some before} f =
      let it = f.grows before refl (new_scope (is_wide h)) h refl in
      subst (λ (v : HeldScopes). Grows kept h (Some (leave v))) (sym it.are) still

  either_way : (b : Bool) (f g : HeldScopes → Option HeldScopes) → Grows kept h (f h) → Grows kept h (g h) →
      Grows kept h ((if b then f else g) h)
  either_way true f g one other = one
  either_way false f g one other = other

-- a base word declares nothing
base_or : {kept : Bool} {h : HeldScopes} {o : Option HeldScopes} (b : Bool) → Grows kept h o
    → Grows kept h (if b then Some h else o)
base_or true g = still
base_or false g = g

-- a name that is declared at once
declared : {kept : Bool} (m : ℕ) (kind : Kind) (h : HeldScopes) → Grows kept h (declare m kind h)
declared {kept} m kind h =
    at_innermost (declare m kind)
    (λ scope outer t e. by scope outer t (is_name scope.held m) (may_declare scope m kind) refl e)
  where
    -- the held name is another one
    kept_kind : (scope : HeldScope) → is_name scope.held m ≡ false → (n : ℕ) → scope.held ≡ Some n →
        kind_in (with_name scope m kind).names n ≡ kind_in scope.names n
    kept_kind scope free n e =
        let apart : nat_eq n m ≡ false = subst (λ (o : Option ℕ). is_name o m ≡ false) e free in
        kind_other scope m kind n (ne_turned n m apart)

    by : (scope : HeldScope) (outer t : HeldScopes) (b c : Bool) → is_name scope.held m ≡ b →
        (if b then None else if c then Some (with_name scope m kind ∷ outer) else None) ≡ Some t
        → AreGrown kept scope outer t
    by scope outer t true c free e = absurd cc
    by scope outer t false false free e = absurd cc
    by scope outer t false true free e =
        now_is scope (with_name scope m kind) outer t (record {
          kinds = (one_name scope m kind).kinds;
          holds = λ want. same_held (kind_in scope.names m) scope m kind;
          same = λ want n e. kept_kind scope free n e;
        }) e

-- a name that is held from here on
held_then : (m : ℕ) (kind : Kind) (h : HeldScopes) → Grows false h (hold m kind h)
held_then m kind h = at_innermost (hold m kind) (λ scope outer t e. by scope outer t (may_declare scope m kind) e)
  where
    by : (scope : HeldScope) (outer t : HeldScopes) (b : Bool) →
        (if b then Some (record scope { held = Some m } ∷ outer) else None) ≡ Some t → AreGrown false scope outer t
    by scope outer t true e =
        now_is scope (record scope { held = Some m }) outer t
        (record { kinds = λ m kind e. e; holds = λ want. absurd cc; same = λ want n e. absurd cc }) e
    by scope outer t false e = absurd cc

-- the held name is declared
released : (kind : Kind) (h : HeldScopes) → Grows false h (Some (release kind h))
released kind h = at_innermost (λ h. Some (release kind h)) (λ scope outer t e. by scope outer t scope.held e)
  where
    by : (scope : HeldScope) (outer t : HeldScopes) (o : Option ℕ) → Some (release_as o kind (scope ∷ outer)) ≡ Some t →
        AreGrown false scope outer t
    by scope outer t None e = now_is scope scope outer t (unchanged scope) e
    by scope outer t (Some m) e =
        now_is scope (record (with_name scope m kind) { held = None }) outer t (record {
          kinds = (one_name scope m kind).kinds;
          holds = λ want. absurd cc;
          same = λ want n e. absurd cc;
        }) e

-- a name of a wanted kind is held, which only what need not keep the held name may do
abbrev pub Suits : Bool → Option Kind → Type 0
Suits kept None = Unit {0}
Suits kept (Some kind) = kept ≡ false

-- a name that is held, or none, grows the scopes; where a held name has to be kept, none is wanted
at_name_grows : {kept : Bool} (kind : Option Kind) (name : ℕ) → Suits kept kind → (h : HeldScopes) →
    Grows kept h (at_name kind name h)
at_name_grows None name suits h = still
at_name_grows (Some kind) name suits h =
    subst (λ (b : Bool). Grows b h (hold name kind h)) (sym suits) (held_then name kind h)

identifiers_grows : {kept : Bool} (names : List Identifier) (h : HeldScopes) → Grows kept h (identifiers_scopes names h)
identifiers_grows [] h = still
identifiers_grows (it ∷ names) h = after (tested (not (names_type h it.name))) (identifiers_grows names)

mutual
  pub expr_grows : {kept : Bool} (it : Expr) (h : HeldScopes) → Grows kept h (expr_scopes it h)
  expr_grows (operation e op token e2) h = after (after (expr_grows e _) (operator_grows op)) (expr_grows e2)
  expr_grows (cast opening ws d closing e) h =
      after (after (spec_words_grows ws _) (some_declr_grows None d tt)) (expr_grows e)
  expr_grows (prefix token p e) h = expr_grows e _
  expr_grows (sizeof_value word e) h = expr_grows e _
  expr_grows (sizeof_type word opening ws d closing) h = after (spec_words_grows ws _) (some_declr_grows None d tt)
  expr_grows (extension keyword e) h = expr_grows e _
  expr_grows (index e opening e2 closing) h = after (expr_grows e _) (expr_grows e2)
  expr_grows (call e opening es closing) h = after (expr_grows e _) (exprs_grows es)
  expr_grows (dot e token name) h = expr_grows e _
  expr_grows (arrow e token name) h = expr_grows e _
  expr_grows (post e token p) h = expr_grows e _
  expr_grows (compound opening ws d closing list) h =
      after (after (spec_words_grows ws _) (some_declr_grows None d tt)) (init_list_grows list)
  expr_grows (name_use token name) h = tested (not (names_type h name))
  expr_grows (number_use token) h = still
  expr_grows (char_use token) h = still
  expr_grows (text_use texts) h = still
  expr_grows (paren opening e closing) h = expr_grows e _
  expr_grows (statement_expr opening opening2 items closing closing2) h = own (block_items_grows items _)
  expr_grows (va_arg keyword opening e separator ws d closing) h =
      after (after (expr_grows e _) (spec_words_grows ws)) (some_declr_grows None d tt)
  expr_grows (va_start keyword opening e separator e2 closing) h = after (expr_grows e _) (expr_grows e2)
  expr_grows (va_copy keyword opening e separator e2 closing) h = after (expr_grows e _) (expr_grows e2)
  expr_grows (offset keyword opening ws d separator name steps closing) h =
      after (after (spec_words_grows ws _) (some_declr_grows None d tt)) (desigs_grows steps)
  expr_grows (complex_part keyword e) h = expr_grows e _
  expr_grows (label_use token name) h = tested (is_wide h)
  expr_grows (compat keyword opening ws d separator ws2 d2 closing) h =
      after (after (after (spec_words_grows ws _) (some_declr_grows None d tt)) (spec_words_grows ws2))
      (some_declr_grows None d2 tt)
  expr_grows (choose keyword opening e separator e2 separator2 e3 closing) h =
      after (after (expr_grows e _) (expr_grows e2)) (expr_grows e3)
  expr_grows (generic keyword opening e xs closing) h = after (expr_grows e _) (assocs_grows xs)

  pub assocs_grows : {kept : Bool} (it : Assocs) (h : HeldScopes) → Grows kept h (assocs_scopes it h)
  assocs_grows no_assocs h = still
  assocs_grows (more_assocs x xs) h = after (assoc_grows x _) (assocs_grows xs)

  pub assoc_grows : {kept : Bool} (it : Assoc) (h : HeldScopes) → Grows kept h (assoc_scopes it h)
  assoc_grows (typed_assoc ws d colon e) h =
      after (after (spec_words_grows ws _) (some_declr_grows None d tt)) (expr_grows e)
  assoc_grows (default_assoc keyword colon e) h = expr_grows e _

  pub operator_grows : {kept : Bool} (it : Operator) (h : HeldScopes) → Grows kept h (operator_scopes it h)
  operator_grows comma h = still
  operator_grows (assign p) h = still
  operator_grows (cond e colon) h = some_expr_grows e _
  operator_grows (binary p) h = still

  pub some_expr_grows : {kept : Bool} (it : SomeExpr) (h : HeldScopes) → Grows kept h (some_expr_scopes it h)
  some_expr_grows no_expr h = still
  some_expr_grows (some_expr e) h = expr_grows e _

  pub exprs_grows : {kept : Bool} (it : Exprs) (h : HeldScopes) → Grows kept h (exprs_scopes it h)
  exprs_grows no_exprs h = still
  exprs_grows (more_exprs e es) h = after (expr_grows e _) (exprs_grows es)

  pub spec_words_grows : {kept : Bool} (it : SpecWords) (h : HeldScopes) → Grows kept h (spec_words_scopes it h)
  spec_words_grows no_words h = still
  spec_words_grows (more_words w ws) h = after (spec_word_grows w _) (spec_words_grows ws)

  pub spec_word_grows : {kept : Bool} (it : SpecWord) (h : HeldScopes) → Grows kept h (spec_word_scopes it h)
  spec_word_grows (storage word) h = still
  spec_word_grows (thread keyword) h = still
  spec_word_grows (inline_word keyword) h = still
  spec_word_grows (noreturn keyword) h = still
  spec_word_grows (qualifier qual) h = still
  spec_word_grows (basic word) h = still
  spec_word_grows (struct_type word attrs tag body) h = some_body_grows body _
  spec_word_grows (enum_type enum) h = enum_type_grows enum _
  spec_word_grows (typedef_name name) h = tested (names_type h name.name)
  spec_word_grows (attribute attr) h = still
  spec_word_grows (typeof_value keyword opening e closing) h = expr_grows e _
  spec_word_grows (typeof_type word opening ws d closing) h = after (spec_words_grows ws _) (some_declr_grows None d tt)
  spec_word_grows (align attr) h = still
  spec_word_grows (auto_word token) h = still

  pub some_body_grows : {kept : Bool} (it : SomeBody) (h : HeldScopes) → Grows kept h (some_body_scopes it h)
  some_body_grows no_body h = still
  some_body_grows (some_body opening items closing) h = struct_items_grows items _

  pub struct_items_grows : {kept : Bool} (it : StructItems) (h : HeldScopes) → Grows kept h (struct_items_scopes it h)
  struct_items_grows no_struct_items h = still
  struct_items_grows (more_struct_items item items) h = after (struct_item_grows item _) (struct_items_grows items)

  pub struct_item_grows : {kept : Bool} (it : StructItem) (h : HeldScopes) → Grows kept h (struct_item_scopes it h)
  struct_item_grows (member exts ws ds semi) h = after (spec_words_grows ws _) (mem_declrs_grows ds)
  struct_item_grows (member_semi semi) h = still
  struct_item_grows (member_assert it) h = still

  pub mem_declrs_grows : {kept : Bool} (it : MemDeclrs) (h : HeldScopes) → Grows kept h (mem_declrs_scopes it h)
  mem_declrs_grows no_mem_declrs h = still
  mem_declrs_grows (more_mem_declrs attrs d ds) h = after (mem_declr_grows d _) (mem_declrs_grows ds)

  pub mem_declr_grows : {kept : Bool} (it : MemDeclr) (h : HeldScopes) → Grows kept h (mem_declr_scopes it h)
  mem_declr_grows (named d width attrs) h = after (declr_grows None d tt _) (some_value_grows width)
  mem_declr_grows (unnamed colon e attrs) h = expr_grows e _

  pub some_value_grows : {kept : Bool} (it : SomeValue) (h : HeldScopes) → Grows kept h (some_value_scopes it h)
  some_value_grows no_value h = still
  some_value_grows (some_value token e) h = expr_grows e _

  pub enum_type_grows : {kept : Bool} (it : EnumType) (h : HeldScopes) → Grows kept h (enum_type_scopes it h)
  enum_type_grows (enum_of keyword attrs tag body) h = some_enum_body_grows body _

  pub some_enum_body_grows : {kept : Bool} (it : SomeEnumBody) (h : HeldScopes) →
      Grows kept h (some_enum_body_scopes it h)
  some_enum_body_grows no_enum_body h = still
  some_enum_body_grows (some_enum_body opening es last closing) h = enumerators_grows es _

  pub enumerators_grows : {kept : Bool} (it : Enumerators) (h : HeldScopes) → Grows kept h (enumerators_scopes it h)
  enumerators_grows no_enumerators h = still
  enumerators_grows (more_enumerators name attrs value es) h =
      checked (declare name.name Constant h) (after (after (some_value_grows value _) (declared name.name Constant))
      (enumerators_grows es))

  pub declr_grows : {kept : Bool} (kind : Option Kind) (d : Declr) → Suits kept kind → (h : HeldScopes) →
      Grows kept h (declr_scopes kind d h)
  declr_grows kind (pointer star words d) suits h = declr_grows kind d suits _
  declr_grows kind (declr_name token name) suits h = at_name_grows kind name suits _
  declr_grows kind (declr_paren opening attrs d closing) suits h = declr_grows kind d suits _
  declr_grows kind (array d opening words size closing) suits h =
      after (declr_grows kind d suits _) (some_size_grows size)
  declr_grows kind (params d opening ps dots closing) suits h =
      after (declr_grows kind d suits _) (λ v. own (params_grows ps _))
  declr_grows kind (abs_pointer star words d) suits h = some_declr_grows kind d suits _
  declr_grows kind (abs_paren opening attrs d closing) suits h = declr_grows kind d suits _
  declr_grows kind (abs_array d opening words size closing) suits h =
      after (some_declr_grows kind d suits _) (some_size_grows size)
  declr_grows kind (abs_params d opening ps dots closing) suits h =
      after (some_declr_grows kind d suits _) (λ v. own (params_grows ps _))
  declr_grows kind (identifiers d opening names closing) suits h =
      after (declr_grows kind d suits _) (λ t. after (tested (is_wide t)) (identifiers_grows names))
  declr_grows kind (base_name token) suits h = tested (is_wide h && is_typedef kind)

  pub some_declr_grows : {kept : Bool} (kind : Option Kind) (d : SomeDeclr) → Suits kept kind → (h : HeldScopes) →
      Grows kept h (some_declr_scopes kind d h)
  some_declr_grows kind no_declr suits h = still
  some_declr_grows kind (some_declr d) suits h = declr_grows kind d suits _

  pub some_size_grows : {kept : Bool} (it : SomeSize) (h : HeldScopes) → Grows kept h (some_size_scopes it h)
  some_size_grows no_size h = still
  some_size_grows (some_size size) h = array_size_grows size _

  pub array_size_grows : {kept : Bool} (it : ArraySize) (h : HeldScopes) → Grows kept h (array_size_scopes it h)
  array_size_grows (size_value e) h = expr_grows e _
  array_size_grows (size_star star) h = still

  pub params_grows : (it : Params) (h : HeldScopes) → Grows false h (params_scopes it h)
  params_grows no_params h = still
  params_grows (more_params ws d attrs ps) h =
      after (after (after (spec_words_grows ws _) (λ t. tested (some_shows_no_type t d))) (some_declr_grows
      (Some Value) d refl)) (λ t. past (released Value _) (params_grows ps _))

  pub init_grows : {kept : Bool} (it : Init) (h : HeldScopes) → Grows kept h (init_scopes it h)
  init_grows (init_value e) h = expr_grows e _
  init_grows (init_braced list) h = init_list_grows list _

  pub init_list_grows : {kept : Bool} (it : InitList) (h : HeldScopes) → Grows kept h (init_list_scopes it h)
  init_list_grows (init_list opening items last closing) h = init_items_grows items _

  pub init_items_grows : {kept : Bool} (it : InitItems) (h : HeldScopes) → Grows kept h (init_items_scopes it h)
  init_items_grows no_init_items h = still
  init_items_grows (more_init_items ds equal init items) h =
      after (after (desigs_grows ds _) (init_grows init)) (init_items_grows items)

  pub desigs_grows : {kept : Bool} (it : Desigs) (h : HeldScopes) → Grows kept h (desigs_scopes it h)
  desigs_grows no_desigs h = still
  desigs_grows (more_desigs d ds) h = after (desig_grows d _) (desigs_grows ds)

  pub desig_grows : {kept : Bool} (it : Desig) (h : HeldScopes) → Grows kept h (desig_scopes it h)
  desig_grows (member_desig token name) h = still
  desig_grows (index_desig opening e closing) h = expr_grows e _
  desig_grows (range_desig opening e dots e2 closing) h =
      after (after (expr_grows e _) (λ t. tested (is_wide t))) (expr_grows e2)
  desig_grows (old_desig name colon) h = tested (is_wide h)

  pub some_init_grows : {kept : Bool} (it : SomeInit) (h : HeldScopes) → Grows kept h (some_init_scopes it h)
  some_init_grows no_init h = still
  some_init_grows (some_init equal init) h = init_grows init _

  pub init_declrs_grows : (kind : Kind) (it : InitDeclrs) (h : HeldScopes) →
      Grows false h (init_declrs_scopes kind it h)
  init_declrs_grows kind no_init_declrs h = still
  init_declrs_grows kind (more_init_declrs attrs d asm_label attrs2 init ds) h =
      after (after (declr_grows (Some kind) d refl _) (λ t. past (released kind _) (some_init_grows init _)))
      (init_declrs_grows kind ds)

  pub auto_declrs_grows : (it : InitDeclrs) (h : HeldScopes) → Grows false h (auto_declrs_scopes it h)
  auto_declrs_grows no_init_declrs h = still
  auto_declrs_grows (more_init_declrs attrs d asm_label attrs2 init ds) h =
      after (after (after (base_or (is_base d) (declr_grows (Some Value) d refl h)) (some_init_grows init))
      (λ t. released Value t))
      (auto_declrs_grows ds)

  pub declaration_grows : (it : Declaration) (h : HeldScopes) → Grows false h (declaration_scopes it h)
  declaration_grows (declaration exts ws ds semi) h =
      after (spec_words_grows ws _) (λ v. either_way (has_auto ws) (auto_declrs_scopes ds) (init_declrs_scopes
      (declared_kind ws) ds) (auto_declrs_grows ds v) (init_declrs_grows (declared_kind ws) ds v))

  pub decl_grows : (it : Decl) (h : HeldScopes) → Grows false h (decl_scopes it h)
  decl_grows (decl_declaration d) h = declaration_grows d _
  decl_grows (decl_assert it) h = still

  pub block_items_grows : (it : BlockItems) (h : HeldScopes) → Grows false h (block_items_scopes it h)
  block_items_grows no_block_items h = still
  block_items_grows (more_block_items item items) h = after (block_item_grows item _) (block_items_grows items)

  pub block_item_grows : (it : BlockItem) (h : HeldScopes) → Grows false h (block_item_scopes it h)
  block_item_grows (block_decl d) h = decl_grows d _
  block_item_grows (block_stmt t) h = stmt_grows t _
  block_item_grows (block_labels keyword names semi) h = still

  pub stmt_grows : (it : Stmt) (h : HeldScopes) → Grows false h (stmt_scopes it h)
  stmt_grows (block opening items closing) h = own (block_items_grows items _)
  stmt_grows (expr_stmt e semi) h = some_expr_grows e _
  stmt_grows (attr_stmt attrs semi) h = still
  stmt_grows (label name colon attrs t) h = stmt_grows t _
  stmt_grows (case_stmt keyword e colon t) h = after (expr_grows e _) (stmt_grows t)
  stmt_grows (default_stmt keyword colon t) h = stmt_grows t _
  stmt_grows (if_stmt keyword opening e closing t other) h =
      own (after (after (expr_grows e _) (λ v. own (stmt_grows t _))) (some_else_grows other))
  stmt_grows (switch_stmt keyword opening e closing t) h = own (after (expr_grows e _) (λ v. own (stmt_grows t _)))
  stmt_grows (while_stmt keyword opening e closing t) h = own (after (expr_grows e _) (λ v. own (stmt_grows t _)))
  stmt_grows (do_stmt keyword t keyword2 opening e closing semi) h = own (after (own (stmt_grows t _)) (expr_grows e))
  stmt_grows (for_stmt keyword opening start e semi e2 closing t) h =
      own (after (after (after (for_start_grows start _) (some_expr_grows e)) (some_expr_grows e2)) (λ v. own
      (stmt_grows t _)))
  stmt_grows (goto_stmt keyword name semi) h = still
  stmt_grows (continue_stmt keyword semi) h = still
  stmt_grows (break_stmt keyword semi) h = still
  stmt_grows (return_stmt keyword e semi) h = some_expr_grows e _
  stmt_grows (asm_stmt keyword words group semi) h = still
  stmt_grows (case_range keyword e dots e2 colon t) h =
      after (after (after (expr_grows e _) (λ u. tested (is_wide u))) (expr_grows e2)) (stmt_grows t)
  stmt_grows (goto_value keyword star e semi) h = after (tested (is_wide h)) (expr_grows e)

  pub some_else_grows : (it : SomeElse) (h : HeldScopes) → Grows false h (some_else_scopes it h)
  some_else_grows no_else h = still
  some_else_grows (some_else keyword t) h = own (stmt_grows t _)

  pub for_start_grows : (it : ForStart) (h : HeldScopes) → Grows false h (for_start_scopes it h)
  for_start_grows (start_declaration d) h = declaration_grows d _
  for_start_grows (start_value e semi) h = some_expr_grows e _

-- declarations one after another
pub declarations_grow : (ds : List Declaration) (h : HeldScopes) → Grows false h (declarations_scopes ds h)
declarations_grow [] h = still
declarations_grow (d ∷ ds) h = after (declaration_grows d h) (declarations_grow ds)
