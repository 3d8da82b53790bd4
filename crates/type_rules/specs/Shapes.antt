-- The type of each expression (C99, 6.5), by cases on the tree, over what names and types' names in it mean.
use Rattle.std.specs.Prelude.{Bool, false, ◌&&◌, List, [], ◌∷◌, Option, None, Some}
use Rattle.c_tree.specs.Tree.{Expr, operation, cast, prefix, sizeof_value, sizeof_type, extension, index, call, dot, arrow, post, compound, name_use, number_use, char_use, text_use, paren, statement_expr, va_arg, va_start, va_copy, offset, comma, assign, cond, binary, no_expr, some_expr, BlockItems, no_block_items, more_block_items, BlockItem, block_decl, block_stmt, Stmt, expr_stmt, complex_part, label_use, compat, choose, generic, block_labels, Assocs, no_assocs, more_assocs, typed_assoc, default_assoc}
use Rattle.type_table.specs.Types.{CType, base, void, pointer}
use Rattle.name_rules.specs.Spellings.{Spelling, place}
use Rattle.name_rules.specs.Scopes.{Names}
use Rattle.name_rules.specs.Values.{Shape, a_value, a_place, value, some_target, is_plain_void_pointer, binary_type, cond_type, index_shape, Candidate, Association, pick_shape, selected_shape, some_result_type, member_type}
use Rattle.name_rules.specs.Uses.{use_at, type_named_at, use_shape, prefix_shape, assigned_shape, text_type}
use Rattle.c_tree.specs.Firsts.{first_word}

module _ (u : Spelling) (s : Names) where
  -- a zero: a number spelled `0`, one in parentheses, or one that is cast to `void *` without annotation words
  abbrev pub is_zero : Expr → Bool
  is_zero (number_use token) = u.is_naught token
  is_zero (paren opening e closing) = is_zero e
  is_zero (cast opening ws d closing e) =
      is_plain_void_pointer (type_named_at s.type_names (place u (first_word ws))) && is_zero e
  is_zero e = false

  -- a candidate with this shape
  abbrev candidate : Shape → Bool → Candidate
  candidate shape zero = record { shape = shape; is_zero = zero }

  abbrev mutual
    -- the shape of an expression
    pub shape_of : Expr → Shape
    shape_of (operation e comma token e2) = a_value (value (shape_of e2))
    shape_of (operation e (assign p) token e2) = assigned_shape (shape_of e)
    shape_of (operation e (cond no_expr colon) token e2) =
        a_value (cond_type (is_zero e) (is_zero e2) (value (shape_of e)) (value (shape_of e2)))
    shape_of (operation e (cond (some_expr m) colon) token e2) =
        a_value (cond_type (is_zero m) (is_zero e2) (value (shape_of m)) (value (shape_of e2)))
    shape_of (operation e (binary p) token e2) = a_value (binary_type p (value (shape_of e)) (value (shape_of e2)))
    shape_of (cast opening ws d closing e) = a_value (type_named_at s.type_names (place u (first_word ws)))
    shape_of (prefix token p e) = prefix_shape p (shape_of e)
    shape_of (sizeof_value word e) = a_value (Some (base []))
    shape_of (sizeof_type word opening ws d closing) = a_value (Some (base []))
    shape_of (extension keyword e) = shape_of e
    shape_of (index e opening e2 closing) = index_shape u.wide (shape_of e) (shape_of e2)
    shape_of (call e opening es closing) = a_value (some_result_type (value (shape_of e)))
    shape_of (dot e token name) = a_place (member_type s.aggregates (value (shape_of e)) (u.key name.name))
    shape_of (arrow e token name) =
        a_place (member_type s.aggregates (some_target (value (shape_of e))) (u.key name.name))
    shape_of (post e token p) = a_value (value (shape_of e))
    shape_of (compound opening ws d closing list) = a_place (type_named_at s.type_names (place u (first_word ws)))
    shape_of (name_use token name) = use_shape s (use_at s.uses (place u token))
    shape_of (number_use token) = a_value (Some (base []))
    shape_of (char_use token) = a_value (Some (base []))
    shape_of (text_use texts) = a_place (Some text_type)
    shape_of (paren opening e closing) = shape_of e
    shape_of (statement_expr opening opening2 items closing closing2) = a_value (items_value items)
    shape_of (va_arg keyword opening e separator ws d closing) =
        a_value (type_named_at s.type_names (place u (first_word ws)))
    shape_of (va_start keyword opening e separator e2 closing) = a_value (Some (void []))
    shape_of (va_copy keyword opening e separator e2 closing) = a_value (Some (void []))
    shape_of (offset keyword opening ws d separator name steps closing) = a_value (Some (base []))
    shape_of (complex_part keyword e) = shape_of e
    shape_of (label_use token name) = a_value (Some (pointer [] (void [])))
    shape_of (compat keyword opening ws d separator ws2 d2 closing) = a_value (Some (base []))
    shape_of (choose keyword opening e separator e2 separator2 e3 closing) =
        pick_shape (candidate (shape_of e2) (is_zero e2) ∷ candidate (shape_of e3) (is_zero e3) ∷ [])
    shape_of (generic keyword opening e xs closing) = selected_shape (value (shape_of e)) (associations_of xs)

    -- the associations that a selection picks from
    pub associations_of : Assocs → List Association
    associations_of no_assocs = []
    associations_of (more_assocs (typed_assoc ws d colon e) xs) =
        record {
          type = type_named_at s.type_names (place u (first_word ws));
          candidate = candidate (shape_of e) (is_zero e);
        } ∷ associations_of xs
    associations_of (more_assocs (default_assoc keyword colon e) xs) =
        record { type = None; candidate = candidate (shape_of e) (is_zero e) } ∷ associations_of xs

    -- the value of a statement expression is that of its last item, where that is an expression
    pub items_value : BlockItems → Option CType
    items_value no_block_items = Some (void [])
    items_value (more_block_items item no_block_items) = item_value item
    items_value (more_block_items item (more_block_items item2 items)) = items_value (more_block_items item2 items)

    -- the type that the last item of a block leaves
    pub item_value : BlockItem → Option CType
    item_value (block_decl d) = Some (void [])
    item_value (block_stmt t) = stmt_value t
    item_value (block_labels keyword names semi) = Some (void [])

    -- the type that the last statement of a block leaves: `void` where it is no expression
    pub stmt_value : Stmt → Option CType
    stmt_value (expr_stmt (some_expr e) semi) = value (shape_of e)
    stmt_value t = Some (void [])

  -- an expression that may be picked
  abbrev pub candidate_of : Expr → Candidate
  candidate_of e = candidate (shape_of e) (is_zero e)
