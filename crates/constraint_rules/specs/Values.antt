-- The skeleton of each expression (Foster et al. 2006), by cases on the tree: that of a place, which is a reference to
-- what is in it, or that of a value.
use Rattle.std.specs.Prelude.{ℕ, Bool, if◌then◌else◌, suc, List, [], ◌∷◌, false}
use Rattle.c_tree.specs.Tree.{Expr, operation, cast, prefix, sizeof_value, sizeof_type, extension, index, call, dot, arrow, post, compound, name_use, number_use, char_use, text_use, paren, statement_expr, va_arg, va_start, va_copy, offset, comma, assign, cond, binary, no_expr, some_expr, BlockItems, no_block_items, more_block_items, BlockItem, block_decl, block_stmt, Stmt, expr_stmt, complex_part, label_use, compat, choose, generic, block_labels, Assocs, no_assocs, more_assocs, Assoc, typed_assoc, default_assoc}
use Rattle.c_tree.specs.Ends.{first_text}
use Rattle.qual_types.specs.Skel.{Skel, no_skeleton}
use Rattle.name_rules.specs.Uses.{use_at}
use Rattle.type_rules.specs.Shapes.{is_zero}
use Rattle.row_rules.specs.Vals.{Val, a_place, a_value, binary_of, branch, contents, is_ref, member_skel, own, prefix_of, result, used, value, Candidate, pick_of, index_of}
use Rattle.row_rules.specs.Worlds.{World, at}
use Rattle.c_tree.specs.Addresses.{comes_by_pointer}

-- an operand as one that may be picked, with whether it is a zero
abbrev candidate : Val → Bool → Candidate
candidate it zero = record { val = it; is_zero = zero }

module _ (w : World) where
  abbrev mutual
    -- an expression as an operand: whether it is a place, and its skeleton
    pub val : Expr → Val
    val (operation e comma token e2) = a_value (value (val e2))
    val (operation e (assign p) token e2) = a_value (contents (val e).skel)
    val (operation e (cond no_expr colon) token e2) = a_value
        (branch w (is_zero w.spelling w.names e) (is_zero w.spelling w.names e2) token (value (val e)) (value (val e2)))
    val (operation e (cond (some_expr m) colon) token e2) = a_value
        (branch w (is_zero w.spelling w.names m) (is_zero w.spelling w.names e2) token (value (val m)) (value (val e2)))
    val (operation e (binary p) token e2) = a_value (binary_of p (value (val e)) (value (val e2)) (own w token))
    val (cast opening ws d closing e) = a_value (own w opening)
    val (prefix token p e) = prefix_of w token p (val e) (comes_by_pointer false e)
    val (sizeof_value word e) = a_value (own w word.token)
    val (sizeof_type word opening ws d closing) = a_value (own w word.token)
    val (extension keyword e) = val e
    val (index e opening e2 closing) = index_of w.spelling.wide (val e) (val e2)
    val (call e opening es closing) = a_value (result (contents (value (val e))))
    val (dot e token name) = a_place (member_skel w (value (val e)) name.name)
    val (arrow e token name) = a_place (member_skel w (contents (value (val e))) name.name)
    val (post e token p) = a_value (value (val e))
    val (compound opening ws d closing list) = a_place (own w opening)
    val (name_use token name) = used w token (use_at w.names.uses (at w token))
    val (number_use token) = a_value (own w token)
    val (char_use token) = a_value (own w token)
    val (text_use texts) = a_place (own w (first_text texts))
    val (paren opening e closing) = val e
    val (statement_expr opening opening2 items closing closing2) = a_value (items_value opening items)
    val (va_arg keyword opening e separator ws d closing) = a_value (own w keyword)
    val (va_start keyword opening e separator e2 closing) = a_value (own w keyword)
    val (va_copy keyword opening e separator e2 closing) = a_value (own w keyword)
    val (offset keyword opening ws d separator name steps closing) = a_value (own w keyword)
    val (complex_part keyword e) = val e
    val (label_use token name) = a_value (own w token)
    val (compat keyword opening ws d separator ws2 d2 closing) = a_value (own w keyword)
    val (choose keyword opening e separator e2 separator2 e3 closing) =
        pick_of (own w keyword)
        (candidate (val e2) (is_zero w.spelling w.names e2) ∷ candidate (val e3) (is_zero w.spelling w.names e3) ∷ [])
    val (generic keyword opening e xs closing) = pick_of (own w keyword) (candidates_of keyword 0 xs)

    -- those associations of the selection at a token that are candidates, the first of which has this number
    pub candidates_of : ℕ → ℕ → Assocs → List Candidate
    candidates_of token i no_assocs = []
    candidates_of token i (more_assocs x xs) =
        if w.candidate (at w token) i then candidate_in x ∷ candidates_of token (suc i) xs
        else candidates_of token (suc i) xs

    -- an association as a candidate
    pub candidate_in : Assoc → Candidate
    candidate_in (typed_assoc ws d colon e) = candidate (val e) (is_zero w.spelling w.names e)
    candidate_in (default_assoc keyword colon e) = candidate (val e) (is_zero w.spelling w.names e)

    -- of a statement expression that begins at this token
    pub items_value : ℕ → BlockItems → Skel
    items_value token no_block_items = own w token
    items_value token (more_block_items item no_block_items) = item_value token item
    items_value token (more_block_items item (more_block_items item2 items)) =
        items_value token (more_block_items item2 items)

    -- the skeleton that the last item of a block leaves
    pub item_value : ℕ → BlockItem → Skel
    item_value token (block_decl d) = own w token
    item_value token (block_stmt t) = stmt_value token t
    item_value token (block_labels keyword names semi) = own w token

    -- the skeleton that the last statement of a block leaves: the block's own where it is no expression
    pub stmt_value : ℕ → Stmt → Skel
    stmt_value token (expr_stmt (some_expr e) semi) = value (val e)
    stmt_value token t = own w token

  -- an expression that may be picked
  abbrev pub candidate_of : Expr → Candidate
  candidate_of e = candidate (val e) (is_zero w.spelling w.names e)

  -- the pointer by which a place was come to that is only addressed
  abbrev pub pointer_to : Expr → Skel
  pointer_to (operation a op token b) = no_skeleton
  pointer_to (cast opening ws d closing e) = no_skeleton
  pointer_to (prefix token p e) = value (val e)
  pointer_to (sizeof_value word e) = no_skeleton
  pointer_to (sizeof_type word opening ws d closing) = no_skeleton
  pointer_to (extension keyword e) = pointer_to e
  pointer_to (index a opening b closing) = if is_ref (value (val a)) then value (val a) else value (val b)
  pointer_to (call f opening es closing) = no_skeleton
  pointer_to (dot e token name) = pointer_to e
  pointer_to (arrow e token name) = value (val e)
  pointer_to (post e token p) = no_skeleton
  pointer_to (compound opening ws d closing list) = no_skeleton
  pointer_to (name_use token name) = no_skeleton
  pointer_to (number_use token) = no_skeleton
  pointer_to (char_use token) = no_skeleton
  pointer_to (text_use texts) = no_skeleton
  pointer_to (paren opening e closing) = pointer_to e
  pointer_to (statement_expr opening opening2 items closing closing2) = no_skeleton
  pointer_to (va_arg keyword opening e separator ws d closing) = no_skeleton
  pointer_to (va_start keyword opening a separator b closing) = no_skeleton
  pointer_to (va_copy keyword opening a separator b closing) = no_skeleton
  pointer_to (offset keyword opening ws d separator name steps closing) = no_skeleton
  pointer_to (complex_part keyword e) = pointer_to e
  pointer_to (label_use token name) = no_skeleton
  pointer_to (compat keyword opening ws d separator ws2 d2 closing) = no_skeleton
  pointer_to (choose keyword opening e separator a separator2 b closing) = no_skeleton
  pointer_to (generic keyword opening e xs closing) = no_skeleton
