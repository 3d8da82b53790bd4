-- The skeleton of each expression whose type is known is that of its type.
use Rattle.std.proofs.Common.{◌≡◌, ◌+◌, ℕ, suc, Bool, true, false, List, [], ◌∷◌, slice_get, unwrap_or, Option, None, Some, refl, sym, ap, subst, ◌∙◌, arith}
use Rattle.std.specs.Prelude.{◌&&◌, ◌||◌, not, if◌then◌else◌}
use Rattle.c_words.specs.declared.kinds.Punct.{Punct}
use Rattle.c_words.specs.declared.kinds.Punct.TheVariants as signs
use Rattle.c_tree.specs.Tree.{Expr, operation, cast, prefix, sizeof_value, sizeof_type, extension, index, call, dot, arrow, post, compound, name_use, number_use, char_use, text_use, paren, statement_expr, va_arg, va_start, va_copy, offset, comma, assign, cond, binary, no_expr, some_expr, BlockItems, no_block_items, more_block_items, BlockItem, block_decl, block_stmt, Stmt, block, expr_stmt, attr_stmt, label, case_stmt, default_stmt, if_stmt, switch_stmt, while_stmt, do_stmt, for_stmt, goto_stmt, continue_stmt, break_stmt, return_stmt, asm_stmt, complex_part, label_use, compat, choose, generic, typeof_value, typeof_type, align, auto_word, range_desig, old_desig, case_range, goto_value, block_labels, identifiers, base_name, Assocs, no_assocs, more_assocs, Assoc, typed_assoc, default_assoc}
use Rattle.c_tree.specs.Addresses.{comes_by_pointer}
use Rattle.c_tree.specs.Ends.{first_text}
use Rattle.type_table.specs.Types.{CType, base, void, pointer}
use Rattle.qual_types.specs.Skel.{Skel}
use Rattle.name_rules.specs.Spellings.{Place}
use Rattle.name_rules.specs.Values.{Association, Candidate, Shape, some_target, member_type, cond_type, some_result_type, binary_type, address, has_of_type, is_candidate, is_fresh_pick, pick_shape, selected, selected_shape}
use Rattle.name_rules.specs.Values as shapes
use Rattle.name_rules.specs.Uses.{use_at, text_type}
use Rattle.type_rules.specs.Shapes.{associations_of, is_zero, shape_of}
use Rattle.type_rules.specs.Shapes as typed
use Rattle.row_rules.specs.Annotations.{has_access}
use Rattle.row_rules.specs.Starting.{candidate_flags, prefix_starts, quiet, selected_by, with_skeleton, Around, Start, fresh, some_fresh, some_place, fresh_where, is_fresh_prefix, is_fresh_binary, is_some_pointer}
use Rattle.row_rules.specs.Vals.{Val, a_place, a_value, contents, binary_of, pick_of, result, value, member_skel, own, branch}
use Rattle.row_rules.specs.Vals as vals
use Rattle.row_rules.specs.Worlds.{World, at}
use Rattle.constraint_rules.specs.Starts.{assoc_starts, assocs_starts, pick_starts, type_at, expr_starts, words_starts, some_declr_starts, init_list_starts, desigs_starts, block_items_starts, block_item_starts, stmt_starts, ends_in_value, is_value, is_value_stmt}
use Rattle.constraint_rules.specs.Values.{val}
use Rattle.constraint_rules.specs.Values as skels
use Rattle.missing_laws.specs.Everywhere.{AssocsHave, ExprHas, BlockItemsHave, BlockItemHas, StmtHas}
use Rattle.missing_laws.specs.Finding.{flags_of, AreFound, IsSettled, IsPrefix, MembersBegin, loud}
use Rattle.missing_laws.proofs.Readings.{IsOf, Reads, Agrees, as_value, as_place, value_reads, target_reads, contents_read, result_reads, address_reads, assigned_agrees, index_agrees, binary_reads, cond_reads}
use Rattle.missing_laws.proofs.Picks.{AreOf, flagged, pick_agrees, selected_is}
use Rattle.missing_laws.proofs.Found.{Further, world, front, back, member_reads, own_is, own_reads, some_own_reads, use_agrees}

module _ (w : World) (U V W : ℕ → Type 0) (f : Option Place) (members : MembersBegin w) where
  abbrev pub a : Around
  a = loud w f

  abbrev pub sh : Expr → Shape
  sh e = shape_of w.spelling w.names e

  abbrev pub v : Expr → Further → Val
  v e k = val (world w k) e

  abbrev pub x : Expr → Further → Skel
  x e k = value (val (world w k) e)

  abbrev pub here : ℕ → Further → Skel
  here token k = own (world w k) token

  abbrev pub Good : Expr → Type 0
  Good e = Agrees (sh e) (λ (k : Further). val (world w k) e)

  pub reads : (e : Expr) → Good e → Reads (shapes.value (sh e)) (x e)
  reads e g = value_reads (sh e) (v e) g

  -- where something is fresh
  fresh_there : (b : Bool) (starts : List Start) → AreFound w (fresh_where b starts) → b ≡ true → AreFound w starts
  fresh_there true starts h e = h
  fresh_there false starts h e = absurd cc

  cond_agrees : (first last : Bool) (token : ℕ) (e e2 : Expr) → Good e → Good e2 →
      AreFound w (fresh_where (not first && not last) (some_fresh a token
      (cond_type first last (shapes.value (sh e)) (shapes.value (sh e2))))) →
      Agrees (shapes.a_value (cond_type first last (shapes.value (sh e)) (shapes.value (sh e2))))
      (λ (k : Further). a_value (branch (world w k) first last token (x e k) (x e2 k)))
  cond_agrees first last token e e2 g l h = as_value _ (λ k. branch (world w k) first last token (x e k) (x e2 k))
      (cond_reads first last (shapes.value (sh e)) (shapes.value (sh e2)) (x e) (x e2) (here token)
      (reads e g) (reads e2 l)
      (λ is. some_own_reads w f token _ (fresh_there (not first && not last) _ h is)))

  binary_agrees : (p : Punct) (token : ℕ) (e e2 : Expr) → Good e → Good e2 →
      AreFound w (fresh_where (is_fresh_binary p (is_some_pointer (shapes.value (sh e)))
      (is_some_pointer (shapes.value (sh e2)))) (fresh a token (base []))) → Good (operation e (binary p) token e2)
  binary_agrees p token e e2 g l h = as_value _ (λ k. binary_of p (x e k) (x e2 k) (here token k))
      (binary_reads p (shapes.value (sh e)) (shapes.value (sh e2)) (x e) (x e2) (here token) (reads e g) (reads e2 l)
      (λ is. own_is w f token (base []) (fresh_there _ _ h is)))

  fresh_prefix : (token : ℕ) → AreFound w (fresh a token (base [])) →
      Agrees (shapes.a_value (Some (base []))) (λ k. a_value (here token k))
  fresh_prefix token h = as_value (Some (base [])) (here token) (own_reads w f token (base []) h)

  -- the value of a `&` is fresh where it carries the pointer by which its operand came to its place
  address_agrees : (b : Bool) (token : ℕ) (e : Expr) → Good e →
      AreFound w (fresh_where b (some_fresh a token (address (sh e)))) →
      Agrees (shapes.a_value (address (sh e))) (λ k. if b then a_value (here token k) else a_value (v e k).skel)
  address_agrees true token e g h = as_value (address (sh e)) (here token) (some_own_reads w f token (address (sh e)) h)
  address_agrees false token e g h = as_value (address (sh e)) (λ k. (v e k).skel) (address_reads (sh e) (v e) g)

  prefix_agrees : (token : ℕ) (p : Punct) (e : Expr) → IsPrefix p → Good e →
      AreFound w (prefix_starts p (comes_by_pointer false e && has_access w.lattices) a token (sh e))
      → Good (prefix token p e)
  prefix_agrees token signs.Ampersand e is g h =
      address_agrees (comes_by_pointer false e && has_access w.lattices) token e g h
  prefix_agrees token signs.Star e is g h =
      as_place (some_target (shapes.value (sh e))) (x e) (target_reads (shapes.value (sh e)) (x e) (reads e g))
  prefix_agrees token signs.PlusPlus e is g h = as_value (shapes.value (sh e)) (x e) (reads e g)
  prefix_agrees token signs.MinusMinus e is g h = as_value (shapes.value (sh e)) (x e) (reads e g)
  prefix_agrees token signs.Plus e is g h = fresh_prefix token h
  prefix_agrees token signs.Minus e is g h = fresh_prefix token h
  prefix_agrees token signs.Tilde e is g h = fresh_prefix token h
  prefix_agrees token signs.Bang e is g h = fresh_prefix token h
  prefix_agrees token p e is g h = absurd cc

  typed_agrees : (token : ℕ) (o : Option CType) → AreFound w (some_fresh a token o) →
      Agrees (shapes.a_value o) (λ k. a_value (here token k))
  typed_agrees token o h = as_value o (here token) (some_own_reads w f token o h)

  literal_reads : (token : ℕ) (o : Option CType) → AreFound w (some_fresh a token (some_place o)) → (t : CType) →
      o ≡ Some t → IsOf (pointer [] t) (here token)
  literal_reads token None h t e = absurd cc
  literal_reads token (Some u) h t e = let same : u ≡ t = cc in
      subst (λ (it : CType). IsOf (pointer [] it) (here token)) same (own_is w f token (pointer [] u) h)

  literal_agrees : (token : ℕ) (o : Option CType) → AreFound w (some_fresh a token (some_place o)) →
      Agrees (shapes.a_place o) (λ k. a_place (here token k))
  literal_agrees token o h = as_place o (here token) (literal_reads token o h)

  void_reads : (token : ℕ) → AreFound w (fresh a token (void [])) → Reads (Some (void [])) (here token)
  void_reads token h = own_reads w f token (void []) h

  -- picks

  pub picked_agrees : (token : ℕ) (cs : List Candidate) (fs : Further → List vals.Candidate) → AreOf cs fs →
      AreFound w (pick_starts a token cs) → Agrees (pick_shape cs) (λ k. pick_of (here token k) (fs k))
  picked_agrees token cs fs g h = pick_agrees cs fs (here token) g
      (λ is. some_own_reads w f token _ (fresh_there (is_fresh_pick cs) _ h is))

  pub selected_agrees : (token : ℕ) (o : Option CType) (all : List Association) (fs : Further → List vals.Candidate) →
      ((t : CType) → o ≡ Some t → AreOf (selected t all) fs) → AreFound w (pick_starts a token (selected_by o all)) →
      Agrees (selected_shape o all) (λ k. pick_of (here token k) (fs k))
  selected_agrees token None all fs g h = λ t e. absurd cc
  selected_agrees token (Some t) all fs g h = picked_agrees token (selected t all) fs (g t refl) h

  abbrev pub two : Expr → Expr → List Candidate
  two e2 e3 = typed.candidate_of w.spelling w.names e2 ∷ (typed.candidate_of w.spelling w.names e3 ∷ [])

  pub two_are : (e2 e3 : Expr) → Good e2 → Good e3 → AreOf (two e2 e3)
      (λ (j : Further). skels.candidate_of (world w j) e2 ∷ (skels.candidate_of (world w j) e3 ∷ []))
  two_are e2 e3 g l = (
    v e2,
    (λ j. skels.candidate_of (world w j) e3 ∷ []),
    ((λ j. refl), (g, (v e3, (λ j. []), ((λ j. refl), (l, λ j. refl))))),
  )

  candidate_where : (b c : Bool) (it : Candidate) (cs : List Candidate) (y : Further → Val)
      (fs : Further → List vals.Candidate) → b ≡ c → Agrees it.shape y → AreOf cs fs →
      AreOf (if b then it ∷ cs else cs)
      (λ k. if c then record { val = y k; is_zero = it.is_zero } ∷ fs k else fs k)
  candidate_where true true it cs y fs e g rest = (y, fs, ((λ k. refl), (g, rest)))
  candidate_where false false it cs y fs e g rest = rest
  candidate_where true false it cs y fs e g rest = absurd cc
  candidate_where false true it cs y fs e g rest = absurd cc

  -- the flags of a selection by the type of its control
  pub flags_from : (token : ℕ) (t : CType) (o : Option CType) (all : List Association) → o ≡ Some t →
      ((n : ℕ) → w.candidate (at w token) n ≡ unwrap_or (slice_get (flags_of o all) n) false) →
      (n m : ℕ) → m ≡ n + 0 → w.candidate (at w token) m
      ≡ unwrap_or (slice_get (candidate_flags (has_of_type (Some t) all) (Some t) all) n) false
  flags_from token t o all is g n m e =
      let same : m ≡ n = omega arith in
      ap (λ (i : ℕ). w.candidate (at w token) i) same
      ∙ (g n ∙ ap (λ it. unwrap_or (slice_get (flags_of it all) n) false) is)

  mutual
    pub agrees : (e : Expr) → ExprHas (IsSettled w) U V W e → AreFound w (expr_starts a e) → Good e
    agrees (operation e comma token e2) k h = as_value (shapes.value (sh e2)) (x e2)
        (reads e2 (agrees e2 k.1.1.1 (back w (expr_starts a e) (expr_starts a e2) h)))
    agrees (operation e (assign p) token e2) k h =
        assigned_agrees (sh e) (v e) (agrees e k.1.0 (front w (expr_starts a e) (expr_starts a e2) h))
    agrees (operation e (cond no_expr colon) token e2) k h =
        let behind = back w (expr_starts a e) _ h in
        cond_agrees (is_zero w.spelling w.names e) (is_zero w.spelling w.names e2) token e e2
        (agrees e k.1.0 (front w (expr_starts a e) _ h)) (agrees e2 k.1.1.1 (front w (expr_starts a e2) _ behind))
        (back w (expr_starts a e2) _ behind)
    agrees (operation e (cond (some_expr m) colon) token e2) k h =
        let behind = back w (expr_starts a e) _ h in
        let last = back w (expr_starts a m) _ behind in
        cond_agrees (is_zero w.spelling w.names m) (is_zero w.spelling w.names e2) token m e2
        (agrees m k.1.1.0 (front w (expr_starts a m) _ behind)) (agrees e2 k.1.1.1 (front w (expr_starts a e2) _ last))
        (back w (expr_starts a e2) _ last)
    agrees (operation e (binary p) token e2) k h =
        let behind = back w (expr_starts a e) _ h in
        binary_agrees p token e e2 (agrees e k.1.0 (front w (expr_starts a e) _ h))
        (agrees e2 k.1.1.1 (front w (expr_starts a e2) _ behind)) (back w (expr_starts a e2) _ behind)
    agrees (cast opening ws d closing e) k h = typed_agrees opening (type_at a ws)
        (back w (expr_starts a e) _ (back w (some_declr_starts a _ d) _ (back w (words_starts a ws) _ h)))
    agrees (prefix token p e) k h = prefix_agrees token p e k.0 (agrees e k.1 (front w (expr_starts a e) _ h))
        (back w (expr_starts a e) _ h)
    agrees (sizeof_value word e) k h = fresh_prefix word.token (back w (expr_starts _ e) _ h)
    agrees (sizeof_type word opening ws d closing) k h =
        fresh_prefix word.token (back w (some_declr_starts _ _ d) _ (back w (words_starts _ ws) _ h))
    agrees (extension keyword e) k h = agrees e k.1 h
    agrees (index e opening e2 closing) k h =
        index_agrees w.spelling.wide (sh e) (sh e2) (v e) (v e2) (agrees e k.1.0 (front w (expr_starts a e) _ h))
        (agrees e2 k.1.1 (back w (expr_starts a e) _ h))
    agrees (call e opening es closing) k h =
        as_value (some_result_type (shapes.value (sh e))) (λ k. result (contents (x e k)))
        (result_reads (shapes.value (sh e)) (x e) (reads e (agrees e k.1.0 (front w (expr_starts a e) _ h))))
    agrees (dot e token name) k h = as_place _ (λ k. member_skel (world w k) (x e k) name.name)
        (member_reads w members (shapes.value (sh e)) (x e) name.name (reads e (agrees e k.1 h)))
    agrees (arrow e token name) k h = as_place _ (λ k. member_skel (world w k) (contents (x e k)) name.name)
        (member_reads w members (some_target (shapes.value (sh e))) (λ k. contents (x e k)) name.name
        (contents_read (shapes.value (sh e)) (x e) (reads e (agrees e k.1 h))))
    agrees (post e token p) k h = as_value (shapes.value (sh e)) (x e) (reads e (agrees e k.1 h))
    agrees (compound opening ws d closing list) k h = literal_agrees opening (type_at a ws)
        (back w (init_list_starts a list) _ (back w (some_declr_starts a _ d) _ (back w (words_starts a ws) _ h)))
    agrees (name_use token name) k h = use_agrees w f token (use_at w.names.uses (at w token)) refl k.1 h
    agrees (number_use token) k h = fresh_prefix token h
    agrees (char_use token) k h = fresh_prefix token h
    agrees (text_use texts) k h = as_place (Some text_type) (here (first_text texts)) (placed (first_text texts) h)
      where
        placed : (token : ℕ) → AreFound w (fresh a token (pointer [] text_type)) → (t : CType) →
            Some text_type ≡ Some t → IsOf (pointer [] t) (here token)
        placed token h t e = let same : text_type ≡ t = cc in
            subst (λ (it : CType). IsOf (pointer [] it) (here token)) same (own_is w f token (pointer [] text_type) h)
    agrees (paren opening e closing) k h = agrees e k.1 h
    agrees (statement_expr opening opening2 items closing closing2) k h =
        as_value _ (λ k. skels.items_value (world w k) opening items)
        (items_read opening items k.1 (front w (block_items_starts a items) _ h)
        (fresh_there (not (ends_in_value items)) _ (back w (block_items_starts a items) _ h)))
    agrees (va_arg keyword opening e separator ws d closing) k h = typed_agrees keyword (type_at a ws)
        (back w (some_declr_starts a _ d) _ (back w (words_starts a ws) _ (back w (expr_starts a e) _ h)))
    agrees (va_start keyword opening e separator e2 closing) k h = as_value (Some (void [])) (here keyword)
        (void_reads keyword (back w (expr_starts a e2) _ (back w (expr_starts a e) _ h)))
    agrees (va_copy keyword opening e separator e2 closing) k h = as_value (Some (void [])) (here keyword)
        (void_reads keyword (back w (expr_starts a e2) _ (back w (expr_starts a e) _ h)))
    agrees (offset keyword opening ws d separator name steps closing) k h =
        fresh_prefix keyword
        (back w (desigs_starts a steps) _ (back w (some_declr_starts _ _ d) _ (back w (words_starts _ ws) _ h)))
    agrees (complex_part keyword e) k h = agrees e k.1 h
    agrees (label_use token name) k h = typed_agrees token (Some (pointer [] (void []))) h
    agrees (compat keyword opening ws d separator ws2 d2 closing) k h =
        fresh_prefix keyword (back w (some_declr_starts _ _ d2) _ (back w (words_starts _ ws2) _
        (back w (some_declr_starts _ _ d) _ (back w (words_starts _ ws) _ h))))
    agrees (choose keyword opening e separator e2 separator2 e3 closing) k h =
        let behind = back w (expr_starts (quiet a) e) _ h in
        let last = back w (expr_starts a e2) _ behind in
        picked_agrees keyword (two e2 e3)
        (λ j. skels.candidate_of (world w j) e2 ∷ (skels.candidate_of (world w j) e3 ∷ []))
        (two_are e2 e3 (agrees e2 k.1.0 (front w (expr_starts a e2) _ behind))
        (agrees e3 k.1.1 (front w (expr_starts a e3) _ last)))
        (back w (expr_starts a e3) _ last)
    agrees (generic keyword opening e xs closing) k h =
        let behind = back w (expr_starts (quiet a) e) _ h in
        selected_agrees keyword (shapes.value (sh e)) (associations_of w.spelling w.names xs)
        (λ j. skels.candidates_of (world w j) keyword 0 xs)
        (λ t is. subst (λ cs. AreOf cs (λ (j : Further). skels.candidates_of (world w j) keyword 0 xs))
        (sym (selected_is t (associations_of w.spelling w.names xs)))
        (assocs_agree keyword 0 t (has_of_type (Some t) (associations_of w.spelling w.names xs)) xs k.1
        (front w (assocs_starts a xs) _ behind)
        (flags_from keyword t (shapes.value (sh e)) (associations_of w.spelling w.names xs) is k.0.1.1)))
        (back w (assocs_starts a xs) _ behind)

    -- the associations of a selection that are candidates, the first of which has this number
    pub assocs_agree : (token i : ℕ) (t : CType) (has : Bool) (xs : Assocs) → AssocsHave (IsSettled w) U V W xs →
        AreFound w (assocs_starts a xs) →
        ((n m : ℕ) → m ≡ n + i → w.candidate (at w token) m
        ≡ unwrap_or (slice_get (candidate_flags has (Some t) (associations_of w.spelling w.names xs)) n) false) →
        AreOf (flagged has t (associations_of w.spelling w.names xs))
        (λ (k : Further). skels.candidates_of (world w k) token i xs)
    assocs_agree token i t has no_assocs k h g = λ j. refl
    assocs_agree token i t has (more_assocs (typed_assoc ws d colon e) xs) k h g =
        let one = front w (assoc_starts a (typed_assoc ws d colon e)) _ h in
        candidate_where (not has || is_candidate t (type_at a ws)) (w.candidate (at w token) i)
        (typed.candidate_of w.spelling w.names e) (flagged has t (associations_of w.spelling w.names xs)) (v e)
        (λ j. skels.candidates_of (world w j) token (suc i) xs) (sym (g 0 i (omega arith)))
        (agrees e k.0.1.1 (back w (some_declr_starts a with_skeleton d) _ (back w (words_starts a ws) _ one)))
        (assocs_agree token (suc i) t has xs k.1 (back w (assoc_starts a (typed_assoc ws d colon e)) _ h)
        (λ n m is. g (suc n) m (omega arith)))
    assocs_agree token i t has (more_assocs (default_assoc keyword colon e) xs) k h g =
        candidate_where (not has || is_candidate t None) (w.candidate (at w token) i)
        (typed.candidate_of w.spelling w.names e) (flagged has t (associations_of w.spelling w.names xs)) (v e)
        (λ j. skels.candidates_of (world w j) token (suc i) xs) (sym (g 0 i (omega arith)))
        (agrees e k.0 (front w (assoc_starts a (default_assoc keyword colon e)) _ h))
        (assocs_agree token (suc i) t has xs k.1 (back w (assoc_starts a (default_assoc keyword colon e)) _ h)
        (λ n m is. g (suc n) m (omega arith)))

    items_read : (token : ℕ) (items : BlockItems) → BlockItemsHave (IsSettled w) U V W items →
        AreFound w (block_items_starts a items) →
        (not (ends_in_value items) ≡ true → AreFound w (fresh a token (void []))) →
        Reads (typed.items_value w.spelling w.names items) (λ (k : Further). skels.items_value (world w k) token items)
    items_read token no_block_items k h g = void_reads token (g refl)
    items_read token (more_block_items item no_block_items) k h g =
        item_reads token item k.0 (front w (block_item_starts a item) _ h) g
    items_read token (more_block_items item (more_block_items item2 items)) k h g =
        items_read token (more_block_items item2 items) k.1 (back w (block_item_starts a item) _ h) g

    item_reads : (token : ℕ) (item : BlockItem) → BlockItemHas (IsSettled w) U V W item →
        AreFound w (block_item_starts a item) →
        (not (is_value item) ≡ true → AreFound w (fresh a token (void []))) →
        Reads (typed.item_value w.spelling w.names item) (λ (k : Further). skels.item_value (world w k) token item)
    item_reads token (block_decl d) k h g = void_reads token (g refl)
    item_reads token (block_stmt t) k h g = stmt_reads token t k h g
    item_reads token (block_labels keyword names semi) k h g = void_reads token (g refl)

    stmt_reads : (token : ℕ) (t : Stmt) → StmtHas (IsSettled w) U V W t → AreFound w (stmt_starts a t) →
        (not (is_value_stmt t) ≡ true → AreFound w (fresh a token (void []))) →
        Reads (typed.stmt_value w.spelling w.names t) (λ (k : Further). skels.stmt_value (world w k) token t)
    stmt_reads token (expr_stmt (some_expr e) semi) k h g = reads e (agrees e k h)
    stmt_reads token (expr_stmt no_expr semi) k h g = void_reads token (g refl)
    stmt_reads token (block opening items closing) k h g = void_reads token (g refl)
    stmt_reads token (attr_stmt attrs semi) k h g = void_reads token (g refl)
    stmt_reads token (label name colon attrs t) k h g = void_reads token (g refl)
    stmt_reads token (case_stmt keyword e colon t) k h g = void_reads token (g refl)
    stmt_reads token (default_stmt keyword colon t) k h g = void_reads token (g refl)
    stmt_reads token (if_stmt keyword opening e closing t other) k h g = void_reads token (g refl)
    stmt_reads token (switch_stmt keyword opening e closing t) k h g = void_reads token (g refl)
    stmt_reads token (while_stmt keyword opening e closing t) k h g = void_reads token (g refl)
    stmt_reads token (do_stmt keyword t keyword2 opening e closing semi) k h g = void_reads token (g refl)
    stmt_reads token (for_stmt keyword opening start e semi e2 closing t) k h g = void_reads token (g refl)
    stmt_reads token (goto_stmt keyword name semi) k h g = void_reads token (g refl)
    stmt_reads token (continue_stmt keyword semi) k h g = void_reads token (g refl)
    stmt_reads token (break_stmt keyword semi) k h g = void_reads token (g refl)
    stmt_reads token (return_stmt keyword e semi) k h g = void_reads token (g refl)
    stmt_reads token (asm_stmt keyword words group semi) k h g = void_reads token (g refl)
    stmt_reads token (case_range keyword e dots e2 colon t) k h g = void_reads token (g refl)
    stmt_reads token (goto_value keyword star e semi) k h g = void_reads token (g refl)
