-- An expression without a fault, whose names are known, has a type.
use Rattle.std.proofs.Common.{◌≡◌, ℕ, Bool, true, false, List, [], ◌∷◌, ◌++◌, Option, None, Some, refl}
use Rattle.std.specs.Prelude.{◌&&◌, ◌≢◌, not, is_some, if◌then◌else◌}
use Rattle.std.proofs.lemmas.Bool.{not-false, and_from}
use Rattle.c_words.specs.declared.kinds.Punct.{Punct}
use Rattle.c_words.specs.declared.kinds.Punct.TheVariants as signs
use Rattle.c_tree.specs.Tree.{Expr, operation, cast, prefix, sizeof_value, sizeof_type, extension, index, call, dot, arrow, post, compound, name_use, number_use, char_use, text_use, paren, statement_expr, va_arg, va_start, va_copy, offset, comma, assign, cond, binary, no_expr, some_expr, BlockItems, no_block_items, more_block_items, BlockItem, block_decl, block_stmt, Stmt, block, expr_stmt, attr_stmt, label, case_stmt, default_stmt, if_stmt, switch_stmt, while_stmt, do_stmt, for_stmt, goto_stmt, continue_stmt, break_stmt, return_stmt, asm_stmt, complex_part, label_use, compat, choose, generic, typeof_value, typeof_type, align, auto_word, range_desig, old_desig, case_range, goto_value, block_labels, identifiers, base_name, Assocs, no_assocs, more_assocs, Assoc, typed_assoc, default_assoc}
use Rattle.type_table.specs.Types.{CType, base, void, struct, pointer, function}
use Rattle.name_rules.specs.Spellings.{Spelling, Place, place}
use Rattle.name_rules.specs.Faults.{Fault, Rule, not_place, not_pointer, not_function, no_member, fault_where}
use Rattle.name_rules.specs.Scopes.{Names, Known, Aggregate}
use Rattle.name_rules.specs.Values.{Candidate, Association, a_place, higher_of, ranked, first_ranked, no_zeros, or_all, left_of, have_types, pick_shape, candidates_of, all_candidates, is_candidate, selected, selected_shape, is_base_value, is_vector_index, index_shape, Shape, value, some_read_from, some_target, points_to_some, second_branch, branches_type, member_of, lacks_member, known_type, member_type, cond_type, some_result_type, result_type, points_to_function, index_type, sum_type, is_additive, binary_type, is_no_pointer, address}
use Rattle.name_rules.specs.Uses.{assigned_shape}
use Rattle.name_rules.specs.Checks.{call_faults, prefix_faults, member_faults, index_faults_at}
use Rattle.type_rules.specs.Shapes.{associations_of, candidate_of, is_zero, shape_of, items_value, item_value, stmt_value}
use Rattle.type_rules.specs.Judging.{assocs_faults, assoc_faults, some_declr_faults, words_faults, expr_faults, operator_faults, block_items_faults, block_item_faults, stmt_faults, count}
use Rattle.missing_laws.specs.Everywhere.{ExprHas, AssocsHave, BlockItemsHave, BlockItemHas, StmtHas}
use Rattle.row_rules.specs.Worlds.{World}
use Rattle.missing_laws.specs.Finding.{IsSettled}

-- lists of faults

pub first_none : (xs ys : List Fault) → xs ++ ys ≡ [] → xs ≡ []
first_none [] ys h = refl
first_none (x ∷ xs) ys h = absurd cc

pub last_none : (xs ys : List Fault) → xs ++ ys ≡ [] → ys ≡ []
last_none [] ys h = h
last_none (x ∷ xs) ys h = absurd cc

pub holds_where : (b : Bool) (at : Place) (rule : Rule) → fault_where b at rule ≡ [] → b ≡ false
holds_where true at rule h = absurd cc
holds_where false at rule h = refl

-- types that are known

abbrev pub Is : Option CType → Type 0
Is o = (t : CType) × (o ≡ Some t)

-- a place with a type has a value with a type
pub valued : (s : Shape) → Is s.type → Is (value s)
valued s h = by s.is_place s.type h
  where
    by : (b : Bool) (o : Option CType) → Is o → Is (if b then some_read_from o else o)
    by true None h = absurd cc
    by true (Some t) h = (_, refl)
    by false o h = h

-- a type that is a pointer points at a type
pointed : (o : Option CType) → Is o → is_no_pointer o ≡ false → Is (some_target o)
pointed None h p = absurd cc
pointed (Some (pointer ws t)) h p = (t, refl)
pointed (Some (base ws)) h p = absurd cc
pointed (Some (void ws)) h p = absurd cc
pointed (Some (struct ws n)) h p = absurd cc
pointed (Some (function ws ps r e)) h p = absurd cc

-- where both branches of a condition have a type, their common one is there
branched : (a b : Option CType) → Is a → Is b → Is (branches_type a b)
branched None b h l = absurd cc
branched (Some a) b h l = by (points_to_some a) b l
  where
    by : (c : Bool) (b : Option CType) → Is b → Is (if c then Some a else second_branch a b)
    by true b l = (a, refl)
    by false None l = absurd cc
    by false (Some b) l = (_, refl)

-- a condition whose two values have types has a type
chosen : (first last : Bool) (a b : Option CType) → Is a → Is b → Is (cond_type first last a b)
chosen true true a b h l = h
chosen false true a b h l = h
chosen true false a b h l = l
chosen false false a b h l = branched a b h l

-- a sum or difference of two typed operands has a type
summed : (a b : Option CType) → Is a → Is b → Is (sum_type a b)
summed None b h l = absurd cc
summed (Some a) None h l = absurd cc
summed (Some a) (Some b) h l = (_, refl)

-- a binary operation of two typed operands has a type, whatever its operator
computed : (p : Punct) (a b : Option CType) → Is a → Is b → Is (binary_type p a b)
computed p a b h l = by (is_additive p)
  where
    by : (c : Bool) → Is (if c then sum_type a b else Some (base []))
    by true = summed a b h l
    by false = (base [], refl)

-- an assignment to a typed place without a fault has a type
assigned : (s : Shape) (at : Place) → Is s.type → fault_where (not s.is_place) at not_place ≡ [] →
    Is (assigned_shape s).type
assigned s at h none = by s.is_place (holds_where (not s.is_place) at not_place none)
  where
    by : (b : Bool) → not b ≡ false → Is (if b then s.type else None)
    by true e = h
    by false e = absurd cc

-- the address of a typed place has a type
addressed : (s : Shape) → Is s.type → s.is_place ≡ true → Is (address s)
addressed s h e = by s.is_place s.type e h
  where
    by : (b : Bool) (o : Option CType) → b ≡ true → Is o → Is (address (record { is_place = b; type = o }))
    by false o e h = absurd cc
    by true None e h = absurd cc
    by true (Some t) e h = (_, refl)

-- an index of two typed operands of which one is a pointer has a type
indexed : (a b : Option CType) → Is a → Is b → (is_no_pointer a && is_no_pointer b) ≡ false → Is (index_type a b)
indexed None b h l p = absurd cc
indexed (Some (pointer ws t)) b h l p = (t, refl)
indexed (Some (base ws)) b h l p = pointed b l p
indexed (Some (void ws)) b h l p = pointed b l p
indexed (Some (struct ws n)) b h l p = pointed b l p
indexed (Some (function ws ps r e)) b h l p = pointed b l p

-- where a value is no element of a vector, one operand of `[ ]` is a pointer
no_vector : (wide numbers first last : Bool) → (first && last && not (wide && numbers)) ≡ false
    → (wide && (numbers && last)) ≡ false →
    (first && last) ≡ false
no_vector wide numbers false last h k = refl
no_vector wide numbers true false h k = refl
no_vector true true true true h k = absurd cc
no_vector true false true true h k = absurd cc
no_vector false numbers true true h k = absurd cc

indexed_where : (b : Bool) (e : Shape) (o : Option CType) → Is e.type → (b ≡ false → Is o) →
    Is (if b then e else a_place o).type
indexed_where true e o h l = h
indexed_where false e o h l = l refl

-- an index without a fault has a type, be it of a pointer or of a vector in wider C
indexed_any : (wide : Bool) (e e2 : Shape) → Is e.type → Is (value e) → Is (value e2) →
    (is_no_pointer (value e) && is_no_pointer (value e2) && not (wide && is_base_value (value e))) ≡ false →
    Is (index_shape wide e e2).type
indexed_any wide e e2 t h l p = indexed_where (is_vector_index wide e e2) e (index_type (value e) (value e2)) t
    (λ none. indexed (value e) (value e2) h l
    (no_vector wide (is_base_value (value e)) (is_no_pointer (value e)) (is_no_pointer (value e2)) p none))

-- picks

abbrev AllTyped : List Candidate → Type 0
AllTyped [] = Unit {0}
AllTyped (it ∷ others) = Is it.shape.type × AllTyped others

abbrev pub AssociationsTyped : List Association → Type 0
AssociationsTyped [] = Unit {0}
AssociationsTyped (it ∷ others) = Is it.candidate.shape.type × AssociationsTyped others

-- the higher of two types is there where the first is
higher_typed : (a b : Option CType) → Is a → Is (higher_of a b)
higher_typed a None h = h
higher_typed None (Some u) h = absurd cc
higher_typed (Some t) (Some u) h = (_, refl)

-- the higher of two types is there where the second is
higher_some : (a b : Option CType) → Is b → Is (higher_of a b)
higher_some a None h = absurd cc
higher_some None (Some u) h = (u, refl)
higher_some (Some t) (Some u) h = (_, refl)

-- the best type by rank is there where the first one is
ranked_typed : (best : Option CType) (all : List Candidate) → Is best → Is (ranked best all)
ranked_typed best [] h = h
ranked_typed best (it ∷ others) h =
    ranked_typed (higher_of best (value it.shape)) others (higher_typed best (value it.shape) h)

-- the first by rank of typed candidates has a type, where there is a candidate
first_typed : (all : List Candidate) → AllTyped all → (all ≡ [] → ⊥) → Is (first_ranked all)
first_typed [] h some = absurd (some refl)
first_typed (it ∷ others) h some =
    ranked_typed (higher_of None (value it.shape)) others (higher_some None (value it.shape) (valued it.shape h.0))

-- typed candidates without the zeros among them are typed
no_zeros_typed : (all : List Candidate) → AllTyped all → AllTyped (no_zeros all)
no_zeros_typed [] h = tt
no_zeros_typed (it ∷ others) h = by it.is_zero (no_zeros_typed others h.1)
  where
    by : (b : Bool) → AllTyped (no_zeros others) → AllTyped (if b then no_zeros others else it ∷ no_zeros others)
    by true k = k
    by false k = (h.0, k)

or_all_typed : (xs ys : List Candidate) → AllTyped xs → AllTyped ys → AllTyped (or_all xs ys)
or_all_typed [] ys h k = k
or_all_typed (x ∷ xs) ys h k = h

or_all_some : (xs ys : List Candidate) → (ys ≡ [] → ⊥) → or_all xs ys ≡ [] → ⊥
or_all_some [] ys g = g
or_all_some (x ∷ xs) ys g = λ e. cc

some_is : (o : Option CType) → Is o → is_some o ≡ true
some_is None h = absurd cc
some_is (Some t) h = refl

-- typed candidates all have types, as the test of them says
have_all : (all : List Candidate) → AllTyped all → have_types all ≡ true
have_all [] h = refl
have_all (it ∷ others) h = and_from (is_some (value it.shape)) (have_types others)
    (some_is (value it.shape) (valued it.shape h.0)) (have_all others h.1)

typed_where : (b : Bool) (o : Option CType) → b ≡ true → Is o → Is (if b then o else None)
typed_where true o e h = h
typed_where false o e h = absurd cc

-- what is picked of typed candidates has a type, where there is a candidate
picked_typed : (all : List Candidate) → AllTyped all → (all ≡ [] → ⊥) → Is (pick_shape all).type
picked_typed [] h some = absurd (some refl)
picked_typed (it ∷ []) h some = h.0
picked_typed (it ∷ (other ∷ others)) h some =
    let all : List Candidate = it ∷ (other ∷ others) in
    typed_where (have_types all) (first_ranked (left_of all)) (have_all all h)
    (first_typed (left_of all) (or_all_typed (no_zeros all) all (no_zeros_typed all h) h)
    (or_all_some (no_zeros all) all some))

-- the candidates of a type are typed, where the associations are
of_type_typed : (t : CType) (all : List Association) → AssociationsTyped all → AllTyped (candidates_of t all)
of_type_typed t [] h = tt
of_type_typed t (it ∷ others) h = by (is_candidate t it.type) (of_type_typed t others h.1)
  where
    by : (b : Bool) → AllTyped (candidates_of t others) →
        AllTyped ((if b then it.candidate ∷ [] else []) ++ candidates_of t others)
    by true k = (h.0, k)
    by false k = k

all_typed : (all : List Association) → AssociationsTyped all → AllTyped (all_candidates all)
all_typed [] h = tt
all_typed (it ∷ others) h = (h.0, all_typed others h.1)

all_some : (all : List Association) → (all ≡ [] → ⊥) → all_candidates all ≡ [] → ⊥
all_some [] g = λ e. g refl
all_some (it ∷ others) g = λ e. cc

-- a selection by a known type among typed associations has a type, where there is one
selected_typed : (o : Option CType) (all : List Association) → Is o → AssociationsTyped all → (all ≡ [] → ⊥) →
    Is (selected_shape o all).type
selected_typed None all h k some = absurd cc
selected_typed (Some t) all h k some = picked_typed (selected t all)
    (or_all_typed (candidates_of t all) (all_candidates all) (of_type_typed t all k) (all_typed all k))
    (or_all_some (candidates_of t all) (all_candidates all) (all_some all some))

-- a call without a fault of what has a type has a type
called : (o : Option CType) (at : Place) (n : ℕ) → Is o → call_faults at o n ≡ [] → Is (some_result_type o)
called None at n h none = absurd cc
called (Some t) at n h none = by t (not-false (points_to_function t)
    (holds_where (not (points_to_function t)) at not_function (first_none _ _ none)))
  where
    by : (t : CType) → points_to_function t ≡ true → Is (result_type t)
    by (pointer ws (function vs ps r e)) p = (r, refl)
    by (pointer ws (base vs)) p = absurd cc
    by (pointer ws (void vs)) p = absurd cc
    by (pointer ws (struct vs n)) p = absurd cc
    by (pointer ws (pointer vs t)) p = absurd cc
    by (base ws) p = absurd cc
    by (void ws) p = absurd cc
    by (struct ws n) p = absurd cc
    by (function ws ps r e) p = absurd cc

-- a member that is not lacking, of what has a type, has a type
membered : (all : List Aggregate) (o : Option CType) (name : ℕ) → Is o → lacks_member all o name ≡ false →
    Is (member_type all o name)
membered all None name h p = absurd cc
membered all (Some t) name h p = by (member_of all t name) refl
  where
    by : (it : Option Known) → member_of all t name ≡ it → Is (known_type it)
    by None e = absurd cc
    by (Some it) e = (it.type, refl)

-- a selection has associations
some_associations : (u : Spelling) (s : Names) (xs : Assocs) → xs ≢ no_assocs → associations_of u s xs ≡ [] → ⊥
some_associations u s no_assocs g = λ e. g refl
some_associations u s (more_assocs (typed_assoc ws d colon e) xs) g = λ e. cc
some_associations u s (more_assocs (default_assoc keyword colon e) xs) g = λ e. cc

module _ (w : World) (U V W : ℕ → Type 0) where
  abbrev u : Spelling
  u = w.spelling

  abbrev s : Names
  s = w.names

  abbrev sh : Expr → Shape
  sh e = shape_of u s e

  abbrev Typed : Expr → Type 0
  Typed e = Is (shape_of u s e).type

  prefixed : (token : ℕ) (p : Punct) (e : Expr) → Typed e → prefix_faults (place u token) p (sh e) ≡ [] →
      Typed (prefix token p e)
  prefixed token signs.Ampersand e h none = addressed (sh e) h
      (not-false (sh e).is_place (holds_where (not (sh e).is_place) (place u token) not_place (first_none _ _ none)))
  prefixed token signs.Star e h none = pointed (value (sh e)) (valued (sh e) h)
      (holds_where (is_no_pointer (value (sh e))) (place u token) not_pointer none)
  prefixed token signs.PlusPlus e h none = valued (sh e) h
  prefixed token signs.MinusMinus e h none = valued (sh e) h
  prefixed token p e h none = (base [], refl)

  mutual
    pub typed : (e : Expr) → ExprHas (IsSettled w) U V W e → expr_faults u s e ≡ [] → Is (shape_of u s e).type
    typed (operation e comma token e2) k h =
        valued (sh e2) (typed e2 k.1.1.1 (last_none (expr_faults u s e) _ h))
    typed (operation e (assign p) token e2) k h = assigned (sh e) (place u token)
        (typed e k.1.0 (first_none (expr_faults u s e) _ (last_none (operator_faults u s (assign p) token (sh e)) _ h)))
        (first_none (operator_faults u s (assign p) token (sh e)) _ h)
    typed (operation e (cond no_expr colon) token e2) k h =
        chosen (is_zero u s e) (is_zero u s e2) (value (sh e)) (value (sh e2))
        (valued (sh e) (typed e k.1.0 (first_none (expr_faults u s e) _ h)))
        (valued (sh e2) (typed e2 k.1.1.1 (last_none (expr_faults u s e) _ h)))
    typed (operation e (cond (some_expr m) colon) token e2) k h =
        let behind = last_none (expr_faults u s e) _ h in
        chosen (is_zero u s m) (is_zero u s e2) (value (sh m)) (value (sh e2))
        (valued (sh m) (typed m k.1.1.0 (first_none (expr_faults u s m) _ behind)))
        (valued (sh e2) (typed e2 k.1.1.1 (last_none (expr_faults u s m) _ behind)))
    typed (operation e (binary p) token e2) k h =
        computed p (value (sh e)) (value (sh e2))
        (valued (sh e) (typed e k.1.0 (first_none (expr_faults u s e) _ h)))
        (valued (sh e2) (typed e2 k.1.1.1 (last_none (expr_faults u s e) _ h)))
    typed (cast opening ws d closing e) k h = k.0.0
    typed (prefix token p e) k h = prefixed token p e
        (typed e k.1 (last_none (prefix_faults (place u token) p (sh e)) _ h))
        (first_none (prefix_faults (place u token) p (sh e)) _ h)
    typed (sizeof_value word e) k h = (base [], refl)
    typed (sizeof_type word opening ws d closing) k h = (base [], refl)
    typed (extension keyword e) k h = typed e k.1 h
    typed (index e opening e2 closing) k h =
        let behind = last_none (index_faults_at u.wide (place u opening) (sh e) (sh e2)) _ h in
        let one = typed e k.1.0 (first_none (expr_faults u s e) _ behind) in
        indexed_any u.wide (sh e) (sh e2) one (valued (sh e) one)
        (valued (sh e2) (typed e2 k.1.1 (last_none (expr_faults u s e) _ behind)))
        (holds_where _ (place u opening) not_pointer
        (first_none (index_faults_at u.wide (place u opening) (sh e) (sh e2)) _ h))
    typed (call e opening es closing) k h =
        called (value (sh e)) (place u opening) (count es)
        (valued (sh e) (typed e k.1.0 (first_none (expr_faults u s e) _
        (last_none (call_faults (place u opening) (value (sh e)) (count es)) _ h))))
        (first_none (call_faults (place u opening) (value (sh e)) (count es)) _ h)
    typed (dot e token name) k h =
        membered s.aggregates (value (sh e)) (u.key name.name)
        (valued (sh e) (typed e k.1 (last_none (member_faults u s (value (sh e)) name.token name.name) _ h)))
        (holds_where _ (place u name.token) no_member
        (first_none (member_faults u s (value (sh e)) name.token name.name) _ h))
    typed (arrow e token name) k h =
        let no_pointers = fault_where (is_no_pointer (value (sh e))) (place u token) not_pointer in
        let members = member_faults u s (some_target (value (sh e))) name.token name.name in
        let behind = last_none no_pointers _ h in
        membered s.aggregates (some_target (value (sh e))) (u.key name.name)
        (pointed (value (sh e)) (valued (sh e) (typed e k.1 (last_none members _ behind)))
        (holds_where _ (place u token) not_pointer (first_none no_pointers _ h)))
        (holds_where _ (place u name.token) no_member (first_none members _ behind))
    typed (post e token p) k h =
        valued (sh e) (typed e k.1 (last_none (fault_where (not (sh e).is_place) (place u token) not_place) _ h))
    typed (compound opening ws d closing list) k h = k.0.0
    typed (name_use token name) k h = k.0
    typed (number_use token) k h = (base [], refl)
    typed (char_use token) k h = (base [], refl)
    typed (text_use texts) k h = (_, refl)
    typed (paren opening e closing) k h = typed e k.1 h
    typed (statement_expr opening opening2 items closing closing2) k h = items_typed items k.1 h
    typed (va_arg keyword opening e separator ws d closing) k h = k.0.0
    typed (va_start keyword opening e separator e2 closing) k h = (void [], refl)
    typed (va_copy keyword opening e separator e2 closing) k h = (void [], refl)
    typed (offset keyword opening ws d separator name steps closing) k h = (base [], refl)
    typed (complex_part keyword e) k h = typed e k.1 h
    typed (label_use token name) k h = (_, refl)
    typed (compat keyword opening ws d separator ws2 d2 closing) k h = (base [], refl)
    typed (choose keyword opening e separator e2 separator2 e3 closing) k h =
        let behind = last_none (expr_faults u s e) _ h in
        picked_typed (candidate_of u s e2 ∷ (candidate_of u s e3 ∷ [])) (
          typed e2 k.1.0 (first_none (expr_faults u s e2) _ behind),
          (typed e3 k.1.1 (last_none (expr_faults u s e2) _ behind), tt),
        ) (λ e. cc)
    typed (generic keyword opening e xs closing) k h =
        selected_typed (value (sh e)) (associations_of u s xs)
        (valued (sh e) (k.0.1.0 (first_none (expr_faults u s e) _ h)))
        (assocs_typed xs k.1 (last_none (expr_faults u s e) _ h)) (some_associations u s xs k.0.0)

    assocs_typed : (xs : Assocs) → AssocsHave (IsSettled w) U V W xs → assocs_faults u s xs ≡ [] →
        AssociationsTyped (associations_of u s xs)
    assocs_typed no_assocs k h = tt
    assocs_typed (more_assocs (typed_assoc ws d colon e) xs) k h =
        let one = first_none (assoc_faults u s (typed_assoc ws d colon e)) _ h in (
          typed e k.0.1.1 (last_none (some_declr_faults u s d) _ (last_none (words_faults u s ws) _ one)),
          assocs_typed xs k.1 (last_none (assoc_faults u s (typed_assoc ws d colon e)) _ h),
        )
    assocs_typed (more_assocs (default_assoc keyword colon e) xs) k h = (
      typed e k.0 (first_none (expr_faults u s e) _ h),
      assocs_typed xs k.1 (last_none (expr_faults u s e) _ h),
    )

    items_typed : (items : BlockItems) → BlockItemsHave (IsSettled w) U V W items → block_items_faults u s items ≡ [] →
        Is (items_value u s items)
    items_typed no_block_items k h = (void [], refl)
    items_typed (more_block_items item no_block_items) k h =
        item_typed item k.0 (first_none (block_item_faults u s item) _ h)
    items_typed (more_block_items item (more_block_items item2 items)) k h =
        items_typed (more_block_items item2 items) k.1 (last_none (block_item_faults u s item) _ h)

    item_typed : (item : BlockItem) → BlockItemHas (IsSettled w) U V W item → block_item_faults u s item ≡ [] →
        Is (item_value u s item)
    item_typed (block_decl d) k h = (void [], refl)
    item_typed (block_stmt t) k h = stmt_typed t k h
    item_typed (block_labels keyword names semi) k h = (void [], refl)

    stmt_typed : (t : Stmt) → StmtHas (IsSettled w) U V W t → stmt_faults u s t ≡ [] → Is (stmt_value u s t)
    stmt_typed (expr_stmt (some_expr e) semi) k h = valued (sh e) (typed e k h)
    stmt_typed (expr_stmt no_expr semi) k h = (void [], refl)
    stmt_typed (block opening items closing) k h = (void [], refl)
    stmt_typed (attr_stmt attrs semi) k h = (void [], refl)
    stmt_typed (label name colon attrs t) k h = (void [], refl)
    stmt_typed (case_stmt keyword e colon t) k h = (void [], refl)
    stmt_typed (default_stmt keyword colon t) k h = (void [], refl)
    stmt_typed (if_stmt keyword opening e closing t other) k h = (void [], refl)
    stmt_typed (switch_stmt keyword opening e closing t) k h = (void [], refl)
    stmt_typed (while_stmt keyword opening e closing t) k h = (void [], refl)
    stmt_typed (do_stmt keyword t keyword2 opening e closing semi) k h = (void [], refl)
    stmt_typed (for_stmt keyword opening start e semi e2 closing t) k h = (void [], refl)
    stmt_typed (goto_stmt keyword name semi) k h = (void [], refl)
    stmt_typed (continue_stmt keyword semi) k h = (void [], refl)
    stmt_typed (break_stmt keyword semi) k h = (void [], refl)
    stmt_typed (return_stmt keyword e semi) k h = (void [], refl)
    stmt_typed (asm_stmt keyword words group semi) k h = (void [], refl)
    stmt_typed (case_range keyword e dots e2 colon t) k h = (void [], refl)
    stmt_typed (goto_value keyword star e semi) k h = (void [], refl)
