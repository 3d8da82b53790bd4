-- Where the skeletons of an op begin, and to whom they belong.
use Rattle.std.proofs.Common.{◌≡◌, inl, inr, ℕ, Bool, true, false, List, [], ◌∷◌, ◌++◌, Option, None, Some, refl, sym, ◌∙◌, ap, subst, append_assoc}
use Rattle.std.specs.Prelude.{not, ◌&&◌, if◌then◌else◌}
use Rattle.c_words.specs.declared.kinds.Punct.{Punct}
use Rattle.c_words.specs.declared.kinds.Punct.TheVariants as signs
use Rattle.tape_ops.specs.declared.op.Op.{Op}
use Rattle.tape_ops.specs.declared.op.Op.TheVariants as ops
use Rattle.tape_ops.specs.declared.expression.ExprOp.{ExprOp}
use Rattle.tape_ops.specs.declared.expression.ExprOp.TheVariants as exprs
use Rattle.tape_ops.specs.declared.form.FormOp.{FormOp}
use Rattle.tape_ops.specs.declared.form.FormOp.TheVariants as forms
use Rattle.tape_ops.specs.declared.initialiser.InitOp.{InitOp}
use Rattle.tape_ops.specs.declared.initialiser.InitOp.TheVariants as inits
use Rattle.tape_ops.specs.declared.specifier.SpecOp.{SpecOp}
use Rattle.tape_ops.specs.declared.specifier.SpecOp.TheVariants as specs
use Rattle.tape_ops.specs.declared.declarator.DeclrOp.{DeclrOp}
use Rattle.tape_ops.specs.declared.declarator.DeclrOp.TheVariants as declrs
use Rattle.type_table.specs.Types.{CType, base, void, pointer}
use Rattle.name_rules.specs.Spellings.{Spelling, Place, place}
use Rattle.name_rules.specs.Scopes.{Role, typedef_role, object_role, function_role, parameter_role, field_role, enumerator_role, Declared, declared_at, Use, means, called, missing, Names, is_place}
use Rattle.name_rules.specs.Linking.{link_of}
use Rattle.name_rules.specs.Uses.{use_at, text_type}
use Rattle.name_rules.specs.Values.{undeclared_function, Shape, address, pick_shape, is_fresh_pick}
use Rattle.name_rules.specs.ShapeSteps.State.{State, value_at, is_zero_at, type_at, shape_at, type_of_operand, first_operand, operands_below}
use Rattle.name_rules.specs.ShapeSteps.Steps.{chosen, step, expr_step}
use Rattle.row_rules.specs.Starting.{Start, Around, fresh, some_fresh, owner_there, named_start, declared_start, some_declared_start, name_start, instance, use_by_role, some_use_start, use_start, some_place, is_some_pointer, is_fresh_binary, is_fresh_prefix, prefix_starts, fresh_where, Having, with_skeleton, of_function, without_skeleton, had_name}
use Rattle.row_rules.specs.Sites.{AreDifferent, has_place}
use Rattle.row_rules.specs.RowSteps.Rounds.{Naming, a_name, own_param, other_param, identified_param, Rounds, naming, left, round_step}
use Rattle.row_rules.specs.RowSteps.Starting.{function_at, around, naming_has, selected_among, expr_op_starts, form_op_starts, init_op_starts, spec_op_starts, declr_op_starts, op_starts, starts_found}
use Rattle.owned_laws.specs.OwnerLaws.Fitting.{start_at}
use Rattle.owned_laws.specs.Contexts.{NamingIsOf, BodyIsOf}
use Rattle.owned_laws.specs.Around.{BeginsIn, IsOwn}
use Rattle.row_laws.specs.KeyLaws.Keys.{expr_key, fresh_key, spec_key, declr_key, op_key, key_place, key_places, KeyIsApart}
use Rattle.expr_types.specs.Keys.{form_key, init_key}
use Rattle.owned_laws.proofs.ScopeLaws.Places.{declared_place, has_not_right, has_not_left, has_left, has_itself, differ_right, differ_before}
use Rattle.owned_laws.proofs.Places.{none_before, none_behind, Kept, none_kept, joined_kept, OneAt, one_kept}

-- at most one, at the place and of the owner
abbrev pub FreshAt : Place → Option Place → List Start → Type 0
FreshAt p e [] = Unit {0}
FreshAt p e (x ∷ []) = (x.at ≡ p) × (x.owner ≡ e)
FreshAt p e (x ∷ (y ∷ xs)) = ⊥

-- at most one, of what is declared at the place, with this function around it
abbrev pub NamedAt : Names → Place → Option Place → List Start → Type 0
NamedAt s p g [] = Unit {0}
NamedAt s p g (x ∷ []) =
    (x.at ≡ p) × (d : Declared) × (declared_at s.declared p ≡ Some d) × (x.owner ≡ owner_there s g d)
NamedAt s p g (x ∷ (y ∷ xs)) = ⊥

-- what begins fresh at a place is at most one skeleton, at that place
fresh_one : (p : Place) (e : Option Place) (xs : List Start) → FreshAt p e xs → OneAt p xs
fresh_one p e [] h = tt
fresh_one p e (x ∷ []) h = h.0
fresh_one p e (x ∷ (y ∷ xs)) h = h

-- what begins at a place for a declared name is at most one skeleton, at that place
named_one : (s : Names) (p : Place) (g : Option Place) (xs : List Start) → NamedAt s p g xs → OneAt p xs
named_one s p g [] h = tt
named_one s p g (x ∷ []) h = h.0
named_one s p g (x ∷ (y ∷ xs)) h = h

-- a fresh skeleton at any place is of the function where its owner is that function or nobody
pub fresh_begins : (p : Place) (e f : Option Place) (xs : List Start) → IsOwn f e → FreshAt p e xs → BeginsIn xs f p
fresh_begins p e f [] own h it is = absurd cc
fresh_begins p e f (x ∷ []) own h it is = by (is_place x.at p) is
  where
    by : (b : Bool) → (if b then Some x else None) ≡ Some it → IsOwn f it.owner
    by true is =
        let same : x ≡ it = cc in
        subst (λ (o : Option Place). IsOwn f o) (sym h.1 ∙ ap (λ (y : Start). y.owner) same) own
    by false is = absurd cc
fresh_begins p e f (x ∷ (y ∷ xs)) own h it is = absurd h

-- In an item of the function: what begins where a name is declared belongs where that does, with the function or
-- nothing around it; what is fresh is the function's or nobody's.
pub record IsPlaced (s : Names) (f : Option Place) (x : Start) : Type 0 where
  pub named : (d : Declared) → declared_at s.declared x.at ≡ Some d →
      (g : Option Place) × IsOwn f g × (x.owner ≡ owner_there s g d)
  pub fresh : declared_at s.declared x.at ≡ None → IsOwn f x.owner

abbrev pub AllPlaced : Names → Option Place → List Start → Type 0
AllPlaced s f [] = Unit {0}
AllPlaced s f (x ∷ xs) = IsPlaced s f x × AllPlaced s f xs

pub placed_joined : (s : Names) (f : Option Place) (xs ys : List Start) → AllPlaced s f xs → AllPlaced s f ys →
    AllPlaced s f (xs ++ ys)
placed_joined s f [] ys h k = k
placed_joined s f (x ∷ xs) ys h k = (h.0, placed_joined s f xs ys h.1 k)

-- fresh skeletons are placed in the function where no name is declared at their place and the function or nobody owns
-- them
fresh_placed : (s : Names) (p : Place) (e f : Option Place) (xs : List Start) → declared_at s.declared p ≡ None →
    IsOwn f e → FreshAt p e xs → AllPlaced s f xs
fresh_placed s p e f [] none own h = tt
fresh_placed s p e f (x ∷ []) none own h = (
  record {
    named = λ d is. let at_p : declared_at s.declared p ≡ Some d =
        subst (λ (q : Place). declared_at s.declared q ≡ Some d) h.0 is in absurd cc;
    fresh = λ is. subst (IsOwn f) (sym h.1) own;
  },
  tt,
)
fresh_placed s p e f (x ∷ (y ∷ xs)) none own h = absurd h

-- skeletons of declared names are placed in the function where it, or nothing, is around their declaration
named_placed : (s : Names) (p : Place) (g f : Option Place) (xs : List Start) → IsOwn f g → NamedAt s p g xs →
    AllPlaced s f xs
named_placed s p g f [] own h = tt
named_placed s p g f (x ∷ []) own h = (
  record {
    named = λ d is. let at_p : declared_at s.declared p ≡ Some d =
        subst (λ (q : Place). declared_at s.declared q ≡ Some d) h.0 is in
        let same : h.1 ≡ d = found h.1 d (sym h.2 ∙ at_p) in
        (g, own, h.3 ∙ ap (owner_there s g) same);
    fresh = λ is. let none : declared_at s.declared p ≡ None =
        subst (λ (q : Place). declared_at s.declared q ≡ None) h.0 is in absurd cc;
  },
  tt,
)
  where
    found : (c d : Declared) → Some c ≡ Some d → c ≡ d
    found c d e = cc
named_placed s p g f (x ∷ (y ∷ xs)) own h = absurd h

-- the first of placed skeletons that begins at a place is placed
pub placed_at : (s : Names) (f : Option Place) (xs : List Start) (p : Place) (it : Start) → AllPlaced s f xs →
    start_at xs p ≡ Some it → IsPlaced s f it
placed_at s f [] p it h is = absurd cc
placed_at s f (x ∷ xs) p it h is = by (is_place x.at p) is (placed_at s f xs p it h.1)
  where
    by : (b : Bool) → (if b then Some x else start_at xs p) ≡ Some it →
        (start_at xs p ≡ Some it → IsPlaced s f it) → IsPlaced s f it
    by true is more = let same : x ≡ it = cc in subst (IsPlaced s f) same h.0
    by false is more = more is

-- fresh skeletons

module _ (a : Around) (token : ℕ) where
  abbrev here : Place
  here = place a.spelling token

  abbrev pub Fresh : List Start → Type 0
  Fresh xs = FreshAt here a.enclosing xs

  pub fresh_is : (t : CType) → Fresh (fresh a token t)
  fresh_is t = by a.is_quiet
    where
      by : (b : Bool) → Fresh (if b then [] else
          record { at = place a.spelling token; type = t; owner = a.enclosing; calls = None } ∷ [])
      by true = tt
      by false = (refl, refl)

  pub some_fresh_is : (t : Option CType) → Fresh (some_fresh a token t)
  some_fresh_is None = tt
  some_fresh_is (Some t) = fresh_is t

  pub where_is : (b : Bool) (xs : List Start) → Fresh xs → Fresh (fresh_where b xs)
  where_is true xs h = h
  where_is false xs h = tt

  pub prefix_is : (sign : Punct) (carries : Bool) (e : Shape) → Fresh (prefix_starts sign carries a token e)
  prefix_is signs.Ampersand carries e = where_is carries _ (some_fresh_is (address e))
  prefix_is sign carries e = where_is (is_fresh_prefix sign) _ (fresh_is (base []))

  pub instance_is : (p : Place) (t : CType) → Fresh (instance a token p t)
  instance_is p t = by a.is_quiet
    where
      by : (b : Bool) → Fresh (if b then [] else
          record {
            at = place a.spelling token;
            type = pointer [] t;
            owner = a.enclosing;
            calls = Some (link_of a.names p);
          } ∷ [])
      by true = tt
      by false = (refl, refl)

  role_is : (d : Declared) (role : Role) → Fresh (use_by_role a token d role)
  role_is d typedef_role = tt
  role_is d object_role = tt
  role_is d function_role = instance_is d.at d.type
  role_is d (parameter_role i) = tt
  role_is d (field_role n i) = tt
  role_is d enumerator_role = fresh_is (base [])

  some_use_is : (d : Option Declared) → Fresh (some_use_start a token d)
  some_use_is None = tt
  some_use_is (Some d) = role_is d d.role

  pub use_is : (it : Use) → Fresh (use_start a token it)
  use_is (means p) = some_use_is (declared_at a.names.declared p)
  use_is called = fresh_is (pointer [] undeclared_function)
  use_is missing = tt

  -- names that are declared

  named : (g : Option Place) (d : Declared) → declared_at a.names.declared here ≡ Some d →
      NamedAt a.names here g (named_start a.names g d)
  named g d e = (declared_place a.names.declared here d e, d, e, refl)

  declared_is : (g : Option Place) (d : Declared) → declared_at a.names.declared here ≡ Some d → (role : Role) →
      NamedAt a.names here g (declared_start a.names g d role)
  declared_is g d e typedef_role = tt
  declared_is g d e enumerator_role = tt
  declared_is g d e object_role = named g d e
  declared_is g d e function_role = named g d e
  declared_is g d e (parameter_role i) = named g d e
  declared_is g d e (field_role n i) = named g d e

  some_declared_is : (g : Option Place) (d : Option Declared) → declared_at a.names.declared here ≡ d →
      NamedAt a.names here g (some_declared_start a.names g d)
  some_declared_is g None e = tt
  some_declared_is g (Some d) e = declared_is g d e d.role

  pub name_is : NamedAt a.names here a.enclosing (name_start a token)
  name_is = some_declared_is a.enclosing (declared_at a.names.declared here) refl

  -- the function around the name
  abbrev pub around_name : Having → Option Place
  around_name with_skeleton = a.enclosing
  around_name (of_function f) = f
  around_name without_skeleton = None

  pub had_is : (h : Having) → NamedAt a.names here (around_name h) (had_name h a token)
  had_is with_skeleton = name_is
  had_is (of_function f) = some_declared_is f (declared_at a.names.declared here) refl
  had_is without_skeleton = tt

-- by each op

module _ (u : Spelling) (s : Names) (st : State) (r : Rounds) where
  abbrev pub FreshOf : Option ℕ → List Start → Type 0
  FreshOf None xs = xs ≡ []
  FreshOf (Some token) xs = FreshAt (place u token) (function_at u s r.body) xs

  pub expr_is : (op : ExprOp) → FreshOf (expr_key op) (expr_op_starts u s st r op)
  expr_is (exprs.Name is_called token name) = use_is (around u s r) token (use_at s.uses (place u token))
  expr_is (exprs.Number token) = fresh_is (around u s r) token (base [])
  expr_is (exprs.Char token) = fresh_is (around u s r) token (base [])
  expr_is (exprs.Text token) = fresh_is (around u s r) token (pointer [] text_type)
  expr_is (exprs.Cond has_middle token first last) =
      where_is (around u s r) token (not (is_zero_at 1 st) && not (is_zero_at 0 st)) _
      (some_fresh_is (around u s r) token
      (shape_at 0 (expr_step u s st (exprs.Cond has_middle token first last))).type)
  expr_is (exprs.Binary sign token first last) =
      where_is (around u s r) token
      (is_fresh_binary sign (is_some_pointer (value_at 1 st)) (is_some_pointer (value_at 0 st))) _
      (fresh_is (around u s r) token (base []))
  expr_is (exprs.Prefix sign token last aims) = prefix_is (around u s r) token sign (aims && r.access) (shape_at 0 st)
  expr_is (exprs.Label token) = fresh_is (around u s r) token (pointer [] (void []))
  expr_is op = refl

  pub form_is : (op : FormOp) → FreshOf (form_key op) (form_op_starts u s st r op)
  form_is (forms.Cast token last) = some_fresh_is (around u s r) token (type_at 1 st)
  form_is (forms.Sizeof token) = fresh_is (around u s (left r)) token (base [])
  form_is (forms.StmtExpr has_value token) =
      where_is (around u s r) token (not has_value) _ (fresh_is (around u s r) token (void []))
  form_is (forms.VaArg token last) = some_fresh_is (around u s r) token (type_at 0 st)
  form_is (forms.VaStart token last) = fresh_is (around u s r) token (void [])
  form_is (forms.VaCopy token last) = fresh_is (around u s r) token (void [])
  form_is (forms.OffsetMember token name) = refl
  form_is (forms.OffsetIndex token) = refl
  form_is (forms.Offset token) = fresh_is (around u s (left r)) token (base [])
  form_is (forms.Compat token) = fresh_is (around u s (left r)) token (base [])
  form_is forms.Control = refl
  form_is forms.NoType = refl
  form_is (forms.Choose token) =
      where_is (around u s r) token (is_fresh_pick (chosen st)) _
      (some_fresh_is (around u s r) token (pick_shape (chosen st)).type)
  form_is (forms.Generic token count) =
      where_is (around u s r) token (is_fresh_pick (selected_among count st)) _
      (some_fresh_is (around u s r) token (pick_shape (selected_among count st)).type)

  pub init_is : (op : InitOp) → FreshOf (init_key op) (init_op_starts u s st r op)
  init_is (inits.Literal token) =
      some_fresh_is (around u s r) token (some_place (type_of_operand (first_operand (operands_below st))))
  init_is op = refl

  abbrev NamedOf : Option ℕ → Option Place → List Start → Type 0
  NamedOf None g xs = xs ≡ []
  NamedOf (Some token) g xs = NamedAt s (place u token) g xs

  -- the function around the name that a declarator has
  abbrev around_declared : DeclrOp → Option Place
  around_declared (declrs.DeclName token name) = around_name (around u s r) token (naming_has u s (naming r))
  around_declared op = None

  spec_is : (op : SpecOp) → NamedOf (spec_key op) (function_at u s r.body) (spec_op_starts u s r op)
  spec_is (specs.Enumerator token name) = tt
  spec_is (specs.UnnamedMember token) = name_is (around u s r) token
  spec_is op = refl

  declr_is : (op : DeclrOp) → NamedOf (declr_key op) (around_declared op) (declr_op_starts u s r op)
  declr_is (declrs.DeclName token name) = had_is (around u s r) token (naming_has u s (naming r))
  declr_is op = refl

  fresh_kept : (key : Option ℕ) (xs : List Start) → FreshOf key xs → Kept (key_place u key) xs
  fresh_kept None xs h = subst (Kept []) (sym h) none_kept
  fresh_kept (Some token) xs h =
      one_kept (place u token) xs (fresh_one (place u token) (function_at u s r.body) xs h)

  named_kept : (key : Option ℕ) (g : Option Place) (xs : List Start) → NamedOf key g xs → Kept (key_place u key) xs
  named_kept None g xs h = subst (Kept []) (sym h) none_kept
  named_kept (Some token) g xs h = one_kept (place u token) xs (named_one s (place u token) g xs h)

  op_kept : (op : Op) → Kept (key_place u (op_key op)) (op_starts u s st r op)
  op_kept (ops.Expr op) = fresh_kept (expr_key op) (expr_op_starts u s st r op) (expr_is op)
  op_kept (ops.Form op) = fresh_kept (form_key op) (form_op_starts u s st r op) (form_is op)
  op_kept (ops.Init op) = fresh_kept (init_key op) (init_op_starts u s st r op) (init_is op)
  op_kept (ops.Spec op) = named_kept (spec_key op) (function_at u s r.body) (spec_op_starts u s r op) (spec_is op)
  op_kept (ops.Declr op) = named_kept (declr_key op) (around_declared op) (declr_op_starts u s r op) (declr_is op)
  op_kept (ops.Stmt op) = none_kept

  -- where own parameters and the body are those of the function whose name is at the token

  module _ (t : Option ℕ) (own_params : NamingIsOf t (naming r)) (own_body : BodyIsOf t r.body) where
    abbrev f : Option Place
    f = function_at u s t

    body_own : BodyIsOf t r.body → IsOwn f (function_at u s r.body)
    body_own (inl e) = inl (ap (function_at u s) e)
    body_own (inr e) = inr (ap (function_at u s) e)

    naming_own : (token : ℕ) (it : Naming) → NamingIsOf t it
        → IsOwn f (around_name (around u s r) token (naming_has u s it))
    naming_own token a_name e = body_own own_body
    naming_own token (own_param g n) e = inr (ap (function_at u s) e)
    naming_own token other_param e = inl refl
    naming_own token (identified_param g) e = inr (ap (function_at u s) e)

    fresh_all : (key : Option ℕ) (xs : List Start) → KeyIsApart u s key → FreshOf key xs → AllPlaced s f xs
    fresh_all None xs apart h = subst (AllPlaced s f) (sym h) tt
    fresh_all (Some token) xs apart h =
        fresh_placed s (place u token) (function_at u s r.body) f xs apart (body_own own_body) h

    named_all : (key : Option ℕ) (g : Option Place) (xs : List Start) → IsOwn f g → NamedOf key g xs → AllPlaced s f xs
    named_all None g xs own h = subst (AllPlaced s f) (sym h) tt
    named_all (Some token) g xs own h = named_placed s (place u token) g f xs own h

    declared_own : (op : DeclrOp) → IsOwn f (around_declared op)
    declared_own (declrs.DeclName token name) = naming_own token (naming r) own_params
    declared_own op = inl refl

    pub op_placed : (op : Op) → KeyIsApart u s (fresh_key op) → AllPlaced s f (op_starts u s st r op)
    op_placed (ops.Expr op) apart = fresh_all (expr_key op) (expr_op_starts u s st r op) apart (expr_is op)
    op_placed (ops.Form op) apart = fresh_all (form_key op) (form_op_starts u s st r op) apart (form_is op)
    op_placed (ops.Init op) apart = fresh_all (init_key op) (init_op_starts u s st r op) apart (init_is op)
    op_placed (ops.Spec op) apart =
        named_all (spec_key op) (function_at u s r.body) (spec_op_starts u s r op) (body_own own_body) (spec_is op)
    op_placed (ops.Declr op) apart =
        named_all (declr_key op) (around_declared op) (declr_op_starts u s r op) (declared_own op) (declr_is op)
    op_placed (ops.Stmt op) apart = tt

pub regroup : {A : Type 0} → (a b c d : List A) → (a ++ b) ++ (c ++ d) ≡ a ++ ((b ++ c) ++ d)
regroup {A} a b c d = append_assoc a b (c ++ d) ∙ ap (λ (xs : List A). a ++ xs) (sym (append_assoc b c d))

-- along a tape

module _ (u : Spelling) (s : Names) where
  pub tape_kept : (tape : List Op) (st : State) (r : Rounds) → Kept (key_places u tape) (starts_found u s st r tape)
  tape_kept [] st r = none_kept
  tape_kept (op ∷ tape) st r =
      joined_kept (key_place u (op_key op)) (key_places u tape) (op_starts u s st r op)
      (starts_found u s (step u s st op) (round_step st.declarations r op) tape) (op_kept u s st r op)
      (tape_kept tape (step u s st op) (round_step st.declarations r op))

  -- at its token there is no skeleton but that of the op
  abbrev pub IsExact : List Start → Option ℕ → List Start → Type 0
  IsExact starts None xs = Unit {0}
  IsExact starts (Some token) xs = start_at starts (place u token) ≡ start_at xs (place u token)

  abbrev pub ExactAlong : List Start → State → Rounds → List Op → Type 0
  ExactAlong starts st r [] = Unit {0}
  ExactAlong starts st r (op ∷ tape) =
      IsExact starts (op_key op) (op_starts u s st r op)
      × ExactAlong starts (step u s st op) (round_step st.declarations r op) tape

  exact_one : (key : Option ℕ) (xs o rest zs : List Start) (ps qs rs : List Place) → Kept ps xs → Kept qs rest →
      Kept rs zs → AreDifferent (ps ++ ((key_place u key ++ qs) ++ rs)) →
      IsExact (xs ++ ((o ++ rest) ++ zs)) key o
  exact_one None xs o rest zs ps qs rs h k l d = tt
  exact_one (Some token) xs o rest zs ps qs rs h k l d =
      none_before xs ((o ++ rest) ++ zs) p (h.begins p (differ_before ps ((p ∷ qs) ++ rs) p d
      (has_left (p ∷ qs) rs p (has_itself p qs))))
      ∙ none_behind (o ++ rest) zs p (l.begins p (has_not_right qs rs p behind))
      ∙ none_behind o rest p (k.begins p (has_not_left qs rs p behind))
    where
      p : Place
      p = place u token

      behind : has_place (qs ++ rs) p ≡ false
      behind = (differ_right ps ((p ∷ qs) ++ rs) d).0

  pub exact : (tape : List Op) (st : State) (r : Rounds) (xs zs : List Start) (ps rs : List Place) → Kept ps xs →
      Kept rs zs → AreDifferent (ps ++ (key_places u tape ++ rs)) →
      ExactAlong (xs ++ (starts_found u s st r tape ++ zs)) st r tape
  exact [] st r xs zs ps rs h l d = tt
  exact (op ∷ tape) st r xs zs ps rs h l d = (
    exact_one (op_key op) xs o rest zs ps (key_places u tape) rs h (tape_kept tape next around_) l d,
    subst (λ (starts : List Start). ExactAlong starts next around_ tape) (regroup xs o rest zs)
        (exact tape next around_ (xs ++ o) zs (ps ++ key) rs (joined_kept ps key xs o h (op_kept u s st r op)) l
        (subst AreDifferent (sym (regroup ps key (key_places u tape) rs)) d)),
  )
    where
      o : List Start
      o = op_starts u s st r op

      next : State
      next = step u s st op

      around_ : Rounds
      around_ = round_step st.declarations r op

      rest : List Start
      rest = starts_found u s next around_ tape

      key : List Place
      key = key_place u (op_key op)
