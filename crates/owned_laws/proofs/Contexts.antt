-- Along the tape of an item, own parameters and the body are those of the item's function.
use Rattle.std.specs.Prelude.{if◌then◌else◌}
use Rattle.std.proofs.Common.{◌≡◌, ℕ, Bool, true, false, List, [], ◌∷◌, Option, None, Some, refl, sym, ◌∙◌, ap, subst, inl, inr}
use Rattle.tape_ops.specs.declared.op.Op.{Op}
use Rattle.tape_ops.specs.declared.op.Op.TheVariants as ops
use Rattle.tape_ops.specs.declared.form.FormOp.{FormOp}
use Rattle.tape_ops.specs.declared.form.FormOp.TheVariants as forms
use Rattle.tape_ops.specs.declared.specifier.SpecOp.{SpecOp}
use Rattle.tape_ops.specs.declared.specifier.SpecOp.TheVariants as specs
use Rattle.tape_ops.specs.declared.declarator.DeclrOp.{DeclrOp}
use Rattle.tape_ops.specs.declared.declarator.DeclrOp.TheVariants as declrs
use Rattle.tape_ops.specs.declared.statement.StmtOp.{StmtOp}
use Rattle.tape_ops.specs.declared.statement.StmtOp.TheVariants as stmts
use Rattle.c_tape.specs.Tape.{item_tape}
use Rattle.name_rules.specs.ShapeSteps.State.{OpenDeclaration, declared_last, with_name, with_declared, without_name, without_innermost, changed}
use Rattle.row_rules.specs.Worlds.{World}
use Rattle.row_rules.specs.RowSteps.Rounds.{Naming, a_name, own_param, other_param, identified_param, Round, Rounds}
use Rattle.row_rules.specs.RowSteps.Rounds as rounds
use Rattle.row_rules.specs.RowSteps.State.{State, nothing}
use Rattle.row_rules.specs.RowSteps.Steps.{step}
use Rattle.owned_laws.specs.TapeLaws.Marks.{Mark, in_declaration, in_params, in_tag, in_scope, in_quiet, in_part, in_body, is_open, turn, IsBracketed, function_token, ItemsAreBracketed}
use Rattle.owned_laws.specs.Contexts.{NamingIsOf, BodyIsOf, BeginsIts, ContextsAlong, ContextsAreIts}
use Rattle.owned_laws.proofs.Opening.{opens, row_opens, form_body, spec_body, declr_body}
use Rattle.owned_laws.proofs.TapeLaws.Turns.{Declaring, quiet_was, tag_was, scope_was, declaration_was, params_were, named_was, begun_was, param_was, declared_was, member_was, body_begins, body_was, part_was, identified_was, old_was, auto_was}

-- what marks say of the open declarations and of what is around

-- a name of which there may be a skeleton
abbrev pub HasSome : Naming → Type 0
HasSome a_name = Unit {0}
HasSome (own_param g n) = Unit {0}
HasSome other_param = ⊥
HasSome (identified_param g) = Unit {0}

-- so are own parameters
abbrev IsOwnOf : Bool → Naming → Type 0
IsOwnOf true names = HasSome names
IsOwnOf false names = Unit {0}

-- where a declaration may declare, or among own parameters
abbrev pub may_declare : List Mark → Bool
may_declare (in_params own ∷ m) = own
may_declare m = is_open m

module _ (t : Option ℕ) where
  -- the marks of declarations have their names; own parameters are those of the function whose name is at `t`
  abbrev pub Aligned : List Mark → List OpenDeclaration → List Round → Type 0
  Aligned [] ds rs = rs ≡ []
  Aligned (in_declaration x d o ∷ m) [] rs = ⊥
  Aligned (in_declaration x d o ∷ m) (it ∷ ds) rs = (it.name ≡ x) × (it.declared ≡ d) × Aligned m ds rs
  Aligned (in_params own ∷ m) ds [] = ⊥
  Aligned (in_params own ∷ m) ds (r ∷ rs) = (NamingIsOf t r.naming × IsOwnOf own r.naming) × Aligned m ds rs
  Aligned (in_tag ∷ m) ds [] = ⊥
  Aligned (in_tag ∷ m) ds (r ∷ rs) = (r.naming ≡ a_name) × Aligned m ds rs
  Aligned (in_scope ∷ m) ds [] = ⊥
  Aligned (in_scope ∷ m) ds (r ∷ rs) = (r.naming ≡ a_name) × Aligned m ds rs
  Aligned (in_quiet ∷ m) ds [] = ⊥
  Aligned (in_quiet ∷ m) ds (r ∷ rs) = (r.naming ≡ a_name) × Aligned m ds rs
  Aligned (in_part ∷ m) ds rs = Aligned m ds rs
  Aligned (in_body ∷ m) ds rs = ((rounds.innermost rs).naming ≡ a_name) × Aligned m ds rs

  name_is_of : (names : Naming) → names ≡ a_name → NamingIsOf t names
  name_is_of names e = subst (NamingIsOf t) (sym e) tt

  next_is_of : (names : Naming) → NamingIsOf t names → NamingIsOf t (rounds.next_naming names)
  next_is_of a_name h = tt
  next_is_of (own_param f i) h = h
  next_is_of other_param h = tt
  next_is_of (identified_param f) h = h

  next_is_own : (own : Bool) (names : Naming) → IsOwnOf own names → IsOwnOf own (rounds.next_naming names)
  next_is_own false names h = tt
  next_is_own true a_name h = tt
  next_is_own true (own_param f i) h = tt
  next_is_own true other_param h = h
  next_is_own true (identified_param f) h = tt

  identified_is_of : (names : Naming) → NamingIsOf t names → NamingIsOf t (rounds.identified_naming names)
  identified_is_of a_name h = tt
  identified_is_of (own_param f i) h = h
  identified_is_of other_param h = tt
  identified_is_of (identified_param f) h = h

  identified_is_own : (names : Naming) → HasSome names → HasSome (rounds.identified_naming names)
  identified_is_own a_name h = tt
  identified_is_own (own_param f i) h = tt
  identified_is_own other_param h = h
  identified_is_own (identified_param f) h = tt

  innermost_is_of : (m : List Mark) (ds : List OpenDeclaration) (rs : List Round) → Aligned m ds rs →
      NamingIsOf t (rounds.innermost rs).naming
  innermost_is_of [] ds rs h = name_is_of _ (ap (λ (it : List Round). (rounds.innermost it).naming) h)
  innermost_is_of (in_declaration x d o ∷ m) [] rs h = absurd h
  innermost_is_of (in_declaration x d o ∷ m) (it ∷ ds) rs h = innermost_is_of m ds rs h.2
  innermost_is_of (in_params own ∷ m) ds [] h = absurd h
  innermost_is_of (in_params own ∷ m) ds (r ∷ rs) h = h.0.0
  innermost_is_of (in_tag ∷ m) ds [] h = absurd h
  innermost_is_of (in_tag ∷ m) ds (r ∷ rs) h = name_is_of r.naming h.0
  innermost_is_of (in_scope ∷ m) ds [] h = absurd h
  innermost_is_of (in_scope ∷ m) ds (r ∷ rs) h = name_is_of r.naming h.0
  innermost_is_of (in_quiet ∷ m) ds [] h = absurd h
  innermost_is_of (in_quiet ∷ m) ds (r ∷ rs) h = name_is_of r.naming h.0
  innermost_is_of (in_part ∷ m) ds rs h = innermost_is_of m ds rs h
  innermost_is_of (in_body ∷ m) ds rs h = name_is_of _ h.0

  -- where a declaration may declare, what is read is a name
  pub open_naming : (m : List Mark) (ds : List OpenDeclaration) (rs : List Round) → is_open m ≡ true → Aligned m ds rs →
      (rounds.innermost rs).naming ≡ a_name
  open_naming [] ds rs o h = ap (λ (it : List Round). (rounds.innermost it).naming) h
  open_naming (in_scope ∷ m) ds [] o h = absurd h
  open_naming (in_scope ∷ m) ds (r ∷ rs) o h = h.0
  open_naming (in_body ∷ m) ds rs o h = h.0
  open_naming m ds rs o h = absurd cc

  name_has : (names : Naming) → names ≡ a_name → HasSome names
  name_has names e = subst HasSome (sym e) tt

  -- where a declaration may declare, or among own parameters, there may be a skeleton of what is read
  pub takes_naming : (m : List Mark) (ds : List OpenDeclaration) (rs : List Round) → may_declare m ≡ true
      → Aligned m ds rs →
      HasSome (rounds.innermost rs).naming
  takes_naming (in_params true ∷ m) ds [] o h = absurd h
  takes_naming (in_params true ∷ m) ds (r ∷ rs) o h = h.0.1
  takes_naming (in_params false ∷ m) ds rs o h = absurd cc
  takes_naming [] ds rs o h = name_has _ (open_naming [] ds rs o h)
  takes_naming (in_scope ∷ m) ds rs o h = name_has _ (open_naming (in_scope ∷ m) ds rs o h)
  takes_naming (in_body ∷ m) ds rs o h = name_has _ (open_naming (in_body ∷ m) ds rs o h)
  takes_naming (in_declaration x d c ∷ m) ds rs o h = absurd cc
  takes_naming (in_tag ∷ m) ds rs o h = absurd cc
  takes_naming (in_quiet ∷ m) ds rs o h = absurd cc
  takes_naming (in_part ∷ m) ds rs o h = absurd cc

  -- steps

  moved : (m n : List Mark) (ds : List OpenDeclaration) (rs : List Round) → Some m ≡ Some n → Aligned m ds rs →
      Aligned n ds rs
  moved m n ds rs e h = let same : m ≡ n = cc in subst (λ (it : List Mark). Aligned it ds rs) same h

  at : (m n : List Mark) (ds : List OpenDeclaration) (rs : List Round) → m ≡ n → Aligned m ds rs → Aligned n ds rs
  at m n ds rs same h = subst (λ (it : List Mark). Aligned it ds rs) same h

  left_quiet : (n : List Mark) (ds : List OpenDeclaration) (rs : List Round) → Aligned (in_quiet ∷ n) ds rs →
      Aligned n ds (without_innermost rs)
  left_quiet n ds [] h = absurd h
  left_quiet n ds (r ∷ rs) h = h.1

  left_tag : (n : List Mark) (ds : List OpenDeclaration) (rs : List Round) → Aligned (in_tag ∷ n) ds rs →
      Aligned n ds (without_innermost rs)
  left_tag n ds [] h = absurd h
  left_tag n ds (r ∷ rs) h = h.1

  left_scope : (n : List Mark) (ds : List OpenDeclaration) (rs : List Round) → Aligned (in_scope ∷ n) ds rs →
      Aligned n ds (without_innermost rs)
  left_scope n ds [] h = absurd h
  left_scope n ds (r ∷ rs) h = h.1

  left_params : (own : Bool) (n : List Mark) (ds : List OpenDeclaration) (rs : List Round) →
      Aligned (in_params own ∷ n) ds rs → Aligned n ds (without_innermost rs)
  left_params own n ds [] h = absurd h
  left_params own n ds (r ∷ rs) h = h.1

  left_declaration : (x d : Option ℕ) (o : Bool) (n : List Mark) (ds : List OpenDeclaration) (rs : List Round) →
      Aligned (in_declaration x d o ∷ n) ds rs → Aligned n (without_innermost ds) rs
  left_declaration x d o n [] rs h = absurd h
  left_declaration x d o n (it ∷ ds) rs h = h.2

  -- the names of the innermost declaration change
  renamed : (x d x2 d2 : Option ℕ) (o o2 : Bool) (n : List Mark) (change : OpenDeclaration → OpenDeclaration)
      (ds : List OpenDeclaration) (rs : List Round) →
      ((it : OpenDeclaration) → it.name ≡ x → it.declared ≡ d →
      ((change it).name ≡ x2) × ((change it).declared ≡ d2)) →
      Aligned (in_declaration x d o ∷ n) ds rs → Aligned (in_declaration x2 d2 o2 ∷ n) (changed change ds) rs
  renamed x d x2 d2 o o2 n change [] rs k h = absurd h
  renamed x d x2 d2 o o2 n change (it ∷ ds) rs k h = ((k it h.0 h.1).0, (k it h.0 h.1).1, h.2)

  -- whether own parameters are behind us does not matter
  marked : (x d : Option ℕ) (o o2 : Bool) (n : List Mark) (ds : List OpenDeclaration) (rs : List Round) →
      Aligned (in_declaration x d o ∷ n) ds rs → Aligned (in_declaration x d o2 ∷ n) ds rs
  marked x d o o2 n [] rs h = absurd h
  marked x d o o2 n (it ∷ ds) rs h = h

  name_is : (x d : Option ℕ) (o : Bool) (n : List Mark) (ds : List OpenDeclaration) (rs : List Round) →
      Aligned (in_declaration x d o ∷ n) ds rs → rounds.name_so_far ds ≡ x
  name_is x d o n [] rs h = absurd h
  name_is x d o n (it ∷ ds) rs h = h.0

  declared_is : (x d : Option ℕ) (o : Bool) (n : List Mark) (ds : List OpenDeclaration) (rs : List Round) →
      Aligned (in_declaration x d o ∷ n) ds rs → declared_last ds ≡ d
  declared_is x d o n [] rs h = absurd h
  declared_is x d o n (it ∷ ds) rs h = h.1

  next_round_is : (own : Bool) (n : List Mark) (ds : List OpenDeclaration) (rs : List Round) →
      Aligned (in_params own ∷ n) ds rs → Aligned (in_params own ∷ n) ds (changed rounds.next_round rs)
  next_round_is own n ds [] h = h
  next_round_is own n ds (r ∷ rs) h = ((next_is_of r.naming h.0.0, next_is_own own r.naming h.0.1), h.1)

  identified_round_is : (n : List Mark) (ds : List OpenDeclaration) (rs : List Round)
      → Aligned (in_params true ∷ n) ds rs →
      Aligned (in_params true ∷ n) ds (changed rounds.identified_round rs)
  identified_round_is n ds [] h = h
  identified_round_is n ds (r ∷ rs) h = ((identified_is_of r.naming h.0.0, identified_is_own r.naming h.0.1), h.1)

  params_are : (own : Bool) (x d : Option ℕ) (o : Bool) (n : List Mark) (ds : List OpenDeclaration) (rs : List Round) →
      (own ≡ true → x ≡ t) → Aligned (in_declaration x d o ∷ n) ds rs →
      NamingIsOf t (rounds.params_naming own ds) × IsOwnOf own (rounds.params_naming own ds)
  params_are false x d o n ds rs e h = (tt, tt)
  params_are true x d o n ds rs e h = (name_is x d o n ds rs h ∙ e refl, tt)

  module _ (m n : List Mark) (ds : List OpenDeclaration) (r : Rounds) (h : Aligned m ds r.around) where
    abbrev rs : List Round
    rs = r.around

    -- in a declaration

    here : (d : Declaring m) → Aligned (in_declaration d.name d.last d.own ∷ d.outer) ds rs
    here d = at m (in_declaration d.name d.last d.own ∷ d.outer) ds rs d.is h

    pub outer_aligned : (d : Declaring m) → Aligned d.outer (without_innermost ds) rs
    outer_aligned d = left_declaration d.name d.last d.own d.outer ds rs (here d)

    form_aligned : (op : FormOp) → turn t m (ops.Form op) ≡ Some n → Aligned n ds (rounds.form_round r op).around
    form_aligned (forms.Sizeof token) e = left_quiet n ds rs (at m (in_quiet ∷ n) ds rs (quiet_was m n e) h)
    form_aligned (forms.Offset token) e = left_quiet n ds rs (at m (in_quiet ∷ n) ds rs (quiet_was m n e) h)
    form_aligned (forms.Compat token) e = left_quiet n ds rs (at m (in_quiet ∷ n) ds rs (quiet_was m n e) h)
    form_aligned forms.Control e = left_quiet n ds rs (at m (in_quiet ∷ n) ds rs (quiet_was m n e) h)
    form_aligned op e = moved m n ds rs e h

    spec_aligned : (op : SpecOp) → turn t m (ops.Spec op) ≡ Some n →
        Aligned n (opens (ops.Spec op) ds) (rounds.spec_round r op).around
    spec_aligned (specs.TagBody kind token name) e = moved (in_tag ∷ m) n ds (rounds.entered r).around e (refl, h)
    spec_aligned (specs.Untagged kind token) e = moved (in_tag ∷ m) n ds (rounds.entered r).around e (refl, h)
    spec_aligned specs.BodyEnd e = left_tag n ds rs (at m (in_tag ∷ n) ds rs (tag_was m n e) h)
    spec_aligned specs.PartBegin e = moved (in_part ∷ m) n ds rs e h
    spec_aligned (specs.TypeofEnd token) e = at m (in_part ∷ n) ds rs (part_was m n e) h
    spec_aligned specs.TypeEnd e = at m (in_part ∷ n) ds rs (part_was m n e) h
    spec_aligned specs.SpecsEnd e =
        moved (in_declaration None None false ∷ m) n (record { name = None; declared = None } ∷ ds) rs e (refl, refl, h)
    spec_aligned op e = moved m n ds rs e h

    stmt_aligned : (op : StmtOp) → turn t m (ops.Stmt op) ≡ Some n → Aligned n ds (rounds.stmt_round ds r op).around
    stmt_aligned stmts.Quiet e = moved (in_quiet ∷ m) n ds (rounds.silenced r).around e (refl, h)
    stmt_aligned stmts.Loud e = left_quiet n ds rs (at m (in_quiet ∷ n) ds rs (quiet_was m n e) h)
    stmt_aligned stmts.Enter e = moved (in_scope ∷ m) n ds (rounds.entered r).around e (refl, h)
    stmt_aligned stmts.Leave e = left_scope n ds rs (at m (in_scope ∷ n) ds rs (scope_was m n e) h)
    stmt_aligned stmts.FunctionBody e =
        let was = body_begins t m n e in
        let file = left_declaration was.0 (Some was.1) true [] ds rs
        (at m (in_declaration was.0 (Some was.1) true ∷ []) ds rs was.2 h) in
        at (in_body ∷ m) n ds rs (sym was.3) (open_naming [] (without_innermost ds) rs refl file, h)
    stmt_aligned stmts.FunctionEnd e =
        let was = body_was m n e in
        at (in_declaration was.0 was.1 false ∷ was.3) n ds rs (sym was.5)
        (marked was.0 was.1 was.2 false was.3 ds rs
        (at m (in_body ∷ (in_declaration was.0 was.1 was.2 ∷ was.3)) ds rs was.4 h).1)
    stmt_aligned op e = moved m n ds rs e h

    named_now : (d : Declaring m) (x c : Option ℕ) (change : OpenDeclaration → OpenDeclaration) →
        n ≡ in_declaration x c d.own ∷ d.outer →
        ((it : OpenDeclaration) → it.name ≡ d.name → it.declared ≡ d.last →
        ((change it).name ≡ x) × ((change it).declared ≡ c)) → Aligned n (changed change ds) rs
    named_now d x c change is k =
        at (in_declaration x c d.own ∷ d.outer) n (changed change ds) rs (sym is)
        (renamed d.name d.last x c d.own d.own d.outer change ds rs k (here d))

    closed_now : turn t m (ops.Declr declrs.DeclarationEnd) ≡ Some n → Aligned n (without_innermost ds) rs
    closed_now e =
        let was = declaration_was m n e in at was.0.outer n (without_innermost ds) rs (sym was.1) (outer_aligned was.0)

    declr_aligned : (op : DeclrOp) → turn t m (ops.Declr op) ≡ Some n →
        Aligned n (opens (ops.Declr op) ds) (rounds.declr_round ds r op).around
    declr_aligned (declrs.DeclName token name) e =
        let was = named_was token m n e in
        named_now was.0 (Some token) was.0.last (with_name token) was.1 (λ it x d. (refl, d))
    declr_aligned (declrs.ParamsBegin is_own) e =
        let it = begun_was t is_own m n e in
        let d = it.declaring in
        at (in_params is_own ∷ m) n ds
        (rounds.with_round (rounds.params_naming is_own ds) (rounds.is_quiet r) r).around (sym it.is) (
          params_are is_own d.name d.last d.own d.outer ds rs (λ own. (it.named own).1 ∙ sym (it.named own).2) (here d),
          h,
        )
    declr_aligned declrs.Param e =
        let was = param_was m n e in
        at (in_params was.1 ∷ was.2) n (without_innermost ds) (rounds.next_param r).around (sym was.4)
        (next_round_is was.1 was.2 (without_innermost ds) rs
        (at was.0.outer (in_params was.1 ∷ was.2) (without_innermost ds) rs was.3 (outer_aligned was.0)))
    declr_aligned declrs.ParamsEnd e =
        let it = params_were m n e in
        let inner = in_declaration it.name it.last it.own ∷ it.outer in
        let own = if it.params then true else it.own in
        at (in_declaration it.name it.last own ∷ it.outer) n ds (without_innermost rs) (sym it.is)
        (marked it.name it.last it.own own it.outer ds (without_innermost rs)
        (left_params it.params inner ds rs (at m (in_params it.params ∷ inner) ds rs it.was h)))
    declr_aligned declrs.Declare e =
        let was = declared_was m n e in named_now was.0 None was.0.name with_declared was.1 (λ it x d. (refl, x))
    declr_aligned declrs.AutoBegin e = moved (in_part ∷ m) n ds rs e h
    declr_aligned (declrs.AutoEnd token) e =
        let it = auto_was m n e in
        let d = it.declaring in
        at (in_declaration None d.name d.own ∷ d.outer) n (changed with_declared ds) rs (sym it.is)
        (renamed d.name d.last None d.name d.own d.own d.outer with_declared ds rs (λ it x d. (refl, x))
        (at it.inner (in_declaration d.name d.last d.own ∷ d.outer) ds rs d.is
        (at m (in_part ∷ it.inner) ds rs it.was h)))
    declr_aligned (declrs.Identifier token name) e =
        let was = identified_was m n e in
        at (in_params true ∷ was.0) n ds (changed rounds.identified_round rs) (sym (was.2 ∙ was.1))
        (identified_round_is was.0 ds rs (at m (in_params true ∷ was.0) ds rs was.1 h))
    declr_aligned declrs.OldParam e =
        let was = old_was m n e in named_now was.0 None was.0.name with_declared was.3 (λ it x d. (refl, x))
    declr_aligned declrs.Member e =
        let was = member_was m n e in named_now was.0 None was.0.last without_name was.1 (λ it x d. (refl, d))
    declr_aligned (declrs.TypeName first) e = closed_now e
    declr_aligned declrs.DeclarationEnd e = closed_now e
    declr_aligned op e = moved m n ds rs e h

    pub aligned : (op : Op) → turn t m op ≡ Some n → Aligned n (opens op ds) (rounds.round_step ds r op).around
    aligned (ops.Expr op) e = moved m n ds rs e h
    aligned (ops.Form op) e = form_aligned op e
    aligned (ops.Init op) e = moved m n ds rs e h
    aligned (ops.Spec op) e = spec_aligned op e
    aligned (ops.Declr op) e = declr_aligned op e
    aligned (ops.Stmt op) e = stmt_aligned op e

  begins_its : (m n : List Mark) (st : State) (op : Op) → Aligned m st.declarations st.rounds.around →
      turn t m op ≡ Some n → BeginsIts t st op
  begins_its m n st (ops.Stmt stmts.FunctionBody) h e =
      let was = body_begins t m n e in
      declared_is was.0 (Some was.1) true [] st.declarations st.rounds.around
      (at m (in_declaration was.0 (Some was.1) true ∷ []) st.declarations st.rounds.around was.2 h) ∙ sym was.4
  begins_its m n st (ops.Stmt op) h e = tt
  begins_its m n st op h e = tt

  stays : (new old : Option ℕ) → new ≡ old → BodyIsOf t old → BodyIsOf t new
  stays new old is k = subst (BodyIsOf t) (sym is) k

  body_behind : (w : World) (st : State) (op : Op) → BeginsIts t st op → BodyIsOf t st.rounds.body →
      BodyIsOf t (step w st op).rounds.body
  body_behind w st (ops.Expr op) b k = k
  body_behind w st (ops.Form op) b k = stays _ _ (form_body st.rounds op) k
  body_behind w st (ops.Init op) b k = k
  body_behind w st (ops.Spec op) b k = stays _ _ (spec_body st.rounds op) k
  body_behind w st (ops.Declr op) b k = stays _ _ (declr_body st.declarations st.rounds op) k
  body_behind w st (ops.Stmt stmts.FunctionBody) b k = inr b
  body_behind w st (ops.Stmt stmts.FunctionEnd) b k = inl refl
  body_behind w st (ops.Stmt op) b k = k

  along : (w : World) (tape : List Op) (m : List Mark) (st : State) → IsBracketed t m tape [] →
      Aligned m st.declarations st.rounds.around → BodyIsOf t st.rounds.body → ContextsAlong w t st tape
  along w [] m st b h k = tt
  along w (op ∷ tape) m st b h k =
      let begins = begins_its m b.0 st op h b.1 in (
        record { params = innermost_is_of m st.declarations st.rounds.around h; body = k; begins = begins },
        along w tape b.0 (step w st op) b.2
            (subst (λ (ds : List OpenDeclaration). Aligned b.0 ds (step w st op).rounds.around)
            (sym (row_opens w st op))
            (aligned m b.0 st.declarations st.rounds h op b.1)) (body_behind w st op begins k),
      )

pub contexts_along : ItemsAreBracketed → ContextsAreIts
contexts_along bracketed w item its =
    along (function_token item) w (item_tape item) [] nothing (bracketed item its) refl (inl refl)
