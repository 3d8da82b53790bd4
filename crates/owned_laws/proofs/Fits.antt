-- The skeletons that each op of an item looks up are of the function around, where names mean what stays in the item.
use Rattle.std.proofs.Common.{◌≡◌, ◌⊎◌, inl, inr, ℕ, Bool, true, false, List, [], ◌∷◌, ◌++◌, Option, None, Some, refl, sym, ◌∙◌, ap, subst}
use Rattle.std.specs.Prelude.{if◌then◌else◌}
use Rattle.std.proofs.lemmas.Option.{same_Some}
use Rattle.tape_ops.specs.declared.op.Op.{Op}
use Rattle.tape_ops.specs.declared.op.Op.TheVariants as ops
use Rattle.tape_ops.specs.declared.expression.ExprOp.{ExprOp}
use Rattle.tape_ops.specs.declared.expression.ExprOp.TheVariants as exprs
use Rattle.tape_ops.specs.declared.form.FormOp.{FormOp}
use Rattle.tape_ops.specs.declared.form.FormOp.TheVariants as forms
use Rattle.tape_ops.specs.declared.initialiser.InitOp.{InitOp}
use Rattle.tape_ops.specs.declared.initialiser.InitOp.TheVariants as inits
use Rattle.tape_ops.specs.declared.specifier.SpecOp.{SpecOp}
use Rattle.tape_ops.specs.declared.specifier.SpecOp.TheVariants as specs
use Rattle.tape_ops.specs.declared.declarator.DeclrOp.{DeclrOp}
use Rattle.tape_ops.specs.declared.declarator.DeclrOp.TheVariants as declrs
use Rattle.tape_ops.specs.declared.statement.StmtOp.{StmtOp}
use Rattle.tape_ops.specs.declared.statement.StmtOp.TheVariants as stmts
use Rattle.type_table.specs.Types.{pointer}
use Rattle.name_rules.specs.Spellings.{Spelling, Place, place}
use Rattle.name_rules.specs.Scopes.{Role, typedef_role, object_role, function_role, parameter_role, field_role, enumerator_role, Declared, declared_at, Use, means, called, missing, Names, is_place}
use Rattle.name_rules.specs.Linking.{link_of}
use Rattle.name_rules.specs.Uses.{use_at}
use Rattle.name_rules.specs.MeaningLaws.Meanings.{HasFirst, HasLink, IsNobodys, NamesAreFirst}
use Rattle.name_rules.specs.ShapeSteps.State as shapes
use Rattle.name_rules.specs.ShapeSteps.Steps as shape_steps
use Rattle.name_rules.specs.ShapeSteps.State.{OpenDeclaration, declared_last, changed}
use Rattle.row_rules.specs.Starting.{Start, Around, first_of, instance, is_function_role, is_some_function, owned_there, owner_there, use_by_role, some_use_start, use_start}
use Rattle.row_rules.specs.Sites.{has_place}
use Rattle.row_rules.specs.Worlds.{World, at}
use Rattle.row_rules.specs.RowSteps.Rounds.{Naming, a_name, own_param, other_param, identified_param, identified_naming, identified_round, naming, is_quiet, Round, Rounds, innermost, name_so_far, params_naming, next_naming, next_round, form_round, spec_round, declr_round, stmt_round, round_step}
use Rattle.row_rules.specs.RowSteps.State.{State}
use Rattle.row_rules.specs.RowSteps.Steps.{step}
use Rattle.row_rules.specs.RowSteps.Starting.{function_at, around, expr_op_starts, form_op_starts, init_op_starts, op_starts}
use Rattle.row_laws.specs.KeyLaws.Keys.{expr_key, declr_key, op_key, key_place, key_places}
use Rattle.expr_types.specs.Keys.{form_key, init_key}
use Rattle.owned_laws.specs.ScopeLaws.Staying.{IsWithin, AreWithin}
use Rattle.owned_laws.specs.OwnerLaws.Fitting.{start_at}
use Rattle.owned_laws.specs.OwnerLaws.Rows.{IsInstance}
use Rattle.owned_laws.specs.Around.{IsOwn, BeginsIn, MeantFits, SomeMeantFits, UseFits, DeclaredFits, ParamFits, FunctionFits, NamingFits, InitFits, FirstInitFits, SomeInitFits, InitialisedFits, ExprFits, FormFits, InitOpFits, DeclrFits, StmtFits, OpFits, MembersFit}
use Rattle.owned_laws.specs.Contexts.{NamingIsOf, BodyIsOf, OpContext, ContextsAlong}
use Rattle.owned_laws.specs.Names.{FunctionsBegin}
use Rattle.owned_laws.specs.Tapes.{OpsFit}
use Rattle.name_rules.proofs.MeaningLaws.Lists.{place_itself}
use Rattle.owned_laws.proofs.ScopeLaws.Places.{declared_place, has_itself, has_right}
use Rattle.owned_laws.proofs.OwnerLaws.Instances.{begins_at}
use Rattle.owned_laws.proofs.Begin.{FreshAt, fresh_begins, IsPlaced, expr_is, form_is, init_is, IsExact, ExactAlong}
use Rattle.owned_laws.proofs.Opening.{opens, row_opens, Alike, alike, with_access, step_access}

-- what is known of all names and skeletons of a program
pub record Scene : Type 0 where
  pub world : World
  pub starts : List Start
  pub placed : (p : Place) (x : Start) → start_at starts p ≡ Some x → (g : Option Place) × IsPlaced world.names g x
  pub first : NamesAreFirst world.names
  pub functions : FunctionsBegin starts world.names

-- of an item: its function, by the token of its name, and the places at which its ops stand
pub record Item (k : Scene) : Type 0 where
  pub token : Option ℕ
  pub keys : List Place
  pub placed : (p : Place) (x : Start) → has_place keys p ≡ true → start_at k.starts p ≡ Some x →
      IsPlaced k.world.names (function_at k.world.spelling k.world.names token) x
  pub stays : AreWithin k.world.spelling k.world.names keys

-- owners

owned_none : (o : Option Place) (g : Option Place) → o ≡ None → owned_there o g ≡ None
owned_none o g e = ap (λ (x : Option Place). owned_there x g) e

owned_own : (f g o : Option Place) → IsOwn f g → IsOwn f (owned_there o g)
owned_own f g None own = inl refl
owned_own f g (Some p) own = own

module _ (k : Scene) where
  abbrev w : World
  w = k.world

  abbrev s : Names
  s = k.world.names

  abbrev u : Spelling
  u = k.world.spelling

  -- what is found at a place is what it says it is
  itself : (p : Place) (d : Declared) → declared_at s.declared p ≡ Some d → declared_at s.declared d.at ≡ Some d
  itself p d e = subst (λ (q : Place). declared_at s.declared q ≡ Some d) (sym (declared_place s.declared p d e)) e

  -- the owner of what begins where something is declared
  named_there : (p : Place) (x : Start) (g : Option Place) → IsPlaced s g x → start_at k.starts p ≡ Some x →
      (d : Declared) → declared_at s.declared p ≡ Some d →
      (h : Option Place) × IsOwn g h × (x.owner ≡ owner_there s h d)
  named_there p x g it is d e =
      it.named d (subst (λ (q : Place). declared_at s.declared q ≡ Some d) (sym (begins_at k.starts p x is)) e)

  -- nobody's
  nobodys_begin : (g : Option Place) (p : Place) (d : Declared) → declared_at s.declared p ≡ Some d → d.owner ≡ None →
      BeginsIn k.starts g p
  nobodys_begin g p d e none x is =
      let it = k.placed p x is in let found = named_there p x it.0 it.1 is d e in
      inl (found.2 ∙ owned_none d.owner _ none)

  -- the function that a declaration is of
  abbrev its_link : Declared → Option Place
  its_link d = Some (link_of s d.first)

  -- what was first declared as a function belongs to that, by its link
  functions_begin : (p : Place) (d : Declared) → declared_at s.declared p ≡ Some d →
      is_some_function (declared_at s.declared d.first) ≡ true → BeginsIn k.starts (its_link d) p
  functions_begin p d e fun x is =
      let it = k.placed p x is in let found = named_there p x it.0 it.1 is d e in
      subst (IsOwn (its_link d)) (sym (found.2
      ∙ ap (λ (b : Bool). owned_there d.owner (if b then its_link d else found.0)) fun))
      (owned_own (its_link d) (its_link d) d.owner (inr refl))

  nobodys_there : (g : Option Place) (p : Place) → IsNobodys s.declared p → BeginsIn k.starts g p
  nobodys_there g p h = nobodys_begin g p h.it h.there h.none

  pub members : MembersFit k.starts s
  members = record {
    known = λ n name it e. nobodys_there None it.at (k.first.known n name it e);
    own = λ n i it e. nobodys_there None it.at (k.first.own n i it e);
  }

  -- a first declaration is that of a function where it is one
  first_is_function : (p : Place) (d : Declared) → declared_at s.declared p ≡ Some d → d.first ≡ p →
      is_some_function (declared_at s.declared d.first) ≡ is_function_role d.role
  first_is_function p d e first = ap is_some_function (ap (declared_at s.declared) first ∙ e)

  pub function_there : (p : Place) (d : Declared) → declared_at s.declared p ≡ Some d → d.role ≡ function_role →
      d.first ≡ p → d.owner ≡ Some d.at →
      (there : Start) × (start_at k.starts d.at ≡ Some there) × (there.owner ≡ Some (link_of s d.at))
  function_there p d e role first own = by (start_at k.starts d.at) refl
    where
      by : (found : Option Start) → start_at k.starts d.at ≡ found →
          (there : Start) × (start_at k.starts d.at ≡ Some there) × (there.owner ≡ Some (link_of s d.at))
      by None is = absurd (k.functions p d e role own is)
      by (Some there) is =
          let it = k.placed d.at there is in let found = named_there d.at there it.0 it.1 is d (itself p d e) in (
            there,
            is,
            found.2
                ∙ (ap (λ (b : Bool). owned_there d.owner (if b then its_link d else found.0))
                (first_is_function p d e first ∙ ap is_function_role role)
                ∙ (ap (λ (o : Option Place). owned_there o (its_link d)) own
                ∙ ap (λ (q : Place). Some (link_of s q)) (first ∙ sym (declared_place s.declared p d e)))),
          )

  -- linked declarations

  abbrev Linked : Declared → Type 0
  Linked d = (d.role ≡ function_role) ⊎ (d.owner ≡ None)

  -- at a link a function is declared for the first time, which is its own link, or what is nobody's
  link_begins : (p : Place) (it : Declared) → declared_at s.declared p ≡ Some it → Linked it →
      (it.role ≡ function_role → it.first ≡ it.at) → (it.role ≡ function_role → link_of s it.at ≡ it.at) →
      BeginsIn k.starts (Some p) p
  link_begins p it e (inl role) first last =
      subst (λ (q : Place). BeginsIn k.starts (Some q) p)
      (ap (link_of s) (first role) ∙ (last role ∙ declared_place s.declared p it e))
      (functions_begin p it e (first_is_function p it e (first role ∙ declared_place s.declared p it e)
      ∙ ap is_function_role role))
  link_begins p it e (inr none) first last = nobodys_begin (Some p) p it e none

  -- a declaration of what is linked
  further_begins : (p : Place) (d first : Declared) → declared_at s.declared p ≡ Some d →
      declared_at s.declared d.first ≡ Some first → first.owner ≡ d.owner → Linked first →
      BeginsIn k.starts (its_link d) p
  further_begins p d first e there owner (inl role) =
      functions_begin p d e (ap is_some_function there ∙ ap is_function_role role)
  further_begins p d first e there owner (inr none) = nobodys_begin (its_link d) p d e (sym owner ∙ none)

  module _ (i : Item k) where
    abbrev t : Option ℕ
    t = i.token

    abbrev f : Option Place
    f = function_at u s i.token

    -- a token of the item
    abbrev pub IsKeyed : Option ℕ → Type 0
    IsKeyed None = Unit {0}
    IsKeyed (Some token) = has_place i.keys (place u token) ≡ true

    -- what is declared in the item, and no function first
    keyed_begins : (p : Place) (d : Declared) → has_place i.keys p ≡ true → declared_at s.declared p ≡ Some d →
        is_some_function (declared_at s.declared d.first) ≡ false → BeginsIn k.starts f p
    keyed_begins p d keyed e fun x is =
        let found = named_there p x f (i.placed p x keyed is) is d e in
        subst (IsOwn f) (sym (found.2 ∙ ap (λ (b : Bool). owned_there d.owner (if b then its_link d else found.0)) fun))
        (owned_own f found.0 d.owner found.1)

    within_begins : (p : Place) (d : Declared) → IsWithin s i.keys p → declared_at s.declared p ≡ Some d →
        is_some_function (declared_at s.declared d.first) ≡ false → is_function_role d.role ≡ false
        → BeginsIn k.starts f p
    within_begins p d (inl keyed) e fun role = keyed_begins p d keyed e fun
    within_begins p d (inr file) e fun role = by (file d e)
      where
        by : (d.role ≡ function_role) ⊎ (d.owner ≡ None) → BeginsIn k.starts f p
        by (inl is) = let yes : is_function_role d.role ≡ true = ap is_function_role is in absurd cc
        by (inr none) = nobodys_begin f p d e none

    -- fresh skeletons

    fresh_fits : (token : ℕ) (r : Rounds) (xs : List Start) → IsOwn f (function_at u s r.body) →
        FreshAt (place u token) (function_at u s r.body) xs → IsExact u s k.starts (Some token) xs →
        BeginsIn k.starts f (at w token)
    fresh_fits token r xs own h e it is =
        fresh_begins (place u token) (function_at u s r.body) f xs own h it (sym e ∙ is)

    -- names

    instance_fits : (token : ℕ) (a : Around) (p : Place) (d : Declared) → a.spelling ≡ u → a.names ≡ s →
        a.is_quiet ≡ false → declared_at s.declared p ≡ Some d → d.role ≡ function_role → d.first ≡ p →
        d.owner ≡ Some d.at →
        start_at k.starts (place u token) ≡ start_at (instance a token d.at d.type) (place u token) →
        IsInstance w k.starts token d.at (link_of s d.at)
    instance_fits token a p d spelled named loud e role first own exact = record {
      here = here;
      begins_here = exact ∙ found;
      calls = ap (λ (names : Names). Some (link_of names d.at)) named;
      there = (function_there p d e role first own).0;
      begins_there = (function_there p d e role first own).1;
      is_own = (function_there p d e role first own).2;
    } where
      here : Start
      here = record {
        at = place a.spelling token;
        type = pointer [] d.type;
        owner = a.enclosing;
        calls = Some (link_of a.names d.at);
      }

      found : start_at (instance a token d.at d.type) (place u token) ≡ Some here
      found =
          ap (λ (q : Bool). start_at (if q then [] else here ∷ []) (place u token)) loud
          ∙ ap (λ (v : Spelling). if is_place (place a.spelling token) (place v token) then Some here else None)
          (sym spelled)
          ∙ ap (λ (b : Bool). if b then Some here else None) (place_itself (place a.spelling token))

    module _ (token : ℕ) (r : Rounds) (p : Place) (keyed : has_place i.keys (place u token) ≡ true)
        (used : use_at s.uses (place u token) ≡ means p) where
      -- what a name means is declared there first
      it_is : (d : Declared) → declared_at s.declared p ≡ Some d
          → (d.first ≡ p) × (d.role ≡ function_role → d.owner ≡ Some d.at)
      it_is d e =
          let h = k.first.uses (place u token) p used in
          let same : h.it ≡ d = same_Some h.it d (sym h.there ∙ e) in (
            subst (λ (c : Declared). c.first ≡ p) same h.is_first,
            λ role. subst (λ (c : Declared). c.owner ≡ Some c.at) same
                (h.is_itself (ap (λ (c : Declared). c.role) same ∙ role)
                ∙ ap (λ (q : Place). Some q) (sym (declared_place s.declared p h.it h.there))),
          )

      object_fits : (d : Declared) → declared_at s.declared p ≡ Some d → is_function_role d.role ≡ false →
          BeginsIn k.starts f d.at
      object_fits d e role =
          subst (BeginsIn k.starts f) (sym (declared_place s.declared p d e))
          (within_begins p d (i.stays.uses (place u token) p keyed used) e
          (first_is_function p d e (it_is d e).0 ∙ role) role)

      role_fits : (d : Declared) (role : Role) → declared_at s.declared p ≡ Some d → d.role ≡ role →
          BeginsIn k.starts f (at w token) →
          start_at k.starts (place u token) ≡ start_at (use_by_role (around u s r) token d role) (place u token) →
          MeantFits w k.starts f (is_quiet r) token d role
      role_fits d function_role e role here exact = (
        here,
        λ loud. instance_fits token (around u s r) p d refl refl loud e role (it_is d e).0
            ((it_is d e).1 role) exact,
      )
      role_fits d enumerator_role e role here exact = here
      role_fits d typedef_role e role here exact = object_fits d e (ap is_function_role role)
      role_fits d object_role e role here exact = object_fits d e (ap is_function_role role)
      role_fits d (parameter_role n) e role here exact = object_fits d e (ap is_function_role role)
      role_fits d (field_role n j) e role here exact = object_fits d e (ap is_function_role role)

      some_meant_fits : (d : Option Declared) → declared_at s.declared p ≡ d → BeginsIn k.starts f (at w token) →
          start_at k.starts (place u token) ≡ start_at (some_use_start (around u s r) token d) (place u token) →
          SomeMeantFits w k.starts f (is_quiet r) token d
      some_meant_fits None e here exact = tt
      some_meant_fits (Some d) e here exact = role_fits d d.role e refl here exact

    use_fits : (token : ℕ) (r : Rounds) (it : Use) → has_place i.keys (place u token) ≡ true →
        use_at s.uses (place u token) ≡ it → BeginsIn k.starts f (at w token) →
        start_at k.starts (place u token) ≡ start_at (use_start (around u s r) token it) (place u token) →
        UseFits w k.starts f (is_quiet r) token it
    use_fits token r (means p) keyed used here exact =
        some_meant_fits token r p keyed used (declared_at s.declared p) refl here exact
    use_fits token r called keyed used here exact = here
    use_fits token r missing keyed used here exact = tt

    -- declared names

    -- of what is its own link
    alone : (g : Option Place) (d : Declared) → link_of s d.first ≡ d.first → BeginsIn k.starts g d.first →
        BeginsIn k.starts g d.at → DeclaredFits w k.starts (Some d)
    alone g d own first here = (g, first, subst (BeginsIn k.starts g) (sym own) first, here)

    name_by : (p : Place) (d : Declared) → has_place i.keys p ≡ true → declared_at s.declared p ≡ Some d →
        (b : Bool) → is_some_function (declared_at s.declared d.first) ≡ b → HasFirst s.declared d →
        link_of s d.first ≡ d.first → DeclaredFits w k.starts (Some d)
    name_by p d keyed e true fun first own =
        alone (its_link d) d own (subst (λ (q : Place). BeginsIn k.starts (Some (link_of s q)) d.first) first.is_first
        (functions_begin d.first first.first first.there
        (ap (λ (q : Place). is_some_function (declared_at s.declared q)) first.is_first ∙ fun)))
        (functions_begin d.at d (itself p d e) fun)
    name_by p d keyed e false fun first own =
        alone f d own (within_begins d.first first.first (i.stays.firsts p d keyed e) first.there
        (ap (λ (q : Place). is_some_function (declared_at s.declared q)) first.is_first ∙ fun)
        (ap is_some_function (sym first.there) ∙ fun))
        (subst (BeginsIn k.starts f) (sym (declared_place s.declared p d e)) (keyed_begins p d keyed e fun))

    -- by the link of the first declaration
    link_by : (p : Place) (d : Declared) → has_place i.keys p ≡ true → declared_at s.declared p ≡ Some d →
        (first : HasFirst s.declared d) → HasLink s first.first → DeclaredFits w k.starts (Some d)
    link_by p d keyed e first link = by link.of_file
      where
        there : first.first.at ≡ d.first
        there = declared_place s.declared d.first first.first first.there

        linked : declared_at s.declared (link_of s d.first) ≡ Some link.it
        linked = subst (λ (q : Place). declared_at s.declared (link_of s q) ≡ Some link.it) there link.there

        by : (link_of s first.first.at ≡ first.first.at) ⊎ (Linked first.first × Linked link.it) →
            DeclaredFits w k.starts (Some d)
        by (inl own) =
            name_by p d keyed e (is_some_function (declared_at s.declared d.first)) refl first
            (ap (link_of s) (sym there) ∙ (own ∙ there))
        by (inr both) = (
          its_link d,
          subst (λ (q : Place). BeginsIn k.starts (Some (link_of s q)) d.first) first.is_first
              (further_begins d.first first.first first.first first.there
              (ap (declared_at s.declared) first.is_first ∙ first.there) refl both.0),
          link_begins (link_of s d.first) link.it linked both.1 link.is_first link.is_last,
          further_begins d.at d first.first (itself p d e) first.there first.same_owner both.0,
        )

    declared_fits : (p : Place) (d : Option Declared) → has_place i.keys p ≡ true → declared_at s.declared p ≡ d →
        DeclaredFits w k.starts d
    declared_fits p None keyed e = tt
    declared_fits p (Some d) keyed e =
        let first = k.first.firsts p d e in
        link_by p d keyed e first (k.first.links d.first first.first first.there first.is_first)

    param_by : (p : Place) (d : Declared) → has_place i.keys p ≡ true → declared_at s.declared p ≡ Some d → (b : Bool) →
        is_some_function (declared_at s.declared d.first) ≡ b → ParamFits w k.starts f (Some d)
    param_by p d keyed e true fun = inl fun
    param_by p d keyed e false fun =
        inr (subst (BeginsIn k.starts f) (sym (declared_place s.declared p d e)) (keyed_begins p d keyed e fun))

    param_fits : (p : Place) (d : Option Declared) → has_place i.keys p ≡ true → declared_at s.declared p ≡ d →
        ParamFits w k.starts f d
    param_fits p None keyed e = tt
    param_fits p (Some d) keyed e = param_by p d keyed e (is_some_function (declared_at s.declared d.first)) refl

    -- the item's function

    function_by : (token : ℕ) → t ≡ Some token → has_place i.keys (place u token) ≡ true → (d : Option Declared) →
        declared_at s.declared (place u token) ≡ d → BeginsIn k.starts f (at w token)
    function_by token is keyed None e = λ x there.
        (i.placed (place u token) x keyed there).fresh
        (subst (λ (q : Place). declared_at s.declared q ≡ None) (sym (begins_at k.starts (place u token) x there)) e)
    function_by token is keyed (Some d) e = by (is_some_function (declared_at s.declared d.first)) refl
      where
        its : f ≡ its_link d
        its = ap (function_at u s) is ∙ ap (first_of s) e

        by : (b : Bool) → is_some_function (declared_at s.declared d.first) ≡ b → BeginsIn k.starts f (at w token)
        by true fun =
            subst (λ (g : Option Place). BeginsIn k.starts g (place u token)) (sym its)
            (functions_begin (place u token) d e fun)
        by false fun = keyed_begins (place u token) d keyed e fun

    function_fits : (g : Option ℕ) → g ≡ t → IsKeyed g → FunctionFits w k.starts f g
    function_fits None is keyed = tt
    function_fits (Some token) is keyed =
        function_by token (sym is) keyed (declared_at s.declared (place u token)) refl

    abbrev NamingKeyed : Naming → Type 0
    NamingKeyed a_name = Unit {0}
    NamingKeyed (own_param g n) = IsKeyed g
    NamingKeyed other_param = Unit {0}
    NamingKeyed (identified_param g) = IsKeyed g

    naming_fits : (token : ℕ) (it : Naming) → has_place i.keys (place u token) ≡ true → NamingIsOf t it
        → NamingKeyed it →
        NamingFits w k.starts f token it
    naming_fits token a_name keyed its known =
        declared_fits (at w token) (declared_at s.declared (at w token)) keyed refl
    naming_fits token (own_param g n) keyed its known =
        (function_fits g its known, param_fits (at w token) (declared_at s.declared (at w token)) keyed refl)
    naming_fits token other_param keyed its known = tt
    naming_fits token (identified_param g) keyed its known =
        (function_fits g its known, param_fits (at w token) (declared_at s.declared (at w token)) keyed refl)

    -- initialisers

    init_role_fits : (d : Declared) (role : Role) → (is_function_role role ≡ false → BeginsIn k.starts f d.at) →
        InitFits k.starts f d role
    init_role_fits d typedef_role h = tt
    init_role_fits d function_role h = tt
    init_role_fits d object_role h = h refl
    init_role_fits d (parameter_role n) h = h refl
    init_role_fits d (field_role n j) h = h refl
    init_role_fits d enumerator_role h = tt

    first_init_fits : (p : Place) (d : Declared) (first : Option Declared) → has_place i.keys p ≡ true →
        declared_at s.declared p ≡ Some d → declared_at s.declared d.first ≡ first → FirstInitFits k.starts f d first
    first_init_fits p d None keyed e there = tt
    first_init_fits p d (Some first) keyed e there =
        init_role_fits d first.role (λ fun. subst (BeginsIn k.starts f) (sym (declared_place s.declared p d e))
        (keyed_begins p d keyed e (ap is_some_function there ∙ fun)))

    some_init_fits : (p : Place) (d : Option Declared) → has_place i.keys p ≡ true → declared_at s.declared p ≡ d →
        SomeInitFits w k.starts f d
    some_init_fits p None keyed e = tt
    some_init_fits p (Some d) keyed e = first_init_fits p d (declared_at s.declared d.first) keyed e refl

    initialised_fits : (token : Option ℕ) → IsKeyed token → InitialisedFits w k.starts f token
    initialised_fits None keyed = tt
    initialised_fits (Some token) keyed = some_init_fits (at w token) (declared_at s.declared (at w token)) keyed refl

    -- ops

    abbrev BodyOwn : Rounds → Type 0
    BodyOwn r = IsOwn f (function_at u s r.body)

    expr_fits : (access : Bool) (sst : shapes.State) (st : State) (op : ExprOp) → BodyOwn st.rounds
        → IsKeyed (expr_key op) →
        IsExact u s k.starts (expr_key op) (expr_op_starts u s sst (with_access access st.rounds) op)
        → ExprFits w k.starts f st op
    expr_fits access sst st (exprs.Name is_called token name) body own e =
        use_fits token (with_access access st.rounds) (use_at s.uses (place u token)) own refl
        (fresh_fits token (with_access access st.rounds) _ body
        (expr_is u s sst (with_access access st.rounds) (exprs.Name is_called token name)) e) e
    expr_fits access sst st (exprs.Number token) body own e =
        fresh_fits token (with_access access st.rounds) _ body
        (expr_is u s sst (with_access access st.rounds) (exprs.Number token)) e
    expr_fits access sst st (exprs.Char token) body own e =
        fresh_fits token (with_access access st.rounds) _ body
        (expr_is u s sst (with_access access st.rounds) (exprs.Char token)) e
    expr_fits access sst st (exprs.Text token) body own e =
        fresh_fits token (with_access access st.rounds) _ body
        (expr_is u s sst (with_access access st.rounds) (exprs.Text token)) e
    expr_fits access sst st (exprs.Cond has_middle token first last) body own e =
        fresh_fits token (with_access access st.rounds) _ body
        (expr_is u s sst (with_access access st.rounds) (exprs.Cond has_middle token first last)) e
    expr_fits access sst st (exprs.Binary sign token first last) body own e =
        fresh_fits token (with_access access st.rounds) _ body
        (expr_is u s sst (with_access access st.rounds) (exprs.Binary sign token first last)) e
    expr_fits access sst st (exprs.Prefix sign token last aims) body own e =
        fresh_fits token (with_access access st.rounds) _ body
        (expr_is u s sst (with_access access st.rounds) (exprs.Prefix sign token last aims)) e
    expr_fits access sst st (exprs.Label token) body own e =
        fresh_fits token (with_access access st.rounds) _ body
        (expr_is u s sst (with_access access st.rounds) (exprs.Label token)) e
    expr_fits access sst st op body own e = tt

    form_fits : (sst : shapes.State) (r : Rounds) (op : FormOp) → BodyOwn r →
        IsExact u s k.starts (form_key op) (form_op_starts u s sst r op) → FormFits w k.starts f op
    form_fits sst r (forms.Cast token last) body e =
        fresh_fits token r _ body (form_is u s sst r (forms.Cast token last)) e
    form_fits sst r (forms.Sizeof token) body e = fresh_fits token r _ body (form_is u s sst r (forms.Sizeof token)) e
    form_fits sst r (forms.StmtExpr has_value token) body e =
        fresh_fits token r _ body (form_is u s sst r (forms.StmtExpr has_value token)) e
    form_fits sst r (forms.VaArg token last) body e =
        fresh_fits token r _ body (form_is u s sst r (forms.VaArg token last)) e
    form_fits sst r (forms.VaStart token last) body e =
        fresh_fits token r _ body (form_is u s sst r (forms.VaStart token last)) e
    form_fits sst r (forms.VaCopy token last) body e =
        fresh_fits token r _ body (form_is u s sst r (forms.VaCopy token last)) e
    form_fits sst r (forms.OffsetMember token name) body e = tt
    form_fits sst r (forms.OffsetIndex token) body e = tt
    form_fits sst r (forms.Offset token) body e = fresh_fits token r _ body (form_is u s sst r (forms.Offset token)) e
    form_fits sst r (forms.Compat token) body e = fresh_fits token r _ body (form_is u s sst r (forms.Compat token)) e
    form_fits sst r forms.Control body e = tt
    form_fits sst r forms.NoType body e = tt
    form_fits sst r (forms.Choose token) body e = fresh_fits token r _ body (form_is u s sst r (forms.Choose token)) e
    form_fits sst r (forms.Generic token count) body e =
        fresh_fits token r _ body (form_is u s sst r (forms.Generic token count)) e

    init_fits : (access : Bool) (sst : shapes.State) (st : State) (op : InitOp) → BodyOwn st.rounds
        → IsKeyed (declared_last st.declarations) →
        IsExact u s k.starts (init_key op) (init_op_starts u s sst (with_access access st.rounds) op)
        → InitOpFits w k.starts f st op
    init_fits access sst st (inits.Value first last) body own e = initialised_fits (declared_last st.declarations) own
    init_fits access sst st inits.Rule body own e = initialised_fits (declared_last st.declarations) own
    init_fits access sst st (inits.Literal token) body own e =
        fresh_fits token (with_access access st.rounds) _ body
        (init_is u s sst (with_access access st.rounds) (inits.Literal token)) e
    init_fits access sst st op body own e = tt

    -- what is opens along the tape of the item is of its tokens

    abbrev AllDeclared : List OpenDeclaration → Type 0
    AllDeclared [] = Unit {0}
    AllDeclared (it ∷ outer) = (IsKeyed it.name × IsKeyed it.declared) × AllDeclared outer

    abbrev AllAround : List Round → Type 0
    AllAround [] = Unit {0}
    AllAround (it ∷ outer) = NamingKeyed it.naming × AllAround outer

    last_keyed : (ds : List OpenDeclaration) → AllDeclared ds → IsKeyed (declared_last ds)
    last_keyed [] h = tt
    last_keyed (it ∷ outer) h = h.0.1

    so_far_keyed : (ds : List OpenDeclaration) → AllDeclared ds → IsKeyed (name_so_far ds)
    so_far_keyed [] h = tt
    so_far_keyed (it ∷ outer) h = h.0.0

    innermost_keyed : (rs : List Round) → AllAround rs → NamingKeyed (innermost rs).naming
    innermost_keyed [] h = tt
    innermost_keyed (it ∷ outer) h = h.0

    declr_fits : (st : State) (op : DeclrOp) → OpContext t st (ops.Declr op) → IsKeyed (declr_key op) →
        AllAround st.rounds.around → DeclrFits w k.starts f st op
    declr_fits st (declrs.DeclName token name) its keyed around_ =
        naming_fits token (naming st.rounds) keyed its.params (innermost_keyed st.rounds.around around_)
    declr_fits st op its keyed around_ = tt

    stmt_fits : (st : State) (op : StmtOp) → OpContext t st (ops.Stmt op) → AllDeclared st.declarations →
        StmtFits w k.starts f st op
    stmt_fits st stmts.FunctionBody its opens =
        function_fits (declared_last st.declarations) its.begins (last_keyed st.declarations opens)
    stmt_fits st op its opens = tt

    body_own : (body : Option ℕ) → BodyIsOf t body → IsOwn f (function_at u s body)
    body_own body (inl e) = inl (ap (function_at u s) e)
    body_own body (inr e) = inr (ap (function_at u s) e)

    op_fits : (access : Bool) (sst : shapes.State) (st : State) (op : Op) → OpContext t st op → IsKeyed (op_key op) →
        AllDeclared st.declarations → AllAround st.rounds.around →
        IsExact u s k.starts (op_key op) (op_starts u s sst (with_access access st.rounds) op)
        → OpFits w k.starts f st op
    op_fits access sst st (ops.Expr op) its keyed opens around_ e =
        expr_fits access sst st op (body_own st.rounds.body its.body) keyed e
    op_fits access sst st (ops.Form op) its keyed opens around_ e =
        form_fits sst (with_access access st.rounds) op (body_own st.rounds.body its.body) e
    op_fits access sst st (ops.Init op) its keyed opens around_ e =
        init_fits access sst st op (body_own st.rounds.body its.body) (last_keyed st.declarations opens) e
    op_fits access sst st (ops.Spec op) its keyed opens around_ e = tt
    op_fits access sst st (ops.Declr op) its keyed opens around_ e = declr_fits st op its keyed around_
    op_fits access sst st (ops.Stmt op) its keyed opens around_ e = stmt_fits st op its opens

    -- steps

    outer_open : (ds : List OpenDeclaration) → AllDeclared ds → AllDeclared (shapes.without_innermost ds)
    outer_open [] h = tt
    outer_open (it ∷ outer) h = h.1

    named_open : (token : ℕ) (ds : List OpenDeclaration) → IsKeyed (Some token) → AllDeclared ds →
        AllDeclared (changed (shapes.with_name token) ds)
    named_open token [] keyed h = tt
    named_open token (it ∷ outer) keyed h = ((keyed, h.0.1), h.1)

    declared_open : (ds : List OpenDeclaration) → AllDeclared ds → AllDeclared (changed shapes.with_declared ds)
    declared_open [] h = tt
    declared_open (it ∷ outer) h = ((tt, h.0.0), h.1)

    unnamed_open : (ds : List OpenDeclaration) → AllDeclared ds → AllDeclared (changed shapes.without_name ds)
    unnamed_open [] h = tt
    unnamed_open (it ∷ outer) h = ((tt, h.0.1), h.1)

    opens_keyed : (ds : List OpenDeclaration) (op : Op) → IsKeyed (op_key op) → AllDeclared ds
        → AllDeclared (opens op ds)
    opens_keyed ds (ops.Spec specs.SpecsEnd) keyed h = ((tt, tt), h)
    opens_keyed ds (ops.Spec op) keyed h = h
    opens_keyed ds (ops.Declr (declrs.DeclName token name)) keyed h = named_open token ds keyed h
    opens_keyed ds (ops.Declr declrs.Param) keyed h = outer_open ds h
    opens_keyed ds (ops.Declr declrs.Declare) keyed h = declared_open ds h
    opens_keyed ds (ops.Declr (declrs.AutoEnd token)) keyed h = declared_open ds h
    opens_keyed ds (ops.Declr declrs.OldParam) keyed h = declared_open ds h
    opens_keyed ds (ops.Declr declrs.Member) keyed h = unnamed_open ds h
    opens_keyed ds (ops.Declr (declrs.TypeName first)) keyed h = outer_open ds h
    opens_keyed ds (ops.Declr declrs.DeclarationEnd) keyed h = outer_open ds h
    opens_keyed ds (ops.Declr op) keyed h = h
    opens_keyed ds op keyed h = h

    step_open : (st : State) (op : Op) → IsKeyed (op_key op) → AllDeclared st.declarations →
        AllDeclared (step w st op).declarations
    step_open st op keyed h =
        subst AllDeclared (sym (row_opens w st op)) (opens_keyed st.declarations op keyed h)

    left_around : (rs : List Round) → AllAround rs → AllAround (shapes.without_innermost rs)
    left_around [] h = tt
    left_around (it ∷ outer) h = h.1

    next_keyed : (it : Naming) → NamingKeyed it → NamingKeyed (next_naming it)
    next_keyed a_name h = tt
    next_keyed (own_param g n) h = h
    next_keyed other_param h = tt
    next_keyed (identified_param g) h = h

    identified_keyed : (it : Naming) → NamingKeyed it → NamingKeyed (identified_naming it)
    identified_keyed a_name h = tt
    identified_keyed (own_param g n) h = h
    identified_keyed other_param h = tt
    identified_keyed (identified_param g) h = h

    identified_around : (rs : List Round) → AllAround rs → AllAround (changed identified_round rs)
    identified_around [] h = tt
    identified_around (it ∷ outer) h = (identified_keyed it.naming h.0, h.1)

    next_around : (rs : List Round) → AllAround rs → AllAround (changed next_round rs)
    next_around [] h = tt
    next_around (it ∷ outer) h = (next_keyed it.naming h.0, h.1)

    params_keyed : (own : Bool) (ds : List OpenDeclaration) → AllDeclared ds → NamingKeyed (params_naming own ds)
    params_keyed true ds h = so_far_keyed ds h
    params_keyed false ds h = tt

    form_around : (r : Rounds) (op : FormOp) → AllAround r.around → AllAround (form_round r op).around
    form_around r (forms.Sizeof token) h = left_around r.around h
    form_around r (forms.Offset token) h = left_around r.around h
    form_around r (forms.Compat token) h = left_around r.around h
    form_around r forms.Control h = left_around r.around h
    form_around r op h = h

    spec_around : (r : Rounds) (op : SpecOp) → AllAround r.around → AllAround (spec_round r op).around
    spec_around r (specs.TagBody kind token name) h = (tt, h)
    spec_around r (specs.Untagged kind token) h = (tt, h)
    spec_around r specs.BodyEnd h = left_around r.around h
    spec_around r op h = h

    declr_around : (ds : List OpenDeclaration) (r : Rounds) (op : DeclrOp) → AllDeclared ds → AllAround r.around →
        AllAround (declr_round ds r op).around
    declr_around ds r (declrs.ParamsBegin is_own) opens h = (params_keyed is_own ds opens, h)
    declr_around ds r declrs.Param opens h = next_around r.around h
    declr_around ds r declrs.ParamsEnd opens h = left_around r.around h
    declr_around ds r (declrs.Identifier token name) opens h = identified_around r.around h
    declr_around ds r op opens h = h

    stmt_around : (ds : List OpenDeclaration) (r : Rounds) (op : StmtOp) → AllAround r.around →
        AllAround (stmt_round ds r op).around
    stmt_around ds r stmts.Quiet h = (tt, h)
    stmt_around ds r stmts.Loud h = left_around r.around h
    stmt_around ds r stmts.Enter h = (tt, h)
    stmt_around ds r stmts.Leave h = left_around r.around h
    stmt_around ds r op h = h

    step_around : (st : State) (op : Op) → AllDeclared st.declarations → AllAround st.rounds.around →
        AllAround (step w st op).rounds.around
    step_around st (ops.Expr op) opens h = h
    step_around st (ops.Form op) opens h = form_around st.rounds op h
    step_around st (ops.Init op) opens h = h
    step_around st (ops.Spec op) opens h = spec_around st.rounds op h
    step_around st (ops.Declr op) opens h = declr_around st.declarations st.rounds op opens h
    step_around st (ops.Stmt op) opens h = stmt_around st.declarations st.rounds op h

    -- along the tape

    abbrev pub AreKeyed : List Op → Type 0
    AreKeyed tape = (p : Place) → has_place (key_places u tape) p ≡ true → has_place i.keys p ≡ true

    head_keyed : (key : Option ℕ) (qs : List Place) →
        ((p : Place) → has_place (key_place u key ++ qs) p ≡ true → has_place i.keys p ≡ true) → IsKeyed key
    head_keyed None qs h = tt
    head_keyed (Some token) qs h = h (place u token) (has_itself (place u token) qs)

    pub along : (access : Bool) (tape : List Op) (sst : shapes.State) (st : State) → Alike w sst st → AreKeyed tape →
        ContextsAlong w t st tape → AllDeclared st.declarations → AllAround st.rounds.around →
        ExactAlong u s k.starts sst (with_access access st.rounds) tape → OpsFit w k.starts f st tape
    along access [] sst st same keyed its opens around_ e = tt
    along access (op ∷ tape) sst st same keyed its opens around_ e =
        let here = head_keyed (op_key op) (key_places u tape) keyed in (
          op_fits access sst st op its.0 here opens around_ e.0,
          along access tape (shape_steps.step u s sst op) (step w st op) (alike w sst st op same)
              (λ p has. keyed p (has_right (key_place u (op_key op)) (key_places u tape) p has)) its.1
              (step_open st op here opens) (step_around st op opens around_)
              (subst (λ (r : Rounds). ExactAlong u s k.starts (shape_steps.step u s sst op) r tape)
              (step_access access st.declarations st.rounds op) (subst (λ (ds : List OpenDeclaration). ExactAlong u s
              k.starts (shape_steps.step u s sst op) (round_step ds (with_access access st.rounds) op) tape) same e.1)),
        )
