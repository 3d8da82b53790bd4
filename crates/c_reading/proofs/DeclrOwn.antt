-- The parameters around the name of a declarator that is made of another.
use Rattle.std.proofs.Common.{◌≡◌, ℕ, Bool, true, false, List, Option, Some, None, refl, sym, ◌∙◌, ap}
use Rattle.std.specs.Prelude.{is_some, option_map, if◌then◌else◌}
use Rattle.c_syntax.specs.declared.parts.Attr.{Attr}
use Rattle.c_syntax.specs.declared.parts.PointerWord.{PointerWord}
use Rattle.c_syntax.specs.declared.parts.ArrayWord.{ArrayWord}
use Rattle.c_tree.specs.Tree.{Dots, Declr, pointer, declr_name, declr_paren, array, params, abs_pointer, abs_paren, abs_array, abs_params, identifiers, base_name, no_params, SomeDeclr, no_declr, some_declr, SomeSize, Params}
use Rattle.c_tree.specs.WellFormed.{is_named, is_bare_name}
use Rattle.c_syntax.specs.declared.parts.Identifier.{Identifier}
use Rattle.typedef_scope.specs.declared.kind.Kind.{Kind}
use Rattle.c_units.specs.HeldScopes.{HeldScopes, enter, innermost, new_scope, is_wide}
use Rattle.c_units.specs.Scoping.{at_name, declr_scopes, some_declr_scopes, params_scopes}
use Rattle.c_units.specs.Units.{OwnParams, bare_name, own_params, or_those_of}
use Rattle.c_reading.specs.Declaring.{with_pointer, with_paren, with_array, with_params, closed_by}
use Rattle.c_reading.proofs.Forms.{behind_is}
use Rattle.c_reading.proofs.Aims.{own_scope_in, some_own_params, closed_of}

-- declarators without a name have no parameters around one

-- a declarator without a name has no parameters directly around one
pub own_none : (d : Declr) → is_named d ≡ false → own_params d ≡ None
own_none (pointer sign words d) e = absurd cc
own_none (declr_name token name) e = absurd cc
own_none (declr_paren opening attrs d closing) e = absurd cc
own_none (array d opening words size closing) e = absurd cc
own_none (params d opening ps dots closing) e = absurd cc
own_none (identifiers d opening names closing) e = absurd cc
own_none (base_name token) e = absurd cc
own_none (abs_pointer sign words d) e = refl
own_none (abs_paren opening attrs d closing) e = refl
own_none (abs_array d opening words size closing) e = refl
own_none (abs_params d opening ps dots closing) e = refl

-- a declarator without a name is not a bare name
pub bare_none : (d : Declr) → is_named d ≡ false → bare_name d ≡ None
bare_none (pointer sign words d) e = absurd cc
bare_none (declr_name token name) e = absurd cc
bare_none (declr_paren opening attrs d closing) e = absurd cc
bare_none (array d opening words size closing) e = absurd cc
bare_none (params d opening ps dots closing) e = absurd cc
bare_none (identifiers d opening names closing) e = absurd cc
bare_none (base_name token) e = absurd cc
bare_none (abs_pointer sign words d) e = refl
bare_none (abs_paren opening attrs d closing) e = refl
bare_none (abs_array d opening words size closing) e = refl
bare_none (abs_params d opening ps dots closing) e = refl

-- what stands in a pointer, parentheses, brackets has the parameters around its name

-- a pointer has the parameters around the name that what it points from has
pub own_pointer : (token : ℕ) (words : List PointerWord) (d : SomeDeclr)
    → own_params (with_pointer token words d) ≡ some_own_params d
own_pointer token words no_declr = refl
own_pointer token words (some_declr d) = either (is_named d) refl
  where
    either : (b : Bool) → is_named d ≡ b
        → own_params (if b then pointer token words d else abs_pointer token words (some_declr d)) ≡ own_params d
    either true is = refl
    either false is = sym (own_none d is)

-- a declarator in parentheses has the parameters around the name that it has without them
pub own_paren : (opening : ℕ) (attrs : List Attr) (d : Declr) (closing : ℕ)
    → own_params (with_paren opening attrs d closing) ≡ own_params d
own_paren opening attrs d closing = either (is_named d) refl
  where
    either : (b : Bool) → is_named d ≡ b
        → own_params (if b then declr_paren opening attrs d closing else abs_paren opening attrs d closing)
        ≡ own_params d
    either true is = refl
    either false is = sym (own_none d is)

-- an array has the parameters around the name that its declarator has
pub own_array : (d : SomeDeclr) (opening : ℕ) (words : List ArrayWord) (size : SomeSize) (closing : ℕ)
    → own_params (with_array d opening words size closing) ≡ some_own_params d
own_array no_declr opening words size closing = refl
own_array (some_declr d) opening words size closing = either (is_named d) refl
  where
    either : (b : Bool) → is_named d ≡ b
        → own_params (if b then array d opening words size closing
        else abs_array (some_declr d) opening words size closing) ≡ own_params d
    either true is = refl
    either false is = sym (own_none d is)

-- the name of a declarator that is bare
abbrev pub some_bare : SomeDeclr → Option ℕ
some_bare no_declr = None
some_bare (some_declr d) = bare_name d

-- parameters behind a bare name are those around it; behind other declarators those inside stay
pub own_with_params : (d : SomeDeclr) (opening : ℕ) (ps : Params) (dots : Option Dots) (closing : ℕ)
    → own_params (with_params d opening ps dots closing) ≡ or_those_of (some_bare d) ps (some_own_params d)
own_with_params no_declr opening ps dots closing = refl
own_with_params (some_declr d) opening ps dots closing = either (is_named d) refl
  where
    either : (b : Bool) → is_named d ≡ b
        → own_params (if b then params d opening ps dots closing else abs_params (some_declr d) opening ps dots closing)
        ≡ or_those_of (bare_name d) ps (own_params d)
    either true is = refl
    either false is = rw (bare_none d is, own_none d is) refl

-- a bare declarator changes scopes as its name does
pub bare_scopes : (wanted : Option Kind) (d : Declr) (name : ℕ) (s : HeldScopes) → bare_name d ≡ Some name
    → declr_scopes wanted d s ≡ at_name wanted name s
bare_scopes wanted (pointer sign words d) name s e = absurd cc
bare_scopes wanted (declr_name token n) name s e = ap (λ (m : ℕ). at_name wanted m s) (some_is n name e)
  where
    some_is : (a b : ℕ) → Some a ≡ Some b → a ≡ b
    some_is a b e = cc
bare_scopes wanted (declr_paren opening attrs d closing) name s e = bare_scopes wanted d name s e
bare_scopes wanted (array d opening words size closing) name s e = absurd cc
bare_scopes wanted (params d opening ps dots closing) name s e = absurd cc
bare_scopes wanted (identifiers d opening names closing) name s e = absurd cc
bare_scopes wanted (base_name token) name s e = absurd cc
bare_scopes wanted (abs_pointer sign words d) name s e = absurd cc
bare_scopes wanted (abs_paren opening attrs d closing) name s e = absurd cc
bare_scopes wanted (abs_array d opening words size closing) name s e = absurd cc
bare_scopes wanted (abs_params d opening ps dots closing) name s e = absurd cc

-- the scope that the parameters directly around the name close
pub closed_with_params : (wanted : Option Kind) (d : SomeDeclr) (opening : ℕ) (ps : Params) (dots : Option Dots)
    (closing : ℕ) (s t u : HeldScopes)
    → some_declr_scopes wanted d s ≡ Some t → params_scopes ps (enter t) ≡ Some u →
    closed_by d (innermost u) (closed_of wanted d s)
    ≡ closed_of wanted (some_declr (with_params d opening ps dots closing)) s
closed_with_params wanted d opening ps dots closing s t u named inside =
    by_bare d named ∙ ap (λ (o : Option OwnParams). option_map innermost (own_scope_in wanted o s))
    (sym (own_with_params d opening ps dots closing))
  where
    by_name : (d : Declr) (o : Option ℕ) → bare_name d ≡ o → declr_scopes wanted d s ≡ Some t →
        (if is_some o then Some (innermost u) else closed_of wanted (some_declr d) s)
        ≡ option_map innermost (own_scope_in wanted (or_those_of o ps (own_params d)) s)
    by_name d None is named = refl
    by_name d (Some name) is named =
        let at : at_name wanted name s ≡ Some t = sym (bare_scopes wanted d name s is) ∙ named in
        sym (ap (option_map innermost) (behind_is (λ (t : HeldScopes). params_scopes ps (enter t)) at inside))

    by_bare : (d : SomeDeclr) → some_declr_scopes wanted d s ≡ Some t →
        closed_by d (innermost u) (closed_of wanted d s)
        ≡ option_map innermost (own_scope_in wanted (or_those_of (some_bare d) ps (some_own_params d)) s)
    by_bare no_declr named = refl
    by_bare (some_declr d) named = by_name d (bare_name d) refl named

-- behind a list of identifiers, the scope of the declarations has no names yet
pub closed_with_identifiers : (wanted : Option Kind) (d : Declr) (opening : ℕ) (names : List Identifier) (closing : ℕ)
    (s t : HeldScopes)
    → is_some (bare_name d) ≡ true → declr_scopes wanted d s ≡ Some t →
    Some (new_scope (is_wide t)) ≡ closed_of wanted (some_declr (identifiers d opening names closing)) s
closed_with_identifiers wanted d opening names closing s t bare named = by_name (bare_name d) refl bare
  where
    by_name : (o : Option ℕ) → bare_name d ≡ o → is_some o ≡ true
        → Some (new_scope (is_wide t))
        ≡ option_map innermost (own_scope_in wanted (or_those_of o no_params (own_params d)) s)
    by_name None is bare = absurd cc
    by_name (Some name) is bare =
        let at : at_name wanted name s ≡ Some t = sym (bare_scopes wanted d name s is) ∙ named in
        sym (ap (option_map innermost) (behind_is (λ (t : HeldScopes). params_scopes no_params (enter t)) at refl))

-- a bare declarator is a name, parentheses aside
pub bare_is : (d : Declr) → is_some (bare_name d) ≡ true → is_bare_name d ≡ true
bare_is (pointer sign words d) e = absurd cc
bare_is (declr_name token n) e = refl
bare_is (declr_paren opening attrs d closing) e = bare_is d e
bare_is (array d opening words size closing) e = absurd cc
bare_is (params d opening ps dots closing) e = absurd cc
bare_is (identifiers d opening names closing) e = absurd cc
bare_is (base_name token) e = absurd cc
bare_is (abs_pointer sign words d) e = absurd cc
bare_is (abs_paren opening attrs d closing) e = absurd cc
bare_is (abs_array d opening words size closing) e = absurd cc
bare_is (abs_params d opening ps dots closing) e = absurd cc

-- a declarator that is a bare name has a name
pub bare_named : (d : Declr) → is_some (bare_name d) ≡ true → is_named d ≡ true
bare_named d bare = by_named (is_named d) refl
  where
    by_named : (b : Bool) → is_named d ≡ b → b ≡ true
    by_named true is = refl
    by_named false is = let none = bare_none d is in absurd cc
