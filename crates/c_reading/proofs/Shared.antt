-- Readers that more than one family has: specifiers that a node begins with, a declarator with a name, an initialiser.
use Rattle.std.proofs.Common.{◌≡◌, ℕ, ◌<◌, ◌≤◌, Bool, true, false, List, length, Option, Some, inl, inr, refl, sym, ◌∙◌, ap, subst, arith}
use Rattle.std.specs.Prelude.{◌+◌, ◌-◌, ◌||◌, ◌&&◌, ◌⊎◌}
use Rattle.c_tree.specs.declared.lexeme.Lexeme.{Lexeme}
use Rattle.c_tree.specs.Tree.{SpecWords, no_words, more_words, Declr, pointer, declr_name, declr_paren, array, params, abs_pointer, abs_paren, abs_array, abs_params, identifiers, base_name, SomeDeclr, no_declr, some_declr, Init, init_value, init_braced, init_list}
use Rattle.c_tree.specs.Text.{spec_words_text, declr_text, expr_text, init_text}
use Rattle.c_tree.specs.Height.{specs_height, declr_height}
use Rattle.c_tree.specs.Specifiers.{IsMix}
use Rattle.c_words.specs.declared.kinds.Keyword.TheVariants as keywords
use Rattle.c_specs.specs.declared.mix.Class.TheVariants as classes
use Rattle.c_specs.specs.Mix.{goes_on}
use Rattle.c_tree.specs.WellFormed.{lists_identifiers, begins_base, IsDeclr, IsInit, is_named, ends_starred}
use Rattle.typedef_scope.specs.declared.kind.Kind.{Kind}
use Rattle.c_units.specs.HeldScopes.{HeldScopes, is_wide, is_typedef}
use Rattle.c_units.specs.Scoping.{behind, where_true, in_own_scope, spec_words_scopes, declr_scopes, identifiers_scopes, params_scopes, some_size_scopes, init_scopes}
use Rattle.c_reading.specs.declared.kinds.Reach.TheVariants.{Assigned}
use Rattle.c_reading.specs.declared.kinds.Role.{Role}
use Rattle.c_reading.specs.declared.kinds.Role.TheVariants.{Declaring, Typed, Naming}
use Rattle.c_reading.specs.declared.kinds.Mode.TheVariants.{Named}
use Rattle.c_reading.specs.Reading.{Found, IsTail, fits, kind_at}
use Rattle.c_reading.specs.Tokens.{is_open_brace, is_base_word}
use Rattle.c_reading.specs.Parts.{Inner, nothing, Declared}
use Rattle.c_reading.specs.Specifying.{begins_role, begins_specs, present, specs_here, named_declr}
use Rattle.c_reading.specs.Expressing.{begins_expr}
use Rattle.c_reading.specs.Initialising.{init_with, begins_init}
use Rattle.c_reading.proofs.Binding.{found, done, bind_ok, bind_is, fits_ok, fits_is, if_ok}
use Rattle.c_reading.proofs.KindFacts.{expr_no_open_brace}
use Rattle.c_reading.proofs.Forms.{Form, Shrinks, Takes, IsSound, IsComplete, at_end, behind_ok}
use Rattle.c_reading.proofs.Aims.{ends_specs, ends_suffix, ends_expr, init_form, EndsWords, FitsRole, TakesWords, TakesDeclr, Laws, FirstLaws}

-- a declarator with a name does not end with a star
pub named_ends : (all : List Lexeme) (d : Declr) → IsDeclr all d → is_named d ≡ true → ends_starred d ≡ false
named_ends all (pointer star words d) h n = named_ends all d h.1 h.2
named_ends all (declr_name token name) h n = refl
named_ends all (declr_paren opening attrs d closing) h n = refl
named_ends all (array d opening words size closing) h n = refl
named_ends all (params d opening ps dots closing) h n = refl
named_ends all (identifiers d opening names closing) h n = refl
named_ends all (base_name token) h n = refl
named_ends all (abs_pointer star words d) h n = absurd cc
named_ends all (abs_paren opening attrs d closing) h n = refl
named_ends all (abs_array d opening words size closing) h n = refl
named_ends all (abs_params d opening ps dots closing) h n = refl

-- a declarator that begins with a base word stands where a typedef name is declared
pub no_base : (wanted : Option Kind) → is_typedef wanted ≡ false → (d : Declr) (s t : HeldScopes)
    → declr_scopes wanted d s ≡ Some t → begins_base d ≡ false
no_base wanted plain (base_name token) s t e = by_wide (is_wide s) (is_typedef wanted) plain e
  where
    by_wide : (a b : Bool) → b ≡ false → where_true (a && b) s ≡ Some t → true ≡ false
    by_wide false b plain e = absurd cc
    by_wide true false plain e = absurd cc
    by_wide true true plain e = absurd cc
no_base wanted plain (array d opening words size closing) s t e =
    let b = behind_ok (declr_scopes wanted d s) (some_size_scopes size) t e in
    no_base wanted plain d s b.0 b.1
no_base wanted plain (params d opening ps dots closing) s t e =
    let b = behind_ok (declr_scopes wanted d s) (in_own_scope (params_scopes ps)) t e in
    no_base wanted plain d s b.0 b.1
no_base wanted plain (identifiers d opening names closing) s t e =
    let b =
    behind_ok (declr_scopes wanted d s) (λ t. behind (where_true (is_wide t) t) (identifiers_scopes names)) t e in
    no_base wanted plain d s b.0 b.1
no_base wanted plain (declr_name token name) s t e = refl
no_base wanted plain (declr_paren opening attrs d closing) s t e = refl
no_base wanted plain (pointer star words d) s t e = refl
no_base wanted plain (abs_pointer star words d) s t e = refl
no_base wanted plain (abs_paren opening attrs d closing) s t e = refl
no_base wanted plain (abs_array d opening words size closing) s t e = refl
no_base wanted plain (abs_params d opening ps dots closing) s t e = refl

-- what a declarator that must be there is
pub present_ok : (d : SomeDeclr) (s : HeldScopes) (ts : List Lexeme) (x : Found Declr) → present d s ts ≡ done x
    → (d ≡ some_declr x.tree) × (found x.tree s ts ≡ x)
present_ok no_declr s ts x e = absurd cc
present_ok (some_declr d) s ts x e =
    at_end (λ x. (some_declr d ≡ some_declr x.tree) × (found x.tree s ts ≡ x)) e (refl, refl)

module _ (all : List Lexeme) where
  abbrev pub specs_form : Role → Form SpecWords
  specs_form role = record {
    text = spec_words_text all;
    Fits = λ ws. IsMix ws × FitsRole all role ws;
    scopes = spec_words_scopes;
    height = λ ws. specs_height ws + 1;
  }

  abbrev pub named_form : Option Kind → Form Declr
  named_form wanted = record {
    text = declr_text all;
    Fits = λ d. IsDeclr all d × (is_named d ≡ true) × (lists_identifiers d ≡ false);
    scopes = declr_scopes wanted;
    height = declr_height;
  }

  specs_high : (ws : SpecWords) → 1 ≤ specs_height ws
  specs_high no_words = omega arith
  specs_high (more_words w ws) = let rest : 1 ≤ specs_height ws = specs_high ws in omega (arith, rest)

  module _ (n : ℕ) (inner : Inner) (laws : Laws all n inner) where
    pub specs_here_shrinks : (role : Role) (room : ℕ) → Shrinks (specs_here inner role room)
    unfolding specs_here
    specs_here_shrinks role room s ts x e =
        if_ok (begins_role role s (kind_at ts)) e
        (λ is e. laws.words.shrinks role (room - 1) s ts x (fits_ok _ _ _ e).1) (λ is e. absurd cc)

    -- before a base word stand words that it does not continue
    pub specs_here_stops : (role : Role) (room : ℕ) (s : HeldScopes) (ts : List Lexeme) (x : Found SpecWords)
        → IsTail all ts → specs_here inner role room s ts ≡ done x →
        is_base_word (kind_at x.rest) ≡ true → goes_on x.tree (classes.Spells keywords.BaseWord) ≡ false
    unfolding specs_here
    specs_here_stops role room s ts x tail e base =
        if_ok (begins_role role s (kind_at ts)) e (λ is e.
        (laws.words.sound role no_words (room - 1) s ts x tail (fits_ok _ _ _ e).1).stops base) (λ is e. absurd cc)

    pub specs_here_sound : (role : Role) (room : ℕ) → IsSound all (specs_form role) room (specs_here inner role room)
    unfolding specs_here
    specs_here_sound role room s ts x tail e =
        if_ok (begins_role role s (kind_at ts)) e (λ is e.
        let r = fits_ok _ _ _ e in
        takes r.0 (laws.words.sound role no_words (room - 1) s ts x tail r.1)) (λ is e. absurd cc)
      where
        takes : 2 ≤ room → TakesWords all role no_words (room - 1) s ts x → Takes all (specs_form role) room s ts x
        takes least t = record {
          spelled = t.spelled ∙ ap (λ (ws : SpecWords). spec_words_text all ws x.rest) (sym t.words_are);
          fits = (t.mix, subst (FitsRole all role) (sym t.words_are) t.fits);
          named = ap (λ (ws : SpecWords). spec_words_scopes ws s) t.words_are ∙ t.named;
          low = by_low t.low;
          left = t.left;
        }
          where
            by_low : (t.rest ≡ no_words) ⊎ (specs_height x.tree ≤ room - 1) → specs_height x.tree + 1 ≤ room
            by_low (inl none) = let same : x.tree ≡ no_words = t.words_are ∙ none in rw same (omega (arith, least))
            by_low (inr low) = omega (arith, low, least)

    role_begins : (firsts : FirstLaws all) (role : Role) (ws : SpecWords) (s s' : HeldScopes) (k : List Lexeme)
        → IsMix ws → FitsRole all role ws → spec_words_scopes ws s ≡ Some s' →
        begins_specs s (kind_at (spec_words_text all ws k)) ≡ true
    role_begins firsts Declaring ws s s' k mix fits named = firsts.words_begin ws s s' k mix fits named
    role_begins firsts Typed ws s s' k mix fits named = firsts.words_begin ws s s' k mix fits.0 named
    role_begins firsts Naming ws s s' k mix fits named = firsts.type_words_begin ws s s' k mix fits named

    -- before a token that does not go on with the words, a base word behind a `typedef` among them
    pub specs_here_ended : (firsts : FirstLaws all) (role : Role) (room : ℕ) → room ≤ n
        → (ws : SpecWords) (s s' : HeldScopes) (k : List Lexeme) → IsMix ws → FitsRole all role ws →
        spec_words_scopes ws s ≡ Some s' → specs_height ws + 1 ≤ room → EndsWords s' ws (kind_at k)
        → specs_here inner role room s (spec_words_text all ws k) ≡ done (found ws s' k)
    unfolding specs_here
    specs_here_ended firsts role room less ws s s' k mix fits named low ended =
        let high : 1 ≤ specs_height ws = specs_high ws in
        let begun = role_begins firsts role ws s s' k mix fits named in
        rw (begun, firsts.words_stand role ws s s' k mix fits named)
        (fits_is 2 room (spec_words_text all ws k) _ (omega (arith, low, high)) ∙
        laws.words.complete role no_words ws (room - 1) (omega (arith, low, high, less)) s s' k mix fits named
        (inr (omega (arith, low))) ended)

    pub specs_here_complete : (firsts : FirstLaws all) (role : Role) (room : ℕ) → room ≤ n
        → IsComplete (specs_form role) (λ ws. ends_specs) room (specs_here inner role room)
    specs_here_complete firsts role room less ws s s' k fits named low ended =
        specs_here_ended firsts role room less ws s s' k fits.0 fits.1 named low (inl ended)

    pub named_declr_shrinks : (wanted : Option Kind) (room : ℕ) → Shrinks (named_declr inner wanted room)
    unfolding named_declr
    named_declr_shrinks wanted room s ts x e =
        let a = bind_ok e in
        let less : length a.0.rest < length ts = laws.declrs.shrinks wanted false room s ts a.0 a.1 in
        let p = present_ok a.0.tree.declr a.0.scopes a.0.rest x a.2 in
        subst (λ (x : Found Declr). length x.rest < length ts) p.1 less

    pub named_declr_sound : (wanted : Option Kind) (room : ℕ)
        → IsSound all (named_form wanted) room (named_declr inner wanted room)
    unfolding named_declr
    named_declr_sound wanted room s ts x tail e =
        let a = bind_ok e in
        takes a.0 (laws.declrs.sound Named wanted false room s ts a.0 tail a.1)
        (present_ok a.0.tree.declr a.0.scopes a.0.rest x a.2)
      where
        takes : (d : Found Declared) → TakesDeclr all Named wanted false room s ts d
            → (d.tree.declr ≡ some_declr x.tree) × (found x.tree d.scopes d.rest ≡ x)
            → Takes all (named_form wanted) room s ts x
        takes d t p = subst (Takes all (named_form wanted) room s ts) p.1 (record {
          spelled = rw p.0 at t.spelled;
          fits = plain (rw p.0 at t.fits) (rw p.0 at t.plain refl);
          named = rw p.0 at t.named;
          low = rw p.0 at t.low;
          left = t.left;
        })
          where
            plain : IsDeclr all x.tree × (is_named x.tree ≡ true) → lists_identifiers x.tree ≡ false
                → IsDeclr all x.tree × (is_named x.tree ≡ true) × (lists_identifiers x.tree ≡ false)
            plain f g = (f.0, f.1, g)

    pub named_declr_complete : (wanted : Option Kind) (room : ℕ) → room < n
        → IsComplete (named_form wanted) (λ d. ends_suffix) room (named_declr inner wanted room)
    unfolding named_declr
    named_declr_complete wanted room less d s s' k fits named low ended =
        bind_is _ (laws.declrs.complete Named wanted false room less tt (some_declr d) s s' k (fits.0, fits.1)
        (inr fits.2) named low (rw (named_ends all d fits.0 fits.1) ended)) refl

    pub init_shrinks : (room : ℕ) → Shrinks (init_with inner room)
    unfolding init_with
    init_shrinks room s ts x e =
        if_ok (is_open_brace (kind_at ts)) e
        (λ is e. let a = bind_ok e in
        let less : length a.0.rest < length ts = laws.lists.shrinks room s ts a.0 a.1 in
        at_end (λ (x : Found Init). length x.rest < length ts) a.2 less)
        (λ is e. let a = bind_ok e in
        let less : length a.0.rest < length ts = laws.exprs.shrinks Assigned nothing room s ts a.0 a.1 in
        at_end (λ (x : Found Init). length x.rest < length ts) a.2 less)

    pub init_sound : (room : ℕ) → IsSound all (init_form all) room (init_with inner room)
    unfolding init_with
    init_sound room s ts x tail e =
        if_ok (is_open_brace (kind_at ts)) e
        (λ is e. let a = bind_ok e in
        let i = laws.lists.sound room s ts a.0 tail a.1 in
        at_end (Takes all (init_form all) room s ts) a.2
        (record { spelled = i.spelled; fits = i.fits; named = i.named; low = i.low; left = i.left }))
        (λ is e. let a = bind_ok e in
        let i = laws.exprs.sound Assigned room s ts a.0 tail a.1 in
        at_end (Takes all (init_form all) room s ts) a.2
        (record { spelled = i.spelled; fits = i.fits; named = i.named; low = i.low; left = i.left }))

    pub init_begins : (firsts : FirstLaws all) (i : Init) (s s' : HeldScopes) (k : List Lexeme) → IsInit all i
        → init_scopes i s ≡ Some s' → begins_init s (kind_at (init_text all i k)) ≡ true
    init_begins firsts (init_value e) s s' k h named =
        by_brace (is_open_brace (kind_at (expr_text all e k))) (firsts.expr_begins e s s' k h.0 named)
      where
        by_brace : (b : Bool) → begins_expr s (kind_at (expr_text all e k)) ≡ true
            → (b || begins_expr s (kind_at (expr_text all e k))) ≡ true
        by_brace true begun = refl
        by_brace false begun = begun
    init_begins firsts (init_braced (init_list opening items last closing)) s s' k h named = refl

    pub init_complete : (firsts : FirstLaws all) (room : ℕ) → room < n
        → IsComplete (init_form all) (λ i. ends_expr Assigned) room (init_with inner room)
    unfolding init_with
    init_complete firsts room less (init_value e) s s' k fits named low ended =
        let begun = firsts.expr_begins e s s' k fits.0 named in
        rw (expr_no_open_brace s (kind_at (expr_text all e k)) begun)
        (bind_is _ (laws.exprs.complete Assigned room less e s s' k fits named low ended) refl)
    init_complete firsts room less (init_braced (init_list opening items last closing)) s s' k fits named low ended =
        bind_is _ (laws.lists.complete room less (init_list opening items last closing) s s' k fits named low refl) refl
