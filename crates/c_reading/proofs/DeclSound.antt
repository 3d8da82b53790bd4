-- What the readers of declarations take is spelled so and well formed.
use Rattle.std.proofs.Common.{◌≡◌, ℕ, ◌<◌, ◌≤◌, Bool, true, false, List, [], ◌∷◌, length, Option, Some, None, inl, inr, refl, sym, ◌∙◌, ap, subst, arith}
use Rattle.std.specs.Prelude.{◌+◌, ◌-◌, max, ◌⊎◌, if◌then◌else◌}
use Rattle.c_words.specs.declared.kinds.TokenKind.{TokenKind}
use Rattle.c_words.specs.declared.kinds.TokenKind.TheVariants as kinds
use Rattle.c_words.specs.declared.kinds.Punct.TheVariants as puncts
use Rattle.c_words.specs.declared.kinds.Keyword.TheVariants as keywords
use Rattle.c_tree.specs.declared.lexeme.Lexeme.{Lexeme}
use Rattle.c_syntax.specs.declared.parts.Attr.{Attr}
use Rattle.c_syntax.specs.declared.parts.AsmLabel.{AsmLabel}
use Rattle.c_tree.specs.Tree.{Expr, SpecWords, no_words, more_words, Declr, some_declr, init_value, some_init, Declaration, declaration, declr_name, InitDeclrs, no_init_declrs, more_init_declrs}
use Rattle.c_tree.specs.Text.{sign_text, keyword_text, expr_text, attrs_text, label_text, declr_text, spec_word_text, spec_words_text, init_declrs_text, extensions_text}
use Rattle.c_tree.specs.Height.{attrs_height, expr_height, label_height, declr_height, some_init_height, specs_height, init_declrs_height}
use Rattle.c_tree.specs.Specifiers.{IsMix, storage_words}
use Rattle.c_tree.specs.WellFormed.{AreSpecWords, AreAttrs, IsLabel, IsDeclr, is_named, lists_identifiers, has_auto, IsAutoDeclr, IsAutoWhere, IsInitStart, AreInitDeclrs, IsDeclaration}
use Rattle.typedef_scope.specs.declared.kind.Kind.{Kind}
use Rattle.typedef_scope.specs.declared.kind.Kind.TheVariants.{Value}
use Rattle.c_specs.specs.declared.mix.Class.TheVariants as classes
use Rattle.c_specs.specs.Mix.{goes_on}
use Rattle.c_specs.specs.Laws.{MixesGoOn}
use Rattle.c_reading.specs.declared.kinds.Reach.TheVariants.{Assigned}
use Rattle.c_reading.specs.Declaring.{name_held}
use Rattle.c_reading.specs.Specifying.{present}
use Rattle.c_reading.proofs.BaseWords.{words_declrs_scopes, base_start, no_typedef, among_typedef}
use Rattle.c_specs.specs.Reading.{append_words}
use Rattle.c_reading.specs.declared.kinds.Role.TheVariants.{Declaring}
use Rattle.c_units.specs.HeldScopes.{HeldScopes, release}
use Rattle.c_units.specs.Scoping.{behind, at_name, is_base, has_typedef_word, expr_scopes, auto_declrs_scopes, declared_kind, spec_word_scopes, spec_words_scopes, declr_scopes, init_scopes, some_init_scopes, init_declrs_scopes, declaration_scopes}
use Rattle.c_reading.specs.Reading.{Found, Reader, and_then, kind_at, Next, CommaList, IsNumbered, IsTail, listed}
use Rattle.c_reading.specs.Tokens.{is_semicolon, is_equal, is_asm, is_base_word, spelled_name}
use Rattle.c_reading.specs.Parts.{Inner, Declared, DeclrItem, init_declrs_from}
use Rattle.c_reading.specs.Stating.{label_at, some_init_with, declr_behind, init_declr_with, next_init_declr, declrs_with, bare_declaration, auto_declr, auto_name, auto_declarator, auto_behind, declaration_behind, declaration_with, declaration_from}
use Rattle.c_reading.proofs.Binding.{found, done, ok_is, bind_ok, fits_ok, if_ok}
use Rattle.c_reading.proofs.Forms.{Takes, IsSound, at_end, behind_is, behind_ok, through, took, took_token, name_kind}
use Rattle.c_reading.proofs.Commas.{NextTakes, no_ending, ending_text, HasItem, listed_sound_from, listed_keeps}
use Rattle.c_reading.proofs.KindFacts.{equal_kind, asm_kind, semicolon_kind}
use Rattle.c_reading.proofs.Aims.{declr_item_form, some_init_form, declaration_form, TakesWords, TokenLaws, Laws}
use Rattle.c_reading.proofs.Shared.{specs_here_sound, specs_here_stops, named_declr_sound, init_sound}
use Rattle.c_reading.proofs.StmtFalls.{next_declr_shrinks}
use Rattle.c_reading.proofs.DeclLists.{attrs_room, declrs_are, no_end, declrs_fit, declrs_named, declrs_high}
use Rattle.c_reading.proofs.SpecsSoundBodies.{declr_high}

pub no_attrs : (all : List Lexeme) → AreAttrs all []
no_attrs all = λ k d h. absurd (omega (arith, h))

-- a declarator with what stands before and behind it
item_low : (a d l b i room : ℕ) → a ≤ room - 1 → d ≤ room - 1 → l ≤ room - 1 → b ≤ room - 1 → i ≤ room - 1 → 1 ≤ d
    → max a (max d (max l (max b i))) + 1 ≤ room
item_low a d l b i room p q r s t u = omega (arith, p, q, r, s, t, u)

append_none : (ws : SpecWords) → append_words ws no_words ≡ ws
append_none no_words = refl
append_none (more_words w ws) = ap (more_words w) (append_none ws)

append_text : (all : List Lexeme) (ws more : SpecWords) (k : List Lexeme)
    → spec_words_text all (append_words ws more) k ≡ spec_words_text all ws (spec_words_text all more k)
append_text all no_words more k = refl
append_text all (more_words w ws) more k = ap (spec_word_text all w) (append_text all ws more k)

append_fits : (all : List Lexeme) (ws more : SpecWords) → AreSpecWords all ws → AreSpecWords all more
    → AreSpecWords all (append_words ws more)
append_fits all no_words more h m = m
append_fits all (more_words w ws) more h m = (h.0, append_fits all ws more h.1 m)

-- specifiers followed by more give the scopes that the latter give behind the former
append_scopes : (ws more : SpecWords) (s t u : HeldScopes) → spec_words_scopes ws s ≡ Some t
    → spec_words_scopes more t ≡ Some u → spec_words_scopes (append_words ws more) s ≡ Some u
append_scopes no_words more s t u h m = subst (λ (t : HeldScopes). spec_words_scopes more t ≡ Some u) (sym cc) m
append_scopes (more_words w ws) more s t u h m =
    let b = behind_ok (spec_word_scopes w s) (spec_words_scopes ws) t h in
    behind_is (spec_words_scopes (append_words ws more)) b.1 (append_scopes ws more b.0 t u b.2 m)

module _ (all : List Lexeme) (numbered : IsNumbered all) (tokens : TokenLaws all) (n : ℕ) (inner : Inner)
    (laws : Laws all n inner) where
  -- [asm bal]
  record TookLabel (s : HeldScopes) (ts : List Lexeme) (x : Found (Option AsmLabel)) : Type 0 where
    spelled : ts ≡ label_text all x.tree x.rest
    fits : IsLabel all x.tree
    same : x.scopes ≡ s
    left : IsTail all x.rest

  some_scopes : (s t : HeldScopes) → Some s ≡ Some t → t ≡ s
  some_scopes s t e = cc

  label_sound : (s : HeldScopes) (ts : List Lexeme) (x : Found (Option AsmLabel)) → IsTail all ts
      → label_at s ts ≡ done x → TookLabel s ts x
  unfolding label_at
  label_sound s ts x tail e =
      if_ok (is_asm (kind_at ts)) e (λ is e.
      let a = bind_ok e in
      let b = bind_ok a.2 in
      let o = took all (kinds.Keyword keywords.Asm) s ts a.0 tail (asm_kind (kind_at ts) is) a.1 in
      let i = tokens.group_sound 0 a.0.scopes a.0.rest b.0 o.left b.1 in
      at_end (TookLabel s ts) b.2 (record {
        spelled = o.spelled ∙ ap (keyword_text keywords.Asm a.0.tree) i.spelled;
        fits = i.fits;
        same = some_scopes a.0.scopes b.0.scopes i.named ∙ o.same;
        left = i.left;
      })) (λ is e.
      at_end (TookLabel s ts) e (record { spelled = refl; fits = tt; same = refl; left = tail }))

  pub some_init_sound : (room : ℕ) → IsSound all (some_init_form all) (room - 1) (some_init_with inner room)
  unfolding some_init_with
  some_init_sound room s ts x tail e =
      if_ok (is_equal (kind_at ts)) e (λ is e.
      let a = bind_ok e in
      let b = bind_ok a.2 in
      let o = took all (kinds.Punct puncts.Equal) s ts a.0 tail (equal_kind (kind_at ts) is) a.1 in
      let i = init_sound all n inner laws (room - 1) a.0.scopes a.0.rest b.0 o.left b.1 in
      at_end (Takes all (some_init_form all) (room - 1) s ts) b.2 (record {
        spelled = o.spelled ∙ ap (sign_text puncts.Equal a.0.tree) i.spelled;
        fits = i.fits;
        named = through (init_scopes b.0.tree) o.same i.named refl;
        low = i.low;
        left = i.left;
      })) (λ is e.
      at_end (Takes all (some_init_form all) (room - 1) s ts) e
      (record { spelled = refl; fits = tt; named = refl; low = omega arith; left = tail }))

  label_low : (l : Option AsmLabel) (d room : ℕ) → d ≤ room - 1 → 1 ≤ d → label_height l ≤ room - 1
  label_low None d room a b = omega arith
  label_low (Some l) d room a b = omega (arith, a, b)

  -- What stands behind a declarator, whose name is declared there, with the declarator and what stands before it.
  pub declr_behind_sound : (before : List Attr) (d : Declr) (kind : Kind) (room : ℕ) (s u : HeldScopes)
      (ts : List Lexeme) (x : Found DeclrItem)
      → AreAttrs all before → attrs_height before ≤ room - 1 → IsDeclr all d → is_named d ≡ true
      → lists_identifiers d ≡ false →
      declr_scopes (Some kind) d s ≡ Some u → declr_height d ≤ room - 1 → IsTail all ts
      → declr_behind inner before d room (release kind u) ts ≡ done x →
      Takes all (declr_item_form all kind) room s (attrs_text all before (declr_text all d ts)) x
  unfolding declr_behind
  declr_behind_sound before d kind room s u ts x attrs_fit attrs_low fit is_name plain named low tail e =
      let a = bind_ok e in
      let b = bind_ok a.2 in
      let c = bind_ok b.2 in
      let o = label_sound (release kind u) ts a.0 tail a.1 in
      let i = tokens.attrs_sound room a.0.scopes a.0.rest b.0 o.left b.1 in
      let j = some_init_sound room b.0.scopes b.0.rest c.0 i.left c.1 in
      at_end (Takes all (declr_item_form all kind) room s (attrs_text all before (declr_text all d ts))) c.2 (record {
        spelled = ap (λ (k : List Lexeme). attrs_text all before (declr_text all d k))
            (o.spelled ∙ ap (label_text all a.0.tree) (i.spelled ∙ ap (attrs_text all b.0.tree) j.spelled));
        fits = (attrs_fit, fit, is_name, o.fits, i.fits, j.fits, plain);
        named = behind_is (λ t. some_init_scopes c.0.tree (release kind t)) named
            (through (some_init_scopes c.0.tree) (some_scopes a.0.scopes b.0.scopes i.named ∙ o.same) j.named refl);
        low = item_low (attrs_height before) (declr_height d) (label_height a.0.tree) (attrs_height b.0.tree)
            (some_init_height c.0.tree) room attrs_low low (label_low a.0.tree (declr_height d) room low (declr_high d))
            (attrs_room b.0.tree room i.low) j.low (declr_high d);
        left = j.left;
      })

  pub behind_first : (before : List Attr) (d : Declr) (room : ℕ) (s : HeldScopes) (ts : List Lexeme)
      (x : Found DeclrItem)
      → declr_behind inner before d room s ts ≡ done x → x.tree.before ≡ before
  unfolding declr_behind
  behind_first before d room s ts x e =
      let a = bind_ok e in
      let b = bind_ok a.2 in
      let c = bind_ok b.2 in
      ap (λ (x : Found DeclrItem). x.tree.before) (sym (ok_is c.2))

  init_declr_sound : (before : List Attr) (kind : Kind) (room : ℕ) (s : HeldScopes) (ts : List Lexeme)
      (x : Found DeclrItem)
      → AreAttrs all before → attrs_height before ≤ room - 1 → IsTail all ts
      → init_declr_with inner before kind room s ts ≡ done x →
      Takes all (declr_item_form all kind) room s (attrs_text all before ts) x
  unfolding init_declr_with
  init_declr_sound before kind room s ts x fit low tail e =
      let a = bind_ok e in
      let i = named_declr_sound all n inner laws (Some kind) (room - 1) s ts a.0 tail a.1 in
      let is : attrs_text all before ts ≡ attrs_text all before (declr_text all a.0.tree a.0.rest) =
      ap (attrs_text all before) i.spelled in
      rw is (declr_behind_sound before a.0.tree kind room s a.0.scopes a.0.rest x fit low i.fits.0 i.fits.1 i.fits.2
      i.named i.low i.left a.2)

  next_declr_sound : (kind : Kind) (room token : ℕ) (s : HeldScopes) (ts : List Lexeme) (x : Found (Next DeclrItem ⊥))
      → IsTail all ts → next_init_declr inner kind room token s ts ≡ done x →
      NextTakes all (declr_item_form all kind) no_ending room token s ts x.tree x.scopes x.rest
  unfolding next_init_declr
  next_declr_sound kind room token s ts x tail e =
      let less : length x.rest < length ts =
      next_declr_shrinks all tokens n inner laws kind room token s ts x (unfolded e) in
      let a = bind_ok e in
      let b = bind_ok a.2 in
      let i = tokens.attrs_sound room s ts a.0 tail a.1 in
      let j =
      init_declr_sound a.0.tree kind room a.0.scopes a.0.rest b.0 i.fits (attrs_room a.0.tree room i.low) i.left b.1 in
      at_end (λ (x : Found (Next DeclrItem ⊥)). length x.rest < length ts
      → NextTakes all (declr_item_form all kind) no_ending room token s ts x.tree x.scopes x.rest) b.2
      (λ less. (
        record {
          spelled = i.spelled ∙ j.spelled;
          fits = j.fits;
          named = subst (λ (t : HeldScopes). (declr_item_form all kind).scopes b.0.tree t ≡ Some b.0.scopes)
              (some_scopes s a.0.scopes i.named) j.named;
          low = j.low;
          left = j.left;
        },
        less,
      )) less
    where
      unfolded : next_init_declr inner kind room token s ts ≡ done x
          → next_init_declr inner kind room token s ts ≡ done x
      unfolded e = e

  words_low : (a b room : ℕ) → 1 ≤ b → a ≤ room - 1 → b ≤ room - 1 → max a b + 1 ≤ room
  words_low a b room o p q = omega (arith, o, p, q)

  -- no attributes stand before the first declarator
  abbrev first_bare : List DeclrItem → Type 0
  first_bare [] = ⊥
  first_bare (x ∷ xs) = x.before ≡ []

  bare_more : (xs : List DeclrItem) (y : DeclrItem) → first_bare xs
      → first_bare (Rattle.std.specs.Prelude.◌++◌ xs (y ∷ []))
  bare_more [] y h = absurd h
  bare_more (x ∷ xs) y h = h

  starts_of : (xs : List DeclrItem) → first_bare xs → IsInitStart (init_declrs_from xs)
  starts_of [] h = tt
  starts_of (x ∷ xs) h = h

  -- declarators have two levels
  pub two_levels : (xs : List DeclrItem) (kind : Kind) (room : ℕ) → HasItem (declr_item_form all kind) no_ending xs
      → init_declrs_height (init_declrs_from xs) ≤ room - 1 → 2 ≤ room - 1
  two_levels [] kind room h low = absurd h
  two_levels (x ∷ xs) kind room h low = let d : 1 ≤ declr_height x.declr = declr_high x.declr in omega (arith, low, d)

  -- declarators and the end of a declaration, behind its words
  pub record TookDeclrs (exts : List ℕ) (words : SpecWords) (kind : Kind) (room : ℕ) (s : HeldScopes) (ts : List Lexeme)
      (x : Found Declaration) : Type 0 where
    pub declrs : InitDeclrs
    pub semi : ℕ
    pub is : x.tree ≡ declaration exts words declrs semi
    pub spelled : ts ≡ init_declrs_text all declrs (sign_text puncts.Semicolon semi x.rest)
    pub fits : AreInitDeclrs all declrs
    pub starts : IsInitStart declrs
    pub named : init_declrs_scopes kind declrs s ≡ Some x.scopes
    pub low : init_declrs_height declrs ≤ room - 1
    pub some : 1 ≤ room - 1
    pub two : 2 ≤ room - 1
    pub left : IsTail all x.rest

  -- The declarators of a declaration and its end, behind a first that was read from some start on.
  pub declrs_sound : (exts : List ℕ) (words : SpecWords) (kind : Kind) (room : ℕ) (first : Reader DeclrItem)
      (s : HeldScopes) (ts : List Lexeme) (s₁ : HeldScopes) (ts₁ : List Lexeme) (x : Found Declaration) →
      ((a : Found DeclrItem) → first s₁ ts₁ ≡ done a → Takes all (declr_item_form all kind) (room - 1) s ts a)
      → ((a : Found DeclrItem) → first s₁ ts₁ ≡ done a → a.tree.before ≡ []) →
      declrs_with inner exts words kind room first s₁ ts₁ ≡ done x → TookDeclrs exts words kind room s ts x
  unfolding declrs_with
  declrs_sound exts words kind room first s ts s₁ ts₁ x sound starts e =
      let a = bind_ok e in
      let b = bind_ok a.2 in
      let i = listed_sound_from first (next_init_declr inner kind (room - 1)) all numbered
      (declr_item_form all kind) no_ending (room - 1) (next_declr_sound kind (room - 1)) s ts s₁ ts₁ a.0 sound a.1 in
      let q =
      took_token all is_semicolon (kinds.Punct puncts.Semicolon) semicolon_kind a.0.scopes a.0.rest b.0 i.left b.1 in
      at_end (TookDeclrs exts words kind room s ts) b.2 (record {
        declrs = init_declrs_from a.0.tree.items;
        semi = b.0.tree;
        is = refl;
        spelled = i.spelled ∙ declrs_are all kind a.0.tree.items
            (ending_text (declr_item_form all kind) no_ending a.0.tree.ending a.0.rest) ∙
            ap (init_declrs_text all (init_declrs_from a.0.tree.items))
            (no_end all kind a.0.tree.ending a.0.rest ∙ q.spelled);
        fits = declrs_fit all kind a.0.tree.items i.fits.1;
        starts = first_starts a.0 a.1;
        named = sym (declrs_named all kind a.0.tree.items s) ∙ i.named ∙ ap Some (sym q.same);
        low = subst (λ (h : ℕ). h ≤ room - 1) (declrs_high all kind a.0.tree.items) i.low;
        some = some_room a.0.tree.items i.fits.0
            (subst (λ (h : ℕ). h ≤ room - 1) (declrs_high all kind a.0.tree.items) i.low);
        two = two_levels a.0.tree.items kind room i.fits.0
            (subst (λ (h : ℕ). h ≤ room - 1) (declrs_high all kind a.0.tree.items) i.low);
        left = q.left;
      })
    where
      first_starts : (l : Found (CommaList DeclrItem ⊥))
          → listed first (next_init_declr inner kind (room - 1)) s₁ ts₁ ≡ done l
          → IsInitStart (init_declrs_from l.tree.items)
      first_starts l e =
          starts_of l.tree.items
          (listed_keeps first (next_init_declr inner kind (room - 1)) first_bare s₁ ts₁ l starts bare_more e)

      some_room : (xs : List DeclrItem) → HasItem (declr_item_form all kind) no_ending xs
          → init_declrs_height (init_declrs_from xs) ≤ room - 1 → 1 ≤ room - 1
      some_room [] h low = absurd h
      some_room (y ∷ xs) h low = omega (arith, low)

  -- a declaration behind its words, and the room for these where declarators stand
  pub record TookBehind (exts : List ℕ) (words : SpecWords) (room : ℕ) (s : HeldScopes) (ts : List Lexeme)
      (x : Found Declaration) : Type 0 where
    pub declrs : InitDeclrs
    pub semi : ℕ
    pub is : x.tree ≡ declaration exts words declrs semi
    pub spelled : ts ≡ init_declrs_text all declrs (sign_text puncts.Semicolon semi x.rest)
    pub fits : AreInitDeclrs all declrs
    pub starts : IsInitStart declrs
    pub named : words_declrs_scopes words declrs s ≡ Some x.scopes
    pub auto : IsAutoWhere (has_auto words) words declrs
    pub low : init_declrs_height declrs ≤ room - 1
    pub words_low : (specs_height words ≤ room - 1) ⊎ (2 ≤ room - 1)
    pub some : 1 ≤ room
    pub left : IsTail all x.rest

  -- where no word is `__auto_type`
  pub no_auto : (words : SpecWords) (ds : InitDeclrs) → has_auto words ≡ false → IsAutoWhere (has_auto words) words ds
  no_auto words ds is = rw is tt

  pub plain_scopes : (words : SpecWords) (ds : InitDeclrs) (s t : HeldScopes) → has_auto words ≡ false
      → init_declrs_scopes (declared_kind words) ds s ≡ Some t → words_declrs_scopes words ds s ≡ Some t
  plain_scopes words ds s t is named = rw is named

  pub bare_sound : (exts : List ℕ) (words : SpecWords) (room : ℕ) (s : HeldScopes) (ts : List Lexeme)
      (x : Found Declaration)
      → has_auto words ≡ false → IsTail all ts → kind_at ts ≡ kinds.Punct puncts.Semicolon
      → bare_declaration inner exts words room s ts ≡ done x →
      TookBehind exts words room s ts x
  unfolding bare_declaration
  bare_sound exts words room s ts x plain tail is e =
      let r = fits_ok _ _ _ e in
      let a = bind_ok r.1 in
      let o = took all (kinds.Punct puncts.Semicolon) s ts a.0 tail is a.1 in
      at_end (TookBehind exts words room s ts) a.2 (record {
        declrs = init_declrs_from [];
        semi = a.0.tree;
        is = refl;
        spelled = o.spelled;
        fits = tt;
        starts = tt;
        named = plain_scopes words (init_declrs_from []) s a.0.scopes plain (ap Some (sym o.same));
        auto = no_auto words (init_declrs_from []) plain;
        low = omega arith;
        words_low = inl (asks_words (specs_height words) room r.0);
        some = asks_one (specs_height words) room r.0;
        left = o.left;
      })
    where
      asks_words : (h room : ℕ) → 1 + h ≤ room → h ≤ room - 1
      asks_words h room a = omega (arith, a)

      asks_one : (h room : ℕ) → 1 + h ≤ room → 1 ≤ room
      asks_one h room a = omega (arith, a)

  -- the one name behind words with `__auto_type`, or a base word in its place behind `typedef`
  record TookAuto (words : SpecWords) (room : ℕ) (s : HeldScopes) (ts : List Lexeme) (x : Found Declr) : Type 0 where
    spelled : ts ≡ declr_text all x.tree x.rest
    fits : IsDeclr all x.tree
    is_name : is_named x.tree ≡ true
    plain : lists_identifiers x.tree ≡ false
    auto : (attrs : List Attr) (equal : ℕ) (e : Expr)
        → IsAutoDeclr words (more_init_declrs [] x.tree None attrs (some_init equal (init_value e)) no_init_declrs)
    named : (if is_base x.tree then Some s else declr_scopes (Some Value) x.tree s) ≡ Some x.scopes
    one : declr_height x.tree ≡ 1
    some : 1 ≤ room
    left : IsTail all x.rest

  auto_name_sound : (words : SpecWords) → has_typedef_word (storage_words words) ≡ false
      → (o : Option ℕ) (room : ℕ) (s : HeldScopes) (ts : List Lexeme) (x : Found Declr) → spelled_name (kind_at ts) ≡ o
      → IsTail all ts →
      auto_name inner o room s ts ≡ done x → TookAuto words room s ts x
  auto_name_sound words typed None room s ts x is tail e = absurd cc
  auto_name_sound words typed (Some name) room s ts x is tail e = by_held (at_name (Some Value) name s) refl e
    where
      by_held : (o : Option HeldScopes) → at_name (Some Value) name s ≡ o
          → and_then (name_held name room o s ts) (λ d. present d.tree.declr d.scopes d.rest) ≡ done x
          → TookAuto words room s ts x
      by_held None held e = let a = bind_ok e in let b : name_held name room None s ts ≡ done a.0 = a.1 in absurd cc
      by_held (Some t) held e =
          let a = bind_ok e in
          let r = fits_ok _ _ _ a.1 in
          let b = bind_ok r.1 in
          let o = took all (kinds.Name name) s ts b.0 tail (name_kind all (kind_at ts) name is) b.1 in
          let same = ok_is b.2 in
          let last : present (some_declr (declr_name b.0.tree name)) t b.0.rest ≡ done x =
          subst (λ (d : Found Declared). present d.tree.declr d.scopes d.rest ≡ done x) (sym same) a.2 in
          at_end (TookAuto words room s ts) last (record {
            spelled = o.spelled;
            fits = tt;
            is_name = refl;
            plain = refl;
            auto = λ attrs equal e. no_typedef (storage_words words) typed;
            named = held;
            one = refl;
            some = r.0;
            left = o.left;
          })

  auto_base_sound : (words : SpecWords) → has_typedef_word (storage_words words) ≡ true
      → (room : ℕ) (s : HeldScopes) (ts : List Lexeme) (x : Found Declr) → IsTail all ts
      → auto_declarator inner true room s ts ≡ done x → TookAuto words room s ts x
  auto_base_sound words typed room s ts x tail e =
      if_ok (is_base_word (kind_at ts)) e (λ is e.
      let r = fits_ok _ _ _ e in
      let b = bind_ok r.1 in
      let o = took all (kinds.Keyword keywords.BaseWord) s ts b.0 tail (base_kind (kind_at ts) is) b.1 in
      at_end (TookAuto words room s ts) b.2 (record {
        spelled = o.spelled;
        fits = tt;
        is_name = refl;
        plain = refl;
        auto = λ attrs equal e. among_typedef (storage_words words) typed;
        named = ap Some (sym o.same);
        one = refl;
        some = r.0;
        left = o.left;
      })) (λ is e.
      absurd cc)
    where
      base_kind : (kind : TokenKind) → is_base_word kind ≡ true → kind ≡ kinds.Keyword keywords.BaseWord
      base_kind (kinds.Keyword keywords.BaseWord) is = refl
      base_kind kind is = absurd cc

  auto_declarator_sound : (words : SpecWords) (room : ℕ) (s : HeldScopes) (ts : List Lexeme) (x : Found Declr)
      → IsTail all ts → auto_declarator inner (has_typedef_word (storage_words words)) room s ts ≡ done x
      → TookAuto words room s ts x
  auto_declarator_sound words room s ts x tail e = by_typedef (has_typedef_word (storage_words words)) refl e
    where
      by_typedef : (typed : Bool) → has_typedef_word (storage_words words) ≡ typed
          → auto_declarator inner typed room s ts ≡ done x → TookAuto words room s ts x
      by_typedef true is e = auto_base_sound words is room s ts x tail e
      by_typedef false is e = auto_name_sound words is (spelled_name (kind_at ts)) room s ts x refl tail e

  auto_low : (d a h room : ℕ) → d ≡ 1 → a ≤ room - 1 - 1 → h ≤ room - 1 - 1 → 1 ≤ room - 2
      → max (max 0 (max d (max 0 (max a h))) + 1) 0 ≤ room - 1
  auto_low d a h room one p q r = omega (arith, one, p, q, r)

  auto_two : (room : ℕ) → 1 ≤ room - 2 → 2 ≤ room - 1
  auto_two room a = omega (arith, a)

  auto_one : (room : ℕ) → 1 ≤ room - 2 → 1 ≤ room
  auto_one room a = omega (arith, a)

  auto_sound : (exts : List ℕ) (words : SpecWords) (room : ℕ) (s : HeldScopes) (ts : List Lexeme)
      (x : Found Declaration)
      → has_auto words ≡ true → IsTail all ts → auto_behind inner exts words room s ts ≡ done x →
      TookBehind exts words room s ts x
  unfolding auto_behind auto_declr
  auto_sound exts words room s ts x auto tail e =
      let a = bind_ok e in
      let d = auto_declarator_sound words (room - 2) s ts a.0 tail a.1 in
      let b = bind_ok a.2 in
      let c = bind_ok b.2 in
      let f = bind_ok c.2 in
      let g = bind_ok f.2 in
      let i = tokens.attrs_sound (room - 1) a.0.scopes a.0.rest b.0 d.left b.1 in
      let o = took_token all is_equal (kinds.Punct puncts.Equal) equal_kind b.0.scopes b.0.rest c.0 i.left c.1 in
      let j = laws.exprs.sound Assigned (room - 1 - 1) c.0.scopes c.0.rest f.0 o.left f.1 in
      let q = took_token all is_semicolon (kinds.Punct puncts.Semicolon) semicolon_kind
      (release Value f.0.scopes) f.0.rest g.0 j.left g.1 in
      let init = some_init c.0.tree (init_value f.0.tree) in
      let ds = more_init_declrs [] a.0.tree None b.0.tree init no_init_declrs in
      let first = if is_base a.0.tree then Some s else declr_scopes (Some Value) a.0.tree s in
      let held : behind first (some_init_scopes init) ≡ Some f.0.scopes =
      behind_is (some_init_scopes init) d.named
      (through (expr_scopes f.0.tree) (o.same ∙ some_scopes a.0.scopes b.0.scopes i.named) j.named refl) in
      let named : auto_declrs_scopes ds s ≡ Some g.0.scopes = behind_is (auto_declrs_scopes no_init_declrs)
      (behind_is (λ t. Some (release Value t)) held refl) (ap Some (sym q.same)) in
      at_end (TookBehind exts words room s ts) g.2 (record {
        declrs = ds;
        semi = g.0.tree;
        is = refl;
        spelled = d.spelled ∙ ap (declr_text all a.0.tree) (i.spelled ∙ ap (attrs_text all b.0.tree) (o.spelled
            ∙ ap (sign_text puncts.Equal c.0.tree) (j.spelled ∙ ap (expr_text all f.0.tree) q.spelled)));
        fits = (no_attrs all, d.fits, d.is_name, tt, i.fits, (j.fits.0, j.fits.1), tt, d.plain);
        starts = refl;
        named = rw auto named;
        auto = rw auto (d.auto b.0.tree c.0.tree f.0.tree);
        low = auto_low (declr_height a.0.tree) (attrs_height b.0.tree) (expr_height f.0.tree) room d.one
            (attrs_room b.0.tree (room - 1) i.low) j.low d.some;
        words_low = inr (auto_two room d.some);
        some = auto_one room d.some;
        left = q.left;
      })

  pub behind_sound : (exts : List ℕ) (words : SpecWords) (room : ℕ) (s : HeldScopes) (ts : List Lexeme)
      (x : Found Declaration)
      → IsTail all ts → declaration_behind inner exts words room s ts ≡ done x → TookBehind exts words room s ts x
  unfolding declaration_behind init_declr_with
  behind_sound exts words room s ts x tail e =
      if_ok (has_auto words) e (λ auto e. auto_sound exts words room s ts x auto tail e) (λ plain e.
      if_ok (is_semicolon (kind_at ts)) e
      (λ is e. bare_sound exts words room s ts x plain tail (semicolon_kind (kind_at ts) is) e) (λ is e.
      of_declrs plain (declrs_sound exts words (declared_kind words) room
      (init_declr_with inner [] (declared_kind words) (room - 1)) s ts s ts x
      (λ a e. init_declr_sound [] (declared_kind words) (room - 1) s ts a (no_attrs all) (omega arith) tail e)
      (λ a e. bare_first a e) e)))
    where
      bare_first : (a : Found DeclrItem) → init_declr_with inner [] (declared_kind words) (room - 1) s ts ≡ done a
          → a.tree.before ≡ []
      bare_first a e =
          let d = bind_ok e in
          behind_first [] d.0.tree (room - 1) (release (declared_kind words) d.0.scopes) d.0.rest a d.2

      of_declrs : has_auto words ≡ false → TookDeclrs exts words (declared_kind words) room s ts x
          → TookBehind exts words room s ts x
      of_declrs plain t = record {
        declrs = t.declrs;
        semi = t.semi;
        is = t.is;
        spelled = t.spelled;
        fits = t.fits;
        starts = t.starts;
        named = plain_scopes words t.declrs s x.scopes plain t.named;
        auto = no_auto words t.declrs plain;
        low = t.low;
        words_low = inr t.two;
        some = one_room room t.some;
        left = t.left;
      }
        where
          one_room : (room : ℕ) → 1 ≤ room - 1 → 1 ≤ room
          one_room room a = omega (arith, a)

  -- a declaration, of which the words were read from some start on
  words_two : (h room : ℕ) → (h ≤ room - 1) ⊎ (2 ≤ room - 1) → h ≤ 2 → h ≤ room - 1
  words_two h room (inl a) b = a
  words_two h room (inr a) b = omega (arith, a, b)

  declaration_low : (a b room : ℕ) → 1 ≤ room → a ≤ room - 1 → b ≤ room - 1 → max a b + 1 ≤ room
  declaration_low a b room o p q = omega (arith, o, p, q)

  pub assembled : (goes : MixesGoOn) (exts : List ℕ) (words : SpecWords) (room : ℕ) (s t : HeldScopes)
      (ts ts₁ : List Lexeme) (x : Found Declaration)
      → ts ≡ extensions_text exts (spec_words_text all words ts₁) → IsMix words → AreSpecWords all words →
      (is_base_word (kind_at ts₁) ≡ true → goes_on words (classes.Spells keywords.BaseWord) ≡ false)
      → spec_words_scopes words s ≡ Some t → specs_height words ≤ room - 1 → TookBehind exts words room t ts₁ x
      → Takes all (declaration_form all) room s ts x
  assembled goes exts words room s t ts ts₁ x spelled mix fit stops named low b =
      subst (λ (d : Declaration). ts ≡ (declaration_form all).text d x.rest → IsDeclaration all d
      → declaration_scopes d s ≡ Some x.scopes → (declaration_form all).height d ≤ room
      → Takes all (declaration_form all) room s ts (found d x.scopes x.rest)) (sym b.is)
      (λ a c d f. record { spelled = a; fits = c; named = d; low = f; left = b.left }) at_tree_text at_tree_fits
      at_tree_named at_tree_low
    where
      at_tree_text : ts ≡ (declaration_form all).text x.tree x.rest
      at_tree_text =
          rw b.is (spelled ∙ ap (λ (k : List Lexeme). extensions_text exts (spec_words_text all words k)) b.spelled)

      at_tree_fits : IsDeclaration all x.tree
      at_tree_fits = rw b.is (
        mix,
        fit,
        b.starts,
        b.fits,
        b.auto,
        base_start all goes words b.declrs (sign_text puncts.Semicolon b.semi x.rest)
            (λ base. stops (rw b.spelled base)) b.starts b.fits,
      )

      at_tree_named : declaration_scopes x.tree s ≡ Some x.scopes
      at_tree_named = rw b.is (behind_is (words_declrs_scopes words b.declrs) named b.named)

      at_tree_low : (declaration_form all).height x.tree ≤ room
      at_tree_low = rw b.is (declaration_low (specs_height words) (init_declrs_height b.declrs) room b.some low b.low)

  pub declaration_sound : (goes : MixesGoOn) (exts : List ℕ) (room : ℕ) (s : HeldScopes) (ts : List Lexeme)
      (x : Found Declaration)
      → IsTail all ts → declaration_with inner exts room s ts ≡ done x
      → Takes all (declaration_form all) room s (extensions_text exts ts) x
  unfolding declaration_with
  declaration_sound goes exts room s ts x tail e =
      let a = bind_ok e in
      let i = specs_here_sound all n inner laws Declaring room s ts a.0 tail a.1 in
      assembled goes exts a.0.tree room s a.0.scopes (extensions_text exts ts) a.0.rest x
      (ap (extensions_text exts) i.spelled) i.fits.0 i.fits.1
      (specs_here_stops all n inner laws Declaring room s ts a.0 tail a.1) i.named
      (inside (specs_height a.0.tree) room i.low) (behind_sound exts a.0.tree room a.0.scopes a.0.rest x i.left a.2)
    where
      inside : (h room : ℕ) → h + 1 ≤ room → h ≤ room - 1
      inside h room a = omega (arith, a)

  -- the same behind words that were read already, of two levels at most
  pub declaration_from_sound : (goes : MixesGoOn) (known : SpecWords) (room : ℕ) (s₀ s : HeldScopes) (ts : List Lexeme)
      (x : Found Declaration)
      → AreSpecWords all known → spec_words_scopes known s₀ ≡ Some s → specs_height known ≤ 2 → IsTail all ts →
      declaration_from inner known room s ts ≡ done x
      → Takes all (declaration_form all) room s₀ (spec_words_text all known ts) x
  unfolding declaration_from
  declaration_from_sound goes known room s₀ s ts x fit named two tail e =
      let a = bind_ok e in
      of_words a.0 (laws.words.sound Declaring known (room - 1) s ts a.0 tail a.1) a.2
    where
      of_words : (a : Found SpecWords) → TakesWords all Declaring known (room - 1) s ts a
          → declaration_behind inner [] a.tree room a.scopes a.rest ≡ done x
          → Takes all (declaration_form all) room s₀ (spec_words_text all known ts) x
      of_words a w e =
          let b = behind_sound [] a.tree room a.scopes a.rest x w.left e in
          assembled goes [] a.tree room s₀ a.scopes (spec_words_text all known ts) a.rest x
          (ap (spec_words_text all known) w.spelled ∙ sym (append_text all known w.rest a.rest)
          ∙ ap (λ (ws : SpecWords). spec_words_text all ws a.rest) (sym w.words_are)) w.mix
          (subst (AreSpecWords all) (sym w.words_are) (append_fits all known w.rest fit w.fits)) w.stops
          (ap (λ (ws : SpecWords). spec_words_scopes ws s₀) w.words_are
          ∙ append_scopes known w.rest s₀ s a.scopes named w.named) (by_low w.low b.words_low) b
        where
          by_low : (w.rest ≡ no_words) ⊎ (specs_height a.tree ≤ room - 1)
              → (specs_height a.tree ≤ room - 1) ⊎ (2 ≤ room - 1) → specs_height a.tree ≤ room - 1
          by_low (inr low) c = low
          by_low (inl none) c =
              words_two (specs_height a.tree) room c (subst (λ (ws : SpecWords). specs_height ws ≤ 2)
              (sym (w.words_are ∙ ap (append_words known) none ∙ append_none known)) two)
