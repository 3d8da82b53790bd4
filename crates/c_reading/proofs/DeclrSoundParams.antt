-- What the readers of parameters take is spelled so and well formed.
use Rattle.std.proofs.Common.{◌≡◌, ℕ, zero, suc, ◌<◌, ◌≤◌, Bool, true, false, List, [], ◌∷◌, ◌++◌, length, Option, Some, None, inl, inr, refl, sym, ◌∙◌, ap, subst, arith}
use Rattle.std.specs.Prelude.{◌+◌, ◌-◌, not, ◌&&◌, ◌||◌, ◌⊎◌, All, Any, IsPermutation}
use Rattle.std.proofs.lemmas.List.Elements.{All-nil, All-head, All-tail}
use Rattle.qual_base.proofs.Tests.{and_first}
use Rattle.c_words.specs.declared.kinds.TokenKind.TheVariants as kinds
use Rattle.c_words.specs.declared.kinds.Punct.TheVariants as puncts
use Rattle.c_tree.specs.declared.lexeme.Lexeme.{Lexeme}
use Rattle.c_syntax.specs.declared.parts.Attr.{Attr}
use Rattle.c_syntax.specs.declared.parts.Qual.{Qual}
use Rattle.c_syntax.specs.declared.parts.Qual.TheVariants as quals
use Rattle.c_tree.specs.Tree.{Dots, SpecWords, no_words, more_words, SpecWord, SomeDeclr, no_declr, some_declr}
use Rattle.c_tree.specs.Text.{separated, tokens_between, qual_text, sign_text, spec_words_text, some_declr_text, attrs_text, quals_text, params_text, dots_text, spec_word_text, attr_text}
use Rattle.c_tree.specs.Height.{attrs_height, specs_height, some_declr_height, params_height}
use Rattle.c_tree.specs.Groups.{IsGroup}
use Rattle.c_tree.specs.Specifiers.{type_words, type_count, basic_types, IsMix}
use Rattle.c_tree.specs.WellFormed.{AreAttrs, AreParams, AreSpecWords, IsParamEnd, IsElement, IsQual, IsWordQual, IsEllipsis, ends_starred, is_auto, has_auto}
use Rattle.c_tree.proofs.NoType.{no_type_of_none}
use Rattle.c_specs.specs.Reading.{append_words}
use Rattle.typedef_scope.specs.declared.kind.Kind.TheVariants.{Value}
use Rattle.c_units.specs.HeldScopes.{HeldScopes, release}
use Rattle.c_units.specs.Scoping.{behind, where_true, spec_words_scopes, some_declr_scopes, some_shows_no_type, params_scopes, spec_word_scopes}
use Rattle.c_reading.specs.declared.kinds.Role.TheVariants.{Typed}
use Rattle.c_reading.specs.declared.kinds.Mode.TheVariants.{Either}
use Rattle.c_reading.specs.Reading.{IsNumbered, IsTail, Found, Reader, kind_at, listed, comma_turn, with_next, is_comma, Next, one_more, list_end, CommaList}
use Rattle.c_reading.specs.Tokens.{is_close_paren, is_dots}
use Rattle.c_reading.specs.Parts.{Inner, ParamItem, params_from}
use Rattle.c_reading.specs.Declaring.{words_of_quals, words_of_attrs, are_none, takes_attrs, param_words, param_attrs, param_with, next_param, params_with}
use Rattle.c_reading.proofs.Binding.{found, done, bind_ok, if_ok}
use Rattle.c_reading.proofs.Forms.{Form, Takes, IsSound, at_end, behind_is, Took, took, behind_ok}
use Rattle.c_reading.proofs.Rows.{row_scopes, fit_push, scopes_push, height_push}
use Rattle.c_reading.proofs.Loops.{run-keep}
use Rattle.c_reading.proofs.Tails.{tail_of}
use Rattle.c_reading.proofs.Commas.{Ending, NextTakes, list_parts, comma_before, comma_text, item_push, commas_push, list_form, commas_text, ending_text}
use Rattle.c_reading.proofs.KindFacts.{dots_kind}
use Rattle.c_reading.proofs.Shared.{specs_here_sound}
use Rattle.c_reading.proofs.DeclrFalls.{param_falls, param_shrinks}
use Rattle.c_reading.proofs.DeclrLists.{dots_ending, params_are, ending_is, params_fit, ellipsis_fits, params_named, params_high}
use Rattle.c_reading.proofs.Aims.{param_form, TakesWords, TokenLaws, Laws}

pub specs_high : (ws : SpecWords) → 1 ≤ specs_height ws
specs_high no_words = omega arith
specs_high (more_words w ws) = let rest : 1 ≤ specs_height ws = specs_high ws in omega (arith, rest)

low_attrs : (attrs : List Attr) → attrs_height attrs ≤ 1
low_attrs [] = omega arith
low_attrs (a ∷ attrs) = omega arith

-- A list with commas whose first item begins before what its reader is given.
module _ (all : List Lexeme) (numbered : IsNumbered all) {T E : Type 0} (first : Reader T)
    (next : ℕ → Reader (Next T E)) (form : Form T) (ending : Ending E) (room : ℕ) where
  listed_from : (us : List Lexeme) (s : HeldScopes) (ts : List Lexeme) (x : Found (CommaList T E))
      → ((y : Found T) → first s ts ≡ done y → Takes all form room s us y) →
      ((comma : ℕ) (s : HeldScopes) (ts : List Lexeme) (x : Found (Next T E)) → IsTail all ts → next comma s ts ≡ done x
      → NextTakes all form ending room comma s ts x.tree x.scopes x.rest) →
      listed first next s ts ≡ done x → Takes all (list_form form ending) room s us x
  unfolding listed
  listed_from us s ts x sound next_sound e =
      let a = bind_ok e in
      let i = sound a.0 a.1 in
      run-keep (comma_turn next) (λ l t k. Takes all (list_form form ending) room s us (found l t k)) step
      (record { items = a.0.tree ∷ []; ending = None }) a.0.scopes a.0.rest x
      (record {
        spelled = i.spelled;
        fits = (tt, (i.fits, tt), tt);
        named = behind_is (row_scopes form []) i.named refl;
        low = omega (arith, i.low);
        left = i.left;
      }) a.2
    where
      step : (l : CommaList T E) (t : HeldScopes) (k : List Lexeme) (x : Found (CommaList T E))
          → Takes all (list_form form ending) room s us (found l t k) → comma_turn next l t k ≡ Some (done x) →
          Takes all (list_form form ending) room s us x
      step l t k x h e =
          let p = list_parts first next l t k x e in
          subst (Takes all (list_form form ending) room s us) p.7
          (by_next p.0 p.1 p.2.tree p.2.scopes p.2.rest p.3 p.4 p.5
          (next_sound p.0.at t p.1 p.2 (tail_of all p.0 p.1 (subst (IsTail all) p.4 h.left)) p.6))
        where
          spelled : l.ending ≡ None → us ≡ commas_text form ending l.items k
          spelled none = subst
              (λ (o : Option E). us ≡ commas_text form ending l.items (ending_text form ending o k)) none h.spelled

          by_next : (u : Lexeme) (rest : List Lexeme) (y : Next T E) (v : HeldScopes) (k' : List Lexeme)
              → l.ending ≡ None → k ≡ u ∷ rest → is_comma u.kind ≡ true →
              NextTakes all form ending room u.at t rest y v k'
              → Takes all (list_form form ending) room s us (found (with_next l.items y) v k')
          by_next u rest (one_more y) v k' none is comma i =
              let more : zero < length rest = omega (arith, i.1) in
              record {
                spelled = spelled none ∙ ap (commas_text form ending l.items) (is ∙ comma_before first next all numbered
                    form ending room u rest (subst (IsTail all) is h.left) comma more ∙ ap separated i.0.spelled)
                    ∙ sym (commas_push form ending l.items y k' h.fits.0);
                fits = (item_push form ending l.items y, fit_push form l.items y h.fits.1 i.0.fits, tt);
                named = scopes_push form l.items y s t v h.named i.0.named;
                low = height_push form l.items y room h.low i.0.low;
                left = i.0.left;
              }
          by_next u rest (list_end e) v k' none is comma i =
              record {
                spelled = spelled none ∙ ap (commas_text form ending l.items)
                    (is ∙ comma_text first next all numbered form ending room u rest comma ∙ i.0);
                fits = (h.fits.0, h.fits.1, i.1);
                named = h.named ∙ ap Some (sym i.2);
                low = h.low;
                left = i.3;
              }

-- words without a type are no mix
no_mix_without : (ws : SpecWords) → type_words ws ≡ [] → type_count ws ≡ 0 → IsMix ws → ⊥
no_mix_without ws words count (inl one, stores) =
    no_type_of_none (subst (λ (ks : List _). Any (IsPermutation ks) basic_types) words one.1)
no_mix_without ws words count (inr one, stores) = let wrong : type_count ws ≡ 1 = one.0 in omega (arith, count, wrong)

-- qualifiers and attributes as words
quals_words : (qs : List Qual) → type_words (words_of_quals qs) ≡ []
quals_words [] = refl
quals_words (q ∷ qs) = quals_words qs

quals_count : (qs : List Qual) → type_count (words_of_quals qs) ≡ 0
quals_count [] = refl
quals_count (q ∷ qs) = quals_count qs

attrs_words : (attrs : List Attr) → type_words (words_of_attrs attrs) ≡ []
attrs_words [] = refl
attrs_words (a ∷ attrs) = attrs_words attrs

attrs_count : (attrs : List Attr) → type_count (words_of_attrs attrs) ≡ 0
attrs_count [] = refl
attrs_count (a ∷ attrs) = attrs_count attrs

quals_plain : (qs : List Qual) → has_auto (words_of_quals qs) ≡ false
quals_plain [] = refl
quals_plain (q ∷ qs) = quals_plain qs

attrs_plain : (attrs : List Attr) → has_auto (words_of_attrs attrs) ≡ false
attrs_plain [] = refl
attrs_plain (a ∷ attrs) = attrs_plain attrs

-- words without `__auto_type` followed by such words have none
pub append_plain : (ws more : SpecWords) → has_auto ws ≡ false → has_auto more ≡ false
    → has_auto (append_words ws more) ≡ false
append_plain no_words more h g = g
append_plain (more_words w ws) more h g = by_word (is_auto w) h (λ h. append_plain ws more h g)
  where
    by_word : (b : Bool) → (b || has_auto ws) ≡ false → (has_auto ws ≡ false → has_auto (append_words ws more) ≡ false)
        → (b || has_auto (append_words ws more)) ≡ false
    by_word true h rest = absurd cc
    by_word false h rest = rest h

module _ (all : List Lexeme) where
  pub append_text : (ws more : SpecWords) (k : List Lexeme)
      → spec_words_text all (append_words ws more) k ≡ spec_words_text all ws (spec_words_text all more k)
  append_text no_words more k = refl
  append_text (more_words w ws) more k = ap (spec_word_text all w) (append_text ws more k)

  pub append_fits : (ws more : SpecWords) → AreSpecWords all ws → AreSpecWords all more
      → AreSpecWords all (append_words ws more)
  append_fits no_words more h g = g
  append_fits (more_words w ws) more h g = (h.0, append_fits ws more h.1 g)

  pub append_scopes : (ws more : SpecWords) (s t : HeldScopes) (r : Option HeldScopes) → spec_words_scopes ws s ≡ Some t
      → spec_words_scopes more t ≡ r → spec_words_scopes (append_words ws more) s ≡ r
  append_scopes no_words more s t r h g = subst (λ (t : HeldScopes). spec_words_scopes more t ≡ r) (sym cc) g
  append_scopes (more_words w ws) more s t r h g =
      let b = behind_ok (spec_word_scopes w s) (spec_words_scopes ws) t h in
      rw b.1 (append_scopes ws more b.0 t r b.2 g)

  -- words that were read already: they fit, change no scope and have no type
  pub record Known (ws : SpecWords) : Type 0 where
    pub fits : AreSpecWords all ws
    pub flat : (s : HeldScopes) → spec_words_scopes ws s ≡ Some s
    pub words : type_words ws ≡ []
    pub count : type_count ws ≡ 0
    pub plain : has_auto ws ≡ false

  pub known_none : Known no_words
  known_none = record { fits = tt; flat = λ s. refl; words = refl; count = refl; plain = refl }

  quals_fit : (qs : List Qual) → All (IsWordQual all) qs → AreSpecWords all (words_of_quals qs)
  quals_fit [] h = tt
  quals_fit (q ∷ qs) h = (All-head (IsWordQual all) q qs h, quals_fit qs (All-tail (IsWordQual all) q qs h))

  quals_flat : (qs : List Qual) (s : HeldScopes) → spec_words_scopes (words_of_quals qs) s ≡ Some s
  quals_flat [] s = refl
  quals_flat (q ∷ qs) s = quals_flat qs s

  pub known_quals : (qs : List Qual) → All (IsWordQual all) qs → Known (words_of_quals qs)
  known_quals qs h = record {
    fits = quals_fit qs h;
    flat = quals_flat qs;
    words = quals_words qs;
    count = quals_count qs;
    plain = quals_plain qs;
  }

  attrs_fit : (attrs : List Attr) → AreAttrs all attrs → AreSpecWords all (words_of_attrs attrs)
  attrs_fit [] h = tt
  attrs_fit (a ∷ attrs) h = (
    All-head (λ (a : Attr). IsGroup all a.group) a attrs h,
    attrs_fit attrs (All-tail (λ (a : Attr). IsGroup all a.group) a attrs h),
  )

  attrs_flat : (attrs : List Attr) (s : HeldScopes) → spec_words_scopes (words_of_attrs attrs) s ≡ Some s
  attrs_flat [] s = refl
  attrs_flat (a ∷ attrs) s = attrs_flat attrs s

  pub known_attrs : (attrs : List Attr) → AreAttrs all attrs → Known (words_of_attrs attrs)
  known_attrs attrs h = record {
    fits = attrs_fit attrs h;
    flat = attrs_flat attrs;
    words = attrs_words attrs;
    count = attrs_count attrs;
    plain = attrs_plain attrs;
  }

  pub quals_spelled : (qs : List Qual) (k : List Lexeme)
      → spec_words_text all (words_of_quals qs) k ≡ quals_text all qs k
  quals_spelled [] k = refl
  quals_spelled (q ∷ qs) k = ap (qual_text all q) (quals_spelled qs k)

  pub attrs_spelled : (attrs : List Attr) (k : List Lexeme)
      → spec_words_text all (words_of_attrs attrs) k ≡ attrs_text all attrs k
  attrs_spelled [] k = refl
  attrs_spelled (a ∷ attrs) k = ap (attr_text all a) (attrs_spelled attrs k)

  module _ (numbered : IsNumbered all) (tokens : TokenLaws all) (n : ℕ) (inner : Inner) (laws : Laws all n inner) where
    -- the words of a parameter, behind those that were read already
    pub record TookWords (known : SpecWords) (room : ℕ) (s : HeldScopes) (ts : List Lexeme)
        (x : Found SpecWords) : Type 0 where
      pub spelled : spec_words_text all known ts ≡ spec_words_text all x.tree x.rest
      pub mix : IsMix x.tree
      pub fits : AreSpecWords all x.tree
      pub plain : has_auto x.tree ≡ false
      pub named : spec_words_scopes x.tree s ≡ Some x.scopes
      pub low : specs_height x.tree + 1 ≤ room
      pub left : IsTail all x.rest

    words_behind : (w : SpecWord) (ws : SpecWords) (room : ℕ) (s : HeldScopes) (ts : List Lexeme) (x : Found SpecWords)
        → Known (more_words w ws) → TakesWords all Typed (more_words w ws) (room - 1) s ts x →
        TookWords (more_words w ws) room s ts x
    words_behind w ws room s ts x known t = record {
      spelled = ap (spec_words_text all (more_words w ws)) t.spelled ∙ sym (append_text (more_words w ws) t.rest x.rest)
          ∙ ap (λ (us : SpecWords). spec_words_text all us x.rest) (sym t.words_are);
      mix = t.mix;
      fits = subst (AreSpecWords all) (sym t.words_are) (append_fits (more_words w ws) t.rest known.fits t.fits.0);
      plain = subst (λ (us : SpecWords). has_auto us ≡ false) (sym t.words_are)
          (append_plain (more_words w ws) t.rest known.plain t.fits.1);
      named = ap (λ (us : SpecWords). spec_words_scopes us s) t.words_are
          ∙ append_scopes (more_words w ws) t.rest s s (Some x.scopes) (known.flat s) t.named;
      low = by_low t.low;
      left = t.left;
    }
      where
        append_nothing : (us : SpecWords) → append_words us no_words ≡ us
        append_nothing no_words = refl
        append_nothing (more_words u us) = ap (more_words u) (append_nothing us)

        by_low : (t.rest ≡ no_words) ⊎ (specs_height x.tree ≤ room - 1) → specs_height x.tree + 1 ≤ room
        by_low (inl none) =
            let same : x.tree ≡ more_words w ws =
            t.words_are ∙ ap (append_words (more_words w ws)) none ∙ append_nothing (more_words w ws) in
            absurd (no_mix_without (more_words w ws) known.words known.count (subst IsMix same t.mix))
        by_low (inr low) = let high : 1 ≤ specs_height x.tree = specs_high x.tree in omega (arith, low, high)

    words_sound : (known : SpecWords) (room : ℕ) (s : HeldScopes) (ts : List Lexeme) (x : Found SpecWords)
        → IsTail all ts → Known known → param_words inner known room s ts ≡ done x → TookWords known room s ts x
    words_sound no_words room s ts x tail known e =
        let t = specs_here_sound all n inner laws Typed room s ts x tail e in
        record {
          spelled = t.spelled;
          mix = t.fits.0;
          fits = t.fits.1.0;
          plain = t.fits.1.1;
          named = t.named;
          low = t.low;
          left = t.left;
        }
    words_sound (more_words w ws) room s ts x tail known e =
        words_behind w ws room s ts x known (laws.words.sound Typed (more_words w ws) (room - 1) s ts x tail e)

    -- a parameter, behind words that were read already
    pub record TookParam (known : SpecWords) (room : ℕ) (s : HeldScopes) (ts : List Lexeme)
        (x : Found ParamItem) : Type 0 where
      pub spelled : spec_words_text all known ts ≡ (param_form all).text x.tree x.rest
      pub fits : (param_form all).Fits x.tree
      pub named : (param_form all).scopes x.tree s ≡ Some x.scopes
      pub low : (param_form all).height x.tree ≤ room
      pub left : IsTail all x.rest

    -- attributes behind a declarator that takes none
    pub record TookEnd (d : SomeDeclr) (s : HeldScopes) (ts : List Lexeme) (x : Found (List Attr)) : Type 0 where
      pub spelled : ts ≡ attrs_text all x.tree x.rest
      pub fits : AreAttrs all x.tree
      pub there : IsParamEnd d x.tree
      pub same : x.scopes ≡ s
      pub left : IsTail all x.rest

    end_there : (d : SomeDeclr) (attrs : List Attr) → takes_attrs d ≡ true → IsParamEnd d attrs
    end_there d [] is = tt
    end_there no_declr (a ∷ attrs) is = absurd cc
    end_there (some_declr d) (a ∷ attrs) is = no_is (ends_starred d) is
      where
        no_is : (b : Bool) → not b ≡ true → b ≡ false
        no_is true e = absurd cc
        no_is false e = refl

    end_sound : (d : SomeDeclr) (room : ℕ) (s : HeldScopes) (ts : List Lexeme) (x : Found (List Attr)) → IsTail all ts
        → param_attrs inner d room s ts ≡ done x → TookEnd d s ts x
    end_sound d room s ts x tail e =
        if_ok (takes_attrs d) e
        (λ is e. let a = tokens.attrs_sound room s ts x tail e in
        record { spelled = a.spelled; fits = a.fits; there = end_there d x.tree is; same = sym cc; left = a.left })
        (λ is e. at_end (TookEnd d s ts) e (record {
          spelled = refl;
          fits = All-nil (λ (a : Attr). IsGroup all a.group);
          there = tt;
          same = refl;
          left = tail;
        }))

    shown : (b : Bool) (s : HeldScopes) → b ≡ true → where_true b s ≡ Some s
    shown true s e = refl
    shown false s e = absurd cc

    pub param_sound : (known : SpecWords) (room : ℕ) (s : HeldScopes) (ts : List Lexeme) (x : Found ParamItem)
        → IsTail all ts → Known known → param_with inner known room s ts ≡ done x → TookParam known room s ts x
    unfolding param_with
    param_sound known room s ts x tail known_fits e =
        let a = bind_ok e in
        let b = bind_ok a.2 in
        let c = bind_ok b.2 in
        let w = words_sound known room s ts a.0 tail known_fits a.1 in
        let d = laws.declrs.sound Either (Some Value) false (room - 1) a.0.scopes a.0.rest b.0 w.left b.1 in
        let f = end_sound b.0.tree.declr room (release Value b.0.scopes) b.0.rest c.0 d.left c.1 in
        let low : some_declr_height b.0.tree.declr ≤ room - 1 = d.low in
        at_end (TookParam known room s ts) c.2 (record {
          spelled = w.spelled
              ∙ ap (spec_words_text all a.0.tree) (d.spelled ∙ ap (some_declr_text all b.0.tree.declr) f.spelled);
          fits = (w.mix, w.fits, w.plain, d.fits.0, f.fits, f.there, d.plain refl);
          named = behind_is (λ (t : HeldScopes). Some (release Value t))
              (behind_is (some_declr_scopes (Some Value) b.0.tree.declr)
              (behind_is (λ (t : HeldScopes). where_true (some_shows_no_type t b.0.tree.declr) t) w.named
              (shown (some_shows_no_type a.0.scopes b.0.tree.declr) a.0.scopes d.fits.1)) d.named)
              (ap Some (sym f.same));
          low = omega (arith, w.low, low, low_attrs c.0.tree, specs_high a.0.tree);
          left = f.left;
        })

    takes_param : (room : ℕ) (s : HeldScopes) (ts : List Lexeme) (x : Found ParamItem) → TookParam no_words room s ts x
        → Takes all (param_form all) room s ts x
    takes_param room s ts x t =
        record { spelled = t.spelled; fits = t.fits; named = t.named; low = t.low; left = t.left }

    element_long : (ts k : List Lexeme) → IsElement ts → length (ts ++ k) ≡ suc (length k)
    element_long [] k h = absurd h
    element_long (t ∷ []) k h = refl
    element_long (t ∷ u ∷ ts) k h = absurd h

    qual_long : (q : Qual) (k : List Lexeme) → IsQual all q → length (qual_text all q k) ≡ suc (length k)
    qual_long (quals.Word w) k h = refl
    qual_long (quals.Element token) k h = element_long (tokens_between all token token) k h
    qual_long (quals.Index token) k h = refl

    quals_long : (qs : List Qual) (k : List Lexeme) → All (IsWordQual all) qs → length k ≤ length (quals_text all qs k)
    quals_long [] k h = omega arith
    quals_long (q ∷ qs) k h =
        let rest : length k ≤ length (quals_text all qs k) = quals_long qs k (All-tail (IsWordQual all) q qs h) in
        omega (arith, rest, qual_long q (quals_text all qs k) (All-head (IsWordQual all) q qs h).0)

    -- what stands behind a comma
    next_sound : (room comma : ℕ) (s : HeldScopes) (ts : List Lexeme) (x : Found (Next ParamItem Dots)) → IsTail all ts
        → next_param inner room comma s ts ≡ done x →
        NextTakes all (param_form all) (dots_ending all) room comma s ts x.tree x.scopes x.rest
    unfolding next_param
    next_sound room comma s ts x tail e =
        let a = bind_ok e in
        let q = tokens.quals_sound room s ts a.0 tail a.1 in
        let same : a.0.scopes ≡ s = sym cc in
        if_ok (is_dots (kind_at a.0.rest)) a.2
        (λ is e. let b = bind_ok e in
        let t =
        took all (kinds.Punct puncts.Ellipsis) a.0.scopes a.0.rest b.0 q.left (dots_kind (kind_at a.0.rest) is) b.1 in
        at_end (λ (x : Found (Next ParamItem Dots)). NextTakes all (param_form all)
        (dots_ending all) room comma s ts x.tree x.scopes x.rest) b.2 (
          ap (sign_text puncts.Comma comma) (q.spelled ∙ ap (quals_text all a.0.tree) t.spelled),
          q.fits,
          t.same ∙ same,
          t.left,
        ))
        (λ is e. let b = bind_ok e in
        let p =
        param_sound (words_of_quals a.0.tree) room a.0.scopes a.0.rest b.0 q.left (known_quals a.0.tree q.fits) b.1 in
        let spelled : ts ≡ (param_form all).text b.0.tree b.0.rest =
        q.spelled ∙ sym (quals_spelled a.0.tree a.0.rest) ∙ p.spelled in
        let less : length b.0.rest < length ts = shorter a.0.tree b.0 q.spelled q.fits b.1 in
        at_end (λ (x : Found (Next ParamItem Dots)). NextTakes all (param_form all)
        (dots_ending all) room comma s ts x.tree x.scopes x.rest) b.2 (
          record {
            spelled = spelled;
            fits = p.fits;
            named = ap (λ (t : HeldScopes). (param_form all).scopes b.0.tree t) (sym same) ∙ p.named;
            low = p.low;
            left = p.left;
          },
          less,
        ))
      where
        shorter : (qs : List Qual) (y : Found ParamItem) → ts ≡ quals_text all qs (bind_ok e).0.rest
            → All (IsWordQual all) qs
            → param_with inner (words_of_quals qs) room (bind_ok e).0.scopes (bind_ok e).0.rest ≡ done y
            → length y.rest < length ts
        shorter [] y spelled fits e' =
            let less : length y.rest < length (bind_ok e).0.rest =
            param_shrinks all tokens n inner laws room _ _ _ e' in
            omega (arith, less, ap length spelled)
        shorter (q ∷ qs) y spelled fits e' =
            let less : length y.rest ≤ length (bind_ok e).0.rest =
            param_falls all tokens n inner laws (words_of_quals (q ∷ qs)) room _ _ _ e' in
            let one : length (qual_text all q (quals_text all qs (bind_ok e).0.rest))
            ≡ suc (length (quals_text all qs (bind_ok e).0.rest)) =
            qual_long q (quals_text all qs (bind_ok e).0.rest) (All-head (IsWordQual all) q qs fits).0 in
            let more : length (bind_ok e).0.rest ≤ length (quals_text all qs (bind_ok e).0.rest) =
            quals_long qs (bind_ok e).0.rest (All-tail (IsWordQual all) q qs fits) in
            omega (arith, less, ap length spelled, one, more)

    -- parameters, behind attributes of the first
    pub record TookParams (lead : List Attr) (room : ℕ) (s : HeldScopes) (ts : List Lexeme)
        (x : Found (CommaList ParamItem Dots)) : Type 0 where
      pub spelled : attrs_text all lead ts ≡ params_text all (params_from x.tree.items)
          (dots_text all x.tree.ending x.rest)
      pub fits : AreParams all (params_from x.tree.items)
      pub ended : IsEllipsis all (params_from x.tree.items) x.tree.ending
      pub named : params_scopes (params_from x.tree.items) s ≡ Some x.scopes
      pub low : params_height (params_from x.tree.items) ≤ room
      pub left : IsTail all x.rest

    pub params_sound : (lead : List Attr) (room : ℕ) (s : HeldScopes) (ts : List Lexeme)
        (x : Found (CommaList ParamItem Dots))
        → IsTail all ts → AreAttrs all lead → params_with inner lead room s ts ≡ done x → TookParams lead room s ts x
    unfolding params_with
    params_sound lead room s ts x tail fits e =
        if_ok (are_none lead && is_close_paren (kind_at ts)) e
        (λ is e. at_end (TookParams lead room s ts) e (record {
          spelled = none_text lead (and_first (are_none lead) (is_close_paren (kind_at ts)) is);
          fits = tt;
          ended = tt;
          named = refl;
          low = omega arith;
          left = tail;
        }))
        (λ is e. listed_params (listed_from all numbered (param_with inner (words_of_attrs lead) room)
        (next_param inner room) (param_form all) (dots_ending all) room (attrs_text all lead ts) s ts x
        (λ y e. let p = param_sound (words_of_attrs lead) room s ts y tail (known_attrs lead fits) e in
        record {
          spelled = sym (attrs_spelled lead ts) ∙ p.spelled;
          fits = p.fits;
          named = p.named;
          low = p.low;
          left = p.left;
        })
        (λ comma s ts x tail e. next_sound room comma s ts x tail e) e))
      where
        none_text : (lead : List Attr) → are_none lead ≡ true → attrs_text all lead ts ≡ ts
        none_text [] e = refl
        none_text (a ∷ lead) e = absurd cc

        listed_params : Takes all (list_form (param_form all) (dots_ending all)) room s (attrs_text all lead ts) x
            → TookParams lead room s ts x
        listed_params t = record {
          spelled = t.spelled
              ∙ params_are all x.tree.items (ending_text (param_form all) (dots_ending all) x.tree.ending x.rest)
              ∙ ap (params_text all (params_from x.tree.items)) (ending_is all x.tree.ending x.rest);
          fits = params_fit all x.tree.items t.fits.1;
          ended = ellipsis_fits all x.tree.items x.tree.ending t.fits.0 t.fits.2;
          named = sym (params_named all x.tree.items s) ∙ t.named;
          low = subst (λ (m : ℕ). m ≤ room) (params_high all x.tree.items) t.low;
          left = t.left;
        }
