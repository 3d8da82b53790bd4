-- The text of parameters that fit is read as these.
use Rattle.std.proofs.Common.{◌≡◌, ℕ, ◌≤◌, Bool, true, false, List, [], ◌∷◌, Option, Some, None, inl, inr, refl, sym, ◌∙◌, ap, subst, arith}
use Rattle.std.specs.Prelude.{◌+◌, ◌-◌, max, not, ◌&&◌, All, if◌then◌else◌}
use Rattle.std.proofs.lemmas.List.Elements.{All-nil, All-cons}
use Rattle.qual_base.proofs.Tests.{and_second, and_first, and_false}
use Rattle.c_words.specs.declared.kinds.TokenKind.{TokenKind}
use Rattle.c_words.specs.declared.kinds.TokenKind.TheVariants as kinds
use Rattle.c_words.specs.declared.kinds.Keyword.{Keyword}
use Rattle.c_words.specs.declared.kinds.Keyword.TheVariants as keywords
use Rattle.c_words.specs.declared.kinds.Punct.TheVariants as puncts
use Rattle.c_tree.specs.declared.lexeme.Lexeme.{Lexeme}
use Rattle.c_syntax.specs.declared.parts.Attr.{Attr}
use Rattle.c_syntax.specs.declared.parts.Qual.{Qual}
use Rattle.c_syntax.specs.declared.parts.Qual.TheVariants as quals
use Rattle.c_tree.specs.Tree.{Dots, SpecWords, no_words, more_words, SpecWord, qualifier, attribute, typeof_type, SomeDeclr, no_declr, some_declr, Params, no_params, more_params}
use Rattle.c_tree.specs.Text.{separated, sign_text, spec_words_text, some_declr_text, declr_text, attrs_text, quals_text, params_text, other_params_text, dots_text, attr_text, qual_text}
use Rattle.c_tree.specs.Height.{attrs_height, specs_height, some_declr_height, params_height}
use Rattle.c_tree.specs.Groups.{IsGroup}
use Rattle.c_tree.specs.Specifiers.{IsMix}
use Rattle.c_tree.specs.WellFormed.{AreAttrs, AreParams, AreSpecWords, IsSomeDeclr, IsParamEnd, IsWordQual, IsEllipsis, has_auto, is_named, ends_starred}
use Rattle.c_specs.specs.Reading.{append_words}
use Rattle.c_specs.specs.Laws.{MixesGoOn}
use Rattle.typedef_scope.specs.declared.kind.Kind.TheVariants.{Value}
use Rattle.c_units.specs.HeldScopes.{HeldScopes, release}
use Rattle.c_units.specs.Scoping.{behind, where_true, spec_word_scopes, spec_words_scopes, some_declr_scopes, some_shows_no_type, params_scopes}
use Rattle.c_reading.specs.declared.kinds.SpecStart.{SpecStart}
use Rattle.c_reading.specs.declared.kinds.SpecStart.TheVariants as starts
use Rattle.c_reading.specs.declared.kinds.Role.TheVariants.{Typed}
use Rattle.c_reading.specs.declared.kinds.Mode.TheVariants.{Either}
use Rattle.c_reading.specs.Reading.{IsNumbered, ends, kind_at, listed, and_then, one_more}
use Rattle.c_reading.specs.Tokens.{is_attribute, is_made, qual_of, word_qual_of, attrs_at, begins_pointer_word}
use Rattle.c_reading.specs.Specifying.{start_at}
use Rattle.c_reading.specs.Parts.{Inner, ParamItem}
use Rattle.c_reading.specs.Declaring.{words_of_quals, words_of_attrs, are_none, param_words, param_attrs, param_with, next_param, params_with}
use Rattle.c_reading.proofs.Binding.{found, done, bind_is}
use Rattle.c_reading.proofs.Forms.{behind_ok}
use Rattle.c_reading.proofs.Rows.{row_scopes, row_height}
use Rattle.c_reading.proofs.Commas.{others_text, ending_text, others_read, others_stop, IsListEnd}
use Rattle.c_reading.proofs.KindFacts.{not_true, not_false, named_ends_specs, abstract_ends_specs, specs_no_dots, specs_no_close_paren}
use Rattle.c_reading.proofs.Firsts.{former_start, no_mix_of_none, start_of, word_starts, first_laws}
use Rattle.c_reading.proofs.Shared.{no_base, specs_here_complete}
use Rattle.c_reading.proofs.DeclrFalls.{next_param_falls}
use Rattle.c_reading.proofs.DeclrLists.{params_items, params_back, dots_ending, ending_is, params_fit_back, ending_back, params_named, params_high}
use Rattle.c_reading.proofs.DeclrSoundParams.{specs_high}
use Rattle.c_reading.proofs.Aims.{least_with, ends_specs, ends_suffix, ends_none, ends_star, ends_declr, ends_param, param_form, param_scopes, TokenLaws, FirstLaws, Laws}

-- Attributes and qualifiers that words begin with.

abbrev pub lead_attrs : SpecWords → List Attr
lead_attrs (more_words (attribute a) ws) = a ∷ lead_attrs ws
lead_attrs ws = []

abbrev pub behind_attrs : SpecWords → SpecWords
behind_attrs (more_words (attribute a) ws) = behind_attrs ws
behind_attrs ws = ws

abbrev pub lead_quals : SpecWords → List Qual
lead_quals (more_words (qualifier q) ws) = q ∷ lead_quals ws
lead_quals ws = []

abbrev pub behind_quals : SpecWords → SpecWords
behind_quals (more_words (qualifier q) ws) = behind_quals ws
behind_quals ws = ws

abbrev is_attribute_start : SpecStart → Bool
is_attribute_start starts.Attribute = true
is_attribute_start start = false

-- whether a word of specifiers begins as a qualifier does
abbrev is_qual_start : SpecStart → Bool
is_qual_start (starts.Word keyword) = true
is_qual_start starts.Element = true
is_qual_start starts.Index = true
is_qual_start start = false

former_no_attribute : (keyword : Keyword) → is_attribute_start (former_start keyword) ≡ false
former_no_attribute keywords.AtomicType = refl
former_no_attribute keyword = refl

former_no_qual : (keyword : Keyword) → is_qual_start (former_start keyword) ≡ false
former_no_qual keywords.AtomicType = refl
former_no_qual keyword = refl

no_attribute : (kind : TokenKind) (s : HeldScopes) → is_attribute_start (start_at s false kind) ≡ false
    → is_attribute kind ≡ false
no_attribute (kinds.Keyword keywords.Attribute) s e = absurd cc
no_attribute kind s e = refl

-- a token that begins no qualifier among specifiers makes none
no_qual : (kind : TokenKind) (s : HeldScopes) → is_qual_start (start_at s false kind) ≡ false
    → is_made (word_qual_of kind) ≡ false
no_qual (kinds.Keyword keywords.Const) s e = absurd cc
no_qual (kinds.Keyword keywords.Atomic) s e = absurd cc
no_qual (kinds.Keyword keywords.Seg) s e = absurd cc
no_qual (kinds.Keyword keywords.Volatile) s e = absurd cc
no_qual (kinds.Keyword keywords.Restrict) s e = absurd cc
no_qual (kinds.Qual lattice elem) s e = absurd cc
no_qual kinds.Index s e = absurd cc
no_qual kind s e = refl

-- words with others read before them
pub record Split (all : List Lexeme) (known rest ws : SpecWords) : Type 0 where
  pub are : append_words known rest ≡ ws
  pub mix : IsMix ws → IsMix rest
  pub fits : AreSpecWords all ws → AreSpecWords all rest
  pub plain : has_auto ws ≡ false → has_auto rest ≡ false
  pub named : (s : HeldScopes) → spec_words_scopes rest s ≡ spec_words_scopes ws s

module _ (all : List Lexeme) where
  pub whole_split : (ws : SpecWords) → Split all no_words ws ws
  whole_split ws = record { are = refl; mix = λ h. h; fits = λ h. h; plain = λ h. h; named = λ s. refl }

  attr_more : (a : Attr) (ws known rest : SpecWords) → Split all known rest ws
      → Split all (more_words (attribute a) known) rest (more_words (attribute a) ws)
  attr_more a ws known rest h = record {
    are = ap (more_words (attribute a)) h.are;
    mix = λ m. h.mix m;
    fits = λ f. h.fits f.1;
    plain = λ p. h.plain p;
    named = λ s. h.named s;
  }

  pub attrs_split : (ws : SpecWords) → Split all (words_of_attrs (lead_attrs ws)) (behind_attrs ws) ws
  attrs_split no_words = whole_split no_words
  attrs_split (more_words (attribute a) ws) =
      attr_more a ws (words_of_attrs (lead_attrs ws)) (behind_attrs ws) (attrs_split ws)
  attrs_split (more_words w ws) = whole_split (more_words w ws)

  qual_more : (q : Qual) (ws known rest : SpecWords) → Split all known rest ws
      → Split all (more_words (qualifier q) known) rest (more_words (qualifier q) ws)
  qual_more q ws known rest h = record {
    are = ap (more_words (qualifier q)) h.are;
    mix = λ m. h.mix m;
    fits = λ f. h.fits f.1;
    plain = λ p. h.plain p;
    named = λ s. h.named s;
  }

  pub quals_split : (ws : SpecWords) → Split all (words_of_quals (lead_quals ws)) (behind_quals ws) ws
  quals_split no_words = whole_split no_words
  quals_split (more_words (qualifier q) ws) =
      qual_more q ws (words_of_quals (lead_quals ws)) (behind_quals ws) (quals_split ws)
  quals_split (more_words w ws) = whole_split (more_words w ws)

  pub lead_attrs_fit : (ws : SpecWords) → AreSpecWords all ws → AreAttrs all (lead_attrs ws)
  lead_attrs_fit no_words h = All-nil (λ (a : Attr). IsGroup all a.group)
  lead_attrs_fit (more_words (attribute a) ws) h =
      All-cons (λ (a : Attr). IsGroup all a.group) a (lead_attrs ws) h.0 (lead_attrs_fit ws h.1)
  lead_attrs_fit (more_words w ws) h = All-nil (λ (a : Attr). IsGroup all a.group)

  lead_quals_fit : (ws : SpecWords) → AreSpecWords all ws → All (IsWordQual all) (lead_quals ws)
  lead_quals_fit no_words h = All-nil (IsWordQual all)
  lead_quals_fit (more_words (qualifier q) ws) h =
      All-cons (IsWordQual all) q (lead_quals ws) h.0 (lead_quals_fit ws h.1)
  lead_quals_fit (more_words w ws) h = All-nil (IsWordQual all)

  pub lead_attrs_spelled : (ws : SpecWords) (k : List Lexeme)
      → spec_words_text all ws k ≡ attrs_text all (lead_attrs ws) (spec_words_text all (behind_attrs ws) k)
  lead_attrs_spelled no_words k = refl
  lead_attrs_spelled (more_words (attribute a) ws) k = ap (attr_text all a) (lead_attrs_spelled ws k)
  lead_attrs_spelled (more_words w ws) k = refl

  lead_quals_spelled : (ws : SpecWords) (k : List Lexeme)
      → spec_words_text all ws k ≡ quals_text all (lead_quals ws) (spec_words_text all (behind_quals ws) k)
  lead_quals_spelled no_words k = refl
  lead_quals_spelled (more_words (qualifier q) ws) k = ap (qual_text all q) (lead_quals_spelled ws k)
  lead_quals_spelled (more_words w ws) k = refl

  module _ (numbered : IsNumbered all) (goes : MixesGoOn) where
    first_start : (w : SpecWord) (ws : SpecWords) (s s' : HeldScopes) (k : List Lexeme) → IsMix (more_words w ws)
        → AreSpecWords all (more_words w ws) → spec_words_scopes (more_words w ws) s ≡ Some s' →
        start_at s false (kind_at (spec_words_text all (more_words w ws) k)) ≡ start_of w
    first_start w ws s s' k mix fits named =
        let step = behind_ok (spec_word_scopes w s) (spec_words_scopes ws) s' named in
        word_starts all numbered goes s step.0 false no_words w (spec_words_text all ws k) fits.0 step.1
        (goes no_words w ws mix) (λ is. refl)

    pub lead_attrs_end : (ws : SpecWords) (s s' : HeldScopes) (k : List Lexeme) → IsMix ws → AreSpecWords all ws
        → spec_words_scopes ws s ≡ Some s' → is_attribute (kind_at (spec_words_text all (behind_attrs ws) k)) ≡ false
    lead_attrs_end no_words s s' k mix fits named = absurd (no_mix_of_none no_words refl mix)
    lead_attrs_end (more_words (attribute a) ws) s s' k mix fits named = lead_attrs_end ws s s' k mix fits.1 named
    lead_attrs_end (more_words (qualifier (quals.Word w)) ws) s s' k mix fits named =
        no_attribute (kind_at (spec_words_text all (more_words (qualifier (quals.Word w)) ws) k)) s
        (ap is_attribute_start (first_start (qualifier (quals.Word w)) ws s s' k mix fits named))
    lead_attrs_end (more_words (qualifier (quals.Element token)) ws) s s' k mix fits named =
        no_attribute (kind_at (spec_words_text all (more_words (qualifier (quals.Element token)) ws) k)) s
        (ap is_attribute_start (first_start (qualifier (quals.Element token)) ws s s' k mix fits named))
    lead_attrs_end (more_words (qualifier (quals.Index token)) ws) s s' k mix fits named =
        no_attribute (kind_at (spec_words_text all (more_words (qualifier (quals.Index token)) ws) k)) s
        (ap is_attribute_start (first_start (qualifier (quals.Index token)) ws s s' k mix fits named))
    lead_attrs_end (more_words (typeof_type w opening us d closing) ws) s s' k mix fits named =
        no_attribute (kind_at (spec_words_text all (more_words (typeof_type w opening us d closing) ws) k)) s
        (ap is_attribute_start (first_start (typeof_type w opening us d closing) ws s s' k mix fits named)
        ∙ former_no_attribute w.keyword)
    lead_attrs_end (more_words w ws) s s' k mix fits named =
        no_attribute (kind_at (spec_words_text all (more_words w ws) k)) s
        (ap is_attribute_start (first_start w ws s s' k mix fits named))

    lead_quals_end : (ws : SpecWords) (s s' : HeldScopes) (k : List Lexeme) → IsMix ws → AreSpecWords all ws
        → spec_words_scopes ws s ≡ Some s'
        → is_made (word_qual_of (kind_at (spec_words_text all (behind_quals ws) k))) ≡ false
    lead_quals_end no_words s s' k mix fits named = absurd (no_mix_of_none no_words refl mix)
    lead_quals_end (more_words (qualifier q) ws) s s' k mix fits named = lead_quals_end ws s s' k mix fits.1 named
    lead_quals_end (more_words (typeof_type w opening us d closing) ws) s s' k mix fits named =
        no_qual (kind_at (spec_words_text all (more_words (typeof_type w opening us d closing) ws) k)) s
        (ap is_qual_start (first_start (typeof_type w opening us d closing) ws s s' k mix fits named)
        ∙ former_no_qual w.keyword)
    lead_quals_end (more_words w ws) s s' k mix fits named =
        no_qual (kind_at (spec_words_text all (more_words w ws) k)) s
        (ap is_qual_start (first_start w ws s s' k mix fits named))

module _ (all : List Lexeme) (numbered : IsNumbered all) (tokens : TokenLaws all) (goes : MixesGoOn) (n : ℕ)
    (inner : Inner) (laws : Laws all n inner) where
  firsts : FirstLaws all
  firsts = first_laws goes all numbered

  words_complete : (known rest : SpecWords) (room : ℕ) → room ≤ n → (s s' : HeldScopes) (k : List Lexeme)
      → IsMix (append_words known rest) → IsMix rest → AreSpecWords all rest → has_auto rest ≡ false
      → spec_words_scopes rest s ≡ Some s' →
      specs_height (append_words known rest) + 1 ≤ room → ends_specs (kind_at k) ≡ true
      → param_words inner known room s (spec_words_text all rest k) ≡ done (found (append_words known rest) s' k)
  words_complete no_words rest room less s s' k whole mix fits plain named low ended =
      specs_here_complete all n inner laws firsts Typed room less rest s s' k (mix, (fits, plain)) named low ended
  words_complete (more_words w ws) rest room less s s' k whole mix fits plain named low ended =
      laws.words.complete Typed (more_words w ws) rest (room - 1) (omega (arith, less, low)) s s' k whole
      (fits, plain) named (inr (omega (arith, low))) (inl ended)

  -- what ends a parameter
  stops_specs : (kind : TokenKind) → ends_param kind ≡ true → ends_specs kind ≡ true
  stops_specs kind e = and_first (ends_specs kind) (ends_star Either kind) e

  stops_star : (kind : TokenKind) → ends_param kind ≡ true → ends_star Either kind ≡ true
  stops_star kind e = and_second (ends_specs kind) (ends_star Either kind) e

  stops_none : (kind : TokenKind) → ends_param kind ≡ true → ends_none Either kind ≡ true
  stops_none kind e = and_first (ends_none Either kind) (not (begins_pointer_word kind)) (stops_star kind e)

  stops_suffix : (kind : TokenKind) → ends_param kind ≡ true → ends_suffix kind ≡ true
  stops_suffix kind e = by_three (ends_suffix kind) _ _ (stops_none kind e)
    where
      by_three : (a b c : Bool) → (a && b && c) ≡ true → a ≡ true
      by_three true b c e = refl
      by_three false b c e = absurd cc

  stops_attribute : (kind : TokenKind) → ends_param kind ≡ true → is_attribute kind ≡ false
  stops_attribute kind e =
      by_kind (is_attribute kind)
      (not_true (and_second (ends_none Either kind) (not (begins_pointer_word kind)) (stops_star kind e)))
    where
      by_kind : (b : Bool) → (if b then true else is_made (qual_of kind)) ≡ false → b ≡ false
      by_kind true e = absurd cc
      by_kind false e = refl

  -- behind the specifiers of a parameter
  specs_end : (d : SomeDeclr) (attrs : List Attr) (s t : HeldScopes) (k : List Lexeme) → IsSomeDeclr all d
      → IsParamEnd d attrs → some_declr_scopes (Some Value) d s ≡ Some t → ends_param (kind_at k) ≡ true →
      ends_specs (kind_at (some_declr_text all d (attrs_text all attrs k))) ≡ true
  specs_end no_declr [] s t k fits there named ended = stops_specs (kind_at k) ended
  specs_end no_declr (a ∷ attrs) s t k fits there named ended = absurd there
  specs_end (some_declr d) attrs s t k fits there named ended = by_name (is_named d) refl
    where
      by_name : (b : Bool) → is_named d ≡ b → ends_specs (kind_at (declr_text all d (attrs_text all attrs k))) ≡ true
      by_name true is =
          named_ends_specs (kind_at (declr_text all d (attrs_text all attrs k)))
          (firsts.named_begins d (attrs_text all attrs k) fits is)
          (firsts.named_base d (attrs_text all attrs k) fits is ∙ no_base (Some Value) refl d s t named)
      by_name false is =
          abstract_ends_specs (kind_at (declr_text all d (attrs_text all attrs k)))
          (firsts.abstract_begins d (attrs_text all attrs k) fits is)

  -- behind the declarator of a parameter
  declr_end : (d : SomeDeclr) (attrs : List Attr) (k : List Lexeme) → IsParamEnd d attrs → ends_param (kind_at k) ≡ true
      → ends_declr Either d (kind_at (attrs_text all attrs k)) ≡ true
  declr_end no_declr [] k there ended = stops_none (kind_at k) ended
  declr_end no_declr (a ∷ attrs) k there ended = absurd there
  declr_end (some_declr d) [] k there ended = by_star (ends_starred d)
    where
      by_star : (b : Bool) → (if b then ends_star Either (kind_at k) else ends_suffix (kind_at k)) ≡ true
      by_star true = stops_star (kind_at k) ended
      by_star false = stops_suffix (kind_at k) ended
  declr_end (some_declr d) (a ∷ attrs) k there ended = rw there refl

  low_lead : (attrs : List Attr) (room h : ℕ) → max h (attrs_height attrs) + 1 ≤ room → 1 ≤ h → least_with attrs ≤ room
  low_lead [] room h low high = omega arith
  low_lead (a ∷ attrs) room h low high = omega (arith, low, high)

  attrs_complete : (d : SomeDeclr) (attrs : List Attr) (room : ℕ) (s : HeldScopes) (k : List Lexeme)
      → AreAttrs all attrs → IsParamEnd d attrs → least_with attrs ≤ room → ends_param (kind_at k) ≡ true →
      param_attrs inner d room s (attrs_text all attrs k) ≡ done (found attrs s k)
  attrs_complete no_declr [] room s k fits there low ended = refl
  attrs_complete no_declr (a ∷ attrs) room s k fits there low ended = absurd there
  attrs_complete (some_declr d) attrs room s k fits there low ended = by_star (ends_starred d) refl
    where
      none : (attrs : List Attr) → ends_starred d ≡ true → IsParamEnd (some_declr d) attrs → attrs ≡ []
      none [] is there = refl
      none (a ∷ attrs) is there = let wrong : true ≡ false = sym is ∙ there in absurd cc

      by_star : (b : Bool) → ends_starred d ≡ b
          → (if not b then attrs_at room s (attrs_text all attrs k) else ends [] s (attrs_text all attrs k))
          ≡ done (found attrs s k)
      by_star true is = rw (none attrs is there) refl
      by_star false is =
          tokens.attrs_complete room attrs s s k fits refl low (not_false (stops_attribute (kind_at k) ended))

  some_is : {t u : HeldScopes} → Some t ≡ Some u → t ≡ u
  some_is e = cc

  is_shown : (b : Bool) (t u : HeldScopes) → where_true b t ≡ Some u → (b ≡ true) × (t ≡ u)
  is_shown true t u e = (refl, cc)
  is_shown false t u e = absurd cc

  -- a parameter, behind words that were read already
  param_complete : (known rest ws : SpecWords) (d : SomeDeclr) (attrs : List Attr) (room : ℕ) → room ≤ n
      → Split all known rest ws → (s s' : HeldScopes) (k : List Lexeme) →
      (param_form all).Fits (record { words = ws; declr = d; attrs = attrs }) → param_scopes ws d s ≡ Some s'
      → (param_form all).height (record { words = ws; declr = d; attrs = attrs }) ≤ room
      → ends_param (kind_at k) ≡ true →
      param_with inner known room s (spec_words_text all rest (some_declr_text all d (attrs_text all attrs k)))
      ≡ done (found (record { words = ws; declr = d; attrs = attrs }) s' k)
  unfolding param_with
  param_complete known rest ws d attrs room less split s s' k fits named low ended =
      let a = behind_ok (behind (behind (spec_words_scopes ws s) (λ t. where_true (some_shows_no_type t d) t))
      (some_declr_scopes (Some Value) d)) (λ t. Some (release Value t)) s' named in
      let b = behind_ok (behind (spec_words_scopes ws s) (λ t. where_true (some_shows_no_type t d) t))
      (some_declr_scopes (Some Value) d) a.0 a.1 in
      let c = behind_ok (spec_words_scopes ws s) (λ t. where_true (some_shows_no_type t d) t) b.0 b.1 in
      let shows = is_shown (some_shows_no_type c.0 d) c.0 b.0 c.2 in
      let high : 1 ≤ specs_height ws = specs_high ws in
      let same : s' ≡ release Value a.0 = sym (some_is a.2) in
      let inside : some_declr_scopes (Some Value) d c.0 ≡ Some a.0 =
      ap (some_declr_scopes (Some Value) d) shows.1 ∙ b.2 in
      let words = words_complete known rest room less s c.0 (some_declr_text all d (attrs_text all attrs k))
      (subst IsMix (sym split.are) fits.0) (split.mix fits.0) (split.fits fits.1) (split.plain fits.2)
      (split.named s ∙ c.1)
      (subst (λ (us : SpecWords). specs_height us + 1 ≤ room) (sym split.are) (omega (arith, low)))
      (specs_end d attrs c.0 a.0 k fits.3 fits.5 inside ended) in
      let declr = laws.declrs.complete Either (Some Value) false (room - 1) (omega (arith, less, low)) refl d c.0 a.0
      (attrs_text all attrs k) (fits.3, shows.0) (inr fits.6) inside (omega (arith, low))
      (declr_end d attrs k fits.5 ended) in
      let end_low : least_with attrs ≤ room =
      low_lead attrs room (max (specs_height ws) (some_declr_height d)) (omega (arith, low)) (omega (arith, high)) in
      let last = attrs_complete d attrs room (release Value a.0) k fits.4 fits.5 end_low ended in
      bind_is _ words (bind_is _ declr (bind_is _ last (ap (λ (us : SpecWords). done
      (found (record { words = us; declr = d; attrs = attrs }) (release Value a.0) k)) split.are
      ∙ ap (λ (u : HeldScopes). done (found (record { words = ws; declr = d; attrs = attrs }) u k)) (sym same))))

  -- what stands behind a comma: a parameter that may begin with qualifiers
  next_complete : (room : ℕ) → room ≤ n → (comma : ℕ) (x : ParamItem) (s t : HeldScopes) (k : List Lexeme)
      → (param_form all).Fits x → (param_form all).scopes x s ≡ Some t → (param_form all).height x ≤ room
      → ends_param (kind_at k) ≡ true →
      next_param inner room comma s ((param_form all).text x k) ≡ done (found (one_more x) t k)
  unfolding next_param
  next_complete room less comma x s t k fits named low ended =
      let a =
      behind_ok (behind (behind (spec_words_scopes x.words s) (λ t. where_true (some_shows_no_type t x.declr) t))
      (some_declr_scopes (Some Value) x.declr)) (λ t. Some (release Value t)) t named in
      let b = behind_ok (behind (spec_words_scopes x.words s) (λ t. where_true (some_shows_no_type t x.declr) t))
      (some_declr_scopes (Some Value) x.declr) a.0 a.1 in
      let c = behind_ok (spec_words_scopes x.words s) (λ t. where_true (some_shows_no_type t x.declr) t) b.0 b.1 in
      let more = some_declr_text all x.declr (attrs_text all x.attrs k) in
      let rest = behind_quals x.words in
      let split = quals_split all x.words in
      let quals = tokens.quals_complete room (lead_quals x.words) s s (spec_words_text all rest more)
      (lead_quals_fit all x.words fits.1) refl (omega arith)
      (not_false (lead_quals_end all numbered goes x.words s c.0 more fits.0 fits.1 c.1)) in
      let begun = firsts.words_begin rest s c.0 more (split.mix fits.0) (split.fits fits.1) (split.named s ∙ c.1) in
      rw (lead_quals_spelled all x.words more)
      (bind_is _ quals (rw (specs_no_dots s (kind_at (spec_words_text all rest more)) begun)
      (bind_is _ (param_complete (words_of_quals (lead_quals x.words)) rest x.words x.declr x.attrs room less split s t
      k fits named low ended) refl)))

  first_complete : (room : ℕ) → room ≤ n → (x : ParamItem) (s t : HeldScopes) (k : List Lexeme)
      → (param_form all).Fits x → (param_form all).scopes x s ≡ Some t → (param_form all).height x ≤ room
      → ends_param (kind_at k) ≡ true →
      param_with inner no_words room s ((param_form all).text x k) ≡ done (found x t k)
  first_complete room less x s t k fits named low ended =
      param_complete no_words x.words x.words x.declr x.attrs room less
      (whole_split all x.words) s t k fits named low ended

  -- the end of parameters before a parenthesis
  list_ends : (room : ℕ) (less : room ≤ n) (ps : Params) (dots : Option Dots) (s : HeldScopes) (closing : ℕ)
      (k : List Lexeme)
      → IsEllipsis all ps dots →
      IsListEnd (param_with inner no_words room) (next_param inner room) (param_form all) (dots_ending all)
      (λ x. ends_param) room (next_param_falls all tokens n inner laws room) (first_complete room less)
      (next_complete room less) (λ x. refl) dots s (sign_text puncts.CloseParen closing k)
  unfolding next_param and_then
  list_ends room less ps None s closing k fits = (refl, λ x. refl)
  list_ends room less ps (Some dots) s closing k fits =
      let quals = tokens.quals_complete room dots.quals s s (sign_text puncts.Ellipsis dots.dots
      (sign_text puncts.CloseParen closing k)) (ending_back all ps (Some dots) fits) refl (omega arith) refl in (
        dots.comma,
        quals_text all dots.quals (sign_text puncts.Ellipsis dots.dots (sign_text puncts.CloseParen closing k)),
        refl,
        bind_is _ quals refl,
      )

  other_params_back : (ps : Params) (k : List Lexeme)
      → other_params_text all ps k ≡ others_text (param_form all) (dots_ending all) (params_items ps) k
  other_params_back no_params k = refl
  other_params_back (more_params ws d attrs ps) k =
      ap (λ (k : List Lexeme). separated (spec_words_text all ws (some_declr_text all d (attrs_text all attrs k))))
      (other_params_back ps k)

  pub no_params_complete : (room : ℕ) (s : HeldScopes) (closing : ℕ) (k : List Lexeme) →
      params_with inner [] room s (sign_text puncts.CloseParen closing k)
      ≡ done (found (record { items = []; ending = None }) s (sign_text puncts.CloseParen closing k))
  unfolding params_with
  no_params_complete room s closing k = refl

  -- parameters, the first behind attributes that were read already
  pub params_complete : (lead : List Attr) (rest ws : SpecWords) (d : SomeDeclr) (attrs : List Attr) (ps : Params)
      (dots : Option Dots) (room : ℕ)
      → room ≤ n → Split all (words_of_attrs lead) rest ws →
      (s t : HeldScopes) (closing : ℕ) (k : List Lexeme) → AreParams all (more_params ws d attrs ps)
      → IsEllipsis all (more_params ws d attrs ps) dots → params_scopes (more_params ws d attrs ps) s ≡ Some t →
      params_height (more_params ws d attrs ps) ≤ room →
      params_with inner lead room s (spec_words_text all rest (some_declr_text all d
      (attrs_text all attrs (other_params_text all ps (dots_text all dots (sign_text puncts.CloseParen closing k)))))) ≡
      done (found (record { items = params_items (more_params ws d attrs ps); ending = dots }) t
      (sign_text puncts.CloseParen closing k))
  unfolding params_with listed
  params_complete lead rest ws d attrs ps dots room less split s t closing k fits ended named low =
      ap (λ (z : List Lexeme). params_with inner lead room s (before z)) more_is ∙ read
    where
      last : List Lexeme
      last = sign_text puncts.CloseParen closing k

      x : ParamItem
      x = record { words = ws; declr = d; attrs = attrs }

      before : List Lexeme → List Lexeme
      before z = spec_words_text all rest (some_declr_text all d (attrs_text all attrs z))

      more : List Lexeme
      more = others_text (param_form all) (dots_ending all) (params_items ps)
          (ending_text (param_form all) (dots_ending all) dots last)

      more_is : other_params_text all ps (dots_text all dots last) ≡ more
      more_is =
          other_params_back ps (dots_text all dots last)
          ∙ ap (others_text (param_form all) (dots_ending all) (params_items ps)) (sym (ending_is all dots last))

      row : row_scopes (param_form all) (x ∷ params_items ps) s ≡ Some t
      row = params_named all (x ∷ params_items ps) s
          ∙ ap (λ (qs : Params). params_scopes (more_params ws d attrs qs) s) (params_back ps) ∙ named

      row_low : row_height (param_form all) (x ∷ params_items ps) ≤ room
      row_low =
          subst (λ (m : ℕ). m ≤ room) (sym (params_high all (x ∷ params_items ps)
          ∙ ap (λ (qs : Params). params_height (more_params ws d attrs qs)) (params_back ps))) low

      stop : IsListEnd (param_with inner no_words room) (next_param inner room) (param_form all) (dots_ending all)
          (λ x. ends_param) room (next_param_falls all tokens n inner laws room) (first_complete room less)
          (next_complete room less) (λ x. refl) dots t last
      stop = list_ends room less (more_params ws d attrs ps) dots t closing k ended

      read : params_with inner lead room s (before more)
          ≡ done (found (record { items = x ∷ params_items ps; ending = dots }) t last)
      read =
          let b = behind_ok ((param_form all).scopes x s) (row_scopes (param_form all) (params_items ps)) t row in
          let are = params_fit_back all (more_params ws d attrs ps) fits in
          let a1 = behind_ok (behind (behind (spec_words_scopes ws s) (λ t. where_true (some_shows_no_type t d) t))
          (some_declr_scopes (Some Value) d)) (λ t. Some (release Value t)) b.0 b.1 in
          let a2 = behind_ok (behind (spec_words_scopes ws s) (λ t. where_true (some_shows_no_type t d) t))
          (some_declr_scopes (Some Value) d) a1.0 a1.1 in
          let a3 = behind_ok (spec_words_scopes ws s) (λ t. where_true (some_shows_no_type t d) t) a2.0 a2.1 in
          let begun = firsts.words_begin rest s a3.0 (some_declr_text all d (attrs_text all attrs more))
          (split.mix fits.0) (split.fits fits.1) (split.named s ∙ a3.1) in
          let after = others_stop (param_with inner no_words room) (next_param inner room) (param_form all)
          (dots_ending all) (λ x. ends_param) room (next_param_falls all tokens n inner laws room)
          (first_complete room less) (next_complete room less) (λ x. refl)
          (params_items ps) dots x t last stop in
          let first = param_complete (words_of_attrs lead) rest ws d attrs room less split s b.0 more are.0 b.1
          (omega (arith, row_low)) after in
          let others = others_read (param_with inner no_words room) (next_param inner room) (param_form all)
          (dots_ending all) (λ x. ends_param) room (next_param_falls all tokens n inner laws room)
          (first_complete room less) (next_complete room less) (λ x. refl)
          (params_items ps) (x ∷ []) dots b.0 t last are.1 b.2 (omega (arith, row_low)) stop in
          rw (specs_no_close_paren s (kind_at (before more)) begun, and_false (are_none lead)) (bind_is _ first others)
