-- The laws of the readers of declarators and of names of types.
use Rattle.std.proofs.Common.{◌≡◌, ℕ, suc, ◌<◌, ◌≤◌, Bool, true, false, List, Option, Some, None, inl, inr, refl, sym, ◌∙◌, ap, subst, arith}
use Rattle.std.specs.Prelude.{◌+◌, ◌-◌, max, not, ◌&&◌, ◌⊎◌, All, is_some, option_map, if◌then◌else◌}
use Rattle.qual_base.proofs.Tests.{and_second, and_first}
use Rattle.c_words.specs.declared.kinds.TokenKind.{TokenKind}
use Rattle.c_words.specs.declared.kinds.TokenKind.TheVariants as kinds
use Rattle.c_words.specs.declared.kinds.Keyword.TheVariants as keywords
use Rattle.c_words.specs.declared.kinds.Punct.TheVariants as puncts
use Rattle.c_tree.specs.declared.lexeme.Lexeme.{Lexeme}
use Rattle.c_syntax.specs.declared.parts.PointerWord.{PointerWord}
use Rattle.c_tree.specs.Tree.{SpecWords, no_words, Declr, pointer, declr_name, declr_paren, array, params, abs_pointer, abs_paren, abs_array, abs_params, identifiers, base_name, SomeDeclr, no_declr, some_declr}
use Rattle.c_tree.specs.Text.{sign_text, pointer_words_text, spec_words_text, declr_text, some_declr_text}
use Rattle.c_tree.specs.Height.{pointer_words_height, declr_height, some_declr_height, specs_height}
use Rattle.c_tree.specs.WellFormed.{IsPointerWord, IsDeclr, IsSomeAbstract, AreTypeWords, is_named, is_direct, ends_starred, lists_identifiers, some_lists_identifiers}
use Rattle.c_specs.specs.Laws.{MixesGoOn}
use Rattle.typedef_scope.specs.declared.kind.Kind.{Kind}
use Rattle.c_units.specs.HeldScopes.{HeldScopes, HeldScope, innermost}
use Rattle.c_units.specs.Scoping.{declr_scopes, some_declr_scopes, spec_words_scopes}
use Rattle.c_units.specs.Units.{OwnParams}
use Rattle.c_reading.specs.declared.kinds.Role.TheVariants.{Naming}
use Rattle.c_reading.specs.declared.kinds.Mode.{Mode}
use Rattle.c_reading.specs.declared.kinds.Mode.TheVariants.{Named, Abstract, Either}
use Rattle.c_reading.specs.Reading.{IsNumbered, Found, kind_at, run}
use Rattle.c_reading.specs.Tokens.{is_open_paren, is_open_bracket, is_star, is_attribute, is_made, qual_of, spelled_name, begins_pointer_word, pointer_words_at}
use Rattle.c_reading.specs.Parts.{Inner, Declared}
use Rattle.c_reading.specs.Declaring.{names_base, takes_name, least_pointer, with_pointer, name_or_none, suffix_turn, core_with, direct_with, pointer_with, declr_with, type_name_with}
use Rattle.c_reading.proofs.Binding.{found, done, bind_ok, bind_is, fits_is}
use Rattle.c_reading.proofs.Loops.{run_ends}
use Rattle.c_reading.proofs.Forms.{Takes, IsSound, IsComplete, at_end, behind_is, behind_ok}
use Rattle.c_reading.proofs.KindFacts.{not_true, not_false, abstract_ends_specs}
use Rattle.c_reading.proofs.Firsts.{no_mix_of_none, first_laws}
use Rattle.c_reading.proofs.DeclrFalls.{suffix_shrinks, declr_falls, declr_shrinks, type_name_shrinks}
use Rattle.c_reading.proofs.DeclrSoundParams.{specs_high}
use Rattle.c_reading.proofs.DeclrOwn.{own_pointer, own_none}
use Rattle.c_reading.proofs.DeclrSound.{unnamed_plain, declr_sound}
use Rattle.c_reading.proofs.DeclrComplete.{named_no_pointer_word, abstract_no_pointer_word, direct_ends, inner_room, inner_number, least_room, some_closed_high, words_least, words_two, all_three, mode_fits, bare_direct, direct_on}
use Rattle.c_reading.proofs.Aims.{least_pointer_words, ends_specs, ends_suffix, ends_none, ends_star, ends_declr, ends_type_name, own_scope_in, closed_of, declared_as, declr_room, declr_number, FitsMode, MayName, TakesWords, type_name_form, DeclrLaws, TypeNameLaws, TokenLaws, FirstLaws, Laws}
use Rattle.c_reading.proofs.SpecsSoundBodies.{declr_high}

module _ (all : List Lexeme) (numbered : IsNumbered all) (tokens : TokenLaws all) (goes : MixesGoOn) (n : ℕ)
    (inner : Inner) (laws : Laws all n inner) where
  firsts : FirstLaws all
  firsts = first_laws goes all numbered

  -- the loop of brackets and parameters ends
  loop_ends : (flag : Bool) (room : ℕ) (d : Declared) (s : HeldScopes) (k : List Lexeme)
      → ends_suffix (kind_at k) ≡ true → run (suffix_turn inner flag room) d s k ≡ done (found d s k)
  loop_ends flag room d s k ended =
      run_ends (suffix_turn inner flag room) (suffix_shrinks all tokens n inner laws flag room) d s k
      (rw (
        not_true (and_second (not (is_open_paren (kind_at k))) (not (is_open_bracket (kind_at k))) ended),
        not_true (and_first (not (is_open_paren (kind_at k))) (not (is_open_bracket (kind_at k))) ended),
      ) refl)

  -- nothing stands there

  no_core : (mode : Mode) (wanted : Option Kind) (room : ℕ) (s : HeldScopes) (k : List Lexeme) (o : Option ℕ)
      → FitsMode all mode no_declr s → (takes_name mode && is_some o) ≡ false
      → name_or_none inner mode wanted o room s k ≡ done (found (declared_as wanted no_declr s) s k)
  no_core Named wanted room s k o fits no_name = absurd fits
  no_core Abstract wanted room s k None fits no_name = refl
  no_core Abstract wanted room s k (Some name) fits no_name = refl
  no_core Either wanted room s k None fits no_name = refl
  no_core Either wanted room s k (Some name) fits no_name = absurd cc

  no_base_there : (mode : Mode) (wanted : Option Kind) (s : HeldScopes) (kind : TokenKind)
      → FitsMode all mode no_declr s → names_base s mode wanted kind ≡ false
  no_base_there Named wanted s kind fits = absurd fits
  no_base_there Abstract wanted s kind fits = refl
  no_base_there Either wanted s kind fits = refl

  none_complete : (mode : Mode) (wanted : Option Kind) (flag : Bool) (room : ℕ) (s : HeldScopes) (k : List Lexeme)
      → FitsMode all mode no_declr s → ends_none mode (kind_at k) ≡ true →
      declr_with inner mode wanted flag room s k ≡ done (found (declared_as wanted no_declr s) s k)
  unfolding declr_with direct_with core_with
  none_complete mode wanted flag room s k fits ended =
      let e = all_three (ends_suffix (kind_at k)) (not (is_star (kind_at k)))
      (not (takes_name mode && is_some (spelled_name (kind_at k)))) ended in
      rw (not_true e.1) (rw (
        not_true (and_first (not (is_open_paren (kind_at k))) (not (is_open_bracket (kind_at k))) e.0),
        no_base_there mode wanted s (kind_at k) fits,
      )
      (bind_is _ (no_core mode wanted room s k (spelled_name (kind_at k)) fits (not_true e.2))
      (loop_ends flag room (declared_as wanted no_declr s) s k e.0)))

  -- a pointer

  pointer_high : (mode : Mode) (d : SomeDeclr) (s : HeldScopes) → FitsMode all mode d s
      → least_pointer mode ≤ some_declr_height d + 1
  pointer_high Named no_declr s fits = absurd fits
  pointer_high Named (some_declr d) s fits = let high : 1 ≤ declr_height d = declr_high d in omega (arith, high)
  pointer_high Abstract d s fits = omega arith
  pointer_high Either d s fits = omega arith

  pointer_two : (mode : Mode) → least_pointer mode ≤ 2
  pointer_two Named = omega arith
  pointer_two Abstract = omega arith
  pointer_two Either = omega arith

  pointer_complete : (mode : Mode) (wanted : Option Kind) (flag : Bool) (room : ℕ) → declr_number flag room < suc n
      → MayName all mode wanted
      → (token : ℕ) (words : List PointerWord) (d : SomeDeclr) (s s' : HeldScopes) (k : List Lexeme)
      → All (IsPointerWord all) words → FitsMode all mode d s → (flag ≡ true) ⊎ (some_lists_identifiers d ≡ false) →
      some_declr_scopes wanted d s ≡ Some s'
      → max (pointer_words_height words) (some_declr_height d) + 1 ≤ declr_room flag (closed_of wanted d s) room
      → begins_pointer_word (kind_at (some_declr_text all d k)) ≡ false → ends_declr mode d (kind_at k) ≡ true →
      pointer_with inner mode wanted flag room s
      (sign_text puncts.Star token (pointer_words_text all words (some_declr_text all d k)))
      ≡ done (found (declared_as wanted (some_declr (with_pointer token words d)) s) s' k)
  unfolding pointer_with
  pointer_complete mode wanted flag room less may token words d s s' k words_fit fits plain named low no_word ended =
      fits_is (least_pointer mode) room
      (sign_text puncts.Star token (pointer_words_text all words (some_declr_text all d k))) _ enough
      ∙ bind_is _ refl (bind_is _ read (bind_is _ inside
      (ap (λ (o : Option OwnParams). done (found (record {
        declr = some_declr (with_pointer token words d);
        closed = option_map innermost (own_scope_in wanted o s);
      }) s' k)) (sym (own_pointer token words d)))))
    where
      h : ℕ
      h = max (pointer_words_height words) (some_declr_height d) + 1

      three : (scope : HeldScope) → closed_of wanted d s ≡ Some scope → 3 ≤ h
      three scope is = let high : 2 ≤ some_declr_height d = some_closed_high wanted d s scope is in omega (arith, high)

      enough : least_pointer mode ≤ room
      enough =
          least_room flag (closed_of wanted d s) room h (least_pointer mode) (λ scope is. let high : 3 ≤ h =
          three scope is in omega (arith, high, pointer_two mode)) (omega (arith, pointer_high mode d s fits)) low

      words_room : least_pointer_words words ≤ room
      words_room =
          least_room flag (closed_of wanted d s) room h (least_pointer_words words) (λ scope is. let high : 3 ≤ h =
          three scope is in omega (arith, high, words_two words)) (omega (arith, words_least words)) low

      one : (mode : Mode) → 1 ≤ least_pointer mode
      one Named = omega arith
      one Abstract = omega arith
      one Either = omega arith

      least : 1 ≤ room
      least = omega (arith, enough, one mode)

      read : pointer_words_at room s (pointer_words_text all words (some_declr_text all d k))
          ≡ done (found words s (some_declr_text all d k))
      read = tokens.pointer_words_complete room words s s (some_declr_text all d k) words_fit refl words_room
          (not_false no_word)

      inside : inner.declr mode wanted flag (room - 1) s (some_declr_text all d k)
          ≡ done (found (declared_as wanted d s) s' k)
      inside =
          laws.declrs.complete mode wanted flag (room - 1)
          (inner_number flag room n less least) may d s s' k fits plain named (inner_room flag
          (closed_of wanted d s) room (some_declr_height d) (pointer_words_height words) low least) ended

  -- the first token of a direct declarator is no star
  direct_no_star : (d : Declr) (k : List Lexeme) → IsDeclr all d → is_direct d ≡ true
      → is_star (kind_at (declr_text all d k)) ≡ false
  direct_no_star (pointer star words d) k fits direct = absurd cc
  direct_no_star (declr_name token name) k fits direct = refl
  direct_no_star (declr_paren opening attrs d closing) k fits direct = refl
  direct_no_star (array d opening words size closing) k fits direct = direct_no_star d _ fits.0 fits.2
  direct_no_star (params d opening ps dots closing) k fits direct = direct_no_star d _ fits.0 fits.2
  direct_no_star (identifiers d opening names closing) k fits direct =
      direct_no_star d _ fits.0 (bare_direct all d fits.1)
  direct_no_star (base_name token) k fits direct = refl
  direct_no_star (abs_pointer star words d) k fits direct = absurd cc
  direct_no_star (abs_paren opening attrs d closing) k fits direct = refl
  direct_no_star (abs_array no_declr opening words size closing) k fits direct = refl
  direct_no_star (abs_array (some_declr d) opening words size closing) k fits direct =
      direct_no_star d _ fits.0.0 fits.0.2
  direct_no_star (abs_params no_declr opening ps dots closing) k fits direct = refl
  direct_no_star (abs_params (some_declr d) opening ps dots closing) k fits direct =
      direct_no_star d _ fits.0.0 fits.0.2

  direct_complete : (mode : Mode) (wanted : Option Kind) (flag : Bool) (room : ℕ) → declr_number flag room < suc n
      → MayName all mode wanted → (d : Declr) (s s' : HeldScopes) (k : List Lexeme) → is_direct d ≡ true
      → FitsMode all mode (some_declr d) s → (flag ≡ true) ⊎ (lists_identifiers d ≡ false)
      → declr_scopes wanted d s ≡ Some s' →
      declr_height d ≤ declr_room flag (closed_of wanted (some_declr d) s) room
      → ends_declr mode (some_declr d) (kind_at k) ≡ true → declr_with inner mode wanted flag room s
      (declr_text all d k) ≡ done (found (declared_as wanted (some_declr d) s) s' k)
  unfolding declr_with
  direct_complete mode wanted flag room less may d s s' k direct fits plain named low ended =
      let f = mode_fits all mode d s fits in
      let suffix : ends_suffix (kind_at k) ≡ true = ap (λ (b : Bool). if b then ends_star mode (kind_at k)
      else ends_suffix (kind_at k)) (sym (direct_ends d direct)) ∙ ended in
      rw (direct_no_star d k f.0 direct)
      (direct_on all numbered tokens goes n inner laws mode wanted flag room less may d s s' k f.0 direct f.1 f.2 plain
      named low ∙ loop_ends flag room (declared_as wanted (some_declr d) s) s' k suffix)

  -- the part of a pointer fits its mode
  named_part : (mode : Mode) (token : ℕ) (words : List PointerWord) (d : Declr) (s : HeldScopes)
      → FitsMode all mode (some_declr (pointer token words d)) s
      → All (IsPointerWord all) words × FitsMode all mode (some_declr d) s × (is_named d ≡ true)
  named_part Named token words d s h = (h.0.0, (h.0.1, h.0.2), h.0.2)
  named_part Abstract token words d s h = absurd cc
  named_part Either token words d s h = (h.0.0, (h.0.1, h.1), h.0.2)

  abstract_part : (mode : Mode) (token : ℕ) (words : List PointerWord) (d : SomeDeclr) (s : HeldScopes)
      → FitsMode all mode (some_declr (abs_pointer token words d)) s
      → All (IsPointerWord all) words × FitsMode all mode d s × IsSomeAbstract all d
  abstract_part Named token words d s h = absurd cc
  abstract_part Abstract token words d s h = (h.0.0, h.0.1, h.0.1)
  abstract_part Either token words no_declr s h = (h.0.0, (tt, refl), tt)
  abstract_part Either token words (some_declr d) s h = (h.0.0, (h.0.1.0, h.1), h.0.1)

  star_none : (mode : Mode) (kind : TokenKind) → ends_star mode kind ≡ true
      → (ends_none mode kind ≡ true) × (begins_pointer_word kind ≡ false)
  star_none mode kind e = (
    and_first (ends_none mode kind) (not (begins_pointer_word kind)) e,
    not_true (and_second (ends_none mode kind) (not (begins_pointer_word kind)) e),
  )

  declr_complete : (mode : Mode) (wanted : Option Kind) (flag : Bool) (room : ℕ) → declr_number flag room < suc n
      → MayName all mode wanted → (d : SomeDeclr) (s s' : HeldScopes) (k : List Lexeme) → FitsMode all mode d s
      → (flag ≡ true) ⊎ (some_lists_identifiers d ≡ false) → some_declr_scopes wanted d s ≡ Some s' →
      some_declr_height d ≤ declr_room flag (closed_of wanted d s) room → ends_declr mode d (kind_at k) ≡ true
      → declr_with inner mode wanted flag room s (some_declr_text all d k) ≡ done (found (declared_as wanted d s) s' k)
  unfolding declr_with
  declr_complete mode wanted flag room less may no_declr s s' k fits plain named low ended =
      none_complete mode wanted flag room s k fits ended
      ∙ ap (λ (o : Option HeldScopes). done (found (declared_as wanted no_declr s) (from o) k)) named
    where
      from : Option HeldScopes → HeldScopes
      from None = s
      from (Some t) = t
  declr_complete mode wanted flag room less may (some_declr (pointer token words d)) s s' k fits plain named low ended =
      let p = named_part mode token words d s fits in
      let f = mode_fits all mode d s p.1 in
      let begun = firsts.named_begins d k f.0 p.2 in
      let made : with_pointer token words (some_declr d) ≡ pointer token words d = rw p.2 refl in
      pointer_complete mode wanted flag room less may token words (some_declr d) s s' k p.0 p.1 plain named low
      (named_no_pointer_word (kind_at (declr_text all d k)) begun) ended
      ∙ ap (λ (e : Declr). done (found (declared_as wanted (some_declr e) s) s' k)) made
  declr_complete mode wanted flag room less may
      (some_declr (abs_pointer token words no_declr)) s s' k fits plain named low ended =
      let p = abstract_part mode token words no_declr s fits in
      let e = star_none mode (kind_at k) ended in
      pointer_complete mode wanted flag room less may token words no_declr s s' k p.0 p.1 (inr refl) named low e.1 e.0
  declr_complete mode wanted flag room less may
      (some_declr (abs_pointer token words (some_declr d))) s s' k fits plain named low ended =
      let p = abstract_part mode token words (some_declr d) s fits in
      let begun = firsts.abstract_begins d k p.2.0 p.2.1 in
      let made : with_pointer token words (some_declr d) ≡ abs_pointer token words (some_declr d) = rw p.2.1 refl in
      let closed : closed_of wanted (some_declr d) s ≡ None =
      ap (λ (o : Option OwnParams). option_map innermost (own_scope_in wanted o s)) (own_none d p.2.1) in
      pointer_complete mode wanted flag room less may token words (some_declr d) s s' k p.0 p.1
      (inr (unnamed_plain d p.2.1)) named (rw closed low)
      (abstract_no_pointer_word (kind_at (declr_text all d k)) begun) ended
      ∙ ap (λ (e : Declr). done (found (declared_as wanted (some_declr e) s) s' k)) made
  declr_complete mode wanted flag room less may (some_declr d) s s' k fits plain named low ended =
      direct_complete mode wanted flag room less may d s s' k refl fits plain named low ended

  pub declr_laws : DeclrLaws all (suc n) (declr_with inner)
  declr_laws = record {
    falls = declr_falls all tokens n inner laws;
    shrinks = declr_shrinks all tokens n inner laws;
    sound = declr_sound all numbered tokens n inner laws;
    complete = declr_complete;
  }

  -- names of types

  specs_no_word : (kind : TokenKind) → ends_specs kind ≡ true → begins_pointer_word kind ≡ false
  specs_no_word (kinds.Keyword keywords.Attribute) e = absurd cc
  specs_no_word (kinds.Keyword keywords.Const) e = absurd cc
  specs_no_word (kinds.Keyword keywords.Volatile) e = absurd cc
  specs_no_word (kinds.Keyword keywords.Restrict) e = absurd cc
  specs_no_word (kinds.Keyword keywords.Atomic) e = absurd cc
  specs_no_word (kinds.Keyword keywords.AtomicType) e = absurd cc
  specs_no_word (kinds.Keyword keywords.Seg) e = absurd cc
  specs_no_word (kinds.Qual lattice elem) e = absurd cc
  specs_no_word kinds.Index e = absurd cc
  specs_no_word kind e = refl

  type_name_sound : (room : ℕ) → IsSound all (type_name_form all) room (type_name_with inner room)
  unfolding type_name_with
  type_name_sound room s ts x tail e =
      let a = bind_ok e in
      let b = bind_ok a.2 in
      let w = laws.words.sound Naming no_words (room - 1) s ts a.0 tail a.1 in
      let d = laws.declrs.sound Abstract None false (room - 1) a.0.scopes a.0.rest b.0 w.left b.1 in
      let low : some_declr_height b.0.tree.declr ≤ room - 1 = d.low in
      let high : 1 ≤ specs_height a.0.tree = specs_high a.0.tree in
      let words_low : specs_height a.0.tree ≤ room - 1 = by_low a.0 w w.low in
      at_end (Takes all (type_name_form all) room s ts) b.2 (record {
        spelled = w.spelled ∙ ap (λ (ws : SpecWords). spec_words_text all ws a.0.rest) (sym w.words_are)
            ∙ ap (spec_words_text all a.0.tree) d.spelled;
        fits = (w.mix, subst (AreTypeWords all) (sym w.words_are) w.fits, d.fits);
        named = behind_is (some_declr_scopes None b.0.tree.declr)
            (ap (λ (ws : SpecWords). spec_words_scopes ws s) w.words_are ∙ w.named) d.named;
        low = omega (arith, low, high, words_low);
        left = d.left;
      })
    where
      by_low : (a : Found SpecWords) (w : TakesWords all Naming no_words (room - 1) s ts a)
          → (w.rest ≡ no_words) ⊎ (specs_height a.tree ≤ room - 1) → specs_height a.tree ≤ room - 1
      by_low a w (inl none) = absurd (no_mix_of_none a.tree (w.words_are ∙ none) w.mix)
      by_low a w (inr low) = low

  words_end : (d : SomeDeclr) (k : List Lexeme) → IsSomeAbstract all d → ends_type_name (kind_at k) ≡ true
      → ends_specs (kind_at (some_declr_text all d k)) ≡ true
  words_end no_declr k fits ended = and_first (ends_specs (kind_at k)) (ends_none Abstract (kind_at k)) ended
  words_end (some_declr d) k fits ended =
      abstract_ends_specs (kind_at (declr_text all d k)) (firsts.abstract_begins d k fits.0 fits.1)

  abstract_end : (d : SomeDeclr) (k : List Lexeme) → ends_type_name (kind_at k) ≡ true
      → ends_declr Abstract d (kind_at k) ≡ true
  abstract_end no_declr k ended = and_second (ends_specs (kind_at k)) (ends_none Abstract (kind_at k)) ended
  abstract_end (some_declr d) k ended = by_star (ends_starred d)
    where
      none : ends_none Abstract (kind_at k) ≡ true
      none = and_second (ends_specs (kind_at k)) (ends_none Abstract (kind_at k)) ended

      by_star : (b : Bool) → (if b then ends_star Abstract (kind_at k) else ends_suffix (kind_at k)) ≡ true
      by_star true = rw
          (none, specs_no_word (kind_at k) (and_first (ends_specs (kind_at k)) (ends_none Abstract (kind_at k)) ended))
          refl
      by_star false = (all_three (ends_suffix (kind_at k)) _ _ none).0

  abstract_plain : (d : SomeDeclr) → IsSomeAbstract all d → some_lists_identifiers d ≡ false
  abstract_plain no_declr fits = refl
  abstract_plain (some_declr d) fits = unnamed_plain d fits.1

  type_name_complete : (room : ℕ) → room < suc n
      → IsComplete (type_name_form all) (λ t. ends_type_name) room (type_name_with inner room)
  unfolding type_name_with
  type_name_complete room less t s s' k fits named low ended =
      let a = behind_ok (spec_words_scopes t.words s) (some_declr_scopes None t.declr) s' named in
      let high : 1 ≤ specs_height t.words = specs_high t.words in
      let words = laws.words.complete Naming no_words t.words (room - 1) (omega (arith, less, low, high)) s a.0
      (some_declr_text all t.declr k) fits.0 fits.1 a.1 (inr (omega (arith, low)))
      (inl (words_end t.declr k fits.2 ended)) in
      let declr = laws.declrs.complete Abstract None false (room - 1) (omega (arith, less, low, high)) refl t.declr a.0
      s' k fits.2 (inr (abstract_plain t.declr fits.2)) a.2 (omega (arith, low)) (abstract_end t.declr k ended) in
      bind_is _ words (bind_is _ declr refl)

  pub type_name_laws : TypeNameLaws all (suc n) (type_name_with inner)
  type_name_laws = record {
    shrinks = type_name_shrinks all tokens n inner laws;
    sound = type_name_sound;
    complete = type_name_complete;
  }
