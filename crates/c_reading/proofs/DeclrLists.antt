-- Parameters as lists of items.
use Rattle.std.proofs.Common.{◌≡◌, List, [], ◌∷◌, Option, Some, None, refl, ◌∙◌, ap}
use Rattle.std.specs.Prelude.{max, All}
use Rattle.c_tree.specs.declared.lexeme.Lexeme.{Lexeme}
use Rattle.c_tree.specs.Tree.{Dots, Params, no_params, more_params}
use Rattle.c_tree.specs.Text.{separated, params_text, other_params_text, dots_text, spec_words_text, some_declr_text, attrs_text}
use Rattle.c_tree.specs.Height.{params_height}
use Rattle.c_tree.specs.WellFormed.{AreParams, IsEllipsis, IsWordQual}
use Rattle.typedef_scope.specs.declared.kind.Kind.TheVariants.{Value}
use Rattle.c_units.specs.HeldScopes.{HeldScopes, release}
use Rattle.c_units.specs.Scoping.{behind, where_true, spec_words_scopes, some_declr_scopes, some_shows_no_type, params_scopes}
use Rattle.c_reading.specs.Parts.{ParamItem, params_from}
use Rattle.c_reading.proofs.Forms.{behind_same}
use Rattle.c_reading.proofs.Rows.{AllFit, row_scopes, row_height}
use Rattle.c_reading.proofs.Commas.{Ending, others_text, commas_text, ending_text, EndingFits, HasItem}
use Rattle.c_reading.proofs.Aims.{param_form}

-- the items of parameters
abbrev pub params_items : Params → List ParamItem
params_items no_params = []
params_items (more_params ws d attrs ps) = record { words = ws; declr = d; attrs = attrs } ∷ params_items ps

pub params_back : (ps : Params) → params_from (params_items ps) ≡ ps
params_back no_params = refl
params_back (more_params ws d attrs ps) = ap (more_params ws d attrs) (params_back ps)

module _ (all : List Lexeme) where
  -- qualifiers and dots behind a comma
  abbrev pub dots_ending : Ending Dots
  dots_ending = record { text = λ d k. dots_text all (Some d) k; Fits = λ d. All (IsWordQual all) d.quals }

  other_params_are : (xs : List ParamItem) (k : List Lexeme)
      → others_text (param_form all) dots_ending xs k ≡ other_params_text all (params_from xs) k
  other_params_are [] k = refl
  other_params_are (x ∷ xs) k =
      ap (λ (k : List Lexeme). separated
      (spec_words_text all x.words (some_declr_text all x.declr (attrs_text all x.attrs k)))) (other_params_are xs k)

  pub params_are : (xs : List ParamItem) (k : List Lexeme)
      → commas_text (param_form all) dots_ending xs k ≡ params_text all (params_from xs) k
  params_are [] k = refl
  params_are (x ∷ xs) k =
      ap (λ (k : List Lexeme). spec_words_text all x.words (some_declr_text all x.declr (attrs_text all x.attrs k)))
      (other_params_are xs k)

  pub ending_is : (o : Option Dots) (k : List Lexeme) → ending_text (param_form all) dots_ending o k ≡ dots_text all o k
  ending_is None k = refl
  ending_is (Some d) k = refl

  pub params_fit : (xs : List ParamItem) → AllFit (param_form all) xs → AreParams all (params_from xs)
  params_fit [] h = tt
  params_fit (x ∷ xs) h = (h.0.0, h.0.1, h.0.2, h.0.3, h.0.4, h.0.5, params_fit xs h.1, h.0.6)

  pub params_fit_back : (ps : Params) → AreParams all ps → AllFit (param_form all) (params_items ps)
  params_fit_back no_params h = tt
  params_fit_back (more_params ws d attrs ps) h = ((h.0, h.1, h.2, h.3, h.4, h.5, h.7), params_fit_back ps h.6)

  pub ellipsis_fits : (xs : List ParamItem) (o : Option Dots) → HasItem (param_form all) dots_ending xs
      → EndingFits (param_form all) dots_ending o → IsEllipsis all (params_from xs) o
  ellipsis_fits xs None some h = tt
  ellipsis_fits [] (Some d) some h = absurd some
  ellipsis_fits (x ∷ xs) (Some d) some h = h

  pub ending_back : (ps : Params) (o : Option Dots) → IsEllipsis all ps o → EndingFits (param_form all) dots_ending o
  ending_back ps None h = tt
  ending_back no_params (Some d) h = absurd h
  ending_back (more_params ws d attrs ps) (Some dots) h = h

  step_same : (r : Option HeldScopes) (f : HeldScopes → HeldScopes) (g : HeldScopes → Option HeldScopes)
      → behind (behind r (λ t. Some (f t))) g ≡ behind r (λ t. g (f t))
  step_same None f g = refl
  step_same (Some t) f g = refl

  pub params_named : (xs : List ParamItem) (s : HeldScopes)
      → row_scopes (param_form all) xs s ≡ params_scopes (params_from xs) s
  params_named [] s = refl
  params_named (x ∷ xs) s =
      step_same (behind (behind (spec_words_scopes x.words s) (λ t. where_true (some_shows_no_type t x.declr) t))
      (some_declr_scopes (Some Value) x.declr)) (release Value) (row_scopes (param_form all) xs) ∙
      behind_same (behind (behind (spec_words_scopes x.words s) (λ t. where_true (some_shows_no_type t x.declr) t))
      (some_declr_scopes (Some Value) x.declr)) _ _ (λ t. params_named xs (release Value t))

  pub params_high : (xs : List ParamItem) → row_height (param_form all) xs ≡ params_height (params_from xs)
  params_high [] = refl
  params_high (x ∷ xs) = ap (max ((param_form all).height x)) (params_high xs)
