-- Arguments and steps of offsets: lists of expressions as lists of items.
use Rattle.std.proofs.Common.{◌≡◌, ◌≢◌, List, [], ◌∷◌, refl, ap}
use Rattle.std.specs.Prelude.{max}
use Rattle.c_tree.specs.declared.lexeme.Lexeme.{Lexeme}
use Rattle.c_tree.specs.Tree.{Assoc, Assocs, no_assocs, more_assocs, Expr, Exprs, no_exprs, more_exprs, Desigs, no_desigs, more_desigs, Desig}
use Rattle.c_tree.specs.Text.{assoc_text, assocs_text, exprs_text, other_exprs_text, expr_text, separated, desigs_text, desig_text}
use Rattle.c_tree.specs.Height.{assoc_height, assocs_height, expr_height, exprs_height, steps_height, step_height}
use Rattle.c_tree.specs.WellFormed.{AreAssocs, AreArguments, AreSteps}
use Rattle.c_units.specs.HeldScopes.{HeldScopes}
use Rattle.c_units.specs.Scoping.{assoc_scopes, assocs_scopes, expr_scopes, exprs_scopes, desig_scopes, desigs_scopes}
use Rattle.c_reading.specs.declared.kinds.Reach.TheVariants.{Assigned}
use Rattle.c_reading.specs.Parts.{assocs_from, exprs_from, desigs_from}
use Rattle.c_reading.proofs.Forms.{behind_same}
use Rattle.c_reading.proofs.Rows.{AllFit, row_text, row_scopes, row_height}
use Rattle.c_reading.proofs.Commas.{HasItem, no_ending, others_text, commas_text}
use Rattle.c_reading.proofs.Aims.{assoc_form, expr_form, step_form}

-- the items of a tree of a list
abbrev pub exprs_items : Exprs → List Expr
exprs_items no_exprs = []
exprs_items (more_exprs e es) = e ∷ exprs_items es

pub exprs_back : (es : Exprs) → exprs_from (exprs_items es) ≡ es
exprs_back no_exprs = refl
exprs_back (more_exprs e es) = ap (more_exprs e) (exprs_back es)

abbrev pub desigs_items : Desigs → List Desig
desigs_items no_desigs = []
desigs_items (more_desigs d ds) = d ∷ desigs_items ds

pub desigs_back : (ds : Desigs) → desigs_from (desigs_items ds) ≡ ds
desigs_back no_desigs = refl
desigs_back (more_desigs d ds) = ap (more_desigs d) (desigs_back ds)

abbrev pub assocs_items : Assocs → List Assoc
assocs_items no_assocs = []
assocs_items (more_assocs x xs) = x ∷ assocs_items xs

pub assocs_back : (xs : Assocs) → assocs_from (assocs_items xs) ≡ xs
assocs_back no_assocs = refl
assocs_back (more_assocs x xs) = ap (more_assocs x) (assocs_back xs)

module _ (all : List Lexeme) where
  other_exprs_are : (es : List Expr) (k : List Lexeme)
      → others_text (expr_form all Assigned) no_ending es k ≡ other_exprs_text all (exprs_from es) k
  other_exprs_are [] k = refl
  other_exprs_are (e ∷ es) k = ap (λ (k : List Lexeme). separated (expr_text all e k)) (other_exprs_are es k)

  pub exprs_are : (es : List Expr) (k : List Lexeme)
      → commas_text (expr_form all Assigned) no_ending es k ≡ exprs_text all (exprs_from es) k
  exprs_are [] k = refl
  exprs_are (e ∷ es) k = ap (expr_text all e) (other_exprs_are es k)

  pub exprs_fit : (es : List Expr) → AllFit (expr_form all Assigned) es → AreArguments all (exprs_from es)
  exprs_fit [] h = tt
  exprs_fit (e ∷ es) h = (h.0.0, h.0.1, exprs_fit es h.1)

  pub exprs_fit_back : (es : Exprs) → AreArguments all es → AllFit (expr_form all Assigned) (exprs_items es)
  exprs_fit_back no_exprs h = tt
  exprs_fit_back (more_exprs e es) h = ((h.0, h.1), exprs_fit_back es h.2)

  pub exprs_named : (es : List Expr) (s : HeldScopes)
      → row_scopes (expr_form all Assigned) es s ≡ exprs_scopes (exprs_from es) s
  exprs_named [] s = refl
  exprs_named (e ∷ es) s = behind_same (expr_scopes e s) _ _ (λ t. exprs_named es t)

  pub exprs_high : (es : List Expr) → row_height (expr_form all Assigned) es ≡ exprs_height (exprs_from es)
  exprs_high [] = refl
  exprs_high (e ∷ es) = ap (max (expr_height e)) (exprs_high es)

  -- associations, each behind a comma
  pub assocs_are : (xs : List Assoc) (k : List Lexeme)
      → others_text (assoc_form all) no_ending xs k ≡ assocs_text all (assocs_from xs) k
  assocs_are [] k = refl
  assocs_are (x ∷ xs) k = ap (λ (k : List Lexeme). separated (assoc_text all x k)) (assocs_are xs k)

  pub assocs_fit : (xs : List Assoc) → AllFit (assoc_form all) xs → AreAssocs all (assocs_from xs)
  assocs_fit [] h = tt
  assocs_fit (x ∷ xs) h = (h.0, assocs_fit xs h.1)

  pub assocs_fit_back : (xs : Assocs) → AreAssocs all xs → AllFit (assoc_form all) (assocs_items xs)
  assocs_fit_back no_assocs h = tt
  assocs_fit_back (more_assocs x xs) h = (h.0, assocs_fit_back xs h.1)

  pub some_assocs : (xs : List Assoc) → HasItem (assoc_form all) no_ending xs → assocs_from xs ≢ no_assocs
  some_assocs [] h = absurd h
  some_assocs (x ∷ xs) h = λ e. absurd cc

  pub some_assocs_back : (xs : Assocs) → xs ≢ no_assocs → HasItem (assoc_form all) no_ending (assocs_items xs)
  some_assocs_back no_assocs h = absurd (h refl)
  some_assocs_back (more_assocs x xs) h = tt

  pub assocs_named : (xs : List Assoc) (s : HeldScopes)
      → row_scopes (assoc_form all) xs s ≡ assocs_scopes (assocs_from xs) s
  assocs_named [] s = refl
  assocs_named (x ∷ xs) s = behind_same (assoc_scopes x s) _ _ (λ t. assocs_named xs t)

  pub assocs_high : (xs : List Assoc) → row_height (assoc_form all) xs ≡ assocs_height (assocs_from xs)
  assocs_high [] = refl
  assocs_high (x ∷ xs) = ap (max (assoc_height x)) (assocs_high xs)

  pub steps_are : (ds : List Desig) (k : List Lexeme)
      → row_text (step_form all) ds k ≡ desigs_text all (desigs_from ds) k
  steps_are [] k = refl
  steps_are (d ∷ ds) k = ap (desig_text all d) (steps_are ds k)

  pub steps_fit : (ds : List Desig) → AllFit (step_form all) ds → AreSteps all (desigs_from ds)
  steps_fit [] h = tt
  steps_fit (d ∷ ds) h = (h.0, steps_fit ds h.1)

  pub steps_fit_back : (ds : Desigs) → AreSteps all ds → AllFit (step_form all) (desigs_items ds)
  steps_fit_back no_desigs h = tt
  steps_fit_back (more_desigs d ds) h = (h.0, steps_fit_back ds h.1)

  pub steps_named : (ds : List Desig) (s : HeldScopes)
      → row_scopes (step_form all) ds s ≡ desigs_scopes (desigs_from ds) s
  steps_named [] s = refl
  steps_named (d ∷ ds) s = behind_same (desig_scopes d s) _ _ (λ t. steps_named ds t)

  pub steps_high : (ds : List Desig) → row_height (step_form all) ds ≡ steps_height (desigs_from ds)
  steps_high [] = refl
  steps_high (d ∷ ds) = ap (max (step_height d)) (steps_high ds)
