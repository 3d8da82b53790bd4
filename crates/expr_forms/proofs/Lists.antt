-- Lists of expressions and of steps as a program holds them, and as readers of lists answer them.
use Rattle.std.proofs.Common.{◌≡◌, List, [], ◌∷◌, ◌++◌, refl, ap, map}
use Rattle.std.proofs.lemmas.List.{map_push}
use Rattle.c_syntax.specs.declared.expression.Assoc as rust_assoc
use Rattle.c_syntax.specs.declared.expression.Expr as rust_expr
use Rattle.c_syntax.specs.declared.initialiser.Desig as rust_desig
use Rattle.c_tree.specs.Lists as lists
use Rattle.c_tree.specs.Tree.{more_exprs, more_assocs, more_desigs}
use Rattle.c_tree.specs.View.{expr_of, assoc_of, desig_of}
use Rattle.c_reading.specs.Parts as parts

pub exprs_same : (es : List rust_expr.Expr) → parts.exprs_from (map expr_of es) ≡ lists.exprs_from es
exprs_same [] = refl
exprs_same (e ∷ es) = ap (more_exprs (expr_of e)) (exprs_same es)

pub assocs_same : (xs : List rust_assoc.Assoc) → parts.assocs_from (map assoc_of xs) ≡ lists.assocs_from xs
assocs_same [] = refl
assocs_same (x ∷ xs) = ap (more_assocs (assoc_of x)) (assocs_same xs)

pub steps_same : (xs : List rust_desig.Desig) → parts.desigs_from (map desig_of xs) ≡ lists.desigs_from xs
steps_same [] = refl
steps_same (x ∷ xs) = ap (more_desigs (desig_of x)) (steps_same xs)

pub one_expr_mapped : (es : List rust_expr.Expr) (e : rust_expr.Expr)
    → map expr_of (es ++ e ∷ []) ≡ map expr_of es ++ expr_of e ∷ []
one_expr_mapped es e = map_push expr_of es e

pub one_step_mapped : (xs : List rust_desig.Desig) (x : rust_desig.Desig)
    → map desig_of (xs ++ x ∷ []) ≡ map desig_of xs ++ desig_of x ∷ []
one_step_mapped xs x = map_push desig_of xs x

pub one_assoc_mapped : (xs : List rust_assoc.Assoc) (x : rust_assoc.Assoc)
    → map assoc_of (xs ++ x ∷ []) ≡ map assoc_of xs ++ assoc_of x ∷ []
one_assoc_mapped xs x = map_push assoc_of xs x
