-- A solution for each lattice, one after the other.
use Rattle.std.proofs.Common.{◌≡◌, ℕ, zero, suc, ◌+◌, ◌<◌, ◌⊎◌, inl, inr, List, [], ◌∷◌, ◌++◌, length, Some, None, slice_get, refl, sym, ◌∙◌, ap, subst, arith, length-append, true, false, IfSome, IfNone}
use Rattle.std.specs.declared.option.Option.{Option}
use Rattle.std.specs.Option.{is_some}
use Rattle.std.proofs.lemmas.Bool.{cases_order}
use Rattle.lattice_core.specs.View.{LatticeView}
use Rattle.flow_graph.specs.System.{System}
use Rattle.lattice_solver.specs.Solution.{IsKept}
use Rattle.annotate.specs.declared.solving.Solved.{Solved}
use Rattle.annotate.specs.Solutions.{IsSolution}

solution_is : {x y : Solved} → Some x ≡ Some y → x ≡ y
solution_is e = cc

-- a solution in a list with one more at its end was in the list, or is that one at its length
before_or_at : (xs : List Solved) (x : Solved) (n : ℕ) (y : Solved) → slice_get (xs ++ x ∷ []) n ≡ Some y
    → (slice_get xs n ≡ Some y) ⊎ ((n ≡ length xs) × (x ≡ y))
before_or_at [] x zero y is = inr (refl, solution_is is)
before_or_at [] x (suc n) y is = absurd cc
before_or_at (z ∷ xs) x zero y is = inl is
before_or_at (z ∷ xs) x (suc n) y is =
    elim (before_or_at xs x n y is) [ inl before ↦ inl before | inr last ↦ inr (ap suc last.0, last.1) ]

-- the first so many lattices have their solutions
pub record AreFirst (sys : System) (count : ℕ) (solutions : List Solved) : Type 0 where
  pub count_is : length solutions ≡ count
  pub each : (n : ℕ) (solution : Solved) → slice_get solutions n ≡ Some solution → IsSolution sys n solution

pub none_first : (sys : System) → AreFirst sys 0 []
none_first sys = record { count_is = refl; each = λ n solution is. absurd cc }

-- the solution of one lattice more comes behind those of the lattices so far
pub next_first : (sys : System) (count : ℕ) (old new : List Solved) (x : Solved) → new ≡ old ++ x ∷ []
    → IsSolution sys count x → AreFirst sys count old → AreFirst sys (count + 1) new
next_first sys count old new x more own first = record {
  count_is = (let l = length-append old (x ∷ []) in let m : length new ≡ length (old ++ x ∷ []) = ap length more in
      let c = first.count_is in omega arith);
  each = λ n solution is.
      let there : slice_get (old ++ x ∷ []) n ≡ Some solution =
      sym (ap (λ (xs : List Solved). slice_get xs n) more) ∙ is in
      elim (before_or_at old x n solution there) [
        | inl before ↦ first.each n solution before
        | inr last ↦
            let At : ℕ → Type 0 = λ k. IsSolution sys k x in
            let Of : Solved → Type 0 = λ s. IsSolution sys n s in
            subst Of last.1 (subst At (sym (last.0 ∙ first.count_is)) own)
      ];
}

-- the first so many lattices keep their bounds
abbrev pub KeptBelow : System → List LatticeView → List Solved → ℕ → Type 0
KeptBelow sys lattices solutions count =
    (n : ℕ) (view : LatticeView) (solution : Solved) → n < count → slice_get lattices n ≡ Some view
    → slice_get solutions n ≡ Some solution → IsKept sys solution.solver view.order

view_is : {x y : LatticeView} → Some x ≡ Some y → x ≡ y
view_is e = cc

-- the solutions of the first lattices that are kept and that of the next one are kept together
pub kept_next : (sys : System) (lattices : List LatticeView) (solutions : List Solved) (count : ℕ) (view : LatticeView)
    (solution : Solved)
    → slice_get lattices count ≡ Some view →
    slice_get solutions count ≡ Some solution → IsKept sys solution.solver view.order
    → KeptBelow sys lattices solutions count → KeptBelow sys lattices solutions (count + 1)
kept_next sys lattices solutions count view solution there found own below n v s within v_there s_there =
    by_order (cases_order n count)
  where
    by_order : (n ≡ count) ⊎ ((n < count) ⊎ (count < n)) → IsKept sys s.solver v.order
    by_order (inl same) =
        let v_is : view ≡ v = view_is (sym there ∙ ap (slice_get lattices) (sym same) ∙ v_there) in
        let s_is : solution ≡ s = solution_is (sym found ∙ ap (slice_get solutions) (sym same) ∙ s_there) in
        let By : LatticeView → Type 0 = λ w. IsKept sys s.solver w.order in
        let Of : Solved → Type 0 = λ x. IsKept sys x.solver view.order in
        subst By v_is (subst Of s_is own)
    by_order (inr (inl before)) = below n v s before v_there s_there
    by_order (inr (inr past)) = absurd (omega (arith, past, within))

-- what is answered of something found, and of nothing
pub found_is : {A : Type 0} (E : A → Type 0) (found : Option A) → IfSome found E → is_some found ≡ true → (a : A) × E a
found_is E (Some a) is some = (a, is)
found_is E None is some = absurd cc

pub none_found : {A : Type 0} (K : Type 0) (found : Option A) → IfNone found K → is_some found ≡ false → K
none_found K (Some a) is none = absurd cc
none_found K None is none = is
