-- The first exceeded bound of several lattices.
use Rattle.std.proofs.Common.{◌≡◌, true, false, ℕ, zero, suc, ◌+◌, ◌<◌, ◌≤◌, nat_lt, Bool, ◌⊎◌, inl, inr, length, List, [], ◌∷◌, Option, Some, None, slice_get, IfSome, IfNone, refl, sym, ◌∙◌, ap, subst, arith, if◌then◌else◌}
use Rattle.std.proofs.lemmas.Option.{slice_get_within}
use Rattle.std.proofs.lemmas.Bool.{cases_order}
use Rattle.std.proofs.lemmas.Bool.Decides.{leb_tells}
use Rattle.lattice_core.specs.Order.{Order}
use Rattle.lattice_core.specs.View.{LatticeView, orders_of}
use Rattle.lattice_core.proofs.Orders.{order_there}
use Rattle.flow_graph.specs.System.{System}
use Rattle.flow_graph.specs.Unfolding.{IsExceeded}
use Rattle.lattice_solver.specs.Solution.{IsKept, IsFirstExceeded}
use Rattle.annotate.specs.declared.scene.Scene.{Scene as Lent}
use Rattle.annotate.specs.declared.solving.Solved.{Solved}
use Rattle.annotate.specs.Texts.{Scene}
use Rattle.annotate.specs.Scenes.{Shows}
use Rattle.annotate.specs.Solutions.{IsFirstOver, AreKept, earlier}
use Rattle.annotate.specs.Reports.{IsOver, Errors, NoConstraint, NextError, NotExceeded, ErrorCount, NoneBelow, OneHolds}
use Rattle.annotate.proofs.SolutionLemmas.{KeptBelow, kept_next}

-- a number stands before one that may not be there
abbrev pub IsBefore : ℕ → Option ℕ → Type 0
IsBefore n None = Unit {0}
IsBefore n (Some first) = n < first

-- a constraint is exceeded in none of the first so many lattices
abbrev pub HoldsBelow : Lent → System → ℕ → ℕ → Type 0
HoldsBelow lent sys count n = (scene : Scene) → Shows lent scene → (lattice : ℕ) (order : Order) → lattice < count
    → slice_get (orders_of scene.lattices) lattice ≡ Some order → IsExceeded sys lattice order n → ⊥

abbrev pub IsOverThere : Lent → System → ℕ → Type 0
IsOverThere lent sys n = (n < length sys.constraints) × ((scene : Scene) → Shows lent scene → IsOver scene sys n)

-- the first exceeded bound of the first so many lattices
pub record AreFirst (lent : Lent) (sys : System) (solutions : List Solved) (count : ℕ) (first : Option ℕ) : Type 0 where
  pub kept : IfNone first (KeptBelow sys lent.lattices.now solutions count)
  pub over : IfSome first (IsOverThere lent sys)
  pub before : (n : ℕ) → IsBefore n first → HoldsBelow lent sys count n

-- in none of the first 0 lattices is a constraint exceeded
pub none_first : (lent : Lent) (sys : System) (solutions : List Solved) → AreFirst lent sys solutions 0 None
none_first lent sys solutions = record {
  kept = λ n view solution lt. absurd (omega arith);
  over = tt;
  before = λ n is scene shows lattice order lt. absurd (omega arith);
}

-- what one lattice more says
pub record Own (lent : Lent) (sys : System) (solutions : List Solved) (count : ℕ) (found : Option ℕ) : Type 0 where
  pub kept : IfNone found (KeptBelow sys lent.lattices.now solutions count
      → KeptBelow sys lent.lattices.now solutions (count + 1))
  pub over : IfSome found (IsOverThere lent sys)
  pub before : (n : ℕ) → IsBefore n found → (scene : Scene) → Shows lent scene → (order : Order)
      → slice_get (orders_of scene.lattices) count ≡ Some order → IsExceeded sys count order n → ⊥

-- a constraint that is exceeded in none of the first lattices, nor in the next one, is so in none of these all
one_more : (lent : Lent) (sys : System) (count n : ℕ) → HoldsBelow lent sys count n
    → ((scene : Scene) → Shows lent scene → (order : Order) → slice_get (orders_of scene.lattices) count ≡ Some order
    → IsExceeded sys count order n → ⊥)
    → HoldsBelow lent sys (count + 1) n
one_more lent sys count n below own scene shows lattice order lt there over = by_order (cases_order lattice count)
  where
    by_order : (lattice ≡ count) ⊎ ((lattice < count) ⊎ (count < lattice)) → ⊥
    by_order (inl same) =
        let There : ℕ → Type 0 = λ l. slice_get (orders_of scene.lattices) l ≡ Some order in
        let Over : ℕ → Type 0 = λ l. IsExceeded sys l order n in
        own scene shows order (subst There same there) (subst Over same over)
    by_order (inr (inl before)) = below scene shows lattice order before there over
    by_order (inr (inr past)) = absurd (omega arith)

-- a constraint before the earlier of two is before the first of them
before_one : (n : ℕ) (first found : Option ℕ) → IsBefore n (earlier first found) → IsBefore n first
before_one n None found is = tt
before_one n (Some first) None is = is
before_one n (Some first) (Some second) is = elim (leb_tells (suc second) first) [
  | inl a ↦
      let Before : Bool → Type 0 = λ b. IsBefore n (if b then Some second else Some first) in
      let lt : n < second = subst Before a.0 is in let le = a.1 in omega arith
  | inr a ↦ let Before : Bool → Type 0 = λ b. IsBefore n (if b then Some second else Some first) in subst Before a.0 is
]

-- a constraint before the earlier of two is before the second of them
before_other : (n : ℕ) (first found : Option ℕ) → IsBefore n (earlier first found) → IsBefore n found
before_other n None found is = is
before_other n (Some first) None is = tt
before_other n (Some first) (Some second) is = elim (leb_tells (suc second) first) [
  | inl a ↦ let Before : Bool → Type 0 = λ b. IsBefore n (if b then Some second else Some first) in subst Before a.0 is
  | inr a ↦
      let Before : Bool → Type 0 = λ b. IsBefore n (if b then Some second else Some first) in
      let lt : n < first = subst Before a.0 is in let le = a.1 in omega arith
]

-- what holds of two constraints, where they are there, holds of the earlier one
over_one : (P : ℕ → Type 0) (first found : Option ℕ) → IfSome first P → IfSome found P → IfSome (earlier first found) P
over_one P None found one other = other
over_one P (Some first) None one other = one
over_one P (Some first) (Some second) one other = by_test (nat_lt second first)
  where
    by_test : (b : Bool) → IfSome (if b then Some second else Some first) P
    by_test true = other
    by_test false = one

-- where neither of two constraints is there, what follows from both absences holds of the earlier one
kept_both : (P Q : Type 0) (first found : Option ℕ) → IfNone first P → IfNone found (P → Q)
    → IfNone (earlier first found) Q
kept_both P Q None None one other = other one
kept_both P Q None (Some second) one other = tt
kept_both P Q (Some first) None one other = tt
kept_both P Q (Some first) (Some second) one other = by_test (nat_lt second first)
  where
    by_test : (b : Bool) → IfNone (if b then Some second else Some first) Q
    by_test true = tt
    by_test false = tt

-- the earlier of the first exceeded bound so far and that of the next lattice is the first of all these
pub next_first : (lent : Lent) (sys : System) (solutions : List Solved) (count : ℕ) (first found next : Option ℕ)
    → next ≡ earlier first found → AreFirst lent sys solutions count first → Own lent sys solutions count found
    → AreFirst lent sys solutions (count + 1) next
next_first lent sys solutions count first found next is are own =
    subst (AreFirst lent sys solutions (count + 1)) (sym is) (record {
      kept = kept_both (KeptBelow sys lent.lattices.now solutions count)
          (KeptBelow sys lent.lattices.now solutions (count + 1)) first found are.kept own.kept;
      over = over_one (IsOverThere lent sys) first found are.over own.over;
      before = λ n earlier_is.
          one_more lent sys count n (are.before n (before_one n first found earlier_is))
          (own.before n (before_other n first found earlier_is));
    })

-- what the solver of a lattice answers
pub own_of : (lent : Lent) (sys : System) (solutions : List Solved) (count : ℕ) (view : LatticeView) (solution : Solved)
    (found : Option ℕ) → slice_get lent.lattices.now count ≡ Some view → slice_get solutions count ≡ Some solution
    → solution.solver.lattice ≡ count → IfSome found (IsFirstExceeded sys solution.solver.lattice view.order)
    → IfNone found (IsKept sys solution.solver view.order) → Own lent sys solutions count found
own_of lent sys solutions count view solution found there at same first kept = record {
  kept = kept_in found kept;
  over = over_in found first;
  before = λ n is scene shows order here over.
      let Over : ℕ → Type 0 = λ l. IsExceeded sys l view.order n in
      let By : Order → Type 0 = λ o. IsExceeded sys count o n in
      let own : order ≡ view.order =
      let e = order_there lent.lattices.now count view there in
      let f = ap (λ (ls : List LatticeView). slice_get (orders_of ls) count) shows.lattices in
      let g : Some order ≡ Some view.order = sym here ∙ f ∙ e in cc
      in
      holds_in found n is first kept (subst Over (sym same) (subst By own over));
}
  where
    kept_in : (found : Option ℕ) → IfNone found (IsKept sys solution.solver view.order)
        → IfNone found (KeptBelow sys lent.lattices.now solutions count
        → KeptBelow sys lent.lattices.now solutions (count + 1))
    kept_in None is = kept_next sys lent.lattices.now solutions count view solution there at is
    kept_in (Some n) is = tt

    over_in : (found : Option ℕ) → IfSome found (IsFirstExceeded sys solution.solver.lattice view.order)
        → IfSome found (IsOverThere lent sys)
    over_in None is = tt
    over_in (Some n) is = (
      slice_get_within sys.constraints n is.exceeded.bound.constraint is.exceeded.bound.there,
      λ scene shows. record {
        lattice = solution.solver.lattice;
        order = view.order;
        there =
            ap (λ (ls : List LatticeView). slice_get (orders_of ls) solution.solver.lattice) shows.lattices
            ∙ ap (slice_get (orders_of lent.lattices.now)) same
            ∙ order_there lent.lattices.now count view there;
        exceeded = is.exceeded;
      },
    )

    holds_in : (found : Option ℕ) (n : ℕ) → IsBefore n found
        → IfSome found (IsFirstExceeded sys solution.solver.lattice view.order)
        → IfNone found (IsKept sys solution.solver view.order) → IsExceeded sys solution.solver.lattice view.order n → ⊥
    holds_in None n is first kept over = kept.none n over
    holds_in (Some m) n is first kept over = first.before n is over

-- where all lattices were asked, it is the first of all
pub first_of_all : (lent : Lent) (sys : System) (solutions : List Solved) (count : ℕ) (first : Option ℕ)
    → length lent.lattices.now ≤ count → AreFirst lent sys solutions count first → IfSome first (IsFirstOver lent sys)
first_of_all lent sys solutions count None le are = tt
first_of_all lent sys solutions count (Some first) le are = record {
  within = are.over.0;
  over = are.over.1;
  before = λ scene shows n lt over.
      let Within : List LatticeView → Type 0 = λ ls. over.lattice < length (orders_of ls) in
      let few =
      subst Within shows.lattices (slice_get_within (orders_of scene.lattices) over.lattice over.order over.there) in
      are.before n lt scene shows over.lattice over.order
      (few_views lent.lattices.now over.lattice count few le) over.there over.exceeded;
}
  where
    few_views : (ls : List LatticeView) (lattice count : ℕ) → lattice < length (orders_of ls) → length ls ≤ count
        → lattice < count
    few_views ls lattice count lt le = let e = ap (λ (n : ℕ). n) (views_length ls) in omega arith
      where
        views_length : (ls : List LatticeView) → length (orders_of ls) ≡ length ls
        views_length [] = refl
        views_length (l ∷ ls) = ap suc (views_length ls)

-- where no bound of any lattice is exceeded, the solution of each is kept in its lattice
pub kept_of_all : (lent : Lent) (sys : System) (solutions : List Solved) (count : ℕ) (first : Option ℕ)
    → length lent.lattices.now ≤ count → AreFirst lent sys solutions count first
    → IfNone first (AreKept sys lent.lattices.now solutions)
kept_of_all lent sys solutions count None le are =
    λ n view solution there found.
    let lt = slice_get_within lent.lattices.now n view there in are.kept n view solution (omega arith) there found
kept_of_all lent sys solutions count (Some first) le are = tt

-- before the first nothing is written
pub no_errors : (scene : Scene) (sys : System) (first : ℕ) → ((n : ℕ) → n < first → IsOver scene sys n → ⊥)
    → Errors scene sys first []
no_errors scene sys zero holds = NoConstraint
no_errors scene sys (suc first) holds =
    let At : ℕ → Type 0 = λ n. Errors scene sys n [] in
    subst At (let e : first + 1 ≡ suc first = omega arith in e)
    (NextError first [] [] (no_errors scene sys first (λ n lt. holds n (omega arith)))
    (NotExceeded (holds first (omega arith))))

-- and none is counted
pub none_before : (scene : Scene) (sys : System) (first : ℕ) → ((n : ℕ) → n < first → IsOver scene sys n → ⊥)
    → ErrorCount scene sys first 0
none_before scene sys zero holds = NoneBelow
none_before scene sys (suc first) holds =
    let At : ℕ → Type 0 = λ n. ErrorCount scene sys n 0 in
    subst At (let e : first + 1 ≡ suc first = omega arith in e)
    (OneHolds first 0 (none_before scene sys first (λ n lt. holds n (omega arith))) (holds first (omega arith)))
