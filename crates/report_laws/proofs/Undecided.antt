-- A program in which no bound is exceeded cannot fail to be accepted. What leads where need not be decided for that:
-- there are finitely many variables and elements, so it cannot be that it is not decided.
use Rattle.std.proofs.Common.{◌≡◌, ℕ, zero, suc, ◌+◌, ◌<◌, ◌≤◌, ◌⊎◌, inl, inr, ◌↔◌, max, Bool, true, false, List, length, slice_get, Option, Some, None, refl, subst, arith}
use Rattle.std.proofs.lemmas.Option.{slice_get_within}
use Rattle.std.proofs.lemmas.Bool.{cases_lt}
use Rattle.lattice_core.specs.Order.{Order, size, IsLattice}
use Rattle.flow_graph.specs.declared.constraint.Link.{Link}
use Rattle.flow_graph.specs.declared.constraint.Link.TheVariants.{Le, Enter, Leave}
use Rattle.flow_graph.specs.System.{System, Stands, IsWellOwned, AllBelow, highest, vars_of_link}
use Rattle.flow_graph.specs.Unfolding.{NamesElementsIn, IsAccepted, IsAcceptedIn}
use Rattle.flow_graph.specs.Paths.{Match, Part, flow, group, Returning, Lead}
use Rattle.flow_graph.proofs.Bounds.{below-highest}
use Rattle.flow_laws.specs.Deciding.{PathTests, AreExact, ExceedsNone}
use Rattle.flow_laws.specs.Rejected.{InEach}
use Rattle.flow_laws.proofs.Links.{has_of}
use Rattle.flow_laws.proofs.Inside.{leads_inside}
use Rattle.flow_laws.proofs.Leads.{lead_element}
use Rattle.flow_laws.proofs.Deciding.{tests_solve}

-- it cannot be refuted
abbrev Stays : Type 0 → Type 0
Stays A = (A → ⊥) → ⊥

one_more : (n b : ℕ) → n < suc b → (n < b) ⊎ (b ≡ n)
one_more n b below = grind arith

-- what holds of each number cannot be refuted of all below one
each_below : (Q : ℕ → Type 0) → ((n : ℕ) → Stays (Q n)) → (b : ℕ) → Stays ((n : ℕ) → n < b → Q n)
each_below Q each zero h = h (λ n below. absurd (omega (arith, below)))
each_below Q each (suc b) h =
    each_below Q each b (λ less.
    each b (λ q. h (λ n below. elim (one_more n b below) [ inl under ↦ less n under | inr same ↦ subst Q same q ])))

-- a test of it
abbrev Decided : Type 0 → Type 0
Decided P = (b : Bool) × ((b ≡ true) ↔ P)

decided_not : (P : Type 0) → (P → ⊥) → Decided P
decided_not P h = (false, ((λ e. absurd cc), (λ p. absurd (h p))))

stays_decided : (P : Type 0) → Stays (Decided P)
stays_decided P h = h (decided_not P (λ p. h (true, ((λ e. p), (λ p. refl)))))

-- it cannot be that a property of numbers below a bound is not decided for all of them
all_decided : (P : ℕ → Type 0) (b : ℕ) → ((n : ℕ) → P n → n < b) → Stays ((n : ℕ) → Decided (P n))
all_decided P b inside h =
    each_below (λ n. Decided (P n)) (λ n. stays_decided (P n)) b
    (λ below. h (λ n. elim (cases_lt n b) [
      | inl under ↦ below n under
      | inr over ↦ decided_not (P n) (λ p. let low = inside n p in omega (arith, low, over))
    ]))

-- it cannot be that a property of pairs of numbers below bounds is not decided for all of them
pairs_decided : (P : ℕ → ℕ → Type 0) (a b : ℕ) → ((e v : ℕ) → P e v → (e < a) × (v < b))
    → Stays ((e v : ℕ) → Decided (P e v))
pairs_decided P a b inside h =
    all_decided_each P a b inside (λ all. h (λ e v. all v e))
  where
    all_decided_each : (P : ℕ → ℕ → Type 0) (a b : ℕ) → ((e v : ℕ) → P e v → (e < a) × (v < b))
        → Stays ((v e : ℕ) → Decided (P e v))
    all_decided_each P a b inside h =
        each_below (λ v. (e : ℕ) → Decided (P e v)) (λ v. all_decided (λ e. P e v) a (λ e p. (inside e v p).0)) b
        (λ below. h (λ v e. elim (cases_lt v b) [
          | inl under ↦ below v under e
          | inr over ↦ decided_not (P e v) (λ p. let low = (inside e v p).1 in omega (arith, low, over))
        ]))

module _ (sys : System) where
  vars : ℕ
  vars = highest sys.constraints

  all_below : AllBelow sys vars
  unfolding vars
  all_below n link has =
      subst (λ (l : Link). vars_of_link l ≤ highest sys.constraints) has.link_is
      (below-highest sys.constraints n has.constraint has.there)

  part_inside : (lattice f x v : ℕ) → Part sys lattice f x v → v < vars
  part_inside lattice f x v (flow _ _ _ n st own) =
      let high : max (x + 1) (v + 1) ≤ vars = all_below n (Le x v) (has_of sys lattice n (Le x v) st) in
      omega (arith, high)
  part_inside lattice f x v (group _ _ a b _ s g n m st q st2 own) =
      let high : max (b + 1) (v + 1) ≤ vars = all_below m (Leave s b v) (has_of sys lattice m (Leave s b v) st2) in
      omega (arith, high)

  -- a call enters the variable
  record IsEntered (lattice u : ℕ) : Type 0 where
    number : ℕ
    site : ℕ
    from : ℕ
    stands : Stands sys lattice number (Enter site from u)

  entered_inside : (lattice u : ℕ) → IsEntered lattice u → u < vars
  entered_inside lattice u e =
      let high : max (e.from + 1) (u + 1) ≤ vars =
      all_below e.number (Enter e.site e.from u) (has_of sys lattice e.number (Enter e.site e.from u) e.stands) in
      omega (arith, high)

  module _ (lattice : ℕ) (order : Order) (owned : IsWellOwned sys) (lat : IsLattice order)
      (names : NamesElementsIn sys lattice order) where
    lead_within : (e v : ℕ) → Lead sys lattice e v → (e < size order) × (v < vars)
    lead_within e v lead =
        (lead_element sys lattice order names e v lead, leads_inside sys lattice e v vars all_below lead)

    abbrev Entering : ℕ → ℕ → Type 0
    Entering u v = IsEntered lattice u × Match sys lattice u v

    match_within : (u v : ℕ) → Entering u v → (u < vars) × (v < vars)
    match_within u v m = (entered_inside lattice u m.0, part_inside lattice m.1.0 m.1.1 v m.1.3)

    exact_of : ((e v : ℕ) → Decided (Returning sys lattice e v)) → ((e v : ℕ) → Decided (Lead sys lattice e v))
        → ((u v : ℕ) → Decided (Entering u v)) →
        (tests : PathTests) × AreExact sys lattice tests
    exact_of returned leads matched = (
      record { returned = λ e v. (returned e v).0; leads = λ e v. (leads e v).0; matched = λ u v. (matched u v).0 },
      record {
        returned = λ e v. (returned e v).1;
        leads = λ e v. (leads e v).1;
        matched = λ n s w u v st. (
          (λ is. ((matched u v).1.0 is).1),
          (λ m. (matched u v).1.1 (record { number = n; site = s; from = w; stands = st }, m)),
        );
      },
    )

    lattice_accepted : ExceedsNone sys lattice order → Stays (IsAcceptedIn sys lattice order)
    lattice_accepted none h =
        pairs_decided (λ e v. Returning sys lattice e v) (size order) vars (λ e v p. lead_within e v (inl p))
        (λ returned. pairs_decided (λ e v. Lead sys lattice e v) (size order) vars lead_within
        (λ leads. pairs_decided Entering vars vars match_within
        (λ matched. let exact = exact_of returned leads matched in
        h ((tests_solve sys lattice order exact.0 owned lat names exact.1).accepted none))))

  module _ (orders : List Order) (owned : IsWellOwned sys) (lats : InEach orders (λ lattice order. IsLattice order))
      (names : InEach orders (λ lattice order. NamesElementsIn sys lattice order)) where
    abbrev AcceptedAt : ℕ → Type 0
    AcceptedAt lattice = (order : Order) → slice_get orders lattice ≡ Some order → IsAcceptedIn sys lattice order

    accepted_at : InEach orders (λ lattice order. ExceedsNone sys lattice order) → (lattice : ℕ) (found : Option Order)
        → slice_get orders lattice ≡ found → Stays (AcceptedAt lattice)
    accepted_at none lattice None is h = h (λ order there. absurd cc)
    accepted_at none lattice (Some found) is h =
        lattice_accepted lattice found owned (lats lattice found is) (names lattice found is) (none lattice found is)
        (λ accepted. h (λ order there. let same : found ≡ order = cc in
        subst (λ (o : Order). IsAcceptedIn sys lattice o) same accepted))

    pub rejected_exceeds : (IsAccepted sys orders → ⊥) → InEach orders (λ lattice order. ExceedsNone sys lattice order)
        → ⊥
    rejected_exceeds rejected none =
        each_below AcceptedAt (λ lattice. accepted_at none lattice (slice_get orders lattice) refl) (length orders)
        (λ all. rejected (λ lattice order there. all lattice (slice_get_within orders lattice order there) order there))
