-- An assignment of the words with the client gives one of the library with the client.
use Rattle.std.proofs.Common.{◌≡◌, ℕ, ◌<◌, ◌≤◌, arith, Some, slice_get, Bool, true, false, List, [], ◌∷◌, ◌++◌, length, refl, sym, ◌∙◌, ap, subst, ◌⊎◌, inl, inr}
use Rattle.std.proofs.lemmas.Bool.Decides.{eqb_tells}
use Rattle.qual_base.specs.declared.places.Owner.{Owner}
use Rattle.qual_base.specs.declared.places.Owner.TheVariants.{Nobody, Function}
use Rattle.flow_graph.specs.declared.constraint.Site.{Site}
use Rattle.flow_graph.specs.declared.constraint.Link.TheVariants.{Le, Const, Bound, Enter, Leave}
use Rattle.lattice_core.specs.Order.{Order, size, leq}
use Rattle.flow_graph.specs.CallStrings.{IsCopy, either}
use Rattle.flow_graph.specs.System.{System, owner_of, Stands, Calls, IsWellOwned}
use Rattle.flow_graph.specs.Unfolding.{Assignment, at, seen_from, Meets}
use Rattle.flow_graph.specs.Paths.{Matches, stay, flow, group, Returning, start, returns, Lead, calls, calls_on}
use Rattle.flow_laws.specs.Least.{IsLeastOver}
use Rattle.split_laws.specs.Splits.{Split, of_part, alone, whole, served, IsMine, IsOther, Down, here, into, ReachesBound, SplitTests, SplitPremises, ServedIsWhole}
use Rattle.flow_laws.proofs.Links.{has_of}
use Rattle.flow_laws.proofs.Join.{least_over}
use Rattle.flow_laws.proofs.Search.{search_below}
use Rattle.flow_laws.proofs.Owners.{start_owner, end_owner, entering, leaving, same_function, same_outer, function_is, copy_on}
use Rattle.flow_laws.proofs.Reaching.{joined, one_part, returning_on, calling_on}
use Rattle.certificate_laws.proofs.Ways.{Decided, by_bool, some_way}
use Rattle.split_laws.proofs.Appending.{front, back, parted}
use Rattle.split_laws.proofs.Library.{down_on, split_path, owned, calls_of, copy_of, copy_off, foreign, own_site, other_site, mine_or_other}

site_is : {x y : Site} → Some x ≡ Some y → x ≡ y
site_is e = cc

-- where two properties are decided, both together are
both : (A B : Type 0) → Decided A → Decided B → Decided (A × B)
both A B (inl a) (inl b) = inl (a, b)
both A B (inr not) b = inr (λ p. not p.0)
both A B (inl a) (inr not) = inr (λ p. not p.1)

abbrev test_of : (A : Type 0) → Decided A → Bool
test_of A (inl a) = true
test_of A (inr not) = false

test_on : (A : Type 0) (d : Decided A) → A → test_of A d ≡ true
test_on A (inl a) given = refl
test_on A (inr not) given = absurd (not given)

test_off : (A : Type 0) (d : Decided A) → test_of A d ≡ true → A
test_off A (inl a) is = a
test_off A (inr not) is = absurd cc

module _ (s : Split) (lattice : ℕ) (order : Order) (join meet : ℕ → ℕ) (t : SplitTests)
    (given : SplitPremises s lattice order join meet t) where
  abbrev lib : System
  lib = alone s

  lib_owned : IsWellOwned lib
  lib_owned = owned s given.split

  module _ (depth : ℕ) (map : Assignment) (met : Meets (served s) lattice order depth map) where
    -- from a node, in a copy that the client calls, a path leads to the variable
    abbrev AtNode : ℕ → ℕ → ℕ → List ℕ → ℕ → Type 0
    AtNode e x site sites v =
        ((s.node v ≡ true) × (foreign s given.split site ≡ true)) × ((e ≡ map v (site ∷ sites)) × (t.joined v x ≡ true))

    -- what comes to a copy of a variable of the library
    abbrev In : ℕ → ℕ → List ℕ → Type 0
    In e x [] = Returning lib lattice e x
    In e x (site ∷ sites) = Returning lib lattice e x
        ⊎ (((n : ℕ) × (u : ℕ) × (a : ℕ) × Stands lib lattice n (Enter site u a) × In e u sites × (t.joined a x ≡ true))
        ⊎ ((v : ℕ) × AtNode e x site sites v))

    returned_tells : (e x : ℕ) → Decided (Returning lib lattice e x)
    returned_tells e x =
        elim (by_bool (t.returned e x))
        [ inl is ↦ inl ((given.exact.returned e x).0 is) | inr not ↦ inr (λ p. not ((given.exact.returned e x).1 p)) ]

    node_tells : (e x site : ℕ) (sites : List ℕ) (v : ℕ) → Decided (AtNode e x site sites v)
    node_tells e x site sites v = both _ _ (both _ _ (by_bool (s.node v)) (by_bool (foreign s given.split site)))
        (both _ _ (elim (eqb_tells e (map v (site ∷ sites))) [ inl same ↦ inl same.1 | inr other ↦ inr other.1 ])
        (by_bool (t.joined v x)))

    some_node : (e x site : ℕ) (sites : List ℕ) → Decided ((v : ℕ) × AtNode e x site sites v)
    some_node e x site sites = elim (search_below (λ v. AtNode e x site sites v → ⊥) (AtNode e x site sites)
        (λ v. elim (node_tells e x site sites v) [ inl a ↦ inr a | inr not ↦ inl not ]) s.vars) [
          | inr found ↦ inl found
          | inl all ↦ inr (λ found. all found.0 (given.split.below found.0 found.1.0.0) found.1)
        ]

    in_tells : (e x : ℕ) (sites : List ℕ) → Decided (In e x sites)
    in_tells e x [] = returned_tells e x
    in_tells e x (site ∷ sites) = elim (returned_tells e x) [
      | inl p ↦ inl (inl p)
      | inr no_return ↦ elim (some_way lib lattice site (λ u. In e u sites) (λ a. t.joined a x ≡ true)
          (λ u. in_tells e u sites) (λ a. by_bool (t.joined a x))) [
            | inl way ↦ inl (inr (inl (way.0, way.1.0, way.1.1, way.1.2, way.1.3, way.1.4)))
            | inr no_way ↦ elim (some_node e x site sites) [
              | inl found ↦ inl (inr (inr found))
              | inr no_node ↦ inr (λ r. elim r [
                | inl p ↦ no_return p
                | inr rest ↦ elim rest
                    [ inl way ↦ no_way (way.0, (way.1, way.2, way.3, way.4, way.5)) | inr found ↦ no_node found ]
              ])
            ]
          ]
    ]

    anywhere : (e x : ℕ) (sites : List ℕ) → Returning lib lattice e x → In e x sites
    anywhere e x [] p = p
    anywhere e x (site ∷ sites) p = inl p

    -- what a test says of an inner end and of a node
    inner_path : (n site u a x : ℕ) → Stands lib lattice n (Enter site u a) → t.joined a x ≡ true
        → (g : ℕ) × Matches lib lattice g a x
    inner_path n site u a x st is = (given.exact.joined a x (inl (n, site, u, st))).0 is

    inner_test : (n site u a x g : ℕ) → Stands lib lattice n (Enter site u a) → Matches lib lattice g a x
        → t.joined a x ≡ true
    inner_test n site u a x g st m = (given.exact.joined a x (inl (n, site, u, st))).1 (g, m)

    node_path : (v x : ℕ) → s.node v ≡ true → t.joined v x ≡ true → (g : ℕ) × Matches lib lattice g v x
    node_path v x node is = (given.exact.joined v x (inr node)).0 is

    node_test : (v x g : ℕ) → s.node v ≡ true → Matches lib lattice g v x → t.joined v x ≡ true
    node_test v x g node m = (given.exact.joined v x (inr node)).1 (g, m)

    go_on : (f g a x y : ℕ) → Matches lib lattice g a x → Matches lib lattice f x y → Matches lib lattice f a y
    go_on f g a x y q m =
        let same : g ≡ f = function_is (sym (end_owner lib lattice g a x q) ∙ start_owner lib lattice f x y m) in
        joined lib lattice f a x y (subst (λ h. Matches lib lattice h a x) same q) m

    onward : (e f x y : ℕ) (sites : List ℕ) → In e x sites → Matches lib lattice f x y → In e y sites
    onward e f x y [] p m = returning_on lib lattice e f x y p m
    onward e f x y (site ∷ sites) (inl p) m = inl (returning_on lib lattice e f x y p m)
    onward e f x y (site ∷ sites) (inr (inl (n, u, a, st, r, is))) m =
        let path = inner_path n site u a x st is in
        inr (inl (n, u, a, st, r, inner_test n site u a y f st (go_on f path.0 a x y path.1 m)))
    onward e f x y (site ∷ sites) (inr (inr (v, ((node, far), (same, is))))) m =
        let path = node_path v x node is in
        inr (inr (v, ((node, far), (same, node_test v y f node (go_on f path.0 v x y path.1 m)))))

    flowed : (e n u v : ℕ) (sites : List ℕ) → Stands lib lattice n (Le u v) → In e u sites → In e v sites
    flowed e n u v sites st r =
        let mine = given.split.library n (Le u v) (has_of lib lattice n (Le u v) st) in
        let f : ℕ = mine.0.0 in
        let g : ℕ = mine.1.0 in
        let same : f ≡ g = same_function lib lattice lib_owned n u v st f g mine.0.1 mine.1.1 in
        onward e f u v sites r
        (one_part lib lattice f u v mine.0.1 (flow f u v n st (mine.1.1 ∙ ap (λ f. Function f) (sym same))))

    entered : (e n site u a : ℕ) (sites : List ℕ) → Stands lib lattice n (Enter site u a) → In e u sites
        → In e a (site ∷ sites)
    entered e n site u a sites st r =
        let call = entering lib lattice lib_owned n site u a st in
        inr (inl (n, u, a, st, r, inner_test n site u a a call.it.target st (stay call.it.target a call.inner_is)))

    left : (e m site b y : ℕ) (sites : List ℕ) → Stands lib lattice m (Leave site b y) → In e b (site ∷ sites)
        → In e y sites
    left e m site b y sites st2 (inl p) = anywhere e y sites (returns b y site m p st2)
    left e m site b y sites st2 (inr (inl (n, u, a, st, r, is))) =
        let mine = given.split.library n (Enter site u a) (has_of lib lattice n (Enter site u a) st) in
        let f : ℕ = mine.0.0 in
        let path = inner_path n site u a b st is in
        let outer : owner_of lib y ≡ Function f =
        sym (same_outer lib lattice lib_owned n m site u a b y st st2) ∙ mine.0.1 in
        onward e f u y sites r
        (one_part lib lattice f u y mine.0.1 (group f u a b y site path.0 n m st path.1 st2 outer))
    left e m site b y sites st2 (inr (inr (v, ((node, far), (same, is))))) =
        let mine = given.split.library m (Leave site b y) (has_of lib lattice m (Leave site b y) st2) in
        absurd (own_site s given.split site y b (leaving lib lattice lib_owned m site b y st2) mine.1 far)

    -- what comes leads there in the library, or from what the words bound
    abbrev Below : ℕ → ℕ → Type 0
    Below e x =
        (v : ℕ) × (w : List ℕ) × (s.node v ≡ true) × IsCopy lib depth (owner_of lib v) w × (e ≡ map v w)
        × Down lib lattice v x

    abbrev Comes : ℕ → ℕ → Type 0
    Comes e x = Lead lib lattice e x ⊎ Below e x

    lead_on : (e f x v : ℕ) → Matches lib lattice f x v → Lead lib lattice e x → Lead lib lattice e v
    lead_on e f x v m (inl p) = inl (returning_on lib lattice e f x v p m)
    lead_on e f x v m (inr c) = inr (calling_on lib lattice e f x v c m)

    call_on : (e n site u a : ℕ) → Stands lib lattice n (Enter site u a) → Lead lib lattice e u → Lead lib lattice e a
    call_on e n site u a st (inl p) = inr (calls u a site n p st)
    call_on e n site u a st (inr c) = inr (calls_on u a site n c st)

    comes_on : (e n site u a g x : ℕ) → Stands lib lattice n (Enter site u a) → Matches lib lattice g a x → Comes e u
        → Comes e x
    comes_on e n site u a g x st m (inl lead) = inl (lead_on e g a x m (call_on e n site u a st lead))
    comes_on e n site u a g x st m (inr (v, w, node, copy, same, d)) =
        inr (v, w, node, copy, same, down_on lib lattice g v a x (into v u a site n d st) m)

    comes : (e x : ℕ) (sites : List ℕ) → IsCopy lib depth (owner_of lib x) sites → In e x sites → Comes e x
    comes e x [] copy p = inl (inl p)
    comes e x (site ∷ sites) copy (inl p) = inl (inl p)
    comes e x (site ∷ sites) copy (inr (inl (n, u, a, st, r, is))) =
        let path = inner_path n site u a x st is in
        let same : owner_of lib x ≡ owner_of lib a =
        end_owner lib lattice path.0 a x path.1 ∙ sym (start_owner lib lattice path.0 a x path.1) in
        let shorter = copy_off lib depth (owner_of lib u) (owner_of lib a) site sites
        (subst (λ o. IsCopy lib depth o (site ∷ sites)) same copy) (entering lib lattice lib_owned n site u a st) in
        comes_on e n site u a path.0 x st path.1 (comes e u sites shorter r)
    comes e x (site ∷ sites) copy (inr (inr (v, ((node, far), (same, is))))) =
        let path = node_path v x node is in
        let one : owner_of lib x ≡ owner_of lib v =
        end_owner lib lattice path.0 v x path.1 ∙ sym (start_owner lib lattice path.0 v x path.1) in
        inr (
          v,
          site ∷ sites,
          node,
          subst (λ o. IsCopy lib depth o (site ∷ sites)) one copy,
          same,
          down_on lib lattice path.0 v v x (here v) path.1,
        )

    -- at a node's own copy
    at_node : (v : ℕ) (w : List ℕ) → s.node v ≡ true → at (served s) map v w ≡ map v w
    at_node v w node = let mine = given.split.node v node in ap (λ o. map v (seen_from o w)) mine.1

    -- the words bound it
    bounded : (v n b : ℕ) (w : List ℕ) → s.node v ≡ true → IsCopy lib depth (owner_of lib v) w
        → ReachesBound lib lattice v n b → leq order (map v w) b ≡ true
    bounded v n b w node copy reaches =
        let low : leq order (meet v) b ≡ true = (given.words.meets v node).lower b (n, reaches) in
        given.lat.ordered.through (map v w) (meet v) b (elim (given.words.has_bound v node) [
          | inr top ↦ top (map v w) (met.rises.elements v w)
          | inl found ↦
              let here = front s s.words s.client lattice found.0 (Bound v lattice (meet v)) found.1 in
              subst (λ x. leq order x (meet v) ≡ true) (at_node v w node) (met.bound found.0 (meet v) v w here
              (copy_of s s.library (s.words ++ s.client) depth (owner_of lib v) w copy))
        ]) low

    under : (n x b e : ℕ) (sites : List ℕ) → Stands lib lattice n (Bound x lattice b)
        → IsCopy lib depth (owner_of lib x) sites → In e x sites → leq order e b ≡ true
    under n x b e sites st copy r = elim (comes e x sites copy r) [
      | inl lead ↦ given.safe n x b e st lead
      | inr below ↦
          subst (λ d. leq order d b ≡ true) (sym below.4) (bounded below.0 n b below.1 below.2 below.3 (x, below.5, st))
    ]

    -- what comes to a node where the client leaves is below the node's element
    words_flow : (v u : ℕ) (w : List ℕ) → s.node v ≡ true → s.node u ≡ true → IsCopy lib depth (owner_of lib u) w
        → (g : ℕ) → Matches lib lattice g v u → leq order (map v w) (map u w) ≡ true
    words_flow v u w node_v node_u copy g m = elim (split_path lib lattice g v u m) [
      | inl same ↦ subst (λ x. leq order (map v w) (map x w) ≡ true) same
          (given.lat.ordered.same (map v w) (met.rises.elements v w))
      | inr match ↦ elim (given.words.has_le v u node_v node_u match) [
        | inl same ↦ subst (λ x. leq order (map v w) (map x w) ≡ true) same
            (given.lat.ordered.same (map v w) (met.rises.elements v w))
        | inr found ↦
            let st = front s s.words s.client lattice found.0 (Le v u) found.1 in
            let other : owner_of lib v ≡ Function g = start_owner lib lattice g v u m in
            let one : owner_of lib u ≡ owner_of lib v = end_owner lib lattice g v u m ∙ sym other in
            let copy_v : IsCopy lib depth (Function g) w = subst (λ o. IsCopy lib depth o w) (one ∙ other) copy in
            let there : IsCopy (served s) depth (Function g) w =
            copy_of s s.library (s.words ++ s.client) depth (Function g) w copy_v in
            let raised = met.rises.le found.0 v u w st
            (subst (λ o. IsCopy (served s) depth (either o (owner_of (served s) u)) w) (sym other) there) in
            subst (λ x. leq order x (map u w) ≡ true) (at_node v w node_v)
            (subst (λ x. leq order (at (served s) map v w) x ≡ true) (at_node u w node_u) raised)
      ]
    ]

    words_const : (e v : ℕ) (w : List ℕ) → s.node v ≡ true → IsCopy lib depth (owner_of lib v) w
        → Returning lib lattice e v → leq order e (map v w) ≡ true
    words_const e v w node copy p =
        given.lat.ordered.through e (join v) (map v w) ((given.words.joins v node).upper e p)
        (elim (given.words.has_const v node) [
          | inr bottom ↦ bottom (map v w) (met.rises.elements v w)
          | inl found ↦
              let st = front s s.words s.client lattice found.0 (Const lattice (join v) v) found.1 in
              subst (λ x. leq order (join v) x ≡ true) (at_node v w node) (met.rises.const found.0 (join v) v w st
              (copy_of s s.library (s.words ++ s.client) depth (owner_of lib v) w copy))
        ])

    out : (e v site : ℕ) (sites : List ℕ) → s.node v ≡ true → foreign s given.split site ≡ true
        → IsCopy lib depth (owner_of lib v) (site ∷ sites) → In e v (site ∷ sites)
        → leq order e (map v (site ∷ sites)) ≡ true
    out e v site sites node far copy (inl p) = words_const e v (site ∷ sites) node copy p
    out e v site sites node far copy (inr (inl (n, u, a, st, r, is))) =
        let mine = given.split.library n (Enter site u a) (has_of lib lattice n (Enter site u a) st) in
        absurd (own_site s given.split site u a (entering lib lattice lib_owned n site u a st) mine.0 far)
    out e v site sites node far copy (inr (inr (u, ((node_u, far_u), (same, is))))) =
        let path = node_path u v node_u is in
        subst (λ d. leq order d (map v (site ∷ sites)) ≡ true) (sym same)
        (words_flow u v (site ∷ sites) node_u node copy path.0 path.1)

    abbrev Among : ℕ → List ℕ → ℕ → Type 0
    Among x sites e = In e x sites × (e < size order)

    among_tells : (x : ℕ) (sites : List ℕ) (e : ℕ) → Decided (Among x sites e)
    among_tells x sites e = by_both (in_tells e x sites) (leq order e e) refl
      where
        by_both : Decided (In e x sites) → (r : Bool) → leq order e e ≡ r → Decided (Among x sites e)
        by_both (inr not) r is = inr (λ p. not p.0)
        by_both (inl i) true is = inl (i, (given.lat.ordered.inside e e is).0)
        by_both (inl i) false is = inr (λ p. let fits : leq order e e ≡ true = given.lat.ordered.same e p.1 in cc)

    abbrev low : (x : ℕ) (sites : List ℕ) → (r : ℕ) × IsLeastOver order (Among x sites) r
    low x sites = least_over order (Among x sites) (λ e. test_of (Among x sites e) (among_tells x sites e)) given.lat
        (λ e is. (test_on (Among x sites e) (among_tells x sites e) is, is.1))
        (λ e r. test_off (Among x sites e) (among_tells x sites e) r)

    raised : (u v : ℕ) (one other : List ℕ) → ((e : ℕ) → In e u one → In e v other)
        → leq order (low u one).0 (low v other).0 ≡ true
    raised u v one other h =
        (low u one).1.least (low v other).0 (low v other).1.element (λ e r. (low v other).1.upper e (h e r.0, r.1))

    abbrev pick : Bool → ℕ → List ℕ → ℕ
    pick true x sites = (low x sites).0
    pick false x sites = map x sites

    abbrev value_by : Owner → ℕ → List ℕ → ℕ
    value_by Nobody x sites = map x sites
    value_by (Function f) x sites = pick (s.mine f) x sites

    abbrev made : Assignment
    made x sites = value_by (owner_of lib x) x sites

    at_mine : (x : ℕ) (sites : List ℕ) → IsMine s x → at (whole s) made x sites ≡ (low x sites).0
    at_mine x sites mine = ap (λ o. value_by o x (seen_from o sites)) mine.1 ∙ ap (λ b. pick b x sites) mine.2

    other_by : (x : ℕ) (sites : List ℕ) (o : Owner) → ((f : ℕ) → o ≡ Function f → s.mine f ≡ false)
        → value_by o x (seen_from o sites) ≡ map x (seen_from o sites)
    other_by x sites Nobody h = refl
    other_by x sites (Function f) h = ap (λ b. pick b x sites) (h f refl)

    at_other : (x : ℕ) (sites : List ℕ) → IsOther s x → at (whole s) made x sites ≡ at (served s) map x sites
    at_other x sites other = other_by x sites (owner_of lib x) other

    element : (b : Bool) (x : ℕ) (sites : List ℕ) → pick b x sites < size order
    element true x sites = (low x sites).1.element
    element false x sites = met.rises.elements x sites

    element_by : (o : Owner) (x : ℕ) (sites : List ℕ) → value_by o x sites < size order
    element_by Nobody x sites = met.rises.elements x sites
    element_by (Function f) x sites = element (s.mine f) x sites

    between : (a b c d : ℕ) → a ≡ c → b ≡ d → leq order c d ≡ true → leq order a b ≡ true
    between a b c d p q is = subst (λ x. leq order x b ≡ true) (sym p) (subst (λ x. leq order c x ≡ true) (sym q) is)

    to_served : (o : Owner) (sites : List ℕ) → IsCopy (whole s) depth o sites → IsCopy (served s) depth o sites
    to_served o sites c = copy_of s (s.library ++ s.client) (s.words ++ s.client) depth o sites c

    to_lib : (o : Owner) (sites : List ℕ) → IsCopy (whole s) depth o sites → IsCopy lib depth o sites
    to_lib o sites c = copy_of s (s.library ++ s.client) s.library depth o sites c

    le_on : (n u v : ℕ) (sites : List ℕ) → Stands (whole s) lattice n (Le u v)
        → IsCopy (whole s) depth (either (owner_of lib u) (owner_of lib v)) sites →
        leq order (at (whole s) made u sites) (at (whole s) made v sites) ≡ true
    le_on n u v sites st copy = elim (parted s s.library s.client lattice n (Le u v) st) [
      | inl own ↦
          let mine = given.split.library n (Le u v) (has_of lib lattice n (Le u v) own) in
          between _ _ _ _ (at_mine u sites mine.0) (at_mine v sites mine.1)
          (raised u v sites sites (λ e r. flowed e n u v sites own r))
      | inr found ↦
          let other =
          given.split.client found.0 (Le u v) (has_of (of_part s s.client) lattice found.0 (Le u v) found.1) in
          let there = back s s.words s.client lattice found.0 (Le u v) found.1 in
          between _ _ _ _ (at_other u sites other.0) (at_other v sites other.1)
          (met.rises.le there.0 u v sites there.1 (to_served _ sites copy))
    ]

    const_on : (n e v : ℕ) (sites : List ℕ) → Stands (whole s) lattice n (Const lattice e v)
        → IsCopy (whole s) depth (owner_of lib v) sites → leq order e (at (whole s) made v sites) ≡ true
    const_on n e v sites st copy = elim (parted s s.library s.client lattice n (Const lattice e v) st) [
      | inl own ↦
          let mine = given.split.library n (Const lattice e v) (has_of lib lattice n (Const lattice e v) own) in
          between e _ e _ refl (at_mine v sites mine)
          ((low v sites).1.upper e (anywhere e v sites (start v n own), given.names.const n e v st))
      | inr found ↦
          let other = given.split.client found.0 (Const lattice e v)
          (has_of (of_part s s.client) lattice found.0 (Const lattice e v) found.1) in
          let there = back s s.words s.client lattice found.0 (Const lattice e v) found.1 in
          between e _ e _ refl (at_other v sites other)
          (met.rises.const there.0 e v sites there.1 (to_served _ sites copy))
    ]

    whole_call : (site : ℕ) (outer inner : Owner) → Calls (whole s) site outer inner → Calls lib site outer inner
    whole_call site outer inner c = calls_of s (s.library ++ s.client) s.library site outer inner c

    enter_on : (n t u x : ℕ) (site : Site) (sites : List ℕ) → Stands (whole s) lattice n (Enter t u x)
        → slice_get s.sites t ≡ Some site → IsCopy (whole s) depth site.owner sites →
        length (t ∷ sites) ≤ depth → leq order (at (whole s) made u sites) (at (whole s) made x (t ∷ sites)) ≡ true
    enter_on n t u x site sites st there copy fits = elim (parted s s.library s.client lattice n (Enter t u x) st) [
      | inl own ↦
          let mine = given.split.library n (Enter t u x) (has_of lib lattice n (Enter t u x) own) in
          between _ _ _ _ (at_mine u sites mine.0) (at_mine x (t ∷ sites) mine.1)
          (raised u x sites (t ∷ sites) (λ e r. entered e n t u x sites own r))
      | inr found ↦
          let client = given.split.client found.0 (Enter t u x)
          (has_of (of_part s s.client) lattice found.0 (Enter t u x) found.1) in
          let k = back s s.words s.client lattice found.0 (Enter t u x) found.1 in
          let call =
          whole_call t (owner_of lib u) (owner_of lib x) (entering (whole s) lattice given.split.owned n t u x st) in
          let far = other_site s given.split t u x call client.0 in
          let rises = met.rises.enter k.0 t u x site sites k.1 there (to_served _ sites copy) fits in
          elim (mine_or_other s given.split x) [
            | inr other ↦ between _ _ _ _ (at_other u sites client.0) (at_other x (t ∷ sites) other) rises
            | inl mine ↦
                let node = client.1 mine in
                let into : In (map x (t ∷ sites)) x (t ∷ sites) =
                inr (inr (x, ((node, far), (refl, node_test x x mine.0 node (stay mine.0 x mine.1))))) in
                let up : leq order (map x (t ∷ sites)) (low x (t ∷ sites)).0 ≡ true =
                (low x (t ∷ sites)).1.upper (map x (t ∷ sites)) (into, met.rises.elements x (t ∷ sites)) in
                between _ _ _ _ (at_other u sites client.0) (at_mine x (t ∷ sites) mine)
                (given.lat.ordered.through _ (map x (t ∷ sites)) _
                (subst (λ d. leq order (at (served s) map u sites) d ≡ true) (at_node x (t ∷ sites) node) rises) up)
          ]
    ]

    leave_on : (n t y v : ℕ) (site : Site) (sites : List ℕ) → Stands (whole s) lattice n (Leave t y v)
        → slice_get s.sites t ≡ Some site → IsCopy (whole s) depth site.owner sites →
        length (t ∷ sites) ≤ depth → leq order (at (whole s) made y (t ∷ sites)) (at (whole s) made v sites) ≡ true
    leave_on n t y v site sites st there copy fits = elim (parted s s.library s.client lattice n (Leave t y v) st) [
      | inl own ↦
          let mine = given.split.library n (Leave t y v) (has_of lib lattice n (Leave t y v) own) in
          between _ _ _ _ (at_mine y (t ∷ sites) mine.0) (at_mine v sites mine.1)
          (raised y v (t ∷ sites) sites (λ e r. left e n t y v sites own r))
      | inr found ↦
          let client = given.split.client found.0 (Leave t y v)
          (has_of (of_part s s.client) lattice found.0 (Leave t y v) found.1) in
          let k = back s s.words s.client lattice found.0 (Leave t y v) found.1 in
          let call =
          whole_call t (owner_of lib v) (owner_of lib y) (leaving (whole s) lattice given.split.owned n t y v st) in
          let far = other_site s given.split t v y call client.0 in
          let rises = met.rises.leave k.0 t y v site sites k.1 there (to_served _ sites copy) fits in
          elim (mine_or_other s given.split y) [
            | inr other ↦ between _ _ _ _ (at_other y (t ∷ sites) other) (at_other v sites client.0) rises
            | inl mine ↦
                let node = client.1 mine in
                let home : owner_of lib v ≡ site.owner =
                call.outer_is ∙ ap (λ (x : Site). x.owner) (site_is (sym call.there ∙ there)) in
                let inner : IsCopy lib depth (owner_of lib y) (t ∷ sites) =
                copy_on lib depth (owner_of lib v) (owner_of lib y) t sites (subst (λ o. IsCopy lib depth o sites)
                (sym home) (to_lib site.owner sites copy)) call (omega (arith, fits)) in
                let down : leq order (low y (t ∷ sites)).0 (map y (t ∷ sites)) ≡ true =
                (low y (t ∷ sites)).1.least (map y (t ∷ sites)) (met.rises.elements y (t ∷ sites))
                (λ e r. out e y t sites node far inner r.0) in
                between _ _ _ _ (at_mine y (t ∷ sites) mine) (at_other v sites client.0)
                (given.lat.ordered.through _ (map y (t ∷ sites)) _ down
                (subst (λ d. leq order d (at (served s) map v sites) ≡ true) (at_node y (t ∷ sites) node) rises))
          ]
    ]

    bound_on : (n b v : ℕ) (sites : List ℕ) → Stands (whole s) lattice n (Bound v lattice b)
        → IsCopy (whole s) depth (owner_of lib v) sites → leq order (at (whole s) made v sites) b ≡ true
    bound_on n b v sites st copy = elim (parted s s.library s.client lattice n (Bound v lattice b) st) [
      | inl own ↦
          let mine = given.split.library n (Bound v lattice b) (has_of lib lattice n (Bound v lattice b) own) in
          between _ b _ b (at_mine v sites mine) refl ((low v sites).1.least b (given.names.bound n v b st)
          (λ e r. under n v b e sites own (to_lib _ sites copy) r.0))
      | inr found ↦
          let other = given.split.client found.0 (Bound v lattice b)
          (has_of (of_part s s.client) lattice found.0 (Bound v lattice b) found.1) in
          let there = back s s.words s.client lattice found.0 (Bound v lattice b) found.1 in
          between _ b _ b (at_other v sites other) refl (met.bound there.0 b v sites there.1 (to_served _ sites copy))
    ]

    made_meets : Meets (whole s) lattice order depth made
    made_meets = record {
      rises = record {
        elements = λ v sites. element_by (owner_of lib v) v sites;
        le = le_on;
        const = const_on;
        enter = enter_on;
        leave = leave_on;
      };
      bound = bound_on;
    }

-- where the words with the client are accepted, the library with the client is
pub served_is_whole : ServedIsWhole
served_is_whole s lattice order join meet t given accepted depth =
    let before = accepted depth in (
      made s lattice order join meet t given depth before.0 before.1,
      made_meets s lattice order join meet t given depth before.0 before.1,
    )
