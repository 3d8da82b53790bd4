-- The main path of a proof that holds leads from its constant to its bound.
use Rattle.std.proofs.Common.{◌≡◌, ℕ, zero, suc, ◌+◌, ◌-◌, ◌≤◌, Bool, true, false, not, ◌&&◌, ◌==◌, List, [], ◌∷◌, ◌++◌, length, map, arith, Option, Some, None, option_map, refl, sym, ◌∙◌, ap, subst, inl, inr, slice_get, if◌then◌else◌}
use Rattle.qual_base.specs.declared.places.Owner.{Owner}
use Rattle.qual_base.specs.declared.places.Owner.TheVariants.{Nobody, Function}
use Rattle.qual_base.proofs.Lists.{map_length}
use Rattle.lattice_core.specs.Order.{Order}
use Rattle.flow_graph.specs.declared.constraint.Link.TheVariants.{Le, Bound, Enter, Leave}
use Rattle.flow_graph.specs.declared.phase.Phase.{Phase}
use Rattle.flow_graph.specs.declared.phase.Phase.TheVariants.{First, Second}
use Rattle.flow_graph.specs.declared.proof.PathStep.{PathStep}
use Rattle.flow_graph.specs.declared.proof.PathStep.TheVariants.{Take, Sub as SubStep}
use Rattle.flow_graph.specs.declared.proof.PathProof.{PathProof}
use Rattle.flow_graph.specs.declared.step.Seen.{Seen}
use Rattle.flow_graph.specs.declared.step.Seen.TheVariants.{Edge, Through, NoSub, NoEdge}
use Rattle.flow_graph.specs.System.{System, owner_of, Stands, IsWellOwned}
use Rattle.flow_graph.specs.Unfolding.{NamesElements}
use Rattle.flow_graph.specs.Paths.{Matches, stay, longer, Part as Piece, flow, group, Returning, start, flows, returns, grouped, anew, Calling, calls, calls_on, flows_on, grouped_on, Lead}
use Rattle.flow_graph.specs.Parts.{settled, Part, Flow, Empty, Full, Inside, Done, More, IsSub, Onward, ToBound, Ends, Along, Back, Into, IsPath}
use Rattle.flow_graph.specs.PathProofs.{is_nobodys, last_of, look, span_of, steps_of, Holds}
use Rattle.flow_laws.specs.PathForms.{without_line, without_lines, AreSubPaths, NoPaths, NoSteps, Stepped}
use Rattle.flow_laws.specs.Holding.{LeadsToBound, steps_in, steps_in_proof, HoldsLeads, HoldsRefutes, HoldsRefutesWithin, HoldsIsUnmet, HoldsRejects}
use Rattle.flow_laws.proofs.Depths.{depth_inside, depth_of_part, open_calls, depth_returning, depth_calling, depth_of}
use Rattle.flow_laws.proofs.Owners.{entering}
use Rattle.flow_laws.proofs.Force.{paths_refute, refuted_at}
use Rattle.flow_laws.proofs.Rejected.{has_refutes}
use Rattle.flow_laws.proofs.Erasing.{last_map}
use Rattle.flow_laws.proofs.Showing.{sub_span, path_last}
use Rattle.flow_laws.proofs.Exact.{holds_exactly}

-- What leads to where the main path has come, with some of its steps left. It is no deeper than the steps of the
-- sub-paths, which are `most`, and the steps so far, and with a group of a sub-path it is not either.
module _ (sys : System) (lattice elem most total : ℕ) where
  abbrev Led : ℕ → Bool → ℕ → Type 0
  Led left true v =
      (c : Calling sys lattice elem v) × (depth_calling sys lattice elem v c + left ≤ total)
      × (open_calls sys lattice elem v c + (most + 1) + left ≤ total)
  Led left false v =
      (p : Returning sys lattice elem v) × (depth_returning sys lattice elem v p + left ≤ total)
      × (most + 1 + left ≤ total)

  either_led : (c : Bool) (v : ℕ) → Led 0 c v
      → (lead : Lead sys lattice elem v) × (depth_of sys lattice elem v lead ≤ total)
  either_led true v h = (inr h.0, omega (arith, h.1))
  either_led false v h = (inl h.0, omega (arith, h.1))

  settle_led : (left : ℕ) (c : Bool) (v : ℕ) → Led left c v → Led left (not (is_nobodys (owner_of sys v)) && c) v
  settle_led left c v h = by_owner c (owner_of sys v) refl h
    where
      by_owner : (c : Bool) (o : Owner) → owner_of sys v ≡ o → Led left c v → Led left (not (is_nobodys o) && c) v
      by_owner true Nobody is h = (anew v h.0 is, h.1, omega (arith, h.2))
      by_owner false Nobody is h = h
      by_owner c (Function f) is h = h

  later_led : (left : ℕ) (c : Bool) (v : ℕ) → Led (suc left) c v → Led left c v
  later_led left true v h = (h.0, omega (arith, h.1), omega (arith, h.2))
  later_led left false v h = (h.0, omega (arith, h.1), omega (arith, h.2))

  flow_led : (left : ℕ) (c : Bool) (u v n : ℕ) → Led (suc left) c u → Stands sys lattice n (Le u v) → Led left c v
  flow_led left true u v n h st = (flows_on u v n h.0 st, omega (arith, h.1), omega (arith, h.2))
  flow_led left false u v n h st = (flows u v n h.0 st, omega (arith, h.1), omega (arith, h.2))

  group_led : (left : ℕ) (c : Bool) (u a b v s g n m : ℕ) → Led (suc left) c u → Stands sys lattice n (Enter s u a)
      → (q : Matches sys lattice g a b) → depth_inside sys lattice g a b q ≤ most →
      Stands sys lattice m (Leave s b v) → Led left c v
  group_led left true u a b v s g n m h st q low st2 =
      (grouped_on u a b v s g n m h.0 st q st2, omega (arith, h.1, h.2, low), omega (arith, h.2))
  group_led left false u a b v s g n m h st q low st2 =
      (grouped u a b v s g n m h.0 st q st2, omega (arith, h.1, h.2, low), omega (arith, h.2))

  call_led : (left : ℕ) (c : Bool) (u v s n : ℕ) → Led (suc left) c u → Stands sys lattice n (Enter s u v)
      → Led left true v
  call_led left true u v s n h st = (calls_on u v s n h.0 st, omega (arith, h.1), omega (arith, h.2))
  call_led left false u v s n h st = (calls u v s n h.0 st, omega (arith, h.1), omega (arith, h.2))

-- sub-paths join variables by matched paths
module _ (sys : System) (lattice : ℕ) (owned : IsWellOwned sys) where
  -- a matched path between the ends of a sub-path, no deeper than a number
  abbrev Joins : ℕ → Seen → Type 0
  Joins most (Edge c) = Unit {0}
  Joins most (Through u v) = (g : ℕ) × (p : Matches sys lattice g u v) × (depth_inside sys lattice g u v p ≤ most)
  Joins most NoSub = Unit {0}
  Joins most NoEdge = Unit {0}

  joins_up : (low most : ℕ) (x : Seen) → low ≤ most → Joins low x → Joins most x
  joins_up low most (Edge c) up joins = tt
  joins_up low most (Through u v) up joins = (joins.0, joins.1, omega (arith, up, joins.2))
  joins_up low most NoSub up joins = tt
  joins_up low most NoEdge up joins = tt

  if_joins : (most : ℕ) (b : Bool) (x : Seen) → Joins most x → Joins most (if b then NoSub else x)
  if_joins most true x joins = tt
  if_joins most false x joins = joins

  abbrev AllJoin : ℕ → List (List PathStep) → Type 0
  AllJoin most subs = (n : ℕ) → Joins most (span_of sys (slice_get subs n))

  named_joins : (most : ℕ) (subs : List (List PathStep)) → AllJoin most subs → (k a b : ℕ)
      → look sys subs (SubStep k 0) ≡ Through a b → Joins most (Through a b)
  named_joins most subs all k a b is =
      subst (Joins most) is (if_joins most (k == 0) (span_of sys (slice_get subs (k - 1))) (all (k - 1)))

  one_more : (most : ℕ) (subs : List (List PathStep)) (s : List PathStep) → AllJoin most subs
      → Joins most (span_of sys (Some s)) → AllJoin most (subs ++ s ∷ [])
  one_more most [] s all joins zero = joins
  one_more most [] s all joins (suc n) = tt
  one_more most (x ∷ subs) s all joins zero = all 0
  one_more most (x ∷ subs) s all joins (suc n) = one_more most subs s (λ n. all (suc n)) joins n

  -- the path inside the function that a group enters
  inner : (most : ℕ) (n s u a : ℕ) → Stands sys lattice n (Enter s u a) → Joins most (Through a a)
  inner most n s u a st =
      let call = entering sys lattice owned n s u a st in
      (call.it.target, stay call.it.target a call.inner_is, omega arith)

  module _ (most : ℕ) (subs : List (List PathStep)) (all : AllJoin most subs) where
    piece : (f u v : ℕ) (front : List PathStep) → Part sys lattice subs u v front → owner_of sys v ≡ Function f →
        (p : Piece sys lattice f u v) × (depth_of_part sys lattice f u v p ≤ suc most)
    piece f u v _ (Flow _ _ n st) is = (flow f u v n st is, omega arith)
    piece f u v _ (Empty _ a _ s n m st ts) is =
        let q = inner most n s u a st in
        (group f u a a v s q.0 n m st q.1 ts is, omega (arith, q.2))
    piece f u v _ (Full _ a b _ s n m k st looks ts) is =
        let q = named_joins most subs all k a b looks in
        (group f u a b v s q.0 n m st q.1 ts is, omega (arith, q.2))

    -- a path inside a function with a part more
    further : (f w u x : ℕ) (front : List PathStep) → Part sys lattice subs u x front → owner_of sys x ≡ Function f →
        (p : Matches sys lattice f w u) × (depth_inside sys lattice f w u p ≤ suc most)
        → (p : Matches sys lattice f w x) × (depth_inside sys lattice f w x p ≤ suc most)
    further f w u x front part is m =
        let q = piece f u x front part is in
        (longer f w u x m.0 q.0, omega (arith, m.1, q.1))

    inside_match : (f w u v : ℕ) (steps : List PathStep) → Inside sys lattice subs f u v steps
        → (p : Matches sys lattice f w u) × (depth_inside sys lattice f w u p ≤ suc most) →
        (p : Matches sys lattice f w v) × (depth_inside sys lattice f w v p ≤ suc most)
    inside_match f w u _ _ (Done _) m = m
    inside_match f w u v _ (More _ x _ front rest part from to on) m =
        inside_match f w x v rest on (further f w u x front part to m)

    sub_joins : (u v : ℕ) (steps : List PathStep) → IsSub sys lattice subs u v steps → Joins (suc most) (Through u v)
    sub_joins u v steps sub =
        let f = sub.function in
        let m = inside_match f u sub.next v sub.rest sub.more
        (further f u u sub.next sub.front sub.part sub.next_is (stay f u sub.from_is, omega arith)) in
        (f, m.0, m.1)

  part_long : (subs : List (List PathStep)) (u v : ℕ) (front rest : List PathStep) → Part sys lattice subs u v front
      → 1 ≤ length (front ++ rest)
  part_long subs u v _ rest (Flow _ _ n st) = omega arith
  part_long subs u v _ rest (Empty _ a _ s n m st ts) = omega arith
  part_long subs u v _ rest (Full _ a b _ s n m k st looks ts) = omega arith

  steps_more : (subs : List (List PathStep)) (s : List PathStep) → steps_in (subs ++ s ∷ []) ≡ steps_in subs + length s
  steps_more [] s = omega arith
  steps_more (x ∷ subs) s = let more = steps_more subs s in omega (arith, more)

  -- no sub-path is deeper than the steps of all
  all_join : (subs : List (List PathStep)) → AreSubPaths sys lattice subs → AllJoin (steps_in subs) subs
  all_join _ NoPaths = λ n. tt
  all_join _ (NoSteps subs before) =
      let count = steps_more subs [] in
      one_more (steps_in (subs ++ [] ∷ [])) subs [] (λ n. joins_up (steps_in subs) (steps_in (subs ++ [] ∷ []))
      (span_of sys (slice_get subs n)) (omega (arith, count)) (all_join subs before n)) tt
  all_join _ (Stepped subs u v steps before sub) =
      let count = steps_more subs steps in
      let most = steps_in (subs ++ steps ∷ []) in
      let all = all_join subs before in
      let some : 1 ≤ length steps =
      subst (λ xs. 1 ≤ length xs) (sym sub.steps_are) (part_long subs u sub.next sub.front sub.rest sub.part) in
      one_more most subs steps
      (λ n. joins_up (steps_in subs) most (span_of sys (slice_get subs n)) (omega (arith, count)) (all n))
      (subst (Joins most) (sym (sub_span sys lattice subs u v steps sub)) (joins_up (suc (steps_in subs)) most
      (Through u v) (omega (arith, count, some)) (sub_joins (steps_in subs) subs all u v steps sub)))

-- the second phase has an open call
abbrev is_second : Phase → Bool
is_second First = false
is_second Second = true

second_on : (o : Owner) (p : Phase) → is_second (settled o p) ≡ (not (is_nobodys o) && is_second p)
second_on Nobody p = refl
second_on (Function f) p = refl

module _ (sys : System) (lattice elem most total : ℕ) (owned : IsWellOwned sys) (subs : List (List PathStep))
    (all : AllJoin sys lattice owned most subs) where
  abbrev At : ℕ → Bool → ℕ → Type 0
  At = Led sys lattice elem most total

  -- a part leads on
  part_led : (c : Bool) (u v : ℕ) (front rest : List PathStep) → Part sys lattice subs u v front
      → At (length (front ++ rest)) c u → At (length rest) c v
  part_led c u v _ rest (Flow _ _ n st) led = flow_led sys lattice elem most total (length rest) c u v n led st
  part_led c u v _ rest (Empty _ a _ s n m st ts) led =
      let q = inner sys lattice owned most n s u a st in
      group_led sys lattice elem most total (length rest) c u a a v s q.0 n m
      (later_led sys lattice elem most total (suc (length rest)) c u led) st q.1 q.2 ts
  part_led c u v _ rest (Full _ a b _ s n m k st looks ts) led =
      let q = named_joins sys lattice owned most subs all k a b looks in
      group_led sys lattice elem most total (length rest) c u a b v s q.0 n m
      (later_led sys lattice elem most total (suc (length rest)) c u
      (later_led sys lattice elem most total (suc (suc (length rest))) c u led)) st q.1 q.2 ts

  -- a bound to which the constant leads
  record Reached (bound : ℕ) : Type 0 where
    var : ℕ
    limit : ℕ
    stands : Stands sys lattice bound (Bound var lattice limit)
    lead : Lead sys lattice elem var
    low : depth_of sys lattice elem var lead ≤ total

  settled_at : (left : ℕ) (p : Phase) (v : ℕ) → At left (is_second p) v
      → At left (is_second (settled (owner_of sys v) p)) v
  settled_at left p v led =
      subst (λ c. At left c v) (sym (second_on (owner_of sys v) p))
      (settle_led sys lattice elem most total left (is_second p) v led)

  reached : (bound : ℕ) (p : Phase) (u : ℕ) (steps : List PathStep) → Onward sys lattice subs (ToBound bound) p u steps
      → At (length steps) (is_second p) u → Reached bound
  reached bound p u _ (Ends _ _ _ limit st) led =
      let end = either_led sys lattice elem most total (is_second p) u
      (later_led sys lattice elem most total 0 (is_second p) u led) in
      record { var = u; limit = limit; stands = st; lead = end.0; low = end.1 }
  reached bound p u _ (Along _ _ _ v front rest part on) led =
      reached bound (settled (owner_of sys v) p) v rest on
      (settled_at (length rest) p v (part_led (is_second p) u v front rest part led))
  reached bound _ u _ (Back _ _ v s n rest st on) led =
      reached bound (settled (owner_of sys v) First) v rest on
      (settled_at (length rest) First v (returns u v s n led.0 st, omega (arith, led.1), omega (arith, led.2)))
  reached bound p u _ (Into _ _ _ v s n rest st on) led =
      reached bound (settled (owner_of sys v) Second) v rest on (settled_at (length rest) Second v
      (call_led sys lattice elem most total (length rest) (is_second p) u v s n led st))

-- a path of a constant's element leads to the variable of its bound, at a depth of at most its steps
path_reaches : (sys : System) (lattice elem bound most : ℕ) (owned : IsWellOwned sys) (subs : List (List PathStep))
    (all : AllJoin sys lattice owned most subs) (steps : List PathStep) →
    IsPath sys lattice subs elem bound steps → Reached sys lattice elem most (length steps + most) owned subs all bound
path_reaches sys lattice elem bound most owned subs all steps path =
    let count : length steps ≡ suc (length path.rest) = ap length path.steps_are in
    reached sys lattice elem most (length steps + most) owned subs all bound
    (settled (owner_of sys path.from) First) path.from path.rest path.onward
    (settled_at sys lattice elem most (length steps + most) owned subs all (length path.rest) First path.from
    (start path.from path.start path.constant, omega (arith, count), omega (arith, count)))

-- a step that without its line takes the bound takes it at some line
taken_last : (bound : ℕ) (o : Option PathStep) → option_map without_line o ≡ Some (Take bound 0)
    → (line : ℕ) × (o ≡ Some (Take bound line))
taken_last bound (Some (Take n line)) e = (line, let same : n ≡ bound = cc in ap (λ n. Some (Take n line)) same)
taken_last bound (Some (SubStep n line)) e = absurd cc
taken_last bound None e = absurd cc

-- sub-paths without lines have as many steps
steps_same : (subs : List (List PathStep)) → steps_in (map without_lines subs) ≡ steps_in subs
steps_same [] = refl
steps_same (s ∷ subs) =
    let one : length (without_lines s) ≡ length s = map_length without_line s in
    let more = steps_same subs in
    omega (arith, one, more)

-- with the depth at which the path leads
record LeadsWithin (sys : System) (orders : List Order) (main : List PathStep) (total : ℕ) : Type 0 where
  leads : LeadsToBound sys orders main
  low : depth_of sys leads.lattice leads.element leads.var leads.lead ≤ total

-- how deep the path leads
leads_within : (sys : System) (orders : List Order) (proof : PathProof) → IsWellOwned sys → NamesElements sys orders
    → Holds sys orders proof → LeadsWithin sys orders proof.main.items (steps_in_proof proof)
leads_within sys orders proof owned names holds =
    let shows = (holds_exactly sys orders proof names).0 holds in
    let shown = shows.shown in
    let main = proof.main.items in
    let named = map without_lines (steps_of proof.subs.items) in
    let most = steps_in named in
    let end = path_reaches sys shows.lattice shown.element shown.bound most owned named
    (all_join sys shows.lattice owned named shown.sub_paths) (without_lines main) shown.path in
    let last = taken_last shown.bound (last_of main) (sym (last_map without_line main)
    ∙ path_last sys shows.lattice named shown.bound shown.element (without_lines main) shown.path) in
    let count : length (without_lines main) ≡ length main = map_length without_line main in
    let counts : most ≡ steps_in (steps_of proof.subs.items) = steps_same (steps_of proof.subs.items) in
    record {
      leads = record {
        lattice = shows.lattice;
        order = shows.order;
        there = shows.there;
        element = shown.element;
        var = end.var;
        lead = end.lead;
        number = shown.bound;
        bound_element = end.limit;
        bound = end.stands;
        over = shown.over end.var end.limit end.stands;
        line = last.0;
        last = last.1;
      };
      low = omega (arith, end.low, count, counts);
    }

pub holds_leads : HoldsLeads
holds_leads sys orders proof owned names holds = (leads_within sys orders proof owned names holds).leads

-- the bound at the end of a proof that holds is exceeded at a depth of at most its steps
pub holds_refutes_within : HoldsRefutesWithin
holds_refutes_within sys orders proof owned names ordered holds =
    let within = leads_within sys orders proof owned names holds in
    let leads = within.leads in
    let order_is = ordered leads.lattice leads.order leads.there in
    let same = refuted_at sys leads.lattice leads.order owned order_is leads.element leads.var leads.number
    leads.bound_element leads.lead leads.bound leads.over in (
      record {
        lattice = leads.lattice;
        order = leads.order;
        there = leads.there;
        number = leads.number;
        line = leads.line;
        last = leads.last;
        exceeded = paths_refute sys leads.lattice leads.order owned order_is leads.element leads.var leads.number
            leads.bound_element leads.lead leads.bound leads.over;
      },
      subst (λ depth. depth ≤ steps_in_proof proof) (sym same) within.low,
    )

pub holds_refutes : HoldsRefutes
holds_refutes sys orders proof owned names ordered holds =
    (holds_refutes_within sys orders proof owned names ordered holds).0

-- where a path proof holds, no assignment meets the unfolding at a depth of at most its steps
pub holds_is_unmet : HoldsIsUnmet
holds_is_unmet sys orders proof owned names ordered holds =
    let within = holds_refutes_within sys orders proof owned names ordered holds in
    let ends = within.0 in
    record {
      lattice = ends.lattice;
      order = ends.order;
      there = ends.there;
      depth = ends.exceeded.depth;
      low = within.1;
      unmet = λ map met. ends.exceeded.unmet map met.rises (met.bound ends.number);
    }

-- a program of which a path proof holds is not accepted
pub holds_rejects : HoldsRejects
holds_rejects sys orders proof owned names ordered holds accepted =
    let ends = holds_refutes sys orders proof owned names ordered holds in
    has_refutes sys orders (record {
      lattice = ends.lattice;
      order = ends.order;
      there = ends.there;
      number = ends.number;
      exceeded = ends.exceeded;
    }) accepted
