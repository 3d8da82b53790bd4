-- A good list has matched paths alone, and a closed one has all of them.
use Rattle.std.proofs.Common.{◌≡◌, ℕ, zero, suc, ◌<◌, inl, inr, Bool, List, Some, length, take, slice_get, refl, sym, ◌∙◌, ap, subst, arith}
use Rattle.std.specs.List.{Contains}
use Rattle.std.proofs.lemmas.List.{length-take, get_or-take}
use Rattle.std.proofs.lemmas.Option.{slice_get-get_or}
use Rattle.qual_base.specs.declared.places.Owner.TheVariants.{Function}
use Rattle.flow_graph.specs.declared.constraint.Link.TheVariants.{Le, Enter}
use Rattle.flow_graph.specs.System.{System, AllBelow, Stands, owner_of}
use Rattle.flow_graph.specs.Paths.{Matches, stay, longer, Part, flow, group, Match}
use Rattle.match_summary.specs.declared.reason.Reason.{Reason}
use Rattle.match_summary.specs.declared.reason.Reason.TheVariants.{Last, Group}
use Rattle.match_summary.specs.declared.reason.Summary.{Summary}
use Rattle.match_summary.specs.Reason.{before_of}
use Rattle.match_summary.specs.Summary.{HasPair, Leads, EndsAt, IsGrounded, IsInnerEnd, IsStart, Summarises, SummarisesFrom}
use Rattle.match_summary.specs.Closing.{IsGood, IsClosed, IsMarked}

-- a matched path begins and ends in its function
pub matches_begin : (sys : System) (lattice f u v : ℕ) → Matches sys lattice f u v → owner_of sys u ≡ Function f
matches_begin sys lattice f u v (stay _ _ o) = o
matches_begin sys lattice f u v (longer _ _ x _ m p) = matches_begin sys lattice f u x m

part_end : (sys : System) (lattice f x v : ℕ) → Part sys lattice f x v → owner_of sys v ≡ Function f
part_end sys lattice f x v (flow _ _ _ n st o) = o
part_end sys lattice f x v (group _ _ a b _ s g n m st p st2 o) = o

pub matches_end : (sys : System) (lattice f u v : ℕ) → Matches sys lattice f u v → owner_of sys v ≡ Function f
matches_end sys lattice f u v (stay _ _ o) = o
matches_end sys lattice f u v (longer _ _ x _ m p) = part_end sys lattice f x v p

one_function : (f g : ℕ) → Function f ≡ Function g → f ≡ g
one_function f g e = cc

-- what leads from one variable of a function to another, where each pair is a matched path
leads_matches : (sys : System) (lattice f u v : ℕ) (rows : List Summary)
    → ((x y : ℕ) → HasPair rows x y → Match sys lattice x y) →
    owner_of sys u ≡ Function f → Leads rows u v → Matches sys lattice f u v
leads_matches sys lattice f u v rows early o (inl same) = subst (λ x. Matches sys lattice f u x) same (stay f u o)
leads_matches sys lattice f u v rows early o (inr pair) =
    let path = early u v pair in
    let whole : Matches sys lattice path.0 u v = longer path.0 u path.1 v path.2 path.3 in
    let same : path.0 ≡ f = one_function path.0 f (sym (matches_begin sys lattice path.0 u v whole) ∙ o) in
    subst (λ g. Matches sys lattice g u v) same whole

-- the last part of a summary is a part of its function, where all earlier pairs are joined by matched paths
part_of : (sys : System) (lattice f v : ℕ) (rows : List Summary) (why : Reason)
    → ((x y : ℕ) → HasPair rows x y → Match sys lattice x y) →
    owner_of sys v ≡ Function f → EndsAt sys lattice rows why v → Part sys lattice f (before_of why) v
part_of sys lattice f v rows (Last edge before) early o st = flow f before v edge st o
part_of sys lattice f v rows (Group before enter leave) early o h =
    let inside = h.5 in
    group f before h.1 h.2 v h.0 inside.0 enter leave h.3
    (leads_matches sys lattice inside.0 h.1 h.2 rows early inside.1 h.4) h.6 o

-- a pair of the front of a list stands at an earlier place
early_place : (rows : List Summary) (n : ℕ) (row : Summary) → Contains (take n rows) row
    → (k : ℕ) × (k < n) × (slice_get rows k ≡ Some row)
early_place rows n row there =
    let few = there.1 in
    let size = length-take n rows in
    let lt : there.0 < n = omega (arith, few, size) in
    let within : there.0 < length rows = omega (arith, few, size) in (
      there.0,
      lt,
      slice_get-get_or rows there.0 row within
          ∙ ap (λ (x : Summary). Some x) (sym (get_or-take n rows there.0 row lt) ∙ there.2),
    )

-- in a grounded list each summary before a bound is joined by a matched path
grounded_match : (sys : System) (lattice : ℕ) (rows : List Summary) → IsGrounded sys lattice rows
    → (bound n : ℕ) (row : Summary) → n < bound →
    slice_get rows n ≡ Some row → Match sys lattice row.from row.to
grounded_match sys lattice rows grounded zero n row lt is = absurd (omega arith)
grounded_match sys lattice rows grounded (suc bound) n row lt is =
    let r = grounded n row is in
    let f = r.inside.0 in
    let early = λ (x y : ℕ) (pair : HasPair (take n rows) x y).
    let place = early_place rows n (record { from = x; to = y; why = pair.0 }) pair.1 in
    let less = place.1 in
    grounded_match sys lattice rows grounded bound place.0 (record { from = x; to = y; why = pair.0 })
    (omega arith) place.2 in (
      f,
      before_of row.why,
      leads_matches sys lattice f row.from (before_of row.why) (take n rows) early r.inside.1 r.front,
      part_of sys lattice f row.to (take n rows) row.why early r.inside.2 r.part,
    )

-- the variables of each pair of a good list are joined by a matched path
pub good_match : (sys : System) (lattice : ℕ) (marks : List Bool) (rows : List Summary) → IsGood sys lattice marks rows
    → (u v : ℕ) → HasPair rows u v → Match sys lattice u v
good_match sys lattice marks rows good u v pair =
    let there = pair.1 in
    grounded_match sys lattice rows good.grounded (suc there.0) there.0
    (record { from = u; to = v; why = pair.0 }) (omega arith)
    (slice_get-get_or rows there.0 _ there.1 ∙ ap (λ (x : Summary). Some x) there.2)

-- a path to another part begins below each number that the variables of constraints are below
flow_from : (sys : System) (lattice vars n x v : ℕ) → AllBelow sys vars → Stands sys lattice n (Le x v) → x < vars
flow_from sys lattice vars n x v below st =
    let le = below n (Le x v) (record { constraint = st.constraint; there = st.there; link_is = st.link_is }) in
    omega (arith, le)

enter_from : (sys : System) (lattice vars n s x a : ℕ) → AllBelow sys vars → Stands sys lattice n (Enter s x a)
    → x < vars
enter_from sys lattice vars n s x a below st =
    let le = below n (Enter s x a) (record { constraint = st.constraint; there = st.there; link_is = st.link_is }) in
    omega (arith, le)

part_from : (sys : System) (lattice vars f x v : ℕ) → AllBelow sys vars → Part sys lattice f x v → x < vars
part_from sys lattice vars f x v below (flow _ _ _ n st o) = flow_from sys lattice vars n x v below st
part_from sys lattice vars f x v below (group _ _ a b _ s g n m st p st2 o) =
    enter_from sys lattice vars n s x a below st

path_from : (sys : System) (lattice vars f u x v : ℕ) → AllBelow sys vars → Matches sys lattice f u x
    → Part sys lattice f x v → u < vars
path_from sys lattice vars f u x v below (stay _ _ o) part = part_from sys lattice vars f u v below part
path_from sys lattice vars f u x v below (longer _ _ y _ m p) part = path_from sys lattice vars f u y x below m p

module _ (sys : System) (lattice : ℕ) (marks : List Bool) (rows : List Summary)
    (marked : (a : ℕ) → IsInnerEnd sys lattice a → IsMarked marks a)
    (closed : IsClosed sys lattice marks rows) where
  mutual
    matches_lead : (f u x : ℕ) → IsMarked marks u → Matches sys lattice f u x → Leads rows u x
    matches_lead f u x begins (stay _ _ o) = inl refl
    matches_lead f u x begins (longer _ _ y _ m p) =
        inr (part_leads f u y x begins (matches_begin sys lattice f u y m) (matches_lead f u y begins m) p)

    part_leads : (f u y x : ℕ) → IsMarked marks u → owner_of sys u ≡ Function f → Leads rows u y
        → Part sys lattice f y x → HasPair rows u x
    part_leads f u y x begins owned front (flow _ _ _ n st o) = closed.flow n u y x begins front st (f, owned, o)
    part_leads f u y x begins owned front (group _ _ a b _ s g n m st p st2 o) =
        closed.group n m s u y a b x begins front st (inr (matches_lead g a b (marked a (n, s, y, st)) p))
        (g, matches_begin sys lattice g a b p, matches_end sys lattice g a b p) st2
        (f, owned, o)

  closed_whole : (u v : ℕ) → IsMarked marks u → Match sys lattice u v → HasPair rows u v
  closed_whole u v begins path =
      part_leads path.0 u path.1 v begins (matches_begin sys lattice path.0 u path.1 path.2)
      (matches_lead path.0 u path.1 begins path.2) path.3

  closed_summarises : IsGood sys lattice marks rows → Summarises sys lattice rows
  closed_summarises good = record {
    sound = good_match sys lattice marks rows good;
    whole = λ u v inner. closed_whole u v (marked u inner);
    grounded = good.grounded;
    once = good.once;
  }

  -- from inner ends and the starts, where these are what is marked of the variables of the system
  pub closed_from : (starts : List ℕ) (vars : ℕ) → AllBelow sys vars
      → ((a : ℕ) → IsMarked marks a → IsStart sys lattice starts a) →
      ((a : ℕ) → Contains starts a → a < vars → IsMarked marks a) → IsGood sys lattice marks rows
      → SummarisesFrom sys lattice starts rows
  closed_from starts vars below only all good = record {
    summaries = closed_summarises good;
    begins = λ u v pair. only u (good.begins u v pair);
    whole = λ u v start path. elim start [
      | inl inner ↦ closed_whole u v (marked u inner) path
      | inr given ↦
          closed_whole u v (all u given (path_from sys lattice vars path.0 u path.1 v below path.2 path.3)) path
    ];
  }
