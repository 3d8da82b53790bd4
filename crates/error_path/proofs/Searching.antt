-- How a search grows, and what stays true of it.
use Rattle.std.proofs.Common.{◌≡◌, ◌≢◌, ℕ, zero, suc, ◌<◌, ◌≤◌, List, [], ◌∷◌, ◌++◌, length, slice_get, Option, Some, inl, inr, ◌⊎◌, true, false, refl, sym, ◌∙◌, ap, subst, arith, append_assoc, append-nil}
use Rattle.std.proofs.lemmas.Option.{slice_get_within}
use Rattle.flow_graph.specs.declared.constraint.Constraint.{Constraint}
use Rattle.std.proofs.lemmas.Bool.{cases_eq}
use Rattle.std.proofs.lemmas.List.{length-append}
use Rattle.qual_base.specs.declared.places.Owner.{Owner}
use Rattle.qual_base.specs.declared.places.Owner.TheVariants.{Nobody, Function}
use Rattle.qual_base.proofs.Lists.{get_left, push_last}
use Rattle.flow_graph.specs.declared.constraint.Link.{Link}
use Rattle.flow_graph.specs.declared.constraint.Link.TheVariants.{Le, Enter, Leave}
use Rattle.flow_graph.specs.Index.{IsKeyed}
use Rattle.flow_graph.specs.PathRules.{link_begins}
use Rattle.flow_graph.specs.System.{System, owner_of, AllBelow, IsInLattice, Stands, vars_of_link}
use Rattle.flow_graph.specs.Leading.{Goes, Begins, Flows, Returns, Enters, Rounds}
use Rattle.flow_graph.specs.Paths.{Matches, stay, longer, Returning, Calling, Lead, start, flows, returns, grouped, anew, calls, calls_on, flows_on, grouped_on}
use Rattle.match_summary.specs.declared.reason.Summary.{Summary}
use Rattle.match_summary.specs.Summary.{Leads, IsInnerEnd, Summarises}
use Rattle.flow_graph.specs.declared.phase.Phase.{Phase}
use Rattle.flow_graph.specs.declared.phase.Phase.TheVariants.{First, Second}
use Rattle.error_path.specs.Marks.{PhaseMarks, mark_of, size_of}
use Rattle.error_path.specs.declared.search.Cause.{Cause}
use Rattle.error_path.specs.declared.search.Cause.TheVariants.{Start, Here, Step, Group}
use Rattle.error_path.specs.declared.search.Origin.{Origin}
use Rattle.error_path.specs.declared.search.Origin.TheVariants.{Element, Variable}
use Rattle.error_path.specs.declared.search.Reached.{Reached}
use Rattle.error_path.specs.declared.search.Search.{Search}
use Rattle.flow_graph.specs.Parts.{settled}
use Rattle.flow_graph.proofs.Links.{some_constraint}
use Rattle.match_summary.proofs.Growth.{push_cases}
use Rattle.error_path.specs.Reaches.{HasAll, IsIn}
use Rattle.error_path.specs.Reaching.{Earlier, LeadsBy, ComesBy, AreSound, IsMarked, IsListed, IsGood, Grows, IsFollowed, IsRounded, IsVisited, AreStarted, StandsAt}

pub grows_same : (s : Search) → Grows s s
grows_same s =
    record { more = []; is = sym (append-nil s.queue.items); kept = λ p v m. m; size = refl; free = omega arith }

-- a search that grows twice has grown
pub grows_then : (a b c : Search) → Grows a b → Grows b c → Grows a c
grows_then a b c p q = record {
  more = p.more ++ q.more;
  is = q.is ∙ ap (λ xs. xs ++ q.more) p.is ∙ append_assoc a.queue.items p.more q.more;
  kept = λ f v m. q.kept f v (p.kept f v m);
  size = q.size ∙ p.size;
  free = omega (arith, p.free, q.free);
}

pub stands_on : (old new : Search) (place : ℕ) (p : Phase) (v : ℕ) → Grows old new → StandsAt old place p v
    → StandsAt new place p v
stands_on old new place p v g s =
    (s.0, ap (λ xs. slice_get xs place) g.is ∙ get_left old.queue.items g.more place s.0 s.1, s.2, s.3)

pub below_on : (sys : System) (old new : Search) → Grows old new → AllBelow sys (size_of old.marks)
    → AllBelow sys (size_of new.marks)
below_on sys old new g all = subst (λ k. AllBelow sys k) (sym g.size) all

-- a constraint that was followed stays followed while the search grows
pub followed_on : (sys : System) (lattice : ℕ) (rows : List Summary) (old new : Search) (p : Phase) (u n : ℕ)
    → Grows old new → IsFollowed sys lattice rows old p u n → IsFollowed sys lattice rows new p u n
followed_on sys lattice rows old new p u n g f = record {
  flow = λ v st. g.kept _ v (f.flow v st);
  back = λ s v first st. g.kept _ v (f.back s v first st);
  call = λ s a st. g.kept _ a (f.call s a st);
  group = λ s a m st b v ts leads. g.kept _ v (f.group s a m st b v ts leads);
}

abbrev earlier_more : (queue more : List Reached) (from place : ℕ) → Earlier queue from place
    → Earlier (queue ++ more) from place
earlier_more queue more from place e =
    record { it = e.it; there = get_left queue more from e.it e.there; before = e.before }

-- how a variable was reached stays so when more items come behind in the queue
comes_more : (sys : System) (lattice : ℕ) (origin : Origin) (rows : List Summary) (queue more : List Reached)
    (place : ℕ) (q : Phase) (v : ℕ) (cause : Cause) →
    ComesBy sys lattice origin rows queue place q v cause
    → ComesBy sys lattice origin rows (queue ++ more) place q v cause
comes_more sys lattice origin rows queue more place q v (Start n) h = h
comes_more sys lattice origin rows queue more place q v Here h = h
comes_more sys lattice origin rows queue more place q v (Step from n) h = (earlier_more queue more from place h.0, h.1)
comes_more sys lattice origin rows queue more place q v (Group from enter leave) h =
    (earlier_more queue more from place h.0, h.1)

-- one more item
pub sound_push : (sys : System) (lattice : ℕ) (origin : Origin) (rows : List Summary)
    (queue : List Reached) (r : Reached)
    → AreSound sys lattice origin rows queue →
    ComesBy sys lattice origin rows queue (length queue) r.phase r.at r.cause
    → AreSound sys lattice origin rows (queue ++ r ∷ [])
sound_push sys lattice origin rows queue r sound comes n other is = elim (push_cases queue r n other is) [
  | inl old ↦ comes_more sys lattice origin rows queue (r ∷ []) n other.phase other.at other.cause (sound n other old.1)
  | inr new ↦
      let Comes : ℕ → Reached → Type 0 =
      λ k x. ComesBy sys lattice origin rows (queue ++ r ∷ []) k x.phase x.at x.cause in
      let At : ℕ → Type 0 = λ k. Comes k r in
      let Of : Reached → Type 0 = λ x. Comes n x in
      subst Of new.1 (subst At (sym new.0)
      (comes_more sys lattice origin rows queue (r ∷ []) (length queue) r.phase r.at r.cause comes))
]

-- two phases are equal or they are not
same_phase : (p q : Phase) → (p ≡ q) ⊎ (p ≢ q)
same_phase First First = inl refl
same_phase First Second = inr (λ e. absurd cc)
same_phase Second First = inr (λ e. absurd cc)
same_phase Second Second = inl refl

-- a mark is an old one or that of the variable
pub mark_cases : (old new : PhaseMarks) (phase : Phase) (at : ℕ)
    → ((p : Phase) (v : ℕ) → (p ≡ phase → v ≢ at) → mark_of new p v ≡ mark_of old p v) →
    (p : Phase) (v : ℕ) → mark_of new p v ≡ true → (mark_of old p v ≡ true) ⊎ ((phase ≡ p) × (at ≡ v))
mark_cases old new phase at others p v has = elim (same_phase p phase) [
  | inr not ↦ inl (sym (others p v (λ e. absurd (not e))) ∙ has)
  | inl same ↦
      elim (cases_eq v at) [ inr not ↦ inl (sym (others p v (λ e. not)) ∙ has) | inl is ↦ inr (sym same, sym is) ]
]

-- setting one mark leaves every mark that was set
pub mark_kept : (old new : PhaseMarks) (phase : Phase) (at : ℕ) → mark_of new phase at ≡ true →
    ((p : Phase) (v : ℕ) → (p ≡ phase → v ≢ at) → mark_of new p v ≡ mark_of old p v) → (p : Phase) (v : ℕ)
    → mark_of old p v ≡ true → mark_of new p v ≡ true
mark_kept old new phase at here others p v has = elim (same_phase p phase) [
  | inr not ↦ others p v (λ e. absurd (not e)) ∙ has
  | inl same ↦ elim (cases_eq v at) [
    | inr not ↦ others p v (λ e. not) ∙ has
    | inl is ↦ subst (λ q. mark_of new q v ≡ true) (sym same) (subst (λ w. mark_of new phase w ≡ true) (sym is) here)
  ]
]

-- a queue that had all that was marked has all still when the one variable that is newly marked comes behind
pub listed_push : (old new : PhaseMarks) (queue : List Reached) (r : Reached) →
    ((p : Phase) (v : ℕ) → mark_of new p v ≡ true → (mark_of old p v ≡ true) ⊎ ((r.phase ≡ p) × (r.at ≡ v))) →
    ((p : Phase) (v : ℕ) → mark_of old p v ≡ true → IsListed queue p v) → (p : Phase) (v : ℕ) → mark_of new p v ≡ true
    → IsListed (queue ++ r ∷ []) p v
listed_push old new queue r cases listed p v has = elim (cases p v has) [
  | inl before ↦ let l = listed p v before in record {
    place = l.place;
    it = l.it;
    there = get_left queue (r ∷ []) l.place l.it l.there;
    phase_is = l.phase_is;
    at_is = l.at_is;
  }
  | inr here ↦ record { place = length queue; it = r; there = push_last queue r; phase_is = here.0; at_is = here.1 }
]

-- what is marked at the start stays so
pub started_on : (sys : System) (lattice : ℕ) (origin : Origin) (old new : Search) → Grows old new
    → AreStarted sys lattice origin old → AreStarted sys lattice origin new
started_on sys lattice (Element e) old new g started = λ n v st. g.kept _ v (started n v st)
started_on sys lattice (Variable v) old new g started = g.kept _ v started

-- a search that went on from each of its places has reached all that is led to
module _ (sys : System) (lattice : ℕ) (rows : List Summary) (search : Search) (whole : Summarises sys lattice rows)
    (listed : (p : Phase) (v : ℕ) → IsMarked search p v
    → IsListed search.queue.items p v) (visited : (place : ℕ) → IsVisited sys lattice rows search place) where
  matches_leads : (g a b : ℕ) → IsInnerEnd sys lattice a → Matches sys lattice g a b → Leads rows a b
  matches_leads g a b inner (stay _ _ o) = inl refl
  matches_leads g a b inner (longer _ _ x _ m p) = inr (whole.whole a b inner (g, x, m, p))

  from_mark : (p : Phase) (u : ℕ) → IsMarked search p u → (n : ℕ) → IsFollowed sys lattice rows search p u n
  from_mark p u mark n =
      let l = listed p u mark in
      let Of : Phase → Type 0 = λ q. IsFollowed sys lattice rows search q u n in
      let At : ℕ → Type 0 = λ w. IsFollowed sys lattice rows search l.it.phase w n in
      subst Of l.phase_is (subst At l.at_is (visited l.place l.it l.there n))

  -- the first phase is settled at each variable
  settled_first : (v : ℕ) → IsMarked search (settled (owner_of sys v) First) v → IsMarked search First v
  settled_first v mark = subst (λ p. IsMarked search p v) (first_is (owner_of sys v)) mark
    where
      first_is : (o : Owner) → settled o First ≡ First
      first_is Nobody = refl
      first_is (Function f) = refl

  -- what a path with an open call leads to is marked in the second phase where the variable is a function's, or in the
  -- first
  abbrev IsCalled : ℕ → Type 0
  IsCalled v = IsMarked search First v ⊎ IsMarked search (settled (owner_of sys v) Second) v

  either_phase : (o : Owner) (v : ℕ) → IsMarked search (settled o Second) v
      → IsMarked search First v ⊎ IsMarked search Second v
  either_phase Nobody v mark = inl mark
  either_phase (Function f) v mark = inr mark

  called_in : (v : ℕ) → IsCalled v → IsMarked search First v ⊎ IsMarked search Second v
  called_in v (inl mark) = inl mark
  called_in v (inr mark) = either_phase (owner_of sys v) v mark

  anew_in : (v : ℕ) → owner_of sys v ≡ Nobody → IsCalled v → IsMarked search First v
  anew_in v nobody (inl mark) = mark
  anew_in v nobody (inr mark) =
      let Settled : Owner → Type 0 = λ o. IsMarked search (settled o Second) v in
      subst Settled nobody mark

  module _ (e : ℕ) (begun : AreStarted sys lattice (Element e) search) where
    mutual
      returning_in : (v : ℕ) → Returning sys lattice e v → IsMarked search First v
      returning_in v (start _ n st) = settled_first v (begun n v st)
      returning_in v (flows u _ n p st) = settled_first v ((from_mark First u (returning_in u p) n).flow v st)
      returning_in v (returns u _ s n p st) =
          settled_first v ((from_mark First u (returning_in u p) n).back s v refl st)
      returning_in v (grouped u a b _ s g n m p st q ts) =
          settled_first v
          ((from_mark First u (returning_in u p) n).group s a m st b v ts (matches_leads g a b (n, s, u, st) q))
      returning_in v (anew _ p is) = anew_in v is (calling_in v p)

      calling_in : (v : ℕ) → Calling sys lattice e v → IsCalled v
      calling_in v (calls u _ s n p st) = inr ((from_mark First u (returning_in u p) n).call s v st)
      calling_in v (calls_on u _ s n p st) = elim (called_in u (calling_in u p)) [
        | inl mark ↦ inr ((from_mark First u mark n).call s v st)
        | inr mark ↦ inr ((from_mark Second u mark n).call s v st)
      ]
      calling_in v (flows_on u _ n p st) = elim (called_in u (calling_in u p)) [
        | inl mark ↦ inl (settled_first v ((from_mark First u mark n).flow v st))
        | inr mark ↦ inr ((from_mark Second u mark n).flow v st)
      ]
      calling_in v (grouped_on u a b _ s g n m p st q ts) = elim (called_in u (calling_in u p)) [
        | inl mark ↦ inl
            (settled_first v ((from_mark First u mark n).group s a m st b v ts (matches_leads g a b (n, s, u, st) q)))
        | inr mark ↦ inr ((from_mark Second u mark n).group s a m st b v ts (matches_leads g a b (n, s, u, st) q))
      ]

    lead_marked : (v : ℕ) → Lead sys lattice e v → IsMarked search First v ⊎ IsMarked search Second v
    lead_marked v (inl p) = inl (returning_in v p)
    lead_marked v (inr p) = called_in v (calling_in v p)

  module _ (start : ℕ) (begun : AreStarted sys lattice (Variable start) search) where
    goes_in : (p : Phase) (v : ℕ) → Goes sys lattice start p v → IsMarked search p v
    goes_in _ _ Begins = settled_first start begun
    goes_in _ v (Flows p u _ n q is on st) =
        subst (λ f. IsMarked search f v) (sym is) ((from_mark p u (goes_in p u on) n).flow v st)
    goes_in _ v (Returns u _ s n on st) = settled_first v ((from_mark First u (goes_in First u on) n).back s v refl st)
    goes_in _ v (Enters p u _ s n q is on st) =
        subst (λ f. IsMarked search f v) (sym is) ((from_mark p u (goes_in p u on) n).call s v st)
    goes_in _ v (Rounds p u a b _ s g n m q is on st inside ts) =
        subst (λ f. IsMarked search f v) (sym is)
        ((from_mark p u (goes_in p u on) n).group s a m st b v ts (matches_leads g a b (n, s, u, st) inside))

  listed_in : (p : Phase) (v : ℕ) → IsMarked search p v → IsIn search.queue.items v
  listed_in p v mark = let l = listed p v mark in (l.place, (l.it, l.there, l.at_is))

  all_in : (origin : Origin) → AreStarted sys lattice origin search → HasAll sys lattice origin search.queue.items
  all_in (Element e) begun = λ v lead.
      elim (lead_marked e begun v lead) [ inl mark ↦ listed_in First v mark | inr mark ↦ listed_in Second v mark ]
  all_in (Variable u) begun = λ v goes. listed_in goes.0 v (goes_in u begun goes.0 v goes.1)

pub leads_in : (sys : System) (lattice : ℕ) (origin : Origin) (rows : List Summary) (search : Search)
    → Summarises sys lattice rows → IsGood sys lattice origin rows search →
    AreStarted sys lattice origin search → ((place : ℕ) → IsVisited sys lattice rows search place)
    → HasAll sys lattice origin search.queue.items
leads_in sys lattice origin rows search whole good begun visited =
    all_in sys lattice rows search whole good.listed visited origin begun

-- at the start nothing is marked, and nothing stands in the queue
pub unmarked : (marks : PhaseMarks) (p : Phase) (v : ℕ) → mark_of marks p v ≡ false → mark_of marks p v ≡ true → ⊥
unmarked marks p v none mark = let no : false ≡ true = sym none ∙ mark in cc

-- nothing stands at a place of an empty queue
pub nothing_at : (queue : List Reached) (n : ℕ) (r : Reached) → queue ≡ [] → slice_get queue n ≡ Some r → ⊥
nothing_at queue n r none is =
    let none_at : slice_get [] n ≡ Some r = subst (λ (xs : List Reached). slice_get xs n ≡ Some r) none is in
    cc

-- what comes from a place of the queue
module _ (sys : System) (lattice : ℕ) (origin : Origin) (rows : List Summary) (search : Search) (place : ℕ) (p : Phase)
    (u : ℕ) (front : StandsAt search place p u) where
  abbrev from_front : Earlier search.queue.items place (length search.queue.items)
  from_front =
      record { it = front.0; there = front.1; before = slice_get_within search.queue.items place front.0 front.1 }

  pub comes_step : (n : ℕ) (q : Phase) (v : ℕ) → LeadsBy sys lattice n p u q v
      → ComesBy sys lattice origin rows search.queue.items (length search.queue.items) q v (Step place n)
  comes_step n q v leads =
      let Of : Phase → Type 0 = λ f. LeadsBy sys lattice n f front.0.at q v in
      let At : ℕ → Type 0 = λ w. LeadsBy sys lattice n p w q v in
      (from_front, subst Of (sym front.2) (subst At (sym front.3) leads))

  pub comes_around : (enter leave site inner last v : ℕ) → Stands sys lattice enter (Enter site u inner)
      → Stands sys lattice leave (Leave site last v) → Leads rows inner last →
      ComesBy sys lattice origin rows search.queue.items (length search.queue.items) (settled (owner_of sys v) p) v
      (Group place enter leave)
  comes_around enter leave site inner last v st ts joined =
      let At : ℕ → Type 0 = λ w. Stands sys lattice enter (Enter site w inner) in (
        from_front,
        record {
          site = site;
          inner = inner;
          last = last;
          enters = subst At (sym front.3) st;
          leaves = ts;
          joined = joined;
          phase_is = ap (settled (owner_of sys v)) (sym front.2);
        },
      )

module _ (sys : System) (lattice n : ℕ) (constraint : Constraint) (link : Link)
    (there : slice_get sys.constraints n ≡ Some constraint) (is : constraint.link ≡ link) where
  pub stands_in : IsInLattice lattice constraint.link constraint.lattices → Stands sys lattice n link
  stands_in carried = record {
    constraint = constraint;
    there = there;
    link_is = is;
    carried = subst (λ l. IsInLattice lattice l constraint.lattices) is carried;
  }

  pub low_of : (vars : ℕ) → AllBelow sys vars → vars_of_link link ≤ vars
  low_of vars below = below n link (record { constraint = constraint; there = there; link_is = is })

  -- a constraint with a key has it by its link
  pub key_of_link : (key : Link → Option ℕ) (k : ℕ) → IsKeyed sys key k n → key link ≡ Some k
  key_of_link key k keyed =
      let same : keyed.constraint ≡ constraint = some_constraint (sym keyed.there ∙ there) in
      sym (ap (λ (c : Constraint). key c.link) same ∙ ap key is) ∙ keyed.keyed

  -- a constraint is one link
  pub one_link : (other : Link) → Stands sys lattice n other → link ≡ other
  one_link other st =
      let same : constraint ≡ st.constraint = cc in
      sym is ∙ ap (λ (c : Constraint). c.link) same ∙ st.link_is

-- a constraint that does not begin at the variable leads nowhere from it
pub followed_elsewhere : (sys : System) (lattice : ℕ) (rows : List Summary) (search : Search) (p : Phase) (u n : ℕ) →
    (IsKeyed sys link_begins u n → IsFollowed sys lattice rows search p u n) → IsFollowed sys lattice rows search p u n
followed_elsewhere sys lattice rows search p u n followed = record {
  flow = λ v st. (followed (record {
    constraint = st.constraint;
    there = st.there;
    keyed = subst (λ l. link_begins l ≡ Some u) (sym st.link_is) refl;
  })).flow v st;
  back = λ s v first st. (followed (record {
    constraint = st.constraint;
    there = st.there;
    keyed = subst (λ l. link_begins l ≡ Some u) (sym st.link_is) refl;
  })).back s v first st;
  call = λ s a st. (followed (record {
    constraint = st.constraint;
    there = st.there;
    keyed = subst (λ l. link_begins l ≡ Some u) (sym st.link_is) refl;
  })).call s a st;
  group = λ s a m st. (followed (record {
    constraint = st.constraint;
    there = st.there;
    keyed = subst (λ l. link_begins l ≡ Some u) (sym st.link_is) refl;
  })).group s a m st;
}

-- an item at a place below the old length of a queue is an item of the old queue
old_item : (queue more : List Reached) (n : ℕ) (r : Reached) → n < length queue → slice_get (queue ++ more) n ≡ Some r
    → slice_get queue n ≡ Some r
old_item [] more n r within is = absurd (omega (arith, within))
old_item (x ∷ queue) more zero r within is = is
old_item (x ∷ queue) more (suc n) r within is = old_item queue more n r (omega (arith, within)) is

-- a place of a queue that has not grown past it
pub visited_on : (sys : System) (lattice : ℕ) (rows : List Summary) (old new : Search) (place : ℕ) → Grows old new
    → place < length old.queue.items →
    IsVisited sys lattice rows old place → IsVisited sys lattice rows new place
visited_on sys lattice rows old new place g within v r is n =
    let item : slice_get old.queue.items place ≡ Some r =
    old_item old.queue.items g.more place r within (sym (ap (λ xs. slice_get xs place) g.is) ∙ is) in
    followed_on sys lattice rows old new r.phase r.at n g (v r item n)

-- an `Enter` is followed once its variable is marked in the second phase and all its groups were followed
pub enter_followed : (sys : System) (lattice : ℕ) (rows : List Summary) (search : Search) (p : Phase) (n : ℕ)
    (constraint : Constraint) (s u a w : ℕ) →
    slice_get sys.constraints n ≡ Some constraint → constraint.link ≡ Enter s u a
    → IsMarked search (settled (owner_of sys a) Second) a →
    ((m : ℕ) → IsRounded sys lattice rows search p s a m) → IsFollowed sys lattice rows search p w n
enter_followed sys lattice rows search p n constraint s u a w there is mark groups = record {
  flow = λ v st. let e = one_link sys lattice n constraint (Enter s u a) there is (Le w v) st in absurd cc;
  back = λ t v first st. let e = one_link sys lattice n constraint (Enter s u a) there is (Leave t w v) st in absurd cc;
  call = λ t b st.
      let e = one_link sys lattice n constraint (Enter s u a) there is (Enter t w b) st in
      let same : a ≡ b = cc in subst (λ x. IsMarked search (settled (owner_of sys x) Second) x) same mark;
  group = λ t b m st.
      let e = one_link sys lattice n constraint (Enter s u a) there is (Enter t w b) st in
      let site : s ≡ t = cc in
      let inner : a ≡ b = cc in
      subst (λ x. IsRounded sys lattice rows search p x b m) site
      (subst (λ x. IsRounded sys lattice rows search p s x m) inner (groups m));
}

some_reached : {x y : Reached} → Some x ≡ Some y → x ≡ y
some_reached e = cc

-- a place is visited where each constraint was followed from its variable in its phase
pub visited_here : (sys : System) (lattice : ℕ) (rows : List Summary) (old new : Search) (place : ℕ) (p : Phase) (u : ℕ)
    → Grows old new → StandsAt old place p u →
    ((n : ℕ) → IsFollowed sys lattice rows new p u n) → IsVisited sys lattice rows new place
visited_here sys lattice rows old new place p u g s done r is n =
    let within = slice_get_within old.queue.items place s.0 s.1 in
    let item : slice_get old.queue.items place ≡ Some r =
    old_item old.queue.items g.more place r within (sym (ap (λ xs. slice_get xs place) g.is) ∙ is) in
    let same : s.0 ≡ r = some_reached (sym s.1 ∙ item) in
    let Of : Phase → Type 0 = λ q. IsFollowed sys lattice rows new q r.at n in
    let At : ℕ → Type 0 = λ w. IsFollowed sys lattice rows new p w n in
    subst Of (sym s.2 ∙ ap (λ (x : Reached). x.phase) same)
    (subst At (sym s.3 ∙ ap (λ (x : Reached). x.at) same) (done n))

-- a search that grows has a queue that is at least as long
pub grows_length : (old new : Search) → Grows old new → length old.queue.items ≤ length new.queue.items
grows_length old new g =
    let size = length-append old.queue.items g.more in
    let is = ap length g.is in
    omega (arith, size, is)
