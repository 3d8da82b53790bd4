-- The parts of a path that fails no rule, one behind the other.
use Rattle.std.proofs.Common.{◌≡◌, ℕ, Bool, true, false, not, ◌&&◌, List, [], ◌∷◌, ◌++◌, map, Option, Some, None, refl, sym, ◌∙◌, ap, subst, ◌⊎◌, inl, slice_get}
use Rattle.std.proofs.lemmas.Bool.{not-false, or_parts}
use Rattle.qual_base.specs.declared.places.Span.{Span}
use Rattle.qual_base.specs.declared.places.Owner.TheVariants.{Function}
use Rattle.qual_base.proofs.Tests.{and_false}
use Rattle.lattice_core.specs.Order.{Order, leq}
use Rattle.flow_graph.specs.declared.constraint.Constraint.{Constraint}
use Rattle.flow_graph.specs.declared.constraint.Link.{Link}
use Rattle.flow_graph.specs.declared.constraint.Link.TheVariants.{Le, Const, Bound, Enter, Leave}
use Rattle.flow_graph.specs.declared.proof.PathStep.{PathStep}
use Rattle.flow_graph.specs.declared.proof.PathStep.TheVariants.{Take, Sub as SubStep}
use Rattle.flow_graph.specs.declared.step.Seen.{Seen}
use Rattle.flow_graph.specs.declared.step.Seen.TheVariants.{Edge, Through, NoSub, NoEdge}
use Rattle.flow_graph.specs.declared.step.Path.{Path}
use Rattle.flow_graph.specs.System.{System, owner_of, Stands}
use Rattle.flow_graph.specs.PathRules.{begins, ends, is_sub, is_bound, leaves, is_main, is_there, holds_of, agree, end_of, site_entered, begins_group, is_after_sub, fails_b3, follows_bound, lacks, is_foreign_link, is_outside, is_unmatched_enter, rule_at}
use Rattle.flow_graph.specs.PathProofs.{is_nobodys, stays_in_call, edge_or, look, first_of, second_of, in_call_at, first_failing, line_of}
use Rattle.flow_laws.specs.PathForms.{without_line, without_lines}
use Rattle.flow_laws.proofs.Clear.{Clear, clear}
use Rattle.flow_laws.proofs.Places.{agree_is, eq_is, edge, in_lattice, owned_is, here, joins, unmatched, not_unmatched, unmatched_back, main_enters, main_leaves, no_call, main_bound, no_start, loose, stays_le, stays_leave, stays_through, split_group}
use Rattle.flow_laws.proofs.Runs.{no_fault, last_seen}

-- whether a call is open behind a variable, where one was
abbrev pub settle : System → ℕ → Bool → Bool
settle sys v c = not (is_nobodys (owner_of sys v)) && c

-- functions own both ends of a sub-path
abbrev pub AreOwned : System → Seen → Type 0
AreOwned sys (Edge c) = Unit {0}
AreOwned sys (Through a b) = (f : ℕ) × (g : ℕ) × (owner_of sys a ≡ Function f) × (owner_of sys b ≡ Function g)
AreOwned sys NoSub = Unit {0}
AreOwned sys NoEdge = Unit {0}

-- what a step names, where the sub-paths are these
abbrev pub Names : System → List (List PathStep) → PathStep → Seen → Type 0
Names sys named (Take n line) seen = edge_or (slice_get sys.constraints n) ≡ seen
Names sys named (SubStep k line) seen = (is_sub seen ≡ true) × (look sys named (SubStep k 0) ≡ seen) × AreOwned sys seen

pub edge_there : (o : Option Constraint) (c : Constraint) → edge_or o ≡ Edge c → o ≡ Some c
edge_there (Some d) c e = cc
edge_there None c e = absurd cc

edge_only : (o : Option Constraint) (a b : ℕ) → edge_or o ≡ Through a b → ⊥
edge_only (Some d) a b e = cc
edge_only None a b e = cc

-- no group goes on with the step to come
abbrev pub NoGroup : Option Seen → Option Seen → Type 0
NoGroup one next =
    (x : Seen) → next ≡ Some x → ((is_sub x && is_there (site_entered one)) ≡ false)
    × (agree (site_entered one) (leaves x) ≡ false)

pub no_site : (one next : Option Seen) → site_entered one ≡ None → NoGroup one next
no_site one next none x is = (rw none (and_false (is_sub x)), rw none refl)

-- `R c v steps` says that steps go on from a variable, with a call open or not. It is so built from parts.
pub record Builds (sys : System) (order : Order) (lattice elem : ℕ) (path : Path) (named : List (List PathStep))
    (R : Bool → ℕ → List PathStep → Type 0) : Type 0 where
  pub flow : (c : Bool) (u v n : ℕ) (rest : List PathStep) → Stands sys lattice n (Le u v)
      → is_foreign_link sys path (Le u v) ≡ false → R (settle sys v c) v rest →
      R c u (Take n 0 ∷ rest)
  pub empty : (c : Bool) (u a v s n m : ℕ) (rest : List PathStep) → Stands sys lattice n (Enter s u a)
      → Stands sys lattice m (Leave s a v) → lacks sys path u ≡ false →
      lacks sys path v ≡ false → R (settle sys v (settle sys a c)) v rest → R c u (Take n 0 ∷ Take m 0 ∷ rest)
  pub full : (c : Bool) (u a b v s n k m : ℕ) (rest : List PathStep) → Stands sys lattice n (Enter s u a)
      → look sys named (SubStep k 0) ≡ Through a b →
      Stands sys lattice m (Leave s b v) → lacks sys path u ≡ false → lacks sys path v ≡ false
      → R (settle sys v c) v rest →
      R c u (Take n 0 ∷ SubStep k 0 ∷ Take m 0 ∷ rest)
  pub call : is_main path ≡ true → (c : Bool) (u v s n : ℕ) (rest : List PathStep) → Stands sys lattice n (Enter s u v)
      → R (settle sys v true) v rest → R c u (Take n 0 ∷ rest)
  pub back : is_main path ≡ true → (u v s n : ℕ) (rest : List PathStep) → Stands sys lattice n (Leave s u v)
      → R (settle sys v false) v rest → R false u (Take n 0 ∷ rest)
  pub bound : is_main path ≡ true → (c : Bool) (v b n : ℕ) → Stands sys lattice n (Bound v lattice b)
      → leq order elem b ≡ false → R c v (Take n 0 ∷ [])

module _ (sys : System) (order : Order) (lattice elem : ℕ) (path : Path) (named : List (List PathStep))
    (R : Bool → ℕ → List PathStep → Type 0)
    (builds : Builds sys order lattice elem path named R) where
  -- The steps of a part that has begun, at the variable where it did, and what is known before a step to come.
  pub data Begun (c : Bool) (two one next : Option Seen) : Bool → ℕ → List PathStep → Type 0 where
    between : (v : ℕ) → (is_main path && not (is_there one)) ≡ false → holds_of one is_bound ≡ false → NoGroup one next
        → holds_of one is_sub ≡ false →
        (end_of one ≡ Some v) ⊎ ((x : Seen) → next ≡ Some x → begins x ≡ Some v) → Begun c two one next c v []
    entered : (held : Bool) (x a s n k : ℕ) (p : Span) → Stands sys lattice n (Enter s x a) → lacks sys path x ≡ false
        → c ≡ settle sys a held →
        one ≡ Some (edge (Enter s x a) k p) → begins_group (edge (Enter s x a) k p) next ≡ true
        → Begun c two one next held x (Take n 0 ∷ [])
    within : (held : Bool) (x a b s n k j : ℕ) (p : Span) → Stands sys lattice n (Enter s x a)
        → lacks sys path x ≡ false → c ≡ held → two ≡ Some (edge (Enter s x a) k p) →
        one ≡ Some (Through a b) → look sys named (SubStep j 0) ≡ Through a b → is_there next ≡ true
        → Begun c two one next held x (Take n 0 ∷ SubStep j 0 ∷ [])
    ended : (held : Bool) (v b n k : ℕ) (p : Span) → Stands sys lattice n (Bound v lattice b)
        → one ≡ Some (edge (Bound v lattice b) k p) → leq order elem b ≡ false →
        is_main path ≡ true → Begun c two one next held v (Take n 0 ∷ [])

  -- one step more, of a part that goes on or a next one
  record Turn (two one : Option Seen) (step : Seen) (next : Option Seen) (c held : Bool) (x : ℕ) (steps : List PathStep)
      (taken : PathStep) : Type 0 where
    is_open : Bool
    var : ℕ
    pending : List PathStep
    begun : Begun (stays_in_call sys (here path lattice elem two one step next c)) one
        (Some step) next is_open var pending
    goes : (rest : List PathStep) → R is_open var (pending ++ rest) → R held x (steps ++ taken ∷ rest)

  -- a part ends with this step
  ends_part : (two one : Option Seen) (step : Seen) (next : Option Seen) (c held : Bool) (x v : ℕ)
      (steps : List PathStep) (taken : PathStep) (to : Bool) →
      stays_in_call sys (here path lattice elem two one step next c) ≡ to → is_bound step ≡ false
      → NoGroup (Some step) next → is_sub step ≡ false → ends step ≡ Some v →
      ((rest : List PathStep) → R to v rest → R held x (steps ++ taken ∷ rest))
      → Turn two one step next c held x steps taken
  ends_part two one step next c held x v steps taken to is unbound none no_sub end goes = record {
    is_open = stays_in_call sys (here path lattice elem two one step next c);
    var = v;
    pending = [];
    begun = between v (and_false (is_main path)) unbound none no_sub (inl end);
    goes = λ rest r. goes rest (subst (λ c. R c v rest) is r);
  }

  at : (l : Link) (k : ℕ) (p : Span) (n : ℕ) → edge_or (slice_get sys.constraints n) ≡ edge l k p
      → is_outside lattice (edge l k p) ≡ false → Stands sys lattice n l
  at l k p n is carried = record {
    constraint = record { link = l; lattices = k; span = p };
    there = edge_there (slice_get sys.constraints n) (record { link = l; lattices = k; span = p }) is;
    link_is = refl;
    carried = in_lattice lattice l k carried;
  }

  -- the step behind a group's Enter, or its sub-path, is a Leave of its site
  leaves_group : (x b s m line : ℕ) (two one next : Option Seen) (c held to : Bool) (steps : List PathStep) (l : Link)
      (k : ℕ) (p : Span) →
      edge_or (slice_get sys.constraints m) ≡ edge l k p
      → Clear sys order (here path lattice elem two one (edge l k p) next c) → leaves (edge l k p) ≡ Some s
      → end_of one ≡ Some b →
      ((v : ℕ) → Stands sys lattice m (Leave s b v) → lacks sys path v ≡ false → (rest : List PathStep)
      → R (settle sys v c) v rest → R held x (steps ++ Take m 0 ∷ rest)) →
      Turn two one (edge l k p) next c held x steps (Take m 0)
  leaves_group x b s m line two one next c held to steps (Leave t u v) k p is clear site from goes =
      let st = at (Leave t u v) k p m is clear.carried in
      let same : t ≡ s = cc in
      let first : b ≡ u =
      joins path lattice elem two one next (edge (Leave t u v) k p) c u b (inl from) refl clear.joined in
      let back : Stands sys lattice m (Leave s b v) =
      subst (λ t. Stands sys lattice m (Leave t b v)) same
      (subst (λ u. Stands sys lattice m (Leave t u v)) (sym first) st) in
      ends_part two one (edge (Leave t u v) k p) next c held x v steps (Take m 0) (settle sys v c)
      (stays_leave path lattice elem sys two one next c t u v k p) refl
      (no_site (Some (edge (Leave t u v) k p)) next refl) refl refl (goes v back clear.own)
  leaves_group x b s m line two one next c held to steps _ k p is clear site from goes = absurd cc

  on_entered : (held : Bool) (x a s n j : ℕ) (q : Span) (two one next : Option Seen) (c : Bool)
      → Stands sys lattice n (Enter s x a) → lacks sys path x ≡ false → c ≡ settle sys a held →
      one ≡ Some (edge (Enter s x a) j q) → (taken : PathStep) (step : Seen)
      → begins_group (edge (Enter s x a) j q) (Some step) ≡ true → Names sys named taken step →
      Clear sys order (here path lattice elem two one step next c)
      → Turn two one step next c held x (Take n 0 ∷ []) (without_line taken)
  unfolding begins_group fails_b3
  on_entered held x a s n j q two one next c st own is_c is (Take m line) (Edge e) group names clear =
      leaves_group x a s m line two one next c held c (Take n 0 ∷ []) e.link e.lattices e.span names clear
      (agree_is s (leaves (Edge e)) group) (ap end_of is)
      (λ v back owns rest r.
      builds.empty held x a v s n m rest st back own owns (subst (λ c. R (settle sys v c) v rest) is_c r))
  on_entered held x a s n j q two one next c st own is_c is (SubStep m line) (Edge e) group names clear =
      absurd (let wrong : false ≡ true = names.0 in cc)
  on_entered held x a s n j q two one next c st own is_c is (Take m line) (Through u v) group names clear =
      absurd (edge_only (slice_get sys.constraints m) u v names)
  on_entered held x a s n j q two one next c st own is_c is (SubStep m line) (Through u v) group names clear =
      let first : a ≡ u =
      joins path lattice elem two one next (Through u v) c u a (inl (ap end_of is)) refl clear.joined in
      let owned = names.2 in
      let inner : is_nobodys (owner_of sys a) ≡ false =
      subst (λ a. is_nobodys (owner_of sys a) ≡ false) (sym first) (owned_is sys u owned.0 owned.2) in
      let still : c ≡ held = is_c ∙ rw inner refl in
      let kept : stays_in_call sys (here path lattice elem two one (Through u v) next c) ≡ held =
      stays_through path lattice elem sys two one next c u v ∙ rw (owned_is sys v owned.1 owned.3) still in
      record {
        is_open = held;
        var = x;
        pending = Take n 0 ∷ SubStep m 0 ∷ [];
        begun = within held x a v s n j m q st own kept is (ap (λ a. Some (Through a v)) (sym first))
            (names.1 ∙ ap (λ a. Through a v) (sym first)) (not-false _ (or_parts _ _ clear.closed).1);
        goes = λ rest r. r;
      }
  on_entered held x a s n j q two one next c st own is_c is taken NoSub group names clear =
      absurd (let wrong : true ≡ false = clear.there in cc)
  on_entered held x a s n j q two one next c st own is_c is taken NoEdge group names clear =
      absurd (let wrong : true ≡ false = clear.known in cc)

  on_within : (held : Bool) (x a b s n k j : ℕ) (q : Span) (two one next : Option Seen) (c : Bool)
      → Stands sys lattice n (Enter s x a) → lacks sys path x ≡ false → c ≡ held →
      two ≡ Some (edge (Enter s x a) k q) → one ≡ Some (Through a b) → look sys named (SubStep j 0) ≡ Through a b
      → (taken : PathStep) (step : Seen) → Names sys named taken step →
      Clear sys order (here path lattice elem two one step next c)
      → Turn two one step next c held x (Take n 0 ∷ SubStep j 0 ∷ []) (without_line taken)
  unfolding fails_b3 is_after_sub
  on_within held x a b s n k j q two one next c st own is_c is was looks (Take m line) (Edge e) names clear =
      let other : agree (Some s) (leaves (Edge e)) ≡ true =
      not-false _ (rw (is, was) at (or_parts (is_after_sub (here path lattice elem two one (Edge e) next c)
      && not (agree (site_entered two) (leaves (Edge e)))) false clear.closed).0) in
      leaves_group x b s m line two one next c held c (Take n 0 ∷ SubStep j 0 ∷ []) e.link e.lattices e.span names clear
      (agree_is s (leaves (Edge e)) other) (ap end_of was)
      (λ v back owns rest r.
      builds.full held x a b v s n j m rest st looks back own owns (subst (λ c. R (settle sys v c) v rest) is_c r))
  on_within held x a b s n k j q two one next c st own is_c is was looks (SubStep m line) (Edge e) names clear =
      absurd (let wrong : false ≡ true = names.0 in cc)
  on_within held x a b s n k j q two one next c st own is_c is was looks taken (Through u v) names clear =
      let other : false ≡ true =
      not-false _ (rw (is, was) at (or_parts (is_after_sub (here path lattice elem two one (Through u v) next c)
      && not (agree (site_entered two) None)) (not (is_there next)) clear.closed).0) in
      absurd cc
  on_within held x a b s n k j q two one next c st own is_c is was looks taken NoSub names clear =
      absurd (let wrong : true ≡ false = clear.there in cc)
  on_within held x a b s n k j q two one next c st own is_c is was looks taken NoEdge names clear =
      absurd (let wrong : true ≡ false = clear.known in cc)

  -- an Enter begins a group, or opens a call
  on_enter : (two one next : Option Seen) (c : Bool) (x s u v n k : ℕ) (p : Span) → x ≡ u → holds_of one is_sub ≡ false
      → Stands sys lattice n (Enter s u v) →
      Clear sys order (here path lattice elem two one (edge (Enter s u v) k p) next c) → (g : Bool)
      → begins_group (edge (Enter s u v) k p) next ≡ g →
      Turn two one (edge (Enter s u v) k p) next c c x [] (Take n 0)
  unfolding is_unmatched_enter
  on_enter two one next c x s u v n k p first no_sub st clear true is =
      let none = not_unmatched path lattice elem two one next c s u v k p is in
      let kept : stays_in_call sys (here path lattice elem two one (edge (Enter s u v) k p) next c) ≡ settle sys v c =
      rw none refl in
      record {
        is_open = c;
        var = u;
        pending = Take n 0 ∷ [];
        begun = entered c u v s n k p st clear.own kept refl is;
        goes = λ rest r. subst (λ x. R c x (Take n 0 ∷ rest)) (sym first) r;
      }
  on_enter two one next c x s u v n k p first no_sub st clear false is =
      let open_is = unmatched path lattice elem two one next c s u v k p is no_sub in
      let opened : stays_in_call sys (here path lattice elem two one (edge (Enter s u v) k p) next c)
      ≡ settle sys v true = rw open_is refl in
      let main = main_enters path lattice elem two one next c (edge (Enter s u v) k p) open_is clear.matched in
      let no_group : NoGroup (Some (edge (Enter s u v) k p)) next =
      λ y next_is.
      let parts = or_parts (is_sub y) (agree (Some s) (leaves y)) (split_group s u v k p next is y next_is) in
      (rw parts.0 refl, parts.1) in
      ends_part two one (edge (Enter s u v) k p) next c c x v [] (Take n 0)
      (settle sys v true) opened refl no_group refl refl
      (λ rest r. subst (λ x. R c x (Take n 0 ∷ rest)) (sym first) (builds.call main c u v s n rest st r))

  on_link : (two one next : Option Seen) (c : Bool) (x n : ℕ) → (is_main path && not (is_there one)) ≡ false
      → holds_of one is_sub ≡ false → (l : Link) (k : ℕ) (p : Span) →
      NoGroup one (Some (edge l k p))
      → (end_of one ≡ Some x) ⊎ ((y : Seen) → Some (edge l k p) ≡ Some y → begins y ≡ Some x) →
      edge_or (slice_get sys.constraints n) ≡ edge l k p
      → Clear sys order (here path lattice elem two one (edge l k p) next c) →
      Turn two one (edge l k p) next c c x [] (Take n 0)
  on_link two one next c x n begun no_sub (Le u v) k p none from names clear =
      let first : x ≡ u = joins path lattice elem two one next (edge (Le u v) k p) c u x from refl clear.joined in
      let st = at (Le u v) k p n names clear.carried in
      ends_part two one (edge (Le u v) k p) next c c x v [] (Take n 0) (settle sys v c)
      (stays_le path lattice elem sys two one next c u v k p) refl
      (no_site (Some (edge (Le u v) k p)) next refl) refl refl
      (λ rest r. subst (λ x. R c x (Take n 0 ∷ rest)) (sym first) (builds.flow c u v n rest st clear.own r))
  on_link two one next c x n begun no_sub (Const l e v) k p none from names clear =
      absurd (no_start path lattice elem two one next c l e v k p begun clear.no_const)
  on_link two one next c x n begun no_sub (Bound u l b) k p none from names clear =
      let first : x ≡ u = joins path lattice elem two one next (edge (Bound u l b) k p) c u x from refl clear.joined in
      let is_named : l ≡ lattice = eq_is l lattice (not-false _ clear.carried) in
      record {
        is_open = c;
        var = u;
        pending = Take n 0 ∷ [];
        begun = ended c u b n k p
            (subst (λ l. Stands sys lattice n (Bound u l b)) is_named (at (Bound u l b) k p n names clear.carried))
            (ap (λ l. Some (edge (Bound u l b) k p)) is_named) clear.over
            (main_bound path lattice elem two one next c u l b k p clear.no_bound);
        goes = λ rest r. subst (λ x. R c x (Take n 0 ∷ rest)) (sym first) r;
      }
  on_link two one next c x n begun no_sub (Enter s u v) k p none from names clear =
      let first : x ≡ u = joins path lattice elem two one next (edge (Enter s u v) k p) c u x from refl clear.joined in
      on_enter two one next c x s u v n k p first no_sub (at (Enter s u v) k p n names clear.carried) clear
      (begins_group (edge (Enter s u v) k p) next) refl
  on_link two one next c x n begun no_sub (Leave s u v) k p none from names clear =
      let first : x ≡ u = joins path lattice elem two one next (edge (Leave s u v) k p) c u x from refl clear.joined in
      let st = at (Leave s u v) k p n names clear.carried in
      let open_is =
      unmatched_back path lattice elem two one next c s u v k p (none (edge (Leave s u v) k p) refl).1 no_sub in
      let main = main_leaves path lattice elem two one next c s u v k p open_is clear.matched in
      let closed : c ≡ false =
      no_call path lattice elem two one next c (edge (Leave s u v) k p) main open_is clear.returned in
      ends_part two one (edge (Leave s u v) k p) next c c x v [] (Take n 0) (settle sys v c)
      (stays_leave path lattice elem sys two one next c s u v k p) refl
      (no_site (Some (edge (Leave s u v) k p)) next refl) refl refl
      (λ rest r. subst (λ x. R c x (Take n 0 ∷ rest)) (sym first) (subst (λ c. R c u (Take n 0 ∷ rest)) (sym closed)
      (builds.back main u v s n rest st (subst (λ c. R (settle sys v c) v rest) closed r))))

  on_between : (two one next : Option Seen) (c : Bool) (x : ℕ) → (is_main path && not (is_there one)) ≡ false
      → (taken : PathStep) (step : Seen) → NoGroup one (Some step) →
      holds_of one is_sub ≡ false → (end_of one ≡ Some x) ⊎ ((y : Seen) → Some step ≡ Some y → begins y ≡ Some x)
      → Names sys named taken step →
      Clear sys order (here path lattice elem two one step next c)
      → Turn two one step next c c x [] (without_line taken)
  on_between two one next c x begun (Take n line) (Edge e) none no_sub from names clear =
      on_link two one next c x n begun no_sub e.link e.lattices e.span none from names clear
  on_between two one next c x begun (SubStep n line) (Edge e) none no_sub from names clear =
      absurd (let wrong : false ≡ true = names.0 in cc)
  on_between two one next c x begun taken (Through u v) none no_sub from names clear =
      absurd (loose path lattice elem two one next c u v (none (Through u v) refl).0 no_sub clear.in_group)
  on_between two one next c x begun taken NoSub none no_sub from names clear =
      absurd (let wrong : true ≡ false = clear.there in cc)
  on_between two one next c x begun taken NoEdge none no_sub from names clear =
      absurd (let wrong : true ≡ false = clear.known in cc)

  after_bound : (two one next : Option Seen) (c : Bool) (step : Seen) (v b k : ℕ) (p : Span)
      → one ≡ Some (edge (Bound v lattice b) k p) →
      follows_bound (here path lattice elem two one step next c) ≡ false → ⊥
  unfolding follows_bound
  after_bound two one next c step v b k p is none = let wrong : true ≡ false = rw is at none in cc

  advance : (two one next : Option Seen) (c held : Bool) (x : ℕ) (steps : List PathStep)
      (taken : PathStep) (step : Seen)
      → Begun c two one (Some step) held x steps →
      Names sys named taken step → rule_at sys order (here path lattice elem two one step next c) ≡ None
      → Turn two one step next c held x steps (without_line taken)
  advance two one next c _ _ _ taken step (between v begun unbound none no_sub from) names passed =
      on_between two one next c v begun taken step none no_sub from names
      (clear sys order (here path lattice elem two one step next c) passed)
  advance two one next c _ _ _ taken step (entered held x a s n j q st own is_c is group) names passed =
      on_entered held x a s n j q two one next c st own is_c is taken step group names
      (clear sys order (here path lattice elem two one step next c) passed)
  advance two one next c _ _ _ taken step (within held x a b s n k j q st own is_c is was looks _) names passed =
      on_within held x a b s n k j q two one next c st own is_c is was looks taken step names
      (clear sys order (here path lattice elem two one step next c) passed)
  advance two one next c _ _ _ taken step (ended held v b n k p st is over _) names passed =
      absurd (after_bound two one next c step v b k p is
      (clear sys order (here path lattice elem two one step next c) passed).before_bound)

  -- steps that end in no part
  abbrev pub Stops : Option Seen → Type 0
  Stops one = (c : Bool) (v : ℕ) → holds_of one is_bound ≡ false → holds_of one is_sub ≡ false → R c v []

  at_end : (two one : Option Seen) (c held : Bool) (x : ℕ) (steps : List PathStep) → Begun c two one None held x steps
      → Stops one → R held x (steps ++ [])
  unfolding begins_group
  at_end two one c _ _ _ (between v begun unbound none no_sub from) stops = stops c v unbound no_sub
  at_end two one c _ _ _ (entered held x a s n j q st own is_c is group) stops = absurd cc
  at_end two one c _ _ _ (within held x a b s n k j q st own is_c is was looks some) stops = absurd cc
  at_end two one c _ _ _ (ended held v b n k p st is over main) stops = builds.bound main held v b n st over

  pub parsed : (see : PathStep → Seen) → ((s : PathStep) → Names sys named s (see s))
      → (before : List Seen) (steps : List PathStep) (held : Bool) (x : ℕ) (pending : List PathStep) →
      Begun (in_call_at sys path lattice elem before (map see steps)) (second_of before) (first_of before)
      (first_of (map see steps)) held x pending →
      first_failing sys order path lattice elem see before steps ≡ None → Stops (last_seen see before steps)
      → R held x (pending ++ without_lines steps)
  parsed see names before [] held x pending begun e stops = at_end _ _ _ held x pending begun stops
  parsed see names before (s ∷ steps) held x pending begun e stops =
      let parts = no_fault _ (line_of s) _ e in
      let turn = advance _ _ _ _ held x pending s (see s) begun (names s) parts.0 in
      turn.goes (without_lines steps)
      (parsed see names (see s ∷ before) steps turn.is_open turn.var turn.pending turn.begun parts.1 stops)
