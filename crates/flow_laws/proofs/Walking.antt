-- Paths of parts fail no rule.
use Rattle.std.proofs.Common.{◌≡◌, ℕ, Bool, true, false, not, ◌&&◌, ◌||◌, List, [], ◌∷◌, ◌++◌, map, slice_get, Option, Some, None, eq-eqb, refl, sym, ◌∙◌, ap, subst, ◌⊎◌, inl, inr}
use Rattle.qual_base.specs.declared.places.Span.{Span}
use Rattle.qual_base.specs.declared.places.Owner.{Owner}
use Rattle.qual_base.specs.declared.places.Owner.TheVariants.{Nobody, Function}
use Rattle.qual_base.proofs.Tests.{and_false}
use Rattle.lattice_core.specs.Order.{Order, leq}
use Rattle.flow_graph.specs.declared.constraint.Link.{Link}
use Rattle.flow_graph.specs.declared.constraint.Link.TheVariants.{Le, Const, Bound, Enter, Leave}
use Rattle.flow_graph.specs.declared.proof.PathStep.{PathStep}
use Rattle.flow_graph.specs.declared.proof.PathStep.TheVariants.{Take, Sub}
use Rattle.flow_graph.specs.declared.proof.BadStep.{BadStep}
use Rattle.flow_graph.specs.declared.proof.Why.{Why}
use Rattle.flow_graph.specs.declared.step.Seen.{Seen}
use Rattle.flow_graph.specs.declared.step.Seen.TheVariants.{Through}
use Rattle.flow_graph.specs.declared.step.Path.{Path}
use Rattle.flow_graph.specs.declared.step.Path.TheVariants.{Main, Sub as SubOf}
use Rattle.flow_graph.specs.System.{System, owner_of, Has, Stands}
use Rattle.flow_graph.specs.PathRules.{rule_at, is_main, begins_group, is_unmatched_enter, is_sub, agree, leaves, lacks, site_entered}
use Rattle.flow_graph.specs.PathProofs.{first_failing, in_path, look, edge_or, first_of, second_of, fault_or, in_call_at, is_nobodys}
use Rattle.flow_graph.specs.declared.phase.Phase.{Phase}
use Rattle.flow_graph.specs.declared.phase.Phase.TheVariants.{First, Second}
use Rattle.flow_graph.specs.Parts.{settled, Part, Flow, Empty, Full, Inside, Done, More, Onward, Goal, ToBound, ToVariable, Ends, There, Along, Back, Into}
use Rattle.flow_laws.proofs.Places.{edge}
use Rattle.flow_laws.proofs.Passing.{Follows, placed, flow_passes, group_passes, sub_passes, left_passes, closed_passes, back_passes, into_passes, bound_passes}

-- what the step of a standing constraint names
pub seen : (sys : System) (lattice n : ℕ) (link : Link) (st : Stands sys lattice n link) →
    edge_or (slice_get sys.constraints n) ≡ edge link st.constraint.lattices st.constraint.span
seen sys lattice n link st = ap edge_or st.there ∙ ap (λ l. edge l st.constraint.lattices st.constraint.span) st.link_is

has : (sys : System) (lattice n : ℕ) (link : Link) → Stands sys lattice n link → Has sys n link
has sys lattice n link st = record { constraint = st.constraint; there = st.there; link_is = st.link_is }

module _ (sys : System) (order : Order) (path : Path) (lattice elem : ℕ) where
  -- no unmatched Enter stands before, with no variable of nobody since
  abbrev pub Quiet : List Seen → Type 0
  Quiet before = (after : List Seen) → in_call_at sys path lattice elem before after ≡ false

  -- a step that ends at a variable, and is no Enter, leaves no call open where none was, or the variable is nobody's
  pub record Arrives (old new : List Seen) (v : ℕ) : Type 0 where
    pub follows : Follows path (first_of new) v
    pub plain : site_entered (first_of new) ≡ None
    pub quiet : Quiet old → Quiet new
    pub anew : is_nobodys (owner_of sys v) ≡ true → Quiet new

  follows_flow : (u v mask : ℕ) (span : Span) → Follows path (Some (edge (Le u v) mask span)) v
  follows_flow u v mask span =
      record { unbound = refl; plain = refl; joined = rw (eq-eqb v v refl) refl; begun = and_false (is_main path) }

  pub follows_leave : (s u v mask : ℕ) (span : Span) → Follows path (Some (edge (Leave s u v) mask span)) v
  follows_leave s u v mask span =
      record { unbound = refl; plain = refl; joined = rw (eq-eqb v v refl) refl; begun = and_false (is_main path) }

  pub follows_enter : (s u v mask : ℕ) (span : Span) → Follows path (Some (edge (Enter s u v) mask span)) v
  follows_enter s u v mask span =
      record { unbound = refl; plain = refl; joined = rw (eq-eqb v v refl) refl; begun = and_false (is_main path) }

  pub follows_const : (l e v mask : ℕ) (span : Span) → Follows path (Some (edge (Const l e v) mask span)) v
  follows_const l e v mask span =
      record { unbound = refl; plain = refl; joined = rw (eq-eqb v v refl) refl; begun = and_false (is_main path) }

  call_flow : (before after : List Seen) (u v mask : ℕ) (span : Span) →
      in_call_at sys path lattice elem (edge (Le u v) mask span ∷ before) after
      ≡ (not (is_nobodys (owner_of sys v)) && in_call_at sys path lattice elem before (edge (Le u v) mask span ∷ after))
  unfolding is_unmatched_enter
  call_flow before after u v mask span = refl

  pub call_leave : (before after : List Seen) (s u v mask : ℕ) (span : Span) →
      in_call_at sys path lattice elem (edge (Leave s u v) mask span ∷ before) after
      ≡ (not (is_nobodys (owner_of sys v))
      && in_call_at sys path lattice elem before (edge (Leave s u v) mask span ∷ after))
  unfolding is_unmatched_enter
  call_leave before after s u v mask span = refl

  pub call_const : (before after : List Seen) (l e v mask : ℕ) (span : Span) →
      in_call_at sys path lattice elem (edge (Const l e v) mask span ∷ before) after
      ≡ (not (is_nobodys (owner_of sys v))
      && in_call_at sys path lattice elem before (edge (Const l e v) mask span ∷ after))
  unfolding is_unmatched_enter
  call_const before after l e v mask span = refl

  call_sub : (before after : List Seen) (a b : ℕ) →
      in_call_at sys path lattice elem (Through a b ∷ before) after
      ≡ (not (is_nobodys (owner_of sys b)) && in_call_at sys path lattice elem before (Through a b ∷ after))
  unfolding is_unmatched_enter
  call_sub before after a b = refl

  call_group : (before after : List Seen) (next : Seen) (s u a mask : ℕ) (span : Span)
      → (is_sub next || agree (Some s) (leaves next)) ≡ true →
      in_call_at sys path lattice elem (edge (Enter s u a) mask span ∷ before) (next ∷ after)
      ≡ (not (is_nobodys (owner_of sys a))
      && in_call_at sys path lattice elem before (edge (Enter s u a) mask span ∷ next ∷ after))
  unfolding is_unmatched_enter begins_group
  call_group before after next s u a mask span begins = rw begins refl

  pub quiet_and : (b c : Bool) → c ≡ false → (b && c) ≡ false
  quiet_and b c is = rw is (and_false b)

  pub nobody_quiet : (v : ℕ) (c : Bool) → is_nobodys (owner_of sys v) ≡ true
      → (not (is_nobodys (owner_of sys v)) && c) ≡ false
  nobody_quiet v c is = rw is refl

  arrives_flow : (before : List Seen) (u v mask : ℕ) (span : Span) → Arrives before (edge (Le u v) mask span ∷ before) v
  arrives_flow before u v mask span = record {
    follows = follows_flow u v mask span;
    plain = refl;
    quiet = λ q after. call_flow before after u v mask span ∙ quiet_and _ _ (q (edge (Le u v) mask span ∷ after));
    anew = λ is after. call_flow before after u v mask span ∙ nobody_quiet v _ is;
  }

  pub arrives_leave : (old before : List Seen) (s u v mask : ℕ) (span : Span) →
      (Quiet old → (after : List Seen)
      → in_call_at sys path lattice elem before (edge (Leave s u v) mask span ∷ after) ≡ false) →
      Arrives old (edge (Leave s u v) mask span ∷ before) v
  arrives_leave old before s u v mask span quiet = record {
    follows = follows_leave s u v mask span;
    plain = refl;
    quiet = λ q after. call_leave before after s u v mask span ∙ quiet_and _ _ (quiet q after);
    anew = λ is after. call_leave before after s u v mask span ∙ nobody_quiet v _ is;
  }

  module _ (subs : List (List PathStep)) where
    abbrev pub failing : List Seen → List PathStep → Option BadStep
    failing before steps = first_failing sys order path lattice elem (look sys subs) before steps

    abbrev pub rule_of : List Seen → Seen → List Seen → Option Why
    rule_of before step after = rule_at sys order (in_path sys path lattice elem before step after)

    -- the steps behind one that fails no rule
    behind : (before : List Seen) (n : ℕ) (link : Link) (st : Stands sys lattice n link) (rest : List PathStep) →
        rule_of before (edge link st.constraint.lattices st.constraint.span) (map (look sys subs) rest) ≡ None →
        failing (edge link st.constraint.lattices st.constraint.span ∷ before) rest ≡ None
        → failing before (Take n 0 ∷ rest) ≡ None
    behind before n link st rest passes more =
        let Passes : Seen → Type 0 =
        λ s. fault_or (rule_of before s (map (look sys subs) rest)) 0 (failing (s ∷ before) rest) ≡ None in
        subst Passes (sym (seen sys lattice n link st))
        (ap (λ why. fault_or why 0 (failing (edge link st.constraint.lattices st.constraint.span ∷ before) rest)) passes
        ∙ more)

    behind_sub : (before : List Seen) (k a b : ℕ) (rest : List PathStep) → look sys subs (Sub k 0) ≡ Through a b →
        rule_of before (Through a b) (map (look sys subs) rest) ≡ None → failing (Through a b ∷ before) rest ≡ None
        → failing before (Sub k 0 ∷ rest) ≡ None
    behind_sub before k a b rest is passes more =
        let Passes : Seen → Type 0 =
        λ s. fault_or (rule_of before s (map (look sys subs) rest)) 0 (failing (s ∷ before) rest) ≡ None in
        subst Passes (sym is) (ap (λ why. fault_or why 0 (failing (Through a b ∷ before) rest)) passes ∙ more)

    -- the steps behind a part whose steps fail no rule
    pub part_passes : (u v : ℕ) (front : List PathStep) → Part sys lattice subs u v front → lacks sys path u ≡ false
        → lacks sys path v ≡ false →
        (before : List Seen) → Follows path (first_of before) u → (rest : List PathStep)
        → ((new : List Seen) → Arrives before new v → failing new rest ≡ None) →
        failing before (front ++ rest) ≡ None
    part_passes u v _ (Flow _ _ n st) first last before f rest more =
        behind before n (Le u v) st rest
        (flow_passes sys order path lattice elem _ (first_of before) _ _ u v _ _ f first last st.carried)
        (more _ (arrives_flow before u v _ _))
    part_passes u v _ (Empty _ a _ s n m st ts) first last before f rest more =
        let enter = edge (Enter s u a) st.constraint.lattices st.constraint.span in
        let leave = edge (Leave s a v) ts.constraint.lattices ts.constraint.span in
        let begins : (is_sub leave || agree (Some s) (leaves leave)) ≡ true = eq-eqb s s refl in
        let Next : Seen → Type 0 = λ next. rule_of before enter (next ∷ map (look sys subs) rest) ≡ None in
        behind before n (Enter s u a) st (Take m 0 ∷ rest)
        (subst Next (sym (seen sys lattice m (Leave s a v) ts))
        (group_passes sys order path lattice elem _ (first_of before) leave _ s u a _ _ f first begins st.carried))
        (behind (enter ∷ before) m (Leave s a v) ts rest
        (closed_passes sys order path lattice elem _ _ _ s u a v _ _ _ _ last ts.carried)
        (more _ (arrives_leave before (enter ∷ before) s a v _ _
        (λ q after. call_group before after leave s u a _ _ begins ∙ quiet_and _ _ (q (enter ∷ leave ∷ after))))))
    part_passes u v _ (Full _ a b _ s n m k st is ts) first last before f rest more =
        let enter = edge (Enter s u a) st.constraint.lattices st.constraint.span in
        let leave = edge (Leave s b v) ts.constraint.lattices ts.constraint.span in
        let through : Seen = Through a b in
        let Next : Seen → Type 0 = λ next. rule_of before enter (next ∷ map (look sys subs) (Take m 0 ∷ rest)) ≡ None in
        let Last : Seen → Type 0 = λ next. rule_of (enter ∷ before) through (next ∷ map (look sys subs) rest) ≡ None in
        behind before n (Enter s u a) st (Sub k 0 ∷ Take m 0 ∷ rest)
        (subst Next (sym is)
        (group_passes sys order path lattice elem _ (first_of before) through _ s u a _ _ f first refl st.carried))
        (behind_sub (enter ∷ before) k a b (Take m 0 ∷ rest) is
        (subst Last (sym (seen sys lattice m (Leave s b v) ts))
        (sub_passes sys order path lattice elem _ leave _ s u a b _ _))
        (behind (through ∷ enter ∷ before) m (Leave s b v) ts rest
        (left_passes sys order path lattice elem _ _ s u a b v _ _ _ _ last ts.carried)
        (more _ (arrives_leave before (through ∷ enter ∷ before) s b v _ _
        (λ q after. call_sub (enter ∷ before) (leave ∷ after) a b
        ∙ quiet_and _ _ (call_group before (leave ∷ after) through s u a _ _ refl
        ∙ quiet_and _ _ (q (enter ∷ through ∷ leave ∷ after))))))))

-- parts inside one function
module _ (sys : System) (order : Order) (lattice elem : ℕ) (subs : List (List PathStep)) (f : ℕ) where
  owned : (v : ℕ) → owner_of sys v ≡ Function f → lacks sys (SubOf (Function f)) v ≡ false
  owned v is = rw (is, eq-eqb f f refl) refl

  pub inside_passes : (u v : ℕ) (steps : List PathStep) → Inside sys lattice subs f u v steps → (before : List Seen)
      → Follows (SubOf (Function f)) (first_of before) u →
      first_failing sys order (SubOf (Function f)) lattice elem (look sys subs) before steps ≡ None
  inside_passes u _ _ (Done _) before follows = refl
  inside_passes u v _ (More _ x _ front rest part from to more) before follows =
      part_passes sys order (SubOf (Function f)) lattice elem subs u x front part (owned u from)
      (owned x to) before follows rest
      (λ new arrives. inside_passes x v rest more new arrives.follows)

  pub follows_none : (u : ℕ) → Follows (SubOf (Function f)) None u
  follows_none u = record { unbound = refl; plain = refl; joined = refl; begun = refl }

settled_cases : (o : Owner) (p : Phase) → settled o p ≡ First → (is_nobodys o ≡ true) ⊎ (p ≡ First)
settled_cases Nobody p is = inl refl
settled_cases (Function f) p is = inr is

module _ (sys : System) (order : Order) (lattice elem : ℕ) (subs : List (List PathStep)) where
  abbrev pub IsQuiet : List Seen → Type 0
  IsQuiet before = Quiet sys order Main lattice elem before

  -- in the first phase no call is open
  abbrev pub Settles : Phase → List Seen → Type 0
  Settles p before = p ≡ First → IsQuiet before

  settles_on : (old new : List Seen) (p : Phase) (v : ℕ) → Settles p old → Arrives sys order Main lattice elem old new v
      → Settles (settled (owner_of sys v) p) new
  settles_on old new p v before arrives is = elim (settled_cases (owner_of sys v) p is) [
    | inl nobody ↦ arrives.anew nobody
    | inr first ↦ arrives.quiet (before first)
  ]

  -- a call to a variable of nobody stays open no longer
  settles_call : (before : List Seen) (s u v mask : ℕ) (span : Span)
      → Settles (settled (owner_of sys v) Second) (edge (Enter s u v) mask span ∷ before)
  settles_call before s u v mask span is after = elim (settled_cases (owner_of sys v) Second is) [
    | inl nobody ↦ nobody_quiet sys order Main lattice elem v _ nobody
    | inr first ↦ absurd cc
  ]

  -- where the goal is a bound, the element is not at or below it
  abbrev pub Over : Goal → Type 0
  Over (ToBound bound) = (v limit : ℕ) → Stands sys lattice bound (Bound v lattice limit) → leq order elem limit ≡ false
  Over (ToVariable to) = Unit {0}

  pub onward_passes : (goal : Goal) → Over goal → (p : Phase) (u : ℕ) (steps : List PathStep)
      → Onward sys lattice subs goal p u steps → (before : List Seen) → Follows Main (first_of before) u →
      Settles p before → failing sys order Main lattice elem subs before steps ≡ None
  onward_passes _ over p u _ (Ends bound _ _ limit st) before f settles =
      behind sys order Main lattice elem subs before bound (Bound u lattice limit) st []
      (bound_passes sys order lattice elem _ (first_of before) _ _ u limit _ _ f (over u limit st)) refl
  onward_passes _ over p u _ (There _ _) before f settles = refl
  onward_passes goal over p u _ (Along _ _ _ v front rest part more) before f settles =
      part_passes sys order Main lattice elem subs u v front part refl refl before f rest
      (λ new arrives. onward_passes goal over (settled (owner_of sys v) p) v rest more new arrives.follows
      (settles_on before new p v settles arrives))
  onward_passes goal over _ u _ (Back _ _ v s n rest st more) before f settles =
      let back = edge (Leave s u v) st.constraint.lattices st.constraint.span in
      let after = map (look sys subs) rest in
      let Passes : Bool → Type 0 = λ c. rule_at sys order
      (placed sys order Main lattice elem (second_of before) (first_of before) back (first_of after) c) ≡ None in
      let quiet = settles refl in
      let arrives = arrives_leave sys order Main lattice elem before before s u v st.constraint.lattices
      st.constraint.span (λ q after. q (back ∷ after)) in
      behind sys order Main lattice elem subs before n (Leave s u v) st rest
      (subst Passes (sym (quiet (back ∷ after)))
      (back_passes sys order lattice elem _ (first_of before) _ s u v _ _ f st.carried))
      (onward_passes goal over (settled (owner_of sys v) First) v rest more (back ∷ before) arrives.follows
      (settles_on before (back ∷ before) First v settles arrives))
  onward_passes goal over p u _ (Into _ _ _ v s n rest st more) before f settles =
      let into = edge (Enter s u v) st.constraint.lattices st.constraint.span in
      behind sys order Main lattice elem subs before n (Enter s u v) st rest
      (into_passes sys order lattice elem _ (first_of before) _ _ s u v _ _ f st.carried)
      (onward_passes goal over (settled (owner_of sys v) Second) v rest more (into ∷ before)
      (follows_enter sys order Main lattice elem s u v _ _) (settles_call before s u v _ _))
