-- What holds has the form of a path proof.
use Rattle.std.proofs.Common.{◌≡◌, ℕ, zero, suc, ◌-◌, ◌==◌, Bool, true, false, not, ◌&&◌, List, [], ◌∷◌, ◌++◌, map, Option, Some, None, refl, sym, ◌∙◌, ap, subst, inl, inr, append_assoc, slice_get, if◌then◌else◌}
use Rattle.std.proofs.lemmas.Bool.{eqb-true, not-false, or_parts}
use Rattle.std.proofs.lemmas.List.{append-nil}
use Rattle.qual_base.specs.declared.places.Span.{Span}
use Rattle.qual_base.specs.declared.places.Owner.{Owner}
use Rattle.qual_base.specs.declared.places.Owner.TheVariants.{Nobody, Function}
use Rattle.qual_base.proofs.Lists.{map_more}
use Rattle.lattice_core.specs.Order.{Order, leq}
use Rattle.flow_graph.specs.declared.constraint.Link.TheVariants.{Const, Bound, Enter, Leave}
use Rattle.flow_graph.specs.declared.phase.Phase.{Phase}
use Rattle.flow_graph.specs.declared.phase.Phase.TheVariants.{First, Second}
use Rattle.flow_graph.specs.declared.proof.PathStep.{PathStep}
use Rattle.flow_graph.specs.declared.proof.PathStep.TheVariants.{Take, Sub as SubStep}
use Rattle.flow_graph.specs.declared.step.Seen.{Seen}
use Rattle.flow_graph.specs.declared.step.Seen.TheVariants.{Through, NoSub}
use Rattle.flow_graph.specs.declared.step.Path.TheVariants.{Main, Sub}
use Rattle.flow_graph.specs.System.{System, owner_of, Stands}
use Rattle.flow_graph.specs.PathRules.{begins, is_owned_by}
use Rattle.flow_graph.specs.PathProofs.{is_nobodys, look, span_of, of_step, first_of, line_of, owner_at, home_of, first_failing, subs_fault}
use Rattle.flow_graph.specs.Parts.{settled, Flow, Empty, Full, Inside, Done, More, IsSub, Onward, ToBound, Ends, Along, Back, Into}
use Rattle.flow_laws.specs.PathForms.{without_line, without_lines, AreSubPaths, NoSteps, Stepped}
use Rattle.flow_laws.proofs.Clear.{clear}
use Rattle.flow_laws.proofs.Places.{edge, stays_const}
use Rattle.flow_laws.proofs.Runs.{no_fault, nothing, last_seen, nobody_fails, look_sub}
use Rattle.flow_laws.proofs.Erasing.{span_same, look_same}
use Rattle.flow_laws.proofs.Showing.{sub_span}
use Rattle.flow_laws.proofs.Parsing.{settle, AreOwned, Names, no_site, Builds, between, Stops, parsed}

abbrev pub phase_of : Bool → Phase
phase_of true = Second
phase_of false = First

pub settled_is : (o : Owner) (c : Bool) → settled o (phase_of c) ≡ phase_of (not (is_nobodys o) && c)
settled_is Nobody c = refl
settled_is (Function f) c = refl

seen_is : {x y : Seen} → Some x ≡ Some y → y ≡ x
seen_is e = cc

owned_by : (f : ℕ) (o : Owner) → not (is_owned_by (Function f) o) ≡ false → o ≡ Function f
owned_by f (Function g) e = ap (λ g. Function g) (sym (eqb-true f g (not-false _ e)))
owned_by f Nobody e = absurd cc

module _ (sys : System) (order : Order) (lattice elem : ℕ) (named : List (List PathStep)) where
  -- steps of a main path that lead on to a bound which is exceeded
  abbrev pub MainOn : Bool → ℕ → List PathStep → Type 0
  MainOn c v steps =
      (bound : ℕ) × (x : ℕ) × (limit : ℕ) × Stands sys lattice bound (Bound x lattice limit)
      × (leq order elem limit ≡ false)
      × Onward sys lattice named (ToBound bound) (phase_of c) v steps

  pub onward : (c d : Bool) (u v : ℕ) (rest steps : List PathStep) →
      ((bound : ℕ) → Onward sys lattice named (ToBound bound) (settled (owner_of sys v) (phase_of c)) v rest
      → Onward sys lattice named (ToBound bound) (phase_of d) u steps) →
      MainOn (settle sys v c) v rest → MainOn d u steps
  onward c d u v rest steps goes (bound, x, limit, st, over, on) = (
    bound,
    x,
    limit,
    st,
    over,
    goes bound
        (subst (λ p. Onward sys lattice named (ToBound bound) p v rest) (sym (settled_is (owner_of sys v) c)) on),
  )

  main_empty : (c : Bool) (u a v s n m : ℕ) (rest : List PathStep) → Stands sys lattice n (Enter s u a)
      → Stands sys lattice m (Leave s a v) → (o : Owner) → owner_of sys a ≡ o →
      MainOn (settle sys v (not (is_nobodys o) && c)) v rest → MainOn c u (Take n 0 ∷ Take m 0 ∷ rest)
  main_empty c u a v s n m rest st ts Nobody is r =
      onward false c u v rest (Take n 0 ∷ Take m 0 ∷ rest)
      (λ bound on. Into (ToBound bound) (phase_of c) u a s n (Take m 0 ∷ rest) st
      (subst (λ o. Onward sys lattice named (ToBound bound) (settled o Second) a (Take m 0 ∷ rest)) (sym is)
      (Back (ToBound bound) a v s m rest ts on))) r
  main_empty c u a v s n m rest st ts (Function f) is r =
      onward c c u v rest (Take n 0 ∷ Take m 0 ∷ rest) (λ bound on. Along (ToBound bound) (phase_of c) u v
      (Take n 0 ∷ Take m 0 ∷ []) rest (Empty u a v s n m st ts) on) r

  pub main_builds : Builds sys order lattice elem Main named MainOn
  main_builds = record {
    flow = λ c u v n rest st own r. onward c c u v rest (Take n 0 ∷ rest)
        (λ bound on. Along (ToBound bound) (phase_of c) u v (Take n 0 ∷ []) rest (Flow u v n st) on) r;
    empty = λ c u a v s n m rest st ts own owns r. main_empty c u a v s n m rest st ts (owner_of sys a) refl r;
    full = λ c u a b v s n k m rest st is ts own owns r.
        onward c c u v rest (Take n 0 ∷ SubStep k 0 ∷ Take m 0 ∷ rest)
        (λ bound on. Along (ToBound bound) (phase_of c) u v (Take n 0 ∷ SubStep k 0 ∷ Take m 0 ∷ []) rest
        (Full u a b v s n m k st is ts) on) r;
    call = λ main c u v s n rest st r.
        onward true c u v rest (Take n 0 ∷ rest) (λ bound on. Into (ToBound bound) (phase_of c) u v s n rest st on) r;
    back = λ main u v s n rest st r.
        onward false false u v rest (Take n 0 ∷ rest) (λ bound on. Back (ToBound bound) u v s n rest st on) r;
    bound = λ main c v b n st over. (n, v, b, st, over, Ends n (phase_of c) v b st);
  }

  -- steps of a sub-path that stay inside a function
  abbrev SubOn : ℕ → Bool → ℕ → List PathStep → Type 0
  SubOn f c v steps = (w : ℕ) × Inside sys lattice named f v w steps

  no_main : {A : Type 0} → false ≡ true → A
  no_main e = absurd cc

  sub_builds : (f : ℕ) → Builds sys order lattice elem (Sub (Function f)) named (SubOn f)
  sub_builds f = record {
    flow = λ c u v n rest st own r.
        let both = or_parts _ _ own in (
          r.0,
          More u v r.0 (Take n 0 ∷ []) rest (Flow u v n st) (owned_by f (owner_of sys u) both.0)
              (owned_by f (owner_of sys v) both.1) r.1,
        );
    empty = λ c u a v s n m rest st ts own owns r. (
      r.0,
      More u v r.0 (Take n 0 ∷ Take m 0 ∷ []) rest (Empty u a v s n m st ts) (owned_by f (owner_of sys u) own)
          (owned_by f (owner_of sys v) owns) r.1,
    );
    full = λ c u a b v s n k m rest st is ts own owns r. (
      r.0,
      More u v r.0 (Take n 0 ∷ SubStep k 0 ∷ Take m 0 ∷ []) rest (Full u a b v s n m k st is ts)
          (owned_by f (owner_of sys u) own) (owned_by f (owner_of sys v) owns) r.1,
    );
    call = λ main c u v s n rest st r. no_main main;
    back = λ main u v s n rest st r. no_main main;
    bound = λ main c v b n st over. no_main main;
  }

  inside_sub : (f u w : ℕ) (steps : List PathStep) → Inside sys lattice named f u w steps
      → (s : PathStep) (rest : List PathStep) → steps ≡ s ∷ rest → IsSub sys lattice named u w steps
  inside_sub f u _ _ (Done _) s rest is = absurd cc
  inside_sub f u w _ (More _ x _ front more part from to on) s rest is =
      record {
        function = f;
        next = x;
        front = front;
        rest = more;
        part = part;
        from_is = from;
        next_is = to;
        more = on;
        steps_are = refl;
      }

  inside_owner : (f u w : ℕ) (steps : List PathStep) → Inside sys lattice named f u w steps
      → owner_of sys u ≡ Function f → owner_of sys w ≡ Function f
  inside_owner f u _ _ (Done _) is = is
  inside_owner f u w _ (More _ x _ front more part from to on) is = inside_owner f x w more on to

  module _ (subs : List (List PathStep)) (names : (s : PathStep) → Names sys named s (look sys subs s)) where
    abbrev Passes : Owner → List PathStep → Type 0
    Passes home steps = first_failing sys order (Sub home) lattice elem (look sys subs) [] steps ≡ None

    sub_from : (u : ℕ) (s : PathStep) (steps : List PathStep) → begins (look sys subs s) ≡ Some u → (o : Owner)
        → owner_of sys u ≡ o → Passes o (s ∷ steps) →
        (w : ℕ) × IsSub sys lattice named u w (without_lines (s ∷ steps))
    sub_from u s steps first Nobody is e =
        absurd (nobody_fails sys order lattice elem _ _ (clear sys order _ (no_fault _ (line_of s) _ e).0))
    sub_from u s steps first (Function f) is e =
        let begun = between u refl refl (no_site None _ refl) refl (inr (λ x same. ap begins (seen_is same) ∙ first)) in
        let on = parsed sys order lattice elem (Sub (Function f)) named (SubOn f) (sub_builds f) (look sys subs) names
        [] (s ∷ steps) false u [] begun e (λ c v unbound no_sub. (v, Done v)) in
        (on.0, inside_sub f u on.0 (without_lines (s ∷ steps)) on.1 (without_line s) (without_lines steps) refl)

    sub_begins : (s : PathStep) (steps : List PathStep) (b : Option ℕ) → of_step sys (first_of (s ∷ steps)) begins ≡ b
        → Passes (home_of sys (s ∷ steps)) (s ∷ steps) →
        (u : ℕ) × (w : ℕ) × IsSub sys lattice named u w (without_lines (s ∷ steps))
    sub_begins s steps None is e =
        let home : home_of sys (s ∷ steps) ≡ Nobody = ap (owner_at sys) is in
        absurd (nobody_fails sys order lattice elem _ _
        (clear sys order _ (no_fault _ (line_of s) _ (subst (λ o. Passes o (s ∷ steps)) home e)).0))
    sub_begins (Take n line) steps (Some u) is e =
        let sub = sub_from u (Take n line) steps is (owner_of sys u) refl
        (subst (λ o. Passes o (Take n line ∷ steps)) (ap (owner_at sys) is) e) in
        (u, sub.0, sub.1)
    sub_begins (SubStep n line) steps (Some u) is e = absurd cc

-- what is known of sub-paths none of whose steps fails
pub record Known (sys : System) (lattice : ℕ) (subs : List (List PathStep)) : Type 0 where
  pub owned : (n : ℕ) → AreOwned sys (span_of sys (slice_get subs n))
  pub paths : AreSubPaths sys lattice (map without_lines subs)

module _ (sys : System) (order : Order) (lattice elem : ℕ) where
  if_owned : (b : Bool) (x : Seen) → AreOwned sys x → AreOwned sys (if b then NoSub else x)
  if_owned true x owned = tt
  if_owned false x owned = owned

  pub names_of : (subs : List (List PathStep)) → Known sys lattice subs → (s : PathStep)
      → Names sys (map without_lines subs) s (look sys subs s)
  names_of subs known (Take n line) = refl
  names_of subs known (SubStep n line) = (
    look_sub sys order lattice elem subs n line,
    look_same sys subs (SubStep n line),
    if_owned (n == 0) (span_of sys (slice_get subs (n - 1))) (known.owned (n - 1)),
  )

  owned_more : (subs : List (List PathStep)) (s : List PathStep)
      → ((n : ℕ) → AreOwned sys (span_of sys (slice_get subs n))) → AreOwned sys (span_of sys (Some s)) →
      (n : ℕ) → AreOwned sys (span_of sys (slice_get (subs ++ s ∷ []) n))
  owned_more [] s all owned zero = owned
  owned_more [] s all owned (suc n) = tt
  owned_more (x ∷ subs) s all owned zero = all 0
  owned_more (x ∷ subs) s all owned (suc n) = owned_more subs s (λ n. all (suc n)) owned n

  known_more : (subs : List (List PathStep)) (s : List PathStep) → Known sys lattice subs
      → first_failing sys order (Sub (home_of sys s)) lattice elem (look sys subs) [] s ≡ None →
      Known sys lattice (subs ++ s ∷ [])
  known_more subs [] known e = record {
    owned = owned_more subs [] known.owned tt;
    paths = subst (AreSubPaths sys lattice) (sym (map_more without_lines subs ([] ∷ [])))
        (NoSteps (map without_lines subs) known.paths);
  }
  known_more subs (s ∷ steps) known e =
      let named = map without_lines subs in
      let sub = sub_begins sys order lattice elem named subs (names_of subs known) s steps
      (of_step sys (first_of (s ∷ steps)) begins) refl e in
      let it = sub.2 in
      let spans : Through sub.0 sub.1 ≡ span_of sys (Some (s ∷ steps)) =
      sym (sub_span sys lattice named sub.0 sub.1 (without_lines (s ∷ steps)) it) ∙ span_same sys (s ∷ steps) in
      let last = inside_owner sys order lattice elem named it.function it.next sub.1 it.rest it.more it.next_is in
      record {
        owned = owned_more subs (s ∷ steps) known.owned
            (subst (AreOwned sys) spans (it.function, it.function, it.from_is, last));
        paths = subst (AreSubPaths sys lattice) (sym (map_more without_lines subs ((s ∷ steps) ∷ [])))
            (Stepped named sub.0 sub.1 (without_lines (s ∷ steps)) known.paths it);
      }

  pub all_known : (earlier subs : List (List PathStep)) → Known sys lattice earlier
      → subs_fault sys order lattice elem earlier subs ≡ None → Known sys lattice (earlier ++ subs)
  all_known earlier [] known e = rw (append-nil earlier) known
  all_known earlier (s ∷ subs) known e =
      let parts = nothing _ _ e in
      subst (Known sys lattice) (append_assoc earlier (s ∷ []) subs)
      (all_known (earlier ++ s ∷ []) subs (known_more earlier s known parts.0) parts.1)

  -- the steps behind a constant
  pub main_on : (subs : List (List PathStep)) → Known sys lattice subs
      → (main : List PathStep) (l e v m : ℕ) (p : Span) →
      first_failing sys order Main lattice elem (look sys subs) (edge (Const l e v) m p ∷ []) main ≡ None →
      Stops sys order lattice elem Main (map without_lines subs)
      (MainOn sys order lattice elem (map without_lines subs))
      (main_builds sys order lattice elem (map without_lines subs))
      (last_seen (look sys subs) (edge (Const l e v) m p ∷ []) main) →
      MainOn sys order lattice elem (map without_lines subs) (settle sys v false) v (without_lines main)
  main_on subs known main l e v m p passes stops =
      let named = map without_lines subs in
      let On = MainOn sys order lattice elem named in
      let begun = between v refl refl (no_site (Some (edge (Const l e v) m p)) _ refl) refl (inl refl) in
      subst (λ c. On c v (without_lines main)) (stays_const Main lattice elem sys None None _ false l e v m p)
      (parsed sys order lattice elem Main named On (main_builds sys order lattice elem named) (look sys subs)
      (names_of subs known) (edge (Const l e v) m p ∷ []) main _ v [] begun passes stops)
