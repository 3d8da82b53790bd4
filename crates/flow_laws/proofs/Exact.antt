-- A path proof holds exactly where it has the form of one.
use Rattle.std.proofs.Common.{◌≡◌, ℕ, true, false, List, [], ◌∷◌, map, None, unwrap_or, refl, sym, ◌∙◌, subst, slice_get}
use Rattle.qual_base.specs.declared.places.Span.{Span}
use Rattle.lattice_core.specs.Order.{Order, leq}
use Rattle.flow_graph.specs.declared.constraint.Link.{Link}
use Rattle.flow_graph.specs.declared.constraint.Link.TheVariants.{Le, Const, Bound, Enter, Leave}
use Rattle.flow_graph.specs.declared.proof.PathStep.{PathStep}
use Rattle.flow_graph.specs.declared.proof.PathStep.TheVariants.{Take, Sub as SubStep}
use Rattle.flow_graph.specs.declared.step.Seen.{Seen}
use Rattle.flow_graph.specs.declared.step.Seen.TheVariants.{Edge, Through, NoSub, NoEdge}
use Rattle.flow_graph.specs.declared.step.Path.TheVariants.{Main}
use Rattle.flow_graph.specs.System.{System, owner_of, Stands}
use Rattle.flow_graph.specs.PathRules.{is_const}
use Rattle.flow_graph.specs.PathProofs.{look, edge_or, edge_at, last_of, line_of, first_failing, main_fault, first_fault, start_of, no_order, steps_of}
use Rattle.flow_graph.specs.Parts.{None as NoSubs, Next, Onward, ToBound}
use Rattle.flow_laws.specs.PathForms.{without_lines, NoPaths, Stepped, LeadsOver, ShowsIn, SubsAreSubPaths, HoldsInSome, HoldsExactly}
use Rattle.flow_laws.proofs.Links.{has_of, one_bound}
use Rattle.flow_laws.proofs.Clear.{clear}
use Rattle.flow_laws.proofs.Places.{edge}
use Rattle.flow_laws.proofs.Runs.{no_fault, nothing, last_seen, last_is, headed, if_none, const_edge, ends_bound}
use Rattle.flow_laws.proofs.Parsing.{edge_there, Stops}
use Rattle.flow_laws.proofs.Forming.{settled_is, MainOn, main_builds, main_on, Known, all_known}
use Rattle.flow_laws.proofs.Shown.{form_holds, shown_holds}

-- sub-paths that all have steps are those of the definition
pub subs_are_sub_paths : SubsAreSubPaths
subs_are_sub_paths sys lattice _ NoSubs = NoPaths
subs_are_sub_paths sys lattice _ (Next subs u v steps before sub) =
    Stepped subs u v steps (subs_are_sub_paths sys lattice subs before) sub

module _ (sys : System) (orders : List Order) (subs : List (List PathStep)) (first : PathStep) (main : List PathStep)
    (end : ℕ) where
  abbrev order_at : ℕ → Order
  order_at lattice = unwrap_or (slice_get orders lattice) no_order

  abbrev Formed : ℕ → Type 0
  Formed lattice = LeadsOver sys lattice (order_at lattice) (map without_lines subs) (without_lines (first ∷ main))

  -- the first step is a constant
  const_first : (lattice elem : ℕ) (x : Seen) → edge_at sys first ≡ x
      → main_fault sys (order_at lattice) lattice elem subs first main end ≡ None → is_const x ≡ true
  const_first lattice elem x is e =
      let head = nothing _ _ e in
      let k = clear sys (order_at lattice) _ (no_fault _ (line_of first) None head.0).0 in
      subst (λ x. is_const x ≡ true) is
      (const_edge sys (order_at lattice) lattice elem subs first (headed lattice elem _ _ k.headed))

-- a path that begins with the constant of a number
module _ (sys : System) (orders : List Order) (subs : List (List PathStep)) (main : List PathStep) (end : ℕ) where
  by_number : (n line l e v m : ℕ) (p : Span) → edge_or (slice_get sys.constraints n) ≡ edge (Const l e v) m p →
      main_fault sys (order_at sys orders subs (Take n line) main end l) l e subs (Take n line) main end ≡ None
      → Formed sys orders subs (Take n line) main end l
  by_number n line l e v m p is h =
      let order = order_at sys orders subs (Take n line) main end l in
      let named = map without_lines subs in
      let see = look sys subs in
      let head = nothing _ _ h in
      let of_subs = nothing _ _ head.1 in
      let of_main = nothing _ _ of_subs.1 in
      let none : Known sys l [] = record { owned = λ n. tt; paths = NoPaths } in
      let known = all_known sys order l e [] subs none of_subs.0 in
      let constant : Stands sys l n (Const l e v) =
      record {
        constraint = record { link = Const l e v; lattices = m; span = p };
        there = edge_there (slice_get sys.constraints n) _ is;
        link_is = refl;
        carried = refl;
      } in
      let stops : Stops sys order l e Main named (MainOn sys order l e named) (main_builds sys order l e named)
      (last_seen see (see (Take n line) ∷ []) main) =
      λ c x unbound no_sub. absurd (ends_bound sys order l e subs (last_of (Take n line ∷ main)) _
      (last_is see [] (Take n line) main) no_sub unbound (if_none _ _ of_main.1)) in
      let on = main_on sys order l e subs known main l e v m p
      (subst (λ x. first_failing sys order Main l e see (x ∷ []) main ≡ None) is (no_fault _ line _ of_main.0).1)
      (subst (λ x. Stops sys order l e Main named (MainOn sys order l e named) (main_builds sys order l e named)
      (last_seen see (x ∷ []) main)) is stops) in
      record {
        sub_paths = known.paths;
        element = e;
        bound = on.0;
        path = record {
          start = n;
          from = v;
          constant = constant;
          rest = without_lines main;
          onward = subst (λ p. Onward sys l named (ToBound on.0) p v (without_lines main))
              (sym (settled_is (owner_of sys v) false)) on.5;
          steps_are = refl;
        };
        over = λ x limit st.
            subst (λ limit. leq order e limit ≡ false) (one_bound sys l on.0 on.1 on.2 x limit on.3 st).1 on.4;
      }

module _ (sys : System) (orders : List Order) (subs : List (List PathStep)) (main : List PathStep) (end : ℕ) where
  by_const : (first : PathStep) (l e v m : ℕ) (p : Span) → edge_at sys first ≡ edge (Const l e v) m p →
      main_fault sys (order_at sys orders subs first main end l) l e subs first main end ≡ None
      → Formed sys orders subs first main end l
  by_const (Take n line) l e v m p is h = by_number sys orders subs main end n line l e v m p is h
  by_const (SubStep n line) l e v m p is h = absurd cc

  not_const : (first : PathStep) (x : Seen) → is_const x ≡ false → edge_at sys first ≡ x
      → main_fault sys (order_at sys orders subs first main end 0) 0 0 subs first main end ≡ None → ⊥
  not_const first x other is h =
      let clash : false ≡ true = sym other ∙ const_first sys orders subs first main end 0 0 x is h in
      cc

  by_link : (first : PathStep) (l : Link) (m : ℕ) (p : Span) → edge_at sys first ≡ edge l m p →
      (let start = start_of (edge l m p) in
      main_fault sys (order_at sys orders subs first main end start.0) start.0 start.1 subs first main end ≡ None) →
      (lattice : ℕ) × Formed sys orders subs first main end lattice
  by_link first (Const l e v) m p is h = (l, by_const first l e v m p is h)
  by_link first (Le u v) m p is h = absurd (not_const first _ refl is h)
  by_link first (Bound u l b) m p is h = absurd (not_const first _ refl is h)
  by_link first (Enter s u v) m p is h = absurd (not_const first _ refl is h)
  by_link first (Leave s u v) m p is h = absurd (not_const first _ refl is h)

  by_start : (first : PathStep) (x : Seen) → edge_at sys first ≡ x →
      (let start = start_of x in
      main_fault sys (order_at sys orders subs first main end start.0) start.0 start.1 subs first main end ≡ None) →
      (lattice : ℕ) × Formed sys orders subs first main end lattice
  by_start first (Edge c) is h = by_link first c.link c.lattices c.span is h
  by_start first (Through u v) is h = absurd (not_const first _ refl is h)
  by_start first NoSub is h = absurd (not_const first _ refl is h)
  by_start first NoEdge is h = absurd (not_const first _ refl is h)

formed : (sys : System) (orders : List Order) (subs : List (List PathStep)) (main : List PathStep) (end : ℕ)
    → first_fault sys orders subs main end ≡ None →
    (lattice : ℕ) × LeadsOver sys lattice (unwrap_or (slice_get orders lattice) no_order) (map without_lines subs)
    (without_lines main)
formed sys orders subs [] end e = absurd cc
formed sys orders subs (first ∷ main) end e = by_start sys orders subs main end first (edge_at sys first) refl e

-- a path proof holds just if it has the form of one in some lattice, whatever its constants name
pub holds_in_some : HoldsInSome
holds_in_some sys orders proof = (
  λ holds. formed sys orders (steps_of proof.subs.items) proof.main.items proof.end holds,
  λ shown. form_holds sys orders shown.0 (steps_of proof.subs.items) proof.main.items proof.end shown.1,
)

-- where constants name elements of lattices, a path proof holds just if it has the form of one
pub holds_exactly : HoldsExactly
holds_exactly sys orders proof names = (
  λ holds.
      let shown = formed sys orders (steps_of proof.subs.items) proof.main.items proof.end holds in
      let path = shown.1.path in
      let named = names.const path.start shown.0 shown.1.element path.from
      (has_of sys shown.0 path.start (Const shown.0 shown.1.element path.from) path.constant) in
      let same : unwrap_or (slice_get orders shown.0) no_order ≡ named.0 = rw named.1 refl in
      record {
        lattice = shown.0;
        order = named.0;
        there = named.1;
        shown = subst (λ order. ShowsIn sys shown.0 order proof) same shown.1;
      },
  λ shows. shown_holds sys orders proof shows,
)
