-- What candidates of a pick give, one behind the other, and what is left of them.
use Rattle.std.proofs.Common.{◌≡◌, ◌<◌, ◌≤◌, ◌-◌, ◌+◌, ℕ, suc, Bool, true, false, if◌then◌else◌, List, [], ◌∷◌, ◌++◌, refl, sym, ◌∙◌, ap, subst, arith, append_assoc}
use Rattle.std.proofs.lemmas.List.{append-nil}
use Rattle.qual_base.specs.declared.places.Span.{Span}
use Rattle.flow_graph.specs.declared.constraint.Constraint.{Constraint}
use Rattle.flow_graph.specs.declared.graph.GraphFault.{GraphFault}
use Rattle.flow_graph.specs.System.{System}
use Rattle.flow_rules.specs.Adding.{with}
use Rattle.qual_types.specs.Skel.{Skel}
use Rattle.row_rules.specs.Worlds.{World, at, all_lattices, span}
use Rattle.row_rules.specs.Vals.{Candidate, no_zeros, or_all, left_of, own, value}
use Rattle.row_rules.specs.Forming.{formed}
use Rattle.row_rules.specs.Rows.{flowing, formed_here, picked, picking}
use Rattle.row_rules.specs.RowSteps.State.{State}
use Rattle.row_rules.specs.RowSteps.Steps.{candidate_at, selected}
use Rattle.name_rules.specs.ShapeSteps.Steps.{twice}
use Rattle.skel_steps.specs.Picks.{is_several}
use Rattle.row_adding.specs.Adding.{StopsEarly}
use Rattle.unit_system.specs.UnitRows.Picking.{picking_row}
use Rattle.unit_system.proofs.UnitRows.RowLists.{with_more, with_none, stops_within}

module _ (w : World) (t : Skel) (s : Span) where
  picking_more : (some others : List Candidate)
      → picking w (some ++ others) t s ≡ picking w some t s ++ picking w others t s
  picking_more [] others = refl
  picking_more (it ∷ some) others =
      ap (λ (cs : List Constraint). flowing it.is_zero (value it.val) t (all_lattices w) s ++ cs)
      (picking_more some others) ∙
      sym (append_assoc (flowing it.is_zero (value it.val) t (all_lattices w) s) (picking w some t s)
      (picking w others t s))

  -- a zero gives none
  zeros_give_none : (all : List Candidate) → picking w (no_zeros all) t s ≡ picking w all t s
  zeros_give_none [] = refl
  zeros_give_none (it ∷ others) = by (zeros_give_none others) it.is_zero refl where
    by : picking w (no_zeros others) t s ≡ picking w others t s → (b : Bool) → it.is_zero ≡ b →
        picking w (if b then no_zeros others else it ∷ no_zeros others) t s ≡
        flowing it.is_zero (value it.val) t (all_lattices w) s ++ picking w others t s
    by h true is = h ∙ ap (λ (z : Bool). flowing z (value it.val) t (all_lattices w) s ++ picking w others t s) (sym is)
    by h false is = ap (λ (cs : List Constraint). flowing it.is_zero (value it.val) t (all_lattices w) s ++ cs) h

  picking_left : (all : List Candidate) → picking w (left_of all) t s ≡ picking w all t s
  picking_left all = by (no_zeros all) (zeros_give_none all) where
    by : (some : List Candidate) → picking w some t s ≡ picking w all t s
        → picking w (or_all some all) t s ≡ picking w all t s
    by [] h = refl
    by (it ∷ some) h = h

  several_picked : (all : List Candidate) → is_several all ≡ true → picked w all t s ≡ formed w s t ++ picking w all t s
  several_picked [] is = absurd cc
  several_picked (it ∷ []) is = absurd cc
  several_picked (it ∷ other ∷ others) is = refl

  none_picked : (all : List Candidate) → is_several all ≡ false → picked w all t s ≡ []
  none_picked [] is = refl
  none_picked (it ∷ []) is = refl
  none_picked (it ∷ other ∷ others) is = absurd cc

-- a pick with a value of its own, and one without
pub fresh_row : (w : World) (token : ℕ) (all : List Candidate) (b : Bool) → b ≡ true → b ≡ is_several (left_of all) →
    formed_here w token ++ picking_row w token all ≡ picked w (left_of all) (own w token) (span w token token)
fresh_row w token all b holds is =
    ap (λ (cs : List Constraint). formed_here w token ++ cs)
    (sym (picking_left w (own w token) (span w token token) all)) ∙
    sym (several_picked w (own w token) (span w token token) (left_of all) (sym is ∙ holds))

pub no_row : (w : World) (token : ℕ) (all : List Candidate) (b : Bool) → b ≡ false → b ≡ is_several (left_of all) →
    picked w (left_of all) (own w token) (span w token token) ≡ []
no_row w token all b fails is = none_picked w (own w token) (span w token token) (left_of all) (sym is ∙ fails)

abbrev pub one_where : World → ℕ → ℕ → ℕ → State → List Candidate
one_where w token i n st = if w.candidate (at w token) i then candidate_at (twice n) st ∷ [] else []

-- the candidates from an association on are it, where it is one, and those from the next association on
left_at : (w : World) (token i count : ℕ) (st : State) → i < count →
    selected w token i (count - i) st ≡ one_where w token i (count - suc i) st
    ++ selected w token (i + 1) (count - (i + 1)) st
left_at w token i count st lt =
    let one : suc i ≡ i + 1 = omega arith in
    let left : count - i ≡ suc (count - suc i) = omega arith in
    ap (λ (n : ℕ). selected w token i n st) left ∙
    ap (λ (m : ℕ). one_where w token i (count - suc i) st ++ selected w token m (count - m) st) one

-- what stands in the graph behind the associations before one, by the candidates among them
pub record Picked (w : World) (token count i : ℕ) (st : State) (old now : System) : Type 0 where
  pub all : List Candidate
  pub rows : now ≡ with old (picking_row w token all)
  pub left : all ++ selected w token i (count - i) st ≡ selected w token 0 count st

-- before the first association no candidate was picked, and the graph is as it was
pub at_begin : (w : World) (token count : ℕ) (st : State) (old : System) → Picked w token count 0 st old old
at_begin w token count st old =
    let none : count - 0 ≡ count = omega arith in
    record { all = []; rows = with_none old; left = ap (λ (n : ℕ). selected w token 0 n st) none }

-- behind one association more the graph has the row of it where it is a candidate
pub at_one_more : (w : World) (token count i : ℕ) (st : State) (old now new : System) (is : Bool) (depth : ℕ)
    → i < count →
    is ≡ w.candidate (at w token) i → depth ≡ twice (count - suc i) → Picked w token count i st old now →
    new ≡ with now (picking_row w token (if is then candidate_at depth st ∷ [] else [])) →
    Picked w token count (i + 1) st old new
at_one_more w token count i st old now new is depth lt is_it depth_is so row =
    let one = one_where w token i (count - suc i) st in
    record {
      all = so.all ++ one;
      rows =
          row
          ∙ (λ j. with (so.rows j) (picking_row w token (if is_it j then candidate_at (depth_is j) st ∷ [] else []))) ∙
          with_more old (picking_row w token so.all) (picking_row w token one) ∙
          ap (with old) (sym (picking_more w (own w token) (span w token token) so.all one));
      left =
          append_assoc so.all one (selected w token (i + 1) (count - (i + 1)) st) ∙
          ap (λ (cs : List Candidate). so.all ++ cs) (sym (left_at w token i count st lt)) ∙ so.left;
    }

-- behind the last association the graph has the rows of all candidates of the selection
pub at_end : (w : World) (token count i : ℕ) (st : State) (old now : System) → count ≤ i
    → Picked w token count i st old now →
    now ≡ with old (picking_row w token (selected w token 0 count st))
at_end w token count i st old now le so =
    let none : count - i ≡ 0 = omega arith in
    so.rows ∙ ap (λ (cs : List Candidate). with old (picking_row w token cs))
    (sym (append-nil so.all) ∙ ap (λ (n : ℕ). so.all ++ selected w token i n st) (sym none) ∙ so.left)

-- the row of an association is refused
pub at_one_refused : (w : World) (token count i : ℕ) (st : State) (old now new : System)
    (fault : GraphFault) (is : Bool)
    (depth : ℕ) → i < count → is ≡ w.candidate (at w token) i → depth ≡ twice (count - suc i)
    → Picked w token count i st old now →
    StopsEarly now new fault (picking_row w token (if is then candidate_at depth st ∷ [] else [])) →
    StopsEarly old new fault (picking_row w token (selected w token 0 count st))
at_one_refused w token count i st old now new fault is depth lt is_it depth_is so stop =
    let one = one_where w token i (count - suc i) st in
    let others = selected w token (i + 1) (count - (i + 1)) st in
    let more = picking_more w (own w token) (span w token token) in
    stops_within old now new fault (picking_row w token so.all) (picking_row w token one) (picking_row w token others)
    (picking_row w token (selected w token 0 count st)) so.rows
    (ap (picking_row w token)
    (sym so.left ∙ ap (λ (cs : List Candidate). so.all ++ cs) (left_at w token i count st lt)) ∙
    more so.all (one ++ others) ∙ ap (λ (cs : List Constraint). picking_row w token so.all ++ cs) (more one others))
    (subst (StopsEarly now new fault)
    (λ j. picking_row w token (if is_it j then candidate_at (depth_is j) st ∷ [] else [])) stop)
