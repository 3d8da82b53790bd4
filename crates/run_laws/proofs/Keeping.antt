-- What all states of a run keep: the labels of each value are at or below what the assignment says of its position.
use Rattle.std.proofs.Common.{◌≡◌, ◌⊎◌, ℕ, ◌≤◌, Bool, true, false, ◌&&◌, nat_eq, if◌then◌else◌, List, [], ◌∷◌, ◌++◌, length, slice_get, Some, refl, subst, sym, ◌∙◌, ap, inl, inr}
use Rattle.std.proofs.lemmas.Bool.{eqb-true, and_parts}
use Rattle.qual_base.specs.declared.places.Owner.{Owner}
use Rattle.qual_base.specs.declared.places.Owner.TheVariants.{Nobody, Function}
use Rattle.lattice_core.specs.Order.{Order, IsOrder, leq}
use Rattle.flow_graph.specs.declared.constraint.Link.{Link}
use Rattle.flow_graph.specs.declared.constraint.Link.TheVariants.{Le, Const}
use Rattle.flow_graph.specs.declared.constraint.Site.{Site}
use Rattle.flow_graph.specs.System.{System, owner_of, Stands}
use Rattle.flow_graph.specs.CallStrings.{IsCopy, either}
use Rattle.flow_graph.specs.Unfolding.{Assignment, seen_from, at}
use Rattle.flow_graph.specs.Unfolding as copies
use Rattle.qual_types.specs.declared.look.Kind.{Kind}
use Rattle.qual_types.specs.Skel.{Skel, flat, ref, fun, root, nodes}
use Rattle.flow_rules.specs.declared.arrow.Arrow.TheVariants.{Flow, Cross}
use Rattle.flow_rules.specs.Lists.{pair, tied, equal_uneven, flow, cross}
use Rattle.flow_rules.specs.Owners.{IsIn}
use Rattle.run_laws.specs.Shapes.{Belongs, HasNoFun, MayDiffer, IsEven, IsAlike, IsTurned}
use Rattle.run_laws.specs.Programs.{Instr, number, local, shared, name, move, compute, shift, load, store, pass, take, Program, AllAre, IsFlow, IsThere, Goes, LabelsGo, AtFun, Asks, IsSystemOf}
use Rattle.run_laws.specs.Runs.{Raw, num, ptr, code, Value, plain, labelled, World, State, put, puts_reg, puts_cell, skel_at, Does, Reaches, IsBlank, Run, begins, steps, marks, marks_cell, IsBeside, IsAt, IsMoved}
use Rattle.run_laws.proofs.Types.{Tree, leaf, cell, arrow, Trees, top, join, into, top_join, into_join, read, kept, reads, Subs, AllSubs, AllBelow, below_more, below_both, subs_top}
use Rattle.run_laws.proofs.Types as types
use Rattle.run_laws.proofs.Flowing.{front, back, flow_subs, fun_subs, odd, params_sub, nobodys_kept}

-- a table that was written at one place
chosen : (P : Value → Type 0) (b : Bool) (x y : Value) → (b ≡ true → P x) → P y → P (if b then x else y)
chosen P true x y f g = f refl
chosen P false x y f g = g

pub false_not : false ≡ true → ⊥
false_not h = subst (λ b. elim b as (λ x. Type 0) [ true ↦ ⊥ | false ↦ Unit {0} ]) h tt

-- what holds of a table of values and of a new one holds of the table with the new one written in
put_keeps : (P : ℕ → ℕ → Value → Type 0) (held : ℕ → ℕ → Value) (i k : ℕ) (x : Value) → ((j l : ℕ) → P j l (held j l))
    → P i k x → (j l : ℕ) → P j l (put held i k x j l)
put_keeps P held i k x all new j l = chosen (P j l) (nat_eq i j && nat_eq k l) x (held j l)
    (λ h. let two = and_parts (nat_eq i j) (nat_eq k l) h in
    subst (λ m. P j m x) (eqb-true k l two.1) (subst (λ m. P m k x) (eqb-true i j two.0) new)) (all j l)

-- a raw value is a number, and no pointer and no code
abbrev IsNum : Raw → Type 0
IsNum (num n) = Unit {0}
IsNum (ptr o k) = ⊥
IsNum (code g sites) = ⊥

-- what a reference refers to, and any other skeleton itself
abbrev inner_skel : Skel → Skel
inner_skel (flat v k) = flat v k
inner_skel (ref v s) = s
inner_skel (fun v ps r e) = fun v ps r e

-- the top of what a register holds by a skeleton is the element of its root
pub top_read : (el : ℕ → ℕ) (s : Skel) → top (read el s) ≡ el (root s)
top_read el (flat v k) = refl
top_read el (ref v s) = refl
top_read el (fun v ps r e) = refl

-- the top of what a cell holds by a skeleton is the element of its root
pub top_kept : (el : ℕ → ℕ) (s : Skel) → top (kept el s) ≡ el (root s)
top_kept el (flat v k) = refl
top_kept el (ref v s) = top_join (el v) (kept el s)
top_kept el (fun v ps r e) = refl

-- a flow list begins with the pair of the roots
root_pair : (is : Link → Type 0) (a b : Skel) → AllAre is (flow Flow true a b) → is (Le (root a) (root b))
root_pair is (flat u k) (flat v l) h = h.0
root_pair is (flat u k) (ref v b) h = h.0
root_pair is (flat u k) (fun v qs s f) h = h.0
root_pair is (ref u a) (flat v l) h = h.0
root_pair is (ref u a) (ref v b) h = h.0
root_pair is (ref u a) (fun v qs s f) h = h.0
root_pair is (fun u ps r e) (flat v l) h = h.0
root_pair is (fun u ps r e) (ref v b) h = h.0
root_pair is (fun u ps r e) (fun v qs s f) h = h.0

-- where a skeleton belongs to an owner, its root does
pub belongs_root : (own : ℕ → Owner) (owner : Owner) (s : Skel) → Belongs own owner s → IsIn own owner (root s)
belongs_root own owner (flat v k) h = h
belongs_root own owner (ref v s) h = h.0
belongs_root own owner (fun v ps r e) h = h.0

-- the other frame of a step, where it has one
abbrev pub other : (p : Program) (w : World) (old new : State) (i : ℕ) (instr : Instr) → Does p w i instr old new → ℕ
other p w old new i (number r) does = i
other p w old new i (local r) does = i
other p w old new i (shared r) does = i
other p w old new i (name r s g) does = i
other p w old new i (move r a) does = i
other p w old new i (compute r a b) does = i
other p w old new i (shift r a) does = i
other p w old new i (load r a) does = i
other p w old new i (store a b) does = i
other p w old new i (pass f n a) does = does.1
other p w old new i (take r f) does = does.1

-- the depth leaves room for the copy of a frame
abbrev pub FitsIn : System → ℕ → World → ℕ → Type 0
FitsIn sys depth w i = IsCopy sys depth (w.frame i).owner (w.frame i).sites

-- for those of all frames of a run
abbrev pub AllFit : (sys : System) (lattice depth : ℕ) (p : Program) (w : World) (st : State) → Run sys lattice p w st
    → Type 0
AllFit sys lattice depth p w st (begins _ blank) = Unit {0}
AllFit sys lattice depth p w st (steps old _ i instr run among does) =
    FitsIn sys depth w i × FitsIn sys depth w (other p w old st i instr does) × AllFit sys lattice depth p w old run
AllFit sys lattice depth p w st (marks old _ i r n e run stands is) =
    FitsIn sys depth w i × AllFit sys lattice depth p w old run
AllFit sys lattice depth p w st (marks_cell old _ i r o k n e t run reaches stands is) =
    FitsIn sys depth w i × AllFit sys lattice depth p w old run

module _ (sys : System) (lattice : ℕ) (order : Order) (depth : ℕ) (map : Assignment) (p : Program) (w : World)
    (ordered : IsOrder order) (rises : copies.Rises sys lattice order depth map) (of : IsSystemOf sys lattice p) where
  abbrev pub el : List ℕ → ℕ → ℕ
  el sites v = at sys map v sites

  abbrev pub type_at : ℕ → ℕ → Tree
  type_at i r = read (el (w.frame i).sites) (skel_at p w i r)

  abbrev pub held : ℕ → Tree
  held o = kept (el (w.object o).sites) (w.object o).skel

  abbrev pub Points : Raw → Tree → Type 0
  Points (num n) t = Unit {0}
  Points (ptr o k) t = held o ≡ t
  Points (code g sites) t =
      IsCopy sys depth (Function g) sites → Subs order true (kept (el sites) (inner_skel (p.signature g))) t

  abbrev pub Has : Tree → Raw → Type 0
  Has (leaf q) raw = IsNum raw
  Has (cell q t) raw = Points raw t
  Has (arrow q ps t) raw = IsNum raw

  abbrev pub Typed : Value → Tree → Type 0
  Typed x t = AllBelow order x.labels (top t) × Has t x.raw

  -- the same of what a cell holds, which may be an address where the cell is seen as `void`
  abbrev pub InCell : Value → Tree → Type 0
  InCell x t = AllBelow order x.labels (top t) × Points x.raw (into t)

  pub record Good (st : State) : Type 0 where
    pub regs : (i r : ℕ) → Typed (st.regs i r) (type_at i r)
    pub cells : (o k : ℕ) → InCell (st.cells o k) (held o)

  reg_keeps : (st : State) (i r : ℕ) (x : Value) → Good st → Typed x (type_at i r) → Good (puts_reg st i r x)
  reg_keeps st i r x good typed =
      record { regs = put_keeps (λ j l y. Typed y (type_at j l)) st.regs i r x good.regs typed; cells = good.cells }

  cell_keeps : (st : State) (o k : ℕ) (x : Value) → Good st → InCell x (held o) → Good (puts_cell st o k x)
  cell_keeps st o k x good typed =
      record { regs = good.regs; cells = put_keeps (λ j l y. InCell y (held j)) st.cells o k x good.cells typed }

  has_num : (t : Tree) (n : ℕ) → Has t (num n)
  has_num (leaf q) n = tt
  has_num (cell q t) n = tt
  has_num (arrow q ps t) n = tt

  -- a value goes up
  has_up : (s t : Tree) (raw : Raw) → Subs order true s t → Has s raw → Has t raw
  has_up (leaf q) (leaf r) raw h has = has
  has_up (leaf q) (cell r t) raw h has = absurd h
  has_up (leaf q) (arrow r qs t) raw h has = absurd h
  has_up (cell q s) (leaf r) raw h has = absurd h
  has_up (cell q s) (cell r t) raw h has = subst (λ x. Points raw x) h.1 has
  has_up (cell q s) (arrow r qs t) raw h has = absurd h
  has_up (arrow q ps s) (leaf r) raw h has = absurd h
  has_up (arrow q ps s) (cell r t) raw h has = absurd h
  has_up (arrow q ps s) (arrow r qs t) raw h has = has

  up : (s t : Tree) (x : Value) → Subs order true s t → Typed x s → Typed x t
  up s t x h typed =
      (below_more order x.labels (top s) (top t) ordered (subs_top order s t h) typed.0, has_up s t x.raw h typed.1)

  -- nobody's variables are the same in each copy
  nobody_at : (v : ℕ) (sites : List ℕ) → owner_of sys v ≡ Nobody → el sites v ≡ el [] v
  nobody_at v sites h = ap (λ o. map v (seen_from o sites)) h ∙ sym (ap (λ o. map v (seen_from o [])) h)

  -- a copy in which a variable of a frame is met
  pub record IsMetIn (v : ℕ) (sites : List ℕ) : Type 0 where
    pub there : List ℕ
    pub copy : IsCopy sys depth (owner_of sys v) there
    pub same : el there v ≡ el sites v

  pub met_in : (owner : Owner) (sites : List ℕ) (v : ℕ) → IsCopy sys depth owner sites → IsIn (owner_of sys) owner v
      → IsMetIn v sites
  met_in owner sites v copy (inl h) =
      record { there = sites; copy = subst (λ o. IsCopy sys depth o sites) (sym h) copy; same = refl }
  met_in owner sites v copy (inr h) =
      record { there = []; copy = subst (λ o. IsCopy sys depth o []) (sym h) refl; same = sym (nobody_at v sites h) }

  both_nobody : (sites : List ℕ) (n u v : ℕ) → Stands sys lattice n (Le u v) → owner_of sys u ≡ Nobody
      → owner_of sys v ≡ Nobody →
      leq order (el sites u) (el sites v) ≡ true
  both_nobody sites n u v st hu hv =
      let low : leq order (el [] u) (el [] v) ≡ true = rises.le n u v [] st
      (subst (λ o. IsCopy sys depth (either o (owner_of sys v)) []) (sym hu)
      (subst (λ o. IsCopy sys depth o []) (sym hv) refl)) in
      subst (λ x. leq order x (el sites v) ≡ true) (sym (nobody_at u sites hu))
      (subst (λ x. leq order (el [] u) x ≡ true) (sym (nobody_at v sites hv)) low)

  le_holds_nobody : (sites : List ℕ) (n u v : ℕ) → Stands sys lattice n (Le u v) → owner_of sys u ≡ Nobody
      → IsIn (owner_of sys) Nobody v →
      leq order (el sites u) (el sites v) ≡ true
  le_holds_nobody sites n u v st hu (inl hv) = both_nobody sites n u v st hu hv
  le_holds_nobody sites n u v st hu (inr hv) = both_nobody sites n u v st hu hv

  le_holds : (owner : Owner) (sites : List ℕ) (n u v : ℕ) → IsCopy sys depth owner sites
      → Stands sys lattice n (Le u v) →
      IsIn (owner_of sys) owner u → IsIn (owner_of sys) owner v → leq order (el sites u) (el sites v) ≡ true
  le_holds Nobody sites n u v copy st (inl hu) hv = le_holds_nobody sites n u v st hu hv
  le_holds Nobody sites n u v copy st (inr hu) hv = le_holds_nobody sites n u v st hu hv
  le_holds (Function f) sites n u v copy st (inl hu) hv =
      rises.le n u v sites st (subst (λ o. IsCopy sys depth (either o (owner_of sys v)) sites) (sym hu) copy)
  le_holds (Function f) sites n u v copy st (inr hu) (inl hv) = rises.le n u v sites st
      (subst (λ o. IsCopy sys depth (either o (owner_of sys v)) sites) (sym hu)
      (subst (λ o. IsCopy sys depth o sites) (sym hv) copy))
  le_holds (Function f) sites n u v copy st (inr hu) (inr hv) = le_holds_nobody sites n u v st hu (inl hv)

  abbrev owner_at : ℕ → Owner
  owner_at i = (w.frame i).owner

  abbrev sites_at : ℕ → List ℕ
  sites_at i = (w.frame i).sites

  abbrev Fits : ℕ → Type 0
  Fits i = FitsIn sys depth w i

  flow_one : (i : ℕ) → Fits i → (forward : Bool) (u v : ℕ)
      → AllAre (IsFlow sys lattice (owner_at i)) (pair Flow forward u v)
      → types.Goes order forward (el (sites_at i) u) (el (sites_at i) v)
  flow_one i deep true u v h = le_holds (owner_at i) (sites_at i) h.0.0.0 u v deep h.0.0.1 h.0.1.0 h.0.1.1
  flow_one i deep false u v h = le_holds (owner_at i) (sites_at i) h.0.0.0 v u deep h.0.0.1 h.0.1.0 h.0.1.1

  -- what a `void` is beside references, in one copy
  all_flow : (i : ℕ) → Fits i → (u v : ℕ) → IsFlow sys lattice (owner_at i) (Le u v)
      → leq order (el (sites_at i) u) (el (sites_at i) v) ≡ true
  all_flow i deep u v h = flow_one i deep true u v (h, tt)

  level : (i : ℕ) → Fits i → (u v : ℕ) → IsFlow sys lattice (owner_at i) (Le u v)
      → IsFlow sys lattice (owner_at i) (Le v u) → el (sites_at i) u ≡ el (sites_at i) v
  level i deep u v h k =
      ordered.apart (el (sites_at i) u) (el (sites_at i) v) (all_flow i deep u v h) (all_flow i deep v u k)

  is_odd : (i : ℕ) → Fits i → (u v : ℕ) (s : Skel) → HasNoFun s → el (sites_at i) u ≡ el (sites_at i) v
      → AllAre (IsFlow sys lattice (owner_at i)) (tied (nodes s) v) →
      join (el (sites_at i) u) (kept (el (sites_at i)) s) ≡ leaf (el (sites_at i) v)
  is_odd i deep u v s none same h =
      odd order ordered (IsFlow sys lattice (owner_at i)) (el (sites_at i)) (all_flow i deep) u v s none same h

  odd_right : (i : ℕ) → Fits i → (forward : Bool) (u v : ℕ) (k : Kind) (b : Skel) → MayDiffer true b
      → AllAre (IsFlow sys lattice (owner_at i)) (equal_uneven Flow forward (flat u k) (ref v b)) →
      leaf (el (sites_at i) u) ≡ join (el (sites_at i) v) (kept (el (sites_at i)) b)
  odd_right i deep true u v k b none h =
      ap (λ q. leaf q) (level i deep u v h.0 h.1.0) ∙ sym (is_odd i deep v v b none refl h.1.1)
  odd_right i deep false u v k b none h =
      sym (is_odd i deep v u b none (level i deep v u h.0 h.1.0)
      (front (IsFlow sys lattice (owner_at i)) (tied (nodes b) u) [] h.1.1))

  odd_left : (i : ℕ) → Fits i → (forward : Bool) (u v : ℕ) (l : Kind) (a : Skel) → MayDiffer true a
      → AllAre (IsFlow sys lattice (owner_at i)) (equal_uneven Flow forward (ref u a) (flat v l)) →
      join (el (sites_at i) u) (kept (el (sites_at i)) a) ≡ leaf (el (sites_at i) v)
  odd_left i deep true u v l a none h =
      is_odd i deep u v a none (level i deep u v h.0 h.1.0)
      (front (IsFlow sys lattice (owner_at i)) (tied (nodes a) v) [] h.1.1)
  odd_left i deep false u v l a none h =
      is_odd i deep u u a none refl h.1.1 ∙ ap (λ q. leaf q) (level i deep u v h.1.0 h.0)

  flow_up : (i : ℕ) (a b : Skel) → Fits i → AllAre (IsFlow sys lattice (owner_at i)) (flow Flow true a b)
      → IsEven true a b → Subs order true (read (el (sites_at i)) a) (read (el (sites_at i)) b)
  flow_up i a b deep there even =
      flow_subs order ordered Flow (IsFlow sys lattice (owner_at i)) (el (sites_at i)) (el (sites_at i)) true
      (flow_one i deep) (odd_right i deep) (odd_left i deep) true a b even there

  labels_go : (i : ℕ) (a b : Skel) (ls : List ℕ) → Fits i → LabelsGo sys lattice (owner_at i) (root a) (root b)
      → AllBelow order ls (top (read (el (sites_at i)) a)) →
      AllBelow order ls (top (read (el (sites_at i)) b))
  labels_go i a b ls deep (inl same) below =
      subst (λ q. AllBelow order ls q)
      (top_read (el (sites_at i)) a ∙ (ap (el (sites_at i)) same ∙ sym (top_read (el (sites_at i)) b))) below
  labels_go i a b ls deep (inr flow) below = subst (λ q. AllBelow order ls q) (sym (top_read (el (sites_at i)) b))
      (below_more order ls (el (sites_at i) (root a)) (el (sites_at i) (root b)) ordered
      (flow_one i deep true (root a) (root b) (flow, tt))
      (subst (λ q. AllBelow order ls q) (top_read (el (sites_at i)) a) below))

  points_num : (raw : Raw) (t : Tree) → IsNum raw → Points raw t
  points_num (num n) t h = tt
  points_num (ptr o k) t h = absurd h
  points_num (code g sites) t h = absurd h

  same_moved : (el : ℕ → ℕ) (b : Skel) (old raw : Raw) → IsMoved b old raw → Has (read el b) old → Has (read el b) raw
  same_moved el (flat v l) old raw m has = subst (λ x. IsNum x) (sym m.1) tt
  same_moved el (ref v b) old raw m has = subst (λ x. Points x (kept el b)) (sym m) has
  same_moved el (fun v ps r e) old raw m has = subst (λ x. IsNum x) (sym m) has

  has_moved : (i : ℕ) (a b : Skel) (old raw : Raw) → Fits i
      → AllAre (IsFlow sys lattice (owner_at i)) (flow Flow true a b) → IsEven true a b ⊎ IsTurned a b
      → IsMoved b old raw →
      Has (read (el (sites_at i)) a) old → Has (read (el (sites_at i)) b) raw
  has_moved i (flat u k) (flat v l) old raw deep there even m has = subst (λ x. IsNum x) (sym m.1) tt
  has_moved i (ref u a) (flat v l) old raw deep there even m has = subst (λ x. IsNum x) (sym m.1) tt
  has_moved i (fun u ps r e) (flat v l) old raw deep there even m has = subst (λ x. IsNum x) (sym m.1) tt
  has_moved i (flat u k) (ref v b) old raw deep there even m has =
      subst (λ x. Points x (kept (el (sites_at i)) b)) (sym m) (points_num old (kept (el (sites_at i)) b) has)
  has_moved i (ref u a) (ref v b) old raw deep there (inl even) m has =
      let same : kept (el (sites_at i)) a ≡ kept (el (sites_at i)) b =
      (flow_up i (ref u a) (ref v b) deep there even).1 in
      subst (λ x. Points x (kept (el (sites_at i)) b)) (sym m) (subst (λ t. Points old t) same has)
  has_moved i (ref u a) (ref v b) old raw deep there (inr turned) m has = absurd turned
  has_moved i (fun u ps r e) (ref v b) old raw deep there (inl even) m has = absurd even
  has_moved i (fun u ps r e) (ref v b) old raw deep there (inr turned) m has = absurd turned
  has_moved i (flat u k) (fun v qs s f) old raw deep there (inl even) m has = absurd even
  has_moved i (flat u k) (fun v qs s f) old raw deep there (inr turned) m has = absurd turned
  has_moved i (ref u a) (fun v qs s f) old raw deep there (inl even) m has = absurd even
  has_moved i (ref u a) (fun v qs s f) old raw deep there (inr turned) m has = absurd turned
  has_moved i (fun u ps r e) (fun v qs s f) old raw deep there (inl even) m has = absurd even
  has_moved i (fun u ps r e) (fun v qs s f) old raw deep there (inr turned) m has = absurd turned

  typed_goes : (i : ℕ) (a b : Skel) (x : Value) (raw : Raw) → Fits i → Goes sys lattice (owner_at i) a b
      → IsMoved b x.raw raw → Typed x (read (el (sites_at i)) a) →
      Typed (record { labels = x.labels; raw = raw }) (read (el (sites_at i)) b)
  typed_goes i a b x raw deep (inl same) m typed =
      let there : Typed x (read (el (sites_at i)) b) = subst (λ s. Typed x (read (el (sites_at i)) s)) same typed in
      (there.0, same_moved (el (sites_at i)) b x.raw raw m there.1)
  typed_goes i a b x raw deep (inr flows) m typed = (
    labels_go i a b x.labels deep (inr (root_pair (IsFlow sys lattice (owner_at i)) a b flows.there)) typed.0,
    has_moved i a b x.raw raw deep flows.there flows.even m typed.1,
  )

  cross_one : (i s : ℕ) (site : Site) → Fits i → slice_get sys.sites s ≡ Some site → site.owner ≡ owner_at i
      → length (s ∷ sites_at i) ≤ depth →
      (forward : Bool) (u v : ℕ) → AllAre (IsThere sys lattice) (pair (Cross s) forward u v)
      → types.Goes order forward (el (s ∷ sites_at i) u) (el (sites_at i) v)
  cross_one i s site deep there own fits true u v h =
      rises.leave h.0.0 s u v site (sites_at i) h.0.1 there
      (subst (λ o. IsCopy sys depth o (sites_at i)) (sym own) deep) fits
  cross_one i s site deep there own fits false u v h =
      rises.enter h.0.0 s v u site (sites_at i) h.0.1 there
      (subst (λ o. IsCopy sys depth o (sites_at i)) (sym own) deep) fits

  -- a function by its name, at the instance of a site
  named : (i s g : ℕ) (site : Site) (b : Skel) (d : AtFun (p.signature g)) (a : AtFun b) → Fits i
      → slice_get sys.sites s ≡ Some site → site.owner ≡ owner_at i →
      AllAre (IsThere sys lattice) (cross s (p.signature g) b) → IsAlike false (p.signature g) b
      → Has (read (el (sites_at i)) b) (code g (s ∷ sites_at i))
  named i s g site b d a deep there own h even =
      let sig : Skel = fun d.node d.params d.result d.ellipsis in
      let inst : Skel = fun a.node a.params a.result a.ellipsis in
      let h1 : AllAre (IsThere sys lattice) (cross s (ref d.var sig) (ref a.var inst)) =
      subst (λ y. AllAre (IsThere sys lattice) (cross s (ref d.var sig) y)) a.is
      (subst (λ x. AllAre (IsThere sys lattice) (cross s x b)) d.is h) in
      let e1 : IsAlike false (ref d.var sig) (ref a.var inst) =
      subst (λ y. IsAlike false (ref d.var sig) y) a.is (subst (λ x. IsAlike false x b) d.is even) in
      subst (λ y. Has (read (el (sites_at i)) y) (code g (s ∷ sites_at i))) (sym a.is)
      (λ copy. subst (λ x. Subs order true (kept (el (s ∷ sites_at i)) (inner_skel x)) (kept (el (sites_at i)) inst))
      (sym d.is) (fun_subs order ordered (Cross s) (IsThere sys lattice) (el (s ∷ sites_at i)) (el (sites_at i)) false
      (cross_one i s site deep there own copy.1) (λ forward u v k t no _. absurd no) (λ forward u v l t no _. absurd no)
      true d.node a.node d.params a.params d.result a.result d.ellipsis a.ellipsis e1
      (back (IsThere sys lattice) (pair (Cross s) true d.var a.var) (flow (Cross s) true sig inst) h1)))

  -- what the address of a cell tells of it
  points : (el : ℕ → ℕ) (s : Skel) (v : ℕ) (t : Skel) (raw : Raw) (o k : ℕ) → s ≡ ref v t → Has (read el s) raw
      → raw ≡ ptr o k → held o ≡ kept el t
  points el s v t raw o k is has at_cell =
      subst (λ y. Has (read el (ref v t)) y) at_cell (subst (λ x. Has (read el x) raw) is has)

  -- what a register holds may be put into a cell, and back
  to_cell : (el : ℕ → ℕ) (s : Skel) (x : Value) → Typed x (read el s) → InCell x (kept el s)
  to_cell el (flat v k) x typed = (typed.0, points_num x.raw (leaf (el v)) typed.1)
  to_cell el (ref v s) x typed = (
    subst (λ q. AllBelow order x.labels q) (sym (top_join (el v) (kept el s))) typed.0,
    subst (λ t. Points x.raw t) (sym (into_join (el v) (kept el s))) typed.1,
  )
  to_cell el (fun v ps r e) x typed = (typed.0, points_num x.raw (into (read el (fun v ps r e))) typed.1)

  at_flat : (v : ℕ) (k : Kind) (raw : Raw) → IsAt (flat v k) raw → IsNum raw
  at_flat v k (num n) h = tt
  at_flat v k (ptr o l) h = absurd h
  at_flat v k (code g sites) h = absurd h

  from_cell : (el : ℕ → ℕ) (s : Skel) (x : Value) → IsAt s x.raw → InCell x (kept el s) → Typed x (read el s)
  from_cell el (flat v k) x is h = (h.0, at_flat v k x.raw is)
  from_cell el (ref v s) x is h = (
    subst (λ q. AllBelow order x.labels q) (top_join (el v) (kept el s)) h.0,
    subst (λ t. Points x.raw t) (into_join (el v) (kept el s)) h.1,
  )
  from_cell el (fun v ps r e) x is h = absurd is

  shifted_num : (old new : Raw) → IsBeside old new → IsNum old → IsNum new
  shifted_num (num n) new beside h = subst (λ x. IsNum x) (sym beside.1) tt
  shifted_num (ptr o k) new beside h = absurd h
  shifted_num (code g sites) new beside h = absurd h

  shifted : (t : Tree) (old new : Raw) → IsBeside old new → Has t old → Has t new
  shifted (leaf q) old new beside h = shifted_num old new beside h
  shifted (cell q t) (num n) new beside h = subst (λ x. Points x t) (sym beside.1) tt
  shifted (cell q t) (ptr o k) new beside h = subst (λ x. Points x t) (sym beside.1) h
  shifted (cell q t) (code g sites) new beside h = subst (λ x. Points x t) (sym beside) h
  shifted (arrow q ps t) old new beside h = shifted_num old new beside h

  called : (i f j g : ℕ) → Fits j → (sites : List ℕ) (callee : AtFun (skel_at p w i f)) (st : State) → Good st
      → (st.regs i f).raw ≡ code g sites →
      w.frame j ≡ record { owner = Function g; sites = sites } → (d : AtFun (p.signature g)) →
      Subs order true (kept (el sites) (fun d.node d.params d.result d.ellipsis))
      (kept (el (sites_at i)) (fun callee.node callee.params callee.result callee.ellipsis))
  called i f j g deep sites callee st good is_code frame d =
      let copy : IsCopy sys depth (Function g) sites = subst (λ x. IsCopy sys depth x.owner x.sites) frame deep in
      let inner : Skel = fun callee.node callee.params callee.result callee.ellipsis in
      let has : Has (read (el (sites_at i)) (ref callee.var inner)) (st.regs i f).raw =
      subst (λ x. Has (read (el (sites_at i)) x) (st.regs i f).raw) callee.is (good.regs i f).1 in
      let at_code : Has (read (el (sites_at i)) (ref callee.var inner)) (code g sites) =
      subst (λ x. Has (read (el (sites_at i)) (ref callee.var inner)) x) is_code has in
      subst (λ x. Subs order true (kept (el sites) (inner_skel x)) (kept (el (sites_at i)) inner)) d.is (at_code copy)

  steps_keep : (old new : State) (i : ℕ) (instr : Instr) → Good old → Asks sys lattice p (owner_at i) instr
      → (does : Does p w i instr old new) →
      Fits i → Fits (other p w old new i instr does) → Good new
  steps_keep old new i (number r) good asks does deep deep2 =
      subst Good (sym does.1) (reg_keeps old i r (plain (num does.0)) good (tt, has_num (type_at i r) does.0))
  steps_keep old new i (local r) good asks (o, k, place, made, is) deep deep2 =
      let holds : held o ≡ kept (el (sites_at i)) place.inside = ap (λ x. kept (el x.sites) x.skel) made in
      let has : Has (type_at i r) (ptr o k) =
      subst (λ x. Has (read (el (sites_at i)) x) (ptr o k)) (sym place.is) holds in
      subst Good (sym is) (reg_keeps old i r (plain (ptr o k)) good (tt, has))
  steps_keep old new i (shared r) good asks (o, k, place, made, is) deep deep2 =
      let same : asks.0.inside ≡ place.inside = ap inner_skel (sym asks.0.is ∙ place.is) in
      let mine : Belongs (owner_of sys) Nobody place.inside =
      subst (λ x. Belongs (owner_of sys) Nobody x) same asks.1 in
      let holds : held o ≡ kept (el []) place.inside = ap (λ x. kept (el x.sites) x.skel) made in
      let moved : kept (el []) place.inside ≡ kept (el (sites_at i)) place.inside = nobodys_kept (owner_of sys) (el [])
      (el (sites_at i)) place.inside (λ v h. sym (nobody_at v (sites_at i) h)) mine in
      let has : Has (type_at i r) (ptr o k) =
      subst (λ x. Has (read (el (sites_at i)) x) (ptr o k)) (sym place.is) (holds ∙ moved) in
      subst Good (sym is) (reg_keeps old i r (plain (ptr o k)) good (tt, has))
  steps_keep old new i (name r s g) good asks does deep deep2 =
      subst Good (sym does) (reg_keeps old i r (plain (code g (s ∷ sites_at i))) good (
        tt,
        named i s g asks.site (skel_at p w i r)
            (of.declared g).at asks.at deep asks.there asks.owner_is asks.crosses asks.even,
      ))
  steps_keep old new i (move r a) good asks (raw, moved, is) deep deep2 =
      subst Good (sym is) (reg_keeps old i r (record { labels = (old.regs i a).labels; raw = raw }) good
      (typed_goes i (skel_at p w i a) (skel_at p w i r) (old.regs i a) raw deep asks moved (good.regs i a)))
  steps_keep old new i (compute r a b) good asks (n, is) deep deep2 =
      let one : AllBelow order (old.regs i a).labels (top (type_at i r)) =
      labels_go i (skel_at p w i a) (skel_at p w i r) (old.regs i a).labels deep asks.0 (good.regs i a).0 in
      let two : AllBelow order (old.regs i b).labels (top (type_at i r)) =
      labels_go i (skel_at p w i b) (skel_at p w i r) (old.regs i b).labels deep asks.1 (good.regs i b).0 in
      subst Good (sym is)
      (reg_keeps old i r (record { labels = (old.regs i a).labels ++ (old.regs i b).labels; raw = num n }) good (
        below_both order (old.regs i a).labels (old.regs i b).labels (top (type_at i r)) one two,
        has_num (type_at i r) n,
      ))
  steps_keep old new i (shift r a) good asks (raw, beside, is) deep deep2 =
      let typed : Typed (record { labels = (old.regs i a).labels; raw = raw }) (type_at i a) =
      ((good.regs i a).0, shifted (type_at i a) (old.regs i a).raw raw beside (good.regs i a).1) in
      subst Good (sym is) (reg_keeps old i r (record { labels = (old.regs i a).labels; raw = raw }) good
      (subst (λ x. Typed (record { labels = (old.regs i a).labels; raw = raw }) (read (el (sites_at i)) x))
      (sym asks) typed))
  steps_keep old new i (load r a) good asks (o, k, at_cell, fits, is) deep deep2 =
      let same : held o ≡ kept (el (sites_at i)) (skel_at p w i r) = points (el (sites_at i)) (skel_at p w i a) asks.0
      (skel_at p w i r) (old.regs i a).raw o k asks.1 (good.regs i a).1 at_cell in
      subst Good (sym is) (reg_keeps old i r (old.cells o k) good
      (from_cell (el (sites_at i)) (skel_at p w i r) (old.cells o k) fits
      (subst (λ t. InCell (old.cells o k) t) same (good.cells o k))))
  steps_keep old new i (store a b) good asks (o, k, at_cell, is) deep deep2 =
      let same : held o ≡ kept (el (sites_at i)) (skel_at p w i b) = points (el (sites_at i)) (skel_at p w i a) asks.0
      (skel_at p w i b) (old.regs i a).raw o k asks.1 (good.regs i a).1 at_cell in
      subst Good (sym is) (cell_keeps old o k (old.regs i b) good
      (subst (λ t. InCell (old.regs i b) t) (sym same)
      (to_cell (el (sites_at i)) (skel_at p w i b) (old.regs i b) (good.regs i b))))
  steps_keep old new i (pass f n a) good asks (g, j, sites, is_code, frame, is) deep deep2 =
      let d = (of.declared g).at in
      let subs = called i f j g deep2 sites asks.0 old good is_code frame d in
      let found =
      params_sub order (el sites) (el (sites_at i)) d.params asks.0.params n (skel_at p w i a) subs.1 asks.1 in
      let reg : found.skel ≡ p.skel (Function g) (p.param g n) = (of.declared g).param_is n found.skel found.there in
      let below : Subs order true (type_at i a) (read (el sites) (p.skel (Function g) (p.param g n))) =
      subst (λ x. Subs order true (type_at i a) (read (el sites) x)) reg found.below in
      let typed : Typed (old.regs i a) (read (el sites) (p.skel (Function g) (p.param g n))) =
      up (type_at i a) (read (el sites) (p.skel (Function g) (p.param g n))) (old.regs i a) below (good.regs i a) in
      subst Good (sym is) (reg_keeps old j (p.param g n) (old.regs i a) good
      (subst (λ x. Typed (old.regs i a) (read (el x.sites) (p.skel x.owner (p.param g n)))) (sym frame) typed))
  steps_keep old new i (take r f) good asks (g, j, sites, is_code, frame, is) deep deep2 =
      let d = (of.declared g).at in
      let subs = called i f j g deep2 sites asks.0 old good is_code frame d in
      let from : Subs order true (read (el sites) (p.skel (Function g) (p.outcome g)))
      (read (el (sites_at i)) asks.0.result) =
      subst (λ x. Subs order true (read (el sites) x) (read (el (sites_at i)) asks.0.result))
      (of.declared g).result_is subs.2 in
      let there : Typed (old.regs j (p.outcome g)) (read (el sites) (p.skel (Function g) (p.outcome g))) =
      subst (λ x. Typed (old.regs j (p.outcome g)) (read (el x.sites) (p.skel x.owner (p.outcome g)))) frame
      (good.regs j (p.outcome g)) in
      let typed : Typed (old.regs j (p.outcome g)) (read (el (sites_at i)) asks.0.result) =
      up (read (el sites) (p.skel (Function g) (p.outcome g))) (read (el (sites_at i)) asks.0.result)
      (old.regs j (p.outcome g)) from there in
      subst Good (sym is) (reg_keeps old i r (old.regs j (p.outcome g)) good
      (subst (λ x. Typed (old.regs j (p.outcome g)) (read (el (sites_at i)) x)) asks.1 typed))

  -- the cell that a value leads to is at the part of the skeleton
  pub record IsPart (owner : Owner) (sites : List ℕ) (o : ℕ) (t : Skel) : Type 0 where
    pub same : held o ≡ kept (el sites) t
    pub belongs : Belongs (owner_of sys) owner t

  abbrev Leads : (ℕ → ℕ) → Skel → Raw → Type 0
  Leads el (flat v k) raw = Unit {0}
  Leads el (ref v s) raw = Points raw (kept el s)
  Leads el (fun v ps r e) raw = Unit {0}

  pub reg_leads : (el : ℕ → ℕ) (s : Skel) (x : Value) → Typed x (read el s) → Leads el s x.raw
  reg_leads el (flat v k) x h = tt
  reg_leads el (ref v s) x h = h.1
  reg_leads el (fun v ps r e) x h = tt

  cell_leads : (el : ℕ → ℕ) (s : Skel) (x : Value) → InCell x (kept el s) → Leads el s x.raw
  cell_leads el (flat v k) x h = tt
  cell_leads el (ref v s) x h = subst (λ t. Points x.raw t) (into_join (el v) (kept el s)) h.1
  cell_leads el (fun v ps r e) x h = tt

  pub reached : (st : State) (owner : Owner) (sites : List ℕ) (x : Value) (s : Skel) (o k : ℕ) (t : Skel) → Good st
      → Leads (el sites) s x.raw →
      Belongs (owner_of sys) owner s → Reaches st x s o k t → IsPart owner sites o t
  reached st owner sites x (flat u m) o k t good leads mine reaches = absurd reaches
  reached st owner sites x (fun u ps r e) o k t good leads mine reaches = absurd reaches
  reached st owner sites x (ref u s) o k t good leads mine (a, b, is, inl here) =
      let same : held a ≡ kept (el sites) s = subst (λ y. Points y (kept (el sites) s)) is leads in
      record {
        same = subst (λ m. held m ≡ kept (el sites) t) here.0 (subst (λ y. held a ≡ kept (el sites) y) here.2 same);
        belongs = subst (λ y. Belongs (owner_of sys) owner y) here.2 mine.1;
      }
  reached st owner sites x (ref u s) o k t good leads mine (a, b, is, inr on) =
      let same : held a ≡ kept (el sites) s = subst (λ y. Points y (kept (el sites) s)) is leads in
      reached st owner sites (st.cells a b) s o k t good
      (cell_leads (el sites) s (st.cells a b) (subst (λ y. InCell (st.cells a b) y) same (good.cells a b))) mine.1 on

  const_holds : (i n e : ℕ) (s : Skel) → Fits i → Belongs (owner_of sys) (owner_at i) s
      → Stands sys lattice n (Const lattice e (root s)) → leq order e (el (sites_at i) (root s)) ≡ true
  const_holds i n e s deep mine st =
      let met = met_in (owner_at i) (sites_at i) (root s) deep (belongs_root (owner_of sys) (owner_at i) s mine) in
      subst (λ q. leq order e q ≡ true) met.same (rises.const n e (root s) met.there st met.copy)

  blank_is : (st : State) → IsBlank st → Good st
  blank_is st blank = record {
    regs = λ i r. subst (λ x. Typed x (type_at i r)) (sym (blank.0 i r)) (tt, has_num (type_at i r) 0);
    cells = λ o k. subst (λ x. InCell x (held o)) (sym (blank.1 o k)) (tt, tt);
  }

  pub runs_keep : (st : State) (run : Run sys lattice p w st) → AllFit sys lattice depth p w st run → Good st
  runs_keep st (begins _ blank) fit = blank_is st blank
  runs_keep st (steps old _ i instr run among does) fit =
      steps_keep old st i instr (runs_keep old run fit.2) (of.asks (owner_at i) instr among) does fit.0 fit.1
  runs_keep st (marks old _ i r n e run stands is) fit =
      let good = runs_keep old run fit.1 in
      subst Good (sym is) (reg_keeps old i r (labelled e (old.regs i r)) good (
        (
          subst (λ q. leq order e q ≡ true) (sym (top_read (el (sites_at i)) (skel_at p w i r)))
              (const_holds i n e (skel_at p w i r) fit.0 (of.belongs (owner_at i) r) stands),
          (good.regs i r).0,
        ),
        (good.regs i r).1,
      ))
  runs_keep st (marks_cell old _ i r o k n e t run reaches stands is) fit =
      let good = runs_keep old run fit.1 in
      let part = reached old (owner_at i) (sites_at i) (old.regs i r) (skel_at p w i r) o k t good (reg_leads
      (el (sites_at i)) (skel_at p w i r) (old.regs i r) (good.regs i r)) (of.belongs (owner_at i) r) reaches in
      subst Good (sym is) (cell_keeps old o k (labelled e (old.cells o k)) good (
        (
          subst (λ q. leq order e q ≡ true) (sym (ap (λ y. top y) part.same ∙ top_kept (el (sites_at i)) t))
              (const_holds i n e t fit.0 part.belongs stands),
          (good.cells o k).0,
        ),
        (good.cells o k).1,
      ))
