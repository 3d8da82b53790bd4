-- Skeletons read under an assignment: trees of elements (the qualified types of Foster, Fähndrich and Aiken), and their
-- order.
use Rattle.std.proofs.Common.{◌≡◌, ℕ, Bool, true, false, not, List, [], ◌∷◌, ◌++◌, refl, subst, inl, inr, sym, ap, nat_eq, if◌then◌else◌}
use Rattle.std.proofs.lemmas.Bool.{eqb-true, eq-eqb}
use Rattle.lattice_core.specs.Order.{Order, IsOrder, leq}
use Rattle.qual_types.specs.Skel.{Skel, flat, ref, fun, Skels, no_skels, more_skels}
use Rattle.run_laws.specs.Runs.{IsOneOf}

mutual
  pub data Tree : Type 0 where
    leaf : ℕ → Tree
    cell : ℕ → Tree → Tree
    arrow : ℕ → Trees → Tree → Tree

  pub data Trees : Type 0 where
    no_trees : Trees
    more_trees : Tree → Trees → Trees

-- the element at the top of a tree
abbrev pub top : Tree → ℕ
top (leaf q) = q
top (cell q t) = q
top (arrow q ps t) = q

-- A cell that holds what is all of its own element is as that element: a `void` that it may be seen as.
abbrev pub join : ℕ → Tree → Tree
join q (leaf r) = if nat_eq q r then leaf q else cell q (leaf r)
join q (cell r t) = cell q (cell r t)
join q (arrow r ps t) = cell q (arrow r ps t)

-- what the cell of a tree holds, and any other tree itself
abbrev pub into : Tree → Tree
into (leaf q) = leaf q
into (cell q t) = t
into (arrow q ps t) = arrow q ps t

-- a skeleton with the elements of its variables: of what a register holds, and of what a cell holds
abbrev mutual
  pub read : (ℕ → ℕ) → Skel → Tree
  read el (flat v k) = leaf (el v)
  read el (ref v s) = cell (el v) (kept el s)
  read el (fun v ps r e) = arrow (el v) (reads el ps) (read el r)

  pub kept : (ℕ → ℕ) → Skel → Tree
  kept el (flat v k) = leaf (el v)
  kept el (ref v s) = join (el v) (kept el s)
  kept el (fun v ps r e) = arrow (el v) (reads el ps) (read el r)

  pub reads : (ℕ → ℕ) → Skels → Trees
  reads el no_skels = no_trees
  reads el (more_skels s ss) = more_trees (read el s) (reads el ss)

top_chosen : (b : Bool) (q : ℕ) (t : Tree) → top (if b then leaf q else cell q t) ≡ q
top_chosen true q t = refl
top_chosen false q t = refl

-- the top of a tree joined under an element is this element
pub top_join : (q : ℕ) (t : Tree) → top (join q t) ≡ q
top_join q (leaf r) = top_chosen (nat_eq q r) q (leaf r)
top_join q (cell r t) = refl
top_join q (arrow r ps t) = refl

into_chosen : (b : Bool) (q r : ℕ) → (b ≡ true → q ≡ r) → into (if b then leaf q else cell q (leaf r)) ≡ leaf r
into_chosen true q r h = ap (λ x. leaf x) (h refl)
into_chosen false q r h = refl

-- what stands in a tree joined under an element is this tree
pub into_join : (q : ℕ) (t : Tree) → into (join q t) ≡ t
into_join q (leaf r) = into_chosen (nat_eq q r) q r (eqb-true q r)
into_join q (cell r t) = refl
into_join q (arrow r ps t) = refl

pub join_same : (q : ℕ) → join q (leaf q) ≡ leaf q
join_same q = ap (λ b. if b then leaf q else cell q (leaf q)) (eq-eqb q q refl)

-- an element at or below another, or above it
abbrev pub Goes : Order → Bool → ℕ → ℕ → Type 0
Goes order true q r = leq order q r ≡ true
Goes order false q r = leq order r q ≡ true

-- a tree below another, or above it: what cells hold is the same, and parameters go the other way
abbrev mutual
  pub Subs : Order → Bool → Tree → Tree → Type 0
  Subs order forward (leaf q) (leaf r) = Goes order forward q r
  Subs order forward (leaf q) (cell r t) = ⊥
  Subs order forward (leaf q) (arrow r qs t) = ⊥
  Subs order forward (cell q s) (leaf r) = ⊥
  Subs order forward (cell q s) (cell r t) = Goes order forward q r × (s ≡ t)
  Subs order forward (cell q s) (arrow r qs t) = ⊥
  Subs order forward (arrow q ps s) (leaf r) = ⊥
  Subs order forward (arrow q ps s) (cell r t) = ⊥
  Subs order forward (arrow q ps s) (arrow r qs t) =
      Goes order forward q r × AllSubs order (not forward) ps qs × Subs order forward s t

  pub AllSubs : Order → Bool → Trees → Trees → Type 0
  AllSubs order forward no_trees no_trees = Unit {0}
  AllSubs order forward no_trees (more_trees q qs) = ⊥
  AllSubs order forward (more_trees p ps) no_trees = ⊥
  AllSubs order forward (more_trees p ps) (more_trees q qs) = Subs order forward p q × AllSubs order forward ps qs

-- all labels at or below an element
abbrev pub AllBelow : Order → List ℕ → ℕ → Type 0
AllBelow order [] q = Unit {0}
AllBelow order (l ∷ ls) q = (leq order l q ≡ true) × AllBelow order ls q

pub below_more : (order : Order) (ls : List ℕ) (q r : ℕ) → IsOrder order → leq order q r ≡ true → AllBelow order ls q
    → AllBelow order ls r
below_more order [] q r ordered up h = tt
below_more order (l ∷ ls) q r ordered up h = (ordered.through l q r h.0 up, below_more order ls q r ordered up h.1)

pub below_both : (order : Order) (ls ms : List ℕ) (q : ℕ) → AllBelow order ls q → AllBelow order ms q
    → AllBelow order (ls ++ ms) q
below_both order [] ms q h k = k
below_both order (l ∷ ls) ms q h k = (h.0, below_both order ls ms q h.1 k)

-- each of some labels that are all at or below an element is at or below it
pub below_one : (order : Order) (ls : List ℕ) (q l : ℕ) → AllBelow order ls q → IsOneOf l ls → leq order l q ≡ true
below_one order [] q l h among = absurd among
below_one order (m ∷ ls) q l h (inl same) = subst (λ x. leq order x q ≡ true) (sym same) h.0
below_one order (m ∷ ls) q l h (inr later) = below_one order ls q l h.1 later

-- where one tree is below another, its top is at or below the top of the other
pub subs_top : (order : Order) (s t : Tree) → Subs order true s t → leq order (top s) (top t) ≡ true
subs_top order (leaf q) (leaf r) h = h
subs_top order (leaf q) (cell r t) h = absurd h
subs_top order (leaf q) (arrow r qs t) h = absurd h
subs_top order (cell q s) (leaf r) h = absurd h
subs_top order (cell q s) (cell r t) h = h.0
subs_top order (cell q s) (arrow r qs t) h = absurd h
subs_top order (arrow q ps s) (leaf r) h = absurd h
subs_top order (arrow q ps s) (cell r t) h = absurd h
subs_top order (arrow q ps s) (arrow r qs t) h = h.0

turned : (order : Order) (forward : Bool) (q r : ℕ) → Goes order forward q r → Goes order (not forward) r q
turned order true q r h = h
turned order false q r h = h

mutual
  pub turn : (order : Order) (forward : Bool) (s t : Tree) → Subs order forward s t → Subs order (not forward) t s
  turn order forward (leaf q) (leaf r) h = turned order forward q r h
  turn order forward (leaf q) (cell r t) h = absurd h
  turn order forward (leaf q) (arrow r qs t) h = absurd h
  turn order forward (cell q s) (leaf r) h = absurd h
  turn order forward (cell q s) (cell r t) h = (turned order forward q r h.0, sym h.1)
  turn order forward (cell q s) (arrow r qs t) h = absurd h
  turn order forward (arrow q ps s) (leaf r) h = absurd h
  turn order forward (arrow q ps s) (cell r t) h = absurd h
  turn order forward (arrow q ps s) (arrow r qs t) h =
      (turned order forward q r h.0, turn_all order (not forward) ps qs h.1, turn order forward s t h.2)

  turn_all : (order : Order) (forward : Bool) (ps qs : Trees) → AllSubs order forward ps qs
      → AllSubs order (not forward) qs ps
  turn_all order forward no_trees no_trees h = tt
  turn_all order forward no_trees (more_trees q qs) h = absurd h
  turn_all order forward (more_trees p ps) no_trees h = absurd h
  turn_all order forward (more_trees p ps) (more_trees q qs) h =
      (turn order forward p q h.0, turn_all order forward ps qs h.1)
