-- Names that stand in more than one lattice, lattice by lattice.
use Rattle.std.proofs.Common.{◌≡◌, ℕ, ◌<◌, ◌+◌, zero, suc, List, [], ◌∷◌, length, map, Some, None, slice_get, sym, ◌∙◌, ap, arith, inl, inr, Bool, true, false, MatchBool}
use Rattle.std.proofs.lemmas.Bool.{cases_lt}
use Rattle.lattice_core.specs.View.{LatticeView}
use Rattle.lattice_core.specs.Entries.{name_of, name_at, number_of}
use Rattle.lattice_file.specs.Sharing.{IsNamedBefore, IsShared, AreApart}

-- a name that neither earlier lattices nor this one have stands in none up to it
pub named_on : (lattices : List LatticeView) (at : ℕ) (word : List ℕ) (lattice : LatticeView)
    → slice_get lattices at ≡ Some lattice → number_of lattice.entries word ≡ None →
    (IsNamedBefore lattices at word → ⊥) → IsNamedBefore lattices (at + 1) word → ⊥
named_on lattices at word lattice there none before h = elim (cases_lt h.at at) [
  | inl under ↦ before
      (record { at = h.at; within = under; lattice = h.lattice; there = h.there; elem = h.elem; named = h.named })
  | inr past ↦
      let e : h.at ≡ at = omega (arith, h.within, past) in
      let same : Some h.lattice ≡ Some lattice = sym h.there ∙ ap (slice_get lattices) e ∙ there in
      let is : h.lattice ≡ lattice = cc in
      let named : number_of lattice.entries word ≡ Some h.elem = rw (← is) h.named in
      cc
]

-- a place that a mapped list has is within the list
item_within : {X Y : Type 0} (f : X → Y) (xs : List X) (i : ℕ) (y : Y) → slice_get (map f xs) i ≡ Some y → i < length xs
item_within f [] i y h = absurd cc
item_within f (x ∷ xs) zero y h = omega arith
item_within f (x ∷ xs) (suc i) y h = let under : i < length xs = item_within f xs i y h in omega arith

-- an element whose name is shared is one of its lattice
pub shared_within : (lattices : List LatticeView) (at elem : ℕ) (name : List ℕ) (lattice : LatticeView)
    → slice_get lattices at ≡ Some lattice → IsShared lattices at elem name → elem < length lattice.entries
shared_within lattices at elem name lattice there h =
    let same : Some h.lattice ≡ Some lattice = sym h.there ∙ there in
    let is : h.lattice ≡ lattice = cc in
    let named : name_at lattice.entries elem ≡ Some name = rw (← is) h.named in
    item_within name_of lattice.entries elem name named

-- an element whose name no earlier lattice has joins those before it that share none
pub shared_on : (lattices : List LatticeView) (at elem : ℕ) (word : List ℕ) (lattice : LatticeView)
    → slice_get lattices at ≡ Some lattice → name_at lattice.entries elem ≡ Some word →
    (IsNamedBefore lattices at word → ⊥)
    → ((other : ℕ) (name : List ℕ) → other < elem → IsShared lattices at other name → ⊥) →
    (other : ℕ) (name : List ℕ) → other < elem + 1 → IsShared lattices at other name → ⊥
shared_on lattices at elem word lattice there is apart before other name h shared = elim (cases_lt other elem) [
  | inl under ↦ before other name under shared
  | inr past ↦
      let e : other ≡ elem = omega (arith, h, past) in
      let same : Some shared.lattice ≡ Some lattice = sym shared.there ∙ there in
      let same_lattice : shared.lattice ≡ lattice = cc in
      let named : name_at lattice.entries elem ≡ Some name = rw (← same_lattice, ← e) shared.named in
      let word_is : Some name ≡ Some word = sym named ∙ is in
      let names : name ≡ word = cc in
      let named_before : IsNamedBefore lattices at word = rw (← names) shared.before in
      apart named_before
]

pub apart_at : (lattices : List LatticeView) (at : ℕ) (word : List ℕ) (r : Bool) → r ≡ false
    → MatchBool r (IsNamedBefore lattices at word) (IsNamedBefore lattices at word → ⊥) → IsNamedBefore lattices at word
    → ⊥
apart_at lattices at word true e h named = cc
apart_at lattices at word false e h named = h named

-- a lattice of which no name is shared joins those before it that are apart
pub apart_on : (lattices : List LatticeView) (at : ℕ) → AreApart lattices at
    → ((elem : ℕ) (name : List ℕ) → IsShared lattices at elem name → ⊥) → AreApart lattices (at + 1)
apart_on lattices at before here other elem name h shared = elim (cases_lt other at) [
  | inl under ↦ before other elem name under shared
  | inr past ↦
      let e : other ≡ at = omega (arith, h, past) in
      let now : IsShared lattices at elem name = rw e at shared in
      here elem name now
]

pub named_at : (lattices : List LatticeView) (at : ℕ) (word : List ℕ) (r : Bool) → r ≡ true
    → MatchBool r (IsNamedBefore lattices at word) (IsNamedBefore lattices at word → ⊥) → IsNamedBefore lattices at word
named_at lattices at word true e h = h
named_at lattices at word false e h = absurd cc
