-- Order lines, taken one by one.
use Rattle.std.proofs.Common.{◌≡◌, ◌≢◌, ℕ, ◌<◌, ◌+◌, zero, suc, Bool, true, false, cond, List, [], ◌∷◌, ◌++◌, length, take, set, get_or, Some, None, refl, sym, ◌∙◌, ap, inl, inr, ◌⊎◌, ◌↔◌, is_none, arith, add-one}
use Rattle.std.specs.Int.{bit_at}
use Rattle.std.specs.Prelude.{Contains}
use Rattle.std.specs.declared.option.Option.{Option}
use Rattle.std.proofs.lemmas.Grind.{common_steps}
use Rattle.std.proofs.lemmas.Bool.{cases_eq}
use Rattle.std.proofs.lemmas.List.{take_more}
use Rattle.std.proofs.lemmas.List.Elements.{Contains-push, Contains-push_cases, Contains-append_left}
use Rattle.lattice_core.specs.declared.Entry.{Entry}
use Rattle.lattice_core.specs.declared.Pair.{Pair}
use Rattle.lattice_core.specs.declared.LatticeFault.{LatticeFault}
use Rattle.lattice_core.specs.declared.LatticeFault.TheVariants.{TooMany, Repeated, UnknownName, LevelMix, Cycle, NotALattice, NoMemory}
use Rattle.lattice_core.specs.Entries.{number_of}
use Rattle.lattice_core.specs.Building.{IsWritten, IsUnknown, IsFirstUnknown, first_unknown}

-- where neither of two tests holds, a choice by them is what stands behind both
peel : {X : Type 0} (b c : Bool) (x y : X) (rest : Option X) → cond b (Some x) (cond c (Some y) rest) ≡ None →
    (rest ≡ None) × ((other : Option X) → cond b (Some x) (cond c (Some y) other) ≡ other)
peel true c x y rest h = absurd cc
peel false true x y rest h = absurd cc
peel false false x y rest h = (h, λ other. refl)

abbrev unknown_from : List Entry → Pair → List Pair → Option (List ℕ)
unknown_from entries pair rest = first_unknown entries (pair ∷ rest)

-- the first unknown name stands in line k or later
unknown_at : (entries : List Entry) (pairs : List Pair) (k : ℕ) (pair : Pair) → k < length pairs
    → pair ≡ get_or pairs k pair → first_unknown entries (take k pairs) ≡ None →
    (rest : List Pair) × (first_unknown entries pairs ≡ unknown_from entries pair rest)
unknown_at entries [] k pair h is none = absurd (omega arith)
unknown_at entries (p ∷ ps) zero pair h is none = (ps, ap (λ (q : Pair). unknown_from entries q ps) (sym is))
unknown_at entries (p ∷ ps) (suc k) pair h is none =
    let peeled = peel (is_none (number_of entries p.low)) (is_none (number_of entries p.high)) p.low p.high
    (first_unknown entries (take k ps)) none in
    let later = unknown_at entries ps k pair (omega arith) is peeled.0 in
    (later.0, peeled.1 (first_unknown entries ps) ∙ later.1)

-- no name of line k is unknown either
known_on : (entries : List Entry) (pairs : List Pair) (k : ℕ) (pair : Pair) → k < length pairs
    → pair ≡ get_or pairs k pair → first_unknown entries (take k pairs) ≡ None →
    is_none (number_of entries pair.low) ≡ false → is_none (number_of entries pair.high) ≡ false
    → first_unknown entries (take (suc k) pairs) ≡ None
known_on entries [] k pair h is none low high = absurd (omega arith)
known_on entries (p ∷ ps) zero pair h is none low high =
    let low' : is_none (number_of entries p.low) ≡ false =
    ap (λ (q : Pair). is_none (number_of entries q.low)) (sym is) ∙ low in
    let high' : is_none (number_of entries p.high) ≡ false =
    ap (λ (q : Pair). is_none (number_of entries q.high)) (sym is) ∙ high in
    rw (low', high') refl
known_on entries (p ∷ ps) (suc k) pair h is none low high =
    let peeled = peel (is_none (number_of entries p.low)) (is_none (number_of entries p.high)) p.low p.high
    (first_unknown entries (take k ps)) none in
    peeled.1 (first_unknown entries (take (suc k) ps)) ∙ known_on entries ps k pair (omega arith) is peeled.0 low high

pub all_known_on : (entries : List Entry) (pairs : List Pair) (k : ℕ) (pair : Pair) (low high : ℕ) → k < length pairs
    → pair ≡ get_or pairs k pair → first_unknown entries (take k pairs) ≡ None →
    number_of entries pair.low ≡ Some low → number_of entries pair.high ≡ Some high
    → first_unknown entries (take (k + 1) pairs) ≡ None
all_known_on entries pairs k pair low high h is none l r =
    rw add-one (known_on entries pairs k pair h is none (ap is_none l) (ap is_none r))

-- the lower name of a line that no entry has, behind lines that are known, is the first unknown
pub low_unknown : (entries : List Entry) (pairs : List Pair) (k : ℕ) (pair : Pair) (fault : LatticeFault)
    → k < length pairs → pair ≡ get_or pairs k pair → first_unknown entries (take k pairs) ≡ None →
    IsUnknown entries pair.low fault → IsFirstUnknown entries pairs fault
low_unknown entries pairs k pair (UnknownName name) h is none u =
    let at = unknown_at entries pairs k pair h is none in
    let test : is_none (number_of entries pair.low) ≡ true = ap is_none u.1 in
    at.1 ∙ rw test (ap Some (sym u.0))
low_unknown entries pairs k pair NoMemory h is none u = tt
low_unknown entries pairs k pair TooMany h is none u = absurd u
low_unknown entries pairs k pair (Repeated a) h is none u = absurd u
low_unknown entries pairs k pair (LevelMix a b) h is none u = absurd u
low_unknown entries pairs k pair (Cycle a b) h is none u = absurd u
low_unknown entries pairs k pair (NotALattice a b) h is none u = absurd u

-- the upper name of a line that no entry has, where the lower one is known, is the first unknown
pub high_unknown : (entries : List Entry) (pairs : List Pair) (k : ℕ) (pair : Pair) (low : ℕ) (fault : LatticeFault)
    → k < length pairs → pair ≡ get_or pairs k pair → first_unknown entries (take k pairs) ≡ None →
    number_of entries pair.low ≡ Some low → IsUnknown entries pair.high fault → IsFirstUnknown entries pairs fault
high_unknown entries pairs k pair low (UnknownName name) h is none l u =
    let at = unknown_at entries pairs k pair h is none in
    let test : is_none (number_of entries pair.high) ≡ true = ap is_none u.1 in
    let before : is_none (number_of entries pair.low) ≡ false = ap is_none l in
    at.1 ∙ rw (before, test) (ap Some (sym u.0))
high_unknown entries pairs k pair low NoMemory h is none l u = tt
high_unknown entries pairs k pair low TooMany h is none l u = absurd u
high_unknown entries pairs k pair low (Repeated a) h is none l u = absurd u
high_unknown entries pairs k pair low (LevelMix a b) h is none l u = absurd u
high_unknown entries pairs k pair low (Cycle a b) h is none l u = absurd u
high_unknown entries pairs k pair low (NotALattice a b) h is none l u = absurd u

-- one line more says one relation more
written_more : (entries : List Entry) (pairs : List Pair) (k : ℕ) (pair : Pair) (low high : ℕ) → k < length pairs
    → pair ≡ get_or pairs k pair →
    number_of entries pair.low ≡ Some low → number_of entries pair.high ≡ Some high → (a b : ℕ) →
    IsWritten entries (take (k + 1) pairs) a b → IsWritten entries (take k pairs) a b ⊎ ((a ≡ low) × (b ≡ high))
written_more entries pairs k pair low high h is l r a b w =
    let there : Contains (take k pairs ++ get_or pairs k pair ∷ []) w.pair = rw (take_more pairs k pair h) at w.there in
    elim (Contains-push_cases (take k pairs) (get_or pairs k pair) w.pair there) [
      | inl before ↦ inl (record { pair = w.pair; there = before; low = w.low; high = w.high })
      | inr same ↦
          let e : w.pair ≡ pair = sym same ∙ sym is in
          let low_is : Some a ≡ Some low = sym w.low ∙ ap (λ (q : Pair). number_of entries q.low) e ∙ l in
          let high_is : Some b ≡ Some high = sym w.high ∙ ap (λ (q : Pair). number_of entries q.high) e ∙ r in
          inr (cc, cc)
    ]

-- what order lines say is said by them with one more
written_kept : (entries : List Entry) (pairs : List Pair) (k : ℕ) (pair : Pair) → k < length pairs → (a b : ℕ) →
    IsWritten entries (take k pairs) a b → IsWritten entries (take (k + 1) pairs) a b
written_kept entries pairs k pair h a b w =
    let there : Contains (take (k + 1) pairs) w.pair =
    rw (take_more pairs k pair h) (Contains-append_left (take k pairs) (get_or pairs k pair ∷ []) w.pair w.there) in
    record { pair = w.pair; there = there; low = w.low; high = w.high }

-- one more order line says that its lower entry is below its upper one
written_new : (entries : List Entry) (pairs : List Pair) (k : ℕ) (pair : Pair) (low high : ℕ) → k < length pairs
    → pair ≡ get_or pairs k pair →
    number_of entries pair.low ≡ Some low → number_of entries pair.high ≡ Some high
    → IsWritten entries (take (k + 1) pairs) low high
written_new entries pairs k pair low high h is l r =
    let there : Contains (take k pairs ++ pair ∷ []) pair = Contains-push (take k pairs) pair in
    let line : take (k + 1) pairs ≡ take k pairs ++ pair ∷ [] =
    take_more pairs k pair h ∙ ap (λ (q : Pair). take k pairs ++ q ∷ []) (sym is) in
    record { pair = pair; there = rw line there; low = l; high = r }

-- a write of one bit more adds one relation
linked : (rows : List ℕ) (low high new : ℕ) → low < length rows → bit_at new high ≡ 1
    → ((i : ℕ) → i ≢ high → bit_at new i ≡ bit_at (get_or rows low 0) i) → (a b : ℕ) →
    (bit_at (get_or (set rows low new) a 0) b ≡ 1) ↔ ((bit_at (get_or rows a 0) b ≡ 1) ⊎ ((a ≡ low) × (b ≡ high)))
linked rows low high new h same others a b = elim (cases_eq a low) [
  | inl e ↦
      let at : get_or (set rows low new) a 0 ≡ new = grind (arith, common_steps) in
      elim (cases_eq b high) [
        | inl f ↦
            let bit : bit_at (get_or (set rows low new) a 0) b ≡ 1 = rw (at, f) same in
            (λ _. inr (e, f), λ _. bit)
        | inr nf ↦
            let bit : bit_at (get_or (set rows low new) a 0) b ≡ bit_at (get_or rows a 0) b =
            rw (at, e) (others b nf) in
            (λ on. inl (sym bit ∙ on), λ on. elim on [ inl before ↦ bit ∙ before | inr both ↦ absurd (nf both.1) ])
      ]
  | inr ne ↦
      let at : get_or (set rows low new) a 0 ≡ get_or rows a 0 = grind (arith, common_steps) in
      let bit : bit_at (get_or (set rows low new) a 0) b ≡ bit_at (get_or rows a 0) b = rw at refl in
      (λ on. inl (sym bit ∙ on), λ on. elim on [ inl before ↦ bit ∙ before | inr both ↦ absurd (ne both.0) ])
]

-- setting the bit of one more order line in the row of its lower entry makes the rows say that line too
pub linked_more : (entries : List Entry) (pairs : List Pair) (k : ℕ) (pair : Pair) (rows : List ℕ) (low high new : ℕ)
    → k < length pairs → pair ≡ get_or pairs k pair →
    number_of entries pair.low ≡ Some low → number_of entries pair.high ≡ Some high →
    low < length rows → bit_at new high ≡ 1 → ((i : ℕ) → i ≢ high → bit_at new i ≡ bit_at (get_or rows low 0) i) →
    ((a b : ℕ) → (bit_at (get_or rows a 0) b ≡ 1) ↔ IsWritten entries (take k pairs) a b) →
    (a b : ℕ) → (bit_at (get_or (set rows low new) a 0) b ≡ 1) ↔ IsWritten entries (take (k + 1) pairs) a b
linked_more entries pairs k pair rows low high new h is l r within same others so_far a b =
    let here = linked rows low high new within same others a b in (
      λ bit. elim (here.0 bit) [
        | inl before ↦ written_kept entries pairs k pair h a b ((so_far a b).0 before)
        | inr new_one ↦ rw (new_one.0, new_one.1) (written_new entries pairs k pair low high h is l r)
      ],
      λ w. here.1 (elim (written_more entries pairs k pair low high h is l r a b w) [
        | inl before ↦ inl ((so_far a b).1 before)
        | inr new_one ↦ inr new_one
      ]),
    )
