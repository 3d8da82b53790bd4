-- What the words of units name, unit by unit.
use Rattle.std.proofs.Common.{◌≡◌, ◌<◌, ◌≤◌, ◌+◌, ℕ, zero, suc, nat_eq, arith, Bool, true, false, List, [], ◌∷◌, ◌++◌, length, take, slice_index_or, Option, Some, None, inl, inr, refl, sym, ◌∙◌, ap, if◌then◌else◌}
use Rattle.std.proofs.lemmas.Bool.Decides.{eqb_tells}
use Rattle.c_lexer.specs.Tokens.{Lexed}
use Rattle.name_rules.specs.Spellings.{Place}
use Rattle.name_tables.specs.declared.place_map.map.PlaceMap.{PlaceMap}
use Rattle.name_tables.specs.PlaceMap.Values.{or_else}
use Rattle.unit_system.specs.SourceMarks.Marks.{mark_at, mark_in, mark_among, IsMarked}
use Rattle.constraint_gen.specs.Marking.{has_unit, AreMarks}

or_none : {V : Type 0} (o : Option V) → or_else o None ≡ o
or_none None = refl
or_none (Some v) = refl

-- a unit of another number says nothing of a place
among_other : (units : List Lexed) (lexed : Lexed) (p : Place) → nat_eq lexed.unit p.0 ≡ false
    → mark_among (units ++ lexed ∷ []) p ≡ mark_among units p
among_other [] lexed p other = ap (λ (b : Bool). if b then mark_at lexed p.1 else None) other
among_other (first ∷ units) lexed p other =
    ap (λ (o : Option (ℕ × ℕ)). if nat_eq first.unit p.0 then mark_at first p.1 else o)
    (among_other units lexed p other)

-- nor does one behind another of its number
pub among_known : (units : List Lexed) (lexed : Lexed) (p : Place) → has_unit units lexed.unit ≡ true
    → mark_among (units ++ lexed ∷ []) p ≡ mark_among units p
among_known [] lexed p known = absurd cc
among_known (first ∷ units) lexed p known =
    by_test (nat_eq first.unit p.0) (nat_eq first.unit lexed.unit) refl refl known (λ is. among_known units lexed p is)
  where
    here : nat_eq first.unit p.0 ≡ false → nat_eq first.unit lexed.unit ≡ true → nat_eq lexed.unit p.0 ≡ false
    here apart same = elim (eqb_tells first.unit lexed.unit) [
      | inl a ↦ ap (λ (n : ℕ). nat_eq n p.0) (sym a.1) ∙ apart
      | inr b ↦ absurd (let no : false ≡ true = sym b.0 ∙ same in cc)
    ]

    by_test : (b c : Bool) → nat_eq first.unit p.0 ≡ b → nat_eq first.unit lexed.unit ≡ c
        → (if c then true else has_unit units lexed.unit) ≡ true
        → (has_unit units lexed.unit ≡ true → mark_among (units ++ lexed ∷ []) p ≡ mark_among units p)
        → (if b then mark_at first p.1 else mark_among (units ++ lexed ∷ []) p)
        ≡ (if b then mark_at first p.1 else mark_among units p)
    by_test true c at same is others = refl
    by_test false true at same is others = among_other units lexed p (here at same)
    by_test false false at same is others = others is

-- where no unit has the number of a place, no annotation word of the units stands at it
none_among : (units : List Lexed) (p : Place) → has_unit units p.0 ≡ false → mark_among units p ≡ None
none_among [] p none = refl
none_among (first ∷ units) p none = by_test (nat_eq first.unit p.0) none (λ is. none_among units p is)
  where
    by_test : (b : Bool) → (if b then true else has_unit units p.0) ≡ false
        → (has_unit units p.0 ≡ false → mark_among units p ≡ None)
        → (if b then mark_at first p.1 else mark_among units p) ≡ None
    by_test true is others = absurd cc
    by_test false is others = others is

-- a word in a unit whose number no earlier unit has means among all what it means in this unit
among_new : (units : List Lexed) (lexed : Lexed) (p : Place) → has_unit units p.0 ≡ false → nat_eq lexed.unit p.0 ≡ true
    → mark_among (units ++ lexed ∷ []) p ≡ mark_at lexed p.1
among_new [] lexed p none here = ap (λ (b : Bool). if b then mark_at lexed p.1 else None) here
among_new (first ∷ units) lexed p none here =
    by_test (nat_eq first.unit p.0) none (λ is. among_new units lexed p is here)
  where
    by_test : (b : Bool) → (if b then true else has_unit units p.0) ≡ false
        → (has_unit units p.0 ≡ false → mark_among (units ++ lexed ∷ []) p ≡ mark_at lexed p.1)
        → (if b then mark_at first p.1 else mark_among (units ++ lexed ∷ []) p) ≡ mark_at lexed p.1
    by_test true is others = absurd cc
    by_test false is others = others is

-- the marks of a unit of a new number, before those of the others
among_more : (units : List Lexed) (lexed : Lexed) (p : Place) → has_unit units lexed.unit ≡ false
    → or_else (mark_in lexed p) (mark_among units p) ≡ mark_among (units ++ lexed ∷ []) p
among_more units lexed p none = elim (eqb_tells lexed.unit p.0) [
  | inl a ↦
      let new : has_unit units p.0 ≡ false = ap (has_unit units) (sym a.1) ∙ none in
      ap (λ (o : Option (ℕ × ℕ)). or_else (mark_in lexed p) o) (none_among units p new)
      ∙ or_none (mark_in lexed p)
      ∙ ap (λ (b : Bool). if b then mark_at lexed p.1 else None) a.0
      ∙ sym (among_new units lexed p new a.0)
  | inr b ↦
      ap (λ (t : Bool). or_else (if t then mark_at lexed p.1 else None) (mark_among units p)) b.0
      ∙ sym (among_other units lexed p b.0)
]

-- the words of one unit more
pub marks_known : (units : List Lexed) (lexed : Lexed) (found : PlaceMap (ℕ × ℕ)) → has_unit units lexed.unit ≡ true
    → AreMarks units found → AreMarks (units ++ lexed ∷ []) found
marks_known units lexed found known are p = are p ∙ sym (among_known units lexed p known)

-- a map of what the words of units name, with the marks of one unit more added, is that of the units with it
pub marks_more : (units : List Lexed) (lexed : Lexed) (old new : PlaceMap (ℕ × ℕ)) → has_unit units lexed.unit ≡ false
    → AreMarks units old → IsMarked (mark_in lexed) old new → AreMarks (units ++ lexed ∷ []) new
marks_more units lexed old new none are marked p =
    marked p
    ∙ ap (λ (o : Option (ℕ × ℕ)). or_else (mark_in lexed p) o) (are p)
    ∙ among_more units lexed p none

-- one unit more
pub units_next : (units : List Lexed) (i : ℕ) (x : Lexed) → i < length units → x ≡ slice_index_or units i x
    → take i units ++ x ∷ [] ≡ take (i + 1) units
units_next [] i x lt is = absurd (omega arith)
units_next (y ∷ units) zero x lt is = ap (λ (z : Lexed). z ∷ []) is
units_next (y ∷ units) (suc i) x lt is =
    let e : suc i + 1 ≡ suc (i + 1) = omega arith in
    rw e (ap (λ (ls : List Lexed). y ∷ ls) (units_next units i x (omega arith) is))

-- all of them
pub units_whole : (units : List Lexed) (i : ℕ) → length units ≤ i → take i units ≡ units
units_whole [] zero le = refl
units_whole [] (suc i) le = refl
units_whole (x ∷ units) zero le = absurd (omega arith)
units_whole (x ∷ units) (suc i) le = ap (λ (ls : List Lexed). x ∷ ls) (units_whole units i (omega arith))
