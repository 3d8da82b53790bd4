-- What is found of a scene is what its texts name.
use Rattle.std.proofs.Common.{◌≡◌, ℕ, zero, suc, ◌+◌, ◌<◌, ◌≤◌, nat_eq, Bool, true, false, if◌then◌else◌, List, [], ◌∷◌, ◌++◌, length, drop}
use Rattle.std.proofs.Common.{Some, None, slice_get, refl, sym, ◌∙◌, ap, arith, get_or}
use Rattle.std.proofs.lemmas.Bool.{eq-eqb, eqb-true, ne_eqb}
use Rattle.std.proofs.lemmas.List.{drop_all}
use Rattle.std.proofs.lemmas.Option.{slice_get_past}
use Rattle.std.specs.declared.option.Option.{Option}
use Rattle.std.specs.Option.{option_map}
use Rattle.std.specs.List.{Contains}
use Rattle.c_lexer.specs.Tokens.{token_spot}
use Rattle.qual_types.specs.Positions.{PositionView}
use Rattle.qual_types.specs.Table.{Stands}
use Rattle.annotate.specs.declared.scene.Scene.{Scene as Lent}
use Rattle.annotate.specs.declared.scene.UnitText.{UnitText as LentUnit}
use Rattle.annotate.specs.Texts.{UnitText, Scene, spot_text, unit_in, place_at, place_in, name_text, marks_text, position_text, var_text}
use Rattle.annotate.specs.Scenes.{unit_of, units_of, has_unit, AreApart, Shows}

-- the unit that was found is the scene's
pub unit_is : (lent : Lent) (s : Scene) → Shows lent s → (number : ℕ) (found other : Option LentUnit) → found ≡ other
    → option_map unit_of found ≡ unit_in (units_of lent.units.now) number →
    option_map unit_of other ≡ unit_in s.units number
unit_is lent s shows number found other same is =
    ap (option_map unit_of) (sym same) ∙ is ∙ ap (λ (units : List UnitText). unit_in units number) (sym shows.units)

-- a variable past the table has no text
pub no_var : (lent : Lent) (s : Scene) → Shows lent s → (var : ℕ) → length lent.vars.now ≤ var → [] ≡ var_text s var
no_var lent s shows var past =
    let count = shows.count in
    sym (ap (position_text s) (slice_get_past s.positions var (omega (arith, count, past))))

-- a variable of the table has the text of the position where it stands
pub var_is : (lent : Lent) (s : Scene) → Shows lent s → (var : ℕ) (position : PositionView) → var < length lent.vars.now
    → Stands lent.vars.now position var →
    name_text s position.unit position.token ++ marks_text position.path ≡ var_text s var
var_is lent s shows var position within stands = sym (ap (position_text s) (shows.stand var position within stands))

-- an item with a number below the length
pub record There (A : Type 0) (xs : List A) (n : ℕ) : Type 0 where
  pub item : A
  pub there : slice_get xs n ≡ Some item

-- at an index below the length of a list there is an element
pub item_at : {A : Type 0} (xs : List A) (n : ℕ) → n < length xs → There A xs n
item_at [] n h = absurd (omega (arith, h))
item_at (x ∷ xs) zero h = record { item = x; there = refl }
item_at (x ∷ xs) (suc n) h =
    let rest = item_at xs n (omega (arith, h)) in
    record { item = rest.item; there = rest.there }

-- a token of a unit has its place
pub place_there : (unit : UnitText) (token : ℕ) → token < length unit.lexed.tokens
    → place_in (Some unit) token ≡ spot_text unit.file unit.lexed.bytes (token_spot unit.lexed token)
place_there unit token within = ap (place_at unit token) (item_at unit.lexed.tokens token within).there

-- where the unit at an index has the number, it is the first of that number from there on
from_here : (units : List LentUnit) (n number : ℕ) (d : LentUnit) → n < length units
    → (get_or units n d).tokens.now.unit ≡ number
    → unit_in (units_of (drop n units)) number ≡ Some (unit_of (get_or units n d))
from_here [] n number d within same = absurd (omega (arith, within))
from_here (u ∷ us) zero number d within same =
    ap (λ (is : Bool). if is then Some (unit_of u) else unit_in (units_of us) number)
    (eq-eqb u.tokens.now.unit number same)
from_here (u ∷ us) (suc n) number d within same = from_here us n number d (omega (arith, within)) same

-- where the unit at an index has another number, the first from there on is that from the next index on
past_here : (units : List LentUnit) (n number : ℕ) (d : LentUnit) → n < length units
    → ((get_or units n d).tokens.now.unit ≡ number → ⊥) →
    unit_in (units_of (drop n units)) number ≡ unit_in (units_of (drop (suc n) units)) number
past_here [] n number d within other = absurd (omega (arith, within))
past_here (u ∷ us) zero number d within other =
    ap (λ (is : Bool). if is then Some (unit_of u) else unit_in (units_of us) number)
    (ne_eqb u.tokens.now.unit number other)
past_here (u ∷ us) (suc n) number d within other = past_here us n number d (omega (arith, within)) other

-- the unit at a place is found by its number among those from there on
pub unit_here : (units : List LentUnit) (n number : ℕ) (u : LentUnit) → n < length units → u ≡ get_or units n u
    → u.tokens.now.unit ≡ number → unit_in (units_of (drop n units)) number ≡ Some (unit_of u)
unit_here units n number u within is same =
    from_here units n number u within (ap (λ (v : LentUnit). v.tokens.now.unit) (sym is) ∙ same)
    ∙ ap (λ (v : LentUnit). Some (unit_of v)) (sym is)

-- a unit of another number is passed by in the search for one
pub unit_past : (units : List LentUnit) (n number : ℕ) (u : LentUnit) → n < length units → u ≡ get_or units n u
    → (u.tokens.now.unit ≡ number → ⊥) →
    unit_in (units_of (drop n units)) number ≡ unit_in (units_of (drop (n + 1) units)) number
unit_past units n number u within is other =
    let next : suc n ≡ n + 1 = omega arith in
    past_here units n number u within (λ same. other (ap (λ (v : LentUnit). v.tokens.now.unit) is ∙ same))
    ∙ ap (λ k. unit_in (units_of (drop k units)) number) next

pub no_unit : (units : List LentUnit) (n number : ℕ) → length units ≤ n
    → unit_in (units_of (drop n units)) number ≡ None
no_unit units n number past = ap (λ (left : List LentUnit). unit_in (units_of left) number) (drop_all n units past)

-- one of some units has its number
has_one : (units : List LentUnit) (n : ℕ) (it : LentUnit) → n < length units → get_or units n it ≡ it
    → has_unit (units_of units) it.tokens.now.unit ≡ true
has_one [] n it within is = absurd (omega (arith, within))
has_one (u ∷ us) zero it within is =
    ap (λ (b : Bool). if b then true else has_unit (units_of us) it.tokens.now.unit)
    (eq-eqb u.tokens.now.unit it.tokens.now.unit (ap (λ (v : LentUnit). v.tokens.now.unit) is))
has_one (u ∷ us) (suc n) it within is =
    by_test (nat_eq u.tokens.now.unit it.tokens.now.unit) (has_one us n it (omega (arith, within)) is)
  where
    by_test : (b : Bool) → has_unit (units_of us) it.tokens.now.unit ≡ true
        → (if b then true else has_unit (units_of us) it.tokens.now.unit) ≡ true
    by_test true others = refl
    by_test false others = others

-- where no two have one number, it is the first of its number
first_named : (units : List LentUnit) (n : ℕ) (it : LentUnit) (number : ℕ) → n < length units → get_or units n it ≡ it
    → it.tokens.now.unit ≡ number → AreApart (units_of units) → unit_in (units_of units) number ≡ Some (unit_of it)
first_named [] n it number within is here apart = absurd (omega (arith, within))
first_named (u ∷ us) zero it number within is here apart =
    ap (λ (b : Bool). if b then Some (unit_of u) else unit_in (units_of us) number)
    (eq-eqb u.tokens.now.unit number (ap (λ (v : LentUnit). v.tokens.now.unit) is ∙ here))
    ∙ ap (λ (v : LentUnit). Some (unit_of v)) is
first_named (u ∷ us) (suc n) it number within is here apart =
    by_test (nat_eq u.tokens.now.unit number) refl (first_named us n it number (omega (arith, within)) is here apart.1)
  where
    by_test : (b : Bool) → nat_eq u.tokens.now.unit number ≡ b → unit_in (units_of us) number ≡ Some (unit_of it)
        → (if b then Some (unit_of u) else unit_in (units_of us) number) ≡ Some (unit_of it)
    by_test true e behind =
        let same : u.tokens.now.unit ≡ number = eqb-true u.tokens.now.unit number e in
        let unit : it.tokens.now.unit ≡ u.tokens.now.unit = here ∙ sym same in
        absurd (let no : true ≡ false =
        sym (has_one us n it (omega (arith, within)) is) ∙ ap (has_unit (units_of us)) unit ∙ apart.0 in cc)
    by_test false e behind = behind

pub named_by_one : (units : List LentUnit) (it : LentUnit) (number : ℕ) → Contains units it
    → it.tokens.now.unit ≡ number → AreApart (units_of units)
    → Some (unit_of it) ≡ unit_in (units_of units) number
named_by_one units it number one here apart = sym (first_named units one.0 it number one.1 one.2 here apart)
