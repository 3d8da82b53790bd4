-- The numbers of types that a state holds are those of its table: what is shown alike by the types of all tables that
-- this one grows to, does not depend on numbers past it.
use Rattle.std.proofs.Common.{arith, ◌≡◌, ℕ, zero, suc, ◌+◌, slice_index_or, take, ◌<◌, ◌≤◌, nat_lt, List, [], ◌∷◌, ◌++◌, length, map, Option, Some, None, inl, inr, refl, sym, ◌∙◌, ap, Vec, Global, if◌then◌else◌}
use Rattle.std.proofs.lemmas.Bool.{cases_lt, lt-ltb, le-ltb}
use Rattle.type_table.specs.declared.row.TypeRow.{TypeRow}
use Rattle.type_table.specs.Types.{CType, base, void}
use Rattle.type_table.specs.Rows.{type_of, AreBelow}
use Rattle.name_state.specs.NameTypes.Known.{Knows, Grows, so_far_type, IsLow}
use Rattle.name_state.specs.declared.name_types.types.SoFar.{SoFar}
use Rattle.name_state.specs.declared.name_types.types.SoFar.TheVariants as so_fars
use Rattle.name_rules.specs.NameSteps.State as steps
use Rattle.name_rules.specs.NameSteps.Steps.{names_step, passed_on, step}
use Rattle.tape_ops.specs.declared.op.Op.{Op}
use Rattle.name_rules.specs.Spellings.{Spelling}
use Rattle.c_names.specs.declared.state.OpenDeclaration.{OpenDeclaration}
use Rattle.c_names.specs.declared.state.State.{State}
use Rattle.c_names.specs.Stacks.{top}
use Rattle.c_names.specs.Shown.{declaration_of, types_of_list, state_of, passed_by, IsShown}

pub map_more : {A B : Type 0} (f : A → B) (xs ys : List A) → map f (xs ++ ys) ≡ map f xs ++ map f ys
map_more f [] ys = refl
map_more f (x ∷ xs) ys = ap (λ zs. f x ∷ zs) (map_more f xs ys)

pub map_length : {A B : Type 0} (f : A → B) (xs : List A) → length (map f xs) ≡ length xs
map_length f [] = refl
map_length f (x ∷ xs) = ap suc (map_length f xs)

-- the types of a table, and another type past it
filled : List TypeRow → CType → ℕ → CType
filled rows other n = if nat_lt n (length rows) then type_of rows n else other

knows_filled : (rows : List TypeRow) (other : CType) → Knows (filled rows other) rows
unfolding filled
knows_filled rows other = λ n lt. rw (lt-ltb n (length rows) lt) refl

past_filled : (rows : List TypeRow) (other : CType) (n : ℕ) → length rows ≤ n → filled rows other n ≡ other
unfolding filled
past_filled rows other n le = rw (le-ltb n (length rows) le) refl

-- a number that shows one type by the types of every table grown from this one is a number of this table
low_of : (rows : List TypeRow) (n : ℕ) (made : CType) → ((t : ℕ → CType) → Knows t rows → t n ≡ made) → n < length rows
low_of rows n made alike = elim (cases_lt n (length rows)) [
  | inl lt ↦ lt
  | inr past ↦ absurd (
      let one = sym (past_filled rows (base []) n past) ∙ alike (filled rows (base [])) (knows_filled rows (base [])) in
      let two = sym (past_filled rows (void []) n past) ∙ alike (filled rows (void [])) (knows_filled rows (void [])) in
      let no : base [] ≡ void [] = one ∙ sym two in
      cc)
]

abbrev first_type : List CType → CType
first_type [] = base []
first_type (t ∷ ts) = t

abbrev other_types : List CType → List CType
other_types [] = []
other_types (t ∷ ts) = ts

-- numbers that show the same types by those of every table grown from this one are numbers of this table
lows_of : (rows : List TypeRow) (ns : List ℕ) (made : List CType) → ((t : ℕ → CType) → Knows t rows → map t ns ≡ made)
    → AreBelow (length rows) ns
lows_of rows [] made alike = tt
lows_of rows (n ∷ ns) made alike = (
  low_of rows n (first_type made) (λ t knows. ap first_type (alike t knows)),
  lows_of rows ns (other_types made)
      (λ t knows. ap other_types (alike t knows)),
)

-- specifiers whose type is the same by the types of every table grown from this one hold a number of this table at most
so_far_low_of : (rows : List TypeRow) (s : SoFar) (made : CType)
    → ((t : ℕ → CType) → Knows t rows → so_far_type t s ≡ made) → IsLow (length rows) s
so_far_low_of rows so_fars.Base made alike = tt
so_far_low_of rows so_fars.Void made alike = tt
so_far_low_of rows (so_fars.Struct n) made alike = tt
so_far_low_of rows (so_fars.Type ty) made alike = low_of rows ty made alike

module _ (rows : List TypeRow) (s : State) (is : IsShown rows s) where
  pub so_far_low : IsLow (length rows) s.specifiers.so_far
  unfolding state_of
  so_far_low = so_far_low_of rows s.specifiers.so_far is.shown.specifiers.type
      (λ t knows. ap (λ (x : steps.State). x.specifiers.type) (is.alike t [] knows))

  pub type_low : (d : OpenDeclaration) (rest : List OpenDeclaration) → s.declarations ≡ d ∷ rest → d.ty < length rows
  unfolding state_of
  type_low d rest there =
      low_of rows d.ty (steps.innermost_or steps.no_declaration is.shown.declarations).type
      (λ t knows. ap (λ ds. (steps.innermost_or steps.no_declaration (map (declaration_of t) ds)).type) (sym there)
      ∙ ap (λ (x : steps.State). (steps.innermost_or steps.no_declaration x.declarations).type) (is.alike t [] knows))

  pub declared_low : (d : OpenDeclaration) (rest : List OpenDeclaration) → s.declarations ≡ d ∷ rest
      → d.declared < length rows
  unfolding state_of
  declared_low d rest there =
      low_of rows d.declared (steps.innermost_or steps.no_declaration is.shown.declarations).declared
      (λ t knows. ap (λ ds. (steps.innermost_or steps.no_declaration (map (declaration_of t) ds)).declared) (sym there)
      ∙ ap (λ (x : steps.State). (steps.innermost_or steps.no_declaration x.declarations).declared)
      (is.alike t [] knows))

  pub params_low : (ns : Vec ℕ Global) (rest : List (Vec ℕ Global)) → s.finished ≡ ns ∷ rest
      → AreBelow (length rows) ns.items
  unfolding state_of
  params_low ns rest there =
      lows_of rows ns.items (steps.innermost_or [] is.shown.finished)
      (λ t knows. ap (λ ds. steps.innermost_or [] (map (types_of_list t) ds)) (sym there)
      ∙ ap (λ (x : steps.State). steps.innermost_or [] x.finished) (is.alike t [] knows))

-- a declaration that is on top of a stack is the first of its list
pub top_is : (ds : List OpenDeclaration) (d : OpenDeclaration) → Some d ≡ top ds
    → (rest : List OpenDeclaration) × (ds ≡ d ∷ rest)
top_is [] d is = absurd cc
top_is (e ∷ ds) d is = (ds, ap (λ x. x ∷ ds) (some_is is))
  where
    unsome : Option OpenDeclaration → OpenDeclaration
    unsome None = e
    unsome (Some x) = x

    some_is : Some d ≡ Some e → e ≡ d
    some_is same = sym (ap unsome same)

-- one op more of a tape is taken: those taken before, then the op at the position
taken : (tape : List Op) (at : ℕ) (op : Op) → op ≡ slice_index_or tape at op → at < length tape →
    take (at + 1) tape ≡ take at tape ++ op ∷ []
taken [] at op is lt = absurd (omega arith)
taken (x ∷ tape) zero op is lt = ap (λ y. y ∷ []) (sym is)
taken (x ∷ tape) (suc at) op is lt =
    let e : suc at + 1 ≡ suc (at + 1) = omega arith in
    rw e (ap (λ ops. x ∷ ops) (taken tape at op is (omega arith)))

pub knows_before : (old new : List TypeRow) (t : ℕ → CType) → Grows old new → Knows t new → Knows t old
knows_before old new t grows knows = λ n lt. knows n (let l = grows.longer in omega arith) ∙ grows.keeps n lt

-- a table that grows from one that grows from a first grows from the first
pub grows_twice : (a b c : List TypeRow) → Grows a b → Grows b c → Grows a c
grows_twice a b c one two = record {
  keeps = λ n lt. two.keeps n (let l = one.longer in omega arith) ∙ one.keeps n lt;
  longer = let l = one.longer in let m = two.longer in omega arith;
}

-- one op more of a tape was gone through
pub stepped : (t : ℕ → CType) (u : Spelling) (tape : List Op) (at : ℕ) (op : Op) (old new : State)
    → op ≡ slice_index_or tape at op → at < length tape
    → state_of t (take at tape) new ≡ names_step u (state_of t (take at tape) old) op
    → state_of t (take (at + 1) tape) new ≡ step u (state_of t (take at tape) old) op
unfolding state_of
stepped t u tape at op old new is lt made =
    ap (λ p. state_of t p new) (taken tape at op is lt) ∙ ap (passed_on op) made

-- a step leaves a state that is shown alike
pub shown_after : (u : Spelling) (op : Op) (before behind : List Op) (old new : List TypeRow) (s after : State)
    → IsShown old s
    → Grows old new
    → ((t : ℕ → CType) → Knows t new → state_of t behind after ≡ step u (state_of t before s) op) → IsShown new after
unfolding state_of
shown_after u op before behind old new s after is grows steps = record {
  shown = step u (passed_by before is.shown) op;
  alike = λ t passed knows. ap (passed_by passed) (steps t knows
      ∙ ap (λ x. step u x op) (is.alike t before (knows_before old new t grows knows)));
}

-- what comes of a state that is shown alike, behind the same ops
pub shown_at : (f : steps.State → steps.State) (passed : List Op) (old new : List TypeRow) (s after : State)
    → IsShown old s
    → Grows old new
    → ((t : ℕ → CType) → Knows t new → state_of t passed after ≡ f (state_of t passed s)) → IsShown new after
unfolding state_of
shown_at f passed old new s after is grows made = record {
  shown = f (passed_by passed is.shown);
  alike = λ t p knows. ap (passed_by p) (made t knows
      ∙ ap f (is.alike t passed (knows_before old new t grows knows)));
}
