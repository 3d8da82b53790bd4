-- Stacks are lists turned round, and views go through them.
use Rattle.std.proofs.Common.{◌≡◌, ◌≢◌, ◌<◌, ◌≤◌, ◌-◌, ◌+◌, ℕ, zero, suc, List, [], ◌∷◌, ◌++◌, length, reverse, map, take, drop, get_or, None, Some, refl, sym, ◌∙◌, ap, arith, take-append-drop, length-append, length-take, length-drop}
use Rattle.std.proofs.lemmas.List.{get_or-reverse, length-reverse, reverse-append, drop-map, get_or_past}
use Rattle.qual_base.proofs.Lists.{drop_past}
use Rattle.type_table.specs.declared.row.TypeRow.{TypeRow}
use Rattle.name_rules.specs.ShapeSteps.State as states
use Rattle.name_rules.specs.ShapeSteps.Steps as steps
use Rattle.expr_shapes.specs.declared.shape_stacks.stacks.Operand.{Operand}
use Rattle.expr_shapes.specs.declared.shape_stacks.stacks.Operand.TheVariants as operands
use Rattle.expr_shapes.specs.ShapeStacks.Stacked.{Stacked, with_first, no_declaration}
use Rattle.expr_shapes.specs.declared.shape_stacks.stacks.Braces.{Braces}
use Rattle.expr_shapes.specs.declared.shape_stacks.stacks.Braces.TheVariants as braces
use Rattle.expr_shapes.specs.declared.shape_stacks.stacks.OpenDeclaration.{OpenDeclaration}
use Rattle.expr_shapes.specs.ShapeStacks.Views.{operand_in, braces_in, open_as, state_in}

pub length_turned : {A : Type 0} (xs : List A) → length (reverse xs) ≡ length xs
length_turned xs = length-reverse xs

pub at_turned : {A : Type 0} (xs : List A) (n : ℕ) (d : A) → n < length xs → get_or (reverse xs) n d ≡
    get_or xs (length xs - 1 - n) d
at_turned xs n d lt = get_or-reverse xs n d lt

pub past_turned : {A : Type 0} (xs : List A) (n : ℕ) (d : A) → length xs ≤ n → get_or (reverse xs) n d ≡ d
past_turned xs n d le = get_or_past (reverse xs) n d (let l = length-reverse xs in omega arith)

-- as many items dropped as a list has leave what stands behind it
drop_front : {A : Type 0} (xs ys : List A) (n : ℕ) → n ≡ length xs → drop n (xs ++ ys) ≡ ys
drop_front [] ys zero e = refl
drop_front [] ys (suc n) e = absurd (omega arith)
drop_front (x ∷ xs) ys zero e = absurd (omega arith)
drop_front (x ∷ xs) ys (suc n) e = drop_front xs ys n (omega arith)

-- the bottom of a stack
pub kept_turned : {A : Type 0} (xs : List A) (k : ℕ) → reverse (take k xs) ≡ drop (length (reverse xs) - k) (reverse xs)
kept_turned {A} xs k =
    sym (ap (λ (ys : List A). drop (length (reverse xs) - k) (reverse ys)) (sym (take-append-drop k xs))
    ∙ (ap (drop (length (reverse xs) - k)) (reverse-append (take k xs) (drop k xs))
    ∙ drop_front (reverse (drop k xs)) (reverse (take k xs)) (length (reverse xs) - k)
    (let l = length-reverse xs in let m = length-reverse (drop k xs) in let d = length-drop k xs in omega arith)))

pub left_turned : {A : Type 0} (xs : List A) (k : ℕ) → k < length xs → reverse (take (length xs - k) xs) ≡
    drop k (reverse xs)
left_turned {A} xs k lt =
    kept_turned xs (length xs - k) ∙ ap (λ (n : ℕ). drop n (reverse xs)) (let l = length-reverse xs in omega arith)

pub none_turned : {A : Type 0} (xs : List A) (k : ℕ) → length xs ≤ k → drop k (reverse xs) ≡ []
none_turned xs k le = drop_past (reverse xs) k (let l = length-reverse xs in omega arith)

pub first_gone : {A : Type 0} (it : A) (xs : List A) → length xs ≢ 0 → it ∷ drop 1 xs ≡ with_first it xs
first_gone it [] h = absurd (h refl)
first_gone it (x ∷ xs) h = refl

pub none_gone : {A : Type 0} (it : A) (xs : List A) → length xs ≡ 0 → with_first it xs ≡ xs
none_gone it [] e = refl
none_gone it (x ∷ xs) e = absurd (omega arith)

-- views

abbrev unknown : Operand
unknown = operands.NamedType None

-- the operand of a depth on a stack, or an unknown one below it, shows what is found there
pub operand_found : (rows : List TypeRow) (os : List Operand) (n : ℕ) →
    operand_in rows (get_or os n unknown) ≡ states.first_operand (drop n (map (operand_in rows) os))
operand_found rows [] zero = refl
operand_found rows [] (suc n) = refl
operand_found rows (it ∷ os) zero = refl
operand_found rows (it ∷ os) (suc n) = operand_found rows os n

pub drop_viewed : (rows : List TypeRow) (n : ℕ) (os : List Operand) → map (operand_in rows) (drop n os) ≡
    drop n (map (operand_in rows) os)
drop_viewed rows n os = sym (drop-map (operand_in rows) n os)

-- operands that go from the top, and one that takes their place

pub dropped_viewed : (rows : List TypeRow) (n : ℕ) (st : Stacked) (os : List Operand) → os ≡ drop n st.operands →
    state_in rows (record st { operands = os }) ≡ states.dropped n (state_in rows st)
dropped_viewed rows n st os e = ap (λ (os : List Operand). state_in rows (record st { operands = os })) e ∙
    ap (λ (os : List states.Operand). record (state_in rows st) { operands = os }) (drop_viewed rows n st.operands)

-- an operand put in place of so many shows that operand put in place of so many
pub put_viewed : (rows : List TypeRow) (n : ℕ) (st : Stacked) (it : Operand) (os : List Operand) → os ≡
    it ∷ drop n st.operands → state_in rows (record st { operands = os }) ≡
    states.operand_put n (operand_in rows it) (state_in rows st)
put_viewed rows n st it os e =
    ap (λ (os : List Operand). state_in rows (record st { operands = os })) e ∙
    ap (λ (os : List states.Operand). record (state_in rows st) { operands = operand_in rows it ∷ os })
    (drop_viewed rows n st.operands)

pub first_found : (rows : List TypeRow) (its : List Braces) → braces_in rows (get_or its 0 braces.Untargeted) ≡
    states.first_braces (map (braces_in rows) its)
first_found rows [] = refl
first_found rows (it ∷ its) = refl

pub braces_changed : (rows : List TypeRow) (change : states.Braces → states.Braces) (its : List Braces) (new : Braces) →
    braces_in rows new ≡ change (braces_in rows (get_or its 0 braces.Untargeted)) →
    map (braces_in rows) (with_first new its) ≡ states.changed change (map (braces_in rows) its)
braces_changed rows change [] new e = refl
braces_changed rows change (it ∷ its) new e = ap (λ (x : states.Braces). x ∷ map (braces_in rows) its) e

pub braces_left : (rows : List TypeRow) (its : List Braces) → map (braces_in rows) (drop 1 its) ≡
    states.without_innermost (map (braces_in rows) its)
braces_left rows [] = refl
braces_left rows (it ∷ its) = refl

pub bases_left : (ns : List ℕ) → drop 1 ns ≡ states.without_innermost ns
bases_left [] = refl
bases_left (n ∷ ns) = refl

pub base_found : (ns : List ℕ) → get_or ns 0 0 ≡ states.first_base ns
base_found [] = refl
base_found (n ∷ ns) = refl

pub length_viewed : (rows : List TypeRow) (os : List Operand) → length (map (operand_in rows) os) ≡ length os
length_viewed rows [] = refl
length_viewed rows (it ∷ os) = ap suc (length_viewed rows os)

pub declared_found : (its : List OpenDeclaration) → (get_or its 0 no_declaration).declared ≡
    states.declared_last (map open_as its)
declared_found [] = refl
declared_found (it ∷ its) = refl

pub name_changed : (token : ℕ) (its : List OpenDeclaration) →
    map open_as (with_first (record { name = Some token; declared = (get_or its 0 no_declaration).declared }) its) ≡
    states.changed (states.with_name token) (map open_as its)
name_changed token [] = refl
name_changed token (it ∷ its) = refl

pub declared_changed : (its : List OpenDeclaration) →
    map open_as (with_first (record { name = None; declared = (get_or its 0 no_declaration).name }) its) ≡
    states.changed states.with_declared (map open_as its)
declared_changed [] = refl
declared_changed (it ∷ its) = refl

pub member_changed : (its : List OpenDeclaration) →
    map open_as (with_first (record { name = None; declared = (get_or its 0 no_declaration).declared }) its) ≡
    states.changed states.without_name (map open_as its)
member_changed [] = refl
member_changed (it ∷ its) = refl

pub declarations_left : (its : List OpenDeclaration) → map open_as (drop 1 its) ≡
    states.without_innermost (map open_as its)
declarations_left [] = refl
declarations_left (it ∷ its) = refl

-- an initialiser in braces ends

-- the operands below those of an initialiser in braces show the operands below
below_viewed : (rows : List TypeRow) (st : Stacked) →
    map (operand_in rows) (drop (length st.operands - get_or st.bases 0 0) st.operands) ≡
    states.operands_below (state_in rows st)
below_viewed rows st =
    drop_viewed rows (length st.operands - get_or st.bases 0 0) st.operands
    ∙ ap (λ (n : ℕ). drop n (map (operand_in rows) st.operands))
    (ap (λ (n : ℕ). length st.operands - n) (base_found st.bases) ∙
    ap (λ (n : ℕ). n - states.first_base st.bases) (sym (length_viewed rows st.operands)))

abbrev left : Stacked → List Operand → List ℕ → List Braces → Stacked
left st os ns bs = record st { operands = os; bases = ns; braces = bs }

-- stacks that leave an initialiser in braces show what the rules' step leaves
pub left_viewed : (rows : List TypeRow) (st : Stacked) (os : List Operand) (ns : List ℕ) (bs : List Braces) → os ≡
    drop (length st.operands - get_or st.bases 0 0) st.operands → ns ≡ drop 1 st.bases → bs ≡ drop 1 st.braces →
    state_in rows (left st os ns bs) ≡ steps.braces_left (states.operands_below (state_in rows st)) (state_in rows st)
left_viewed rows st os ns bs e n b =
    ap (λ (os : List Operand). state_in rows (left st os ns bs)) e
    ∙ ap (λ (ns : List ℕ). state_in rows (left st (drop (length st.operands - get_or st.bases 0 0) st.operands) ns bs))
    (n ∙ bases_left st.bases)
    ∙ ap (λ (bs : List Braces). state_in rows
    (left st (drop (length st.operands - get_or st.bases 0 0) st.operands) (states.without_innermost st.bases) bs))
    b
    ∙ ap (λ (os : List states.Operand). record (state_in rows st)
    { operands = os; bases = states.without_innermost st.bases; braces = map (braces_in rows) (drop 1 st.braces) })
    (below_viewed rows st)
    ∙ ap (λ (bs : List states.Braces). record (state_in rows st)
    { operands = states.operands_below (state_in rows st); bases = states.without_innermost st.bases; braces = bs })
    (braces_left rows st.braces)

-- another list in place of the innermost
pub set_viewed : (rows : List TypeRow) (change : states.Braces → states.Braces) (st : Stacked) (it new : Braces)
    (bs : List Braces) →
    braces_in rows it ≡ states.first_braces (map (braces_in rows) st.braces) → braces_in rows new ≡
    change (braces_in rows it) → bs ≡ with_first new st.braces →
    state_in rows (record st { braces = bs }) ≡ steps.in_braces change (state_in rows st)
set_viewed rows change st it new bs first e b =
    ap (λ (bs : List Braces). state_in rows (record st { braces = bs })) b
    ∙ ap (λ (bs : List states.Braces). record (state_in rows st) { braces = bs })
    (braces_changed rows change st.braces new (e ∙ ap change (first ∙ sym (first_found rows st.braces))))
