-- Stacks are lists, and views go through them.
use Rattle.std.proofs.Common.{◌≡◌, ◌<◌, ◌≤◌, ◌-◌, ◌+◌, ℕ, zero, suc, List, [], ◌∷◌, ◌++◌, length, reverse, map, take, drop, get_or, Option, None, Some, option_map, refl, sym, ◌∙◌, ap, arith}
use Rattle.std.proofs.lemmas.List.{reverse-append, drop-map, take-map, map-append, take_more}
use Rattle.name_rules.specs.ShapeSteps.State as declarations
use Rattle.expr_shapes.specs.declared.shape_stacks.stacks.OpenDeclaration.{OpenDeclaration}
use Rattle.expr_shapes.specs.ShapeStacks.Stacked.{with_first, no_declaration}
use Rattle.expr_shapes.specs.ShapeStacks.Views.{open_as}
use Rattle.row_rules.specs.RowSteps.Rounds.{name_so_far}
use Rattle.row_rules.specs.RowSteps.State as states
use Rattle.row_rules.specs.RowSteps.Steps as steps
use Rattle.skel_steps.specs.declared.skel_stacks.stacks.Operand.{Operand}
use Rattle.skel_steps.specs.declared.skel_stacks.stacks.Operand.TheVariants as operands
use Rattle.skel_steps.specs.declared.skel_stacks.stacks.Braces.{Braces}
use Rattle.skel_steps.specs.declared.skel_stacks.stacks.Braces.TheVariants as braces
use Rattle.skel_steps.specs.SkelStacks.Stacked.{Stacked}
use Rattle.skel_steps.specs.SkelStacks.Views.{Tables, operand_in, braces_in, skel_in, state_in}

-- the operands down to a depth

pub taken_more : {A : Type 0} (xs : List A) (n : ℕ) (d : A) → n < length xs →
    reverse (take (n + 1) xs) ≡ get_or xs n d ∷ reverse (take n xs)
taken_more {A} xs n d lt = ap reverse (take_more xs n d lt) ∙ reverse-append (take n xs) (get_or xs n d ∷ [])

-- a stack that is cut to no elements is empty
pub none_kept : {A : Type 0} (xs : List A) → drop (length xs - 0) xs ≡ []
none_kept xs = gone xs (length xs - 0) (omega arith) where
  gone : {A : Type 0} (xs : List A) (n : ℕ) → length xs ≤ n → drop n xs ≡ []
  gone [] zero le = refl
  gone [] (suc n) le = refl
  gone (x ∷ xs) zero le = absurd (omega arith)
  gone (x ∷ xs) (suc n) le = gone xs n (omega arith)

-- views

abbrev unknown : Operand
unknown = operands.NamedType None

-- the operand at a depth of the stack is the first of the state's operands from that depth on
pub operand_found : (t : Tables) (os : List Operand) (n : ℕ) →
    operand_in t (get_or os n unknown) ≡ states.first_operand (drop n (map (operand_in t) os))
operand_found t [] zero = refl
operand_found t [] (suc n) = refl
operand_found t (it ∷ os) zero = refl
operand_found t (it ∷ os) (suc n) = operand_found t os n

pub drop_viewed : (t : Tables) (n : ℕ) (os : List Operand) → map (operand_in t) (drop n os) ≡
    drop n (map (operand_in t) os)
drop_viewed t n os = sym (drop-map (operand_in t) n os)

pub length_viewed : (t : Tables) (os : List Operand) → length (map (operand_in t) os) ≡ length os
length_viewed t [] = refl
length_viewed t (it ∷ os) = ap suc (length_viewed t os)

pub base_found : (ns : List ℕ) → get_or ns 0 0 ≡ states.first_base ns
base_found [] = refl
base_found (n ∷ ns) = refl

pub first_found : (t : Tables) (its : List Braces) → braces_in t (get_or its 0 braces.Untargeted) ≡
    states.first_braces (map (braces_in t) its)
first_found t [] = refl
first_found t (it ∷ its) = refl

pub braces_left : (t : Tables) (its : List Braces) → map (braces_in t) (drop 1 its) ≡
    declarations.without_innermost (map (braces_in t) its)
braces_left t [] = refl
braces_left t (it ∷ its) = refl

pub bases_left : (ns : List ℕ) → drop 1 ns ≡ declarations.without_innermost ns
bases_left [] = refl
bases_left (n ∷ ns) = refl

-- declarations

pub declared_found : (its : List OpenDeclaration) → (get_or its 0 no_declaration).declared ≡
    declarations.declared_last (map open_as its)
declared_found [] = refl
declared_found (it ∷ its) = refl

pub name_found : (its : List OpenDeclaration) → (get_or its 0 no_declaration).name ≡ name_so_far (map open_as its)
name_found [] = refl
name_found (it ∷ its) = refl

pub name_changed : (token : ℕ) (its : List OpenDeclaration) →
    map open_as (with_first (record { name = Some token; declared = (get_or its 0 no_declaration).declared }) its) ≡
    declarations.changed (declarations.with_name token) (map open_as its)
name_changed token [] = refl
name_changed token (it ∷ its) = refl

pub declared_changed : (its : List OpenDeclaration) →
    map open_as (with_first (record { name = None; declared = (get_or its 0 no_declaration).name }) its) ≡
    declarations.changed declarations.with_declared (map open_as its)
declared_changed [] = refl
declared_changed (it ∷ its) = refl

pub member_changed : (its : List OpenDeclaration) →
    map open_as (with_first (record { name = None; declared = (get_or its 0 no_declaration).declared }) its) ≡
    declarations.changed declarations.without_name (map open_as its)
member_changed [] = refl
member_changed (it ∷ its) = refl

pub declarations_left : (its : List OpenDeclaration) → map open_as (drop 1 its) ≡
    declarations.without_innermost (map open_as its)
declarations_left [] = refl
declarations_left (it ∷ its) = refl

-- operands that go from the top, and one that takes their place

pub dropped_viewed : (t : Tables) (n : ℕ) (st : Stacked) (os : List Operand) → os ≡ drop n st.operands →
    state_in t (record st { operands = os }) ≡ states.dropped n (state_in t st)
dropped_viewed t n st os e = ap (λ (os : List Operand). state_in t (record st { operands = os })) e ∙
    ap (λ (os : List states.Operand). record (state_in t st) { operands = os }) (drop_viewed t n st.operands)

-- an operand put in place of n others is so in the state
pub put_viewed : (t : Tables) (n : ℕ) (st : Stacked) (it : Operand) (os : List Operand) → os ≡
    it ∷ drop n st.operands → state_in t (record st { operands = os }) ≡
    states.operand_put n (operand_in t it) (state_in t st)
put_viewed t n st it os e =
    ap (λ (os : List Operand). state_in t (record st { operands = os })) e ∙
    ap (λ (os : List states.Operand). record (state_in t st) { operands = operand_in t it ∷ os })
    (drop_viewed t n st.operands)

-- an initialiser in braces is gone through

-- operands of the state in reverse are those of the reversed stack
reverse_viewed : (t : Tables) (os : List Operand) → map (operand_in t) (reverse os) ≡ reverse (map (operand_in t) os)
reverse_viewed t [] = refl
reverse_viewed t (it ∷ os) =
    ap (map (operand_in t)) (reverse-append (it ∷ []) os)
    ∙ map-append (operand_in t) (reverse os) (it ∷ [])
    ∙ ap (λ (xs : List states.Operand). xs ++ (operand_in t it ∷ [])) (reverse_viewed t os)
    ∙ sym (reverse-append (operand_in t it ∷ []) (map (operand_in t) os))

-- the operands within an initialiser are those of the stack above where it began, in their order
within_viewed : (t : Tables) (st : Stacked) (n : ℕ) → n ≡ states.depth_below (state_in t st) →
    map (operand_in t) (reverse (take n st.operands)) ≡ states.operands_within (state_in t st)
within_viewed t st n e =
    reverse_viewed t (take n st.operands)
    ∙ ap reverse (sym (take-map (operand_in t) n st.operands))
    ∙ ap (λ (n : ℕ). reverse (take n (map (operand_in t) st.operands))) e

-- an initialiser that is gone through has its operands as leaves and its target as the whole, as in the state
pub gone_viewed : (t : Tables) (st : Stacked) (n : ℕ) (ls : List Operand) (bs : List Braces) (target : Option ℕ) →
    ls ≡ reverse (take n st.operands) → n ≡ states.depth_below (state_in t st) →
    bs ≡ braces.Whole target ∷ st.braces →
    state_in t (record st { braces = bs; leaves = ls })
    ≡ steps.gone_through (option_map (skel_in t) target) (state_in t st)
gone_viewed t st n ls bs target l e b =
    ap (λ (bs : List Braces). state_in t (record st { braces = bs; leaves = ls })) b
    ∙ ap (λ (ls : List Operand). state_in t (record st { braces = braces.Whole target ∷ st.braces; leaves = ls })) l
    ∙ ap (λ (ls : List states.Operand). record (state_in t st)
    { braces = states.whole (option_map (skel_in t) target) ∷ map (braces_in t) st.braces; leaves = ls })
    (within_viewed t st n e)

-- an initialiser in braces ends

-- the operands below an initialiser are those of the stack down from where it began
below_viewed : (t : Tables) (st : Stacked) →
    map (operand_in t) (drop (length st.operands - get_or st.bases 0 0) st.operands) ≡
    states.operands_below (state_in t st)
below_viewed t st =
    drop_viewed t (length st.operands - get_or st.bases 0 0) st.operands
    ∙ ap (λ (n : ℕ). drop n (map (operand_in t) st.operands))
    (ap (λ (n : ℕ). length st.operands - n) (base_found st.bases) ∙
    ap (λ (n : ℕ). n - states.first_base st.bases) (sym (length_viewed t st.operands)))

abbrev left : Stacked → List Operand → List ℕ → List Braces → List Operand → Stacked
left st os ns bs ls = record st { operands = os; bases = ns; braces = bs; leaves = ls }

-- an initialiser that is left drops its operands, its braces and where it began, as in the state
pub left_viewed : (t : Tables) (st : Stacked) (os : List Operand) (ns : List ℕ) (bs : List Braces) (ls : List Operand)
    → os ≡
    drop (length st.operands - get_or st.bases 0 0) st.operands → ns ≡ drop 1 st.bases
    → bs ≡ drop 1 st.braces → ls ≡ [] →
    state_in t (left st os ns bs ls) ≡ steps.braces_left (states.operands_below (state_in t st)) (state_in t st)
left_viewed t st os ns bs ls e n b l =
    ap (λ (ls : List Operand). state_in t (left st os ns bs ls)) l
    ∙ ap (λ (os : List Operand). state_in t (left st os ns bs [])) e ∙ ap (λ (ns : List ℕ). state_in t
    (left st (drop (length st.operands - get_or st.bases 0 0) st.operands) ns bs [])) (n ∙ bases_left st.bases)
    ∙ ap (λ (bs : List Braces). state_in t (left st (drop (length st.operands - get_or st.bases 0 0) st.operands)
    (declarations.without_innermost st.bases) bs [])) b ∙ ap (λ (os : List states.Operand). record (state_in t st) {
      operands = os;
      bases = declarations.without_innermost st.bases;
      braces = map (braces_in t) (drop 1 st.braces);
      leaves = [];
    }) (below_viewed t st) ∙ ap (λ (bs : List states.Braces). record (state_in t st) {
      operands = states.operands_below (state_in t st);
      bases = declarations.without_innermost st.bases;
      braces = bs;
      leaves = [];
    }) (braces_left t st.braces)

-- another list in place of the innermost
pub braces_changed : (t : Tables) (change : states.Braces → states.Braces) (its : List Braces) (new : Braces) →
    braces_in t new ≡ change (states.first_braces (map (braces_in t) its)) →
    map (braces_in t) (with_first new its) ≡ declarations.changed change (map (braces_in t) its)
braces_changed t change [] new e = refl
braces_changed t change (it ∷ its) new e = ap (λ (x : states.Braces). x ∷ map (braces_in t) its) e
