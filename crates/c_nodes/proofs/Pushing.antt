-- The heights of lists with one more at the end: the greater of the list's and the item's.
use Rattle.std.proofs.Common.{◌≡◌, ℕ, ◌+◌, max, List, [], ◌∷◌, ◌++◌, refl, sym, ap, ◌∙◌, arith}
use Rattle.c_syntax.specs.declared.parts.Listed.{Listed}
use Rattle.c_syntax.specs.declared.declaration.InitDeclr.{InitDeclr}
use Rattle.c_syntax.specs.declared.declarator.Param.{Param}
use Rattle.c_syntax.specs.declared.expression.Assoc.{Assoc}
use Rattle.c_syntax.specs.declared.expression.Expr.{Expr}
use Rattle.c_syntax.specs.declared.initialiser.Desig.{Desig}
use Rattle.c_syntax.specs.declared.initialiser.InitItem.{InitItem}
use Rattle.c_syntax.specs.declared.specifier.Enumerator.{Enumerator}
use Rattle.c_syntax.specs.declared.specifier.MemDeclr.{MemDeclr}
use Rattle.c_syntax.specs.declared.specifier.SpecWord.{SpecWord}
use Rattle.c_syntax.specs.declared.specifier.StructItem.{StructItem}
use Rattle.c_syntax.specs.declared.statement.BlockItem.{BlockItem}
use Rattle.c_tree.specs.Height.{attrs_height, mem_declr_height}
use Rattle.c_tree.specs.View.{expr_of, mem_declr_of}
use Rattle.c_tree.specs.Height.{expr_height}
use Rattle.c_nodes.specs.Heights as heights

max_swap : (one other : ℕ) → max one other ≡ max other one
max_swap one other = grind arith

max_join : (one rest next : ℕ) → max one (max rest next) ≡ max (max one rest) next
max_join one rest next = grind arith

module _ {A : Type 0} (all : List A → ℕ) (item : A → ℕ)
    (more : (x : A) (xs : List A) → all (x ∷ xs) ≡ max (item x) (all xs)) where
  pushed : (xs : List A) (x : A) → all (xs ++ x ∷ []) ≡ max (all xs) (item x)
  pushed [] x = more x [] ∙ max_swap (item x) (all [])
  pushed (first ∷ xs) x =
      more first (xs ++ x ∷ []) ∙ ap (max (item first)) (pushed xs x) ∙ max_join (item first) (all xs) (item x)
      ∙ ap (λ (n : ℕ). max n (item x)) (sym (more first xs))

pub exprs_pushed : (es : List Expr) (e : Expr)
    → heights.of_exprs (es ++ e ∷ []) ≡ max (heights.of_exprs es) (expr_height (expr_of e))
exprs_pushed es e = pushed heights.of_exprs (λ e. expr_height (expr_of e)) (λ x xs. refl) es e

pub assocs_pushed : (xs : List Assoc) (x : Assoc)
    → heights.of_assocs (xs ++ x ∷ []) ≡ max (heights.of_assocs xs) (heights.of_assoc x)
assocs_pushed xs x = pushed heights.of_assocs heights.of_assoc (λ x xs. refl) xs x

pub words_pushed : (ws : List SpecWord) (w : SpecWord)
    → heights.of_words (ws ++ w ∷ []) ≡ max (heights.of_words ws) (heights.of_word w + 1)
words_pushed ws w = pushed heights.of_words (λ w. heights.of_word w + 1) (λ x xs. refl) ws w

pub struct_items_pushed : (xs : List StructItem) (x : StructItem)
    → heights.of_struct_items (xs ++ x ∷ []) ≡ max (heights.of_struct_items xs) (heights.of_struct_item x)
struct_items_pushed xs x = pushed heights.of_struct_items heights.of_struct_item (λ x xs. refl) xs x

pub members_pushed : (xs : List (Listed MemDeclr)) (x : Listed MemDeclr)
    → heights.of_members (xs ++ x ∷ []) ≡ max (heights.of_members xs) (heights.of_member x.attrs.items x.item)
members_pushed xs x =
    pushed heights.of_members (λ x. heights.of_member x.attrs.items x.item) (λ x xs. max_join
    (attrs_height x.attrs.items) (mem_declr_height (mem_declr_of x.item)) (heights.of_members xs)) xs x

pub enumerators_pushed : (xs : List Enumerator) (x : Enumerator)
    → heights.of_enumerators (xs ++ x ∷ [])
    ≡ max (heights.of_enumerators xs) (heights.of_enumerator x.attrs.items x.value)
enumerators_pushed xs x =
    pushed heights.of_enumerators (λ x. heights.of_enumerator x.attrs.items x.value) (λ x xs. refl) xs x

pub params_pushed : (xs : List Param) (x : Param)
    → heights.of_params (xs ++ x ∷ [])
    ≡ max (heights.of_params xs) (heights.of_param x.specs.words.items x.declr x.attrs.items)
params_pushed xs x =
    pushed heights.of_params (λ x. heights.of_param x.specs.words.items x.declr x.attrs.items) (λ x xs. refl) xs x

pub init_items_pushed : (xs : List InitItem) (x : InitItem)
    → heights.of_init_items (xs ++ x ∷ []) ≡ max (heights.of_init_items xs) (heights.of_init_item x.desigs.items x.init)
init_items_pushed xs x =
    pushed heights.of_init_items (λ x. heights.of_init_item x.desigs.items x.init) (λ x xs. refl) xs x

pub desigs_pushed : (xs : List Desig) (x : Desig)
    → heights.of_desigs (xs ++ x ∷ []) ≡ max (heights.of_desigs xs) (heights.of_desig x)
desigs_pushed xs x = pushed heights.of_desigs heights.of_desig (λ x xs. refl) xs x

pub steps_pushed : (xs : List Desig) (x : Desig)
    → heights.of_steps (xs ++ x ∷ []) ≡ max (heights.of_steps xs) (heights.of_step x)
steps_pushed xs x = pushed heights.of_steps heights.of_step (λ x xs. refl) xs x

pub init_declrs_pushed : (xs : List (Listed InitDeclr)) (x : Listed InitDeclr)
    → heights.of_init_declrs (xs ++ x ∷ []) ≡ max (heights.of_init_declrs xs)
    (heights.of_init_declr x.attrs.items x.item.declr x.item.label x.item.attrs.items x.item.init)
init_declrs_pushed xs x =
    pushed heights.of_init_declrs (λ x.
    heights.of_init_declr x.attrs.items x.item.declr x.item.label x.item.attrs.items x.item.init) (λ x xs. refl) xs x

pub block_items_pushed : (xs : List BlockItem) (x : BlockItem)
    → heights.of_block (xs ++ x ∷ []) ≡ max (heights.of_block xs) (heights.of_block_item x + 1)
block_items_pushed xs x = pushed heights.of_block (λ x. heights.of_block_item x + 1) (λ x xs. refl) xs x
