-- Members, enumerators and their declarators as lists of items.
use Rattle.std.proofs.Common.{◌≡◌, ◌≢◌, ℕ, List, [], ◌∷◌, Option, Some, None, refl, ◌∙◌, ap, arith}
use Rattle.std.specs.Prelude.{max}
use Rattle.c_words.specs.declared.kinds.Punct.TheVariants as puncts
use Rattle.c_tree.specs.declared.lexeme.Lexeme.{Lexeme}
use Rattle.c_tree.specs.Tree.{StructItems, no_struct_items, more_struct_items, StructItem, MemDeclrs, no_mem_declrs, more_mem_declrs, Enumerators, no_enumerators, more_enumerators}
use Rattle.c_tree.specs.Text.{separated, sign_text, some_sign_text, identifier_text, attrs_text, some_value_text, struct_items_text, struct_item_text, mem_declrs_text, other_mem_declrs_text, mem_declr_text, enumerators_text, other_enumerators_text}
use Rattle.c_tree.specs.Height.{attrs_height, struct_item_height, struct_items_height, mem_declr_height, mem_declrs_height, enumerators_height}
use Rattle.c_tree.specs.WellFormed.{AreStructItems, AreMemDeclrs, AreEnumerators}
use Rattle.typedef_scope.specs.declared.kind.Kind.TheVariants.{Constant}
use Rattle.c_units.specs.HeldScopes.{HeldScopes, declare}
use Rattle.c_units.specs.Scoping.{behind, struct_item_scopes, struct_items_scopes, mem_declr_scopes, mem_declrs_scopes, some_value_scopes, enumerators_scopes}
use Rattle.c_reading.specs.Parts.{MemberItem, EnumItem, struct_items_from, mem_declrs_from, enumerators_from}
use Rattle.c_reading.proofs.Forms.{behind_same}
use Rattle.c_reading.proofs.Rows.{AllFit, row_text, row_scopes, row_height}
use Rattle.c_reading.proofs.Commas.{Ending, no_ending, others_text, commas_text, ending_text, HasItem}
use Rattle.c_reading.proofs.Aims.{struct_item_form, member_form, enumerator_form}

abbrev pub struct_items : StructItems → List StructItem
struct_items no_struct_items = []
struct_items (more_struct_items x xs) = x ∷ struct_items xs

pub struct_items_back : (xs : StructItems) → struct_items_from (struct_items xs) ≡ xs
struct_items_back no_struct_items = refl
struct_items_back (more_struct_items x xs) = ap (more_struct_items x) (struct_items_back xs)

abbrev pub mem_items : MemDeclrs → List MemberItem
mem_items no_mem_declrs = []
mem_items (more_mem_declrs attrs d ds) = record { attrs = attrs; declr = d } ∷ mem_items ds

pub mem_items_back : (ds : MemDeclrs) → mem_declrs_from (mem_items ds) ≡ ds
mem_items_back no_mem_declrs = refl
mem_items_back (more_mem_declrs attrs d ds) = ap (more_mem_declrs attrs d) (mem_items_back ds)

abbrev pub enum_items : Enumerators → List EnumItem
enum_items no_enumerators = []
enum_items (more_enumerators name attrs value es) = record { name = name; attrs = attrs; value = value } ∷ enum_items es

pub enum_items_back : (es : Enumerators) → enumerators_from (enum_items es) ≡ es
enum_items_back no_enumerators = refl
enum_items_back (more_enumerators name attrs value es) = ap (more_enumerators name attrs value) (enum_items_back es)

behind_behind : (r : Option HeldScopes) (f g : HeldScopes → Option HeldScopes)
    → behind (behind r f) g ≡ behind r (λ t. behind (f t) g)
behind_behind None f g = refl
behind_behind (Some t) f g = refl

-- nothing ends declarators of members, and a comma may end enumerators
abbrev pub member_ending : Ending ⊥
member_ending = no_ending

abbrev pub comma_ending : Ending ℕ
comma_ending = record { text = λ comma k. sign_text puncts.Comma comma k; Fits = λ comma. Unit {0} }

module _ (all : List Lexeme) where
  -- members
  pub items_are : (xs : List StructItem) (k : List Lexeme)
      → row_text (struct_item_form all) xs k ≡ struct_items_text all (struct_items_from xs) k
  items_are [] k = refl
  items_are (x ∷ xs) k = ap (struct_item_text all x) (items_are xs k)

  pub items_fit : (xs : List StructItem) → AllFit (struct_item_form all) xs → AreStructItems all (struct_items_from xs)
  items_fit [] h = tt
  items_fit (x ∷ xs) h = (h.0, items_fit xs h.1)

  pub items_fit_back : (xs : StructItems) → AreStructItems all xs → AllFit (struct_item_form all) (struct_items xs)
  items_fit_back no_struct_items h = tt
  items_fit_back (more_struct_items x xs) h = (h.0, items_fit_back xs h.1)

  pub items_named : (xs : List StructItem) (s : HeldScopes)
      → row_scopes (struct_item_form all) xs s ≡ struct_items_scopes (struct_items_from xs) s
  items_named [] s = refl
  items_named (x ∷ xs) s = behind_same (struct_item_scopes x s) _ _ (items_named xs)

  pub items_high : (xs : List StructItem)
      → row_height (struct_item_form all) xs ≡ struct_items_height (struct_items_from xs)
  items_high [] = refl
  items_high (x ∷ xs) = ap (max (struct_item_height x)) (items_high xs)

  -- declarators of members
  other_declrs_are : (xs : List MemberItem) (k : List Lexeme)
      → others_text (member_form all) member_ending xs k ≡ other_mem_declrs_text all (mem_declrs_from xs) k
  other_declrs_are [] k = refl
  other_declrs_are (x ∷ xs) k =
      ap (λ (k : List Lexeme). separated (attrs_text all x.attrs (mem_declr_text all x.declr k)))
      (other_declrs_are xs k)

  pub declrs_are : (xs : List MemberItem) (k : List Lexeme)
      → commas_text (member_form all) member_ending xs k ≡ mem_declrs_text all (mem_declrs_from xs) k
  declrs_are [] k = refl
  declrs_are (x ∷ xs) k =
      ap (λ (k : List Lexeme). attrs_text all x.attrs (mem_declr_text all x.declr k)) (other_declrs_are xs k)

  pub declrs_fit : (xs : List MemberItem) → AllFit (member_form all) xs → AreMemDeclrs all (mem_declrs_from xs)
  declrs_fit [] h = tt
  declrs_fit (x ∷ xs) h = (h.0.0, h.0.1, declrs_fit xs h.1)

  pub declrs_fit_back : (ds : MemDeclrs) → AreMemDeclrs all ds → AllFit (member_form all) (mem_items ds)
  declrs_fit_back no_mem_declrs h = tt
  declrs_fit_back (more_mem_declrs attrs d ds) h = ((h.0, h.1), declrs_fit_back ds h.2)

  pub declrs_named : (xs : List MemberItem) (s : HeldScopes)
      → row_scopes (member_form all) xs s ≡ mem_declrs_scopes (mem_declrs_from xs) s
  declrs_named [] s = refl
  declrs_named (x ∷ xs) s = behind_same (mem_declr_scopes x.declr s) _ _ (declrs_named xs)

  pub declrs_high : (xs : List MemberItem) → row_height (member_form all) xs ≡ mem_declrs_height (mem_declrs_from xs)
  declrs_high [] = refl
  declrs_high (x ∷ xs) =
      three (attrs_height x.attrs) (mem_declr_height x.declr) (row_height (member_form all) xs)
      ∙ ap (λ (h : ℕ). max (attrs_height x.attrs) (max (mem_declr_height x.declr) h)) (declrs_high xs)
    where
      three : (a b c : ℕ) → max (max a b) c ≡ max a (max b c)
      three a b c = omega arith

  -- enumerators
  other_enumerators_are : (xs : List EnumItem) (k : List Lexeme)
      → others_text (enumerator_form all) comma_ending xs k ≡ other_enumerators_text all (enumerators_from xs) k
  other_enumerators_are [] k = refl
  other_enumerators_are (x ∷ xs) k =
      ap (λ (k : List Lexeme). separated (identifier_text x.name
      (attrs_text all x.attrs (some_value_text all puncts.Equal x.value k)))) (other_enumerators_are xs k)

  pub enumerators_are : (xs : List EnumItem) (k : List Lexeme)
      → commas_text (enumerator_form all) comma_ending xs k ≡ enumerators_text all (enumerators_from xs) k
  enumerators_are [] k = refl
  enumerators_are (x ∷ xs) k =
      ap (λ (k : List Lexeme). identifier_text x.name
      (attrs_text all x.attrs (some_value_text all puncts.Equal x.value k))) (other_enumerators_are xs k)

  pub comma_ending_is : (o : Option ℕ) (k : List Lexeme)
      → ending_text (enumerator_form all) comma_ending o k ≡ some_sign_text puncts.Comma o k
  comma_ending_is None k = refl
  comma_ending_is (Some comma) k = refl

  pub enumerators_fit : (xs : List EnumItem) → AllFit (enumerator_form all) xs
      → AreEnumerators all (enumerators_from xs)
  enumerators_fit [] h = tt
  enumerators_fit (x ∷ xs) h = (h.0.0, h.0.1, enumerators_fit xs h.1)

  pub enumerators_fit_back : (es : Enumerators) → AreEnumerators all es → AllFit (enumerator_form all) (enum_items es)
  enumerators_fit_back no_enumerators h = tt
  enumerators_fit_back (more_enumerators name attrs value es) h = ((h.0, h.1), enumerators_fit_back es h.2)

  pub some_enumerators : (xs : List EnumItem) → HasItem (enumerator_form all) comma_ending xs
      → enumerators_from xs ≢ no_enumerators
  some_enumerators [] h = absurd h
  some_enumerators (x ∷ xs) h = λ e. absurd cc

  pub some_enumerators_back : (es : Enumerators) → es ≢ no_enumerators
      → HasItem (enumerator_form all) comma_ending (enum_items es)
  some_enumerators_back no_enumerators h = absurd (h refl)
  some_enumerators_back (more_enumerators name attrs value es) h = tt

  pub enumerators_named : (xs : List EnumItem) (s : HeldScopes)
      → row_scopes (enumerator_form all) xs s ≡ enumerators_scopes (enumerators_from xs) s
  enumerators_named [] s = refl
  enumerators_named (x ∷ xs) s =
      behind_behind (declare x.name.name Constant s)
      (λ t. behind (some_value_scopes x.value s) (declare x.name.name Constant)) (row_scopes (enumerator_form all) xs) ∙
      behind_same (declare x.name.name Constant s) _ _
      (λ t. behind_same (behind (some_value_scopes x.value s) (declare x.name.name Constant)) _ _
      (enumerators_named xs))

  pub enumerators_high : (xs : List EnumItem)
      → row_height (enumerator_form all) xs ≡ enumerators_height (enumerators_from xs)
  enumerators_high [] = refl
  enumerators_high (x ∷ xs) = ap (max ((enumerator_form all).height x)) (enumerators_high xs)
