-- What each turn of marks says of those before it.
use Rattle.std.proofs.Common.{◌≡◌, ℕ, Bool, true, false, List, [], ◌∷◌, Option, None, Some, refl, sym, ap, ◌⊎◌, inl, inr}
use Rattle.std.specs.Prelude.{if◌then◌else◌}
use Rattle.std.proofs.lemmas.Bool.{eqb-true}
use Rattle.c_tree.specs.declared.lexeme.Lexeme.{Lexeme}
use Rattle.c_tree.specs.Tree.{Declr, pointer, declr_name, declr_paren, array, params, abs_pointer, abs_paren, abs_array, abs_params, identifiers, base_name}
use Rattle.c_tree.specs.WellFormed.{IsDeclr, is_bare_name, lists_identifiers}
use Rattle.c_tree.specs.Unit.{Item, function_item, old_function_item, decl_item, asm_item, semi_item, IsItem}
use Rattle.c_tape.specs.Tests.{is_name}
use Rattle.owned_laws.specs.TapeLaws.Marks.{Mark, in_declaration, in_params, in_tag, in_scope, in_quiet, in_part, in_body, is_open, is_token, quiet_ended, tag_ended, scope_ended, params_ended, body_ended, declaration_ended, named, params_begun, param_ended, declared, member_declared, part_ended, auto_ended, identified, old_declared, body_begun, lists_own, DeclaresIts}

-- an optional token that is the same as another one is there, and so is the other
token_is : (n t : Option ℕ) → is_token n t ≡ true → (token : ℕ) × (n ≡ Some token) × (t ≡ Some token)
token_is None t e = absurd cc
token_is (Some n) None e = absurd cc
token_is (Some n) (Some m) e = (n, refl, ap (λ (it : ℕ). Some it) (sym (eqb-true n m e)))

pub quiet_was : (m n : List Mark) → quiet_ended m ≡ Some n → m ≡ in_quiet ∷ n
quiet_was (in_quiet ∷ m) n e = cc
quiet_was m n e = absurd cc

pub tag_was : (m n : List Mark) → tag_ended m ≡ Some n → m ≡ in_tag ∷ n
tag_was (in_tag ∷ m) n e = cc
tag_was m n e = absurd cc

pub scope_was : (m n : List Mark) → scope_ended m ≡ Some n → m ≡ in_scope ∷ n
scope_was (in_scope ∷ m) n e = cc
scope_was m n e = absurd cc

pub part_was : (m n : List Mark) → part_ended m ≡ Some n → m ≡ in_part ∷ n
part_was (in_part ∷ m) n e = cc
part_was m n e = absurd cc

pub identified_was : (m n : List Mark) → identified m ≡ Some n
    → (outer : List Mark) × (m ≡ in_params true ∷ outer) × (n ≡ m)
identified_was (in_params true ∷ m) n e = (m, refl, cc)
identified_was m n e = absurd cc

-- a declaration, with marks round it
pub record Declaring (m : List Mark) : Type 0 where
  pub name : Option ℕ
  pub last : Option ℕ
  pub own : Bool
  pub outer : List Mark
  pub is : m ≡ in_declaration name last own ∷ outer

-- what ends a declaration was in one, and leaves what is outside it
pub declaration_was : (m n : List Mark) → declaration_ended m ≡ Some n → (d : Declaring m) × (n ≡ d.outer)
declaration_was (in_declaration name last own ∷ m) n e =
    (record { name = name; last = last; own = own; outer = m; is = refl }, cc)
declaration_was m n e = absurd cc

-- a name that is read was in a declaration, which has it then
pub named_was : (token : ℕ) (m n : List Mark) → named token m ≡ Some n →
    (d : Declaring m) × (n ≡ in_declaration (Some token) d.last d.own ∷ d.outer)
named_was token (in_declaration name last own ∷ m) n e =
    (record { name = name; last = last; own = own; outer = m; is = refl }, cc)
named_was token m n e = absurd cc

-- a name that is declared was in a declaration with an open scope outside it, and is its last name then
pub declared_was : (m n : List Mark) → declared m ≡ Some n →
    (d : Declaring m) × (n ≡ in_declaration None d.name d.own ∷ d.outer) × (is_open d.outer ≡ true)
declared_was (in_declaration name last own ∷ m) n e = by (is_open m) refl e
  where
    by : (b : Bool) → is_open m ≡ b → (if b then Some (in_declaration None name own ∷ m) else None) ≡ Some n →
        (d : Declaring (in_declaration name last own ∷ m)) × (n ≡ in_declaration None d.name d.own ∷ d.outer)
        × (is_open d.outer ≡ true)
    by true is e =
        let same : in_declaration None name own ∷ m ≡ n = cc in
        (record { name = name; last = last; own = own; outer = m; is = refl }, sym same, is)
    by false is e = absurd cc
declared_was m n e = absurd cc

-- a declaration behind a list of identifiers
pub old_was : (m n : List Mark) → old_declared m ≡ Some n →
    (d : Declaring m) × (outer : List Mark) × (d.outer ≡ in_params true ∷ outer)
    × (n ≡ in_declaration None d.name d.own ∷ d.outer)
old_was (in_declaration name last own ∷ (in_params true ∷ m)) n e =
    (record { name = name; last = last; own = own; outer = in_params true ∷ m; is = refl }, m, refl, cc)
old_was m n e = absurd cc

-- the declaration of a name with the type of its initialiser, behind that
pub record AutoEnding (m n : List Mark) : Type 0 where
  pub inner : List Mark
  pub was : m ≡ in_part ∷ inner
  pub declaring : Declaring inner
  pub is : n ≡ in_declaration None declaring.name declaring.own ∷ declaring.outer
  pub takes : (is_open declaring.outer ≡ true) ⊎ ((outer : List Mark) × (declaring.outer ≡ in_params true ∷ outer))

-- the end of a declaration by its initialiser was in a part of one, which has declared its name then
pub auto_was : (m n : List Mark) → auto_ended m ≡ Some n → AutoEnding m n
auto_was (in_part ∷ (in_declaration name last own ∷ (in_params true ∷ m))) n e = record {
  inner = in_declaration name last own ∷ (in_params true ∷ m);
  was = refl;
  declaring = record { name = name; last = last; own = own; outer = in_params true ∷ m; is = refl };
  is = cc;
  takes = inr (m, refl);
}
auto_was (in_part ∷ m) n e =
    let was = declared_was m n e in
    record { inner = m; was = refl; declaring = was.0; is = was.1; takes = inl was.2 }
auto_was m n e = absurd cc

-- a member that is declared was in a declaration, whose name is gone then
pub member_was : (m n : List Mark) → member_declared m ≡ Some n →
    (d : Declaring m) × (n ≡ in_declaration None d.last d.own ∷ d.outer)
member_was (in_declaration name last own ∷ (in_tag ∷ m)) n e =
    (record { name = name; last = last; own = own; outer = in_tag ∷ m; is = refl }, cc)
member_was m n e = absurd cc

-- a parameter that ends was in a declaration in a list of parameters, which stays
pub param_was : (m n : List Mark) → param_ended m ≡ Some n →
    (d : Declaring m) × (own : Bool) × (rest : List Mark) × (d.outer ≡ in_params own ∷ rest)
    × (n ≡ in_params own ∷ rest)
param_was (in_declaration name last b ∷ (in_params own ∷ m)) n e =
    (record { name = name; last = last; own = b; outer = in_params own ∷ m; is = refl }, own, m, refl, cc)
param_was m n e = absurd cc

-- own parameters are behind the name at the token
pub record Beginning (t : Option ℕ) (own : Bool) (m n : List Mark) : Type 0 where
  pub declaring : Declaring m
  pub is : n ≡ in_params own ∷ m
  pub named : own ≡ true → (token : ℕ) × (declaring.name ≡ Some token) × (t ≡ Some token)

-- a list of parameters that begins was in a declaration; an own one has the name of the item's function
pub begun_was : (t : Option ℕ) (own : Bool) (m n : List Mark) → params_begun t own m ≡ Some n → Beginning t own m n
begun_was t false (in_declaration name last own ∷ m) n e = record {
  declaring = record { name = name; last = last; own = own; outer = m; is = refl };
  is = cc;
  named = λ is. absurd cc;
}
begun_was t true (in_declaration name last own ∷ []) n e = by (is_token name t) refl e
  where
    by : (b : Bool) → is_token name t ≡ b →
        (if b then Some (in_params true ∷ (in_declaration name last own ∷ [])) else None) ≡ Some n →
        Beginning t true (in_declaration name last own ∷ []) n
    by true is e = record {
      declaring = record { name = name; last = last; own = own; outer = []; is = refl };
      is = cc;
      named = λ own. token_is name t is;
    }
    by false is e = absurd cc
begun_was t own m n e = absurd cc

pub record Ending (m n : List Mark) : Type 0 where
  pub params : Bool
  pub name : Option ℕ
  pub last : Option ℕ
  pub own : Bool
  pub outer : List Mark
  pub was : m ≡ in_params params ∷ (in_declaration name last own ∷ outer)
  pub is : n ≡ in_declaration name last (if params then true else own) ∷ outer

-- the end of a list of parameters was in one in a declaration, which has own parameters then where they were own
pub params_were : (m n : List Mark) → params_ended m ≡ Some n → Ending m n
params_were (in_params true ∷ (in_declaration name last own ∷ m)) n e =
    record { params = true; name = name; last = last; own = own; outer = m; was = refl; is = cc }
params_were (in_params false ∷ (in_declaration name last own ∷ m)) n e =
    record { params = false; name = name; last = last; own = own; outer = m; was = refl; is = cc }
params_were m n e = absurd cc

-- a body is behind own parameters, and the name at the token, which was declared
pub body_begins : (t : Option ℕ) (m n : List Mark) → body_begun t m ≡ Some n →
    (name : Option ℕ) × (token : ℕ) × (m ≡ in_declaration name (Some token) true ∷ []) × (n ≡ in_body ∷ m)
    × (t ≡ Some token)
body_begins t (in_declaration name last true ∷ []) n e = by (is_token last t) refl e
  where
    by : (b : Bool) → is_token last t ≡ b →
        (if b then Some (in_body ∷ (in_declaration name last true ∷ [])) else None) ≡ Some n →
        (name2 : Option ℕ) × (token : ℕ)
        × (in_declaration name last true ∷ [] ≡ in_declaration name2 (Some token) true ∷ [])
        × (n ≡ in_body ∷ (in_declaration name last true ∷ [])) × (t ≡ Some token)
    by true is e =
        let both = token_is last t is in
        (name, both.0, ap (λ (it : Option ℕ). in_declaration name it true ∷ []) both.1, cc, both.2)
    by false is e = absurd cc
body_begins t m n e = absurd cc

pub body_was : (m n : List Mark) → body_ended m ≡ Some n → (name last : Option ℕ) × (own : Bool) × (outer : List Mark)
    × (m ≡ in_body ∷ (in_declaration name last own ∷ outer)) × (n ≡ in_declaration name last false ∷ outer)
body_was (in_body ∷ (in_declaration name last own ∷ m)) n e = (name, last, own, m, refl, cc)
body_was m n e = absurd cc

-- a declarator that is a bare name is a name
bare_is_name : (d : Declr) → is_bare_name d ≡ true → is_name d ≡ true
bare_is_name (declr_name token name) e = refl
bare_is_name (declr_paren opening attrs d closing) e = bare_is_name d e
bare_is_name (pointer star words d) e = e
bare_is_name (array d opening words size closing) e = e
bare_is_name (params d opening ps dots closing) e = e
bare_is_name (abs_pointer star words d) e = e
bare_is_name (abs_paren opening attrs d closing) e = e
bare_is_name (abs_array d opening words size closing) e = e
bare_is_name (abs_params d opening ps dots closing) e = e
bare_is_name (identifiers d opening names closing) e = e
bare_is_name (base_name token) e = e

-- a well-formed list of identifiers stands around a name
list_is_own : (all : List Lexeme) (d : Declr) → IsDeclr all d → lists_identifiers d ≡ true → lists_own d ≡ true
list_is_own all (identifiers d opening names closing) h e = bare_is_name d h.1
list_is_own all (declr_paren opening attrs d closing) h e = list_is_own all d h.1 e
list_is_own all (pointer star words d) h e = list_is_own all d h.1 e
list_is_own all (array d opening words size closing) h e = list_is_own all d h.0 e
list_is_own all (params d opening ps dots closing) h e = list_is_own all d h.0 e
list_is_own all (declr_name token name) h e = e
list_is_own all (abs_pointer star words d) h e = e
list_is_own all (abs_paren opening attrs d closing) h e = e
list_is_own all (abs_array d opening words size closing) h e = e
list_is_own all (abs_params d opening ps dots closing) h e = e
list_is_own all (base_name token) h e = e

-- a well-formed function's declarator declares one
pub declares_its : (all : List Lexeme) (item : Item) → IsItem all item → DeclaresIts item
declares_its all (function_item exts ws d attrs opening items closing) h = h.5
declares_its all (old_function_item exts ws d attrs ds opening items closing) h = list_is_own all d h.4 h.5
declares_its all (decl_item d) h = tt
declares_its all (asm_item keyword group semi) h = tt
declares_its all (semi_item semi) h = tt
