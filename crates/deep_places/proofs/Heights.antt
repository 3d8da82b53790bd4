-- The heights of lists are those of their items.
use Rattle.std.proofs.Common.{ℕ, ◌+◌, ◌≤◌, Bool, true, false, if◌then◌else◌, List, [], ◌∷◌, ◌++◌, length, Option, arith}
use Rattle.std.specs.Prelude.{max}
use Rattle.c_syntax.specs.declared.parts.Attr.{Attr}
use Rattle.c_syntax.specs.declared.parts.Qual.{Qual}
use Rattle.c_syntax.specs.declared.parts.PointerWord.{PointerWord}
use Rattle.c_syntax.specs.declared.parts.ArrayWord.{ArrayWord}
use Rattle.c_tree.specs.Unit.{declarations_height}
use Rattle.c_tree.specs.Tree.{Declaration, Expr, Assoc, StructItem, Desig, BlockItem, SpecWords, no_words, more_words, SpecWord, Declr, pointer, array, params, declr_paren, abs_pointer, abs_array, abs_params, abs_paren, SomeDeclr, no_declr, some_declr, SomeSize, Params, Dots}
use Rattle.c_tree.specs.Height.{declaration_height, expr_height, assoc_height, assocs_height, exprs_height, struct_item_height, struct_items_height, mem_declrs_height, enumerators_height, params_height, desig_height, desigs_height, init_items_height, init_declrs_height, block_height, block_item_height, specs_height, spec_word_height, declr_height, some_declr_height, some_size_height, attrs_height, pointer_words_height}
use Rattle.c_tree.specs.WellFormed.{is_named}
use Rattle.c_specs.specs.Reading.{pushed}
use Rattle.c_reading.specs.declared.kinds.SpecStart.{SpecStart}
use Rattle.c_reading.specs.declared.kinds.SpecStart.TheVariants as starts
use Rattle.c_reading.specs.declared.kinds.Mode.{Mode}
use Rattle.c_reading.specs.declared.kinds.Mode.TheVariants.{Named, Abstract, Either}
use Rattle.c_reading.specs.Parts.{MemberItem, EnumItem, ParamItem, ListItem, DeclrItem, exprs_from, assocs_from, struct_items_from, mem_declrs_from, enumerators_from, params_from, desigs_from, init_items_from, init_declrs_from, block_items_from}
use Rattle.c_reading.specs.Expressing.{extended}
use Rattle.c_reading.specs.Specifying.{least_of}
use Rattle.c_reading.specs.Declaring.{with_pointer, with_paren, with_array, with_params, words_of_quals, words_of_attrs, least_pointer}
use Rattle.deep_places.specs.Bounds.{most_of, member_height, enum_item_height, param_item_height, list_item_height, declr_item_height}

pub low_exprs : (xs : List Expr) → exprs_height (exprs_from xs) ≤ most_of expr_height xs
low_exprs [] = omega arith
low_exprs (x ∷ xs) = let rest = low_exprs xs in omega arith

pub low_assocs : (xs : List Assoc) → assocs_height (assocs_from xs) ≤ most_of assoc_height xs
low_assocs [] = omega arith
low_assocs (x ∷ xs) = let rest = low_assocs xs in omega arith

pub low_struct_items : (xs : List StructItem)
    → struct_items_height (struct_items_from xs) ≤ most_of struct_item_height xs
low_struct_items [] = omega arith
low_struct_items (x ∷ xs) = let rest = low_struct_items xs in omega arith

pub low_mem_declrs : (xs : List MemberItem) → mem_declrs_height (mem_declrs_from xs) ≤ most_of member_height xs
low_mem_declrs [] = omega arith
low_mem_declrs (x ∷ xs) = let rest = low_mem_declrs xs in omega arith

pub low_enumerators : (xs : List EnumItem) → enumerators_height (enumerators_from xs) ≤ most_of enum_item_height xs
low_enumerators [] = omega arith
low_enumerators (x ∷ xs) = let rest = low_enumerators xs in omega arith

pub low_params : (xs : List ParamItem) → params_height (params_from xs) ≤ most_of param_item_height xs
low_params [] = omega arith
low_params (x ∷ xs) = let rest = low_params xs in omega arith

pub low_desigs : (xs : List Desig) → desigs_height (desigs_from xs) ≤ most_of desig_height xs
low_desigs [] = omega arith
low_desigs (x ∷ xs) = let rest = low_desigs xs in omega arith

pub low_init_items : (xs : List ListItem) → init_items_height (init_items_from xs) ≤ most_of list_item_height xs
low_init_items [] = omega arith
low_init_items (x ∷ xs) = let rest = low_init_items xs in omega arith

pub low_init_declrs : (xs : List DeclrItem) → init_declrs_height (init_declrs_from xs) ≤ most_of declr_item_height xs
low_init_declrs [] = omega arith
low_init_declrs (x ∷ xs) = let rest = low_init_declrs xs in omega arith

pub low_block_items : (xs : List BlockItem) → block_height (block_items_from xs) ≤ most_of block_item_height xs + 1
low_block_items [] = omega arith
low_block_items (x ∷ xs) = let rest = low_block_items xs in omega arith

pub low_extended : (tokens : List ℕ) (e : Expr) → expr_height (extended tokens e) ≤ length tokens + expr_height e
low_extended [] e = omega arith
low_extended (t ∷ tokens) e = let rest = low_extended tokens e in omega arith

pub low_quals : (qs : List Qual) → specs_height (words_of_quals qs) ≤ 1
low_quals [] = omega arith
low_quals (q ∷ qs) = let rest = low_quals qs in omega arith

pub low_words_of_attrs : (xs : List Attr) → specs_height (words_of_attrs xs) ≤ 2
low_words_of_attrs [] = omega arith
low_words_of_attrs (x ∷ xs) = let rest = low_words_of_attrs xs in omega arith

-- the least height of a specifier, by its first token, is at most 4
pub low_least : (start : SpecStart) → least_of start ≤ 4
low_least (starts.Struct keyword) = omega arith
low_least starts.Enum = omega arith
low_least (starts.Name name) = omega arith
low_least starts.Attribute = omega arith
low_least starts.Align = omega arith
low_least starts.Typeof = omega arith
low_least starts.Atomic = omega arith
low_least start = omega arith

-- the least height of a pointer, in each mode, is at most 2
pub low_least_pointer : (mode : Mode) → least_pointer mode ≤ 2
low_least_pointer Named = omega arith
low_least_pointer Abstract = omega arith
low_least_pointer Either = omega arith

pub low_pushed : (ws : SpecWords) (w : SpecWord)
    → specs_height (pushed ws w) ≤ max (specs_height ws) (spec_word_height w + 1)
low_pushed no_words w = omega arith
low_pushed (more_words v ws) w = let rest = low_pushed ws w in omega arith

-- by whether a name is there
either : (b : Bool) (one two : Declr) (h : ℕ) → declr_height one ≤ h → declr_height two ≤ h
    → declr_height (if b then one else two) ≤ h
either true one two h x y = x
either false one two h x y = y

-- a pointer is at most one higher than its words and what it points from, if anything
pub low_pointer : (token : ℕ) (words : List PointerWord) (d : SomeDeclr)
    → declr_height (with_pointer token words d) ≤ max
    (pointer_words_height words) (some_declr_height d) + 1
low_pointer token words no_declr = omega arith
low_pointer token words (some_declr d) =
    either (is_named d) (pointer token words d) (abs_pointer token words (some_declr d)) (max
    (pointer_words_height words) (declr_height d) + 1) (omega arith) (omega arith)

-- an array is at most one higher than its declarator, if any, and its size
pub low_array : (d : SomeDeclr) (opening : ℕ) (words : List ArrayWord) (size : SomeSize) (closing : ℕ)
    → declr_height (with_array d
    opening words size closing) ≤ max (some_declr_height d) (some_size_height size) + 1
low_array no_declr opening words size closing = omega arith
low_array (some_declr d) opening words size closing =
    either (is_named d) (array d opening words size closing) (abs_array
    (some_declr d) opening words size closing) (max (declr_height d) (some_size_height size) + 1)
    (omega arith) (omega arith)

-- a function is at most one higher than its declarator, if any, and its parameters
pub low_params_of : (d : SomeDeclr) (opening : ℕ) (ps : Params) (dots : Option Dots) (closing : ℕ)
    → declr_height (with_params d
    opening ps dots closing) ≤ max (some_declr_height d) (params_height ps) + 1
low_params_of no_declr opening ps dots closing = omega arith
low_params_of (some_declr d) opening ps dots closing =
    either (is_named d) (params d opening ps dots closing) (abs_params
    (some_declr d) opening ps dots closing) (max (declr_height d) (params_height ps) + 1) (omega arith) (omega arith)

-- a declarator in parentheses is at most one level higher than what stands in it
pub low_paren : (opening : ℕ) (attrs : List Attr) (d : Declr) (closing : ℕ)
    → declr_height (with_paren opening attrs d closing) ≤
    max (attrs_height attrs) (declr_height d) + 1
low_paren opening attrs d closing =
    either (is_named d) (declr_paren opening attrs d closing) (abs_paren opening attrs d closing)
    (max (attrs_height attrs) (declr_height d) + 1) (omega arith) (omega arith)

pub most_append : {T : Type 0} (height : T → ℕ) (xs ys : List T)
    → most_of height (xs ++ ys) ≤ max (most_of height xs) (most_of height ys)
most_append height [] ys = omega arith
most_append height (x ∷ xs) ys = let rest = most_append height xs ys in omega arith

pub low_declarations : (xs : List Declaration) → declarations_height xs ≤ most_of declaration_height xs
low_declarations [] = omega arith
low_declarations (x ∷ xs) = let rest = low_declarations xs in omega arith
