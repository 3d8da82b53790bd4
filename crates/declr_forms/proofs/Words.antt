-- Words that are made of qualifiers and attributes, and parameters in a list.
use Rattle.std.proofs.Common.{◌≡◌, ℕ, ◌≤◌, ◌-◌, List, [], ◌∷◌, ◌++◌, length, map, refl, ap, arith}
use Rattle.c_syntax.specs.declared.declarator.Param.{Param}
use Rattle.c_syntax.specs.declared.parts.Attr.{Attr}
use Rattle.c_syntax.specs.declared.parts.Qual.{Qual}
use Rattle.c_syntax.specs.declared.specifier.SpecWord.TheVariants as rust_words
use Rattle.c_tree.specs.Lists as lists
use Rattle.c_tree.specs.Tree.{SpecWords, more_words, qualifier, attribute, Params, more_params}
use Rattle.c_tree.specs.Unit.{spec_words_from}
use Rattle.c_tree.specs.declared.lexeme.Lexeme.{Lexeme}
use Rattle.c_syntax.specs.declared.specifier.SpecWord.{SpecWord}
use Rattle.c_units.specs.HeldScopes.{HeldScopes}
use Rattle.c_reading.specs.declared.kinds.Role.TheVariants.{Typed}
use Rattle.c_reading.specs.Parts.{Inner, params_from}
use Rattle.c_reading.specs.Declaring.{words_of_quals, words_of_attrs, param_words}
use Rattle.declr_forms.specs.Views.{item_of}

pub qual_words : (quals : List Qual) → spec_words_from (map (λ q. rust_words.Qual q) quals) ≡ words_of_quals quals
qual_words [] = refl
qual_words (qual ∷ quals) = ap (λ (ws : SpecWords). more_words (qualifier qual) ws) (qual_words quals)

pub attr_words : (attrs : List Attr) → spec_words_from (map (λ a. rust_words.Attr a) attrs) ≡ words_of_attrs attrs
attr_words [] = refl
attr_words (attr ∷ attrs) = ap (λ (ws : SpecWords). more_words (attribute attr) ws) (attr_words attrs)

-- the parameters as they are held give the parameters of the definition
pub same_params : (ps : List Param) → params_from (map item_of ps) ≡ lists.params_from ps
same_params [] = refl
same_params (p ∷ ps) =
    ap (λ (rest : Params). more_params (item_of p).words (item_of p).declr (item_of p).attrs rest) (same_params ps)

pub item_pushed : (ps : List Param) (p : Param) → map item_of (ps ++ p ∷ []) ≡ map item_of ps ++ item_of p ∷ []
item_pushed [] p = refl
item_pushed (q ∷ ps) p = ap (λ rest. item_of q ∷ rest) (item_pushed ps p)

-- words that were read already are those that the specifiers begin with
pub words_behind : (inner : Inner) (words : List SpecWord) (room : ℕ) (s : HeldScopes) (ts : List Lexeme)
    → 1 ≤ length words →
    param_words inner (spec_words_from words) room s ts ≡ inner.specs Typed (spec_words_from words) (room - 1) s ts
words_behind inner [] room s ts some = absurd (omega (arith, some))
words_behind inner (word ∷ words) room s ts some = refl
