-- Expressions whose places are only addressed, and the pointers by which places are come to.
use Rattle.std.specs.Prelude.{Bool, true, false}
use Rattle.c_words.specs.declared.kinds.Punct.{Punct}
use Rattle.c_words.specs.declared.kinds.Punct.TheVariants as signs
use Rattle.c_tree.specs.Tree.{Expr, operation, cast, prefix, sizeof_value, sizeof_type, extension, index, call, dot, arrow, post, compound, name_use, number_use, char_use, text_use, paren, statement_expr, va_arg, va_start, va_copy, offset, complex_part, label_use, compat, choose, generic}

-- whether a prefix leads to its place by a pointer: `*` does where a member is taken of it, other prefixes never do
abbrev pub by_star : Punct → Bool → Bool
by_star signs.Star within = within
by_star p within = false

-- whether an operand leads to its place by a pointer, where a member is taken of it or not
abbrev pub comes_by_pointer : Bool → Expr → Bool
comes_by_pointer within (operation a op token b) = false
comes_by_pointer within (cast opening ws d closing e) = false
comes_by_pointer within (prefix token p e) = by_star p within
comes_by_pointer within (sizeof_value word e) = false
comes_by_pointer within (sizeof_type word opening ws d closing) = false
comes_by_pointer within (extension keyword e) = comes_by_pointer within e
comes_by_pointer within (index a opening b closing) = within
comes_by_pointer within (call f opening es closing) = false
comes_by_pointer within (dot e token name) = comes_by_pointer true e
comes_by_pointer within (arrow e token name) = true
comes_by_pointer within (post e token p) = false
comes_by_pointer within (compound opening ws d closing list) = false
comes_by_pointer within (name_use token name) = false
comes_by_pointer within (number_use token) = false
comes_by_pointer within (char_use token) = false
comes_by_pointer within (text_use texts) = false
comes_by_pointer within (paren opening e closing) = comes_by_pointer within e
comes_by_pointer within (statement_expr opening opening2 items closing closing2) = false
comes_by_pointer within (va_arg keyword opening e separator ws d closing) = false
comes_by_pointer within (va_start keyword opening a separator b closing) = false
comes_by_pointer within (va_copy keyword opening a separator b closing) = false
comes_by_pointer within (offset keyword opening ws d separator name steps closing) = false
comes_by_pointer within (complex_part keyword e) = comes_by_pointer within e
comes_by_pointer within (label_use token name) = false
comes_by_pointer within (compat keyword opening ws d separator ws2 d2 closing) = false
comes_by_pointer within (choose keyword opening e separator a separator2 b closing) = false
comes_by_pointer within (generic keyword opening e xs closing) = false
