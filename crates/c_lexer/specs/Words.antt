-- The words and the signs of C, each with the kind of token that it is.
use Rattle.std.specs.Prelude.{ℕ, Bool, true, false, List, [], ◌∷◌, Option, Some, None, bytes_eq, codes, find, option_map, if◌then◌else◌}
use Rattle.c_lexer.specs.declared.kinds.Word.{Word}
use Rattle.c_lexer.specs.declared.kinds.Word.TheVariants.{Keyword as AsKeyword, Text as AsText}
use Rattle.c_lexer.specs.declared.kinds.Listed.{Listed}
use Rattle.c_lexer.specs.declared.kinds.Listed.TheVariants.{Always, Text as SpelledText, Complex as AsComplex, Wide, Added}
use Rattle.c_words.specs.declared.kinds.Keyword.TheVariants.{Auto, Break, Case, Char, Const, Continue, Default, Do, Double, Else, Enum, Extern, Float, For, Goto, If, Inline, Int, Long, Register, Restrict, Return, Short, Signed, Sizeof, Static, Struct, Switch, Typedef, Union, Unsigned, Void, Volatile, While, Bool as BoolWord, Complex, AnyComplex, Imaginary, Asm, Attribute, Alignof, Thread, Extension, Noreturn, StaticAssert, BaseWord, Int128, VaArg, VaStart, VaCopy, Offsetof, Reserved, Typeof, Generic, Atomic, Alignas, AutoType, LabelWord, Part, Seg, Compatible, Choose}
use Rattle.c_words.specs.declared.kinds.Punct.{Punct}
use Rattle.c_words.specs.declared.kinds.Punct.TheVariants.{OpenBracket, CloseBracket, OpenParen, CloseParen, OpenBrace, CloseBrace, Dot, Arrow, PlusPlus, MinusMinus, Ampersand, Star, Plus, Minus, Tilde, Bang, Slash, Percent, ShiftLeft, ShiftRight, Less, Greater, LessEqual, GreaterEqual, EqualEqual, BangEqual, Caret, Bar, AmpersandAmpersand, BarBar, Question, Colon, Semicolon, Ellipsis, Equal, StarEqual, SlashEqual, PercentEqual, PlusEqual, MinusEqual, ShiftLeftEqual, ShiftRightEqual, AmpersandEqual, CaretEqual, BarEqual, Comma}

-- the words that are no names (C99, 6.4.1, and the GNU dialect), by length
unfoldable pub words : List (List ℕ × Listed)
words =
    (codes "do", Always Do) ∷
    (codes "if", Always If) ∷
    (codes "asm", Always Asm) ∷
    (codes "for", Always For) ∷
    (codes "int", Always Int) ∷
    (codes "auto", Always Auto) ∷
    (codes "case", Always Case) ∷
    (codes "char", Always Char) ∷
    (codes "else", Always Else) ∷
    (codes "enum", Always Enum) ∷
    (codes "goto", Always Goto) ∷
    (codes "long", Always Long) ∷
    (codes "void", Always Void) ∷
    (codes "_Bool", Always BoolWord) ∷
    (codes "__asm", Always Asm) ∷
    (codes "break", Always Break) ∷
    (codes "const", Always Const) ∷
    (codes "float", Always Float) ∷
    (codes "short", Always Short) ∷
    (codes "union", Always Union) ∷
    (codes "while", Always While) ∷
    (codes "double", Always Double) ∷
    (codes "extern", Always Extern) ∷
    (codes "inline", Always Inline) ∷
    (codes "return", Always Return) ∷
    (codes "signed", Always Signed) ∷
    (codes "sizeof", Always Sizeof) ∷
    (codes "static", Always Static) ∷
    (codes "struct", Always Struct) ∷
    (codes "switch", Always Switch) ∷
    (codes "typeof", Wide Typeof) ∷
    (codes "__imag", Added Part) ∷
    (codes "__real", Added Part) ∷
    (codes "_Atomic", Wide Atomic) ∷
    (codes "__asm__", Always Asm) ∷
    (codes "__const", Always Const) ∷
    (codes "default", Always Default) ∷
    (codes "typedef", Always Typedef) ∷
    (codes "_Alignas", Wide Alignas) ∷
    (codes "_Alignof", Always Alignof) ∷
    (codes "_Complex", AsComplex) ∷
    (codes "_Float16", Always BaseWord) ∷
    (codes "_Float32", Always BaseWord) ∷
    (codes "_Float64", Always BaseWord) ∷
    (codes "_Generic", Wide Generic) ∷
    (codes "__func__", SpelledText) ∷
    (codes "__imag__", Wide Part) ∷
    (codes "__inline", Always Inline) ∷
    (codes "__int128", Always Int128) ∷
    (codes "__real__", Wide Part) ∷
    (codes "__signed", Always Signed) ∷
    (codes "__thread", Always Thread) ∷
    (codes "__typeof", Wide Typeof) ∷
    (codes "continue", Always Continue) ∷
    (codes "register", Always Register) ∷
    (codes "restrict", Always Restrict) ∷
    (codes "unsigned", Always Unsigned) ∷
    (codes "volatile", Always Volatile) ∷
    (codes "__seg_fs", Added Seg) ∷
    (codes "__seg_gs", Added Seg) ∷
    (codes "_Float128", Always BaseWord) ∷
    (codes "_Float32x", Always BaseWord) ∷
    (codes "_Float64x", Always BaseWord) ∷
    (codes "_Noreturn", Always Noreturn) ∷
    (codes "__alignof", Always Alignof) ∷
    (codes "__const__", Always Const) ∷
    (codes "__label__", Wide LabelWord) ∷
    (codes "__complex", Added AnyComplex) ∷
    (codes "_Imaginary", Always Imaginary) ∷
    (codes "__float128", Always BaseWord) ∷
    (codes "__inline__", Always Inline) ∷
    (codes "__int128_t", Always BaseWord) ∷
    (codes "__restrict", Always Restrict) ∷
    (codes "__signed__", Always Signed) ∷
    (codes "__typeof__", Wide Typeof) ∷
    (codes "__volatile", Always Volatile) ∷
    (codes "__alignof__", Always Alignof) ∷
    (codes "__attribute", Always Attribute) ∷
    (codes "__auto_type", Wide AutoType) ∷
    (codes "__complex__", AsComplex) ∷
    (codes "__uint128_t", Always BaseWord) ∷
    (codes "__FUNCTION__", SpelledText) ∷
    (codes "__restrict__", Always Restrict) ∷
    (codes "__volatile__", Always Volatile) ∷
    (codes "_Thread_local", Always Thread) ∷
    (codes "__attribute__", Always Attribute) ∷
    (codes "__extension__", Always Extension) ∷
    (codes "_Static_assert", Always StaticAssert) ∷
    (codes "__builtin_va_arg", Always VaArg) ∷
    (codes "__builtin_va_copy", Always VaCopy) ∷
    (codes "__builtin_va_list", Always BaseWord) ∷
    (codes "__builtin_offsetof", Always Offsetof) ∷
    (codes "__builtin_va_start", Always VaStart) ∷
    (codes "__PRETTY_FUNCTION__", SpelledText) ∷
    (codes "__builtin_choose_expr", Wide Choose) ∷
    (codes "__builtin_types_compatible_p", Wide Compatible) ∷
    []

-- the kind beside a word in a table
abbrev pub kind_in : List (List ℕ × Listed) → List ℕ → Option Listed
kind_in [] word = None
kind_in (entry ∷ entries) word = if bytes_eq word entry.0 then Some entry.1 else kind_in entries word

-- What a word of the table is in sources that are read as wider C, and in others: there a word of wider C is reserved,
-- or a name.
abbrev pub read_as : Bool → Option Listed → Option Word
read_as wide None = None
read_as wide (Some (Always keyword)) = Some (AsKeyword keyword)
read_as wide (Some SpelledText) = Some AsText
read_as true (Some AsComplex) = Some (AsKeyword AnyComplex)
read_as false (Some AsComplex) = Some (AsKeyword Complex)
read_as true (Some (Wide keyword)) = Some (AsKeyword keyword)
read_as false (Some (Wide keyword)) = Some (AsKeyword Reserved)
read_as true (Some (Added keyword)) = Some (AsKeyword keyword)
read_as false (Some (Added keyword)) = None

-- what a word is that is no name, in sources that are read as wider C or not
unfoldable pub word_kind : Bool → List ℕ → Option Word
word_kind wide word = read_as wide (kind_in words word)

-- the operators and brackets (C99, 6.4.6)
unfoldable pub signs : List (List ℕ × Punct)
signs =
    (codes "...", Ellipsis) ∷
    (codes "<<=", ShiftLeftEqual) ∷
    (codes ">>=", ShiftRightEqual) ∷
    (codes "->", Arrow) ∷
    (codes "++", PlusPlus) ∷
    (codes "--", MinusMinus) ∷
    (codes "<<", ShiftLeft) ∷
    (codes ">>", ShiftRight) ∷
    (codes "<=", LessEqual) ∷
    (codes ">=", GreaterEqual) ∷
    (codes "==", EqualEqual) ∷
    (codes "!=", BangEqual) ∷
    (codes "&&", AmpersandAmpersand) ∷
    (codes "||", BarBar) ∷
    (codes "*=", StarEqual) ∷
    (codes "/=", SlashEqual) ∷
    (codes "%=", PercentEqual) ∷
    (codes "+=", PlusEqual) ∷
    (codes "-=", MinusEqual) ∷
    (codes "&=", AmpersandEqual) ∷
    (codes "^=", CaretEqual) ∷
    (codes "|=", BarEqual) ∷
    (codes "[", OpenBracket) ∷
    (codes "]", CloseBracket) ∷
    (codes "(", OpenParen) ∷
    (codes ")", CloseParen) ∷
    (codes "{", OpenBrace) ∷
    (codes "}", CloseBrace) ∷
    (codes ".", Dot) ∷
    (codes "&", Ampersand) ∷
    (codes "*", Star) ∷
    (codes "+", Plus) ∷
    (codes "-", Minus) ∷
    (codes "~", Tilde) ∷
    (codes "!", Bang) ∷
    (codes "/", Slash) ∷
    (codes "%", Percent) ∷
    (codes "<", Less) ∷
    (codes ">", Greater) ∷
    (codes "^", Caret) ∷
    (codes "|", Bar) ∷
    (codes "?", Question) ∷
    (codes ":", Colon) ∷
    (codes ";", Semicolon) ∷
    (codes "=", Equal) ∷
    (codes ",", Comma) ∷
    []

-- the operator or bracket that some bytes spell
unfoldable pub sign_kind : List ℕ → Option Punct
sign_kind bytes = option_map (λ entry. entry.1) (find (λ entry. bytes_eq bytes entry.0) signs)
