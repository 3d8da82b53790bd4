-- What specifiers have as a tape says it is what the tree says: their storage words with `inline`, and whether a struct
-- without a tag is one of their words.
use Rattle.std.proofs.Common.{◌≡◌, Bool, true, false, ◌||◌, List, [], ◌∷◌, ◌++◌, None, Some, refl, sym, ◌∙◌, ap, append_assoc}
use Rattle.std.proofs.lemmas.List.{append-nil}
use Rattle.c_words.specs.declared.kinds.Keyword.{Keyword}
use Rattle.c_words.specs.declared.kinds.Keyword.TheVariants as keywords
use Rattle.tape_ops.specs.declared.specifier.TagKind.{TagKind}
use Rattle.tape_ops.specs.declared.specifier.TagKind.TheVariants as tags
use Rattle.c_tree.specs.Tree.{SpecWords, no_words, more_words, SpecWord, storage, thread, inline_word, noreturn, qualifier, basic, struct_type, enum_type, typedef_name, attribute, no_body, some_body, typeof_value, typeof_type, align, auto_word}
use Rattle.c_tree.specs.Specifiers.{storage_words}
use Rattle.name_rules.specs.Declaring.{is_word, has_word}
use Rattle.name_rules.specs.NameSteps.Steps.{untagged_by}
use Rattle.type_rules.specs.Naming.{tag_kind, said_words, has_untagged}
use Rattle.resolve_laws.proofs.NameLaws.Forms.{storage_behind, untagged_word, untagged_behind}

-- the storage words of specifiers, collected behind others, are the others and then theirs
said_behind : (ws : SpecWords) (words : List Keyword) → storage_behind ws words ≡ words ++ said_words ws
said_behind no_words words = sym (append-nil words)
said_behind (more_words (storage w) ws) words =
    said_behind ws (words ++ w.keyword ∷ []) ∙ append_assoc words (w.keyword ∷ []) (said_words ws)
said_behind (more_words (thread token) ws) words = said_behind ws words
said_behind (more_words (inline_word token) ws) words =
    said_behind ws (words ++ keywords.Inline ∷ []) ∙ append_assoc words (keywords.Inline ∷ []) (said_words ws)
said_behind (more_words (noreturn token) ws) words = said_behind ws words
said_behind (more_words (qualifier q) ws) words = said_behind ws words
said_behind (more_words (basic w) ws) words = said_behind ws words
said_behind (more_words (struct_type w attrs tag body) ws) words = said_behind ws words
said_behind (more_words (enum_type e) ws) words = said_behind ws words
said_behind (more_words (typedef_name name) ws) words = said_behind ws words
said_behind (more_words (attribute attr) ws) words = said_behind ws words
said_behind (more_words (typeof_value keyword opening e closing) ws) words = said_behind ws words
said_behind (more_words (typeof_type word opening ws2 d closing) ws) words = said_behind ws words
said_behind (more_words (align attr) ws) words = said_behind ws words
said_behind (more_words (auto_word token) ws) words = said_behind ws words

pub same_said : (ws : SpecWords) → said_words ws ≡ storage_behind ws []
same_said ws = sym (said_behind ws [])

-- the storage words together with `inline` hold `typedef` where the storage words do
said_typedef : (ws : SpecWords)
    → has_word keywords.Typedef (said_words ws) ≡ has_word keywords.Typedef (storage_words ws)
said_typedef no_words = refl
said_typedef (more_words (storage w) ws) =
    ap (λ (b : Bool). is_word keywords.Typedef w.keyword || b) (said_typedef ws)
said_typedef (more_words (thread token) ws) = said_typedef ws
said_typedef (more_words (inline_word token) ws) = said_typedef ws
said_typedef (more_words (noreturn token) ws) = said_typedef ws
said_typedef (more_words (qualifier q) ws) = said_typedef ws
said_typedef (more_words (basic w) ws) = said_typedef ws
said_typedef (more_words (struct_type w attrs tag body) ws) = said_typedef ws
said_typedef (more_words (enum_type e) ws) = said_typedef ws
said_typedef (more_words (typedef_name name) ws) = said_typedef ws
said_typedef (more_words (attribute attr) ws) = said_typedef ws
said_typedef (more_words (typeof_value keyword opening e closing) ws) = said_typedef ws
said_typedef (more_words (typeof_type word opening ws2 d closing) ws) = said_typedef ws
said_typedef (more_words (align attr) ws) = said_typedef ws
said_typedef (more_words (auto_word token) ws) = said_typedef ws

pub same_typedef : (ws : SpecWords)
    → has_word keywords.Typedef (storage_behind ws []) ≡ has_word keywords.Typedef (storage_words ws)
same_typedef ws = ap (has_word keywords.Typedef) (said_behind ws []) ∙ said_typedef ws

-- structs without a tag

-- the flag of a struct without a tag, once true, stays true behind any kind of tag
stays_untagged : (kind : TagKind) → untagged_by kind true ≡ true
stays_untagged tags.Struct = refl
stays_untagged tags.Union = refl
stays_untagged tags.Enum = refl

is_untagged : (keyword : Keyword) (b : Bool) → untagged_by (tag_kind keyword) b ≡ true
is_untagged keywords.Union b = refl
is_untagged keyword b = refl

-- the flag of a struct without a tag, once true, stays true behind any specifier
word_stays : (word : SpecWord) → untagged_word word true ≡ true
word_stays (storage w) = refl
word_stays (thread token) = refl
word_stays (inline_word token) = refl
word_stays (noreturn token) = refl
word_stays (qualifier q) = refl
word_stays (basic w) = refl
word_stays (struct_type w attrs tag no_body) = refl
word_stays (struct_type w attrs None (some_body opening items closing)) = stays_untagged (tag_kind w.keyword)
word_stays (struct_type w attrs (Some tag) (some_body opening items closing)) = refl
word_stays (enum_type e) = refl
word_stays (typedef_name name) = refl
word_stays (attribute attr) = refl
word_stays (typeof_value keyword opening e closing) = refl
word_stays (typeof_type word opening ws2 d closing) = refl
word_stays (align attr) = refl
word_stays (auto_word token) = refl

words_stay : (ws : SpecWords) → untagged_behind ws true ≡ true
words_stay no_words = refl
words_stay (more_words word ws) = ap (untagged_behind ws) (word_stays word) ∙ words_stay ws

-- specifiers have a struct without a tag where the flag, false before them, is true behind them
pub same_untagged : (ws : SpecWords) → has_untagged ws ≡ untagged_behind ws false
same_untagged no_words = refl
same_untagged (more_words (storage w) ws) = same_untagged ws
same_untagged (more_words (thread token) ws) = same_untagged ws
same_untagged (more_words (inline_word token) ws) = same_untagged ws
same_untagged (more_words (noreturn token) ws) = same_untagged ws
same_untagged (more_words (qualifier q) ws) = same_untagged ws
same_untagged (more_words (basic w) ws) = same_untagged ws
same_untagged (more_words (struct_type w attrs None no_body) ws) = same_untagged ws
same_untagged (more_words (struct_type w attrs None (some_body opening items closing)) ws) =
    sym (ap (untagged_behind ws) (is_untagged w.keyword false) ∙ words_stay ws)
same_untagged (more_words (struct_type w attrs (Some tag) no_body) ws) = same_untagged ws
same_untagged (more_words (struct_type w attrs (Some tag) (some_body opening items closing)) ws) = same_untagged ws
same_untagged (more_words (enum_type e) ws) = same_untagged ws
same_untagged (more_words (typedef_name name) ws) = same_untagged ws
same_untagged (more_words (attribute attr) ws) = same_untagged ws
same_untagged (more_words (typeof_value keyword opening e closing) ws) = same_untagged ws
same_untagged (more_words (typeof_type word opening ws2 d closing) ws) = same_untagged ws
same_untagged (more_words (align attr) ws) = same_untagged ws
same_untagged (more_words (auto_word token) ws) = same_untagged ws
