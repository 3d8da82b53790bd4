-- Names of lattices have no line feed in them.
use Rattle.std.proofs.Common.{◌≡◌, ◌≢◌, ℕ, zero, suc, nat_eq, inl, inr, Bool, true, false, ◌&&◌, ◌||◌, not, List, [], ◌∷◌, slice_get, codes, Some, refl, sym, ◌∙◌, ap, subst}
use Rattle.std.specs.List.{list_all}
use Rattle.std.specs.Str.{bytes_eq}
use Rattle.std.proofs.lemmas.List.Elements.{All-nil, All-cons}
use Rattle.std.proofs.lemmas.Slice.Eq.{bytes_eq-Decides}
use Rattle.std.proofs.lemmas.Bool.{and_parts, or_cases}
use Rattle.qual_base.proofs.Tests.{some_is}
use Rattle.lattice_core.specs.declared.Entry.{Entry}
use Rattle.lattice_core.specs.declared.Pair.{Pair}
use Rattle.lattice_core.specs.Entries.{name_at}
use Rattle.lattice_core.specs.View.{LatticeView}
use Rattle.lattice_file.specs.Blocks.{BlockView, AreAllBuilt}
use Rattle.lattice_file.specs.Text.{is_letter, is_name_byte, begins_with_dollar, is_element_name, Items, IsLatticeText}
use Rattle.lattice_file.specs.Text.Items.{Close, EntryItem, LineItem}
use Rattle.lattice_file.specs.Text.IsLatticeText.{NextBlock}
use Rattle.report_laws.specs.Scenes.{HasNoFeed}

-- a byte that passes a test which a line feed fails is none
passed : (test : ℕ → Bool) (b : ℕ) → test 10 ≡ false → test b ≡ true → b ≢ 10
passed test b fails is e = let not_so : false ≡ true = sym fails ∙ ap test (sym e) ∙ is in cc

-- bytes that all pass a test which a line feed fails have no line feed
all_passed : (test : ℕ → Bool) (word : List ℕ) → test 10 ≡ false → list_all test word ≡ true → HasNoFeed word
all_passed test [] fails is = All-nil (λ b. b ≢ 10)
all_passed test (b ∷ word) fails is =
    let parts = and_parts (test b) (list_all test word) is in
    All-cons (λ b. b ≢ 10) b word (passed test b fails parts.0) (all_passed test word fails parts.1)

-- a word of a dollar, a letter and bytes of names has no line feed in it
dollar_free : (word : List ℕ) → begins_with_dollar word ≡ true → HasNoFeed word
dollar_free [] is = absurd cc
dollar_free (b ∷ []) is = absurd cc
dollar_free (b ∷ c ∷ more) is =
    let first = and_parts (nat_eq b 36 && is_letter c) (list_all is_name_byte more) is in
    let second = and_parts (nat_eq b 36) (is_letter c) first.0 in
    All-cons (λ b. b ≢ 10) b (c ∷ more) (passed (λ b. nat_eq b 36) b refl second.0)
    (All-cons (λ b. b ≢ 10) c more (passed is_letter c refl second.1) (all_passed is_name_byte more refl first.1))

word_free : (word spelled : List ℕ) → bytes_eq word spelled ≡ true → list_all (λ b. not (nat_eq b 10)) spelled ≡ true
    → HasNoFeed word
word_free word spelled is free =
    subst HasNoFeed (sym ((bytes_eq-Decides word spelled).0 is)) (all_passed (λ b. not (nat_eq b 10)) spelled refl free)

-- the name of an element has no line feed in it, be it a word with a dollar or one of C
name_free : (word : List ℕ) → is_element_name word ≡ true → HasNoFeed word
name_free word is =
    elim (or_cases (begins_with_dollar word || bytes_eq word (codes "const") || bytes_eq word (codes "volatile"))
    (bytes_eq word (codes "restrict")) is) [
      | inl others ↦ elim (or_cases (begins_with_dollar word || bytes_eq word (codes "const"))
          (bytes_eq word (codes "volatile")) others) [
            | inl more ↦ elim (or_cases (begins_with_dollar word) (bytes_eq word (codes "const")) more) [
              | inl dollar ↦ dollar_free word dollar
              | inr one ↦ word_free word (codes "const") one refl
            ]
            | inr two ↦ word_free word (codes "volatile") two refl
          ]
      | inr three ↦ word_free word (codes "restrict") three refl
    ]

-- no name among the entries of a block has a line feed in it
items_free : (wide : Bool) (entries : List Entry) (pairs : List Pair) (bytes rest : List ℕ)
    → Items wide entries pairs bytes rest → (n : ℕ) (name : List ℕ)
    → name_at entries n ≡ Some name → HasNoFeed name
items_free wide _ _ bytes rest (Close _ _ sign) n name there = absurd cc
items_free wide _ _ bytes rest
    (EntryItem own given entries pairs _ b1 b2 b3 _ is word sign attributes items) zero name there =
    subst HasNoFeed (some_is there) (name_free own is)
items_free wide _ _ bytes rest (EntryItem own given entries pairs _ b1 b2 b3 _ is word sign attributes items)
    (suc n) name there =
    items_free wide entries pairs b3 rest items n name there
items_free wide _ _ bytes rest
    (LineItem low high entries pairs _ b1 b2 b3 _ is_low is_high one sign other items) n name there =
    items_free wide entries pairs b3 rest items n name there

-- no name of an element of a lattice that is read has a line feed in it
pub names_free : (wide : Bool) (blocks : List BlockView) (bytes : List ℕ) (lattices : List LatticeView)
    → IsLatticeText wide blocks bytes
    → AreAllBuilt blocks lattices → (k : ℕ) (view : LatticeView) (elem : ℕ) (name : List ℕ)
    → slice_get lattices k ≡ Some view
    → name_at view.entries elem ≡ Some name → HasNoFeed name
names_free wide [] bytes [] text built k view elem name there named = absurd cc
names_free wide [] bytes (lattice ∷ lattices) text built k view elem name there named = absurd built
names_free wide (block ∷ blocks) bytes [] text built k view elem name there named = absurd built
names_free wide (block ∷ blocks) bytes (lattice ∷ lattices)
    (NextBlock _ _ _ b1 b2 b3 rest one two head items some text) built zero view elem name there named =
    let same : view.entries ≡ block.entries =
    ap (λ (v : LatticeView). v.entries) (sym (some_is there)) ∙ built.0.built.same in
    items_free wide block.entries block.pairs b3 rest items elem name
    (ap (λ (entries : List Entry). name_at entries elem) (sym same) ∙ named)
names_free wide (block ∷ blocks) bytes (lattice ∷ lattices)
    (NextBlock _ _ _ b1 b2 b3 rest one two head items some text) built (suc k) view elem name there named =
    names_free wide blocks rest lattices text built.1 k view elem name there named
