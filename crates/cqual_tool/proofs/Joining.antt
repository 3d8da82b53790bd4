-- Units that are joined, and what is made of them.
use Rattle.std.proofs.Common.{arith, ◌≡◌, ◌≢◌, Bool, true, false, ℕ, zero, suc, ◌+◌, ◌<◌, ◌≤◌, List, [], ◌∷◌, ◌++◌, length, drop, slice_index_or, codes, refl, sym, ◌∙◌, ap, subst, append_assoc}
use Rattle.std.specs.Prelude.{All, nat_eq, if◌then◌else◌}
use Rattle.std.proofs.lemmas.Bool.{eqb-true}
use Rattle.std.proofs.lemmas.List.Elements.{All-nil, All-cons, All-head, All-tail, All-push}
use Rattle.qual_base.proofs.Tests.{ne_turned}
use Rattle.c_lexer.specs.declared.token.Token.{Token}
use Rattle.c_lexer.specs.Tokens.{Lexed}
use Rattle.c_parser.specs.Parsing.{lexemes_of, numbered}
use Rattle.type_rules.specs.Program as rules
use Rattle.row_laws.specs.KeyLaws.Differing.{AreNumbered, IsRead, UnitsDiffer, has_number, has_unit}
use Rattle.c_types.specs.Sources.{UnitRead, lexed_of, sources_behind, sources_in}
use Rattle.annotate.specs.Texts.{UnitText}
use Rattle.annotate.specs.declared.scene.UnitText.{UnitText as LentUnit}
use Rattle.annotate.specs.Scenes as scenes
use Rattle.lattice_core.specs.View.{LatticeView}
use Rattle.index_words.specs.Marks.{IndexMark}
use Rattle.cqual_tool.specs.declared.answer.Answer.{Answer}
use Rattle.cqual_tool.specs.declared.preparing.Earlier.{Earlier}
use Rattle.cqual_tool.specs.declared.preparing.Joined.{Joined}
use Rattle.cqual_tool.specs.declared.status.Status.TheVariants.{Malformed}
use Rattle.cqual_tool.specs.Statuses.{Says}
use Rattle.cqual_tool.specs.Words.{FileNames}
use Rattle.cqual_tool.specs.Programs.{text_of, texts_of}
use Rattle.cqual_tool.specs.Preparing.{AreEarlier, IsEarlier, IsFormed, IsOneMore}

-- tokens that are numbered by their places have numbers of their own

-- tokens that are numbered from m on have no number below m
no_number : (n m : ℕ) (ts : List Token) → n < m → has_number n (numbered m ts) ≡ false
no_number n m [] lt = refl
no_number n m (t ∷ ts) lt = by (nat_eq m n) refl (no_number n (suc m) ts (omega arith))
  where
    by : (b : Bool) → nat_eq m n ≡ b → has_number n (numbered (suc m) ts) ≡ false
        → (if b then true else has_number n (numbered (suc m) ts)) ≡ false
    by true e none = let same : m ≡ n = eqb-true m n e in absurd (omega arith)
    by false e none = none

are_numbered : (n : ℕ) (ts : List Token) → AreNumbered (numbered n ts)
are_numbered n [] = tt
are_numbered n (t ∷ ts) = (no_number n (suc n) ts (omega arith), are_numbered (suc n) ts)

-- the sources of well-formed units are read, whatever tokens come before them
read_behind : (earlier : List Lexed) (units : List UnitRead) → All IsFormed units
    → All IsRead (sources_behind earlier units)
read_behind earlier [] formed = All-nil IsRead
read_behind earlier (it ∷ units) formed =
    let own : IsFormed it = All-head IsFormed it units formed in
    All-cons IsRead _ (sources_behind (earlier ++ it.lexed ∷ []) units)
    (record {
      all = lexemes_of it.lexed;
      tokens = own.tokens;
      rules = own.rules;
      numbers = are_numbered 0 it.lexed.tokens;
    })
    (read_behind (earlier ++ it.lexed ∷ []) units (All-tail IsFormed it units formed))

-- one more unit of another number

-- a number that neither the units nor one more has is not among the units with that one behind them
no_unit_on : (n : ℕ) (earlier : List Lexed) (units : List UnitRead) (it : UnitRead)
    → has_unit n (sources_behind earlier units) ≡ false → nat_eq it.lexed.unit n ≡ false
    → has_unit n (sources_behind earlier (units ++ it ∷ [])) ≡ false
no_unit_on n earlier [] it none other = rw other refl
no_unit_on n earlier (u ∷ units) it none other =
    by (nat_eq u.lexed.unit n) none (λ rest. no_unit_on n (earlier ++ u.lexed ∷ []) units it rest other)
  where
    behind : List Lexed
    behind = earlier ++ u.lexed ∷ []

    by : (b : Bool) → (if b then true else has_unit n (sources_behind behind units)) ≡ false
        → (has_unit n (sources_behind behind units) ≡ false
        → has_unit n (sources_behind behind (units ++ it ∷ [])) ≡ false)
        → (if b then true else has_unit n (sources_behind behind (units ++ it ∷ []))) ≡ false
    by true e more = absurd cc
    by false e more = more e

-- units of different numbers stay so with one more behind them whose number none of them has
differ_on : (earlier : List Lexed) (units : List UnitRead) (it : UnitRead) → UnitsDiffer (sources_behind earlier units)
    → has_unit it.lexed.unit (sources_behind earlier units) ≡ false
    → UnitsDiffer (sources_behind earlier (units ++ it ∷ []))
differ_on earlier [] it differ none = (refl, tt)
differ_on earlier (u ∷ units) it differ none =
    by (nat_eq u.lexed.unit it.lexed.unit) refl none
    (λ rest. differ_on (earlier ++ u.lexed ∷ []) units it differ.1 rest)
  where
    behind : List Lexed
    behind = earlier ++ u.lexed ∷ []

    by : (b : Bool) → nat_eq u.lexed.unit it.lexed.unit ≡ b
        → (if b then true else has_unit it.lexed.unit (sources_behind behind units)) ≡ false
        → (has_unit it.lexed.unit (sources_behind behind units) ≡ false
        → UnitsDiffer (sources_behind behind (units ++ it ∷ [])))
        → UnitsDiffer (sources_behind earlier (u ∷ (units ++ it ∷ [])))
    by true e own more = absurd cc
    by false e own more =
        (no_unit_on u.lexed.unit behind units it differ.0 (ne_turned u.lexed.unit it.lexed.unit e), more own)

-- a lower number compares as different from a higher one
apart : (n m : ℕ) → n < m → nat_eq n m ≡ false
apart n m lt = by (nat_eq n m) refl
  where
    by : (b : Bool) → nat_eq n m ≡ b → b ≡ false
    by true e = let same : n ≡ m = eqb-true n m e in absurd (omega (arith, lt, same))
    by false e = refl

-- units that are well formed
pub read_all : (units : List UnitRead) → All IsFormed units → All IsRead (sources_in units)
read_all units formed = read_behind [] units formed

-- nothing
pub nothing_earlier : (number : ℕ) → AreEarlier number []
nothing_earlier number = record { formed = All-nil IsFormed; differ = tt; lower = λ n le. refl }

-- one more source, which has the next number
pub one_more_may : (number : ℕ) (before : List UnitRead) (unit : UnitRead) → AreEarlier number before
    → unit.lexed.unit ≡ number → IsFormed unit
    → AreEarlier (number + 1) (before ++ unit ∷ [])
one_more_may number before unit may is own = record {
  formed = All-push IsFormed before unit may.formed own;
  differ =
      differ_on [] before unit may.differ
      (subst (λ (n : ℕ). has_unit n (sources_in before) ≡ false) (sym is) (may.lower number (omega arith)));
  lower = λ n le.
      no_unit_on n [] before unit (may.lower n (omega (arith, le))) (apart unit.lexed.unit n (omega (arith, le, is)));
}

-- a prelude alone, which is unit 0
pub prelude_alone : (it : UnitRead) → it.lexed.unit ≡ 0 → IsFormed it → AreEarlier 1 (it ∷ [])
prelude_alone it unit formed = record {
  formed = All-cons IsFormed it [] formed (All-nil IsFormed);
  differ = (refl, tt);
  lower = λ n le. rw (apart it.lexed.unit n (omega (arith, le, unit))) refl;
}

-- what is made of a source of a unit's number
pub at_number : (wide : Bool) (lattices : List LatticeView) (number unit : ℕ) (file bytes : List ℕ)
    (before : List UnitRead) (marks : List IndexMark)
    (earlier : Earlier) (it : Joined) → unit ≡ number → IsEarlier number before earlier
    → (IsEarlier unit before earlier → IsOneMore wide lattices unit file bytes before marks it)
    → IsOneMore wide lattices number file bytes before marks it
at_number wide lattices number unit file bytes before marks earlier it same may of =
    subst (λ (n : ℕ). IsOneMore wide lattices n file bytes before marks it) same
    (of (subst (λ (n : ℕ). IsEarlier n before earlier) (sym same) may))

-- an answer that says a line which refuses something
pub refused : (Refuses : List ℕ → Type 0) (line : List ℕ) (answer : Answer) → Says Malformed line answer → Refuses line
    → (answer.status ≡ Malformed) × Refuses answer.text.items
refused Refuses line answer says is = (says.0, subst Refuses (sym says.1) is)

-- texts of units that have different numbers

-- the texts of units have a unit number exactly where their sources have it
same_texts : (named : FileNames) (earlier : List Lexed) (units : List UnitRead) (n : ℕ)
    → has_unit n (sources_behind earlier units) ≡ scenes.has_unit (texts_of named (lexed_of units)) n
same_texts named earlier [] n = refl
same_texts named earlier (it ∷ units) n =
    ap (λ (b : Bool). if nat_eq it.lexed.unit n then true else b) (same_texts named (earlier ++ it.lexed ∷ []) units n)

-- where the sources of units differ in number, so do their texts
apart_behind : (named : FileNames) (earlier : List Lexed) (units : List UnitRead)
    → UnitsDiffer (sources_behind earlier units)
    → scenes.AreApart (texts_of named (lexed_of units))
apart_behind named earlier [] differ = tt
apart_behind named earlier (it ∷ units) differ = (
  sym (same_texts named (earlier ++ it.lexed ∷ []) units it.lexed.unit) ∙ differ.0,
  apart_behind named (earlier ++ it.lexed ∷ []) units differ.1,
)

pub texts_apart : (named : FileNames) (units : List UnitRead) → UnitsDiffer (sources_in units)
    → scenes.AreApart (texts_of named (lexed_of units))
texts_apart named units differ = apart_behind named [] units differ

-- the texts of units, one more at a time
shown_on : (shown : List LentUnit) (u : LentUnit)
    → scenes.units_of (shown ++ u ∷ []) ≡ scenes.units_of shown ++ scenes.unit_of u ∷ []
shown_on [] u = refl
shown_on (it ∷ shown) u = ap (λ (units : List UnitText). scenes.unit_of it ∷ units) (shown_on shown u)

-- the text of the i-th unit before the texts from i + 1 on gives the texts from i on
next_text : (named : FileNames) (units : List Lexed) (i : ℕ) (it : Lexed) → it ≡ slice_index_or units i it
    → i < length units
    → text_of named it ∷ texts_of named (drop (i + 1) units) ≡ texts_of named (drop i units)
next_text named [] i it is lt = absurd (omega arith)
next_text named (x ∷ units) zero it is lt = ap (λ (s : Lexed). text_of named s ∷ texts_of named units) is
next_text named (x ∷ units) (suc i) it is lt =
    let e : suc i + 1 ≡ suc (i + 1) = omega arith in rw e (next_text named units i it is (omega arith))

-- the texts that are shown with those still to come stay the same when one more is shown
pub texts_on : (named : FileNames) (units : List Lexed) (i : ℕ) (it : Lexed) (shown : List LentUnit) (u : LentUnit)
    → scenes.unit_of u ≡ text_of named it → it ≡ slice_index_or units i it → i < length units
    → scenes.units_of (shown ++ u ∷ []) ++ texts_of named (drop (i + 1) units) ≡ scenes.units_of shown
    ++ texts_of named (drop i units)
texts_on named units i it shown u same is lt =
    let rest = texts_of named (drop (i + 1) units) in
    ap (λ (texts : List UnitText). texts ++ rest) (shown_on shown u)
    ∙ append_assoc (scenes.units_of shown) (scenes.unit_of u ∷ []) rest
    ∙ ap (λ (texts : List UnitText). scenes.units_of shown ++ texts)
    (ap (λ (one : UnitText). one ∷ rest) same ∙ next_text named units i it is lt)
