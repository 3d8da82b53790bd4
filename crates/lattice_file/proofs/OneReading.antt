-- Bytes are a text of one list of blocks alone.
use Rattle.std.proofs.Common.{◌≡◌, ℕ, Bool, zero, suc, ◌<◌, ◌≤◌, List, [], ◌∷◌, length, refl, sym, ◌∙◌, ap, subst, arith, Some}
use Rattle.lattice_file.specs.declared.blocks.Stage.TheVariants as stages
use Rattle.lattice_core.specs.Passing.{no_flows}
use Rattle.lattice_file.specs.Blocks.{BlockView}
use Rattle.lattice_file.specs.Text.{Gap, IsLatticeText, no_attribute}
use Rattle.lattice_file.specs.Steps.{Lexeme, WordLexeme, SignLexeme, TextLexeme, Spells, Standing, GoesFrom, next}
use Rattle.lattice_file.specs.Text.{Nothing, Blank, Comment, Line}
use Rattle.lattice_file.proofs.LexemeUnique.{Takes, IsProper, takes_one, begins, lexeme_stuck, stuck_end}
use Rattle.lattice_file.proofs.GapUnique.{gap_one}
use Rattle.lattice_file.proofs.StepLeads.{At}
use Rattle.lattice_file.proofs.StepSeen.{Seen, AtEnd, Further, sees}
use Rattle.lattice_file.proofs.StepAble.{proper}
use Rattle.std.proofs.Common.{length-append}
use Rattle.std.proofs.lemmas.Option.{same_Some}

-- what stands behind a gap is no longer than what it stands in
gap_shorter : (bytes rest : List ℕ) → Gap bytes rest → length rest ≤ length bytes
gap_shorter bytes rest (Nothing _) = omega arith
gap_shorter bytes rest (Blank b behind _ is gap) = omega (arith, gap_shorter behind rest gap)
gap_shorter bytes rest (Comment text behind _ inside gap) =
    omega (arith, gap_shorter behind rest gap, length-append text (42 ∷ 47 ∷ behind))
gap_shorter bytes rest (Line text behind _ inside ends gap) =
    omega (arith, gap_shorter behind rest gap, length-append text behind)

-- what stands behind a proper lexeme is shorter than what it stands in
spells_shorter : (lexeme : Lexeme) (bytes rest : List ℕ) → IsProper lexeme → Spells lexeme bytes rest
    → length rest < length bytes
spells_shorter (WordLexeme word) bytes rest p s = omega (arith, ap length s.0, length-append word rest, ap length p.2)
spells_shorter (SignLexeme sign) bytes rest p s = omega (arith, ap length s)
spells_shorter TextLexeme bytes rest p s = omega (arith, ap length s.1, length-append s.0 (34 ∷ rest))

-- a gap to the end has no lexeme behind it
pub no_lexeme : (lexeme : Lexeme) (bytes rest : List ℕ) → IsProper lexeme → Gap bytes [] → Takes lexeme bytes rest → ⊥
no_lexeme lexeme bytes rest p gap t =
    let b = begins lexeme t.behind rest p t.spells in
    let same : [] ≡ t.behind = gap_one bytes [] t.behind gap t.gap stuck_end (lexeme_stuck lexeme t.behind b) in
    let clash : [] ≡ b.byte ∷ b.more = same ∙ b.is in absurd cc

-- the reader's step is the only one
pub step_one : (old : Standing) (lexeme : Lexeme) (new : Standing) (bytes rest : List ℕ) (all : List BlockView)
    → next old lexeme ≡ Some new → Takes lexeme bytes rest → GoesFrom old bytes all → GoesFrom new rest all
step_one old lexeme new bytes rest all e takes goes = by (sees old bytes all goes)
  where
    by : Seen old bytes all → GoesFrom new rest all
    by (AtEnd outside gap is) = absurd (no_lexeme lexeme bytes rest (proper old lexeme new e) gap takes)
    by (Further other then after f taken on) =
        let same =
        takes_one other lexeme bytes after rest (proper old other then f) (proper old lexeme new e) taken takes in
        let to : then ≡ new = same_Some then new (sym f ∙ ap (λ (x : Lexeme). next old x) same.0 ∙ e) in
        subst (λ (s : Standing). GoesFrom s rest all) to (subst (λ (r : List ℕ). GoesFrom then r all) same.1 on)

-- from one standing the same bytes go on to one list of blocks
one_from : (n : ℕ) (old : Standing) (bytes : List ℕ) (a b : List BlockView) → length bytes < n → GoesFrom old bytes a
    → GoesFrom old bytes b → a ≡ b
one_from zero old bytes a b h ga gb = absurd (omega (arith, h))
one_from (suc n) old bytes a b h ga gb =
    by (λ new rest less ha hb. one_from n new rest a b less ha hb) (sees old bytes a ga)
  where
    by : ((new : Standing) (rest : List ℕ) → length rest < n → GoesFrom new rest a → GoesFrom new rest b → a ≡ b)
        → Seen old bytes a → a ≡ b
    by again (AtEnd outside gap is) = at_end (sees old bytes b gb)
      where
        at_end : Seen old bytes b → a ≡ b
        at_end (AtEnd _ _ other) = is ∙ sym other
        at_end (Further lexeme new rest e takes goes) =
            absurd (no_lexeme lexeme bytes rest (proper old lexeme new e) gap takes)
    by again (Further lexeme new rest e takes goes) =
        let shorter : length rest < length takes.behind =
        spells_shorter lexeme takes.behind rest (proper old lexeme new e) takes.spells in
        let less : length rest < n = omega (arith, shorter, gap_shorter bytes takes.behind takes.gap, h) in
        again new rest less goes (step_one old lexeme new bytes rest b e takes gb)

-- where the reading of a file begins
abbrev pub first_standing : Bool → Standing
first_standing wide =
    At stages.Outside (no_attribute wide)
    (record { name = []; entries = []; pairs = []; flows = no_flows; blocks = [] })

pub one_reading : (wide : Bool) (a b : List BlockView) (bytes : List ℕ) → IsLatticeText wide a bytes
    → IsLatticeText wide b bytes → a ≡ b
one_reading wide a b bytes ta tb =
    one_from (suc (length bytes)) (first_standing wide) bytes a b (omega arith) (a, ta, refl) (b, tb, refl)
