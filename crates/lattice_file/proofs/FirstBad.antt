-- Where a reader stands at a place of the bytes, and at which place it fails.
use Rattle.std.proofs.Common.{◌≡◌, ℕ, ◌<◌, ◌≤◌, ◌+◌, ◌-◌, Bool, true, false, not, ◌||◌, nat_eq, List, [], ◌∷◌, ◌++◌, length, take, drop, get_or, refl, sym, ◌∙◌, ap, subst, arith, ◌⊎◌, inl, inr, if◌then◌else◌, Some, None, append_assoc, append-nil, drop-cons}
use Rattle.std.specs.List.{slice_range}
use Rattle.std.proofs.lemmas.Grind.{common_steps}
use Rattle.std.proofs.lemmas.List.{take-append-drop, take_more, drop-drop}
use Rattle.std.proofs.Math.Seq.{take-add}
use Rattle.std.proofs.lemmas.List.Folds.{drop_split}
use Rattle.lattice_file.specs.declared.blocks.Stage.{Stage}
use Rattle.lattice_file.specs.declared.blocks.Stage.TheVariants as stages
use Rattle.lattice_file.specs.Blocks.{BlockView}
use Rattle.lattice_file.specs.Text.{Gap, Nothing, Blank, Comment, Line, End, IsLatticeText, is_blank, stands_in_words}
use Rattle.lattice_file.specs.Steps.{Lexeme, Spells, Standing, GoesFrom}
use Rattle.lattice_file.specs.Going.{Goes}
use Rattle.lattice_file.specs.Extents.{first, Resembles, GapGoes, GapFails, begins_lexeme, LexemeGoes, LexemeBegins, LexemeFails}
use Rattle.lattice_file.specs.declared.blocks.Reader.{Reader}
use Rattle.lattice_file.specs.declared.reading.TextFault.{TextFault}
use Rattle.lattice_file.specs.declared.reading.TextFault.TheVariants.{At, NoMemory}
use Rattle.lattice_file.specs.Reading.{standing_of, IsLexemeFault, IsTextFault}
use Rattle.lattice_file.specs.Begins.{IsFirstBad}
use Rattle.lattice_file.proofs.GapUnique.{gap_one, IsStuck}
use Rattle.lattice_file.proofs.LexemeUnique.{Takes, InGap, InWord, AtQuote, AtSign, kind_of, Begins, begins, lexeme_stuck, stuck_at, stuck_end, not_gap}
use Rattle.lattice_file.proofs.StepLeads.{leads}
use Rattle.lattice_file.proofs.StepSeen.{Seen, AtEnd, Further, sees}
use Rattle.lattice_file.proofs.StepAble.{IsReady, able, ready, wide_stays, proper}
use Rattle.lattice_file.proofs.OneReading.{no_lexeme, step_one}

-- parts of the bytes
pub take_join : (bytes : List ℕ) (a b : ℕ) → a ≤ b → b ≤ length bytes
    → take a bytes ++ slice_range bytes a b ≡ take b bytes
take_join bytes a b le within = sym (take-add a (b - a) bytes) ∙ ap (λ (n : ℕ). take n bytes) (omega (arith, le))

-- the bytes between two places and those from the second to a third are those from the first to the third
pub slice_join : (bytes : List ℕ) (a b c : ℕ) → a ≤ b → b ≤ c → c ≤ length bytes
    → slice_range bytes a b ++ slice_range bytes b c ≡ slice_range bytes a c
slice_join bytes a b c le more within =
    let shift : drop b bytes ≡ drop (b - a) (drop a bytes) =
    sym (drop-drop (b - a) a bytes ∙ ap (λ (n : ℕ). drop n bytes) (omega (arith, le))) in
    ap (λ (rest : List ℕ). take (b - a) (drop a bytes) ++ take (c - b) rest) shift
    ∙ sym (take-add (b - a) (c - b) (drop a bytes)) ∙ ap (λ (n : ℕ). take n (drop a bytes)) (omega (arith, le, more))

-- a front and the bytes behind it are the longer front
pub take_front : (bytes tail : List ℕ) (a b : ℕ) → a ≤ b → b ≤ length bytes
    → take a bytes ++ (slice_range bytes a b ++ tail) ≡ take b bytes ++ tail
take_front bytes tail a b le within =
    sym (append_assoc (take a bytes) (slice_range bytes a b) tail)
    ∙ ap (λ (front : List ℕ). front ++ tail) (take_join bytes a b le within)

-- two ranges that meet are one range
pub slice_front : (bytes tail : List ℕ) (a b c : ℕ) → a ≤ b → b ≤ c → c ≤ length bytes
    → slice_range bytes a b ++ (slice_range bytes b c ++ tail) ≡ slice_range bytes a c ++ tail
slice_front bytes tail a b c le more within =
    sym (append_assoc (slice_range bytes a b) (slice_range bytes b c) tail)
    ∙ ap (λ (front : List ℕ). front ++ tail) (slice_join bytes a b c le more within)

-- the first byte
pub first_append : (front a b : List ℕ) → first a ≡ first b → first (front ++ a) ≡ first (front ++ b)
first_append [] a b e = e
first_append (x ∷ front) a b e = refl

first_long : (front a b : List ℕ) → 0 < length front → first (front ++ a) ≡ first (front ++ b)
first_long [] a b h = absurd (omega (arith, h))
first_long (x ∷ front) a b h = refl

pub first_none : (tail : List ℕ) → first tail ≡ None → tail ≡ []
first_none [] e = refl
first_none (b ∷ tail) e = absurd cc

pub drop_over : (bytes : List ℕ) (at : ℕ) → length bytes ≤ at → drop at bytes ≡ []
drop_over bytes at h = grind (arith, common_steps)

pub slice_first : (bytes tail : List ℕ) (a b : ℕ) → a ≤ b → first tail ≡ first (drop b bytes)
    → first (slice_range bytes a b ++ tail) ≡ first (drop a bytes)
slice_first bytes tail a b le e =
    first_append (slice_range bytes a b) tail (drop b bytes) e ∙ ap first (sym (drop_split bytes a b le))

slice_length : (bytes : List ℕ) (a b : ℕ) → a < b → b ≤ length bytes → 0 < length (slice_range bytes a b)
slice_length bytes a b less within = grind (arith, common_steps)

-- a range of at least one byte begins with the byte where it starts
pub slice_long : (bytes tail : List ℕ) (a b : ℕ) → a < b → b ≤ length bytes
    → first (slice_range bytes a b ++ tail) ≡ first (drop a bytes)
slice_long bytes tail a b less within =
    first_long (slice_range bytes a b) tail (drop b bytes) (slice_length bytes a b less within)
    ∙ ap first (sym (drop_split bytes a b (omega (arith, less))))

pub slice_none : (bytes : List ℕ) (a : ℕ) → slice_range bytes a a ≡ []
slice_none bytes a = grind (arith, common_steps)

slice_short : (bytes : List ℕ) (a b : ℕ) → length (slice_range bytes a b) ≤ b - a
slice_short bytes a b = grind (arith, common_steps)

-- a tail on a new line behind a part
fresh : (bytes more : List ℕ) (a b : ℕ) → b ≤ length bytes
    → Resembles (slice_range bytes a b ++ 10 ∷ more) (drop a bytes)
fresh bytes more a b within = by (slice_range bytes a b) refl
  where
    apart : (x : ℕ) (front : List ℕ) → x ∷ front ≡ slice_range bytes a b → a < b
    apart x front e = omega (arith, ap length e, slice_short bytes a b)

    by : (front : List ℕ) → front ≡ slice_range bytes a b
        → Resembles (slice_range bytes a b ++ 10 ∷ more) (drop a bytes)
    by [] e = inr (rw (← e) refl)
    by (x ∷ front) e = inl (slice_long bytes (10 ∷ more) a b (apart x front e) within)

-- a gap before what goes on
pub gap_before : (a b c : List ℕ) → Gap a b → Gap b c → Gap a c
gap_before a b c (Nothing _) on = on
gap_before a b c (Blank byte bytes _ is gap) on = Blank byte bytes c is (gap_before bytes b c gap on)
gap_before a b c (Comment text bytes _ inside gap) on = Comment text bytes c inside (gap_before bytes b c gap on)
gap_before a b c (Line text bytes _ inside ends gap) on = Line text bytes c inside ends (gap_before bytes b c gap on)

-- a gap in front of a rest that goes on from a standing leaves it going on
pub goes_before : (standing : Standing) (front rest : List ℕ) (all : List BlockView) → Gap front rest
    → GoesFrom standing rest all → GoesFrom standing front all
goes_before standing front rest all gap goes = by (sees standing rest all goes)
  where
    by : Seen standing rest all → GoesFrom standing front all
    by (AtEnd outside on is) =
        let P : Stage → Type 0 = λ s. Goes s standing.given standing.draft front all in
        subst P (sym outside)
        ([], End front (gap_before front rest [] gap on), is ∙ sym (append-nil standing.draft.blocks))
    by (Further lexeme new after e takes on) =
        leads standing lexeme new front after all e (record {
          behind = takes.behind;
          gap = gap_before front rest takes.behind gap takes.gap;
          spells = takes.spells;
        }) on

-- a reader stands at a place: the texts that begin with what stands before it are those that go on from there
pub record Stands (wide : Bool) (bytes : List ℕ) (at : ℕ) (standing : Standing) : Type 0 where
  pub within : at ≤ length bytes
  pub ready : IsReady standing
  pub wide_is : standing.given.wide ≡ wide
  pub reads : (tail : List ℕ) (all : List BlockView) → Resembles tail (drop at bytes) → GoesFrom standing tail all
      → IsLatticeText wide all (take at bytes ++ tail)
  pub only : (tail : List ℕ) (all : List BlockView) → Resembles tail (drop at bytes)
      → IsLatticeText wide all (take at bytes ++ tail) → GoesFrom standing tail all

-- a reader outside of blocks that has read none stands at the start of the bytes
pub stands_first : (wide : Bool) (bytes : List ℕ) (standing : Standing) → standing.stage ≡ stages.Outside
    → standing.given.wide ≡ wide → standing.draft.blocks ≡ [] → Stands wide bytes 0 standing
stands_first wide bytes standing outside wide_is empty = record {
  within = omega arith;
  ready = subst (λ (s : Stage). IsReady (record { stage = s; given = standing.given; draft = standing.draft }))
      (sym outside) tt;
  wide_is = wide_is;
  reads = λ tail all _ goes.
      let P : Stage → Type 0 = λ s. Goes s standing.given standing.draft tail all in
      let here : P stages.Outside = subst P outside goes in
      let same : all ≡ here.0 = here.2 ∙ ap (λ (bs : List BlockView). bs ++ here.0) empty in
      rw same (subst (λ (w : Bool). IsLatticeText w here.0 tail) wide_is here.1);
  only = λ tail all _ text.
      let P : Stage → Type 0 = λ s. Goes s standing.given standing.draft tail all in
      subst P (sym outside) (
        all,
        subst (λ (w : Bool). IsLatticeText w all tail) (sym wide_is) text,
        ap (λ (bs : List BlockView). bs ++ all) (sym empty),
      );
}

-- a reader that stood at a place stands behind a gap and a lexeme that leads to its new standing
pub stands_next : (wide : Bool) (bytes : List ℕ) (at start end : ℕ) (old new : Standing) → Stands wide bytes at old
    → at ≤ start → start < end → end ≤ length bytes → GapGoes bytes at start → LexemeGoes old new bytes start end
    → Stands wide bytes end new
stands_next wide bytes at start end old new stands le less within gap goes = record {
  within = within;
  ready = ready old goes.lexeme new goes.next_is;
  wide_is = wide_stays old goes.lexeme new goes.next_is ∙ stands.wide_is;
  reads = λ tail all likes on.
      subst (λ (text : List ℕ). IsLatticeText wide all text) (whole tail) (stands.reads (front tail) all (alike tail)
      (leads old goes.lexeme new (front tail) tail all goes.next_is (takes tail likes) on));
  only = λ tail all likes text.
      step_one old goes.lexeme new (front tail) tail all goes.next_is (takes tail likes) (stands.only (front tail) all
      (alike tail) (subst (λ (text : List ℕ). IsLatticeText wide all text) (sym (whole tail)) text));
}
  where
    front : List ℕ → List ℕ
    front tail = slice_range bytes at start ++ (slice_range bytes start end ++ tail)

    whole : (tail : List ℕ)
        → take at bytes
        ++ (slice_range bytes at start ++ (slice_range bytes start end ++ tail)) ≡ take end bytes ++ tail
    whole tail =
        take_front bytes (slice_range bytes start end ++ tail) at start le (omega (arith, less, within))
        ∙ take_front bytes tail start end (omega (arith, less)) within

    alike : (tail : List ℕ)
        → Resembles (slice_range bytes at start ++ (slice_range bytes start end ++ tail)) (drop at bytes)
    alike tail =
        inl (slice_first bytes (slice_range bytes start end ++ tail) at start le
        (slice_long bytes tail start end less within))

    takes : (tail : List ℕ) → Resembles tail (drop end bytes)
        → Takes goes.lexeme (slice_range bytes at start ++ (slice_range bytes start end ++ tail)) tail
    takes tail likes = record {
      behind = slice_range bytes start end ++ tail;
      gap = gap (slice_range bytes start end ++ tail) (inl (slice_long bytes tail start end less within));
      spells = goes.spells tail likes;
    }

-- where what is read cannot go on
bad_at : (wide : Bool) (bytes : List ℕ) (at place : ℕ) (standing : Standing) → Stands wide bytes at standing
    → at ≤ place → place ≤ length bytes →
    (tail : List ℕ) (all : List BlockView) → Resembles (slice_range bytes at place ++ tail) (drop at bytes)
    → GoesFrom standing (slice_range bytes at place ++ tail) all →
    ((tail : List ℕ) (all : List BlockView) → first tail ≡ first (drop place bytes)
    → GoesFrom standing (slice_range bytes at place ++ tail) all → ⊥)
    → IsFirstBad wide bytes place
bad_at wide bytes at place standing stands le within tail all likes goes fails = record {
  within = within;
  begins = record {
    more = tail;
    blocks = all;
    text = subst (λ (text : List ℕ). IsLatticeText wide all text) (take_front bytes tail at place le within)
        (stands.reads (slice_range bytes at place ++ tail) all likes goes);
  };
  ends_in_bytes = λ less begins.
      let byte = get_or bytes place 0 in
      let same : take (place + 1) bytes ++ begins.more ≡ take place bytes ++ (byte ∷ begins.more) =
      ap (λ (front : List ℕ). front ++ begins.more) (take_more bytes place 0 less)
      ∙ append_assoc (take place bytes) (byte ∷ []) begins.more in
      let here : first (byte ∷ begins.more) ≡ first (drop place bytes) =
      ap first (sym (drop-cons bytes place 0 less)) in
      refuse (byte ∷ begins.more) begins.blocks here
      (subst (λ (text : List ℕ). IsLatticeText wide begins.blocks text) same begins.text);
  ends_behind = λ e blocks text.
      let over : drop place bytes ≡ [] = drop_over bytes place (omega (arith, e)) in
      let same : bytes ≡ take place bytes ++ [] =
      sym (take-append-drop place bytes) ∙ ap (λ (rest : List ℕ). take place bytes ++ rest) over in
      refuse [] blocks (ap first (sym over)) (subst (λ (text : List ℕ). IsLatticeText wide blocks text) same text);
}
  where
    refuse : (tail : List ℕ) (all : List BlockView) → first tail ≡ first (drop place bytes)
        → IsLatticeText wide all (take place bytes ++ tail) → ⊥
    refuse tail all here text =
        fails tail all here
        (stands.only (slice_range bytes at place ++ tail) all (inl (slice_first bytes tail at place le here))
        (subst (λ (text : List ℕ). IsLatticeText wide all text) (sym (take_front bytes tail at place le within)) text))

-- a slash begins a gap
slash_gap : (b : ℕ) → Some b ≡ Some 47 → kind_of b ≡ InGap
slash_gap b e = subst (λ (b : ℕ). kind_of b ≡ InGap) (same b e) refl
  where
    same : (b : ℕ) → Some b ≡ Some 47 → 47 ≡ b
    same b e = cc

-- no lexeme begins with a slash
slash_lexeme : (lexeme : Lexeme) (bytes : List ℕ) → first bytes ≡ Some 47 → Begins lexeme bytes → ⊥
slash_lexeme lexeme bytes slash begins =
    let here : Some begins.byte ≡ Some 47 = sym (ap first begins.is) ∙ slash in
    not_gap lexeme (sym (slash_gap begins.byte here) ∙ begins.kind)

-- where a gap fails at a place, that place is the first bad one of the text
pub gap_bad : (wide : Bool) (bytes : List ℕ) (at place : ℕ) (standing : Standing) → Stands wide bytes at standing
    → GapFails bytes at place → IsFirstBad wide bytes place
gap_bad wide bytes at place standing stands fails =
    let comment = fails.comment in
    let on : at ≤ place = omega (arith, fails.later, comment.later) in
    let a = able standing stands.ready in
    let tail = comment.more ++ 10 ∷ a.more in
    bad_at wide bytes at place standing stands on comment.within tail a.all
    (inl (slice_long bytes tail at place (omega (arith, fails.later, comment.later)) comment.within))
    (goes_before standing (slice_range bytes at place ++ tail) (10 ∷ a.more) a.all (through tail (10 ∷ a.more)
    (comment.ends (10 ∷ a.more)) (inl (slice_long bytes tail fails.at place comment.later comment.within))) a.goes)
    (λ tail all here goes. refuse tail here all (sees standing (slice_range bytes at place ++ tail) all goes))
  where
    through : (tail rest : List ℕ) → Gap (slice_range bytes fails.at place ++ tail) rest
        → Resembles (slice_range bytes fails.at place ++ tail) (drop fails.at bytes)
        → Gap (slice_range bytes at place ++ tail) rest
    through tail rest gap likes =
        subst (λ (front : List ℕ). Gap front rest)
        (slice_front bytes tail at fails.at place fails.later (omega (arith, fails.comment.later)) fails.comment.within)
        (gap_before (slice_range bytes at fails.at ++ (slice_range bytes fails.at place ++ tail))
        (slice_range bytes fails.at place ++ tail) rest
        (fails.gap (slice_range bytes fails.at place ++ tail) likes) gap)

    refuse : (tail : List ℕ) → first tail ≡ first (drop place bytes) → (all : List BlockView)
        → Seen standing (slice_range bytes at place ++ tail) all → ⊥
    refuse tail here all seen = by seen
      where
        stop : List ℕ
        stop = slice_range bytes fails.at place ++ tail

        slash : first (slice_range bytes fails.at place ++ tail) ≡ Some 47
        slash = slice_long bytes tail fails.at place fails.comment.later fails.comment.within ∙ fails.comment.slash

        stuck : IsStuck (slice_range bytes fails.at place ++ tail)
        stuck rest gap = fails.comment.stuck tail rest here gap

        gap : Gap (slice_range bytes at place ++ tail) (slice_range bytes fails.at place ++ tail)
        gap =
            through tail (slice_range bytes fails.at place ++ tail) (Nothing (slice_range bytes fails.at place ++ tail))
            (inl (slice_long bytes tail fails.at place fails.comment.later fails.comment.within))

        by : Seen standing (slice_range bytes at place ++ tail) all → ⊥
        by (AtEnd outside end is) =
            let same : [] ≡ slice_range bytes fails.at place ++ tail = gap_one (slice_range bytes at place ++ tail) []
            (slice_range bytes fails.at place ++ tail) end gap stuck_end stuck in
            let clash : first [] ≡ Some 47 = ap first same ∙ slash in absurd cc
        by (Further lexeme new after e takes on) =
            let b = begins lexeme takes.behind after (proper standing lexeme new e) takes.spells in
            let same : takes.behind ≡ slice_range bytes fails.at place ++ tail =
            gap_one (slice_range bytes at place ++ tail) takes.behind
            (slice_range bytes fails.at place ++ tail) takes.gap gap (lexeme_stuck lexeme takes.behind b) stuck in
            slash_lexeme lexeme takes.behind (ap first same ∙ slash) b

-- bytes that end inside a block are first bad at their end
pub end_bad : (wide : Bool) (bytes : List ℕ) (at start : ℕ) (standing : Standing) → Stands wide bytes at standing
    → at ≤ start → start ≡ length bytes → GapGoes bytes at start → (standing.stage ≡ stages.Outside → ⊥)
    → IsFirstBad wide bytes start
end_bad wide bytes at start standing stands le over gap inside =
    let a = able standing stands.ready in
    let rest : List ℕ = 10 ∷ a.more in
    bad_at wide bytes at start standing stands le (omega (arith, over)) rest a.all
    (fresh bytes a.more at start (omega (arith, over)))
    (goes_before standing (slice_range bytes at start ++ rest) rest a.all (gap rest (inr refl)) a.goes)
    (λ tail all here goes.
    let none : tail ≡ [] = first_none tail (here ∙ ap first (drop_over bytes start (omega (arith, over)))) in
    let end : Gap (slice_range bytes at start ++ tail) [] =
    subst (λ (t : List ℕ). Gap (slice_range bytes at start ++ t) []) (sym none)
    (gap [] (inl (ap first (sym (drop_over bytes start (omega (arith, over))))))) in
    refuse (slice_range bytes at start ++ tail) all end (sees standing (slice_range bytes at start ++ tail) all goes))
  where
    refuse : (front : List ℕ) (all : List BlockView) → Gap front [] → Seen standing front all → ⊥
    refuse front all end (AtEnd outside _ is) = inside outside
    refuse front all end (Further lexeme new after e takes on) =
        no_lexeme lexeme front after (proper standing lexeme new e) end takes

-- a byte that is neither a blank nor a slash begins no gap
kind_free : (b : ℕ) → not (is_blank b || nat_eq b 47) ≡ true → InGap ≡ kind_of b → ⊥
kind_free b h e = by (is_blank b || nat_eq b 47) (stands_in_words b) (nat_eq b 34) h e
  where
    by : (c d f : Bool) → not c ≡ true
        → InGap ≡ (if c then InGap else if d then InWord else if f then AtQuote else AtSign) → ⊥
    by true d f h e = cc
    by false true f h e = cc
    by false false true h e = cc
    by false false false h e = cc

stuck_first : (bytes : List ℕ) → begins_lexeme bytes ≡ true → IsStuck bytes
stuck_first [] h = stuck_end
stuck_first (b ∷ bytes) h = stuck_at b bytes (kind_of b) refl (kind_free b h)

-- bytes with the same first byte as such with which no gap begins, begin no gap either
lexeme_first : (a b : List ℕ) → first a ≡ first b → begins_lexeme a ≡ true → begins_lexeme b ≡ true
lexeme_first [] [] e h = refl
lexeme_first [] (y ∷ b) e h = absurd cc
lexeme_first (x ∷ a) [] e h = absurd cc
lexeme_first (x ∷ a) (y ∷ b) e h = subst (λ (z : ℕ). not (is_blank z || nat_eq z 47) ≡ true) (same x y e) h
  where
    same : (x y : ℕ) → Some x ≡ Some y → x ≡ y
    same x y e = cc

-- where a lexeme fails at a place, that place is the first bad one of the text
pub lexeme_bad : (wide : Bool) (bytes : List ℕ) (at start place : ℕ) (standing : Standing)
    → Stands wide bytes at standing → at ≤ start → start < length bytes → GapGoes bytes at start
    → begins_lexeme (drop start bytes) ≡ true →
    LexemeFails standing bytes start place → IsFirstBad wide bytes place
lexeme_bad wide bytes at start place standing stands le inside gap stops fails = by fails.begins
  where
    on : at ≤ place
    on = omega (arith, le, fails.later)

    whole : (tail : List ℕ)
        → slice_range bytes at start ++ (slice_range bytes start place ++ tail) ≡ slice_range bytes at place ++ tail
    whole tail = slice_front bytes tail at start place le fails.later fails.within

    gap_to : (tail : List ℕ) → Resembles (slice_range bytes start place ++ tail) (drop start bytes)
        → Gap (slice_range bytes at place ++ tail) (slice_range bytes start place ++ tail)
    gap_to tail likes =
        subst (λ (front : List ℕ). Gap front (slice_range bytes start place ++ tail)) (whole tail)
        (gap (slice_range bytes start place ++ tail) likes)

    seen_fails : (tail : List ℕ) (all : List BlockView) → first tail ≡ first (drop place bytes)
        → Seen standing (slice_range bytes at place ++ tail) all → ⊥
    seen_fails tail all here seen = go seen
      where
        here_too : first (slice_range bytes start place ++ tail) ≡ first (drop start bytes)
        here_too = slice_first bytes tail start place fails.later here

        stuck : IsStuck (slice_range bytes start place ++ tail)
        stuck = stuck_first (slice_range bytes start place ++ tail)
            (lexeme_first (drop start bytes) (slice_range bytes start place ++ tail) (sym here_too) stops)

        go : Seen standing (slice_range bytes at place ++ tail) all → ⊥
        go (AtEnd outside end is) =
            let same : [] ≡ slice_range bytes start place ++ tail = gap_one (slice_range bytes at place ++ tail) []
            (slice_range bytes start place ++ tail) end (gap_to tail (inl here_too)) stuck_end stuck in
            let clash : None ≡ Some (get_or bytes start 0) =
            ap first same ∙ here_too ∙ ap first (drop-cons bytes start 0 inside) in
            absurd cc
        go (Further lexeme new after e takes goes) =
            let b = begins lexeme takes.behind after (proper standing lexeme new e) takes.spells in
            let same : takes.behind ≡ slice_range bytes start place ++ tail =
            gap_one (slice_range bytes at place ++ tail) takes.behind (slice_range bytes start place ++ tail) takes.gap
            (gap_to tail (inl here_too)) (lexeme_stuck lexeme takes.behind b) stuck in
            fails.fails tail after lexeme new here
            (subst (λ (front : List ℕ). Spells lexeme front after) same takes.spells) e

    none : (tail : List ℕ) (all : List BlockView) → first tail ≡ first (drop place bytes)
        → GoesFrom standing (slice_range bytes at place ++ tail) all → ⊥
    none tail all here goes = seen_fails tail all here (sees standing (slice_range bytes at place ++ tail) all goes)

    by : (place ≡ start) ⊎ LexemeBegins standing bytes start place → IsFirstBad wide bytes place
    by (inl e) =
        let a = able standing stands.ready in
        let rest : List ℕ = 10 ∷ a.more in
        let there : Gap (slice_range bytes at place ++ rest) rest =
        subst (λ (p : ℕ). Gap (slice_range bytes at p ++ rest) rest) (sym e) (gap rest (inr refl)) in
        bad_at wide bytes at place standing stands on fails.within rest a.all (fresh bytes a.more at place fails.within)
        (goes_before standing (slice_range bytes at place ++ rest) rest a.all there a.goes) none
    by (inr b) =
        let a = able b.new (ready standing b.lexeme b.new b.next_is) in
        let rest : List ℕ = 10 ∷ a.more in
        let tail = b.more ++ rest in
        let takes : Takes b.lexeme (slice_range bytes at place ++ tail) rest =
        record {
          behind = slice_range bytes start place ++ tail;
          gap = gap_to tail (inl (slice_long bytes tail start place b.longer fails.within));
          spells = b.spells a.more;
        } in
        bad_at wide bytes at place standing stands on fails.within tail a.all
        (inl (slice_long bytes tail at place (omega (arith, le, b.longer)) fails.within))
        (leads standing b.lexeme b.new (slice_range bytes at place ++ tail) rest a.all b.next_is takes a.goes) none

-- the bytes end where a block may begin
pub end_reads : (wide : Bool) (bytes : List ℕ) (at start : ℕ) (standing : Standing) (blocks : List BlockView)
    → Stands wide bytes at standing → at ≤ start → start ≡ length bytes → GapGoes bytes at start
    → standing.stage ≡ stages.Outside →
    blocks ≡ standing.draft.blocks → IsLatticeText wide blocks bytes
end_reads wide bytes at start standing blocks stands le over gap outside is =
    let none : drop start bytes ≡ [] = drop_over bytes start (omega (arith, over)) in
    let likes : first [] ≡ first (drop start bytes) = ap first (sym none) in
    let P : Stage → Type 0 = λ s. Goes s standing.given standing.draft (slice_range bytes at start ++ []) blocks in
    let goes : GoesFrom standing (slice_range bytes at start ++ []) blocks =
    subst P (sym outside)
    ([], End (slice_range bytes at start ++ []) (gap [] (inl likes)), is ∙ sym (append-nil standing.draft.blocks)) in
    let whole : take at bytes ++ (slice_range bytes at start ++ []) ≡ bytes =
    take_front bytes [] at start le (omega (arith, over)) ∙ ap (λ (rest : List ℕ). take start bytes ++ rest) (sym none)
    ∙ take-append-drop start bytes in
    subst (λ (text : List ℕ). IsLatticeText wide blocks text) whole
    (stands.reads (slice_range bytes at start ++ []) blocks (inl (slice_first bytes [] at start le likes)) goes)

-- a fault of the lexeme behind a gap is the first fault of the text
pub fault_first : (wide : Bool) (bytes : List ℕ) (at start : ℕ) (reader : Reader) (fault : TextFault)
    → Stands wide bytes at (standing_of reader) → at ≤ start → start < length bytes → GapGoes bytes at start
    → begins_lexeme (drop start bytes) ≡ true →
    IsLexemeFault reader bytes start fault → IsTextFault wide bytes fault
fault_first wide bytes at start reader (At place) stands le inside gap stops fails =
    lexeme_bad wide bytes at start place (standing_of reader) stands le inside gap stops fails
fault_first wide bytes at start reader NoMemory stands le inside gap stops fails = tt
