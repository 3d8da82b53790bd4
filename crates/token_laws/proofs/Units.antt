-- The spans of constraints, the call sites and the faults of programs that were read.
use Rattle.std.proofs.Common.{◌≡◌, ℕ, zero, suc, ◌+◌, ◌-◌, Bool, All, Contains, List, [], ◌∷◌, ◌++◌, Option, None, Some, inl, inr, refl, sym, ◌∙◌, ap, subst, arith}
use Rattle.std.specs.Prelude.{slice_get, take, drop, map}
use Rattle.std.proofs.lemmas.List.Elements.{All-nil, All-cons, Contains-append_cases}
use Rattle.c_words.specs.declared.kinds.TokenKind.TheVariants as kinds
use Rattle.qual_base.specs.declared.places.Span.{Span}
use Rattle.flow_graph.specs.declared.constraint.Constraint.{Constraint}
use Rattle.flow_graph.specs.declared.constraint.Site.{Site}
use Rattle.tape_ops.specs.declared.op.Op.{Op}
use Rattle.c_tree.specs.declared.lexeme.Lexeme.{Lexeme}
use Rattle.c_tree.specs.Text.{tokens_between}
use Rattle.c_tree.specs.WellFormed.{IsElement}
use Rattle.c_tree.specs.Ends.{FirstBegins, LastEnds}
use Rattle.c_tape.specs.Tape.{tape_of}
use Rattle.name_rules.specs.Spellings.{Place, place}
use Rattle.name_rules.specs.Faults.{Fault}
use Rattle.name_rules.specs.Scopes.{Names}
use Rattle.name_rules.specs.Units.{no_names, unit_begun}
use Rattle.name_rules.specs.Linking.{body_faults}
use Rattle.name_rules.specs.NameSteps.State.{with_names}
use Rattle.name_rules.specs.NameSteps.Units.{tape_named, tapes_named}
use Rattle.resolve_laws.specs.NameLaws.NameLaws.{IsSound, tape_of_source, NamesOfTapes}
use Rattle.type_rules.specs.Program.{Source, names_of, judged}
use Rattle.type_rules.specs.Judging.{items_faults_of}
use Rattle.name_rules.specs.ShapeSteps.State.{nothing}
use Rattle.resolve_laws.specs.ShapeLaws.Laws.{FaultsAreFound}
use Rattle.row_rules.specs.Worlds.{span, word_span}
use Rattle.row_rules.specs.Annotations.{has_access}
use Rattle.row_rules.specs.Sites.{functions_of, site_of, sites_among}
use Rattle.row_rules.specs.Starting.{Start}
use Rattle.row_rules.specs.RowSteps.Rounds.{file}
use Rattle.row_rules.specs.RowSteps.Found.{unit_rows}
use Rattle.row_rules.specs.RowSteps.Starting.{unit_starts}
use Rattle.row_laws.specs.StartLaws.Laws.{found_on, StartsOfProgramAreFound}
use Rattle.row_laws.specs.Laws.{rows_among, ConstraintsAreFound}
use Rattle.constraint_rules.specs.Systems.{Program, system_of, world_of, starts_of}
use Rattle.token_laws.specs.Tokens.{AreCounted, IsReadFrom, AreReadFrom, IsTokenOf, StandsAt, StandsIn, SpansHaveTokens, SitesHaveTokens, FaultsHaveTokens}
use Rattle.token_laws.specs.Ops.{op_tokens}
use Rattle.token_laws.proofs.Texts.{AllIn, AllAt, AllOps}
use Rattle.token_laws.proofs.Trees.{items_cover}
use Rattle.token_laws.proofs.Types.{FaultsOk, Sound}
use Rattle.token_laws.proofs.Names.{none_sound, unit_there}
use Rattle.token_laws.proofs.NameSteps.{begun, run_kept}
use Rattle.token_laws.proofs.Rows.{Stand, lists_stand, AtWord}
use Rattle.token_laws.proofs.Steps.{rows_stand}
use Rattle.token_laws.proofs.Found.{bodies_at, faults_at, StartsAt, starts_append, starts_at}

-- tokens by their places

same_get : (n m : ℕ) (all : List Lexeme) → n ≡ m → slice_get all n ≡ slice_get all m
same_get n m all e = ap (slice_get all) e

-- tokens that are numbered by their places are each the token of its number in the whole list
counted_all : (all k : List Lexeme) (n : ℕ) → AreCounted n k → ((i : ℕ) → slice_get all (n + i) ≡ slice_get k i) →
    AllAt (λ m. IsTokenOf m all) k
counted_all all [] n h same = tt
counted_all all (it ∷ k) n h same = (here, counted_all all k (suc n) h.1 next)
  where
    plain : (m : ℕ) → m + 0 ≡ m
    plain m = omega arith

    here : IsTokenOf it.at all
    here = record {
      token = it;
      there = same_get it.at (n + 0) all (h.0 ∙ sym (plain n)) ∙ same 0;
      numbered = refl;
    }

    later : (m i : ℕ) → suc m + i ≡ m + suc i
    later m i = omega arith

    next : (i : ℕ) → slice_get all (suc n + i) ≡ slice_get k i
    next i = same_get (suc n + i) (n + suc i) all (later n i) ∙ same (suc i)

-- the token at a place
at_place : (k : List Lexeme) (n m : ℕ) → AreCounted m k → IsElement (take 1 (drop n k)) →
    (it : Lexeme) × (slice_get k n ≡ Some it) × (it.at ≡ m + n)
at_place [] zero m h is = absurd is
at_place [] (suc n) m h is = absurd is
at_place (it ∷ k) zero m h is = (it, refl, h.0 ∙ plain m)
  where
    plain : (m : ℕ) → m ≡ m + 0
    plain m = omega arith
at_place (it ∷ k) (suc n) m h is =
    let found = at_place k n (suc m) h.1 is in (found.0, found.1, found.2 ∙ later m n)
  where
    later : (m n : ℕ) → suc m + n ≡ m + suc n
    later m n = omega arith

from_none : (n : ℕ) → 0 + n ≡ n
from_none n = omega arith

-- where an element of the text is the one token between n and n, n is the number of a token
one_token : (all : List Lexeme) → AreCounted 0 all → (n : ℕ) → IsElement (tokens_between all n n) → IsTokenOf n all
one_token all h n is =
    let found = at_place all n 0 h (subst (λ (m : ℕ). IsElement (take m (drop n all))) (one n) is) in
    record { token = found.0; there = found.1; numbered = found.2 ∙ from_none n }
  where
    one : (n : ℕ) → n + 1 - n ≡ 1
    one n = omega arith

-- one source

-- all tokens that the ops of a source's tape carry are tokens of its text
tape_tokens : FirstBegins → LastEnds → (it : Source) (all : List Lexeme) → IsReadFrom it all →
    AllOps (λ n. IsTokenOf n all) (tape_of it.items)
tape_tokens firsts lasts it all read =
    let end : List Lexeme = record { kind = kinds.End; at = read.tokens.last } ∷ [] in
    let each : AllAt (λ m. IsTokenOf m all) all = counted_all all all 0 read.counted
    (λ i. same_get (0 + i) i all (from_none i)) in
    ((items_cover all (one_token all read.counted) firsts lasts it.items read.rules.parts end).goes
    (subst (AllAt (λ m. IsTokenOf m all)) read.tokens.spelled each)).ops.all

stands : (it : Source) (all : List Lexeme) (a b : ℕ) → IsTokenOf a all → IsTokenOf b all →
    StandsAt it all (record { unit = it.spelling.unit; from = a; to = b })
stands it all a b first last = record { unit = refl; first = first; last = last }

-- what holds of all tokens along a tape still holds where it is weakened for each
ops_hold : (P Q : ℕ → Type 0) → ((n : ℕ) → P n → Q n) → (tape : List Op) → AllOps P tape → AllOps Q tape
ops_hold P Q f [] h = tt
ops_hold P Q f (op ∷ tape) h = (ins_hold (op_tokens op) h.0, ops_hold P Q f tape h.1)
  where
    ins_hold : (ns : List ℕ) → AllIn P ns → AllIn Q ns
    ins_hold [] i = tt
    ins_hold (n ∷ ns) i = (f n i.0, ins_hold ns i.1)

-- Sources with what is known of the tokens of their tapes: S is of the spans of all sources, and each source has its
-- own.
abbrev Given : (Span → Type 0) → List Source → List (List Lexeme) → Type 0
Given S [] texts = Unit {0}
Given S (it ∷ sources) [] = Unit {0}
Given S (it ∷ sources) (all ∷ texts) = ((where_ : Span) → StandsAt it all where_ → S where_) × Given S sources texts

-- what holds of each span that stands in the sources is given for all of them, source by source
given_later : (S : Span → Type 0) (sources : List Source) (texts : List (List Lexeme)) →
    ((where_ : Span) → StandsIn sources texts where_ → S where_) → Given S sources texts
given_later S [] texts f = tt
given_later S (it ∷ sources) [] f = tt
given_later S (it ∷ sources) (all ∷ texts) f =
    ((λ where_ h. f where_ (inl h)), given_later S sources texts (λ where_ h. f where_ (inr h)))

given : (sources : List Source) (texts : List (List Lexeme)) → Given (StandsIn sources texts) sources texts
given sources texts = given_later (StandsIn sources texts) sources texts (λ where_ h. h)

-- members of lists

-- a span of one of some constraints has what all their spans have
stands_there : (S : Span → Type 0) (cs : List Constraint) (c : Constraint) → Stand S cs → Contains cs c → S c.span
stands_there S [] c h (k, less, is) = absurd (omega (arith, less))
stands_there S (x ∷ cs) c h (zero, less, is) = subst (λ (d : Constraint). S d.span) is h.0
stands_there S (x ∷ cs) c h (suc k, less, is) = stands_there S cs c h.1 (k, omega (arith, less), is)

-- a place of one of some faults has what all their places have
fault_there : (S : Place → Type 0) (fs : List Fault) (f : Fault) → FaultsOk S fs → Contains fs f → S f.at
fault_there S [] f h (k, less, is) = absurd (omega (arith, less))
fault_there S (x ∷ fs) f h (zero, less, is) = subst (λ (g : Fault). S g.at) is h.0
fault_there S (x ∷ fs) f h (suc k, less, is) = fault_there S fs f h.1 (k, omega (arith, less), is)

abbrev SitesAt : (Place → Type 0) → List Site → Type 0
SitesAt S [] = Unit {0}
SitesAt S (site ∷ sites) = S (site.unit, site.token) × SitesAt S sites

-- a place of one of some call sites has what all their places have
site_there : (S : Place → Type 0) (sites : List Site) (it : Site) → SitesAt S sites → Contains sites it
    → S (it.unit, it.token)
site_there S [] it h (k, less, is) = absurd (omega (arith, less))
site_there S (x ∷ sites) it h (zero, less, is) = subst (λ (s : Site). S (s.unit, s.token)) is h.0
site_there S (x ∷ sites) it h (suc k, less, is) = site_there S sites it h.1 (k, omega (arith, less), is)

-- call sites are at places that have what the places of the skeletons have
sites_at : (S : Place → Type 0) (functions : List Place) (starts : List Start) → StartsAt S starts →
    SitesAt S (sites_among functions starts)
sites_at S functions [] h = tt
sites_at S functions (start ∷ starts) h = by start.calls (sites_at S functions starts h.1)
  where
    by : (calls : Option Place) → SitesAt S (sites_among functions starts) →
        SitesAt S (site_of functions start calls ++ sites_among functions starts)
    by None rest = rest
    by (Some f) rest = (h.0, rest)

module _ (firsts : FirstBegins) (lasts : LastEnds) (S : Span → Type 0) where
  -- a tape carries tokens at which there is a place of this
  own_tape : (it : Source) (all : List Lexeme) → IsReadFrom it all
      → ((where_ : Span) → StandsAt it all where_ → S where_) →
      AllOps (λ n. AtWord S (place it.spelling n)) (tape_of it.items)
  own_tape it all read f =
      ops_hold (λ n. IsTokenOf n all) (λ n. AtWord S (place it.spelling n))
      (λ n h. f (word_span (place it.spelling n)) (stands it all n n h h)) (tape_of it.items)
      (tape_tokens firsts lasts it all read)

  tape_sound : (it : Source) (all : List Lexeme) → IsReadFrom it all
      → ((where_ : Span) → StandsAt it all where_ → S where_) →
      (s : Names) → Sound (AtWord S) s → Sound (AtWord S) (tape_named (tape_of_source it) s)
  tape_sound it all read f s h =
      (run_kept (AtWord S) it.spelling (tape_of it.items) (with_names s) (own_tape it all read f)
      (begun (AtWord S) it.spelling s h)).names

  tapes_sound : (sources : List Source) (texts : List (List Lexeme)) → AreReadFrom sources texts
      → Given S sources texts →
      (s : Names) → Sound (AtWord S) s → Sound (AtWord S) (tapes_named (map tape_of_source sources) s)
  tapes_sound [] texts read f s h = h
  tapes_sound (it ∷ sources) [] read f s h = absurd read
  tapes_sound (it ∷ sources) (all ∷ texts) read f s h =
      tapes_sound sources texts read.1 f.1 (tape_named (tape_of_source it) (unit_begun it.spelling.unit s))
      (tape_sound it all read.0 f.0 (unit_begun it.spelling.unit s) (unit_there it.spelling.unit h))

  sound_of : (sources : List Source) (texts : List (List Lexeme)) → AreReadFrom sources texts → All IsSound sources
  sound_of [] texts read = All-nil IsSound
  sound_of (it ∷ sources) [] read = absurd read
  sound_of (it ∷ sources) (all ∷ texts) read =
      All-cons IsSound it sources (all, read.0.rules) (sound_of sources texts read.1)

  names_sound : NamesOfTapes → (sources : List Source) (texts : List (List Lexeme)) → AreReadFrom sources texts →
      Given S sources texts → Sound (AtWord S) (names_of sources)
  names_sound names sources texts read f =
      subst (Sound (AtWord S)) (names sources (sound_of sources texts read))
      (tapes_sound sources texts read f no_names none_sound)

  -- constraints

  rows_there : (p : Program) → Sound (AtWord S) (names_of p.sources)
      → (sources : List Source) (texts : List (List Lexeme)) →
      AreReadFrom sources texts → Given S sources texts → Stand S (rows_among p sources)
  rows_there p h [] texts read f = tt
  rows_there p h (it ∷ sources) [] read f = absurd read
  rows_there p h (it ∷ sources) (all ∷ texts) read f =
      lists_stand S (unit_rows (world_of p it) (tape_of it.items)) (rows_among p sources)
      (rows_stand S (λ n. IsTokenOf n all) (world_of p it)
      (λ a b first last. f.0 (span (world_of p it) a b) (stands it all a b first last)) h (tape_of it.items)
      (tape_tokens firsts lasts it all read.0))
      (rows_there p h sources texts read.1 f.1)

  -- faults

  judged_there : FaultsAreFound → (s : Names) (sources : List Source) (texts : List (List Lexeme)) →
      AreReadFrom sources texts → Given S sources texts → (g : Fault) → Contains (judged sources s) g → AtWord S g.at
  judged_there found s [] texts read f g (k, less, is) = absurd (omega (arith, less))
  judged_there found s (it ∷ sources) [] read f g there = absurd read
  judged_there found s (it ∷ sources) (all ∷ texts) read f g there =
      elim (Contains-append_cases (items_faults_of it.spelling s it.items) (judged sources s) g there) [
        | inl own ↦ fault_there (AtWord S) _ g (faults_at (AtWord S) it.spelling s nothing (tape_of it.items)
            (own_tape it all read.0 f.0)) ((found it.spelling s it.items g).1 own)
        | inr later ↦ judged_there found s sources texts read.1 f.1 g later
      ]

  -- skeletons

  starts_there : (access : Bool) (s : Names) → Sound (AtWord S) s
      → (sources : List Source) (texts : List (List Lexeme)) →
      AreReadFrom sources texts → Given S sources texts → StartsAt (AtWord S) (found_on access s sources)
  starts_there access s h [] texts read f = tt
  starts_there access s h (it ∷ sources) [] read f = absurd read
  starts_there access s h (it ∷ sources) (all ∷ texts) read f =
      starts_append (AtWord S) (unit_starts access it.spelling s (tape_of it.items)) (found_on access s sources)
      (starts_at (AtWord S) it.spelling s h nothing (file access) (tape_of it.items) (own_tape it all read.0 f.0))
      (starts_there access s h sources texts read.1 f.1)

-- the span of each constraint of a program that was read has its tokens in the text of its unit
pub spans_have_tokens : FirstBegins → LastEnds → NamesOfTapes → ConstraintsAreFound → SpansHaveTokens
spans_have_tokens firsts lasts names found p texts read c there =
    let S = StandsIn p.sources texts in
    let all = given p.sources texts in
    let known = names_sound firsts lasts S names p.sources texts read all in
    stands_there S (system_of p).constraints c
    (subst (Stand S) (found p (sound_of firsts lasts S p.sources texts read))
    (rows_there firsts lasts S p known p.sources texts read all)) there

-- the place of each call site of a program that was read has its token in the text of its unit
pub sites_have_tokens : FirstBegins → LastEnds → NamesOfTapes → StartsOfProgramAreFound → SitesHaveTokens
sites_have_tokens firsts lasts names found p texts read site there =
    let S = StandsIn p.sources texts in
    let all = given p.sources texts in
    let known = names_sound firsts lasts S names p.sources texts read all in
    site_there (AtWord S) (system_of p).sites site
    (sites_at (AtWord S) (functions_of (names_of p.sources)) (starts_of (has_access p.lattices) p.sources)
    (subst (StartsAt (AtWord S))
    (found (has_access p.lattices) p.sources (sound_of firsts lasts S p.sources texts read))
    (starts_there firsts lasts S (has_access p.lattices) (names_of p.sources) known p.sources texts read all))) there

-- the place of each fault of sources that were read has its token in the text of its unit
pub faults_have_tokens : FirstBegins → LastEnds → NamesOfTapes → FaultsAreFound → FaultsHaveTokens
faults_have_tokens firsts lasts names found sources texts read f there =
    let S = StandsIn sources texts in
    let all = given sources texts in
    let s = names_of sources in
    let known = names_sound firsts lasts S names sources texts read all in
    elim (Contains-append_cases s.faults (body_faults s ++ judged sources s) f there) [
      | inl named ↦ fault_there (AtWord S) s.faults f known.faults named
      | inr more ↦ elim (Contains-append_cases (body_faults s) (judged sources s) f more) [
        | inl body ↦ fault_there (AtWord S) (body_faults s) f (bodies_at (AtWord S) s s.bodies known.bodies) body
        | inr value ↦ judged_there firsts lasts S found s sources texts read all f value
      ]
    ]
